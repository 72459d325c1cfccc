use Rattle.std.proofs.Common.{◌≡◌, ◌<◌, ◌≤◌, ◌-◌, Bool, true, false, arith, sym, refl}
use Rattle.std.specs.Prelude.{nat_lt}
use Rattle.std.proofs.Math.Dec.{leb}
use Rattle.so_ids.specs.declared.AgentId.{AgentId}
use Rattle.so_scene.specs.Parts.{agents_from}
use Rattle.so_mbox.specs.Table.{is_none_of}
use Rattle.so_mbox.proofs.RangeLaws.{is_none, is_one}
use Rattle.so_mbox.proofs.boards.is_none_of.Goals as goal

below : (a first : AgentId) → a.0 < first.0 → nat_lt a.0 first.0 ≡ true
below a first l = grind arith

pub returns-then-agent-first : goal.returns-then-agent-first
returns-then-agent-first c = rw (is_none c.args.agent c.args.first c.args.count (λ l. absurd (omega (arith, l, c.if-agent-first.true)))) (below c.args.agent c.args.first c.if-agent-first.true)

past : (a first n : _) (b : Bool) → leb n (a - first) ≡ b → b ≡ true → n ≤ a - first
past a first n b e t = grind arith

within : (a first n : _) (b : Bool) → leb n (a - first) ≡ b → b ≡ false → a - first < n
within a first n b e t = grind arith

by_test : (a first : AgentId) (n : _) (b : Bool) → leb n (a.0 - first.0) ≡ b → first.0 ≤ a.0 → b ≡ is_none_of (agents_from first n) a
by_test a first n true e l = sym (is_none a first n (λ m. past a.0 first.0 n true e refl))
by_test a first n false e l = sym (is_one a first n l (within a.0 first.0 n false e refl))

pub returns-else-agent-first : goal.returns-else-agent-first
returns-else-agent-first c = by_test c.args.agent c.args.first c.args.count _ refl c.if-agent-first.false
