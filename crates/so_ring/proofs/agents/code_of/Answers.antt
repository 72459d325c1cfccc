use Rattle.std.proofs.Common.{rules, ◌≡◌, ◌<◌, ◌≤◌, IfOk, ℕ, ◌+◌, length, Bool, true, false, List, [], ◌∷◌, ◌++◌, sym, ap, ◌∙◌, subst, arith, refl}
use Rattle.so_code.specs.Shape.{IsCode}
use Rattle.so_ring.proofs.RingLaws.{is_code}
use Rattle.so_ring.proofs.agents.code_of.Goals as goal

-- src/agents.rt:113:8
pub new-requires : goal.new-requires
new-requires c = rw (c.in_ok-extend_from_slice.ensures.items, c.in_ok-instrs.ensures, c.rest_of.ensures, c.after.ensures) (is_code c.args.count c.args.k)
