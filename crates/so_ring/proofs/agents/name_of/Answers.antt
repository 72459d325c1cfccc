use Rattle.std.proofs.Common.{rules, ◌≡◌, ◌<◌, ◌≤◌, IfOk, ℕ, ◌+◌, length, Bool, true, false, List, [], ◌∷◌, ◌++◌, sym, ap, ◌∙◌, subst, arith, refl}
use Rattle.so_ring.proofs.RingLaws.{is_named}
use Rattle.so_ring.proofs.agents.name_of.Goals as goal

-- src/agents.rt:66:8
pub named-requires : goal.named-requires
named-requires c = rw (c.as_str.ensures.value, c.in_ok-text.ensures.ok) (is_named c.args.k c.requires)
