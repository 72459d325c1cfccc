use Rattle.std.proofs.Common.{rules, ◌≡◌, ◌<◌, ◌≤◌, IfOk, ℕ, ◌+◌, length, Bool, true, false, List, [], ◌∷◌, ◌++◌, sym, ap, ◌∙◌, subst, arith, refl}
use Rattle.so_scene.specs.Checked.{IsScene}
use Rattle.so_ring.proofs.SceneLaws.{ring_is_scene}
use Rattle.so_ring.proofs.parts.ring.Goals as goal

-- src/parts.rt:23:5
pub new-requires : goal.new-requires
new-requires c = subst IsScene (sym c.in_ok-parts.ensures) (ring_is_scene c.args.count c.requires.some c.requires.few)
