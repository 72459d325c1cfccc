use Rattle.std.proofs.Common.{◌≡◌, List, ℕ, Option, Some, Result, sym, subst}
use Rattle.serde_json.specs.Data.{Data}
use Rattle.so_fault.specs.declared.fault.SceneRefusal.{SceneRefusal}
use Rattle.so_scene_passes.specs.declared.declare.Declared.{Declared}
use Rattle.so_scene_fields.specs.declared.table.Space.{Space}
use Rattle.so_scene_passes.specs.Twice.{name_for, declared_name, declared}
use Rattle.so_scene_fields.specs.Visits.{Place, Leaves}
use Rattle.so_scene_passes.proofs.declare.Declared.object.Goals as goal

with_space : (place : Place) (o : Option Space) (space : Space) (name : Option (List ℕ)) (d : Data) (s : Declared) (r : Result (Unit {0}) SceneRefusal) (n : Declared) → o ≡ Some space → name ≡ name_for space d → Leaves (declared_name place space name s) r n → Leaves (declared place o d s) r n
with_space place o space name d s r n e f h = subst (λ q. Leaves (declared place q d s) r n) (sym e) (subst (λ q. Leaves (declared_name place space q s) r n) f h)

pub returns-in-Some : goal.returns-in-Some
returns-in-Some c = with_space _ _ c.in-Some.space _ _ _ c.declare_given.result c.declare_given.new.self c.in-Some.is c.name_for.ensures c.declare_given.ensures
