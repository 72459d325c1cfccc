use Rattle.std.proofs.Common.{◌≡◌, ◌≤◌, ℕ, List, [], length, false, Option, Result, Ok, sym, ap, ◌∙◌, subst, arith, codes}
use Rattle.serde_json.specs.Data.{Data, Items}
use Rattle.serde_json.specs.Events.{items_len}
use Rattle.serde_json.specs.Find.{get}
use Rattle.serde_json.specs.View.{view}
use Rattle.so_fault.specs.declared.fault.SceneFault.{SceneFault}
use Rattle.so_fault.specs.declared.fault.SceneRefusal.{SceneRefusal}
use Rattle.so_scene_build.specs.declared.build.Build.{Build}
use Rattle.so_scene_passes.specs.declared.scope.Scope.{Scope}
use Rattle.so_scene_build.specs.declared.code_builder.CodeBuilder.{CodeBuilder}
use Rattle.so_state.specs.declared.states.State.{State}
use Rattle.so_scene_fields.specs.Visits.{Place, Leaves, list_of, listed, ◌>>=◌}
use Rattle.so_scene_passes.specs.Scope.{scope_of, state_items}
use Rattle.so_scene_build.specs.Defs.{state_of, states_of}
use Rattle.so_scene_build.specs.Build.{agent_written, written, tree_of, is_long, with_code, with_tree}
use Rattle.so_scene_build.proofs.Codes.{is_short}
use Rattle.so_scene_fields.proofs.Ends.{length_map, length_listed}
use Rattle.so_scene_build.proofs.build.Build.with_tree.Goals as goal

begun : List (List ℕ) → Scope → CodeBuilder
begun texts scope = record { texts = texts; code = []; scope = scope }

few_states : (d : Data) (scope : Scope) (ds : Items) (found : Option Data) (states : List State) → is_long d ≡ false → ds ≡ list_of found → found ≡ get (codes "states") d → states_of scope ds ≡ states → length states ≤ 63
few_states d scope ds found states short e f g =
    omega (arith, ap length g, length_map (state_of scope) (listed ds), length_listed ds, ap items_len (e ∙ ap list_of f), (is_short d short).states)

same_agent : (place : Place) (s : Build) (d : Data) (scope : Scope) (ds : Items) (found : Option Data) (states tree : List State) → scope_of d ≡ scope → ds ≡ list_of found → found ≡ get (codes "states") d → states_of scope ds ≡ states → tree_of place states ≡ Ok tree
    → with_tree place s d ≡ with_code place s d tree (agent_written s.names (record { texts = s.texts; code = []; scope = scope }) d)
unfolding begun
same_agent place s d scope ds found states tree a e f g h =
    ap (λ r. r >>= λ t. with_code place s d t (written s d))
    (ap (λ x. tree_of place (states_of x (state_items d))) a ∙ (ap (λ x. tree_of place (states_of scope x)) (sym (e ∙ ap list_of f)) ∙ (ap (tree_of place) g ∙ h)))
    ∙ ap (λ x. with_code place s d tree (agent_written s.names (begun s.texts x) d)) a

leaves_as : (a b : Result Build SceneFault) (r : Result (Unit {0}) SceneRefusal) (n : Build) → a ≡ b → Leaves b r n → Leaves a r n
leaves_as a b r n e h = subst (λ q. Leaves q r n) (sym e) h

pub tree_of-requires-clause-few : goal.tree_of-requires-clause-few
tree_of-requires-clause-few c = few_states (view c.args.value.now) c.in_ok-scope.scope _ _ _ c.requires.few c.list.ensures c.get.ensures c.in_ok-states.ensures

pub returns : goal.returns
returns c =
    leaves_as _ _ c.with_code.result c.with_code.new.self
    (same_agent c.args.place.now c.args.self.now (view c.args.value.now) _ _ _ _ _ c.in_ok-scope.ensures c.list.ensures c.get.ensures c.in_ok-states.ensures c.in_ok-tree.ensures)
    c.with_code.ensures
