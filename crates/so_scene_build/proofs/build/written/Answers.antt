use Rattle.std.proofs.Common.{◌≡◌, List, ℕ, [], Result, Ok, refl, sym, ap, ◌∙◌}
use Rattle.serde_json.specs.Data.{Data}
use Rattle.serde_json.specs.View.{view}
use Rattle.so_code.specs.declared.instr.Instr.{Instr}
use Rattle.so_fault.specs.declared.fault.SceneFault.{SceneFault}
use Rattle.so_scene_passes.specs.declared.declare.Declared.{Declared}
use Rattle.so_scene_passes.specs.declared.scope.Scope.{Scope}
use Rattle.so_scene_build.specs.declared.code_builder.CodeBuilder.{CodeBuilder}
use Rattle.so_scene_build.specs.Build.{agent_written}
use Rattle.so_scene_build.proofs.Codes.{code_of_writer}
use Rattle.so_scene_build.proofs.build.written.Goals as goal

abbrev ok : CodeBuilder → Result CodeBuilder SceneFault
ok w = Ok w

was : (a b : CodeBuilder) → ok a ≡ Ok b → a ≡ b
was a b e = cc

begun : List (List ℕ) → List Instr → Scope → CodeBuilder
begun texts code scope = record { texts = texts; code = code; scope = scope }

is_written : (names : Declared) (texts : List (List ℕ)) (code : List Instr) (scope : Scope) (d : Data) (v : CodeBuilder) → code ≡ [] → ok (agent_written names (record { texts = texts; code = code; scope = scope }) d) ≡ Ok v → agent_written names (record { texts = texts; code = []; scope = scope }) d ≡ v
unfolding begun
is_written names texts code scope d v e h = ap (λ c. agent_written names (begun texts c scope) d) (sym e) ∙ was _ v h

pub returns : goal.returns
returns c =
    let made = is_written _ _ _ _ (view c.args.value.now) _ c.new.ensures c.in_ok-agent.ensures in
    record { value = made; code = λ few. code_of_writer _ _ _ (view c.args.value.now) _ c.requires made refl refl few }
