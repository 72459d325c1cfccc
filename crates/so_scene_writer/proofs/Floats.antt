-- No number of a scene's data is a float.
use Rattle.std.proofs.Common.{◌≡◌, ℕ, ℤ, pos, negsuc, List, [], ◌∷◌, codes, map, take, Bool, true, false, Option, Some, None, option_map, refl, ◌∙◌, if◌then◌else◌}
use Rattle.serde_json.specs.Data.{Data, Members, no_members}
use Rattle.serde_json.specs.View.{items_of}
use Rattle.serde_json.specs.Written.{has_float, items_have_float, members_have_float}
use Rattle.so_ids.specs.declared.StateId.{StateId}
use Rattle.so_code.specs.declared.instr.Args.{Args}
use Rattle.so_code.specs.declared.instr.Dest.{Dest}
use Rattle.so_code.specs.declared.instr.Dest.TheVariants as dest
use Rattle.so_code.specs.declared.instr.Instr.{Instr}
use Rattle.so_code.specs.declared.instr.Instr.TheVariants as instr
use Rattle.so_code.specs.declared.instr.Operand.{Operand}
use Rattle.so_code.specs.declared.instr.Operand.TheVariants as operand
use Rattle.so_state.specs.declared.choice.RowKind.{RowKind}
use Rattle.so_state.specs.declared.choice.RowKind.TheVariants.{Run, Switch, Transfer, Suppress, Dead}
use Rattle.so_scene.specs.declared.parts.AgentDef.{AgentDef}
use Rattle.so_scene.specs.declared.parts.CoopDef.{CoopDef}
use Rattle.so_scene.specs.declared.parts.DispDef.{DispDef}
use Rattle.so_scene.specs.declared.parts.FilterDef.{FilterDef}
use Rattle.so_scene.specs.declared.parts.MessageDef.{MessageDef}
use Rattle.so_scene.specs.declared.parts.SceneParts.{SceneParts}
use Rattle.so_scene.specs.Checked.{is_pool, has_quotes}
use Rattle.so_scene_data.specs.Sources.{StateSource, RowSource, states_of, rows_of, start_acts, finish_acts}
use Rattle.so_scene_data.specs.ActData.{text_data, count_data, coop_text, state_text, group_text, operand_data, dest_data, args_data, act_data, acts_data}
use Rattle.so_scene_data.specs.Canonical.{agents_of, given, number_data, message_data, declared, disp_data, state_data, filter_data, row_data, agent_data, coop_data, scene_data, dead_data, do_data, row_state_data, suppress_data, switch_data, transfer_data}

list_exact : {X : Type 0} (shown : X → Data) (xs : List X) → ((x : X) → has_float (shown x) ≡ false) → items_have_float (items_of (map shown xs)) ≡ false
list_exact shown [] f = refl
list_exact shown (x ∷ xs) f = rw (f x, list_exact shown xs f) refl

-- a field that may be absent
abbrev IsExact : Option Data → Type 0
IsExact None = Unit {0}
IsExact (Some d) = has_float d ≡ false

given_exact : (key : List ℕ) (o : Option Data) (ms : Members) → IsExact o → members_have_float (given key o ms) ≡ members_have_float ms
given_exact key None ms h = refl
given_exact key (Some d) ms h = rw h refl

map_exact : {X : Type 0} (f : X → List ℕ) (o : Option X) → IsExact (option_map (λ x. text_data (f x)) o)
map_exact f None = tt
map_exact f (Some x) = refl

number_exact : (z : ℤ) → has_float (number_data z) ≡ false
number_exact (pos n) = refl
number_exact (negsuc n) = refl

operand_exact : (a : Operand) → has_float (operand_data a) ≡ false
operand_exact (operand.Num z) = number_exact z
operand_exact (operand.Var k) = refl
operand_exact (operand.Msg k) = refl
operand_exact (operand.Temp k) = refl
operand_exact operand.Ans = refl

dest_exact : (a : Dest) → has_float (dest_data a) ≡ false
dest_exact (dest.Var k) = refl
dest_exact (dest.Temp k) = refl

args_exact : (args : Args) → items_have_float (args_data args) ≡ false
args_exact args = list_exact operand_data (take args.used args.list) operand_exact

act_exact : (s : SceneParts) (a : AgentDef) (i : Instr) → has_float (act_data s a i) ≡ false
act_exact s a (instr.Set to x) = rw (dest_exact to, operand_exact x) refl
act_exact s a (instr.Add to x y) = rw (dest_exact to, operand_exact x, operand_exact y) refl
act_exact s a (instr.Sub to x y) = rw (dest_exact to, operand_exact x, operand_exact y) refl
act_exact s a (instr.Mul to x y) = rw (dest_exact to, operand_exact x, operand_exact y) refl
act_exact s a (instr.If x c y n) = rw (operand_exact x, operand_exact y) refl
act_exact s a (instr.Throw x) = rw (operand_exact x) refl
act_exact s a (instr.Log text args) = args_exact args
act_exact s a (instr.Send target msg args) = args_exact args
act_exact s a other = refl

acts_exact : (s : SceneParts) (a : AgentDef) (acts : List Instr) → has_float (acts_data s a acts) ≡ false
acts_exact s a acts = list_exact (act_data s a) acts (act_exact s a)

state_exact : (s : SceneParts) (a : AgentDef) (x : StateSource) → has_float (state_data s a x) ≡ false
state_exact s a x = rw (acts_exact s a x.enter, acts_exact s a x.exit, given_exact (codes "parent") (option_map (λ p. text_data (state_text a p)) x.state.parent) no_members (map_exact (state_text a) x.state.parent)) refl

filter_exact : (s : SceneParts) (f : FilterDef) → has_float (filter_data s f) ≡ false
filter_exact s f = given_exact (codes "id") (option_map text_data f.id) _ (map_exact (λ x. x) f.id) ∙ rw (number_exact f.value) refl

dead_exact : (kind : RowKind) → IsExact (dead_data kind)
dead_exact Dead = refl
dead_exact other = tt

do_exact : (s : SceneParts) (a : AgentDef) (acts : List Instr) (kind : RowKind) → IsExact (do_data s a acts kind)
do_exact s a acts Run = acts_exact s a acts
do_exact s a acts Dead = acts_exact s a acts
do_exact s a acts other = tt

row_state_exact : (a : AgentDef) (state : StateId) (kind : RowKind) → IsExact (row_state_data a state kind)
row_state_exact a state Dead = tt
row_state_exact a state other = refl

suppress_exact : (kind : RowKind) → IsExact (suppress_data kind)
suppress_exact Suppress = refl
suppress_exact other = tt

switch_exact : (a : AgentDef) (kind : RowKind) → IsExact (switch_data a kind)
switch_exact a (Switch to) = refl
switch_exact a other = tt

transfer_exact : (a : AgentDef) (kind : RowKind) → IsExact (transfer_data a kind)
transfer_exact a (Transfer to) = refl
transfer_exact a other = tt

row_exact : (s : SceneParts) (a : AgentDef) (x : RowSource) → has_float (row_data s a x) ≡ false
row_exact s a x =
    given_exact (codes "dead") (dead_data x.row.kind) _ (dead_exact x.row.kind)
    ∙ (given_exact (codes "do") (do_data s a x.acts x.row.kind) _ (do_exact s a x.acts x.row.kind)
    ∙ (given_exact (codes "id") (option_map text_data x.id) _ (map_exact (λ y. y) x.id)
    ∙ (given_exact (codes "state") (row_state_data a x.row.state x.row.kind) _ (row_state_exact a x.row.state x.row.kind)
    ∙ (given_exact (codes "suppress") (suppress_data x.row.kind) _ (suppress_exact x.row.kind)
    ∙ (given_exact (codes "switch") (switch_data a x.row.kind) _ (switch_exact a x.row.kind)
    ∙ given_exact (codes "transfer") (transfer_data a x.row.kind) no_members (transfer_exact a x.row.kind))))))

agent_exact : (s : SceneParts) (a : AgentDef) → has_float (agent_data s a) ≡ false
agent_exact s a =
    rw (
      list_exact (filter_data s) a.filters (filter_exact s),
      acts_exact s a (finish_acts a),
      given_exact (codes "group") (option_map text_data (group_text s a)) _ (map_exact (λ x. x) (group_text s a)),
      list_exact (row_data s a) (rows_of a) (row_exact s a),
      acts_exact s a (start_acts a),
      list_exact (state_data s a) (states_of a) (state_exact s a),
      list_exact number_data a.vars.0 number_exact,
    ) refl

coop_exact : (s : SceneParts) (c : CoopDef) → has_float (coop_data s c) ≡ false
coop_exact s c = rw (list_exact (agent_data s) (agents_of s c) (agent_exact s), given_exact (codes "parent") (option_map (λ p. text_data (coop_text s p)) c.parent) no_members (map_exact (coop_text s) c.parent)) refl

kept_exact : (kept : Bool) (d : Data) → has_float d ≡ false → IsExact (if kept then Some d else None)
kept_exact true d h = h
kept_exact false d h = tt

disp_exact : (d : DispDef) → has_float (disp_data d) ≡ false
disp_exact d =
    given_exact (codes "fifo") _ _ (kept_exact (is_pool d.kind) _ refl)
    ∙ (given_exact (codes "quotes") _ _ (kept_exact (has_quotes d.kind) _ (list_exact count_data d.quotes (λ n. refl)))
    ∙ given_exact (codes "threads") _ no_members (kept_exact (is_pool d.kind) _ refl))

message_exact : (m : MessageDef) → has_float (message_data m) ≡ false
message_exact m = refl

pub scene_exact : (s : SceneParts) → has_float (scene_data s) ≡ false
scene_exact s =
    rw (list_exact (coop_data s) s.coops (coop_exact s), list_exact disp_data (declared s) disp_exact, list_exact text_data s.mboxes (λ m. refl), list_exact message_data s.messages message_exact) refl
