-- How deep the data of a scene is.
use Rattle.std.proofs.Common.{◌≡◌, ℕ, ◌≤◌, suc, max, List, [], ◌∷◌, codes, map, take, Bool, true, false, Option, Some, None, option_map, refl, arith, if◌then◌else◌}
use Rattle.serde_json.specs.Data.{Data, array, object, string, boolean, Members, no_members, member, depth, items_depth, members_depth}
use Rattle.serde_json.specs.View.{items_of}
use Rattle.so_code.specs.declared.instr.Args.{Args}
use Rattle.so_code.specs.declared.instr.Dest.{Dest}
use Rattle.so_code.specs.declared.instr.Dest.TheVariants as dest
use Rattle.so_code.specs.declared.instr.Instr.{Instr}
use Rattle.so_code.specs.declared.instr.Instr.TheVariants as instr
use Rattle.so_code.specs.declared.instr.Operand.{Operand}
use Rattle.so_code.specs.declared.instr.Operand.TheVariants as operand
use Rattle.so_ids.specs.declared.StateId.{StateId}
use Rattle.so_state.specs.declared.choice.RowKind.{RowKind}
use Rattle.so_state.specs.declared.choice.RowKind.TheVariants.{Run, Switch, Transfer, Suppress, Dead}
use Rattle.so_scene.specs.declared.parts.AgentDef.{AgentDef}
use Rattle.so_scene.specs.declared.parts.CoopDef.{CoopDef}
use Rattle.so_scene.specs.declared.parts.DispDef.{DispDef}
use Rattle.so_scene.specs.declared.parts.FilterDef.{FilterDef}
use Rattle.so_scene.specs.declared.parts.MessageDef.{MessageDef}
use Rattle.so_scene.specs.declared.parts.SceneParts.{SceneParts}
use Rattle.so_scene.specs.Checked.{is_pool, has_quotes}
use Rattle.so_scene.specs.Parts.{mbox_name}
use Rattle.so_scene_data.specs.Sources.{StateSource, RowSource, states_of, rows_of, start_acts, finish_acts}
use Rattle.so_scene_data.specs.ActData.{text_data, count_data, coop_text, group_text, message_text, state_text, operand_data, dest_data, args_data, act_data, acts_data}
use Rattle.so_scene_data.specs.Canonical.{agents_of, declared, disp_data, disp_kind_word, fifo_word, of_pool, of_quoted, given, list_data, number_data, message_data, state_data, filter_data, row_data, agent_data, coop_data, scene_data, dead_data, do_data, row_state_data, suppress_data, switch_data, transfer_data}

both_under : (a b n : ℕ) → a ≤ n → b ≤ n → max a b ≤ n
both_under a b n h l = omega arith

list_under : {X : Type 0} (n : ℕ) (shown : X → Data) (xs : List X) → ((x : X) → depth (shown x) ≤ n) → items_depth (items_of (map shown xs)) ≤ n
list_under n shown [] f = omega arith
list_under n shown (x ∷ xs) f = both_under _ _ n (f x) (list_under n shown xs f)

array_under : {X : Type 0} (n : ℕ) (shown : X → Data) (xs : List X) → ((x : X) → depth (shown x) ≤ n) → depth (array (items_of (map shown xs))) ≤ suc n
array_under n shown xs f = let h : items_depth (items_of (map shown xs)) ≤ n = list_under n shown xs f in omega arith

-- a field of an object
under : (n : ℕ) (key : List ℕ) (d : Data) (ms : Members) → depth d ≤ n → members_depth ms ≤ n → members_depth (member key d ms) ≤ n
under n key d ms h l = both_under _ _ n h l

abbrev OptionUnder : ℕ → Option Data → Type 0
OptionUnder n None = Unit {0}
OptionUnder n (Some d) = depth d ≤ n

given_under : (n : ℕ) (key : List ℕ) (o : Option Data) (ms : Members) → OptionUnder n o → members_depth ms ≤ n → members_depth (given key o ms) ≤ n
given_under n key None ms h l = l
given_under n key (Some d) ms h l = both_under _ _ n h l

object_under : (n : ℕ) (ms : Members) → members_depth ms ≤ n → depth (object ms) ≤ suc n
object_under n ms h = omega arith

map_under : {X : Type 0} (n : ℕ) (f : X → List ℕ) (o : Option X) → OptionUnder n (option_map (λ x. text_data (f x)) o)
map_under n f None = tt
map_under n f (Some x) = omega arith

operand_flat : (a : Operand) → depth (operand_data a) ≤ 0
operand_flat (operand.Num z) = omega arith
operand_flat (operand.Var k) = omega arith
operand_flat (operand.Msg k) = omega arith
operand_flat (operand.Temp k) = omega arith
operand_flat operand.Ans = omega arith

operand_none : (a : Operand) → depth (operand_data a) ≡ 0
operand_none (operand.Num z) = refl
operand_none (operand.Var k) = refl
operand_none (operand.Msg k) = refl
operand_none (operand.Temp k) = refl
operand_none operand.Ans = refl

dest_none : (a : Dest) → depth (dest_data a) ≡ 0
dest_none (dest.Var k) = refl
dest_none (dest.Temp k) = refl

args_flat : (args : Args) → items_depth (args_data args) ≤ 0
args_flat args = list_under 0 operand_data (take args.used args.list) operand_flat

act_under : (s : SceneParts) (a : AgentDef) (i : Instr) → depth (act_data s a i) ≤ 1
act_under s a (instr.Set to x) = rw (dest_none to, operand_none x) (omega arith)
act_under s a (instr.Add to x y) = rw (dest_none to, operand_none x, operand_none y) (omega arith)
act_under s a (instr.Sub to x y) = rw (dest_none to, operand_none x, operand_none y) (omega arith)
act_under s a (instr.Mul to x y) = rw (dest_none to, operand_none x, operand_none y) (omega arith)
act_under s a (instr.If x c y n) = rw (operand_none x, operand_none y) (omega arith)
act_under s a (instr.Throw x) = rw (operand_none x) (omega arith)
act_under s a (instr.Log text args) = let h : items_depth (args_data args) ≤ 0 = args_flat args in omega arith
act_under s a (instr.Send target msg args) = let h : items_depth (args_data args) ≤ 0 = args_flat args in omega arith
act_under s a other = omega arith

acts_under : (s : SceneParts) (a : AgentDef) (acts : List Instr) → depth (acts_data s a acts) ≤ 2
acts_under s a acts = array_under 1 (act_data s a) acts (act_under s a)

two_under : (s : SceneParts) (a : AgentDef) (acts : List Instr) (n : ℕ) → 2 ≤ n → depth (acts_data s a acts) ≤ n
two_under s a acts n h = let l : depth (acts_data s a acts) ≤ 2 = acts_under s a acts in omega arith

state_under : (s : SceneParts) (a : AgentDef) (x : StateSource) → depth (state_data s a x) ≤ 3
state_under s a x =
    let o : Option Data = option_map (λ p. text_data (state_text a p)) x.state.parent in
    let p : members_depth (given (codes "parent") o no_members) ≤ 2 = given_under 2 (codes "parent") o no_members (map_under 2 (state_text a) x.state.parent) (omega arith) in
    let e : depth (acts_data s a x.enter) ≤ 2 = acts_under s a x.enter in
    let f : depth (acts_data s a x.exit) ≤ 2 = acts_under s a x.exit in
    omega arith

filter_under : (s : SceneParts) (f : FilterDef) → depth (filter_data s f) ≤ 3
filter_under s f =
    let ms : Members = member (codes "mbox") (text_data (mbox_name s f.mbox)) (member (codes "msg") (text_data (message_text s f.msg)) (member (codes "value") (number_data f.value) no_members)) in
    let p : members_depth (given (codes "id") (option_map text_data f.id) ms) ≤ 2 = given_under 2 (codes "id") (option_map text_data f.id) ms (map_under 2 (λ x. x) f.id) (omega arith) in
    omega arith

dead_under : (kind : RowKind) → OptionUnder 2 (dead_data kind)
dead_under Dead = omega arith
dead_under other = tt

do_under : (s : SceneParts) (a : AgentDef) (acts : List Instr) (kind : RowKind) → OptionUnder 2 (do_data s a acts kind)
do_under s a acts Run = acts_under s a acts
do_under s a acts Dead = acts_under s a acts
do_under s a acts other = tt

row_state_under : (a : AgentDef) (state : StateId) (kind : RowKind) → OptionUnder 2 (row_state_data a state kind)
row_state_under a state Dead = tt
row_state_under a state other = omega arith

suppress_under : (kind : RowKind) → OptionUnder 2 (suppress_data kind)
suppress_under Suppress = omega arith
suppress_under other = tt

switch_under : (a : AgentDef) (kind : RowKind) → OptionUnder 2 (switch_data a kind)
switch_under a (Switch to) = omega arith
switch_under a other = tt

transfer_under : (a : AgentDef) (kind : RowKind) → OptionUnder 2 (transfer_data a kind)
transfer_under a (Transfer to) = omega arith
transfer_under a other = tt

row_under : (s : SceneParts) (a : AgentDef) (x : RowSource) → depth (row_data s a x) ≤ 3
row_under s a x =
    let m7 : Members = given (codes "transfer") (transfer_data a x.row.kind) no_members in
    let m6 : Members = given (codes "switch") (switch_data a x.row.kind) m7 in
    let m5 : Members = given (codes "suppress") (suppress_data x.row.kind) m6 in
    let m4 : Members = given (codes "state") (row_state_data a x.row.state x.row.kind) m5 in
    let m3 : Members = member (codes "mbox") (text_data (mbox_name s x.row.mbox)) (member (codes "msg") (text_data (message_text s x.row.msg)) (member (codes "safe") (boolean x.row.safe) m4)) in
    let m2 : Members = given (codes "id") (option_map text_data x.id) m3 in
    let m1 : Members = given (codes "do") (do_data s a x.acts x.row.kind) m2 in
    let m0 : Members = given (codes "dead") (dead_data x.row.kind) m1 in
    let h7 : members_depth m7 ≤ 2 = given_under 2 (codes "transfer") (transfer_data a x.row.kind) no_members (transfer_under a x.row.kind) (omega arith) in
    let h6 : members_depth m6 ≤ 2 = given_under 2 (codes "switch") (switch_data a x.row.kind) m7 (switch_under a x.row.kind) h7 in
    let h5 : members_depth m5 ≤ 2 = given_under 2 (codes "suppress") (suppress_data x.row.kind) m6 (suppress_under x.row.kind) h6 in
    let h4 : members_depth m4 ≤ 2 = given_under 2 (codes "state") (row_state_data a x.row.state x.row.kind) m5 (row_state_under a x.row.state x.row.kind) h5 in
    let h3 : members_depth m3 ≤ 2 = omega arith in
    let h2 : members_depth m2 ≤ 2 = given_under 2 (codes "id") (option_map text_data x.id) m3 (map_under 2 (λ y. y) x.id) h3 in
    let h1 : members_depth m1 ≤ 2 = given_under 2 (codes "do") (do_data s a x.acts x.row.kind) m2 (do_under s a x.acts x.row.kind) h2 in
    let h0 : members_depth m0 ≤ 2 = given_under 2 (codes "dead") (dead_data x.row.kind) m1 (dead_under x.row.kind) h1 in
    omega arith

agent_under : (s : SceneParts) (a : AgentDef) → depth (agent_data s a) ≤ 5
agent_under s a =
    let m : Members = member (codes "name") (text_data a.name) (member (codes "on") (list_data (row_data s a) (rows_of a)) (member (codes "priority") (count_data a.priority.level) (member (codes "start") (acts_data s a (start_acts a)) (member (codes "states") (list_data (state_data s a) (states_of a)) (member (codes "vars") (list_data number_data a.vars.0) no_members))))) in
    let g : Members = given (codes "group") (option_map text_data (group_text s a)) m in
    let p : depth (list_data (filter_data s) a.filters) ≤ 4 = array_under 3 (filter_data s) a.filters (filter_under s) in
    let q : depth (list_data (row_data s a) (rows_of a)) ≤ 4 = array_under 3 (row_data s a) (rows_of a) (row_under s a) in
    let r : depth (list_data (state_data s a) (states_of a)) ≤ 4 = array_under 3 (state_data s a) (states_of a) (state_under s a) in
    let v : depth (list_data number_data a.vars.0) ≤ 1 = array_under 0 number_data a.vars.0 (λ z. omega arith) in
    let e : depth (acts_data s a (start_acts a)) ≤ 2 = acts_under s a (start_acts a) in
    let f : depth (acts_data s a (finish_acts a)) ≤ 2 = acts_under s a (finish_acts a) in
    let i : members_depth m ≤ 4 = omega arith in
    let j : members_depth g ≤ 4 = given_under 4 (codes "group") (option_map text_data (group_text s a)) m (map_under 4 (λ x. x) (group_text s a)) i in
    omega arith

coop_under : (s : SceneParts) (c : CoopDef) → depth (coop_data s c) ≤ 7
coop_under s c =
    let o : Option Data = option_map (λ p. text_data (coop_text s p)) c.parent in
    let p : depth (list_data (agent_data s) (agents_of s c)) ≤ 6 = array_under 5 (agent_data s) (agents_of s c) (agent_under s) in
    let q : members_depth (given (codes "parent") o no_members) ≤ 6 = given_under 6 (codes "parent") o no_members (map_under 6 (coop_text s) c.parent) (omega arith) in
    omega arith

message_under : (m : MessageDef) → depth (message_data m) ≤ 1
message_under m = omega arith

kept_under : (kept : Bool) (d : Data) → depth d ≤ 1 → OptionUnder 1 (if kept then Some d else None)
kept_under true d h = h
kept_under false d h = tt

disp_under : (d : DispDef) → depth (disp_data d) ≤ 2
disp_under d =
    let o : Option Data = of_pool d.kind (count_data d.threads) in
    let behind : Members = given (codes "threads") o no_members in
    let p : members_depth behind ≤ 1 = given_under 1 (codes "threads") o no_members (kept_under (is_pool d.kind) (count_data d.threads) (omega arith)) (omega arith) in
    let quotes : Data = list_data count_data d.quotes in
    let u : Option Data = of_quoted d.kind quotes in
    let slots : Members = member (codes "slots") (count_data d.slots) behind in
    let w : members_depth slots ≤ 1 = omega arith in
    let v : members_depth (given (codes "quotes") u slots) ≤ 1 = given_under 1 (codes "quotes") u slots (kept_under (has_quotes d.kind) quotes (array_under 0 count_data d.quotes (λ n. omega arith))) w in
    let ms : Members = member (codes "kind") (string (disp_kind_word d.kind)) (member (codes "name") (text_data d.name) (given (codes "quotes") u slots)) in
    let f : Option Data = of_pool d.kind (string (fifo_word d.fifo)) in
    let q : members_depth ms ≤ 1 = omega arith in
    let r : members_depth (given (codes "fifo") f ms) ≤ 1 = given_under 1 (codes "fifo") f ms (kept_under (is_pool d.kind) (string (fifo_word d.fifo)) (omega arith)) q in
    omega arith

pub scene_under : (s : SceneParts) → depth (scene_data s) ≤ 9
scene_under s =
    let p : depth (list_data (coop_data s) s.coops) ≤ 8 = array_under 7 (coop_data s) s.coops (coop_under s) in
    let q : depth (list_data text_data s.mboxes) ≤ 1 = array_under 0 text_data s.mboxes (λ m. omega arith) in
    let r : depth (list_data message_data s.messages) ≤ 2 = array_under 1 message_data s.messages message_under in
    let d : depth (list_data disp_data (declared s)) ≤ 3 = array_under 2 disp_data (declared s) disp_under in
    omega arith
