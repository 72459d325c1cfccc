-- Objects whose optional fields come one after the other.
use Rattle.std.proofs.Common.{◌≡◌, ℕ, List, codes, Bool, true, false, Option, Some, None, option_map, Result, Ok, Err, refl, sym, ap, ◌∙◌, if◌then◌else◌}
use Rattle.std.specs.Prelude.{IfOk}
use Rattle.serde_json.specs.Data.{Data, member, no_members, object, boolean, string}
use Rattle.so_ids.specs.declared.MboxId.{MboxId}
use Rattle.so_ids.specs.declared.MsgId.{MsgId}
use Rattle.so_ids.specs.declared.StateId.{StateId}
use Rattle.so_code.specs.declared.instr.Instr.{Instr}
use Rattle.so_state.specs.declared.choice.RowKind.{RowKind}
use Rattle.so_state.specs.declared.choice.RowKind.TheVariants.{Run, Switch, Transfer, Suppress, Dead}
use Rattle.so_state.specs.declared.states.State.{State}
use Rattle.so_scene.specs.declared.parts.AgentDef.{AgentDef}
use Rattle.so_scene.specs.declared.parts.CoopDef.{CoopDef}
use Rattle.so_scene.specs.declared.parts.DispDef.{DispDef}
use Rattle.so_scene.specs.declared.parts.DispKind.{DispKind}
use Rattle.so_scene.specs.declared.parts.FilterDef.{FilterDef}
use Rattle.so_scene.specs.declared.parts.SceneParts.{SceneParts}
use Rattle.so_scene.specs.Checked.{is_pool, has_quotes}
use Rattle.so_scene.specs.Parts.{mbox_name}
use Rattle.so_scene_data.specs.Sources.{acts_in, behind, RowSource, state_source}
use Rattle.so_scene_data.specs.ActData.{text_data, count_data, coop_text, disp_text, group_text, state_text, message_text, acts_data}
use Rattle.so_scene_data.specs.Canonical.{agents_of, agent_data, coop_data, disp_data, disp_kind_word, fifo_word, given, list_data, of_pool, of_quoted, state_data, filter_data, row_data, dead_data, do_data, row_state_data, suppress_data, switch_data, transfer_data}
use Rattle.so_scene_data.specs.Fields.{with_field, agent_base, coop_base, disp_base, state_base, filter_base, row_base}
use Rattle.so_scene_data.proofs.Found.{agent_plain}

pub if_ok : {A E : Type 0} (P Q : A → Type 0) (r : Result A E) → IfOk r P → ((x : A) → P x → Q x) → IfOk r Q
if_ok P Q (Ok x) h f = f x h
if_ok P Q (Err e) h f = h

state_at : (s : SceneParts) (a : AgentDef) (name : List ℕ) (state : State) (code : List Instr) (o : Option Data) (parent : Option Data) → o ≡ parent → parent ≡ option_map (λ p. text_data (state_text a p)) state.parent
    → with_field (codes "parent") o (state_base (acts_data s a (acts_in code)) (acts_data s a (acts_in (behind code))) state.history state.initial name) ≡ state_data s a (state_source name state code)
state_at s a name state code o None e f = rw (e, sym f) refl
state_at s a name state code o (Some p) e f = rw (e, sym f) refl

pub state_joined : (s : SceneParts) (a : AgentDef) (name : List ℕ) (state : State) (code : List Instr) (o : Option Data) (enter exit base d : Data)
    → o ≡ option_map (λ p. text_data (state_text a p)) state.parent → enter ≡ acts_data s a (acts_in code) → exit ≡ acts_data s a (acts_in (behind code)) → base ≡ state_base enter exit state.history state.initial name
    → d ≡ with_field (codes "parent") o base → d ≡ state_data s a (state_source name state code)
state_joined s a name state code o enter exit base d e f g h k =
    k ∙ (ap (with_field (codes "parent") o) (h ∙ (ap (λ x. state_base x exit state.history state.initial name) f ∙ ap (λ x. state_base (acts_data s a (acts_in code)) x state.history state.initial name) g))
    ∙ state_at s a name state code o (option_map (λ p. text_data (state_text a p)) state.parent) e refl)

filter_at : (s : SceneParts) (f : FilterDef) (id : Option (List ℕ)) → f.id ≡ id
    → with_field (codes "id") (option_map text_data id) (filter_base f.active f.cmp f.field (mbox_name s f.mbox) (message_text s f.msg) f.value) ≡ filter_data s f
filter_at s f None e = rw e refl
filter_at s f (Some id) e = rw e refl

pub filter_joined : (s : SceneParts) (f : FilterDef) (o : Option Data) (base d : Data) → o ≡ option_map text_data f.id → base ≡ filter_base f.active f.cmp f.field (mbox_name s f.mbox) (message_text s f.msg) f.value
    → d ≡ with_field (codes "id") o base → d ≡ filter_data s f
filter_joined s f o base d e g h = h ∙ (ap (with_field (codes "id") o) g ∙ (ap (λ x. with_field (codes "id") x (filter_base f.active f.cmp f.field (mbox_name s f.mbox) (message_text s f.msg) f.value)) e ∙ filter_at s f f.id refl))

both : (key : List ℕ) {o p : Option Data} {d e : Data} → o ≡ p → d ≡ e → with_field key o d ≡ with_field key p e
both key {o = o} {e = e} f g = ap (with_field key o) g ∙ ap (λ x. with_field key x e) f

row_at : (s : SceneParts) (a : AgentDef) (id : Option (List ℕ)) (acts : List Instr) (mbox : MboxId) (msg : MsgId) (state : StateId) (kind : RowKind) (safe active : Bool)
    → with_field (codes "transfer") (transfer_data a kind) (with_field (codes "switch") (switch_data a kind) (with_field (codes "suppress") (suppress_data kind)
    (with_field (codes "state") (row_state_data a state kind) (with_field (codes "id") (option_map text_data id) (with_field (codes "do") (do_data s a acts kind) (with_field (codes "dead") (dead_data kind)
    (row_base active (mbox_name s mbox) (message_text s msg) safe)))))))
    ≡ row_data s a (record { id = id; row = record { mbox = mbox; msg = msg; state = state; kind = kind; safe = safe; active = active }; acts = acts })
row_at s a None acts mbox msg state Run safe active = refl
row_at s a (Some id) acts mbox msg state Run safe active = refl
row_at s a None acts mbox msg state Dead safe active = refl
row_at s a (Some id) acts mbox msg state Dead safe active = refl
row_at s a None acts mbox msg state (Switch to) safe active = refl
row_at s a (Some id) acts mbox msg state (Switch to) safe active = refl
row_at s a None acts mbox msg state (Transfer to) safe active = refl
row_at s a (Some id) acts mbox msg state (Transfer to) safe active = refl
row_at s a None acts mbox msg state Suppress safe active = refl
row_at s a (Some id) acts mbox msg state Suppress safe active = refl

pub row_joined : (s : SceneParts) (a : AgentDef) (x : RowSource) (dead do_acts id state suppress switch transfer : Option Data) (d0 d1 d2 d3 d4 d5 d6 d7 : Data)
    → d0 ≡ row_base x.row.active (mbox_name s x.row.mbox) (message_text s x.row.msg) x.row.safe
    → dead ≡ dead_data x.row.kind → d1 ≡ with_field (codes "dead") dead d0
    → do_acts ≡ do_data s a x.acts x.row.kind → d2 ≡ with_field (codes "do") do_acts d1
    → id ≡ option_map text_data x.id → d3 ≡ with_field (codes "id") id d2
    → state ≡ row_state_data a x.row.state x.row.kind → d4 ≡ with_field (codes "state") state d3
    → suppress ≡ suppress_data x.row.kind → d5 ≡ with_field (codes "suppress") suppress d4
    → switch ≡ switch_data a x.row.kind → d6 ≡ with_field (codes "switch") switch d5
    → transfer ≡ transfer_data a x.row.kind → d7 ≡ with_field (codes "transfer") transfer d6
    → d7 ≡ row_data s a x
row_joined s a x dead do_acts id state suppress switch transfer d0 d1 d2 d3 d4 d5 d6 d7 e0 o1 e1 o2 e2 o3 e3 o4 e4 o5 e5 o6 e6 o7 e7 =
    let f1 : d1 ≡ with_field (codes "dead") (dead_data x.row.kind) (row_base x.row.active (mbox_name s x.row.mbox) (message_text s x.row.msg) x.row.safe) = e1 ∙ both (codes "dead") o1 e0 in
    let f2 = e2 ∙ both (codes "do") o2 f1 in
    let f3 = e3 ∙ both (codes "id") o3 f2 in
    let f4 = e4 ∙ both (codes "state") o4 f3 in
    let f5 = e5 ∙ both (codes "suppress") o5 f4 in
    let f6 = e6 ∙ both (codes "switch") o6 f5 in
    e7 ∙ (both (codes "transfer") o7 f6 ∙ row_at s a x.id x.acts x.row.mbox x.row.msg x.row.state x.row.kind x.row.safe x.row.active)

-- ---- dispatchers

disp_fields : (pool quoted : Bool) (kind : DispKind) (name : List ℕ) (slots : ℕ) (fifo quotes threads : Data)
    → with_field (codes "threads") (if pool then Some threads else None) (with_field (codes "quotes") (if quoted then Some quotes else None) (with_field (codes "fifo") (if pool then Some fifo else None) (disp_base kind name slots)))
    ≡ object (given (codes "fifo") (if pool then Some fifo else None) (member (codes "kind") (string (disp_kind_word kind)) (member (codes "name") (text_data name)
    (given (codes "quotes") (if quoted then Some quotes else None) (member (codes "slots") (count_data slots) (given (codes "threads") (if pool then Some threads else None) no_members))))))
disp_fields true true kind name slots fifo quotes threads = refl
disp_fields true false kind name slots fifo quotes threads = refl
disp_fields false true kind name slots fifo quotes threads = refl
disp_fields false false kind name slots fifo quotes threads = refl

pub disp_joined : (x : DispDef) (fifo quotes threads : Option Data) (base d0 d1 d2 : Data) → base ≡ disp_base x.kind x.name x.slots → fifo ≡ of_pool x.kind (string (fifo_word x.fifo)) → d0 ≡ with_field (codes "fifo") fifo base
    → quotes ≡ of_quoted x.kind (list_data count_data x.quotes) → d1 ≡ with_field (codes "quotes") quotes d0 → threads ≡ of_pool x.kind (count_data x.threads) → d2 ≡ with_field (codes "threads") threads d1 → d2 ≡ disp_data x
disp_joined x fifo quotes threads base d0 d1 d2 b f e0 q e1 t e2 =
    e2 ∙ (both (codes "threads") t (e1 ∙ both (codes "quotes") q (e0 ∙ both (codes "fifo") f b))
    ∙ disp_fields (is_pool x.kind) (has_quotes x.kind) x.kind x.name x.slots (string (fifo_word x.fifo)) (list_data count_data x.quotes) (count_data x.threads))

-- ---- agents

agent_fields : (disp : List ℕ) (filters finish : Data) (o : Option Data) (name : List ℕ) (on : Data) (level : ℕ) (start states vars : Data)
    → with_field (codes "group") o (agent_base disp filters finish name on level start states vars)
    ≡ object (member (codes "disp") (text_data disp) (member (codes "filters") filters (member (codes "finish") finish (given (codes "group") o
    (member (codes "name") (text_data name) (member (codes "on") on (member (codes "priority") (count_data level) (member (codes "start") start (member (codes "states") states (member (codes "vars") vars no_members))))))))))
agent_fields disp filters finish None name on level start states vars = refl
agent_fields disp filters finish (Some g) name on level start states vars = refl

pub agent_joined : (s : SceneParts) (a : AgentDef) (o : Option Data) (base d : Data) → o ≡ option_map text_data (group_text s a) → base ≡ agent_plain s a → d ≡ with_field (codes "group") o base → d ≡ agent_data s a
agent_joined s a o base d e f g = g ∙ (both (codes "group") e f ∙ agent_fields (disp_text s a.disp) _ _ (option_map text_data (group_text s a)) a.name _ _ _ _ _)

-- ---- cooperations

coop_fields : (agents : Data) (at_start : Bool) (name : List ℕ) (o : Option Data) → with_field (codes "parent") o (coop_base agents at_start name)
    ≡ object (member (codes "agents") agents (member (codes "at_start") (boolean at_start) (member (codes "name") (text_data name) (given (codes "parent") o no_members))))
coop_fields agents at_start name None = refl
coop_fields agents at_start name (Some p) = refl

pub coop_joined : (s : SceneParts) (c : CoopDef) (o : Option Data) (base d : Data) → o ≡ option_map (λ p. text_data (coop_text s p)) c.parent → base ≡ coop_base (list_data (agent_data s) (agents_of s c)) c.at_start c.name
    → d ≡ with_field (codes "parent") o base → d ≡ coop_data s c
coop_joined s c o base d e f g = g ∙ (both (codes "parent") e f ∙ coop_fields (list_data (agent_data s) (agents_of s c)) c.at_start c.name (option_map (λ p. text_data (coop_text s p)) c.parent))
