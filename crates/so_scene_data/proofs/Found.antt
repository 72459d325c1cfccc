-- What is found in the object of an agent, which may have the field `group`.
use Rattle.std.proofs.Common.{◌≡◌, ℕ, List, codes, Option, Some, None, option_map, refl, ap}
use Rattle.std.specs.Ordering.{nat_cmp, match_ordering}
use Rattle.std.specs.Cmp.Lexicographic.{slice_cmp}
use Rattle.serde_json.specs.Data.{Data, object, Members, no_members, member}
use Rattle.serde_json.specs.Find.{get, get_member}
use Rattle.so_scene.specs.declared.parts.AgentDef.{AgentDef}
use Rattle.so_scene.specs.declared.parts.SceneParts.{SceneParts}
use Rattle.so_scene_data.specs.Sources.{states_of, rows_of, start_acts, finish_acts}
use Rattle.so_scene_data.specs.ActData.{text_data, count_data, acts_data, disp_text, group_text}
use Rattle.so_scene_data.specs.Canonical.{given, list_data, number_data, filter_data, row_data, state_data, agent_data}
use Rattle.so_scene_data.specs.Fields.{agent_base}

-- a key that differs from this one
abbrev pub IsApart : List ℕ → List ℕ → Type 0
IsApart key other = (x y : Option Data) → match_ordering (slice_cmp nat_cmp key other) x y x ≡ x

past : (key other : List ℕ) (o : Option Data) (ms : Members) → IsApart key other → get_member key (given other o ms) ≡ get_member key ms
past key other None ms f = refl
past key other (Some d) ms f = f (get_member key ms) (Some d)

beside : (key other : List ℕ) (d : Data) (ms ns : Members) → get_member key ms ≡ get_member key ns → get_member key (member other d ms) ≡ get_member key (member other d ns)
beside key other d ms ns e = ap (λ (r : Option Data). match_ordering (slice_cmp nat_cmp key other) r (Some d) r) e

-- the object without its group
abbrev pub agent_plain : SceneParts → AgentDef → Data
agent_plain s a = agent_base (disp_text s a.disp) (list_data (filter_data s) a.filters) (acts_data s a (finish_acts a)) a.name (list_data (row_data s a) (rows_of a)) a.priority.level (acts_data s a (start_acts a)) (list_data (state_data s a) (states_of a)) (list_data number_data a.vars.0)

-- the fields behind the group
abbrev others : SceneParts → AgentDef → Members
others s a =
    member (codes "name") (text_data a.name)
    (member (codes "on") (list_data (row_data s a) (rows_of a))
    (member (codes "priority") (count_data a.priority.level)
    (member (codes "start") (acts_data s a (start_acts a))
    (member (codes "states") (list_data (state_data s a) (states_of a))
    (member (codes "vars") (list_data number_data a.vars.0) no_members)))))

pub got : (s : SceneParts) (a : AgentDef) (key : List ℕ) → IsApart key (codes "group") → get key (agent_data s a) ≡ get key (agent_plain s a)
got s a key f =
    let o : Option Data = option_map text_data (group_text s a) in
    let filters : Data = list_data (filter_data s) a.filters in
    let finish : Data = acts_data s a (finish_acts a) in
    let grouped : Members = given (codes "group") o (others s a) in
    let three : get_member key (member (codes "finish") finish grouped) ≡ get_member key (member (codes "finish") finish (others s a)) = beside key (codes "finish") finish grouped (others s a) (past key (codes "group") o (others s a) f) in
    beside key (codes "disp") (text_data (disp_text s a.disp)) (member (codes "filters") filters (member (codes "finish") finish grouped)) (member (codes "filters") filters (member (codes "finish") finish (others s a)))
    (beside key (codes "filters") filters (member (codes "finish") finish grouped) (member (codes "finish") finish (others s a)) three)

group_at_key : (disp filters finish : Data) (o : Option Data) (name on priority start states vars : Data) → get (codes "group") (object
    (member (codes "disp") disp (member (codes "filters") filters (member (codes "finish") finish (given (codes "group") o
    (member (codes "name") name (member (codes "on") on (member (codes "priority") priority (member (codes "start") start (member (codes "states") states (member (codes "vars") vars no_members))))))))))) ≡ o
group_at_key disp filters finish None name on priority start states vars = refl
group_at_key disp filters finish (Some g) name on priority start states vars = refl

pub got_group : (s : SceneParts) (a : AgentDef) → get (codes "group") (agent_data s a) ≡ option_map text_data (group_text s a)
got_group s a =
    group_at_key (text_data (disp_text s a.disp)) (list_data (filter_data s) a.filters) (acts_data s a (finish_acts a)) (option_map text_data (group_text s a)) (text_data a.name)
    (list_data (row_data s a) (rows_of a)) (count_data a.priority.level) (acts_data s a (start_acts a)) (list_data (state_data s a) (states_of a)) (list_data number_data a.vars.0)
