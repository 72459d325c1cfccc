-- The parts that the passes leave are a scene where their totals are within the limits.
use Rattle.std.proofs.Common.{◌≡◌, ℕ, zero, suc, ◌+◌, ◌-◌, ◌<◌, ◌≤◌, get_or, List, [], ◌∷◌, length, map, true, false, ◌||◌, Some, refl, sym, ap, ◌∙◌, subst, arith, nat_lt, bytes_eq}
use Rattle.std.proofs.lemmas.Bool.{ltb-false, or_parts}
use Rattle.std.specs.Prelude.{slice_index_or}
use Rattle.std.specs.List.{All, IsDistinct, filter}
use Rattle.so_ids.specs.declared.DispId.{DispId}
use Rattle.so_lists.specs.Lists.{given_after}
use Rattle.so_lists.proofs.EachBelow.{length-each_below, get_or-each_below}
use Rattle.so_lists.proofs.Filters.{filter-short, filter_map-short}
use Rattle.so_lists.proofs.Given.{given-few}
use Rattle.so_scene.specs.Checked.{IsAgent, IsGroup, AreGroups, IsScene}
use Rattle.so_scene.specs.Lanes.{AreBound, agent_number, lanes}
use Rattle.so_scene.specs.Parts.{default_disp, no_agent, groups_of as scene_groups}
use Rattle.so_scene.specs.Words.{is_name}
use Rattle.so_scene.specs.declared.parts.AgentDef.{AgentDef}
use Rattle.so_scene.specs.declared.parts.DispDef.{DispDef}
use Rattle.so_scene.specs.declared.parts.DispKind.TheVariants.{OneThread}
use Rattle.so_scene.specs.declared.parts.SceneParts.{SceneParts}
use Rattle.so_scene_build.specs.declared.build.Build.{Build}
use Rattle.so_scene_build.specs.Groups.{names_for, names_at, group_lists}
use Rattle.so_scene_json.specs.Scene.{exceeds, parts_of}
use Rattle.so_scene_build.specs.Kept.{IsBuiltAgent, AreCounted, AreBuiltGroups, disp_kind, agent_group, is_on, uses_on, IsBuilt}
use Rattle.so_scene_json.specs.Finish.{IsChecked}
use Rattle.so_scene_fields.proofs.Ends.{length_map}
use Rattle.so_scene_build.proofs.Uses.{all_texts, all_uses}
use Rattle.so_scene_build.proofs.Counted.{member_at, member_there}

kind_there : (ds : List DispDef) (n : ℕ) → slice_index_or (map disp_kind ds) n OneThread ≡ (slice_index_or ds n default_disp).kind
kind_there [] zero = refl
kind_there [] (suc n) = refl
kind_there (d ∷ ds) zero = refl
kind_there (d ∷ ds) (suc n) = kind_there ds n

groups_there : (b : Build) (d : DispId) → d.0 < length b.dispatchers → scene_groups (parts_of b) d ≡ names_for d b.groups
groups_there b d l = get_or-each_below (names_at b.groups) (length b.dispatchers) d.0 [] l

is_agent : (b : Build) (a : AgentDef) → a.coop.0 < length b.coops → IsBuiltAgent (length b.agents + length b.names.mboxes) b.messages (length b.texts) (length b.coops) (map disp_kind b.dispatchers) b.groups a → IsAgent (parts_of b) a
is_agent b a there h =
    let on : a.disp.0 < length b.dispatchers = omega (arith, h.disp, length_map disp_kind b.dispatchers) in
    record {
      named = h.named;
      coop = there;
      disp = on;
      group = subst (λ k. IsGroup k (length (scene_groups (parts_of b) a.disp)) a.group) (kind_there b.dispatchers a.disp.0)
          (subst (λ names. IsGroup (slice_index_or (map disp_kind b.dispatchers) a.disp.0 OneThread) (length names) a.group) (sym (groups_there b a.disp on)) h.group);
      vars = h.vars;
      numbers = h.numbers;
      tree = h.tree;
      no_limits = h.no_limits;
      state_names = h.state_names;
      states_named = h.states_named;
      initial = h.initial;
      each_state_once = h.each_state_once;
      few_rows = h.few_rows;
      rows = λ i d l. let row = h.rows i d l in record { mbox = row.mbox; msg = row.msg; state = row.state; kind = row.kind; safe = row.safe };
      row_ids = h.row_ids;
      rows_named = h.rows_named;
      each_row_id_once = h.each_row_id_once;
      few_filters = h.few_filters;
      filters = λ i d l. let filter = h.filters i d l in record { mbox = filter.mbox; msg = filter.msg; field = filter.field; value = filter.value };
      filters_named = h.filters_named;
      each_filter_id_once = h.each_filter_id_once;
      code = h.code;
      bodies = h.bodies;
      parts = h.parts;
      written = h.written;
      short = h.short;
      safe = h.safe;
    }

-- ---- groups, lanes and cooperations

are_groups : (b : Build) (d : DispId) → d.0 < length b.dispatchers → AreBuiltGroups b d → AreGroups (parts_of b) d
are_groups b d l h =
    let same : scene_groups (parts_of b) d ≡ names_for d b.groups = groups_there b d l in
    record {
      named = subst (All (λ name. is_name name ≡ true)) (sym same) h.named;
      each_once = subst (IsDistinct bytes_eq) (sym same) h.each_once;
      numbered = ap (given_after 0) (all_uses (parts_of b) d) ∙ (h.numbered ∙ ap (λ names. Some (length names)) (sym same));
    }

few_uses : (d : DispId) (agents : List AgentDef) → length (uses_on d agents) ≤ length agents
few_uses d agents = omega (arith, filter_map-short agent_group (filter (is_on d) agents), filter-short (is_on d) agents)

few_groups : (b : Build) (d : DispId) → d.0 < length b.dispatchers → length b.agents ≤ 4096 → AreBuiltGroups b d → length (scene_groups (parts_of b) d) ≤ 4096
few_groups b d l few h =
    omega (arith, ap length (groups_there b d l), given-few 0 (length (names_for d b.groups)) (uses_on d b.agents) h.numbered, few_uses d b.agents, few)

is_bound : (b : Build) → IsBuilt b → length b.agents ≤ 4096 → AreBound (parts_of b)
is_bound b built few = record {
  few = few;
  few_dispatchers = built.few_dispatchers;
  groups = length-each_below (names_at b.groups) (length b.dispatchers);
  few_groups = λ d l. few_groups b d l few (built.groups few d);
  agents = λ a l. omega (arith, (built.agents a.0 no_agent l).disp, length_map disp_kind b.dispatchers);
}

scene_of_parts : (b : Build) → IsBuilt b → IsDistinct bytes_eq b.texts → exceeds (parts_of b) ≡ false → IsScene (parts_of b)
scene_of_parts b built distinct few =
    let first = or_parts (nat_lt 4096 (length b.agents)) (nat_lt 4096 (length b.texts) || nat_lt 256 (lanes (parts_of b))) few in
    let second = or_parts (nat_lt 4096 (length b.texts)) (nat_lt 256 (lanes (parts_of b))) first.1 in
    let agents : length b.agents ≤ 4096 = ltb-false 4096 (length b.agents) first.0 in
    let texts : length b.texts ≤ 4096 = ltb-false 4096 (length b.texts) second.0 in
    let counted : AreCounted b.coops b.agents = built.counted agents in
    record {
      few_messages = built.few_messages;
      messages_named = built.messages_named;
      message_names = built.message_names;
      few_mboxes = built.few_mboxes;
      mboxes_named = built.mboxes;
      default = built.default;
      few_dispatchers = built.few_dispatchers;
      dispatchers = built.dispatchers;
      dispatcher_names = built.dispatcher_names;
      all_groups = length-each_below (names_at b.groups) (length b.dispatchers);
      groups = λ d l. are_groups b d l (built.groups agents d);
      few_lanes = ltb-false 256 (lanes (parts_of b)) second.1;
      few_coops = built.few_coops;
      coops = λ i d l. let coop = built.coops i d l in record { named = coop.named; parent = coop.parent };
      coop_names = built.coop_names;
      consecutive = counted.consecutive;
      members = λ a l. member_at b.coops 0 a.0 b.agents a.0 no_agent (omega arith) l counted.members;
      few_agents = agents;
      agents = λ i d l. is_agent b (get_or b.agents i d) (member_there b.coops (get_or b.agents i d).coop.0 (agent_number i) (member_at b.coops 0 i b.agents i d (omega arith) l counted.members)) (built.agents i d l);
      names = built.names;
      few_texts = texts;
      texts = built.texts;
      texts_numbered = ap (given_after 0) (all_texts (parts_of b)) ∙ built.texts_numbered texts;
      each_text_once = distinct;
    }

checked_parts : (b : Build) → IsBuilt b → IsDistinct bytes_eq b.texts → IsChecked (parts_of b)
checked_parts b built distinct = record {
  bound = λ few. is_bound b built few;
  scene = λ few. scene_of_parts b built distinct few;
}

-- the parts as they are put together
abbrev pub made_of : Build → List (List ℕ) → List (List (List ℕ)) → List (List ℕ) → SceneParts
made_of b mboxes groups texts = record { messages = b.messages; mboxes = mboxes; dispatchers = b.dispatchers; groups = groups; coops = b.coops; agents = b.agents; texts = texts; autoshutdown = b.autoshutdown }

pub is_parts : (b : Build) (mboxes texts : List (List ℕ)) (groups : List (List (List ℕ)))
    → b.names.mboxes ≡ mboxes → b.texts ≡ texts → group_lists b.groups (length b.dispatchers) ≡ groups → parts_of b ≡ made_of b mboxes groups texts
is_parts b mboxes texts groups e f g =
    ap (λ x. made_of b x (group_lists b.groups (length b.dispatchers)) b.texts) e
    ∙ (ap (λ x. made_of b mboxes (group_lists b.groups (length b.dispatchers)) x) f
    ∙ ap (λ x. made_of b mboxes x texts) g)

pub is_checked : (b : Build) (s : SceneParts) → IsBuilt b → IsDistinct bytes_eq b.texts → parts_of b ≡ s → IsChecked s
is_checked b s built distinct same = subst IsChecked same (checked_parts b built distinct)
