-- Fields that an object gets where they have a value.
use Rattle.std.specs.Prelude.{ℕ, ℤ, List, codes, Bool, Option, Some, None}
use Rattle.serde_json.specs.Data.{Data, null, boolean, number, string, array, object, no_members, member, put}
use Rattle.so_code.specs.declared.instr.Cmp.{Cmp}
use Rattle.so_state.specs.declared.states.History.{History}
use Rattle.so_scene.specs.declared.parts.DispKind.{DispKind}
use Rattle.so_scene_data.specs.ActData.{cmp_data, count_data, text_data}
use Rattle.so_scene_data.specs.Canonical.{number_data, history_word, disp_kind_word}

abbrev pub added : List ℕ → Data → Data → Data
added key x null = null
added key x (boolean b) = boolean b
added key x (number n) = number n
added key x (string s) = string s
added key x (array ds) = array ds
added key x (object ms) = object (put key x ms)

-- the object with one more field, if there is a value
abbrev pub with_field : List ℕ → Option Data → Data → Data
with_field key None d = d
with_field key (Some x) d = added key x d

-- ---- the fields that are always there

abbrev pub state_base : Data → Data → History → Bool → List ℕ → Data
state_base enter exit history initial name = object
    (member (codes "enter") enter
    (member (codes "exit") exit
    (member (codes "history") (string (history_word history))
    (member (codes "initial") (boolean initial)
    (member (codes "name") (text_data name) no_members)))))

abbrev pub filter_base : Bool → Cmp → ℕ → List ℕ → List ℕ → ℤ → Data
filter_base active cmp field mbox msg value = object
    (member (codes "active") (boolean active)
    (member (codes "cmp") (cmp_data cmp)
    (member (codes "field") (count_data field)
    (member (codes "mbox") (text_data mbox)
    (member (codes "msg") (text_data msg)
    (member (codes "value") (number_data value) no_members))))))

abbrev pub row_base : Bool → List ℕ → List ℕ → Bool → Data
row_base active mbox msg safe = object
    (member (codes "active") (boolean active)
    (member (codes "mbox") (text_data mbox)
    (member (codes "msg") (text_data msg)
    (member (codes "safe") (boolean safe) no_members))))

abbrev pub disp_base : DispKind → List ℕ → ℕ → Data
disp_base kind name slots = object
    (member (codes "kind") (string (disp_kind_word kind))
    (member (codes "name") (text_data name)
    (member (codes "slots") (count_data slots) no_members)))

abbrev pub agent_base : List ℕ → Data → Data → List ℕ → Data → ℕ → Data → Data → Data → Data
agent_base disp filters finish name on level start states vars = object
    (member (codes "disp") (text_data disp)
    (member (codes "filters") filters
    (member (codes "finish") finish
    (member (codes "name") (text_data name)
    (member (codes "on") on
    (member (codes "priority") (count_data level)
    (member (codes "start") start
    (member (codes "states") states
    (member (codes "vars") vars no_members)))))))))

abbrev pub coop_base : Data → Bool → List ℕ → Data
coop_base agents at_start name = object
    (member (codes "agents") agents
    (member (codes "at_start") (boolean at_start)
    (member (codes "name") (text_data name) no_members)))
