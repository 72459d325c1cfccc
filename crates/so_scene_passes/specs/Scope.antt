-- What the acts of an agent may name of the agent itself: its states by their names, its rows and filters by their ids.
use Rattle.std.specs.Prelude.{ℕ, List, [], ◌∷◌, map, codes, Bool, false, Option, Some, None, bytes_eq}
use Rattle.std.specs.List.{position}
use Rattle.serde_json.specs.Data.{Data, Items}
use Rattle.serde_json.specs.Find.{get}
use Rattle.so_scene.specs.Names.{number_in}
use Rattle.so_scene_passes.specs.declared.scope.Scope.{Scope}
use Rattle.so_scene_fields.specs.Values.{name_in, id_in}
use Rattle.so_scene_fields.specs.Visits.{list_of, listed}

abbrev pub is_id : List ℕ → Option (List ℕ) → Bool
is_id name None = false
is_id name (Some id) = bytes_eq name id

-- the number of what has this id
abbrev pub number_with : List (Option (List ℕ)) → List ℕ → Option ℕ
number_with ids name = position (is_id name) ids

-- the id of each object in a list, or that it has none
abbrev pub ids_of : Items → List (Option (List ℕ))
ids_of ds = map id_in (listed ds)

-- the name of each object in a list
abbrev pub names_of : Items → List (List ℕ)
names_of ds = map name_in (listed ds)

abbrev pub state_items : Data → Items
state_items d = list_of (get (codes "states") d)

abbrev pub row_items : Data → Items
row_items d = list_of (get (codes "on") d)

abbrev pub filter_items : Data → Items
filter_items d = list_of (get (codes "filters") d)

-- the names and ids of an agent
abbrev pub scope_of : Data → Scope
scope_of d = record { states = names_of (state_items d); rows = ids_of (row_items d); filters = ids_of (filter_items d) }

-- outside of an agent there are none
abbrev pub no_scope : Scope
no_scope = record { states = []; rows = []; filters = [] }

-- ---- states by number: 0 is `default`, and the declared ones follow

abbrev pub all_states : Scope → List (List ℕ)
all_states scope = codes "default" ∷ scope.states

abbrev pub state_number : Scope → List ℕ → Option ℕ
state_number scope name = number_in (all_states scope) name
