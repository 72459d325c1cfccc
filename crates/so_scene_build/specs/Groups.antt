-- The groups of agents, each of one dispatcher, in the order in which agents name them.
use Rattle.std.specs.Prelude.{ℕ, List, [], ◌∷◌, ◌++◌, map, Bool, ◌==◌, if◌then◌else◌, Option, Some, None}
use Rattle.std.specs.List.{filter}
use Rattle.so_ids.specs.declared.DispId.{DispId}
use Rattle.so_lists.specs.Lists.{each_below}
use Rattle.so_scene.specs.Names.{number_in, has_name}
use Rattle.so_scene_build.specs.declared.groups.Group.{Group}
use Rattle.so_scene_build.specs.CodeBuilder.{number_or_next}

abbrev pub is_of : DispId → Group → Bool
is_of d g = g.disp.0 == d.0

abbrev pub group_name : Group → List ℕ
group_name g = g.name

-- the names of a dispatcher's groups, by number
unfoldable pub names_for : DispId → List Group → List (List ℕ)
names_for d groups = map group_name (filter (is_of d) groups)

-- a group that its dispatcher doesn't have yet goes to the end
abbrev pub with_name : DispId → List ℕ → List Group → List Group
with_name d name groups = if has_name (names_for d groups) name then groups else groups ++ record { disp = d; name = name } ∷ []

abbrev pub with_group : DispId → Option (List ℕ) → List Group → List Group
with_group d None groups = groups
with_group d (Some name) groups = with_name d name groups

-- the number of a group among its dispatcher's: its own, or the next
abbrev pub number_for : DispId → List ℕ → List Group → ℕ
number_for d name groups = number_or_next (number_in (names_for d groups) name) (names_for d groups)

abbrev pub group_number : DispId → Option (List ℕ) → List Group → Option ℕ
group_number d None groups = None
group_number d (Some name) groups = Some (number_for d name groups)

-- for each of so many dispatchers the names of its groups
abbrev pub names_at : List Group → ℕ → List (List ℕ)
names_at groups k = names_for (record { 0 = k }) groups

abbrev pub group_lists : List Group → ℕ → List (List (List ℕ))
group_lists groups n = each_below (names_at groups) n
