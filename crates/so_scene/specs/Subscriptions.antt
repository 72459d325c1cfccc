-- Which rows and filters of an agent are active: a list with one Bool for each row, and one with one for each filter.
use Rattle.std.specs.Prelude.{ℕ, pos, List, [], ◌∷◌, map, zip, slice_set, slice_index_or, Bool, true, false, not, ◌&&◌, None}
use Rattle.std.specs.List.{list_any}
use Rattle.so_ids.specs.Ids.{default_state}
use Rattle.so_ids.specs.declared.AgentId.{AgentId}
use Rattle.so_ids.specs.declared.RowId.{RowId}
use Rattle.so_ids.specs.declared.FilterId.{FilterId}
use Rattle.so_code.specs.declared.instr.Cmp.TheVariants.{Eq}
use Rattle.so_state.specs.declared.choice.Row.{Row}
use Rattle.so_state.specs.declared.choice.RowKind.TheVariants.{Run}
use Rattle.so_scene.specs.declared.parts.FilterDef.{FilterDef}
use Rattle.so_scene.specs.declared.parts.SceneParts.{SceneParts}
use Rattle.so_scene.specs.Parts.{rows_of, filters_of}
use Rattle.so_scene.specs.Delivery.{is_filter_for}

-- ---- by number

abbrev pub no_row : Row
no_row = record { mbox = record { 0 = 0 }; msg = record { 0 = 0 }; state = default_state; kind = Run; safe = false; active = false }

abbrev pub row_of : SceneParts → AgentId → RowId → Row
row_of s a row = slice_index_or (rows_of s a) row.0 no_row

abbrev pub no_filter : FilterDef
no_filter = record { id = None; mbox = record { 0 = 0 }; msg = record { 0 = 0 }; field = 0; cmp = Eq; value = pos 0; active = false }

abbrev pub filter_at : List FilterDef → ℕ → FilterDef
filter_at filters k = slice_index_or filters k no_filter

abbrev pub filter_of : SceneParts → AgentId → FilterId → FilterDef
filter_of s a filter = filter_at (filters_of s a) filter.0

-- ---- subscriptions

abbrev pub is_active_first : Row → Bool
is_active_first row = row.active

-- at the registration
abbrev pub rows_first : List Row → List Bool
rows_first rows = map is_active_first rows

-- after a subscription, or after its end
abbrev pub row_set : RowId → List Bool → List Bool
row_set row active = slice_set active row.0 true

abbrev pub row_dropped : RowId → List Bool → List Bool
row_dropped row active = slice_set active row.0 false

-- ---- filters

-- an active filter stays so where the new one is for other messages
abbrev pub stays_beside : FilterDef → FilterDef × Bool → Bool
stays_beside new other = other.1 && not (is_filter_for new.mbox new.msg other.0)

abbrev pub beside : List FilterDef → FilterDef → List Bool → List Bool
beside filters new active = map (stays_beside new) (zip filters active)

-- after a filter is set: it replaces the one of the same mbox and type
abbrev pub filter_set : List FilterDef → ℕ → List Bool → List Bool
filter_set filters k active = slice_set (beside filters (filter_at filters k) active) k true

abbrev pub filter_dropped : ℕ → List Bool → List Bool
filter_dropped k active = slice_set active k false

-- a later filter that is active from the start replaces this one
abbrev pub replaces : FilterDef → FilterDef → Bool
replaces f later = later.active && is_filter_for f.mbox f.msg later

-- at the registration: a filter is active where it says so, and no later one replaces it
abbrev pub filters_first : List FilterDef → List Bool
filters_first [] = []
filters_first (f ∷ later) = (f.active && not (list_any (replaces f) later)) ∷ filters_first later
