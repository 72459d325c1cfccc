-- What an entry makes of the lanes, and what it asks of them.
use Rattle.std.specs.Prelude.{◌<◌, List, length, Option, Some, None, slice_set}
use Rattle.so_ids.specs.declared.Place.{Place}
use Rattle.so_history.specs.declared.entry.EntryKind.{EntryKind}
use Rattle.so_history.specs.declared.entry.EntryKind.TheVariants.{Begin, End}
use Rattle.so_tables.specs.declared.found.Found.{Found}
use Rattle.so_tables.specs.declared.found.Found.TheVariants as what

-- ---- what an entry makes of them

abbrev pub after_end : Found → List (Option Place) → List (Option Place)
after_end (what.Turn x) t = slice_set t x.lane.0 None
after_end other t = t

abbrev pub after_entry : Found → Place → EntryKind → List (Option Place) → List (Option Place)
after_entry found place (Begin lane demand opening agent) t = slice_set t lane.0 (Some place)
after_entry found place (End turn) t = after_end found t
after_entry found place other t = t

-- ---- what it asks of them

abbrev pub MayEnd : Found → List (Option Place) → Type 0
MayEnd (what.Turn x) t = x.lane.0 < length t
MayEnd other t = Unit {0}

abbrev pub MayAbsorb : Found → EntryKind → List (Option Place) → Type 0
MayAbsorb found (Begin lane demand opening agent) t = lane.0 < length t
MayAbsorb found (End turn) t = MayEnd found t
MayAbsorb found other t = Unit {0}
