-- What `load` prints of a ring's run.
use Rattle.std.specs.Prelude.{ℕ, ◌+◌, ◌*◌, List, ◌++◌, Bool, true, false, count_by, codes, decimal}
use Rattle.so_history.specs.declared.entry.Entry.{Entry}
use Rattle.so_history.specs.declared.entry.EntryKind.{EntryKind}
use Rattle.so_history.specs.declared.entry.EntryKind.TheVariants.{Begin}

-- the units that a ring's run may spend
abbrev pub ring_units : ℕ → ℕ
ring_units count = 100 * count + 100

-- how many demands were handled: a turn began for each
abbrev pub is_begin : EntryKind → Bool
is_begin (Begin lane demand opening agent) = true
is_begin other = false

abbrev pub begins : Entry → Bool
begins e = is_begin e.kind

abbrev pub handled : List Entry → ℕ
handled h = count_by begins h

-- the line, with the numbers of agents, of entries, of demands and of those that were handled, and the status
abbrev pub load_line : ℕ → ℕ → ℕ → ℕ → ℕ → List ℕ
load_line count entries demands handled status =
    codes "load " ++ decimal count ++ codes ": entries " ++ decimal entries ++ codes ", demands " ++ decimal demands ++ codes ", handled " ++ decimal handled ++ codes ", status " ++ decimal status ++ codes "\n"
