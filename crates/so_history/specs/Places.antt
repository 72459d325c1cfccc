-- A history is the list of its entries, the newest first: below an entry lie those before it, and their number is its place.
-- Lists that are made of a history, as its demands and turns, are in order of time.
use Rattle.std.specs.Prelude.{ℕ, ◌==◌, List, [], ◌∷◌, length, Option, Some, None, if◌then◌else◌}
use Rattle.so_ids.specs.declared.AgentId.{AgentId}
use Rattle.so_history.specs.declared.entry.Entry.{Entry}
use Rattle.so_history.specs.declared.entry.EntryKind.{EntryKind}
use Rattle.so_history.specs.declared.entry.EntryKind.TheVariants.{Begin}

-- the entry at a place
abbrev pub entry_at : List Entry → ℕ → Option Entry
entry_at [] place = None
entry_at (e ∷ h) place = if length h == place then Some e else entry_at h place

-- the agent whose turn begins with an entry
abbrev pub beginner : EntryKind → AgentId
beginner (Begin lane demand opening agent) = agent
beginner other = record { 0 = 0 }

-- of the entry at the place of a turn
abbrev pub beginner_at : Option Entry → AgentId
beginner_at (Some e) = beginner e.kind
beginner_at None = record { 0 = 0 }

-- the entries before a place
abbrev pub before : List Entry → ℕ → List Entry
before [] place = []
before (e ∷ h) place = if length h == place then h else before h place
