-- What an entry makes of main's attempts, and what it asks of them.
use Rattle.std.specs.Prelude.{◌<◌, length}
use Rattle.so_history.specs.declared.entry.EntryKind.{EntryKind}
use Rattle.so_history.specs.declared.entry.EntryKind.TheVariants.{Register, Refuse}
use Rattle.so_tables.specs.Attempts.{AttemptTable, after_attempt}

abbrev pub after_entry : EntryKind → AttemptTable → AttemptTable
after_entry (Register coop) t = after_attempt coop t
after_entry (Refuse coop cause) t = after_attempt coop t
after_entry other t = t

abbrev pub MayAbsorb : EntryKind → AttemptTable → Type 0
MayAbsorb (Register coop) t = coop.0 < length t.scene.coops
MayAbsorb (Refuse coop cause) t = coop.0 < length t.scene.coops
MayAbsorb other t = Unit {0}
