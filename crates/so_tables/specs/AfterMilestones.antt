-- What an entry makes of how the run stands.
use Rattle.std.specs.Prelude.{true}
use Rattle.so_code.specs.declared.effect.Effect.TheVariants as effect
use Rattle.so_history.specs.declared.entry.EntryKind.{EntryKind}
use Rattle.so_history.specs.declared.entry.EntryKind.TheVariants.{Act, Left, Stop, Abort}
use Rattle.so_tables.specs.declared.tables.Milestones.{Milestones}

abbrev pub after_entry : EntryKind → Milestones → Milestones
after_entry (Act turn effect.Stop said) m = record m { asked = true }
after_entry (Left coop) m = record m { left = true }
after_entry (Stop cause) m = record m { stopped = true }
after_entry (Abort cause) m = record m { aborted = true }
after_entry other m = m
