-- What a subscription and a filter are answered.
use Rattle.std.specs.Prelude.{Option, Some, None, Result, Ok, Err, if◌then◌else◌}
use Rattle.so_ids.specs.declared.AgentId.{AgentId}
use Rattle.so_ids.specs.declared.RowId.{RowId}
use Rattle.so_ids.specs.declared.DefFault.{DefFault}
use Rattle.so_ids.specs.declared.DefFault.TheVariants as fault
use Rattle.so_scene.specs.Parts.{rows_of}
use Rattle.so_scene.specs.Definition.{is_not_owner, is_twice}
use Rattle.so_scene.specs.Subscriptions.{row_of}
use Rattle.so_mbox.specs.declared.table.SubFault.{SubFault}
use Rattle.so_mbox.specs.declared.table.SubFault.TheVariants.{NotOwner, Twice}
use Rattle.so_mbox.specs.declared.table.FilterFault.{FilterFault}
use Rattle.so_mbox.specs.declared.table.FilterFault.TheVariants.{DirectMbox, IsSignal}
use Rattle.so_mbox.specs.Table.{Subscriptions, active_rows}

-- by the rules over the rows that are active now
abbrev pub subscribe_answer : Subscriptions → AgentId → RowId → Result Unit SubFault
subscribe_answer t a row =
    if is_not_owner t.scene a (row_of t.scene a row) then Err NotOwner
    else (if is_twice (rows_of t.scene a) (active_rows t a) (row_of t.scene a row) then Err Twice else Ok tt)

abbrev pub rule_of : FilterFault → DefFault
rule_of DirectMbox = fault.DirectMbox
rule_of IsSignal = fault.IsSignal

-- the definition rule that an answer says is broken
abbrev pub broken_by : Result Unit FilterFault → Option DefFault
broken_by (Ok done) = None
broken_by (Err why) = Some (rule_of why)
