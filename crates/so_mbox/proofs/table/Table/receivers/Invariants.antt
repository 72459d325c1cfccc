use Rattle.std.proofs.Common.{◌≡◌, drop}
use Rattle.std.specs.Prelude.{slice_get}
use Rattle.so_scene.specs.Delivery.{receivers_among}
use Rattle.so_mbox.specs.Table.{receivers, active_rows}
use Rattle.so_mbox.proofs.table.Table.receivers.Given as goal

abbrev pub invariant-loop-agent : goal.invariant-loop-agent
invariant-loop-agent l = slice_get (receivers_among l.self.scene (active_rows l.self) l.mbox l.msg (drop l.agent-index l.self.order)) l.left ≡ slice_get (receivers l.self l.mbox l.msg) l.at
