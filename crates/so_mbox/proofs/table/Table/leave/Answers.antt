use Rattle.std.proofs.Common.{◌∙◌}
use Rattle.so_mbox.proofs.DepartureLaws.{departed-one}
use Rattle.so_mbox.proofs.table.Table.leave.Goals as goal

pub returns : goal.returns
returns c = c.leave_all.ensures ∙ departed-one c.args.agent c.args.self.now
