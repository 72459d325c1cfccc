use Rattle.so_scene.specs.Cooperations.{admission}
use Rattle.so_history.specs.Coops.{standing}
use Rattle.so_ledger.proofs.DecideLaws.{answered_as}
use Rattle.so_ledger.proofs.ledger.Ledger.registered.Goals as goal

pub returns-in-Err : goal.returns-in-Err
returns-in-Err c = answered_as (admission c.args.self.now.scene (standing c.args.self.now.history) c.args.coop) c.admit.result c.in-Err.cause c.admit.ensures c.in-Err.is
