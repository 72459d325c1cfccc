use Rattle.so_scene.specs.Cooperations.{admission}
use Rattle.so_history.specs.Coops.{standing}
use Rattle.so_ledger.proofs.DecideLaws.{refused_as}
use Rattle.so_ledger.proofs.ledger.Ledger.registering.Goals as goal

pub returns-in-Err : goal.returns-in-Err
returns-in-Err c = refused_as c.args.coop (admission c.args.self.now.scene (standing c.args.self.now.history) c.args.coop) c.admit.result c.in-Err.cause c.admit.ensures c.in-Err.is
