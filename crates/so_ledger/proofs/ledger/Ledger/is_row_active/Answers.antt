use Rattle.std.proofs.Common.{◌<◌, length, sym, ap, subst}
use Rattle.so_ledger.specs.Shapes.{Core}
use Rattle.so_history.specs.Steps.{is_active}
use Rattle.so_tables.proofs.MboxLaws.{rows_known}
use Rattle.so_ledger.proofs.ledger.Ledger.is_row_active.Goals as goal

pub returns : goal.returns
returns c =
    let K : Core → Type 0 = λ k. c.args.agent.0 < length k.scene.agents in
    let known = subst K (sym c.self.view_is) c.requires.agent in
    rw (← c.self.view_is) (rw (c.active.ensures.value, c.self.invariant.0.tables) (ap (λ f. is_active f c.args.row.0) (rows_known c.self.inside.scene.now c.self.inside.history.entries c.args.agent known)))
