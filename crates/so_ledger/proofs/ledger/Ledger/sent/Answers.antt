use Rattle.std.proofs.Common.{refl, ◌∙◌, ap}
use Rattle.so_scene.specs.Delivery.{events, sent_of}
use Rattle.so_tables.proofs.MboxLaws.{same_delivery}
use Rattle.so_ledger.proofs.ledger.Ledger.sent.Goals as goal

pub plan-requires-clause-scene : goal.plan-requires-clause-scene
plan-requires-clause-scene c = rw c.self.invariant.0.tables refl

pub returns-clause-value : goal.returns-clause-value
returns-clause-value c =
    rw (← c.self.view_is)
    (c.plan.ensures.answer ∙ rw c.self.invariant.0.tables (ap sent_of (same_delivery c.self.inside.scene.now c.self.inside.history.entries c.args.mbox c.args.msg c.args.payload c.self.invariant.0.scene)))

pub returns-clause-events : goal.returns-clause-events
returns-clause-events c =
    rw (← c.self.view_is, c.plan.ensures.events)
    (rw c.self.invariant.0.tables (ap events (same_delivery c.self.inside.scene.now c.self.inside.history.entries c.args.mbox c.args.msg c.args.payload c.self.invariant.0.scene)))
