use Rattle.std.proofs.Common.{◌≡◌, sym, ◌∙◌}
use Rattle.so_history.specs.Demands.{named, demands}
use Rattle.so_ledger.proofs.PickLaws.{named_of, class_found, class_lost}
use Rattle.so_ledger.proofs.classes.LedgerHeads.class.Goals as goal

pub class_of-requires : goal.class_of-requires
class_of-requires c =
    let its : c.named.result ≡ named c.args.demand (demands c.self.inside.scene.now c.self.inside.history.entries) = rw c.self.invariant.0.tables at c.named.ensures in
    rw (← c.self.view_is) (named_of c.self.inside.scene.now c.self.inside.history.entries c.args.demand c.in-Some.demand c.self.invariant.0.scene (sym its ∙ c.in-Some.is))

pub returns-in-Some : goal.returns-in-Some
returns-in-Some c =
    let its : c.named.result ≡ named c.args.demand (demands c.self.inside.scene.now c.self.inside.history.entries) = rw c.self.invariant.0.tables at c.named.ensures in
    c.class_of.ensures ∙ rw (← c.self.view_is) (class_found c.self.inside.scene.now c.self.inside.history.entries c.args.demand c.in-Some.demand (sym its ∙ c.in-Some.is))

pub returns-in-None : goal.returns-in-None
returns-in-None c =
    let its : c.named.result ≡ named c.args.demand (demands c.self.inside.scene.now c.self.inside.history.entries) = rw c.self.invariant.0.tables at c.named.ensures in
    rw (← c.self.view_is) (class_lost c.self.inside.scene.now c.self.inside.history.entries c.args.demand (sym its ∙ c.in-None.is))
