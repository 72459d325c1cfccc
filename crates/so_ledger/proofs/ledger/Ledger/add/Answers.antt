use Rattle.std.proofs.Common.{◌≡◌, ◌∙◌, length, ap, sym, subst}
use Rattle.so_history.specs.Leaves.{leaves}
use Rattle.so_history.specs.Units.{cost}
use Rattle.so_tables.specs.AfterEntry.{after_entry}
use Rattle.so_tables.specs.AfterEvents.{IsSent}
use Rattle.so_tables.specs.Found.{IsFound}
use Rattle.so_tables.proofs.StateLaws.{states-absorbed, states-may}
use Rattle.so_ledger.specs.Shapes.{Core}
use Rattle.so_ledger.proofs.AddLaws.{may_absorb, kept_on}
use Rattle.so_ledger.proofs.KeptLaws.{has_place, next_legal}
use Rattle.so_ledger.proofs.ledger.Ledger.add.Goals as goal

pub absorb-requires-clause-may : goal.absorb-requires-clause-may
absorb-requires-clause-may c =
    let F : Core → Type 0 = λ k. IsFound k.scene k.history c.args.entry.kind c.args.found in
    let S : Core → Type 0 = λ k. IsSent k.scene k.history c.args.entry.kind c.args.sent.now.queued in
    rw c.len.ensures.value (may_absorb c.args.entry c.args.found c.args.sent.now.queued c.self.invariant.0 (rw c.self.view_is c.requires.ready) (subst F (sym c.self.view_is) c.requires.found) (subst S (sym c.self.view_is) c.requires.sent))

pub absorb_states-requires-clause-may : goal.absorb_states-requires-clause-may
absorb_states-requires-clause-may c =
    let F : Core → Type 0 = λ k. IsFound k.scene k.history c.args.entry.kind c.args.found in
    states-may c.self.inside.scene.now c.self.inside.history.entries c.args.entry c.args.found c.self.invariant.0.scene (next_legal c.args.entry c.self.invariant.0 (rw c.self.view_is c.requires.ready)) (subst F (sym c.self.view_is) c.requires.found)

pub push-requires : goal.push-requires
push-requires c = has_place c.args.entry c.self.invariant.0 (rw c.self.view_is c.requires.ready)

pub invariant_of-self : goal.invariant_of-self
invariant_of-self c =
    let F : Core → Type 0 = λ k. IsFound k.scene k.history c.args.entry.kind c.args.found in
    let S : Core → Type 0 = λ k. IsSent k.scene k.history c.args.entry.kind c.args.sent.now.queued in
    let C : Core → Type 0 = λ k. c.cost-cost.result ≡ cost k.scene k.history c.args.entry in
    let its = subst F (sym c.self.view_is) c.requires.found in
    let s = c.self.inside.scene.now in
    let h = c.self.inside.history.entries in
    let sent = c.args.sent.now.queued in
    let legal = next_legal c.args.entry c.self.invariant.0 (rw c.self.view_is c.requires.ready) in
    let kept = kept_on c.args.entry c.args.found sent c.self.invariant.0 (rw c.self.view_is c.requires.ready) its (subst S (sym c.self.view_is) c.requires.sent) c.absorb.new.self
    (c.absorb.ensures ∙ (ap (λ p. after_entry s c.args.found sent (record { 0 = p }) c.args.entry.kind c.cost-cost.result c.self.inside.tables) c.len.ensures.value
    ∙ ap (λ n. after_entry s c.args.found sent (record { 0 = length h }) c.args.entry.kind n c.self.inside.tables) (subst C (sym c.self.view_is) c.cost-cost.ensures.value))) in
    rw (c.push.ensures.entries, c.push.ensures.limit) (kept, states-absorbed s h c.args.entry c.args.found c.absorb_states.new.states c.self.invariant.0.scene legal its (c.absorb_states.ensures (leaves s h) c.self.invariant.1))
