use Rattle.std.proofs.Common.{◌<◌, length, arith, ap, ◌∙◌}
use Rattle.std.proofs.lemmas.List.{length-set}
use Rattle.so_scene.specs.declared.parts.CoopDef.{CoopDef}
use Rattle.so_coop.proofs.CountLaws.{there, parent_counts, all_counted, children_anew}
use Rattle.so_coop.proofs.coops.Coops.put.Goals as goal

pub recount-requires-clause-some : goal.recount-requires-clause-some
recount-requires-clause-some c =
    let within = rw (← c.self.view_is) at c.requires in
    let place : c.args.coop.0 < length c.self.inside.coops.items = omega (arith, within, c.self.invariant.coops) in
    parent_counts _ c.args.coop _ _ _ c.parts-parts.ensures.keeps within (there _ _ _ place c.index-old.ensures) c.self.invariant.have_children (ap (λ (d : CoopDef). d.parent) c.coop.ensures.value)

pub invariant_of-self : goal.invariant_of-self
invariant_of-self c =
    let within = rw (← c.self.view_is) at c.requires in
    let place : c.args.coop.0 < length c.self.inside.coops.items = omega (arith, within, c.self.invariant.coops) in
    let is = there _ _ _ place c.index-old.ensures in
    let n = c.changed-self-inside.ensures in
    let each = rw c.coop.ensures.value at c.recount.ensures.each in record {
      coops = length-set _ _ _ ∙ c.self.invariant.coops;
      counts = all_counted c.self.inside.coops.items c.args.coop.0 _ c.args.stands _ _ place is c.self.invariant.counts n.present n.leaving n.staying n.marked;
      have_children = children_anew _ c.args.coop _ c.args.stands _ _ c.self.invariant.coops within is c.self.invariant.have_children c.recount.ensures.length each;
      judged = c.self.invariant.judged;
    }
