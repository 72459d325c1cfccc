use Rattle.std.proofs.Common.{arith, ◌∙◌}
use Rattle.std.proofs.lemmas.List.Elements.{All-filter}
use Rattle.so_lists.proofs.Filters.{filter-short}
use Rattle.so_mbox.specs.Table.{IsAgentOf, has_row}
use Rattle.so_mbox.proofs.TableLaws.{few_entered}
use Rattle.so_mbox.proofs.table.Table.candidates.Goals as goal

pub listed-requires : goal.listed-requires
listed-requires c =
    let within = rw (← c.self.view_is) at c.requires in
    omega (arith, within, c.self.invariant.2.have_room.count)

pub returns-clause-value : goal.returns-clause-value
returns-clause-value c =
    let within = rw (← c.self.view_is) at c.requires in
    c.listed.ensures ∙ rw (← c.self.view_is) (c.self.invariant.2.each c.args.mbox c.args.msg within)

pub returns-clause-agents : goal.returns-clause-agents
returns-clause-agents c = rw (← c.self.view_is) (All-filter (has_row c.self.inside.scene.now c.args.mbox c.args.msg) (IsAgentOf c.self.inside.scene.now) c.self.inside.order.items c.self.invariant.0.agents)

pub returns-clause-few : goal.returns-clause-few
returns-clause-few c =
    rw (← c.self.view_is) (let few = few_entered _ c.self.invariant.0 in let short = filter-short (has_row c.self.inside.scene.now c.args.mbox c.args.msg) c.self.inside.order.items in omega (arith, few, short))
