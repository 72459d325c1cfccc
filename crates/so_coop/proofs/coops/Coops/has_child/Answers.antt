use Rattle.so_coop.proofs.CountLaws.{child_told}
use Rattle.so_coop.proofs.coops.Coops.has_child.Goals as goal

pub returns : goal.returns
returns c =
    let within = rw (← c.self.view_is) at c.requires in
    rw (← c.self.view_is) (child_told _ c.self.inside.children.items c.args.coop _ c.self.invariant.have_children within c.index.ensures)
