use Rattle.std.proofs.Common.{arith, refl, sym}
use Rattle.so_scene.specs.Parts.{agents_from}
use Rattle.so_mbox.proofs.CandidateLaws.{listed-leave}
use Rattle.so_mbox.proofs.DepartureLaws.{kept-departed, departed-is, all_agents}
use Rattle.so_mbox.proofs.table.Table.leave_all.Goals as goal

pub returns : goal.returns
returns c =
    let within = rw (← c.self.view_is) at c.requires in
    let all = all_agents c.self.inside.scene.now c.args.first c.args.count within in
    rw (← c.self.view_is, c.leave_out.ensures.items, c.clear_each.ensures) (sym (departed-is (agents_from c.args.first c.args.count) _ c.self.invariant.0 all))

pub invariant_of-self : goal.invariant_of-self
invariant_of-self c =
    let within = rw (← c.self.view_is) at c.requires in
    let all = all_agents c.self.inside.scene.now c.args.first c.args.count within in
    let kept = rw (departed-is (agents_from c.args.first c.args.count) _ c.self.invariant.0 all) at (kept-departed (agents_from c.args.first c.args.count) _ c.self.invariant.0 all) in
    rw (c.leave_out.ensures.items, c.clear_each.ensures) (
      kept,
      omega (arith, c.self.invariant.1, c.leave_out.ensures.capacity),
      listed-leave _ _ _ _ (agents_from c.args.first c.args.count) refl refl c.self.invariant.2 c.leave.ensures.boards c.leave.ensures.agents c.leave.ensures.room,
    )
