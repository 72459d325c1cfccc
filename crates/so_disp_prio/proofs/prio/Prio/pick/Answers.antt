use Rattle.std.proofs.Common.{◌<◌, Option, None, sym, subst}
use Rattle.so_ids.specs.declared.DemandId.{DemandId}
use Rattle.so_ids.specs.declared.KeyId.{KeyId}
use Rattle.so_queue.proofs.WalkLaws.{left, left_less}
use Rattle.so_disp_prio.specs.Pick.{open_head, pick}
use Rattle.so_disp_prio.proofs.HeadLaws.{none_open}
use Rattle.so_disp_prio.proofs.TourLaws.{IsTour, tour_begins, tour_goes, tour_over}
use Rattle.so_disp_prio.proofs.prio.Prio.pick.Goals as goal

pub loop-at-init : goal.loop-at-init
loop-at-init c = tour_begins c.args.queues.now (open_head c.args.scene.now c.args.self.now c.args.queues.now c.args.lane) c.ready-at.result c.ready-at.ensures

pub loop-at-smaller : goal.loop-at-smaller
loop-at-smaller c =
    let q = c.args.queues.now in
    let f = open_head c.args.scene.now c.args.self.now q c.args.lane in
    let W : Option KeyId → Type 0 = λ at. IsTour q f at c.loop-at.best in
    let tour = subst W c.in-Some.is c.loop-at.invariant in
    let P : Option KeyId → Type 0 = λ at. left q c.ready_after-at.result < left q at in
    subst P (sym c.in-Some.is) (left_less q c.in-Some.key tour.next.front c.ready_after-at.result tour.next.waits c.ready_after-at.ensures)

pub loop-at-preserved : goal.loop-at-preserved
loop-at-preserved c =
    let q = c.args.queues.now in
    let f = open_head c.args.scene.now c.args.self.now q c.args.lane in
    let W : Option KeyId → Type 0 = λ at. IsTour q f at c.loop-at.best in
    let tour = subst W c.in-Some.is c.loop-at.invariant in
    let B : Option DemandId → Type 0 = λ best. IsTour q f c.ready_after-at.result best in
    subst B (sym c.lesser_of-best.ensures) (tour_goes q f c.in-Some.key c.ready_after-at.result c.loop-at.best c.open_head.result tour c.open_head.ensures c.ready_after-at.ensures)

pub returns : goal.returns
unfolding pick
returns c =
    let s = c.args.scene.now in
    let q = c.args.queues.now in
    let f = open_head s c.args.self.now q c.args.lane in
    let W : Option KeyId → Type 0 = λ at. IsTour q f at c.loop-at.best in
    let tour : W None = subst W c.in_default.is c.loop-at.invariant in
    tour_over q f _ c.loop-at.best c.requires.keys (none_open s c.args.self.now q c.args.lane) tour
