use Rattle.std.proofs.Common.{◌≡◌, ◌<◌, true, false, Option, Some, None, is_some, sym, ◌∙◌, ap, subst, inl, inr, refl}
use Rattle.std.proofs.lemmas.Bool.{cases_Bool, false≢true}
use Rattle.so_ids.specs.declared.DemandId.{DemandId}
use Rattle.so_ids.specs.declared.KeyId.{KeyId}
use Rattle.so_ids.specs.declared.LaneId.{LaneId}
use Rattle.so_scene.specs.declared.parts.SceneParts.{SceneParts}
use Rattle.so_queue.specs.Queues.{QueueTable, front_of_key}
use Rattle.so_disp_adv.specs.declared.heads.HeadClass.{HeadClass}
use Rattle.so_disp_adv.specs.Pick.{is_open, open_demand, open_front, pick}
use Rattle.so_queue.proofs.WalkLaws.{IsWalk, GivesFronts, left, left_less, walk_goes, walk_found, walk_over}
use Rattle.so_disp_adv.proofs.ring.pick.Goals as goal

open_is : (s : SceneParts) (q : QueueTable) (class : DemandId → HeadClass) (lane : LaneId) (key : KeyId) (front : Option DemandId) (d : DemandId) → open_demand s q class lane key front ≡ Some d → front ≡ Some d
open_is s q class lane key None d is = cc
open_is s q class lane key (Some e) d is =
    elim (cases_Bool (is_open s q class lane key e)) [ inl t ↦ rw t at is | inr o ↦ (let none = (rw o at is) in cc) ]

gives_fronts : (s : SceneParts) (q : QueueTable) (class : DemandId → HeadClass) (lane : LaneId) → GivesFronts q (open_front s q class lane)
gives_fronts s q class lane j d is = open_is s q class lane (record { 0 = j }) (front_of_key q.lists j) d is

none_there : (o : Option DemandId) → is_some o ≡ false → o ≡ None
none_there None h = refl
none_there (Some d) h = absurd (false≢true (sym h))

one_there : (o front : Option DemandId) → ((d : DemandId) → o ≡ Some d → front ≡ Some d) → is_some o ≡ true → o ≡ front
one_there None front same h = absurd (false≢true h)
one_there (Some d) front same h = sym (same d refl)

pub returns-then-is_some : goal.returns-then-is_some
unfolding pick
returns-then-is_some g c =
    let s = c.args.scene.now in
    let q = c.args.queues.now in
    let class = g.H.Heads.class c.args.heads.now in
    let f = open_front s q class c.args.lane in
    let k = c.in-Some.key in
    let W : Option KeyId → Type 0 = λ at. IsWalk q f at in
    let walk = subst W c.in-Some.is c.loop-at.invariant in
    let here : f k.0 ≡ front_of_key q.lists k.0 = one_there (f k.0) (front_of_key q.lists k.0) (λ d. gives_fronts s q class c.args.lane k.0 d) (ap is_some (sym c.open_front-front.ensures) ∙ (sym c.is_some.ensures ∙ c.if-is_some.true)) in
    walk_found q f _ k c.open_front-front.result c.requires.keys (gives_fronts s q class c.args.lane) walk here (c.open_front-front.ensures ∙ here)

pub loop-at-smaller : goal.loop-at-smaller
loop-at-smaller g c =
    let q = c.args.queues.now in
    let f = open_front c.args.scene.now q (g.H.Heads.class c.args.heads.now) c.args.lane in
    let W : Option KeyId → Type 0 = λ at. IsWalk q f at in
    let walk = subst W c.in-Some.is c.loop-at.invariant in
    let P : Option KeyId → Type 0 = λ at. left q c.ready_after-at.result < left q at in
    subst P (sym c.in-Some.is) (left_less q c.in-Some.key walk.next.front c.ready_after-at.result walk.next.waits c.ready_after-at.ensures)

pub loop-at-preserved : goal.loop-at-preserved
loop-at-preserved g c =
    let s = c.args.scene.now in
    let q = c.args.queues.now in
    let f = open_front s q (g.H.Heads.class c.args.heads.now) c.args.lane in
    let W : Option KeyId → Type 0 = λ at. IsWalk q f at in
    let walk = subst W c.in-Some.is c.loop-at.invariant in
    walk_goes q f c.in-Some.key c.ready_after-at.result walk (none_there (f c.in-Some.key.0) (ap is_some (sym c.open_front-front.ensures) ∙ (sym c.is_some.ensures ∙ c.if-is_some.false))) c.ready_after-at.ensures

pub returns : goal.returns
unfolding pick
returns g c =
    let s = c.args.scene.now in
    let q = c.args.queues.now in
    let class = g.H.Heads.class c.args.heads.now in
    let f = open_front s q class c.args.lane in
    let W : Option KeyId → Type 0 = λ at. IsWalk q f at in
    let walk : W None = subst W c.in_default.is c.loop-at.invariant in
    walk_over q f _ c.requires.keys (gives_fronts s q class c.args.lane) walk
