use Rattle.std.proofs.Common.{◌≡◌, ◌<◌, sym, ◌∙◌, subst, None, Option, true, false, refl, inl, inr}
use Rattle.std.proofs.lemmas.Bool.{cases_Bool}
use Rattle.so_ids.specs.declared.KeyId.{KeyId}
use Rattle.so_ids.specs.declared.LaneId.{LaneId}
use Rattle.so_scene.specs.declared.parts.SceneParts.{SceneParts}
use Rattle.so_queue.specs.Queues.{QueueTable, front_of_key}
use Rattle.so_disp_excl.specs.Pick.{is_open, open_front, pick}
use Rattle.so_queue.proofs.WalkLaws.{IsWalk, GivesFronts, left, left_less, walk_begins, walk_goes, walk_found, walk_over}
use Rattle.so_disp_excl.proofs.ring.pick_ring.Goals as goal

gives_fronts : (s : SceneParts) (q : QueueTable) (lane : LaneId) → GivesFronts q (open_front s q lane)
gives_fronts s q lane j d is =
    elim (cases_Bool (is_open s q lane (record { 0 = j }))) [ inl t ↦ rw t at is | inr o ↦ (let none = (rw o at is) in cc) ]

open_here : (s : SceneParts) (q : QueueTable) (lane : LaneId) (k : KeyId) → is_open s q lane k ≡ true → open_front s q lane k.0 ≡ front_of_key q.lists k.0
open_here s q lane k on = rw on refl

shut_here : (s : SceneParts) (q : QueueTable) (lane : LaneId) (k : KeyId) → is_open s q lane k ≡ false → open_front s q lane k.0 ≡ None
shut_here s q lane k off = rw off refl

pub loop-at-init : goal.loop-at-init
loop-at-init c = walk_begins c.args.queues.now (open_front c.args.scene.now c.args.queues.now c.args.lane) c.ready-at.result c.ready-at.ensures

pub returns-then-is_open : goal.returns-then-is_open
unfolding pick
returns-then-is_open c =
    let s = c.args.scene.now in
    let q = c.args.queues.now in
    let W : Option KeyId → Type 0 = λ at. IsWalk q (open_front s q c.args.lane) at in
    let walk = subst W c.in-Some.is c.loop-at.invariant in
    walk_found q (open_front s q c.args.lane) _ c.in-Some.key c.front.result c.requires.keys (gives_fronts s q c.args.lane) walk (open_here s q c.args.lane c.in-Some.key (sym c.is_open.ensures ∙ c.if-is_open.true)) c.front.ensures

pub loop-at-smaller : goal.loop-at-smaller
loop-at-smaller c =
    let q = c.args.queues.now in
    let W : Option KeyId → Type 0 = λ at. IsWalk q (open_front c.args.scene.now q c.args.lane) at in
    let walk = subst W c.in-Some.is c.loop-at.invariant in
    let P : Option KeyId → Type 0 = λ at. left q c.ready_after-at.result < left q at in
    subst P (sym c.in-Some.is) (left_less q c.in-Some.key walk.next.front c.ready_after-at.result walk.next.waits c.ready_after-at.ensures)

pub loop-at-preserved : goal.loop-at-preserved
loop-at-preserved c =
    let s = c.args.scene.now in
    let q = c.args.queues.now in
    let W : Option KeyId → Type 0 = λ at. IsWalk q (open_front s q c.args.lane) at in
    let walk = subst W c.in-Some.is c.loop-at.invariant in
    walk_goes q (open_front s q c.args.lane) c.in-Some.key c.ready_after-at.result walk (shut_here s q c.args.lane c.in-Some.key (sym c.is_open.ensures ∙ c.if-is_open.false)) c.ready_after-at.ensures

pub returns : goal.returns
unfolding pick
returns c =
    let s = c.args.scene.now in
    let q = c.args.queues.now in
    let W : Option KeyId → Type 0 = λ at. IsWalk q (open_front s q c.args.lane) at in
    let walk : W None = subst W c.in_default.is c.loop-at.invariant in
    walk_over q (open_front s q c.args.lane) _ c.requires.keys (gives_fronts s q c.args.lane) walk
