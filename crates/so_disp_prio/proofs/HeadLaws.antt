-- A queue without a demand has none that comes first.
use Rattle.std.proofs.Common.{◌≡◌, ℕ, ◌-◌, ◌<◌, List, None, arith, refl, ap, inl, inr}
use Rattle.std.proofs.lemmas.Bool.{cases_Bool}
use Rattle.so_ids.specs.declared.KeyId.{KeyId}
use Rattle.so_ids.specs.declared.LaneId.{LaneId}
use Rattle.so_lists.proofs.First.{first_below-none}
use Rattle.so_scene.specs.declared.parts.DispKind.{DispKind}
use Rattle.so_scene.specs.declared.parts.DispKind.TheVariants.{OneThread, ActiveObj, ActiveGroup, ThreadPool, AdvThreadPool, StrictlyOrdered, QuotedRoundRobin, OnePerPrio}
use Rattle.so_scene.specs.declared.parts.SceneParts.{SceneParts}
use Rattle.so_scene.specs.declared.round.Round.{Round}
use Rattle.so_scene.specs.Parts.{disp_of}
use Rattle.so_scene.specs.Lanes.{queue_at}
use Rattle.so_scene.specs.Rounds.{moved}
use Rattle.so_queue.specs.Queues.{QueueTable, head_of, front_of_key}
use Rattle.so_queue.proofs.FrontLaws.{front-none}
use Rattle.so_disp_prio.specs.Pick.{first_with, waits_with, from_top, head_by, round_of, is_open, open_head}

none_with : (q : QueueTable) (key : KeyId) (level : ℕ) → front_of_key q.lists key.0 ≡ None → level < 8 → first_with q key level ≡ None
none_with q key level none l = ap head_of (front-none q.lists key.0 level none l)

none_by : (kind : DispKind) (quotes : List ℕ) (r : Round) (q : QueueTable) (key : KeyId) → front_of_key q.lists key.0 ≡ None → head_by kind quotes r q key ≡ None
none_by OneThread quotes r q key none = none
none_by ActiveObj quotes r q key none = none
none_by ActiveGroup quotes r q key none = none
none_by ThreadPool quotes r q key none = none
none_by AdvThreadPool quotes r q key none = none
none_by StrictlyOrdered quotes r q key none = first_below-none (from_top q key) 8 (λ k l. none_with q key (7 - k) none (omega arith))
none_by QuotedRoundRobin quotes r q key none =
    none_with q key (moved quotes (waits_with q key) r).priority.level none (omega (arith, (moved quotes (waits_with q key) r).priority.in_range))
none_by OnePerPrio quotes r q key none = none

pub none_open : (s : SceneParts) (rounds : List Round) (q : QueueTable) (lane : LaneId) (k : ℕ) → front_of_key q.lists k ≡ None → open_head s rounds q lane k ≡ None
none_open s rounds q lane k none =
    let disp = (queue_at s k).disp in
    let key : KeyId = record { 0 = k } in
    elim (cases_Bool (is_open s q lane key)) [
      | inl t ↦ rw t (none_by (disp_of s disp).kind (disp_of s disp).quotes (round_of rounds disp) q key none)
      | inr o ↦ rw o refl
    ]
