-- What a dispatcher picks from the queues is the first demand that the lane may take.
use Rattle.std.proofs.Common.{◌≡◌, ℕ, ◌*◌, ◌<◌, List, [], ◌∷◌, length, Bool, true, false, ◌&&◌, Option, Some, None, if◌then◌else◌, refl, sym, ◌∙◌, ap, inl, inr}
use Rattle.std.specs.Prelude.{◌==◌, slice_index_or}
use Rattle.std.specs.List.{find, AllByRecursion}
use Rattle.std.specs.Option.{option_map}
use Rattle.std.proofs.lemmas.Bool.{cases_Bool, and_parts, eq-eqb, ne_eqb, eqb-true}
use Rattle.so_ids.specs.declared.DemandId.{DemandId}
use Rattle.so_ids.specs.declared.DispId.{DispId}
use Rattle.so_ids.specs.declared.KeyId.{KeyId}
use Rattle.so_ids.specs.declared.LaneId.{LaneId}
use Rattle.so_ids.specs.Ids.{same_demand}
use Rattle.so_lists.specs.Lists.{each_below}
use Rattle.so_lists.proofs.Filters.{each-weaker, each-filter, each_passes, both_each}
use Rattle.so_scene.specs.declared.parts.DispKind.{DispKind}
use Rattle.so_scene.specs.declared.parts.DispKind.TheVariants.{OneThread, ActiveObj, ActiveGroup, ThreadPool, AdvThreadPool, StrictlyOrdered, QuotedRoundRobin, OnePerPrio}
use Rattle.so_scene.specs.declared.parts.SceneParts.{SceneParts}
use Rattle.so_scene.specs.declared.round.Round.{Round}
use Rattle.so_scene.specs.Parts.{agent_of, disp_of}
use Rattle.so_scene.specs.Lanes.{keys, key_of, queue_at, lane_at, serves_part, serves}
use Rattle.so_scene.proofs.LaneLaws.{key_in_range}
use Rattle.so_queue.specs.Queues.{QueueTable, front_of_key}
use Rattle.so_queue.specs.Picks.{is_quiet, least_below}
use Rattle.so_disp_excl.specs.Pick.{pick as pick_exclusive, open_front as open_exclusive}
use Rattle.so_disp_adv.specs.declared.heads.HeadClass.{HeadClass}
use Rattle.so_disp_adv.specs.declared.heads.HeadClass.TheVariants.{Exclusive, Safe, Skip}
use Rattle.so_disp_adv.specs.Pick.{may_be_taken, open_demand, pick as pick_beside, open_front as open_beside}
use Rattle.so_disp_prio.specs.Pick.{head, head_by, head_on, round_of, pick as pick_by_priority, open_head}
use Rattle.so_history.specs.declared.entry.Demand.{Demand}
use Rattle.so_history.specs.Safety.{lets_overlap}
use Rattle.so_history.specs.Heads.{in_queue, is_it, is_next_among}
use Rattle.so_history.proofs.NameLaws.{same_place}
use Rattle.so_events.specs.Events.{EventTable, allows, may_take_by}
use Rattle.so_events.specs.Tied.{AreInOrder, id_of, ids_at, IsTied}
use Rattle.so_events.specs.Picked.{picked_on}
use Rattle.so_events.proofs.ListLaws.{find_same_each, find-filtered}
use Rattle.so_events.proofs.PickLaws.{is_on, any_below, any_at, find_never, each_all, least_found}
use Rattle.so_events.proofs.NextLaws.{next_on, next_at, next_there, on_key, on_disp, head_next}

-- ---- of a queue at most the next passes

-- a demand, where it passes
abbrev pub open_by : (DemandId → Bool) → Option DemandId → Option DemandId
open_by g None = None
open_by g (Some d) = if g d then Some d else None

open_same : (g h : DemandId → Bool) (o : Option DemandId) → ((d : DemandId) → g d ≡ h d) → open_by g o ≡ open_by h o
open_same g h None same = refl
open_same g h (Some d) same = rw (same d) refl

never_passes : (g : DemandId → Bool) (c : DemandId) (qs : List Demand) → g c ≡ false → find (λ x. same_demand c x.id && g x.id) qs ≡ None
never_passes g c [] off = refl
never_passes g c (x ∷ qs) off =
    elim (cases_Bool (same_demand c x.id)) [
      | inl t ↦ (let gone : g x.id ≡ false = ap g (sym (same_place c x.id t)) ∙ off in rw (t, gone) (never_passes g c qs off))
      | inr f ↦ rw f (never_passes g c qs off)
    ]

one_passes : (g : DemandId → Bool) (c : Demand) (qs : List Demand) → find (λ x. same_demand c.id x.id) qs ≡ Some c → option_map id_of (find (λ x. same_demand c.id x.id && g x.id) qs) ≡ open_by g (Some c.id)
one_passes g c [] is = cc
one_passes g c (x ∷ qs) is =
    elim (cases_Bool (same_demand c.id x.id)) [
      | inl t ↦
          (let its : c.id ≡ x.id = same_place c.id x.id t in
          elim (cases_Bool (g c.id)) [
            | inl on ↦ (let here : g x.id ≡ true = ap g (sym its) ∙ on in rw (t, here, on) (ap (λ (d : DemandId). Some d) (sym its)))
            | inr off ↦ (let here : g x.id ≡ false = ap g (sym its) ∙ off in rw (t, here, off) (ap (option_map id_of) (never_passes g c.id qs off)))
          ])
      | inr f ↦ (let rest = (rw f at is) in rw f (one_passes g c qs rest))
    ]

next_passes : (g : DemandId → Bool) (n : Option Demand) (qs : List Demand) → ((c : Demand) → n ≡ Some c → find (λ x. same_demand c.id x.id) qs ≡ Some c) → option_map id_of (find (λ x. is_it x n && g x.id) qs) ≡ open_by g (option_map id_of n)
next_passes g None qs there = ap (option_map id_of) (find_never qs)
next_passes g (Some c) qs there = one_passes g c qs (there c refl)

-- ---- the least of what is found queue by queue

pub least_is : (s : SceneParts) (ds : List Demand) (may : Demand → Bool) (f : ℕ → Option DemandId) → AreInOrder ds → AllByRecursion (λ (x : Demand). x.agent.0 < length s.agents) ds →
    ((k : ℕ) → k < keys s → f k ≡ option_map id_of (find (λ x. is_on s k x && may x) ds)) → least_below f (keys s) ≡ option_map id_of (find may ds)
least_is s ds may f order known each =
    least_found f (λ k x. is_on s k x && may x) ds (keys s) order each
    ∙ ap (option_map id_of)
    (find_same_each (λ x. any_below (λ k. is_on s k x && may x) (keys s)) may ds
    (each-weaker (λ (x : Demand). x.agent.0 < length s.agents) (λ (x : Demand). any_below (λ k. is_on s k x && may x) (keys s) ≡ may x)
    (λ x l.
    let key = key_of s x.agent in
    any_at (λ k. is_on s k x && may x) (keys s) key.0 (key_in_range s x.agent l) (λ j m apart. ap (λ b. b && may x) (ne_eqb key.0 j (λ e. apart (sym e))))
    ∙ ap (λ b. b && may x) (eq-eqb key.0 key.0 refl)) ds known))

served_disp : (s : SceneParts) (lane : LaneId) (k : ℕ) → serves s lane (record { 0 = k }) ≡ true → (queue_at s k).disp ≡ (lane_at s lane).disp
unfolding serves
served_disp s lane k is =
    ap (λ n. record { 0 = n })
    (sym (eqb-true (lane_at s lane).disp.0 (queue_at s k).disp.0 (and_parts ((lane_at s lane).disp.0 == (queue_at s k).disp.0) (serves_part (lane_at s lane).part (queue_at s k).part) is).0))

-- ---- a pick, queue by queue

module _ (t : EventTable) (q : QueueTable) (class : DemandId → HeadClass) (lane : LaneId) (order : AreInOrder t.waiting) (known : AllByRecursion (λ (x : Demand). x.agent.0 < length t.scene.agents) t.waiting)
    (are : q.lists ≡ each_below (ids_at t.scene t.waiting) (8 * keys t.scene)) where
  abbrev disp : DispId
  disp = (lane_at t.scene lane).disp

  abbrev next : ℕ → Option Demand
  next k = next_on (disp_of t.scene disp).kind t.scene t.waiting (round_of t.rounds) (record { 0 = k }) disp

  -- in a queue that the lane doesn't serve none may be taken, and in one that it serves the next, where it is allowed
  shut : (k : ℕ) (x : Demand) → serves t.scene lane (record { 0 = k }) ≡ false → is_on t.scene k x ≡ true → may_take_by t class lane x ≡ false
  shut k x off on =
      let served : serves t.scene lane (key_of t.scene x.agent) ≡ false = ap (serves t.scene lane) (on_key t.scene k x on) ∙ off in
      ap (λ b. b && (is_next_among t.scene t.waiting (round_of t.rounds) x && allows t (key_of t.scene x.agent) (class x.id))) served

  opened : (k : ℕ) (x : Demand) → serves t.scene lane (record { 0 = k }) ≡ true → x.agent.0 < length t.scene.agents → is_on t.scene k x ≡ true →
      may_take_by t class lane x ≡ (is_it x (next k) && allows t (record { 0 = k }) (class x.id))
  opened k x on there here =
      let key : key_of t.scene x.agent ≡ record { 0 = k } = on_key t.scene k x here in
      let its : (agent_of t.scene x.agent).disp ≡ disp = on_disp t.scene k x disp there (served_disp t.scene lane k on) here in
      ap (λ b. b && (is_next_among t.scene t.waiting (round_of t.rounds) x && allows t (key_of t.scene x.agent) (class x.id))) (ap (serves t.scene lane) key ∙ on)
      ∙ ap (λ n. is_it x n && allows t (key_of t.scene x.agent) (class x.id)) (next_at t.scene t.waiting (round_of t.rounds) x.agent (record { 0 = k }) disp key its)
      ∙ ap (λ (i : KeyId). is_it x (next k) && allows t i (class x.id)) key

  none_found : (k : ℕ) → serves t.scene lane (record { 0 = k }) ≡ false → None ≡ option_map id_of (find (λ x. is_on t.scene k x && may_take_by t class lane x) t.waiting)
  none_found k off =
      ap (option_map id_of)
      (sym
      (find_same_each (λ x. is_on t.scene k x && may_take_by t class lane x) (λ x. false) t.waiting
      (each_all (λ x. (is_on t.scene k x && may_take_by t class lane x) ≡ false) t.waiting
      (λ x. elim (cases_Bool (is_on t.scene k x)) [ inl on ↦ rw on (shut k x off on) | inr f ↦ rw f refl ]))
      ∙ find_never t.waiting))

  one_found : (k : ℕ) → serves t.scene lane (record { 0 = k }) ≡ true → option_map id_of (find (λ x. is_on t.scene k x && may_take_by t class lane x) t.waiting) ≡ open_by (λ d. allows t (record { 0 = k }) (class d)) (option_map id_of (next k))
  one_found k on =
      ap (option_map id_of)
      (sym (find-filtered (may_take_by t class lane) (is_on t.scene k) t.waiting)
      ∙ find_same_each (may_take_by t class lane) (λ x. is_it x (next k) && allows t (record { 0 = k }) (class x.id)) (in_queue t.scene (record { 0 = k }) t.waiting)
      (each-weaker (λ (x : Demand). (x.agent.0 < length t.scene.agents) × (is_on t.scene k x ≡ true)) (λ (x : Demand). may_take_by t class lane x ≡ (is_it x (next k) && allows t (record { 0 = k }) (class x.id)))
      (λ x h. opened k x on h.0 h.1) (in_queue t.scene (record { 0 = k }) t.waiting)
      (both_each (λ (x : Demand). x.agent.0 < length t.scene.agents) (λ (x : Demand). is_on t.scene k x ≡ true) (in_queue t.scene (record { 0 = k }) t.waiting)
      (each-filter (λ (x : Demand). x.agent.0 < length t.scene.agents) (is_on t.scene k) t.waiting known) (each_passes (is_on t.scene k) t.waiting))))
      ∙ next_passes (λ d. allows t (record { 0 = k }) (class d)) (next k) (in_queue t.scene (record { 0 = k }) t.waiting) (next_there t.scene t.waiting (record { 0 = k }) order (disp_of t.scene disp).kind (round_of t.rounds) disp)

  -- what a pick does with each queue
  pub record GoesByQueues (f : ℕ → Option DemandId) : Type 0 where
    pub unserved : (k : ℕ) → serves t.scene lane (record { 0 = k }) ≡ false → f k ≡ None
    pub served : (k : ℕ) → serves t.scene lane (record { 0 = k }) ≡ true → f k ≡ open_by (λ d. allows t (record { 0 = k }) (class d)) (head_by (disp_of t.scene disp).kind (disp_of t.scene disp).quotes (round_of t.rounds disp) q (record { 0 = k }))

  queue_case : (f : ℕ → Option DemandId) (k : ℕ) → k < keys t.scene → GoesByQueues f → f k ≡ option_map id_of (find (λ x. is_on t.scene k x && may_take_by t class lane x) t.waiting)
  queue_case f k within goes =
      elim (cases_Bool (serves t.scene lane (record { 0 = k }))) [
        | inl on ↦
            goes.served k on
            ∙ ap (open_by (λ d. allows t (record { 0 = k }) (class d))) (head_next t.scene t.waiting q k order known are within disp (served_disp t.scene lane k on) (disp_of t.scene disp).kind (round_of t.rounds) refl)
            ∙ sym (one_found k on)
        | inr off ↦ goes.unserved k off ∙ none_found k off
      ]

  pub goes_first : (f : ℕ → Option DemandId) → GoesByQueues f → least_below f (keys t.scene) ≡ option_map id_of (find (may_take_by t class lane) t.waiting)
  goes_first f goes = least_is t.scene t.waiting (may_take_by t class lane) f order known (λ k within. queue_case f k within goes)

-- ---- where thread-safe turns don't overlap, a demand of any class is allowed where no turn runs

allows_alone : (t : EventTable) (q : QueueTable) (key : KeyId) (c : HeadClass) → t.safe ≡ q.safe → t.exclusive ≡ q.exclusive → slice_index_or q.safe key.0 0 ≡ 0 → is_quiet q key ≡ allows t key c
allows_alone t q key Exclusive safe exclusive none = rw (safe, exclusive) refl
allows_alone t q key Safe safe exclusive none = rw (none, exclusive) refl
allows_alone t q key Skip safe exclusive none = rw (none, exclusive) refl

allows_beside : (t : EventTable) (q : QueueTable) (key : KeyId) (c : HeadClass) → t.safe ≡ q.safe → t.exclusive ≡ q.exclusive → may_be_taken c q key ≡ allows t key c
allows_beside t q key Exclusive safe exclusive = rw (safe, exclusive) refl
allows_beside t q key Safe safe exclusive = rw exclusive refl
allows_beside t q key Skip safe exclusive = rw exclusive refl

where_quiet : (b : Bool) (o : Option DemandId) → if b then o else None ≡ open_by (λ d. b) o
where_quiet true None = refl
where_quiet true (Some d) = refl
where_quiet false None = refl
where_quiet false (Some d) = refl

shut_beside : (s : SceneParts) (q : QueueTable) (class : DemandId → HeadClass) (lane : LaneId) (key : KeyId) (o : Option DemandId) → serves s lane key ≡ false → open_demand s q class lane key o ≡ None
shut_beside s q class lane key None off = refl
shut_beside s q class lane key (Some d) off = rw off refl

opened_beside : (s : SceneParts) (q : QueueTable) (class : DemandId → HeadClass) (lane : LaneId) (key : KeyId) (o : Option DemandId) → serves s lane key ≡ true → open_demand s q class lane key o ≡ open_by (λ d. may_be_taken (class d) q key) o
opened_beside s q class lane key None on = refl
opened_beside s q class lane key (Some d) on = rw on refl

-- a lane that serves a queue on which thread-safe turns don't overlap finds none running
counts_none : (s : SceneParts) (all ds : List Demand) (q : QueueTable) (cap : ℕ) (lane : LaneId) (k : ℕ) → IsTied s all ds q cap → serves s lane (record { 0 = k }) ≡ true → lets_overlap (disp_of s (lane_at s lane).disp).kind ≡ false → slice_index_or q.safe k 0 ≡ 0
counts_none s all ds q cap lane k tied on alone = tied.overlap k (ap (λ (d : DispId). lets_overlap (disp_of s d).kind) (served_disp s lane k on) ∙ alone)

module _ (t : EventTable) (all : List Demand) (q : QueueTable) (cap : ℕ) (class : DemandId → HeadClass) (lane : LaneId) (tied : IsTied t.scene all t.waiting q cap)
    (order : AreInOrder t.waiting) (known : AllByRecursion (λ (x : Demand). x.agent.0 < length t.scene.agents) t.waiting) (safe : t.safe ≡ q.safe) (exclusive : t.exclusive ≡ q.exclusive) where
  abbrev kind_here : DispKind
  kind_here = (disp_of t.scene (lane_at t.scene lane).disp).kind

  abbrev Goes : (ℕ → Option DemandId) → Type 0
  Goes f = GoesByQueues t q class lane order known tied.lists f

  quiet_is : (k : ℕ) → serves t.scene lane (record { 0 = k }) ≡ true → lets_overlap kind_here ≡ false → (d : DemandId) → is_quiet q (record { 0 = k }) ≡ allows t (record { 0 = k }) (class d)
  quiet_is k on alone d = allows_alone t q (record { 0 = k }) (class d) safe exclusive (counts_none t.scene all t.waiting q cap lane k tied on alone)

  exclusive_goes : lets_overlap kind_here ≡ false → ((k : ℕ) → head_by kind_here (disp_of t.scene (lane_at t.scene lane).disp).quotes (round_of t.rounds (lane_at t.scene lane).disp) q (record { 0 = k }) ≡ front_of_key q.lists k) → Goes (open_exclusive t.scene q lane)
  exclusive_goes alone fronts = record {
    unserved = λ k off. rw off refl;
    served = λ k on.
        ap (λ b. if b && is_quiet q (record { 0 = k }) then front_of_key q.lists k else None) on
        ∙ where_quiet (is_quiet q (record { 0 = k })) (front_of_key q.lists k)
        ∙ open_same (λ d. is_quiet q (record { 0 = k })) (λ d. allows t (record { 0 = k }) (class d)) (front_of_key q.lists k) (quiet_is k on alone)
        ∙ ap (open_by (λ d. allows t (record { 0 = k }) (class d))) (sym (fronts k));
  }

  beside_goes : kind_here ≡ AdvThreadPool → Goes (open_beside t.scene q class lane)
  beside_goes is = record {
    unserved = λ k off. shut_beside t.scene q class lane (record { 0 = k }) (front_of_key q.lists k) off;
    served = λ k on.
        opened_beside t.scene q class lane (record { 0 = k }) (front_of_key q.lists k) on
        ∙ open_same (λ d. may_be_taken (class d) q (record { 0 = k })) (λ d. allows t (record { 0 = k }) (class d)) (front_of_key q.lists k) (λ d. allows_beside t q (record { 0 = k }) (class d) safe exclusive)
        ∙ ap (λ kind. open_by (λ d. allows t (record { 0 = k }) (class d)) (head_by kind (disp_of t.scene (lane_at t.scene lane).disp).quotes (round_of t.rounds (lane_at t.scene lane).disp) q (record { 0 = k }))) (sym is);
  }

  priority_goes : lets_overlap kind_here ≡ false → Goes (open_head t.scene t.rounds q lane)
  priority_goes alone = record {
    unserved = λ k off. rw off refl;
    served = λ k on.
        ap (λ b. if b && is_quiet q (record { 0 = k }) then head t.scene t.rounds q (record { 0 = k }) else None) on
        ∙ where_quiet (is_quiet q (record { 0 = k })) (head t.scene t.rounds q (record { 0 = k }))
        ∙ open_same (λ d. is_quiet q (record { 0 = k })) (λ d. allows t (record { 0 = k }) (class d)) (head t.scene t.rounds q (record { 0 = k })) (quiet_is k on alone)
        ∙ ap (λ (d : DispId). open_by (λ d. allows t (record { 0 = k }) (class d)) (head_on (disp_of t.scene d) (round_of t.rounds d) q (record { 0 = k }))) (served_disp t.scene lane k on);
  }

  exclusive_is : (kind : DispKind) → kind_here ≡ kind → lets_overlap kind ≡ false → ((quotes : List ℕ) (r : Round) (key : KeyId) → head_by kind quotes r q key ≡ front_of_key q.lists key.0) → pick_exclusive t.scene q lane ≡ option_map id_of (find (may_take_by t class lane) t.waiting)
  unfolding pick_exclusive
  exclusive_is kind is alone fronts =
      goes_first t q class lane order known tied.lists (open_exclusive t.scene q lane)
      (exclusive_goes (ap lets_overlap is ∙ alone)
      (λ k. ap (λ x. head_by x (disp_of t.scene (lane_at t.scene lane).disp).quotes (round_of t.rounds (lane_at t.scene lane).disp) q (record { 0 = k })) is ∙ fronts (disp_of t.scene (lane_at t.scene lane).disp).quotes (round_of t.rounds (lane_at t.scene lane).disp) (record { 0 = k })))

  beside_is : kind_here ≡ AdvThreadPool → pick_beside t.scene q class lane ≡ option_map id_of (find (may_take_by t class lane) t.waiting)
  unfolding pick_beside
  beside_is is = goes_first t q class lane order known tied.lists (open_beside t.scene q class lane) (beside_goes is)

  priority_is : lets_overlap kind_here ≡ false → pick_by_priority t.scene t.rounds q lane ≡ option_map id_of (find (may_take_by t class lane) t.waiting)
  unfolding pick_by_priority
  priority_is alone = goes_first t q class lane order known tied.lists (open_head t.scene t.rounds q lane) (priority_goes alone)

  pub picked_is : (kind : DispKind) → kind_here ≡ kind → picked_on kind t.scene q t.rounds class lane ≡ option_map id_of (find (may_take_by t class lane) t.waiting)
  picked_is OneThread is = exclusive_is OneThread is refl (λ quotes r key. refl)
  picked_is ActiveObj is = exclusive_is ActiveObj is refl (λ quotes r key. refl)
  picked_is ActiveGroup is = exclusive_is ActiveGroup is refl (λ quotes r key. refl)
  picked_is ThreadPool is = exclusive_is ThreadPool is refl (λ quotes r key. refl)
  picked_is AdvThreadPool is = beside_is is
  picked_is StrictlyOrdered is = priority_is (ap lets_overlap is)
  picked_is QuotedRoundRobin is = priority_is (ap lets_overlap is)
  picked_is OnePerPrio is = exclusive_is OnePerPrio is refl (λ quotes r key. refl)
