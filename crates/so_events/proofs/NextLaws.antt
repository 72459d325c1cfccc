-- What comes first in a queue is the demand that is next there, kind of dispatcher by kind.
use Rattle.std.proofs.Common.{◌≡◌, ℕ, zero, suc, ◌+◌, ◌-◌, ◌*◌, ◌<◌, ◌≤◌, List, [], ◌∷◌, ◌++◌, length, Bool, true, false, ◌&&◌, Option, Some, None, is_some, arith, refl, sym, ◌∙◌, ap, subst, inl, inr}
use Rattle.std.specs.Prelude.{◌==◌}
use Rattle.std.specs.List.{filter, find, list_any, AllByRecursion}
use Rattle.std.specs.Option.{option_map, option_and_then}
use Rattle.std.proofs.lemmas.Bool.{cases_Bool, cases_eq, eq-eqb, ne_eqb, eqb-true}
use Rattle.so_ids.specs.declared.AgentId.{AgentId}
use Rattle.so_ids.specs.declared.DemandId.{DemandId}
use Rattle.so_ids.specs.declared.DispId.{DispId}
use Rattle.so_ids.specs.declared.KeyId.{KeyId}
use Rattle.so_ids.specs.declared.Priority.{Priority}
use Rattle.so_ids.specs.Ids.{same_demand}
use Rattle.so_lists.specs.Lists.{head, or_else, first_below, each_below}
use Rattle.so_lists.proofs.EachBelow.{get_or-each_below}
use Rattle.so_lists.proofs.Filters.{each-weaker, each-filter, each_passes}
use Rattle.so_scene.specs.declared.lanes.Part.TheVariants as part
use Rattle.so_scene.specs.declared.lanes.Queue.{Queue}
use Rattle.so_scene.specs.declared.parts.DispKind.{DispKind}
use Rattle.so_scene.specs.declared.parts.DispKind.TheVariants.{OneThread, ActiveObj, ActiveGroup, ThreadPool, AdvThreadPool, StrictlyOrdered, QuotedRoundRobin, OnePerPrio}
use Rattle.so_scene.specs.declared.parts.SceneParts.{SceneParts}
use Rattle.so_scene.specs.declared.round.Round.{Round}
use Rattle.so_scene.specs.Parts.{agent_of, disp_of, priority_of}
use Rattle.so_scene.specs.Lanes.{keys, key_of, queue_of, queue_at, part_by, is_bound}
use Rattle.so_scene.specs.Rounds.{next_lower, down_from, has_demand, moved}
use Rattle.so_scene.proofs.LaneLaws.{its_key, same_queue-key}
use Rattle.so_queue.specs.Queues.{QueueTable, list_at, head_of, front_of_key}
use Rattle.so_disp_prio.specs.Pick.{first_with, waits_with, from_top, head_by}
use Rattle.so_deliver.proofs.CommitLaws.{low}
use Rattle.so_history.specs.declared.entry.Demand.{Demand}
use Rattle.so_history.specs.Safety.{kind_of}
use Rattle.so_history.specs.Heads.{is_of_priority, some_of_priority, first_of_priority, from_highest, first_of_highest, on_dispatcher, moved_round, in_queue, next_by}
use Rattle.so_history.proofs.NameLaws.{found_by_name}
use Rattle.so_events.specs.Events.{place_of}
use Rattle.so_events.specs.Tied.{AreInOrder, id_of, is_at, ids_at}
use Rattle.so_events.proofs.ListLaws.{filter_same_each, find_same_each, find-filtered}
use Rattle.so_events.proofs.NameOrder.{sorted_of, order-filter}
use Rattle.so_events.proofs.PickLaws.{is_on, each_all, front_is, head_found}

-- ---- the next in a queue, by its number and dispatcher

abbrev pub next_on : DispKind → SceneParts → List Demand → (DispId → Round) → KeyId → DispId → Option Demand
next_on StrictlyOrdered s ds rounds key disp = first_of_highest s (in_queue s key ds)
next_on QuotedRoundRobin s ds rounds key disp = first_of_priority s (in_queue s key ds) (moved_round s ds disp (rounds disp)).priority.level
next_on other s ds rounds key disp = head (in_queue s key ds)

by_on : (kind : DispKind) (s : SceneParts) (ds : List Demand) (rounds : DispId → Round) (a : AgentId) → next_by kind s ds rounds a ≡ next_on kind s ds rounds (key_of s a) (agent_of s a).disp
by_on OneThread s ds rounds a = refl
by_on ActiveObj s ds rounds a = refl
by_on ActiveGroup s ds rounds a = refl
by_on ThreadPool s ds rounds a = refl
by_on AdvThreadPool s ds rounds a = refl
by_on StrictlyOrdered s ds rounds a = refl
by_on QuotedRoundRobin s ds rounds a = refl
by_on OnePerPrio s ds rounds a = refl

pub next_at : (s : SceneParts) (ds : List Demand) (rounds : DispId → Round) (a : AgentId) (key : KeyId) (disp : DispId) → key_of s a ≡ key → (agent_of s a).disp ≡ disp →
    next_by (kind_of s a) s ds rounds a ≡ next_on (disp_of s disp).kind s ds rounds key disp
next_at s ds rounds a key disp k d =
    by_on (kind_of s a) s ds rounds a
    ∙ ap (λ x. next_on (kind_of s a) s ds rounds x (agent_of s a).disp) k
    ∙ ap (λ x. next_on (disp_of s x).kind s ds rounds key x) d

-- ---- it is one of the queue

first_of : (p : Demand → Bool) (ds : List Demand) → find p ds ≡ head (filter p ds)
first_of p [] = refl
first_of p (x ∷ ds) = elim (cases_Bool (p x)) [ inl t ↦ rw t refl | inr f ↦ rw f (first_of p ds) ]

head_first : (ds : List Demand) → head ds ≡ find (λ x. true) ds
head_first [] = refl
head_first (x ∷ ds) = refl

module _ (s : SceneParts) (ds : List Demand) (key : KeyId) (order : AreInOrder ds) where
  there : (p : Demand → Bool) (c : Demand) → find p (in_queue s key ds) ≡ Some c → find (λ x. same_demand c.id x.id) (in_queue s key ds) ≡ Some c
  there p c is = found_by_name p (in_queue s key ds) c (sorted_of (in_queue s key ds) (order-filter (λ d. (key_of s d.agent).0 == key.0) ds order)) is

  head_there : (c : Demand) → head (in_queue s key ds) ≡ Some c → find (λ x. same_demand c.id x.id) (in_queue s key ds) ≡ Some c
  head_there c is = there (λ x. true) c (sym (head_first (in_queue s key ds)) ∙ is)

  highest_there : (o : Option ℕ) (c : Demand) → option_and_then (first_of_priority s (in_queue s key ds)) o ≡ Some c → find (λ x. same_demand c.id x.id) (in_queue s key ds) ≡ Some c
  highest_there None c is = cc
  highest_there (Some p) c is = there (is_of_priority s p) c is

  pub next_there : (kind : DispKind) (rounds : DispId → Round) (disp : DispId) (c : Demand) → next_on kind s ds rounds key disp ≡ Some c → find (λ x. same_demand c.id x.id) (in_queue s key ds) ≡ Some c
  next_there OneThread rounds disp c is = head_there c is
  next_there ActiveObj rounds disp c is = head_there c is
  next_there ActiveGroup rounds disp c is = head_there c is
  next_there ThreadPool rounds disp c is = head_there c is
  next_there AdvThreadPool rounds disp c is = head_there c is
  next_there StrictlyOrdered rounds disp c is = highest_there (find (some_of_priority s (in_queue s key ds)) from_highest) c is
  next_there QuotedRoundRobin rounds disp c is = there (is_of_priority s (moved_round s ds disp (rounds disp)).priority.level) c is
  next_there OnePerPrio rounds disp c is = head_there c is

-- ---- the first of the highest priority

any_found : (p : Demand → Bool) (ds : List Demand) → list_any p ds ≡ is_some (find p ds)
any_found p [] = refl
any_found p (x ∷ ds) = elim (cases_Bool (p x)) [ inl t ↦ rw t refl | inr f ↦ rw f (any_found p ds) ]

map_else : (a b : Option Demand) → option_map id_of (or_else a b) ≡ or_else (option_map id_of a) (option_map id_of b)
map_else None b = refl
map_else (Some x) b = refl

some_else : (a b : Option Demand) → is_some a ≡ true → a ≡ or_else a b
some_else None b is = cc
some_else (Some x) b is = refl

none_there : (a : Option Demand) → is_some a ≡ false → None ≡ a
none_there None is = refl
none_there (Some x) is = cc

one_level : (F : ℕ → Option Demand) (has : ℕ → Bool) (y : ℕ) (b : Bool) → has y ≡ b → is_some (F y) ≡ b → option_and_then F (find has (y ∷ [])) ≡ F y
one_level F has y true on is = rw on refl
one_level F has y false off is = rw off (none_there (F y) is)

more_levels : (F : ℕ → Option Demand) (has : ℕ → Bool) (xs : List ℕ) (y : ℕ) → ((l : ℕ) → has l ≡ is_some (F l)) → option_and_then F (find has (xs ++ y ∷ [])) ≡ or_else (option_and_then F (find has xs)) (F y)
more_levels F has [] y same = one_level F has y (has y) refl (sym (same y))
more_levels F has (x ∷ xs) y same =
    elim (cases_Bool (has x)) [
      | inl t ↦ rw t (some_else (F x) (F y) (sym (same x) ∙ t))
      | inr f ↦ rw f (more_levels F has xs y same)
    ]

first_found : (F : ℕ → Option Demand) (has : ℕ → Bool) (f : ℕ → Option DemandId) (g : ℕ → ℕ) (n : ℕ) → ((l : ℕ) → has l ≡ is_some (F l)) → ((k : ℕ) → k < n → f k ≡ option_map id_of (F (g k))) →
    first_below f n ≡ option_map id_of (option_and_then F (find has (each_below g n)))
unfolding each_below
first_found F has f g zero same each = refl
first_found F has f g (suc n) same each =
    rw (first_found F has f g n same (λ k l. each k (omega arith)), each n (omega arith))
    (sym (map_else (option_and_then F (find has (each_below g n))) (F (g n))) ∙ ap (option_map id_of) (sym (more_levels F has (each_below g n) (g n) same)))

some_mapped : (o : Option Demand) → is_some (option_map id_of o) ≡ is_some o
some_mapped None = refl
some_mapped (Some x) = refl

-- ---- a round is moved alike over what has the same priorities

down_same : (has more : ℕ → Bool) (p : Priority) (n : ℕ) → ((q : Priority) → has q.level ≡ more q.level) → find (has_demand has) (down_from p n) ≡ find (has_demand more) (down_from p n)
down_same has more p zero same = refl
down_same has more p (suc n) same = rw (same (next_lower p), down_same has more (next_lower p) n same) refl

moved_same : (quotes : List ℕ) (has more : ℕ → Bool) (r : Round) → ((q : Priority) → has q.level ≡ more q.level) → moved quotes has r ≡ moved quotes more r
unfolding moved
moved_same quotes has more r same = rw (same r.priority, down_same has more r.priority 8 same) refl

-- ---- the agents of a dispatcher that goes by rounds share its queue

abbrev queue_whole : DispId → Queue
queue_whole disp = record { disp = disp; part = part.Whole }

abbrev queue_by : SceneParts → AgentId → DispId → DispKind → Queue
queue_by s a disp kind = record { disp = disp; part = part_by kind (disp_of s disp).fifo a (agent_of s a) }

whole : (s : SceneParts) (a : AgentId) (disp : DispId) → (agent_of s a).disp ≡ disp → (disp_of s disp).kind ≡ QuotedRoundRobin → queue_of s a ≡ queue_whole disp
whole s a disp is kind = ap (λ d. queue_by s a d (disp_of s d).kind) is ∙ ap (queue_by s a disp) kind

-- a demand that stands in a queue is of an agent of its dispatcher
pub on_key : (s : SceneParts) (k : ℕ) (x : Demand) → is_on s k x ≡ true → key_of s x.agent ≡ record { 0 = k }
on_key s k x on = ap (λ n. record { 0 = n }) (eqb-true (key_of s x.agent).0 k on)

pub on_queue : (s : SceneParts) (k : ℕ) (x : Demand) → x.agent.0 < length s.agents → is_on s k x ≡ true → queue_of s x.agent ≡ queue_at s k
on_queue s k x known on = sym (its_key s x.agent known).same ∙ ap (λ (key : KeyId). queue_at s key.0) (on_key s k x on)

pub on_disp : (s : SceneParts) (k : ℕ) (x : Demand) (disp : DispId) → x.agent.0 < length s.agents → (queue_at s k).disp ≡ disp → is_on s k x ≡ true → (agent_of s x.agent).disp ≡ disp
on_disp s k x disp known its on = ap (λ (q : Queue). q.disp) (on_queue s k x known on) ∙ its

both_false : (a b : Bool) → (a ≡ true → b ≡ true) → (b ≡ true → a ≡ true) → a ≡ b
both_false true b f g = sym (f refl)
both_false false true f g = g refl
both_false false false f g = refl

on_bound : (s : SceneParts) (k : ℕ) (disp : DispId) (y x : Demand) → (queue_at s k).disp ≡ disp → (disp_of s disp).kind ≡ QuotedRoundRobin → y.agent.0 < length s.agents → is_on s k y ≡ true → x.agent.0 < length s.agents → is_on s k x ≡ is_bound s disp x.agent
on_bound s k disp y x its kind known on there =
    both_false (is_on s k x) (is_bound s disp x.agent)
    (λ t. eq-eqb (agent_of s x.agent).disp.0 disp.0 (ap (λ (d : DispId). d.0) (on_disp s k x disp there its t)))
    (λ t.
    let bound : (agent_of s x.agent).disp ≡ disp = ap (λ n. record { 0 = n }) (eqb-true (agent_of s x.agent).disp.0 disp.0 t) in
    let queue : queue_of s x.agent ≡ queue_of s y.agent = whole s x.agent disp bound kind ∙ sym (whole s y.agent disp (on_disp s k y disp known its on) kind) in
    eq-eqb (key_of s x.agent).0 k (ap (λ (key : KeyId). key.0) (same_queue-key s x.agent y.agent queue ∙ on_key s k y on)))

-- ---- the head of a queue

at_both : (s : SceneParts) (k l : ℕ) (x : Demand) → l < 8 → is_at s (8 * k + l) x ≡ (is_on s k x && is_of_priority s l x)
at_both s k l x few =
    let level : (priority_of s x.agent).level ≤ 7 = low s x.agent in
    elim (cases_eq (key_of s x.agent).0 k) [
      | inl same ↦
          elim (cases_eq (priority_of s x.agent).level l) [
            | inl here ↦ eq-eqb (place_of s x) (8 * k + l) (omega arith) ∙ sym (rw (eq-eqb (key_of s x.agent).0 k same, eq-eqb (priority_of s x.agent).level l here) refl)
            | inr other ↦ ne_eqb (place_of s x) (8 * k + l) (λ e. other (omega arith)) ∙ sym (rw (eq-eqb (key_of s x.agent).0 k same, ne_eqb (priority_of s x.agent).level l other) refl)
          ]
      | inr apart ↦ ne_eqb (place_of s x) (8 * k + l) (λ e. apart (omega arith)) ∙ sym (rw (ne_eqb (key_of s x.agent).0 k apart) refl)
    ]

module _ (s : SceneParts) (ds : List Demand) (q : QueueTable) (k : ℕ) (order : AreInOrder ds) (known : AllByRecursion (λ (x : Demand). x.agent.0 < length s.agents) ds)
    (are : q.lists ≡ each_below (ids_at s ds) (8 * keys s)) (within : k < keys s) where
  abbrev its : KeyId
  its = record { 0 = k }

  level_is : (l : ℕ) → l < 8 → first_with q its l ≡ option_map id_of (first_of_priority s (in_queue s its ds) l)
  level_is l few =
      ap head_of (ap (λ ls. list_at ls (8 * k + l)) are ∙ get_or-each_below (ids_at s ds) (8 * keys s) (8 * k + l) [] (omega arith))
      ∙ head_found (is_at s (8 * k + l)) ds
      ∙ ap (option_map id_of)
      (find_same_each (is_at s (8 * k + l)) (λ x. is_on s k x && is_of_priority s l x) ds (each_all (λ x. is_at s (8 * k + l) x ≡ (is_on s k x && is_of_priority s l x)) ds (λ x. at_both s k l x few))
      ∙ sym (find-filtered (is_of_priority s l) (is_on s k) ds))

  front_next : front_of_key q.lists k ≡ option_map id_of (head (in_queue s its ds))
  front_next = front_is s ds q.lists k order are within ∙ ap (option_map id_of) (first_of (is_on s k) ds)

  highest_next : first_below (from_top q its) 8 ≡ option_map id_of (first_of_highest s (in_queue s its ds))
  highest_next =
      first_found (first_of_priority s (in_queue s its ds)) (some_of_priority s (in_queue s its ds)) (from_top q its) (λ j. 7 - j) 8
      (λ l. any_found (is_of_priority s l) (in_queue s its ds)) (λ j l. level_is (7 - j) (omega arith))

  waits_is : (p : Priority) → waits_with q its p.level ≡ some_of_priority s (in_queue s its ds) p.level
  waits_is p =
      ap is_some (level_is p.level (omega (arith, p.in_range)))
      ∙ some_mapped (first_of_priority s (in_queue s its ds) p.level)
      ∙ sym (any_found (is_of_priority s p.level) (in_queue s its ds))

  module _ (disp : DispId) (on : (queue_at s k).disp ≡ disp) where
    -- its demands are those of the dispatcher
    members : (y : Demand) (ys : List Demand) → (disp_of s disp).kind ≡ QuotedRoundRobin → in_queue s its ds ≡ y ∷ ys → in_queue s its ds ≡ on_dispatcher s disp ds
    members y ys kind is =
        let there : AllByRecursion (λ (x : Demand). is_on s k x ≡ true) (y ∷ ys) = subst (AllByRecursion (λ (x : Demand). is_on s k x ≡ true)) is (each_passes (is_on s k) ds) in
        let mine : AllByRecursion (λ (x : Demand). x.agent.0 < length s.agents) (y ∷ ys) = subst (AllByRecursion (λ (x : Demand). x.agent.0 < length s.agents)) is (each-filter (λ (x : Demand). x.agent.0 < length s.agents) (is_on s k) ds known) in
        filter_same_each (is_on s k) (λ x. is_bound s disp x.agent) ds
        (each-weaker (λ (x : Demand). x.agent.0 < length s.agents) (λ (x : Demand). is_on s k x ≡ is_bound s disp x.agent) (λ x l. on_bound s k disp y x on kind mine.0 there.0 l) ds known)

    levels : (quotes : List ℕ) (r : Round) (qs : List Demand) → (disp_of s disp).kind ≡ QuotedRoundRobin → in_queue s its ds ≡ qs →
        first_of_priority s (in_queue s its ds) (moved quotes (waits_with q its) r).priority.level ≡ first_of_priority s (in_queue s its ds) (moved quotes (some_of_priority s (on_dispatcher s disp ds)) r).priority.level
    levels quotes r [] kind is = rw is refl
    levels quotes r (y ∷ ys) kind is =
        ap (λ (m : Round). first_of_priority s (in_queue s its ds) m.priority.level)
        (moved_same quotes (waits_with q its) (some_of_priority s (on_dispatcher s disp ds)) r
        (λ p. waits_is p ∙ ap (λ qs. some_of_priority s qs p.level) (members y ys kind is)))

    quoted_next : (quotes : List ℕ) (r : Round) → (disp_of s disp).kind ≡ QuotedRoundRobin →
        first_with q its (moved quotes (waits_with q its) r).priority.level ≡ option_map id_of (first_of_priority s (in_queue s its ds) (moved quotes (some_of_priority s (on_dispatcher s disp ds)) r).priority.level)
    quoted_next quotes r kind =
        level_is (moved quotes (waits_with q its) r).priority.level (omega (arith, (moved quotes (waits_with q its) r).priority.in_range))
        ∙ ap (option_map id_of) (levels quotes r (in_queue s its ds) kind refl)

    pub head_next : (kind : DispKind) (rounds : DispId → Round) → (disp_of s disp).kind ≡ kind → head_by kind (disp_of s disp).quotes (rounds disp) q its ≡ option_map id_of (next_on kind s ds rounds its disp)
    head_next OneThread rounds is = front_next
    head_next ActiveObj rounds is = front_next
    head_next ActiveGroup rounds is = front_next
    head_next ThreadPool rounds is = front_next
    head_next AdvThreadPool rounds is = front_next
    head_next StrictlyOrdered rounds is = highest_next
    head_next QuotedRoundRobin rounds is = quoted_next (disp_of s disp).quotes (rounds disp) is
    head_next OnePerPrio rounds is = front_next
