-- How many demands wait for each lane, after one more or one less.
use Rattle.std.proofs.Common.{◌≡◌, ℕ, ◌+◌, ◌-◌, ◌<◌, ◌≤◌, List, [], ◌∷◌, ◌++◌, length, Bool, true, false, cond, Some, None, arith, refl, sym, ◌∙◌, ap, subst, inl, inr}
use Rattle.std.specs.Prelude.{slice_index_or, slice_set, replicate}
use Rattle.std.specs.List.{find, AllByRecursion}
use Rattle.std.proofs.lemmas.Bool.{cases_Bool, cases_lt, eq-eqb, ne_eqb}
use Rattle.std.proofs.lemmas.List.Sums.{sum_by_push, sum_by-cons, count_by-le-length}
use Rattle.so_ids.specs.declared.DemandId.{DemandId}
use Rattle.so_ids.specs.Ids.{is_earlier}
use Rattle.so_lists.specs.Lists.{each_below}
use Rattle.so_lists.proofs.Filters.{found, each-weaker}
use Rattle.so_lists.proofs.EachBelow.{length-each_below, get_or-each_below, each_below-set, each_below-replicate}
use Rattle.so_scene.specs.declared.parts.SceneParts.{SceneParts}
use Rattle.so_scene.specs.Lanes.{key_of, lanes, serves}
use Rattle.so_scene.proofs.LaneLaws.{key_in_range}
use Rattle.so_disp_adv.specs.declared.heads.HeadClass.{HeadClass}
use Rattle.so_history.specs.declared.entry.Demand.{Demand}
use Rattle.so_history.specs.Demands.{without}
use Rattle.so_history.proofs.NameLaws.{itself}
use Rattle.so_events.specs.Events.{EventTable, may_take_by}
use Rattle.so_events.specs.Tied.{AreInOrder, is_at}
use Rattle.so_events.specs.declared.counts.LaneCounts.{LaneCounts}
use Rattle.so_events.specs.Counts.{AreFirst, IsCounted, first_for, waits_for, waiting_for, one_demand_more, one_demand_less}
use Rattle.so_events.proofs.NameOrder.{other_way}

-- no demand waits
pub none_wait : (s : SceneParts) (firsts : List ℕ) → replicate (lanes s + 1) 0 ≡ each_below (waiting_for s firsts []) (lanes s + 1)
none_wait s firsts = sym (each_below-replicate (waiting_for s firsts []) (lanes s + 1) 0 (λ i. refl))

-- the lane for which an agent's demands wait has its count
pub first_within : (s : SceneParts) (firsts : List ℕ) (d : Demand) → AreFirst s firsts → d.agent.0 < length s.agents → first_for s firsts d.agent < lanes s + 1
first_within s firsts d are known = omega (arith, are.within (key_of s d.agent).0 (key_in_range s d.agent known))

pub counted_at : (s : SceneParts) (firsts counts : List ℕ) (ds : List Demand) (l : ℕ) → counts ≡ each_below (waiting_for s firsts ds) (lanes s + 1) → l < lanes s + 1 → slice_index_or counts l 0 ≡ waiting_for s firsts ds l
counted_at s firsts counts ds l are within = ap (λ c. slice_index_or c l 0) are ∙ get_or-each_below (waiting_for s firsts ds) (lanes s + 1) l 0 within

-- a list of counts in which one has changed
one_changed : (s : SceneParts) (firsts counts : List ℕ) (ds new : List Demand) (l n : ℕ) → counts ≡ each_below (waiting_for s firsts ds) (lanes s + 1) → l < lanes s + 1 → waiting_for s firsts new l ≡ n → ((j : ℕ) → (j ≡ l → ⊥) → waiting_for s firsts new j ≡ waiting_for s firsts ds j) →
    slice_set counts l n ≡ each_below (waiting_for s firsts new) (lanes s + 1)
one_changed s firsts counts ds new l n are within here others =
    ap (λ c. slice_set c l n) are ∙ sym (each_below-set (waiting_for s firsts ds) (waiting_for s firsts new) (lanes s + 1) l n within here (λ j k apart. others j apart))

-- ---- one more

more_here : (s : SceneParts) (firsts : List ℕ) (ds : List Demand) (d : Demand) → waiting_for s firsts (ds ++ d ∷ []) (first_for s firsts d.agent) ≡ waiting_for s firsts ds (first_for s firsts d.agent) + 1
more_here s firsts ds d =
    let l = first_for s firsts d.agent in
    sum_by_push (λ x. cond (waits_for s firsts l x) 1 0) ds d ∙ ap (λ b. waiting_for s firsts ds l + cond b 1 0) (eq-eqb l l refl)

more_elsewhere : (s : SceneParts) (firsts : List ℕ) (ds : List Demand) (d : Demand) (j : ℕ) → (j ≡ first_for s firsts d.agent → ⊥) → waiting_for s firsts (ds ++ d ∷ []) j ≡ waiting_for s firsts ds j
more_elsewhere s firsts ds d j apart =
    let off : waits_for s firsts j d ≡ false = ne_eqb (first_for s firsts d.agent) j (λ e. apart (sym e)) in
    let next = sum_by_push (λ x. cond (waits_for s firsts j x) 1 0) ds d ∙ ap (λ b. waiting_for s firsts ds j + cond b 1 0) off in
    omega (arith, next)

pub counted_more : (s : SceneParts) (firsts counts : List ℕ) (ds : List Demand) (d : Demand) → AreFirst s firsts → d.agent.0 < length s.agents → counts ≡ each_below (waiting_for s firsts ds) (lanes s + 1) →
    one_demand_more (first_for s firsts d.agent) counts ≡ each_below (waiting_for s firsts (ds ++ d ∷ [])) (lanes s + 1)
counted_more s firsts counts ds d first known are =
    let l = first_for s firsts d.agent in
    let within = first_within s firsts d first known in
    ap (λ n. slice_set counts l (n + 1)) (counted_at s firsts counts ds l are within)
    ∙ one_changed s firsts counts ds (ds ++ d ∷ []) l (waiting_for s firsts ds l + 1) are within (more_here s firsts ds d) (λ j apart. more_elsewhere s firsts ds d j apart)

pub few_counted : (s : SceneParts) (firsts counts : List ℕ) (ds : List Demand) (l : ℕ) → counts ≡ each_below (waiting_for s firsts ds) (lanes s + 1) → l < lanes s + 1 → slice_index_or counts l 0 ≤ length ds
few_counted s firsts counts ds l are within = omega (arith, counted_at s firsts counts ds l are within, count_by-le-length (waits_for s firsts l) ds)

-- ---- one less

less_by : (s : SceneParts) (firsts : List ℕ) (n j : ℕ) (d : Demand) (ds : List Demand) → AreInOrder ds → find (is_at s n) ds ≡ Some d → waiting_for s firsts ds j ≡ waiting_for s firsts (without d.id ds) j + cond (waits_for s firsts j d) 1 0
less_by s firsts n j d [] order is = cc
less_by s firsts n j d (x ∷ ds) order is =
    let split = sum_by-cons (λ y. cond (waits_for s firsts j y) 1 0) x ds in
    elim (cases_Bool (is_at s n x)) [
      | inl t ↦ (let some = (rw t at is) in let same : x ≡ d = cc in rw (← same, itself x.id) (omega (arith, split)))
      | inr f ↦
          (let some = (rw f at is) in
          let later = (found (λ (y : Demand). is_earlier x.id y.id ≡ true) (is_at s n) ds d order.0 some).0 in
          let rest = less_by s firsts n j d ds order.1 some in
          let kept = sum_by-cons (λ y. cond (waits_for s firsts j y) 1 0) x (without d.id ds) in
          rw (other_way x.id d.id later) (omega (arith, split, kept, rest)))
    ]

module _ (s : SceneParts) (firsts counts : List ℕ) (ds : List Demand) (d : Demand) (first : AreFirst s firsts) (known : d.agent.0 < length s.agents) (are : counts ≡ each_below (waiting_for s firsts ds) (lanes s + 1))
    (order : AreInOrder ds) (n : ℕ) (is : find (is_at s n) ds ≡ Some d) where
  less_here : waiting_for s firsts ds (first_for s firsts d.agent) ≡ waiting_for s firsts (without d.id ds) (first_for s firsts d.agent) + 1
  less_here =
      let l = first_for s firsts d.agent in
      less_by s firsts n l d ds order is ∙ ap (λ b. waiting_for s firsts (without d.id ds) l + cond b 1 0) (eq-eqb l l refl)

  less_elsewhere : (j : ℕ) → (j ≡ first_for s firsts d.agent → ⊥) → waiting_for s firsts (without d.id ds) j ≡ waiting_for s firsts ds j
  less_elsewhere j apart =
      let off : waits_for s firsts j d ≡ false = ne_eqb (first_for s firsts d.agent) j (λ e. apart (sym e)) in
      let by = less_by s firsts n j d ds order is ∙ ap (λ b. waiting_for s firsts (without d.id ds) j + cond b 1 0) off in
      omega (arith, by)

  pub some_counted : 0 < slice_index_or counts (first_for s firsts d.agent) 0
  some_counted = omega (arith, counted_at s firsts counts ds (first_for s firsts d.agent) are (first_within s firsts d first known), less_here)

  pub counted_less : one_demand_less (first_for s firsts d.agent) counts ≡ each_below (waiting_for s firsts (without d.id ds)) (lanes s + 1)
  counted_less =
      let l = first_for s firsts d.agent in
      let within = first_within s firsts d first known in
      let left : waiting_for s firsts (without d.id ds) l ≡ waiting_for s firsts ds l - 1 = omega (arith, less_here) in
      ap (λ n. slice_set counts l (n - 1)) (counted_at s firsts counts ds l are within)
      ∙ one_changed s firsts counts ds (without d.id ds) l (waiting_for s firsts ds l - 1) are within left less_elsewhere

-- ---- none waits for the lanes before one

none_serves : (s : SceneParts) (firsts : List ℕ) (ds : List Demand) (l n : ℕ) → AreFirst s firsts → AllByRecursion (λ (x : Demand). x.agent.0 < length s.agents) ds → l < n → ((j : ℕ) → j < n → waiting_for s firsts ds j ≡ 0) →
    AllByRecursion (λ (x : Demand). serves s (record { 0 = l }) (key_of s x.agent) ≡ false) ds
none_serves s firsts [] l n first known before none = tt
none_serves s firsts (x ∷ ds) l n first known before none =
    let split : (j : ℕ) → waiting_for s firsts (x ∷ ds) j ≡ cond (waits_for s firsts j x) 1 0 + waiting_for s firsts ds j = λ j. sum_by-cons (λ y. cond (waits_for s firsts j y) 1 0) x ds in
    let k = first_for s firsts x.agent in (
      elim (cases_lt k n) [
        | inl within ↦ absurd (let here = split k ∙ ap (λ b. cond b 1 0 + waiting_for s firsts ds k) (eq-eqb k k refl) in omega (arith, here, none k within))
        | inr past ↦ first.none (key_of s x.agent).0 l (key_in_range s x.agent known.0) (omega (arith, past, before))
      ],
      none_serves s firsts ds l n first known.1 before (λ j within. omega (arith, split j, none j within)),
    )

not_found : {X : Type 0} (p : X → Bool) (xs : List X) → AllByRecursion (λ x. p x ≡ false) xs → find p xs ≡ None
not_found p [] all = refl
not_found p (x ∷ xs) all = rw all.0 (not_found p xs all.1)

pub none_taken : (t : EventTable) (firsts : List ℕ) (l n : ℕ) (class : DemandId → HeadClass) → AreFirst t.scene firsts → AllByRecursion (λ (x : Demand). x.agent.0 < length t.scene.agents) t.waiting → l < n → ((j : ℕ) → j < n → waiting_for t.scene firsts t.waiting j ≡ 0) →
    find (may_take_by t class (record { 0 = l })) t.waiting ≡ None
none_taken t firsts l n class first known before none =
    not_found (may_take_by t class (record { 0 = l })) t.waiting
    (each-weaker (λ (x : Demand). serves t.scene (record { 0 = l }) (key_of t.scene x.agent) ≡ false) (λ (x : Demand). may_take_by t class (record { 0 = l }) x ≡ false)
    (λ x off. rw off refl) t.waiting (none_serves t.scene firsts t.waiting l n first known before none))

-- ---- the counts after one more or one less

pub counts_size : (s : SceneParts) (ds : List Demand) (c : LaneCounts) → IsCounted s ds c → length c.waiting.items ≡ lanes s + 1
counts_size s ds c are = ap length are.counts ∙ length-each_below (waiting_for s c.firsts.items ds) (lanes s + 1)

pub after_more : (s : SceneParts) (ds : List Demand) (d : Demand) (old new : LaneCounts) → IsCounted s ds old → d.agent.0 < length s.agents → new.firsts ≡ old.firsts → new.waiting.items ≡ one_demand_more (first_for s old.firsts.items d.agent) old.waiting.items → IsCounted s (ds ++ d ∷ []) new
after_more s ds d old new are known firsts waiting = record {
  first = subst (λ v. AreFirst s v.items) (sym firsts) are.first;
  counts = waiting ∙ (counted_more s old.firsts.items old.waiting.items ds d are.first known are.counts ∙ ap (λ v. each_below (waiting_for s v.items (ds ++ d ∷ [])) (lanes s + 1)) (sym firsts));
}

pub after_less : (s : SceneParts) (ds : List Demand) (d : Demand) (n : ℕ) (old new : LaneCounts) → IsCounted s ds old → d.agent.0 < length s.agents → AreInOrder ds → find (is_at s n) ds ≡ Some d → new.firsts ≡ old.firsts → new.waiting.items ≡ one_demand_less (first_for s old.firsts.items d.agent) old.waiting.items →
    IsCounted s (without d.id ds) new
after_less s ds d n old new are known order is firsts waiting = record {
  first = subst (λ v. AreFirst s v.items) (sym firsts) are.first;
  counts = waiting ∙ (counted_less s old.firsts.items old.waiting.items ds d are.first known are.counts order n is ∙ ap (λ v. each_below (waiting_for s v.items (without d.id ds)) (lanes s + 1)) (sym firsts));
}

-- counts of none are of lanes for which none waits
pub none_before : (s : SceneParts) (ds : List Demand) (c : LaneCounts) (n : ℕ) → IsCounted s ds c → n ≤ lanes s → ((j : ℕ) → j < n → slice_index_or c.waiting.items j 0 ≡ 0) → (j : ℕ) → j < n → waiting_for s c.firsts.items ds j ≡ 0
none_before s ds c n are few none j within = sym (counted_at s c.firsts.items c.waiting.items ds j are.counts (omega (arith, few, within))) ∙ none j within
