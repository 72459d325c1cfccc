-- Demands in the order of their names.
use Rattle.std.proofs.Common.{◌≡◌, ℕ, zero, suc, ◌+◌, ◌<◌, ◌≤◌, List, [], ◌∷◌, ◌++◌, length, Bool, true, false, ◌&&◌, Option, Some, None, arith, refl, sym, ◌∙◌, ap, subst, inl, inr}
use Rattle.std.specs.Prelude.{slice_get}
use Rattle.std.specs.Option.{option_map}
use Rattle.std.specs.List.{filter, find, AllByRecursion}
use Rattle.std.proofs.lemmas.Bool.{cases_lt, cases_eq}
use Rattle.so_ids.specs.declared.DemandId.{DemandId}
use Rattle.so_ids.specs.Ids.{same_demand, is_earlier}
use Rattle.so_lists.proofs.Filters.{each-append}
use Rattle.so_lists.proofs.First.{option_map-none}
use Rattle.so_queue.proofs.OrderLaws.{earlier_trans}
use Rattle.so_history.specs.declared.entry.Demand.{Demand}
use Rattle.so_history.specs.Demands.{named}
use Rattle.so_history.proofs.NameLaws.{Sorted, sorted-filter, same_place, found_by_name}
use Rattle.so_events.specs.Tied.{AreInOrder, id_of}
use Rattle.so_events.proofs.ListLaws.{find-filtered}

pub sorted_of : (ds : List Demand) → AreInOrder ds → Sorted ds
unfolding Sorted
sorted_of [] order = tt
sorted_of (d ∷ ds) order = (order.0, sorted_of ds order.1)

pub order_of : (ds : List Demand) → Sorted ds → AreInOrder ds
unfolding Sorted
order_of [] order = tt
order_of (d ∷ ds) order = (order.0, order_of ds order.1)

pub order-filter : (p : Demand → Bool) (ds : List Demand) → AreInOrder ds → AreInOrder (filter p ds)
order-filter p ds order = order_of (filter p ds) (sorted-filter p ds (sorted_of ds order))

pub other_way : (a b : DemandId) → is_earlier a b ≡ true → same_demand b a ≡ false
other_way a b e = grind arith

pub this_way : (a b : DemandId) → is_earlier a b ≡ true → same_demand a b ≡ false
this_way a b e = grind arith

pub other_order : (a b : DemandId) → same_demand a b ≡ false → is_earlier b a ≡ false → is_earlier a b ≡ true
other_order a b s e = grind arith

-- one more at the end
pub order-last : (ds : List Demand) (d : Demand) → AreInOrder ds → AllByRecursion (λ x. is_earlier x.id d.id ≡ true) ds → AreInOrder (ds ++ d ∷ [])
order-last [] d order last = (tt, tt)
order-last (x ∷ ds) d order last = (each-append (λ (y : Demand). is_earlier x.id y.id ≡ true) ds (d ∷ []) order.0 (last.0, tt), order-last ds d order.1 last.1)

-- ---- by number

each_at : (P : Demand → Type 0) (ds : List Demand) (i : ℕ) (x : Demand) → AllByRecursion P ds → slice_get ds i ≡ Some x → P x
each_at P [] i x all here = absurd cc
each_at P (d ∷ ds) zero x all here = let same : d ≡ x = cc in subst P same all.0
each_at P (d ∷ ds) (suc i) x all here = each_at P ds i x all.1 here

order_at : (ds : List Demand) (i j : ℕ) (x y : Demand) → AreInOrder ds → i < j → slice_get ds i ≡ Some x → slice_get ds j ≡ Some y → is_earlier x.id y.id ≡ true
order_at [] i j x y order l a b = absurd cc
order_at (d ∷ ds) i zero x y order l a b = absurd (omega arith)
order_at (d ∷ ds) zero (suc j) x y order l a b = let same : d ≡ x = cc in each_at (λ (z : Demand). is_earlier x.id z.id ≡ true) ds j y (subst (λ (w : Demand). AllByRecursion (λ (z : Demand). is_earlier w.id z.id ≡ true) ds) same order.0) b
order_at (d ∷ ds) (suc i) (suc j) x y order l a b = order_at ds i j x y order.1 (omega (arith, l)) a b

pub named_at : (ds : List Demand) (i : ℕ) (id : DemandId) (x : Demand) → AreInOrder ds → slice_get ds i ≡ Some x → same_demand id x.id ≡ true → named id ds ≡ Some x
named_at [] i id x order here same = absurd cc
named_at (d ∷ ds) zero id x order here same = let is : d ≡ x = cc in rw (is, same) refl
named_at (d ∷ ds) (suc i) id x order here same =
    let later = each_at (λ (z : Demand). is_earlier d.id z.id ≡ true) ds i x order.0 here in
    let differs : same_demand id d.id ≡ false = rw (same_place id x.id same) (other_way d.id x.id later) in
    rw differs (named_at ds i id x order.1 here same)

pub named_none : (ds : List Demand) (id : DemandId) → ((i : ℕ) (x : Demand) → slice_get ds i ≡ Some x → same_demand id x.id ≡ false) → named id ds ≡ None
named_none [] id none = refl
named_none (d ∷ ds) id none = rw (none 0 d refl) (named_none ds id (λ i x here. none (suc i) x here))

-- ---- the search

pub record IsSearching (ds : List Demand) (id : DemandId) (low high : ℕ) : Type 0 where
  pub ordered : low ≤ high
  pub within : high ≤ length ds
  pub before : (i : ℕ) (x : Demand) → i < low → slice_get ds i ≡ Some x → is_earlier x.id id ≡ true
  pub behind : (i : ℕ) (x : Demand) → high ≤ i → slice_get ds i ≡ Some x → is_earlier id x.id ≡ true

never : (ds : List Demand) (i : ℕ) (x : Demand) → length ds ≤ i → slice_get ds i ≡ Some x → ⊥
never [] i x l here = cc
never (d ∷ ds) zero x l here = absurd (omega arith)
never (d ∷ ds) (suc i) x l here = never ds i x (omega (arith, l)) here

pub search_begins : (ds : List Demand) (id : DemandId) → IsSearching ds id 0 (length ds)
search_begins ds id = record {
  ordered = omega arith;
  within = omega arith;
  before = λ i x l here. absurd (omega arith);
  behind = λ i x l here. absurd (never ds i x l here);
}

pub search_up : {ds : List Demand} {id : DemandId} {low high : ℕ} (middle : ℕ) (x : Demand) → AreInOrder ds → middle < high → slice_get ds middle ≡ Some x → is_earlier x.id id ≡ true → IsSearching ds id low high → IsSearching ds id (middle + 1) high
search_up {ds} {id} {low} {high} middle x order l here early s = record {
  ordered = omega arith;
  within = s.within;
  before = λ i y m at.
      elim (cases_eq i middle) [
        | inl same ↦ (let a : slice_get ds middle ≡ Some y = ap (slice_get ds) (sym same) ∙ at in let is : x ≡ y = cc in subst (λ (z : Demand). is_earlier z.id id ≡ true) is early)
        | inr other ↦ (let k : i < middle = omega arith in earlier_trans y.id x.id id (order_at ds i middle y x order k at here) early)
      ];
  behind = s.behind;
}

pub search_down : {ds : List Demand} {id : DemandId} {low high : ℕ} (middle : ℕ) (x : Demand) → AreInOrder ds → low ≤ middle → middle < high → slice_get ds middle ≡ Some x → is_earlier id x.id ≡ true → IsSearching ds id low high → IsSearching ds id low middle
search_down {ds} {id} {low} {high} middle x order l m here late s = record {
  ordered = l;
  within = (let w = s.within in omega arith);
  before = s.before;
  behind = λ i y k at.
      elim (cases_eq i middle) [
        | inl same ↦ (let a : slice_get ds middle ≡ Some y = ap (slice_get ds) (sym same) ∙ at in let is : x ≡ y = cc in subst (λ (z : Demand). is_earlier id z.id ≡ true) is late)
        | inr other ↦ (let n : middle < i = omega arith in earlier_trans id x.id y.id late (order_at ds middle i x y order n here at))
      ];
}

pub search_over : {ds : List Demand} {id : DemandId} {low high : ℕ} → high ≤ low → IsSearching ds id low high → None ≡ named id ds
search_over {ds} {id} {low} {high} l s =
    sym (named_none ds id (λ i x here.
    elim (cases_lt i low) [
      | inl before ↦ other_way x.id id (s.before i x before here)
      | inr behind ↦ (let m : high ≤ i = omega arith in this_way id x.id (s.behind i x m here))
    ]))

-- ---- what a test finds among some of them is found by its name among all

by_name : (p q : Demand → Bool) (ds : List Demand) (id : DemandId) (o : Option Demand) → AreInOrder ds → find p (filter q ds) ≡ o → option_map id_of o ≡ Some id → named id ds ≡ o
by_name p q ds id None order is none = absurd cc
by_name p q ds id (Some d) order is here =
    let same : d.id ≡ id = cc in
    rw (← same) (found_by_name (λ x. q x && p x) ds d (sorted_of ds order) (sym (find-filtered p q ds) ∙ is))

pub named_found : (p q : Demand → Bool) (ds : List Demand) (id : DemandId) → AreInOrder ds → option_map id_of (find p (filter q ds)) ≡ Some id → named id ds ≡ find p (filter q ds)
named_found p q ds id order here = by_name p q ds id (find p (filter q ds)) order refl here

pub nothing_found : (p : Demand → Bool) (ds : List Demand) → option_map id_of (find p ds) ≡ None → find p ds ≡ None
nothing_found p ds none = option_map-none id_of (find p ds) none
