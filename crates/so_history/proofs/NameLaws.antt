-- The names of demands: they differ, and they are in order.
use Rattle.std.proofs.Common.{◌≡◌, ℕ, suc, ◌+◌, ◌<◌, ◌≤◌, List, [], ◌∷◌, ◌++◌, length, Bool, true, false, not, cond, Some, arith, refl, sym, ◌∙◌, ap}
use Rattle.std.specs.List.{filter, find, AllByRecursion}
use Rattle.std.proofs.lemmas.Bool.{eq-eqb, false≢true, lt-ltb, le-ltb}
use Rattle.std.proofs.lemmas.Option.{same_Some}
use Rattle.so_ids.specs.declared.DemandId.{DemandId}
use Rattle.so_ids.specs.Ids.{same_demand, is_earlier}
use Rattle.so_lists.proofs.Filters.{each-append, each-weaker, each-filter, found, filter_keeps, filter_none}
use Rattle.so_history.specs.declared.entry.Demand.{Demand}
use Rattle.so_history.specs.Demands.{Asked, demands_from, without}

pub same_place : (a b : DemandId) → same_demand a b ≡ true → a ≡ b
same_place a b e = grind arith

pub itself : (a : DemandId) → same_demand a a ≡ true
itself a = rw (eq-eqb a.place.0 a.place.0 refl, eq-eqb a.k a.k refl) refl

-- an earlier demand is another
earlier_place : (a b : DemandId) → a.place.0 < b.place.0 → is_earlier a b ≡ true
earlier_place a b l = rw (lt-ltb a.place.0 b.place.0 l) refl

earlier_there : (a b : DemandId) → a.place.0 ≡ b.place.0 → a.k < b.k → is_earlier a b ≡ true
earlier_there a b e l = rw (le-ltb a.place.0 b.place.0 (omega arith), eq-eqb a.place.0 b.place.0 e, lt-ltb a.k b.k l) refl

pub earlier_differs : (a b : DemandId) → is_earlier a b ≡ true → same_demand a b ≡ false
earlier_differs a b e = grind arith

-- demands in order: each is earlier than all that follow it
unfoldable pub Sorted : List Demand → Type 0
Sorted [] = Unit {0}
Sorted (d ∷ ds) = AllByRecursion (λ x. is_earlier d.id x.id ≡ true) ds × Sorted ds

pub sorted-append : (xs ys : List Demand) → Sorted xs → Sorted ys → AllByRecursion (λ x. AllByRecursion (λ y. is_earlier x.id y.id ≡ true) ys) xs → Sorted (xs ++ ys)
unfolding Sorted
sorted-append [] ys a b c = b
sorted-append (x ∷ xs) ys a b c = (each-append _ xs ys a.0 c.0, sorted-append xs ys a.1 b c.1)

sorted_cond : (b : Bool) (x : Demand) (xs : List Demand) → AllByRecursion (λ y. is_earlier x.id y.id ≡ true) xs → Sorted xs → Sorted (cond b (x ∷ xs) xs)
unfolding Sorted
sorted_cond true x xs a d = (a, d)
sorted_cond false x xs a d = d

pub sorted-filter : (p : Demand → Bool) (xs : List Demand) → Sorted xs → Sorted (filter p xs)
unfolding Sorted
sorted-filter p [] a = tt
sorted-filter p (x ∷ xs) a = sorted_cond (p x) x (filter p xs) (each-filter _ p xs a.0) (sorted-filter p xs a.1)

-- what an entry queues is named by its place, from a number on
pub named_here : (place k : ℕ) (asked : List Asked) → AllByRecursion (λ d. d.id.place.0 ≡ place) (demands_from place k asked)
named_here place k [] = tt
named_here place k (a ∷ rest) = (refl, named_here place (k + 1) rest)

numbered_from : (place k n : ℕ) (asked : List Asked) → k ≤ n → AllByRecursion (λ d. k ≤ d.id.k) (demands_from place n asked)
numbered_from place k n [] l = tt
numbered_from place k n (a ∷ rest) l = (l, numbered_from place k (n + 1) rest (omega arith))

both : {X : Type 0} (P Q R : X → Type 0) → ((x : X) → P x → Q x → R x) → (xs : List X) → AllByRecursion P xs → AllByRecursion Q xs → AllByRecursion R xs
both P Q R f [] a b = tt
both P Q R f (x ∷ xs) a b = (f x a.0 b.0, both P Q R f xs a.1 b.1)

pub demands_from_sorted : (place k : ℕ) (asked : List Asked) → Sorted (demands_from place k asked)
unfolding Sorted
demands_from_sorted place k [] = tt
demands_from_sorted place k (a ∷ rest) = (
  both (λ d. d.id.place.0 ≡ place) (λ d. k + 1 ≤ d.id.k) _
      (λ d here later. let at : place ≡ d.id.place.0 = sym here in let after : k < d.id.k = omega arith in earlier_there (record { place = record { 0 = place }; k = k }) d.id at after)
      (demands_from place (k + 1) rest) (named_here place (k + 1) rest) (numbered_from place (k + 1) (k + 1) rest (omega arith)),
  demands_from_sorted place (k + 1) rest,
)

pub length-demands_from : (place k : ℕ) (asked : List Asked) → length (demands_from place k asked) ≡ length asked
length-demands_from place k [] = refl
length-demands_from place k (a ∷ rest) = ap suc (length-demands_from place (k + 1) rest)

pub demands_from-append : (place k : ℕ) (xs ys : List Asked) → demands_from place k (xs ++ ys) ≡ demands_from place k xs ++ demands_from place (k + length xs) ys
demands_from-append place k [] ys = ap (λ n. demands_from place n ys) (omega arith)
demands_from-append place k (x ∷ xs) ys =
    let same : k + 1 + length xs ≡ k + length (x ∷ xs) = omega arith in
    ap (λ ds. record { id = record { place = record { 0 = place }; k = k }; agent = x.agent; kind = x.kind } ∷ ds) (demands_from-append place (k + 1) xs ys ∙ ap (λ n. demands_from place (k + 1) xs ++ demands_from place n ys) same)

-- all of one list are earlier than all of the other
pub all_earlier : (n : ℕ) (xs ys : List Demand) → AllByRecursion (λ x. x.id.place.0 < n) xs → AllByRecursion (λ y. y.id.place.0 ≡ n) ys → AllByRecursion (λ x. AllByRecursion (λ y. is_earlier x.id y.id ≡ true) ys) xs
all_earlier n xs ys a b =
    each-weaker _ _ (λ x l. let early : x.id.place.0 < n = l in each-weaker _ _ (λ y at. let now : y.id.place.0 ≡ n = at in earlier_place x.id y.id (omega arith)) ys b) xs a

-- what is found by any test is found by its name
swapped : (a b : DemandId) → is_earlier a b ≡ true → same_demand b a ≡ false
swapped a b e = grind arith

name_case : (q : Demand → Bool) (x d : Demand) (xs : List Demand) (b : Bool) → q x ≡ b → AllByRecursion (λ y. is_earlier x.id y.id ≡ true) xs → cond b (Some x) (find q xs) ≡ Some d →
    (find q xs ≡ Some d → find (λ y. same_demand d.id y.id) xs ≡ Some d) → cond (same_demand d.id x.id) (Some x) (find (λ y. same_demand d.id y.id) xs) ≡ Some d
name_case q x d xs true e a f ih = let same : x ≡ d = cc in rw (same, itself d.id) refl
name_case q x d xs false e a f ih = rw (swapped x.id d.id (found (λ y. is_earlier x.id y.id ≡ true) q xs d a f).0) (ih f)

pub found_by_name : (q : Demand → Bool) (ds : List Demand) (d : Demand) → Sorted ds → find q ds ≡ Some d → find (λ x. same_demand d.id x.id) ds ≡ Some d
unfolding Sorted
found_by_name q [] d a e = cc
found_by_name q (x ∷ xs) d a e = name_case q x d xs (q x) refl a.0 e (found_by_name q xs d a.1)

-- each of a list in order is found there by its name
pub each_named : (ds : List Demand) → Sorted ds → AllByRecursion (λ d. find (λ x. same_demand d.id x.id) ds ≡ Some d) ds
unfolding Sorted
each_named [] sorted = tt
each_named (d ∷ ds) sorted = (
  rw (itself d.id) refl,
  both (λ x. is_earlier d.id x.id ≡ true) (λ x. find (λ y. same_demand x.id y.id) ds ≡ Some x) (λ x. find (λ y. same_demand x.id y.id) (d ∷ ds) ≡ Some x)
      (λ x later there. rw (swapped d.id x.id later) there)
      ds sorted.0 (each_named ds sorted.1),
)

not_earlier : (a : DemandId) → is_earlier a a ≡ false
not_earlier a = grind arith

one_way : (a b : DemandId) → is_earlier a b ≡ true → is_earlier b a ≡ false
one_way a b e = grind arith

-- what is found is the earliest that passes
least_case : (p : Demand → Bool) (x y z : Demand) (xs : List Demand) (b c : Bool) → p x ≡ b → same_demand z.id x.id ≡ c → p z ≡ true → AllByRecursion (λ w. is_earlier x.id w.id ≡ true) xs →
    (find p xs ≡ Some y → find (λ w. same_demand z.id w.id) xs ≡ Some z → is_earlier z.id y.id ≡ false) →
    cond b (Some x) (find p xs) ≡ Some y → cond c (Some x) (find (λ w. same_demand z.id w.id) xs) ≡ Some z → is_earlier z.id y.id ≡ false
least_case p x y z xs true true pb sc pz a ih fy fz = let one : x ≡ y = cc in let two : x ≡ z = cc in rw (← one, ← two) (not_earlier x.id)
least_case p x y z xs true false pb sc pz a ih fy fz =
    let one : x ≡ y = cc in
    let later = (found (λ w. is_earlier x.id w.id ≡ true) (λ w. same_demand z.id w.id) xs z a fz).0 in
    rw (← one) (one_way x.id z.id later)
least_case p x y z xs false true pb sc pz a ih fy fz = let two : x ≡ z = cc in absurd (false≢true (sym pb ∙ (ap p two ∙ pz)))
least_case p x y z xs false false pb sc pz a ih fy fz = ih fy fz

pub found_least : (p : Demand → Bool) (ds : List Demand) (y z : Demand) → Sorted ds → p z ≡ true → find p ds ≡ Some y → find (λ w. same_demand z.id w.id) ds ≡ Some z → is_earlier z.id y.id ≡ false
unfolding Sorted
found_least p [] y z a pz fy fz = cc
found_least p (x ∷ xs) y z a pz fy fz = least_case p x y z xs (p x) (same_demand z.id x.id) refl refl pz a.0 (found_least p xs y z a.1 pz) fy fz

-- taking a name out is a filter
same_name : (a b c : DemandId) → same_demand a b ≡ true → same_demand a c ≡ same_demand b c
same_name a b c e = rw (same_place a b e) refl

filter_cond : (id : DemandId) (b : Bool) (d : Demand) (ds : List Demand) → same_demand id d.id ≡ b → AllByRecursion (λ x. is_earlier d.id x.id ≡ true) ds →
    filter (λ x. not (same_demand id x.id)) ds ≡ without id ds → cond (not b) (d ∷ filter (λ x. not (same_demand id x.id)) ds) (filter (λ x. not (same_demand id x.id)) ds) ≡ cond b ds (d ∷ without id ds)
filter_cond id true d ds e a ih =
    filter_keeps (λ x. not (same_demand id x.id)) ds (each-weaker _ (λ x. not (same_demand id x.id) ≡ true) (λ x f. ap not (same_name id d.id x.id e ∙ earlier_differs d.id x.id f)) ds a)
filter_cond id false d ds e a ih = rw ih refl

pub filter-without : (id : DemandId) (ds : List Demand) → Sorted ds → filter (λ x. not (same_demand id x.id)) ds ≡ without id ds
unfolding Sorted
filter-without id [] a = refl
filter-without id (d ∷ ds) a = filter_cond id (same_demand id d.id) d ds refl a.0 (filter-without id ds a.1)

-- the demand of a name is one
alone_case : (id : DemandId) (x d : Demand) (xs : List Demand) (b : Bool) → same_demand id x.id ≡ b → AllByRecursion (λ y. is_earlier x.id y.id ≡ true) xs → cond b (Some x) (find (λ y. same_demand id y.id) xs) ≡ Some d →
    (find (λ y. same_demand id y.id) xs ≡ Some d → filter (λ y. same_demand id y.id) xs ≡ d ∷ []) → cond b (x ∷ filter (λ y. same_demand id y.id) xs) (filter (λ y. same_demand id y.id) xs) ≡ d ∷ []
alone_case id x d xs true is later e ih =
    let none : filter (λ y. same_demand id y.id) xs ≡ [] = filter_none (λ y. same_demand id y.id) xs (each-weaker _ (λ y. same_demand id y.id ≡ false) (λ y l. same_name id x.id y.id is ∙ earlier_differs x.id y.id l) xs later) in
    rw none (ap (λ y. y ∷ []) (same_Some x d e))
alone_case id x d xs false is later e ih = ih e

pub named_alone : (id : DemandId) (ds : List Demand) (d : Demand) → Sorted ds → find (λ y. same_demand id y.id) ds ≡ Some d → filter (λ y. same_demand id y.id) ds ≡ d ∷ []
unfolding Sorted
named_alone id [] d sorted e = absurd cc
named_alone id (x ∷ xs) d sorted e = alone_case id x d xs (same_demand id x.id) refl sorted.0 e (named_alone id xs d sorted.1)

-- the first that passes is the first of those that pass, and the others pass without it
head_case : (p : Demand → Bool) (x d : Demand) (xs : List Demand) (b c : Bool) → p x ≡ b → same_demand d.id x.id ≡ c → AllByRecursion (λ y. is_earlier x.id y.id ≡ true) xs → cond b (Some x) (find p xs) ≡ Some d →
    (find p xs ≡ Some d → filter p xs ≡ d ∷ filter p (without d.id xs)) → cond b (x ∷ filter p xs) (filter p xs) ≡ d ∷ filter p (cond c xs (x ∷ without d.id xs))
head_case p x d xs true true on is later e ih = ap (λ y. y ∷ filter p xs) (same_Some x d e)
head_case p x d xs true false on is later e ih = absurd (false≢true (sym is ∙ (ap (same_demand d.id) (ap (λ (y : Demand). y.id) (same_Some x d e)) ∙ itself d.id)))
head_case p x d xs false true on is later e ih = absurd (false≢true (sym (swapped x.id d.id (found (λ y. is_earlier x.id y.id ≡ true) p xs d later e).0) ∙ is))
head_case p x d xs false false on is later e ih = rw on (ih e)

pub first_with_rest : (p : Demand → Bool) (ds : List Demand) (d : Demand) → Sorted ds → find p ds ≡ Some d → filter p ds ≡ d ∷ filter p (without d.id ds)
unfolding Sorted
first_with_rest p [] d sorted e = absurd cc
first_with_rest p (x ∷ xs) d sorted e = head_case p x d xs (p x) (same_demand d.id x.id) refl refl sorted.0 e (first_with_rest p xs d sorted.1)

-- without one that does not pass, as many pass
spared_case : (p : Demand → Bool) (x d : Demand) (xs : List Demand) (c : Bool) → same_demand d.id x.id ≡ c → p d ≡ false → cond c (Some x) (find (λ y. same_demand d.id y.id) xs) ≡ Some d →
    (find (λ y. same_demand d.id y.id) xs ≡ Some d → filter p (without d.id xs) ≡ filter p xs) → filter p (cond c xs (x ∷ without d.id xs)) ≡ cond (p x) (x ∷ filter p xs) (filter p xs)
spared_case p x d xs true is off e ih = let no_pass : p x ≡ false = ap p (same_Some x d e) ∙ off in rw no_pass refl
spared_case p x d xs false is off e ih = ap (λ ds. cond (p x) (x ∷ ds) ds) (ih e)

pub rest_spared : (p : Demand → Bool) (ds : List Demand) (d : Demand) → p d ≡ false → find (λ y. same_demand d.id y.id) ds ≡ Some d → filter p (without d.id ds) ≡ filter p ds
rest_spared p [] d off e = absurd cc
rest_spared p (x ∷ xs) d off e = spared_case p x d xs (same_demand d.id x.id) refl off e (rest_spared p xs d off)
