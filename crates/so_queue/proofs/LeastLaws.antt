-- The least that a function of numbers gives.
use Rattle.std.proofs.Common.{◌≡◌, ◌≢◌, ℕ, zero, suc, ◌<◌, true, Option, Some, None, arith, refl, sym, ◌∙◌, ap, inl, inr}
use Rattle.std.proofs.lemmas.Bool.{cases_eq, cases_Bool}
use Rattle.so_ids.specs.declared.DemandId.{DemandId}
use Rattle.so_ids.specs.Ids.{is_earlier}
use Rattle.so_queue.specs.Queues.{lesser}
use Rattle.so_queue.proofs.OrderLaws.{not_both, earlier_trans, later_or_same, later_trans}
use Rattle.so_queue.specs.Picks.{least_below}

pub least_none : (f : ℕ → Option DemandId) (n : ℕ) → ((k : ℕ) → k < n → f k ≡ None) → least_below f n ≡ None
unfolding least_below
least_none f zero none = refl
least_none f (suc n) none = rw (least_none f n (λ k l. none k (omega arith)), none n (omega arith)) refl

-- the least is one of them
pub record IsOneOf (f : ℕ → Option DemandId) (n : ℕ) (d : DemandId) : Type 0 where
  pub at : ℕ
  pub within : at < n
  pub here : f at ≡ Some d

one_more : (f : ℕ → Option DemandId) (n : ℕ) (a b : Option DemandId) (d : DemandId) → lesser a b ≡ Some d → f n ≡ b → ((e : DemandId) → a ≡ Some e → IsOneOf f n e) → IsOneOf f (suc n) d
one_more f n None b d is here rest = record { at = n; within = omega arith; here = here ∙ is }
one_more f n (Some x) None d is here rest = let r = rest d is in record { at = r.at; within = (let l = r.within in omega arith); here = r.here }
one_more f n (Some x) (Some y) d is here rest =
    elim (cases_Bool (is_earlier y x)) [
      | inl t ↦ (let e = (rw t at is) in record { at = n; within = omega arith; here = here ∙ e })
      | inr o ↦ (let e = (rw o at is) in let r = rest d e in record { at = r.at; within = (let l = r.within in omega arith); here = r.here })
    ]

pub least_one : (f : ℕ → Option DemandId) (n : ℕ) (d : DemandId) → least_below f n ≡ Some d → IsOneOf f n d
unfolding least_below
least_one f zero d is = cc
least_one f (suc n) d is = one_more f n (least_below f n) (f n) d is refl (λ e h. least_one f n e h)

-- and what is earlier than all others is the least
abbrev pub IsFirstOf : (ℕ → Option DemandId) → ℕ → ℕ → DemandId → Type 0
IsFirstOf f n k d = (j : ℕ) (e : DemandId) → j < n → j ≢ k → f j ≡ Some e → is_earlier d e ≡ true

last_least : (f : ℕ → Option DemandId) (n : ℕ) (a : Option DemandId) (d : DemandId) → least_below f n ≡ a → ((e : DemandId) → a ≡ Some e → is_earlier d e ≡ true) → lesser a (Some d) ≡ Some d
last_least f n None d is first = refl
last_least f n (Some x) d is first = rw (first x refl) refl

earlier_least : (d : DemandId) (b : Option DemandId) → ((e : DemandId) → b ≡ Some e → is_earlier d e ≡ true) → lesser (Some d) b ≡ Some d
earlier_least d None first = refl
earlier_least d (Some x) first = rw (not_both d x (first x refl)) refl

pub least_some : (f : ℕ → Option DemandId) (n k : ℕ) (d : DemandId) → k < n → f k ≡ Some d → IsFirstOf f n k d → least_below f n ≡ Some d
unfolding least_below
least_some f zero k d l here first = absurd (omega arith)
least_some f (suc n) k d l here first =
    elim (cases_eq k n) [
      | inl same ↦
          (let at : f n ≡ Some d = ap f (sym same) ∙ here in
          rw at (last_least f n (least_below f n) d refl (λ e is.
          let one = least_one f n e is in
          let m = one.within in
          first one.at e (omega arith) (λ (x : one.at ≡ k). omega arith) one.here)))
      | inr other ↦
          (let before : k < n = omega arith in
          let rest = least_some f n k d before here (λ j e m apart is. first j e (omega arith) apart is) in
          rw rest (earlier_least d (f n) (λ e is. first n e (omega arith) (λ (x : n ≡ k). omega arith) is)))
    ]

-- ---- the lesser of two: their order and how they are joined make no difference

lesser_none : (a : Option DemandId) → lesser a None ≡ a
lesser_none None = refl
lesser_none (Some d) = refl

pub lesser_other_way : (a b : Option DemandId) → lesser a b ≡ lesser b a
lesser_other_way None b = sym (lesser_none b)
lesser_other_way (Some d) None = refl
lesser_other_way (Some d) (Some e) =
    elim (cases_Bool (is_earlier e d)) [
      | inl t ↦ rw (t, not_both e d t) refl
      | inr o ↦ elim (cases_Bool (is_earlier d e)) [ inl t ↦ rw (o, t) refl | inr p ↦ rw (o, p) (ap (λ (x : DemandId). Some x) (later_or_same d e p o)) ]
    ]

joined_some : (a b c : DemandId) → lesser (lesser (Some a) (Some b)) (Some c) ≡ lesser (Some a) (lesser (Some b) (Some c))
joined_some a b c =
    elim (cases_Bool (is_earlier b a)) [
      | inl t ↦ elim (cases_Bool (is_earlier c b)) [ inl u ↦ rw (t, u, earlier_trans c b a u t) refl | inr o ↦ rw (t, o, t) refl ]
      | inr f ↦ elim (cases_Bool (is_earlier c b)) [ inl u ↦ rw (f, u) refl | inr o ↦ rw (f, o, f, later_trans a b c f o) refl ]
    ]

pub lesser_joined : (a b c : Option DemandId) → lesser (lesser a b) c ≡ lesser a (lesser b c)
lesser_joined None b c = refl
lesser_joined (Some x) None c = refl
lesser_joined (Some x) (Some y) None = lesser_none (lesser (Some x) (Some y))
lesser_joined (Some x) (Some y) (Some z) = joined_some x y z

lesser_swap : (a b c : Option DemandId) → lesser (lesser a b) c ≡ lesser (lesser a c) b
lesser_swap a b c = lesser_joined a b c ∙ (ap (lesser a) (lesser_other_way b c) ∙ sym (lesser_joined a c b))

-- ---- functions that give the same

pub least_same : (f g : ℕ → Option DemandId) (n : ℕ) → ((k : ℕ) → k < n → f k ≡ g k) → least_below f n ≡ least_below g n
unfolding least_below
least_same f g zero same = refl
least_same f g (suc n) same = rw (least_same f g n (λ k l. same k (omega arith)), same n (omega arith)) refl

-- what gives one demand more
pub least_more : (f g : ℕ → Option DemandId) (n k : ℕ) → k < n → f k ≡ None → ((j : ℕ) → j < n → j ≢ k → g j ≡ f j) → least_below g n ≡ lesser (least_below f n) (g k)
unfolding least_below
least_more f g zero k l none same = absurd (omega arith)
least_more f g (suc n) k l none same =
    elim (cases_eq k n) [
      | inl here ↦
          (let gone : f n ≡ None = ap f (sym here) ∙ none in
          let rest = least_same g f n (λ j m. same j (omega arith) (λ (x : j ≡ k). omega arith)) in
          rw (rest, gone, lesser_none (least_below f n), here) refl)
      | inr other ↦
          (let before : k < n = omega arith in
          let rest = least_more f g n k before none (λ j m apart. same j (omega arith) apart) in
          rw (rest, same n (omega arith) (λ (x : n ≡ k). omega arith)) (lesser_swap (least_below f n) (g k) (f n)))
    ]
