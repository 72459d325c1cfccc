-- Demands compare as their ranks, and their order is transitive.
use Rattle.std.proofs.Common.{◌≡◌, ℕ, ◌<◌, ◌≤◌, true, false, arith, refl, sym, ◌∙◌, ap, inl, inr}
use Rattle.std.specs.Prelude.{◌⊎◌, ◌^◌, ◌==◌, ◌&&◌, nat_lt}
use Rattle.std.proofs.lemmas.Bool.{cases_Bool, cases_lt, or_cases, and_parts, ltb-true, ltb-false, eqb-true, lt-ltb, eq-eqb, false≢true}
use Rattle.so_ids.specs.declared.DemandId.{DemandId}
use Rattle.so_ids.specs.Ids.{is_earlier}
use Rattle.so_queue.specs.Cells.{rank}

pub earlier-rank : (a b : DemandId) → is_earlier a b ≡ true → a.k < 2 ^ 32 → rank a < rank b
earlier-rank a b h l =
    elim (or_cases (nat_lt a.place.0 b.place.0) ((a.place.0 == b.place.0) && nat_lt a.k b.k) h) [
      | inl x ↦ (let lt = ltb-true a.place.0 b.place.0 x in omega arith)
      | inr y ↦
          (let p = and_parts (a.place.0 == b.place.0) (nat_lt a.k b.k) y in
          let e = eqb-true a.place.0 b.place.0 p.0 in
          let lt = ltb-true a.k b.k p.1 in omega arith)
    ]

pub rank-earlier : (a b : DemandId) → rank a < rank b → b.k < 2 ^ 32 → is_earlier a b ≡ true
rank-earlier a b h l =
    elim (cases_Bool (nat_lt a.place.0 b.place.0)) [
      | inl t ↦ rw t refl
      | inr f ↦
          (let ge = ltb-false a.place.0 b.place.0 f in
          let e : a.place.0 ≡ b.place.0 = omega arith in
          let lt : a.k < b.k = omega arith in
          rw (f, eq-eqb a.place.0 b.place.0 e, lt-ltb a.k b.k lt) refl)
    ]

pub rank-later : (a b : DemandId) → rank b ≤ rank a → a.k < 2 ^ 32 → is_earlier a b ≡ false
rank-later a b h l =
    elim (cases_Bool (is_earlier a b)) [ inl t ↦ absurd (let lt = earlier-rank a b t l in omega arith) | inr f ↦ f ]

-- one is earlier by its place, or there by its number
pub record Before (a b : DemandId) : Type 0 where
  pub places : (a.place.0 < b.place.0) ⊎ ((a.place.0 ≡ b.place.0) × (a.k < b.k))

pub earlier-before : (a b : DemandId) → is_earlier a b ≡ true → Before a b
earlier-before a b h =
    record {
      places =
          elim (or_cases (nat_lt a.place.0 b.place.0) ((a.place.0 == b.place.0) && nat_lt a.k b.k) h) [
            | inl x ↦ inl (ltb-true a.place.0 b.place.0 x)
            | inr y ↦ (let p = and_parts (a.place.0 == b.place.0) (nat_lt a.k b.k) y in inr (eqb-true a.place.0 b.place.0 p.0, ltb-true a.k b.k p.1))
          ];
    }

pub earlier_at_once : (a b : DemandId) → a.place.0 < b.place.0 → is_earlier a b ≡ true
earlier_at_once a b l = rw (lt-ltb a.place.0 b.place.0 l) refl

pub earlier_there : (a b : DemandId) → a.place.0 ≡ b.place.0 → a.k < b.k → is_earlier a b ≡ true
earlier_there a b e l =
    elim (cases_Bool (nat_lt a.place.0 b.place.0)) [
      | inl t ↦ rw t refl
      | inr f ↦ rw (f, eq-eqb a.place.0 b.place.0 e, lt-ltb a.k b.k l) refl
    ]

pub earlier_trans : (a b c : DemandId) → is_earlier a b ≡ true → is_earlier b c ≡ true → is_earlier a c ≡ true
earlier_trans a b c h g =
    elim (earlier-before a b h).places [
      | inl x ↦
          elim (earlier-before b c g).places [
            | inl y ↦ earlier_at_once a c (omega arith)
            | inr y ↦ (let e = y.0 in earlier_at_once a c (omega arith))
          ]
      | inr x ↦
          (let e = x.0 in
          let l = x.1 in
          elim (earlier-before b c g).places [
            | inl y ↦ earlier_at_once a c (omega arith)
            | inr y ↦ (let d = y.0 in let m = y.1 in earlier_there a c (omega arith) (omega arith))
          ])
    ]

pub earlier_itself : (a : DemandId) → is_earlier a a ≡ false
earlier_itself a =
    elim (cases_Bool (is_earlier a a)) [
      | inl t ↦ elim (earlier-before a a t).places [ inl x ↦ absurd (omega arith) | inr y ↦ absurd (let l = y.1 in omega arith) ]
      | inr f ↦ f
    ]

pub not_both : (a b : DemandId) → is_earlier a b ≡ true → is_earlier b a ≡ false
not_both a b h =
    elim (cases_Bool (is_earlier b a)) [
      | inl t ↦ absurd (false≢true (sym (earlier_itself a) ∙ earlier_trans a b a h t))
      | inr f ↦ f
    ]

-- of two demands one is earlier, or they are the same
pub later_or_same : (a b : DemandId) → is_earlier a b ≡ false → is_earlier b a ≡ false → a ≡ b
later_or_same a b h g =
    let places : a.place.0 ≡ b.place.0 =
    elim (cases_lt a.place.0 b.place.0) [
      | inl l ↦ absurd (false≢true (sym h ∙ earlier_at_once a b l))
      | inr m ↦ elim (cases_lt b.place.0 a.place.0) [ inl l ↦ absurd (false≢true (sym g ∙ earlier_at_once b a l)) | inr n ↦ omega arith ]
    ] in
    let numbers : a.k ≡ b.k =
    elim (cases_lt a.k b.k) [
      | inl l ↦ absurd (false≢true (sym h ∙ earlier_there a b places l))
      | inr m ↦ elim (cases_lt b.k a.k) [ inl l ↦ absurd (false≢true (sym g ∙ earlier_there b a (sym places) l)) | inr n ↦ omega arith ]
    ] in
    ap (λ (n : ℕ). record { place = record { 0 = n }; k = a.k }) places ∙ ap (λ (n : ℕ). record { place = record { 0 = b.place.0 }; k = n }) numbers

-- and what is not later than a later one is earlier
pub later_trans : (a b c : DemandId) → is_earlier b a ≡ false → is_earlier c b ≡ false → is_earlier c a ≡ false
later_trans a b c h g =
    elim (cases_Bool (is_earlier c a)) [
      | inr f ↦ f
      | inl t ↦
          elim (cases_Bool (is_earlier b c)) [
            | inl u ↦ absurd (false≢true (sym h ∙ earlier_trans b c a u t))
            | inr o ↦ absurd (false≢true (sym h ∙ ap (λ x. is_earlier x a) (later_or_same b c o g) ∙ t))
          ]
    ]
