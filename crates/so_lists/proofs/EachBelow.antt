-- Lists by number, which stand for a function.
use Rattle.std.proofs.Common.{◌≡◌, ℕ, zero, suc, ◌+◌, List, ◌<◌, ◌≤◌, [], ◌∷◌, ◌++◌, length, arith, refl, sym, ◌∙◌, ap, get_or, inl, inr, add-one}
use Rattle.std.specs.Prelude.{◌==◌, false, Some, slice_get, slice_set, replicate, take}
use Rattle.std.proofs.lemmas.Option.{slice_get-get_or}
use Rattle.std.proofs.lemmas.List.{append_assoc, length-append, set-append_left, get_or_append_left, take_all}
use Rattle.std.proofs.Math.Seq.{set-append_seam, get_or-append_seam, take-suc}
use Rattle.std.proofs.lemmas.Grind.{replicate_next}
use Rattle.std.proofs.lemmas.Bool.{cases_lt, ne_eqb}
use Rattle.std.specs.List.{AllByRecursion}
use Rattle.so_lists.specs.Lists.{is_empty, each_below}
use Rattle.so_lists.proofs.Filters.{each-append}

pub length-each_below : {X : Type 0} (f : ℕ → X) (n : ℕ) → length (each_below f n) ≡ n
unfolding each_below
length-each_below f zero = refl
length-each_below f (suc n) = omega (arith, length-append (each_below f n) (f n ∷ []), length-each_below f n)

-- the element at a number
pub get_or-each_below : {X : Type 0} (f : ℕ → X) (n i : ℕ) (d : X) → i < n → get_or (each_below f n) i d ≡ f i
unfolding each_below
get_or-each_below f zero i d l = absurd (omega arith)
get_or-each_below f (suc n) i d l =
    elim (cases_lt i n) [
      | inl before ↦
          (let within : i < length (each_below f n) = omega (arith, length-each_below f n) in
          get_or_append_left (each_below f n) (f n ∷ []) d i within ∙ get_or-each_below f n i d before)
      | inr last ↦
          (let here : i ≡ length (each_below f n) = omega (arith, length-each_below f n) in
          let same : n ≡ i = omega arith in
          ap (λ k. get_or (each_below f n ++ f n ∷ []) k d) here ∙ (get_or-append_seam (each_below f n) (f n) [] d ∙ ap f same))
    ]

-- functions that agree
pub each_below-same : {X : Type 0} (f g : ℕ → X) (n : ℕ) → ((i : ℕ) → i < n → f i ≡ g i) → each_below f n ≡ each_below g n
unfolding each_below
each_below-same f g zero e = refl
each_below-same f g (suc n) e = rw (each_below-same f g n (λ i l. e i (omega arith)), e n (omega arith)) refl

-- functions that agree but at one number
pub each_below-set : {X : Type 0} (f g : ℕ → X) (n i : ℕ) (x : X) → i < n → g i ≡ x → ((j : ℕ) → j < n → (j ≡ i → ⊥) → g j ≡ f j) → each_below g n ≡ slice_set (each_below f n) i x
unfolding each_below
each_below-set f g zero i x l e o = absurd (omega arith)
each_below-set f g (suc n) i x l e o =
    elim (cases_lt i n) [
      | inl before ↦
          (let within : i < length (each_below f n) = omega (arith, length-each_below f n) in
          let rest = each_below-set f g n i x before e (λ j k. o j (omega arith)) in
          let last : g n ≡ f n = o n (omega arith) (λ same. omega arith) in
          rw (rest, last) (sym (set-append_left (each_below f n) (f n ∷ []) i x within)))
      | inr here ↦
          (let place : length (each_below f n) ≡ i = omega (arith, length-each_below f n) in
          let same : n ≡ i = omega arith in
          let rest : each_below g n ≡ each_below f n = each_below-same g f n (λ j k. o j (omega arith) (λ s. omega arith)) in
          rw (rest, ap g same ∙ e) (sym (ap (λ k. slice_set (each_below f n ++ f n ∷ []) k x) (sym place) ∙ set-append_seam (each_below f n) (f n) [] x)))
    ]

-- a function with one value
pub each_below-replicate : {X : Type 0} (f : ℕ → X) (n : ℕ) (x : X) → ((i : ℕ) → f i ≡ x) → each_below f n ≡ replicate n x
unfolding each_below
each_below-replicate f zero x e = refl
each_below-replicate f (suc n) x e = rw (each_below-replicate f n x e, e n) (sym (sym (ap (λ k. replicate k x) (add-one n)) ∙ replicate_next n x))

-- what holds of f at each number
pub all-each_below : {X : Type 0} (P : X → Type 0) (f : ℕ → X) (n : ℕ) → ((i : ℕ) → i < n → P (f i)) → AllByRecursion P (each_below f n)
unfolding each_below
all-each_below P f zero a = tt
all-each_below P f (suc n) a = each-append P (each_below f n) (f n ∷ []) (all-each_below P f n (λ i l. a i (omega arith))) (a n (omega arith), tt)

-- one number more
pub each_below-none : {X : Type 0} (f : ℕ → X) → each_below f 0 ≡ []
unfolding each_below
each_below-none f = refl

pub each_below-next : {X : Type 0} (f : ℕ → X) (n : ℕ) → each_below f (n + 1) ≡ each_below f n ++ f n ∷ []
unfolding each_below
each_below-next f n = rw (add-one n) refl

pub each_below-pushed : {X : Type 0} (f : ℕ → X) (n : ℕ) (ys xs : List X) → xs ≡ ys ++ each_below f n → xs ++ f n ∷ [] ≡ ys ++ each_below f (n + 1)
each_below-pushed f n ys xs is = rw (is, each_below-next f n) (append_assoc ys (each_below f n) (f n ∷ []))

-- the elements of a list, by number
each_below-take : {X : Type 0} (xs : List X) (d : X) (n : ℕ) → n ≤ length xs → each_below (λ k. get_or xs k d) n ≡ take n xs
unfolding each_below
each_below-take xs d zero l = refl
each_below-take xs d (suc n) l = ap (λ ys. ys ++ get_or xs n d ∷ []) (each_below-take xs d n (omega arith)) ∙ sym (take-suc xs n d (omega arith))

pub each_below-elements : {X : Type 0} (xs : List X) (d : X) → each_below (λ k. get_or xs k d) (length xs) ≡ xs
each_below-elements xs d = each_below-take xs d (length xs) (omega arith) ∙ take_all (length xs) xs (omega arith)

-- of a list by number, the first k, the one at a number, and whether there is none
pub take-each_below : {X : Type 0} (f : ℕ → X) (n k : ℕ) → k ≤ n → take k (each_below f n) ≡ each_below f k
take-each_below f n k l =
    sym (each_below-take (each_below f n) (f 0) k (omega (arith, length-each_below f n)))
    ∙ each_below-same (λ i. get_or (each_below f n) i (f 0)) f k (λ i m. get_or-each_below f n i (f 0) (omega arith))

pub slice_get-each_below : {X : Type 0} (f : ℕ → X) (n i : ℕ) → i < n → slice_get (each_below f n) i ≡ Some (f i)
slice_get-each_below f n i l = slice_get-get_or (each_below f n) i (f 0) (omega (arith, length-each_below f n)) ∙ ap (λ x. Some x) (get_or-each_below f n i (f 0) l)

some_last : {X : Type 0} (xs : List X) (x : X) → is_empty (xs ++ x ∷ []) ≡ false
some_last [] x = refl
some_last (y ∷ xs) x = refl

pub is_empty-each_below : {X : Type 0} (f : ℕ → X) (n : ℕ) → is_empty (each_below f n) ≡ (n == 0)
unfolding each_below
is_empty-each_below f zero = refl
is_empty-each_below f (suc n) = some_last (each_below f n) (f n) ∙ sym (ne_eqb (suc n) 0 (λ e. omega (arith, e)))
