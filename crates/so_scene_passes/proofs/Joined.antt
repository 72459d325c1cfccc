-- Positions in one list that follows another.
use Rattle.std.proofs.Common.{◌≡◌, ℕ, ◌+◌, ◌<◌, List, [], ◌∷◌, ◌++◌, length, Bool, true, false, cond, Option, Some, None, option_map, is_some, refl, sym, ap, ◌∙◌, arith, bytes_eq}
use Rattle.std.proofs.lemmas.Bool.{true≢false}
use Rattle.std.proofs.lemmas.Iterator.Adapters.{position_from-zero}
use Rattle.std.proofs.lemmas.List.Quantifiers.{position-Some}
use Rattle.std.specs.List.{position_from}
use Rattle.so_scene.specs.Names.{number_in, has_name}

first_step : (b : Bool) (i k : ℕ) (o p : Option ℕ) → cond b (Some i) o ≡ Some k → (o ≡ Some k → p ≡ Some k) → cond b (Some i) p ≡ Some k
first_step true i k o p e h = e
first_step false i k o p e h = h e

first_from : {X : Type 0} (t : X → Bool) (i k : ℕ) (xs ys : List X) → position_from t i xs ≡ Some k → position_from t i (xs ++ ys) ≡ Some k
first_from t i k [] ys e = absurd cc
first_from t i k (x ∷ xs) ys e = first_step (t x) i k (position_from t (i + 1) xs) (position_from t (i + 1) (xs ++ ys)) e (first_from t (i + 1) k xs ys)

none_step : (b : Bool) (i : ℕ) (o p q : Option ℕ) → cond b (Some i) o ≡ None → (o ≡ None → p ≡ q) → cond b (Some i) p ≡ q
none_step true i o p q e h = absurd cc
none_step false i o p q e h = h e

plus_zero : (i : ℕ) → i ≡ i + 0
plus_zero i = omega arith

none_from : {X : Type 0} (t : X → Bool) (i n : ℕ) (xs ys : List X) → n ≡ i + length xs → position_from t i xs ≡ None → position_from t i (xs ++ ys) ≡ position_from t n ys
none_from t i n [] ys l e = ap (λ m. position_from t m ys) (plus_zero i ∙ sym l)
none_from t i n (x ∷ xs) ys l e = none_step (t x) i (position_from t (i + 1) xs) (position_from t (i + 1) (xs ++ ys)) (position_from t n ys) e (none_from t (i + 1) n xs ys (omega (arith, l)))

map_step : (b : Bool) (n i : ℕ) (o : Option ℕ) → cond b (Some (n + i)) (option_map (λ k. n + k) o) ≡ option_map (λ k. n + k) (cond b (Some i) o)
map_step true n i o = refl
map_step false n i o = refl

shifted : {X : Type 0} (t : X → Bool) (n i m : ℕ) (ys : List X) → m ≡ n + i → position_from t m ys ≡ option_map (λ k. n + k) (position_from t i ys)
shifted t n i m [] l = refl
shifted t n i m (y ∷ ys) l =
    ap (λ j. cond (t y) (Some j) (position_from t (m + 1) ys)) l
    ∙ (ap (λ o. cond (t y) (Some (n + i)) o) (shifted t n (i + 1) (m + 1) ys (omega (arith, l))) ∙ map_step (t y) n i (position_from t (i + 1) ys))

pub in_first : (name : List ℕ) (xs ys : List (List ℕ)) (o : Option ℕ) (k : ℕ) → o ≡ number_in xs name → o ≡ Some k → Some k ≡ number_in (xs ++ ys) name
in_first name xs ys o k e s =
    sym (position_from-zero (bytes_eq name) (xs ++ ys) ∙ first_from (bytes_eq name) 0 k xs ys (sym (position_from-zero (bytes_eq name) xs) ∙ (sym e ∙ s)))

behind : (name : List ℕ) (xs ys : List (List ℕ)) (o : Option ℕ) → o ≡ number_in xs name → o ≡ None → number_in (xs ++ ys) name ≡ option_map (λ k. length xs + k) (number_in ys name)
behind name xs ys o e s =
    position_from-zero (bytes_eq name) (xs ++ ys)
    ∙ (none_from (bytes_eq name) 0 (length xs) xs ys (omega arith) (sym (position_from-zero (bytes_eq name) xs) ∙ (sym e ∙ s))
    ∙ (shifted (bytes_eq name) (length xs) 0 (length xs) ys (omega arith) ∙ ap (option_map (λ k. length xs + k)) (sym (position_from-zero (bytes_eq name) ys))))

pub in_second : (name : List ℕ) (xs ys : List (List ℕ)) (o p : Option ℕ) (k n : ℕ) → o ≡ number_in xs name → o ≡ None → p ≡ number_in ys name → p ≡ Some k → n ≡ length xs + k → Some n ≡ number_in (xs ++ ys) name
in_second name xs ys o p k n e none f some l = sym (behind name xs ys o e none ∙ ap (option_map (λ k. length xs + k)) (sym f ∙ some) ∙ ap Some (sym l))

pub in_none : (name : List ℕ) (xs ys : List (List ℕ)) (o p : Option ℕ) → o ≡ number_in xs name → o ≡ None → p ≡ number_in ys name → p ≡ None → None ≡ number_in (xs ++ ys) name
in_none name xs ys o p e none f none' = sym (behind name xs ys o e none ∙ ap (option_map (λ k. length xs + k)) (sym f ∙ none'))

pub number_below : (names : List (List ℕ)) (name : List ℕ) (o : Option ℕ) (k : ℕ) → o ≡ number_in names name → o ≡ Some k → k < length names
number_below names name o k e s = (position-Some (bytes_eq name) names k [] (sym e ∙ s)).0

-- ---- what is in neither

is_first : (name : List ℕ) (xs ys : List (List ℕ)) (o : Option ℕ) → number_in xs name ≡ o → has_name (xs ++ ys) name ≡ false → is_some o ≡ false
is_first name xs ys None e h = refl
is_first name xs ys (Some k) e h = absurd (true≢false (ap is_some (in_first name xs ys (Some k) k (sym e) refl) ∙ h))

pub absent_first : (name : List ℕ) (xs ys : List (List ℕ)) → has_name (xs ++ ys) name ≡ false → has_name xs name ≡ false
absent_first name xs ys h = is_first name xs ys (number_in xs name) refl h

is_second : (name : List ℕ) (xs ys : List (List ℕ)) (o p : Option ℕ) → number_in xs name ≡ o → number_in ys name ≡ p → has_name (xs ++ ys) name ≡ false → is_some p ≡ false
is_second name xs ys o None e f h = refl
is_second name xs ys None (Some k) e f h = absurd (true≢false (ap is_some (in_second name xs ys None (Some k) k (length xs + k) (sym e) refl (sym f) refl refl) ∙ h))
is_second name xs ys (Some i) (Some k) e f h = absurd (true≢false (ap is_some (in_first name xs ys (Some i) i (sym e) refl) ∙ h))

pub absent_second : (name : List ℕ) (xs ys : List (List ℕ)) → has_name (xs ++ ys) name ≡ false → has_name ys name ≡ false
absent_second name xs ys h = is_second name xs ys (number_in xs name) (number_in ys name) refl refl h
