-- Positions of names, and names that are all different.
use Rattle.std.proofs.Common.{◌≡◌, ℕ, ◌+◌, List, [], ◌∷◌, ◌++◌, map, Bool, true, false, cond, ◌||◌, Option, Some, is_some, refl, sym, ap, ◌∙◌, if◌then◌else◌, string_bytes, bytes_eq}
use Rattle.std.proofs.lemmas.Bool.{true≢false}
use Rattle.std.proofs.lemmas.Iterator.Adapters.{position_from-zero}
use Rattle.std.proofs.lemmas.List.{map_push}
use Rattle.std.specs.List.{position, position_from, list_any, IsDistinct}
use Rattle.std.proofs.lemmas.Slice.Eq.{bytes_eq-Decides}
use Rattle.std.specs.Prelude.{String}
use Rattle.std.specs.String.{string_eq}
use Rattle.so_lists.proofs.Filters.{each-append}
use Rattle.std.specs.declared.alloc.Global.{Global}

position_from-map : {A B : Type 0} (t : B → Bool) (f : A → B) (i : ℕ) (xs : List A) → position_from t i (map f xs) ≡ position_from (λ x. t (f x)) i xs
position_from-map t f i [] = refl
position_from-map t f i (x ∷ xs) = ap (cond (t (f x)) (Some i)) (position_from-map t f (i + 1) xs)

pub position-map : {A B : Type 0} (t : B → Bool) (f : A → B) (xs : List A) → position t (map f xs) ≡ position (λ x. t (f x)) xs
position-map t f xs = position_from-zero t (map f xs) ∙ position_from-map t f 0 xs ∙ sym (position_from-zero (λ x. t (f x)) xs)

none_step : (b : Bool) (i : ℕ) (o : Option ℕ) (r : Bool) → is_some (cond b (Some i) o) ≡ false → (is_some o ≡ false → r ≡ false) → (b || r) ≡ false
none_step true i o r e h = absurd (true≢false e)
none_step false i o r e h = h e

none_any : {A : Type 0} (t : A → Bool) (i : ℕ) (xs : List A) → is_some (position_from t i xs) ≡ false → list_any t xs ≡ false
none_any t i [] e = refl
none_any t i (x ∷ xs) e = none_step (t x) i (position_from t (i + 1) xs) (list_any t xs) e (none_any t (i + 1) xs)

-- a new name goes last
pub added : (keys new : List (String Global)) (old : List (List ℕ)) (owned : String Global) (name : List ℕ)
    → map string_bytes keys ≡ old → string_bytes owned ≡ name → is_some (position (bytes_eq name) old) ≡ false
    → new ≡ (if list_any (string_eq owned) keys then keys else keys ++ owned ∷ []) → map string_bytes new ≡ old ++ name ∷ []
added keys new old owned name v n absent e =
    let gone : list_any (string_eq owned) keys ≡ false = none_any (string_eq owned) 0 keys
    (ap is_some (sym (position_from-zero (string_eq owned) keys)) ∙ ap is_some (sym (position-map (bytes_eq (string_bytes owned)) string_bytes keys))
    ∙ ap (λ k. is_some (position (bytes_eq k) (map string_bytes keys))) n ∙ ap (λ o. is_some (position (bytes_eq name) o)) v ∙ absent) in
    ap (map string_bytes) (e ∙ ap (λ (b : Bool). if b then keys else keys ++ owned ∷ []) gone) ∙ map_push string_bytes keys owned ∙ ap (λ o. o ++ string_bytes owned ∷ []) v ∙ ap (λ k. old ++ k ∷ []) n

-- ---- names that are all different

swap_at : (x y : List ℕ) (b : Bool) → bytes_eq y x ≡ b → bytes_eq x y ≡ false → b ≡ false
swap_at x y true e n = absurd (true≢false (sym ((bytes_eq-Decides x y).1 (sym ((bytes_eq-Decides y x).0 e))) ∙ n))
swap_at x y false e n = refl

or_false : (a b : Bool) → (a || b) ≡ false → (a ≡ false) × (b ≡ false)
or_false true b e = absurd (true≢false e)
or_false false b e = (refl, e)

-- one more that none of them is
pub distinct_add : (names : List (List ℕ)) (name : List ℕ) → IsDistinct bytes_eq names → list_any (bytes_eq name) names ≡ false → IsDistinct bytes_eq (names ++ name ∷ [])
unfolding IsDistinct
distinct_add [] name d n = (tt, tt)
distinct_add (x ∷ xs) name d n =
    let p = or_false (bytes_eq name x) (list_any (bytes_eq name) xs) n in (
      each-append (λ y. bytes_eq x y ≡ false) xs (name ∷ []) d.0 (swap_at name x (bytes_eq x name) refl p.0, tt),
      distinct_add xs name d.1 p.1,
    )

pub no_names : IsDistinct bytes_eq []
unfolding IsDistinct
no_names = tt

-- where a name has no position, none is the same
pub absent_any : (names : List (List ℕ)) (name : List ℕ) → is_some (position (bytes_eq name) names) ≡ false → list_any (bytes_eq name) names ≡ false
absent_any names name e = none_any (bytes_eq name) 0 names (ap is_some (sym (position_from-zero (bytes_eq name) names)) ∙ e)

pub added_distinct : (new old : List (List ℕ)) (name : List ℕ) → IsDistinct bytes_eq old → is_some (position (bytes_eq name) old) ≡ false → new ≡ old ++ name ∷ [] → IsDistinct bytes_eq new
added_distinct new old name d absent e = rw e (distinct_add old name d (absent_any old name absent))
