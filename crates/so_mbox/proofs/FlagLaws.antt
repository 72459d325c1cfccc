-- Flags that are written anew one after the other.
use Rattle.std.proofs.Common.{◌≡◌, ℕ, zero, suc, ◌<◌, List, [], ◌∷◌, length, map, Bool, false, ◌&&◌, drop, arith, refl, ap}
use Rattle.std.specs.Prelude.{slice_set, slice_index_or, zip, not}
use Rattle.std.specs.List.{list_any}
use Rattle.so_state.specs.declared.choice.Row.{Row}
use Rattle.so_scene.specs.declared.parts.FilterDef.{FilterDef}
use Rattle.so_scene.specs.Subscriptions.{rows_first, is_active_first, replaces, filters_first}

-- the first n flags are written, each by the flag itself and what stands beside it
abbrev pub written : {X : Type 0} → (X × Bool → Bool) → ℕ → List X → List Bool → List Bool
written f zero xs bs = bs
written f (suc n) [] bs = bs
written f (suc n) (x ∷ xs) [] = []
written f (suc n) (x ∷ xs) (b ∷ bs) = f (x, b) ∷ written f n xs bs

pub length-written : {X : Type 0} (f : X × Bool → Bool) (n : ℕ) (xs : List X) (bs : List Bool) → length (written f n xs bs) ≡ length bs
length-written f zero xs bs = refl
length-written f (suc n) [] bs = refl
length-written f (suc n) (x ∷ xs) [] = refl
length-written f (suc n) (x ∷ xs) (b ∷ bs) = ap suc (length-written f n xs bs)

-- one more
pub written-next : {X : Type 0} (f : X × Bool → Bool) (n : ℕ) (xs : List X) (bs : List Bool) (x : X) → n < length xs → length bs ≡ length xs → slice_index_or xs n x ≡ x →
    slice_set (written f n xs bs) n (f (x, slice_index_or (written f n xs bs) n false)) ≡ written f (suc n) xs bs
written-next f n [] bs x l e i = absurd (omega arith)
written-next f n (y ∷ xs) [] x l e i = absurd (omega arith)
written-next f zero (y ∷ xs) (b ∷ bs) x l e i = rw (i) refl
written-next f (suc n) (y ∷ xs) (b ∷ bs) x l e i = ap (λ r. f (y, b) ∷ r) (written-next f n xs bs x (omega arith) (omega arith) i)

-- the same where the element is looked up
pub written-at : {X : Type 0} (f : X × Bool → Bool) (n : ℕ) (xs : List X) (bs : List Bool) (d : X) → n < length xs → length bs ≡ length xs →
    slice_set (written f n xs bs) n (f (slice_index_or xs n d, slice_index_or (written f n xs bs) n false)) ≡ written f (suc n) xs bs
written-at f n [] bs d l e = absurd (omega arith)
written-at f n (y ∷ xs) [] d l e = absurd (omega arith)
written-at f zero (y ∷ xs) (b ∷ bs) d l e = refl
written-at f (suc n) (y ∷ xs) (b ∷ bs) d l e = ap (λ r. f (y, b) ∷ r) (written-at f n xs bs d (omega arith) (omega arith))

-- all of them
pub written-all : {X : Type 0} (f : X × Bool → Bool) (xs : List X) (bs : List Bool) → length bs ≡ length xs → written f (length xs) xs bs ≡ map f (zip xs bs)
written-all f [] [] e = refl
written-all f [] (b ∷ bs) e = absurd (omega arith)
written-all f (x ∷ xs) [] e = absurd (omega arith)
written-all f (x ∷ xs) (b ∷ bs) e = ap (λ r. f (x, b) ∷ r) (written-all f xs bs (omega arith))

-- rows, of which each is as at the registration
abbrev pub as_first : Row × Bool → Bool
as_first row = is_active_first row.0

pub rows-written : (rows : List Row) (bs : List Bool) → length bs ≡ length rows → map as_first (zip rows bs) ≡ rows_first rows
rows-written [] [] e = refl
rows-written [] (b ∷ bs) e = absurd (omega arith)
rows-written (row ∷ rows) [] e = absurd (omega arith)
rows-written (row ∷ rows) (b ∷ bs) e = ap (λ r. row.active ∷ r) (rows-written rows bs (omega arith))

-- flags that are copied from a list
abbrev pub as_copied : Bool × Bool → Bool
as_copied pair = pair.0

pub all-copied : (xs : List Bool) (bs : List Bool) → length bs ≡ length xs → map as_copied (zip xs bs) ≡ xs
all-copied [] [] e = refl
all-copied [] (b ∷ bs) e = absurd (omega arith)
all-copied (x ∷ xs) [] e = absurd (omega arith)
all-copied (x ∷ xs) (b ∷ bs) e = ap (λ r. x ∷ r) (all-copied xs bs (omega arith))

-- ---- filters

pub length-filters_first : (filters : List FilterDef) → length (filters_first filters) ≡ length filters
length-filters_first [] = refl
length-filters_first (f ∷ later) = ap suc (length-filters_first later)

-- a filter is active at first where it says so, and none of those after it replaces it
pub first-at : (filters : List FilterDef) (k : ℕ) (f : FilterDef) → k < length filters → f ≡ slice_index_or filters k f →
    slice_index_or (filters_first filters) k false ≡ (f.active && not (list_any (replaces f) (drop (suc k) filters)))
first-at [] k f l e = absurd (omega arith)
first-at (g ∷ later) zero f l e = rw (e) refl
first-at (g ∷ later) (suc k) f l e = first-at later k f (omega arith) e
