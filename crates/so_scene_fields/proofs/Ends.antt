-- Lists of parts.
use Rattle.std.proofs.Common.{◌≡◌, ℕ, zero, suc, ◌<◌, ◌≤◌, List, [], ◌∷◌, length, get_or, map, take, Bool, true, false, refl, sym, ap, ◌∙◌, string_bytes, arith}
use Rattle.std.proofs.lemmas.Bool.{true≢false}
use Rattle.std.proofs.lemmas.List.{take_all}
use Rattle.std.specs.Prelude.{String}
use Rattle.std.specs.List.{All, AllByRecursion}
use Rattle.std.specs.declared.alloc.Global.{Global}
use Rattle.serde_json.specs.Data.{Data, Items, no_items, item}
use Rattle.serde_json.specs.Events.{items_len}
use Rattle.serde_json.specs.View.{view, items_view}
use Rattle.serde_json.specs.declared.value.Value.{Value}
use Rattle.so_scene_fields.specs.Visits.{listed}

pub all_of : {X : Type 0} (P : X → Type 0) (xs : List X) → AllByRecursion P xs → All P xs
all_of P [] a i d l = absurd (omega arith)
all_of P (x ∷ xs) a zero d l = a.0
all_of P (x ∷ xs) a (suc i) d l = all_of P xs a.1 i d (omega arith)

get_map : {X Y : Type 0} (f : X → Y) (xs : List X) (i : ℕ) (d : X) (e : Y) → i < length xs → get_or (map f xs) i e ≡ f (get_or xs i d)
get_map f [] i d e l = absurd (omega arith)
get_map f (x ∷ xs) zero d e l = refl
get_map f (x ∷ xs) (suc i) d e l = get_map f xs i d e (omega arith)

pub length_map : {X Y : Type 0} (f : X → Y) (xs : List X) → length (map f xs) ≡ length xs
length_map f [] = refl
length_map f (x ∷ xs) = omega (arith, length_map f xs)

pub length_listed : (ds : Items) → length (listed ds) ≡ items_len ds
length_listed no_items = refl
length_listed (item d ds) = omega (arith, length_listed ds)

-- where each passes a test, none fails it
pub no_other : (test : List ℕ → Bool) (names : List (String Global)) (i : ℕ) (d x : String Global) (t : List ℕ) → All (λ t. test t ≡ true) (map string_bytes names) → i < length names → x ≡ get_or names i d → t ≡ string_bytes x → test t ≡ false → ⊥
no_other test names i d x t a l e f g =
    let is : test (get_or (map string_bytes names) i []) ≡ true = a i [] (omega (arith, length_map string_bytes names)) in
    let same : t ≡ get_or (map string_bytes names) i [] = f ∙ (ap string_bytes e ∙ sym (get_map string_bytes names i d [] l)) in
    true≢false (sym is ∙ (sym (ap test same) ∙ g))

-- ---- what a loop made of each value

map_listed : {X : Type 0} (f : Data → X) (vs : List Value) → map (λ v. f (view v)) vs ≡ map f (listed (items_view vs))
map_listed f [] = refl
map_listed f (v ∷ vs) = ap (λ xs. f (view v) ∷ xs) (map_listed f vs)

pub taken_all : {X : Type 0} (f : Data → X) (made : List X) (vs : List Value) (i : ℕ) → length vs ≤ i → made ≡ map (λ v. f (view v)) (take i vs) → made ≡ map f (listed (items_view vs))
taken_all f made vs i l e = e ∙ (ap (map (λ v. f (view v))) (take_all i vs l) ∙ map_listed f vs)
