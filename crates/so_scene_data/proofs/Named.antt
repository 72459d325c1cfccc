-- Names and texts: what is legal is UTF-8, and each has its number.
use Rattle.std.proofs.Common.{◌≡◌, ℕ, ◌+◌, ◌<◌, ◌≤◌, suc, zero, List, [], ◌∷◌, ◌++◌, length, get_or, take, Bool, true, false, ◌&&◌, ◌||◌, nat_le, not, Option, Some, None, is_some, refl, sym, ap, ◌∙◌, subst, append_assoc, arith, bytes_eq, if◌then◌else◌}
use Rattle.std.specs.List.{All, AllByRecursion, IsDistinct, position_from, list_all}
use Rattle.std.specs.Str.{is_utf8, IsUtf8}
use Rattle.std.proofs.lemmas.Bool.{leb-true, eqb-true, true≢false}
use Rattle.std.proofs.lemmas.Str.{IsUtf8-from_ascii, is_utf8-from_IsUtf8, IsUtf8-from_is_utf8}
use Rattle.std.proofs.lemmas.Str.Ascii.{IsAscii-from_all}
use Rattle.std.proofs.lemmas.Iterator.Adapters.{position_from-zero}
use Rattle.std.proofs.lemmas.Slice.Eq.{bytes_eq-Decides}
use Rattle.std.proofs.lemmas.List.{take_all}
use Rattle.so_lists.specs.Lists.{is_empty}
use Rattle.so_scene.specs.Words.{is_name, is_text, is_between, is_name_byte, is_text_byte}
use Rattle.so_scene.specs.Names.{number_in}
use Rattle.so_scene_passes.specs.Scope.{is_id, number_with}
use Rattle.so_scene_fields.specs.Values.{text_or_empty}
use Rattle.so_scene.specs.Checked.{given}
use Rattle.so_scene_fields.proofs.Ends.{all_of}
use Rattle.so_scene_data.specs.ActData.{shown}

-- ---- lists

pub each_of : {X : Type 0} (P : X → Type 0) (xs : List X) → All P xs → AllByRecursion P xs
each_of P [] h = tt
each_of P (x ∷ xs) h = (h 0 x (omega arith), each_of P xs (λ i d l. h (suc i) d (omega arith)))

pub each_at : {X : Type 0} (P : X → Type 0) (xs : List X) (i : ℕ) (d : X) → AllByRecursion P xs → i < length xs → P (get_or xs i d)
each_at P xs i d h l = all_of P xs h i d l

-- ---- legal bytes

pub and_true : (a b : Bool) → (a && b) ≡ true → (a ≡ true) × (b ≡ true)
and_true true b e = (refl, e)
and_true false b e = absurd (true≢false (sym e))

or_below : (a b : Bool) (n : ℕ) → (a ≡ true → n < 128) → (b ≡ true → n < 128) → (a || b) ≡ true → n < 128
or_below true b n f g e = f refl
or_below false b n f g e = g e

between_below : (low high n : ℕ) → high < 128 → is_between low high n ≡ true → n < 128
between_below low high n h e = let p : n ≤ high = leb-true n high (and_true (nat_le low n) (nat_le n high) e).1 in omega arith

name_byte : (b : ℕ) → is_name_byte b ≡ true → b < 128
name_byte b e =
    or_below (is_between 48 57 b) _ b (between_below 48 57 b (omega arith))
    (or_below (is_between 65 90 b) _ b (between_below 65 90 b (omega arith))
    (or_below (is_between 97 122 b) _ b (between_below 97 122 b (omega arith))
    (λ f. let p : b ≡ 95 = eqb-true b 95 f in omega arith))) e

text_byte : (b : ℕ) → is_text_byte b ≡ true → b < 128
text_byte b e = between_below 32 126 b (omega arith) e

ascii : (p : ℕ → Bool) → ((b : ℕ) → p b ≡ true → b < 128) → (bs : List ℕ) → list_all p bs ≡ true → AllByRecursion (λ b. b < 128) bs
ascii p f [] e = tt
ascii p f (b ∷ bs) e = let q = and_true (p b) (list_all p bs) e in (f b q.0, ascii p f bs q.1)

utf8 : (bs : List ℕ) → AllByRecursion (λ b. b < 128) bs → is_utf8 bs ≡ true
utf8 bs h = is_utf8-from_IsUtf8 bs (IsUtf8-from_ascii bs (IsAscii-from_all bs (all_of (λ b. b < 128) bs h)))

pub name_utf8 : (name : List ℕ) → is_name name ≡ true → is_utf8 name ≡ true
name_utf8 name e = utf8 name (ascii is_name_byte name_byte name (and_true (nat_le (length name) 32) (list_all is_name_byte name) (and_true (not (is_empty name)) _ e).1).1)

pub text_utf8 : (text : List ℕ) → is_text text ≡ true → is_utf8 text ≡ true
text_utf8 text e = utf8 text (ascii is_text_byte text_byte text (and_true (nat_le (length text) 64) (list_all is_text_byte text) e).1)

-- ---- numbers of names

swap_at : (x y : List ℕ) (b : Bool) → bytes_eq y x ≡ b → bytes_eq x y ≡ false → b ≡ false
swap_at x y true e n = absurd (true≢false (sym ((bytes_eq-Decides x y).1 (sym ((bytes_eq-Decides y x).0 e))) ∙ n))
swap_at x y false e n = refl

pub swap : (x y : List ℕ) → bytes_eq x y ≡ false → bytes_eq y x ≡ false
swap x y n = swap_at x y (bytes_eq y x) refl n

pub same_bytes : (x : List ℕ) → bytes_eq x x ≡ true
same_bytes x = (bytes_eq-Decides x x).1 refl

find_take : (xs : List (List ℕ)) (n i k : ℕ) → IsDistinct bytes_eq xs → k < n → n ≤ length xs → position_from (bytes_eq (get_or xs k [])) i (take n xs) ≡ Some (i + k)
unfolding IsDistinct
find_take [] n i k d l m = absurd (omega arith)
find_take (x ∷ xs) zero i k d l m = absurd (omega arith)
find_take (x ∷ xs) (suc n) i zero d l m = rw (same_bytes x) (ap Some (omega arith))
find_take (x ∷ xs) (suc n) i (suc k) d l m =
    rw (swap x (get_or xs k []) (each_at (λ y. bytes_eq x y ≡ false) xs k [] d.0 (omega arith))) (find_take xs n (i + 1) k d.1 (omega arith) (omega arith) ∙ ap Some (omega arith))

apart_take : (xs : List (List ℕ)) (n : ℕ) → IsDistinct bytes_eq xs → n < length xs → AllByRecursion (λ y. bytes_eq (get_or xs n []) y ≡ false) (take n xs)
unfolding IsDistinct
apart_take [] n d l = absurd (omega arith)
apart_take (x ∷ xs) zero d l = tt
apart_take (x ∷ xs) (suc n) d l = (swap x (get_or xs n []) (each_at (λ y. bytes_eq x y ≡ false) xs n [] d.0 (omega arith)), apart_take xs n d.1 (omega arith))

absent_from : (xs : List (List ℕ)) (name : List ℕ) (i : ℕ) → AllByRecursion (λ y. bytes_eq name y ≡ false) xs → position_from (bytes_eq name) i xs ≡ None
absent_from [] name i h = refl
absent_from (x ∷ xs) name i h = rw h.0 (absent_from xs name (i + 1) h.1)

pub absent : (xs : List (List ℕ)) (name : List ℕ) → AllByRecursion (λ y. bytes_eq name y ≡ false) xs → number_in xs name ≡ None
absent xs name h = position_from-zero (bytes_eq name) xs ∙ absent_from xs name 0 h

pub number_take : (xs : List (List ℕ)) (n k : ℕ) → IsDistinct bytes_eq xs → k < n → n ≤ length xs → number_in (take n xs) (get_or xs k []) ≡ Some k
number_take xs n k d l m = position_from-zero (bytes_eq (get_or xs k [])) (take n xs) ∙ (find_take xs n 0 k d l m ∙ ap Some (omega arith))

pub new_take : (xs : List (List ℕ)) (n : ℕ) → IsDistinct bytes_eq xs → n < length xs → number_in (take n xs) (get_or xs n []) ≡ None
new_take xs n d l = absent (take n xs) (get_or xs n []) (apart_take xs n d l)

pub number_at : (xs : List (List ℕ)) (k : ℕ) → IsDistinct bytes_eq xs → k < length xs → number_in xs (get_or xs k []) ≡ Some k
number_at xs k d l = sym (ap (λ (ys : List (List ℕ)). number_in ys (get_or xs k [])) (take_all (length xs) xs (omega arith))) ∙ number_take xs (length xs) k d l (omega arith)

-- ---- a name behind others

pub each_back : {X : Type 0} (P : X → Type 0) (xs ys : List X) → AllByRecursion P (xs ++ ys) → AllByRecursion P ys
each_back P [] ys h = h
each_back P (x ∷ xs) ys h = each_back P xs ys h.1

pub front_new : (old new : List (List ℕ)) (x : List ℕ) → IsDistinct bytes_eq (old ++ x ∷ new) → AllByRecursion (λ y. bytes_eq x y ≡ false) old
unfolding IsDistinct
front_new [] new x d = tt
front_new (y ∷ old) new x d = (swap y x (each_back (λ z. bytes_eq y z ≡ false) old (x ∷ new) d.0).0, front_new old new x d.1)

-- the next name is new
pub next_new : (old new : List (List ℕ)) (x : List ℕ) → IsDistinct bytes_eq (old ++ x ∷ new) → number_in old x ≡ None
next_new old new x d = absent old x (front_new old new x d)

pub next_distinct : (old new : List (List ℕ)) (x : List ℕ) → IsDistinct bytes_eq (old ++ x ∷ new) → IsDistinct bytes_eq ((old ++ x ∷ []) ++ new)
next_distinct old new x d = subst (IsDistinct bytes_eq) (sym (append_assoc old (x ∷ []) new)) d

-- ---- numbers of ids

abbrev pub HasIdAt : List (Option (List ℕ)) → ℕ → Type 0
HasIdAt ids k = is_some (get_or ids k None) ≡ true

given_apart : (name : List ℕ) (ids : List (Option (List ℕ))) (k : ℕ) → AllByRecursion (λ y. bytes_eq name y ≡ false) (given ids) → k < length ids → HasIdAt ids k → bytes_eq name (text_or_empty (get_or ids k None)) ≡ false
given_apart name [] k h l e = absurd (omega arith)
given_apart name (None ∷ ids) zero h l e = absurd (true≢false (sym e))
given_apart name (Some x ∷ ids) zero h l e = h.0
given_apart name (None ∷ ids) (suc k) h l e = given_apart name ids k h (omega arith) e
given_apart name (Some x ∷ ids) (suc k) h l e = given_apart name ids k h.1 (omega arith) e

find_id : (ids : List (Option (List ℕ))) (i k : ℕ) → IsDistinct bytes_eq (given ids) → k < length ids → HasIdAt ids k → position_from (is_id (text_or_empty (get_or ids k None))) i ids ≡ Some (i + k)
unfolding IsDistinct
find_id [] i k d l e = absurd (omega arith)
find_id (None ∷ ids) i zero d l e = absurd (true≢false (sym e))
find_id (Some x ∷ ids) i zero d l e = rw (same_bytes x) (ap Some (omega arith))
find_id (None ∷ ids) i (suc k) d l e = find_id ids (i + 1) k d (omega arith) e ∙ ap Some (omega arith)
find_id (Some x ∷ ids) i (suc k) d l e =
    rw (swap x (text_or_empty (get_or ids k None)) (given_apart x ids k d.0 (omega arith) e)) (find_id ids (i + 1) k d.1 (omega arith) e ∙ ap Some (omega arith))

pub within : (ids : List (Option (List ℕ))) (k : ℕ) → HasIdAt ids k → k < length ids
within [] k e = absurd (true≢false (sym e))
within (x ∷ ids) zero e = omega arith
within (x ∷ ids) (suc k) e = let l : k < length ids = within ids k e in omega arith

pub id_number : (ids : List (Option (List ℕ))) (k : ℕ) → IsDistinct bytes_eq (given ids) → HasIdAt ids k → number_with ids (text_or_empty (get_or ids k None)) ≡ Some k
id_number ids k d e = position_from-zero (is_id (text_or_empty (get_or ids k None))) ids ∙ (find_id ids 0 k d (within ids k e) e ∙ ap Some (omega arith))

-- an id that is given is legal where each is
pub id_legal : (P : List ℕ → Type 0) (ids : List (Option (List ℕ))) (k : ℕ) → AllByRecursion P (given ids) → HasIdAt ids k → P (text_or_empty (get_or ids k None))
id_legal P [] k h e = absurd (true≢false (sym e))
id_legal P (None ∷ ids) zero h e = absurd (true≢false (sym e))
id_legal P (Some x ∷ ids) zero h e = h.0
id_legal P (None ∷ ids) (suc k) h e = id_legal P ids k h e
id_legal P (Some x ∷ ids) (suc k) h e = id_legal P ids k h.1 e

-- ---- bytes that are shown

pub shown_same : (bytes : List ℕ) → IsUtf8 bytes → shown bytes ≡ bytes
shown_same bytes h = rw (is_utf8-from_IsUtf8 bytes h)

none_at : (bytes : List ℕ) (b : Bool) → is_utf8 bytes ≡ b → (IsUtf8 bytes → ⊥) → (if b then bytes else []) ≡ []
none_at bytes true e f = absurd (f (IsUtf8-from_is_utf8 bytes e))
none_at bytes false e f = refl

pub shown_none : (bytes : List ℕ) → (IsUtf8 bytes → ⊥) → shown bytes ≡ []
shown_none bytes f = none_at bytes (is_utf8 bytes) refl f
