-- The word of a limit.
use Rattle.std.proofs.Common.{◌≡◌, ℕ, ◌≤◌, List, length, drop, Bool, true, ◌&&◌, ◌++◌, codes, Option, Some, None, refl, sym, ◌∙◌, ap, arith, IfSome, IfNone, if◌then◌else◌}
use Rattle.std.specs.Prelude.{nat_le}
use Rattle.std.specs.Str.{all_ascii_digits, bytes_eq}
use Rattle.std.specs.Str.Parse.{digits_value}
use Rattle.std.specs.Cmp.Derive.{both_true}
use Rattle.std.proofs.lemmas.Bool.{and_parts, leb-true, le-leb}
use Rattle.std.proofs.lemmas.Option.{cond_some}
use Rattle.std.proofs.lemmas.Slice.Eq.{bytes_eq-Decides}
use Rattle.std.proofs.lemmas.Str.Parse.{IsNumeralModel, numerals_by_value, tells_all_ascii_digits}
use Rattle.so_ids.specs.Limits.{most_units}
use Rattle.so_ring.specs.Ring.{most_in_ring}
use Rattle.sorun.specs.Options.{is_number, limit_of, size_of, most_digits, most_size_digits}
use Rattle.sorun.specs.Sentences.{IsWritten, SetsLimit}

told : IsNumeralModel (λ ds. all_ascii_digits ds ≡ true) (digits_value 10)
told = numerals_by_value (λ ds. all_ascii_digits ds ≡ true) tells_all_ascii_digits

-- digits that write a number, and the test for them
number_is : (longest most : ℕ) (ds : List ℕ) → is_number longest most ds ≡ true → (digits_value 10 ds ≤ most) × IsWritten longest (digits_value 10 ds) ds
number_is longest most ds is =
    let some = and_parts (nat_le 1 (length ds)) _ is in
    let few = and_parts (nat_le (length ds) longest) _ some.1 in
    let digits = and_parts (all_ascii_digits ds) (nat_le (digits_value 10 ds) most) few.1 in
    let one : 1 ≤ length ds = leb-true 1 (length ds) some.0 in
    (leb-true (digits_value 10 ds) most digits.1, record { numeral = (omega (arith, one), IsNumeralModel.to told ds digits.0); few = leb-true (length ds) longest few.0; value = refl })

is-number : (longest most n : ℕ) (ds : List ℕ) → n ≤ most → IsWritten longest n ds → is_number longest most ds ≡ true
is-number longest most n ds few it =
    let one : 1 ≤ length ds = omega (arith, it.numeral.0) in
    let within : digits_value 10 ds ≤ most = omega (arith, few, it.value) in
    both_true (le-leb 1 (length ds) one) (both_true (le-leb (length ds) longest it.few) (both_true (IsNumeralModel.from told ds it.numeral.1) (le-leb (digits_value 10 ds) most within)))

-- a word that gives a limit sets it
pub limit_is : (word : List ℕ) (n : ℕ) → limit_of word ≡ Some n → (n ≤ most_units) × SetsLimit n word
unfolding limit_of
limit_is word n is =
    let ds = drop 8 word in
    let parts = cond_some (bytes_eq word (codes "--limit=" ++ ds) && is_number most_digits most_units ds) (digits_value 10 ds) n is in
    let tests = and_parts (bytes_eq word (codes "--limit=" ++ ds)) (is_number most_digits most_units ds) parts.0 in
    let it = number_is most_digits most_units ds tests.1 in
    let written : IsWritten most_digits n ds = record { numeral = it.1.numeral; few = it.1.few; value = parts.1 } in
    (omega (arith, it.0, parts.1), record { digits = ds; written = written; is = (bytes_eq-Decides word (codes "--limit=" ++ ds)).0 tests.0 })

chosen : (ds : List ℕ) (n : ℕ) (here : Bool) → here ≡ true → n ≤ most_units → IsWritten most_digits n ds → (if here && is_number most_digits most_units ds then Some (digits_value 10 ds) else None) ≡ Some n
chosen ds n here same few it = rw (same, is-number most_digits most_units n ds few it) (ap Some it.value)

-- a word that sets a limit gives it
pub limit-word : (word : List ℕ) (n : ℕ) → n ≤ most_units → SetsLimit n word → limit_of word ≡ Some n
unfolding limit_of
limit-word word n few it =
    let ds = it.digits in
    ap limit_of it.is ∙ chosen ds n (bytes_eq (codes "--limit=" ++ ds) (codes "--limit=" ++ ds)) ((bytes_eq-Decides (codes "--limit=" ++ ds) (codes "--limit=" ++ ds)).1 refl) few it.written

-- what `limit_of` of the program ensures is that its answer is the definition's
pub limit_from : (word : List ℕ) (r : Option ℕ) → IfSome r (λ n. (n ≤ most_units) × SetsLimit n word) → IfNone r ((n : ℕ) → n ≤ most_units → SetsLimit n word → ⊥) → r ≡ limit_of word
limit_from word (Some n) some none = sym (limit-word word n some.0 some.1)
limit_from word None some none = elim (limit_of word) as (λ v. limit_of word ≡ v → None ≡ v) [
  | None ↦ λ is. refl
  | Some n ↦ λ is. let parts = limit_is word n is in absurd (none n parts.0 parts.1)
] refl

-- ---- the number of a ring's agents

chosen_when : (b : Bool) (m n : ℕ) → b ≡ true → m ≡ n → (if b then Some m else None) ≡ Some n
chosen_when b m n on is = rw on (ap Some is)

-- a word that gives a number writes it
pub size_is : (word : List ℕ) (n : ℕ) → size_of word ≡ Some n → (1 ≤ n) × (n ≤ most_in_ring) × IsWritten most_size_digits n word
unfolding size_of
size_is word n is =
    let parts = cond_some (is_number most_size_digits most_in_ring word && nat_le 1 (digits_value 10 word)) (digits_value 10 word) n is in
    let tests = and_parts (is_number most_size_digits most_in_ring word) (nat_le 1 (digits_value 10 word)) parts.0 in
    let it = number_is most_size_digits most_in_ring word tests.0 in
    let some : 1 ≤ digits_value 10 word = leb-true 1 (digits_value 10 word) tests.1 in
    (omega (arith, some, parts.1), omega (arith, it.0, parts.1), record { numeral = it.1.numeral; few = it.1.few; value = parts.1 })

-- and one that writes it gives it
pub size-word : (word : List ℕ) (n : ℕ) → 1 ≤ n → n ≤ most_in_ring → IsWritten most_size_digits n word → size_of word ≡ Some n
unfolding size_of
size-word word n some few it =
    let one : 1 ≤ digits_value 10 word = omega (arith, some, it.value) in
    chosen_when (is_number most_size_digits most_in_ring word && nat_le 1 (digits_value 10 word)) (digits_value 10 word) n
    (both_true (is-number most_size_digits most_in_ring n word few it) (le-leb 1 (digits_value 10 word) one)) it.value

none_given : (word : List ℕ) (r : Option ℕ) → size_of word ≡ r → ((n : ℕ) → 1 ≤ n → n ≤ most_in_ring → IsWritten most_size_digits n word → ⊥) → size_of word ≡ None
none_given word None is none = is
none_given word (Some n) is none = let parts = size_is word n is in absurd (none n parts.0 parts.1 parts.2)

-- none is given where none is written, and where 0 is
pub size-none : (word : List ℕ) → ((n : ℕ) → n ≤ most_in_ring → IsWritten most_size_digits n word → ⊥) → size_of word ≡ None
size-none word none = none_given word (size_of word) refl (λ n some. none n)

pub size-zero : (word : List ℕ) → IsWritten most_size_digits 0 word → size_of word ≡ None
size-zero word it = none_given word (size_of word) refl (λ n some few other. omega (arith, some, it.value, other.value))
