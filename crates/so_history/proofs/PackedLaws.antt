-- The entries that short forms stand for, as one more is added, and the entry at a place.
use Rattle.std.proofs.Common.{◌≡◌, ◌<◌, ℕ, ◌+◌, List, [], ◌∷◌, ◌++◌, length, get_or, map, reverse, All, Some, option_map, refl, ap, ap₂, ◌∙◌, arith, slice_get, ℤ, ◌&&◌, true, eqb, int_eq}
use Rattle.std.proofs.lemmas.List.{length-reverse, length-map, map-append, reverse-append, get_or_append_left, get_or_push}
use Rattle.std.proofs.lemmas.List.Elements.{All-head, All-tail, All-push}
use Rattle.std.proofs.lemmas.Option.{slice_get-map}
use Rattle.std.proofs.lemmas.Bool.Decides.{Decides-and, Decides-eqb}
use Rattle.std.specs.Cmp.Rules.{signed_items}
use Rattle.std.specs.Cmp.Lexicographic.{pointwise}
use Rattle.so_ids.specs.declared.Payload.{Payload}
use Rattle.so_history.specs.declared.entry.Entry.{Entry}
use Rattle.so_history.specs.declared.packed.Short.{Short}
use Rattle.so_history.specs.declared.packed.Short.TheVariants.{Run, Skip, End, Send, Log, Whole}
use Rattle.so_history.specs.Packed.{entry_of, entries_of, Fits, no_entry}
use Rattle.so_history.specs.Places.{entry_at}
use Rattle.so_history.proofs.PlacesLemmas.{entry_at-reverse}

-- there are as many entries as short forms
pub entries-length : (whole : List Entry) (shorts : List Short) → length (entries_of whole shorts) ≡ length shorts
entries-length whole shorts = length-reverse (map (entry_of whole) shorts) ∙ length-map shorts (entry_of whole)

-- one more short form stands for one more entry
pub entries-more : (whole : List Entry) (shorts : List Short) (short : Short) → entries_of whole (shorts ++ short ∷ []) ≡ entry_of whole short ∷ entries_of whole shorts
entries-more whole shorts short =
    ap reverse (map-append (entry_of whole) shorts (short ∷ [])) ∙ reverse-append (map (entry_of whole) shorts) (entry_of whole short ∷ [])

-- a form that names none kept whole fits any number, and what fits a number fits one more
pub fits-any : (number : ℕ) (short : Short) → Fits 0 short → Fits number short
fits-any number (Run by lane demand row agent) fits = tt
fits-any number (Skip by lane demand why) fits = tt
fits-any number (End by turn) fits = tt
fits-any number (Send by turn mbox msg first used queued) fits = tt
fits-any number (Log by turn text first used) fits = tt
fits-any number (Whole at) fits = absurd (omega (arith, fits))

fits-more : (number : ℕ) (short : Short) → Fits number short → Fits (number + 1) short
fits-more number (Run by lane demand row agent) fits = tt
fits-more number (Skip by lane demand why) fits = tt
fits-more number (End by turn) fits = tt
fits-more number (Send by turn mbox msg first used queued) fits = tt
fits-more number (Log by turn text first used) fits = tt
fits-more number (Whole at) fits = omega (arith, fits)

-- one more entry is kept whole, and the last short form names it
pub all_fit-more : (number : ℕ) (shorts : List Short) → All (Fits number) shorts → All (Fits (number + 1)) (shorts ++ Whole number ∷ [])
all_fit-more number shorts all =
    All-push (Fits (number + 1)) shorts (Whole number) (λ k d lt. fits-more number (get_or shorts k d) (all k d lt)) (omega arith)

-- the short forms so far stand for the same entries
same_entry : (whole : List Entry) (entry : Entry) (short : Short) → Fits (length whole) short → entry_of (whole ++ entry ∷ []) short ≡ entry_of whole short
same_entry whole entry (Run by lane demand row agent) fits = refl
same_entry whole entry (Skip by lane demand why) fits = refl
same_entry whole entry (End by turn) fits = refl
same_entry whole entry (Send by turn mbox msg first used queued) fits = refl
same_entry whole entry (Log by turn text first used) fits = refl
same_entry whole entry (Whole at) fits = get_or_append_left whole (entry ∷ []) no_entry at fits

same_entries : (whole : List Entry) (entry : Entry) (shorts : List Short) → All (Fits (length whole)) shorts → map (entry_of (whole ++ entry ∷ [])) shorts ≡ map (entry_of whole) shorts
same_entries whole entry [] all = refl
same_entries whole entry (short ∷ shorts) all =
    ap₂ (λ e es. e ∷ es) (same_entry whole entry short (All-head (Fits (length whole)) short shorts all)) (same_entries whole entry shorts (All-tail (Fits (length whole)) short shorts all))

pub entries-whole : (whole : List Entry) (entry : Entry) (shorts : List Short) → All (Fits (length whole)) shorts →
    entries_of (whole ++ entry ∷ []) (shorts ++ Whole (length whole) ∷ []) ≡ entry ∷ entries_of whole shorts
entries-whole whole entry shorts all =
    entries-more (whole ++ entry ∷ []) shorts (Whole (length whole))
    ∙ ap₂ (λ e es. e ∷ es) (get_or_push whole entry no_entry (length whole) refl) (ap reverse (same_entries whole entry shorts all))

-- the entry at a place is what the short form there stands for
pub entries-at : (whole : List Entry) (shorts : List Short) (place : ℕ) (short : Short) → slice_get shorts place ≡ Some short → entry_at (entries_of whole shorts) place ≡ Some (entry_of whole short)
entries-at whole shorts place short here =
    entry_at-reverse (map (entry_of whole) shorts) place ∙ (slice_get-map (entry_of whole) shorts place ∙ ap (option_map (entry_of whole)) here)

-- payloads that compare as equal are equal
abbrev payload_of : List ℤ → ℕ → Payload
payload_of fields used = record { fields = fields; used = used }

pub same_payload : (a b : Payload) → (pointwise int_eq a.fields b.fields && eqb a.used b.used) ≡ true → a ≡ b
same_payload a b same =
    let equal = (Decides-and (pointwise int_eq a.fields b.fields) (eqb a.used b.used) (signed_items a.fields b.fields) (Decides-eqb a.used b.used)).0 same in
    ap₂ payload_of equal.0 equal.1
