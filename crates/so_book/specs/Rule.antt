-- The rule of a book's table, and what each step on it tells the seat that steps.
-- The words are the next ticket, the ticket that is served, and the length of the history. The one slot has the value.
use Rattle.std.specs.Prelude.{◌≡◌, ◌≢◌, ◌⊎◌, ℕ, zero, suc, ◌+◌, ◌^◌, ◌<◌, ◌≤◌, Bool, true, false, nat_le, List, [], ◌∷◌, ◌++◌, length, map, Option, Some, None}
use mathlib.Core.Option.{none, some}
use mathlib.Core.Option as maybe
use lib.ListN.{get_elem?}
use Rattle.atomic_table.specs.Table.{State, Me, Step}
use Rattle.so_ids.specs.declared.PartyId.{PartyId}
use Rattle.so_book.specs.declared.view.Note.{Note}
use Rattle.so_book.specs.declared.view.Stage.{Stage}
use Rattle.so_book.specs.declared.view.Stage.TheVariants.{Opens, Fills, Free, Waits, Holds, Wrote}
use Rattle.so_book.specs.declared.view.View.{View}
use Rattle.so_book.specs.History.{Began, signed_by}

-- The word for a history of n entries. From the first `close_last` on it is marked: it is 2 ^ 32 or more, and its low 32 bits differ too
abbrev pub length_word : ℕ → Bool → ℕ
length_word n false = n
length_word n true = 2 ^ 32 + n + 1

abbrev pub is_marked : ℕ → Bool
is_marked word = nat_le (2 ^ 32) word

-- Each seat in each stage. `away`: the slot is out with the seat that drew the ticket that is served
module _ (drawer : ℕ → ℕ) (away : Bool) (serving next len j : ℕ) where
  abbrev pub Stands : Stage → Type 0
  Stands Opens = ⊥
  Stands Fills = ⊥
  Stands Free = Unit {0}
  Stands (Waits k) = (drawer k ≡ j) × (serving ≤ k) × (k < next)
  Stands (Holds k) = (drawer k ≡ j) × (k ≡ serving) × (k < next) × (away ≡ true)
  Stands (Wrote k n) = (drawer k ≡ j) × (k ≡ serving) × (k < next) × (away ≡ true) × (len ≡ n)

-- the seat has the slot
abbrev pub has_slot : Stage → Bool
has_slot Opens = false
has_slot Fills = false
has_slot Free = false
has_slot (Waits k) = false
has_slot (Holds k) = true
has_slot (Wrote k n) = true

-- the seat has written the length
abbrev pub has_written : Stage → Bool
has_written Opens = false
has_written Fills = false
has_written Free = false
has_written (Waits k) = false
has_written (Holds k) = false
has_written (Wrote k n) = true

-- the length's word that the seat wrote was marked
abbrev pub wrote_mark : Stage → Bool
wrote_mark Opens = false
wrote_mark Fills = false
wrote_mark Free = false
wrote_mark (Waits k) = false
wrote_mark (Holds k) = false
wrote_mark (Wrote k n) = is_marked n

module _ {E : Type 0} where
  abbrev pub note : PartyId → List E → List E → Bool → Note E
  note party seen mine last = record { party = party; seen = seen; mine = mine; last = last }

  abbrev pub view_of : List (Note E) → Stage → View E
  view_of notes stage = record { notes = notes; stage = stage }

  abbrev pub first_note : List (Note E) → Note E
  first_note [] = note (record { 0 = 0 }) [] [] false
  first_note (x ∷ xs) = x

  abbrev pub later_notes : List (Note E) → List (Note E)
  later_notes [] = []
  later_notes (x ∷ xs) = xs

  abbrev pub note_count : View E → ℕ
  note_count d = length d.notes

  -- the sum of f over the views
  abbrev pub total : (View E → ℕ) → List (View E) → ℕ
  total f [] = 0
  total f (d ∷ ds) = f d + total f ds

  abbrev pub EachNote : (Note E → Type 0) → List (Note E) → Type 0
  EachNote P [] = Unit {0}
  EachNote P (x ∷ xs) = P x × EachNote P xs

  -- the notes of `count` parties from this number on, none of which has seen anything
  abbrev pub blank_notes : ℕ → ℕ → List (Note E)
  blank_notes k zero = []
  blank_notes k (suc count) = note (record { 0 = k }) [] [] false ∷ blank_notes (k + 1) count

  module _ (signer : E → PartyId) where
    -- the party of the note has seen the history, and knows whether `close_last` was called
    abbrev pub told : List E → Bool → Note E → Note E
    told now last x = note x.party now (signed_by signer x.party now) last

    -- the notes of `count` parties from this number on, each of which has seen the history
    abbrev pub told_notes : List E → ℕ → ℕ → List (Note E)
    told_notes now k count = map (told now false) (blank_notes k count)

  module _ (signer : E → PartyId) (now : List E) (marked : Bool) (seat_of : ℕ → ℕ) (j : ℕ) where
    -- what the note says is so, and its party is the seat's
    abbrev pub IsTrueNote : Note E → Type 0
    IsTrueNote x =
        (seat_of x.party.0 ≡ j)
        × Began x.seen now
        × (signed_by signer x.party now ≡ x.mine)
        × (x.last ≡ true → marked ≡ true)

module _ {V E : Type 0} (history : V → List E) (signer : E → PartyId) where
  -- the value is at home, has the history `now`, and the word says how long it is
  abbrev pub IsHome : List (maybe.Option (Option V)) → Bool → ℕ → List E → Bool → Type 0
  IsHome homes away len now marked =
      (away ≡ false)
      × ((v : V) × (homes ≡ some (Some v) ∷ []) × (history v ≡ now))
      × (len ≡ length_word (length now) marked)

  -- the seat that drew the ticket that is served has the value, and saw `now`. Until it writes the length, the word is as it was
  abbrev pub IsOut : List (View E) → (ℕ → ℕ) → Bool → ℕ → ℕ → List E → Bool → Type 0
  IsOut views drawer away serving len now marked =
      (away ≡ true)
      × ((x : Note E)
      × (g : Stage)
      × (get_elem? views (drawer serving) ≡ some (view_of (x ∷ []) g))
      × (has_slot g ≡ true)
      × (x.seen ≡ now)
      × (x.last ≡ marked)
      × (has_written g ≡ false → len ≡ length_word (length now) marked))

  abbrev pub IsThere : List (maybe.Option (Option V)) → List (View E) → (ℕ → ℕ) → Bool → ℕ → ℕ → List E → Bool → Type 0
  IsThere homes views drawer away serving len now marked =
      IsHome homes away len now marked ⊎ IsOut views drawer away serving len now marked

  -- The book is in use: `now` is its history, and `marked` says whether `close_last` was called.
  -- `seat_of` gives the seat of a party, and `drawer` the seat that drew a ticket
  pub record Runs (seats : ℕ) (s : State (Option V) (View E)) : Type 0 where
    pub now : List E
    pub marked : Bool
    pub seat_of : ℕ → ℕ
    pub drawer : ℕ → ℕ
    pub away : Bool
    pub next : ℕ
    pub serving : ℕ
    pub len : ℕ
    pub words : s.words ≡ next ∷ serving ∷ len ∷ []
    pub slot : length s.homes ≡ 1
    pub order : serving ≤ next
    pub short : length now < 2 ^ 32
    pub each_view : (j : ℕ) (d : View E) → get_elem? s.views j ≡ some d
        → Stands drawer away serving next len j d.stage × EachNote (IsTrueNote signer now marked seat_of j) d.notes
    pub there : IsThere s.homes s.views drawer away serving len now marked
    pub stays : marked ≡ true → 2 ^ 32 ≤ len
    pub counted : total note_count s.views ≡ seats

  -- The book is made: its one seat has the notes of all parties, and the slot is empty at first
  abbrev pub IsOpened : ℕ → ℕ → State (Option V) (View E) → Type 0
  IsOpened seats first s = (s.words ≡ 0 ∷ 0 ∷ first ∷ []) × (s.homes ≡ some None ∷ []) × (s.views ≡ view_of (blank_notes 0 seats) Opens ∷ [])

  abbrev pub IsFilled : ℕ → ℕ → State (Option V) (View E) → Type 0
  IsFilled seats first s = (s.words ≡ 0 ∷ 0 ∷ first ∷ []) × (length s.homes ≡ 1) × (s.views ≡ view_of (blank_notes 0 seats) Fills ∷ [])

  abbrev pub Kept : ℕ → ℕ → State (Option V) (View E) → Type 0
  Kept seats first s = Runs seats s ⊎ (IsOpened seats first s ⊎ IsFilled seats first s)

  abbrev Sat : Type 0
  Sat = Me (Option V) (View E)

  -- a ticket was drawn, where the number found is the one expected
  abbrev pub drew : Step (Option V) → Sat → ℕ → Sat → Type 0
  drew st m r m' = (r ≡ st.first → m' ≡ (view_of m.0.notes (Waits r), m.1)) × (r ≢ st.first → m' ≡ m)

  -- The seat took the value. Its history began with what was seen, and has just the party's entries that the note has.
  -- The seat learns whether `close_last` was called, and what it knew of that stays so
  abbrev pub Takes : ℕ → Note E → Sat → Type 0
  Takes k x m' =
      (v : V)
      × (last : Bool)
      × Began x.seen (history v)
      × (signed_by signer x.party (history v) ≡ x.mine)
      × (x.last ≡ true → last ≡ true)
      × (m' ≡ (view_of (note x.party (history v) x.mine last ∷ []) (Holds k), (0, Some v) ∷ []))

  -- the value was taken, where the ticket found is the seat's own
  abbrev pub served : Step (Option V) → Sat → ℕ → Sat → Type 0
  served st m r m' = (m.0.stage ≡ Waits r → Takes r (first_note m.0.notes) m') × (m.0.stage ≢ Waits r → m' ≡ m)

  -- The length's word was found. It is marked where the party knows that `close_last` was called.
  -- It isn't where the party has the value, and knows nothing of that
  abbrev pub looked : Step (Option V) → Sat → ℕ → Sat → Type 0
  looked st m r m' =
      (m' ≡ m)
      × ((first_note m.0.notes).last ≡ true → 2 ^ 32 ≤ r)
      × ((k : ℕ) → m.0.stage ≡ Holds k → (first_note m.0.notes).last ≡ false → r < 2 ^ 32)

  -- the length was written
  abbrev pub wrote : Step (Option V) → Sat → ℕ → Sat → Type 0
  wrote st m r m' = (k : ℕ) → m.0.stage ≡ Holds k → m' ≡ (view_of m.0.notes (Wrote k st.first), m.1)

  abbrev pub history_in : Option V → List E
  history_in None = []
  history_in (Some v) = history v

  -- the history of the value in the slot that was taken last
  abbrev pub last_history : List (ℕ × Option V) → List E
  last_history [] = []
  last_history (c ∷ cs) = history_in c.1

  -- The value was given back. Its history is what the parties of the notes have seen, and they know whether the word is marked
  abbrev pub gave : Step (Option V) → Sat → ℕ → Sat → Type 0
  gave st m r m' =
      (m' ≡ (view_of (map (told signer (last_history m.1) (wrote_mark m.0.stage)) m.0.notes) Free, []))
      × EachNote (λ x. signed_by signer x.party x.seen ≡ x.mine) m.0.notes

  -- the empty slot was taken
  abbrev pub opened : Step (Option V) → Sat → ℕ → Sat → Type 0
  opened st m r m' = m' ≡ (view_of m.0.notes Fills, (0, None) ∷ [])

-- the first note goes to a seat of its own
abbrev pub dealt : {E : Type 0} → View E → View E
dealt d = view_of (first_note d.notes ∷ []) Free

abbrev pub left_over : {E : Type 0} → View E → View E
left_over d = view_of (later_notes d.notes) Free

abbrev pub gathered : {E : Type 0} → View E → View E → View E
gathered d other = view_of (other.notes ++ d.notes) Free

abbrev pub spent : {E : Type 0} → View E
spent = view_of [] Free
