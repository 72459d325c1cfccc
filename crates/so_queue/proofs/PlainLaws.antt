-- One list of all waiting demands, after a push and a take.
use Rattle.std.proofs.Common.{◌≡◌, ◌≢◌, ℕ, zero, suc, ◌<◌, List, [], ◌∷◌, ◌++◌, length, Some, None, arith, refl, sym, ◌∙◌, inl, inr}
use Rattle.std.specs.Prelude.{slice_set, replicate, remove}
use Rattle.std.proofs.lemmas.Bool.{cases_eq, eq-eqb, ne_eqb}
use Rattle.so_queue.specs.declared.plain.Waiting.{Waiting}
use Rattle.so_queue.specs.Queues.{list_at, head_of, behind_head}
use Rattle.so_queue.specs.Plain.{on_slot, lists_on, waiting_at, IsFirstOn, IsPlaceOf}
use Rattle.so_lists.proofs.EachBelow.{length-each_below, get_or-each_below, each_below-set, each_below-replicate}

-- the list of a slot
pub list_on : (slots : ℕ) (ws : List Waiting) (s : ℕ) → s < slots → list_at (lists_on slots ws) s ≡ on_slot ws s
list_on slots ws s l = get_or-each_below (on_slot ws) slots s [] l

-- the first demand of a slot
behind_first : (w : Waiting) (ws : List Waiting) (s at : ℕ) → IsFirstOn (w ∷ ws) s (suc at) → IsFirstOn ws s at
behind_first w ws s at f = record { within = omega (arith, f.within); here = f.here; before = λ k l. f.before (suc k) (omega arith) }

pub first_head : (ws : List Waiting) (s at : ℕ) → IsFirstOn ws s at → head_of (on_slot ws s) ≡ Some (waiting_at ws at).demand
first_head [] s at f = absurd (omega (arith, f.within))
first_head (w ∷ ws) s zero f = rw (eq-eqb w.slot s f.here) refl
first_head (w ∷ ws) s (suc at) f = rw (ne_eqb w.slot s (f.before 0 (omega arith))) (first_head ws s at (behind_first w ws s at f))

pub none_on : (ws : List Waiting) (s : ℕ) → IsPlaceOf ws s None → on_slot ws s ≡ []
none_on [] s f = refl
none_on (w ∷ ws) s f = rw (ne_eqb w.slot s (f 0 (omega arith))) (none_on ws s (λ k l. f (suc k) (omega arith)))

-- a take
pub taken_here : (ws : List Waiting) (s at : ℕ) → IsFirstOn ws s at → on_slot (remove ws at) s ≡ behind_head (on_slot ws s)
taken_here [] s at f = absurd (omega (arith, f.within))
taken_here (w ∷ ws) s zero f = rw (eq-eqb w.slot s f.here) refl
taken_here (w ∷ ws) s (suc at) f = rw (ne_eqb w.slot s (f.before 0 (omega arith))) (taken_here ws s at (behind_first w ws s at f))

pub taken_other : (ws : List Waiting) (s t at : ℕ) → IsFirstOn ws s at → t ≢ s → on_slot (remove ws at) t ≡ on_slot ws t
taken_other [] s t at f n = absurd (omega (arith, f.within))
taken_other (w ∷ ws) s t zero f n = rw (ne_eqb w.slot t (λ h. n (sym h ∙ f.here))) refl
taken_other (w ∷ ws) s t (suc at) f n =
    let rest = taken_other ws s t at (behind_first w ws s at f) n in
    elim (cases_eq w.slot t) [ inl here ↦ rw (eq-eqb w.slot t here, rest) refl | inr other ↦ rw (ne_eqb w.slot t other, rest) refl ]

pub lists_taken : (slots : ℕ) (ws : List Waiting) (s at : ℕ) → IsFirstOn ws s at → s < slots → lists_on slots (remove ws at) ≡ slice_set (lists_on slots ws) s (behind_head (list_at (lists_on slots ws) s))
lists_taken slots ws s at f l =
    rw (list_on slots ws s l) (each_below-set (on_slot ws) (on_slot (remove ws at)) slots s (behind_head (on_slot ws s)) l (taken_here ws s at f) (λ t tl n. taken_other ws s t at f n))

pub head_taken : (slots : ℕ) (ws : List Waiting) (s at : ℕ) → IsFirstOn ws s at → s < slots → head_of (list_at (lists_on slots ws) s) ≡ Some (waiting_at ws at).demand
head_taken slots ws s at f l = rw (list_on slots ws s l) (first_head ws s at f)

-- a push
pushed_here : (ws : List Waiting) (w : Waiting) → on_slot (ws ++ w ∷ []) w.slot ≡ on_slot ws w.slot ++ w.demand ∷ []
pushed_here [] w = rw (eq-eqb w.slot w.slot refl) refl
pushed_here (x ∷ ws) w =
    elim (cases_eq x.slot w.slot) [ inl here ↦ rw (eq-eqb x.slot w.slot here, pushed_here ws w) refl | inr other ↦ rw (ne_eqb x.slot w.slot other, pushed_here ws w) refl ]

pushed_other : (ws : List Waiting) (w : Waiting) (t : ℕ) → t ≢ w.slot → on_slot (ws ++ w ∷ []) t ≡ on_slot ws t
pushed_other [] w t n = rw (ne_eqb w.slot t (λ h. n (sym h))) refl
pushed_other (x ∷ ws) w t n =
    elim (cases_eq x.slot t) [ inl here ↦ rw (eq-eqb x.slot t here, pushed_other ws w t n) refl | inr other ↦ rw (ne_eqb x.slot t other, pushed_other ws w t n) refl ]

pub lists_pushed : (slots : ℕ) (ws : List Waiting) (w : Waiting) → w.slot < slots → lists_on slots (ws ++ w ∷ []) ≡ slice_set (lists_on slots ws) w.slot (list_at (lists_on slots ws) w.slot ++ w.demand ∷ [])
lists_pushed slots ws w l =
    rw (list_on slots ws w.slot l) (each_below-set (on_slot ws) (on_slot (ws ++ w ∷ [])) slots w.slot (on_slot ws w.slot ++ w.demand ∷ []) l (pushed_here ws w) (λ t tl n. pushed_other ws w t n))

pub length-lists_on : (slots : ℕ) (ws : List Waiting) → length (lists_on slots ws) ≡ slots
length-lists_on slots ws = length-each_below (on_slot ws) slots

pub lists_none : (slots : ℕ) (ws : List Waiting) → ws ≡ [] → lists_on slots ws ≡ replicate slots []
lists_none slots ws e = rw e (each_below-replicate (on_slot []) slots [] (λ i. refl))
