-- What is kept for each state, as leaves are entered.
use Rattle.std.proofs.Common.{◌≡◌, ℕ, ◌+◌, ◌<◌, ◌≤◌, ⊎_elim, Bool, true, false, ◌||◌, List, [], ◌∷◌, length, take, set, get_or, replicate, Option, Some, None, refl, ◌∙◌}
use Rattle.std.specs.Prelude.{if◌then◌else◌}
use Rattle.std.proofs.lemmas.Bool.{cases_lt, cases_eq, eq-eqb, ne_eqb}
use Rattle.std.proofs.lemmas.List.{take_more, get_or-set_same, get_or-set_other, get_or-replicate, get_or_past}
use Rattle.std.proofs.lemmas.List.Folds.{list_any-append}
use Rattle.so_ids.specs.Ids.{default_state}
use Rattle.so_ids.specs.declared.StateId.{StateId}
use Rattle.so_state.specs.declared.states.State.{State}
use Rattle.so_state.specs.States.{same_state, ancestors, is_on}
use Rattle.so_state.specs.Memory.{kept, StandsFor}

or_last : (b : Bool) → (b || (true || false)) ≡ true
or_last true = refl
or_last false = refl

or_none : (b : Bool) → (b || (false || false)) ≡ b
or_none true = refl
or_none false = refl

is_on-more : (above : List StateId) (i : ℕ) (s : StateId) → i < length above → is_on (take (i + 1) above) s ≡ (is_on (take i above) s || (same_state s (get_or above i default_state) || false))
is_on-more above i s h = rw (take_more above i default_state h) (list_any-append (same_state s) (take i above) (get_or above i default_state ∷ []))

-- one more of the states above is written
pub kept_more : (last old : List (Option StateId)) (above : List StateId) (i : ℕ) (leaf : StateId) → (get_or above i default_state).0 < length last → i < length above → ((s : StateId) → kept last s ≡ (if is_on (take i above) s then Some leaf else kept old s)) → (s : StateId) → kept (set last (get_or above i default_state).0 (Some leaf)) s ≡ (if is_on (take (i + 1) above) s then Some leaf else kept old s)
kept_more last old above i leaf within h so_far s =
    ⊎_elim
    (λ (e : s.0 ≡ (get_or above i default_state).0).
    let written = get_or-set_same last (get_or above i default_state).0 (Some leaf) None within in
    rw (is_on-more above i s h, eq-eqb s.0 (get_or above i default_state).0 e, or_last (is_on (take i above) s), e) written)
    (λ (n : s.0 ≡ (get_or above i default_state).0 → ⊥).
    rw (is_on-more above i s h, ne_eqb s.0 (get_or above i default_state).0 n, or_none (is_on (take i above) s), get_or-set_other last (get_or above i default_state).0 s.0 (Some leaf) None n) (so_far s))
    (cases_eq s.0 (get_or above i default_state).0)

-- an entry of the leaf
pub StandsFor-cons : (states : List State) (last after : List (Option StateId)) (leaves : List StateId) (leaf : StateId) → ((s : StateId) → kept after s ≡ (if is_on (ancestors states leaf) s then Some leaf else kept last s)) → StandsFor states last leaves → StandsFor states after (leaf ∷ leaves)
StandsFor-cons states last after leaves leaf step stands = record {
  each = λ s. step s ∙ rw (stands.each s) refl;
}

-- 64 places with nothing
pub kept-none : (s : StateId) → kept (replicate 64 None) s ≡ None
kept-none s =
    ⊎_elim
    (λ (h : s.0 < 64). get_or-replicate 64 s.0 None None h)
    (λ (h : 64 ≤ s.0). get_or_past (replicate 64 None) s.0 None h)
    (cases_lt s.0 64)
