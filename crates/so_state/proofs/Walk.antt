-- A walk up the hierarchy, step by step.
use Rattle.std.proofs.Common.{◌≡◌, ℕ, zero, suc, ◌+◌, ◌-◌, ◌<◌, List, [], ◌∷◌, ◌++◌, length, Some, arith, refl, ap, sym, slice_get, sub-one, ◌∙◌, append_assoc, length-append}
use Rattle.so_ids.specs.declared.StateId.{StateId}
use Rattle.so_state.specs.declared.states.State.{State}
use Rattle.so_state.specs.States.{state_numbered, and_above, parent_of, ancestors_within}

-- as the code looks a state up
pub state_numbered-past_zero : (states : List State) (n : ℕ) → (n ≡ 0 → ⊥) → slice_get states (n - 1) ≡ state_numbered states n
state_numbered-past_zero states zero h = absurd (h refl)
state_numbered-past_zero states (suc k) h = rw sub-one refl

pub ruleset lookups = (state_numbered-past_zero)

-- with steps left, the next ancestor is the parent
pub ancestors_within-left : (n i : ℕ) (states : List State) (s : StateId) → i < n → ancestors_within (n - i) states s ≡ and_above (ancestors_within (n - (i + 1)) states) (parent_of states s)
ancestors_within-left n i states s h =
    let e : n - i ≡ suc (n - (i + 1)) = omega arith in ap (λ k. ancestors_within k states s) e

-- the walk that has gone through `done` goes on through the parent
pub walk_more : (whole done : List StateId) (n i : ℕ) (states : List State) (at parent : StateId) → whole ≡ done ++ ancestors_within (n - i) states at → parent_of states at ≡ Some parent → i < n → whole ≡ (done ++ parent ∷ []) ++ ancestors_within (n - (i + 1)) states parent
walk_more whole done n i states at parent e up h =
    e ∙ (rw (ancestors_within-left n i states at h, up) (sym (append_assoc done (parent ∷ []) (ancestors_within (n - (i + 1)) states parent))))

-- and so it was not at its end
pub walk_room : (whole done : List StateId) (n i : ℕ) (states : List State) (at parent : StateId) → whole ≡ done ++ ancestors_within (n - i) states at → parent_of states at ≡ Some parent → i < n → length done < length whole
walk_room whole done n i states at parent e up h =
    let more = walk_more whole done n i states at parent e up h in
    omega (arith, ap length more, length-append (done ++ parent ∷ []) (ancestors_within (n - (i + 1)) states parent), length-append done (parent ∷ []))

pub ruleset steps = (ancestors_within-left)
