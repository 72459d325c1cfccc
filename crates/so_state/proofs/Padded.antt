-- Lists in sixteen places.
use Rattle.std.proofs.Common.{◌≡◌, ℕ, suc, ◌+◌, ◌-◌, ◌<◌, ◌≤◌, List, [], ◌∷◌, ◌++◌, length, take, set, replicate, arith, sym, ap, ◌∙◌, append_assoc, length-append, subst}
use Rattle.std.proofs.Math.ListN.{length-replicate, length-take}
use Rattle.std.proofs.Math.Seq.{set-append_seam, take-append_seam}
use Rattle.so_ids.specs.Ids.{default_state}
use Rattle.so_ids.specs.declared.StateId.{StateId}
use Rattle.so_state.specs.Plan.{padded}
use Rattle.so_state.specs.Padded.{IsPadded}

-- one more is written to the first unused place
pub set-padded : (xs : List StateId) (s : StateId) → length xs < 16 → set (padded xs) (length xs) s ≡ padded (xs ++ s ∷ [])
set-padded xs s h =
    let left : 16 - length xs ≡ suc (15 - length xs) = omega arith in
    let after : 16 - length (xs ++ s ∷ []) ≡ 15 - length xs = omega (arith, length-append xs (s ∷ [])) in
    rw (left, after) (set-append_seam xs default_state (replicate (15 - length xs) default_state) s ∙ sym (append_assoc xs (s ∷ []) (replicate (15 - length xs) default_state)))

pub take-padded : (xs : List StateId) → take (length xs) (padded xs) ≡ xs
take-padded xs = take-append_seam xs (replicate (16 - length xs) default_state)

length-padded : (xs : List StateId) → length xs ≤ 16 → length (padded xs) ≡ 16
length-padded xs h = omega (arith, length-append xs (replicate (16 - length xs) default_state), length-replicate (16 - length xs) default_state)

module _ (list : List StateId) (used : ℕ) (padding : IsPadded used list) where
  length-front : length (take used list) ≡ used
  length-front =
      let short : length (take used list) ≤ 16 = omega (arith, length-take used list, padding.fits) in
      omega (arith, length-take used list, padding.fits, ap length padding.rest, length-padded (take used list) short)

  set_front : (s : StateId) → used < 16 → set list used s ≡ padded (take used list ++ s ∷ [])
  set_front s h =
      let e : set list used s ≡ set (padded (take used list)) used s = ap (λ l. set l used s) padding.rest in
      let P : ℕ → Type 0 = λ n. set (padded (take used list)) n s ≡ padded (take used list ++ s ∷ []) in
      e ∙ subst P length-front (set-padded (take used list) s (omega (arith, length-front)))

  take_front : (s : StateId) → used < 16 → take (used + 1) (set list used s) ≡ take used list ++ s ∷ []
  take_front s h =
      let e : used + 1 ≡ length (take used list ++ s ∷ []) = omega (arith, length-front, length-append (take used list) (s ∷ [])) in
      ap (λ l. take (used + 1) l) (set_front s h) ∙ (ap (λ n. take n (padded (take used list ++ s ∷ []))) e ∙ take-padded (take used list ++ s ∷ []))

-- and so it is one more state
pub IsPadded-push : (list : List StateId) (used : ℕ) (s : StateId) → IsPadded used list → used < 16 → IsPadded (used + 1) (set list used s)
IsPadded-push list used s padding h = record {
  fits = omega arith;
  rest = set_front list used padding s h ∙ ap padded (sym (take_front list used padding s h));
}

pub take-push : (list : List StateId) (used : ℕ) (s : StateId) → IsPadded used list → used < 16 → take (used + 1) (set list used s) ≡ take used list ++ s ∷ []
take-push list used s padding h = take_front list used padding s h

pub length-take_padded : (list : List StateId) (used : ℕ) → IsPadded used list → length (take used list) ≡ used
length-take_padded list used padding = length-front list used padding

pub ruleset pads = (IsPadded-push, take-push, length-take_padded)
