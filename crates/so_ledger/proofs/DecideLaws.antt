-- What main registers and tidies next are legal steps.
use Rattle.std.proofs.Common.{◌≡◌, ℕ, List, length, Bool, true, false, cond, Option, Some, None, Result, Ok, Err, refl, sym, ◌∙◌, ap, subst}
use Rattle.std.specs.Option.{option_map}
use Rattle.std.proofs.lemmas.Option.{same_Some}
use Rattle.so_ids.specs.Ids.{main_party}
use Rattle.so_ids.specs.declared.CoopId.{CoopId}
use Rattle.so_ids.specs.declared.Reason.{Reason}
use Rattle.so_ids.specs.declared.Refusal.{Refusal}
use Rattle.so_code.specs.declared.effect.Answer.TheVariants.{Refused}
use Rattle.so_lists.proofs.First.{some-first_below}
use Rattle.so_scene.specs.declared.parts.SceneParts.{SceneParts}
use Rattle.so_scene.specs.Cooperations.{coop_number, admission, with_reason, reason_of, leaving_at, leaving_next}
use Rattle.so_coop.specs.Coops.{answer_to}
use Rattle.so_history.specs.declared.entry.Entry.{Entry}
use Rattle.so_history.specs.declared.entry.EntryKind.TheVariants.{Refuse}
use Rattle.so_history.specs.Coops.{next_coop, standing}
use Rattle.so_history.specs.Steps.{answer_to_register, left_at, left_next, may_leave, MayFollow}
use Rattle.so_history.specs.Chain.{registering, registration_of, registration, leaving_for, leaving_entry, left_for, left_entry}

-- ---- registration

pub registration_made : (s : SceneParts) (h : List Entry) (c : CoopId) → next_coop s h ≡ Some c → registration s h ≡ Some (registration_of s h c)
unfolding registration
registration_made s h c is = ap (option_map (registration_of s h)) is

pub registration_over : (s : SceneParts) (h : List Entry) → next_coop s h ≡ None → registration s h ≡ None
unfolding registration
registration_over s h is = ap (option_map (registration_of s h)) is

registering_as : (s : SceneParts) (h : List Entry) (c : CoopId) (o : Option Refusal) → next_coop s h ≡ Some c → admission s (standing h) c ≡ o → MayFollow s h main_party (registering c o)
registering_as s h c None next is = record { signed = refl; next = next; admitted = is }
registering_as s h c (Some cause) next is = record { signed = refl; next = next; admitted = is }

pub registering_row : (s : SceneParts) (h : List Entry) (c : CoopId) → next_coop s h ≡ Some c → MayFollow s h main_party (registering c (admission s (standing h) c))
registering_row s h c next = registering_as s h c (admission s (standing h) c) next refl

-- what is refused by the table is refused
why_in : Refusal → Result Unit Refusal → Refusal
why_in other (Ok done) = other
why_in other (Err cause) = cause

no_cause : (r : Result Unit Refusal) (cause : Refusal) → r ≡ Ok tt → r ≡ Err cause → ⊥
no_cause r cause one two = let both : Ok tt ≡ Err cause = sym one ∙ two in cc

pub refused_as : (c : CoopId) (o : Option Refusal) (r : Result Unit Refusal) (cause : Refusal) → r ≡ answer_to o → r ≡ Err cause → Refuse c cause ≡ registering c o
unfolding why_in
refused_as c None r cause said is = absurd (no_cause r cause said is)
refused_as c (Some why) r cause said is = ap (λ x. Refuse c (why_in cause x)) (sym is ∙ said)

pub answered_as : (o : Option Refusal) (r : Result Unit Refusal) (cause : Refusal) → r ≡ answer_to o → r ≡ Err cause → Refused cause ≡ answer_to_register o
unfolding why_in
answered_as None r cause said is = absurd (no_cause r cause said is)
answered_as (Some why) r cause said is = ap (λ x. Refused (why_in cause x)) (sym is ∙ said)

-- ---- tidying

module _ (s : SceneParts) (h : List Entry) where
  abbrev Row : Entry → Type 0
  Row e = MayFollow s h e.by e.kind

  -- a cooperation with a reason
  reason_case : (c : CoopId) (o : Option Reason) (why : CoopId × Reason) → reason_of s (standing h) c ≡ o → option_map (with_reason c) o ≡ Some why → reason_of s (standing h) why.0 ≡ Some why.1
  reason_case c None why has is = absurd cc
  reason_case c (Some r) why has is =
      let same : (c, r) ≡ why = same_Some (with_reason c r) why is in
      subst (λ (w : CoopId × Reason). reason_of s (standing h) w.0 ≡ Some w.1) same has

  pub leaving_has : (why : CoopId × Reason) → leaving_next s (standing h) ≡ Some why → reason_of s (standing h) why.0 ≡ Some why.1
  leaving_has why is =
      let it = some-first_below (leaving_at s (standing h)) (length s.coops) why is in
      reason_case (coop_number it.0) (reason_of s (standing h) (coop_number it.0)) why refl it.2

  leaving_case : (o : Option (CoopId × Reason)) → leaving_next s (standing h) ≡ o → (e : Entry) → option_map leaving_for o ≡ Some e → Row e
  leaving_case None next e is = absurd cc
  leaving_case (Some why) next e is = subst Row (same_Some (leaving_for why) e is) (record { signed = refl; has = leaving_has why next })

  pub leaving_row : (e : Entry) → leaving_entry s h ≡ Some e → Row e
  leaving_row e is = leaving_case (leaving_next s (standing h)) refl e is

  -- one that may leave for good
  may_case : (k : ℕ) (b : Bool) (c : CoopId) → may_leave s h (coop_number k) ≡ b → cond b (Some (coop_number k)) None ≡ Some c → may_leave s h c ≡ true
  may_case k true c may is = subst (λ x. may_leave s h x ≡ true) (same_Some (coop_number k) c is) may
  may_case k false c may is = absurd cc

  left_may : (c : CoopId) → left_next s h ≡ Some c → may_leave s h c ≡ true
  unfolding left_next
  left_may c is =
      let it = some-first_below (left_at s h) (length s.coops) c is in
      may_case it.0 (may_leave s h (coop_number it.0)) c refl it.2

  left_case : (o : Option CoopId) → left_next s h ≡ o → (e : Entry) → option_map left_for o ≡ Some e → Row e
  left_case None next e is = absurd cc
  left_case (Some c) next e is = subst Row (same_Some (left_for c) e is) (record { signed = refl; may = left_may c next })

  pub left_row : (e : Entry) → left_entry s h ≡ Some e → Row e
  left_row e is = left_case (left_next s h) refl e is
