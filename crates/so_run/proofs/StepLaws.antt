-- The lines after a step.
use Rattle.std.proofs.Common.{◌≡◌, List, ◌∷◌, Bool, true, false, cond, Option, Some, None, Result, Ok, Err, refl, sym, ◌∙◌, ap, inl, inr, subst, is_some}
use Rattle.std.specs.Borrow.{Bor}
use Rattle.std.specs.Option.{option_map}
use Rattle.so_lists.specs.Lists.{or_else}
use Rattle.so_ids.specs.declared.PartyId.{PartyId}
use Rattle.so_ids.specs.declared.LaneId.{LaneId}
use Rattle.so_ids.specs.declared.CoopId.{CoopId}
use Rattle.so_ids.specs.declared.Reason.{Reason}
use Rattle.so_ids.specs.Ids.{main_party}
use Rattle.so_scene.specs.declared.parts.SceneParts.{SceneParts}
use Rattle.so_scene.specs.Cooperations.{leaving_next}
use Rattle.so_history.specs.declared.entry.Entry.{Entry}
use Rattle.so_history.specs.declared.entry.Demand.{Demand}
use Rattle.so_history.specs.declared.entry.EntryKind.{EntryKind}
use Rattle.so_history.specs.declared.entry.StopCause.TheVariants.{Asked, Auto, Idle}
use Rattle.so_history.specs.Coops.{next_coop, standing}
use Rattle.so_history.specs.Order.{taking}
use Rattle.so_history.specs.Units.{fits}
use Rattle.so_history.specs.Steps.{is_over, left_next, may_stop}
use Rattle.so_history.specs.Chain.{by_main, registration_of, registration, leaving_for, left_for, tidying}
use Rattle.so_ledger.specs.Shapes.{Core}
use Rattle.so_ledger.specs.Gates.{gated, gated_entry, core_after}
use Rattle.so_kernel.specs.Hands.{IsBegun}
use Rattle.so_ledger.specs.declared.gate.Barred.{Barred}
use Rattle.so_ledger.specs.declared.gate.Barred.TheVariants.{Nothing, Full, Over}
use Rattle.so_kernel.specs.declared.answers.Begun.{Begun}
use Rattle.so_kernel.specs.declared.answers.Begun.TheVariants as begun_answer
use Rattle.so_book.specs.History.{AddsAtMostOne}
use Rattle.so_run.specs.declared.shared.Line.TheVariants as line
use Rattle.so_run.specs.Lines.{lines, line_signer}
use Rattle.so_run.specs.Stepping.{marked_by, HasBegun}

-- the entry that is let through is the one that is asked for, and the mark of Full does not stand (gated_next of so_kernel's KeptLaws is its first half)
pub record LetThrough (k : Core) (next : Option Entry) (e : Entry) : Type 0 where
  pub next_is : next ≡ Some e
  pub unmarked : k.full ≡ false

fits_through : (x e : Entry) (b : Bool) → cond b (Ok x) (Err Full) ≡ Ok e → x ≡ e
fits_through x e true h = cc
fits_through x e false h = cc

through_cond : (k : Core) (next : Option Entry) (e : Entry) (over full : Bool) → cond over (Err Over) (cond full (Err Full) (gated_entry k next)) ≡ Ok e → (next ≡ Some e) × (full ≡ false)
through_cond k next e true full h = cc
through_cond k next e false true h = cc
through_cond k None e false false h = cc
through_cond k (Some x) e false false h = (ap (λ y. Some y) (fits_through x e (fits k.scene k.limit k.history x) h), refl)

pub let_through : (k : Core) (next : Option Entry) (e : Entry) → gated k next ≡ Ok e → LetThrough k next e
unfolding gated
let_through k next e h = let it = through_cond k next e (is_over k.scene k.history) k.full h in record { next_is = it.0; unmarked = it.1 }

-- the party signs the entry
abbrev pub SignedBy : PartyId → Option Entry → Type 0
SignedBy by None = Unit {0}
SignedBy by (Some e) = e.by ≡ by

pub record Steps (o : Bor SceneParts) (by : PartyId) (k l : Core) (f g : Option PartyId) : Type 0 where
  pub adds : AddsAtMostOne line_signer by (lines o k.limit f k.history) (lines o l.limit g l.history)
  pub scene : l.scene ≡ k.scene
  pub limit : l.limit ≡ k.limit
  pub marked : l.full ≡ is_some g

module _ (o : Bor SceneParts) (by : PartyId) where
  steps_ok : (k : Core) (e : Entry) (f : Option PartyId) → k.full ≡ false → k.full ≡ is_some f → e.by ≡ by → Steps o by k (record k { history = e ∷ k.history }) f (marked_by by k.full f)
  steps_ok k e None unmarked marked signed =
      let P : Bool → Type 0 = λ b. Steps o by k (record k { history = e ∷ k.history }) None (marked_by by b None) in
      subst P (sym unmarked) record { adds = inr (line.Made e, refl, signed); scene = refl; limit = refl; marked = unmarked }
  steps_ok k e (Some p) unmarked marked signed = let wrong : false ≡ true = sym unmarked ∙ marked in absurd cc

  steps_full : (k : Core) (f : Option PartyId) → Steps o by k (record k { full = true }) f (marked_by by true f)
  steps_full k None = record { adds = inr (line.Full by, refl, refl); scene = refl; limit = refl; marked = refl }
  steps_full k (Some p) = record { adds = inl refl; scene = refl; limit = refl; marked = refl }

  same_mark : (b : Bool) (f : Option PartyId) → b ≡ is_some f → marked_by by b f ≡ f
  same_mark false f is = refl
  same_mark true None is = cc
  same_mark true (Some p) is = refl

  steps_none : (k : Core) (f : Option PartyId) → k.full ≡ is_some f → Steps o by k k f (marked_by by k.full f)
  steps_none k f marked =
      subst (λ (g : Option PartyId). Steps o by k k f g) (sym (same_mark k.full f marked)) record { adds = inl refl; scene = refl; limit = refl; marked = marked }

  steps_case : (k : Core) (next : Option Entry) (f : Option PartyId) (r : Result Entry Barred) → gated k next ≡ r → SignedBy by next → k.full ≡ is_some f → Steps o by k (core_after k r) f (marked_by by (core_after k r).full f)
  steps_case k next f (Ok e) is signed marked =
      let it = let_through k next e is in
      steps_ok k e f it.unmarked marked (subst (SignedBy by) it.next_is signed)
  steps_case k next f (Err Nothing) is signed marked = steps_none k f marked
  steps_case k next f (Err Full) is signed marked = steps_full k f
  steps_case k next f (Err Over) is signed marked = steps_none k f marked

  pub steps : (k l : Core) (next : Option Entry) (f g : Option PartyId) → l ≡ core_after k (gated k next) → SignedBy by next → k.full ≡ is_some f → g ≡ marked_by by l.full f → Steps o by k l f g
  steps k l next f g after signed marked is =
      let it = steps_case k next f (gated k next) refl signed marked in
      let P : Core → Type 0 = λ x. Steps o by k x f (marked_by by x.full f) in
      subst (λ (x : Option PartyId). Steps o by k l f x) (sym is) (subst P (sym after) it)

-- who signs what is asked for
pub begin_signed : (k : Core) (by : PartyId) (lane : LaneId) (o : Option Demand) → SignedBy by (option_map (λ d. record { by = by; kind = taking k.scene k.history lane d }) o)
begin_signed k by lane None = tt
begin_signed k by lane (Some d) = refl

registration_case : (s : SceneParts) (h : List Entry) (o : Option CoopId) → SignedBy main_party (option_map (registration_of s h) o)
registration_case s h None = tt
registration_case s h (Some c) = refl

pub registration_signed : (s : SceneParts) (h : List Entry) → SignedBy main_party (registration s h)
unfolding registration
registration_signed s h = registration_case s h (next_coop s h)

signed_or : (a b : Option Entry) → SignedBy main_party a → SignedBy main_party b → SignedBy main_party (or_else a b)
signed_or None b x y = y
signed_or (Some e) b x y = x

stop_case : (b : Bool) (kind : EntryKind) → SignedBy main_party (cond b (Some (by_main kind)) None)
stop_case true kind = refl
stop_case false kind = tt

leaving_case : (o : Option (CoopId × Reason)) → SignedBy main_party (option_map leaving_for o)
leaving_case None = tt
leaving_case (Some why) = refl

left_case : (o : Option CoopId) → SignedBy main_party (option_map left_for o)
left_case None = tt
left_case (Some c) = refl

pub tidying_signed : (s : SceneParts) (h : List Entry) → SignedBy main_party (tidying s h)
unfolding tidying
tidying_signed s h =
    signed_or _ _ (stop_case (may_stop s h Asked) _)
    (signed_or _ _ (stop_case (may_stop s h Auto) _)
    (signed_or _ _ (leaving_case (leaving_next s (standing h)))
    (signed_or _ _ (left_case (left_next s h)) (stop_case (may_stop s h Idle) _))))

-- a turn that began is held
pub has_begun : (k : Core) (by : PartyId) (lane : LaneId) (g : Result Entry Barred) (r : Begun) → IsBegun k by lane g r → HasBegun k.scene k.history by r
has_begun k by lane (Ok e) (begun_answer.Turn t) it = (it.1, it.2)
has_begun k by lane (Ok e) begun_answer.Skipped it = tt
has_begun k by lane (Ok e) begun_answer.Nothing it = tt
has_begun k by lane (Ok e) begun_answer.Full it = tt
has_begun k by lane (Ok e) begun_answer.Over it = tt
has_begun k by lane (Err Nothing) (begun_answer.Turn t) it = absurd cc
has_begun k by lane (Err Full) (begun_answer.Turn t) it = absurd cc
has_begun k by lane (Err Over) (begun_answer.Turn t) it = absurd cc
has_begun k by lane (Err why) begun_answer.Skipped it = tt
has_begun k by lane (Err why) begun_answer.Nothing it = tt
has_begun k by lane (Err why) begun_answer.Full it = tt
has_begun k by lane (Err why) begun_answer.Over it = tt
