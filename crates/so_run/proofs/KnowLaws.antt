-- What a party knows from one holding to the next.
use Rattle.std.proofs.Common.{◌≡◌, ℕ, List, [], ◌∷◌, ◌++◌, sym, ◌∙◌, ap, subst, inl, inr}
use Rattle.std.specs.Borrow.{Bor}
use Rattle.so_ids.specs.declared.PartyId.{PartyId}
use Rattle.so_code.specs.declared.effect.Move.{Move}
use Rattle.so_scene.specs.declared.parts.SceneParts.{SceneParts}
use Rattle.so_history.specs.declared.entry.Entry.{Entry}
use Rattle.so_history.specs.Steps.{Legal}
use Rattle.so_kernel.specs.declared.answers.Turn.{Turn}
use Rattle.so_kernel.specs.declared.answers.Begun.{Begun}
use Rattle.so_kernel.specs.Hands.{IsHeld, HasMoved}
use Rattle.so_book.specs.History.{Began, OthersAdded, AddsAtMostOne}
use Rattle.so_run.specs.declared.shared.Run.{Run}
use Rattle.so_run.specs.declared.shared.Line.{Line}
use Rattle.so_run.specs.Lines.{line_signer, made_in, opened_in}
use Rattle.so_run.specs.Knowing.{Knows, NoneBy}
use Rattle.so_run.specs.Stepping.{lines_of, IsStepOf, HasBegun}
use Rattle.so_run.proofs.LineLaws.{made_append, opened_append, made_lines, opened_lines, one_only, none_by}
use Rattle.so_run.proofs.Standing.{moved_still}

-- the run that is found is the one that was known
pub found : (s : SceneParts) (seen : List Line) (r : Run) (k : Knows s seen) → Began seen (lines_of r) → (r.scene ≡ k.over) × (r.kernel.limit ≡ k.limit) × (r.kernel.scene ≡ s)
found s seen r k began =
    let now : opened_in (lines_of r) ≡ (r.scene, r.kernel.limit) ∷ [] = opened_lines r.scene r.kernel.limit r.full r.kernel.history in
    let then : opened_in began.0 ++ (k.over, k.limit) ∷ [] ≡ (r.scene, r.kernel.limit) ∷ [] = ap (λ l. opened_in began.0 ++ l) (sym k.opened) ∙ (sym (opened_append began.0 seen) ∙ (sym (ap opened_in began.1) ∙ now)) in
    let one : (k.over, k.limit) ≡ (r.scene, r.kernel.limit) = (one_only (opened_in began.0) _ _ then).1 in
    let over : k.over ≡ r.scene = ap (λ (p : Bor SceneParts × ℕ). p.0) one in
    (sym over, sym (ap (λ (p : Bor SceneParts × ℕ). p.1) one), r.same ∙ (ap (λ (b : Bor SceneParts). b.now) (sym over) ∙ k.is))

-- after its own step a party knows the run still
pub knows_after : (s : SceneParts) (seen : List Line) (by : PartyId) (r q : Run) (k : Knows s seen) → Began seen (lines_of r) → IsStepOf by r q → Legal q.kernel.scene q.kernel.history → Knows s (lines_of q)
knows_after s seen by r q k began step legal =
    let it = found s seen r k began in
    let is : q.scene.now ≡ s = ap (λ (b : Bor SceneParts). b.now) (step.scene ∙ it.0) ∙ k.is in
    record {
      scene = k.scene;
      over = q.scene;
      limit = q.kernel.limit;
      opened = opened_lines q.scene q.kernel.limit q.full q.kernel.history;
      is = is;
      legal = subst (Legal s) (sym (made_lines q.scene q.kernel.limit q.full q.kernel.history)) (subst (λ (z : SceneParts). Legal z q.kernel.history) (q.same ∙ is) legal);
    }

-- the entries that are found are those that were seen, and others' behind them
pub others_made : (seen : List Line) (by : PartyId) (r : Run) → OthersAdded line_signer by seen (lines_of r) → (more : List Entry) × (r.kernel.history ≡ more ++ made_in seen) × NoneBy by more
others_made seen by r others = (
  made_in others.0,
  sym (made_lines r.scene r.kernel.limit r.full r.kernel.history) ∙ (ap made_in others.1 ∙ made_append others.0 seen),
  none_by by others.0 others.2,
)

-- a turn that made its move outside the lock has made it in the history that is found
pub moved_found : (s : SceneParts) (seen : List Line) (r : Run) (t : Turn) (move : Move) (by : PartyId) (k : Knows s seen) → Began seen (lines_of r) → OthersAdded line_signer by seen (lines_of r) → Legal r.kernel.scene r.kernel.history → t.by ≡ by →
    HasMoved s (made_in seen) t move → HasMoved r.kernel.scene r.kernel.history t move
moved_found s seen r t move by k began others legal mine moved =
    let it = found s seen r k began in
    let more = others_made seen by r others in
    let legal_here : Legal s (more.0 ++ made_in seen) = subst (Legal s) more.1 (subst (λ (z : SceneParts). Legal z r.kernel.history) it.2 legal) in
    let here : HasMoved s (more.0 ++ made_in seen) t move = moved_still s (made_in seen) more.0 t move by legal_here mine more.2 moved in
    subst (λ (z : SceneParts). HasMoved z r.kernel.history t move) (sym it.2) (subst (λ (l : List Entry). HasMoved s l t move) (sym more.1) here)

-- a turn that is held in the history is held in the entries of its lines
pub held_in : (s : SceneParts) (q : Run) (t : Turn) → q.kernel.scene ≡ s → IsHeld q.kernel.scene q.kernel.history t → IsHeld s (made_in (lines_of q)) t
held_in s q t scene held =
    subst (λ (l : List Entry). IsHeld s l t) (sym (made_lines q.scene q.kernel.limit q.full q.kernel.history)) (subst (λ (z : SceneParts). IsHeld z q.kernel.history t) scene held)

pub begun_in : (s : SceneParts) (q : Run) (by : PartyId) (b : Begun) → q.kernel.scene ≡ s → HasBegun q.kernel.scene q.kernel.history by b → HasBegun s (made_in (lines_of q)) by b
begun_in s q by b scene begun =
    subst (λ (l : List Entry). HasBegun s l by b) (sym (made_lines q.scene q.kernel.limit q.full q.kernel.history)) (subst (λ (z : SceneParts). HasBegun z q.kernel.history by b) scene begun)

-- the scene of the kernel after a step
pub scene_after : (s : SceneParts) (seen : List Line) (by : PartyId) (r q : Run) (k : Knows s seen) → Began seen (lines_of r) → IsStepOf by r q → q.kernel.scene ≡ s
scene_after s seen by r q k began step =
    let it = found s seen r k began in
    q.same ∙ (ap (λ (b : Bor SceneParts). b.now) (step.scene ∙ it.0) ∙ k.is)

-- The same over the values that a holding passes through: R as it is found, r as it is lent, q after the step, v as it is read then.
-- `now` is what the party has seen when it closed.
module _ (s : SceneParts) (seen : List Line) (by : PartyId) (R r q : Run) (k : Knows s seen) (lent : r ≡ R) (began : Began seen (lines_of R)) where
  pub scene_lent : r.kernel.scene ≡ s
  scene_lent = ap (λ (x : Run). x.kernel.scene) lent ∙ (found s seen R k began).2

  began_lent : Began seen (lines_of r)
  began_lent = subst (λ (x : Run). Began seen (lines_of x)) (sym lent) began

  pub knows_closed : (v : Run) (now : List Line) → IsStepOf by r q → v ≡ q → Legal v.kernel.scene v.kernel.history → now ≡ lines_of q → Knows s now
  knows_closed v now step read legal closed =
      subst (Knows s) (sym closed) (knows_after s seen by r q k began_lent step (subst (λ (x : Run). Legal x.kernel.scene x.kernel.history) read legal))

  pub begun_closed : (b : Begun) (now : List Line) → IsStepOf by r q → HasBegun q.kernel.scene q.kernel.history by b → now ≡ lines_of q → HasBegun s (made_in now) by b
  begun_closed b now step begun closed =
      subst (λ (l : List Line). HasBegun s (made_in l) by b) (sym closed) (begun_in s q by b (scene_after s seen by r q k began_lent step) begun)

  pub held_closed : (t : Turn) (now : List Line) → IsStepOf by r q → IsHeld q.kernel.scene q.kernel.history t → now ≡ lines_of q → IsHeld s (made_in now) t
  held_closed t now step held closed =
      subst (λ (l : List Line). IsHeld s (made_in l) t) (sym closed) (held_in s q t (scene_after s seen by r q k began_lent step) held)

  pub moved_lent : (v : Run) (t : Turn) (move : Move) → v ≡ R → OthersAdded line_signer by seen (lines_of R) → Legal v.kernel.scene v.kernel.history → t.by ≡ by → HasMoved s (made_in seen) t move → HasMoved r.kernel.scene r.kernel.history t move
  moved_lent v t move read others legal mine moved =
      subst (λ (x : Run). HasMoved x.kernel.scene x.kernel.history t move) (sym lent)
      (moved_found s seen R t move by k began others (subst (λ (x : Run). Legal x.kernel.scene x.kernel.history) read legal) mine moved)

  pub scene_stepped : IsStepOf by r q → q.kernel.scene ≡ s
  scene_stepped step = scene_after s seen by r q k began_lent step

  began_case : AddsAtMostOne line_signer by (lines_of r) (lines_of q) → Began seen (lines_of q)
  began_case (inl same) = (began_lent.0, same ∙ began_lent.1)
  began_case (inr one) = (one.0 ∷ began_lent.0, one.1 ∙ ap (λ l. one.0 ∷ l) began_lent.1)

  pub grown_stepped : IsStepOf by r q → (x : List Entry) × (q.kernel.history ≡ x ++ made_in seen)
  grown_stepped step =
      let it = began_case step.adds in
      (made_in it.0, sym (made_lines q.scene q.kernel.limit q.full q.kernel.history) ∙ (ap made_in it.1 ∙ made_append it.0 seen))

  -- and it was opened over the same
  pub opened_closed : (now : List Line) → IsStepOf by r q → now ≡ lines_of q → opened_in now ≡ opened_in seen
  opened_closed now step closed =
      let it = found s seen r k began_lent in
      let scene : q.scene ≡ k.over = step.scene ∙ it.0 in
      let limit : q.kernel.limit ≡ k.limit = step.limit ∙ it.1 in
      ap opened_in closed ∙ (opened_lines q.scene q.kernel.limit q.full q.kernel.history ∙ (ap (λ (o : Bor SceneParts). (o, q.kernel.limit) ∷ []) scene ∙ (ap (λ (n : ℕ). (k.over, n) ∷ []) limit ∙ sym k.opened)))
