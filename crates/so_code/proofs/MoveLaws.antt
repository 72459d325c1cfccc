-- A move: it comes within the steps, and what it keeps.
use Rattle.std.proofs.Common.{◌≡◌, ℕ, zero, suc, ◌+◌, ◌-◌, ◌<◌, List, Option, Some, None, arith, refl, sym, ap, ◌∙◌, subst}
use Rattle.std.specs.Prelude.{unwrap_or}
use Rattle.so_ids.specs.declared.Opening.{Opening}
use Rattle.so_code.specs.declared.instr.Instr.{Instr}
use Rattle.so_code.specs.declared.effect.Effect.{Effect}
use Rattle.so_code.specs.declared.effect.Move.{Move}
use Rattle.so_code.specs.declared.effect.Move.TheVariants.{Do, Done}
use Rattle.so_code.specs.declared.frame.Frame.{Frame}
use Rattle.so_code.specs.declared.frame.Todo.TheVariants as todo
use Rattle.so_code.specs.Machine.{Step, step, steps, go_on, with_todo, after, first_move}
use Rattle.so_code.specs.Places.{HasPlaces}
use Rattle.so_code.specs.Running.{IsFrame}
use Rattle.so_code.specs.Origins.{Origin}
use Rattle.so_code.proofs.Budget.{budget}
use Rattle.so_code.proofs.ActKeeps.{Kept}
use Rattle.so_code.proofs.StepKeeps.{step_keeps, budget_below}
use Rattle.so_code.proofs.StepOrigins.{Told, step_told}

-- the frame after what may be a move
abbrev frame_of : Frame → Option (Move × Frame) → Frame
frame_of otherwise None = otherwise
frame_of otherwise (Some pair) = pair.1

module _ (code : List Instr) (places : HasPlaces code) where
  kept_by : (n b : ℕ) (s : Step) (r : Move × Frame) → Kept code b s → ((h : Frame) → IsFrame code h → first_move n code h ≡ Some r → IsFrame code r.1) → go_on (first_move n code) s ≡ Some r → IsFrame code r.1
  kept_by n b (None, h) r kept more e = more h kept.frame e
  kept_by n b (Some m, h) r kept more e = let same : h ≡ r.1 = ap (frame_of h) e in subst (λ (k : Frame). IsFrame code k) same kept.frame

  first_keeps : (n : ℕ) (f : Frame) (r : Move × Frame) → IsFrame code f → first_move n code f ≡ Some r → IsFrame code r.1
  first_keeps zero f r frame e = let wrong : None ≡ Some r = e in cc
  first_keeps (suc n) f r frame e = kept_by n (budget code f) (step code f) r (step_keeps code places f frame) (λ h kept further. first_keeps n h r kept further) e

  -- more steps than the budget give a move
  comes_by : (n : ℕ) (b : ℕ) (s : Step) → Kept code b s → b < suc n → ((h : Frame) → IsFrame code h → budget code h < n → (r : Move × Frame) × (first_move n code h ≡ Some r)) → (r : Move × Frame) × (go_on (first_move n code) s ≡ Some r)
  comes_by n b (None, h) kept room more = more h kept.frame (omega (arith, kept.falls refl))
  comes_by n b (Some m, h) kept room more = ((m, h), refl)

  comes_within : (n : ℕ) (f : Frame) → IsFrame code f → budget code f < n → (r : Move × Frame) × (first_move n code f ≡ Some r)
  comes_within zero f frame room = absurd (omega arith)
  comes_within (suc n) f frame room = comes_by n (budget code f) (step code f) (step_keeps code places f frame) room (λ h kept less. comes_within n h kept less)

  -- a move that has come is the move however many steps are allowed
  stays_by : (n : ℕ) (s : Step) (r : Move × Frame) → ((h : Frame) → first_move n code h ≡ Some r → first_move (suc n) code h ≡ Some r) → go_on (first_move n code) s ≡ Some r → go_on (first_move (suc n) code) s ≡ Some r
  stays_by n (None, h) r more e = more h e
  stays_by n (Some m, h) r more e = e

  stays_first : (n : ℕ) (f : Frame) (r : Move × Frame) → first_move n code f ≡ Some r → first_move (suc n) code f ≡ Some r
  stays_first zero f r e = let wrong : None ≡ Some r = e in cc
  stays_first (suc n) f r e = stays_by n (step code f) r (λ h further. stays_first n h r further) e

  -- the steps never run out: a move of a frame is its first move
  pub after_comes : (f : Frame) → IsFrame code f → first_move (steps code) code f ≡ Some (after code f)
  unfolding after
  after_comes f frame =
      let found : (r : Move × Frame) × (first_move (steps code) code f ≡ Some r) = comes_within (steps code) f frame (budget_below code places f frame) in
      found.1 ∙ ap Some (sym (ap (λ o. unwrap_or o (Done, with_todo todo.Over f)) found.1))

  -- a move keeps the frame's facts
  pub after_frame : (f : Frame) → IsFrame code f → IsFrame code (after code f).1
  after_frame f frame = first_keeps (steps code) f (after code f) frame (after_comes f frame)

  -- a step that goes on by itself changes nothing of the move
  pub after_silent : (f g : Frame) → IsFrame code f → step code f ≡ (None, g) → after code f ≡ after code g
  after_silent f g frame e =
      let kept : Kept code (budget code f) (None, g) = rw (← e) (step_keeps code places f frame) in
      let here : first_move (suc (steps code)) code f ≡ Some (after code f) = stays_first (steps code) f (after code f) (after_comes f frame) in
      let there : first_move (steps code) code g ≡ Some (after code f) = ap (go_on (first_move (steps code) code)) (sym e) ∙ here in
      let both : Some (after code f) ≡ Some (after code g) = sym there ∙ after_comes g kept.frame in
      cc

  -- a step that gives a move gives it
  pub after_told : (f g : Frame) (move : Move) → IsFrame code f → step code f ≡ (Some move, g) → after code f ≡ (move, g)
  after_told f g move frame e =
      let here : first_move (suc (steps code)) code f ≡ Some (after code f) = stays_first (steps code) f (after code f) (after_comes f frame) in
      let there : Some (after code f) ≡ Some (move, g) = sym here ∙ ap (go_on (first_move (steps code) code)) e in
      cc

-- what a move of a frame tells
pub record MoveTold (code : List Instr) (before : Frame) (r : Move × Frame) : Type 0 where
  pub waits : (e : Effect) → r.0 ≡ Do e → r.1.todo ≡ todo.Wait e
  pub comes : (e : Effect) → r.0 ≡ Do e → Origin code e r.1
  pub opening : r.1.opening ≡ before.opening
  pub plan : r.1.plan ≡ before.plan

module _ (code : List Instr) (places : HasPlaces code) where
  told_by : (n b : ℕ) (before : Frame) (s : Step) (r : Move × Frame) → Kept code b s → Told code before s → ((h : Frame) → IsFrame code h → first_move n code h ≡ Some r → MoveTold code h r) → go_on (first_move n code) s ≡ Some r → MoveTold code before r
  told_by n b before (None, h) r kept told more e =
      let it = more h kept.frame e in
      record { waits = it.waits; comes = it.comes; opening = it.opening ∙ told.opening; plan = it.plan ∙ told.plan }
  told_by n b before (Some m, h) r kept told more e =
      let made : Some (m, h) ≡ Some r = e in
      let same : (m, h) ≡ r = cc in
      let here : MoveTold code before (m, h) = record { waits = λ x asks. told.waits x (ap Some asks); comes = λ x asks. told.comes x (ap Some asks); opening = told.opening; plan = told.plan } in
      subst (λ (x : Move × Frame). MoveTold code before x) same here

  first_told : (n : ℕ) (f : Frame) (r : Move × Frame) → IsFrame code f → first_move n code f ≡ Some r → MoveTold code f r
  first_told zero f r frame e = let wrong : None ≡ Some r = e in absurd cc
  first_told (suc n) f r frame e = told_by n (budget code f) f (step code f) r (step_keeps code places f frame) (step_told code f frame) (λ h kept further. first_told n h r kept further) e

  -- an effect leaves the frame waiting for its answer, and comes from an act of the code, a switch or a receive; the
  -- opening and the plan stay
  pub after_told_of : (f : Frame) → IsFrame code f → MoveTold code f (after code f)
  after_told_of f frame = first_told (steps code) f (after code f) frame (after_comes code places f frame)

  pub after_waits : (f g : Frame) (e : Effect) → IsFrame code f → after code f ≡ (Do e, g) → g.todo ≡ todo.Wait e
  after_waits f g e frame m =
      let told : MoveTold code f (Do e, g) = subst (λ (x : Move × Frame). MoveTold code f x) m (after_told_of f frame) in
      told.waits e refl

  pub comes : (f g : Frame) (e : Effect) → IsFrame code f → after code f ≡ (Do e, g) → Origin code e g
  comes f g e frame m =
      let told : MoveTold code f (Do e, g) = subst (λ (x : Move × Frame). MoveTold code f x) m (after_told_of f frame) in
      told.comes e refl

  pub after_opening : (f : Frame) → IsFrame code f → (after code f).1.opening ≡ f.opening
  after_opening f frame = (after_told_of f frame).opening

  pub after_plan : (f : Frame) → IsFrame code f → (after code f).1.plan ≡ f.plan
  after_plan f frame = (after_told_of f frame).plan

-- after i steps without a move, which are not all
pub record IsOnItsWay (code : List Instr) (first : Frame) (i : ℕ) (f : Frame) : Type 0 where
  pub frame : IsFrame code f
  pub same : after code f ≡ after code first
  pub left : budget code f < steps code - i

module _ (code : List Instr) (places : HasPlaces code) (first : Frame) where
  pub starts : IsFrame code first → IsOnItsWay code first 0 first
  starts frame =
      let e : steps code - 0 ≡ steps code = omega arith in
      record { frame = frame; same = refl; left = rw e (budget_below code places first frame) }

  pub goes_on_way : (i : ℕ) (f g : Frame) → (None, g) ≡ step code f → IsOnItsWay code first i f → IsOnItsWay code first (i + 1) g
  goes_on_way i f g e way =
      let kept : Kept code (budget code f) (None, g) = rw e (step_keeps code places f way.frame) in
      let lower : budget code g < budget code f = kept.falls refl in
      record {
        frame = kept.frame;
        same = sym (after_silent code places f g way.frame (sym e)) ∙ way.same;
        left = omega (arith, way.left);
      }

  pub ends_way : (i : ℕ) (f g : Frame) (move : Move) → (Some move, g) ≡ step code f → IsOnItsWay code first i f → ((move, g) ≡ after code first) × IsFrame code g
  ends_way i f g move e way =
      let kept : Kept code (budget code f) (Some move, g) = rw e (step_keeps code places f way.frame) in
      (sym (after_told code places f g move way.frame (sym e)) ∙ way.same, kept.frame)
