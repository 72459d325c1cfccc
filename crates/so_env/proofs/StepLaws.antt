-- A step that says Nothing leaves the next step to be tried, and any other answer is the answer.
use Rattle.std.proofs.Common.{◌≡◌, ℕ, ◌+◌, ◌<◌, Bool, true, false, cond, Option, None, Err, refl, sym, ◌∙◌, ap, subst, add-one, inl, inr}
use Rattle.std.specs.Option.{option_map}
use Rattle.std.proofs.lemmas.Bool.{cases_Bool}
use Rattle.so_ids.specs.declared.LaneId.{LaneId}
use Rattle.so_ids.specs.Ids.{party_of}
use Rattle.so_lists.specs.Lists.{or_else}
use Rattle.so_lists.proofs.First.{first_below-none}
use Rattle.so_scene.specs.Lanes.{lanes}
use Rattle.so_history.specs.declared.entry.Entry.{Entry}
use Rattle.so_history.specs.Order.{pick, taking}
use Rattle.so_history.specs.Chain.{taking_entry, lane_entry, pick_entry, step_of, first_entry, first}
use Rattle.so_history.specs.declared.entry.Pick.{Pick}
use Rattle.so_history.specs.Coops.{aborted}
use Rattle.so_history.specs.Steps.{is_over}
use Rattle.so_history_laws.proofs.ChainLaws.{first-free}
use Rattle.so_ledger.specs.Shapes.{Core}
use Rattle.so_ledger.specs.Gates.{gated, core_after}
use Rattle.so_kernel.specs.Answers.{step_answers}
use Rattle.so_ledger.specs.declared.gate.Barred.TheVariants.{Nothing}
use Rattle.so_kernel.specs.declared.answers.Stepped.{Stepped}
use Rattle.so_kernel.specs.declared.answers.Stepped.TheVariants.{Nothing as NothingStep}
use Rattle.so_kernel.proofs.HeldLaws.{lane_free}
use Rattle.so_ledger.proofs.GateLaws.{same_over}
use Rattle.so_kernel.proofs.AnswerLaws.{two-nothing, two-other, core_nothing, still_going, below-other, nothing_is}
use Rattle.so_ledger.proofs.GateLaws.{nothing_gated}
use Rattle.so_env.specs.Runs.{NoneRuns, lanes_entry, free_first}

-- a step that would add this entry
pub record Steps (k l : Core) (a : Option Entry) (answer : Stepped) : Type 0 where
  pub answer_is : answer ≡ step_answers (gated k a)
  pub after : l ≡ core_after k (gated k a)

-- the gate asks whether the run is over before all else, so that it answers alike to what asks that too
gated_cond : (k : Core) (a : Option Entry) (over : Bool) → is_over k.scene k.history ≡ over → gated k (cond over None a) ≡ gated k a
unfolding gated
gated_cond k a true over = rw over refl
gated_cond k a false over = refl

gated_step : (k : Core) (p : Pick) → gated k (step_of k.scene k.history p) ≡ gated k (pick_entry k.scene k.history p)
unfolding step_of
gated_step k p = gated_cond k (pick_entry k.scene k.history p) (is_over k.scene k.history) refl

gated_first : (k : Core) → gated k (first k.scene k.history) ≡ gated k (first_entry k.scene k.history)
unfolding first
gated_first k = gated_cond k (first_entry k.scene k.history) (is_over k.scene k.history) refl

-- the step of a pick
pub by_pick : (k l : Core) (p : Pick) (answer : Stepped) → answer ≡ step_answers (gated k (step_of k.scene k.history p)) → l ≡ core_after k (gated k (step_of k.scene k.history p)) → Steps k l (pick_entry k.scene k.history p) answer
by_pick k l p answer is after = record { answer_is = is ∙ ap step_answers (gated_step k p); after = after ∙ ap (core_after k) (gated_step k p) }

-- after Nothing the kernel is as before
pub unchanged : (k l : Core) (a : Option Entry) → Steps k l a NothingStep → l ≡ k
unchanged k l a s = s.after ∙ core_nothing k a (sym s.answer_is)

pub goes_on : (k l : Core) (a : Option Entry) → Steps k l a NothingStep → gated l None ≡ Err Nothing
goes_on k l a s = let P : Core → Type 0 = λ x. gated x None ≡ Err Nothing in subst P (sym (unchanged k l a s)) (still_going k a (sym s.answer_is))

-- the second of two steps, after the first said Nothing
pub second : (k l m : Core) (a b : Option Entry) (answer : Stepped) → Steps k l a NothingStep → Steps k m b answer → Steps k m (or_else a b) answer
second k l m a b answer first next =
    let same = two-nothing k a b (sym first.answer_is) in
    record { answer_is = next.answer_is ∙ ap step_answers (sym same); after = next.after ∙ ap (core_after k) (sym same) }

-- and the first, where it said something else
pub first_of : (k l : Core) (a b : Option Entry) (answer : Stepped) → (answer ≡ NothingStep → ⊥) → Steps k l a answer → Steps k l (or_else a b) answer
first_of k l a b answer other s =
    let same = two-other k a b (λ n. other (s.answer_is ∙ n)) in
    record { answer_is = s.answer_is ∙ ap step_answers (sym same); after = s.after ∙ ap (core_after k) (sym same) }

-- a lane on which no turn runs begins one
pub begins : (k l : Core) (lane : LaneId) (answer : Stepped) → NoneRuns k → lane.0 < lanes k.scene → Steps k l (lane_entry k.scene k.history lane) answer → Steps k l (taking_entry k.scene k.history lane) answer
begins k l lane answer free in_range s =
    let same = lane_free k lane (λ going. free going lane.0 in_range) in
    record { answer_is = s.answer_is ∙ ap step_answers same; after = s.after ∙ ap (core_after k) same }

-- the first lane that says something
pub first_lane : (k l : Core) (lane : ℕ) (answer : Stepped) → lane < lanes k.scene → gated k (lanes_entry k lane) ≡ Err Nothing → (answer ≡ NothingStep → ⊥) → Steps k l (taking_entry k.scene k.history (record { 0 = lane })) answer → Steps k l (lanes_entry k (lanes k.scene)) answer
first_lane k l lane answer in_range none other s =
    let same = below-other k (λ i. taking_entry k.scene k.history (record { 0 = i })) (lanes k.scene) lane in_range none (λ n. other (s.answer_is ∙ n)) in
    record { answer_is = s.answer_is ∙ ap step_answers (sym same); after = s.after ∙ ap (core_after k) (sym same) }

-- one lane more that says Nothing
pub one_more : (k l : Core) (lane : ℕ) → gated k (lanes_entry k lane) ≡ Err Nothing → Steps k l (taking_entry k.scene k.history (record { 0 = lane })) NothingStep → gated k (lanes_entry k (lane + 1)) ≡ Err Nothing
one_more k l lane none s =
    let before : lanes_entry k lane ≡ None = nothing_gated k (lanes_entry k lane) none in
    let here : gated k (taking_entry k.scene k.history (record { 0 = lane })) ≡ Err Nothing = nothing_is _ (sym s.answer_is) in
    let next : lanes_entry k (lane + 1) ≡ taking_entry k.scene k.history (record { 0 = lane }) = ap (lanes_entry k) (add-one lane) ∙ ap (λ o. or_else o (taking_entry k.scene k.history (record { 0 = lane }))) before in
    ap (gated k) next ∙ here

-- the first step where no turn is in hand
pub first_free : (k : Core) → NoneRuns k → gated k (first k.scene k.history) ≡ gated k (free_first k)
first_free k free =
    gated_first k
    ∙ elim (cases_Bool (aborted k.history)) [
      | inl y ↦ same_over k _ _ y
      | inr f ↦ ap (gated k) (first-free k.scene k.history (free f))
    ]

-- lanes that may take no demand begin nothing
pub none_before : (k : Core) (n : ℕ) → ((l : ℕ) → l < n → pick k.scene k.history (record { 0 = l }) ≡ None) → lanes_entry k n ≡ None
none_before k n none = first_below-none (λ l. taking_entry k.scene k.history (record { 0 = l })) n (λ l within. ap (option_map (λ d. record { by = party_of (record { 0 = l }); kind = taking k.scene k.history (record { 0 = l }) d })) (none l within))
