-- The turns in hand after one more entry.
use Rattle.std.proofs.Common.{◌≡◌, ℕ, ◌<◌, ◌≤◌, List, [], ◌∷◌, length, true, false, Option, Some, None, arith, refl, sym, ◌∙◌, ap, inl, inr, get_or, subst, Result, Ok, Err, zero, suc}
use Rattle.std.specs.Prelude.{◌==◌, slice_set, is_some}
use Rattle.std.specs.Option.{option_map}
use Rattle.std.proofs.lemmas.List.{length-set, get_or-set_same, get_or-set_other, set-get_or}
use Rattle.std.proofs.lemmas.Bool.{cases_Bool, cases_eq, ne_eqb, eq-eqb, eqb-true}
use Rattle.std.proofs.lemmas.Option.{same_Some}
use Rattle.so_ids.specs.declared.PartyId.{PartyId}
use Rattle.so_ids.specs.declared.CoopId.{CoopId}
use Rattle.so_ids.specs.declared.LaneId.{LaneId}
use Rattle.so_ids.specs.declared.Refusal.{Refusal}
use Rattle.so_ids.specs.declared.Place.{Place}
use Rattle.so_ids.specs.Ids.{party_of}
use Rattle.so_code.specs.declared.effect.Answer.{Answer}
use Rattle.so_code.specs.declared.effect.Effect.{Effect}
use Rattle.so_code.specs.declared.effect.Move.{Move}
use Rattle.so_code.specs.declared.effect.Move.TheVariants.{Do, Done, Fail}
use Rattle.so_code.specs.declared.frame.Frame.{Frame}
use Rattle.so_code.specs.Machine.{after}
use Rattle.so_code.specs.declared.effect.FailKind.{FailKind}
use Rattle.so_scene.specs.declared.parts.SceneParts.{SceneParts}
use Rattle.so_scene.specs.Checked.{IsScene}
use Rattle.so_scene.specs.Cooperations.{admission}
use Rattle.so_scene.specs.Lanes.{lanes}
use Rattle.so_history.specs.declared.entry.Entry.{Entry}
use Rattle.so_history.specs.declared.entry.EntryKind.{EntryKind}
use Rattle.so_history.specs.declared.entry.EntryKind.TheVariants.{Register, Refuse, Begin, Skip, Act, End, Leaving, Left, Stop, Abort}
use Rattle.so_history.specs.declared.entry.Demand.{Demand}
use Rattle.so_history.specs.declared.entry.SkipWhy.{SkipWhy}
use Rattle.so_ids.specs.declared.Opening.{Opening}
use Rattle.so_history.specs.Turns.{Started, ends, running_at, running_on, lane_number, turn_at}
use Rattle.so_history.specs.Coops.{aborted, standing}
use Rattle.so_history.specs.Order.{pick, opening_of, skipped, taking_as, taking}
use Rattle.so_history.specs.Steps.{answer_of, Legal}
use Rattle.so_history.specs.Chain.{registering, registration, tidying, turn_on, turn_entry, lane_entry, first_entry, first}
use Rattle.so_ledger.proofs.GateLaws.{gated_first}
use Rattle.so_legal.proofs.TurnLaws.{running_at-begun, running_at-same, running_at-ended, alone, turn_found, turn-spared, lanes_free}
use Rattle.so_legal.proofs.CourseLaws.{acts_for, course-spared}
use Rattle.so_history_laws.proofs.ChainLaws.{answered_named, registers_of, tidied, IsTidying, first-turn, lane_entry-turn, lane_entry-free, has_move}
use Rattle.so_kernel.specs.declared.answers.Turn.{Turn}
use Rattle.so_kernel.specs.declared.answers.Turned.{Turned}
use Rattle.so_kernel.specs.declared.answers.Turned.TheVariants as turned_answer
use Rattle.so_ledger.specs.declared.gate.Barred.{Barred}
use Rattle.so_ledger.specs.declared.gate.Barred.TheVariants.{Nothing, Full, Over}
use Rattle.so_kernel.specs.declared.answers.Acted.TheVariants as acted_answer
use Rattle.so_kernel.specs.declared.answers.Stepped.{Stepped}
use Rattle.so_kernel.specs.declared.answers.Stepped.TheVariants as stepped_answer
use Rattle.so_kernel.specs.declared.answers.Begun.TheVariants as begun_answer
use Rattle.so_ledger.specs.Shapes.{Core}
use Rattle.so_kernel.specs.Hands.{is_skip, IsHeld, HasMoved, IsBegun, act_entry, end_entry, fail_entry, turn_after}
use Rattle.so_ledger.specs.Gates.{gated, core_after, begin_by}
use Rattle.so_kernel.specs.Answers.{act_answers, end_answers, fail_answers, added, step_answers}
use Rattle.so_kernel.specs.Held.{IsLaneHeld, AreHeld, HasStepped, Moves, turn_move, stepped_by_act, stepped_by_end, turn_kept, left_by_end, said, left, turns_left, HasTurned, HasAdvanced, AreWithin}
use Rattle.so_kernel.proofs.ActLaws.{moved_named}
use Rattle.so_ledger.proofs.GateLaws.{gated_next, nothing_gated, ok_going, same_over}
use Rattle.so_kernel.proofs.HandLaws.{begins_turn, looked_up}

-- an entry has nothing to do with a lane's turn
abbrev pub Spares : List Entry → EntryKind → ℕ → Type 0
Spares h (Begin lane demand opening agent) j = lane.0 ≡ j → ⊥
Spares h (Act turn effect answer) j = (t : Started) → turn_at h turn.0 ≡ Some t → t.lane.0 ≡ j → ⊥
Spares h (End turn) j = (t : Started) → turn_at h turn.0 ≡ Some t → t.lane.0 ≡ j → ⊥
Spares h _ j = Unit {0}

-- another turn's place
other_turn : (s : SceneParts) (h : List Entry) (place : ℕ) (t : Turn) (j : ℕ) → IsHeld s h t → t.lane.0 ≡ j → ((x : Started) → turn_at h place ≡ Some x → x.lane.0 ≡ j → ⊥) → (place == t.begun.0) ≡ false
other_turn s h place t j held on spares =
    elim (cases_Bool (place == t.begun.0)) [
      | inl y ↦
          (let same : place ≡ t.begun.0 = eqb-true place t.begun.0 y in
          absurd (spares held.turn (ap (turn_at h) same ∙ held.runs) (ap (λ (l : LaneId). l.0) held.lane ∙ on)))
      | inr n ↦ n
    ]

-- a held turn after an entry that is not its own
spared : (s : SceneParts) (h : List Entry) (e : Entry) (t : Turn) → Legal s h → IsHeld s h t → ends e.kind t.begun.0 ≡ false → acts_for e.kind t.begun.0 ≡ false → IsHeld s (e ∷ h) t
spared s h e t legal held ends_not acts_not =
    record {
      turn = held.turn;
      runs = turn-spared s h e t.begun.0 held.turn legal ends_not held.runs;
      by = held.by;
      lane = held.lane;
      finishes = held.finishes;
      course = course-spared s h e t.begun.0 acts_not (turn_found h t.begun.0 held.turn held.runs).1 ∙ held.course;
    }

lane_spared : (s : SceneParts) (h : List Entry) (by : PartyId) (kind : EntryKind) (j : ℕ) (x : Option Turn) → Legal s h → aborted h ≡ false → Spares h kind j → IsLaneHeld s h j x → IsLaneHeld s (record { by = by; kind = kind } ∷ h) j x
unfolding aborted
lane_spared s h by (Begin lane demand opening agent) j None legal going spares free =
    λ _. let other : (lane.0 == j) ≡ false = ne_eqb lane.0 j spares in
    rw (running_at-begun lane_number s h (record { by = by; kind = Begin lane demand opening agent }) j legal (λ t. refl), free going, other) refl
lane_spared s h by (End turn) j None legal going spares free = λ _. rw (running_at-ended lane_number h (record { by = by; kind = End turn }) j refl, free going) refl
lane_spared s h by (Register coop) j None legal going spares free = λ _. rw (running_at-same lane_number s h (record { by = by; kind = Register coop }) j legal refl (λ t. refl)) (free going)
lane_spared s h by (Refuse coop cause) j None legal going spares free = λ _. rw (running_at-same lane_number s h (record { by = by; kind = Refuse coop cause }) j legal refl (λ t. refl)) (free going)
lane_spared s h by (Act turn effect answer) j None legal going spares free = λ _. rw (running_at-same lane_number s h (record { by = by; kind = Act turn effect answer }) j legal refl (λ t. refl)) (free going)
lane_spared s h by (Leaving coop reason) j None legal going spares free = λ _. rw (running_at-same lane_number s h (record { by = by; kind = Leaving coop reason }) j legal refl (λ t. refl)) (free going)
lane_spared s h by (Left coop) j None legal going spares free = λ _. rw (running_at-same lane_number s h (record { by = by; kind = Left coop }) j legal refl (λ t. refl)) (free going)
lane_spared s h by (Skip lane demand why) j None legal going spares free = λ _. rw (running_at-same lane_number s h (record { by = by; kind = Skip lane demand why }) j legal refl (λ t. refl)) (free going)
lane_spared s h by (Stop cause) j None legal going spares free = λ _. rw (running_at-same lane_number s h (record { by = by; kind = Stop cause }) j legal refl (λ t. refl)) (free going)
lane_spared s h by (Abort cause) j None legal going spares free = λ e. absurd cc
lane_spared s h by (Begin lane demand opening agent) j (Some t) legal going spares held = (spared s h (record { by = by; kind = Begin lane demand opening agent }) t legal held.0 refl refl, held.1)
lane_spared s h by (End turn) j (Some t) legal going spares held = (spared s h (record { by = by; kind = End turn }) t legal held.0 (other_turn s h turn.0 t j held.0 held.1 spares) refl, held.1)
lane_spared s h by (Act turn effect answer) j (Some t) legal going spares held = (spared s h (record { by = by; kind = Act turn effect answer }) t legal held.0 refl (other_turn s h turn.0 t j held.0 held.1 spares), held.1)
lane_spared s h by (Register coop) j (Some t) legal going spares held = (spared s h (record { by = by; kind = Register coop }) t legal held.0 refl refl, held.1)
lane_spared s h by (Refuse coop cause) j (Some t) legal going spares held = (spared s h (record { by = by; kind = Refuse coop cause }) t legal held.0 refl refl, held.1)
lane_spared s h by (Leaving coop reason) j (Some t) legal going spares held = (spared s h (record { by = by; kind = Leaving coop reason }) t legal held.0 refl refl, held.1)
lane_spared s h by (Left coop) j (Some t) legal going spares held = (spared s h (record { by = by; kind = Left coop }) t legal held.0 refl refl, held.1)
lane_spared s h by (Skip lane demand why) j (Some t) legal going spares held = (spared s h (record { by = by; kind = Skip lane demand why }) t legal held.0 refl refl, held.1)
lane_spared s h by (Stop cause) j (Some t) legal going spares held = (spared s h (record { by = by; kind = Stop cause }) t legal held.0 refl refl, held.1)
lane_spared s h by (Abort cause) j (Some t) legal going spares held = (spared s h (record { by = by; kind = Abort cause }) t legal held.0 refl refl, held.1)

-- all turns after an entry that has nothing to do with any
held_spared : (k : Core) (e : Entry) (ts : List (Option Turn)) → Legal k.scene k.history → aborted k.history ≡ false → ((j : ℕ) → Spares k.history e.kind j) → AreHeld k ts → AreHeld (record k { history = e ∷ k.history }) ts
held_spared k e ts legal going spares held =
    record {
      size = held.size;
      each = λ j in_range. lane_spared k.scene k.history e.by e.kind j (get_or ts j None) legal going (spares j) (held.each j in_range);
    }

-- all turns after an entry of one lane
held_set : (k : Core) (e : Entry) (ts : List (Option Turn)) (lane : ℕ) (x : Option Turn) → Legal k.scene k.history → aborted k.history ≡ false → lane < lanes k.scene → ((j : ℕ) → (j ≡ lane → ⊥) → Spares k.history e.kind j) →
    IsLaneHeld k.scene (e ∷ k.history) lane x → AreHeld k ts → AreHeld (record k { history = e ∷ k.history }) (slice_set ts lane x)
held_set k e ts lane x legal going in_range spares here held =
    record {
      size = length-set ts lane x ∙ held.size;
      each = λ j below.
          elim (cases_eq j lane) [
            | inl same ↦
                (let within : lane < length ts = omega (arith, held.size) in
                let P : Option Turn → Type 0 = λ y. IsLaneHeld k.scene (e ∷ k.history) lane y in
                let Q : ℕ → Type 0 = λ i. IsLaneHeld k.scene (e ∷ k.history) i (get_or (slice_set ts lane x) i None) in
                subst Q (sym same) (subst P (sym (get_or-set_same ts lane x None within)) here))
            | inr other ↦
                (let P : Option Turn → Type 0 = λ y. IsLaneHeld k.scene (e ∷ k.history) j y in
                subst P (sym (get_or-set_other ts lane j x None other)) (lane_spared k.scene k.history e.by e.kind j (get_or ts j None) legal going (spares j other) (held.each j below)))
          ];
    }

-- the turn that was put on a lane is held
pub lane_held : (k : Core) (ts : List (Option Turn)) (lane : ℕ) (t : Turn) → lane < lanes k.scene → AreHeld k (slice_set ts lane (Some t)) → IsHeld k.scene k.history t × (t.lane.0 ≡ lane)
lane_held k ts lane t in_range held =
    let P : Option Turn → Type 0 = λ y. IsLaneHeld k.scene k.history lane y in
    let within : lane < length ts = omega (arith, held.size, length-set ts lane (Some t)) in
    subst P (get_or-set_same ts lane (Some t) None within) (held.each lane in_range)

-- an entry of main has nothing to do with a lane
main_spared : (k : Core) (g : Result Entry Barred) (ts : List (Option Turn)) → Legal k.scene k.history → ((e : Entry) → g ≡ Ok e → aborted k.history ≡ false) → ((e : Entry) → g ≡ Ok e → (j : ℕ) → Spares k.history e.kind j) → AreHeld k ts → AreHeld (core_after k g) ts
main_spared k (Ok e) ts legal going spares held = held_spared k e ts legal (going e refl) (spares e refl) held
main_spared k (Err Nothing) ts legal going spares held = held
main_spared k (Err Full) ts legal going spares held = record { size = held.size; each = held.each }
main_spared k (Err Over) ts legal going spares held = held

tidied_spares : (h : List Entry) (kind : EntryKind) (j : ℕ) → IsTidying kind → Spares h kind j
tidied_spares h (Leaving coop reason) j t = tt
tidied_spares h (Left coop) j t = tt
tidied_spares h (Skip lane demand why) j t = absurd t
tidied_spares h (Stop cause) j t = tt
tidied_spares h (Abort cause) j t = absurd t
tidied_spares h (Register coop) j t = absurd t
tidied_spares h (Refuse coop cause) j t = absurd t
tidied_spares h (Begin lane demand opening agent) j t = absurd t
tidied_spares h (Act turn effect answer) j t = absurd t
tidied_spares h (End turn) j t = absurd t

registered_spares : (h : List Entry) (coop : CoopId) (cause : Option Refusal) (j : ℕ) → Spares h (registering coop cause) j
registered_spares h coop None j = tt
registered_spares h coop (Some cause) j = tt

pub held_registered : (k : Core) (ts : List (Option Turn)) → Legal k.scene k.history → AreHeld k ts → AreHeld (core_after k (gated k (registration k.scene k.history))) ts
held_registered k ts legal held =
    main_spared k (gated k (registration k.scene k.history)) ts legal (λ e g. ok_going k (registration k.scene k.history) e g)
    (λ e g j.
    let it = registers_of k.scene k.history e (gated_next k (registration k.scene k.history) e g) in
    let P : Entry → Type 0 = λ x. Spares k.history x.kind j in
    subst P (sym it.is) (registered_spares k.history it.coop (admission k.scene (standing k.history) it.coop) j))
    held

pub held_tidied : (k : Core) (ts : List (Option Turn)) → Legal k.scene k.history → AreHeld k ts → AreHeld (core_after k (gated k (tidying k.scene k.history))) ts
held_tidied k ts legal held =
    main_spared k (gated k (tidying k.scene k.history)) ts legal (λ e g. ok_going k (tidying k.scene k.history) e g)
    (λ e g j. tidied_spares k.history e.kind j (tidied k.scene k.history e (gated_next k (tidying k.scene k.history) e g)))
    held

-- a turn's own entry spares the other lanes
own_spares : (s : SceneParts) (h : List Entry) (t : Turn) (lane j : ℕ) → IsHeld s h t → t.lane.0 ≡ lane → (j ≡ lane → ⊥) → (x : Started) → turn_at h t.begun.0 ≡ Some x → x.lane.0 ≡ j → ⊥
own_spares s h t lane j held on other x runs here =
    let same : held.turn ≡ x = same_Some held.turn x (sym held.runs ∙ runs) in
    let its : x.lane.0 ≡ t.lane.0 = ap (λ (y : Started). y.lane.0) (sym same) ∙ ap (λ (l : LaneId). l.0) held.lane in
    other (sym here ∙ (its ∙ on))

set-set : (ts : List (Option Turn)) (lane : ℕ) (x y : Option Turn) → slice_set (slice_set ts lane x) lane y ≡ slice_set ts lane y
set-set [] lane x y = refl
set-set (t ∷ ts) zero x y = refl
set-set (t ∷ ts) (suc lane) x y = ap (λ l. t ∷ l) (set-set ts lane x y)

held_acted_on : (k : Core) (ts : List (Option Turn)) (lane : ℕ) (t u v : Turn) (effect : Effect) → Legal k.scene k.history → aborted k.history ≡ false → lane < lanes k.scene → v.begun ≡ t.begun →
    AreHeld k (slice_set ts lane (Some v)) → IsHeld k.scene (act_entry k t effect ∷ k.history) u → u.lane.0 ≡ lane → AreHeld (record k { history = act_entry k t effect ∷ k.history }) (slice_set ts lane (Some u))
held_acted_on k ts lane t u v effect legal going in_range same held uheld on =
    let mine = lane_held k ts lane v in_range held in
    let P : List (Option Turn) → Type 0 = λ l. AreHeld (record k { history = act_entry k t effect ∷ k.history }) l in
    let spares : (j : ℕ) → (j ≡ lane → ⊥) → (x : Started) → turn_at k.history t.begun.0 ≡ Some x → x.lane.0 ≡ j → ⊥ =
    λ j other x runs here. own_spares k.scene k.history v lane j mine.0 mine.1 other x (ap (λ (p : Place). turn_at k.history p.0) same ∙ runs) here in
    subst P (set-set ts lane (Some v) (Some u))
    (held_set k (act_entry k t effect) (slice_set ts lane (Some v)) lane (Some u) legal going in_range spares (uheld, on) held)

held_ended_on : (k : Core) (ts : List (Option Turn)) (lane : ℕ) (t v : Turn) → Legal k.scene k.history → aborted k.history ≡ false → lane < lanes k.scene → v.begun ≡ t.begun →
    AreHeld k (slice_set ts lane (Some v)) → AreHeld (record k { history = end_entry t ∷ k.history }) (slice_set ts lane None)
held_ended_on k ts lane t v legal going in_range same held =
    let mine = lane_held k ts lane v in_range held in
    let P : List (Option Turn) → Type 0 = λ l. AreHeld (record k { history = end_entry t ∷ k.history }) l in
    let on : mine.0.turn.lane.0 ≡ lane = ap (λ (l : LaneId). l.0) mine.0.lane ∙ mine.1 in
    let alone_there : running_at lane_number k.history lane ≡ mine.0.turn ∷ [] = ap (running_at lane_number k.history) (sym on) ∙ alone lane_number k.scene k.history v.begun.0 mine.0.turn (lanes_free k.scene) legal mine.0.runs in
    let place : t.begun.0 ≡ v.begun.0 = ap (λ (p : Place). p.0) (sym same) in
    let itself : (t.begun.0 == mine.0.turn.place) ≡ true = eq-eqb t.begun.0 mine.0.turn.place (place ∙ sym (turn_found k.history v.begun.0 mine.0.turn mine.0.runs).0) in
    let spares : (j : ℕ) → (j ≡ lane → ⊥) → (x : Started) → turn_at k.history t.begun.0 ≡ Some x → x.lane.0 ≡ j → ⊥ =
    λ j other x runs here. own_spares k.scene k.history v lane j mine.0 mine.1 other x (ap (λ (p : Place). turn_at k.history p.0) same ∙ runs) here in
    subst P (set-set ts lane (Some v) None)
    (held_set k (end_entry t) (slice_set ts lane (Some v)) lane None legal going in_range spares
    (λ _. rw (running_at-ended lane_number k.history (end_entry t) lane refl, alone_there, itself) refl) held)

held_failed_on : (k : Core) (ts : List (Option Turn)) (lane : ℕ) (t v : Turn) (kind : FailKind) → Legal k.scene k.history → aborted k.history ≡ false → lane < lanes k.scene →
    AreHeld k (slice_set ts lane (Some v)) → AreHeld (record k { history = fail_entry t kind ∷ k.history }) (slice_set ts lane None)
unfolding aborted
held_failed_on k ts lane t v kind legal going in_range held =
    let P : List (Option Turn) → Type 0 = λ l. AreHeld (record k { history = fail_entry t kind ∷ k.history }) l in
    subst P (set-set ts lane (Some v) None)
    (held_set k (fail_entry t kind) (slice_set ts lane (Some v)) lane None legal going in_range (λ j other. tt) (λ e. absurd cc) held)

-- ---- a step of a turn in hand

-- the turns where its entry was added, and where it wasn't
abbrev if_ok : Result Entry Barred → List (Option Turn) → List (Option Turn) → List (Option Turn)
if_ok (Ok e) ts back = ts
if_ok (Err why) ts back = back

gated_held : (k l : Core) (e : Entry) (ts back : List (Option Turn)) (g : Result Entry Barred) → gated k (Some e) ≡ g → l ≡ core_after k g → AreHeld k back → (gated k (Some e) ≡ Ok e → AreHeld (record k { history = e ∷ k.history }) ts) → AreHeld l (if_ok g ts back)
gated_held k l e ts back (Ok x) is after held added =
    let same : x ≡ e = sym (same_Some e x (gated_next k (Some e) x is)) in
    let l_is : l ≡ record k { history = e ∷ k.history } = after ∙ ap (λ (y : Entry). record k { history = y ∷ k.history }) same in
    let Q : Core → Type 0 = λ y. AreHeld y ts in
    subst Q (sym l_is) (added (is ∙ ap Ok same))
gated_held k l e ts back (Err Nothing) is after held added = let Q : Core → Type 0 = λ y. AreHeld y back in subst Q (sym after) held
gated_held k l e ts back (Err Full) is after held added = let Q : Core → Type 0 = λ y. AreHeld y back in subst Q (sym after) record { size = held.size; each = held.each }
gated_held k l e ts back (Err Over) is after held added = let Q : Core → Type 0 = λ y. AreHeld y back in subst Q (sym after) held

-- what it answers
module _ (k : Core) (e : Entry) where
  answer_added : (x : Entry) → gated k (Some e) ≡ Ok x → added e.kind ≡ step_answers (gated k (Some e))
  answer_added x is = ap (λ (y : Entry). added y.kind) (same_Some e x (gated_next k (Some e) x is)) ∙ ap step_answers (sym is)

  answered_acted : (g : Result Entry Barred) → gated k (Some e) ≡ g → stepped_answer.Added ≡ added e.kind → stepped_by_act (act_answers g) ≡ step_answers (gated k (Some e))
  answered_acted (Ok x) is adds = adds ∙ answer_added x is
  answered_acted (Err Nothing) is adds = let none : Some e ≡ None = nothing_gated k (Some e) is in cc
  answered_acted (Err Full) is adds = ap step_answers (sym is)
  answered_acted (Err Over) is adds = ap step_answers (sym is)

  answered_ended : (g : Result Entry Barred) → gated k (Some e) ≡ g → stepped_answer.Added ≡ added e.kind → stepped_by_end (end_answers g) ≡ step_answers (gated k (Some e))
  answered_ended (Ok x) is adds = adds ∙ answer_added x is
  answered_ended (Err Nothing) is adds = let none : Some e ≡ None = nothing_gated k (Some e) is in cc
  answered_ended (Err Full) is adds = ap step_answers (sym is)
  answered_ended (Err Over) is adds = ap step_answers (sym is)

  answered_failed : (g : Result Entry Barred) → gated k (Some e) ≡ g → stepped_answer.Aborted ≡ added e.kind → stepped_by_end (fail_answers g) ≡ step_answers (gated k (Some e))
  answered_failed (Ok x) is adds = adds ∙ answer_added x is
  answered_failed (Err Nothing) is adds = let none : Some e ≡ None = nothing_gated k (Some e) is in cc
  answered_failed (Err Full) is adds = ap step_answers (sym is)
  answered_failed (Err Over) is adds = ap step_answers (sym is)

-- what is left of the turn
back_ended : (g : Result Entry Barred) (t : Turn) (before : Frame) (ts : List (Option Turn)) (lane : ℕ) → slice_set ts lane (left_by_end (end_answers g) before t) ≡ if_ok g (slice_set ts lane None) (slice_set ts lane (Some (record t { frame = before })))
back_ended (Ok e) t before ts lane = refl
back_ended (Err Nothing) t before ts lane = refl
back_ended (Err Full) t before ts lane = refl
back_ended (Err Over) t before ts lane = refl

back_failed : (g : Result Entry Barred) (t : Turn) (before : Frame) (ts : List (Option Turn)) (lane : ℕ) → slice_set ts lane (left_by_end (fail_answers g) before t) ≡ if_ok g (slice_set ts lane None) (slice_set ts lane (Some (record t { frame = before })))
back_failed (Ok e) t before ts lane = refl
back_failed (Err Nothing) t before ts lane = refl
back_failed (Err Full) t before ts lane = refl
back_failed (Err Over) t before ts lane = refl

back_acted : (k : Core) (g : Result Entry Barred) (t u : Turn) (before : Frame) (effect : Effect) (ts : List (Option Turn)) (lane : ℕ) → u ≡ turn_after k g t effect → slice_set ts lane (Some (turn_kept (act_answers g) before u)) ≡ if_ok g (slice_set ts lane (Some u)) (slice_set ts lane (Some (record t { frame = before })))
back_acted k (Ok e) t u before effect ts lane is = refl
back_acted k (Err Nothing) t u before effect ts lane is = ap (λ (x : Turn). slice_set ts lane (Some (record x { frame = before }))) is
back_acted k (Err Full) t u before effect ts lane is = ap (λ (x : Turn). slice_set ts lane (Some (record x { frame = before }))) is
back_acted k (Err Over) t u before effect ts lane is = ap (λ (x : Turn). slice_set ts lane (Some (record x { frame = before }))) is

-- its entry
move_is_act : (k : Core) (t : Turn) (before : Frame) (effect : Effect) (a : Answer) → Moves k t before (Do effect) → answer_of k.scene k.history t.agent t.event effect ≡ Some a → Some (act_entry k t effect) ≡ turn_move k.scene k.history (record t { frame = before })
move_is_act k t before effect a moves answers = rw (moves, answers) refl

move_is_end : (k : Core) (t : Turn) (before : Frame) → Moves k t before Done → Some (end_entry t) ≡ turn_move k.scene k.history (record t { frame = before })
move_is_end k t before moves = rw moves refl

move_is_fail : (k : Core) (t : Turn) (before : Frame) (kind : FailKind) → Moves k t before (Fail kind) → Some (fail_entry t kind) ≡ turn_move k.scene k.history (record t { frame = before })
move_is_fail k t before kind moves = rw moves refl

-- the whole step
module _ (k l : Core) (ts : List (Option Turn)) (lane : ℕ) (t : Turn) (before : Frame) (scene : IsScene k.scene) (legal : Legal k.scene k.history) (in_range : lane < lanes k.scene) (held : AreHeld k (slice_set ts lane (Some (record t { frame = before })))) where
  pub act_stepped : (u : Turn) (effect : Effect) → Moves k t before (Do effect) → l ≡ core_after k (gated k (Some (act_entry k t effect))) → u ≡ turn_after k (gated k (Some (act_entry k t effect))) t effect → (act_answers (gated k (Some (act_entry k t effect))) ≡ acted_answer.Went → IsHeld l.scene l.history u) →
      HasStepped k (turn_move k.scene k.history (record t { frame = before })) (stepped_by_act (act_answers (gated k (Some (act_entry k t effect))))) l (slice_set ts lane (Some (turn_kept (act_answers (gated k (Some (act_entry k t effect)))) before u)))
  act_stepped u effect moves after next uheld =
      let e : Entry = act_entry k t effect in
      let g : Result Entry Barred = gated k (Some e) in
      let moved : HasMoved k.scene k.history t (Do effect) = record { before = before; held = (lane_held k ts lane (record t { frame = before }) in_range held).0; moves = moves } in
      let answers = answered_named k.scene k.history t.agent t.event effect (moved_named k t effect scene legal moved) in
      let P : Option Entry → Type 0 = λ x. HasStepped k x (stepped_by_act (act_answers g)) l (slice_set ts lane (Some (turn_kept (act_answers g) before u))) in
      let Q : List (Option Turn) → Type 0 = λ x. AreHeld l x in
      let went : gated k (Some e) ≡ Ok e → AreHeld (record k { history = e ∷ k.history }) (slice_set ts lane (Some u)) =
      λ ok. let H : Core → Type 0 = λ x. IsHeld x.scene x.history u in
      let on : u.lane.0 ≡ lane = ap (λ (x : Turn). x.lane.0) (next ∙ ap (λ y. turn_after k y t effect) ok) ∙ (lane_held k ts lane (record t { frame = before }) in_range held).1 in
      held_acted_on k ts lane t u (record t { frame = before }) effect legal (ok_going k (Some e) e ok) in_range refl held (subst H (after ∙ ap (core_after k) ok) (uheld (ap act_answers ok))) on in
      subst P (move_is_act k t before effect answers.0 moves answers.1) record {
        answer = answered_acted k e g refl refl;
        after = after;
        held = subst Q (sym (back_acted k g t u before effect ts lane next)) (gated_held k l e (slice_set ts lane (Some u)) (slice_set ts lane (Some (record t { frame = before }))) g refl after held went);
      }

  pub end_stepped : Moves k t before Done → l ≡ core_after k (gated k (Some (end_entry t))) →
      HasStepped k (turn_move k.scene k.history (record t { frame = before })) (stepped_by_end (end_answers (gated k (Some (end_entry t))))) l (slice_set ts lane (left_by_end (end_answers (gated k (Some (end_entry t)))) before t))
  end_stepped moves after =
      let e : Entry = end_entry t in
      let g : Result Entry Barred = gated k (Some e) in
      let P : Option Entry → Type 0 = λ x. HasStepped k x (stepped_by_end (end_answers g)) l (slice_set ts lane (left_by_end (end_answers g) before t)) in
      let Q : List (Option Turn) → Type 0 = λ x. AreHeld l x in
      subst P (move_is_end k t before moves) record {
        answer = answered_ended k e g refl refl;
        after = after;
        held = subst Q (sym (back_ended g t before ts lane)) (gated_held k l e (slice_set ts lane None) (slice_set ts lane (Some (record t { frame = before }))) g refl after held (λ ok. held_ended_on k ts lane t (record t { frame = before }) legal (ok_going k (Some e) e ok) in_range refl held));
      }

  pub fail_stepped : (kind : FailKind) → Moves k t before (Fail kind) → l ≡ core_after k (gated k (Some (fail_entry t kind))) →
      HasStepped k (turn_move k.scene k.history (record t { frame = before })) (stepped_by_end (fail_answers (gated k (Some (fail_entry t kind))))) l (slice_set ts lane (left_by_end (fail_answers (gated k (Some (fail_entry t kind)))) before t))
  fail_stepped kind moves after =
      let e : Entry = fail_entry t kind in
      let g : Result Entry Barred = gated k (Some e) in
      let P : Option Entry → Type 0 = λ x. HasStepped k x (stepped_by_end (fail_answers g)) l (slice_set ts lane (left_by_end (fail_answers g) before t)) in
      let Q : List (Option Turn) → Type 0 = λ x. AreHeld l x in
      subst P (move_is_fail k t before kind moves) record {
        answer = answered_failed k e g refl refl;
        after = after;
        held = subst Q (sym (back_failed g t before ts lane)) (gated_held k l e (slice_set ts lane None) (slice_set ts lane (Some (record t { frame = before }))) g refl after held (λ ok. held_failed_on k ts lane t (record t { frame = before }) kind legal (ok_going k (Some e) e ok) in_range held));
      }

-- ---- a turn that steps in its place

-- a lane that has a turn stays where it is among the others
pub within_set : (from below : ℕ) (ts : List (Option Turn)) (lane : ℕ) (x : Option Turn) → AreWithin from below ts → is_some (get_or ts lane None) ≡ true → AreWithin from below (slice_set ts lane x)
within_set from below ts lane x within some l there =
    elim (cases_eq l lane) [
      | inl same ↦ (let Q : ℕ → Type 0 = λ i. (from ≤ i) × (i < below) in subst Q (sym same) (within lane some))
      | inr other ↦ within l (ap is_some (sym (get_or-set_other ts lane l x None other)) ∙ there)
    ]

-- the whole step, of the turns among which it stands
pub turned_on : (k : Core) (ts : List (Option Turn)) (lane : ℕ) (t u : Turn) (answer : Stepped) (l : Core) (rest : Option Turn) → AreHeld k ts → get_or ts lane None ≡ Some t → HasTurned k lane t answer l rest →
    HasStepped k (turn_move k.scene k.history t) answer l (slice_set (slice_set ts lane (Some u)) lane rest)
turned_on k ts lane t u answer l rest held here turned =
    let P : List (Option Turn) → Type 0 = λ x. AreHeld k x in
    let Q : List (Option Turn) → Type 0 = λ x. HasStepped k (turn_move k.scene k.history t) answer l x in
    let same : slice_set ts lane (Some t) ≡ ts = ap (slice_set ts lane) (sym here) ∙ set-get_or ts lane None in
    subst Q (sym (set-set ts lane (Some u) rest)) (turned ts (subst P (sym same) held))

-- ---- a step that takes a demand

-- a turn that begins
begun_parts : (l : Core) (by : PartyId) (lane : LaneId) (g : Result Entry Barred) (t : Turn) → IsBegun l by lane g (begun_answer.Turn t) → (e : Entry) × (g ≡ Ok e) × IsHeld l.scene l.history t × (t.lane ≡ lane) × (is_skip e.kind ≡ false)
begun_parts l by lane (Ok e) t b = (e, refl, b.1, b.3, b.0)
begun_parts l by lane (Err Nothing) t b = cc
begun_parts l by lane (Err Full) t b = cc
begun_parts l by lane (Err Over) t b = cc

picked_entry : (s : SceneParts) (g : List Entry) (by : PartyId) (lane : LaneId) (d : Option Demand) (e : Entry) → option_map (λ x. record { by = by; kind = taking s g lane x }) d ≡ Some e → (x : Demand) × (e.kind ≡ taking s g lane x)
picked_entry s g by lane None e h = cc
picked_entry s g by lane (Some d) e h = (d, ap (λ (o : Option Entry). elim o [ None ↦ taking s g lane d | Some x ↦ x.kind ]) (sym h))

begins_entry : (s : SceneParts) (h : List Entry) (lane : LaneId) (e : Entry) (d : Demand) → e.kind ≡ taking s h lane d → is_skip e.kind ≡ false → e.kind ≡ Begin lane (Some d.id) (opening_of s h d) d.agent
begins_entry s h lane e d is begins = is ∙ begins_turn s h lane d (sym (ap is_skip is) ∙ begins)

held_begun_on : (k : Core) (ts : List (Option Turn)) (lane : LaneId) (e : Entry) (d : Demand) (t : Turn) → Legal k.scene k.history → aborted k.history ≡ false → lane.0 < lanes k.scene → e.kind ≡ Begin lane (Some d.id) (opening_of k.scene k.history d) d.agent →
    AreHeld k ts → IsHeld k.scene (e ∷ k.history) t → t.lane.0 ≡ lane.0 → AreHeld (record k { history = e ∷ k.history }) (slice_set ts lane.0 (Some t))
held_begun_on k ts lane e d t legal going in_range is held theld on =
    held_set k e ts lane.0 (Some t) legal going in_range
    (λ j other. let P : EntryKind → Type 0 = λ x. Spares k.history x j in subst P (sym is) (λ same. other (sym same)))
    (theld, on) held

pub held_began : (k l : Core) (ts : List (Option Turn)) (by : PartyId) (lane : LaneId) (t : Turn) → Legal k.scene k.history → lane.0 < lanes k.scene → AreHeld k ts →
    IsBegun l by lane (gated k (begin_by k by lane)) (begun_answer.Turn t) → l ≡ core_after k (gated k (begin_by k by lane)) → AreHeld l (slice_set ts lane.0 (Some t))
held_began k l ts by lane t legal in_range held b after =
    let p = begun_parts l by lane (gated k (begin_by k by lane)) t b in
    let d = picked_entry k.scene k.history by lane (pick k.scene k.history lane) p.0 (gated_next k (begin_by k by lane) p.0 p.1) in
    let l_is : l ≡ record k { history = p.0 ∷ k.history } = after ∙ ap (core_after k) p.1 in
    let P : Core → Type 0 = λ x. IsHeld x.scene x.history t in
    let Q : Core → Type 0 = λ x. AreHeld x (slice_set ts lane.0 (Some t)) in
    subst Q (sym l_is) (held_begun_on k ts lane p.0 d.0 t legal (ok_going k (begin_by k by lane) p.0 p.1) in_range (begins_entry k.scene k.history lane p.0 d.0 d.1 p.4) held (subst P l_is p.2) (ap (λ (x : LaneId). x.0) p.3))

-- the answer of a step that began a turn
added_taking : (kind : EntryKind) (lane : LaneId) (d : Demand) (o : Opening) (w : Option SkipWhy) → kind ≡ taking_as lane d o w → stepped_answer.Added ≡ added kind
added_taking kind lane d o None is = ap added (sym is)
added_taking kind lane d o (Some why) is = ap added (sym is)

taking_added : (k : Core) (by : PartyId) (lane : LaneId) (e : Entry) → gated k (begin_by k by lane) ≡ Ok e → stepped_answer.Added ≡ step_answers (gated k (begin_by k by lane))
taking_added k by lane e g =
    let d = picked_entry k.scene k.history by lane (pick k.scene k.history lane) e (gated_next k (begin_by k by lane) e g) in
    added_taking e.kind lane d.0 (opening_of k.scene k.history d.0) (skipped (opening_of k.scene k.history d.0)) d.1 ∙ ap step_answers (sym g)

pub begun_added : (k l : Core) (by : PartyId) (lane : LaneId) (t : Turn) → IsBegun l by lane (gated k (begin_by k by lane)) (begun_answer.Turn t) → stepped_answer.Added ≡ step_answers (gated k (begin_by k by lane))
begun_added k l by lane t b =
    let p = begun_parts l by lane (gated k (begin_by k by lane)) t b in
    taking_added k by lane p.0 p.1

-- a demand that was skipped
skipped_parts : (l : Core) (by : PartyId) (lane : LaneId) (g : Result Entry Barred) → IsBegun l by lane g begun_answer.Skipped → (e : Entry) × (g ≡ Ok e) × (is_skip e.kind ≡ true)
skipped_parts l by lane (Ok e) b = (e, refl, b)
skipped_parts l by lane (Err Nothing) b = cc
skipped_parts l by lane (Err Full) b = cc
skipped_parts l by lane (Err Over) b = cc

pub skip_added : (k l : Core) (by : PartyId) (lane : LaneId) → IsBegun l by lane (gated k (begin_by k by lane)) begun_answer.Skipped → stepped_answer.Added ≡ step_answers (gated k (begin_by k by lane))
skip_added k l by lane b =
    let p = skipped_parts l by lane (gated k (begin_by k by lane)) b in
    taking_added k by lane p.0 p.1

skip_spares : (h : List Entry) (kind : EntryKind) (j : ℕ) → is_skip kind ≡ true → Spares h kind j
skip_spares h (Skip lane demand why) j e = tt
skip_spares h (Register coop) j e = cc
skip_spares h (Refuse coop cause) j e = cc
skip_spares h (Begin lane demand opening agent) j e = cc
skip_spares h (Act turn effect answer) j e = cc
skip_spares h (End turn) j e = cc
skip_spares h (Leaving coop reason) j e = cc
skip_spares h (Left coop) j e = cc
skip_spares h (Stop cause) j e = cc
skip_spares h (Abort cause) j e = cc

pub held_skipped : (k l : Core) (ts : List (Option Turn)) (by : PartyId) (lane : LaneId) → Legal k.scene k.history → AreHeld k ts → IsBegun l by lane (gated k (begin_by k by lane)) begun_answer.Skipped → l ≡ core_after k (gated k (begin_by k by lane)) → AreHeld l ts
held_skipped k l ts by lane legal held b after =
    let p = skipped_parts l by lane (gated k (begin_by k by lane)) b in
    let l_is : l ≡ record k { history = p.0 ∷ k.history } = after ∙ ap (core_after k) p.1 in
    let Q : Core → Type 0 = λ x. AreHeld x ts in
    subst Q (sym l_is) (held_spared k p.0 ts legal (ok_going k (begin_by k by lane) p.0 p.1) (λ j. skip_spares k.history p.0.kind j p.2) held)

-- the entry of a lane whose turn is in hand
pub turn_move_is : (k : Core) (t : Turn) (lane : LaneId) → Legal k.scene k.history → IsHeld k.scene k.history t → t.lane.0 ≡ lane.0 →
    turn_entry k.scene k.history (turn_on k.history lane) ≡ turn_move k.scene k.history t
turn_move_is k t lane legal held on =
    let lane_is : held.turn.lane.0 ≡ lane.0 = ap (λ (l : LaneId). l.0) held.lane ∙ on in
    let one : running_on k.history lane ≡ held.turn ∷ [] = ap (running_at lane_number k.history) (sym lane_is) ∙ alone lane_number k.scene k.history t.begun.0 held.turn (lanes_free k.scene) legal held.runs in
    let place : held.turn.place ≡ t.begun.0 = (turn_found k.history t.begun.0 held.turn held.runs).0 in
    rw (one, place, held.course, held.by) refl

pub lane_turn_entry : (k : Core) (t : Turn) (lane : LaneId) → IsScene k.scene → Legal k.scene k.history → IsHeld k.scene k.history t → t.lane.0 ≡ lane.0 →
    (x : Entry) × (turn_entry k.scene k.history (turn_on k.history lane) ≡ Some x)
lane_turn_entry k t lane scene legal held on =
    let lane_is : held.turn.lane.0 ≡ lane.0 = ap (λ (l : LaneId). l.0) held.lane ∙ on in
    let one : running_on k.history lane ≡ held.turn ∷ [] = ap (running_at lane_number k.history) (sym lane_is) ∙ alone lane_number k.scene k.history t.begun.0 held.turn (lanes_free k.scene) legal held.runs in
    let it = has_move k.scene k.history held.turn scene legal (looked_up k.history t.begun.0 held.turn held.runs) in
    (it.0, rw one it.1)

pub lane_move : (k : Core) (t : Turn) (lane : LaneId) → IsScene k.scene → Legal k.scene k.history → IsHeld k.scene k.history t → t.lane.0 ≡ lane.0 →
    lane_entry k.scene k.history lane ≡ turn_move k.scene k.history t
lane_move k t lane scene legal held on =
    let it = lane_turn_entry k t lane scene legal held on in
    lane_entry-turn k.scene k.history lane it.0 it.1 ∙ (sym it.1 ∙ turn_move_is k t lane legal held on)

-- and of a lane that has none in hand
pub lane_free : (k : Core) (lane : LaneId) → IsLaneHeld k.scene k.history lane.0 None → gated k (lane_entry k.scene k.history lane) ≡ gated k (begin_by k (party_of lane) lane)
lane_free k lane held =
    elim (cases_Bool (aborted k.history)) [
      | inl y ↦ same_over k _ _ y
      | inr f ↦ ap (gated k) (lane_entry-free k.scene k.history lane (held f))
    ]

-- the turns in hand after the step of one that stands among them
turned_left : (turned : Turned) (u : Turn) (ts : List (Option Turn)) (lane : ℕ) → slice_set (slice_set ts lane (Some u)) lane (left turned u) ≡ turns_left turned lane (slice_set ts lane (Some u))
turned_left (turned_answer.On answer) u ts lane = set-set ts lane (Some u) (Some u)
turned_left (turned_answer.Over answer) u ts lane = refl

pub advanced : (k : Core) (ts : List (Option Turn)) (lane : LaneId) (x : Option Turn) (turned : Turned) (l : Core) (new : List (Option Turn)) → IsScene k.scene → Legal k.scene k.history → lane.0 < lanes k.scene → AreHeld k ts → get_or ts lane.0 None ≡ x → HasAdvanced k ts lane.0 x (Some turned) l new →
    HasStepped k (lane_entry k.scene k.history lane) (said turned) l (turns_left turned lane.0 new)
advanced k ts lane None turned l new scene legal in_range held here h = absurd h
advanced k ts lane (Some t) turned l new scene legal in_range held here h =
    let L : Option Turn → Type 0 = λ y. IsLaneHeld k.scene k.history lane.0 y in
    let mine : IsLaneHeld k.scene k.history lane.0 (Some t) = subst L here (held.each lane.0 in_range) in
    let P : List (Option Turn) → Type 0 = λ y. HasStepped k (turn_move k.scene k.history t) (said turned) l y in
    let Q : Option Entry → Type 0 = λ y. HasStepped k y (said turned) l (turns_left turned lane.0 new) in
    let same : slice_set (slice_set ts lane.0 (Some h.0)) lane.0 (left turned h.0) ≡ turns_left turned lane.0 new = turned_left turned h.0 ts lane.0 ∙ ap (turns_left turned lane.0) (sym h.1) in
    subst Q (sym (lane_move k t lane scene legal mine.0 mine.1)) (subst P same (turned_on k ts lane.0 t h.0 (said turned) l (left turned h.0) held here h.2))

pub none_advanced : (k : Core) (ts : List (Option Turn)) (lane : ℕ) (x : Option Turn) (l : Core) (new : List (Option Turn)) → HasAdvanced k ts lane x None l new → (l ≡ k) × (new ≡ ts) × (x ≡ None)
none_advanced k ts lane None l new h = (h.0, h.1, refl)
none_advanced k ts lane (Some t) l new h = absurd h

first_case : (k : Core) (lane : LaneId) (x : Option Turn) → IsScene k.scene → Legal k.scene k.history → lane.0 < lanes k.scene → IsLaneHeld k.scene k.history lane.0 x → is_some x ≡ true → ((l : ℕ) → l < lane.0 → running_at lane_number k.history l ≡ []) →
    first_entry k.scene k.history ≡ lane_entry k.scene k.history lane
first_case k lane None scene legal in_range held some free = cc
first_case k lane (Some t) scene legal in_range held some free =
    let it = lane_turn_entry k t lane scene legal held.0 held.1 in
    first-turn k.scene k.history lane.0 it.0 in_range it.1 free
    ∙ sym (lane_entry-turn k.scene k.history lane it.0 it.1)

-- the first step is the move of the first turn in hand
pub first_of_turns : (k : Core) (ts : List (Option Turn)) (lane : LaneId) → IsScene k.scene → Legal k.scene k.history → AreHeld k ts → lane.0 < lanes k.scene → is_some (get_or ts lane.0 None) ≡ true → ((l : ℕ) → l < lane.0 → get_or ts l None ≡ None) →
    gated k (first k.scene k.history) ≡ gated k (lane_entry k.scene k.history lane)
first_of_turns k ts lane scene legal held in_range some before =
    gated_first k
    ∙ elim (cases_Bool (aborted k.history)) [
      | inl y ↦ same_over k _ _ y
      | inr f ↦
          ap (gated k)
          (first_case k lane (get_or ts lane.0 None) scene legal in_range (held.each lane.0 in_range) some
          (λ l below. let P : Option Turn → Type 0 = λ x. IsLaneHeld k.scene k.history l x in subst P (before l below) (held.each l (omega arith)) f))
    ]

-- no turn runs where none is in hand and none was aborted
pub none_running : (k : Core) (ts : List (Option Turn)) → AreHeld k ts → ((l : ℕ) → l < lanes k.scene → get_or ts l None ≡ None) → aborted k.history ≡ false → (l : ℕ) → l < lanes k.scene → running_at lane_number k.history l ≡ []
none_running k ts held none going l in_range = let P : Option Turn → Type 0 = λ x. IsLaneHeld k.scene k.history l x in subst P (none l in_range) (held.each l in_range) going
