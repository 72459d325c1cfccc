-- What the structure of a code says of its places.
use Rattle.std.proofs.Common.{◌≡◌, ℕ, zero, suc, ◌+◌, ◌<◌, ◌≤◌, ⊎_elim, Bool, true, false, List, [], ◌∷◌, ◌++◌, length, drop, take, Some, arith, refl, sym, ap, ◌∙◌, subst, length-append, append_assoc}
use Rattle.std.proofs.Math.Seq.{drop-append-add}
use Rattle.std.proofs.lemmas.Bool.{cases_lt}
use Rattle.std.specs.Prelude.{slice_get}
use Rattle.std.specs.List.{AllByRecursion}
use Rattle.so_code.proofs.TwoLists.{get_left, IsFurther, get_right}
use Rattle.so_code.specs.declared.instr.Body.{Body}
use Rattle.so_code.specs.declared.instr.Instr.{Instr}
use Rattle.so_code.specs.declared.instr.Instr.TheVariants as instr
use Rattle.so_code.specs.Receives.{is_receive, is_case, is_back, handlers_length, past}
use Rattle.so_code.specs.Valid.{HasParts, jump, is_act, is_switch}
use Rattle.so_code.specs.Shape.{Handler, Act, WholeBody, plain, receiving, handlers_code, act_code, acts_code, flatten, cases_of, AreActsBefore, IsHandler, PassesOver, IsPlainAct, IsReceiving, IsAct, AreActs, IsWholeBody, IsCode}
use Rattle.so_code.specs.Places.{reach, is_plain, IsAt, HasReceive, HasPlaces}

-- ---- the place after a receive

past_shift : (xs code : List Instr) (r : ℕ) → past (xs ++ code) (length xs + r) ≡ length xs + past code r
past_shift xs code r =
    let e : length xs + r + 1 ≡ length xs + (r + 1) = omega arith in
    let d : drop (length xs + r + 1) (xs ++ code) ≡ drop (r + 1) code = rw e (drop-append-add xs code (r + 1)) in
    rw d (omega arith)

past_at : (xs code : List Instr) (k r : ℕ) → k ≡ length xs + r → past (xs ++ code) k ≡ length xs + past code r
past_at xs code k r e = rw e (past_shift xs code r)

past_suc : (x : Instr) (code : List Instr) (r : ℕ) → past (x ∷ code) (suc r) ≡ suc (past code r)
past_suc x code r =
    let e : suc r + 1 ≡ suc (r + 1) = omega arith in
    let d : drop (suc r + 1) (x ∷ code) ≡ drop (r + 1) code = rw e refl in
    rw d (omega arith)

-- ---- one instruction

act_reach : (i : Instr) → is_act i ≡ true → reach i ≡ jump i + 1
act_reach (instr.If a cmp b count) e = refl
act_reach (instr.Skip count) e = refl
act_reach (instr.Receive chains cases handle_n extract_n empty_timeout total_time no_wait) e = absurd cc
act_reach instr.Back e = absurd cc
act_reach (instr.End body) e = absurd cc
act_reach other e = refl

no_switch : (i : Instr) → (is_switch i ≡ true → false ≡ true) → is_switch i ≡ false
no_switch (instr.Switch to) h = let no : false ≡ true = h refl in absurd cc
no_switch other h = refl

act_plain : (i : Instr) → is_act i ≡ true → is_switch i ≡ false → is_plain i ≡ true
act_plain (instr.Switch to) e s = absurd cc
act_plain (instr.Receive chains cases handle_n extract_n empty_timeout total_time no_wait) e s = absurd cc
act_plain (instr.End body) e s = absurd cc
act_plain other e s = refl

act_no_receive : (i : Instr) → is_act i ≡ true → is_receive i ≡ true → ⊥
act_no_receive (instr.Receive chains cases handle_n extract_n empty_timeout total_time no_wait) e r = cc
act_no_receive other e r = cc

act_no_case : (i : Instr) → is_act i ≡ true → is_case i ≡ false
act_no_case (instr.Case case msg) e = absurd cc
act_no_case other e = refl

act_no_back : (i : Instr) → is_act i ≡ true → is_back i ≡ false
act_no_back instr.Back e = absurd cc
act_no_back other e = refl

receive_no_case : (i : Instr) → is_receive i ≡ true → is_case i ≡ false
receive_no_case (instr.Receive chains cases handle_n extract_n empty_timeout total_time no_wait) r = refl
receive_no_case other r = absurd cc

receive_no_back : (i : Instr) → is_receive i ≡ true → is_back i ≡ false
receive_no_back (instr.Receive chains cases handle_n extract_n empty_timeout total_time no_wait) r = refl
receive_no_back other r = absurd cc

receive_reach : (i : Instr) → is_receive i ≡ true → reach i ≡ 0
receive_reach (instr.Receive chains cases handle_n extract_n empty_timeout total_time no_wait) r = refl
receive_reach other r = absurd cc

plain_no_receive : (i : Instr) → is_plain i ≡ true → is_receive i ≡ true → ⊥
plain_no_receive (instr.Receive chains cases handle_n extract_n empty_timeout total_time no_wait) e r = cc
plain_no_receive other e r = cc

-- ---- the handlers of a receive

-- an instruction at a place of a list of this length: its numbers, and that it leads out of nothing
pub record IsInner (i : Instr) (place length_is : ℕ) : Type 0 where
  pub parts : HasParts i
  pub plain : is_plain i ≡ true
  pub leads : place + reach i < length_is

acts_inner : (acts : List Instr) (k : ℕ) (i : Instr) → AreActsBefore false 0 acts → slice_get acts k ≡ Some i → IsInner i k (length acts + 1)
acts_inner [] k i acts e = absurd cc
acts_inner (j ∷ rest) zero i acts e =
    let same : j ≡ i = cc in
    subst (λ (x : Instr). IsInner x 0 (length (j ∷ rest) + 1)) same (record {
      parts = acts.0.parts;
      plain = act_plain j acts.0.act (no_switch j acts.0.switch);
      leads = omega (arith, act_reach j acts.0.act, acts.0.jumps);
    })
acts_inner (j ∷ rest) (suc k) i acts e =
    let more = acts_inner rest k i acts.1 e in
    record { parts = more.parts; plain = more.plain; leads = omega (arith, more.leads) }

handlers_inner : (cases : ℕ) (hs : List Handler) (k : ℕ) (i : Instr) → AllByRecursion (IsHandler cases) hs → slice_get (handlers_code hs) k ≡ Some i → IsInner i k (length (handlers_code hs))
handlers_inner cases [] k i each e = absurd cc
handlers_inner cases (h ∷ hs) zero i each e =
    let same : instr.Case h.case h.msg ≡ i = cc in
    let long : length (h.acts ++ instr.Back ∷ handlers_code hs) ≡ length h.acts + suc (length (handlers_code hs)) = length-append h.acts (instr.Back ∷ handlers_code hs) in
    subst (λ (x : Instr). IsInner x 0 (length (handlers_code (h ∷ hs)))) same (record { parts = tt; plain = refl; leads = omega (arith, long) })
handlers_inner cases (h ∷ hs) (suc k) i each e =
    let long : length (h.acts ++ instr.Back ∷ handlers_code hs) ≡ length h.acts + suc (length (handlers_code hs)) = length-append h.acts (instr.Back ∷ handlers_code hs) in
    ⊎_elim
    (λ (l : k < length h.acts).
    let inner = acts_inner h.acts k i each.0.acts (sym (get_left h.acts (instr.Back ∷ handlers_code hs) k l) ∙ e) in
    let made : IsInner i (suc k) (length (handlers_code (h ∷ hs))) = record { parts = inner.parts; plain = inner.plain; leads = omega (arith, inner.leads, long) } in
    made)
    (λ (l : length h.acts ≤ k).
    let further = get_right h.acts (instr.Back ∷ handlers_code hs) k i l e in
    after_acts cases h hs k i further.rest each further.sum further.here (λ p here. handlers_inner cases hs p i each.1 here))
    (cases_lt k (length h.acts))
  where
    after_acts : (cases : ℕ) (h : Handler) (hs : List Handler) (k : ℕ) (i : Instr) (p : ℕ) → AllByRecursion (IsHandler cases) (h ∷ hs) → k ≡ length h.acts + p → slice_get (instr.Back ∷ handlers_code hs) p ≡ Some i → ((q : ℕ) → slice_get (handlers_code hs) q ≡ Some i → IsInner i q (length (handlers_code hs))) → IsInner i (suc k) (length (handlers_code (h ∷ hs)))
    after_acts cases h hs k i zero each sum here more =
        let same : instr.Back ≡ i = cc in
        let long : length (h.acts ++ instr.Back ∷ handlers_code hs) ≡ length h.acts + suc (length (handlers_code hs)) = length-append h.acts (instr.Back ∷ handlers_code hs) in
        subst (λ (x : Instr). IsInner x (suc k) (length (handlers_code (h ∷ hs)))) same (record { parts = tt; plain = refl; leads = omega (arith, long, sum) })
    after_acts cases h hs k i (suc p) each sum here more =
        let inner = more p here in
        let long : length (h.acts ++ instr.Back ∷ handlers_code hs) ≡ length h.acts + suc (length (handlers_code hs)) = length-append h.acts (instr.Back ∷ handlers_code hs) in
        record { parts = inner.parts; plain = inner.plain; leads = omega (arith, inner.leads, long, sum) }

-- the list does not begin with a handler
abbrev pub begins_case : List Instr → Bool
begins_case [] = false
begins_case (i ∷ code) = is_case i

handlers_none : (code : List Instr) → begins_case code ≡ false → handlers_length false code ≡ 0
handlers_none [] e = refl
handlers_none (i ∷ code) e = rw e refl

inside_width : (acts rest : List Instr) → AreActsBefore false 0 acts → handlers_length true (acts ++ instr.Back ∷ rest) ≡ length acts + (1 + handlers_length false rest)
inside_width [] rest acts = omega arith
inside_width (i ∷ more) rest acts =
    let e : is_back i ≡ false = act_no_back i acts.0.act in
    let next : handlers_length true (more ++ instr.Back ∷ rest) ≡ length more + (1 + handlers_length false rest) = inside_width more rest acts.1 in
    rw e (omega (arith, next))

handlers_width : (cases : ℕ) (hs : List Handler) (rest : List Instr) → AllByRecursion (IsHandler cases) hs → begins_case rest ≡ false → handlers_length false (handlers_code hs ++ rest) ≡ length (handlers_code hs)
handlers_width cases [] rest each e = handlers_none rest e
handlers_width cases (h ∷ hs) rest each e =
    let assoc : (h.acts ++ instr.Back ∷ handlers_code hs) ++ rest ≡ h.acts ++ instr.Back ∷ (handlers_code hs ++ rest) = append_assoc h.acts (instr.Back ∷ handlers_code hs) rest in
    let inside : handlers_length true (h.acts ++ instr.Back ∷ (handlers_code hs ++ rest)) ≡ length h.acts + (1 + handlers_length false (handlers_code hs ++ rest)) = inside_width h.acts (handlers_code hs ++ rest) each.0.acts in
    let next : handlers_length false (handlers_code hs ++ rest) ≡ length (handlers_code hs) = handlers_width cases hs rest each.1 e in
    let long : length (h.acts ++ instr.Back ∷ handlers_code hs) ≡ length h.acts + suc (length (handlers_code hs)) = length-append h.acts (instr.Back ∷ handlers_code hs) in
    rw assoc (omega (arith, inside, next, long))

-- ---- the place of an instruction

pub record Here (code : List Instr) (place : ℕ) (i : Instr) : Type 0 where
  pub parts : HasParts i
  pub leads : place + reach i < length code
  pub receives : is_receive i ≡ true → past code place < length code
  pub inner : is_receive i ≡ true → (q : ℕ) (j : Instr) → place < q → q < past code place → slice_get code q ≡ Some j → (is_plain j ≡ true) × (q + reach j < past code place)
  pub enters : (r : ℕ) (j : Instr) → slice_get code r ≡ Some j → is_receive j ≡ true → place < r → r < place + reach i → past code r ≤ place + reach i
  pub backs : is_back i ≡ true → HasReceive code place

module _ (x : Instr) (code : List Instr) (p : ℕ) (i : Instr) (h : Here code p i) where
  inner_cons : is_receive i ≡ true → (q : ℕ) (j : Instr) → suc p < q → q < past (x ∷ code) (suc p) → slice_get (x ∷ code) q ≡ Some j → (is_plain j ≡ true) × (q + reach j < past (x ∷ code) (suc p))
  inner_cons r zero j after before e = absurd (omega arith)
  inner_cons r (suc q) j after before e =
      let found = h.inner r q j (omega arith) (omega (arith, past_suc x code p)) e in
      (found.0, omega (arith, found.1, past_suc x code p))

  enters_cons : (r : ℕ) (j : Instr) → slice_get (x ∷ code) r ≡ Some j → is_receive j ≡ true → suc p < r → r < suc p + reach i → past (x ∷ code) r ≤ suc p + reach i
  enters_cons zero j e is after before = absurd (omega arith)
  enters_cons (suc r) j e is after before = omega (arith, past_suc x code r, h.enters r j e is (omega arith) (omega arith))

  backs_cons : is_back i ≡ true → HasReceive (x ∷ code) (suc p)
  backs_cons b =
      let has = h.backs b in
      record {
        receive = suc has.receive;
        stands = record { instr = has.stands.instr; here = record { here = has.stands.here.here }; receives = has.stands.receives };
        around = record { after = omega (arith, has.around.after); before = omega (arith, has.around.before, past_suc x code has.receive) };
      }

  here_cons : Here (x ∷ code) (suc p) i
  here_cons = record {
    parts = h.parts;
    leads = omega (arith, h.leads);
    receives = λ r. omega (arith, past_suc x code p, h.receives r);
    inner = inner_cons;
    enters = enters_cons;
    backs = backs_cons;
  }

here_shift : (xs code : List Instr) (p k : ℕ) (i : Instr) → k ≡ length xs + p → Here code p i → Here (xs ++ code) k i
here_shift [] code p k i e h = let same : p ≡ k = omega arith in subst (λ (n : ℕ). Here code n i) same h
here_shift (x ∷ xs) code p zero i e h = absurd (omega arith)
here_shift (x ∷ xs) code p (suc k) i e h = here_cons x (xs ++ code) k i (here_shift xs code p k i (omega arith) h)

-- ---- the acts of a body

-- an act, with no word on jumps
abbrev pub IsShaped : Act → Type 0
IsShaped (plain i) = is_act i ≡ true
IsShaped (receiving i hs) = IsReceiving i hs

abbrev pub AreShaped : List Act → Type 0
AreShaped acts = AllByRecursion IsShaped acts

act_shaped : (body : Body) (a : Act) (rest : List Act) → IsAct body a rest → IsShaped a
act_shaped body (plain i) rest h = h.act
act_shaped body (receiving i hs) rest h = h

acts_shaped : (body : Body) (acts : List Act) → AreActs body acts → AreShaped acts
acts_shaped body [] h = tt
acts_shaped body (a ∷ rest) h = (act_shaped body a rest h.0, acts_shaped body rest h.1)

take_shaped : (n : ℕ) (acts : List Act) → AreShaped acts → AreShaped (take n acts)
take_shaped zero acts h = tt
take_shaped (suc n) [] h = tt
take_shaped (suc n) (a ∷ rest) h = (h.0, take_shaped n rest h.1)

drop_shaped : (n : ℕ) (acts : List Act) → AreShaped acts → AreShaped (drop n acts)
drop_shaped zero acts h = h
drop_shaped (suc n) [] h = tt
drop_shaped (suc n) (a ∷ rest) h = drop_shaped n rest h.1

code_split : (n : ℕ) (acts : List Act) → acts_code (take n acts) ++ acts_code (drop n acts) ≡ acts_code acts
code_split zero acts = refl
code_split (suc n) [] = refl
code_split (suc n) (a ∷ rest) = append_assoc (act_code a) (acts_code (take n rest)) (acts_code (drop n rest)) ∙ ap (λ l. act_code a ++ l) (code_split n rest)

begins_acts : (acts : List Act) (back : List Instr) → AreShaped acts → begins_case back ≡ false → begins_case (acts_code acts ++ back) ≡ false
begins_acts [] back h e = e
begins_acts (plain i ∷ rest) back h e = act_no_case i h.0
begins_acts (receiving i hs ∷ rest) back h e = receive_no_case i h.0.receive

-- the list that begins with a receive
module _ (i : Instr) (hs : List Handler) (rest : List Act) (back : List Instr) (shaped : IsReceiving i hs) (more : AreShaped rest) (ends : begins_case back ≡ false) where
  tail_is : (handlers_code hs ++ acts_code rest) ++ back ≡ handlers_code hs ++ (acts_code rest ++ back)
  tail_is = append_assoc (handlers_code hs) (acts_code rest) back

  past_receive : past (i ∷ ((handlers_code hs ++ acts_code rest) ++ back)) 0 ≡ 1 + length (handlers_code hs)
  past_receive =
      let width : handlers_length false (handlers_code hs ++ (acts_code rest ++ back)) ≡ length (handlers_code hs) = handlers_width (cases_of i) hs (acts_code rest ++ back) shaped.each (begins_acts rest back more ends) in
      rw tail_is (omega (arith, width))

  -- what stands in its handlers
  within_handlers : (k : ℕ) (j : Instr) → k < length (handlers_code hs) → slice_get ((handlers_code hs ++ acts_code rest) ++ back) k ≡ Some j → IsInner j k (length (handlers_code hs))
  within_handlers k j l e =
      let e2 : slice_get (handlers_code hs ++ (acts_code rest ++ back)) k ≡ Some j = rw tail_is at e in
      handlers_inner (cases_of i) hs k j shaped.each (sym (get_left (handlers_code hs) (acts_code rest ++ back) k l) ∙ e2)

  after_handlers : (k : ℕ) (j : Instr) → length (handlers_code hs) ≤ k → slice_get ((handlers_code hs ++ acts_code rest) ++ back) k ≡ Some j → IsFurther (handlers_code hs) (acts_code rest ++ back) k j
  after_handlers k j l e =
      let e2 : slice_get (handlers_code hs ++ (acts_code rest ++ back)) k ≡ Some j = rw tail_is at e in
      get_right (handlers_code hs) (acts_code rest ++ back) k j l e2

-- the handlers of a receive end with the acts
receive_within : (acts : List Act) (back : List Instr) (r : ℕ) (j : Instr) → AreShaped acts → begins_case back ≡ false → slice_get (acts_code acts ++ back) r ≡ Some j → is_receive j ≡ true → r < length (acts_code acts) → past (acts_code acts ++ back) r ≤ length (acts_code acts)
receive_within [] back r j shaped ends e is l = absurd (omega arith)
receive_within (plain i ∷ rest) back zero j shaped ends e is l =
    let same : i ≡ j = cc in
    absurd (act_no_receive i shaped.0 (ap is_receive same ∙ is))
receive_within (plain i ∷ rest) back (suc r) j shaped ends e is l =
    omega (arith, past_suc i (acts_code rest ++ back) r, receive_within rest back r j shaped.1 ends e is (omega arith))
receive_within (receiving i hs ∷ rest) back zero j shaped ends e is l =
    omega (arith, past_receive i hs rest back shaped.0 shaped.1 ends, length-append (handlers_code hs) (acts_code rest))
receive_within (receiving i hs ∷ rest) back (suc r) j shaped ends e is l =
    ⊎_elim
    (λ (near : r < length (handlers_code hs)).
    let inner = within_handlers i hs rest back shaped.0 shaped.1 ends r j near e in
    absurd (plain_no_receive j inner.plain is))
    (λ (far : length (handlers_code hs) ≤ r).
    let further = after_handlers i hs rest back shaped.0 shaped.1 ends r j far e in
    let long : length (handlers_code hs ++ acts_code rest) ≡ length (handlers_code hs) + length (acts_code rest) = length-append (handlers_code hs) (acts_code rest) in
    let inside : past (acts_code rest ++ back) further.rest ≤ length (acts_code rest) = receive_within rest back further.rest j shaped.1 ends further.here is (omega (arith, l, long, further.sum)) in
    let at : past ((handlers_code hs ++ acts_code rest) ++ back) r ≡ length (handlers_code hs) + past (acts_code rest ++ back) further.rest =
    ap (λ (x : List Instr). past x r) (tail_is i hs rest back shaped.0 shaped.1 ends) ∙ past_at (handlers_code hs) (acts_code rest ++ back) r further.rest further.sum in
    omega (arith, past_suc i ((handlers_code hs ++ acts_code rest) ++ back) r, at, inside, long))
    (cases_lt r (length (handlers_code hs)))

-- a jump over whole acts enters no handler
jump_enters : (count : ℕ) (rest : List Act) (back : List Instr) (r : ℕ) (j : Instr) → AreShaped rest → begins_case back ≡ false → PassesOver count rest → slice_get (acts_code rest ++ back) r ≡ Some j → is_receive j ≡ true → r < count → past (acts_code rest ++ back) r ≤ count
jump_enters count rest back r j shaped ends passes e is l =
    let split : acts_code rest ++ back ≡ acts_code (take passes.acts rest) ++ (acts_code (drop passes.acts rest) ++ back) =
    ap (λ x. x ++ back) (sym (code_split passes.acts rest)) ∙ append_assoc (acts_code (take passes.acts rest)) (acts_code (drop passes.acts rest)) back in
    let e2 : slice_get (acts_code (take passes.acts rest) ++ (acts_code (drop passes.acts rest) ++ back)) r ≡ Some j = rw split at e in
    let within : past (acts_code (take passes.acts rest) ++ (acts_code (drop passes.acts rest) ++ back)) r ≤ length (acts_code (take passes.acts rest)) =
    receive_within (take passes.acts rest) (acts_code (drop passes.acts rest) ++ back) r j (take_shaped passes.acts rest shaped) (begins_acts (drop passes.acts rest) back (drop_shaped passes.acts rest shaped) ends) e2 is (omega (arith, l, passes.width)) in
    rw split (omega (arith, within, passes.width))

jump_within : (count : ℕ) (rest : List Act) → PassesOver count rest → count ≤ length (acts_code rest)
jump_within count rest passes =
    let long : length (acts_code (take passes.acts rest) ++ acts_code (drop passes.acts rest)) ≡ length (acts_code (take passes.acts rest)) + length (acts_code (drop passes.acts rest)) = length-append (acts_code (take passes.acts rest)) (acts_code (drop passes.acts rest)) in
    let same : length (acts_code (take passes.acts rest) ++ acts_code (drop passes.acts rest)) ≡ length (acts_code rest) = ap (λ (l : List Instr). length l) (code_split passes.acts rest) in
    omega (arith, passes.width, long, same)

-- a plain act at the head
module _ (body : Body) (i : Instr) (rest : List Act) (back : List Instr) (act : IsPlainAct body i rest) (more : AreShaped rest) (ends : begins_case back ≡ false) (room : 0 < length back) where
  enters_plain : (r : ℕ) (j : Instr) → slice_get (i ∷ (acts_code rest ++ back)) r ≡ Some j → is_receive j ≡ true → 0 < r → r < 0 + reach i → past (i ∷ (acts_code rest ++ back)) r ≤ 0 + reach i
  enters_plain zero j e is after before = absurd (omega arith)
  enters_plain (suc r) j e is after before =
      omega (arith, past_suc i (acts_code rest ++ back) r, act_reach i act.act, jump_enters (jump i) rest back r j more ends act.jumps e is (omega (arith, before, act_reach i act.act)))

  here_plain : Here (i ∷ (acts_code rest ++ back)) 0 i
  here_plain = record {
    parts = act.parts;
    leads = omega (arith, act_reach i act.act, jump_within (jump i) rest act.jumps, length-append (acts_code rest) back);
    receives = λ r. absurd (act_no_receive i act.act r);
    inner = λ r q j after before e. absurd (act_no_receive i act.act r);
    enters = enters_plain;
    backs = λ b. let no : is_back i ≡ false = act_no_back i act.act in absurd cc;
  }

-- a receive at the head, and what stands in its handlers
module _ (i : Instr) (hs : List Handler) (rest : List Act) (back : List Instr) (shaped : IsReceiving i hs) (more : AreShaped rest) (ends : begins_case back ≡ false) (room : 0 < length back) where
  long_is : length ((handlers_code hs ++ acts_code rest) ++ back) ≡ length (handlers_code hs) + length (acts_code rest) + length back
  long_is = omega (arith, length-append (handlers_code hs ++ acts_code rest) back, length-append (handlers_code hs) (acts_code rest))

  inner_receive : (q : ℕ) (j : Instr) → 0 < q → q < past (i ∷ ((handlers_code hs ++ acts_code rest) ++ back)) 0 → slice_get (i ∷ ((handlers_code hs ++ acts_code rest) ++ back)) q ≡ Some j → (is_plain j ≡ true) × (q + reach j < past (i ∷ ((handlers_code hs ++ acts_code rest) ++ back)) 0)
  inner_receive zero j after before e = absurd (omega arith)
  inner_receive (suc q) j after before e =
      let inner = within_handlers i hs rest back shaped more ends q j (omega (arith, before, past_receive i hs rest back shaped more ends)) e in
      (inner.plain, omega (arith, inner.leads, past_receive i hs rest back shaped more ends))

  here_receive : Here (i ∷ ((handlers_code hs ++ acts_code rest) ++ back)) 0 i
  here_receive = record {
    parts = shaped.parts;
    leads = omega (arith, receive_reach i shaped.receive);
    receives = λ r. omega (arith, past_receive i hs rest back shaped more ends, long_is, room);
    inner = λ r q j after before e. inner_receive q j after before e;
    enters = λ r j e is after before. absurd (omega (arith, before, receive_reach i shaped.receive));
    backs = λ b. let no : is_back i ≡ false = receive_no_back i shaped.receive in absurd cc;
  }

  enters_handler : (q : ℕ) (k : Instr) → IsInner k q (length (handlers_code hs)) → (r : ℕ) (j : Instr) → slice_get (i ∷ ((handlers_code hs ++ acts_code rest) ++ back)) r ≡ Some j → is_receive j ≡ true → suc q < r → r < suc q + reach k → ⊥
  enters_handler q k inner zero j e is after before = omega arith
  enters_handler q k inner (suc r) j e is after before =
      let other = within_handlers i hs rest back shaped more ends r j (omega (arith, before, inner.leads)) e in
      plain_no_receive j other.plain is

  here_handler : (q : ℕ) (j : Instr) → q < length (handlers_code hs) → slice_get ((handlers_code hs ++ acts_code rest) ++ back) q ≡ Some j → Here (i ∷ ((handlers_code hs ++ acts_code rest) ++ back)) (suc q) j
  here_handler q j l e =
      let inner = within_handlers i hs rest back shaped more ends q j l e in
      record {
        parts = inner.parts;
        leads = omega (arith, inner.leads, long_is);
        receives = λ r. absurd (plain_no_receive j inner.plain r);
        inner = λ r p k after before x. absurd (plain_no_receive j inner.plain r);
        enters = λ r k x is after before. absurd (enters_handler q j inner r k x is after before);
        backs = λ b. record {
          receive = 0;
          stands = record { instr = i; here = record { here = refl }; receives = shaped.receive };
          around = record { after = omega arith; before = omega (arith, l, past_receive i hs rest back shaped more ends) };
        };
      }

-- each instruction of a body's acts
here_acts : (body : Body) (acts : List Act) (back : List Instr) (p : ℕ) (i : Instr) → AreActs body acts → begins_case back ≡ false → 0 < length back → p < length (acts_code acts) → slice_get (acts_code acts ++ back) p ≡ Some i → Here (acts_code acts ++ back) p i
here_acts body [] back p i are ends room l e = absurd (omega arith)
here_acts body (plain j ∷ rest) back zero i are ends room l e =
    let same : j ≡ i = cc in
    subst (λ (x : Instr). Here (j ∷ (acts_code rest ++ back)) 0 x) same (here_plain body j rest back are.0 (acts_shaped body rest are.1) ends room)
here_acts body (plain j ∷ rest) back (suc p) i are ends room l e =
    here_cons j (acts_code rest ++ back) p i (here_acts body rest back p i are.1 ends room (omega arith) e)
here_acts body (receiving j hs ∷ rest) back zero i are ends room l e =
    let same : j ≡ i = cc in
    subst (λ (x : Instr). Here (j ∷ ((handlers_code hs ++ acts_code rest) ++ back)) 0 x) same (here_receive j hs rest back are.0 (acts_shaped body rest are.1) ends room)
here_acts body (receiving j hs ∷ rest) back (suc p) i are ends room l e =
    ⊎_elim
    (λ (near : p < length (handlers_code hs)). here_handler j hs rest back are.0 (acts_shaped body rest are.1) ends room p i near e)
    (λ (far : length (handlers_code hs) ≤ p).
    let further = after_handlers j hs rest back are.0 (acts_shaped body rest are.1) ends p i far e in
    let next : Here (acts_code rest ++ back) further.rest i = here_acts body rest back further.rest i are.1 ends room (omega (arith, l, length-append (handlers_code hs) (acts_code rest), further.sum)) further.here in
    let shifted : Here (handlers_code hs ++ (acts_code rest ++ back)) p i = here_shift (handlers_code hs) (acts_code rest ++ back) further.rest p i further.sum next in
    let same : handlers_code hs ++ (acts_code rest ++ back) ≡ (handlers_code hs ++ acts_code rest) ++ back = sym (tail_is j hs rest back are.0 (acts_shaped body rest are.1) ends) in
    here_cons j ((handlers_code hs ++ acts_code rest) ++ back) p i (subst (λ (c : List Instr). Here c p i) same shifted))
    (cases_lt p (length (handlers_code hs)))

-- ---- the whole code

here_end : (body : Body) (code : List Instr) → Here (instr.End body ∷ code) 0 (instr.End body)
here_end body code = record {
  parts = tt;
  leads = omega arith;
  receives = λ r. absurd cc;
  inner = λ r q j after before e. absurd cc;
  enters = λ r j e is after before. absurd (omega arith);
  backs = λ b. absurd cc;
}

here_after : (body : Body) (rest : List WholeBody) (p : ℕ) (i : Instr) → ((q : ℕ) → slice_get (flatten rest) q ≡ Some i → Here (flatten rest) q i) → slice_get (instr.End body ∷ flatten rest) p ≡ Some i → Here (instr.End body ∷ flatten rest) p i
here_after body rest zero i more e =
    let same : instr.End body ≡ i = cc in
    subst (λ (x : Instr). Here (instr.End body ∷ flatten rest) 0 x) same (here_end body (flatten rest))
here_after body rest (suc p) i more e = here_cons (instr.End body) (flatten rest) p i (more p e)

here_parts : (parts : List WholeBody) (p : ℕ) (i : Instr) → AllByRecursion IsWholeBody parts → slice_get (flatten parts) p ≡ Some i → Here (flatten parts) p i
here_parts [] p i each e = absurd cc
here_parts (part ∷ rest) p i each e =
    ⊎_elim
    (λ (near : p < length (acts_code part.acts)). here_acts part.body part.acts (instr.End part.body ∷ flatten rest) p i each.0 refl (omega arith) near e)
    (λ (far : length (acts_code part.acts) ≤ p).
    let further = get_right (acts_code part.acts) (instr.End part.body ∷ flatten rest) p i far e in
    here_shift (acts_code part.acts) (instr.End part.body ∷ flatten rest) further.rest p i further.sum (here_after part.body rest further.rest i (λ q x. here_parts rest q i each.1 x) further.here))
    (cases_lt p (length (acts_code part.acts)))

module _ (code : List Instr) (is_code : IsCode code) where
  here_at : (p : ℕ) (i : Instr) → IsAt code p i → Here code p i
  here_at p i at =
      let e : slice_get (flatten is_code.made_of) p ≡ Some i = rw is_code.same at at.here in
      rw is_code.same (here_parts is_code.made_of p i is_code.each e)

  -- each place of a code keeps what a turn needs
  pub places-code : HasPlaces code
  places-code = record {
    few = is_code.few;
    parts = λ p i at. (here_at p i at).parts;
    leads = λ p i at. (here_at p i at).leads;
    receives = λ r at. (here_at r at.instr at.here).receives at.receives;
    plain = λ r p i at in_it here. ((here_at r at.instr at.here).inner at.receives p i in_it.after in_it.before here.here).0;
    stays = λ r p i at in_it here. ((here_at r at.instr at.here).inner at.receives p i in_it.after in_it.before here.here).1;
    enters_none = λ r p i at before here into. (here_at p i here).enters r at.instr at.here.here at.receives before into;
    backs = λ p i here b. (here_at p i here).backs b;
  }
