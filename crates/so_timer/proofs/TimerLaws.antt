-- The list of armed timers, after a change of one slot.
use Rattle.std.proofs.Common.{◌≡◌, ℕ, zero, suc, ◌+◌, ◌<◌, ◌≤◌, List, [], ◌∷◌, ◌++◌, length, Bool, true, false, not, cond, Option, Some, None, arith, refl, sym, ◌∙◌, ap, ◌≢◌, add-one}
use Rattle.std.specs.Prelude.{slice_set, nat_eq, option_map, is_some}
use Rattle.std.proofs.lemmas.Bool.{eq-eqb, ne_eqb}
use Rattle.so_timer.specs.declared.timer.Timer.{Timer}
use Rattle.so_timer.specs.declared.timer.Armed.{Armed}
use Rattle.so_timer.specs.Timers.{has_number, timer_of, without, again, fired}
use Rattle.so_timer.specs.Slots.{armed_from, slot_armed, armed_timer, timer_again, slot_at}

-- one more slot at the end
slot_append : (n : ℕ) (o : Option Timer) (xs ys : List Armed) → slot_armed n o (xs ++ ys) ≡ slot_armed n o xs ++ ys
slot_append n None xs ys = refl
slot_append n (Some t) xs ys = refl

pub armed_from-push : (m k : ℕ) (slots : List (Option Timer)) (t : Timer) → k ≡ m + length slots → armed_from m (slots ++ Some t ∷ []) ≡ armed_from m slots ++ armed_timer k t ∷ []
unfolding armed_from
armed_from-push m k [] t e = let same : m ≡ k = omega arith in ap (λ n. armed_timer n t ∷ []) same
armed_from-push m k (o ∷ rest) t e =
    let e' : k ≡ (m + 1) + length rest = omega arith in
    rw (armed_from-push (m + 1) k rest t e') (slot_append m o (armed_from (m + 1) rest) (armed_timer k t ∷ []))

-- a look-up by number
skip_slot : (n m : ℕ) (o : Option Timer) (rest : List Armed) → m ≢ n → timer_of n (slot_armed m o rest) ≡ timer_of n rest
skip_slot n m None rest d = refl
skip_slot n m (Some t) rest d = rw (ne_eqb m n d) refl

late : (n m : ℕ) (slots : List (Option Timer)) → n < m → timer_of n (armed_from m slots) ≡ None
unfolding armed_from
late n m [] l = refl
late n m (o ∷ rest) l = skip_slot n m o (armed_from (m + 1) rest) (λ h. omega arith) ∙ late n (m + 1) rest (omega arith)

here_slot : (n m : ℕ) (o : Option Timer) (rest : List Armed) → m ≡ n → timer_of n rest ≡ None → timer_of n (slot_armed m o rest) ≡ option_map (armed_timer n) o
here_slot n m None rest e h = h
here_slot n m (Some t) rest e h = rw (eq-eqb m n e) (ap (λ k. Some (armed_timer k t)) e)

pub timer_of-at : (n m i : ℕ) (slots : List (Option Timer)) → n ≡ m + i → timer_of n (armed_from m slots) ≡ option_map (armed_timer n) (slot_at slots i)
unfolding armed_from
timer_of-at n m i [] e = refl
timer_of-at n m zero (o ∷ rest) e = here_slot n m o (armed_from (m + 1) rest) (omega arith) (late n (m + 1) rest (omega arith))
timer_of-at n m (suc i) (o ∷ rest) e =
    skip_slot n m o (armed_from (m + 1) rest) (λ h. omega arith) ∙ timer_of-at n (m + 1) i rest (omega arith)

-- without one number
skip_without : (n m : ℕ) (o : Option Timer) (rest : List Armed) → m ≢ n → without n (slot_armed m o rest) ≡ slot_armed m o (without n rest)
skip_without n m None rest d = refl
skip_without n m (Some t) rest d = rw (ne_eqb m n d) refl

without_late : (n m : ℕ) (slots : List (Option Timer)) → n < m → without n (armed_from m slots) ≡ armed_from m slots
unfolding armed_from
without_late n m [] l = refl
without_late n m (o ∷ rest) l = skip_without n m o (armed_from (m + 1) rest) (λ h. omega arith) ∙ ap (slot_armed m o) (without_late n (m + 1) rest (omega arith))

here_without : (n m : ℕ) (o : Option Timer) (rest : List Armed) → m ≡ n → without n (slot_armed m o rest) ≡ without n rest
here_without n m None rest e = refl
here_without n m (Some t) rest e = rw (eq-eqb m n e) refl

pub without-set : (n m i : ℕ) (slots : List (Option Timer)) → n ≡ m + i → armed_from m (slice_set slots i None) ≡ without n (armed_from m slots)
unfolding armed_from
without-set n m i [] e = refl
without-set n m zero (o ∷ rest) e = sym (here_without n m o (armed_from (m + 1) rest) (omega arith) ∙ without_late n (m + 1) rest (omega arith))
without-set n m (suc i) (o ∷ rest) e =
    rw (without-set n (m + 1) i rest (omega arith)) (sym (skip_without n m o (armed_from (m + 1) rest) (λ h. omega arith)))

-- after a fire
skip_fired : (n m : ℕ) (o : Option Timer) (rest : List Armed) → m ≢ n → fired n (slot_armed m o rest) ≡ slot_armed m o (fired n rest)
skip_fired n m None rest d = refl
skip_fired n m (Some t) rest d = rw (ne_eqb m n d) refl

fired_late : (n m : ℕ) (slots : List (Option Timer)) → n < m → fired n (armed_from m slots) ≡ armed_from m slots
unfolding armed_from
fired_late n m [] l = refl
fired_late n m (o ∷ rest) l = skip_fired n m o (armed_from (m + 1) rest) (λ h. omega arith) ∙ ap (slot_armed m o) (fired_late n (m + 1) rest (omega arith))

again_slot : (m : ℕ) (t : Timer) (b : Bool) (rest : List Armed) → nat_eq t.period 0 ≡ b → again (armed_timer m t) rest ≡ slot_armed m (timer_again t) rest
again_slot m t true rest e = rw e refl
again_slot m t false rest e = rw e refl

pub fired-set : (n m i : ℕ) (slots : List (Option Timer)) (t : Timer) → n ≡ m + i → slot_at slots i ≡ Some t → armed_from m (slice_set slots i (timer_again t)) ≡ fired n (armed_from m slots)
unfolding armed_from
fired-set n m i [] t e h = cc
fired-set n m zero (o ∷ rest) t e h =
    rw (h, eq-eqb m n (omega arith), fired_late n (m + 1) rest (omega arith)) (sym (again_slot m t (nat_eq t.period 0) (armed_from (m + 1) rest) refl))
fired-set n m (suc i) (o ∷ rest) t e h =
    rw (fired-set n (m + 1) i rest t (omega arith) h) (sym (skip_fired n m o (armed_from (m + 1) rest) (λ h. omega arith)))

-- how many are armed
slot_length : (m : ℕ) (o : Option Timer) (xs ys : List Armed) (d : ℕ) → length xs + d ≡ length ys → length (slot_armed m o xs) + d ≡ length (slot_armed m o ys)
slot_length m None xs ys d e = e
slot_length m (Some t) xs ys d e = omega arith

pub length-set_none : (m i : ℕ) (slots : List (Option Timer)) (t : Timer) → slot_at slots i ≡ Some t → length (armed_from m (slice_set slots i None)) + 1 ≡ length (armed_from m slots)
unfolding armed_from
length-set_none m i [] t h = cc
length-set_none m zero (o ∷ rest) t h = rw h (add-one (length (armed_from (m + 1) rest)))
length-set_none m (suc i) (o ∷ rest) t h = slot_length m o (armed_from (m + 1) (slice_set rest i None)) (armed_from (m + 1) rest) 1 (length-set_none (m + 1) i rest t h)

pub length-set_some : (m i : ℕ) (slots : List (Option Timer)) (t u : Timer) → slot_at slots i ≡ Some t → length (armed_from m (slice_set slots i (Some u))) ≡ length (armed_from m slots)
unfolding armed_from
length-set_some m i [] t u h = cc
length-set_some m zero (o ∷ rest) t u h = rw h refl
length-set_some m (suc i) (o ∷ rest) t u h =
    let e : length (armed_from (m + 1) (slice_set rest i (Some u))) + 0 ≡ length (armed_from (m + 1) rest) = omega (arith, length-set_some (m + 1) i rest t u h) in
    omega (arith, slot_length m o (armed_from (m + 1) (slice_set rest i (Some u))) (armed_from (m + 1) rest) 0 e)

tail_none : (a : Armed) (b : Bool) (r : Option Armed) → cond b (Some a) r ≡ None → (b ≡ false) × (r ≡ None)
tail_none a true r h = cc
tail_none a false r h = (refl, h)

pub without_none : (n : ℕ) (xs : List Armed) → timer_of n xs ≡ None → without n xs ≡ xs
without_none n [] h = refl
without_none n (a ∷ rest) h =
    let t = tail_none a (has_number n a) (timer_of n rest) h in
    rw (t.0, without_none n rest t.1) refl

-- one fewer
without_more_by : (n : ℕ) (a : Armed) (b : Bool) (ys xs : List Armed) → length ys ≤ length xs → length (cond (not b) (a ∷ ys) ys) ≤ length (a ∷ xs)
without_more_by n a true ys xs l = omega arith
without_more_by n a false ys xs l = omega arith

without_more : (n : ℕ) (xs : List Armed) → length (without n xs) ≤ length xs
without_more n [] = omega arith
without_more n (a ∷ rest) = without_more_by n a (has_number n a) (without n rest) rest (without_more n rest)

without_less_by : (n : ℕ) (a : Armed) (b : Bool) (rest : List Armed) → (is_some (timer_of n rest) ≡ true → length (without n rest) < length rest) → is_some (cond b (Some a) (timer_of n rest)) ≡ true →
    length (cond (not b) (a ∷ without n rest) (without n rest)) < length (a ∷ rest)
without_less_by n a true rest f h = omega (arith, without_more n rest)
without_less_by n a false rest f h = omega (arith, f h)

pub without_less : (n : ℕ) (xs : List Armed) → is_some (timer_of n xs) ≡ true → length (without n xs) < length xs
without_less n [] h = cc
without_less n (a ∷ rest) h = without_less_by n a (has_number n a) rest (without_less n rest) h
