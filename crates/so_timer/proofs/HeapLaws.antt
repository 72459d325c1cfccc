-- The order of the heap, over a function of places.
use Rattle.std.proofs.Common.{◌≡◌, ℕ, ◌+◌, ◌<◌, ◌≤◌, List, take, length, arith, sym, ◌∙◌, ap, subst, inl, inr, ◌≢◌}
use Rattle.std.specs.Prelude.{◌⊎◌, slice_set}
use Rattle.std.proofs.lemmas.Bool.{cases_eq}
use Rattle.std.proofs.lemmas.List.{length-set, get_or-set_same, get_or-set_other, get_or-take, length-take-le}
use Rattle.so_timer.specs.declared.heap.Due.{Due}
use Rattle.so_timer.specs.Heap.{rank, rank_at, due_at, no_due, IsHeap, IsHeapBut, IsAbove, IsBelow, IsPlaced, IsMoved, IsIn, IsOther, IsTakenOut}

-- g is f with two places exchanged
pub record Exchanged (f g : ℕ → ℕ) (i j : ℕ) : Type 0 where
  pub first : g i ≡ f j
  pub second : g j ≡ f i
  pub others : (k : ℕ) → k ≢ i → k ≢ j → g k ≡ f k

raised_edge : (f g : ℕ → ℕ) (n i p q k : ℕ) → IsHeapBut f n i → IsBelow p i → i < n → f i < f p → Exchanged f g i p → IsBelow q k → k < n → q ≢ p → k ≢ p →
    (q ≡ i) ⊎ (q ≢ i) → (k ≡ i) ⊎ (k ≢ i) → g q ≤ g k
raised_edge f g n i p q k h b w l s e kw qp kp (inl at) (inl here) = omega (arith, e.first)
raised_edge f g n i p q k h b w l s e kw qp kp (inl at) (inr other) =
    let below : IsBelow i k = let P : ℕ → Type 0 = λ x. IsBelow x k in subst P at e in
    let one : g q ≡ f p = ap g at ∙ s.first in
    let two : g k ≡ f k = s.others k other kp in
    let le : f p ≤ f k = h.over p k b below kw in omega arith
raised_edge f g n i p q k h b w l s e kw qp kp (inr other) (inl here) = absurd (qp (omega (arith, e.first, e.last, b.first, b.last)))
raised_edge f g n i p q k h b w l s e kw qp kp (inr at) (inr here) =
    let one : g q ≡ f q = s.others q at qp in
    let two : g k ≡ f k = s.others k here kp in
    let le : f q ≤ f k = h.edges q k e kw at here in omega arith

raised_over : (f g : ℕ → ℕ) (n i p q k : ℕ) → IsHeapBut f n i → IsBelow p i → i < n → f i < f p → Exchanged f g i p → IsBelow q p → IsBelow p k → k < n →
    (k ≡ i) ⊎ (k ≢ i) → g q ≤ g k
raised_over f g n i p q k h b w l s a e kw (inl here) =
    let qi : q ≢ i = λ x. omega (arith, a.first, b.first) in
    let qp : q ≢ p = λ x. omega (arith, a.first) in
    let pi : p ≢ i = λ x. omega (arith, b.first) in
    let one : g q ≡ f q = s.others q qi qp in
    let two : g k ≡ f p = ap g here ∙ s.first in
    let le : f q ≤ f p = h.edges q p a (omega (arith, b.first)) qi pi in omega arith
raised_over f g n i p q k h b w l s a e kw (inr other) =
    let qi : q ≢ i = λ x. omega (arith, a.first, b.first) in
    let qp : q ≢ p = λ x. omega (arith, a.first) in
    let pi : p ≢ i = λ x. omega (arith, b.first) in
    let kp : k ≢ p = λ x. omega (arith, e.first) in
    let one : g q ≡ f q = s.others q qi qp in
    let two : g k ≡ f k = s.others k other kp in
    let le : f q ≤ f p = h.edges q p a (omega (arith, b.first)) qi pi in
    let more : f p ≤ f k = h.edges p k e kw pi other in omega arith

-- one step up
pub raised : (f g : ℕ → ℕ) (n i p : ℕ) → IsHeapBut f n i → IsBelow p i → i < n → f i < f p → Exchanged f g i p → IsHeapBut g n p
raised f g n i p h b w l s = record {
  edges = λ q k e kw qp kp. raised_edge f g n i p q k h b w l s e kw qp kp (cases_eq q i) (cases_eq k i);
  over = λ q k a e kw. raised_over f g n i p q k h b w l s a e kw (cases_eq k i);
}

-- one step down, to the lesser of those below
pub record IsLeastBelow (f : ℕ → ℕ) (n i c : ℕ) : Type 0 where
  pub below : IsBelow i c
  pub within : c < n
  pub least : (k : ℕ) → IsBelow i k → k < n → f c ≤ f k

lowered_edge : (f g : ℕ → ℕ) (n i c q k : ℕ) → IsHeapBut f n i → IsLeastBelow f n i c → Exchanged f g i c → IsBelow q k → k < n → q ≢ c → k ≢ c →
    (q ≡ i) ⊎ (q ≢ i) → (k ≡ i) ⊎ (k ≢ i) → g q ≤ g k
lowered_edge f g n i c q k h b s e kw qc kc (inl at) (inl here) = omega (arith, e.first)
lowered_edge f g n i c q k h b s e kw qc kc (inl at) (inr other) =
    let below : IsBelow i k = let P : ℕ → Type 0 = λ x. IsBelow x k in subst P at e in
    let one : g q ≡ f c = ap g at ∙ s.first in
    let two : g k ≡ f k = s.others k other kc in
    let le : f c ≤ f k = b.least k below kw in omega arith
lowered_edge f g n i c q k h b s e kw qc kc (inr other) (inl here) =
    let above : IsBelow q i = let P : ℕ → Type 0 = λ x. IsBelow q x in subst P here e in
    let one : g q ≡ f q = s.others q other qc in
    let two : g k ≡ f c = ap g here ∙ s.first in
    let le : f q ≤ f c = h.over q c above b.below b.within in omega arith
lowered_edge f g n i c q k h b s e kw qc kc (inr at) (inr here) =
    let one : g q ≡ f q = s.others q at qc in
    let two : g k ≡ f k = s.others k here kc in
    let le : f q ≤ f k = h.edges q k e kw at here in omega arith

lowered_over : (f g : ℕ → ℕ) (n i c q k : ℕ) → IsHeapBut f n i → IsLeastBelow f n i c → Exchanged f g i c → IsBelow q c → IsBelow c k → k < n → g q ≤ g k
lowered_over f g n i c q k h b s a e kw =
    let same : q ≡ i = omega (arith, a.first, a.last, b.below.first, b.below.last) in
    let ki : k ≢ i = λ x. omega (arith, e.first, b.below.first) in
    let kc : k ≢ c = λ x. omega (arith, e.first) in
    let ci : c ≢ i = λ x. omega (arith, b.below.first) in
    let one : g q ≡ f c = ap g same ∙ s.first in
    let two : g k ≡ f k = s.others k ki kc in
    let le : f c ≤ f k = h.edges c k e kw ci ki in omega arith

pub lowered : (f g : ℕ → ℕ) (n i c : ℕ) → IsHeapBut f n i → IsLeastBelow f n i c → Exchanged f g i c → IsHeapBut g n c
lowered f g n i c h b s = record {
  edges = λ q k e kw qc kc. lowered_edge f g n i c q k h b s e kw qc kc (cases_eq q i) (cases_eq k i);
  over = λ q k a e kw. lowered_over f g n i c q k h b s a e kw;
}

pub lowered_above : (f g : ℕ → ℕ) (n i c : ℕ) → IsLeastBelow f n i c → f c < f i → Exchanged f g i c → IsAbove g c
lowered_above f g n i c b l s = record {
  edge = λ q a.
      let same : q ≡ i = omega (arith, a.first, a.last, b.below.first, b.below.last) in
      let one : g q ≡ f c = ap g same ∙ s.first in
      let two : g c ≡ f i = s.second in omega arith;
}

-- the place itself is in order too
settled_edge : (f : ℕ → ℕ) (n i p k : ℕ) → IsHeapBut f n i → IsAbove f i → ((k : ℕ) → IsBelow i k → k < n → f i ≤ f k) → IsBelow p k → k < n →
    (p ≡ i) ⊎ (p ≢ i) → (k ≡ i) ⊎ (k ≢ i) → f p ≤ f k
settled_edge f n i p k h a l e kw (inl at) here = let P : ℕ → Type 0 = λ x. IsBelow x k in rw at (l k (subst P at e) kw)
settled_edge f n i p k h a l e kw (inr at) (inl here) = let P : ℕ → Type 0 = λ x. IsBelow p x in rw here (a.edge p (subst P here e))
settled_edge f n i p k h a l e kw (inr at) (inr here) = h.edges p k e kw at here

pub settled : (f : ℕ → ℕ) (n i : ℕ) → IsHeapBut f n i → IsAbove f i → ((k : ℕ) → IsBelow i k → k < n → f i ≤ f k) → IsHeap f n
settled f n i h a l = record { edges = λ p k e kw. settled_edge f n i p k h a l e kw (cases_eq p i) (cases_eq k i) }

-- what an exchange leaves
exchange_first : (h : List Due) (i j : ℕ) → i ≢ j → i < length h → j < length h → due_at (slice_set (slice_set h i (due_at h j)) j (due_at h i)) i ≡ due_at h j
exchange_first h i j d il jl = get_or-set_other (slice_set h i (due_at h j)) j i (due_at h i) no_due d ∙ get_or-set_same h i (due_at h j) no_due il

exchange_second : (h : List Due) (i j : ℕ) → i ≢ j → i < length h → j < length h → due_at (slice_set (slice_set h i (due_at h j)) j (due_at h i)) j ≡ due_at h i
exchange_second h i j d il jl = get_or-set_same (slice_set h i (due_at h j)) j (due_at h i) no_due (rw (length-set h i (due_at h j)) jl)

exchange_other : (h : List Due) (i j k : ℕ) → k ≢ i → k ≢ j → due_at (slice_set (slice_set h i (due_at h j)) j (due_at h i)) k ≡ due_at h k
exchange_other h i j k ki kj = get_or-set_other (slice_set h i (due_at h j)) j k (due_at h i) no_due kj ∙ get_or-set_other h i k (due_at h j) no_due ki

pub exchanged : (h : List Due) (i j : ℕ) → i ≢ j → i < length h → j < length h → Exchanged (rank_at h) (rank_at (slice_set (slice_set h i (due_at h j)) j (due_at h i))) i j
exchanged h i j d il jl = record {
  first = ap rank (exchange_first h i j d il jl);
  second = ap rank (exchange_second h i j d il jl);
  others = λ k ki kj. ap rank (exchange_other h i j k ki kj);
}

exchange_len : (h : List Due) (i j : ℕ) (a b : Due) → length (slice_set (slice_set h i a) j b) ≡ length h
exchange_len h i j a b = length-set (slice_set h i a) j b ∙ length-set h i a

pub moved_trans : (a b c : List Due) → IsMoved a b → IsMoved b c → IsMoved a c
moved_trans a b c p q = record {
  len = q.len ∙ p.len;
  kept = λ i l. let m = p.kept i l in let n = q.kept m.place m.within in record { place = n.place; within = n.within; here = n.here ∙ m.here };
  found = λ i l. let m = q.found i l in let n = p.found m.place m.within in record { place = n.place; within = n.within; here = n.here ∙ m.here };
}

kept_exchange : (h : List Due) (i j k : ℕ) → i ≢ j → i < length h → j < length h → k < length h → (k ≡ i) ⊎ (k ≢ i) → (k ≡ j) ⊎ (k ≢ j) → IsIn (slice_set (slice_set h i (due_at h j)) j (due_at h i)) (due_at h k)
kept_exchange h i j k d il jl kl (inl e) other =
    record { place = j; within = rw (exchange_len h i j (due_at h j) (due_at h i)) jl; here = exchange_second h i j d il jl ∙ ap (due_at h) (sym e) }
kept_exchange h i j k d il jl kl (inr n) (inl e) =
    record { place = i; within = rw (exchange_len h i j (due_at h j) (due_at h i)) il; here = exchange_first h i j d il jl ∙ ap (due_at h) (sym e) }
kept_exchange h i j k d il jl kl (inr n) (inr m) =
    record { place = k; within = rw (exchange_len h i j (due_at h j) (due_at h i)) kl; here = exchange_other h i j k n m }

found_exchange : (h : List Due) (i j k : ℕ) → i ≢ j → i < length h → j < length h → k < length h → (k ≡ i) ⊎ (k ≢ i) → (k ≡ j) ⊎ (k ≢ j) → IsIn h (due_at (slice_set (slice_set h i (due_at h j)) j (due_at h i)) k)
found_exchange h i j k d il jl kl (inl e) other =
    record { place = j; within = jl; here = sym (ap (due_at (slice_set (slice_set h i (due_at h j)) j (due_at h i))) e ∙ exchange_first h i j d il jl) }
found_exchange h i j k d il jl kl (inr n) (inl e) =
    record { place = i; within = il; here = sym (ap (due_at (slice_set (slice_set h i (due_at h j)) j (due_at h i))) e ∙ exchange_second h i j d il jl) }
found_exchange h i j k d il jl kl (inr n) (inr m) =
    record { place = k; within = kl; here = sym (exchange_other h i j k n m) }

pub moved_exchange : (h : List Due) (i j : ℕ) → i ≢ j → i < length h → j < length h → IsMoved h (slice_set (slice_set h i (due_at h j)) j (due_at h i))
moved_exchange h i j d il jl = record {
  len = exchange_len h i j (due_at h j) (due_at h i);
  kept = λ k l. kept_exchange h i j k d il jl l (cases_eq k i) (cases_eq k j);
  found = λ k l. found_exchange h i j k d il jl (rw (← exchange_len h i j (due_at h j) (due_at h i)) l) (cases_eq k i) (cases_eq k j);
}

-- the loops' invariants
pub record IsRaising (was now : List Due) (places : List ℕ) (i : ℕ) : Type 0 where
  pub within : i < length now
  pub but : IsHeapBut (rank_at now) (length now) i
  pub placed : IsPlaced now places
  pub moved : IsMoved was now

pub record IsLowering (was now : List Due) (places : List ℕ) (i : ℕ) : Type 0 where
  pub within : i < length now
  pub but : IsHeapBut (rank_at now) (length now) i
  pub above : IsAbove (rank_at now) i
  pub placed : IsPlaced now places
  pub moved : IsMoved was now

pub raising_more : (was now new : List Due) (places places' : List ℕ) (i p : ℕ) → IsRaising was now places i → IsBelow p i → rank_at now i < rank_at now p →
    new ≡ slice_set (slice_set now i (due_at now p)) p (due_at now i) → IsPlaced new places' → IsRaising was new places' p
raising_more was now new places places' i p r b l e placed =
    let ip : i ≢ p = λ x. omega (arith, b.first) in
    let pl : p < length now = omega (arith, b.first, r.within) in
    let len : length new ≡ length now = ap length e ∙ exchange_len now i p (due_at now p) (due_at now i) in
    let x : Exchanged (rank_at now) (rank_at new) i p = rw e (exchanged now i p ip r.within pl) in
    record {
      within = omega arith;
      but = rw len (raised (rank_at now) (rank_at new) (length now) i p r.but b r.within l x);
      placed = placed;
      moved = rw e (moved_trans was now _ r.moved (moved_exchange now i p ip r.within pl));
    }

pub lowering_more : (was now new : List Due) (places places' : List ℕ) (i c : ℕ) → IsLowering was now places i → IsLeastBelow (rank_at now) (length now) i c → rank_at now c < rank_at now i →
    new ≡ slice_set (slice_set now i (due_at now c)) c (due_at now i) → IsPlaced new places' → IsLowering was new places' c
lowering_more was now new places places' i c r b l e placed =
    let ic : i ≢ c = λ x. omega (arith, b.below.first) in
    let len : length new ≡ length now = ap length e ∙ exchange_len now i c (due_at now c) (due_at now i) in
    let x : Exchanged (rank_at now) (rank_at new) i c = rw e (exchanged now i c ic r.within b.within) in
    record {
      within = omega (arith, b.within);
      but = rw len (lowered (rank_at now) (rank_at new) (length now) i c r.but b x);
      above = lowered_above (rank_at now) (rank_at new) (length now) i c b l x;
      placed = placed;
      moved = rw e (moved_trans was now _ r.moved (moved_exchange now i c ic r.within b.within));
    }

pub settled_by : (f : ℕ → ℕ) (n i c : ℕ) → IsHeapBut f n i → IsAbove f i → IsLeastBelow f n i c → f i ≤ f c → IsHeap f n
settled_by f n i c h a b l = settled f n i h a (λ k e kw. let le : f c ≤ f k = b.least k e kw in omega arith)

-- the last one put at a place, and the rest in order again
kept_taken : (old now new : List Due) (i last k : ℕ) → i < last → last + 1 ≡ length old → now ≡ take last (slice_set (slice_set old i (due_at old last)) last (due_at old i)) → length now ≡ last → IsMoved now new →
    k < length old → k ≢ i → (k ≡ last) ⊎ (k ≢ last) → IsIn new (due_at old k)
kept_taken old now new i last k l len e n m kl ki (inl here) =
    let x = slice_set (slice_set old i (due_at old last)) last (due_at old i) in
    let ne : i ≢ last = λ h. omega arith in
    let one : due_at now i ≡ due_at x i = rw e (get_or-take last x i no_due l) in
    let two : due_at x i ≡ due_at old last = exchange_first old i last ne (omega arith) (omega arith) in
    let r = m.kept i (omega arith) in
    record { place = r.place; within = r.within; here = r.here ∙ one ∙ two ∙ ap (due_at old) (sym here) }
kept_taken old now new i last k l len e n m kl ki (inr other) =
    let x = slice_set (slice_set old i (due_at old last)) last (due_at old i) in
    let below : k < last = omega arith in
    let one : due_at now k ≡ due_at x k = rw e (get_or-take last x k no_due below) in
    let two : due_at x k ≡ due_at old k = exchange_other old i last k ki other in
    let r = m.kept k (omega arith) in
    record { place = r.place; within = r.within; here = r.here ∙ one ∙ two }

found_taken : (old now : List Due) (due : Due) (i last p : ℕ) → i < last → last + 1 ≡ length old → now ≡ take last (slice_set (slice_set old i (due_at old last)) last (due_at old i)) → p < last → due_at now p ≡ due →
    (p ≡ i) ⊎ (p ≢ i) → IsOther old i due
found_taken old now due i last p l len e pl d (inl here) =
    let x = slice_set (slice_set old i (due_at old last)) last (due_at old i) in
    let ne : i ≢ last = λ h. omega arith in
    let one : due_at now p ≡ due_at x p = rw e (get_or-take last x p no_due pl) in
    let two : due_at x i ≡ due_at old last = exchange_first old i last ne (omega arith) (omega arith) in
    let three : due_at x p ≡ due_at x i = ap (due_at x) here in
    record { place = last; within = omega arith; other = λ h. omega arith; here = sym two ∙ sym three ∙ sym one ∙ d }
found_taken old now due i last p l len e pl d (inr other) =
    let x = slice_set (slice_set old i (due_at old last)) last (due_at old i) in
    let last_other : p ≢ last = λ h. omega arith in
    let one : due_at now p ≡ due_at x p = rw e (get_or-take last x p no_due pl) in
    let two : due_at x p ≡ due_at old p = exchange_other old i last p other last_other in
    record { place = p; within = omega arith; other = other; here = sym two ∙ sym one ∙ d }

pub taken_out : (old now new : List Due) (i last : ℕ) → i < last → last + 1 ≡ length old → now ≡ take last (slice_set (slice_set old i (due_at old last)) last (due_at old i)) → IsMoved now new → IsTakenOut old new i
taken_out old now new i last l len e m =
    let x : List Due = slice_set (slice_set old i (due_at old last)) last (due_at old i) in
    let xlen : length x ≡ length old = exchange_len old i last (due_at old last) (due_at old i) in
    let short : last ≤ length x = omega arith in
    let n : length now ≡ last = ap length e ∙ length-take-le last x short in
    record {
      len = omega (arith, m.len);
      kept = λ k kl ki. kept_taken old now new i last k l len e n m kl ki (cases_eq k last);
      found = λ k kl. let r = m.found k kl in let within : r.place < last = omega (arith, r.within) in found_taken old now (due_at new k) i last r.place l len e within r.here (cases_eq r.place i);
    }
