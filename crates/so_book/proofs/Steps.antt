-- Each step on the table of a book keeps its rule.
use Rattle.std.proofs.Common.{◌≡◌, ◌≢◌, ℕ, zero, suc, ◌+◌, ◌^◌, ◌<◌, ◌≤◌, Bool, true, false, ◌||◌, cond, eqb, eq-eqb, ne_eqb, List, [], ◌∷◌, ◌++◌, length, get_or, set, sym, refl, ap, ◌∙◌, subst, inl, inr, ⊎_elim, arith, length-set, length-append, Option, Some, None}
use Rattle.std.proofs.lemmas.Bool.{false≢true, le-leb, lt-leb}
use Rattle.std.proofs.lemmas.List.Elements.{filter-append}
use mathlib.Core.Logic.{dite}
use mathlib.Core.Option.{none, some, some-injective, some-ne-none}
use mathlib.Core.Option as maybe
use native.Mathlib.Decide.{ℕ_discrete}
use lib.ListN.{get_elem?}
use prog.Atomic.{either}
use Rattle.atomic_table.specs.Table.{State, Me, Act, step, keeps, takes, gives, rest, carried_after, Valid, stepped, Allows}
use Rattle.atomic_table.proofs.Lists.{at_set, set_else, set_again}
use Rattle.so_ids.specs.declared.PartyId.{PartyId}
use Rattle.so_book.specs.declared.view.Note.{Note}
use Rattle.so_book.specs.declared.view.Stage.{Stage}
use Rattle.so_book.specs.declared.view.Stage.TheVariants.{Opens, Fills, Free, Waits, Holds, Wrote}
use Rattle.so_book.specs.declared.view.View.{View}
use Rattle.so_book.specs.History.{Began, Extends, signed_by, AddsAtMostOne, OthersAdded}
use Rattle.so_book.specs.Rule.{note, view_of, note_count, total, EachNote, first_note, told, has_slot, has_written, length_word, is_marked, Stands, IsTrueNote, IsHome, IsOut, IsThere, Runs, Kept, drew, Takes, served, looked, wrote, gave}

abbrev pub is_new : Stage → Bool
is_new Opens = true
is_new Fills = true
is_new Free = false
is_new (Waits k) = false
is_new (Holds k) = false
is_new (Wrote k n) = false

abbrev pub ticket_in : Stage → ℕ
ticket_in Opens = 0
ticket_in Fills = 0
ticket_in Free = 0
ticket_in (Waits k) = k
ticket_in (Holds k) = k
ticket_in (Wrote k n) = k

-- the word of a length says whether it is marked
pub mark_of : (n : ℕ) (b : Bool) → n < 2 ^ 32 → is_marked (length_word n b) ≡ b
mark_of n true short = le-leb (2 ^ 32) (2 ^ 32 + n + 1) (omega arith)
mark_of n false short = lt-leb (2 ^ 32) n short

pub marked_word : (n word : ℕ) (b : Bool) → word ≡ length_word n b → b ≡ true → 2 ^ 32 ≤ word
marked_word n word true is m = omega arith
marked_word n word false is m = absurd (false≢true m)

-- a word that was read is marked just where the party knows of it
pub read_mark : (word : ℕ) (b : Bool) → (b ≡ true → 2 ^ 32 ≤ word) → (b ≡ false → word < 2 ^ 32) → is_marked word ≡ b
read_mark word true marks plain = le-leb (2 ^ 32) word (marks refl)
read_mark word false marks plain = lt-leb (2 ^ 32) word (plain refl)

or_true : (b : Bool) → (b || true) ≡ true
or_true true = refl
or_true false = refl

-- the word that a party writes after the word that it found
pub next_word : (before after len : ℕ) (last known : Bool) → (known ≡ true → 2 ^ 32 ≤ before) → (known ≡ false → before < 2 ^ 32) → len < 2 ^ 32 → after ≡ length_word len (last || is_marked before)
    → (is_marked after ≡ (last || known)) × (after ≡ length_word len (is_marked after)) × (known ≡ true → is_marked after ≡ true) × (known ≡ true → 2 ^ 32 ≤ after)
next_word before after len last known marks plain short is =
    let found : is_marked before ≡ known = read_mark before known marks plain in
    let word : after ≡ length_word len (last || known) = is ∙ ap (λ b. length_word len (last || b)) found in
    let mark : is_marked after ≡ (last || known) = ap is_marked word ∙ mark_of len (last || known) short in
    let stay : known ≡ true → (last || known) ≡ true = λ k. ap (λ b. last || b) k ∙ or_true last in
    (mark, word ∙ ap (length_word len) (sym mark), (λ k. mark ∙ stay k), λ k. marked_word len after (last || known) word (stay k))

module _ {A : Type 0} where
  pub only : (a b : A) (i : ℕ) → get_elem? (a ∷ []) i ≡ some b → a ≡ b
  only a b zero e = some-injective a b e
  only a b (suc i) e = absurd (some-ne-none b (sym e))

  pub set_there : (l : List A) (i : ℕ) (a b : A) → get_elem? l i ≡ some a → get_elem? (set l i b) i ≡ some b
  set_there [] i a b e = absurd (some-ne-none a (sym e))
  set_there (x ∷ xs) zero a b e = refl
  set_there (x ∷ xs) (suc i) a b e = set_there xs i a b e

  set_same : (l : List A) (i : ℕ) (a : A) → set l i (get_or l i a) ≡ l
  set_same [] i a = refl
  set_same (x ∷ xs) zero a = refl
  set_same (x ∷ xs) (suc i) a = λ k. x ∷ set_same xs i a k

  one_home : (l : List A) (a : A) → length l ≡ 1 → set l 0 a ≡ a ∷ []
  one_home [] a e = absurd (omega arith)
  one_home (x ∷ []) a e = refl
  one_home (x ∷ y ∷ ys) a e = absurd (omega arith)

  pub each_set : (P : ℕ → A → Type 0) (l : List A) (i : ℕ) (w : A) → P i w → ((j : ℕ) (d : A) → j ≢ i → get_elem? l j ≡ some d → P j d) → (j : ℕ) (d : A) → get_elem? (set l i w) j ≡ some d → P j d
  each_set P l i w here other j d e = ⊎_elim (λ (x : (j ≡ i) × (w ≡ d)). subst (λ (y : ℕ × A). P y.0 y.1) (λ k. (sym x.0 k, x.1 k)) here)
      (λ (x : (j ≢ i) × (get_elem? l j ≡ some d)). other j d x.0 x.1) (at_set l i j w d e)

module _ {E : Type 0} where
  pub each_note : (P Q : Note E → Type 0) → ((y : Note E) → P y → Q y) → (xs : List (Note E)) → EachNote P xs → EachNote Q xs
  each_note P Q f [] t = tt
  each_note P Q f (x ∷ xs) t = (f x t.0, each_note P Q f xs t.1)

  pub total_set : (f : View E → ℕ) (l : List (View E)) (i : ℕ) (v w : View E) → get_elem? l i ≡ some v → total f (set l i w) + f v ≡ total f l + f w
  total_set f [] i v w e = absurd (some-ne-none v (sym e))
  total_set f (x ∷ xs) zero v w e = let is : f x ≡ f v = ap f (some-injective x v e) in omega arith
  total_set f (x ∷ xs) (suc i) v w e = let r = total_set f xs i v w e in omega arith

  -- a seat that does not hold the slot is not the one that does
  pub not_holder : (l : List (View E)) (i j : ℕ) (v d : View E) → get_elem? l i ≡ some v → has_slot v.stage ≡ false → get_elem? l j ≡ some d → has_slot d.stage ≡ true → j ≢ i
  not_holder l i j v d at free at' held e = false≢true (sym free ∙ ap (λ (u : View E). has_slot u.stage) (some-injective v d (sym at ∙ ap (get_elem? l) (sym e) ∙ at')) ∙ held)

module _ {V E : Type 0} (history : V → List E) (signer : E → PartyId) (seats first : ℕ) where
  abbrev pub St : Type 0
  St = State (Option V) (View E)

  abbrev pub H : St → Type 0
  H = Kept history signer seats first

  abbrev pub R : St → Type 0
  R = Runs history signer seats

  pub runs_of : (s : St) → H s → (id : ℕ) (d : View E) → get_elem? s.views id ≡ some d → is_new d.stage ≡ false → R s
  runs_of s (inl r) id d at used = r
  runs_of s (inr (inl o)) id d at used = absurd (false≢true (sym used ∙ sym (ap (λ (u : View E). is_new u.stage) (only _ d id (subst (λ l. get_elem? l id ≡ some d) o.2 at)))))
  runs_of s (inr (inr o)) id d at used = absurd (false≢true (sym used ∙ sym (ap (λ (u : View E). is_new u.stage) (only _ d id (subst (λ l. get_elem? l id ≡ some d) o.2 at)))))

  -- a load that changes no view leaves the table as it was
  unmoved : (s : St) (i id : ℕ) (d : View E) (c : List (ℕ × Option V)) → get_elem? s.views id ≡ some d → stepped s i (get_or s.words i 0) id c d keeps ≡ s
  unmoved s i id d c at = λ k. record { words = set_same s.words i 0 k; homes = s.homes; views = set_again s.views id d at k }

  pub keeps_there : (homes : List (maybe.Option (Option V))) (views : List (View E)) (drawer drawer' : ℕ → ℕ) (away : Bool) (serving len : ℕ) (now : List E) (marked : Bool) (id : ℕ) (v w : View E)
      → get_elem? views id ≡ some v → has_slot v.stage ≡ false → (away ≡ true → drawer' serving ≡ drawer serving)
      → IsThere history signer homes views drawer away serving len now marked → IsThere history signer homes (set views id w) drawer' away serving len now marked
  keeps_there homes views drawer drawer' away serving len now marked id v w at free is (inl t) = inl t
  keeps_there homes views drawer drawer' away serving len now marked id v w at free is (inr t) = let x = t.1.0 in let ne = not_holder views id (drawer serving) v _ at free t.1.2 t.1.3 in
      inr (t.0, (x, t.1.1, ap (get_elem? (set views id w)) (is t.0) ∙ set_else views id (drawer serving) w ne ∙ t.1.2, t.1.3, t.1.4, t.1.5, t.1.6))

  later_stands : (drawer drawer' : ℕ → ℕ) (away : Bool) (serving next len j : ℕ) → ((k : ℕ) → k < next → drawer' k ≡ drawer k) → (g : Stage) → Stands drawer away serving next len j g → Stands drawer' away serving (next + 1) len j g
  later_stands drawer drawer' away serving next len j old Opens x = x
  later_stands drawer drawer' away serving next len j old Fills x = x
  later_stands drawer drawer' away serving next len j old Free x = x
  later_stands drawer drawer' away serving next len j old (Waits k) x = let l = x.2 in (old k l ∙ x.0, x.1, omega arith)
  later_stands drawer drawer' away serving next len j old (Holds k) x = let l = x.2 in (old k l ∙ x.0, x.1, omega arith, x.3)
  later_stands drawer drawer' away serving next len j old (Wrote k n) x = let l = x.2 in (old k l ∙ x.0, x.1, omega arith, x.3, x.4)

  goes_out : (drawer : ℕ → ℕ) (away : Bool) (serving next len j : ℕ) → away ≡ false → (g : Stage) → Stands drawer away serving next len j g → Stands drawer true serving next len j g
  goes_out drawer away serving next len j home Opens x = x
  goes_out drawer away serving next len j home Fills x = x
  goes_out drawer away serving next len j home Free x = x
  goes_out drawer away serving next len j home (Waits k) x = x
  goes_out drawer away serving next len j home (Holds k) x = (x.0, x.1, x.2, refl)
  goes_out drawer away serving next len j home (Wrote k n) x = (x.0, x.1, x.2, refl, x.4)

  -- another seat stays as it was when the seat that has the slot writes the length
  other_stands : (drawer : ℕ → ℕ) (away : Bool) (serving next len len' j id : ℕ) → drawer serving ≡ id → j ≢ id → (g : Stage) → Stands drawer away serving next len j g → Stands drawer away serving next len' j g
  other_stands drawer away serving next len len' j id mine other Opens x = x
  other_stands drawer away serving next len len' j id mine other Fills x = x
  other_stands drawer away serving next len len' j id mine other Free x = x
  other_stands drawer away serving next len len' j id mine other (Waits k) x = x
  other_stands drawer away serving next len len' j id mine other (Holds k) x = x
  other_stands drawer away serving next len len' j id mine other (Wrote k n) x = absurd (other (sym x.0 ∙ ap drawer x.1 ∙ mine))

  stands_below : (drawer : ℕ → ℕ) (away : Bool) (serving next len j : ℕ) (g : Stage) → has_slot g ≡ true → Stands drawer away serving next len j g → serving < next
  stands_below drawer away serving next len j Opens h x = absurd x
  stands_below drawer away serving next len j Fills h x = absurd x
  stands_below drawer away serving next len j Free h x = absurd (false≢true h)
  stands_below drawer away serving next len j (Waits k) h x = absurd (false≢true h)
  stands_below drawer away serving next len j (Holds k) h x = let e = x.1 in let l = x.2 in omega arith
  stands_below drawer away serving next len j (Wrote k n) h x = let e = x.1 in let l = x.2 in omega arith

  -- the seat that has the value saw the whole history, and knows whether `close_last` was called
  holder_knows : (s : St) (r : R s) (id : ℕ) (x : Note E) (g : Stage) → get_elem? s.views id ≡ some (view_of (x ∷ []) g) → r.drawer r.serving ≡ id → r.away ≡ true → (x.seen ≡ r.now) × (x.last ≡ r.marked)
  holder_knows s r id x g at mine out = ⊎_elim
      (λ (t : IsHome history signer s.homes r.away r.len r.now r.marked). absurd (false≢true (sym t.0 ∙ out)))
      (λ (t : IsOut history signer s.views r.drawer r.away r.serving r.len r.now r.marked).
      let same : view_of (t.1.0 ∷ []) t.1.1 ≡ view_of (x ∷ []) g = some-injective _ _ (sym t.1.2 ∙ ap (get_elem? s.views) mine ∙ at) in
      (sym (ap (λ (d : View E). (first_note d.notes).seen) same) ∙ t.1.4, sym (ap (λ (d : View E). (first_note d.notes).last) same) ∙ t.1.5))
      r.there

  drawn : (s : St) (r : R s) (id : ℕ) (x : Note E) → get_elem? s.views id ≡ some (view_of (x ∷ []) Free) → R (stepped s 0 (r.next + 1) id [] (view_of (x ∷ []) (Waits r.next)) keeps)
  drawn s r id x at = let v : View E = view_of (x ∷ []) Free in let w : View E = view_of (x ∷ []) (Waits r.next) in let drawer' : ℕ → ℕ = λ k. cond (eqb k r.next) id (r.drawer k) in
      let old : (k : ℕ) → k < r.next → drawer' k ≡ r.drawer k = λ k l. ap (λ b. cond b id (r.drawer k)) (ne_eqb k r.next (λ e. omega arith)) in
      let sum = total_set note_count s.views id v w at in let c = r.counted in let o = r.order in record {
        now = r.now;
        seat_of = r.seat_of;
        drawer = drawer';
        away = r.away;
        next = r.next + 1;
        serving = r.serving;
        len = r.len;
        words = ap (λ l. set l 0 (r.next + 1)) r.words;
        slot = r.slot;
        order = omega arith;
        each_view = each_set (λ j d. Stands drawer' r.away r.serving (r.next + 1) r.len j d.stage × EachNote (IsTrueNote signer r.now r.marked r.seat_of j) d.notes) s.views id w
            ((ap (λ b. cond b id (r.drawer r.next)) (eq-eqb r.next r.next refl), r.order, omega arith), (r.each_view id v at).1)
            (λ j d _ e. let f = r.each_view j d e in (later_stands r.drawer drawer' r.away r.serving r.next r.len j old d.stage f.0, f.1));
        there = keeps_there s.homes s.views r.drawer drawer' r.away r.serving r.len r.now r.marked id v w at refl (λ out. old r.serving (out_next s r out)) r.there;
        short = r.short;
        marked = r.marked;
        stays = r.stays;
        counted = omega arith;
      } where
        out_next : (s : St) (r : R s) → r.away ≡ true → r.serving < r.next
        out_next s r out = ⊎_elim (λ (t : IsHome history signer s.homes r.away r.len r.now r.marked). absurd (false≢true (sym t.0 ∙ out))) (λ (t : IsOut history signer s.views r.drawer r.away r.serving r.len r.now r.marked). stands_below r.drawer r.away r.serving r.next r.len (r.drawer r.serving) t.1.1 t.1.3 (r.each_view (r.drawer r.serving) (view_of (t.1.0 ∷ []) t.1.1) t.1.2).0) r.there

  pub draws : (slots id : ℕ) (x : Note E) (t : ℕ)
      → Allows H slots id (view_of (x ∷ []) Free, []) 0 (λ n. either (eqb n t) (t + 1) n) (drew history signer (step slots 0 t (t + 1) none) (view_of (x ∷ []) Free, []))
  draws slots id x t s kept wide at small = let n : ℕ = get_or s.words 0 0 in let v : View E = view_of (x ∷ []) Free in let r = runs_of s kept id v at refl in
      let is : n ≡ r.next = ap (λ l. get_or l 0 0) r.words in dite (ℕ_discrete n t)
      (λ hit. let w : View E = view_of (x ∷ []) (Waits n) in (
        w,
        keeps,
        tt,
        subst (λ b. H (stepped s 0 (either b (t + 1) n) id [] w keeps)) (sym (eq-eqb n t hit))
            (subst (λ (y : ℕ × ℕ). H (stepped s 0 (y.0 + 1) id [] (view_of (x ∷ []) (Waits y.1)) keeps)) (λ k. ((sym is ∙ hit) k, sym is k)) (inl (drawn s r id x at))),
        ((λ _. refl), λ no. absurd (no hit)),
      ))
      (λ miss. (
        v,
        keeps,
        tt,
        subst (λ b. H (stepped s 0 (either b (t + 1) n) id [] v keeps)) (sym (ne_eqb n t miss)) (subst H (sym (unmoved s 0 id v [] at)) kept),
        ((λ hit. absurd (miss hit)), λ _. refl),
      ))

  -- the word of the length is read, by a seat that has one note
  pub looks : (slots id : ℕ) (x : Note E) (g : Stage) (c : List (ℕ × Option V)) → is_new g ≡ false
      → Allows H slots id (view_of (x ∷ []) g, c) 2 (λ n. n) (looked history signer (step slots 2 0 0 none) (view_of (x ∷ []) g, c))
  looks slots id x g c used s kept wide at small = let n : ℕ = get_or s.words 2 0 in let v : View E = view_of (x ∷ []) g in let r = runs_of s kept id v at used in
      let is : n ≡ r.len = ap (λ l. get_or l 2 0) r.words in let f = r.each_view id v at in (
        v,
        keeps,
        tt,
        subst H (sym (unmoved s 2 id v c at)) kept,
        (refl, (λ knows. let marked = r.stays (f.1.0.3 knows) in omega arith), λ k holds unknown. let plain = unmarked s r id x g k at holds unknown in let short = r.short in omega arith),
      ) where
        unmarked : (s : St) (r : R s) (id : ℕ) (x : Note E) (g : Stage) (k : ℕ) → get_elem? s.views id ≡ some (view_of (x ∷ []) g) → g ≡ Holds k → x.last ≡ false → r.len ≡ length r.now
        unmarked s r id x g k at holds unknown = let f = subst (Stands r.drawer r.away r.serving r.next r.len id) holds (r.each_view id (view_of (x ∷ []) g) at).0 in ⊎_elim
            (λ (t : IsHome history signer s.homes r.away r.len r.now r.marked). absurd (false≢true (sym t.0 ∙ f.3)))
            (λ (t : IsOut history signer s.views r.drawer r.away r.serving r.len r.now r.marked).
            let same : view_of (t.1.0 ∷ []) t.1.1 ≡ view_of (x ∷ []) g = some-injective _ _ (sym t.1.2 ∙ ap (get_elem? s.views) (ap r.drawer (sym f.1) ∙ f.0) ∙ at) in
            t.1.6 (ap (λ (d : View E). has_written d.stage) same ∙ ap has_written holds) ∙ ap (length_word (length r.now)) (sym t.1.5 ∙ ap (λ (d : View E). (first_note d.notes).last) same ∙ unknown))
            r.there

  -- the seat that has the slot writes the length, and no word that isn't marked after one that was
  pub writes : (slots id : ℕ) (x : Note E) (k : ℕ) (c : List (ℕ × Option V)) (n : ℕ) → (x.last ≡ true → 2 ^ 32 ≤ n)
      → Allows H slots id (view_of (x ∷ []) (Holds k), c) 2 (λ _. n) (λ _. wrote history signer (step slots 2 n 0 none) (view_of (x ∷ []) (Holds k), c) n)
  writes slots id x k c n marks s kept wide at small = let v : View E = view_of (x ∷ []) (Holds k) in let w : View E = view_of (x ∷ []) (Wrote k n) in let r = runs_of s kept id v at refl in let f = r.each_view id v at in
      let mine : r.drawer r.serving ≡ id = ap r.drawer (sym f.0.1) ∙ f.0.0 in let sum = total_set note_count s.views id v w at in let all = r.counted in let knows = holder_knows s r id x (Holds k) at mine f.0.3 in (
        w,
        keeps,
        tt,
        inl record {
          now = r.now;
          marked = r.marked;
          seat_of = r.seat_of;
          drawer = r.drawer;
          away = r.away;
          next = r.next;
          serving = r.serving;
          len = n;
          words = ap (λ l. set l 2 n) r.words;
          slot = r.slot;
          order = r.order;
          short = r.short;
          each_view = each_set (λ j d. Stands r.drawer r.away r.serving r.next n j d.stage × EachNote (IsTrueNote signer r.now r.marked r.seat_of j) d.notes) s.views id w
              ((f.0.0, f.0.1, f.0.2, f.0.3, refl), f.1)
              (λ j d other e. let g = r.each_view j d e in (other_stands r.drawer r.away r.serving r.next r.len n j id mine other d.stage g.0, g.1));
          there = inr (f.0.3, (x, Wrote k n, ap (get_elem? (set s.views id w)) mine ∙ set_there s.views id v w at, refl, knows.0, knows.1, λ e. absurd (false≢true (sym e))));
          stays = λ m. marks (knows.1 ∙ m);
          counted = omega arith;
        },
        λ j e. ap (λ i. (view_of (x ∷ []) (Wrote i n), c)) (ap ticket_in e),
      )

  taken : (s : St) (r : R s) (id : ℕ) (x : Note E) (k : ℕ) → get_elem? s.views id ≡ some (view_of (x ∷ []) (Waits k)) → k ≡ r.serving → IsHome history signer s.homes r.away r.len r.now r.marked
      → (w : View E) × (a : Act (Option V)) × Valid s.homes [] a × H (stepped s 1 (get_or s.words 1 0) id [] w a) × Takes history signer k x (w, carried_after [] a)
  taken s r id x k at mine t = let v : V = t.1.0 in let f = r.each_view id (view_of (x ∷ []) (Waits k)) at in
      let same_now : history v ≡ r.now = t.1.2 in let y : Note E = note x.party (history v) x.mine r.marked in let w : View E = view_of (y ∷ []) (Holds k) in
      let began : Began x.seen (history v) = subst (Began x.seen) (sym same_now) f.1.0.1 in
      let signed : signed_by signer x.party (history v) ≡ x.mine = ap (signed_by signer x.party) same_now ∙ f.1.0.2 in
      let drew_it : r.drawer r.serving ≡ id = ap r.drawer (sym mine) ∙ f.0.0 in
      let sum = total_set note_count s.views id (view_of (x ∷ []) (Waits k)) w at in let c = r.counted in (
        w,
        takes 0 (Some v),
        ap (λ h. get_elem? h 0) t.1.1,
        inl record {
          now = r.now;
          marked = r.marked;
          seat_of = r.seat_of;
          drawer = r.drawer;
          away = true;
          next = r.next;
          serving = r.serving;
          len = r.len;
          words = ap (λ l. set l 1 (get_or l 1 0)) r.words;
          slot = length-set s.homes 0 none ∙ r.slot;
          order = r.order;
          short = r.short;
          each_view = each_set (λ j d. Stands r.drawer true r.serving r.next r.len j d.stage × EachNote (IsTrueNote signer r.now r.marked r.seat_of j) d.notes) s.views id w
              ((f.0.0, mine, f.0.2, refl), ((f.1.0.0, ([], sym same_now), ap (signed_by signer x.party) (sym same_now) ∙ signed, λ m. m), tt))
              (λ j d _ e. let g = r.each_view j d e in (goes_out r.drawer r.away r.serving r.next r.len j t.0 d.stage g.0, g.1));
          there = inr (refl, (y, Holds k, ap (get_elem? (set s.views id w)) drew_it ∙ set_there s.views id _ w at, refl, same_now, refl, λ _. t.2));
          stays = r.stays;
          counted = omega arith;
        },
        (v, r.marked, began, signed, f.1.0.3, refl),
      )

  pub serves : (slots id : ℕ) (x : Note E) (k : ℕ)
      → Allows H slots id (view_of (x ∷ []) (Waits k), []) 1 (λ n. n) (served history signer (step slots 1 0 0 none) (view_of (x ∷ []) (Waits k), []))
  serves slots id x k s kept wide at small = let n : ℕ = get_or s.words 1 0 in let v : View E = view_of (x ∷ []) (Waits k) in let r = runs_of s kept id v at refl in
      let is : n ≡ r.serving = ap (λ l. get_or l 1 0) r.words in dite (ℕ_discrete k n)
      (λ hit. ⊎_elim
      (λ (t : IsHome history signer s.homes r.away r.len r.now r.marked). let z = taken s r id x k at (hit ∙ is) t in
      (z.0, z.1, z.2, z.3, ((λ _. subst (λ i. Takes history signer i x (z.0, carried_after [] z.1)) hit z.4), λ no. absurd (no (ap Waits hit)))))
      (λ (t : IsOut history signer s.views r.drawer r.away r.serving r.len r.now r.marked).
      let f = r.each_view id v at in absurd (not_holder s.views id (r.drawer r.serving) v (view_of (t.1.0 ∷ []) t.1.1) at refl t.1.2 t.1.3 (ap r.drawer (sym (hit ∙ is)) ∙ f.0.0)))
      r.there)
      (λ miss. (v, keeps, tt, subst H (sym (unmoved s 1 id v [] at)) kept, ((λ e. absurd (miss (ap ticket_in e))), λ _. refl)))

  -- another party's note stays true when the history has one entry more
  still_true : (now later : List E) (marked marked' : Bool) (seat_of : ℕ → ℕ) (party : PartyId) (id j : ℕ) → seat_of party.0 ≡ id → j ≢ id → AddsAtMostOne signer party now later → (marked ≡ true → marked' ≡ true)
      → (y : Note E) → IsTrueNote signer now marked seat_of j y → IsTrueNote signer later marked' seat_of j y
  still_true now later marked marked' seat_of party id j mine other (inl is) stay y t = (t.0, subst (Began y.seen) (sym is) t.1, ap (signed_by signer y.party) is ∙ t.2, λ knows. stay (t.3 knows))
  still_true now later marked marked' seat_of party id j mine other (inr a) stay y t = let e : E = a.0 in let began = t.1 in
      let apart : (signer e).0 ≢ y.party.0 = λ same_party. other (sym t.0 ∙ ap seat_of (sym same_party ∙ ap (λ (q : PartyId). q.0) a.2) ∙ mine) in (
        t.0,
        (e ∷ began.0, a.1 ∙ ap (λ l. e ∷ l) began.1),
        ap (signed_by signer y.party) a.1 ∙ ap (λ b. cond b (e ∷ signed_by signer y.party now) (signed_by signer y.party now)) (ne_eqb (signer e).0 y.party.0 apart) ∙ t.2,
        λ knows. stay (t.3 knows),
      )

  next_stands : (drawer : ℕ → ℕ) (away : Bool) (serving next len j id : ℕ) → drawer serving ≡ id → j ≢ id → (g : Stage) → Stands drawer away serving next len j g → Stands drawer false (serving + 1) next len j g
  next_stands drawer away serving next len j id mine other Opens x = x
  next_stands drawer away serving next len j id mine other Fills x = x
  next_stands drawer away serving next len j id mine other Free x = x
  next_stands drawer away serving next len j id mine other (Waits k) x = let ne : k ≢ serving = λ e. other (sym x.0 ∙ ap drawer e ∙ mine) in let l = x.1 in (x.0, omega arith, x.2)
  next_stands drawer away serving next len j id mine other (Holds k) x = absurd (other (sym x.0 ∙ ap drawer x.1 ∙ mine))
  next_stands drawer away serving next len j id mine other (Wrote k n) x = absurd (other (sym x.0 ∙ ap drawer x.1 ∙ mine))

  given : (s : St) (r : R s) (id : ℕ) (x : Note E) (n : ℕ) (v : V) (last : Bool) → get_elem? s.views id ≡ some (view_of (x ∷ []) (Wrote r.serving n)) → n ≡ length_word (length (history v)) last → length (history v) < 2 ^ 32
      → r.drawer r.serving ≡ id → r.serving < r.next → (x.seen ≡ r.now) × (x.last ≡ r.marked) → AddsAtMostOne signer x.party x.seen (history v) → (x.last ≡ true → last ≡ true)
      → R (stepped s 1 (r.serving + 1) id ((0, Some v) ∷ []) (view_of (told signer (history v) last x ∷ []) Free) gives)
  given s r id x n v last at long short mine less knows adds stay = let w : View E = view_of (told signer (history v) last x ∷ []) Free in let f = r.each_view id (view_of (x ∷ []) (Wrote r.serving n)) at in
      let adds' : AddsAtMostOne signer x.party r.now (history v) = subst (λ l. AddsAtMostOne signer x.party l (history v)) knows.0 adds in
      let long' : r.len ≡ length_word (length (history v)) last = f.0.4 ∙ long in
      let sum = total_set note_count s.views id (view_of (x ∷ []) (Wrote r.serving n)) w at in let c = r.counted in record {
        now = history v;
        marked = last;
        seat_of = r.seat_of;
        drawer = r.drawer;
        away = false;
        next = r.next;
        serving = r.serving + 1;
        len = r.len;
        words = ap (λ l. set l 1 (r.serving + 1)) r.words;
        slot = length-set s.homes 0 (some (Some v)) ∙ r.slot;
        order = omega arith;
        short = short;
        each_view = each_set (λ j d. Stands r.drawer false (r.serving + 1) r.next r.len j d.stage × EachNote (IsTrueNote signer (history v) last r.seat_of j) d.notes) s.views id w
            (tt, ((f.1.0.0, ([], refl), refl, λ m. m), tt))
            (λ j d other e. let g = r.each_view j d e in (
              next_stands r.drawer r.away r.serving r.next r.len j id mine other d.stage g.0,
              each_note (IsTrueNote signer r.now r.marked r.seat_of j) (IsTrueNote signer (history v) last r.seat_of j)
                  (still_true r.now (history v) r.marked last r.seat_of x.party id j f.1.0.0 other adds' (λ m. stay (knows.1 ∙ m))) d.notes g.1,
            ));
        there = inl (refl, (v, one_home s.homes (some (Some v)) r.slot, refl), long');
        stays = marked_word (length (history v)) r.len last long';
        counted = omega arith;
      }

  pub gives_back : (slots id : ℕ) (x : Note E) (k n : ℕ) (v : V) → n ≡ length_word (length (history v)) (is_marked n) → length (history v) < 2 ^ 32 → (x.last ≡ true → is_marked n ≡ true) → AddsAtMostOne signer x.party x.seen (history v)
      → Allows H slots id (view_of (x ∷ []) (Wrote k n), (0, Some v) ∷ []) 1 (λ _. k + 1) (λ _. gave history signer (step slots 1 (k + 1) 0 none) (view_of (x ∷ []) (Wrote k n), (0, Some v) ∷ []) (k + 1))
  gives_back slots id x k n v long short stay adds s kept wide at small = let r = runs_of s kept id (view_of (x ∷ []) (Wrote k n)) at refl in let f = r.each_view id (view_of (x ∷ []) (Wrote k n)) at in
      let mine : r.drawer r.serving ≡ id = ap r.drawer (sym f.0.1) ∙ f.0.0 in let less = f.0.2 in let is : k ≡ r.serving = f.0.1 in
      let knows = holder_knows s r id x (Wrote k n) at mine f.0.3 in (
        view_of (told signer (history v) (is_marked n) x ∷ []) Free,
        gives,
        tt,
        inl (subst (λ i. R (stepped s 1 (i + 1) id ((0, Some v) ∷ []) (view_of (told signer (history v) (is_marked n) x ∷ []) Free) gives)) (sym is)
            (given s r id x n v (is_marked n) (at ∙ ap (λ i. some (view_of (x ∷ []) (Wrote i n))) is) long short mine (omega arith) knows adds stay)),
        (refl, (ap (signed_by signer x.party) knows.0 ∙ f.1.0.2, tt)),
      )

  abbrev Sat : Type 0
  Sat = Me (Option V) (View E)

  pub draws_at : (slots id : ℕ) (me : Sat) (x : Note E) (t : ℕ) → me ≡ (view_of (x ∷ []) Free, []) → Allows H slots id me 0 (λ n. either (eqb n t) (t + 1) n) (drew history signer (step slots 0 t (t + 1) none) me)
  draws_at slots id me x t is = subst (λ (m : Sat). Allows H slots id m 0 (λ n. either (eqb n t) (t + 1) n) (drew history signer (step slots 0 t (t + 1) none) m)) (sym is) (draws slots id x t)

  pub serves_at : (slots id : ℕ) (me : Sat) (x : Note E) (k : ℕ) → me ≡ (view_of (x ∷ []) (Waits k), []) → Allows H slots id me 1 (λ n. n) (served history signer (step slots 1 0 0 none) me)
  serves_at slots id me x k is = subst (λ (m : Sat). Allows H slots id m 1 (λ n. n) (served history signer (step slots 1 0 0 none) m)) (sym is) (serves slots id x k)

  pub looks_at : (slots id : ℕ) (me : Sat) (x : Note E) (g : Stage) (c : List (ℕ × Option V)) → me ≡ (view_of (x ∷ []) g, c) → is_new g ≡ false → Allows H slots id me 2 (λ n. n) (looked history signer (step slots 2 0 0 none) me)
  looks_at slots id me x g c is used = subst (λ (m : Sat). Allows H slots id m 2 (λ n. n) (looked history signer (step slots 2 0 0 none) m)) (sym is) (looks slots id x g c used)

  pub writes_at : (slots id : ℕ) (me : Sat) (x : Note E) (k : ℕ) (c : List (ℕ × Option V)) (n : ℕ) → me ≡ (view_of (x ∷ []) (Holds k), c) → (x.last ≡ true → 2 ^ 32 ≤ n) → Allows H slots id me 2 (λ _. n) (λ _. wrote history signer (step slots 2 n 0 none) me n)
  writes_at slots id me x k c n is marks = subst (λ (m : Sat). Allows H slots id m 2 (λ _. n) (λ _. wrote history signer (step slots 2 n 0 none) m n)) (sym is) (writes slots id x k c n marks)

  pub gives_back_at : (slots id : ℕ) (me : Sat) (x : Note E) (k n : ℕ) (v : V) → me ≡ (view_of (x ∷ []) (Wrote k n), (0, Some v) ∷ []) → n ≡ length_word (length (history v)) (is_marked n) → length (history v) < 2 ^ 32
      → (x.last ≡ true → is_marked n ≡ true) → AddsAtMostOne signer x.party x.seen (history v) → Allows H slots id me 1 (λ _. k + 1) (λ _. gave history signer (step slots 1 (k + 1) 0 none) me (k + 1))
  gives_back_at slots id me x k n v is long short stay adds = subst (λ (m : Sat). Allows H slots id m 1 (λ _. k + 1) (λ _. gave history signer (step slots 1 (k + 1) 0 none) m (k + 1))) (sym is) (gives_back slots id x k n v long short stay adds)

-- what the party made grows by what was appended
pub extends : {E : Type 0} (signer : E → PartyId) (party : PartyId) (before now made : List E) → AddsAtMostOne signer party before now → signed_by signer party before ≡ made → Extends before now made (signed_by signer party now)
extends signer party before now made (inl is) m = ([], is, ap (signed_by signer party) is ∙ m)
extends signer party before now made (inr a) m = (
  a.0 ∷ [],
  a.1,
  ap (signed_by signer party) a.1 ∙ ap (λ b. cond b (a.0 ∷ signed_by signer party before) (signed_by signer party before)) (eq-eqb (signer a.0).0 party.0 (ap (λ (q : PartyId). q.0) a.2)) ∙ ap (λ l. a.0 ∷ l) m,
)

pub gave_extends : {V E : Type 0} (history : V → List E) (signer : E → PartyId) (m m' : Me (Option V) (View E)) (x : Note E) (k n : ℕ) (v : V)
    → m ≡ (view_of (x ∷ []) (Wrote k n), (0, Some v) ∷ []) → gave history signer (step 0 0 0 0 none) m 0 m' → AddsAtMostOne signer x.party x.seen (history v) → Extends x.seen (history v) x.mine (first_note m'.0.notes).mine
gave_extends {V} {E} history signer m m' x k n v is t adds = let u : gave history signer (step 0 0 0 0 none) (view_of (x ∷ []) (Wrote k n), (0, Some v) ∷ []) 0 m' = subst (λ (o : Me (Option V) (View E)). gave history signer (step 0 0 0 0 none) o 0 m') is t in
    subst (Extends x.seen (history v) x.mine) (sym (ap (λ (o : Me (Option V) (View E)). (first_note o.0.notes).mine) u.0)) (extends signer x.party x.seen (history v) x.mine adds u.1.0)

last_value : {V : Type 0} → V → List (ℕ × Option V) → V
last_value {V} v [] = v
last_value {V} v (c ∷ cs) = value_or v c.1 where
  value_or : V → Option V → V
  value_or d None = d
  value_or d (Some u) = u

-- the value that was taken is the one that comes out of the slot
pub takes_value : {V E : Type 0} (history : V → List E) (signer : E → PartyId) (k : ℕ) (x : Note E) (m : Me (Option V) (View E)) (o : Option V) (w : V)
    → Takes history signer k x m → m.1 ≡ (0, o) ∷ rest m.1 → o ≡ Some w
    → (last : Bool) × Began x.seen (history w) × (signed_by signer x.party (history w) ≡ x.mine) × (x.last ≡ true → last ≡ true) × (m ≡ (view_of (note x.party (history w) x.mine last ∷ []) (Holds k), (0, Some w) ∷ []))
unfolding last_value
takes_value {V} {E} history signer k x m o w t is out = let p : t.0 ≡ w = ap (last_value t.0) (sym (ap (λ (n : Me (Option V) (View E)). n.1) t.5) ∙ is ∙ ap (λ q. (0, q) ∷ rest m.1) out) in
    let out_of = subst (λ u. Began x.seen (history u) × (signed_by signer x.party (history u) ≡ x.mine) × (m ≡ (view_of (note x.party (history u) x.mine t.1 ∷ []) (Holds k), (0, Some u) ∷ []))) p (t.2, t.3, t.5) in (t.1, out_of.0, out_of.1, t.4, out_of.2)

nothing : {A : Type 0} (xs ys : List A) → xs ++ ys ≡ ys → xs ≡ []
nothing [] ys e = refl
nothing (x ∷ xs) ys e = let c = ap length e in absurd (omega (arith, length-append xs ys))

-- of what came after the history that a party has seen, nothing is its own
pub others_added : {E : Type 0} (signer : E → PartyId) (party : PartyId) (seen mine now : List E) → Began seen now → signed_by signer party now ≡ mine → signed_by signer party seen ≡ mine → OthersAdded signer party seen now
others_added signer party seen mine now began all had =
    (began.0, began.1, nothing (signed_by signer party began.0) mine (ap (λ l. signed_by signer party began.0 ++ l) (sym had) ∙ sym (filter-append (λ e. eqb (signer e).0 party.0) began.0 seen) ∙ ap (signed_by signer party) (sym began.1) ∙ all))
