-- The steps that make a book, deal its seats and gather them keep its rule.
use Rattle.std.proofs.Common.{◌≡◌, ◌≢◌, ◌⊎◌, ℕ, zero, suc, ◌+◌, ◌^◌, ◌<◌, ◌≤◌, Bool, true, false, cond, eqb, eq-eqb, ne_eqb, List, [], ◌∷◌, ◌++◌, map, length, get_or, set, sym, refl, ap, ◌∙◌, subst, inl, inr, ⊎_elim, arith, length-set, Option, Some, None}
use Rattle.std.proofs.lemmas.Bool.{false≢true}
use mathlib.Core.Option.{none, some, some-injective, some-ne-none}
use mathlib.Core.Option as maybe
use lib.ListN.{get_elem?, length-map}
use Rattle.atomic_table.specs.Table.{State, Me, step, takes, gives, stepped, Allows, Splits, Joins, Final, Seen}
use Rattle.atomic_table.proofs.Lists.{set_else, at_longer}
use Rattle.so_ids.specs.declared.PartyId.{PartyId}
use Rattle.so_book.specs.declared.view.Note.{Note}
use Rattle.so_book.specs.declared.view.Stage.{Stage}
use Rattle.so_book.specs.declared.view.Stage.TheVariants.{Opens, Fills, Free, Waits, Holds, Wrote}
use Rattle.so_book.specs.declared.view.View.{View}
use Rattle.so_book.specs.History.{Began, signed_by}
use Rattle.so_book.specs.Rule.{view_of, note_count, total, EachNote, told, blank_notes, told_notes, Stands, IsTrueNote, IsHome, IsOut, IsThere, Runs, Kept, IsFilled, gave, opened, dealt, left_over, gathered, spent}
use Rattle.so_book.proofs.Steps.{only, each_set, each_note, total_set, not_holder, runs_of, keeps_there}

abbrev pub opens : Stage → Bool
opens Opens = true
opens Fills = false
opens Free = false
opens (Waits k) = false
opens (Holds k) = false
opens (Wrote k n) = false

abbrev pub fills : Stage → Bool
fills Opens = false
fills Fills = true
fills Free = false
fills (Waits k) = false
fills (Holds k) = false
fills (Wrote k n) = false

module _ {A : Type 0} where
  only_at : (a b : A) (i : ℕ) → get_elem? (a ∷ []) i ≡ some b → i ≡ 0
  only_at a b zero e = refl
  only_at a b (suc i) e = absurd (some-ne-none b (sym e))

  set_only : (a b c : A) (i : ℕ) → get_elem? (a ∷ []) i ≡ some b → set (a ∷ []) i c ≡ c ∷ []
  set_only a b c zero e = refl
  set_only a b c (suc i) e = absurd (some-ne-none b (sym e))

  at_end : (l : List A) (a b : A) (j : ℕ) → get_elem? (l ++ a ∷ []) j ≡ some b → (get_elem? l j ≡ some b) ⊎ ((j ≡ length l) × (a ≡ b))
  at_end [] a b zero e = inr (refl, some-injective a b e)
  at_end [] a b (suc j) e = absurd (some-ne-none b (sym e))
  at_end (x ∷ xs) a b zero e = inl e
  at_end (x ∷ xs) a b (suc j) e = ⊎_elim inl (λ t. inr (ap suc t.0, t.1)) (at_end xs a b j e)

  within : (l : List A) (j : ℕ) (b : A) → get_elem? l j ≡ some b → j < length l
  within [] j b e = absurd (some-ne-none b (sym e))
  within (x ∷ xs) zero b e = omega arith
  within (x ∷ xs) (suc j) b e = let r = within xs j b e in omega arith

blank_count : (E : Type 0) (p n : ℕ) → length (blank_notes {E = E} p n) ≡ n
blank_count E p zero = refl
blank_count E p (suc n) = ap suc (blank_count E (p + 1) n)

module _ {E : Type 0} where
  total_snoc : (f : View E → ℕ) (l : List (View E)) (d : View E) → total f (l ++ d ∷ []) ≡ total f l + f d
  total_snoc f [] d = omega arith
  total_snoc f (x ∷ xs) d = let r = total_snoc f xs d in omega arith

  total_at : (f : View E → ℕ) (l : List (View E)) (i : ℕ) (v : View E) → get_elem? l i ≡ some v → f v ≤ total f l
  total_at f [] i v e = absurd (some-ne-none v (sym e))
  total_at f (x ∷ xs) zero v e = let is : f x ≡ f v = ap f (some-injective x v e) in omega arith
  total_at f (x ∷ xs) (suc i) v e = let r = total_at f xs i v e in omega arith

  total_two : (f : View E → ℕ) (l : List (View E)) (i j : ℕ) (v d : View E) → get_elem? l i ≡ some v → get_elem? l j ≡ some d → j ≢ i → f v + f d ≤ total f l
  total_two f [] i j v d e e' ne = absurd (some-ne-none v (sym e))
  total_two f (x ∷ xs) zero zero v d e e' ne = absurd (ne refl)
  total_two f (x ∷ xs) zero (suc j) v d e e' ne = let is : f x ≡ f v = ap f (some-injective x v e) in let r = total_at f xs j d e' in omega arith
  total_two f (x ∷ xs) (suc i) zero v d e e' ne = let is : f x ≡ f d = ap f (some-injective x d e') in let r = total_at f xs i v e in omega arith
  total_two f (x ∷ xs) (suc i) (suc j) v d e e' ne = let r = total_two f xs i j v d e e' (λ h. ne (ap suc h)) in omega arith

  each_append : (P : Note E → Type 0) (xs ys : List (Note E)) → EachNote P xs → EachNote P ys → EachNote P (xs ++ ys)
  each_append P [] ys t u = u
  each_append P (x ∷ xs) ys t u = (t.0, each_append P xs ys t.1 u)

  each_both : (P Q R : Note E → Type 0) → ((y : Note E) → P y → Q y → R y) → (xs : List (Note E)) → EachNote P xs → EachNote Q xs → EachNote R xs
  each_both P Q R f [] t u = tt
  each_both P Q R f (x ∷ xs) t u = (f x t.0 u.0, each_both P Q R f xs t.1 u.1)

  told_true : (signer : E → PartyId) (now : List E) (xs : List (Note E)) → EachNote (IsTrueNote signer now false (λ _. 0) 0) (map (told signer now false) xs)
  told_true signer now [] = tt
  told_true signer now (x ∷ xs) = ((refl, ([], refl), refl, λ e. e), told_true signer now xs)

  blank_true : (signer : E → PartyId) (p n : ℕ) → EachNote (λ x. signed_by signer x.party x.seen ≡ x.mine) (blank_notes p n)
  blank_true signer p zero = tt
  blank_true signer p (suc n) = (refl, blank_true signer (p + 1) n)

  pub later_parties : (signer : E → PartyId) (now : List E) (q p n : ℕ) → q < p → EachNote (λ y. y.party.0 ≢ q) (told_notes signer now p n)
  later_parties signer now q p zero l = tt
  later_parties signer now q p (suc n) l = ((λ e. omega arith), later_parties signer now q (p + 1) n (omega arith))

module _ {V E : Type 0} (history : V → List E) (signer : E → PartyId) (seats first : ℕ) where
  abbrev St : Type 0
  St = State (Option V) (View E)

  abbrev H : St → Type 0
  H = Kept history signer seats first

  abbrev R : St → Type 0
  R = Runs history signer seats

  abbrev Seat : Type 0
  Seat = Me (Option V) (View E)

  -- the empty slot of a new book is taken
  pub opens_slot : (slots id : ℕ) (ns : List (Note E)) → Allows H slots id (view_of ns Opens, []) 0 (λ n. n) (opened history signer (step slots 0 0 0 none) (view_of ns Opens, []))
  opens_slot slots id ns s (inl r) wide at small = absurd (r.each_view id (view_of ns Opens) at).0
  opens_slot slots id ns s (inr (inr o)) wide at small = absurd (false≢true (ap (λ (u : View E). opens u.stage) (only _ (view_of ns Opens) id (subst (λ l. get_elem? l id ≡ some (view_of ns Opens)) o.2 at))))
  opens_slot slots id ns s (inr (inl o)) wide at small = let at' = subst (λ l. get_elem? l id ≡ some (view_of ns Opens)) o.2 at in let is : blank_notes 0 seats ≡ ns = ap (λ (u : View E). u.notes) (only (view_of (blank_notes 0 seats) Opens) (view_of ns Opens) id at') in
      let w : View E = view_of ns Fills in (
        w,
        takes 0 None,
        ap (λ h. get_elem? h 0) o.1,
        inr (inr (ap (λ l. set l 0 (get_or l 0 0)) o.0, length-set s.homes 0 none ∙ ap length o.1, ap (λ l. set l id w) o.2 ∙ set_only _ (view_of ns Opens) w id at' ∙ ap (λ l. view_of l Fills ∷ []) (sym is))),
        refl,
      )

  pub opens_slot_at : (slots id : ℕ) (me : Seat) → me ≡ (view_of (blank_notes 0 seats) Opens, []) → Allows H slots id me 0 (λ n. n) (opened history signer (step slots 0 0 0 none) me)
  opens_slot_at slots id me is = subst (λ (m : Seat). Allows H slots id m 0 (λ n. n) (opened history signer (step slots 0 0 0 none) m)) (sym is) (opens_slot slots id (blank_notes 0 seats))

  begun : (s : St) (id : ℕ) (v : V) → first ≡ length (history v) → first < 2 ^ 32 → IsFilled history signer seats first s → get_elem? s.views id ≡ some (view_of (blank_notes 0 seats) Fills)
      → R (stepped s 0 (get_or s.words 0 0) id ((0, Some v) ∷ []) (view_of (told_notes signer (history v) 0 seats) Free) gives)
  begun s id v long short o at = let at' = subst (λ l. get_elem? l id ≡ some (view_of (blank_notes 0 seats) Fills)) o.2 at in let w : View E = view_of (told_notes signer (history v) 0 seats) Free in
      let one : set s.views id w ≡ w ∷ [] = ap (λ l. set l id w) o.2 ∙ set_only _ (view_of (blank_notes 0 seats) Fills) w id at' in record {
        now = history v;
        marked = false;
        seat_of = λ _. 0;
        drawer = λ _. 0;
        away = false;
        next = 0;
        serving = 0;
        len = first;
        words = ap (λ l. set l 0 (get_or l 0 0)) o.0;
        slot = length-set s.homes 0 (some (Some v)) ∙ o.1;
        order = omega arith;
        short = omega arith;
        each_view = λ j d e. let e' : get_elem? (w ∷ []) j ≡ some d = subst (λ l. get_elem? l j ≡ some d) one e in
            subst (λ (y : ℕ × View E). Stands (λ _. 0) false 0 0 first y.0 y.1.stage × EachNote (IsTrueNote signer (history v) false (λ _. 0) y.0) y.1.notes) (λ k. (sym (only_at w d j e') k, only w d j e' k))
            (tt, told_true signer (history v) (blank_notes 0 seats));
        there = inl (refl, (v, one_slot s.homes (some (Some v)) o.1, refl), long);
        stays = λ e. absurd (false≢true e);
        counted = ap (total note_count) one ∙ (let c = length-map (blank_notes 0 seats) (told signer (history v) false) ∙ blank_count E 0 seats in omega arith);
      } where
        one_slot : {A : Type 0} (l : List A) (a : A) → length l ≡ 1 → set l 0 a ≡ a ∷ []
        one_slot [] a e = absurd (omega arith)
        one_slot (x ∷ []) a e = refl
        one_slot (x ∷ y ∷ ys) a e = absurd (omega arith)

  -- the value is put into a new book
  pub begins : (slots id : ℕ) (v : V) → first ≡ length (history v) → first < 2 ^ 32 → Allows H slots id (view_of (blank_notes 0 seats) Fills, (0, Some v) ∷ []) 0 (λ n. n) (gave history signer (step slots 0 0 0 none) (view_of (blank_notes 0 seats) Fills, (0, Some v) ∷ []))
  begins slots id v long short s (inl r) wide at small = absurd (r.each_view id (view_of (blank_notes 0 seats) Fills) at).0
  begins slots id v long short s (inr (inl o)) wide at small = absurd (false≢true (ap (λ (u : View E). fills u.stage) (only _ (view_of (blank_notes 0 seats) Fills) id (subst (λ l. get_elem? l id ≡ some (view_of (blank_notes 0 seats) Fills)) o.2 at))))
  begins slots id v long short s (inr (inr o)) wide at small = (view_of (told_notes signer (history v) 0 seats) Free, gives, tt, inl (begun s id v long short o at), (refl, blank_true signer 0 seats))

  pub begins_at : (slots id : ℕ) (me : Seat) (v : V) → me ≡ (view_of (blank_notes 0 seats) Fills, (0, Some v) ∷ []) → first ≡ length (history v) → first < 2 ^ 32 → Allows H slots id me 0 (λ n. n) (gave history signer (step slots 0 0 0 none) me)
  begins_at slots id me v is long short = subst (λ (m : Seat). Allows H slots id m 0 (λ n. n) (gave history signer (step slots 0 0 0 none) m)) (sym is) (begins slots id v long short)

  longer_there : (homes : List (maybe.Option (Option V))) (views : List (View E)) (b : View E) (drawer : ℕ → ℕ) (away : Bool) (serving len : ℕ) (now : List E) (marked : Bool)
      → IsThere history signer homes views drawer away serving len now marked → IsThere history signer homes (views ++ b ∷ []) drawer away serving len now marked
  longer_there homes views b drawer away serving len now marked (inl t) = inl t
  longer_there homes views b drawer away serving len now marked (inr t) = inr (t.0, (t.1.0, t.1.1, at_longer views (b ∷ []) (drawer serving) _ t.1.2, t.1.3, t.1.4, t.1.5, t.1.6))

  -- the first of several notes goes to a seat of its own
  pub deals : (id : ℕ) (x : Note E) (xs : List (Note E)) → EachNote (λ y. y.party.0 ≢ x.party.0) xs → Splits H id (view_of (x ∷ xs) Free) (view_of xs Free) (view_of (x ∷ []) Free)
  deals id x xs apart s kept at = let v : View E = view_of (x ∷ xs) Free in let r = runs_of history signer seats first s kept id v at refl in let a : View E = view_of xs Free in let b : View E = view_of (x ∷ []) Free in
      let vs : List (View E) = set s.views id a in let n : ℕ = length vs in let f = r.each_view id v at in
      let seat_of' : ℕ → ℕ = λ p. cond (eqb p x.party.0) n (r.seat_of p) in
      let same : (p : ℕ) → p ≢ x.party.0 → seat_of' p ≡ r.seat_of p = λ p ne. ap (λ t. cond t n (r.seat_of p)) (ne_eqb p x.party.0 ne) in
      let F : ℕ → View E → Type 0 = λ j d. Stands r.drawer r.away r.serving r.next r.len j d.stage × EachNote (IsTrueNote signer r.now r.marked seat_of' j) d.notes in
      let sum = total_set note_count s.views id v a at in let sum' = total_snoc note_count vs b in let c = r.counted in inl record {
        now = r.now;
        marked = r.marked;
        seat_of = seat_of';
        drawer = r.drawer;
        away = r.away;
        next = r.next;
        serving = r.serving;
        len = r.len;
        words = r.words;
        slot = r.slot;
        order = r.order;
        short = r.short;
        each_view = λ j d e. ⊎_elim
            (λ old. each_set F s.views id a
            (tt, each_both (λ y. y.party.0 ≢ x.party.0) (IsTrueNote signer r.now r.marked r.seat_of id) (IsTrueNote signer r.now r.marked seat_of' id) (λ y ne t. (same y.party.0 ne ∙ t.0, t.1, t.2, t.3)) xs apart f.1.1)
            (λ j d ne e. let g = r.each_view j d e in (
              g.0,
              each_note (IsTrueNote signer r.now r.marked r.seat_of j) (IsTrueNote signer r.now r.marked seat_of' j)
                  (λ y t. (same y.party.0 (λ p. ne (sym t.0 ∙ ap r.seat_of p ∙ f.1.0.0)) ∙ t.0, t.1, t.2, t.3)) d.notes g.1,
            )) j d old)
            (λ (t : (j ≡ n) × (b ≡ d)). subst (λ (y : ℕ × View E). F y.0 y.1) (λ k. (sym t.0 k, t.1 k)) (tt, ((ap (λ q. cond q n (r.seat_of x.party.0)) (eq-eqb x.party.0 x.party.0 refl), f.1.0.1, f.1.0.2, f.1.0.3), tt)))
            (at_end vs b d j e);
        there = longer_there s.homes vs b r.drawer r.away r.serving r.len r.now r.marked (keeps_there history signer seats first s.homes s.views r.drawer r.drawer r.away r.serving r.len r.now r.marked id v a at refl (λ _. refl) r.there);
        stays = r.stays;
        counted = omega arith;
      }

  -- a seat takes in another's note
  pub gathers : (id other : ℕ) (ns : List (Note E)) (x : Note E) → Joins H id (view_of ns Free) other (view_of (x ∷ []) Free) (view_of (x ∷ ns) Free) (view_of [] Free)
  gathers id other ns x s kept at ne at' = let v : View E = view_of ns Free in let a : View E = view_of (x ∷ ns) Free in let b : View E = view_of (x ∷ []) Free in let z : View E = view_of [] Free in
      let r = runs_of history signer seats first s kept id v at refl in let vs : List (View E) = set s.views id a in let f = r.each_view id v at in let f' = r.each_view other b (sym (set_else s.views id other a ne) ∙ at') in
      let seat_of' : ℕ → ℕ = λ p. cond (eqb (r.seat_of p) other) id (r.seat_of p) in
      let same : (p j : ℕ) → r.seat_of p ≡ j → j ≢ other → seat_of' p ≡ j = λ p j e n. ap (λ t. cond t id (r.seat_of p)) (ne_eqb (r.seat_of p) other (λ h. n (sym e ∙ h))) ∙ e in
      let F : ℕ → View E → Type 0 = λ j d. Stands r.drawer r.away r.serving r.next r.len j d.stage × EachNote (IsTrueNote signer r.now r.marked seat_of' j) d.notes in
      let moved : (j : ℕ) → j ≢ other → (l : List (Note E)) → EachNote (IsTrueNote signer r.now r.marked r.seat_of j) l → EachNote (IsTrueNote signer r.now r.marked seat_of' j) l =
      λ j n l. each_note (IsTrueNote signer r.now r.marked r.seat_of j) (IsTrueNote signer r.now r.marked seat_of' j) (λ y t. (same y.party.0 j t.0 n, t.1, t.2, t.3)) l in
      let sum = total_set note_count s.views id v a at in let sum' = total_set note_count vs other b z at' in let c = r.counted in inl record {
        now = r.now;
        marked = r.marked;
        seat_of = seat_of';
        drawer = r.drawer;
        away = r.away;
        next = r.next;
        serving = r.serving;
        len = r.len;
        words = r.words;
        slot = r.slot;
        order = r.order;
        short = r.short;
        each_view = each_set F vs other z (tt, tt)
            (λ j d apart e. each_set (λ j d. j ≢ other → F j d) s.views id a
            (λ n. (tt, ((ap (λ t. cond t id (r.seat_of x.party.0)) (eq-eqb (r.seat_of x.party.0) other f'.1.0.0), f'.1.0.1, f'.1.0.2, f'.1.0.3), moved id n ns f.1)))
            (λ j d _ e n. let g = r.each_view j d e in (g.0, moved j n d.notes g.1)) j d e apart);
        there = keeps_there history signer seats first s.homes vs r.drawer r.drawer r.away r.serving r.len r.now r.marked other b z at' refl (λ _. refl)
            (keeps_there history signer seats first s.homes s.views r.drawer r.drawer r.away r.serving r.len r.now r.marked id v a at refl (λ _. refl) r.there);
        stays = r.stays;
        counted = omega arith;
      }

  -- at the end, where a seat has all notes, the value is at home, and all notes are so
  pub ends : (s : St) (id : ℕ) (ns : List (Note E)) → H s → get_elem? s.views id ≡ some (view_of ns Free) → length ns ≡ seats
      → (v : V) × (get_elem? s.homes 0 ≡ some (some (Some v))) × EachNote (λ y. Began y.seen (history v) × (signed_by signer y.party (history v) ≡ y.mine)) ns
  ends s id ns kept at all = let v : View E = view_of ns Free in let r = runs_of history signer seats first s kept id v at refl in let f = r.each_view id v at in let c = r.counted in ⊎_elim
      (λ (t : IsHome history signer s.homes r.away r.len r.now r.marked). (
        t.1.0,
        ap (λ h. get_elem? h 0) t.1.1,
        each_note (IsTrueNote signer r.now r.marked r.seat_of id) (λ y. Began y.seen (history t.1.0) × (signed_by signer y.party (history t.1.0) ≡ y.mine))
            (λ y u. (subst (Began y.seen) (sym t.1.2) u.1, ap (signed_by signer y.party) t.1.2 ∙ u.2)) ns f.1,
      ))
      (λ (t : IsOut history signer s.views r.drawer r.away r.serving r.len r.now r.marked). let d : View E = view_of (t.1.0 ∷ []) t.1.1 in
      let two = total_two note_count s.views id (r.drawer r.serving) v d at t.1.2 (not_holder s.views id (r.drawer r.serving) v d at refl t.1.2 t.1.3) in absurd (omega arith))
      r.there

  pub deals_at : (id : ℕ) (d : View E) (x : Note E) (xs : List (Note E)) → d ≡ view_of (x ∷ xs) Free → EachNote (λ y. y.party.0 ≢ x.party.0) xs → Splits H id d (left_over d) (dealt d)
  deals_at id d x xs is apart = subst (λ (u : View E). Splits H id u (left_over u) (dealt u)) (sym is) (deals id x xs apart)

  pub gathers_at : (id other : ℕ) (d d' : View E) (ns : List (Note E)) (x : Note E) → d ≡ view_of ns Free → d' ≡ view_of (x ∷ []) Free → Joins H id d other d' (gathered d d') spent
  gathers_at id other d d' ns x is is' = subst (λ (y : View E × View E). Joins H id y.0 other y.1 (gathered y.0 y.1) spent) (λ k. (sym is k, sym is' k)) (gathers id other ns x)

  abbrev pub AllSo : V → List (Note E) → Type 0
  AllSo v ns = EachNote (λ y. Began y.seen (history v) × (signed_by signer y.party (history v) ≡ y.mine)) ns

  -- what the slot has at the end
  pub ended : (words : List ℕ) (slots : List (Option V)) (id : ℕ) (d : View E) (ns : List (Note E)) (o : Option V) → Final (Seen H id d) words slots → d ≡ view_of ns Free → length ns ≡ seats
      → get_elem? slots 0 ≡ some o → (v : V) × (o ≡ Some v) × AllSo v ns
  ended words slots id d ns o fin is all got = let z = ends fin.0 id ns fin.1.0 (fin.1.1 ∙ ap some is) all in
      (z.0, some-injective o (Some z.0) (sym got ∙ fin.4 0 (Some z.0) z.1), z.2)

  value_or : V → Option V → V
  value_or d None = d
  value_or d (Some u) = u

  pub ended_with : (words : List ℕ) (slots : List (Option V)) (id : ℕ) (d : View E) (ns : List (Note E)) (o : Option V) (w : V) → Final (Seen H id d) words slots → d ≡ view_of ns Free → length ns ≡ seats
      → get_elem? slots 0 ≡ some o → o ≡ Some w → AllSo w ns
  unfolding value_or
  ended_with words slots id d ns o w fin is all got out = let z = ended words slots id d ns o fin is all got in subst (λ v. AllSo v ns) (ap (value_or w) (sym z.1 ∙ out)) z.2
