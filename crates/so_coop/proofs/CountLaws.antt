-- What the counts of a table say, and how they change.
use Rattle.std.proofs.Common.{◌≡◌, ℕ, zero, suc, ◌+◌, ◌<◌, ◌≤◌, List, [], ◌∷◌, ◌++◌, length, get_or, replicate, Bool, true, false, ◌&&◌, cond, Option, Some, None, count_by, arith, refl, sym, ◌∙◌, ap, inl, inr, get_or-set_same, get_or-set_other}
use Rattle.std.specs.Prelude.{slice_set, is_some, IfSome, nat_lt}
use Rattle.std.specs.List.{AllByRecursion, list_any}
use Rattle.std.proofs.lemmas.Bool.{cases_eq, false≢true}
use Rattle.std.proofs.lemmas.Cmp.{nat_eq_equiv}
use Rattle.std.proofs.lemmas.List.{length-replicate, get_or-replicate}
use Rattle.std.proofs.lemmas.List.Sums.{sum_by-set, sum_by_push, count_by-le-length}
use Rattle.so_state.proofs.Lists.{count_by-none}
use Rattle.so_lists.specs.Lists.{each_below, or_else}
use Rattle.so_lists.proofs.Counts.{none-counted}
use Rattle.so_lists.proofs.Distinct.{passes_none}
use Rattle.so_lists.proofs.Any.{any-each_below}
use Rattle.so_lists.proofs.EachBelow.{length-each_below, get_or-each_below, all-each_below, each_below-none, each_below-next}
use Rattle.so_lists.proofs.First.{first_below-none}
use Rattle.so_ids.specs.declared.AgentId.{AgentId}
use Rattle.so_ids.specs.declared.CoopId.{CoopId}
use Rattle.so_ids.specs.declared.DefFault.{DefFault}
use Rattle.so_ids.specs.declared.Reason.{Reason}
use Rattle.so_scene.specs.declared.parts.SceneParts.{SceneParts}
use Rattle.so_scene.specs.Parts.{coop_of, no_coop}
use Rattle.so_scene.specs.Checked.{IsScene}
use Rattle.so_scene.specs.Definition.{definition_fault}
use Rattle.so_scene.specs.Cooperations.{coop_number, is_parent, is_child, has_child, parent_leaves, reason_unmarked, reason_of, leaving_at, leaving_next}
use Rattle.so_coop.specs.declared.coops.Coop.{Coop}
use Rattle.so_coop.specs.declared.counts.Counts.{Counts}
use Rattle.so_coop.specs.Coops.{CoopTable, absent, nobody, standing_at, standing, is_present, ended_at, left_next, with_coop}
use Rattle.so_coop.specs.Counts.{one, leaves, stays, is_marked, AreCounted, HaveChildren, fault_of, AreJudged}

-- ---- one of a list is another

one_is : (b : Bool) → cond b 1 0 ≡ one b
one_is true = refl
one_is false = refl

count-set : (p : Coop → Bool) (xs : List Coop) (i : ℕ) (y : Coop) → i < length xs → count_by p (slice_set xs i y) + one (p (get_or xs i absent)) ≡ count_by p xs + one (p y)
count-set p xs i y l =
    let s = sum_by-set (λ x. cond (p x) 1 0) xs i y absent l in
    let a = one_is (p (get_or xs i absent)) in
    let b = one_is (p y) in
    omega (arith, s, a, b)

pub some_counted : (p : Coop → Bool) (xs : List Coop) (i : ℕ) → p absent ≡ false → i < length xs → p (get_or xs i absent) ≡ true → 0 < count_by p xs
some_counted p xs i a l t =
    let s = count-set p xs i absent l in
    let x : one (p (get_or xs i absent)) ≡ 1 = ap one t in
    let y : one (p absent) ≡ 0 = ap one a in
    omega (arith, s, x, y)

pub few_counted : (p : Coop → Bool) (xs : List Coop) (n m : ℕ) → n ≡ count_by p xs → length xs ≤ m → n ≤ m
few_counted p xs n m e l = let c = count_by-le-length p xs in omega (arith, c, e, l)

pub counted_anew : (p : Coop → Bool) (xs : List Coop) (i n m : ℕ) (y : Coop) → i < length xs → n ≡ count_by p xs → m + one (p (get_or xs i absent)) ≡ n + one (p y) → m ≡ count_by p (slice_set xs i y)
counted_anew p xs i n m y l e f = let s = count-set p xs i y l in omega (arith, s, e, f)

pub all_counted : (xs : List Coop) (i : ℕ) (old y : Coop) (n m : Counts) → i < length xs → old ≡ get_or xs i absent → AreCounted xs n →
    m.present + one (is_present old) ≡ n.present + one (is_present y) → m.leaving + one (leaves old) ≡ n.leaving + one (leaves y) →
    m.staying + one (stays old) ≡ n.staying + one (stays y) → m.marked + one (is_marked old) ≡ n.marked + one (is_marked y) → AreCounted (slice_set xs i y) m
all_counted xs i old y n m l is k a b c d = record {
  present = counted_anew is_present xs i n.present m.present y l k.present (rw (← is) a);
  leaving = counted_anew leaves xs i n.leaving m.leaving y l k.leaving (rw (← is) b);
  staying = counted_anew stays xs i n.staying m.staying y l k.staying (rw (← is) c);
  marked = counted_anew is_marked xs i n.marked m.marked y l k.marked (rw (← is) d);
}

none_at_first : (p : Coop → Bool) (n : ℕ) → p absent ≡ false → count_by p (replicate n absent) ≡ 0
none_at_first p n e = count_by-none p (replicate n absent) (none_passes_there n)
  where
    none_passes_there : (m : ℕ) → list_any p (replicate m absent) ≡ false
    none_passes_there zero = refl
    none_passes_there (suc m) = rw (e) (none_passes_there m)

pub counted_nobody : (n : ℕ) → AreCounted (replicate n absent) (record { present = 0; leaving = 0; staying = 0; marked = 0 })
counted_nobody n = record {
  present = sym (none_at_first is_present n refl);
  leaving = sym (none_at_first leaves n refl);
  staying = sym (none_at_first stays n refl);
  marked = sym (none_at_first is_marked n refl);
}

-- ---- of cooperations by number

count-next : (p : CoopId → Bool) (n : ℕ) → count_by p (each_below coop_number (suc n)) ≡ count_by p (each_below coop_number n) + one (p (coop_number n))
count-next p n =
    let more : suc n ≡ n + 1 = omega arith in
    ap (λ m. count_by p (each_below coop_number m)) more ∙ (ap (count_by p) (each_below-next coop_number n) ∙
    (sum_by_push (λ x. cond (p x) 1 0) (each_below coop_number n) (coop_number n) ∙ ap (λ m. count_by p (each_below coop_number n) + m) (one_is (p (coop_number n)))))

all_alike : (p q : CoopId → Bool) (n : ℕ) → ((j : ℕ) → j < n → q (coop_number j) ≡ p (coop_number j)) → count_by q (each_below coop_number n) ≡ count_by p (each_below coop_number n)
all_alike p q zero h = rw (each_below-none coop_number) refl
all_alike p q (suc n) h =
    let a = count-next p n in
    let b = count-next q n in
    let e = all_alike p q n (λ j l. h j (omega (arith, l))) in
    let f = ap one (h n (omega arith)) in
    omega (arith, a, b, e, f)

-- one of them is otherwise
one_apart : (p q : CoopId → Bool) (n k : ℕ) → k < n → ((j : ℕ) → (j ≡ k → ⊥) → q (coop_number j) ≡ p (coop_number j)) →
    count_by q (each_below coop_number n) + one (p (coop_number k)) ≡ count_by p (each_below coop_number n) + one (q (coop_number k))
one_apart p q zero k l h = absurd (omega (arith, l))
one_apart p q (suc n) k l h =
    let a = count-next p n in
    let b = count-next q n in
    elim (cases_eq k n) [
      | inl same ↦ (let e = all_alike p q n (λ j m. h j (λ f. omega (arith, f, same, m))) in rw (same) (omega (arith, a, b, e)))
      | inr other ↦
          (let e = one_apart p q n k (omega (arith, l, other)) h in
          let f = ap one (h n (λ g. other (sym g))) in
          omega (arith, a, b, e, f))
    ]

none_counted : (p : CoopId → Bool) (n k : ℕ) → k < n → p (coop_number k) ≡ true → count_by p (each_below coop_number n) ≡ 0 → ⊥
none_counted p n k l t e = false≢true (sym (passes_none p (each_below coop_number n) (none-counted p (each_below coop_number n) e)) ∙ any-each_below p coop_number n k l t)

pub child_counted : (p : CoopId → Bool) (n k : ℕ) → k < n → p (coop_number k) ≡ true → 0 < count_by p (each_below coop_number n)
child_counted p n k l t =
    elim (cases_eq (count_by p (each_below coop_number n)) 0) [
      | inl none ↦ absurd (none_counted p n k l t none)
      | inr some ↦ omega (arith, some)
    ]

pub few_children : (p : CoopId → Bool) (n : ℕ) → count_by p (each_below coop_number n) ≤ n
few_children p n = let c = count_by-le-length p (each_below coop_number n) in let l = length-each_below coop_number n in omega (arith, c, l)

other_stands : (t : CoopTable) (c : CoopId) (y : Coop) (j : ℕ) → (j ≡ c.0 → ⊥) → standing_at (with_coop c y t) (coop_number j) ≡ standing_at t (coop_number j)
other_stands t c y j other = get_or-set_other t.coops c.0 j y absent other

-- one cooperation stands in another way
pub children_anew : (t : CoopTable) (c : CoopId) (old y : Coop) (before after : List ℕ) → length t.coops ≡ length t.scene.coops → c.0 < length t.scene.coops → old ≡ standing_at t c → HaveChildren t before → length after ≡ length before →
    ((parent : CoopId) → parent.0 < length before → get_or after parent.0 0 + one (old.present && is_parent parent (coop_of t.scene c).parent) ≡ get_or before parent.0 0 + one (y.present && is_parent parent (coop_of t.scene c).parent)) →
    HaveChildren (with_coop c y t) after
children_anew t c old y before after size l is h e each = record {
  each = e ∙ h.each;
  count = λ parent m.
      let p = is_child t.scene (standing t false) parent in
      let q = is_child t.scene (standing (with_coop c y t) false) parent in
      let k = h.count parent m in
      let now = each parent (omega (arith, m, h.each)) in
      let apart = one_apart (is_child t.scene (standing t false) parent) (is_child t.scene (standing (with_coop c y t) false) parent) (length t.scene.coops) c.0 l
      (λ j other. ap (λ (b : Coop). b.present && is_parent parent (coop_of t.scene (coop_number j)).parent) (other_stands t c y j other)) in
      let was = ap (λ (b : Coop). one (b.present && is_parent parent (coop_of t.scene c).parent)) is in
      let new = ap (λ (b : Coop). one (b.present && is_parent parent (coop_of t.scene c).parent)) (get_or-set_same t.coops c.0 y absent (omega (arith, l, size))) in
      omega (arith, k, now, apart, was, new);
}

pub there : (xs : List Coop) (i : ℕ) (x : Coop) → i < length xs → x ≡ get_or xs i x → x ≡ get_or xs i absent
there [] i x l e = absurd (omega (arith, l))
there (y ∷ xs) zero x l e = e
there (y ∷ xs) (suc i) x l e = there xs i x (omega (arith, l)) e

-- what the parent has to do with it
pub parent_counts : (t : CoopTable) (c : CoopId) (old : Coop) (children : List ℕ) (parent : Option CoopId) → IsScene t.scene → c.0 < length t.scene.coops → old ≡ standing_at t c → HaveChildren t children → parent ≡ (coop_of t.scene c).parent →
    IfSome parent (λ p. (old.present ≡ true → 0 < get_or children p.0 0) × (get_or children p.0 0 ≤ 1024))
parent_counts t c old children None scene l is h e = tt
parent_counts t c old children (Some p) scene l is h e =
    let named = rw (← e) at (scene.coops c.0 no_coop l).parent in
    let count = h.count p named in
    let few = few_children (is_child t.scene (standing t false) p) (length t.scene.coops) in
    let most = scene.few_coops in (
      λ there. (let here : is_child t.scene (standing t false) p c ≡ true = rw (← is, there, ← e, nat_eq_equiv.refl p.0) refl in
          let some = child_counted (is_child t.scene (standing t false) p) (length t.scene.coops) c.0 l here in omega (arith, count, some)),
      omega (arith, count, few, most),
    )

number_there : (xs : List ℕ) (i x : ℕ) → i < length xs → x ≡ get_or xs i x → x ≡ get_or xs i 0
number_there [] i x l e = absurd (omega (arith, l))
number_there (y ∷ xs) zero x l e = e
number_there (y ∷ xs) (suc i) x l e = number_there xs i x (omega (arith, l)) e

no_children : (s : SceneParts) (c : CoopId) (k : ℕ) → k < length s.coops → is_child s (standing (nobody s) false) c (coop_number k) ≡ false
no_children s c k l = ap (λ (b : Coop). b.present && is_parent c (coop_of s (coop_number k)).parent) (get_or-replicate (length s.coops) k absent absent l)

pub children_nobody : (s : SceneParts) → HaveChildren (nobody s) (replicate (length s.coops) 0)
children_nobody s = record {
  each = length-replicate (length s.coops) 0;
  count = λ c l. get_or-replicate (length s.coops) c.0 0 0 l ∙ sym (count_by-none (is_child s (standing (nobody s) false) c) (each_below coop_number (length s.coops)) (passes_none (is_child s (standing (nobody s) false) c) (each_below coop_number (length s.coops)) (all-each_below (λ d. is_child s (standing (nobody s) false) c d ≡ false) coop_number (length s.coops) (λ k m. no_children s c k m))));
}

-- ---- who has a child

positive : (n : ℕ) → (n ≡ 0 → ⊥) → nat_lt 0 n ≡ true
positive zero h = absurd (h refl)
positive (suc n) h = grind arith

child_case : (p : CoopId → Bool) (n m : ℕ) (b : Bool) → list_any p (each_below coop_number n) ≡ b → m ≡ count_by p (each_below coop_number n) → nat_lt 0 m ≡ b
child_case p n m true e k = positive m (λ z. false≢true (sym (passes_none p (each_below coop_number n) (none-counted p (each_below coop_number n) (sym k ∙ z))) ∙ e))
child_case p n m false e k = rw (k, count_by-none p (each_below coop_number n) e) refl

pub child_told : (t : CoopTable) (children : List ℕ) (c : CoopId) (m : ℕ) → HaveChildren t children → c.0 < length t.scene.coops → m ≡ get_or children c.0 m → nat_lt 0 m ≡ has_child t.scene (standing t false) c
child_told t children c m h l is =
    child_case (is_child t.scene (standing t false) c) (length t.scene.coops) m (has_child t.scene (standing t false) c) refl (number_there children c.0 m (omega (arith, l, h.each)) is ∙ h.count c l)

-- ---- what was judged

pub judged_at : (s : SceneParts) (faults : List (Option DefFault)) (a : AgentId) (fault : Option DefFault) → AreJudged s faults → a.0 < length s.agents → fault ≡ get_or faults a.0 fault → fault ≡ definition_fault s a
judged_at s faults a fault e l is = is ∙ (ap (λ (fs : List (Option DefFault)). get_or fs a.0 fault) e ∙ get_or-each_below (fault_of s) (length s.agents) a.0 fault l)

pub many_judged : (s : SceneParts) (faults : List (Option DefFault)) → AreJudged s faults → length faults ≡ length s.agents
many_judged s faults e = ap length e ∙ length-each_below (fault_of s) (length s.agents)

pub judged_none : (s : SceneParts) (faults : List (Option DefFault)) → faults ≡ [] → faults ≡ each_below (fault_of s) 0
judged_none s faults e = e ∙ sym (each_below-none (fault_of s))

pub judged_next : (s : SceneParts) (k : ℕ) (faults : List (Option DefFault)) → faults ≡ each_below (fault_of s) k → faults ++ fault_of s k ∷ [] ≡ each_below (fault_of s) (k + 1)
judged_next s k faults e = ap (λ fs. fs ++ fault_of s k ∷ []) e ∙ sym (each_below-next (fault_of s) k)

-- ---- none passes

none_so : (p : Coop → Bool) (xs : List Coop) (i : ℕ) → p absent ≡ false → count_by p xs ≡ 0 → p (get_or xs i absent) ≡ false
none_so p xs i a e = each_so xs i (none-counted p xs e)
  where
    each_so : (ys : List Coop) (j : ℕ) → AllByRecursion (λ x. p x ≡ false) ys → p (get_or ys j absent) ≡ false
    each_so [] j all = a
    each_so (y ∷ ys) zero all = all.0
    each_so (y ∷ ys) (suc j) all = each_so ys j all.1

-- ---- where none is leaving, none has ended

none_ended : (t : CoopTable) → count_by leaves t.coops ≡ 0 → left_next t ≡ None
none_ended t e = first_below-none (ended_at t) (length t.scene.coops) (λ k l. rw (none_so leaves t.coops k refl e) refl)

pub ended_never : (t : CoopTable) (n : Counts) → AreCounted t.coops n → n.leaving ≡ 0 → None ≡ left_next t
ended_never t n k z = sym (none_ended t (sym k.leaving ∙ z))

-- ---- where none stays, or none is leaving or marked, none has a reason to leave

none_leaving : (t : CoopTable) (stopped : Bool) → ((k : ℕ) → reason_of t.scene (standing t stopped) (coop_number k) ≡ None) → leaving_next t.scene (standing t stopped) ≡ None
none_leaving t stopped h = first_below-none (leaving_at t.scene (standing t stopped)) (length t.scene.coops) (λ k l. rw (h k) refl)

pub none_stays : (t : CoopTable) (stopped : Bool) (n : Counts) → AreCounted t.coops n → n.staying ≡ 0 → None ≡ leaving_next t.scene (standing t stopped)
none_stays t stopped n k z = sym (none_leaving t stopped (λ j. rw (none_so stays t.coops j refl (sym k.staying ∙ z)) refl))

parent_stays : (t : CoopTable) (stopped : Bool) (parent : Option CoopId) → count_by leaves t.coops ≡ 0 → parent_leaves (standing t stopped) parent ≡ false
parent_stays t stopped None e = refl
parent_stays t stopped (Some p) e = none_so leaves t.coops p.0 refl e

unmarked : (t : CoopTable) (c : CoopId) → count_by leaves t.coops ≡ 0 → reason_unmarked t.scene (standing t false) c ≡ None
unmarked t c e = rw (parent_stays t false (coop_of t.scene c).parent e) refl

no_reason : (s : Bool) (mark : Option Reason) (rest : Option Reason) → (s && is_some mark) ≡ false → rest ≡ None → cond s (or_else mark rest) None ≡ None
no_reason true None rest e f = f
no_reason true (Some why) rest e f = absurd cc
no_reason false mark rest e f = refl

pub none_marked : (t : CoopTable) (n : Counts) → AreCounted t.coops n → n.leaving ≡ 0 → n.marked ≡ 0 → None ≡ leaving_next t.scene (standing t false)
none_marked t n k z m =
    sym (none_leaving t false (λ j. no_reason (stays (standing_at t (coop_number j))) (standing_at t (coop_number j)).mark _ (none_so is_marked t.coops j refl (sym k.marked ∙ m)) (unmarked t (coop_number j) (sym k.leaving ∙ z))))
