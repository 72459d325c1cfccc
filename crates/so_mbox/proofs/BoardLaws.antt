-- Who is listed on the boards, and for how many there is room, after each change.
use Rattle.std.proofs.Common.{◌≡◌, ℕ, zero, suc, ◌+◌, ◌-◌, ◌<◌, ◌≤◌, List, [], ◌∷◌, ◌++◌, length, replicate, length-append, get_or, Bool, true, false, not, ◌&&◌, ◌||◌, cond, Option, Some, None, arith, refl, sym, ◌∙◌, ap, inl, inr, get_or-set_same, get_or-set_other}
use Rattle.std.specs.Prelude.{slice_set, Result, Ok, Err, OnOk}
use Rattle.std.specs.List.{filter, list_any, position, position_or_len, slice_get}
use Rattle.std.proofs.Math.Dec.{eqb}
use Rattle.std.proofs.lemmas.Bool.{cases_eq, eqb-true, eqb-false, false_from_ne_true}
use Rattle.std.proofs.lemmas.Cmp.{nat_eq_equiv}
use Rattle.std.proofs.lemmas.List.{length_push, append-nil}
use Rattle.std.proofs.lemmas.List.Folds.{list_any-append}
use Rattle.std.proofs.lemmas.List.Elements.{filter-append, All-weaker}
use Rattle.so_lists.proofs.Any.{none-each_below}
use Rattle.so_lists.proofs.EachBelow.{each_below-next, each_below-none}
use Rattle.so_lists.proofs.Filters.{filter_keeps, each_passes}
use Rattle.std.proofs.lemmas.List.Quantifiers.{position-Some}
use Rattle.so_ids.specs.declared.AgentId.{AgentId}
use Rattle.so_ids.specs.declared.MboxId.{MboxId}
use Rattle.so_ids.specs.declared.MsgId.{MsgId}
use Rattle.so_state.specs.Choice.{is_for}
use Rattle.so_state.specs.declared.choice.Row.{Row}
use Rattle.so_state.specs.declared.choice.RowKind.TheVariants.{Run}
use Rattle.so_scene.specs.declared.parts.SceneParts.{SceneParts}
use Rattle.so_scene.specs.Checked.{IsScene, IsRow}
use Rattle.so_scene.specs.Parts.{agents_from, mboxes, rows_of, agent_of, no_agent}
use Rattle.so_mbox.specs.Table.{same_agent, has_row}
use Rattle.so_mbox.specs.Boards.{Listing, none_listed, with_agents, with_room, is_of, IsAbsent, looked_up, agents_in, room_in, listed, room_of, IsListedAt, is_type, listed_at, AreWithin, once, agents_below, holders, is_it, is_last, noted}

-- ---- one board

cond_kept : {X : Type 0} (b : Bool) (x y : X) → (b ≡ true → x ≡ y) → cond b x y ≡ y
cond_kept true x y e = e refl
cond_kept false x y e = refl

absent_case : (msg : MsgId) (x : Listing) (xs : List Listing) (b : Bool) → is_of msg x ≡ b → (length xs ≤ position_or_len (is_of msg) xs → IsAbsent msg xs) → suc (length xs) ≤ cond (not b) (1 + position_or_len (is_of msg) xs) 0 → (b ≡ false) × IsAbsent msg xs
absent_case msg x xs true e h l = absurd (omega (arith, l))
absent_case msg x xs false e h l = (refl, h (omega (arith, l)))

absent_by : (msg : MsgId) (xs : List Listing) → length xs ≤ position_or_len (is_of msg) xs → IsAbsent msg xs
absent_by msg [] l = tt
absent_by msg (x ∷ xs) l = absent_case msg x xs (is_of msg x) refl (absent_by msg xs) l

pub absent : (msg : MsgId) (xs : List Listing) → position (is_of msg) xs ≡ None → IsAbsent msg xs
absent msg xs e = absent_by msg xs (grind arith)

pub not_some : (o : Option ℕ) → ((k : ℕ) → o ≡ Some k → ⊥) → o ≡ None
not_some None h = refl
not_some (Some k) h = absurd (h k refl)

pub none_found : {X : Type 0} (f : Listing → X) (d : X) (msg : MsgId) (xs : List Listing) → IsAbsent msg xs → looked_up f d xs msg ≡ d
none_found f d msg [] a = refl
none_found f d msg (x ∷ xs) a = rw (a.0) (none_found f d msg xs a.1)

pub stands_last : (msg : MsgId) (xs : List Listing) (y : Listing) → IsAbsent msg xs → is_of msg y ≡ true → IsListedAt msg (xs ++ y ∷ []) (length xs)
stands_last msg [] y a e = e
stands_last msg (x ∷ xs) y a e = (a.0, stands_last msg xs y a.1 e)

stands_by : (msg : MsgId) (xs : List Listing) (k : ℕ) → k < length xs → ((d : Listing) → is_of msg (get_or xs k d) ≡ true) → ((d : Listing) (j : ℕ) → j < k → is_of msg (get_or xs j d) ≡ false) → IsListedAt msg xs k
stands_by msg [] k l here before = absurd (omega (arith, l))
stands_by msg (x ∷ xs) zero l here before = here x
stands_by msg (x ∷ xs) (suc k) l here before = (before x 0 (omega arith), stands_by msg xs k (omega (arith, l)) here (λ d j m. before d (suc j) (omega (arith, m))))

pub stands_at : (msg : MsgId) (xs : List Listing) (k : ℕ) → position (is_of msg) xs ≡ Some k → IsListedAt msg xs k
stands_at msg xs k e =
    stands_by msg xs k (position-Some (is_of msg) xs k (none_listed msg) e).0
    (λ d. (position-Some (is_of msg) xs k d e).1)
    (λ d j l. (position-Some (is_of msg) xs k d e).2 j l)

pub stands_within : (msg : MsgId) (xs : List Listing) (k : ℕ) → IsListedAt msg xs k → k < length xs
stands_within msg [] k s = elim s [ ]
stands_within msg (x ∷ xs) zero s = omega arith
stands_within msg (x ∷ xs) (suc k) s = let w = stands_within msg xs k s.1 in omega (arith, w)

pub found_there : {X : Type 0} (f : Listing → X) (d : X) (msg : MsgId) (xs : List Listing) (k : ℕ) (e : Listing) → IsListedAt msg xs k → looked_up f d xs msg ≡ f (get_or xs k e)
found_there f d msg [] k e s = elim s [ ]
found_there f d msg (x ∷ xs) zero e s = rw s refl
found_there f d msg (x ∷ xs) (suc k) e s = rw (s.0) (found_there f d msg xs k e s.1)

cond_twice : {X : Type 0} (b : Bool) (x y z : X) → cond b x z ≡ cond b x (cond b y z)
cond_twice true x y z = refl
cond_twice false x y z = refl

cond_swap : {X : Type 0} (a b : Bool) (x y z : X) → (a ≡ true → b ≡ false) → cond b x (cond a y z) ≡ cond a y (cond b x z)
cond_swap true b x y z h = rw (h refl) refl
cond_swap false b x y z h = refl

other_type : (n k m : ℕ) → eqb n k ≡ false → eqb k m ≡ true → eqb n m ≡ false
other_type n k m e f = let s : k ≡ m = eqb-true k m f in rw (← s) e

-- the listing there, of the same type, is another
pub found_put : {X : Type 0} (f : Listing → X) (d : X) (msg m : MsgId) (xs : List Listing) (k : ℕ) (y : Listing) → y.msg ≡ msg → IsListedAt msg xs k →
    looked_up f d (slice_set xs k y) m ≡ cond (is_type msg m) (f y) (looked_up f d xs m)
found_put f d msg m [] k y e s = elim s [ ]
found_put f d msg m (x ∷ xs) zero y e s =
    let same : x.msg.0 ≡ msg.0 = eqb-true x.msg.0 msg.0 s in
    ap (λ n. cond (eqb n.0 m.0) (f y) (looked_up f d xs m)) e ∙
    (cond_twice (is_type msg m) (f y) (f x) (looked_up f d xs m) ∙
    ap (λ n. cond (is_type msg m) (f y) (cond (eqb n m.0) (f x) (looked_up f d xs m))) (sym same))
found_put f d msg m (x ∷ xs) (suc k) y e s =
    ap (λ r. cond (is_of m x) (f x) r) (found_put f d msg m xs k y e s.1) ∙
    cond_swap (is_type msg m) (is_of m x) (f x) (f y) (looked_up f d xs m) (λ t. other_type x.msg.0 msg.0 m.0 s.0 t)

same_case : {X : Type 0} (g : MsgId → X) (msg m : MsgId) (b : Bool) → is_type msg m ≡ b → cond b (g msg) (g m) ≡ g m
same_case g msg m true e = let s : msg.0 ≡ m.0 = eqb-true msg.0 m.0 e in ap (λ n. g (record { 0 = n })) s
same_case g msg m false e = refl

-- and has the same there
pub found_same : {X : Type 0} (f : Listing → X) (d : X) (msg m : MsgId) (xs : List Listing) (k : ℕ) (y : Listing) → y.msg ≡ msg → f y ≡ looked_up f d xs msg → IsListedAt msg xs k →
    looked_up f d (slice_set xs k y) m ≡ looked_up f d xs m
found_same f d msg m xs k y e same s = found_put f d msg m xs k y e s ∙ (ap (λ v. cond (is_type msg m) v (looked_up f d xs m)) same ∙ same_case (looked_up f d xs) msg m (is_type msg m) refl)

type_there : (msg : MsgId) (xs : List Listing) (k : ℕ) (x : Listing) → IsListedAt msg xs k → x ≡ get_or xs k x → x.msg ≡ msg
type_there msg [] k x s e = elim s [ ]
type_there msg (z ∷ xs) zero x s e = let same : z.msg.0 ≡ msg.0 = eqb-true z.msg.0 msg.0 s in ap (λ (l : Listing). l.msg) e ∙ ap (λ n. record { 0 = n }) same
type_there msg (z ∷ xs) (suc k) x s e = type_there msg xs k x s.1 e

-- the agents of the listing there are others, or there is room for one more
type_case : {X : Type 0} (h : X → X) (g : MsgId → X) (msg m : MsgId) (b : Bool) → is_type msg m ≡ b → cond b (h (g msg)) (g m) ≡ cond b (h (g m)) (g m)
type_case h g msg m true e = ap (λ n. h (g (record { 0 = n }))) (eqb-true msg.0 m.0 e)
type_case h g msg m false e = refl

pub put_agents : (h : List AgentId → List AgentId) (msg : MsgId) (xs : List Listing) (k : ℕ) (x y : Listing) → IsListedAt msg xs k → x ≡ get_or xs k x → y ≡ with_agents (h x.agents) x → (m : MsgId) →
    listed (slice_set xs k y) m ≡ cond (is_type msg m) (h (listed xs m)) (listed xs m)
put_agents h msg xs k x y s e is m =
    found_put agents_in [] msg m xs k y (ap (λ (l : Listing). l.msg) is ∙ type_there msg xs k x s e) s ∙
    (ap (λ a. cond (is_type msg m) a (listed xs m)) (ap (λ (l : Listing). l.agents) is ∙ ap h (ap (λ (l : Listing). l.agents) e ∙ sym (found_there agents_in [] msg xs k x s))) ∙
    type_case h (listed xs) msg m (is_type msg m) refl)

pub same_room : (msg : MsgId) (agents : List AgentId) (xs : List Listing) (k : ℕ) (x y : Listing) → IsListedAt msg xs k → x ≡ get_or xs k x → y ≡ with_agents agents x → (m : MsgId) →
    room_of (slice_set xs k y) m ≡ room_of xs m
same_room msg agents xs k x y s e is m =
    found_same room_in 0 msg m xs k y (ap (λ (l : Listing). l.msg) is ∙ type_there msg xs k x s e) (ap (λ (l : Listing). l.room) is ∙ (ap (λ (l : Listing). l.room) e ∙ sym (found_there room_in 0 msg xs k x s))) s

pub put_room : (msg : MsgId) (xs : List Listing) (k : ℕ) (x y : Listing) → IsListedAt msg xs k → x ≡ get_or xs k x → y ≡ with_room (x.room + 1) x → (m : MsgId) →
    room_of (slice_set xs k y) m ≡ cond (is_type msg m) (room_of xs m + 1) (room_of xs m)
put_room msg xs k x y s e is m =
    found_put room_in 0 msg m xs k y (ap (λ (l : Listing). l.msg) is ∙ type_there msg xs k x s e) s ∙
    (ap (λ a. cond (is_type msg m) a (room_of xs m)) (ap (λ (l : Listing). l.room) is ∙ ap (λ n. n + 1) (ap (λ (l : Listing). l.room) e ∙ sym (found_there room_in 0 msg xs k x s))) ∙
    type_case (λ n. n + 1) (room_of xs) msg m (is_type msg m) refl)

pub same_agents : (msg : MsgId) (xs : List Listing) (k : ℕ) (x y : Listing) → IsListedAt msg xs k → x ≡ get_or xs k x → y ≡ with_room (x.room + 1) x → (m : MsgId) →
    listed (slice_set xs k y) m ≡ listed xs m
same_agents msg xs k x y s e is m =
    found_same agents_in [] msg m xs k y (ap (λ (l : Listing). l.msg) is ∙ type_there msg xs k x s e) (ap (λ (l : Listing). l.agents) is ∙ (ap (λ (l : Listing). l.agents) e ∙ sym (found_there agents_in [] msg xs k x s))) s

-- there
pub agents_there : (msg : MsgId) (xs : List Listing) (k : ℕ) (x : Listing) → IsListedAt msg xs k → x ≡ get_or xs k x → listed xs msg ≡ x.agents
agents_there msg xs k x s e = found_there agents_in [] msg xs k x s ∙ ap (λ (l : Listing). l.agents) (sym e)

pub room_there : (msg : MsgId) (xs : List Listing) (k : ℕ) (x : Listing) → IsListedAt msg xs k → x ≡ get_or xs k x → room_of xs msg ≡ x.room
room_there msg xs k x s e = found_there room_in 0 msg xs k x s ∙ ap (λ (l : Listing). l.room) (sym e)

-- where none is of the type, no agent is taken out
pub none_out : (p : AgentId → Bool) (msg : MsgId) (xs : List Listing) → IsAbsent msg xs → (m : MsgId) → listed xs m ≡ cond (is_type msg m) (filter p (listed xs m)) (listed xs m)
none_out p msg xs a m =
    sym (cond_kept (is_type msg m) (filter p (listed xs m)) (listed xs m) (λ t.
    let none : listed xs m ≡ [] = ap (λ n. listed xs (record { 0 = n })) (sym (eqb-true msg.0 m.0 t)) ∙ none_found agents_in [] msg xs a in
    ap (filter p) none ∙ sym none))

pub no_room : (msg : MsgId) (xs : List Listing) → IsAbsent msg xs → length (listed xs msg) < room_of xs msg → ⊥
no_room msg xs a l = let none : room_of xs msg ≡ 0 = none_found room_in 0 msg xs a in omega (arith, l, none)

pub on_ok : {A B : Type 0} {P Q : Type 0} (r : Result A B) → OnOk r P → (P → Q) → OnOk r Q
on_ok (Ok x) p h = h p
on_ok (Err x) p h = tt

-- one more, of which there is none yet
cond_both : {X : Type 0} (b : Bool) (x y : X) → x ≡ y → cond b x y ≡ y
cond_both true x y e = e
cond_both false x y e = refl

pub found_more : {X : Type 0} (f : Listing → X) (d : X) (m : MsgId) (xs : List Listing) (y : Listing) → f y ≡ d → looked_up f d (xs ++ y ∷ []) m ≡ looked_up f d xs m
found_more f d m [] y e = cond_both (is_of m y) (f y) d e
found_more f d m (x ∷ xs) y e = ap (λ r. cond (is_of m x) (f x) r) (found_more f d m xs y e)

-- ---- all boards

-- the board of a row's mbox is another, on which the list of the row's type has changed
mbox_case : {X : Type 0} (f : Listing → X) (d : X) (h : X → X) (boards : List (List Listing)) (row : Row) (board : List Listing) (mbox : MboxId) (msg : MsgId) → row.mbox.0 < length boards →
    ((m : MsgId) → looked_up f d board m ≡ cond (is_type row.msg m) (h (looked_up f d (get_or boards row.mbox.0 []) m)) (looked_up f d (get_or boards row.mbox.0 []) m)) →
    (b : Bool) → eqb row.mbox.0 mbox.0 ≡ b →
    looked_up f d (get_or (slice_set boards row.mbox.0 board) mbox.0 []) msg ≡ cond (b && is_type row.msg msg) (h (looked_up f d (get_or boards mbox.0 []) msg)) (looked_up f d (get_or boards mbox.0 []) msg)
mbox_case f d h boards row board mbox msg l e true t =
    let same : row.mbox.0 ≡ mbox.0 = eqb-true row.mbox.0 mbox.0 t in
    ap (λ n. looked_up f d (get_or (slice_set boards row.mbox.0 board) n []) msg) (sym same) ∙
    (ap (λ x. looked_up f d x msg) (get_or-set_same boards row.mbox.0 board [] l) ∙
    (e msg ∙
    ap (λ n. cond (is_type row.msg msg) (h (looked_up f d (get_or boards n []) msg)) (looked_up f d (get_or boards n []) msg)) same))
mbox_case f d h boards row board mbox msg l e false t =
    ap (λ x. looked_up f d x msg) (get_or-set_other boards row.mbox.0 mbox.0 board [] (λ same. eqb-false row.mbox.0 mbox.0 t (sym same)))

pub there : {X : Type 0} (xs : List X) (i : ℕ) (x d : X) → i < length xs → x ≡ get_or xs i x → x ≡ get_or xs i d
there [] i x d l e = absurd (omega (arith, l))
there (y ∷ xs) zero x d l e = e
there (y ∷ xs) (suc i) x d l e = there xs i x d (omega (arith, l)) e

pub changed_at : {X : Type 0} (f : Listing → X) (d : X) (h : X → X) (boards : List (List Listing)) (row : Row) (x board : List Listing) → row.mbox.0 < length boards → x ≡ get_or boards row.mbox.0 x →
    ((m : MsgId) → looked_up f d board m ≡ cond (is_type row.msg m) (h (looked_up f d x m)) (looked_up f d x m)) → (mbox : MboxId) (msg : MsgId) →
    looked_up f d (get_or (slice_set boards row.mbox.0 board) mbox.0 []) msg ≡ cond (is_for mbox msg row) (h (looked_up f d (get_or boards mbox.0 []) msg)) (looked_up f d (get_or boards mbox.0 []) msg)
changed_at f d h boards row x board l is e mbox msg =
    let old = there boards row.mbox.0 x [] l is in
    mbox_case f d h boards row board mbox msg l (λ m. e m ∙ ap (λ y. cond (is_type row.msg m) (h (looked_up f d y m)) (looked_up f d y m)) old) (eqb row.mbox.0 mbox.0) refl

-- or nothing has
pub same_at : {X : Type 0} (f : Listing → X) (d : X) (boards : List (List Listing)) (i : ℕ) (x board : List Listing) → i < length boards → x ≡ get_or boards i x →
    ((m : MsgId) → looked_up f d board m ≡ looked_up f d x m) → (mbox : MboxId) (msg : MsgId) →
    looked_up f d (get_or (slice_set boards i board) mbox.0 []) msg ≡ looked_up f d (get_or boards mbox.0 []) msg
same_at f d boards i x board l is e mbox msg =
    let old = there boards i x [] l is in
    elim (cases_eq mbox.0 i) [
      | inl same ↦ rw (same, get_or-set_same boards i board [] l) (e msg ∙ ap (λ y. looked_up f d y msg) old)
      | inr other ↦ ap (λ x. looked_up f d x msg) (get_or-set_other boards i mbox.0 board [] other)
    ]

pub here_now : {X : Type 0} (g : List Listing → X) (boards : List (List Listing)) (i : ℕ) (x : List Listing) → i < length boards → x ≡ get_or boards i x → g x ≡ g (get_or boards i [])
here_now g boards i x l is = ap g (there boards i x [] l is)

pub nothing_there : (boards : List (List Listing)) (i : ℕ) (x : List Listing) (msg : MsgId) → i < length boards → x ≡ get_or boards i x → listed (get_or boards i []) msg ≡ [] → listed x msg ≡ []
nothing_there boards i x msg l is e = ap (λ y. listed y msg) (there boards i x [] l is) ∙ e

pub room_there_at : (boards : List (List Listing)) (i : ℕ) (x : List Listing) (msg : MsgId) → i < length boards → x ≡ get_or boards i x → length (listed (get_or boards i []) msg) < room_of (get_or boards i []) msg → length (listed x msg) < room_of x msg
room_there_at boards i x msg l is e = rw (there boards i x [] l is) e

-- the row is for messages of this type from this mbox
for_both : (a b : Bool) → (a && b) ≡ true → (a ≡ true) × (b ≡ true)
for_both true b e = (refl, e)
for_both false b e = absurd cc

pub for_this : {X : Type 0} (g : MboxId → MsgId → X) (mbox : MboxId) (msg : MsgId) (row : Row) → is_for mbox msg row ≡ true → g row.mbox row.msg ≡ g mbox msg
for_this g mbox msg row e =
    let both = for_both (eqb row.mbox.0 mbox.0) (eqb row.msg.0 msg.0) e in
    ap (λ n. g (record { 0 = n }) row.msg) (eqb-true row.mbox.0 mbox.0 both.0) ∙ ap (λ n. g mbox (record { 0 = n })) (eqb-true row.msg.0 msg.0 both.1)

pub noted_by : (a : AgentId) (xs : List AgentId) (b : Bool) → is_last a xs ≡ b → noted a xs ≡ cond b xs (xs ++ a ∷ [])
noted_by a xs b e = rw e refl

cond_alike : {X : Type 0} (b : Bool) (x y z : X) → (b ≡ true → x ≡ y) → cond b x z ≡ cond b y z
cond_alike true x y z e = e refl
cond_alike false x y z e = refl

-- where the agent is the last, nothing changes
pub noted_there : (a : AgentId) (boards : List (List Listing)) (row : Row) (mbox : MboxId) (msg : MsgId) → is_last a (listed_at boards row.mbox row.msg) ≡ true →
    listed_at boards mbox msg ≡ cond (is_for mbox msg row) (noted a (listed_at boards mbox msg)) (listed_at boards mbox msg)
noted_there a boards row mbox msg e =
    sym (cond_kept (is_for mbox msg row) (noted a (listed_at boards mbox msg)) (listed_at boards mbox msg)
    (λ t. noted_by a (listed_at boards mbox msg) true (sym (for_this (λ m n. is_last a (listed_at boards m n)) mbox msg row t) ∙ e)))

pub noted_anew : (a : AgentId) (boards : List (List Listing)) (row : Row) (mbox : MboxId) (msg : MsgId) → is_last a (listed_at boards row.mbox row.msg) ≡ false →
    cond (is_for mbox msg row) (listed_at boards mbox msg ++ a ∷ []) (listed_at boards mbox msg) ≡ cond (is_for mbox msg row) (noted a (listed_at boards mbox msg)) (listed_at boards mbox msg)
noted_anew a boards row mbox msg e =
    cond_alike (is_for mbox msg row) (listed_at boards mbox msg ++ a ∷ []) (noted a (listed_at boards mbox msg)) (listed_at boards mbox msg)
    (λ t. sym (noted_by a (listed_at boards mbox msg) false (sym (for_this (λ m n. is_last a (listed_at boards m n)) mbox msg row t) ∙ e)))

-- ---- the last

either_true : (b : Bool) → (b || true) ≡ true
either_true true = refl
either_true false = refl

pub any_at : {X : Type 0} (p : X → Bool) (xs : List X) (j : ℕ) (x : X) → slice_get xs j ≡ Some x → p x ≡ true → list_any p xs ≡ true
any_at p [] j x e t = absurd cc
any_at p (y ∷ xs) zero x e t = let s : y ≡ x = cc in rw (s, t) refl
any_at p (y ∷ xs) (suc j) x e t = rw (any_at p xs j x e t) (either_true (p y))

pushed_at : (xs : List AgentId) (a : AgentId) (j : ℕ) → j ≡ length xs → slice_get (xs ++ a ∷ []) j ≡ Some a
pushed_at [] a zero e = refl
pushed_at [] a (suc j) e = absurd (omega (arith, e))
pushed_at (x ∷ xs) a zero e = absurd (omega (arith, e))
pushed_at (x ∷ xs) a (suc j) e = pushed_at xs a j (omega (arith, e))

pub last_pushed : (a : AgentId) (xs : List AgentId) → is_last a (xs ++ a ∷ []) ≡ true
last_pushed a xs = ap (is_it a) (pushed_at xs a (length (xs ++ a ∷ []) - 1) (let l = length_push xs a in omega (arith, l))) ∙ nat_eq_equiv.refl a.0

pub different : (b : Bool) → b ≡ true → b ≡ false → ⊥
different b t f = absurd cc

not_last : (a : AgentId) (xs : List AgentId) (o : Option AgentId) → slice_get xs (length xs - 1) ≡ o → list_any (same_agent a) xs ≡ false → is_it a o ≡ false
not_last a xs None e n = refl
not_last a xs (Some x) e n = false_from_ne_true (same_agent a x) (λ t. different (list_any (same_agent a) xs) (any_at (same_agent a) xs (length xs - 1) x e t) n)

pub last_none : (a : AgentId) (xs : List AgentId) → list_any (same_agent a) xs ≡ false → is_last a xs ≡ false
last_none a xs n = not_last a xs (slice_get xs (length xs - 1)) refl n

-- ---- row by row

-- the row that a loop over rows names past their end
abbrev pub blank : Row
blank = record { mbox = record { 0 = 0 }; msg = record { 0 = 0 }; state = record { 0 = 0 }; kind = Run; safe = false; active = false }

-- a row more makes room for one more
pub grow_step : (old cur new : ℕ) (before here : Bool) → old + once before ≤ cur → new ≡ cond here (cur + 1) cur → old + once (before || here) ≤ new
grow_step old cur new true true l e = omega (arith, l, e)
grow_step old cur new true false l e = omega (arith, l, e)
grow_step old cur new false true l e = omega (arith, l, e)
grow_step old cur new false false l e = omega (arith, l, e)

-- or lists the agent, if it isn't listed
pub enter_step : (a : AgentId) (old cur new : List AgentId) (before here : Bool) → (here ≡ true → list_any (same_agent a) old ≡ false) → cur ≡ old ++ cond before (a ∷ []) [] → new ≡ cond here (noted a cur) cur →
    new ≡ old ++ cond (before || here) (a ∷ []) []
enter_step a old cur new true true n e f = f ∙ (noted_by a cur true (ap (is_last a) e ∙ last_pushed a old) ∙ e)
enter_step a old cur new true false n e f = f ∙ e
enter_step a old cur new false true n e f =
    let same : cur ≡ old = e ∙ append-nil old in
    f ∙ (noted_by a cur false (ap (is_last a) same ∙ last_none a old (n refl)) ∙ ap (λ xs. xs ++ a ∷ []) same)
enter_step a old cur new false false n e f = f ∙ e

-- there is room where it isn't listed yet
pub note_room : (a : AgentId) (old cur : List AgentId) (before : Bool) (room now : ℕ) → cur ≡ old ++ cond before (a ∷ []) [] → now ≡ room → length old < room → is_last a cur ≡ false → length cur < now
note_room a old cur true room now e f l none = absurd (different (is_last a cur) (ap (is_last a) e ∙ last_pushed a old) none)
note_room a old cur false room now e f l none = let same : length cur ≡ length old = ap length (e ∙ append-nil old) in omega (arith, same, f, l)

pub for_itself : (row : Row) → is_for row.mbox row.msg row ≡ true
for_itself row = rw (nat_eq_equiv.refl row.mbox.0, nat_eq_equiv.refl row.msg.0) refl

-- or takes agents out
pub leave_step : (p : AgentId → Bool) (old cur new : List AgentId) (before here : Bool) → cur ≡ cond before (filter p old) old → new ≡ cond here (filter p cur) cur → new ≡ cond (before || here) (filter p old) old
leave_step p old cur new true true e f = f ∙ (ap (filter p) e ∙ filter_keeps p (filter p old) (each_passes p old))
leave_step p old cur new true false e f = f ∙ e
leave_step p old cur new false true e f = f ∙ ap (filter p) e
leave_step p old cur new false false e f = f ∙ e

-- what a row is for is in the range of its own mbox
pub for_within : (n : ℕ) (mbox : MboxId) (msg : MsgId) (row : Row) → is_for mbox msg row ≡ true → row.mbox.0 < n → mbox.0 < n
for_within n mbox msg row e l = let same : row.mbox.0 ≡ mbox.0 = eqb-true row.mbox.0 mbox.0 (for_both (eqb row.mbox.0 mbox.0) (eqb row.msg.0 msg.0) e).0 in omega (arith, same, l)

-- ---- agent by agent

abbrev pub agent_at : ℕ → AgentId
agent_at k = record { 0 = k }

holder_case : (s : SceneParts) (mbox : MboxId) (msg : MsgId) (agents : List AgentId) (a : AgentId) (b : Bool) → has_row s mbox msg a ≡ b → length (filter (has_row s mbox msg) (agents ++ a ∷ [])) ≡ length (filter (has_row s mbox msg) agents) + once b
holder_case s mbox msg agents a true e = ap length (filter-append (has_row s mbox msg) agents (a ∷ [])) ∙ (length-append (filter (has_row s mbox msg) agents) (filter (has_row s mbox msg) (a ∷ [])) ∙ rw e refl)
holder_case s mbox msg agents a false e = ap length (filter-append (has_row s mbox msg) agents (a ∷ [])) ∙ (length-append (filter (has_row s mbox msg) agents) (filter (has_row s mbox msg) (a ∷ [])) ∙ rw e refl)

pub holders-next : (s : SceneParts) (mbox : MboxId) (msg : MsgId) (k : ℕ) → holders s mbox msg (k + 1) ≡ holders s mbox msg k + once (has_row s mbox msg (agent_at k))
holders-next s mbox msg k =
    ap (λ agents. length (filter (has_row s mbox msg) agents)) (each_below-next agent_at k) ∙ holder_case s mbox msg (agents_below k) (agent_at k) (has_row s mbox msg (agent_at k)) refl

pub holders-none : (s : SceneParts) (mbox : MboxId) (msg : MsgId) → holders s mbox msg 0 ≡ 0
holders-none s mbox msg = ap (λ agents. length (filter (has_row s mbox msg) agents)) (each_below-none agent_at)

abbrev pub nth_from : AgentId → ℕ → AgentId
nth_from first k = record { 0 = first.0 + k }

or_false : (b : Bool) → (b || false) ≡ b
or_false true = refl
or_false false = refl

pub any-next : (p : AgentId → Bool) (first : AgentId) (k : ℕ) → list_any p (agents_from first (k + 1)) ≡ (list_any p (agents_from first k) || p (nth_from first k))
any-next p first k = ap (list_any p) (each_below-next (nth_from first) k) ∙ (list_any-append p (agents_from first k) (nth_from first k ∷ []) ∙ ap (λ b. list_any p (agents_from first k) || b) (or_false (p (nth_from first k))))

pub any-none : (p : AgentId → Bool) (first : AgentId) → list_any p (agents_from first 0) ≡ false
any-none p first = none-each_below p (nth_from first)

-- nothing stands on empty boards
pub nothing_on : (n k : ℕ) (msg : MsgId) → listed (get_or (replicate n []) k []) msg ≡ []
nothing_on zero k msg = refl
nothing_on (suc n) zero msg = refl
nothing_on (suc n) (suc k) msg = nothing_on n k msg

-- the rows of an agent are of mboxes of the scene
pub rows_within : (s : SceneParts) (a : AgentId) → IsScene s → a.0 < length s.agents → AreWithin (mboxes s) (rows_of s a)
rows_within s a is l = All-weaker (IsRow s (length (agent_of s a).tree)) (λ row. row.mbox.0 < mboxes s) (λ row r. r.mbox) (rows_of s a) (is.agents a.0 no_agent l).rows
