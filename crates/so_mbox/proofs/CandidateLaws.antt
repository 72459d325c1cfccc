-- Who is listed on the boards of a table, through each change.
use Rattle.std.proofs.Common.{◌≡◌, ℕ, ◌+◌, ◌<◌, ◌≤◌, List, [], ◌∷◌, ◌++◌, length, Bool, true, false, not, ◌&&◌, ◌||◌, cond, arith, refl, sym, ◌∙◌, ap, length-append, ◌⊎◌, inl, inr}
use Rattle.std.specs.Prelude.{zip}
use Rattle.std.specs.List.{All, AllByRecursion, IsDistinct, filter, list_any}
use Rattle.std.proofs.lemmas.Bool.{eqb-true, false_from_ne_true}
use Rattle.std.proofs.lemmas.Cmp.{nat_eq_equiv}
use Rattle.std.proofs.lemmas.List.Elements.{All-push, filter-append, recursion_from_All}
use Rattle.std.proofs.lemmas.Map.Made.{length-le_from_is_member}
use Rattle.so_lists.proofs.Any.{any-each_below}
use Rattle.so_lists.proofs.Filters.{filter_keeps, filter-swap, each-to_filter}
use Rattle.so_ids.specs.declared.AgentId.{AgentId}
use Rattle.so_ids.specs.declared.MboxId.{MboxId}
use Rattle.so_ids.specs.declared.MsgId.{MsgId}
use Rattle.so_state.specs.Choice.{is_for}
use Rattle.so_state.specs.declared.choice.Row.{Row}
use Rattle.so_scene.specs.declared.parts.SceneParts.{SceneParts}
use Rattle.so_scene.specs.Parts.{rows_of, mboxes}
use Rattle.so_scene.specs.Delivery.{takes_from, is_subscribed, receivers_among}
use Rattle.so_mbox.specs.Table.{Subscriptions, IsTable, IsAgentOf, same_agent, is_entered, is_none_of, has_row, candidates, receivers, nobody, active_rows, after_enter, departed}
use Rattle.so_mbox.specs.Boards.{Listing, listed_at, room_at, agents_below, holders, HaveRoom, AreListed}
use Rattle.so_mbox.proofs.BoardLaws.{agent_at, different}
use Rattle.so_mbox.proofs.TableLaws.{agents-laws, once-push, once-filter}

-- ---- among the agents of a list

same_one : (a b : AgentId) → same_agent a b ≡ true → a ≡ b
same_one a b e = ap (λ n. record { 0 = n }) (eqb-true a.0 b.0 e)

or_cases : (x y : Bool) → (x || y) ≡ true → (x ≡ true) ⊎ (y ≡ true)
or_cases true y e = inl refl
or_cases false y e = inr e

either : (x y : Bool) → y ≡ true → (x || y) ≡ true
either true y e = refl
either false y e = e

first_one : (x y : Bool) → x ≡ true → (x || y) ≡ true
first_one true y e = refl
first_one false y e = absurd cc

-- an agent that passes, and is there
pub passes_there : (q : AgentId → Bool) (a : AgentId) (xs : List AgentId) → q a ≡ true → list_any (same_agent a) xs ≡ true → list_any q xs ≡ true
passes_there q a [] t h = absurd cc
passes_there q a (x ∷ xs) t h =
    elim (or_cases (same_agent a x) (list_any (same_agent a) xs) h) [
      | inl same ↦ first_one (q x) (list_any q xs) (ap q (sym (same_one a x same)) ∙ t)
      | inr later ↦ either (q x) (list_any q xs) (passes_there q a xs t later)
    ]

filter_case : (q : AgentId → Bool) (a x : AgentId) (xs : List AgentId) (b : Bool) → q x ≡ b → q a ≡ true → list_any (same_agent a) (x ∷ xs) ≡ true → (list_any (same_agent a) xs ≡ true → list_any (same_agent a) (filter q xs) ≡ true) → list_any (same_agent a) (cond b (x ∷ filter q xs) (filter q xs)) ≡ true
filter_case q a x xs true e t h more =
    elim (or_cases (same_agent a x) (list_any (same_agent a) xs) h) [
      | inl same ↦ first_one (same_agent a x) (list_any (same_agent a) (filter q xs)) same
      | inr later ↦ either (same_agent a x) (list_any (same_agent a) (filter q xs)) (more later)
    ]
filter_case q a x xs false e t h more =
    elim (or_cases (same_agent a x) (list_any (same_agent a) xs) h) [
      | inl same ↦ absurd (different (q x) (ap q (sym (same_one a x same)) ∙ t) e)
      | inr later ↦ more later
    ]

there_filtered : (q : AgentId → Bool) (a : AgentId) (xs : List AgentId) → q a ≡ true → list_any (same_agent a) xs ≡ true → list_any (same_agent a) (filter q xs) ≡ true
there_filtered q a [] t h = h
there_filtered q a (x ∷ xs) t h = filter_case q a x xs (q x) refl t h (there_filtered q a xs t)

unfiltered_case : (q : AgentId → Bool) (a x : AgentId) (xs : List AgentId) (b : Bool) → q x ≡ b → list_any (same_agent a) (cond b (x ∷ filter q xs) (filter q xs)) ≡ true → (list_any (same_agent a) (filter q xs) ≡ true → (q a ≡ true) × (list_any (same_agent a) xs ≡ true)) → (q a ≡ true) × (list_any (same_agent a) (x ∷ xs) ≡ true)
unfiltered_case q a x xs true e h more =
    elim (or_cases (same_agent a x) (list_any (same_agent a) (filter q xs)) h) [
      | inl same ↦ (ap q (same_one a x same) ∙ e, first_one (same_agent a x) (list_any (same_agent a) xs) same)
      | inr later ↦ ((more later).0, either (same_agent a x) (list_any (same_agent a) xs) (more later).1)
    ]
unfiltered_case q a x xs false e h more = ((more h).0, either (same_agent a x) (list_any (same_agent a) xs) (more h).1)

unfiltered : (q : AgentId → Bool) (a : AgentId) (xs : List AgentId) → list_any (same_agent a) (filter q xs) ≡ true → (q a ≡ true) × (list_any (same_agent a) xs ≡ true)
unfiltered q a [] h = absurd cc
unfiltered q a (x ∷ xs) h = unfiltered_case q a x xs (q x) refl h (unfiltered q a xs)

pub absent_filtered : (q : AgentId → Bool) (a : AgentId) (xs : List AgentId) → list_any (same_agent a) xs ≡ false → list_any (same_agent a) (filter q xs) ≡ false
absent_filtered q a xs e = false_from_ne_true (list_any (same_agent a) (filter q xs)) (λ t. different (list_any (same_agent a) xs) (unfiltered q a xs t).1 e)

-- ---- so many at most

below_all : (n : ℕ) (a : AgentId) → a.0 < n → list_any (same_agent a) (agents_below n) ≡ true
below_all n a l = any-each_below (same_agent a) agent_at n a.0 l (nat_eq_equiv.refl a.0)

within_all : (n : ℕ) (a : AgentId) (xs : List AgentId) → AllByRecursion (λ x. x.0 < n) xs → list_any (same_agent a) xs ≡ true → a.0 < n
within_all n a [] all h = absurd cc
within_all n a (x ∷ xs) all h =
    elim (or_cases (same_agent a x) (list_any (same_agent a) xs) h) [
      | inl same ↦ (let e : a.0 ≡ x.0 = eqb-true a.0 x.0 same in let l = all.0 in omega (arith, e, l))
      | inr later ↦ within_all n a xs all.1 later
    ]

pub few_holders : (s : SceneParts) (mbox : MboxId) (msg : MsgId) (agents : List AgentId) → All (IsAgentOf s) agents → IsDistinct same_agent agents → length (filter (has_row s mbox msg) agents) ≤ holders s mbox msg (length s.agents)
few_holders s mbox msg agents all once =
    length-le_from_is_member agents-laws (filter (has_row s mbox msg) agents) (filter (has_row s mbox msg) (agents_below (length s.agents))) (once-filter (has_row s mbox msg) agents once)
    (λ a m.
    let both = unfiltered (has_row s mbox msg) a agents m in
    there_filtered (has_row s mbox msg) a (agents_below (length s.agents)) both.0 (below_all (length s.agents) a (within_all (length s.agents) a agents (recursion_from_All (IsAgentOf s) agents all) both.1)))

-- ---- one more is registered

filter_one : (q : AgentId → Bool) (a : AgentId) (order : List AgentId) → filter q (order ++ a ∷ []) ≡ filter q order ++ cond (q a) (a ∷ []) []
filter_one q a order = filter-append q order (a ∷ [])

longer : (b : Bool) (a : AgentId) (xs : List AgentId) → b ≡ true → length (xs ++ cond b (a ∷ []) []) ≡ length xs + 1
longer true a xs e = length-append xs (a ∷ []) ∙ refl
longer false a xs e = absurd cc

pub room_to_enter : (t : Subscriptions) (boards : List (List Listing)) (a : AgentId) → IsTable t → AreListed t boards → IsAgentOf t.scene a → is_entered t a ≡ false → (mbox : MboxId) (msg : MsgId) → mbox.0 < length boards →
    list_any (is_for mbox msg) (rows_of t.scene a) ≡ true → length (listed_at boards mbox msg) < room_at boards mbox msg
room_to_enter t boards a k l within new mbox msg here has =
    let q = has_row t.scene mbox msg in
    let inside : mbox.0 < mboxes t.scene = omega (arith, here, l.have_room.count) in
    let few = few_holders t.scene mbox msg (t.order ++ a ∷ []) (All-push (IsAgentOf t.scene) t.order a k.agents within) (once-push t.order a k.once new) in
    let more = ap length (filter_one (has_row t.scene mbox msg) a t.order) ∙ longer (has_row t.scene mbox msg a) a (filter (has_row t.scene mbox msg) t.order) has in
    let room = l.have_room.rooms mbox msg inside in
    let now = ap length (l.each mbox msg inside) in
    omega (arith, few, more, room, now)

pub new_there : (t : Subscriptions) (boards : List (List Listing)) (a : AgentId) → AreListed t boards → is_entered t a ≡ false → (mbox : MboxId) (msg : MsgId) → mbox.0 < length boards → list_any (same_agent a) (listed_at boards mbox msg) ≡ false
new_there t boards a l new mbox msg here =
    let inside : mbox.0 < mboxes t.scene = omega (arith, here, l.have_room.count) in
    ap (list_any (same_agent a)) (l.each mbox msg inside) ∙ absent_filtered (has_row t.scene mbox msg) a t.order new

-- what the boards keep
room_kept : (s : SceneParts) (n : ℕ) (old new : List (List Listing)) → HaveRoom s n old → length new ≡ length old → ((mbox : MboxId) (msg : MsgId) → room_at new mbox msg ≡ room_at old mbox msg) → HaveRoom s n new
room_kept s n old new h e same = record {
  count = e ∙ h.count;
  rooms = λ mbox msg within. let r = h.rooms mbox msg within in let f = same mbox msg in omega (arith, r, f);
}

pub listed-enter : (t : Subscriptions) (old new : List (List Listing)) (a : AgentId) → AreListed t old → length new ≡ length old →
    ((mbox : MboxId) (msg : MsgId) → listed_at new mbox msg ≡ listed_at old mbox msg ++ cond (list_any (is_for mbox msg) (rows_of t.scene a)) (a ∷ []) []) →
    ((mbox : MboxId) (msg : MsgId) → room_at new mbox msg ≡ room_at old mbox msg) → AreListed (after_enter a t) new
listed-enter t old new a l e agents rooms = record {
  have_room = room_kept t.scene (length t.scene.agents) old new l.have_room e rooms;
  each = λ mbox msg within.
      agents mbox msg ∙ (ap (λ xs. xs ++ cond (has_row t.scene mbox msg a) (a ∷ []) []) (l.each mbox msg within) ∙ sym (filter_one (has_row t.scene mbox msg) a t.order));
}

-- ---- so many leave

none_among : (q : AgentId → Bool) (agents : List AgentId) → list_any q agents ≡ false → (a : AgentId) → q a ≡ true → is_none_of agents a ≡ true
none_among q agents e a t = ap not (false_from_ne_true (list_any (same_agent a) agents) (λ h. different (list_any q agents) (passes_there q a agents t h) e))

each_passing : (q p : AgentId → Bool) → ((a : AgentId) → q a ≡ true → p a ≡ true) → (xs : List AgentId) → AllByRecursion (λ a. q a ≡ true → p a ≡ true) xs
each_passing q p h [] = tt
each_passing q p h (x ∷ xs) = (h x, each_passing q p h xs)

left_case : (q : AgentId → Bool) (agents order : List AgentId) (b : Bool) → list_any q agents ≡ b → cond b (filter (is_none_of agents) (filter q order)) (filter q order) ≡ filter q (filter (is_none_of agents) order)
left_case q agents order true e = filter-swap (is_none_of agents) q order
left_case q agents order false e =
    sym (filter_keeps (is_none_of agents) (filter q order) (each-to_filter (λ a. is_none_of agents a ≡ true) q order (each_passing q (is_none_of agents) (none_among q agents e) order))) ∙
    filter-swap (is_none_of agents) q order

pub scene-departed : (agents : List AgentId) (t : Subscriptions) → (departed agents t).scene ≡ t.scene
scene-departed [] t = refl
scene-departed (a ∷ agents) t = scene-departed agents _

pub listed-leave : (t now : Subscriptions) (old new : List (List Listing)) (agents : List AgentId) → now.scene ≡ t.scene → now.order ≡ filter (is_none_of agents) t.order → AreListed t old → length new ≡ length old →
    ((mbox : MboxId) (msg : MsgId) → listed_at new mbox msg ≡ cond (list_any (has_row t.scene mbox msg) agents) (filter (is_none_of agents) (listed_at old mbox msg)) (listed_at old mbox msg)) →
    ((mbox : MboxId) (msg : MsgId) → room_at new mbox msg ≡ room_at old mbox msg) → AreListed now new
listed-leave t now old new agents s o l e lists rooms = rw (s) (record {
  have_room = room_kept t.scene (length t.scene.agents) old new l.have_room e rooms;
  each = λ mbox msg within.
      lists mbox msg ∙ (ap (λ xs. cond (list_any (has_row t.scene mbox msg) agents) (filter (is_none_of agents) xs) xs) (l.each mbox msg within) ∙
      (left_case (has_row t.scene mbox msg) agents t.order (list_any (has_row t.scene mbox msg) agents) refl ∙
      ap (filter (has_row t.scene mbox msg)) (sym o)));
})

-- ---- nobody, and any other change

pub listed-nobody : (s : SceneParts) (boards : List (List Listing)) → HaveRoom s (length s.agents) boards → ((mbox : MboxId) (msg : MsgId) → listed_at boards mbox msg ≡ []) → AreListed (nobody s) boards
listed-nobody s boards room none = record { have_room = room; each = λ mbox msg within. none mbox msg }

pub listed-same : (t now : Subscriptions) (boards : List (List Listing)) → now.scene ≡ t.scene → now.order ≡ t.order → AreListed t boards → AreListed now boards
listed-same t now boards s o l = rw (s) (record { have_room = l.have_room; each = λ mbox msg within. l.each mbox msg within ∙ ap (filter (has_row t.scene mbox msg)) (sym o) })

-- ---- who subscribes has a row

wider_case : (x y z : Bool) → (x && y) ≡ true → y ≡ true
wider_case true y z e = e
wider_case false y z e = absurd cc

some_row : (mbox : MboxId) (msg : MsgId) (rows : List Row) (active : List Bool) → list_any (takes_from mbox msg) (zip rows active) ≡ true → list_any (is_for mbox msg) rows ≡ true
some_row mbox msg [] active h = absurd cc
some_row mbox msg (row ∷ rows) [] h = absurd cc
some_row mbox msg (row ∷ rows) (on ∷ active) h =
    elim (or_cases (on && is_for mbox msg row) (list_any (takes_from mbox msg) (zip rows active)) h) [
      | inl here ↦ first_one (is_for mbox msg row) (list_any (is_for mbox msg) rows) (wider_case on (is_for mbox msg row) on here)
      | inr later ↦ either (is_for mbox msg row) (list_any (is_for mbox msg) rows) (some_row mbox msg rows active later)
    ]

pub subscribed_has_row : (t : Subscriptions) (mbox : MboxId) (msg : MsgId) (a : AgentId) → is_subscribed t.scene mbox msg a (active_rows t a) ≡ true → has_row t.scene mbox msg a ≡ true
subscribed_has_row t mbox msg a h = some_row mbox msg (rows_of t.scene a) (active_rows t a) h

within_case : {X : Type 0} (p q : X → Bool) (x : X) (xs : List X) (b c : Bool) → p x ≡ b → q x ≡ c → (p x ≡ true → q x ≡ true) → filter p (filter q xs) ≡ filter p xs → filter p (cond c (x ∷ filter q xs) (filter q xs)) ≡ cond b (x ∷ filter p xs) (filter p xs)
within_case p q x xs true true e f h more = rw (e, more) refl
within_case p q x xs false true e f h more = rw (e, more) refl
within_case p q x xs true false e f h more = absurd (different (q x) (h e) f)
within_case p q x xs false false e f h more = more

filter_within : {X : Type 0} (p q : X → Bool) → ((x : X) → p x ≡ true → q x ≡ true) → (xs : List X) → filter p (filter q xs) ≡ filter p xs
filter_within p q h [] = refl
filter_within p q h (x ∷ xs) = within_case p q x xs (p x) (q x) refl refl (h x) (filter_within p q h xs)

-- so those that receive a message are found among the candidates
pub receivers_are_candidates : (t : Subscriptions) (mbox : MboxId) (msg : MsgId) → receivers_among t.scene (active_rows t) mbox msg (candidates t mbox msg) ≡ receivers t mbox msg
receivers_are_candidates t mbox msg = filter_within (λ a. is_subscribed t.scene mbox msg a (active_rows t a)) (has_row t.scene mbox msg) (λ a h. subscribed_has_row t mbox msg a h) t.order
