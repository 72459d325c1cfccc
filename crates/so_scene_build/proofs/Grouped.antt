-- How the lists of groups grow, and that the groups of each dispatcher are numbered as agents name them.
use Rattle.std.proofs.Common.{◌≡◌, ℕ, suc, ◌+◌, ◌-◌, ◌<◌, ◌≤◌, ◌^◌, List, [], ◌∷◌, ◌++◌, length, map, get_or, take, Bool, true, false, Option, Some, None, is_some, refl, sym, ap, ◌∙◌, subst, arith, if◌then◌else◌, length-append, append-nil, bytes_eq, eq-eqb}
use Rattle.std.proofs.Math.Nat.{min-le_left}
use Rattle.std.proofs.Math.Seq.{take-suc}
use Rattle.std.proofs.lemmas.List.{map-append, take_all}
use Rattle.std.proofs.lemmas.List.Elements.{filter-append, filter_map-append}
use Rattle.std.proofs.lemmas.List.Quantifiers.{position-Some}
use Rattle.std.proofs.lemmas.Map.Views.{exact_unsigned_eq}
use Rattle.std.specs.List.{AllByRecursion, IsDistinct, filter, filter_map}
use Rattle.std.specs.Prelude.{◌==◌}
use Rattle.so_ids.specs.declared.DispId.{DispId}
use Rattle.so_lists.specs.Lists.{given_after, AreNumbered}
use Rattle.so_lists.proofs.EachBelow.{each_below-none, each_below-next}
use Rattle.so_lists.proofs.Filters.{each-append, filter-short}
use Rattle.so_lists.proofs.Given.{given-append, given-old, given-next}
use Rattle.so_scene.specs.Names.{has_name, number_in}
use Rattle.so_scene.specs.Words.{is_name}
use Rattle.so_scene.specs.declared.parts.AgentDef.{AgentDef}
use Rattle.so_scene.proofs.Positions.{added_distinct, no_names as no_distinct}
use Rattle.so_scene_build.specs.declared.groups.Group.{Group}
use Rattle.so_scene_fields.specs.Visits.{narrow}
use Rattle.so_scene_build.specs.CodeBuilder.{number_or_next}
use Rattle.so_scene_build.specs.Groups.{is_of, group_name, names_for, names_at, group_lists, with_name, with_group, number_for, group_number}
use Rattle.so_scene_build.specs.Kept.{agent_group, is_on, uses_on}
use Rattle.so_scene_fields.proofs.Ends.{length_map}

-- ---- one more group

names-append : (d : DispId) (groups more : List Group) → names_for d (groups ++ more) ≡ names_for d groups ++ names_for d more
unfolding names_for
names-append d groups more = ap (map group_name) (filter-append (is_of d) groups more) ∙ map-append group_name (filter (is_of d) groups) (filter (is_of d) more)

group_of : DispId → List ℕ → Group
group_of d name = record { disp = d; name = name }

-- its own dispatcher has it, and no other
own_name : (d : DispId) (name : List ℕ) → names_for d (group_of d name ∷ []) ≡ name ∷ []
unfolding names_for group_of
own_name d name = let own : (d.0 == d.0) ≡ true = eq-eqb d.0 d.0 refl in rw own refl

other_name : (d e : DispId) (name : List ℕ) → (e.0 == d.0) ≡ false → names_for d (group_of e name ∷ []) ≡ []
unfolding names_for group_of
other_name d e name is = rw is refl

own_more : (d : DispId) (name : List ℕ) (groups : List Group) → names_for d (groups ++ group_of d name ∷ []) ≡ names_for d groups ++ name ∷ []
own_more d name groups = names-append d groups (group_of d name ∷ []) ∙ ap (λ l. names_for d groups ++ l) (own_name d name)

other_more : (d e : DispId) (name : List ℕ) (groups : List Group) → (e.0 == d.0) ≡ false → names_for d (groups ++ group_of e name ∷ []) ≡ names_for d groups
other_more d e name groups is = names-append d groups (group_of e name ∷ []) ∙ (ap (λ l. names_for d groups ++ l) (other_name d e name is) ∙ append-nil (names_for d groups))

-- the names of one group
pub own_group : (d : DispId) (g : Group) → is_of d g ≡ true → names_for d (g ∷ []) ≡ g.name ∷ []
unfolding names_for
own_group d g is = rw is refl

pub other_group : (d : DispId) (g : Group) → is_of d g ≡ false → names_for d (g ∷ []) ≡ []
unfolding names_for
other_group d g is = rw is refl

-- the names of one group more
pub names_go : (d : DispId) (groups : List Group) (i : ℕ) (g x : Group) (made next : List (List ℕ)) → i < length groups → x ≡ get_or groups i g → made ≡ names_for d (take i groups)
    → made ++ names_for d (x ∷ []) ≡ next → next ≡ names_for d (take (i + 1) groups)
names_go d groups i g x made next l is e f =
    let next_step : i + 1 ≡ suc i = omega arith in
    sym f ∙ (ap (λ m. m ++ names_for d (x ∷ [])) e ∙ (ap (λ y. names_for d (take i groups) ++ names_for d (y ∷ [])) is
    ∙ (sym (names-append d (take i groups) (get_or groups i g ∷ [])) ∙ (ap (names_for d) (sym (take-suc groups i g l)) ∙ ap (λ k. names_for d (take k groups)) (sym next_step)))))

pub names_end : (d : DispId) (groups : List Group) (i : ℕ) (made : List (List ℕ)) → length groups ≤ i → made ≡ names_for d (take i groups) → names_for d groups ≡ made
names_end d groups i made l e = ap (names_for d) (sym (take_all i groups l)) ∙ sym e

pub names_start : (d : DispId) → names_for d [] ≡ []
unfolding names_for
names_start d = refl

-- ---- what an agent adds

with_if : (e : DispId) (name : List ℕ) (groups : List Group) → Bool → List Group
with_if e name groups b = if b then groups else groups ++ group_of e name ∷ []

with_is : (e : DispId) (name : List ℕ) (groups : List Group) → with_name e name groups ≡ with_if e name groups (has_name (names_for e groups) name)
unfolding with_if group_of
with_is e name groups = refl

other_if : (d e : DispId) (name : List ℕ) (groups : List Group) (b : Bool) → (e.0 == d.0) ≡ false → names_for d (with_if e name groups b) ≡ names_for d groups
unfolding with_if
other_if d e name groups true is = refl
other_if d e name groups false is = other_more d e name groups is

pub other_same : (d e : DispId) (o : Option (List ℕ)) (groups : List Group) → (e.0 == d.0) ≡ false → names_for d (with_group e o groups) ≡ names_for d groups
other_same d e None groups is = refl
other_same d e (Some name) groups is = ap (names_for d) (with_is e name groups) ∙ other_if d e name groups (has_name (names_for e groups) name) is

-- a name that its dispatcher has, and one that it hasn't yet
pub same_with_old : (d : DispId) (name : List ℕ) (groups : List Group) → has_name (names_for d groups) name ≡ true → with_group d (Some name) groups ≡ groups
same_with_old d name groups is = rw is refl

pub more_with_new : (d : DispId) (name : List ℕ) (groups : List Group) → has_name (names_for d groups) name ≡ false → names_for d (with_group d (Some name) groups) ≡ names_for d groups ++ name ∷ []
unfolding with_if
more_with_new d name groups is = ap (names_for d) (with_is d name groups ∙ ap (with_if d name groups) is) ∙ own_more d name groups

-- the list of groups, and that of each dispatcher, only grow
few_if : (e : DispId) (name : List ℕ) (groups : List Group) (b : Bool) → length (with_if e name groups b) ≤ length groups + 1
unfolding with_if
few_if e name groups true = omega arith
few_if e name groups false = omega (arith, length-append groups (group_of e name ∷ []))

pub few_more : (e : DispId) (o : Option (List ℕ)) (groups : List Group) → length (with_group e o groups) ≤ length groups + 1
few_more e None groups = omega arith
few_more e (Some name) groups = omega (arith, ap length (with_is e name groups), few_if e name groups (has_name (names_for e groups) name))

grows_if : (d e : DispId) (name : List ℕ) (groups : List Group) (b : Bool) → length (names_for d groups) ≤ length (names_for d (with_if e name groups b))
unfolding with_if
grows_if d e name groups true = omega arith
grows_if d e name groups false = omega (arith, ap length (names-append d groups (group_of e name ∷ [])), length-append (names_for d groups) (names_for d (group_of e name ∷ [])))

pub names_more : (d e : DispId) (o : Option (List ℕ)) (groups : List Group) → length (names_for d groups) ≤ length (names_for d (with_group e o groups))
names_more d e None groups = omega arith
names_more d e (Some name) groups = omega (arith, ap (λ l. length (names_for d l)) (with_is e name groups), grows_if d e name groups (has_name (names_for e groups) name))

pub few_names : (d : DispId) (groups : List Group) → length (names_for d groups) ≤ length groups
unfolding names_for
few_names d groups = omega (arith, length_map group_name (filter (is_of d) groups), filter-short (is_of d) groups)

-- ---- the number of a group

-- the number is one of the list that it is in afterwards, and it is an old number or the next
record Numbers (before after : ℕ) (k : ℕ) : Type 0 where
  below : k < after
  given : before < 4096 → given_after before (k ∷ []) ≡ Some after

numbers_old : (before after k : ℕ) → after ≡ before → k < before → Numbers before after (narrow k)
numbers_old before after k e l = record {
  below = omega (arith, e, l, min-le_left k (2 ^ 32 - 1));
  given = λ few. given-old before (narrow k) (omega (arith, l, min-le_left k (2 ^ 32 - 1))) ∙ ap Some (sym e);
}

numbers_next : (before after : ℕ) → after ≡ before + 1 → Numbers before after (narrow before)
numbers_next before after e = record {
  below = omega (arith, e, min-le_left before (2 ^ 32 - 1));
  given = λ few.
      let its : narrow before ≡ before = omega (arith, few) in
      ap (λ k. given_after before (k ∷ [])) its ∙ (given-next before ∙ ap Some (sym e));
}

number_if : (d : DispId) (name : List ℕ) (groups : List Group) (o : Option ℕ) → number_in (names_for d groups) name ≡ o → Numbers (length (names_for d groups)) (length (names_for d (with_if d name groups (is_some o)))) (number_or_next o (names_for d groups))
unfolding with_if
number_if d name groups None e = numbers_next (length (names_for d groups)) (length (names_for d (groups ++ group_of d name ∷ []))) (omega (arith, ap length (own_more d name groups), length-append (names_for d groups) (name ∷ [])))
number_if d name groups (Some k) e = numbers_old (length (names_for d groups)) (length (names_for d groups)) k refl (position-Some (bytes_eq name) (names_for d groups) k [] e).0

numbers : (d : DispId) (name : List ℕ) (groups : List Group) → Numbers (length (names_for d groups)) (length (names_for d (with_name d name groups))) (number_for d name groups)
numbers d name groups =
    subst (λ l. Numbers (length (names_for d groups)) (length (names_for d l)) (number_for d name groups)) (sym (with_is d name groups)) (number_if d name groups (number_in (names_for d groups) name) refl)

pub number_below : (d : DispId) (name : List ℕ) (groups : List Group) → number_for d name groups < length (names_for d (with_group d (Some name) groups))
number_below d name groups = (numbers d name groups).below

-- ---- what agents use

uses-append : (d : DispId) (agents more : List AgentDef) → uses_on d (agents ++ more) ≡ uses_on d agents ++ uses_on d more
uses-append d agents more = ap (filter_map agent_group) (filter-append (is_on d) agents more) ∙ filter_map-append agent_group (filter (is_on d) agents) (filter (is_on d) more)

uses_none : (d : DispId) (a : AgentDef) → (a.disp.0 == d.0) ≡ false → uses_on d (a ∷ []) ≡ []
uses_none d a is = rw is refl

use_of : Option ℕ → List ℕ
use_of None = []
use_of (Some k) = k ∷ []

use_given : (a : AgentDef) (o : Option ℕ) → a.group ≡ o → filter_map agent_group (a ∷ []) ≡ use_of o
unfolding use_of
use_given a None e = rw e refl
use_given a (Some k) e = rw e refl

uses_own : (d : DispId) (a : AgentDef) (o : Option ℕ) → (a.disp.0 == d.0) ≡ true → a.group ≡ o → uses_on d (a ∷ []) ≡ use_of o
uses_own d a o is e =
    let kept : filter (is_on d) (a ∷ []) ≡ a ∷ [] = rw is refl in
    ap (filter_map agent_group) kept ∙ use_given a o e

given_own : (d : DispId) (o : Option (List ℕ)) (groups : List Group) → length groups < 4096 → given_after (length (names_for d groups)) (use_of (group_number d o groups)) ≡ Some (length (names_for d (with_group d o groups)))
unfolding use_of
given_own d None groups few = refl
given_own d (Some name) groups few = (numbers d name groups).given (omega (arith, few, few_names d groups))

disp_of_number : ℕ → DispId
disp_of_number k = record { 0 = k }

pub same_disp : (d e : DispId) → (e.0 == d.0) ≡ true → e ≡ d
unfolding disp_of_number
same_disp d e is = ap disp_of_number (exact_unsigned_eq e.0 d.0 is)

one_if : (d : DispId) (o : Option (List ℕ)) (groups : List Group) (a : AgentDef) (b : Bool) → (a.disp.0 == d.0) ≡ b → a.group ≡ group_number a.disp o groups → length groups < 4096
    → given_after (length (names_for d groups)) (uses_on d (a ∷ [])) ≡ Some (length (names_for d (with_group a.disp o groups)))
one_if d o groups a false is e few =
    ap (given_after (length (names_for d groups))) (uses_none d a is) ∙ ap (λ l. Some (length l)) (sym (other_same d a.disp o groups is))
one_if d o groups a true is e few =
    let same : a.disp ≡ d = same_disp d a.disp is in
    let group : a.group ≡ group_number d o groups = e ∙ ap (λ x. group_number x o groups) same in
    ap (given_after (length (names_for d groups))) (uses_own d a (group_number d o groups) is group)
    ∙ (given_own d o groups few ∙ ap (λ x. Some (length (names_for d (with_group x o groups)))) (sym same))

-- one more agent keeps the numbering
pub numbered_more : (d e : DispId) (o : Option (List ℕ)) (groups : List Group) (agents : List AgentDef) (a : AgentDef) → a.disp ≡ e → a.group ≡ group_number e o groups → length groups < 4096
    → AreNumbered (uses_on d agents) (length (names_for d groups)) → AreNumbered (uses_on d (agents ++ a ∷ [])) (length (names_for d (with_group e o groups)))
numbered_more d e o groups agents a at is few old =
    let group : a.group ≡ group_number a.disp o groups = is ∙ ap (λ x. group_number x o groups) (sym at) in
    ap (given_after 0) (uses-append d agents (a ∷ []))
    ∙ (given-append 0 (length (names_for d groups)) (uses_on d agents) (uses_on d (a ∷ [])) old
    ∙ (one_if d o groups a (a.disp.0 == d.0) refl group few ∙ ap (λ x. Some (length (names_for d (with_group x o groups)))) at))

-- ---- names that differ

pub record AreNames (names : List (List ℕ)) : Type 0 where
  pub named : AllByRecursion (λ name. is_name name ≡ true) names
  pub each_once : IsDistinct bytes_eq names

pub no_group_names : (d : DispId) → AreNames (names_for d [])
unfolding names_for
no_group_names d = record { named = tt; each_once = no_distinct }

own_names : (d : DispId) (name : List ℕ) (groups : List Group) (b : Bool) → has_name (names_for d groups) name ≡ b → is_name name ≡ true → AreNames (names_for d groups) → AreNames (names_for d (with_if d name groups b))
unfolding with_if
own_names d name groups true e is old = old
own_names d name groups false e is old = record {
  named = subst (AllByRecursion (λ name. is_name name ≡ true)) (sym (own_more d name groups)) (each-append (λ name. is_name name ≡ true) (names_for d groups) (name ∷ []) old.named (is, tt));
  each_once = added_distinct (names_for d (groups ++ group_of d name ∷ [])) (names_for d groups) name old.each_once e (own_more d name groups);
}

names_if : (d e : DispId) (name : List ℕ) (groups : List Group) (b : Bool) → (e.0 == d.0) ≡ b → is_name name ≡ true → AreNames (names_for d groups) → AreNames (names_for d (with_name e name groups))
names_if d e name groups false at is old =
    subst AreNames (sym (ap (names_for d) (with_is e name groups) ∙ other_if d e name groups (has_name (names_for e groups) name) at)) old
names_if d e name groups true at is old =
    let same : e ≡ d = same_disp d e at in
    subst (λ x. AreNames (names_for d (with_name x name groups))) (sym same)
    (subst (λ l. AreNames (names_for d l)) (sym (with_is d name groups)) (own_names d name groups (has_name (names_for d groups) name) refl is old))

-- a name that is given is one
abbrev pub NamedIfGiven : Option (List ℕ) → Type 0
NamedIfGiven None = Unit {0}
NamedIfGiven (Some name) = is_name name ≡ true

pub group_names_more : (d e : DispId) (o : Option (List ℕ)) (groups : List Group) → NamedIfGiven o → AreNames (names_for d groups) → AreNames (names_for d (with_group e o groups))
group_names_more d e None groups is old = old
group_names_more d e (Some name) groups is old = names_if d e name groups (e.0 == d.0) refl is old

pub no_group_uses : (d : DispId) → AreNumbered (uses_on d []) (length (names_for d []))
unfolding names_for
no_group_uses d = refl

-- ---- the lists of all dispatchers

pub lists_start : (groups : List Group) → group_lists groups 0 ≡ []
lists_start groups = each_below-none (names_at groups)

pub lists_go : (groups : List Group) (k : ℕ) (lists next : List (List (List ℕ))) (names : List (List ℕ)) → lists ≡ group_lists groups k → names_at groups k ≡ names → lists ++ names ∷ [] ≡ next → next ≡ group_lists groups (k + 1)
lists_go groups k lists next names e f g =
    sym g ∙ (ap (λ l. l ++ names ∷ []) e ∙ (ap (λ n. group_lists groups k ++ n ∷ []) (sym f) ∙ sym (each_below-next (names_at groups) k)))
