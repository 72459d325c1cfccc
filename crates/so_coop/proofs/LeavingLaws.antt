-- Which cooperation leaves next.
use Rattle.std.proofs.Common.{◌≡◌, ℕ, length, Bool, true, false, not, cond, Some, None, refl, sym, ◌∙◌, subst}
use Rattle.std.specs.Prelude.{◌==◌}
use Rattle.std.proofs.lemmas.Map.Views.{exact_unsigned_eq}
use Rattle.std.proofs.lemmas.Bool.{eq-eqb, and_parts, false≢true}
use Rattle.std.proofs.lemmas.Option.{none-some}
use Rattle.so_ids.specs.declared.CoopId.{CoopId}
use Rattle.so_lists.specs.Lists.{first_below}
use Rattle.so_lists.proofs.Any.{any-each_below}
use Rattle.so_lists.proofs.First.{none-first_below, some-first_below}
use Rattle.so_scene.specs.Parts.{coop_of}
use Rattle.so_scene.specs.Cooperations.{coop_number, is_parent, is_child, has_child}
use Rattle.so_coop.specs.Coops.{CoopTable, standing_at, standing, has_ended, ended_at, left_next}
use Rattle.so_coop.specs.Laws.{HasNoChild, IsNextLeft}

no_child : (t : CoopTable) (c : CoopId) → has_child t.scene (standing t false) c ≡ false → HasNoChild t c
no_child t c none child l there is =
    let named : is_parent c (coop_of t.scene child).parent ≡ true = rw is (eq-eqb c.0 c.0 refl) in
    let here : is_child t.scene (standing t false) c child ≡ true = rw (there, named) refl in
    false≢true (sym none ∙ any-each_below (is_child t.scene (standing t false) c) coop_number (length t.scene.coops) child.0 l here)

not_there : (b : Bool) (c : CoopId) → cond b (Some c) None ≡ None → b ≡ false
not_there true c e = cc
not_there false c e = refl

not_false : (b : Bool) → not b ≡ true → b ≡ false
not_false true e = cc
not_false false e = refl

next_case : (t : CoopTable) (c : CoopId) (k : ℕ) (b : Bool) → has_ended t (coop_number k) ≡ b → cond b (Some (coop_number k)) None ≡ Some c → first_below (ended_at t) k ≡ None → IsNextLeft t c
next_case t c k true ended e before =
    let same : coop_number k ≡ c = cc in
    let outer = and_parts (standing_at t (coop_number k)).leaving _ ended in
    let inner = and_parts ((standing_at t (coop_number k)).unfinished == 0) _ outer.1 in
    let none = not_false (has_child t.scene (standing t false) (coop_number k)) inner.1 in
    subst (IsNextLeft t) same (record {
      leaving = outer.0;
      finished = exact_unsigned_eq _ _ inner.0;
      no_child = no_child t (coop_number k) none;
      least = λ d l. not_there (has_ended t d) d (none-first_below (ended_at t) k before d.0 l);
    })
next_case t c k false ended e before = absurd (none-some c e)

pub next_left : (t : CoopTable) (c : CoopId) → left_next t ≡ Some c → IsNextLeft t c
next_left t c e =
    let f = some-first_below (ended_at t) (length t.scene.coops) c e in
    next_case t c f.0 (has_ended t (coop_number f.0)) refl f.2 f.3
