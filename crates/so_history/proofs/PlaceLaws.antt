-- Entries at places, and the histories before them.
use Rattle.std.proofs.Common.{◌≡◌, ℕ, ◌<◌, List, [], ◌∷◌, length, false, Some, arith, refl, sym, ◌∙◌, ap, subst, inl, inr}
use Rattle.std.specs.Prelude.{◌==◌}
use Rattle.std.proofs.lemmas.Bool.{cases_Bool, ne_eqb, eq-eqb, eqb-true, false≢true}
use Rattle.std.proofs.lemmas.Option.{same_Some}
use Rattle.so_scene.specs.declared.parts.SceneParts.{SceneParts}
use Rattle.so_history.specs.declared.entry.Entry.{Entry}
use Rattle.so_history.specs.Places.{entry_at, before}
use Rattle.so_history.specs.Steps.{IsStep, Legal}

pub entry_at-last : (e : Entry) (h : List Entry) → entry_at (e ∷ h) (length h) ≡ Some e
entry_at-last e h = rw (eq-eqb (length h) (length h) refl) refl

pub entry_at-early : (e : Entry) (h : List Entry) (place : ℕ) → place < length h → entry_at (e ∷ h) place ≡ entry_at h place
entry_at-early e h place l = let other : (length h == place) ≡ false = ne_eqb (length h) place (λ same. omega arith) in rw other refl

pub before-last : (e : Entry) (h : List Entry) → before (e ∷ h) (length h) ≡ h
before-last e h = rw (eq-eqb (length h) (length h) refl) refl

pub before-early : (e : Entry) (h : List Entry) (place : ℕ) → place < length h → before (e ∷ h) place ≡ before h place
before-early e h place l = let other : (length h == place) ≡ false = ne_eqb (length h) place (λ same. omega arith) in rw other refl

-- an entry of a history is its newest, or stands in what is before that
pub data Where (e : Entry) (h : List Entry) (place : ℕ) (x : Entry) : Type 0 where
  is_last : place ≡ length h → e ≡ x → Where e h place x
  is_early : place < length h → entry_at h place ≡ Some x → Where e h place x

pub inside : (h : List Entry) (place : ℕ) (x : Entry) → entry_at h place ≡ Some x → place < length h
inside [] place x e = cc
inside (y ∷ h) place x e =
    elim (cases_Bool (length h == place)) [
      | inl here ↦ (let same : length h ≡ place = eqb-true (length h) place here in omega arith)
      | inr other ↦ (let early : place < length h = inside h place x (rw other at e) in omega arith)
    ]

pub place_of_entry : (e : Entry) (h : List Entry) (place : ℕ) (x : Entry) → entry_at (e ∷ h) place ≡ Some x → Where e h place x
place_of_entry e h place x is =
    elim (cases_Bool (length h == place)) [
      | inl here ↦ is_last (sym (eqb-true (length h) place here)) (same_Some e x (rw here at is))
      | inr other ↦ (let there : entry_at h place ≡ Some x = rw other at is in is_early (inside h place x there) there)
    ]

-- as many entries stand before an entry as its place says
length_case : (e : Entry) (h : List Entry) (place : ℕ) (x : Entry) → Where e h place x → (entry_at h place ≡ Some x → length (before h place) ≡ place) → length (before (e ∷ h) place) ≡ place
length_case e h place x (is_last at same) ih = ap (λ n. length (before (e ∷ h) n)) at ∙ (ap length (before-last e h) ∙ sym at)
length_case e h place x (is_early early there) ih = ap length (before-early e h place early) ∙ ih there

pub length-before : (h : List Entry) (place : ℕ) (x : Entry) → entry_at h place ≡ Some x → length (before h place) ≡ place
length-before [] place x e = absurd cc
length-before (y ∷ h) place x e = length_case y h place x (place_of_entry y h place x e) (length-before h place x)

-- each entry of a legal history is a legal step after those before it
pub record StepsAt (s : SceneParts) (h : List Entry) (place : ℕ) (x : Entry) : Type 0 where
  pub legal : Legal s (before h place)
  pub step : IsStep s (before h place) x
  pub length_is : length (before h place) ≡ place

step_case : (s : SceneParts) (e : Entry) (h : List Entry) (place : ℕ) (x : Entry) → Legal s (e ∷ h) → Where e h place x → (entry_at h place ≡ Some x → StepsAt s h place x) → StepsAt s (e ∷ h) place x
step_case s e h place x legal (is_last at same) ih =
    let b : before (e ∷ h) place ≡ h = ap (before (e ∷ h)) at ∙ before-last e h in
    record {
      legal = subst (Legal s) (sym b) legal.0;
      step = subst (λ (k : List Entry). IsStep s k x) (sym b) (subst (IsStep s h) same legal.1);
      length_is = ap length b ∙ sym at;
    }
step_case s e h place x legal (is_early early there) ih =
    let b : before (e ∷ h) place ≡ before h place = before-early e h place early in
    let it = ih there in
    record {
      legal = subst (Legal s) (sym b) it.legal;
      step = subst (λ (k : List Entry). IsStep s k x) (sym b) it.step;
      length_is = ap length b ∙ it.length_is;
    }

pub steps_at : (s : SceneParts) (h : List Entry) (place : ℕ) (x : Entry) → Legal s h → entry_at h place ≡ Some x → StepsAt s h place x
steps_at s [] place x legal e = absurd cc
steps_at s (y ∷ h) place x legal e = step_case s y h place x legal (place_of_entry y h place x e) (steps_at s h place x legal.0)

-- before a place stand the entries of lesser places
pub before-entry : (h : List Entry) (place early : ℕ) → early < place → place < length h → entry_at (before h place) early ≡ entry_at h early
before-entry [] place early l within = absurd (omega arith)
before-entry (e ∷ h) place early l within =
    elim (cases_Bool (length h == place)) [
      | inl here ↦
          (let same : length h ≡ place = eqb-true (length h) place here in
          rw here (sym (entry_at-early e h early (omega arith))))
      | inr other ↦
          (let apart : length h ≡ place → ⊥ = λ same. false≢true (sym other ∙ eq-eqb (length h) place same) in
          let inner : place < length h = omega (arith, apart) in
          rw other (before-entry h place early l inner ∙ sym (entry_at-early e h early (omega arith))))
    ]
