-- The variables of one agent more.
use Rattle.std.proofs.Common.{◌≡◌, ℕ, suc, ◌+◌, List, [], ◌∷◌, ◌++◌, set, ap, refl, sym, ◌∙◌, arith}
use Rattle.so_ids.specs.declared.AgentId.{AgentId}
use Rattle.so_ids.specs.declared.Vars.{Vars}
use Rattle.so_lists.specs.Lists.{each_below}
use Rattle.so_scene.specs.declared.parts.SceneParts.{SceneParts}
use Rattle.so_scene.specs.Parts.{agents_from, vars_of}
use Rattle.so_events.proofs.Asking.{agents_from-next}
use Rattle.so_tables.specs.Tables.{first_vars, set_back}

add_one : (n : ℕ) → n + 1 ≡ suc n
add_one n = omega arith

each_below-next : (f : ℕ → Vars) (k : ℕ) → each_below f (k + 1) ≡ each_below f k ++ f k ∷ []
unfolding each_below
each_below-next f k = ap (each_below f) (add_one k)

pub no_vars : (s : SceneParts) → first_vars s 0 ≡ []
unfolding each_below
no_vars s = refl

pub vars_more : (s : SceneParts) (k : ℕ) → first_vars s (k + 1) ≡ first_vars s k ++ vars_of s (record { 0 = k }) ∷ []
vars_more s k = each_below-next (λ a. vars_of s (record { 0 = a })) k

-- ---- agents that have those of the scene again

set_back-append : (s : SceneParts) (xs ys : List AgentId) (vs : List Vars) → set_back s (xs ++ ys) vs ≡ set_back s ys (set_back s xs vs)
set_back-append s [] ys vs = refl
set_back-append s (x ∷ xs) ys vs = set_back-append s xs ys (set vs x.0 (vars_of s x))

pub set_back_none : (s : SceneParts) (first : AgentId) (vs : List Vars) → vs ≡ set_back s (agents_from first 0) vs
unfolding each_below
set_back_none s first vs = refl

pub set_back_next : (s : SceneParts) (first : AgentId) (k : ℕ) (vs now : List Vars) → now ≡ set_back s (agents_from first k) vs → set now (first.0 + k) (vars_of s (record { 0 = first.0 + k })) ≡ set_back s (agents_from first (k + 1)) vs
set_back_next s first k vs now so_far =
    ap (λ l. set l (first.0 + k) (vars_of s (record { 0 = first.0 + k }))) so_far
    ∙ sym (ap (λ xs. set_back s xs vs) (agents_from-next first k) ∙ set_back-append s (agents_from first k) (record { 0 = first.0 + k } ∷ []) vs)
