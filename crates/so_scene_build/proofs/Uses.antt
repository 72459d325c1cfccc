-- The texts and groups that the agents of a scene use, by number and by list.
use Rattle.std.proofs.Common.{◌≡◌, ℕ, zero, suc, ◌≤◌, List, [], ◌∷◌, ◌++◌, length, map, take, Bool, true, false, cond, Option, refl, sym, ap, ◌∙◌, arith, append-nil, append_assoc}
use Rattle.std.proofs.Math.Seq.{take-suc}
use Rattle.std.proofs.lemmas.List.{map_push, take_all}
use Rattle.std.proofs.lemmas.List.Elements.{filter-append, filter_map-append}
use Rattle.std.specs.List.{filter, filter_map}
use Rattle.so_ids.specs.declared.DispId.{DispId}
use Rattle.so_lists.specs.Lists.{each_below}
use Rattle.so_lists.proofs.EachBelow.{each_below-elements}
use Rattle.so_lists.proofs.Filters.{ap2_append}
use Rattle.so_scene.specs.Checked.{text_uses, texts_to, group_uses}
use Rattle.so_scene.specs.Lanes.{agent_number}
use Rattle.so_scene.specs.Parts.{no_agent, agent_of as scene_agent}
use Rattle.so_scene.specs.declared.parts.AgentDef.{AgentDef}
use Rattle.so_scene.specs.declared.parts.SceneParts.{SceneParts}
use Rattle.so_scene_build.specs.Kept.{agent_group, is_on, uses_on, texts_of}

pub texts-push : (agents : List AgentDef) (a : AgentDef) → texts_of (agents ++ a ∷ []) ≡ texts_of agents ++ text_uses a.code
texts-push [] a = append-nil (text_uses a.code)
texts-push (b ∷ agents) a = ap (λ l. text_uses b.code ++ l) (texts-push agents a) ∙ sym (append_assoc (text_uses b.code) (texts_of agents) (text_uses a.code))

-- what a number stands for, instead of the number
split_uses : {X Y : Type 0} (p : X → Bool) (f : X → Option Y) (x : X) (xs : List X) → filter_map f (filter p (x ∷ xs)) ≡ filter_map f (filter p (x ∷ [])) ++ filter_map f (filter p xs)
split_uses p f x xs = ap (filter_map f) (filter-append p (x ∷ []) xs) ∙ filter_map-append f (filter p (x ∷ [])) (filter p xs)

one_use : {I X Y : Type 0} (g : I → X) (f : X → Option Y) (i : I) (b : Bool) → filter_map (λ k. f (g k)) (cond b (i ∷ []) []) ≡ filter_map f (cond b (g i ∷ []) [])
one_use g f i true = refl
one_use g f i false = refl

uses_of : {I X Y : Type 0} (g : I → X) (p : X → Bool) (f : X → Option Y) (is : List I) → filter_map (λ i. f (g i)) (filter (λ i. p (g i)) is) ≡ filter_map f (filter p (map g is))
uses_of g p f [] = refl
uses_of g p f (i ∷ is) =
    split_uses (λ k. p (g k)) (λ k. f (g k)) i is
    ∙ (ap2_append (one_use g f i (p (g i))) (uses_of g p f is) ∙ sym (split_uses p f (g i) (map g is)))

map-each_below : {X Y : Type 0} (h : X → Y) (f : ℕ → X) (n : ℕ) → map h (each_below f n) ≡ each_below (λ k. h (f k)) n
unfolding each_below
map-each_below h f zero = refl
map-each_below h f (suc n) = map_push h (each_below f n) (f n) ∙ ap (λ l. l ++ h (f n) ∷ []) (map-each_below h f n)

texts_by_number : (s : SceneParts) (n : ℕ) → n ≤ length s.agents → texts_to s n ≡ texts_of (take n s.agents)
texts_by_number s zero l = refl
texts_by_number s (suc n) l =
    ap (λ t. t ++ text_uses (scene_agent s (agent_number n)).code) (texts_by_number s n (omega arith))
    ∙ (sym (texts-push (take n s.agents) (scene_agent s (agent_number n))) ∙ ap texts_of (sym (take-suc s.agents n no_agent (omega arith))))

pub all_texts : (s : SceneParts) → texts_to s (length s.agents) ≡ texts_of s.agents
all_texts s = texts_by_number s (length s.agents) (omega arith) ∙ ap texts_of (take_all (length s.agents) s.agents (omega arith))

pub all_uses : (s : SceneParts) (d : DispId) → group_uses s d ≡ uses_on d s.agents
all_uses s d =
    uses_of (scene_agent s) (is_on d) agent_group (each_below agent_number (length s.agents))
    ∙ ap (uses_on d) (map-each_below (scene_agent s) agent_number (length s.agents) ∙ each_below-elements s.agents no_agent)
