-- The agents of a cooperation by number.
use Rattle.std.proofs.Common.{◌≡◌, ℕ, ◌<◌, length, Some, None, refl, arith}
use Rattle.std.specs.Prelude.{◌==◌, if◌then◌else◌}
use Rattle.std.specs.Option.{option_map}
use Rattle.so_ids.specs.declared.CoopId.{CoopId}
use Rattle.so_ids.specs.declared.Refusal.TheVariants as refusal
use Rattle.so_lists.specs.Lists.{is_empty}
use Rattle.so_lists.proofs.EachBelow.{length-each_below, take-each_below, slice_get-each_below, is_empty-each_below}
use Rattle.so_scene.specs.declared.parts.SceneParts.{SceneParts}
use Rattle.so_scene.specs.Parts.{coop_of, agents_from, agents_of}
use Rattle.so_scene.specs.Definition.{definition_fault}
use Rattle.so_scene.specs.Cooperations.{Standing, lacks_slot, refused_slot, refused_rule}
use Rattle.so_coop.specs.Coops.{agent_at}

pub no_agents : (s : SceneParts) (c : CoopId) → is_empty (agents_of s c) ≡ ((coop_of s c).count == 0)
no_agents s c = is_empty-each_below (agent_at s c) (coop_of s c).count

pub many_agents : (s : SceneParts) (c : CoopId) → length (agents_of s c) ≡ (coop_of s c).count
many_agents s c = length-each_below (agent_at s c) (coop_of s c).count

pub slot_refused : (s : SceneParts) (st : Standing) (c : CoopId) (k : ℕ) → k < (coop_of s c).count →
    refused_slot s st (agents_of s c) k ≡ (if lacks_slot s st (agents_from (coop_of s c).first k) (agent_at s c k) then Some (refusal.Binding (agent_at s c k)) else None)
slot_refused s st c k l =
    rw (slice_get-each_below (agent_at s c) (coop_of s c).count k l, take-each_below (agent_at s c) (coop_of s c).count k (omega arith)) refl

pub rule_refused : (s : SceneParts) (c : CoopId) (k : ℕ) → k < (coop_of s c).count →
    refused_rule s (agents_of s c) k ≡ option_map (refusal.Definition (agent_at s c k)) (definition_fault s (agent_at s c k))
rule_refused s c k l = rw (slice_get-each_below (agent_at s c) (coop_of s c).count k l) refl
