-- Which turns are thread-safe: those that run a handler marked so, on a dispatcher that lets them overlap.
use Rattle.std.specs.Prelude.{Bool, true, false, ◌&&◌}
use Rattle.so_ids.specs.declared.AgentId.{AgentId}
use Rattle.so_ids.specs.declared.Chosen.{Chosen}
use Rattle.so_ids.specs.declared.Chosen.TheVariants.{Run, Dead}
use Rattle.so_ids.specs.declared.Opening.{Opening}
use Rattle.so_ids.specs.declared.Opening.TheVariants as opening
use Rattle.so_scene.specs.declared.parts.DispKind.{DispKind}
use Rattle.so_scene.specs.declared.parts.DispKind.TheVariants.{AdvThreadPool}
use Rattle.so_scene.specs.declared.parts.SceneParts.{SceneParts}
use Rattle.so_scene.specs.Parts.{agent_of, disp_of}
use Rattle.so_scene.specs.Subscriptions.{row_of}

-- the kind of an agent's dispatcher
abbrev pub kind_of : SceneParts → AgentId → DispKind
kind_of s a = (disp_of s (agent_of s a).disp).kind

-- thread-safe turns of one queue may overlap on adv_thread_pool; all others treat every turn as not thread-safe
abbrev pub lets_overlap : DispKind → Bool
lets_overlap AdvThreadPool = true
lets_overlap other = false

-- the handler that is chosen is marked as thread-safe
abbrev pub chosen_safe : SceneParts → AgentId → Chosen → Bool
chosen_safe s a (Run row) = (row_of s a row).safe
chosen_safe s a (Dead row) = (row_of s a row).safe
chosen_safe s a other = false

-- a turn of the agent that begins so is thread-safe
abbrev pub is_safe : SceneParts → AgentId → Opening → Bool
is_safe s a (opening.Event chosen) = lets_overlap (kind_of s a) && chosen_safe s a chosen
is_safe s a other = false
