use Rattle.std.proofs.Common.{◌≡◌, ◌-◌}
use Rattle.std.specs.List.{find}
use Rattle.so_scene.specs.Rounds.{has_demand, down_from, priorities_after}
use Rattle.so_disp_prio.specs.Pick.{waits_with}
use Rattle.so_disp_prio.proofs.head.next_priority.Given as goal

-- what is left runs as the whole did
abbrev pub invariant-loop-step : goal.invariant-loop-step
invariant-loop-step l = find (has_demand (waits_with l.queues l.key)) (priorities_after l.from) ≡ find (has_demand (waits_with l.queues l.key)) (down_from l.at (8 - l.step))
