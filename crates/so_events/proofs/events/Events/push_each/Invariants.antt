use Rattle.std.proofs.Common.{◌≡◌}
use Rattle.so_scene.specs.Parts.{agents_from}
use Rattle.so_history.specs.Demands.{ask_each, demands_from}
use Rattle.so_events.specs.Events.{after_demands}
use Rattle.so_events.proofs.events.Events.push_each.Given as goal

abbrev pub invariant-loop-k : goal.invariant-loop-k
invariant-loop-k l = l.self ≡ after_demands (demands_from l.place.0 0 (ask_each l.kind (agents_from l.first l.k))) l.initial.self
