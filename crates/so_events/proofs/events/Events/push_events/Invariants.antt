use Rattle.std.proofs.Common.{◌≡◌, map, take}
use Rattle.so_history.specs.Demands.{ask, demands_from}
use Rattle.so_events.specs.Events.{after_demands}
use Rattle.so_events.proofs.events.Events.push_events.Given as goal

abbrev pub invariant-loop-k : goal.invariant-loop-k
invariant-loop-k l = l.self ≡ after_demands (demands_from l.place.0 0 (map ask (take l.k l.outcomes.queued))) l.initial.self
