use Rattle.std.proofs.Common.{◌≡◌, ◌≤◌, length}
use Rattle.so_scene.specs.Delivery.{events}
use Rattle.so_deliver.specs.Planned.{outcomes_of}
use Rattle.so_deliver.proofs.PlanLaws.{Goes, losses}
use Rattle.so_deliver.proofs.plan.queue_each.Given as goal

abbrev pub invariant-loop-agent : goal.invariant-loop-agent
invariant-loop-agent l = record {
  goes : Goes l.table l.coops l.mbox l.msg l.payload l.outcomes.queued l.lost l.agent-index (events (outcomes_of l.table l.coops l.mbox l.msg l.payload)) (losses (outcomes_of l.table l.coops l.mbox l.msg l.payload));
  few_events : length l.outcomes.queued ≤ l.agent-index;
  few_losses : l.lost ≤ l.agent-index;
  room : l.outcomes.room ≡ l.initial.outcomes.room;
}
