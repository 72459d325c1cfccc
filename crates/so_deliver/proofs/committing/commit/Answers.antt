use Rattle.std.proofs.Common.{sym, ◌∙◌, arith}
use Rattle.so_deliver.proofs.CommitLaws.{commit_begins, commit_goes, committed-safe, not_past, event_known}
use Rattle.so_deliver.proofs.committing.commit.Goals as goal

pub loop-k-init : goal.loop-k-init
loop-k-init c = commit_begins c.args.scene.now c.args.place c.args.outcomes.now.queued c.args.queues.now c.requires.room c.requires.later

pub queue_demand-requires-clause-keys : goal.queue_demand-requires-clause-keys
queue_demand-requires-clause-keys c = c.loop-k.invariant.keys ∙ (committed-safe c.args.scene.now c.args.place 0 c.args.outcomes.now.queued c.args.queues.now ∙ c.requires.keys)

pub queue_demand-requires-clause-agent : goal.queue_demand-requires-clause-agent
queue_demand-requires-clause-agent c = event_known c.args.scene.now c.args.outcomes.now.queued c.loop-k.k c.in-Some.event c.requires.agents (sym c.queued_at.ensures ∙ c.in-Some.is)

pub unreachable-requires : goal.unreachable-requires
unreachable-requires c = not_past c.args.outcomes.now.queued c.loop-k.k (omega (arith, c.loop-k-test.true, c.len-k-end.ensures.value)) (sym c.queued_at.ensures ∙ c.in-None.is)

pub loop-k-preserved : goal.loop-k-preserved
loop-k-preserved c = rw c.queue_demand.ensures (commit_goes c.in-Some.event (sym c.queued_at.ensures ∙ c.in-Some.is) c.loop-k.invariant)
