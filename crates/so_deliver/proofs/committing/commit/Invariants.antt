use Rattle.so_deliver.specs.Commit.{committed}
use Rattle.so_deliver.proofs.CommitLaws.{IsCommitting}
use Rattle.so_deliver.proofs.committing.commit.Given as goal

abbrev pub invariant-loop-k : goal.invariant-loop-k
invariant-loop-k l = IsCommitting l.scene l.place l.outcomes.queued (committed l.scene l.place l.outcomes.queued l.initial.queues) l.queues l.k
