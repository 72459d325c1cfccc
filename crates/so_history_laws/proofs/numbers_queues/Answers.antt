use Rattle.so_history_laws.proofs.SharingLaws.{numbers_queues as law}
use Rattle.so_history_laws.proofs.numbers_queues.Goals as goal

pub returns : goal.returns
returns c = law
