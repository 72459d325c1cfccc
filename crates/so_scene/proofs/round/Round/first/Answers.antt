use Rattle.std.proofs.Common.{refl, ap}
use Rattle.so_ids.specs.declared.Priority.{Priority}
use Rattle.so_scene.specs.declared.round.Round.{Round}
use Rattle.so_scene.proofs.RoundLaws.{same_priority}
use Rattle.so_scene.proofs.round.Round.first.Goals as goal

from_priority : Priority → Round
from_priority p = record { priority = p; used = 0 }

pub returns : goal.returns
unfolding from_priority
returns c = ap from_priority (same_priority _ _ refl)
