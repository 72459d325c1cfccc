use Rattle.std.specs.Prelude.{codes}
use Rattle.sorun.proofs.SentenceLaws.{possible_after}
use Rattle.sorun.proofs.commands.command_of.Goals as goal

pub returns-in-sim-clause-possible : goal.returns-in-sim-clause-possible
returns-in-sim-clause-possible c = possible_after (codes "sim") _ c.sim_of.result c.sim_of.ensures
