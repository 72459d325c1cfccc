use Rattle.std.proofs.Common.{sym}
use Rattle.so_coop.proofs.AgentLaws.{no_agents}
use Rattle.so_coop.proofs.coops.Coops.has_no_agents.Goals as goal

pub returns : goal.returns
returns c = rw (c.size.ensures) (sym (no_agents c.args.self.now.scene c.args.coop))
