use Rattle.std.proofs.Common.{false, refl, sym, ◌∙◌}
use Rattle.so_coop.specs.Coops.{standing}
use Rattle.so_coop.proofs.AgentLaws.{slot_refused}
use Rattle.so_coop.proofs.coops.Coops.slot_refused.Goals as goal

pub returns-then-lacks_slot : goal.returns-then-lacks_slot
returns-then-lacks_slot c =
    let is = sym c.lacks_slot.ensures ∙ c.if-lacks_slot.true in
    rw (slot_refused c.args.self.now.scene (standing c.args.self.now false) c.args.coop c.args.k c.requires.agent, is, c.agent_at.ensures.value) refl

pub returns-else-lacks_slot : goal.returns-else-lacks_slot
returns-else-lacks_slot c =
    let is = sym c.lacks_slot.ensures ∙ c.if-lacks_slot.false in
    rw (slot_refused c.args.self.now.scene (standing c.args.self.now false) c.args.coop c.args.k c.requires.agent, is) refl
