use Rattle.std.proofs.Common.{◌≡◌, ◌<◌, length, sym, ◌∙◌, ap, subst}
use Rattle.so_ledger.specs.Shapes.{Core}
use Rattle.so_history.specs.Leaves.{leaves, leaf_of}
use Rattle.so_scene.specs.declared.parts.AgentDef.{AgentDef}
use Rattle.so_history.specs.Delivery.{active_rows, chosen_for as its_choice}
use Rattle.so_scene.specs.Parts.{rows_of, states_of}
use Rattle.so_tables.proofs.MboxLaws.{rows_known}
use Rattle.so_tables.proofs.StateLaws.{chosen_same}
use Rattle.so_ledger.proofs.ledger.Ledger.chosen_for.Goals as goal

pub returns : goal.returns
returns c =
    let K : Core → Type 0 = λ k. c.args.agent.0 < length k.scene.agents in
    let known = subst K (sym c.self.view_is) c.requires in
    let leaf : c.leaf-leaf.result ≡ leaf_of c.self.inside.scene.now c.self.inside.history.entries c.args.agent = c.leaf-leaf.ensures c.self.inside.scene.now (leaves c.self.inside.scene.now c.self.inside.history.entries) known c.self.invariant.1 in
    let tree : c.agent-def.result.now.tree ≡ states_of c.self.inside.scene.now c.args.agent = ap (λ (d : AgentDef). d.tree) c.agent-def.ensures.value in
    let rows : c.as_slice.result.now ≡ rows_of c.self.inside.scene.now c.args.agent = c.as_slice.ensures ∙ ap (λ (d : AgentDef). d.rows) c.agent-def.ensures.value in
    let active : c.active-active.result.now ≡ active_rows c.self.inside.scene.now c.self.inside.history.entries c.args.agent = rw (c.active-active.ensures.value, c.self.invariant.0.tables) (rows_known c.self.inside.scene.now c.self.inside.history.entries c.args.agent known) in
    let it : c.choose.result ≡ its_choice c.self.inside.scene.now c.self.inside.history.entries c.args.agent c.args.mbox c.args.msg = c.choose.ensures ∙ chosen_same c.args.mbox c.args.msg tree rows active leaf in
    let P : Core → Type 0 = λ k. c.choose.result ≡ its_choice k.scene k.history c.args.agent c.args.mbox c.args.msg in
    subst P c.self.view_is it
