use Rattle.std.proofs.Common.{◌≡◌, ◌<◌, length, not, get_or, sym, ◌∙◌, ap, subst}
use Rattle.std.proofs.lemmas.Option.{slice_get-get_or, get_or_from_slice_get}
use Rattle.so_state.specs.declared.choice.Row.{Row}
use Rattle.so_scene.specs.declared.parts.AgentDef.{AgentDef}
use Rattle.so_scene.specs.Parts.{rows_of}
use Rattle.so_scene.specs.Definition.{is_twice}
use Rattle.so_scene.specs.Subscriptions.{no_row}
use Rattle.so_history.specs.Delivery.{active_rows}
use Rattle.so_ledger.specs.Shapes.{Core}
use Rattle.so_tables.proofs.MboxLaws.{rows_known}
use Rattle.so_ledger.proofs.ledger.Ledger.may_subscribe.Goals as goal

pub returns : goal.returns
returns c =
    let K : Core → Type 0 = λ k. c.args.agent.0 < length k.scene.agents in
    let known = subst K (sym c.self.view_is) c.requires.agent in
    let W : Core → Type 0 = λ k. c.args.row.0 < length (rows_of k.scene c.args.agent) in
    let within = subst W (sym c.self.view_is) c.requires.row in
    let rows = c.as_slice-rows.ensures ∙ ap (λ (a : AgentDef). a.rows) c.agent.ensures.value in
    let active = c.active.ensures.value ∙ (rw c.self.invariant.0.tables (rows_known c.self.inside.scene.now c.self.inside.history.entries c.args.agent known)) in
    let here : (d : Row) → get_or (rows_of c.self.inside.scene.now c.args.agent) c.args.row.0 d ≡ get_or (rows_of c.self.inside.scene.now c.args.agent) c.args.row.0 no_row =
    λ d. get_or_from_slice_get (rows_of c.self.inside.scene.now c.args.agent) c.args.row.0 (get_or (rows_of c.self.inside.scene.now c.args.agent) c.args.row.0 no_row) d (slice_get-get_or (rows_of c.self.inside.scene.now c.args.agent) c.args.row.0 no_row within) in
    rw (← c.self.view_is) (ap not (c.is_twice.ensures ∙ (rw (rows, active) (ap (is_twice (rows_of c.self.inside.scene.now c.args.agent) (active_rows c.self.inside.scene.now c.self.inside.history.entries c.args.agent)) (here _)))))
