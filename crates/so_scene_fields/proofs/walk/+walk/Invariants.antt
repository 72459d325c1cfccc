use Rattle.std.proofs.Common.{◌≡◌, ◌+◌, ◌*◌, drop}
use Rattle.serde_json.specs.View.{view, items_view}
use Rattle.so_scene_fields.specs.Visits.{visits, fields_of, items_from, run}
use Rattle.so_scene_fields.proofs.walk.+walk.Given as goal

abbrev pub decreases-fields : goal.decreases-fields
decreases-fields g l = 5 * l.levels + 4

abbrev pub decreases-one_field : goal.decreases-one_field
decreases-one_field g l = 5 * l.levels + 3

abbrev pub decreases-inside : goal.decreases-inside
decreases-inside g l = 5 * l.levels + 2

abbrev pub decreases-items : goal.decreases-items
decreases-items g l = 5 * l.levels + 1

abbrev pub decreases-object : goal.decreases-object
decreases-object g l = 5 * l.levels

abbrev pub invariant-fields-loop-rule : goal.invariant-fields-loop-rule
invariant-fields-loop-rule g l =
    run g.P.Pass.step l.initial.pass (fields_of (visits l.levels) l.rules l.place (view l.value))
    ≡ run g.P.Pass.step l.pass (fields_of (visits l.levels) (drop l.rule-index l.rules) l.place (view l.value))

abbrev pub invariant-items-loop-i : goal.invariant-items-loop-i
invariant-items-loop-i g l =
    run g.P.Pass.step l.initial.pass (items_from (visits l.levels l.kind) l.place 0 (items_view l.list))
    ≡ run g.P.Pass.step l.pass (items_from (visits l.levels l.kind) l.place l.i (items_view (drop l.i l.list)))
