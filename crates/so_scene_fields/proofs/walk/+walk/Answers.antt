use Rattle.std.proofs.Common.{Err, ap, ◌∙◌, rules}
use Rattle.std.proofs.lemmas.Result.{err_from_is_err_and}
use Rattle.serde_json.specs.View.{view}
use Rattle.so_scene_fields.specs.Visits.{visits, field_visits, run}
use Rattle.so_scene_fields.proofs.Runs.{fails_at, on, fields_fail, fields_go, fields_end, items_fail, items_go, items_end, visits_here, object_fails, object_ends, field_fails, field_ends, field_skipped}
use Rattle.so_scene_fields.proofs.walk.+walk.Goals as goal

pub fields-returns-in_err-one_field : goal.fields-returns-in_err-one_field
fields-returns-in_err-one_field g t c =
    let p = err_from_is_err_and c.from_residual.result c.from_residual.ensures.1 in
    rw (p.1, p.2) (fields_fail g.P.Pass.lack _ _ _ _ _ _ _ _ _ c.in_err-one_field.field-0.0 c.one_field.new.pass _ c.loop-rule-test.true c.loop-rule.invariant c.in_err-one_field.ensures)

pub fields-loop-rule-preserved : goal.fields-loop-rule-preserved
fields-loop-rule-preserved g t c = fields_go _ _ _ _ _ _ _ _ _ _ c.loop-rule-test.true c.loop-rule.invariant c.in_ok-one_field.ensures

pub fields-returns : goal.fields-returns
unfolding run
fields-returns g t c = c.loop-rule.invariant ∙ rw (fields_end (visits c.args.levels) c.args.rules.now c.loop-rule.rule-index c.args.place.now (view c.args.value.now) c.loop-rule-test.false)

pub inside-returns-in-None : goal.inside-returns-in-None
unfolding run
inside-returns-in-None g t c = search rules

pub items-returns-in_err-object : goal.items-returns-in_err-object
items-returns-in_err-object g t c =
    let p = err_from_is_err_and c.from_residual.result c.from_residual.ensures.1 in
    rw (p.1, p.2) (items_fail g.P.Pass.lack _ _ _ _ _ _ _ _ _ _ c.in_err-object.field-0.0 c.object.new.pass _ c.loop-i-test.true c.index-list-i.is (search rules) c.loop-i.invariant c.in_err-object.ensures)

pub items-loop-i-preserved : goal.items-loop-i-preserved
items-loop-i-preserved g t c = items_go _ _ _ _ _ _ _ _ _ _ _ c.loop-i-test.true c.index-list-i.is (search rules) c.loop-i.invariant c.in_ok-object.ensures

pub items-returns : goal.items-returns
unfolding run
items-returns g t c = c.loop-i.invariant ∙ rw (items_end (visits c.args.levels c.args.kind) c.args.place.now c.args.list.now c.loop-i.i c.loop-i-test.false)

pub object-returns-then-levels-eq0 : goal.object-returns-then-levels-eq0
unfolding run visits
object-returns-then-levels-eq0 g t c = search rules

pub object-returns-in_err-enter : goal.object-returns-in_err-enter
object-returns-in_err-enter g t c =
    let p = err_from_is_err_and c.from_residual.result c.from_residual.ensures.1 in
    rw (p.1, p.2) (on g.P.Pass.lack _ _ (Err c.in_err-enter.field-0.0) c.enter.new.self (ap (run g.P.Pass.step c.args.pass.now) (visits_here c.args.levels c.args.kind c.args.place.now (view c.args.value.now) (search rules)))
    (fails_at g.P.Pass.lack _ _ _ _ c.in_err-enter.field-0.0 c.enter.new.self _ c.in_err-enter.ensures))

pub object-returns-in_err-fields : goal.object-returns-in_err-fields
object-returns-in_err-fields g t c =
    let p = err_from_is_err_and c.from_residual-in_err-fields.result c.from_residual-in_err-fields.ensures.1 in
    rw (p.1, p.2) (object_fails g.P.Pass.lack _ _ _ _ _ _ _ c.in_err-fields.field-0.0 c.fields.new.pass _ c.rules.result.now (search rules) c.rules.ensures c.in_ok-enter.ensures c.in_err-fields.ensures)

pub object-returns : goal.object-returns
object-returns g t c = object_ends g.P.Pass.lack _ _ _ _ _ _ _ _ c.leave.result c.leave.new.self c.rules.result.now (search rules) c.rules.ensures c.in_ok-enter.ensures c.in_ok-fields.ensures c.leave.ensures

pub one_field-returns-in_err-field : goal.one_field-returns-in_err-field
unfolding field_visits
one_field-returns-in_err-field g t c =
    let p = err_from_is_err_and c.from_residual.result c.from_residual.ensures.1 in
    rw (p.1, p.2) (field_fails g.P.Pass.lack _ _ (visits c.args.levels) _ _ _ _ _ _ c.in_err-field.field-0.0 c.field.new.self _ c.key.ensures.key c.get-found.ensures c.step-at.ensures c.in_err-field.ensures)

pub one_field-returns : goal.one_field-returns
unfolding field_visits
one_field-returns g t c = field_ends g.P.Pass.lack _ _ _ (visits c.args.levels) _ _ _ _ _ _ _ c.inside.result c.inside.new.pass c.key.ensures.key c.get-found.ensures c.step-at.ensures c.objects.ensures c.in_ok-field.ensures c.inside.ensures

pub one_field-returns-then-skips : goal.one_field-returns-then-skips
one_field-returns-then-skips g t c = let passed = c.skips.ensures c.if-skips.true in field_skipped _ _ (visits c.args.levels) _ _ _ passed.0 passed.1
