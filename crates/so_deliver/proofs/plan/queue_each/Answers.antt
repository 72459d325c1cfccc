use Rattle.std.proofs.Common.{◌≡◌, ◌<◌, length, arith, sym, ap, ◌∙◌, get_or, refl}
use Rattle.std.proofs.lemmas.List.{length_push}
use Rattle.so_ids.specs.declared.AgentId.{AgentId}
use Rattle.so_mbox.specs.Table.{candidates}
use Rattle.so_deliver.proofs.PlanLaws.{event_for, goes_begin, goes-queued, goes-lost, goes-on}
use Rattle.so_deliver.proofs.plan.queue_each.Goals as goal
use Rattle.so_deliver.proofs.plan.queue_each.Goals.{then-is_let_through+then-is_leaving, then-is_let_through+else-is_leaving, else-is_let_through}

nobody : AgentId
nobody = record { 0 = 0 }

pub loop-agent-init : goal.loop-agent-init
loop-agent-init c = rw (c.clear.ensures.none) (record {
  goes = goes_begin c.args.table.now c.args.coops.now c.args.mbox c.args.msg c.args.payload;
  few_events = omega arith;
  few_losses = omega arith;
  room = refl;
})

pub loop-agent-preserved : goal.loop-agent-preserved
unfolding nobody
loop-agent-preserved c =
    let within : c.loop-agent.agent-index < length (candidates c.args.table.now c.args.mbox c.args.msg) = rw (← c.candidates-agent-items.ensures.value) c.loop-agent-test.true in
    let is : get_or c.candidates-agent-items.result.now c.loop-agent.agent-index nobody ≡ get_or (candidates c.args.table.now c.args.mbox c.args.msg) c.loop-agent.agent-index nobody
    = ap (λ agents. get_or agents c.loop-agent.agent-index nobody) c.candidates-agent-items.ensures.value in
    elim c.if-is_let_through.branch [
      | then-is_let_through+then-is_leaving w ↦ rw (w.outcomes-is, w.lost-is) (record {
        goes = goes-lost _ _ _ _ _ _ _ _ _ _ _ nobody within is (sym c.is_let_through.ensures ∙ w.if-is_let_through.true) (sym w.is_leaving.ensures ∙ w.if-is_leaving.true) c.loop-agent.invariant.goes;
        few_events = omega arith;
        few_losses = omega arith;
        room = c.loop-agent.invariant.room;
      })
      | then-is_let_through+else-is_leaving w ↦ rw (w.outcomes-is, w.queue.ensures, w.lost-is) (record {
        goes = goes-queued _ _ _ _ _ _ _ _ _ _ _ nobody within is (sym c.is_let_through.ensures ∙ w.if-is_let_through.true) (sym w.is_leaving.ensures ∙ w.if-is_leaving.false) c.loop-agent.invariant.goes;
        few_events = omega (arith, length_push c.loop-agent.outcomes.queued (event_for c.args.mbox c.args.msg c.args.payload (get_or c.candidates-agent-items.result.now c.loop-agent.agent-index nobody)));
        few_losses = omega arith;
        room = c.loop-agent.invariant.room;
      })
      | else-is_let_through w ↦ rw (w.outcomes-is, w.lost-is) (record {
        goes = goes-on _ _ _ _ _ _ _ _ _ _ _ nobody within is (sym c.is_let_through.ensures ∙ w.if-is_let_through.false) c.loop-agent.invariant.goes;
        few_events = omega arith;
        few_losses = omega arith;
        room = c.loop-agent.invariant.room;
      })
    ]
