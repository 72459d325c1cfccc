use Rattle.std.proofs.Common.{◌<◌, ◌+◌, ◌-◌, ℕ, length, sym, ◌∙◌, arith}
use Rattle.std.specs.Prelude.{◌/◌}
use Rattle.so_events.proofs.ListLaws.{got}
use Rattle.so_events.proofs.NameOrder.{other_order, named_at, search_begins, search_up, search_down, search_over}
use Rattle.so_events.proofs.find.find_demand.Goals as goal

pub loop-low-init : goal.loop-low-init
loop-low-init c = search_begins c.args.demands.now c.args.id

pub returns-then-is : goal.returns-then-is
returns-then-is c =
    let middle : ℕ = c.loop-low.low + (c.loop-low.high - c.loop-low.low) / 2 in
    let within : middle < length c.args.demands.now = omega (arith, c.loop-low-test.true, c.loop-low.invariant.within) in
    sym (named_at c.args.demands.now middle c.args.id _ c.requires (got c.args.demands.now middle _ within) (sym c.is.ensures ∙ c.if-is.true))

pub loop-low-preserved-then-is_before : goal.loop-low-preserved-then-is_before
loop-low-preserved-then-is_before c =
    let middle : ℕ = c.loop-low.low + (c.loop-low.high - c.loop-low.low) / 2 in
    let below : middle < c.loop-low.high = omega (arith, c.loop-low-test.true) in
    let within : middle < length c.args.demands.now = omega (arith, c.loop-low.invariant.within) in
    search_up middle _ c.requires below (got c.args.demands.now middle _ within) (sym c.is_before.ensures ∙ c.if-is_before.true) c.loop-low.invariant

pub loop-low-preserved : goal.loop-low-preserved
loop-low-preserved c =
    let middle : ℕ = c.loop-low.low + (c.loop-low.high - c.loop-low.low) / 2 in
    let below : middle < c.loop-low.high = omega (arith, c.loop-low-test.true) in
    let within : middle < length c.args.demands.now = omega (arith, c.loop-low.invariant.within) in
    search_down middle _ c.requires (omega arith) below (got c.args.demands.now middle _ within) (other_order c.args.id _ (sym c.is.ensures ∙ c.if-is.false) (sym c.is_before.ensures ∙ c.if-is_before.false)) c.loop-low.invariant

pub returns : goal.returns
returns c = search_over (omega (arith, c.loop-low-test.false)) c.loop-low.invariant
