use Rattle.std.proofs.Common.{drop, ◌≡◌, ◌∙◌, ap, Some}
use Rattle.std.specs.Prelude.{if◌then◌else◌}
use Rattle.so_ids.specs.declared.StateId.{StateId}
use Rattle.so_state.proofs.Kept.{StandsFor-cons}
use Rattle.so_state.specs.States.{ancestors, is_on}
use Rattle.so_state.specs.Memory.{kept}
use Rattle.so_state.proofs.leaves.remember.Goals as goal
use Rattle.so_state.proofs.leaves.remember.Goals.{After-write_above}

pub write_above-requires : goal.write_above-requires
write_above-requires c = rw (c.after_first.ensures, c.path-path.ensures.path) c.path-path.ensures.above

written : (c : After-write_above) (s : StateId) → kept c.write_above.new.last s ≡ (if is_on (ancestors c.args.tree.now c.args.leaf) s then Some c.args.leaf else kept c.args.memory.now s)
written c s =
    let above : c.after_first.result.now ≡ ancestors c.args.tree.now c.args.leaf = c.after_first.ensures ∙ ap (λ l. drop 1 l) c.path-path.ensures.path in
    rw (← above, ← c.memory.view_is) (c.write_above.ensures s)

pub returns : goal.returns
returns c = λ leaves stands. StandsFor-cons _ _ _ leaves _ (written c) stands
