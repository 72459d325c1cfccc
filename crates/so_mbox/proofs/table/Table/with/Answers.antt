use Rattle.std.proofs.Common.{◌≡◌, length, arith}
use Rattle.so_mbox.proofs.CandidateLaws.{listed-nobody}
use Rattle.so_mbox.proofs.TableLaws.{kept-nobody}
use Rattle.so_mbox.proofs.table.Table.with.Goals as goal

pub invariant_of-result : goal.invariant_of-result
invariant_of-result c =
    let agents : length c.as_slice-agents.result.now ≡ length c.args.shapes.now.agents = rw (c.as_slice-agents.ensures, c.parts.ensures.value) in
    rw (c.in_ok-with_capacity.ensures.items, c.in_ok-no_rows.ensures, c.in_ok-first_filters.ensures, c.as_slice-agents.ensures, c.parts.ensures.value) (
      kept-nobody c.args.shapes.now,
      omega (arith, agents, c.in_ok-with_capacity.ensures.capacity),
      listed-nobody c.args.shapes.now c.in_ok-with.field-0 c.in_ok-with.ensures.room c.in_ok-with.ensures.none,
    )
