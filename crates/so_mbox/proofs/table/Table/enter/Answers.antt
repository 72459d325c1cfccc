use Rattle.std.proofs.Common.{arith}
use Rattle.so_mbox.proofs.CandidateLaws.{room_to_enter, new_there, listed-enter}
use Rattle.so_mbox.proofs.TableLaws.{room_in, kept-enter}
use Rattle.so_mbox.proofs.table.Table.enter.Goals as goal

pub push_reserved-requires : goal.push_reserved-requires
push_reserved-requires c =
    let within = rw (← c.self.view_is) at c.requires.agent in
    let new = rw (← c.self.view_is) at c.requires.new in
    let room = room_in _ c.args.agent c.self.invariant.0 within new in
    omega arith

pub enter-requires-clause-new : goal.enter-requires-clause-new
enter-requires-clause-new c =
    let new = rw (← c.self.view_is) at c.requires.new in
    new_there _ _ c.args.agent c.self.invariant.2 new

pub enter-requires-clause-room : goal.enter-requires-clause-room
enter-requires-clause-room c =
    let within = rw (← c.self.view_is) at c.requires.agent in
    let new = rw (← c.self.view_is) at c.requires.new in
    rw (c.rows_of.ensures.value) (room_to_enter _ _ c.args.agent c.self.invariant.0 c.self.invariant.2 within new)

pub invariant_of-self : goal.invariant_of-self
invariant_of-self c =
    let within = rw (← c.self.view_is) at c.requires.agent in
    let new = rw (← c.self.view_is) at c.requires.new in
    let kept = kept-enter _ c.args.agent c.self.invariant.0 within new in
    let agents = rw c.rows_of.ensures.value at c.enter.ensures.agents in
    rw (c.push_reserved.ensures.items, c.put_rows_first.ensures, c.put_filters_first.ensures, c.as_slice.ensures, c.as_slice-2.ensures, c.agent-def.ensures.value) (
      kept,
      omega (arith, c.push_reserved.ensures.capacity),
      listed-enter _ _ _ c.args.agent c.self.invariant.2 c.enter.ensures.boards agents c.enter.ensures.room,
    )
