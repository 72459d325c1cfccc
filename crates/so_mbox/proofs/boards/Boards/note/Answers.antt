use Rattle.std.proofs.Common.{length, arith, sym, ◌∙◌, ap}
use Rattle.so_mbox.specs.Boards.{listed, room_of, is_last}
use Rattle.so_mbox.proofs.BoardLaws.{here_now}
use Rattle.so_mbox.proofs.boards.Boards.note.Goals as goal

pub add-requires : goal.add-requires
add-requires c =
    let within = rw (← c.self.view_is) at c.requires.within in
    let room = rw (← c.self.view_is) at (c.requires.room (ap (is_last c.args.agent) (sym c.listed.ensures) ∙ (sym c.is_last.ensures ∙ c.if-not-is_last.true))) in
    let agents = here_now (λ b. length (listed b c.args.row.now.msg)) c.self.inside.boards.items c.args.row.now.mbox.0 c.index_mut.result.now within c.index_mut.ensures.value in
    let rooms = here_now (λ b. room_of b c.args.row.now.msg) c.self.inside.boards.items c.args.row.now.mbox.0 c.index_mut.result.now within c.index_mut.ensures.value in
    omega (arith, agents, rooms, room)
