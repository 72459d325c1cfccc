use Rattle.so_mbox.proofs.BoardLaws.{rows_within}
use Rattle.so_mbox.proofs.boards.rows_of.Goals as goal

pub returns-clause-within : goal.returns-clause-within
returns-clause-within c = rw (c.as_slice.ensures, c.agent.ensures.value) (rows_within c.args.scene.now c.args.agent c.parts-parts.ensures.keeps c.requires)
