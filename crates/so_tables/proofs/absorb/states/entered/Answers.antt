use Rattle.so_tables.proofs.absorb.states.entered.Goals as goal

pub returns-in-Turn : goal.returns-in-Turn
returns-in-Turn c = rw c.in-Turn.is (λ leaves all. c.enter.ensures leaves all)
