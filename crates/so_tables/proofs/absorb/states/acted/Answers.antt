use Rattle.so_tables.proofs.absorb.states.acted.Goals as goal

pub returns-in-Okay : goal.returns-in-Okay
returns-in-Okay c = rw (c.in-Register.is, c.in-Okay.is) (λ leaves all. c.enter.ensures leaves all)

pub returns-in-SetState : goal.returns-in-SetState
returns-in-SetState c = rw c.in-SetState.is (λ leaves all. c.entered.ensures leaves all)
