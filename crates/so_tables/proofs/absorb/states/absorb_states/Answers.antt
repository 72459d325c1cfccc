use Rattle.so_tables.proofs.absorb.states.absorb_states.Goals as goal

pub returns-in-Register : goal.returns-in-Register
returns-in-Register c = rw c.in-Register.is (λ leaves all. c.enter.ensures leaves all)

pub returns-in-Act : goal.returns-in-Act
returns-in-Act c = rw c.in-Act.is (λ leaves all. c.acted.ensures leaves all)
