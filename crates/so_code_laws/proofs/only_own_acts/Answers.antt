use Rattle.so_code.specs.Own.{is_own}
use Rattle.so_code.proofs.ShapeLaws.{places-code}
use Rattle.so_code.proofs.OwnLaws.{own_act, all_at}
use Rattle.so_code_laws.proofs.only_own_acts.Goals as goal

pub returns : goal.returns
returns c = λ code f g e is_code own frame runs moves.
    own_act code is_own (λ p i here. all_at is_own code p i own here) (λ i passes. passes) f g e (places-code code is_code) frame runs moves
