use Rattle.std.proofs.Common.{refl, [], ◌∷◌}
use Rattle.so_code_laws.proofs.Checks.{agent_code}
use Rattle.so_twins.proofs.boxes.echoing.Goals as goal

pub new-requires : goal.new-requires
new-requires c = rw c.in_ok-instrs.ensures.items (agent_code _ 0 (record { 0 = 0 } ∷ []) refl refl refl refl refl)
