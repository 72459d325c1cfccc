use Rattle.std.proofs.Common.{◌∙◌, sym}
use Rattle.so_history.proofs.PackedLaws.{same_payload}
use Rattle.so_history.proofs.packed.only_field.Goals as goal

pub returns-then-eq : goal.returns-then-eq
returns-then-eq c = same_payload c.args.payload c.payload_with.result (sym c.if-eq.ensures) ∙ c.payload_with.ensures
