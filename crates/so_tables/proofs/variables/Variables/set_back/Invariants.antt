use Rattle.std.proofs.Common.{◌≡◌, length}
use Rattle.so_scene.specs.Parts.{agents_from}
use Rattle.so_tables.specs.Tables.{set_back}
use Rattle.so_tables.proofs.variables.Variables.set_back.Given as goal

abbrev pub invariant-loop-k : goal.invariant-loop-k
invariant-loop-k l = (length l.self ≡ length l.scene.agents) × (l.self ≡ set_back l.scene (agents_from l.first l.k) l.fn.self)
