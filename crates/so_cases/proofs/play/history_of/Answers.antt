use Rattle.std.proofs.Common.{sym, ◌∙◌, ap, None}
use Rattle.std.specs.Prelude.{replicate}
use Rattle.so_scene.specs.Lanes.{lanes}
use Rattle.so_ledger.specs.Shapes.{Core}
use Rattle.so_env.proofs.RunLaws.{way_start}
use Rattle.so_cases.proofs.PlayLaws.{legal_of}
use Rattle.so_cases.proofs.play.history_of.Goals as goal

pub play-requires-clause-held : goal.play-requires-clause-held
play-requires-clause-held c =
    (way_start c.in_ok-kernel.kernel c.in_ok-turns.turns (ap (λ (k : Core). k.history) c.in_ok-kernel.ensures) (ap (λ (k : Core). k.full) c.in_ok-kernel.ensures)
    (c.in_ok-turns.ensures ∙ ap (λ n. replicate n None) (c.lanes.ensures.value ∙ sym (ap (λ (k : Core). lanes k.scene) c.in_ok-kernel.ensures)))).held

pub returns-clause-legal : goal.returns-clause-legal
returns-clause-legal c =
    legal_of c.in_ok-kernel.kernel c.play.new.kernel c.args.picks.now c.args.scene.now c.close.result.entries
    (ap (λ (k : Core). k.scene) c.in_ok-kernel.ensures) c.play.ensures.after c.close.ensures.entries c.close.ensures.legal
