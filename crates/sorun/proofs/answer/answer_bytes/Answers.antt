use Rattle.std.proofs.Common.{◌∙◌, refl}
use Rattle.sorun.proofs.AnswerLaws.{scene_refused, scene_done}
use Rattle.sorun.proofs.answer.answer_bytes.Goals as goal

pub returns-in-Err-clause-scene : goal.returns-in-Err-clause-scene
returns-in-Err-clause-scene g c =
    scene_refused _ _ c.in-Err.why _ _ _ _ _ c.in-Err.ensures record { is = c.refused.ensures.cause ∙ c.refusal_cause.ensures; no_scene = c.refused.ensures.scene; no_history = c.refused.ensures.history; no_pieces = c.refused.ensures.pieces; same = refl }

pub returns-in-Ok-clause-scene : goal.returns-in-Ok-clause-scene
returns-in-Ok-clause-scene g c = scene_done _ _ c.in-Ok.scene _ _ _ _ _ c.in-Ok.ensures c.answer_job.ensures.job
