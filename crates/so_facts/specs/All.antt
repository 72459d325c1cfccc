-- All of it together.
use Rattle.std.specs.Prelude.{List}
use Rattle.so_scene.specs.declared.parts.SceneParts.{SceneParts}
use Rattle.so_history.specs.declared.entry.Entry.{Entry}
use Rattle.so_history.specs.Facts.{HasFacts}
use Rattle.so_facts.specs.Choosing.{ByDemand}
use Rattle.so_facts.specs.Firsts.{TakenFirst}
use Rattle.so_facts.specs.Lanes.{LanesInTurn}
use Rattle.so_facts.specs.Refusals.{ByAdmission}
use Rattle.so_facts.specs.Leavings.{ByReason}
use Rattle.so_facts.specs.Lives.{WholeLives}
use Rattle.so_facts.specs.Moves.{WhileRunning}
use Rattle.so_facts.specs.Acts.{ByCode}
use Rattle.so_facts.specs.Ends.{WentOn}

-- the six facts, and nine more
pub record HasAllFacts (s : SceneParts) (h : List Entry) : Type 0 where
  pub six : HasFacts s h
  pub demand : ByDemand s h
  pub firsts : TakenFirst s h
  pub lanes : LanesInTurn s h
  pub admission : ByAdmission s h
  pub reason : ByReason s h
  pub lives : WholeLives s h
  pub runs : WhileRunning h
  pub code : ByCode s h
  pub went_on : WentOn s h
