-- A legal history of a checked scene has all facts.
use Rattle.std.proofs.Common.{List}
use Rattle.so_scene.specs.declared.parts.SceneParts.{SceneParts}
use Rattle.so_scene.specs.Checked.{IsScene}
use Rattle.so_history.specs.declared.entry.Entry.{Entry}
use Rattle.so_history.specs.Steps.{Legal}
use Rattle.so_history_laws.proofs.FactLaws.{has_facts}
use Rattle.so_facts.specs.All.{HasAllFacts}
use Rattle.so_facts.proofs.ChoosingLaws.{by_demand}
use Rattle.so_facts.proofs.FirstLaws.{taken_first}
use Rattle.so_facts.proofs.LaneLaws.{lanes_in_turn}
use Rattle.so_facts.proofs.RefusalLaws.{by_admission}
use Rattle.so_facts.proofs.ActLaws.{by_reason, by_code}
use Rattle.so_facts.proofs.LifeLaws.{whole_lives}
use Rattle.so_facts.proofs.MovingLaws.{while_running}
use Rattle.so_facts.proofs.EndLaws.{went_on}

pub has_all_facts : (s : SceneParts) (h : List Entry) → IsScene s → Legal s h → HasAllFacts s h
has_all_facts s h scene legal = record {
  six = has_facts s h scene legal;
  demand = by_demand s h legal;
  firsts = taken_first s h legal;
  lanes = lanes_in_turn s h scene legal;
  admission = by_admission s h legal;
  reason = by_reason s h legal;
  lives = whole_lives s h scene legal;
  runs = while_running s h legal;
  code = by_code s h legal;
  went_on = went_on s h legal;
}
