-- What turns do: each move is what the code of the agent does next, and each act is answered by the rules as things stand then.
use Rattle.std.specs.Prelude.{◌≡◌, ℕ, List, Some}
use Rattle.so_ids.specs.declared.Place.{Place}
use Rattle.so_code.specs.declared.effect.Answer.{Answer}
use Rattle.so_code.specs.declared.effect.Effect.{Effect}
use Rattle.so_code.specs.declared.effect.FailKind.{FailKind}
use Rattle.so_code.specs.declared.effect.Move.{Move}
use Rattle.so_code.specs.declared.effect.Move.TheVariants.{Do, Done, Fail}
use Rattle.so_scene.specs.declared.parts.SceneParts.{SceneParts}
use Rattle.so_history.specs.declared.entry.Entry.{Entry}
use Rattle.so_history.specs.declared.entry.EntryKind.TheVariants.{Act, End, Abort}
use Rattle.so_history.specs.declared.entry.AbortCause.TheVariants.{Exception}
use Rattle.so_history.specs.Places.{before}
use Rattle.so_history.specs.Turns.{Course, course, move_of}
use Rattle.so_history.specs.Steps.{answer_of}
use Rattle.so_history.specs.Facts.{StandsAt}

-- a turn has come so far that this is its next move
pub record MovesSo (s : SceneParts) (h : List Entry) (turn : Place) (move : Move) : Type 0 where
  pub reached : Course
  pub has : course s h turn.0 ≡ Some reached
  pub is_next : (move_of s reached).0 ≡ move

-- a turn's effect is its next move, and is answered so
pub record ActsSo (s : SceneParts) (h : List Entry) (turn : Place) (effect : Effect) (answer : Answer) : Type 0 where
  pub reached : Course
  pub has : course s h turn.0 ≡ Some reached
  pub is_next : (move_of s reached).0 ≡ Do effect
  pub answered : answer_of s h reached.agent reached.event effect ≡ Some answer

-- by code: each act, each end and each exception is the next move of its turn, and each act is answered by the rules
pub record ByCode (s : SceneParts) (h : List Entry) : Type 0 where
  pub acts : (place : ℕ) (turn : Place) (effect : Effect) (answer : Answer) → StandsAt h place (Act turn effect answer) → ActsSo s (before h place) turn effect answer
  pub ends : (place : ℕ) (turn : Place) → StandsAt h place (End turn) → MovesSo s (before h place) turn Done
  pub fails : (place : ℕ) (turn : Place) (kind : FailKind) → StandsAt h place (Abort (Exception turn kind)) → MovesSo s (before h place) turn (Fail kind)
