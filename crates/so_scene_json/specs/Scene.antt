-- The scene of bytes, or the first fault with its place.
use Rattle.std.specs.Prelude.{ℕ, List, [], length, Bool, ◌||◌, nat_lt, is_some, if◌then◌else◌, Option, Some, None, Result, Ok, Err}
use Rattle.std.specs.Str.{is_utf8}
use Rattle.serde_json.specs.Data.{Data}
use Rattle.serde_json.specs.Read.{read}
use Rattle.serde_json.specs.Find.{as_object}
use Rattle.so_fault.specs.declared.fault.SceneFault.{SceneFault}
use Rattle.so_fault.specs.declared.fault.SceneFault.TheVariants as fault
use Rattle.so_scene.specs.declared.parts.SceneParts.{SceneParts}
use Rattle.so_scene.specs.Lanes.{lanes}
use Rattle.so_scene_build.specs.Groups.{group_lists}
use Rattle.so_scene_build.specs.declared.build.Build.{Build}
use Rattle.so_scene_passes.specs.declared.shape.Shape.{Shape}
use Rattle.so_scene_fields.specs.Visits.{fields, run, ◌>>=◌}
use Rattle.so_scene_passes.specs.Shape.{shape_step}
use Rattle.so_scene_passes.specs.Twice.{twice_step, no_names}
use Rattle.so_scene_passes.specs.Known.{known_step, knows}
use Rattle.so_scene_build.specs.Build.{build_step, no_parts}

-- bytes that are no UTF-8 have no reading
abbrev pub reading : List ℕ → Option Data
reading bytes = if is_utf8 bytes then read bytes else None

-- ---- after the fourth pass

abbrev pub parts_of : Build → SceneParts
parts_of s = record {
  messages = s.messages;
  mboxes = s.names.mboxes;
  dispatchers = s.dispatchers;
  groups = group_lists s.groups (length s.dispatchers);
  coops = s.coops;
  agents = s.agents;
  texts = s.texts;
  autoshutdown = s.autoshutdown;
}

-- the totals of agents, texts and lanes
abbrev pub exceeds : SceneParts → Bool
exceeds s = nat_lt 4096 (length s.agents) || (nat_lt 4096 (length s.texts) || nat_lt 256 (lanes s))

abbrev pub checked : SceneParts → Result SceneParts SceneFault
checked s = if exceeds s then Err (fault.OutOfRange []) else Ok s

abbrev pub finished : Build → Result SceneParts SceneFault
finished s = checked (parts_of s)

-- ---- the four passes, one after the other

-- the first pass has no state
abbrev pub no_state : Shape
no_state = record {}

unfoldable pub passes : Data → Result SceneParts SceneFault
passes d = do
  shape ← run shape_step no_state (fields d)
  names ← run twice_step no_names (fields d)
  known ← run known_step (knows names) (fields d)
  parts ← run build_step (no_parts known.names) (fields d)
  finished parts

abbrev pub of_data : Data → Result SceneParts SceneFault
of_data d = if is_some (as_object d) then passes d else Err (fault.WrongShape [])

abbrev pub of_reading : Option Data → Result SceneParts SceneFault
of_reading None = Err fault.NotJson
of_reading (Some d) = of_data d

abbrev pub scene_of : List ℕ → Result SceneParts SceneFault
scene_of bytes = of_reading (reading bytes)
