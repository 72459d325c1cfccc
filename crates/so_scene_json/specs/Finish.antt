-- The parts of a scene that the passes leave, and the lists that are made at the end.
use Rattle.std.specs.Prelude.{◌≡◌, ◌≤◌, length, false, bytes_eq}
use Rattle.std.specs.List.{IsDistinct}
use Rattle.so_scene.specs.declared.parts.SceneParts.{SceneParts}
use Rattle.so_scene.specs.Lanes.{AreBound}
use Rattle.so_scene.specs.Checked.{IsScene}
use Rattle.so_scene_build.specs.declared.build.Build.{Build}
use Rattle.so_scene_build.specs.Groups.{group_lists}
use Rattle.so_scene_json.specs.declared.finish.Lists.{Lists}
use Rattle.so_scene_json.specs.Scene.{exceeds}

-- Parts whose lanes can be counted where the agents aren't too many. They are a scene where their totals are within the limits.
pub record IsChecked (s : SceneParts) : Type 0 where
  pub bound : length s.agents ≤ 4096 → AreBound s
  pub scene : exceeds s ≡ false → IsScene s

-- the lists that are made at the end, and the parts that have them
pub record AreLists (b : Build) (l : Lists) : Type 0 where
  pub groups : group_lists b.groups (length b.dispatchers) ≡ l.groups
  pub mboxes : b.names.mboxes ≡ l.mboxes
  pub texts : b.texts ≡ l.texts
  pub each_text_once : IsDistinct bytes_eq b.texts

abbrev pub parts_with : Build → Lists → SceneParts
parts_with b l = record {
  messages = b.messages;
  mboxes = l.mboxes;
  dispatchers = b.dispatchers;
  groups = l.groups;
  coops = b.coops;
  agents = b.agents;
  texts = l.texts;
  autoshutdown = b.autoshutdown;
}
