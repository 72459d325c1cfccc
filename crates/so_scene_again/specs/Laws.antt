-- The law of writing and reading.
use Rattle.std.specs.Prelude.{◌≡◌, Ok}
use Rattle.so_scene.specs.declared.parts.SceneParts.{SceneParts}
use Rattle.so_scene.specs.Checked.{IsScene}
use Rattle.so_scene_json.specs.Scene.{of_data}
use Rattle.so_scene_data.specs.Canonical.{scene_data}

-- the data of a scene reads as that scene
abbrev pub ReadsAgain : Type 0
ReadsAgain = (s : SceneParts) → IsScene s → of_data (scene_data s) ≡ Ok s
