-- What `check` prints of a scene.
use Rattle.std.specs.Prelude.{ℕ, List, ◌++◌, length, codes, decimal}
use Rattle.so_scene.specs.declared.parts.SceneParts.{SceneParts}
use Rattle.so_scene.specs.Lanes.{lanes}

-- how many agents, cooperations and lanes the scene has
abbrev pub summary_line : SceneParts → List ℕ
summary_line s = codes "ok: " ++ decimal (length s.agents) ++ codes " agents, " ++ decimal (length s.coops) ++ codes " cooperations, " ++ decimal (lanes s) ++ codes " lanes\n"
