use Rattle.std.proofs.Common.{◌≡◌, map, take, string_bytes}
use Rattle.so_scene_json.proofs.finish.mbox_list.Given as goal

abbrev pub invariant-loop-name : goal.invariant-loop-name
invariant-loop-name l = l.mboxes ≡ map string_bytes (take l.name-index l.names)
