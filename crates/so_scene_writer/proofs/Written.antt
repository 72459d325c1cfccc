-- The bytes of a scene read as that scene.
use Rattle.std.proofs.Common.{◌≡◌, ℕ, ◌≤◌, List, false, Some, Ok, ap, ◌∙◌, subst, sym, arith}
use Rattle.std.specs.Str.{IsUtf8}
use Rattle.std.proofs.lemmas.Str.{is_utf8-from_IsUtf8}
use Rattle.serde_json.specs.Data.{Data, depth}
use Rattle.serde_json.specs.Written.{compact_text, has_float}
use Rattle.serde_json.specs.Read.{read, max_depth}
use Rattle.so_scene.specs.declared.parts.SceneParts.{SceneParts}
use Rattle.so_scene.specs.Checked.{IsScene}
use Rattle.so_scene_json.specs.Scene.{of_data, scene_of}
use Rattle.so_scene_data.specs.Canonical.{scene_data}
use Rattle.so_scene_writer.proofs.Depths.{scene_under}
use Rattle.so_scene_writer.proofs.Floats.{scene_exact}
use Rattle.so_scene_again.proofs.SceneLaws.{scene_again}

shallow : (s : SceneParts) → depth (scene_data s) ≤ max_depth
shallow s = let h : depth (scene_data s) ≤ 9 = scene_under s in omega arith

pub written_again : (s : SceneParts) (bytes : List ℕ) (d : Data) → IsScene s → d ≡ scene_data s → IsUtf8 bytes → (depth d ≤ max_depth → read bytes ≡ Some d) → scene_of bytes ≡ Ok s
written_again s bytes d h e u r =
    let low : depth d ≤ max_depth = subst (λ (x : Data). depth x ≤ max_depth) (sym e) (shallow s) in
    rw (is_utf8-from_IsUtf8 bytes u, r low) (ap of_data e ∙ scene_again s h)

pub text_again : (s : SceneParts) (bytes : List ℕ) (d : Data) → d ≡ scene_data s → (has_float d ≡ false → bytes ≡ compact_text d) → bytes ≡ compact_text (scene_data s)
text_again s bytes d e f = f (ap has_float e ∙ scene_exact s) ∙ ap compact_text e
