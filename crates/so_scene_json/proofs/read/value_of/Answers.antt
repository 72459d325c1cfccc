use Rattle.std.proofs.Common.{◌≡◌, Bool, true, false, Some, None, List, ℕ, refl, sym, ◌∙◌, if◌then◌else◌}
use Rattle.std.specs.Str.{is_utf8}
use Rattle.std.proofs.lemmas.Str.{IsUtf8-from_is_utf8, is_utf8-from_IsUtf8}
use Rattle.std.proofs.lemmas.Bool.{true≢false}
use Rattle.serde_json.specs.Read.{read}
use Rattle.so_scene_json.specs.Scene.{reading}
use Rattle.so_scene_json.proofs.Reading.{read_numbers}
use Rattle.so_scene_json.proofs.read.value_of.Goals as goal

no_reading : (bytes : List ℕ) (b : Bool) → is_utf8 bytes ≡ b → (b ≡ true → read bytes ≡ None) → (if b then read bytes else None) ≡ None
no_reading bytes true e h = h refl
no_reading bytes false e h = refl

not_true : (b : Bool) → b ≡ false → b ≡ true → ⊥
not_true b e t = true≢false (sym t ∙ e)

pub returns-in-Ok : goal.returns-in-Ok
returns-in-Ok c =
    let read : reading c.args.bytes.now ≡ Some _ = rw (is_utf8-from_IsUtf8 c.args.bytes.now c.in-Ok.ensures.ok.0) c.in-Ok.ensures.ok.1 in
    record { read = read; numbers = read_numbers c.args.bytes.now _ read }

pub returns-else-is_memory : goal.returns-else-is_memory
returns-else-is_memory c = record { read = (refl, no_reading c.args.bytes.now (is_utf8 c.args.bytes.now) refl (λ e. c.in-Err.ensures.err (λ m. not_true _ c.if-is_memory.false (c.is_memory.ensures.1 m)) (IsUtf8-from_is_utf8 c.args.bytes.now e))); numbers = tt }
