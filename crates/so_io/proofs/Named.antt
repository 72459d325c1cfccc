-- The first file of a name, as it is kept and as its name and its bytes.
use Rattle.std.proofs.Common.{◌≡◌, ℕ, List, [], ◌∷◌, true, false, refl, Some, find}
use Rattle.std.specs.Prelude.{Vec, string_bytes, if◌then◌else◌}
use Rattle.std.specs.Option.{option_map}
use Rattle.std.specs.Str.{bytes_eq}
use Rattle.std.specs.declared.alloc.Global.{Global}
use Rattle.std.specs.declared.string.String.{String}
use Rattle.so_io.specs.MemFiles.{file_of, named_files}

pub file_of_named : (files : List (String Global × Vec ℕ Global)) (name : List ℕ)
    → file_of (named_files files) name ≡ option_map (λ file. file.1.items) (find (λ file. bytes_eq (string_bytes file.0) name) files)
file_of_named [] name = refl
file_of_named (file ∷ files) name =
    elim (bytes_eq (string_bytes file.0) name) as (λ b.
    option_map (λ f. f.1) (if b then Some (string_bytes file.0, file.1.items) else find (λ f. bytes_eq f.0 name) (named_files files))
    ≡ option_map (λ f. f.1.items) (if b then Some file else find (λ f. bytes_eq (string_bytes f.0) name) files))
    [ true ↦ refl | false ↦ file_of_named files name ]
