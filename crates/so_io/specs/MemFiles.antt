-- Files in memory, of which some calls fail.
use Rattle.std.specs.Prelude.{◌≡◌, ℕ, List, length, map, find, Bool, nat_lt, if◌then◌else◌, Option, None, Some, Result, Ok, Err, Vec, string_bytes}
use Rattle.std.specs.declared.alloc.Global.{Global}
use Rattle.std.specs.declared.string.String.{String}
use Rattle.std.specs.Option.{option_map}
use Rattle.std.specs.Str.{bytes_eq}
use Rattle.so_io.specs.declared.files.ReadFail.{ReadFail}
use Rattle.so_io.specs.declared.files.ReadFail.TheVariants.{Failed, TooLong, NoMemory}
use Rattle.so_io.specs.Count.{counted, is_to_fail}
use Rattle.so_io.specs.Files.{after_answer}

-- names with contents, the numbers of the calls that fail, how many calls there were, and how many failed
pub record MemFilesState : Type 0 where
  pub files : List (List ℕ × List ℕ)
  pub fails : List ℕ
  pub calls : ℕ
  pub faults : ℕ

-- each file as its name and its bytes
abbrev pub named_files : List (String Global × Vec ℕ Global) → List (List ℕ × List ℕ)
named_files files = map (λ file. (string_bytes file.0, file.1.items)) files

-- the bytes of the first file of a name
abbrev pub file_of : List (List ℕ × List ℕ) → List ℕ → Option (List ℕ)
file_of files name = option_map (λ file. file.1) (find (λ file. bytes_eq file.0 name) files)

-- a name that isn't there fails, a longer file is too long even at a call that is to fail
abbrev pub reading_of : Option (List ℕ) → ℕ → Bool → Result (List ℕ) ReadFail
reading_of None max fails = Err Failed
reading_of (Some bytes) max fails = if nat_lt max (length bytes) then Err TooLong else (if fails then Err Failed else Ok bytes)

-- what a reading answers, want of memory apart
abbrev pub reading : MemFilesState → List ℕ → ℕ → Result (List ℕ) ReadFail
reading f name max = reading_of (file_of f.files name) max (is_to_fail f.fails f.calls)

-- every call is counted, and each that failed
abbrev pub after_reading : MemFilesState → List ℕ → ℕ → MemFilesState
after_reading f name max = record f { calls = counted f.calls; faults = after_answer f.faults (reading f name max) }

-- the answer is the one said, or memory is wanted for the bytes
abbrev pub Answers : {V : Type 0} → (V → List ℕ) → Result (List ℕ) ReadFail → Result V ReadFail → Type 0
Answers items said (Ok v) = said ≡ Ok (items v)
Answers items said (Err NoMemory) = (bytes : List ℕ) × (said ≡ Ok bytes)
Answers items said (Err Failed) = said ≡ Err Failed
Answers items said (Err TooLong) = said ≡ Err TooLong
