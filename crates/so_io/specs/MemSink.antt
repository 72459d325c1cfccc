-- A sink in memory, of which some calls fail.
use Rattle.std.specs.Prelude.{ℕ, ◌+◌, List, ◌++◌, length, Bool, ◌||◌, nat_lt, if◌then◌else◌, Result, Ok, Err}
use Rattle.so_ids.specs.declared.Failed.{Failed}
use Rattle.so_io.specs.Count.{counted, is_to_fail}

-- what it holds, for how many bytes, the numbers of the calls that fail, how many calls there were, and how many failed
pub record MemSinkState : Type 0 where
  pub held : List ℕ
  pub capacity : ℕ
  pub fails : List ℕ
  pub calls : ℕ
  pub faults : ℕ

-- this call is to fail, or the piece doesn't fit
abbrev pub refuses : MemSinkState → List ℕ → Bool
refuses s piece = is_to_fail s.fails s.calls || nat_lt s.capacity (length s.held + length piece)

abbrev pub writing : MemSinkState → List ℕ → Result ℕ Failed
writing s piece = if refuses s piece then Err (record {}) else Ok (length piece)

abbrev pub after_writing : MemSinkState → List ℕ → MemSinkState
after_writing s piece =
    if refuses s piece then record s { calls = counted s.calls; faults = counted s.faults }
    else record s { held = s.held ++ piece; calls = counted s.calls }
