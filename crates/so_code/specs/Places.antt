-- What the structure of a code says of the place of each instruction.
use Rattle.std.specs.Prelude.{◌≡◌, ℕ, ◌+◌, ◌<◌, ◌≤◌, Bool, true, false, List, length, Some, slice_get}
use Rattle.so_ids.specs.Limits.{most_instructions}
use Rattle.so_code.specs.declared.instr.Instr.{Instr}
use Rattle.so_code.specs.declared.instr.Instr.TheVariants as instr
use Rattle.so_code.specs.Receives.{is_receive, is_back, past}
use Rattle.so_code.specs.Valid.{HasParts}

-- how far forward the instruction may lead by itself
abbrev pub reach : Instr → ℕ
reach (instr.If a cmp b count) = count + 1
reach (instr.Skip count) = count + 1
reach instr.Back = 0
reach (instr.End body) = 0
reach (instr.Receive chains cases handle_n extract_n empty_timeout total_time no_wait) = 0
reach other = 1

-- what may stand among the handlers of a receive
abbrev pub is_plain : Instr → Bool
is_plain (instr.Receive chains cases handle_n extract_n empty_timeout total_time no_wait) = false
is_plain (instr.Switch to) = false
is_plain (instr.End body) = false
is_plain other = true

-- the instruction at this place
pub record IsAt (code : List Instr) (place : ℕ) (i : Instr) : Type 0 where
  pub here : slice_get code place ≡ Some i

pub record IsReceiveAt (code : List Instr) (place : ℕ) : Type 0 where
  pub instr : Instr
  pub here : IsAt code place instr
  pub receives : is_receive instr ≡ true

-- the place is in the handlers of the receive
pub record IsIn (code : List Instr) (receive place : ℕ) : Type 0 where
  pub after : receive < place
  pub before : place < past code receive

pub record HasReceive (code : List Instr) (place : ℕ) : Type 0 where
  pub receive : ℕ
  pub stands : IsReceiveAt code receive
  pub around : IsIn code receive place

pub record HasPlaces (code : List Instr) : Type 0 where
  pub few : length code ≤ most_instructions
  pub parts : (place : ℕ) (i : Instr) → IsAt code place i → HasParts i
  -- nothing leads out of the code
  pub leads : (place : ℕ) (i : Instr) → IsAt code place i → place + reach i < length code
  pub receives : (receive : ℕ) → IsReceiveAt code receive → past code receive < length code
  -- a handler has only plain acts, and nothing leads out of the receive
  pub plain : (receive place : ℕ) (i : Instr) → IsReceiveAt code receive → IsIn code receive place → IsAt code place i → is_plain i ≡ true
  pub stays : (receive place : ℕ) (i : Instr) → IsReceiveAt code receive → IsIn code receive place → IsAt code place i → place + reach i < past code receive
  -- and nothing before it leads into it
  pub enters_none : (receive place : ℕ) (i : Instr) → IsReceiveAt code receive → place < receive → IsAt code place i → receive < place + reach i → past code receive ≤ place + reach i
  pub backs : (place : ℕ) (i : Instr) → IsAt code place i → is_back i ≡ true → HasReceive code place
