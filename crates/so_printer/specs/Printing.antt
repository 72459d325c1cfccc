-- A text that is handed out in pieces: what of it a sink got, and in how many pieces.
use Rattle.std.specs.Prelude.{◌≡◌, ℕ, ◌+◌, ◌*◌, ◌<◌, ◌≤◌, List, ◌++◌, length, take, Bool, true, false, Option}
use Rattle.std.specs.Io.KnownBytes.{Appends}
use Rattle.so_io.specs.Count.{Rose}

-- a piece has so many bytes, and the last one fewer or as many
abbrev pub piece_bytes : ℕ
piece_bytes = 4096

-- what contracts see of a printer: the bytes held, how many pieces were handed out, and whether one failed
pub record PrinterView : Type 0 where
  pub held : List ℕ
  pub pieces : ℕ
  pub failed : Bool

-- so far whole pieces were handed out, and the rest, which is no whole piece, is held
pub record IsGoing (old now : Option (List ℕ)) (p : PrinterView) (text : List ℕ) : Type 0 where
  pub handed : List ℕ
  pub parts : text ≡ handed ++ p.held
  pub whole : length handed ≡ piece_bytes * p.pieces
  pub few : length p.held < piece_bytes
  pub printed : Appends old now handed

-- the last of so many pieces failed: the sink got the pieces before it, and of it a part that isn't the whole
pub record IsCut (old now : Option (List ℕ)) (pieces : ℕ) (text : List ℕ) : Type 0 where
  pub count : ℕ
  pub before : piece_bytes * pieces ≤ count + piece_bytes
  pub not_whole : count < piece_bytes * pieces
  pub not_all : count < length text
  pub printed : Appends old now (take count text)

-- a text that may go on
abbrev pub IsPrinting : Bool → Option (List ℕ) → Option (List ℕ) → PrinterView → List ℕ → Type 0
IsPrinting false old now p text = IsGoing old now p text
IsPrinting true old now p text = IsCut old now p.pieces text

-- the whole text was handed out, in as few pieces as there can be
pub record IsWhole (old now : Option (List ℕ)) (pieces : ℕ) (text : List ℕ) : Type 0 where
  pub printed : Appends old now text
  pub enough : length text ≤ piece_bytes * pieces
  pub no_more : piece_bytes * pieces < length text + piece_bytes

-- a text that was ended
abbrev pub IsPrinted : Bool → Option (List ℕ) → Option (List ℕ) → ℕ → List ℕ → Type 0
IsPrinted false old now pieces text = IsWhole old now pieces text
IsPrinted true old now pieces text = IsCut old now pieces text

-- the count of faults doesn't fall, and it rises where a piece fails
pub record RisesAnew (was is : Bool) (before now : ℕ) : Type 0 where
  pub later : before ≤ now
  pub rose : was ≡ false → is ≡ true → Rose before now

-- so many pieces more were handed out, one at most
abbrev pub IsOneAtMost : ℕ → ℕ → Type 0
IsOneAtMost before now = (before ≤ now) × (now ≤ before + 1)
