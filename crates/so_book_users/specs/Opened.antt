-- Histories whose oldest line says what the value was opened over.
use Rattle.std.specs.Prelude.{◌≡◌, List, [], ◌∷◌, ◌++◌, map, reverse}
use Rattle.std.specs.Borrow.{Bor}
use Rattle.so_ids.specs.Ids.{main_party}
use Rattle.so_ids.specs.declared.PartyId.{PartyId}
use Rattle.so_book_users.specs.declared.log.Entry.{Entry}
use Rattle.so_book_users.specs.declared.setting.Setting.{Setting}
use Rattle.so_book_users.specs.declared.setting.Line.{Line}
use Rattle.so_book_users.specs.declared.setting.Line.TheVariants.{Opened, Made}

abbrev pub line_signer : Line → PartyId
line_signer (Opened s) = main_party
line_signer (Made e) = e.by

-- the lines of entries that are in the order of time, the newest first
abbrev pub lines : Bor Setting → List Entry → List Line
lines s entries = map Made (reverse entries) ++ Opened s ∷ []

-- the oldest line says that it was opened over this setting
abbrev pub IsOpenedOver : Setting → List Line → Type 0
IsOpenedOver setting history = (later : List Line) × (s : Bor Setting) × (history ≡ later ++ Opened s ∷ []) × (s.now ≡ setting)
