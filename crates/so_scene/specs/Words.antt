-- What is a name, and what is a text.
use Rattle.std.specs.Prelude.{ℕ, List, length, Bool, ◌&&◌, ◌||◌, ◌==◌, nat_le, not}
use Rattle.std.specs.List.{list_all}
use Rattle.so_lists.specs.Lists.{is_empty}

abbrev pub is_between : ℕ → ℕ → ℕ → Bool
is_between low high b = nat_le low b && nat_le b high

-- a digit, a letter or an underscore
abbrev pub is_name_byte : ℕ → Bool
is_name_byte b = is_between 48 57 b || (is_between 65 90 b || (is_between 97 122 b || (b == 95)))

-- 1 to 32 of them
abbrev pub is_name : List ℕ → Bool
is_name bytes = not (is_empty bytes) && (nat_le (length bytes) 32 && list_all is_name_byte bytes)

-- a byte from space to tilde
abbrev pub is_text_byte : ℕ → Bool
is_text_byte b = is_between 32 126 b

-- at most 64 of them
abbrev pub is_text : List ℕ → Bool
is_text bytes = nat_le (length bytes) 64 && list_all is_text_byte bytes
