-- The round of quoted_round_robin: whose turn it is, and how much of the quote is used.
use Rattle.std.proofs.Common.{le_refl, le_of_lt}
use Rattle.std.specs.Prelude.{◌≡◌, ℕ, zero, suc, ◌+◌, ◌≤◌, Bool, ◌==◌, ◌&&◌, nat_lt, IsTrue, List, [], ◌∷◌, slice_index_or, unwrap_or, if◌then◌else◌}
use Rattle.std.specs.List.{find}
use Rattle.so_ids.specs.declared.Priority.{Priority}
use Rattle.so_scene.specs.declared.round.Round.{Round}

-- the highest priority
abbrev pub highest : Priority
highest = record { level = 7; in_range = le_refl 7 }

-- the round at the beginning
abbrev pub first_round : Round
first_round = record { priority = highest; used = 0 }

-- the quote of a priority, p0's first
abbrev pub quote_of : List ℕ → Priority → ℕ
quote_of quotes p = slice_index_or quotes p.level 0

-- the next lower level, and 7 after 0
abbrev pub level_below : ℕ → ℕ
level_below zero = 7
level_below (suc l) = l

pub in_range_below : (l : ℕ) → l ≤ 7 → level_below l ≤ 7
in_range_below zero h = le_refl 7
in_range_below (suc l) h = le_of_lt h

-- the next lower priority, and p7 after p0
abbrev pub next_lower : Priority → Priority
next_lower p = record { level = level_below p.level; in_range = in_range_below p.level p.in_range }

-- so many priorities below one, each the next lower of the one before
abbrev pub down_from : Priority → ℕ → List Priority
down_from p zero = []
down_from p (suc n) = next_lower p ∷ down_from (next_lower p) n

-- the priorities to which a round goes from one, itself last
abbrev pub priorities_after : Priority → List Priority
priorities_after p = down_from p 8

-- a priority has a demand, where `has` tells that of its level
abbrev pub has_demand : (ℕ → Bool) → Priority → Bool
has_demand has p = has p.level

-- the first of the priorities after one that has a demand, itself where none has
abbrev pub next_priority : (ℕ → Bool) → Priority → Priority
next_priority has p = unwrap_or (find (has_demand has) (priorities_after p)) p

-- the quote of the round isn't used up
abbrev pub has_left : List ℕ → Round → Bool
has_left quotes r = nat_lt r.used (quote_of quotes r.priority)

-- a priority with a new quote
abbrev pub new_round : Priority → Round
new_round p = record { priority = p; used = 0 }

-- the round before the next taking: it stays where its quote isn't used up and its priority has a demand, else the next
-- priority that has one begins with a new quote
unfoldable pub moved : List ℕ → (ℕ → Bool) → Round → Round
moved quotes has r = if has_left quotes r && has r.priority.level then r else new_round (next_priority has r.priority)

-- one more is used
abbrev pub one_used : Round → Round
one_used r = record r { used = r.used + 1 }

-- the round after a taking of a priority: one more of the quote is used where it is the round's and there is some left, else
-- one of a new quote
abbrev pub after_taking : List ℕ → Priority → Round → Round
after_taking quotes p r = if (p.level == r.priority.level) && has_left quotes r then one_used r else one_used (new_round p)

-- some priority has a demand
pub record HasSome (has : ℕ → Bool) : Type 0 where
  pub at : Priority
  pub here : IsTrue (has_demand has at)

-- after a taking of the moved round's priority, one more of the moved round is used
abbrev pub TakesOne : List ℕ → Round → Type 0
TakesOne quotes r = (has : ℕ → Bool) → HasSome has → after_taking quotes (moved quotes has r).priority r ≡ one_used (moved quotes has r)
