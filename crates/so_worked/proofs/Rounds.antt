-- Rounds of quoted_round_robin.
use Rattle.std.proofs.Common.{◌≡◌, ℕ, List, [], ◌∷◌, refl, arith}
use Rattle.so_ids.specs.declared.Priority.{Priority}
use Rattle.so_scene.specs.declared.round.Round.{Round}
use Rattle.so_scene.specs.Rounds.{first_round, highest, after_taking}

abbrev zero : Priority
zero = record { level = 0; in_range = omega arith }

abbrev three : Priority
three = record { level = 3; in_range = omega arith }

-- priority 7 has a quote of 2, 3 of 3, and the others of 1
abbrev quotes : List ℕ
quotes = 1 ∷ 1 ∷ 1 ∷ 3 ∷ 1 ∷ 1 ∷ 1 ∷ 2 ∷ []

-- the levels of the rounds and how much of each is used, as demands of these priorities are taken
abbrev rounds : Round → List Priority → List (ℕ × ℕ)
rounds r [] = []
rounds r (p ∷ taken) = ((after_taking quotes p r).priority.level, (after_taking quotes p r).used) ∷ rounds (after_taking quotes p r) taken

a_quote_is_used_up_or_given_up :
    rounds first_round (highest ∷ highest ∷ highest ∷ three ∷ three ∷ zero ∷ zero ∷ three ∷ three ∷ three ∷ three ∷ [])
    ≡ ((7, 1) ∷ (7, 2) ∷ (7, 1) ∷ (3, 1) ∷ (3, 2) ∷ (0, 1) ∷ (0, 1) ∷ (3, 1) ∷ (3, 2) ∷ (3, 3) ∷ (3, 1) ∷ [])
a_quote_is_used_up_or_given_up = refl
