-- Words on the numbers that all crates share.
use Rattle.std.specs.Prelude.{ℕ, ◌+◌, Bool, ◌==◌, ◌&&◌, ◌||◌, nat_lt}
use Rattle.so_ids.specs.declared.DemandId.{DemandId}
use Rattle.so_ids.specs.declared.LaneId.{LaneId}
use Rattle.so_ids.specs.declared.PartyId.{PartyId}
use Rattle.so_ids.specs.declared.StateId.{StateId}

-- the same demand: the same place and the same number there
abbrev pub same_demand : DemandId → DemandId → Bool
same_demand a b = (a.place.0 == b.place.0) && (a.k == b.k)

-- demands compare by place, then by their number there
abbrev pub is_earlier : DemandId → DemandId → Bool
is_earlier a b = nat_lt a.place.0 b.place.0 || ((a.place.0 == b.place.0) && nat_lt a.k b.k)

-- state 0 of an agent is `default`, and the declared ones follow
abbrev pub default_state : StateId
default_state = record { 0 = 0 }

-- main is party 0, and lane n has party n + 1
abbrev pub main_party : PartyId
main_party = record { 0 = 0 }

abbrev pub party_of : LaneId → PartyId
party_of lane = record { 0 = lane.0 + 1 }
