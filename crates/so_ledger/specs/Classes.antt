-- What becomes of each demand, if a lane takes it now, and what is found of the one that it takes.
use Rattle.std.specs.Prelude.{List, Bool, true, false, Option, Some, None}
use Rattle.so_ids.specs.declared.DemandId.{DemandId}
use Rattle.so_scene.specs.declared.parts.SceneParts.{SceneParts}
use Rattle.so_disp_adv.specs.declared.heads.HeadClass.{HeadClass}
use Rattle.so_disp_adv.specs.declared.heads.HeadClass.TheVariants.{Exclusive, Safe, Skip}
use Rattle.so_scene.specs.Lanes.{key_of}
use Rattle.so_history.specs.declared.entry.Entry.{Entry}
use Rattle.so_history.specs.declared.entry.Demand.{Demand}
use Rattle.so_history.specs.declared.entry.SkipWhy.{SkipWhy}
use Rattle.so_history.specs.Demands.{named, demands}
use Rattle.so_history.specs.Safety.{is_safe}
use Rattle.so_history.specs.Order.{opening_of, skipped}
use Rattle.so_tables.specs.declared.found.FoundDemand.{FoundDemand}

-- a turn begins, a thread-safe one or another
abbrev pub turn_class : Bool → HeadClass
turn_class true = Safe
turn_class false = Exclusive

-- a demand is skipped, or its turn begins
abbrev pub class_by : Option SkipWhy → Bool → HeadClass
class_by (Some why) safe = Skip
class_by None safe = turn_class safe

abbrev pub class_of : SceneParts → List Entry → Demand → HeadClass
class_of s h d = class_by (skipped (opening_of s h d)) (is_safe s d.agent (opening_of s h d))

-- the same by its name; what was not queued begins nothing
abbrev pub class_in : SceneParts → List Entry → Option Demand → HeadClass
class_in s h None = Skip
class_in s h (Some d) = class_of s h d

unfoldable pub class_named : SceneParts → List Entry → DemandId → HeadClass
class_named s h id = class_in s h (named id (demands s h))

-- its queue, and whether its turn is thread-safe
abbrev pub found_demand : SceneParts → List Entry → Demand → FoundDemand
found_demand s h d = record { demand = d; key = key_of s d.agent; safe = is_safe s d.agent (opening_of s h d) }
