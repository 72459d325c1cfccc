-- What becomes of a demand where picks are compared, by the number of its place.
use Rattle.std.specs.Prelude.{ℕ, ◌==◌, ◌%◌, if◌then◌else◌}
use Rattle.so_ids.specs.declared.DemandId.{DemandId}
use Rattle.so_disp_adv.specs.declared.heads.HeadClass.{HeadClass}
use Rattle.so_disp_adv.specs.declared.heads.HeadClass.TheVariants.{Exclusive, Safe, Skip}

abbrev pub class_of : DemandId → HeadClass
class_of d = if d.place.0 % 3 == 0 then Exclusive else (if d.place.0 % 3 == 1 then Safe else Skip)
