-- The numbers of a document: an integer below zero has 64 bits. One from zero on is tried where it is read.
use Rattle.serde_json.specs.Data.{Num, unsigned, negative, float, Data, null, boolean, number, string, array, object, Items, no_items, item, Members, no_members, member}
use Rattle.so_scene_fields.specs.Visits.{Visit, enters, tries, leaves}
use Rattle.so_scene.specs.Written.{IsNumber}

abbrev pub IsNum : Num → Type 0
IsNum (unsigned n) = Unit {0}
IsNum (negative z) = IsNumber z
IsNum (float x) = Unit {0}

abbrev mutual
  pub HasNumbers : Data → Type 0
  HasNumbers null = Unit {0}
  HasNumbers (boolean b) = Unit {0}
  HasNumbers (number n) = IsNum n
  HasNumbers (string s) = Unit {0}
  HasNumbers (array ds) = HaveNumbers ds
  HasNumbers (object ms) = MembersHaveNumbers ms

  pub HaveNumbers : Items → Type 0
  HaveNumbers no_items = Unit {0}
  HaveNumbers (item d ds) = HasNumbers d × HaveNumbers ds

  pub MembersHaveNumbers : Members → Type 0
  MembersHaveNumbers no_members = Unit {0}
  MembersHaveNumbers (member k d ms) = HasNumbers d × MembersHaveNumbers ms

-- an object that a walk enters
abbrev pub EntersNumbers : Visit → Type 0
EntersNumbers (enters kind place d) = HasNumbers d
EntersNumbers (tries rule place d found) = Unit {0}
EntersNumbers (leaves kind place d) = Unit {0}
