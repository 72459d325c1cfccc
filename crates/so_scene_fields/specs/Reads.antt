-- What a call returns is what the definition gives, unless memory ran out.
use Rattle.std.specs.Prelude.{◌≡◌, Option, Some, None, Result, Ok, Err}
use Rattle.serde_json.specs.Data.{Data}
use Rattle.serde_json.specs.View.{view}
use Rattle.serde_json.specs.declared.value.Value.{Value}
use Rattle.so_fault.specs.declared.fault.SceneFault.{SceneFault}
use Rattle.so_fault.specs.declared.fault.SceneFault.TheVariants as fault
use Rattle.so_fault.specs.declared.fault.SceneRefusal.{SceneRefusal}
use Rattle.so_fault.specs.declared.fault.SceneRefusal.TheVariants.{Fault, NoMemory}

abbrev pub Reads : {T : Type 0} → Result T SceneRefusal → Result T SceneFault → Type 0
Reads (Ok x) expected = expected ≡ Ok x
Reads (Err NoMemory) expected = Unit {0}
Reads (Err (Fault f)) expected = expected ≡ Err f

abbrev pub ReadsValue : Result Value SceneRefusal → Option Data → Type 0
ReadsValue (Ok v) expected = expected ≡ Some (view v)
ReadsValue (Err NoMemory) expected = Unit {0}
ReadsValue (Err (Fault f)) expected = (f ≡ fault.NotJson) × (expected ≡ None)

-- what a call returned and left, where it has no fault
abbrev pub LeavesWith : {S T : Type 0} → S → T → Result T SceneRefusal → S → Type 0
LeavesWith expected value (Ok x) new = (expected ≡ new) × (value ≡ x)
LeavesWith expected value (Err NoMemory) new = Unit {0}
LeavesWith expected value (Err (Fault f)) new = ⊥

-- what a call returned, where it has no fault
abbrev pub Returns : {T : Type 0} → T → Result T SceneRefusal → Type 0
Returns expected (Ok x) = expected ≡ x
Returns expected (Err NoMemory) = Unit {0}
Returns expected (Err (Fault f)) = ⊥
