-- The rules by name, as the check goes through them.
use Rattle.so_ids.specs.declared.StateId.{StateId}
use Rattle.so_state.specs.declared.faults.Rule.{Rule}
use Rattle.so_state.specs.declared.faults.Rule.TheVariants.{KnownStates, NoCycle, DepthOfSixteen, SomeInitial, OneInitial}
use Rattle.so_state.specs.declared.faults.TreeFault.{TreeFault}
use Rattle.so_state.specs.declared.faults.TreeFault.TheVariants.{UnknownState, CycleOfParents, TooDeep, NoInitial, TwoInitials}

abbrev pub fault_of : Rule → StateId → TreeFault
fault_of KnownStates s = UnknownState s
fault_of NoCycle s = CycleOfParents s
fault_of DepthOfSixteen s = TooDeep s
fault_of SomeInitial s = NoInitial s
fault_of OneInitial s = TwoInitials s
