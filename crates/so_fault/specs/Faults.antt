-- How places and faults are printed.
use Rattle.std.specs.Prelude.{ℕ, List, [], ◌∷◌, ◌++◌, codes, decimal, Option, Some, None}
use Rattle.std.specs.List.{flat_map}
use Rattle.so_fault.specs.declared.place.Field.{Field}
use Rattle.so_fault.specs.declared.place.Field.TheVariants as field
use Rattle.so_fault.specs.declared.place.PlaceStep.{PlaceStep}
use Rattle.so_fault.specs.declared.place.PlaceStep.TheVariants.{Key, At}
use Rattle.so_state.specs.declared.faults.TreeFault.{TreeFault}
use Rattle.so_state.specs.declared.faults.TreeFault.TheVariants.{UnknownState, CycleOfParents, TooDeep, NoInitial, TwoInitials}
use Rattle.so_fault.specs.declared.fault.SceneFault.{SceneFault}
use Rattle.so_fault.specs.declared.fault.SceneFault.TheVariants.{NotJson, BadVersion, Missing, WrongShape, Twice, UnknownName, OutOfRange, Tree, NotBuilt}

-- the key of a field
abbrev pub spelling : Field → List ℕ
spelling field.Version = codes "version"
spelling field.Autoshutdown = codes "autoshutdown"
spelling field.Reaction = codes "reaction"
spelling field.Messages = codes "messages"
spelling field.Mboxes = codes "mboxes"
spelling field.Chains = codes "chains"
spelling field.Dispatchers = codes "dispatchers"
spelling field.Coops = codes "coops"
spelling field.Threads = codes "threads"
spelling field.Name = codes "name"
spelling field.Kind = codes "kind"
spelling field.Capacity = codes "capacity"
spelling field.Overflow = codes "overflow"
spelling field.Wait = codes "wait"
spelling field.Slots = codes "slots"
spelling field.Fifo = codes "fifo"
spelling field.Quotes = codes "quotes"
spelling field.Parent = codes "parent"
spelling field.AtStart = codes "at_start"
spelling field.Agents = codes "agents"
spelling field.Disp = codes "disp"
spelling field.Group = codes "group"
spelling field.Priority = codes "priority"
spelling field.Native = codes "native"
spelling field.Vars = codes "vars"
spelling field.States = codes "states"
spelling field.Limits = codes "limits"
spelling field.Filters = codes "filters"
spelling field.Start = codes "start"
spelling field.Finish = codes "finish"
spelling field.On = codes "on"
spelling field.Initial = codes "initial"
spelling field.History = codes "history"
spelling field.Limit = codes "limit"
spelling field.Enter = codes "enter"
spelling field.Exit = codes "exit"
spelling field.Msg = codes "msg"
spelling field.Max = codes "max"
spelling field.Over = codes "over"
spelling field.Id = codes "id"
spelling field.Mbox = codes "mbox"
spelling field.Field = codes "field"
spelling field.Cmp = codes "cmp"
spelling field.Value = codes "value"
spelling field.Active = codes "active"
spelling field.State = codes "state"
spelling field.Do = codes "do"
spelling field.Switch = codes "switch"
spelling field.Transfer = codes "transfer"
spelling field.Suppress = codes "suppress"
spelling field.Dead = codes "dead"
spelling field.Safe = codes "safe"
spelling field.Cases = codes "cases"
spelling field.Chain = codes "chain"
spelling field.HandleN = codes "handle_n"
spelling field.ExtractN = codes "extract_n"
spelling field.EmptyTimeout = codes "empty_timeout"
spelling field.TotalTime = codes "total_time"
spelling field.NoWait = codes "no_wait"

-- a step, as `/start` or `/0`
abbrev pub step_words : PlaceStep → List ℕ
step_words (Key f) = codes "/" ++ spelling f
step_words (At n) = codes "/" ++ decimal n

-- a place, as `/coops/0/agents/1/start/0`, the root as `/`
unfoldable pub place_words : List PlaceStep → List ℕ
place_words [] = codes "/"
place_words (s ∷ steps) = flat_map step_words (s ∷ steps)

abbrev pub tree_word : TreeFault → List ℕ
tree_word (UnknownState s) = codes "unknown_state"
tree_word (CycleOfParents s) = codes "cycle_of_parents"
tree_word (TooDeep s) = codes "too_deep"
tree_word (NoInitial s) = codes "no_initial"
tree_word (TwoInitials s) = codes "two_initials"

abbrev pub fault_word : SceneFault → List ℕ
fault_word NotJson = codes "not_json"
fault_word (BadVersion p) = codes "bad_version"
fault_word (Missing p) = codes "missing"
fault_word (WrongShape p) = codes "wrong_shape"
fault_word (Twice p) = codes "twice"
fault_word (UnknownName p) = codes "unknown_name"
fault_word (OutOfRange p) = codes "out_of_range"
fault_word (Tree p fault) = tree_word fault
fault_word (NotBuilt p) = codes "not_built"

abbrev pub fault_place : SceneFault → Option (List PlaceStep)
fault_place NotJson = None
fault_place (BadVersion p) = Some p
fault_place (Missing p) = Some p
fault_place (WrongShape p) = Some p
fault_place (Twice p) = Some p
fault_place (UnknownName p) = Some p
fault_place (OutOfRange p) = Some p
fault_place (Tree p fault) = Some p
fault_place (NotBuilt p) = Some p

abbrev pub at_words : Option (List PlaceStep) → List ℕ
at_words None = []
at_words (Some p) = codes " at " ++ place_words p

-- a fault, as `wrong_shape at /coops/0`
abbrev pub fault_words : SceneFault → List ℕ
fault_words f = fault_word f ++ at_words (fault_place f)
