-- The fields of each kind of object, in their order. A field that is `later` isn't built: it is known, and refused where
-- it is given. Where an optional field is absent, a list is empty, a message's kind is `message`, a row's mbox is the agent's
-- own and its state `default`, a state lies at the top, is not initial and has no history, what may be active is, a handler isn't
-- safe, a dispatcher has 4,096 slots, a pool four threads and a queue for each cooperation, each quote is 20, an agent is bound to
-- the dispatcher `default` with priority 0, a cooperation is a child of the root and registered at the start, and the run stops when
-- the last one has left.
use Rattle.std.specs.Prelude.{Option, Some, None, List, [], ◌∷◌, true, false}
use Rattle.so_fault.specs.declared.place.Field.{Field}
use Rattle.so_fault.specs.declared.place.Field.TheVariants as field
use Rattle.so_scene_fields.specs.declared.act_table.Allowed.TheVariants.{AnyAct, NoSwitch}
use Rattle.so_scene_fields.specs.declared.table.ObjectKind.{ObjectKind}
use Rattle.so_scene_fields.specs.declared.table.ObjectKind.TheVariants as object
use Rattle.so_scene_fields.specs.declared.table.Space.{Space}
use Rattle.so_scene_fields.specs.declared.table.Space.TheVariants as space
use Rattle.so_scene_fields.specs.declared.table.Form.{Form}
use Rattle.so_scene_fields.specs.declared.table.Form.TheVariants as form
use Rattle.so_scene_fields.specs.declared.table.Rule.{Rule}

abbrev pub required : Field → Form → Rule
required f form = record { field = f; required = true; form = form }

abbrev pub optional : Field → Form → Rule
optional f form = record { field = f; required = false; form = form }

abbrev pub later : Field → Rule
later f = record { field = f; required = false; form = form.Later }

abbrev pub rules_of : ObjectKind → List Rule
rules_of object.Scene =
    required field.Version form.One
    ∷ optional field.Autoshutdown form.Flag
    ∷ later field.Reaction
    ∷ optional field.Messages (form.Objects object.Message (Some 256))
    ∷ optional field.Mboxes (form.Mboxes 256)
    ∷ later field.Chains
    ∷ optional field.Dispatchers (form.Objects object.Dispatcher (Some 63))
    ∷ optional field.Coops (form.Objects object.Coop (Some 1024))
    ∷ later field.Threads
    ∷ []
rules_of object.Message =
    required field.Name form.Name
    ∷ optional field.Kind form.MessageKind
    ∷ []
rules_of object.Dispatcher =
    required field.Name form.Name
    ∷ required field.Kind form.DispKind
    ∷ optional field.Slots (form.Number 1 4096)
    ∷ optional field.Threads (form.Number 1 64)
    ∷ optional field.Fifo form.Fifo
    ∷ optional field.Quotes form.Quotes
    ∷ []
rules_of object.Coop =
    required field.Name form.Name
    ∷ optional field.Parent (form.NameIn space.Coops)
    ∷ optional field.AtStart form.Flag
    ∷ later field.Reaction
    ∷ required field.Agents (form.Objects object.Agent None)
    ∷ []
rules_of object.Agent =
    required field.Name form.Name
    ∷ optional field.Disp (form.NameIn space.Dispatchers)
    ∷ optional field.Group form.Name
    ∷ optional field.Priority (form.Number 0 7)
    ∷ later field.Reaction
    ∷ later field.Native
    ∷ optional field.Vars (form.Numbers 16)
    ∷ optional field.States (form.Objects object.State (Some 63))
    ∷ later field.Limits
    ∷ optional field.Filters (form.Objects object.Filter (Some 32))
    ∷ optional field.Start (form.Acts AnyAct)
    ∷ optional field.Finish (form.Acts AnyAct)
    ∷ optional field.On (form.Objects object.Row (Some 128))
    ∷ []
rules_of object.State =
    required field.Name form.StateName
    ∷ optional field.Parent form.DeclaredState
    ∷ optional field.Initial form.Flag
    ∷ optional field.History form.History
    ∷ later field.Limit
    ∷ optional field.Enter (form.Acts NoSwitch)
    ∷ optional field.Exit (form.Acts NoSwitch)
    ∷ []
rules_of object.Filter =
    optional field.Id form.Name
    ∷ required field.Mbox (form.NameIn space.Mboxes)
    ∷ required field.Msg (form.NameIn space.Messages)
    ∷ required field.Field (form.Number 0 3)
    ∷ required field.Cmp form.Cmp
    ∷ required field.Value form.AnyNumber
    ∷ optional field.Active form.Flag
    ∷ []
rules_of object.Row =
    optional field.Id form.Name
    ∷ required field.Msg (form.NameIn space.Messages)
    ∷ optional field.Mbox (form.NameIn space.Mboxes)
    ∷ optional field.State form.AnyState
    ∷ optional field.Do form.Handler
    ∷ optional field.Switch form.AnyState
    ∷ optional field.Transfer form.AnyState
    ∷ optional field.Suppress form.OnlyTrue
    ∷ optional field.Dead form.OnlyTrue
    ∷ optional field.Safe form.Flag
    ∷ optional field.Active form.Flag
    ∷ []

-- the objects that a field lists
abbrev pub objects_of : Form → Option ObjectKind
objects_of (form.Objects kind limit) = Some kind
objects_of other = None

-- The space in which an object declares its name, or its id if it has one. States, rows and filters have theirs in the
-- agent's own.
abbrev pub space_of : ObjectKind → Option Space
space_of object.Message = Some space.Messages
space_of object.Dispatcher = Some space.Dispatchers
space_of object.Coop = Some space.Coops
space_of object.Agent = Some space.Mboxes
space_of object.State = Some space.States
space_of object.Row = Some space.Rows
space_of object.Filter = Some space.Filters
space_of other = None

-- the field that declares a name of a space
abbrev pub key_of : Space → Field
key_of space.Rows = field.Id
key_of space.Filters = field.Id
key_of other = field.Name
