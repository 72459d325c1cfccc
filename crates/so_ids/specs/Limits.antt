-- The limits of a scene and of a run, each named once. In code they are those of `limits`.
use Rattle.std.specs.Prelude.{ℕ}

-- agents of a scene
abbrev pub most_agents : ℕ
most_agents = 4096

-- cooperations of a scene
abbrev pub most_coops : ℕ
most_coops = 1024

-- message types of a scene
abbrev pub most_messages : ℕ
most_messages = 256

-- named mboxes of a scene
abbrev pub most_mboxes : ℕ
most_mboxes = 256

-- lanes of all dispatchers of a scene
abbrev pub most_lanes : ℕ
most_lanes = 256

-- texts of a scene
abbrev pub most_texts : ℕ
most_texts = 4096

-- agents that may be bound to a dispatcher at once
abbrev pub most_slots : ℕ
most_slots = 4096

-- subscription rows of an agent
abbrev pub most_rows : ℕ
most_rows = 128

-- instructions of an agent's code
abbrev pub most_instructions : ℕ
most_instructions = 1024

-- units of a run
abbrev pub most_units : ℕ
most_units = 1000000
