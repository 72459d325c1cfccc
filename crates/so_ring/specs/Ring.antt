-- The ring: agents on a pool of four threads that pass one token on, each to the next, until it has gone round ten times.
use Rattle.std.specs.Prelude.{ℕ, suc, zero, ◌+◌, ◌*◌, ◌==◌, pos, List, [], ◌∷◌, ◌++◌, replicate, true, false, Option, None, if◌then◌else◌, codes}
use Rattle.std.specs.Fmt.{decimal}
use Rattle.so_ids.specs.declared.MboxId.{MboxId}
use Rattle.so_ids.specs.declared.Target.TheVariants.{Mbox}
use Rattle.so_lists.specs.Lists.{each_below}
use Rattle.so_code.specs.declared.instr.Args.{Args}
use Rattle.so_code.specs.declared.instr.Body.TheVariants as body
use Rattle.so_code.specs.declared.instr.Cmp.TheVariants.{Gt}
use Rattle.so_code.specs.declared.instr.Dest.TheVariants as dest
use Rattle.so_code.specs.declared.instr.Instr.{Instr}
use Rattle.so_code.specs.declared.instr.Instr.TheVariants as instr
use Rattle.so_code.specs.declared.instr.Operand.{Operand}
use Rattle.so_code.specs.declared.instr.Operand.TheVariants as operand
use Rattle.so_state.specs.declared.choice.Row.{Row}
use Rattle.so_state.specs.declared.choice.RowKind.TheVariants.{Run}
use Rattle.so_scene.specs.Parts.{no_agent, default_disp}
use Rattle.so_scene.specs.declared.parts.AgentDef.{AgentDef}
use Rattle.so_scene.specs.declared.parts.CoopDef.{CoopDef}
use Rattle.so_scene.specs.declared.parts.DispDef.{DispDef}
use Rattle.so_scene.specs.declared.parts.DispKind.TheVariants.{ThreadPool}
use Rattle.so_scene.specs.declared.parts.Fifo.TheVariants.{Individual}
use Rattle.so_scene.specs.declared.parts.MessageDef.{MessageDef}
use Rattle.so_scene.specs.declared.parts.SceneParts.{SceneParts}

-- the most agents of a ring
abbrev pub most_in_ring : ℕ
most_in_ring = 4000

-- the agent after this one, of so many: after the last comes the first
abbrev pub after : ℕ → ℕ → ℕ
after count k = if k + 1 == count then 0 else k + 1

-- how often the token is passed on
abbrev pub passes : ℕ → ℕ
passes count = 10 * count

-- a send of the token with one number to an agent's own mbox
abbrev pub with_number : Operand → Args
with_number n = record { list = n ∷ operand.Num (pos 0) ∷ operand.Num (pos 0) ∷ operand.Num (pos 0) ∷ []; used = 1 }

abbrev pub mbox_of : ℕ → MboxId
mbox_of k = record { 0 = k }

abbrev pub send_token : ℕ → Operand → Instr
send_token to n = instr.Send (Mbox (mbox_of to)) (record { 0 = 0 }) (with_number n)

-- while its number is above 0 the token is passed on with one less, and then the run is stopped
abbrev pub token_acts : ℕ → List Instr
token_acts next =
    instr.If (operand.Msg 0) Gt (operand.Num (pos 0)) 3
    ∷ instr.Sub (dest.Temp 0) (operand.Msg 0) (operand.Num (pos 1))
    ∷ send_token next (operand.Temp 0)
    ∷ instr.Skip 1
    ∷ instr.Stop
    ∷ []

-- the first agent sends the token off as it starts
abbrev pub start_acts : ℕ → ℕ → List Instr
start_acts count zero = send_token (after count 0) (operand.Num (pos (passes count))) ∷ []
start_acts count (suc k) = []

-- the code after the start's acts
abbrev pub rest_in_ring : ℕ → List Instr
rest_in_ring next = instr.End body.Start ∷ instr.End body.Finish ∷ (token_acts next ++ instr.End (body.Row (record { 0 = 0 })) ∷ [])

abbrev pub code_in_ring : ℕ → ℕ → List Instr
code_in_ring count k = start_acts count k ++ rest_in_ring (after count k)

-- an agent takes the token from its own mbox
abbrev pub token_row : ℕ → Row
token_row k = record { mbox = mbox_of k; msg = record { 0 = 0 }; state = record { 0 = 0 }; kind = Run; safe = false; active = true }

-- the names are a0, a1 and so on
abbrev pub name_in_ring : ℕ → List ℕ
name_in_ring k = codes "a" ++ decimal k

abbrev pub agent_in_ring : ℕ → ℕ → AgentDef
agent_in_ring count k = record no_agent { name = name_in_ring k; disp = record { 0 = 1 }; rows = token_row k ∷ []; row_ids = None ∷ []; code = code_in_ring count k }

abbrev pub token : MessageDef
token = record { name = codes "token"; signal = false }

abbrev pub pool : DispDef
pool = record { name = codes "pool"; kind = ThreadPool; slots = 4096; threads = 4; fifo = Individual; quotes = replicate 8 20 }

abbrev pub ring_coop : ℕ → CoopDef
ring_coop count = record { name = codes "ring"; parent = None; at_start = true; first = record { 0 = 0 }; count = count }

-- the agents of the ring, in order
unfoldable pub ring_agents : ℕ → List AgentDef
ring_agents count = each_below (agent_in_ring count) count

-- the ring of so many agents
abbrev pub ring : ℕ → SceneParts
ring count = record {
  messages = token ∷ [];
  mboxes = [];
  dispatchers = default_disp ∷ pool ∷ [];
  groups = [] ∷ [] ∷ [];
  coops = ring_coop count ∷ [];
  agents = ring_agents count;
  texts = [];
  autoshutdown = true;
}
