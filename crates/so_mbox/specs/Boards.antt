-- For each mbox, which of the registered agents have a row for which messages.
use Rattle.std.specs.Prelude.{◌≡◌, ℕ, zero, suc, ◌-◌, ◌<◌, ◌≤◌, List, [], ◌∷◌, ◌++◌, length, slice_index_or, slice_get, Option, Some, None, Bool, true, false, ◌==◌, if◌then◌else◌}
use Rattle.std.specs.List.{All, AllByRecursion, filter}
use Rattle.so_lists.specs.Lists.{each_below}
use Rattle.so_ids.specs.declared.AgentId.{AgentId}
use Rattle.so_ids.specs.declared.MboxId.{MboxId}
use Rattle.so_ids.specs.declared.MsgId.{MsgId}
use Rattle.so_state.specs.declared.choice.Row.{Row}
use Rattle.so_scene.specs.declared.parts.SceneParts.{SceneParts}
use Rattle.so_scene.specs.Parts.{mboxes}
use Rattle.so_mbox.specs.Table.{Subscriptions, same_agent, has_row, candidates}

-- the agents that are listed for a type of messages, and for how many there is room
pub record Listing : Type 0 where
  pub msg : MsgId
  pub agents : List AgentId
  pub room : ℕ

abbrev pub none_listed : MsgId → Listing
none_listed msg = record { msg = msg; agents = []; room = 0 }

abbrev pub with_agents : List AgentId → Listing → Listing
with_agents agents x = record x { agents = agents }

abbrev pub with_room : ℕ → Listing → Listing
with_room room x = record x { room = room }

abbrev pub is_of : MsgId → Listing → Bool
is_of msg x = x.msg.0 == msg.0

-- ---- by the type

-- what f gives for the first listing of the type, or else d
abbrev pub looked_up : {X : Type 0} → (Listing → X) → X → List Listing → MsgId → X
looked_up f d [] msg = d
looked_up f d (x ∷ xs) msg = if is_of msg x then f x else looked_up f d xs msg

abbrev pub agents_in : Listing → List AgentId
agents_in x = x.agents

abbrev pub room_in : Listing → ℕ
room_in x = x.room

abbrev pub listed : List Listing → MsgId → List AgentId
listed xs msg = looked_up agents_in [] xs msg

abbrev pub room_of : List Listing → MsgId → ℕ
room_of xs msg = looked_up room_in 0 xs msg

-- no listing is of the type
abbrev pub IsAbsent : MsgId → List Listing → Type 0
IsAbsent msg xs = AllByRecursion (λ x. is_of msg x ≡ false) xs

-- the first listing of the type stands here
abbrev pub IsListedAt : MsgId → List Listing → ℕ → Type 0
IsListedAt msg [] k = ⊥
IsListedAt msg (x ∷ xs) zero = is_of msg x ≡ true
IsListedAt msg (x ∷ xs) (suc k) = (is_of msg x ≡ false) × IsListedAt msg xs k

abbrev pub is_type : MsgId → MsgId → Bool
is_type msg other = msg.0 == other.0

-- ---- by the mbox and the type

abbrev pub listed_at : List (List Listing) → MboxId → MsgId → List AgentId
listed_at boards mbox msg = listed (slice_index_or boards mbox.0 []) msg

abbrev pub room_at : List (List Listing) → MboxId → MsgId → ℕ
room_at boards mbox msg = room_of (slice_index_or boards mbox.0 []) msg

abbrev pub is_it : AgentId → Option AgentId → Bool
is_it a None = false
is_it a (Some x) = same_agent a x

-- the agent is the last of these
abbrev pub is_last : AgentId → List AgentId → Bool
is_last a agents = is_it a (slice_get agents (length agents - 1))

-- the agent comes last, once
abbrev pub noted : AgentId → List AgentId → List AgentId
noted a agents = if is_last a agents then agents else agents ++ a ∷ []

-- each row is of one of so many mboxes
abbrev pub AreWithin : ℕ → List Row → Type 0
AreWithin n rows = All (λ row. row.mbox.0 < n) rows

-- one, where there is something
abbrev pub once : Bool → ℕ
once true = 1
once false = 0

-- the first so many agents
abbrev pub agents_below : ℕ → List AgentId
agents_below n = each_below (λ k. record { 0 = k }) n

-- so many agents of the scene with such a row
abbrev pub holders : SceneParts → MboxId → MsgId → ℕ → ℕ
holders s mbox msg n = length (filter (has_row s mbox msg) (agents_below n))

-- there is a board for each mbox, with room for all agents of the scene that have a row there
pub record HaveRoom (s : SceneParts) (n : ℕ) (boards : List (List Listing)) : Type 0 where
  pub count : length boards ≡ mboxes s
  pub rooms : (mbox : MboxId) (msg : MsgId) → mbox.0 < mboxes s → holders s mbox msg n ≤ room_at boards mbox msg

-- the candidates are listed
pub record AreListed (t : Subscriptions) (boards : List (List Listing)) : Type 0 where
  pub have_room : HaveRoom t.scene (length t.scene.agents) boards
  pub each : (mbox : MboxId) (msg : MsgId) → mbox.0 < mboxes t.scene → listed_at boards mbox msg ≡ candidates t mbox msg
