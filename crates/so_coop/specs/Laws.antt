-- What the rules of registration and of leaving mean.
use Rattle.std.specs.Prelude.{◌≡◌, ◌<◌, ℕ, length, true, false, Some, None}
use Rattle.so_ids.specs.declared.AgentId.{AgentId}
use Rattle.so_ids.specs.declared.CoopId.{CoopId}
use Rattle.so_ids.specs.declared.DefFault.{DefFault}
use Rattle.so_ids.specs.declared.Refusal.{Refusal}
use Rattle.so_ids.specs.declared.Refusal.TheVariants as refusal
use Rattle.so_scene.specs.declared.parts.SceneParts.{SceneParts}
use Rattle.so_scene.specs.Parts.{coop_of, agents_from}
use Rattle.so_scene.specs.Definition.{definition_fault}
use Rattle.so_scene.specs.Cooperations.{Standing, lacks_parent, lacks_slot}
use Rattle.so_coop.specs.Coops.{CoopTable, agent_at, standing_at, has_ended}

-- ---- registration

-- it has agents, its parent lets it be registered, and it isn't yet
pub record IsOpen (s : SceneParts) (st : Standing) (c : CoopId) : Type 0 where
  pub some_agent : 0 < (coop_of s c).count
  pub parent : lacks_parent st (coop_of s c).parent ≡ false
  pub absent : st.present c ≡ false

-- of the first n agents of a cooperation, each has a slot; each keeps the definition rules
abbrev pub HaveSlots : SceneParts → Standing → CoopId → ℕ → Type 0
HaveSlots s st c n = (k : ℕ) → k < n → lacks_slot s st (agents_from (coop_of s c).first k) (agent_at s c k) ≡ false

abbrev pub KeepRules : SceneParts → CoopId → ℕ → Type 0
KeepRules s c n = (k : ℕ) → k < n → definition_fault s (agent_at s c k) ≡ None

-- the first agent of a cooperation that has no slot; the first that breaks a definition rule
pub record IsFirstWithoutSlot (s : SceneParts) (st : Standing) (c : CoopId) (a : AgentId) : Type 0 where
  pub at : ℕ
  pub within : at < (coop_of s c).count
  pub agent : agent_at s c at ≡ a
  pub here : lacks_slot s st (agents_from (coop_of s c).first at) a ≡ true
  pub before : HaveSlots s st c at

pub record IsFirstAgainstRule (s : SceneParts) (c : CoopId) (a : AgentId) (fault : DefFault) : Type 0 where
  pub at : ℕ
  pub within : at < (coop_of s c).count
  pub agent : agent_at s c at ≡ a
  pub here : definition_fault s a ≡ Some fault
  pub before : KeepRules s c at

-- the cause holds, and none before it does
abbrev pub IsFirstCause : SceneParts → Standing → CoopId → Refusal → Type 0
IsFirstCause s st c refusal.Empty = (coop_of s c).count ≡ 0
IsFirstCause s st c refusal.Parent = (0 < (coop_of s c).count) × (lacks_parent st (coop_of s c).parent ≡ true)
IsFirstCause s st c refusal.Present = (0 < (coop_of s c).count) × (lacks_parent st (coop_of s c).parent ≡ false) × (st.present c ≡ true)
IsFirstCause s st c (refusal.Binding a) = IsOpen s st c × IsFirstWithoutSlot s st c a
IsFirstCause s st c (refusal.Definition a fault) = IsOpen s st c × HaveSlots s st c (coop_of s c).count × IsFirstAgainstRule s c a fault

-- no cause holds
pub record IsAdmitted (s : SceneParts) (st : Standing) (c : CoopId) : Type 0 where
  pub is_open : IsOpen s st c
  pub slots : HaveSlots s st c (coop_of s c).count
  pub rules : KeepRules s c (coop_of s c).count

-- ---- leaving

-- no registered cooperation has it as named parent
abbrev pub HasNoChild : CoopTable → CoopId → Type 0
HasNoChild t c = (child : CoopId) → child.0 < length t.scene.coops → (standing_at t child).present ≡ true → (coop_of t.scene child).parent ≡ Some c → ⊥

-- the least cooperation that is leaving, whose agents' finish turns are over and that has no child
pub record IsNextLeft (t : CoopTable) (c : CoopId) : Type 0 where
  pub leaving : (standing_at t c).leaving ≡ true
  pub finished : (standing_at t c).unfinished ≡ 0
  pub no_child : HasNoChild t c
  pub least : (d : CoopId) → d.0 < c.0 → has_ended t d ≡ false
