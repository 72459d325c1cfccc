-- A code by its structure: its bodies one after the other, each its acts and then the End that names it. A receive is
-- followed by its handlers, each a Case, its acts and a Back.
use Rattle.std.specs.Prelude.{◌≡◌, ℕ, zero, suc, ◌+◌, ◌<◌, ◌≤◌, ◌⊎◌, Bool, true, false, List, [], ◌∷◌, ◌++◌, length, take, map}
use Rattle.std.specs.List.{AllByRecursion}
use Rattle.std.specs.List.Sorted.{IsStrictlyIncreasing}
use Rattle.so_ids.specs.Limits.{most_instructions}
use Rattle.so_ids.specs.declared.MsgId.{MsgId}
use Rattle.so_ids.specs.declared.RowId.{RowId}
use Rattle.so_code.specs.declared.instr.Body.{Body}
use Rattle.so_code.specs.declared.instr.Body.TheVariants.{Start, Finish, Enter, Exit, Row, Thread}
use Rattle.so_code.specs.declared.instr.Instr.{Instr}
use Rattle.so_code.specs.declared.instr.Instr.TheVariants.{Receive, Case, Back, End}
use Rattle.so_code.specs.Receives.{is_receive}
use Rattle.so_code.specs.Valid.{HasParts, jump, is_act, is_switch}

-- ---- the parts, and the list that they make

-- a handler of a receive: of which case and type, and its acts
pub record Handler : Type 0 where
  pub case : ℕ
  pub msg : MsgId
  pub acts : List Instr

-- an act of a body: one instruction, or a receive with its handlers
pub data Act : Type 0 where
  plain : Instr → Act
  receiving : Instr → List Handler → Act

-- a body with its acts
pub record WholeBody : Type 0 where
  pub body : Body
  pub acts : List Act

abbrev pub handlers_code : List Handler → List Instr
handlers_code [] = []
handlers_code (h ∷ rest) = Case h.case h.msg ∷ (h.acts ++ Back ∷ handlers_code rest)

abbrev pub act_code : Act → List Instr
act_code (plain i) = i ∷ []
act_code (receiving i handlers) = i ∷ handlers_code handlers

abbrev pub acts_code : List Act → List Instr
acts_code [] = []
acts_code (a ∷ rest) = act_code a ++ acts_code rest

abbrev pub flatten : List WholeBody → List Instr
flatten [] = []
flatten (p ∷ rest) = acts_code p.acts ++ End p.body ∷ flatten rest

-- a body whose acts are one instruction each
abbrev pub plain_body : Body → List Instr → WholeBody
plain_body body acts = record { body = body; acts = map plain acts }

-- ---- what may stand where

abbrev pub cases_of : Instr → ℕ
cases_of (Receive chains cases handle_n extract_n empty_timeout total_time no_wait) = cases
cases_of other = 0

-- an act of one instruction that so many follow in its list: it stands for an act by itself, it is a switch only where
-- switches may stand, and its jump stays in the list
pub record IsActBefore (switches : Bool) (i : Instr) (ahead : ℕ) : Type 0 where
  pub act : is_act i ≡ true
  pub switch : is_switch i ≡ true → switches ≡ true
  pub parts : HasParts i
  pub jumps : jump i ≤ ahead

-- acts of one instruction each, which so many more follow in their list
abbrev pub AreActsBefore : Bool → ℕ → List Instr → Type 0
AreActsBefore switches more [] = Unit {0}
AreActsBefore switches more (i ∷ rest) = IsActBefore switches i (length rest + more) × AreActsBefore switches more rest

-- a handler of a receive of so many cases: its acts are whole, and no receive or switch is among them
pub record IsHandler (cases : ℕ) (h : Handler) : Type 0 where
  pub case : h.case < cases
  pub acts : AreActsBefore false 0 h.acts

-- so many instructions are whole acts, the next ones of the list
pub record PassesOver (count : ℕ) (rest : List Act) : Type 0 where
  pub acts : ℕ
  pub few : acts ≤ length rest
  pub width : count ≡ length (acts_code (take acts rest))

-- a state's enter and exit bodies make no switch
abbrev pub may_switch : Body → Bool
may_switch (Enter s) = false
may_switch (Exit s) = false
may_switch other = true

-- an act of one instruction, before the rest of its body's acts, of which its jump passes over whole ones
pub record IsPlainAct (body : Body) (i : Instr) (rest : List Act) : Type 0 where
  pub act : is_act i ≡ true
  pub switch : is_switch i ≡ true → may_switch body ≡ true
  pub parts : HasParts i
  pub jumps : PassesOver (jump i) rest

pub record IsReceiving (i : Instr) (handlers : List Handler) : Type 0 where
  pub receive : is_receive i ≡ true
  pub parts : HasParts i
  pub each : AllByRecursion (IsHandler (cases_of i)) handlers

abbrev pub IsAct : Body → Act → List Act → Type 0
IsAct body (plain i) rest = IsPlainAct body i rest
IsAct body (receiving i handlers) rest = IsReceiving i handlers

abbrev pub AreActs : Body → List Act → Type 0
AreActs body [] = Unit {0}
AreActs body (a ∷ rest) = IsAct body a rest × AreActs body rest

abbrev pub IsWholeBody : WholeBody → Type 0
IsWholeBody p = AreActs p.body p.acts

-- ---- the order of the bodies

-- the enter and exit bodies of n states, from state s on
abbrev pub state_bodies : ℕ → ℕ → List Body
state_bodies zero s = []
state_bodies (suc n) s = Enter (record { 0 = s }) ∷ Exit (record { 0 = s }) ∷ state_bodies n (s + 1)

-- an agent's: start, finish, those of each declared state, and the handlers of rows
abbrev pub agent_bodies : ℕ → List RowId → List Body
agent_bodies states rows = Start ∷ Finish ∷ (state_bodies states 1 ++ map Row rows)

abbrev pub row_number : RowId → ℕ
row_number row = row.0

pub record AreAgentBodies (bodies : List Body) : Type 0 where
  pub states : ℕ
  pub rows : List RowId
  pub rising : IsStrictlyIncreasing (map row_number rows)
  pub same : bodies ≡ agent_bodies states rows

-- an agent's bodies in order, or a plain thread's one body
abbrev pub AreInOrder : List Body → Type 0
AreInOrder bodies = AreAgentBodies bodies ⊎ (bodies ≡ Thread ∷ [])

abbrev pub body_of : WholeBody → Body
body_of p = p.body

-- ---- a code

pub record IsCode (code : List Instr) : Type 0 where
  pub made_of : List WholeBody
  pub same : code ≡ flatten made_of
  pub few : length code ≤ most_instructions
  pub order : AreInOrder (map body_of made_of)
  pub each : AllByRecursion IsWholeBody made_of
