-- The ranges of an instruction's numbers, and how far it may lead.
use Rattle.std.specs.Prelude.{◌≡◌, ℕ, ◌<◌, ◌≤◌, Bool, true, false, Some, slice_get}
use Rattle.so_code.specs.declared.instr.Operand.{Operand}
use Rattle.so_code.specs.declared.instr.Operand.TheVariants.{Num, Var, Msg, Temp, Ans}
use Rattle.so_code.specs.declared.instr.Dest.{Dest}
use Rattle.so_code.specs.declared.instr.Dest.TheVariants.{Var as ToVar, Temp as ToTemp}
use Rattle.so_code.specs.declared.instr.Args.{Args}
use Rattle.so_code.specs.declared.instr.Instr.{Instr}
use Rattle.so_code.specs.declared.instr.Instr.TheVariants as instr

-- 16 variables, and four fields and temporaries
abbrev pub IsOperand : Operand → Type 0
IsOperand (Num n) = Unit {0}
IsOperand (Var k) = k < 16
IsOperand (Msg k) = k < 4
IsOperand (Temp k) = k < 4
IsOperand Ans = Unit {0}

abbrev pub IsDest : Dest → Type 0
IsDest (ToVar k) = k < 16
IsDest (ToTemp k) = k < 4

pub record AreArgs (args : Args) : Type 0 where
  pub each : (k : ℕ) (a : Operand) → slice_get args.list k ≡ Some a → IsOperand a
  pub few : args.used ≤ 4

-- the numbers of an instruction are in range: eight timer slots, and one to eight cases
abbrev pub HasParts : Instr → Type 0
HasParts (instr.Set to a) = IsDest to × IsOperand a
HasParts (instr.Add to a b) = IsDest to × IsOperand a × IsOperand b
HasParts (instr.Sub to a b) = IsDest to × IsOperand a × IsOperand b
HasParts (instr.Mul to a b) = IsDest to × IsOperand a × IsOperand b
HasParts (instr.If a cmp b count) = IsOperand a × IsOperand b
HasParts (instr.Throw a) = IsOperand a
HasParts (instr.Log text args) = AreArgs args
HasParts (instr.Send target msg args) = AreArgs args
HasParts (instr.Delayed target msg ms args) = AreArgs args
HasParts (instr.Timer slot target msg ms period args) = (slot < 8) × AreArgs args
HasParts (instr.Cancel slot) = slot < 8
HasParts (instr.Receive chains cases handle_n extract_n empty_timeout total_time no_wait) = (0 < cases) × (cases ≤ 8)
HasParts other = Unit {0}

-- how many instructions it may pass over
abbrev pub jump : Instr → ℕ
jump (instr.If a cmp b count) = count
jump (instr.Skip count) = count
jump other = 0

-- an act of one instruction; the others are a receive and the marks between acts
abbrev pub is_act : Instr → Bool
is_act (instr.Receive chains cases handle_n extract_n empty_timeout total_time no_wait) = false
is_act (instr.Case case msg) = false
is_act instr.Back = false
is_act (instr.End body) = false
is_act other = true

abbrev pub is_switch : Instr → Bool
is_switch (instr.Switch to) = true
is_switch other = false
