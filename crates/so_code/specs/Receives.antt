-- Where the handlers of a receive stand: right after it, each from its Case to its Back.
use Rattle.std.specs.Prelude.{ℕ, ◌+◌, Bool, true, false, ◌&&◌, not, List, [], ◌∷◌, drop, Option, Some, None, nat_eq, if◌then◌else◌}
use Rattle.so_ids.specs.declared.MsgId.{MsgId}
use Rattle.so_code.specs.declared.instr.Instr.{Instr}
use Rattle.so_code.specs.declared.instr.Instr.TheVariants.{Receive, Case, Back}

abbrev pub is_receive : Instr → Bool
is_receive (Receive chains cases handle_n extract_n empty_timeout total_time no_wait) = true
is_receive other = false

abbrev pub is_case : Instr → Bool
is_case (Case case msg) = true
is_case other = false

abbrev pub is_case_of : ℕ → MsgId → Instr → Bool
is_case_of case msg (Case other_case other_msg) = nat_eq other_case case && nat_eq other_msg.0 msg.0
is_case_of case msg other = false

abbrev pub is_back : Instr → Bool
is_back Back = true
is_back other = false

-- how many instructions the handlers at the head of the code take, inside one or between two
abbrev pub handlers_length : Bool → List Instr → ℕ
handlers_length inside [] = 0
handlers_length inside (i ∷ code) = if inside then 1 + handlers_length (not (is_back i)) code else (if is_case i then 1 + handlers_length true code else 0)

-- the place after a receive and its handlers
abbrev pub past : List Instr → ℕ → ℕ
past code receive = receive + 1 + handlers_length false (drop (receive + 1) code)

-- the handler of a case and type, from `place` on
abbrev pub handler_from : ℕ → MsgId → Bool → ℕ → List Instr → Option ℕ
handler_from case msg inside place [] = None
handler_from case msg inside place (i ∷ code) =
    if inside then handler_from case msg (not (is_back i)) (place + 1) code
    else (if is_case_of case msg i then Some (place + 1)
    else (if is_case i then handler_from case msg true (place + 1) code else None))

-- the first act of the receive's handler, where it has one
abbrev pub handler_at : List Instr → ℕ → ℕ → MsgId → Option ℕ
handler_at code receive case msg = handler_from case msg false (receive + 1) (drop (receive + 1) code)
