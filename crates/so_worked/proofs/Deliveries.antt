-- Subscriptions and filters of three agents, and what becomes of messages to them.
use Rattle.std.proofs.Common.{◌≡◌, ℕ, List, [], ◌∷◌, Bool, true, false, Some, None, refl}
use Rattle.std.specs.Prelude.{ℤ, pos, negsuc, map, Ok, Err}
use Rattle.so_ids.specs.Ids.{default_state}
use Rattle.so_ids.specs.declared.AgentId.{AgentId}
use Rattle.so_ids.specs.declared.DefFault.TheVariants as rule
use Rattle.so_ids.specs.declared.Payload.{Payload}
use Rattle.so_ids.specs.declared.Queued.{Queued}
use Rattle.so_code.specs.declared.instr.Instr.{Instr}
use Rattle.so_code.specs.declared.instr.Instr.TheVariants.{End}
use Rattle.so_code.specs.declared.instr.Body.TheVariants.{Start, Finish, Row as RowBody}
use Rattle.so_code.specs.declared.instr.Cmp.{Cmp}
use Rattle.so_code.specs.declared.instr.Cmp.TheVariants.{Eq, Lt, Ge}
use Rattle.so_state.specs.declared.choice.Row.{Row}
use Rattle.so_state.specs.declared.choice.RowKind.{RowKind}
use Rattle.so_state.specs.declared.choice.RowKind.TheVariants.{Run, Dead}
use Rattle.so_scene.specs.declared.parts.AgentDef.{AgentDef}
use Rattle.so_scene.specs.declared.parts.CoopDef.{CoopDef}
use Rattle.so_scene.specs.declared.parts.FilterDef.{FilterDef}
use Rattle.so_scene.specs.declared.parts.MessageDef.{MessageDef}
use Rattle.so_scene.specs.declared.parts.SceneParts.{SceneParts}
use Rattle.so_scene.specs.Parts.{no_agent, default_disp}
use Rattle.so_scene.specs.Definition.{is_twice, filter_fault_of}
use Rattle.so_scene.specs.Subscriptions.{filter_of, filter_set, filters_first, rows_first}
use Rattle.so_scene.specs.Delivery.{events, sent_of}
use Rattle.so_mbox.specs.Table.{Subscriptions, nobody, receivers, is_row_active, is_filter_active, after_enter, after_leave, after_subscribe, after_unsubscribe, after_set_filter, after_drop_filter}
use Rattle.so_mbox.specs.Answers.{subscribe_answer, broken_by}
use Rattle.so_mbox.specs.declared.table.SubFault.TheVariants.{Twice}
use Rattle.so_mbox.specs.declared.table.FilterFault.TheVariants as refused
use Rattle.so_coop.specs.Coops.{CoopTable, nobody as no_coops, after_enter as after_registration, after_leave_begin}
use Rattle.so_deliver.specs.Planned.{outcomes_of}

-- ---- the scene

-- no act, in the bodies of an agent with two rows
abbrev idle_code : List Instr
idle_code = End Start ∷ End Finish ∷ End (RowBody (record { 0 = 0 })) ∷ End (RowBody (record { 0 = 1 })) ∷ []

abbrev message : List ℕ → Bool → MessageDef
message name signal = record { name = name; signal = signal }

abbrev row_for : ℕ → ℕ → RowKind → Bool → Row
row_for mbox msg kind active = record { mbox = record { 0 = mbox }; msg = record { 0 = msg }; state = default_state; kind = kind; safe = false; active = active }

-- of field 0
abbrev field_test : ℕ → ℕ → Cmp → ℤ → Bool → FilterDef
field_test mbox msg cmp value active = record { id = None; mbox = record { 0 = mbox }; msg = record { 0 = msg }; field = 0; cmp = cmp; value = value; active = active }

abbrev agent : List ℕ → ℕ → List Row → List FilterDef → AgentDef
agent name coop rows filters = record no_agent { name = name; coop = record { 0 = coop }; rows = rows; row_ids = None ∷ None ∷ []; filters = filters; code = idle_code }

abbrev coop : List ℕ → ℕ → ℕ → CoopDef
coop name first count = record { name = name; parent = None; at_start = true; first = record { 0 = first }; count = count }

-- the cooperations 0 and 1 are `m`, which has `r` and `q`, and `w`, which has `d`; the mboxes 3 and 4 are `b` and `s`, and the
-- messages 0, 1 and 2 are `n`, the signal `g` and `o`
abbrev board : SceneParts
board = record {
  messages = message (110 ∷ []) false ∷ message (103 ∷ []) true ∷ message (111 ∷ []) false ∷ [];
  mboxes = (98 ∷ []) ∷ (115 ∷ []) ∷ [];
  dispatchers = default_disp ∷ [];
  groups = [] ∷ [];
  coops = coop (109 ∷ []) 0 2 ∷ coop (119 ∷ []) 2 1 ∷ [];
  agents =
      agent (114 ∷ []) 0 (row_for 3 0 Run true ∷ row_for 3 0 Run false ∷ []) (field_test 3 0 Ge (pos 0) true ∷ field_test 3 0 Lt (pos 10) false ∷ [])
      ∷ agent (113 ∷ []) 0 (row_for 3 0 Run true ∷ row_for 3 2 Dead true ∷ []) (field_test 3 0 Ge (pos 100) true ∷ field_test 3 0 Ge (pos 5) true ∷ [])
      ∷ agent (100 ∷ []) 1 (row_for 3 0 Dead true ∷ row_for 3 0 Run false ∷ []) (field_test 3 2 Eq (pos 1) true ∷ field_test 4 0 Eq (pos 1) true ∷ [])
      ∷ [];
  texts = [];
  autoshutdown = true;
}

abbrev r : AgentId
r = record { 0 = 0 }

abbrev q : AgentId
q = record { 0 = 1 }

abbrev d : AgentId
d = record { 0 = 2 }

abbrev none : Subscriptions
none = nobody board

abbrev all : Subscriptions
all = after_enter d (after_enter q (after_enter r none))

abbrev one : ℤ → Payload
one n = record { fields = n ∷ pos 0 ∷ pos 0 ∷ pos 0 ∷ []; used = 1 }

abbrev both_stay : CoopTable
both_stay = after_registration (record { 0 = 1 }) (after_registration (record { 0 = 0 }) (no_coops board))

abbrev m_leaves : CoopTable
m_leaves = after_leave_begin (record { 0 = 0 }) both_stay

abbrev w_leaves : CoopTable
w_leaves = after_leave_begin (record { 0 = 1 }) both_stay

abbrev both_leave : CoopTable
both_leave = after_leave_begin (record { 0 = 1 }) m_leaves

-- who gets a message of the type with this field through the mbox, and to how many it is lost
abbrev got_by : Subscriptions → CoopTable → ℕ → ℕ → ℤ → List AgentId × ℕ
got_by t coops mbox msg field =
    (map (λ (event : Queued). event.agent) (events (outcomes_of t coops (record { 0 = mbox }) (record { 0 = msg }) (one field))), (sent_of (outcomes_of t coops (record { 0 = mbox }) (record { 0 = msg }) (one field))).lost)

-- of type n through b
abbrev heard : Subscriptions → ℤ → List AgentId
heard t field = (got_by t both_stay 3 0 field).0

-- ---- who gets it

receivers_are_in_order_of_registration :
    (heard none (pos 7) ∷ heard (after_enter q none) (pos 7) ∷ heard all (pos 7) ∷ heard (after_enter q (after_enter r (after_enter d none))) (pos 7) ∷ heard (after_enter r (after_leave r (after_enter q (after_enter r none)))) (pos 7) ∷ [])
    ≡ ([] ∷ (q ∷ []) ∷ (r ∷ q ∷ d ∷ []) ∷ (d ∷ r ∷ q ∷ []) ∷ (q ∷ r ∷ []) ∷ [])
receivers_are_in_order_of_registration = refl

-- the receivers of type n through b
abbrev hears : Subscriptions → List AgentId
hears t = receivers t (record { 0 = 3 }) (record { 0 = 0 })

an_agent_that_is_not_subscribed_is_passed_over : hears (after_unsubscribe q (record { 0 = 0 }) (after_enter r (after_enter q (after_enter d none)))) ≡ (d ∷ r ∷ [])
an_agent_that_is_not_subscribed_is_passed_over = refl

-- a dead-letter row is a subscription too; and an agent with two rows gets it once
an_agent_receives_what_it_is_subscribed_to_and_once :
    (
    heard (after_unsubscribe r (record { 0 = 0 }) (after_enter r none)) (pos 7)
    ∷ heard (after_subscribe r (record { 0 = 1 }) (after_unsubscribe r (record { 0 = 0 }) (after_enter r none))) (pos 7)
    ∷ heard (after_subscribe d (record { 0 = 1 }) (after_enter d none)) (pos 7)
    ∷ heard (after_unsubscribe d (record { 0 = 0 }) (after_enter d none)) (pos 7)
    ∷ [])
    ≡ ([] ∷ (r ∷ []) ∷ (d ∷ []) ∷ [] ∷ [])
an_agent_receives_what_it_is_subscribed_to_and_once = refl

other_types_and_mboxes_have_other_receivers : (got_by all both_stay 3 2 (pos 7) ∷ got_by all both_stay 3 1 (pos 0) ∷ got_by all both_stay 4 0 (pos 7) ∷ []) ≡ ((q ∷ [], 0) ∷ ([], 0) ∷ ([], 0) ∷ [])
other_types_and_mboxes_have_other_receivers = refl

-- ---- filters

-- the later of two filters of one mbox and type counts
a_filter_refuses_what_it_does_not_pass : map (heard all) (pos 3 ∷ negsuc 0 ∷ pos 200 ∷ pos 50 ∷ []) ≡ ((r ∷ d ∷ []) ∷ (d ∷ []) ∷ (r ∷ q ∷ d ∷ []) ∷ (r ∷ q ∷ d ∷ []) ∷ [])
a_filter_refuses_what_it_does_not_pass = refl

a_newer_filter_takes_the_place_of_an_older_one :
    (
    heard (after_set_filter q (record { 0 = 0 }) (after_enter q none)) (pos 50)
    ∷ heard (after_set_filter r (record { 0 = 1 }) (after_enter r none)) (pos 20)
    ∷ heard (after_set_filter r (record { 0 = 1 }) (after_enter r none)) (negsuc 0)
    ∷ heard (after_drop_filter r (record { 0 = 0 }) (after_enter r none)) (negsuc 0)
    ∷ heard (after_drop_filter q (record { 0 = 1 }) (after_enter q none)) (pos 3)
    ∷ [])
    ≡ ([] ∷ [] ∷ (r ∷ []) ∷ (r ∷ []) ∷ (q ∷ []) ∷ [])
a_newer_filter_takes_the_place_of_an_older_one = refl

abbrev tests : List FilterDef
tests = field_test 3 0 Eq (pos 0) true ∷ field_test 3 0 Eq (pos 0) true ∷ field_test 3 2 Eq (pos 0) true ∷ field_test 4 0 Eq (pos 0) false ∷ []

-- at a registration, and after the filters 0, 3, 2 and 1 are set
the_last_filter_of_a_mbox_and_type_is_active :
    (
    filters_first tests
    ∷ filter_set tests 0 (filters_first tests)
    ∷ filter_set tests 3 (filter_set tests 0 (filters_first tests))
    ∷ filter_set tests 2 (filter_set tests 3 (filter_set tests 0 (filters_first tests)))
    ∷ filter_set tests 1 (filter_set tests 2 (filter_set tests 3 (filter_set tests 0 (filters_first tests))))
    ∷ [])
    ≡ (
    (false ∷ true ∷ true ∷ false ∷ [])
    ∷ (true ∷ false ∷ true ∷ false ∷ [])
    ∷ (true ∷ false ∷ true ∷ true ∷ [])
    ∷ (true ∷ false ∷ true ∷ true ∷ [])
    ∷ (false ∷ true ∷ true ∷ true ∷ [])
    ∷ [])
the_last_filter_of_a_mbox_and_type_is_active = refl

-- ---- a second registration

a_second_registration_sets_rows_and_filters_back :
    (
    heard (after_enter r (after_leave r (after_unsubscribe r (record { 0 = 0 }) (after_enter r none)))) (pos 7)
    ∷ heard (after_enter r (after_leave r (after_set_filter r (record { 0 = 1 }) (after_enter r none)))) (pos 20)
    ∷ heard (after_enter r (after_leave r (after_drop_filter r (record { 0 = 0 }) (after_enter r none)))) (negsuc 0)
    ∷ heard (after_unsubscribe d (record { 0 = 0 }) (after_enter d (after_leave d (after_subscribe d (record { 0 = 1 }) (after_enter d none))))) (pos 7)
    ∷ [])
    ≡ ((r ∷ []) ∷ (r ∷ []) ∷ [] ∷ [] ∷ [])
a_second_registration_sets_rows_and_filters_back = refl

rows_are_active_first_as_they_say : rows_first (row_for 0 0 Run true ∷ row_for 0 0 Run false ∷ row_for 0 0 Run true ∷ []) ≡ (true ∷ false ∷ true ∷ [])
rows_are_active_first_as_they_say = refl

-- ---- cooperations that leave

-- a message is lost to the agents of a leaving cooperation that their filters let hear it
abbrev each_field : Subscriptions → CoopTable → List (List AgentId × ℕ)
each_field t coops = map (got_by t coops 3 0) (pos 7 ∷ pos 3 ∷ negsuc 0 ∷ [])

a_leaving_cooperation_loses_what_its_filters_pass :
    map (each_field all) (both_stay ∷ m_leaves ∷ w_leaves ∷ both_leave ∷ [])
    ≡ (
    ((r ∷ q ∷ d ∷ [], 0) ∷ (r ∷ d ∷ [], 0) ∷ (d ∷ [], 0) ∷ [])
    ∷ ((d ∷ [], 2) ∷ (d ∷ [], 1) ∷ (d ∷ [], 0) ∷ [])
    ∷ ((r ∷ q ∷ [], 1) ∷ (r ∷ [], 1) ∷ ([], 1) ∷ [])
    ∷ (([], 3) ∷ ([], 2) ∷ ([], 1) ∷ [])
    ∷ [])
a_leaving_cooperation_loses_what_its_filters_pass = refl

abbrev mixed : Subscriptions
mixed = after_enter q (after_enter d (after_enter r none))

the_others_get_it_in_order :
    (got_by mixed m_leaves 3 0 (pos 7) ∷ got_by mixed w_leaves 3 0 (pos 7) ∷ got_by none both_leave 3 0 (pos 7) ∷ []) ≡ ((d ∷ [], 2) ∷ (r ∷ q ∷ [], 1) ∷ ([], 0) ∷ [])
the_others_get_it_in_order = refl

-- ---- answers

abbrev first_dropped : Subscriptions
first_dropped = after_unsubscribe r (record { 0 = 0 }) (after_enter r none)

abbrev second_set : Subscriptions
second_set = after_subscribe r (record { 0 = 1 }) first_dropped

-- a row that is active itself, and one for the same events as an active one
a_subscription_is_answered_by_what_is_active :
    (subscribe_answer (after_enter r none) r (record { 0 = 0 }) ∷ subscribe_answer (after_enter r none) r (record { 0 = 1 }) ∷ subscribe_answer first_dropped r (record { 0 = 1 }) ∷ subscribe_answer second_set r (record { 0 = 0 }) ∷ [])
    ≡ (Err Twice ∷ Err Twice ∷ Ok tt ∷ Err Twice ∷ [])
a_subscription_is_answered_by_what_is_active = refl

-- a dead-letter row stands twice where another active one is for the same events, whatever else is active
abbrev dead_after : RowKind → Bool → ℕ → Bool
dead_after kind active msg = is_twice (row_for 3 0 kind active ∷ row_for 4 0 Dead true ∷ []) (active ∷ true ∷ []) (row_for 3 msg Dead false)

only_dead_letter_rows_clash_with_one : (dead_after Dead true 0 ∷ dead_after Dead false 0 ∷ dead_after Run true 0 ∷ dead_after Dead true 2 ∷ []) ≡ (true ∷ false ∷ false ∷ false ∷ [])
only_dead_letter_rows_clash_with_one = refl

-- each filter of the agents is taken: its answer names no rule. One on a direct mbox isn't, nor one that tests the signal
a_filter_is_answered_by_its_mbox_and_its_type :
    (map (filter_fault_of board) (filter_of board r (record { 0 = 0 }) ∷ filter_of board q (record { 0 = 1 }) ∷ filter_of board d (record { 0 = 1 }) ∷ []) ≡ map broken_by (Ok tt ∷ Ok tt ∷ Ok tt ∷ []))
    × (map (filter_fault_of board) (field_test 1 0 Ge (pos 0) true ∷ field_test 3 1 Ge (pos 0) true ∷ field_test 1 1 Ge (pos 0) true ∷ []) ≡ map broken_by (Err refused.DirectMbox ∷ Err refused.IsSignal ∷ Err refused.DirectMbox ∷ []))
    × (map broken_by (Ok tt ∷ Err refused.DirectMbox ∷ Err refused.IsSignal ∷ []) ≡ None ∷ Some rule.DirectMbox ∷ Some rule.IsSignal ∷ [])
a_filter_is_answered_by_its_mbox_and_its_type = (refl, refl, refl)

-- an agent that has left has no active rows
the_end_of_a_subscription_is_answered_by_what_is_active :
    (is_row_active (after_enter r none) r (record { 0 = 1 }) ∷ is_row_active (after_enter r none) r (record { 0 = 0 }) ∷ is_row_active first_dropped r (record { 0 = 0 }) ∷ is_row_active (after_leave r second_set) r (record { 0 = 1 }) ∷ [])
    ≡ (false ∷ true ∷ false ∷ false ∷ [])
the_end_of_a_subscription_is_answered_by_what_is_active = refl

abbrev no_filter : Subscriptions
no_filter = after_drop_filter r (record { 0 = 0 }) second_set

abbrev second_filter : Subscriptions
second_filter = after_set_filter r (record { 0 = 1 }) (after_set_filter r (record { 0 = 0 }) no_filter)

the_end_of_a_filter_is_answered_by_what_is_active :
    (
    is_filter_active second_set r (record { 0 = 1 })
    ∷ is_filter_active second_set r (record { 0 = 0 })
    ∷ is_filter_active no_filter r (record { 0 = 0 })
    ∷ is_filter_active second_filter r (record { 0 = 0 })
    ∷ is_filter_active second_filter r (record { 0 = 1 })
    ∷ is_filter_active (after_enter q none) q (record { 0 = 0 })
    ∷ is_filter_active (after_enter q none) q (record { 0 = 1 })
    ∷ [])
    ≡ (false ∷ true ∷ false ∷ false ∷ true ∷ false ∷ true ∷ [])
the_end_of_a_filter_is_answered_by_what_is_active = refl
