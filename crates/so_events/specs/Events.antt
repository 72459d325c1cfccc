-- The demands of a run, how many turns run with each queue, and the rounds of the dispatchers.
use Rattle.std.specs.Prelude.{ℕ, ◌+◌, ◌-◌, ◌==◌, ◌&&◌, List, [], ◌++◌, length, Bool, true, false, slice_index_or, slice_set, replicate}
use Rattle.so_ids.specs.declared.KeyId.{KeyId}
use Rattle.so_ids.specs.declared.LaneId.{LaneId}
use Rattle.so_ids.specs.declared.DemandId.{DemandId}
use Rattle.so_scene.specs.declared.parts.SceneParts.{SceneParts}
use Rattle.so_scene.specs.declared.round.Round.{Round}
use Rattle.so_scene.specs.Lanes.{keys, key_of, serves}
use Rattle.so_scene.specs.Parts.{priority_of}
use Rattle.so_scene.specs.Rounds.{first_round}
use Rattle.so_queue.specs.Queues.{slot_of}
use Rattle.so_disp_adv.specs.declared.heads.HeadClass.{HeadClass}
use Rattle.so_disp_adv.specs.declared.heads.HeadClass.TheVariants.{Exclusive, Safe, Skip}
use Rattle.so_disp_prio.specs.Pick.{round_of, rounds_after}
use Rattle.so_history.specs.declared.entry.Demand.{Demand}
use Rattle.so_history.specs.Demands.{without}
use Rattle.so_history.specs.Heads.{is_next_among}

-- all demands that were queued and those that wait, both in order; how many thread-safe turns run with each queue, and how
-- many others; the round of each dispatcher; and how many demands may be queued in all
pub record EventTable : Type 0 where
  pub scene : SceneParts
  pub queued : List Demand
  pub waiting : List Demand
  pub safe : List ℕ
  pub exclusive : List ℕ
  pub rounds : List Round
  pub room : ℕ

abbrev pub no_events : SceneParts → ℕ → EventTable
no_events s room = record {
  scene = s;
  queued = [];
  waiting = [];
  safe = replicate (keys s) 0;
  exclusive = replicate (keys s) 0;
  rounds = replicate (length s.dispatchers) first_round;
  room = room;
}

abbrev pub after_demands : List Demand → EventTable → EventTable
after_demands ds t = record t { queued = t.queued ++ ds; waiting = t.waiting ++ ds }

-- a lane takes a demand out, which moves the round of its dispatcher
abbrev pub after_taking : LaneId → Demand → EventTable → EventTable
after_taking lane d t = record t { waiting = without d.id t.waiting; rounds = rounds_after t.scene lane (priority_of t.scene d.agent) t.rounds }

-- how many turns run with a queue
abbrev pub turns_with : List ℕ → KeyId → ℕ
turns_with running key = slice_index_or running key.0 0

abbrev pub one_more : KeyId → List ℕ → List ℕ
one_more key running = slice_set running key.0 (turns_with running key + 1)

abbrev pub one_less : KeyId → List ℕ → List ℕ
one_less key running = slice_set running key.0 (turns_with running key - 1)

-- a turn begins with a queue, or has ended: a thread-safe one, or another
abbrev pub after_start : Bool → KeyId → EventTable → EventTable
after_start true key t = record t { safe = one_more key t.safe }
after_start false key t = record t { exclusive = one_more key t.exclusive }

abbrev pub after_end : Bool → KeyId → EventTable → EventTable
after_end true key t = record t { safe = one_less key t.safe }
after_end false key t = record t { exclusive = one_less key t.exclusive }

-- how many such turns run
abbrev pub turns_of : Bool → EventTable → KeyId → ℕ
turns_of true t key = turns_with t.safe key
turns_of false t key = turns_with t.exclusive key

-- the turns that run with a queue, by these counts, let a demand of this class be taken
abbrev pub allows : EventTable → KeyId → HeadClass → Bool
allows t key Exclusive = (turns_with t.safe key == 0) && (turns_with t.exclusive key == 0)
allows t key Safe = turns_with t.exclusive key == 0
allows t key Skip = turns_with t.exclusive key == 0

-- the lane serves the demand's queue, the demand is the next of it, and the turns that run with it allow it
abbrev pub may_take_by : EventTable → (DemandId → HeadClass) → LaneId → Demand → Bool
may_take_by t class lane d =
    serves t.scene lane (key_of t.scene d.agent) && (is_next_among t.scene t.waiting (round_of t.rounds) d && allows t (key_of t.scene d.agent) (class d.id))

-- where a demand waits: a queue and a priority
abbrev pub place_of : SceneParts → Demand → ℕ
place_of s d = slot_of (key_of s d.agent) (priority_of s d.agent)

abbrev pub is_beside : SceneParts → Demand → Demand → Bool
is_beside s d x = place_of s x == place_of s d
