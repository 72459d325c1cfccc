-- Each dispatcher keeps its round.
use Rattle.std.proofs.Common.{◌≡◌, ℕ, List, length, replicate, refl, ap, ◌∙◌}
use Rattle.std.proofs.lemmas.List.{length-set, length-replicate}
use Rattle.so_ids.specs.declared.DispId.{DispId}
use Rattle.so_ids.specs.declared.LaneId.{LaneId}
use Rattle.so_ids.specs.declared.Priority.{Priority}
use Rattle.so_scene.specs.declared.parts.DispKind.{DispKind}
use Rattle.so_scene.specs.declared.parts.DispKind.TheVariants.{OneThread, ActiveObj, ActiveGroup, ThreadPool, AdvThreadPool, StrictlyOrdered, QuotedRoundRobin, OnePerPrio}
use Rattle.so_scene.specs.declared.parts.SceneParts.{SceneParts}
use Rattle.so_scene.specs.declared.round.Round.{Round}
use Rattle.so_scene.specs.Parts.{disp_of}
use Rattle.so_scene.specs.Lanes.{lane_at}
use Rattle.so_scene.specs.Rounds.{first_round, after_taking}
use Rattle.so_disp_prio.specs.Pick.{round_of, rounds_by, rounds_after}

as_many : (kind : DispKind) (quotes : List ℕ) (d : DispId) (p : Priority) (rounds : List Round) → length (rounds_by kind quotes d p rounds) ≡ length rounds
as_many OneThread quotes d p rounds = refl
as_many ActiveObj quotes d p rounds = refl
as_many ActiveGroup quotes d p rounds = refl
as_many ThreadPool quotes d p rounds = refl
as_many AdvThreadPool quotes d p rounds = refl
as_many StrictlyOrdered quotes d p rounds = refl
as_many QuotedRoundRobin quotes d p rounds = length-set rounds d.0 (after_taking quotes p (round_of rounds d))
as_many OnePerPrio quotes d p rounds = refl

pub rounds_kept : (s : SceneParts) (lane : LaneId) (p : Priority) (rounds new : List Round) → length rounds ≡ length s.dispatchers → new ≡ rounds_after s lane p rounds → length new ≡ length s.dispatchers
rounds_kept s lane p rounds new are is = ap length is ∙ as_many (disp_of s (lane_at s lane).disp).kind (disp_of s (lane_at s lane).disp).quotes (lane_at s lane).disp p rounds ∙ are

pub rounds_begin : (s : SceneParts) (new : List Round) → new ≡ replicate (length s.dispatchers) first_round → length new ≡ length s.dispatchers
rounds_begin s new is = ap length is ∙ length-replicate (length s.dispatchers) first_round
