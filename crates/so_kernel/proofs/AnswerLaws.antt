-- What steps answer, of one entry and of several.
use Rattle.std.proofs.Common.{◌≡◌, ℕ, ◌+◌, ◌<◌, length, arith, Option, Some, None, Result, Ok, Err, refl, sym, ◌∙◌, ap}
use Rattle.so_ids.specs.declared.CoopId.{CoopId}
use Rattle.so_ids.specs.declared.Refusal.{Refusal}
use Rattle.so_lists.specs.Lists.{or_else, first_below}
use Rattle.so_lists.proofs.First.{first_below-from}
use Rattle.so_history.specs.declared.entry.Entry.{Entry}
use Rattle.so_history.specs.declared.entry.EntryKind.{EntryKind}
use Rattle.so_history.specs.declared.entry.EntryKind.TheVariants.{Register, Refuse, Begin, Skip, Act, End, Leaving, Left, Stop, Abort}
use Rattle.so_history_laws.proofs.ChainLaws.{IsTidying}
use Rattle.so_history.specs.Chain.{registering}
use Rattle.so_ledger.specs.declared.gate.Barred.{Barred}
use Rattle.so_ledger.specs.declared.gate.Barred.TheVariants.{Nothing, Full, Over}
use Rattle.so_kernel.specs.declared.answers.Stepped.TheVariants as stepped_answer
use Rattle.so_ledger.specs.Shapes.{Core}
use Rattle.so_ledger.proofs.GateLaws.{nothing_gated, gated_or}
use Rattle.so_kernel.specs.Answers.{entries, added, step_answers}
use Rattle.so_ledger.specs.Gates.{gated, core_after}

-- what is added is something
added_something : (kind : EntryKind) → added kind ≡ stepped_answer.Nothing → ⊥
added_something (Abort cause) h = cc
added_something (Register coop) h = cc
added_something (Refuse coop cause) h = cc
added_something (Begin lane demand opening agent) h = cc
added_something (Act turn effect answer) h = cc
added_something (End turn) h = cc
added_something (Leaving coop reason) h = cc
added_something (Left coop) h = cc
added_something (Skip lane demand why) h = cc
added_something (Stop cause) h = cc

-- what main adds aborts nothing
pub added_tidied : (kind : EntryKind) → IsTidying kind → stepped_answer.Added ≡ added kind
added_tidied (Leaving coop reason) t = refl
added_tidied (Left coop) t = refl
added_tidied (Skip lane demand why) t = absurd t
added_tidied (Stop cause) t = refl
added_tidied (Abort cause) t = absurd t
added_tidied (Register coop) t = absurd t
added_tidied (Refuse coop cause) t = absurd t
added_tidied (Begin lane demand opening agent) t = absurd t
added_tidied (Act turn effect answer) t = absurd t
added_tidied (End turn) t = absurd t

pub added_registered : (coop : CoopId) (cause : Option Refusal) → stepped_answer.Added ≡ added (registering coop cause)
added_registered coop None = refl
added_registered coop (Some cause) = refl

-- an answer Nothing says that there was nothing to add
pub nothing_is : (g : Result Entry Barred) → step_answers g ≡ stepped_answer.Nothing → g ≡ Err Nothing
nothing_is (Ok e) h = absurd (added_something e.kind h)
nothing_is (Err Nothing) h = refl
nothing_is (Err Full) h = cc
nothing_is (Err Over) h = cc

pub two-nothing : (k : Core) (a b : Option Entry) → step_answers (gated k a) ≡ stepped_answer.Nothing → gated k (or_else a b) ≡ gated k b
two-nothing k a b h = rw (nothing_gated k a (nothing_is (gated k a) h)) refl

pub two-other : (k : Core) (a b : Option Entry) → (step_answers (gated k a) ≡ stepped_answer.Nothing → ⊥) → gated k (or_else a b) ≡ gated k a
two-other k a b h = gated_or k a b (λ g. h (ap step_answers g))

pub core_nothing : (k : Core) (a : Option Entry) → step_answers (gated k a) ≡ stepped_answer.Nothing → core_after k (gated k a) ≡ k
core_nothing k a h = ap (core_after k) (nothing_is (gated k a) h)

pub still_going : (k : Core) (a : Option Entry) → step_answers (gated k a) ≡ stepped_answer.Nothing → gated k None ≡ Err Nothing
still_going k a h = let g = nothing_is (gated k a) h in ap (gated k) (sym (nothing_gated k a g)) ∙ g

-- of many numbers, the first that has an answer
below_case : (k : Core) (f : ℕ → Option Entry) (n at : ℕ) (x : Option Entry) → at < n → f at ≡ x → gated k (first_below f at) ≡ Err Nothing → (step_answers (gated k x) ≡ stepped_answer.Nothing → ⊥) → gated k (first_below f n) ≡ gated k x
below_case k f n at (Some e) l is none h = ap (gated k) (first_below-from f n at e l (nothing_gated k (first_below f at) none) is)
below_case k f n at None l is none h = absurd (h (ap step_answers (ap (gated k) (sym (nothing_gated k (first_below f at) none)) ∙ none)))

pub below-other : (k : Core) (f : ℕ → Option Entry) (n at : ℕ) → at < n → gated k (first_below f at) ≡ Err Nothing → (step_answers (gated k (f at)) ≡ stepped_answer.Nothing → ⊥) → gated k (first_below f n) ≡ gated k (f at)
below-other k f n at l none h = below_case k f n at (f at) l refl none h

-- the history grows by the entries of the answer
pub one_entry : (kind : EntryKind) → entries (added kind) ≡ 1
one_entry (Abort cause) = refl
one_entry (Register coop) = refl
one_entry (Refuse coop cause) = refl
one_entry (Begin lane demand opening agent) = refl
one_entry (Act turn effect answer) = refl
one_entry (End turn) = refl
one_entry (Leaving coop reason) = refl
one_entry (Left coop) = refl
one_entry (Skip lane demand why) = refl
one_entry (Stop cause) = refl

pub counted : (k : Core) (g : Result Entry Barred) → length (core_after k g).history ≡ length k.history + entries (step_answers g)
counted k (Ok e) = rw (one_entry e.kind) (omega arith)
counted k (Err Nothing) = omega arith
counted k (Err Full) = omega arith
counted k (Err Over) = omega arith
