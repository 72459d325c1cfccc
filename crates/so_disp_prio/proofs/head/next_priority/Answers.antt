use Rattle.std.proofs.Common.{◌≡◌, ℕ, suc, ◌∷◌, ◌+◌, ◌-◌, ◌<◌, Bool, true, false, Option, Some, is_some, arith, refl, sym, ◌∙◌, ap}
use Rattle.std.specs.Prelude.{unwrap_or}
use Rattle.std.specs.List.{find}
use Rattle.so_ids.specs.declared.Priority.{Priority}
use Rattle.so_scene.specs.Rounds.{has_demand, next_lower, down_from}
use Rattle.so_disp_prio.specs.Pick.{waits_with}
use Rattle.so_disp_prio.proofs.head.next_priority.Goals as goal

one_more : (has : ℕ → Bool) (at next : Priority) (k : ℕ) (all : Option Priority) → k < 8 → next ≡ next_lower at → all ≡ find (has_demand has) (down_from at (8 - k)) →
    all ≡ find (has_demand has) (next ∷ down_from next (8 - (k + 1)))
one_more has at next k all l is same =
    let more : 8 - k ≡ suc (8 - (k + 1)) = omega arith in
    same ∙ (ap (λ (n : ℕ). find (has_demand has) (down_from at n)) more ∙ ap (λ (p : Priority). find (has_demand has) (p ∷ down_from p (8 - (k + 1)))) (sym is))

found_here : (has : ℕ → Bool) (at next from : Priority) (k : ℕ) (all : Option Priority) → k < 8 → next ≡ next_lower at → has next.level ≡ true → all ≡ find (has_demand has) (down_from at (8 - k)) →
    next ≡ unwrap_or all from
found_here has at next from k all l is on same =
    let found : all ≡ Some next = one_more has at next k all l is same ∙ rw on refl in
    rw found refl

goes_on : (has : ℕ → Bool) (at next : Priority) (k : ℕ) (all : Option Priority) → k < 8 → next ≡ next_lower at → has next.level ≡ false → all ≡ find (has_demand has) (down_from at (8 - k)) →
    all ≡ find (has_demand has) (down_from next (8 - (k + 1)))
goes_on has at next k all l is off same = one_more has at next k all l is same ∙ rw off refl

pub returns-then-is_some : goal.returns-then-is_some
returns-then-is_some c =
    found_here (waits_with c.args.queues.now c.args.key) c.loop-step.at c.next_lower-at.result c.args.from c.loop-step.step _ (omega arith) c.next_lower-at.ensures (ap is_some (sym c.front_of.ensures) ∙ (sym c.is_some.ensures ∙ c.if-is_some.true)) c.loop-step.invariant

pub loop-step-preserved : goal.loop-step-preserved
loop-step-preserved c =
    goes_on (waits_with c.args.queues.now c.args.key) c.loop-step.at c.next_lower-at.result c.loop-step.step _ (omega arith) c.next_lower-at.ensures (ap is_some (sym c.front_of.ensures) ∙ (sym c.is_some.ensures ∙ c.if-is_some.false)) c.loop-step.invariant
