use Rattle.std.proofs.Common.{◌≡◌, ℕ, ◌+◌, ◌*◌, List, refl, sym, ◌∙◌, ap, add-one, arith}
use Rattle.so_ids.specs.declared.DemandId.{DemandId}
use Rattle.so_queue.specs.Queues.{list_at, head_of, least_to, lesser, front_of_key}
use Rattle.so_queue.proofs.plain.PlainQueues.front.Goals as goal

least_more : (n i : ℕ) (lists : List (List DemandId)) → least_to (n + 1) lists i ≡ lesser (least_to n lists i) (head_of (list_at lists (i + n)))
unfolding least_to
least_more n i lists = rw (add-one n) refl

pub loop-priority-init : goal.loop-priority-init
unfolding least_to
loop-priority-init c = refl

pub loop-priority-preserved : goal.loop-priority-preserved
loop-priority-preserved c =
    rw (c.lesser_of-best.ensures, c.loop-priority.invariant, c.head.ensures) (sym (least_more c.loop-priority.priority (8 * c.args.key.0) c.args.self.now.lists))

pub returns : goal.returns
unfolding front_of_key
returns c =
    let e : c.loop-priority.priority ≡ 8 = omega arith in
    c.loop-priority.invariant ∙ ap (λ n. least_to n c.args.self.now.lists (8 * c.args.key.0)) e
