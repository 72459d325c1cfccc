use Rattle.std.proofs.Common.{◌≡◌, ◌*◌, List, [], length, refl, ◌∙◌, ap, arith, rules}
use Rattle.std.specs.Prelude.{replicate}
use Rattle.std.proofs.lemmas.List.{length-replicate}
use Rattle.so_ids.specs.declared.DemandId.{DemandId}
use Rattle.so_queue.specs.Plain.{lists_on}
use Rattle.so_queue.proofs.PlainLaws.{lists_none}
use Rattle.so_queue.proofs.QueueLaws.{queues_none}
use Rattle.so_queue.proofs.plain.PlainQueues.with.Goals as goal

pub invariant_of-result : goal.invariant_of-result
invariant_of-result c =
    let none : List DemandId = [] in
    let lists : lists_on (8 * length c.in-Ok-from_elem.safe.items) c.in-Ok.waiting.items ≡ replicate (8 * length c.in-Ok-from_elem.safe.items) [] = lists_none (8 * length c.in-Ok-from_elem.safe.items) c.in-Ok.waiting.items (search rules) in
    let empty : c.in-Ok.waiting.items ≡ [] = search rules in
    (rw lists (queues_none (length c.in-Ok-from_elem.safe.items)).apart, record { safe_keys = refl; exclusive_keys = grind arith; few = grind arith }, rw empty (grind arith), rw empty (grind arith))

pub returns : goal.returns
returns c =
    let lists : lists_on (8 * length c.in-Ok-from_elem.safe.items) c.in-Ok.waiting.items ≡ replicate (8 * length c.in-Ok-from_elem.safe.items) [] = lists_none (8 * length c.in-Ok-from_elem.safe.items) c.in-Ok.waiting.items (search rules) in
    let safe : c.in-Ok-from_elem.safe.items ≡ replicate c.args.keys 0 = search rules in
    let exclusive : c.in-Ok-from_elem-2.exclusive.items ≡ replicate c.args.keys 0 = search rules in
    let keys : length c.in-Ok-from_elem.safe.items ≡ c.args.keys = ap length safe ∙ length-replicate c.args.keys 0 in
    rw (lists, keys, exclusive, safe) refl
