use Rattle.std.proofs.Common.{◌≡◌, ◌+◌, ◌∙◌, ap, rules}
use Rattle.std.specs.Prelude.{replicate}
use Rattle.so_events.proofs.CountLaws.{none_wait}
use Rattle.so_events.proofs.counts.LaneCounts.with.Goals as goal

pub returns : goal.returns
returns c =
    let none : c.in-Ok.waiting.items ≡ replicate (c.lanes.result + 1) 0 = search rules in
    record {
      first = c.in_ok-firsts.ensures;
      counts = none ∙ (ap (λ n. replicate (n + 1) 0) c.lanes.ensures.value ∙ none_wait c.args.scene.now c.in_ok-firsts.firsts.items);
    }
