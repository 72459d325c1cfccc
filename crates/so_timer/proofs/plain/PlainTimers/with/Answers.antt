use Rattle.std.proofs.Common.{◌≡◌, [], refl}
use Rattle.so_timer.specs.Slots.{armed_from}
use Rattle.so_timer.proofs.plain.PlainTimers.with.Goals as goal

pub returns : goal.returns
unfolding armed_from
returns c = let e : c.in-Ok.slots.items ≡ [] = c.in-Ok.ensures.items in rw e refl
