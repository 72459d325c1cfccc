use Rattle.std.proofs.Common.{◌≡◌, ◌∙◌, Bool, true, false, not, Option, Some, None, refl, sym}
use Rattle.std.specs.Prelude.{is_some}
use Rattle.std.specs.Option.{is_none}
use Rattle.so_ids.specs.declared.KeyId.{KeyId}
use Rattle.so_events.proofs.PickLaws.{ready_is}
use Rattle.so_events.proofs.events.Events.is_empty.Goals as goal

none_where : (b : Bool) (o : Option KeyId) → not b ≡ is_some o → b ≡ is_none o
none_where true None e = refl
none_where false (Some k) e = refl
none_where true (Some k) e = cc
none_where false None e = cc

pub returns : goal.returns
returns c = rw (← c.self.view_is) (none_where c.is_none.result c.ready.result (sym c.is_none.ensures) ∙ ready_is c.self.inside.scene.now c.self.inside.queued.items c.self.inside.queues c.self.inside.room c.ready.result c.self.invariant.0 c.ready.ensures)
