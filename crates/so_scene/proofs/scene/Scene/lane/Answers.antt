use Rattle.std.proofs.Common.{◌<◌, ◌∙◌, ap, sym, subst, length, List, slice_index_or}
use Rattle.so_scene.specs.declared.lanes.Lane.{Lane}
use Rattle.so_scene.specs.declared.parts.SceneParts.{SceneParts}
use Rattle.so_scene.specs.Lanes.{no_lane, lane_at}
use Rattle.so_scene.proofs.LaneDispatchers.{lane_dispatcher}
use Rattle.so_scene.proofs.LaneLaws.{lane_there}
use Rattle.so_scene.proofs.scene.Scene.lane.Goals as goal

pub lane-requires : goal.lane-requires
lane-requires c = lane_there c.args.self.now c.self.inside.parts c.self.inside.layout.lanes.items c.args.lane (sym c.self.view_is) c.self.invariant.1.lanes c.requires

pub returns-clause-range : goal.returns-clause-range
returns-clause-range c =
    let value = c.lane.ensures ∙ (ap (λ (xs : List Lane). slice_index_or xs c.args.lane.0 no_lane) c.self.invariant.1.lanes ∙ ap (λ (s : SceneParts). lane_at s c.args.lane) c.self.view_is) in
    let P : Lane → Type 0 = λ lane. lane.disp.0 < length c.args.self.now.dispatchers in
    subst P (sym value) (lane_dispatcher c.args.self.now c.args.lane c.requires)
