use Rattle.std.proofs.Common.{◌≡◌, ◌∙◌, refl, sym, ap, subst, get_or, Option, None}
use Rattle.so_ids.specs.Ids.{party_of}
use Rattle.so_ledger.specs.Gates.{gated, core_after, begin_by}
use Rattle.so_ledger.specs.Shapes.{Core}
use Rattle.so_kernel.specs.Answers.{step_answers}
use Rattle.so_kernel.specs.Held.{IsLaneHeld, HasAdvanced}
use Rattle.so_kernel.specs.declared.answers.Turn.{Turn}
use Rattle.so_kernel.specs.declared.answers.Turned.{Turned}
use Rattle.so_kernel.proofs.HeldLaws.{lane_free, advanced, none_advanced}
use Rattle.so_kernel.proofs.steps.step_lane.Goals as goal

pub returns-in-Some-clause-answer : goal.returns-in-Some-clause-answer
returns-in-Some-clause-answer c =
    let x : Option Turn = get_or c.args.turns.now c.args.lane.0 None in
    let H : Option Turned → Type 0 = λ y. HasAdvanced c.args.kernel.now c.args.turns.now c.args.lane.0 x y c.advance.new.kernel c.advance.new.self in
    c.after_turn.ensures.answer ∙ (advanced c.args.kernel.now c.args.turns.now c.args.lane x c.in-Some.turned c.advance.new.kernel c.advance.new.self c.scene-scene.ensures.scene c.scene-scene.ensures.legal c.requires.lane c.requires.held refl (subst H c.in-Some.is c.advance.ensures)).answer

pub returns-in-Some-clause-after : goal.returns-in-Some-clause-after
returns-in-Some-clause-after c =
    let x : Option Turn = get_or c.args.turns.now c.args.lane.0 None in
    let H : Option Turned → Type 0 = λ y. HasAdvanced c.args.kernel.now c.args.turns.now c.args.lane.0 x y c.advance.new.kernel c.advance.new.self in
    (advanced c.args.kernel.now c.args.turns.now c.args.lane x c.in-Some.turned c.advance.new.kernel c.advance.new.self c.scene-scene.ensures.scene c.scene-scene.ensures.legal c.requires.lane c.requires.held refl (subst H c.in-Some.is c.advance.ensures)).after

pub returns-in-Some-clause-held : goal.returns-in-Some-clause-held
returns-in-Some-clause-held c =
    let x : Option Turn = get_or c.args.turns.now c.args.lane.0 None in
    let H : Option Turned → Type 0 = λ y. HasAdvanced c.args.kernel.now c.args.turns.now c.args.lane.0 x y c.advance.new.kernel c.advance.new.self in
    rw c.after_turn.ensures.turns (advanced c.args.kernel.now c.args.turns.now c.args.lane x c.in-Some.turned c.advance.new.kernel c.advance.new.self c.scene-scene.ensures.scene c.scene-scene.ensures.legal c.requires.lane c.requires.held refl (subst H c.in-Some.is c.advance.ensures)).held

pub returns-in-None-clause-answer : goal.returns-in-None-clause-answer
returns-in-None-clause-answer c =
    let x : Option Turn = get_or c.args.turns.now c.args.lane.0 None in
    let H : Option Turned → Type 0 = λ y. HasAdvanced c.args.kernel.now c.args.turns.now c.args.lane.0 x y c.advance.new.kernel c.advance.new.self in
    let none = none_advanced c.args.kernel.now c.args.turns.now c.args.lane.0 x c.advance.new.kernel c.advance.new.self (subst H c.in-None.is c.advance.ensures) in
    let L : Option Turn → Type 0 = λ y. IsLaneHeld c.args.kernel.now.scene c.args.kernel.now.history c.args.lane.0 y in
    let same = lane_free c.args.kernel.now c.args.lane (subst L none.2 (c.requires.held.each c.args.lane.0 c.requires.lane)) in
    let P : Core → Type 0 = λ k. c.step_begin.result ≡ step_answers (gated k (begin_by k (party_of c.args.lane) c.args.lane)) in
    subst P none.0 c.step_begin.ensures.answer ∙ ap step_answers (sym same)

pub returns-in-None-clause-after : goal.returns-in-None-clause-after
returns-in-None-clause-after c =
    let x : Option Turn = get_or c.args.turns.now c.args.lane.0 None in
    let H : Option Turned → Type 0 = λ y. HasAdvanced c.args.kernel.now c.args.turns.now c.args.lane.0 x y c.advance.new.kernel c.advance.new.self in
    let none = none_advanced c.args.kernel.now c.args.turns.now c.args.lane.0 x c.advance.new.kernel c.advance.new.self (subst H c.in-None.is c.advance.ensures) in
    let L : Option Turn → Type 0 = λ y. IsLaneHeld c.args.kernel.now.scene c.args.kernel.now.history c.args.lane.0 y in
    let same = lane_free c.args.kernel.now c.args.lane (subst L none.2 (c.requires.held.each c.args.lane.0 c.requires.lane)) in
    let P : Core → Type 0 = λ k. c.step_begin.new.kernel ≡ core_after k (gated k (begin_by k (party_of c.args.lane) c.args.lane)) in
    subst P none.0 c.step_begin.ensures.after ∙ ap (core_after c.args.kernel.now) (sym same)
