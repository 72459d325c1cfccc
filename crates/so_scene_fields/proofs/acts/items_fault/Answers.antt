use Rattle.so_scene_fields.proofs.Args.{too_few, too_many, as_many}
use Rattle.so_scene_fields.proofs.acts.items_fault.Goals as goal

pub returns-then-list-needed : goal.returns-then-list-needed
returns-then-list-needed c = too_few _ _ _ _ c.if-list-needed.true

pub returns-then-list-forms : goal.returns-then-list-forms
returns-then-list-forms c = too_many _ _ _ _ c.if-list-forms.true

pub returns : goal.returns
returns c = as_many _ _ _ _ _ c.if-list-needed.false c.if-list-forms.false c.args_fault.ensures
