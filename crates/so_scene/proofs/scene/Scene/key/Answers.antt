use Rattle.std.proofs.Common.{◌∙◌, arith, ap, sym}
use Rattle.so_ids.specs.declared.KeyId.{KeyId}
use Rattle.so_scene.proofs.LaneLaws.{agent_there, key_in_range, length-keys, key-keys}
use Rattle.so_scene.proofs.scene.Scene.key.Goals as goal

pub key-requires : goal.key-requires
key-requires c = agent_there c.args.self.now c.self.inside.parts c.self.inside.layout.keys.items c.args.agent.0 (sym c.self.view_is) (length-keys c.self.inside.parts c.self.inside.layout.keys.items c.self.invariant.1.keys) c.requires

pub returns-clause-value : goal.returns-clause-value
returns-clause-value c = c.key.ensures ∙ key-keys c.args.self.now c.self.inside.parts c.self.inside.layout.keys.items c.args.agent (sym c.self.view_is) c.self.invariant.1.keys c.requires

pub returns-clause-range : goal.returns-clause-range
returns-clause-range c = omega (arith, ap (λ (k : KeyId). k.0) (returns-clause-value c), key_in_range c.args.self.now c.args.agent c.requires)
