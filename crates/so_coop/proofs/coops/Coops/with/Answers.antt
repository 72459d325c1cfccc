use Rattle.std.proofs.Common.{◌≡◌, length, rules, replicate}
use Rattle.std.proofs.lemmas.List.{length-replicate}
use Rattle.so_coop.specs.Coops.{absent}
use Rattle.so_coop.proofs.CountLaws.{counted_nobody, children_nobody}
use Rattle.so_coop.proofs.coops.Coops.with.Goals as goal

pub invariant_of-result : goal.invariant_of-result
invariant_of-result c =
    let coops : c.in_ok-from_elem.field-0.items ≡ replicate (length c.args.scene.now.coops) absent = search rules in
    let children : c.in_ok-from_elem-2.field-0.items ≡ replicate (length c.args.scene.now.coops) 0 = search rules in
    rw (coops, children) (record {
      coops = length-replicate _ _;
      counts = counted_nobody _;
      have_children = children_nobody c.args.scene.now;
      judged = c.in_ok-faults_of.ensures;
    })
