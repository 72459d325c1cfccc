use Rattle.std.proofs.Common.{◌-◌, sym, ◌∙◌}
use Rattle.sorun.proofs.LimitLaws.{size_is}
use Rattle.sorun.proofs.LoadLaws.{from_ok}
use Rattle.sorun.proofs.commands.load_of.Goals as goal

pub returns-then-is_empty-clause-possible : goal.returns-then-is_empty-clause-possible
returns-then-is_empty-clause-possible c =
    let given = size_is c.as_str.result.now c.in_ok-count-in-len1-up.count (sym c.size_of.ensures ∙ from_ok c.size_of.result c.in_ok-count-in-len1-up.count 1 c.in_ok-count-in-len1-up.ensures.value) in
    (given.0, given.1)
