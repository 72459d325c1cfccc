use Rattle.std.proofs.Common.{◌≡◌, length, rules, vec_len, ◌∙◌}
use Rattle.so_scene_build.proofs.Counted.{counted_last, none_more}
use Rattle.so_scene_build.proofs.build.one_more.Goals as goal

pub returns-then-count-eq0 : goal.returns-then-count-eq0
returns-then-count-eq0 c =
    let size : vec_len c.into_vec-list.result ≡ length c.into_vec-list.result.items = search rules in
    c.from_vec.ensures ∙ none_more c.args.coops c.into_vec-list.result.items c.len-count.result c.into_vec-list.ensures (c.len-count.ensures ∙ size) c.if-count-eq0.true

pub returns : goal.returns
returns c =
    let size : vec_len c.into_vec-list.result ≡ length c.into_vec-list.result.items = search rules in
    c.from_vec-2.ensures ∙ counted_last c.args.coops c.into_vec-list.result.items c.len-count.result c.index_mut.result.now c.index.result.now c.saturating_add.result c.into_vec-list.ensures (c.len-count.ensures ∙ size) c.if-count-eq0.false c.index_mut.ensures.value c.index.ensures c.saturating_add.ensures
