use Rattle.std.proofs.Common.{◌≡◌, ℕ, List, ◌++◌, codes, decimal, refl, ◌∙◌, ap, append_assoc}
use Rattle.sorun.proofs.summary.put_summary.Goals as goal

-- parts that were appended one after another
joined : (old one two three all agents coops lanes : List ℕ) → one ≡ old ++ (codes "ok: " ++ agents) → two ≡ one ++ (codes " agents, " ++ coops) → three ≡ two ++ (codes " cooperations, " ++ lanes) → all ≡ three ++ codes " lanes\n" →
    all ≡ old ++ (codes "ok: " ++ agents ++ codes " agents, " ++ coops ++ codes " cooperations, " ++ lanes ++ codes " lanes\n")
joined old one two three all agents coops lanes first second third last =
    last ∙ rw (third, second, first) (simp append_assoc refl)

pub returns-clause-items : goal.returns-clause-items
returns-clause-items c =
    joined c.args.line.now.items c.put_word.new.buf.items c.put_word-2.new.buf.items c.put_word-3.new.buf.items c.put.new.buf.items _ _ _
    (c.put_word.ensures.items ∙ ap (λ (n : ℕ). c.args.line.now.items ++ (codes "ok: " ++ decimal n)) c.agents.ensures)
    (c.put_word-2.ensures.items ∙ ap (λ (n : ℕ). c.put_word.new.buf.items ++ (codes " agents, " ++ decimal n)) c.coops.ensures)
    (c.put_word-3.ensures.items ∙ ap (λ (n : ℕ). c.put_word-2.new.buf.items ++ (codes " cooperations, " ++ decimal n)) c.lanes.ensures.value)
    c.put.ensures.items
