use Rattle.std.proofs.Common.{◌≡◌, ℕ, ◌<◌, ◌≤◌, ◌-◌, List, [], ◌∷◌, length, get_or, Some, None, refl, sym, ◌∙◌, ap, arith, string_bytes, take, drop}
use Rattle.std.specs.declared.alloc.Global.{Global}
use Rattle.std.specs.declared.string.String.{String}
use Rattle.std.proofs.lemmas.List.{take_all}
use Rattle.sorun.specs.Words.{texts}
use Rattle.sorun.specs.Options.{with_option, options_of}
use Rattle.sorun.specs.declared.options.Options.{Options}
use Rattle.sorun.proofs.OptionLaws.{options_end, options_go_on}
use Rattle.sorun.proofs.options.+options_of.Goals as goal

no_words : (o : Options) (ws : List (String Global)) → length ws < 1 → ◌≡◌ {A = Options × List (List ℕ)} (o, texts ws) (options_of o (texts ws))
unfolding options_of
no_words o [] few = refl
no_words o (w ∷ ws) few = absurd (omega (arith, few))

stops : (o : Options) (ws : List (String Global)) (w : String Global) → 1 ≤ length ws → w ≡ get_or ws 0 w → with_option o (string_bytes w) ≡ None → ◌≡◌ {A = Options × List (List ℕ)} (o, texts ws) (options_of o (texts ws))
stops o [] w some is none = absurd (omega (arith, some))
stops o (v ∷ ws) w some is none =
    sym (options_end o (string_bytes v) (texts ws) (ap (λ (x : String Global). with_option o (string_bytes x)) (sym is) ∙ none))

goes_on : (o more : Options) (ws : List (String Global)) (w : String Global) → 1 ≤ length ws → w ≡ get_or ws 0 w → with_option o (string_bytes w) ≡ Some more → options_of more (texts (take (length ws - 1) (drop 1 ws))) ≡ options_of o (texts ws)
goes_on o more [] w some is one = absurd (omega (arith, some))
goes_on o more (v ∷ ws) w some is one =
    ap (λ (xs : List (String Global)). options_of more (texts xs)) (take_all (length (v ∷ ws) - 1) ws (omega arith)) ∙
    sym (options_go_on o more (string_bytes v) (texts ws) (ap (λ (x : String Global). with_option o (string_bytes x)) (sym is) ∙ one))

pub returns-in-empty : goal.returns-in-empty
returns-in-empty t c = no_words c.args.options c.args.words.now c.in-empty.len_below

pub returns-in-None : goal.returns-in-None
returns-in-None t c = stops c.args.options c.args.words.now c.word-item.result c.in-len1-up.len_at_least c.word-item.is (ap (with_option c.args.options) (sym c.as_str.ensures.value) ∙ sym c.in-None.ensures)

pub returns-in-Some : goal.returns-in-Some
returns-in-Some t c =
    c.options_of.ensures ∙
    goes_on c.args.options c.in-Some.more c.args.words.now c.word-item.result c.in-len1-up.len_at_least c.word-item.is (ap (with_option c.args.options) (sym c.as_str.ensures.value) ∙ sym c.in-Some.ensures)
