-- `script::words::word_length` meets its contract: the word ends at the first blank. Assumes nothing.
use Rattle.std.proofs.Common.{◌≡◌, eqb, length, ap, ◌∙◌, rules, tests, arith}
use Rattle.std.specs.Option.{unwrap_or}
use Rattle.std.proofs.lemmas.Iterator.{YieldsList-from_slice}
use Rattle.std.proofs.lemmas.Iterator.Search.{position_from_yields_List}
use Rattle.script.specs.inner.Left.{word_length}
use Rattle.script.proofs.words.Words.{first-blank, word-short}
use Rattle.script.proofs.words.word_length.Goals as goal

pub returns : goal.returns
returns c =
    let text = c.args.text.now in
    let p = position_from_yields_List (λ b. eqb b 32) _ _ c.position.result c.position.ensures.ran (YieldsList-from_slice text cc) (λ x b q k. search (rules, tests)) in
    let e : c.unwrap_or.result ≡ word_length text = c.unwrap_or.ensures ∙ ap (λ o. unwrap_or o (length text)) p ∙ first-blank text in
    record { value = e; upper_bound = omega (arith, e, word-short text) }
