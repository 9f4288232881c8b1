-- `messages::phrases::without_zeros` meets its contract: the part as long as the run of bytes that are not 0 is that run. Assumes nothing.
use mathlib.Core.Path.{◌≡◌, sym, ◌∙◌}
use native.Mathlib.Nat.{sub-zero, zero-add}
use lib.ListN.{length}
use Rattle.columns.specs.Bytes.{among, leading}
use Rattle.columns.proofs.Bytes.{leading-is}
use Rattle.columns.proofs.Columns.{padded-all}
use Rattle.messages.proofs.phrases.without_zeros.Goals as goal

pub returns : goal.returns
returns c =
    let e : c.run_end.result ≡ length (leading (among 1 255) c.args.text.now) = rw (sub-zero (length c.args.text.now), padded-all 32 c.args.text.now, zero-add (length (leading (among 1 255) c.args.text.now))) at c.run_end.ensures in
    c.part.ensures ∙ rw e (sym (leading-is (among 1 255) c.args.text.now))
