-- `read_decimal` answers what the word reads as.
use Rattle.std.proofs.Common.{sym, ◌∙◌, arith, rules}
use Rattle.std.proofs.lemmas.Bool.{eqb-false}
use Rattle.std.proofs.lemmas.Iterator.{YieldsList-from_slice}
use Rattle.text.proofs.Reading.{read_on_decimal, read_on_from_try_fold}
use Rattle.text.proofs.decimal.read_decimal.Goals as goal

pub returns : goal.returns
returns c =
    let word = c.args.word.now in
    let yields = YieldsList-from_slice {s = c.iter.result} word c.iter.ensures.rest in
    read_on_from_try_fold _ _ _ _ c.try_fold.ensures.ran yields (λ f n x o f' called. search rules)
    ∙ read_on_decimal word (omega (arith, eqb-false _ _ (sym c.if-is_empty.ensures)))
