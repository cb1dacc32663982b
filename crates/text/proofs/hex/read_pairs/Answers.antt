-- `read_pairs` answers what the pairs of the word stand for.
use Rattle.std.proofs.Common.{vec_items, rules, arith}
use Rattle.text.proofs.Pairs.{one_more_pair}
use Rattle.text.proofs.hex.read_pairs.Goals as goal

pub loop-pair-preserved : goal.loop-pair-preserved
loop-pair-preserved c = (
  search rules,
  one_more_pair _ c.in-Some.pair.now _ (vec_items c.loop-pair.bytes) _ c.in-Some-read_byte.byte _ c.in-Some.ensures.steps.1.0 (omega arith) c.in-Some-read_byte.ensures c.in_ok-push.ensures.items c.loop-pair.invariant.1,
)
