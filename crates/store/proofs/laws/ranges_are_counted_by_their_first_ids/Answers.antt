-- The law that the contract of `ranges_are_counted_by_their_first_ids` states.
use Rattle.std.proofs.Common.{◌^◌, arith}
use Rattle.store.proofs.Counting.{counted}
use Rattle.store.proofs.laws.ranges_are_counted_by_their_first_ids.Goals as goal

pub returns : goal.returns
returns c = λ rs f. counted 0 (2 ^ 64) rs f (omega arith)
