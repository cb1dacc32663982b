-- The law that the contract of `next_is_the_lowest_range_not_below` states.
use Rattle.store.proofs.Nexts.{next_is_lowest}
use Rattle.store.proofs.laws.next_is_the_lowest_range_not_below.Goals as goal

pub returns : goal.returns
returns c = next_is_lowest 0
