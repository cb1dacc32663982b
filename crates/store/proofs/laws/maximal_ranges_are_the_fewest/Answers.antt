-- The law that the contract of `maximal_ranges_are_the_fewest` states.
use Rattle.store.proofs.Counting.{fewest}
use Rattle.store.proofs.laws.maximal_ranges_are_the_fewest.Goals as goal

pub returns : goal.returns
returns c = fewest
