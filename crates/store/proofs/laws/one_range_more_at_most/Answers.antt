-- The law that the contract of `one_range_more_at_most` states.
use Rattle.store.proofs.Unchanged.{adding_makes_one_more, removing_makes_one_more}
use Rattle.store.proofs.laws.one_range_more_at_most.Goals as goal

pub returns : goal.returns
returns c = λ rs low high f l. (adding_makes_one_more low high rs, removing_makes_one_more 0 low high rs f l)
