-- The law that the contract of `total_follows_each_set` states.
use Rattle.store.proofs.Models.{total_nothing, total_follows}
use Rattle.store.proofs.laws.total_follows_each_set.Goals as goal

pub returns : goal.returns
returns c = (total_nothing, total_follows)
