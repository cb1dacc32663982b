-- The law that the contract of `nothing_new_changes_nothing` states.
use Rattle.store.proofs.Unchanged.{nothing_added, nothing_removed}
use Rattle.store.proofs.laws.nothing_new_changes_nothing.Goals as goal

pub returns : goal.returns
returns c = λ rs low high f l. (nothing_added rs low high f l, nothing_removed rs low high f l)
