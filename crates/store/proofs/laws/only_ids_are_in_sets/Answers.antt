-- The law that the contract of `only_ids_are_in_sets` states.
use Rattle.store.proofs.Members.{only_ids}
use Rattle.store.proofs.laws.only_ids_are_in_sets.Goals as goal

pub returns : goal.returns
returns c = only_ids 0
