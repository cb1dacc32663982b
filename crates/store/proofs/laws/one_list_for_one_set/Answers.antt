-- The law that the contract of `one_list_for_one_set` states.
use Rattle.store.proofs.Members.{one_list}
use Rattle.store.proofs.laws.one_list_for_one_set.Goals as goal

pub returns : goal.returns
returns c = one_list 0 0
