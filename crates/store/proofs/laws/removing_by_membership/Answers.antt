-- The law that the contract of `removing_by_membership` states.
use Rattle.store.proofs.Removing.{removing_keeps_order, removing_members}
use Rattle.store.proofs.laws.removing_by_membership.Goals as goal

pub returns : goal.returns
returns c = λ rs low high f l. (removing_keeps_order 0 low high rs l.1 f, λ id. removing_members low high id rs l.1)
