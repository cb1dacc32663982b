-- The law that the contract of `adding_by_membership` states.
use Rattle.std.proofs.Common.{arith}
use Rattle.store.proofs.Adding.{adding_keeps_order, adding_members}
use Rattle.store.proofs.laws.adding_by_membership.Goals as goal

pub returns : goal.returns
returns c = λ rs low high f l. (adding_keeps_order 0 low high rs (omega arith) l f, λ id. adding_members 0 low high id rs l.1 f)
