-- The law that the contract of `id_is_a_replica_and_a_counter` states.
use Rattle.std.proofs.Common.{arith}
use Rattle.store.proofs.laws.id_is_a_replica_and_a_counter.Goals as goal

pub returns : goal.returns
returns c = λ r k a b h. omega arith
