-- The law that the contract of `only_neighbours_of_one_replica_join` states.
use Rattle.std.proofs.Common.{arith}
use Rattle.std.proofs.lemmas.Bool.Decides.{nat_tests}
use Rattle.store.proofs.laws.only_neighbours_of_one_replica_join.Goals as goal

pub returns : goal.returns
returns c = λ x y. grind (arith, nat_tests)
