-- The law that the contract of `neighbouring_replicas_never_join` states.
use Rattle.std.proofs.Common.{ℕ, ◌+◌, ◌-◌, ◌*◌, ◌^◌, ◌<◌, arith}
use Rattle.std.proofs.lemmas.Bool.{cond-true, lt-ltb}
use Rattle.store.specs.Ranges.{place}
use Rattle.store.proofs.laws.neighbouring_replicas_never_join.Goals as goal

not_neighbours : (r : ℕ) → place (r * 2 ^ 48 + (2 ^ 48 - 1)) + 1 < place ((r + 1) * 2 ^ 48 + 0)
not_neighbours r = omega arith

pub returns : goal.returns
returns c = λ r. cond-true _ _ _ (lt-ltb _ _ (not_neighbours r))
