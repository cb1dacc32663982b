-- The labels stay the same numbers, in another order.
use Rattle.std.proofs.Math.Logic.{∥∥₁_map}
use Rattle.std.proofs.lemmas.List.Sorted.{IsPermutation-trans}
use Rattle.rows.specs.Labels.{own}
use Rattle.rows.proofs.labels.Labels.swap.Goals as goal

pub invariant_of-self : goal.invariant_of-self
invariant_of-self c = record { permuted = ∥∥₁_map c.args.self.now.permuted (λ p. IsPermutation-trans own _ _ p c.swap.ensures.permutation) }
