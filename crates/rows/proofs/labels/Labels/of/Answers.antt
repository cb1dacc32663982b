-- A label is one of the numbers 0 to 10.
use Rattle.std.proofs.Common.{◌<◌, get_or, sym, subst}
use Rattle.rows.specs.Owners.{small}
use Rattle.rows.proofs.labels.Labels.of.Goals as goal

pub invariant_of-result : goal.invariant_of-result
invariant_of-result c =
    let l = c.args.self.now in
    record { small = subst (λ k. get_or l.label k 0 < 11) (sym c.from.ensures) (small l.label l.permuted c.number.result c.number.ensures.small) }
