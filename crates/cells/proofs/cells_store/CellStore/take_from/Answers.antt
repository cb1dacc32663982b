-- What is left of the ranges that the range meets.
use Rattle.std.proofs.Common.{◌+◌, ◌-◌, ◌<◌, cond, ltb, [], ◌∷◌, sym, ap, ◌∙◌, subst, arith}
use Rattle.store.specs.Ids.{Lawful}
use Rattle.store.specs.Ranges.{without_range}
use Rattle.store.proofs.Removing.{removing_keeps_order}
use Rattle.cells.specs.Chains.{ranges_of, ChangedIfItFits}
use Rattle.cells.specs.Places.{one_or_none, EndingBelow, BeginningWithin}
use Rattle.cells.specs.Held.{read}
use Rattle.cells.specs.Meanings.{ordered_at, ordered_if_it_fits}
use Rattle.cells.proofs.Puts.{first_cell, last_cell, as_list, take_changes, takes_nothing}
use Rattle.cells.proofs.cells_store.CellStore.take_from.Goals as goal
use Rattle.cells.proofs.cells_store.CellStore.take_from.Goals.{After-replace}

pub returns-then-run-eq0 : goal.returns-then-run-eq0
returns-then-run-eq0 c =
    let x = c.args.self.now.chains in
    let g = c.args.range in
    let r = c.meeting-run.result in
    let rs = ranges_of x c.args.chain.number in
    let e = c.meeting-run.ensures in
    let law = subst (λ n. Lawful n g.high) c.low.ensures.value c.low.ensures.lawful in
    takes_nothing x c.args.chain.number (ordered_at c.args.self.now c.args.chain) g.low g.high r.gap.place r.ends.count law
    (subst (λ n. EndingBelow rs n r.gap.place) c.low.ensures.value e.below) (subst (λ n. BeginningWithin rs n r.gap.place r.ends.count) c.high.ensures.value e.met) c.if-run-eq0.true

pub index-first-requires : goal.index-first-requires
index-first-requires c = first_cell c.args.self.now.chains c.meeting-run.result c.meeting-run.ensures.follow (omega (arith, c.if-run-eq0.false))

pub index-last-requires : goal.index-last-requires
index-last-requires c = last_cell c.args.self.now.chains c.meeting-run.result c.meeting-run.ensures.follow (omega (arith, c.if-run-eq0.false))

done : (c : After-replace) → ChangedIfItFits c.args.self.now.chains c.replace.new.self c.args.chain.number (without_range c.args.range.low c.args.range.high (ranges_of c.args.self.now.chains c.args.chain.number)) c.replace.result
done c =
    let x = c.args.self.now.chains in
    let y = c.replace.new.self in
    let g = c.args.range in
    let r = c.meeting-run.result in
    let rs = ranges_of x c.args.chain.number in
    let e = c.meeting-run.ensures in
    let some : 0 < r.ends.count = omega (arith, c.if-run-eq0.false) in
    let law = subst (λ n. Lawful n g.high) c.low.ensures.value c.low.ensures.lawful in
    let first = read x r.ends.first c.index-first.result.now (first_cell x r e.follow some) c.index-first.ensures in
    let last = read x r.ends.last c.index-last.result.now (last_cell x r e.follow some) c.index-last.ensures in
    take_changes x r e.follow c.args.chain e.chain y (ordered_at c.args.self.now c.args.chain) g.low g.high law c.replace.result
    (one_or_none c.leaves_below-lower.result) (one_or_none c.leaves_above-upper.result) some
    (subst (λ n. EndingBelow rs n r.gap.place) c.low.ensures.value e.below) (subst (λ n. BeginningWithin rs n r.gap.place r.ends.count) c.high.ensures.value e.met)
    (ap one_or_none c.leaves_below-lower.ensures ∙ as_list (ltb c.index-first.result.now.low g.low) (c.index-first.result.now.low, g.low - 1) ∙ ap (λ z. cond (ltb z.low g.low) ((z.low, g.low - 1) ∷ []) []) (sym first))
    (ap one_or_none c.leaves_above-upper.ensures ∙ as_list (ltb g.high c.index-last.result.now.high) (g.high + 1, c.index-last.result.now.high) ∙ ap (λ z. cond (ltb g.high z.high) ((g.high + 1, z.high) ∷ []) []) (sym last))
    c.replace.ensures

pub invariant_of-self : goal.invariant_of-self
invariant_of-self c =
    let x = c.args.self.now.chains in
    let k = c.args.chain.number in
    let g = c.args.range in
    record { ordered = ordered_if_it_fits x c.replace.new.self k _ c.replace.result c.args.self.now.ordered (removing_keeps_order 0 g.low g.high (ranges_of x k) g.rising (ordered_at c.args.self.now c.args.chain)) (done (goal.at.invariant_of-self c).After-replace) }

pub returns : goal.returns
returns c = done (goal.at.returns c).After-replace
