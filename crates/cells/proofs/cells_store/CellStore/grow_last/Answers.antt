-- The last range reaches as far as the one put into it.
use Rattle.std.proofs.Common.{max, ap, ◌∙◌, subst, true≢false, arith}
use Rattle.store.specs.Ids.{Lawful}
use Rattle.store.specs.Ranges.{with_range}
use Rattle.store.proofs.Adding.{adding_keeps_order}
use Rattle.cells.specs.Chains.{ranges_of, Changed}
use Rattle.cells.specs.Meanings.{ordered_at, still_ordered}
use Rattle.cells.specs.Held.{last_fits}
use Rattle.cells.proofs.Puts.{grown}
use Rattle.cells.proofs.cells_store.CellStore.grow_last.Goals as goal
use Rattle.cells.proofs.cells_store.CellStore.grow_last.Goals.{After-set_last_high}

pub index-last-requires : goal.index-last-requires
index-last-requires c = last_fits c.args.self.now.chains c.args.chain.number (omega (arith, c.args.chain.small)) (omega (arith, c.if-ends-eq0.false))

done : (c : After-set_last_high) → Changed c.args.self.now.chains c.set_last_high.new.self c.args.chain.number (with_range c.args.range.low c.args.range.high (ranges_of c.args.self.now.chains c.args.chain.number))
done c =
    let x = c.args.self.now.chains in
    let k = c.args.chain.number in
    let y = c.set_last_high.new.self in
    let high = c.args.range.high in
    subst (λ n. Changed x y k (with_range n high (ranges_of x k))) c.low-low.ensures.value
    (grown x y k c.args.chain.small (ordered_at c.args.self.now c.args.chain) (omega (arith, c.if-ends-eq0.false)) c.index-last.result.now c.index-last.ensures c.low-low.result high c.adjoining_below.result c.max.result c.low-low.ensures.lawful c.adjoining_below.ensures
    c.if-low-last.false c.if-last-adjoining_below.false (c.max.ensures ∙ ap (max c.index-last.result.now.high) c.high.ensures.value) c.set_last_high.ensures)

pub invariant_of-self : goal.invariant_of-self
invariant_of-self c =
    let x = c.args.self.now.chains in
    let k = c.args.chain.number in
    let g = c.args.range in
    let law = subst (λ n. Lawful n g.high) c.low-low.ensures.value c.low-low.ensures.lawful in
    record { ordered = still_ordered x c.set_last_high.new.self k _ c.args.self.now.ordered (adding_keeps_order 0 g.low g.high (ranges_of x k) (omega arith) law (ordered_at c.args.self.now c.args.chain)) (done (goal.at.invariant_of-self c).After-set_last_high) }

pub returns : goal.returns
returns c = record { grown = λ _. done (goal.at.returns c).After-set_last_high; same = λ e. absurd (true≢false e) }
