-- By the last range alone, or by all that the range meets.
use Rattle.std.proofs.Common.{◌≡◌, ℕ, ltb, refl, ap, ◌∙◌, subst, arith}
use Rattle.store.specs.Ids.{Lawful}
use Rattle.store.specs.Ranges.{apart, with_range}
use Rattle.store.proofs.Adding.{adding_keeps_order}
use Rattle.cells.specs.Chains.{ranges_of, ChangedIfItFits}
use Rattle.cells.specs.Meanings.{ordered_at, ordered_if_it_fits}
use Rattle.cells.proofs.Puts.{put_changes}
use Rattle.cells.proofs.cells_store.CellStore.put_in.Goals as goal
use Rattle.cells.proofs.cells_store.CellStore.put_in.Goals.{After-replace}

pub returns-then-grow_last : goal.returns-then-grow_last
returns-then-grow_last c = c.if-grow_last.ensures.grown refl

done : (c : After-replace) → ChangedIfItFits c.args.self.now.chains c.replace.new.self c.args.chain.number (with_range c.args.range.low c.args.range.high (ranges_of c.args.self.now.chains c.args.chain.number)) c.replace.result
done c =
    let w = c.grow_last.new.self.chains in
    let y = c.replace.new.self in
    let g = c.args.range in
    let r = c.meeting-run.result in
    let e = c.meeting-run.ensures in
    let law = subst (λ n. Lawful n g.high) c.low.ensures.value c.low.ensures.lawful in
    let below : (id : ℕ) → ltb id c.adjoining_below-low.result ≡ apart id g.low = λ id. c.adjoining_below-low.ensures id ∙ ap (apart id) c.low.ensures.value in
    let above : (id : ℕ) → ltb c.adjoining_above-high.result id ≡ apart g.high id = λ id. c.adjoining_above-high.ensures id ∙ ap (λ n. apart n id) c.high.ensures.value in
    let made = put_changes w r e.follow c.args.chain e.chain y (ordered_at c.grow_last.new.self c.args.chain) g.low g.high law c.replace.result c.adjoining_below-low.result c.adjoining_above-high.result c.joined-joined.result below above e.below e.met c.joined-joined.ensures.alone c.joined-joined.ensures.whole c.replace.ensures in
    let k = c.args.chain.number in
    subst (λ z. ChangedIfItFits z y k (with_range g.low g.high (ranges_of z k)) c.replace.result) (ap (λ z. z.chains) (c.if-grow_last.ensures.same refl)) made

pub invariant_of-self : goal.invariant_of-self
invariant_of-self c =
    let x = c.args.self.now.chains in
    let k = c.args.chain.number in
    let g = c.args.range in
    let law = subst (λ n. Lawful n g.high) c.low.ensures.value c.low.ensures.lawful in
    record { ordered = ordered_if_it_fits x c.replace.new.self k _ c.replace.result c.args.self.now.ordered (adding_keeps_order 0 g.low g.high (ranges_of x k) (omega arith) law (ordered_at c.args.self.now c.args.chain)) (done (goal.at.invariant_of-self c).After-replace) }

pub returns : goal.returns
returns c = done (goal.at.returns c).After-replace
