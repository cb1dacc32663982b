-- The range behind the gap, if there is one.
use Rattle.std.proofs.Common.{◌<◌, get_or, Some, sym, ap, ◌∙◌, subst, arith}
use Rattle.cells.specs.Chains.{count_of, ranges_of}
use Rattle.cells.specs.Places.{at_place}
use Rattle.cells.specs.Held.{ranges_many}
use Rattle.cells.specs.Finds.{next_none, next_some}
use Rattle.cells.proofs.Steps.{some_behind, none_behind, range_is}
use Rattle.cells.proofs.cells_store.CellStore.next_in.Goals as goal

pub returns-in_err-cell : goal.returns-in_err-cell
returns-in_err-cell c =
    let x = c.args.self.now.chains in
    let k = c.args.chain.number in
    let f = c.ending_below-found in
    let e = none_behind x f.result f.ensures.on (omega (arith, c.in_err-cell.ensures.lookup.3, c.deref.ensures.len)) ∙ ap (λ h. count_of x h.number) f.ensures.chain in
    c.from_residual.ensures ∙ sym (next_none (ranges_of x k) c.args.n f.result.gap.place f.ensures.below (e ∙ sym (ranges_many x k (omega (arith, c.args.chain.small)))))

pub returns : goal.returns
returns c =
    let x = c.args.self.now.chains in
    let k = c.args.chain.number in
    let f = c.ending_below-found in
    let place = f.result.gap.place in
    let found = c.in_ok-cell.ensures.lookup in
    let cell = c.in_ok-cell.cell.now in
    let l = some_behind x f.result f.ensures.on (omega (arith, found.3.0, c.deref.ensures.len)) in
    let here : place < count_of x k = subst (λ h. place < count_of x h.number) f.ensures.chain l in
    ap Some (sym (range_is x f.result f.ensures.on l cell (found.1 ∙ ap (λ t. get_or t f.result.at cell) c.deref.ensures.value)) ∙ ap (λ h. at_place (ranges_of x h.number) place) f.ensures.chain)
    ∙ sym (next_some (ranges_of x k) c.args.n place f.ensures.below (omega (arith, ranges_many x k (omega (arith, c.args.chain.small)))))
