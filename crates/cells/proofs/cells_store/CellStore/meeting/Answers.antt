-- A step meets one range more.
use Rattle.std.proofs.Common.{◌-◌, subst, rules}
use Rattle.cells.specs.Chains.{ranges_of}
use Rattle.cells.specs.Places.{BeginningWithin}
use Rattle.cells.specs.Held.{place_inside}
use Rattle.cells.proofs.Walks.{beginning_within, between}
use Rattle.cells.proofs.cells_store.CellStore.meeting.Goals as goal

pub returns-clause-follow : goal.returns-clause-follow
returns-clause-follow c =
    let f = c.ending_below-from in
    let t = c.walk_while-to in
    between c.args.self.now.chains f.result t.result.gap c.unwrap_or.result t.ensures.chain f.ensures.on t.ensures.on.stands t.ensures.from c.unwrap_or.ensures

pub returns-clause-met : goal.returns-clause-met
returns-clause-met c =
    let x = c.args.self.now.chains in
    let f = c.ending_below-from in
    let from = f.result.gap in
    let t = c.walk_while-to in
    subst (λ h. BeginningWithin (ranges_of x h.number) c.args.high from.place (t.result.gap.place - from.place)) f.ensures.chain
    (beginning_within x from.chain.number from.chain.small c.args.high from.place t.result.gap.place t.ensures.from (place_inside x t.result.gap from.chain t.ensures.chain t.ensures.on.stands)
    (λ m a b. search (rules, t.ensures.passed m a b)) (λ l. search (rules, t.ensures.stopped l)))
