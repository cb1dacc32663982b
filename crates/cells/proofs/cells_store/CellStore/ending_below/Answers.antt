-- Behind the last range, or where the walk comes to.
use Rattle.std.proofs.Common.{refl, sym, ap, ◌∙◌, subst, arith, rules}
use Rattle.cells.specs.Links.{ends}
use Rattle.cells.specs.Chains.{ranges_of, GoesOn}
use Rattle.cells.specs.Places.{EndingBelow}
use Rattle.cells.specs.Held.{last_fits, place_inside}
use Rattle.cells.specs.Meanings.{ordered_at}
use Rattle.cells.proofs.Steps.{at_last, at_front}
use Rattle.cells.proofs.Walks.{all_passed, ending_below}
use Rattle.cells.proofs.cells_store.CellStore.ending_below.Goals as goal

pub index-last-requires : goal.index-last-requires
index-last-requires c = last_fits c.args.self.now.chains c.args.chain.number (omega (arith, c.args.chain.small)) c.if-ends-gt0.true

pub returns-then-last-n : goal.returns-then-last-n
returns-then-last-n c =
    record {
      chain = refl;
      on = at_last c.args.self.now.chains c.args.chain c.if-ends-gt0.true c.index-last.result.now c.index-last.ensures;
      below = all_passed c.args.self.now.chains c.args.chain.number c.args.chain.small c.if-ends-gt0.true c.index-last.result.now c.index-last.ensures c.args.n (ordered_at c.args.self.now c.args.chain) c.if-last-n.true;
    }

pub walk_while-requires-clause-on : goal.walk_while-requires-clause-on
walk_while-requires-clause-on c =
    let x = c.args.self.now.chains in
    subst (λ g. GoesOn x (record { gap = g; at = (ends x.ends c.args.chain.number).first })) (sym c.front.ensures) (at_front x c.args.chain)

pub returns-clause-chain : goal.returns-clause-chain
returns-clause-chain c = c.walk_while.ensures.chain ∙ ap (λ g. g.chain) c.front.ensures

pub returns-clause-below : goal.returns-clause-below
returns-clause-below c =
    let x = c.args.self.now.chains in
    let w = c.walk_while in
    let f = c.front.result in
    let at = w.result.gap in
    subst (λ g. EndingBelow (ranges_of x g.chain.number) c.args.n at.place) c.front.ensures
    (ending_below x f.chain.number f.chain.small c.args.n at.place (place_inside x at f.chain w.ensures.chain w.ensures.on.stands)
    (λ j a b. search (rules, w.ensures.passed j (omega (arith, ap (λ g. g.place) c.front.ensures)) b)) (λ l. search (rules, w.ensures.stopped l)))
