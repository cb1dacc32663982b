-- The target's chain is emptied, and the two chains change places.
use denote.Enum.Bare.{differs_true}
use Rattle.std.proofs.Common.{◌≡◌, sym, ◌∙◌}
use Rattle.store.specs.Sets.{number}
use Rattle.store.specs.Changes.{moved}
use Rattle.store.specs.contracts.sets.SetName.{the_type}
use Rattle.store.proofs.Models.{moved_members, same_name}
use Rattle.cells.specs.Meaning.{meaning}
use Rattle.cells.specs.Totals.{model_of}
use Rattle.cells.specs.Meanings.{Ordered, sets_moved, moved_ordered}
use Rattle.cells.proofs.range_store.CellStoreRangeStore.move_set.Goals as goal
use Rattle.cells.proofs.range_store.CellStoreRangeStore.move_set.Goals.{After-exchange}

done : (c : After-exchange) → Ordered c.exchange.new.self × (model_of c.exchange.new.self ≡ moved (model_of c.args.self.now.chains) c.args.from c.args.to)
done c =
    let x = c.args.self.now in
    let y = c.clear.new.self in
    let z = c.exchange.new.self in
    let a = c.from in
    let b = c.from-target in
    let e = c.exchange.ensures in
    let ne : number c.args.from ≡ number c.args.to → ⊥ = λ i. differs_true the_type c.args.from c.args.to (sym c.ne.ensures ∙ c.if-ne.true) (same_name c.args.from c.args.to i) in (
      moved_ordered x.chains y z c.args.from c.args.to ne a.result.number b.result.number a.ensures b.ensures c.clear.ensures e.one e.two e.others x.ordered,
      sets_moved x.chains y z c.args.from c.args.to ne a.result.number b.result.number a.ensures b.ensures c.clear.ensures e.one e.two e.others,
    )

pub returns-then-ne : goal.returns-then-ne
returns-then-ne c =
    let model = (done (goal.at.returns-then-ne c).After-exchange).1 in
    record { room = c.exchange.ensures.len ∙ c.clear.ensures.room; model = model; members = moved_members (meaning c.args.self.now) _ c.args.from c.args.to model }
