-- The range taken from the chain is taken from the set.
use Rattle.store.specs.Ranges.{without_range}
use Rattle.store.proofs.Models.{removed}
use Rattle.cells.specs.Meaning.{meaning}
use Rattle.cells.specs.Meanings.{granted, same_room}
use Rattle.cells.proofs.range_store.CellStoreRangeStore.take.Goals as goal

pub returns : goal.returns
returns c =
    let x = c.args.self.now in
    let r = c.args.range in
    let both = granted x.chains c.take_from.new.self.chains c.from.result.number c.args.set (without_range r.low r.high) c.take_from.result _ c.from.ensures c.take_from.ensures
    (λ is. removed (meaning x) _ c.args.set r.low r.high is r.rising) in
    record { room = same_room x.chains c.take_from.new.self.chains c.from.result.number _ c.take_from.result c.take_from.ensures; model = both.0; members = both.1 }
