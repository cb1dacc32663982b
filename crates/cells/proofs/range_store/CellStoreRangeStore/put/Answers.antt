-- The range put into the chain is put into the set.
use Rattle.store.specs.Ranges.{with_range}
use Rattle.store.specs.Sets.{number}
use Rattle.store.proofs.Models.{number_small, added}
use Rattle.cells.specs.Meaning.{meaning}
use Rattle.cells.specs.Meanings.{canonical, granted, same_room}
use Rattle.cells.proofs.range_store.CellStoreRangeStore.put.Goals as goal

pub returns : goal.returns
returns c =
    let x = c.args.self.now in
    let r = c.args.range in
    let both = granted x.chains c.put_in.new.self.chains c.from.result.number c.args.set (with_range r.low r.high) c.put_in.result _ c.from.ensures c.put_in.ensures
    (λ is. added (meaning x) _ c.args.set r.low r.high is r.rising (canonical x.chains x.ordered (number c.args.set) (number_small c.args.set))) in
    record { room = same_room x.chains c.put_in.new.self.chains c.from.result.number _ c.put_in.result c.put_in.ensures; model = both.0; members = both.1 }
