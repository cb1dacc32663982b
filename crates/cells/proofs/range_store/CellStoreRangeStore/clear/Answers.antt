-- The chain emptied is the set emptied.
use Rattle.std.proofs.Common.{[]}
use Rattle.store.proofs.Models.{emptied}
use Rattle.cells.specs.Meaning.{meaning}
use Rattle.cells.specs.Meanings.{one_set}
use Rattle.cells.proofs.range_store.CellStoreRangeStore.clear.Goals as goal

pub returns : goal.returns
returns c =
    let x = c.args.self.now in
    let model = one_set x.chains c.clear.new.self c.from.result.number c.args.set [] c.from.ensures c.clear.ensures in
    record { room = c.clear.ensures.room; model = model; members = emptied (meaning x) _ c.args.set model }
