-- The rows under the set's label are taken out.
use Rattle.store.proofs.Models.{emptied}
use Rattle.rows.specs.Meaning.{meaning}
use Rattle.rows.specs.Tables.{rows_of}
use Rattle.rows.specs.Meanings.{one_set}
use Rattle.rows.proofs.rows_store.RowStoreRangeStore.clear.Goals as goal

pub returns : goal.returns
returns c =
    let x = c.args.self.now in
    let model = one_set x.labels.label x.labels.permuted (rows_of x.table) (rows_of c.clear.new.self) c.args.set c.of.result.value _ c.of.ensures c.clear.ensures.rows in
    record { room = c.clear.ensures.room; model = model; members = emptied (meaning x) _ c.args.set model }
