-- The change under the set's label is one of the set.
use Rattle.std.proofs.Common.{vec_len, arith}
use Rattle.store.specs.Ranges.{with_range}
use Rattle.rows.specs.Meaning.{meaning}
use Rattle.rows.specs.Tables.{rows_of}
use Rattle.rows.specs.Searches.{in_order, in_use}
use Rattle.rows.specs.Spots.{ranges_canonical}
use Rattle.rows.specs.Meanings.{granted, granted_added}
use Rattle.rows.proofs.rows_store.RowStoreRangeStore.put.Goals as goal

pub returns : goal.returns
returns c =
    let x = c.args.self.now in
    let t = c.put.new.self in
    let r = c.args.range in
    let model = granted x.labels.label x.labels.permuted (vec_len x.table.memory.places) (rows_of x.table) (rows_of t) c.args.set c.of.result.value (with_range r.low r.high) c.put.result c.of.ensures (omega (arith, in_use t, t.fits, c.put.ensures.room)) c.put.ensures.rows in
    record { room = c.put.ensures.room; model = model; members = granted_added (vec_len x.table.memory.places) (meaning x) _ c.args.set r.low r.high r.rising c.put.result (ranges_canonical _ _ (in_order x.table)) model }
