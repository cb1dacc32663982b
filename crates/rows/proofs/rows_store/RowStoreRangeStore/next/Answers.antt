-- The answer by members follows from the answer by the list.
use Rattle.std.proofs.Common.{◌≡◌, ap, ◌∙◌}
use Rattle.store.specs.Ranges.{next_range}
use Rattle.rows.specs.Meaning.{meaning}
use Rattle.rows.specs.Rows.{ranges}
use Rattle.rows.specs.Tables.{rows_of}
use Rattle.rows.specs.Searches.{in_order}
use Rattle.rows.specs.Spots.{ranges_canonical}
use Rattle.rows.proofs.Nexts.{by_members}
use Rattle.rows.proofs.rows_store.RowStoreRangeStore.next.Goals as goal

pub returns : goal.returns
returns c =
    let x = c.args.self.now in
    let list : c.next.result ≡ next_range (meaning x c.args.set) c.args.n = c.next.ensures ∙ ap (λ l. next_range (ranges l (rows_of x.table)) c.args.n) c.of.ensures in
    record { list = list; members = by_members (meaning x c.args.set) c.args.n (ranges_canonical _ _ (in_order x.table)) c.next.result list }
