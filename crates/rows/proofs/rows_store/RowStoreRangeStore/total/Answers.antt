-- Each row in use is a range of one set.
use Rattle.std.proofs.Common.{sym, ◌∙◌}
use Rattle.rows.specs.Searches.{in_order, in_use}
use Rattle.rows.specs.Meanings.{all_counted}
use Rattle.rows.proofs.rows_store.RowStoreRangeStore.total.Goals as goal

pub returns : goal.returns
returns c =
    let x = c.args.self.now in
    sym (all_counted x.labels.label x.labels.permuted 0 _ (in_order x.table) ∙ in_use x.table)
