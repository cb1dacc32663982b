-- The target's rows are taken out, and the two labels change places.
use Rattle.std.proofs.Common.{◌≡◌, rules}
use Rattle.store.proofs.Models.{moved_members, same_name}
use Rattle.rows.specs.Meaning.{meaning}
use Rattle.rows.specs.Tables.{rows_of}
use Rattle.rows.specs.Meanings.{sets_moved}
use Rattle.rows.proofs.rows_store.RowStoreRangeStore.move_set.Goals as goal

pub returns-then-ne : goal.returns-then-ne
returns-then-ne c =
    let x = c.args.self.now in
    let model = sets_moved x.labels.label x.labels.permuted (rows_of x.table) (rows_of c.clear.new.self) c.args.from c.args.to c.of.result.value c.swap.new.self.label (λ e. (let s : c.args.from ≡ c.args.to = same_name c.args.from c.args.to e in search rules)) c.of.ensures c.clear.ensures.rows c.swap.ensures in
    record { room = c.clear.ensures.room; model = model; members = moved_members (meaning x) _ c.args.from c.args.to model }
