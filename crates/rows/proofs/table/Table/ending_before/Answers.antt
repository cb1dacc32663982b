-- The halves of the rows.
use Rattle.std.proofs.Common.{◌+◌, ◌-◌, ◌/◌, ap, slice_index_or, arith}
use Rattle.rows.specs.Rows.{ends_at}
use Rattle.rows.specs.Searches.{in_order}
use Rattle.rows.specs.Tables.{rows_of}
use Rattle.rows.proofs.Halves.{blank, low_half, high_half}
use Rattle.rows.proofs.table.Table.ending_before.Goals as goal

pub loop-low-preserved-then-ends_at-at : goal.loop-low-preserved-then-ends_at-at
loop-low-preserved-then-ends_at-at c =
    let i = c.loop-low.invariant in
    let rs = rows_of c.args.self.now in
    let same = ap (λ l. ends_at (slice_index_or l (c.loop-low.low + (c.loop-low.high - c.loop-low.low) / 2) blank)) c.in_use-rows.ensures in
    (omega arith, i.1, low_half rs (in_order c.args.self.now) c.args.at _ (omega arith) (omega (arith, same, c.ends_at.ensures, c.if-ends_at-at.true)), i.3)

pub loop-low-preserved : goal.loop-low-preserved
loop-low-preserved c =
    let i = c.loop-low.invariant in
    let rs = rows_of c.args.self.now in
    let same = ap (λ l. ends_at (slice_index_or l (c.loop-low.low + (c.loop-low.high - c.loop-low.low) / 2) blank)) c.in_use-rows.ensures in
    (omega arith, omega arith, i.2, high_half rs (in_order c.args.self.now) c.args.at _ (omega arith) (omega (arith, same, c.ends_at.ensures, c.if-ends_at-at.false)))
