-- What the halving keeps: the rows below `low` end before the spot, those from `high` on do not.
use Rattle.std.proofs.Common.{◌-◌, ◌<◌, ◌≤◌, length}
use Rattle.std.specs.List.{AllWithin}
use Rattle.rows.specs.Rows.{ends_at}
use Rattle.rows.specs.Tables.{rows_of}
use Rattle.rows.proofs.table.Table.ending_before.Given as goal

abbrev pub invariant-loop-low : goal.invariant-loop-low
invariant-loop-low l =
    let rs = rows_of l.self in
    (l.low ≤ l.high) × (l.high ≤ length rs)
    × AllWithin (λ r. ends_at r < l.at) rs 0 l.low
    × AllWithin (λ r. l.at ≤ ends_at r) rs l.high (length rs)

abbrev pub decreases-loop-low : goal.decreases-loop-low
decreases-loop-low l = l.high - l.low
