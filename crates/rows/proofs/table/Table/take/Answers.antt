-- Of the rows that the range overlaps, its parts below and above stay.
use Rattle.std.proofs.Common.{◌+◌, ◌++◌, ap, ◌∙◌, arith, slice_range, option_to_list}
use Rattle.store.specs.Ids.{Lawful}
use Rattle.store.specs.Ranges.{without_range}
use Rattle.rows.specs.Rows.{spot, ranges}
use Rattle.rows.specs.Tables.{rows_of, spliced, Changed}
use Rattle.rows.specs.Searches.{in_order}
use Rattle.rows.proofs.Finds.{answered, found, take_changes}
use Rattle.rows.proofs.table.Table.take.Goals as goal
use Rattle.rows.proofs.table.Table.take.Goals.{After-part_above-above}

changes : (c : After-part_above-above) → Changed (rows_of c.args.self.now) c.args.label.value (without_range c.args.range.low c.args.range.high (ranges c.args.label.value (rows_of c.args.self.now))) (spliced c.between-met.result.from c.between-met.result.to (option_to_list c.part_below-below.result ++ option_to_list c.part_above-above.result) (rows_of c.args.self.now))
changes c =
    let r = c.args.range in
    let g = c.args.label.value in
    let m = c.between-met.result in
    let below = c.part_below-below in
    let above = c.part_above-above in
    let law : Lawful r.low r.high = (r.paired, r.rising, omega (arith, c.high.ensures.value), r.single) in
    let at = found _ _ _ (spot g r.low) (spot g r.high + 1) _ _ (c.spot.ensures ∙ ap (spot g) c.low.ensures.value) (ap (λ x. x + 1) (c.spot-2.ensures ∙ ap (spot g) c.high.ensures.value)) c.between-met.ensures in
    take_changes _ (slice_range c.in_use.result.now m.from m.to) (in_order c.args.self.now) g r.low r.high m.from m.to c.args.label.small law m.up (ap (λ l. slice_range l m.from m.to) c.in_use.ensures) at below.result above.result below.ensures.none above.ensures.none below.ensures.some above.ensures.some

pub replace_if_it_fits-requires-clause-rising : goal.replace_if_it_fits-requires-clause-rising
replace_if_it_fits-requires-clause-rising c = (changes (goal.at.replace_if_it_fits-requires-clause-rising c).After-part_above-above).in_order

pub returns : goal.returns
returns c = record {
  room = c.replace_if_it_fits.ensures.room;
  rows = answered _ _ _ _ _ _ c.replace_if_it_fits.result c.replace_if_it_fits.ensures.rows (changes (goal.at.returns c).After-part_above-above);
}
