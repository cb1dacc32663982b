-- Rows in order end in order and begin in order, and those that end before a spot begin before a later one.
use Rattle.std.proofs.Common.{length, refl, ap, arith, rules}
use Rattle.rows.specs.Rows.{begins_at, ends_at}
use Rattle.rows.specs.Searches.{in_order}
use Rattle.rows.proofs.Halves.{ends_rise, begins_rise, halved}
use Rattle.rows.specs.Tables.{rows_of, Between}
use Rattle.rows.proofs.Finds.{found, in_turn}
use Rattle.rows.proofs.table.Table.between.Goals as goal
use Rattle.rows.proofs.table.Table.between.Goals.{After-partition_point-2}

both : (c : After-partition_point-2) → Between (rows_of c.args.self.now) c.args.from c.args.to c.partition_point.result c.partition_point-2.result
both c =
    let rs = rows_of c.args.self.now in
    let xs = c.in_use-rows.result.now in
    let f = in_order c.args.self.now in
    record {
      i_inside = omega (arith, c.partition_point.ensures.bound, ap length c.in_use-rows.ensures);
      j_inside = omega (arith, c.partition_point-2.ensures.bound, ap length c.in_use-rows.ensures);
      reach = halved ends_at rs xs c.args.from _ c.in_use-rows.ensures (ends_rise rs f) c.partition_point.ensures.partitioned (λ a r q k. search rules);
      begun = halved begins_at rs xs c.args.to _ c.in_use-rows.ensures (begins_rise rs f) c.partition_point-2.ensures.partitioned (λ a r q k. search rules);
    }

pub invariant_of-result : goal.invariant_of-result
invariant_of-result c = record { up = in_turn _ c.args.from c.args.to _ _ (in_order c.args.self.now) c.requires (found _ _ _ _ _ _ _ refl refl (both (goal.at.invariant_of-result c).After-partition_point-2)) }

pub returns : goal.returns
returns c = both (goal.at.returns c).After-partition_point-2
