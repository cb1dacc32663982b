-- Between a label's first spot and the next label's there are only its own rows.
use Rattle.std.proofs.Common.{[], sym, subst}
use Rattle.rows.specs.Tables.{rows_of, spliced, Changed}
use Rattle.rows.specs.Searches.{in_order}
use Rattle.rows.proofs.Finds.{found, clear_changes}
use Rattle.rows.proofs.table.Table.clear.Goals as goal
use Rattle.rows.proofs.table.Table.clear.Goals.{After-between-met}

changes : (c : After-between-met) → Changed (rows_of c.args.self.now) c.args.label.value [] (spliced c.between-met.result.from c.between-met.result.to [] (rows_of c.args.self.now))
changes c = clear_changes _ (in_order c.args.self.now) c.args.label.value _ _ (found _ _ _ _ _ _ _ c.spot.ensures c.end.ensures c.between-met.ensures)

pub replace-requires-clause-rising : goal.replace-requires-clause-rising
replace-requires-clause-rising c = (changes (goal.at.replace-requires-clause-rising c).After-between-met).in_order

pub returns : goal.returns
returns c = record {
  room = c.replace.ensures.room;
  rows = subst (Changed (rows_of c.args.self.now) c.args.label.value []) (sym c.replace.ensures.rows) (changes (goal.at.returns c).After-between-met);
}
