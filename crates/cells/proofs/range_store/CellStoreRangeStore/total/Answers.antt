-- What is not free is in use.
use Rattle.std.proofs.Common.{arith}
use Rattle.cells.specs.Totals.{all_used}
use Rattle.cells.proofs.range_store.CellStoreRangeStore.total.Goals as goal

pub returns : goal.returns
returns c = omega (arith, all_used c.args.self.now.chains, c.free.ensures, c.len.ensures)
