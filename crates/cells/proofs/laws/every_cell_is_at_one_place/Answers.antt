-- The law that the contract of `every_cell_is_at_one_place` states.
use Rattle.std.proofs.Common.{vec_items}
use Rattle.cells.specs.Held.{linked}
use Rattle.cells.proofs.Partition.{one_place_each}
use Rattle.cells.proofs.laws.every_cell_is_at_one_place.Goals as goal

pub returns : goal.returns
returns c = let x = c.args.store.now.chains in one_place_each (vec_items x.cells) x.ends (linked x) x.twelve
