-- The set's ranges are in order, so the range found is the lowest.
use Rattle.std.proofs.Common.{sym, ap, ◌∙◌, subst}
use Rattle.store.specs.Ranges.{next_range, LowestOrNone}
use Rattle.store.proofs.Nexts.{next_is_lowest}
use Rattle.store.specs.Sets.{number}
use Rattle.store.proofs.Models.{number_small}
use Rattle.cells.specs.Meaning.{meaning}
use Rattle.cells.specs.Chains.{ranges_of}
use Rattle.cells.specs.Meanings.{canonical}
use Rattle.cells.proofs.range_store.CellStoreRangeStore.next.Goals as goal

pub returns : goal.returns
returns c =
    let x = c.args.self.now in
    let is = c.next_in.ensures ∙ ap (λ k. next_range (ranges_of x.chains k) c.args.n) c.from.ensures in
    record { list = is; members = subst (LowestOrNone (meaning x c.args.set) c.args.n) (sym is) (next_is_lowest 0 (meaning x c.args.set) c.args.n (canonical x.chains x.ordered (number c.args.set) (number_small c.args.set))) }
