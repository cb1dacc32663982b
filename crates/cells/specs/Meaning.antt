-- What a store in cells means: of each set the ranges of its chain.
use Rattle.std.specs.Prelude.{ℕ, vec_len}
use Rattle.store.specs.Sets.{Model, number}
use Rattle.cells.specs.Chains.{ranges_of}
use Rattle.cells.specs.declared.cells_store.CellStore.{CellStore}

abbrev pub meaning : CellStore → Model
meaning store set = ranges_of store.chains (number set)

-- as many ranges as cells were handed over
abbrev pub limit_of : CellStore → ℕ
limit_of store = vec_len store.chains.cells
