-- What a store in rows means: of each set the ranges under its label.
use Rattle.std.specs.Prelude.{ℕ, List, vec_len, slice_index}
use Rattle.store.specs.Sets.{Model, number}
use Rattle.rows.specs.declared.row.Row.{Row}
use Rattle.rows.specs.declared.rows_store.RowStore.{RowStore}
use Rattle.rows.specs.Rows.{ranges}
use Rattle.rows.specs.Tables.{rows_of}

-- the ranges of each set, where the labels of the sets are listed by their numbers
abbrev pub labelled : List ℕ → List Row → Model
labelled labels rs set = ranges (slice_index labels (number set)) rs

abbrev pub meaning : RowStore → Model
meaning store = labelled store.labels.label (rows_of store.table)

-- as many ranges as rows were handed over
abbrev pub limit_of : RowStore → ℕ
limit_of store = vec_len store.table.memory.places
