-- The list of refusals, as far as the store layer makes them: the one place that gives a case its number and layer.
use Rattle.store.specs.declared.refusal.Layer.TheVariants.{Store}
use Rattle.store.specs.declared.refusal.Refusal.{Refusal}
use Rattle.store.specs.declared.refusal.StoreRefusal.{StoreRefusal}
use Rattle.store.specs.declared.refusal.StoreRefusal.TheVariants.{RowCount, Full}

-- too few or too many rows or cells for a store
abbrev pub wrong_row_count : Refusal
wrong_row_count = record { number = 1; layer = Store }

-- the ranges would be more than the limit
abbrev pub store_full : Refusal
store_full = record { number = 25; layer = Store }

abbrev pub listed : StoreRefusal → Refusal
listed RowCount = wrong_row_count
listed Full = store_full
