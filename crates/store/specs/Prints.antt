-- What is printed of ranges, of refusals, and of a number that no set has.
use Rattle.std.specs.Prelude.{ℕ, List, ◌++◌, codes, decimal}
use Rattle.store.specs.declared.range.Range.{Range}
use Rattle.store.specs.declared.refusal.Layer.{Layer}
use Rattle.store.specs.declared.refusal.Layer.TheVariants.{Store, Set, Element, Record, Copy}
use Rattle.store.specs.declared.refusal.Refusal.{Refusal}
use Rattle.store.specs.declared.refusal.StoreRefusal.{StoreRefusal}
use Rattle.store.specs.declared.refusal.StoreRefusal.TheVariants.{RowCount, Full}
use Rattle.store.specs.declared.sets.NoSuchSet.{NoSuchSet}

abbrev pub layer_text : Layer → List ℕ
layer_text Store = codes "store"
layer_text Set = codes "set"
layer_text Element = codes "element"
layer_text Record = codes "record"
layer_text Copy = codes "copy"

-- the number and the layer, as in `25 store`
abbrev pub refusal_text : Refusal → List ℕ
refusal_text refusal = decimal refusal.number ++ (codes " " ++ layer_text refusal.layer)

-- why the store layer refuses, in words
abbrev pub reason_text : StoreRefusal → List ℕ
reason_text RowCount = codes "a store has 64 to 65,535 rows or cells"
reason_text Full = codes "the ranges of all sets would be more than the store's limit"

-- the number that was asked for
abbrev pub no_set_text : NoSuchSet → List ℕ
no_set_text missing = codes "no set has the number " ++ decimal missing.0

-- the lowest and the highest ID
abbrev pub range_text : Range → List ℕ
range_text range = decimal range.low ++ (codes " " ++ decimal range.high)
