-- Chains of cells that are linked by their numbers: what always holds of them.
--
-- There are twelve chains in one memory: one for each of the eleven sets, and the last one for the cells that are free. Of each chain are kept the number of its first
-- cell, the number of its last cell, and how many cells it has. The rest is in the cells: each has the number of the next one.
--
-- Every cell of the memory is on one chain, at one place of it (OnePlaceEach). That is said by four facts, which a change of links keeps more easily:
-- * Running: so many cells from the first on are cells of the memory, and after the last of them stands a number that is none. So no cell comes twice on a chain,
--   since from a cell the chain goes on in one way only, and it would never end.
-- * Ending: the cell that is kept as a chain's last is the last one on it.
-- * Parted: two chains that have cells have different last ones. So no cell is on two chains, since both would go on alike from there, and end in the same cell.
-- * the chains have as many cells together as the memory has. So no cell is on none.
use Rattle.std.specs.Prelude.{◌≡◌, ℕ, zero, suc, ◌+◌, ◌<◌, Bool, true, ◌&&◌, List, [], ◌∷◌, length, nat_le, nat_lt, slice_index, slice_index_or}
use Rattle.store.specs.Ranges.{Span}
use Rattle.cells.specs.declared.cell.Cell.{Cell}
use Rattle.cells.specs.declared.cell.Ends.{Ends}

abbrev pub cell : List Cell → ℕ → Cell
cell cs i = slice_index_or cs i (record { low = 0; high = 0; next = 0 })

abbrev pub ends : List Ends → ℕ → Ends
ends es k = slice_index_or es k (record { first = 0; last = 0; count = 0 })

-- the numbers of so many cells, from the cell i on
abbrev pub path : List Cell → ℕ → ℕ → List ℕ
path cs zero i = []
path cs (suc n) i = i ∷ path cs n (cell cs i).next

-- so many cells from the cell i on are in the memory, and what comes after them is not
abbrev pub runs : List Cell → ℕ → ℕ → Bool
runs cs zero i = nat_le (length cs) i
runs cs (suc n) i = nat_lt i (length cs) && runs cs n (cell cs i).next

-- the last number of a list, or d of an empty one
abbrev pub final : ℕ → List ℕ → ℕ
final d [] = d
final d (x ∷ l) = final x l

-- the cells of a chain
abbrev pub numbers : List Cell → List Ends → ℕ → List ℕ
numbers cs es k = path cs (ends es k).count (ends es k).first

-- how many cells the chains have together
abbrev pub sum : List Ends → ℕ
sum [] = 0
sum (e ∷ es) = e.count + sum es

abbrev pub Running : List Cell → List Ends → Type 0
Running cs es = (k : ℕ) → k < 12 → runs cs (ends es k).count (ends es k).first ≡ true

abbrev pub Ending : List Cell → List Ends → Type 0
Ending cs es = (k : ℕ) → k < 12 → 0 < (ends es k).count → final 0 (numbers cs es k) ≡ (ends es k).last

-- two chains, by their numbers, that have cells and end in the same one
abbrev pub Meet : List Ends → ℕ → ℕ → Type 0
Meet es j k = (j < 12) × (k < 12) × (0 < (ends es j).count) × (0 < (ends es k).count) × ((ends es j).last ≡ (ends es k).last)

abbrev pub Parted : List Ends → Type 0
Parted es = (j k : ℕ) → Meet es j k → j ≡ k

-- all four
abbrev pub Linked : List Cell → List Ends → Type 0
Linked cs es = Running cs es × Ending cs es × Parted es × (sum es ≡ length cs)

-- what they come to: every place of a chain is a cell, no cell is at two places, and none is at no place
pub record OnePlaceEach (cs : List Cell) (es : List Ends) : Type 0 where
  pub inside : (k i : ℕ) → k < 12 → i < (ends es k).count → slice_index (numbers cs es k) i < length cs
  pub once : (j k h i : ℕ) → j < 12 → k < 12 → h < (ends es j).count → i < (ends es k).count → slice_index (numbers cs es j) h ≡ slice_index (numbers cs es k) i → (j ≡ k) × (h ≡ i)
  pub some : (p : ℕ) → p < length cs → (k : ℕ) × (i : ℕ) × (k < 12) × (i < (ends es k).count) × (slice_index (numbers cs es k) i ≡ p)

-- cells as a new store has them: no range in any, whatever was in it before, and each linked to the one after it in memory
abbrev pub Blank : List Cell → Type 0
Blank cs = (k : ℕ) → k < length cs → cell cs k ≡ record { low = 0; high = 0; next = k + 1 }

-- the ranges of cells
abbrev pub span : List Cell → ℕ → Span
span cs i = ((cell cs i).low, (cell cs i).high)

abbrev pub spans : List Cell → List ℕ → List Span
spans cs [] = []
spans cs (i ∷ l) = span cs i ∷ spans cs l
