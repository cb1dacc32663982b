-- What the chains hold, where a gap stands in one of them, and what a change of one leaves.
use Rattle.std.specs.Prelude.{◌≡◌, ℕ, true, zero, suc, ◌+◌, ◌-◌, ◌<◌, ◌≤◌, List, length, drop, Some, None, Option, vec_items, vec_len, Result, MatchResult, ◌≢◌, slice_index}
use Rattle.store.specs.Ranges.{Span}
use Rattle.store.specs.Refusals.{listed, store_full}
use Rattle.store.specs.declared.refusal.StoreRefusal.{StoreRefusal}
use Rattle.cells.specs.Links.{cell, ends, path, runs, numbers, spans}
use Rattle.cells.specs.declared.cell.Cell.{Cell}
use Rattle.cells.specs.declared.chains.Chains.{Chains}
use Rattle.cells.specs.declared.chains.Gap.{Gap}
use Rattle.cells.specs.declared.chains.Run.{Run}
use Rattle.cells.specs.declared.walk.Spot.{Spot}

-- the cells of a chain, how many they are, their ranges, and how many cells are free
abbrev pub numbers_of : Chains → ℕ → List ℕ
numbers_of x k = numbers (vec_items x.cells) x.ends k

abbrev pub count_of : Chains → ℕ → ℕ
count_of x k = (ends x.ends k).count

abbrev pub ranges_of : Chains → ℕ → List Span
ranges_of x k = spans (vec_items x.cells) (numbers_of x k)

abbrev pub free_of : Chains → ℕ
free_of x = count_of x 11

-- the cell at a place of a chain
abbrev pub cell_at : Chains → ℕ → ℕ → Cell
cell_at x k i = cell (vec_items x.cells) (slice_index (numbers_of x k) i)

-- the last of so many numbers
abbrev pub before_place : List ℕ → ℕ → Option ℕ
before_place l zero = None
before_place l (suc i) = Some (slice_index l i)

-- the gap is one of its chain: it names the cell before it
pub record Stands (x : Chains) (gap : Gap) : Type 0 where
  pub inside : gap.place ≤ count_of x gap.chain.number
  pub behind : gap.before ≡ before_place (numbers_of x gap.chain.number) gap.place

-- the run's gap is one of its chain, and its cells are those behind it
pub record Follow (x : Chains) (run : Run) : Type 0 where
  pub stands : Stands x run.gap
  pub inside : run.gap.place + run.ends.count ≤ count_of x run.gap.chain.number
  pub begins : 0 < run.ends.count → slice_index (numbers_of x run.gap.chain.number) run.gap.place ≡ run.ends.first
  pub ends_in : 0 < run.ends.count → slice_index (numbers_of x run.gap.chain.number) (run.gap.place + run.ends.count - 1) ≡ run.ends.last

-- the spot's gap is one of its chain, and from `at` on goes the rest of that, and no more
pub record GoesOn (x : Chains) (spot : Spot) : Type 0 where
  pub stands : Stands x spot.gap
  pub rest : drop spot.gap.place (numbers_of x spot.gap.chain.number) ≡ path (vec_items x.cells) (count_of x spot.gap.chain.number - spot.gap.place) spot.at
  pub stops : runs (vec_items x.cells) (count_of x spot.gap.chain.number - spot.gap.place) spot.at ≡ true

-- one chain has these ranges now, and the other sets' chains have what they had
pub record Changed (before after : Chains) (k : ℕ) (wanted : List Span) : Type 0 where
  pub room : vec_len after.cells ≡ vec_len before.cells
  pub here : ranges_of after k ≡ wanted
  pub others : (other : ℕ) → other < 11 → (other ≢ k) → ranges_of after other ≡ ranges_of before other

-- the chain is changed so, or all is as it was, and it would take more cells than are free
abbrev pub ChangedIfItFits : {X : Type 0} → Chains → Chains → ℕ → List Span → Result X StoreRefusal → Type 0
ChangedIfItFits before after k wanted answer =
    MatchResult answer
    (λ _. Changed before after k wanted)
    (λ e. (listed e ≡ store_full) × (after ≡ before) × (length (ranges_of before k) + free_of before < length wanted))
