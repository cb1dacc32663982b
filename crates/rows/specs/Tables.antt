-- What a table of rows holds, what a search in it finds, and what its changes answer.
use Rattle.std.specs.Prelude.{◌≡◌, ℕ, ◌<◌, ◌≤◌, Bool, cond, List, [], ◌∷◌, ◌++◌, length, take, drop, vec_items, vec_len, Result, MatchResult, ◌≢◌}
use Rattle.std.specs.List.Sorted.{IsPartitionPoint}
use Rattle.store.specs.Ranges.{Span}
use Rattle.store.specs.Refusals.{listed, store_full}
use Rattle.store.specs.declared.refusal.StoreRefusal.{StoreRefusal}
use Rattle.rows.specs.declared.row.Row.{Row}
use Rattle.rows.specs.declared.table.Table.{Table}
use Rattle.rows.specs.Rows.{begins_at, ends_at, Rising, ranges}

-- the rows in use, and how many there are in all
abbrev pub rows_of : Table → List Row
rows_of t = take t.used (vec_items t.memory.places)

abbrev pub room_of : Table → ℕ
room_of t = vec_len t.memory.places

-- the rows from the place i up to the place j are those that reach the spot `from` and begin before the spot `to`
pub record Between (rs : List Row) (from to i j : ℕ) : Type 0 where
  pub i_inside : i ≤ length rs
  pub j_inside : j ≤ length rs
  pub reach : IsPartitionPoint (λ r. ends_at r < from) (λ r. from ≤ ends_at r) rs i
  pub begun : IsPartitionPoint (λ r. begins_at r < to) (λ r. to ≤ begins_at r) rs j

-- the rows from the place i up to the place j give way to others
abbrev pub spliced : ℕ → ℕ → List Row → List Row → List Row
spliced i j new rs = take i rs ++ (new ++ drop j rs)

-- these rows are in use now, of as many as there were
pub record Holds (before after : Table) (wanted : List Row) : Type 0 where
  pub room : room_of after ≡ room_of before
  pub rows : rows_of after ≡ wanted

-- the same, or they are as they were and the wanted ones would be more than there are
pub record HoldsIfItFits {X : Type 0} (before after : Table) (wanted : List Row) (answer : Result X StoreRefusal) : Type 0 where
  pub room : room_of after ≡ room_of before
  pub rows : MatchResult answer (λ _. rows_of after ≡ wanted) (λ e. (listed e ≡ store_full) × (rows_of after ≡ rows_of before) × (room_of before < length wanted))

-- a row, or none
abbrev pub maybe : Bool → Row → List Row
maybe b r = cond b (r ∷ []) []

-- rows in order that stand for the same as others but under one label
pub record Changed (before : List Row) (label : ℕ) (wanted : List Span) (after : List Row) : Type 0 where
  pub in_order : Rising 0 after
  pub here : ranges label after ≡ wanted
  pub others : (other : ℕ) → (other ≢ label) → ranges other after ≡ ranges other before

-- the rows in use are changed so, or they are as they were and the changed ones would be more than there are
abbrev pub ChangedIfItFits : {X : Type 0} → ℕ → List Row → ℕ → List Span → List Row → Result X StoreRefusal → Type 0
ChangedIfItFits limit before label wanted after answer =
    MatchResult answer
    (λ _. Changed before label wanted after)
    (λ e. (listed e ≡ store_full) × (after ≡ before) × ((qs : List Row) × Changed before label wanted qs × (limit < length qs)))

-- the table has as many rows as it had, and those in use are changed so
pub record Becomes (before after : Table) (label : ℕ) (wanted : List Span) : Type 0 where
  pub room : room_of after ≡ room_of before
  pub rows : Changed (rows_of before) label wanted (rows_of after)

pub record BecomesIfItFits {X : Type 0} (before after : Table) (label : ℕ) (wanted : List Span) (answer : Result X StoreRefusal) : Type 0 where
  pub room : room_of after ≡ room_of before
  pub rows : ChangedIfItFits (room_of before) (rows_of before) label wanted (rows_of after) answer
