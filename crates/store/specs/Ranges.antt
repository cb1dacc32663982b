-- A set of IDs as the list of its maximal ranges, lowest first.
use Rattle.std.specs.Prelude.{◌≡◌, ℕ, zero, suc, ◌+◌, ◌-◌, ◌<◌, ◌≤◌, min, max, Bool, true, false, cond, not, ◌&&◌, ◌||◌, List, [], ◌∷◌, ◌++◌, Some, None, Option, MatchOption, ◌==◌, nat_le, nat_lt}
use Rattle.store.specs.Ids.{replid, counter, Lawful}

-- the lowest and the highest ID of a range
abbrev pub Span : Type 0
Span = ℕ × ℕ

-- the IDs on a line: neighbours of one replica are one apart, the last ID of a replica and the first of the next are two apart
abbrev pub place : ℕ → ℕ
place id = id + replid id

-- x is below y and not its neighbour: a range that ends at x and one that begins at y stay two ranges
abbrev pub apart : ℕ → ℕ → Bool
apart x y = nat_lt (place x + 1) (place y)

abbrev pub within : ℕ → ℕ → ℕ → Bool
within low high id = nat_le low id && nat_le id high

-- the ID is in one of the ranges
abbrev pub has : List Span → ℕ → Bool
has [] id = false
has (r ∷ rs) id = within r.0 r.1 id || has rs id

-- lawful ranges, in order, each apart from the next, the first at the place n or later
abbrev pub From : ℕ → List Span → Type 0
From n [] = Unit {0}
From n (r ∷ rs) = (n ≤ place r.0) × Lawful r.0 r.1 × From (place r.1 + 2) rs

-- the list that stands for a set: its maximal ranges, lowest first
abbrev pub Canonical : List Span → Type 0
Canonical rs = From 0 rs

-- the ranges with low..high added: what it overlaps or adjoins becomes one range with it
abbrev pub with_range : ℕ → ℕ → List Span → List Span
with_range low high [] = (low, high) ∷ []
with_range low high (r ∷ rs) =
    cond (apart r.1 low) (r ∷ with_range low high rs)
    (cond (apart high r.0) ((low, high) ∷ r ∷ rs)
    (with_range (min low r.0) (max high r.1) rs))

-- what is left of a range below low, and above high
abbrev pub part_below : ℕ → Span → List Span
part_below low r = cond (nat_lt r.0 low) ((r.0, min r.1 (low - 1)) ∷ []) []

abbrev pub part_above : ℕ → Span → List Span
part_above high r = cond (nat_lt high r.1) ((max r.0 (high + 1), r.1) ∷ []) []

-- the ranges with low..high removed
abbrev pub without_range : ℕ → ℕ → List Span → List Span
without_range low high [] = []
without_range low high (r ∷ rs) = part_below low r ++ (part_above high r ++ without_range low high rs)

-- the lowest range whose high end is not below n
abbrev pub next_range : List Span → ℕ → Option Span
next_range [] n = None
next_range (r ∷ rs) n = cond (nat_lt r.1 n) (next_range rs n) (Some r)

-- the ID before this one of the same replica is in the set
unfoldable pub goes_before : (ℕ → Bool) → ℕ → Bool
goes_before in_set id = cond (counter id == 0) false (in_set (id - 1))

-- by members: a maximal range of the set, the lowest that does not end below n
pub record LowestNotBelow (rs : List Span) (n : ℕ) (r : Span) : Type 0 where
  pub lawful : Lawful r.0 r.1
  pub reaches : n ≤ r.1
  pub whole : (id : ℕ) → within r.0 r.1 id ≡ true → has rs id ≡ true
  pub begins_here : goes_before (has rs) r.0 ≡ false
  pub ends_here : replid (r.1 + 1) ≡ replid r.1 → has rs (r.1 + 1) ≡ false
  pub none_lower : (id : ℕ) → n ≤ id → id < r.0 → has rs id ≡ false

-- such a range; or none, where no ID from n on is in the set
abbrev pub LowestOrNone : List Span → ℕ → Option Span → Type 0
LowestOrNone rs n answer = MatchOption answer ((id : ℕ) → n ≤ id → has rs id ≡ false) (LowestNotBelow rs n)

-- an ID begins a range of a set if it is in the set and the one before it of the same replica is not
unfoldable pub begins : (ℕ → Bool) → ℕ → Bool
begins in_set id = in_set id && not (goes_before in_set id)

-- how many of the numbers below n begin a range
unfoldable pub beginnings : (ℕ → Bool) → ℕ → ℕ
beginnings in_set zero = 0
beginnings in_set (suc n) = cond (begins in_set n) 1 0 + beginnings in_set n
