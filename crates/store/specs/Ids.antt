-- IDs and ranges of IDs, as numbers.
use Rattle.std.specs.Prelude.{◌≡◌, ℕ, ◌/◌, ◌%◌, ◌^◌, ◌<◌, ◌≤◌}

-- an ID is the number REPLID × 2^48 + counter, with a REPLID of 1 to 65,535
abbrev pub replid : ℕ → ℕ
replid id = id / 2 ^ 48

abbrev pub counter : ℕ → ℕ
counter id = id % 2 ^ 48

-- the IDs from low to high are a range: both are IDs of one REPLID, and low is not above high
abbrev pub Lawful : ℕ → ℕ → Type 0
Lawful low high = (2 ^ 48 ≤ low) × (low ≤ high) × (high < 2 ^ 64) × (replid low ≡ replid high)
