-- The laws of IDs, ranges and sets, each asked for by the contract of a function of src/laws.rt.
use Rattle.std.specs.Prelude.{◌≡◌, ℕ, ◌+◌, ◌-◌, ◌*◌, ◌^◌, ◌<◌, ◌≤◌, true, false, not, ◌&&◌, ◌||◌, List, [], ◌∷◌, length, Some, None, Decides, ◌≢◌}
use Rattle.std.specs.List.{AllByRecursion}
use Rattle.store.specs.Ids.{replid, counter, Lawful}
use Rattle.store.specs.Ranges.{Span, apart, within, has, Canonical, with_range, without_range, next_range, LowestOrNone, beginnings}
use Rattle.store.specs.Sets.{Model, nothing, number, numbered, with_set, total}
use Rattle.store.specs.declared.sets.SetName.{SetName}

abbrev pub AnIdIsAReplicaAndACounter : Type 0
AnIdIsAReplicaAndACounter = (r c : ℕ) → 1 ≤ r → r ≤ 65535 → c < 2 ^ 48 → (replid (r * 2 ^ 48 + c) ≡ r) × (counter (r * 2 ^ 48 + c) ≡ c) × Lawful (r * 2 ^ 48 + c) (r * 2 ^ 48 + c)

-- two ranges stay two exactly where there is an ID between them, or their replicas differ
abbrev pub OnlyNeighboursOfOneReplicaJoin : Type 0
OnlyNeighboursOfOneReplicaJoin = (x y : ℕ) → Decides (apart x y) ((x < y) × (y ≡ x + 1 → replid x ≢ replid y))

-- the last ID of a replica and the first of the next are two ranges: so are counter 2^48 − 1 of REPLID 1 and counter 0 of REPLID 2
abbrev pub NeighbouringReplicasNeverJoin : Type 0
NeighbouringReplicasNeverJoin =
    (r : ℕ) →
    let last = r * 2 ^ 48 + (2 ^ 48 - 1) in
    let first = (r + 1) * 2 ^ 48 + 0 in
    with_range first first (with_range last last []) ≡ (last, last) ∷ (first, first) ∷ []

abbrev pub OnlyIdsAreInSets : Type 0
OnlyIdsAreInSets = (rs : List Span) → Canonical rs → (id : ℕ) → has rs id ≡ true → (2 ^ 48 ≤ id) × (id < 2 ^ 64)

-- a set is determined by its IDs
abbrev pub OneListForOneSet : Type 0
OneListForOneSet = (rs qs : List Span) → Canonical rs → Canonical qs → ((id : ℕ) → has rs id ≡ has qs id) → rs ≡ qs

-- the number of ranges is the number of IDs of the set whose predecessor of the same REPLID is not in it
abbrev pub RangesAreCountedByTheirFirstIds : Type 0
RangesAreCountedByTheirFirstIds = (rs : List Span) → Canonical rs → length rs ≡ beginnings (has rs) (2 ^ 64)

-- no fewer ranges name the same IDs
abbrev pub MaximalRangesAreTheFewest : Type 0
MaximalRangesAreTheFewest = (rs qs : List Span) → Canonical rs → AllByRecursion (λ q. Lawful q.0 q.1) qs → ((id : ℕ) → has rs id ≡ has qs id) → length rs ≤ length qs

abbrev pub AddingByMembership : Type 0
AddingByMembership = (rs : List Span) (low high : ℕ) → Canonical rs → Lawful low high → Canonical (with_range low high rs) × ((id : ℕ) → has (with_range low high rs) id ≡ (has rs id || within low high id))

abbrev pub RemovingByMembership : Type 0
RemovingByMembership = (rs : List Span) (low high : ℕ) → Canonical rs → Lawful low high → Canonical (without_range low high rs) × ((id : ℕ) → has (without_range low high rs) id ≡ (has rs id && not (within low high id)))

-- adding what is there, and removing what is not there, changes nothing
abbrev pub NothingNewChangesNothing : Type 0
NothingNewChangesNothing =
    (rs : List Span) (low high : ℕ) → Canonical rs → Lawful low high
    → (((id : ℕ) → within low high id ≡ true → has rs id ≡ true) → with_range low high rs ≡ rs)
    × (((id : ℕ) → within low high id ≡ true → has rs id ≡ false) → without_range low high rs ≡ rs)

-- one range, added or removed, makes at most one range more
abbrev pub OneRangeMoreAtMost : Type 0
OneRangeMoreAtMost = (rs : List Span) (low high : ℕ) → Canonical rs → Lawful low high → (length (with_range low high rs) ≤ length rs + 1) × (length (without_range low high rs) ≤ length rs + 1)

abbrev pub NextIsTheLowestRangeNotBelow : Type 0
NextIsTheLowestRangeNotBelow = (rs : List Span) (n : ℕ) → Canonical rs → LowestOrNone rs n (next_range rs n)

-- the total of empty sets is 0, and a set that changes changes the total by its own ranges alone
abbrev pub TotalFollowsEachSet : Type 0
TotalFollowsEachSet = (total nothing ≡ 0) × ((m : Model) (set : SetName) (rs : List Span) → total (with_set m set rs) + length (m set) ≡ total m + length rs)

-- the eleven sets have the numbers 0 to 10, each its own, and no number above 10 has one
abbrev pub SetNumbersReadBack : Type 0
SetNumbersReadBack = ((set : SetName) → (number set < 11) × (numbered (number set) ≡ Some set)) × ((n : ℕ) → 10 < n → numbered n ≡ None)
