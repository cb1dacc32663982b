-- The eleven sets of a store, and what they hold together.
use Rattle.std.specs.Prelude.{ℕ, ◌+◌, cond, List, [], length, Some, None, Option, ◌==◌}
use Rattle.store.specs.Ranges.{Span}
use Rattle.store.specs.declared.sets.SetName.{SetName}
use Rattle.store.specs.declared.sets.SetName.TheVariants.{KeptGiven, KeptSeen, KeptSeenFai, KeptRead, TrackedGiven, TrackedSeen, TrackedSeenFai, ToldGiven, ToldSeen, ToldSeenFai, ToldRead}

abbrev pub number : SetName → ℕ
number KeptGiven = 0
number KeptSeen = 1
number KeptSeenFai = 2
number KeptRead = 3
number TrackedGiven = 4
number TrackedSeen = 5
number TrackedSeenFai = 6
number ToldGiven = 7
number ToldSeen = 8
number ToldSeenFai = 9
number ToldRead = 10

-- the set of a number: the first of these whose number it is
abbrev pub numbered : ℕ → Option SetName
numbered n =
    cond (n == 0) (Some KeptGiven) (cond (n == 1) (Some KeptSeen) (cond (n == 2) (Some KeptSeenFai) (cond (n == 3) (Some KeptRead)
    (cond (n == 4) (Some TrackedGiven) (cond (n == 5) (Some TrackedSeen) (cond (n == 6) (Some TrackedSeenFai)
    (cond (n == 7) (Some ToldGiven) (cond (n == 8) (Some ToldSeen) (cond (n == 9) (Some ToldSeenFai) (cond (n == 10) (Some ToldRead) None))))))))))

-- the meaning of a store but for its limit: of each set the list of its maximal ranges
abbrev pub Model : Type 0
Model = SetName → List Span

-- every set empty
abbrev pub nothing : Model
nothing set = []

-- the same sets but for one
abbrev pub with_set : Model → SetName → List Span → Model
with_set m set ranges other = cond (number other == number set) ranges (m other)

-- how many maximal ranges all sets have together
unfoldable pub total : Model → ℕ
total m =
    length (m KeptGiven) + (length (m KeptSeen) + (length (m KeptSeenFai) + (length (m KeptRead)
    + (length (m TrackedGiven) + (length (m TrackedSeen) + (length (m TrackedSeenFai)
    + (length (m ToldGiven) + (length (m ToldSeen) + (length (m ToldSeenFai) + length (m ToldRead))))))))))
