-- How many maximal ranges a store may have room for.
use Rattle.std.specs.Prelude.{ℕ, ◌≤◌}

abbrev pub MayBeLimit : ℕ → Type 0
MayBeLimit n = (64 ≤ n) × (n ≤ 65535)
