-- The cells before i are linked, and hold no range.
use Rattle.std.proofs.Common.{◌≡◌, ℕ, ◌+◌, ◌<◌}
use Rattle.cells.specs.Links.{cell}
use Rattle.cells.proofs.links.link_all.Given as goal

abbrev pub invariant-loop-i : goal.invariant-loop-i
invariant-loop-i l = (k : ℕ) → k < l.i → cell l.cells k ≡ record { low = 0; high = 0; next = k + 1 }
