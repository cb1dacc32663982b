-- The cells passed since the first spot.
use Rattle.std.proofs.Common.{◌≡◌, ℕ, ◌<◌, ◌≤◌, true}
use Rattle.cells.specs.Chains.{cell_at, GoesOn}
use Rattle.cells.proofs.chains.Chains.walk_while.Given as goal

abbrev pub invariant-loop-place : goal.invariant-loop-place
invariant-loop-place g l = record {
  chain : l.spot.gap.chain ≡ l.fn.from.gap.chain;
  here : l.spot.gap.place ≡ l.place;
  on : GoesOn l.self l.spot;
  passed : (i : ℕ) → l.fn.from.gap.place ≤ i → i < l.spot.gap.place → goal.F-post g l.passes (cell_at l.self l.fn.from.gap.chain.number i) true;
}
