-- Which ranges of an ordered list a range of numbers meets, by their places.
use Rattle.std.specs.Prelude.{ℕ, ◌+◌, ◌^◌, ◌<◌, ◌≤◌, Bool, true, ◌&&◌, List, [], ◌∷◌, length, Some, None, Option, ◌==◌, nat_le, nat_lt, slice_index_or}
use Rattle.store.specs.Ids.{replid}
use Rattle.store.specs.Ranges.{Span, place}

abbrev pub at_place : List Span → ℕ → Span
at_place rs i = slice_index_or rs i (0, 0)

-- the ranges before the place i end below n, and the one there does not
pub record EndingBelow (rs : List Span) (n i : ℕ) : Type 0 where
  pub inside : i ≤ length rs
  pub passed : (k : ℕ) → k < i → (at_place rs k).1 < n
  pub stops : i < length rs → n ≤ (at_place rs i).1

-- the ranges that begin at high or below are these: those before the place i, and so many from there on
pub record BeginningWithin (rs : List Span) (high i number : ℕ) : Type 0 where
  pub inside : i + number ≤ length rs
  pub met : (k : ℕ) → i ≤ k → k < i + number → (at_place rs k).0 ≤ high
  pub stops : i + number < length rs → high < (at_place rs (i + number)).0

-- a range, or none, as a list
abbrev pub one_or_none : Option Span → List Span
one_or_none None = []
one_or_none (Some r) = r ∷ []

-- ranges in order, each apart from the next: the test of that, since the fact in a type has to have one proof at most
abbrev pub lawful : Span → Bool
lawful r = nat_le (2 ^ 48) r.0 && (nat_le r.0 r.1 && (nat_lt r.1 (2 ^ 64) && replid r.0 == replid r.1))

abbrev pub in_order : ℕ → List Span → Bool
in_order n [] = true
in_order n (r ∷ rs) = nat_le n (place r.0) && (lawful r && in_order (place r.1 + 2) rs)
