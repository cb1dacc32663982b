-- Rows in order on one line: what it is that the rows in use stand for.
use Rattle.std.specs.Prelude.{ℕ, ◌+◌, ◌*◌, ◌^◌, ◌<◌, ◌≤◌, Bool, true, cond, ◌&&◌, List, [], ◌∷◌, ◌==◌, nat_le, nat_lt}
use Rattle.store.specs.Ids.{replid, Lawful}
use Rattle.store.specs.Ranges.{Span, place}
use Rattle.rows.specs.declared.row.Row.{Row}

-- where an ID under a label stands on one line, on which IDs under two labels are never neighbours
abbrev pub spot : ℕ → ℕ → ℕ
spot label id = label * 2 ^ 66 + place id

abbrev pub begins_at : Row → ℕ
begins_at r = spot r.label r.low

abbrev pub ends_at : Row → ℕ
ends_at r = spot r.label r.high

-- a row that may be in use: one of the eleven labels, and a lawful range
abbrev pub Fair : Row → Type 0
Fair r = (r.label < 11) × Lawful r.low r.high

-- the rows are fair and in order, no two of them neighbours, the first at the spot n or later
abbrev pub Rising : ℕ → List Row → Type 0
Rising n [] = Unit {0}
Rising n (r ∷ rs) = (n ≤ begins_at r) × Fair r × Rising (ends_at r + 2) rs

-- the same as tests, since the fact in a type has to have one proof at most
abbrev pub fair : Row → Bool
fair r = nat_lt r.label 11 && (nat_le (2 ^ 48) r.low && (nat_le r.low r.high && (nat_lt r.high (2 ^ 64) && replid r.low == replid r.high)))

abbrev pub rising : ℕ → List Row → Bool
rising n [] = true
rising n (r ∷ rs) = nat_le n (begins_at r) && (fair r && rising (ends_at r + 2) rs)

-- the ranges under a label
abbrev pub ranges : ℕ → List Row → List Span
ranges label [] = []
ranges label (r ∷ rs) = cond (r.label == label) ((r.low, r.high) ∷ ranges label rs) (ranges label rs)
