-- The ranges under a label are canonical.
use Rattle.std.specs.Prelude.{◌≡◌, ℕ, ◌+◌, ◌-◌, ◌*◌, ◌^◌, ◌≤◌, List, [], ◌∷◌, ◌==◌}
use Rattle.std.proofs.Common.{arith}
use Rattle.std.proofs.lemmas.Bool.{cond_both, eqb-true}
use Rattle.store.specs.Ranges.{place, From, Canonical}
use Rattle.rows.specs.declared.row.Row.{Row}
use Rattle.rows.specs.Rows.{ends_at, Rising, ranges}

ranges_from : (n m s : ℕ) (rs : List Row) → m ≤ n - s * 2 ^ 66 → Rising n rs → From m (ranges s rs)
ranges_from n m s [] h f = tt
ranges_from n m s (r ∷ rs) h f =
    cond_both (r.label == s) _ _ (From m)
    (λ e. let is : r.label ≡ s = eqb-true _ _ e in
    (omega arith, f.1.1, ranges_from (ends_at r + 2) (place r.high + 2) s rs (omega arith) f.2))
    (λ e. ranges_from (ends_at r + 2) m s rs (omega arith) f.2)

pub ranges_canonical : (s : ℕ) (rs : List Row) → Rising 0 rs → Canonical (ranges s rs)
ranges_canonical s rs f = ranges_from 0 0 s rs (omega arith) f
