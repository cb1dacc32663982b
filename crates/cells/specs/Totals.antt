-- Every cell holds a range of a set, or is free.
use Rattle.std.specs.Prelude.{◌≡◌, ℕ, zero, suc, ◌+◌, ◌≤◌, List, [], ◌∷◌, length, vec_len, refl}
use Rattle.std.proofs.Common.{ap, ◌∙◌, arith, lit<}
use Rattle.store.specs.Sets.{Model, number, total}
use Rattle.cells.specs.declared.cell.Ends.{Ends}
use Rattle.cells.specs.declared.chains.Chains.{Chains}
use Rattle.cells.specs.Links.{ends, sum}
use Rattle.cells.specs.Chains.{ranges_of, free_of}
use Rattle.cells.specs.Held.{ranges_many}

abbrev pub model_of : Chains → Model
model_of x set = ranges_of x (number set)

-- the counts of the first n chains
unfoldable pub tally : List Ends → ℕ → ℕ
tally es zero = 0
tally es (suc n) = (ends es n).count + tally es n

tally_more : (e : Ends) (es : List Ends) (n : ℕ) → tally (e ∷ es) (suc n) ≡ e.count + tally es n
unfolding tally
tally_more e es zero = refl
tally_more e es (suc n) = omega (arith, tally_more e es n)

pub tally_sum : (es : List Ends) → tally es (length es) ≡ sum es
unfolding tally
tally_sum [] = refl
tally_sum (e ∷ es) = tally_more e es (length es) ∙ ap (λ n. e.count + n) (tally_sum es)

pub all_used : (x : Chains) → total (model_of x) + free_of x ≡ vec_len x.cells
unfolding total tally
all_used x =
    omega (
      arith,
      tally_sum x.ends,
      ap (tally x.ends) x.twelve,
      x.whole,
      ranges_many x 0 (lit< tt),
      ranges_many x 1 (lit< tt),
      ranges_many x 2 (lit< tt),
      ranges_many x 3 (lit< tt),
      ranges_many x 4 (lit< tt),
      ranges_many x 5 (lit< tt),
      ranges_many x 6 (lit< tt),
      ranges_many x 7 (lit< tt),
      ranges_many x 8 (lit< tt),
      ranges_many x 9 (lit< tt),
      ranges_many x 10 (lit< tt),
    )

pub all_fit : (x : Chains) → total (model_of x) ≤ vec_len x.cells
all_fit x = omega (arith, all_used x)
