-- Every cell free.
use Rattle.std.proofs.Common.{◌≡◌, ℕ, zero, suc, ◌+◌, ◌-◌, ◌<◌, true, List, [], ◌∷◌, length, sym, refl, ap, ◌∙◌, subst, ⊎_elim, arith}
use Rattle.std.proofs.lemmas.Bool.{and_from, le-leb, lt-ltb, cases_lt}
use Rattle.cells.specs.declared.cell.Cell.{Cell}
use Rattle.cells.specs.declared.cell.Ends.{Ends}
use Rattle.cells.specs.Links.{cell, ends, path, runs, final, sum, Running, Ending, Parted}

abbrev none : ℕ → Ends
none n = record { first = n; last = n; count = 0 }

abbrev all : ℕ → Ends
all n = record { first = 0; last = n - 1; count = n }

abbrev pub fresh : ℕ → ℕ → List Ends
fresh zero n = all n ∷ []
fresh (suc k) n = none n ∷ fresh k n

at_none : (k n j : ℕ) → j < k → ends (fresh k n) j ≡ none n
at_none zero n j h = absurd (omega arith)
at_none (suc k) n zero h = refl
at_none (suc k) n (suc j) h = at_none k n j (omega arith)

at_all : (k n : ℕ) → ends (fresh k n) k ≡ all n
at_all zero n = refl
at_all (suc k) n = at_all k n

pub fresh_sum : (k n : ℕ) → sum (fresh k n) ≡ n
fresh_sum zero n = omega arith
fresh_sum (suc k) n = omega (arith, fresh_sum k n)

module _ (cs : List Cell) (n : ℕ) (long : length cs ≡ n) (some : 0 < n) (next : (k : ℕ) → k < n → (cell cs k).next ≡ k + 1) where
  run_all : (m j : ℕ) → j + m ≡ n → runs cs m j ≡ true
  run_all zero j e = le-leb _ _ (omega arith)
  run_all (suc m) j e = and_from _ _ (lt-ltb _ _ (omega arith)) (ap (runs cs m) (next j (omega arith)) ∙ run_all m (j + 1) (omega arith))

  last_all : (d m j : ℕ) → 0 < m → j + m ≡ n → final d (path cs m j) ≡ n - 1
  last_all d zero j p e = absurd (omega arith)
  last_all d (suc zero) j p e = omega arith
  last_all d (suc (suc m)) j p e = ap (λ i. final j (path cs (suc m) i)) (next j (omega arith)) ∙ last_all j (suc m) (j + 1) (omega arith) (omega arith)

  each : (P : Ends → Type 0) → P (none n) → P (all n) → (k : ℕ) → k < 12 → P (ends (fresh 11 n) k)
  each P a b k h = ⊎_elim (λ (l : k < 11). subst P (sym (at_none 11 n k l)) a) (λ l. let e : 11 ≡ k = omega arith in subst (λ j. P (ends (fresh 11 n) j)) e (subst P (sym (at_all 11 n)) b)) (cases_lt k 11)

  pub fresh_running : Running cs (fresh 11 n)
  fresh_running = each (λ e. runs cs e.count e.first ≡ true) (le-leb _ _ (omega arith)) (run_all n 0 (omega arith))

  pub fresh_ending : Ending cs (fresh 11 n)
  fresh_ending = each (λ e. 0 < e.count → final 0 (path cs e.count e.first) ≡ e.last) (λ p. absurd (omega arith)) (λ p. last_all 0 n 0 p (omega arith))

  full_only : (k : ℕ) → k < 12 → 0 < (ends (fresh 11 n) k).count → k ≡ 11
  full_only k h p = ⊎_elim (λ (l : k < 11). absurd (omega (arith, ap (λ e. e.count) (at_none 11 n k l)))) (λ l. omega arith) (cases_lt k 11)

  pub fresh_parted : Parted (fresh 11 n)
  fresh_parted j k w = full_only j w.0 w.2 ∙ sym (full_only k w.1 w.3)
