-- Labels that are the numbers 0 to 10 in some order: no two sets have one label, and every label has a set.
use Rattle.std.specs.Prelude.{◌≡◌, ℕ, zero, suc, ◌-◌, ◌<◌, List, length, slice_index, slice_index_or, refl}
use Rattle.std.proofs.Common.{sym, ◌∙◌, ⊎_elim, eqb, arith}
use Rattle.std.proofs.Math.Logic.{∥∥₁_elim}
use native.Mathlib.Nat.{ℕ_set}
use Rattle.std.specs.List.{All, IsDistinct}
use Rattle.std.specs.List.Sorted.{IsPermutation}
use Rattle.std.proofs.lemmas.Bool.{both_ways, cases_lt, eq-eqb, ne_eqb}
use Rattle.std.proofs.lemmas.List.{get_or_default}
use Rattle.std.proofs.lemmas.List.Sorted.{length_permutation, All-permutation, Contains-permutation}
use Rattle.std.proofs.lemmas.Bool.Decides.{nat_tests}
use Rattle.std.proofs.lemmas.Map.Keys.{IsDistinct-from_apart, IsDistinct-IsPermutation, apart_from_distinct}
use Rattle.rows.specs.Labels.{own}

own_at : (k d : ℕ) → k < 11 → slice_index_or own k d ≡ k
own_at zero d h = refl
own_at (suc zero) d h = refl
own_at (suc (suc zero)) d h = refl
own_at (suc (suc (suc zero))) d h = refl
own_at (suc (suc (suc (suc zero)))) d h = refl
own_at (suc (suc (suc (suc (suc zero))))) d h = refl
own_at (suc (suc (suc (suc (suc (suc zero)))))) d h = refl
own_at (suc (suc (suc (suc (suc (suc (suc zero))))))) d h = refl
own_at (suc (suc (suc (suc (suc (suc (suc (suc zero)))))))) d h = refl
own_at (suc (suc (suc (suc (suc (suc (suc (suc (suc zero))))))))) d h = refl
own_at (suc (suc (suc (suc (suc (suc (suc (suc (suc (suc zero)))))))))) d h = refl
own_at (suc (suc (suc (suc (suc (suc (suc (suc (suc (suc (suc k))))))))))) d h = absurd (omega arith)

own_small : All (λ l. l < 11) own
own_small k d h = omega (arith, own_at k d h)

own_distinct : IsDistinct eqb own
own_distinct = IsDistinct-from_apart eqb own (λ i j d lt h. ne_eqb _ _ (λ e. omega (arith, own_at i d (omega arith), own_at j d h)))

eqb_flips : (x y : ℕ) → eqb x y ≡ eqb y x
eqb_flips x y = grind (arith, nat_tests)

module _ (ls : List ℕ) (p : ∥ IsPermutation own ls ∥₁) where
  pub eleven : length ls ≡ 11
  eleven = ∥∥₁_elim p (ℕ_set _ _) (length_permutation own ls)

  pub small : (k : ℕ) → k < 11 → slice_index ls k < 11
  small k h =
      let none : slice_index ls k - 10 ≡ 0 = ∥∥₁_elim p (ℕ_set _ _) (λ q. let lt : slice_index ls k < 11 = All-permutation (λ l. l < 11) own ls q own_small k 0 (omega (arith, length_permutation own ls q)) in omega arith) in
      omega arith

  pub one_owner : (s t : ℕ) → s < 11 → t < 11 → slice_index ls s ≡ slice_index ls t → s ≡ t
  one_owner s t h k e = ∥∥₁_elim p (ℕ_set s t) (λ q.
      let distinct = IsDistinct-IsPermutation eqb eqb_flips own ls q own_distinct in
      let apart : (i j : ℕ) → i < j → j < 11 → slice_index ls i ≡ slice_index ls j → ⊥ = λ i j lt l same. both_ways _ (apart_from_distinct eqb ls i j 0 distinct lt (omega (arith, eleven))) (eq-eqb _ _ same) in
      ⊎_elim (λ (lt : s < t). absurd (apart s t lt k e)) (λ ge. ⊎_elim (λ (gt : t < s). absurd (apart t s gt h (sym e))) (λ le. omega arith) (cases_lt t s)) (cases_lt s t))

-- the set of a label, by its number
pub owner : (ls : List ℕ) → IsPermutation own ls → (l : ℕ) → l < 11 → (k : ℕ) × (k < 11) × (slice_index ls k ≡ l)
owner ls q l h =
    let c = Contains-permutation own ls l q (l, omega arith, own_at l l h) in
    (c.0, omega (arith, c.1, length_permutation own ls q), get_or_default ls c.0 0 l c.1 ∙ c.2)
