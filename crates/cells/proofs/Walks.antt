-- Walks along a chain: which ranges are passed.
use Rattle.std.proofs.Common.{◌≡◌, ℕ, ◌+◌, ◌-◌, ◌<◌, ◌≤◌, zero, suc, get_or, vec_items, sym, refl, ap, ◌∙◌, subst, ⊎_elim, arith}
use Rattle.std.specs.Option.{unwrap_or}
use Rattle.std.proofs.lemmas.Bool.{cases_eq}
use Rattle.store.specs.Ranges.{Canonical}
use Rattle.cells.specs.declared.cell.Cell.{Cell}
use Rattle.cells.specs.declared.chains.Chains.{Chains}
use Rattle.cells.specs.declared.chains.Gap.{Gap}
use Rattle.cells.specs.declared.walk.Spot.{Spot}
use Rattle.cells.specs.Links.{ends}
use Rattle.cells.specs.Chains.{numbers_of, count_of, ranges_of, cell_at, before_place, Stands, Follow, GoesOn}
use Rattle.cells.specs.Places.{at_place, EndingBelow, BeginningWithin}
use Rattle.cells.specs.Held.{ranges_many, last_fits, place_inside, read}
use Rattle.cells.specs.Finds.{all_below_last}
use Rattle.cells.proofs.Steps.{last_at, range_at, at_is}

-- one cell more
pub one_more : (P : Cell → Type 0) (x : Chains) (k from i : ℕ) → ((j : ℕ) → from ≤ j → j < i → P (cell_at x k j)) → P (cell_at x k i) → (j : ℕ) → from ≤ j → j < i + 1 → P (cell_at x k j)
one_more P x k from i passed here j a b = ⊎_elim (λ (e : j ≡ i). subst (λ n. P (cell_at x k n)) (sym e) here) (λ ne. passed j a (omega arith)) (cases_eq j i)

module _ (x : Chains) (k : ℕ) (h : k < 11) where
  cell_range : (i : ℕ) → i < count_of x k → at_place (ranges_of x k) i ≡ ((cell_at x k i).low, (cell_at x k i).high)
  cell_range i l = range_at x k h i _ _ l refl refl

  -- a walk from the front past what ends below n
  pub ending_below : (n i : ℕ) → i ≤ count_of x k → ((j : ℕ) → 0 ≤ j → j < i → (cell_at x k j).high < n) → (i < count_of x k → n ≤ (cell_at x k i).high) → EndingBelow (ranges_of x k) n i
  ending_below n i l passed stops =
      let many = ranges_many x k (omega arith) in
      record {
        inside = omega (arith, many);
        passed = λ j m. subst (λ s. s.1 < n) (sym (cell_range j (omega arith))) (passed j (omega arith) m);
        stops = λ m. subst (λ s. n ≤ s.1) (sym (cell_range i (omega (arith, many)))) (stops (omega (arith, many)));
      }

  -- where the last range ends below n, all do
  pub all_passed : 0 < count_of x k → (c : Cell) → c ≡ get_or (vec_items x.cells) (ends x.ends k).last c → (n : ℕ) → Canonical (ranges_of x k) → c.high < n → EndingBelow (ranges_of x k) n (count_of x k)
  all_passed p c r n f b =
      let many = ranges_many x k (omega arith) in
      let is = range_at x k h (count_of x k - 1) (ends x.ends k).last c (omega arith) (last_at x k h p) (read x _ c (last_fits x k (omega arith) p) r) in
      subst (EndingBelow (ranges_of x k) n) many
      (all_below_last (ranges_of x k) n f (omega (arith, many)) (subst (λ m. (at_place (ranges_of x k) (m - 1)).1 < n) (sym many) (subst (λ s. s.1 < n) (sym is) b)))

  -- a walk on past what begins at high or below
  pub beginning_within : (high i j : ℕ) → i ≤ j → j ≤ count_of x k → ((m : ℕ) → i ≤ m → m < j → (cell_at x k m).low ≤ high) → (j < count_of x k → high < (cell_at x k j).low) → BeginningWithin (ranges_of x k) high i (j - i)
  beginning_within high i j a b passed stops =
      let many = ranges_many x k (omega arith) in
      let e : i + (j - i) ≡ j = omega arith in
      record {
        inside = omega (arith, many);
        met = λ m p q. subst (λ s. s.0 ≤ high) (sym (cell_range m (omega arith))) (passed m p (omega arith));
        stops = λ p. subst (λ n. high < (at_place (ranges_of x k) n).0) (sym e) (subst (λ s. high < s.0) (sym (cell_range j (omega (arith, many)))) (stops (omega (arith, many))));
      }

-- the run between two gaps of a chain
pub between : (x : Chains) (from : Spot) (to : Gap) (last : ℕ) → to.chain ≡ from.gap.chain → GoesOn x from → Stands x to → from.gap.place ≤ to.place → last ≡ unwrap_or to.before from.at
    → Follow x (record { gap = from.gap; ends = record { first = from.at; last = last; count = to.place - from.gap.place } })
between x from to last same w t l e = record {
  stands = w.stands;
  inside = omega (arith, place_inside x to from.gap.chain same t);
  begins = λ p. at_is x from w (omega (arith, place_inside x to from.gap.chain same t));
  ends_in = λ p. go to.place (t.behind ∙ ap (λ c. before_place (numbers_of x c.number) to.place) same) (omega arith) (omega arith);
}
  where
    go : (n : ℕ) → to.before ≡ before_place (numbers_of x from.gap.chain.number) n → n ≡ from.gap.place + (to.place - from.gap.place) → 0 < n → get_or (numbers_of x from.gap.chain.number) (from.gap.place + (to.place - from.gap.place) - 1) 0 ≡ last
    go zero b m p = absurd (omega arith)
    go (suc j) b m p =
        let z : from.gap.place + (to.place - from.gap.place) - 1 ≡ j = omega arith in
        ap (λ n. get_or (numbers_of x from.gap.chain.number) n 0) z ∙ sym (e ∙ ap (λ o. unwrap_or o from.at) b)
