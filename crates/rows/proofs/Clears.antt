-- All rows under one label taken out.
use Rattle.std.proofs.Common.{◌≡◌, ℕ, ◌+◌, ◌-◌, ◌^◌, ◌<◌, ◌≤◌, false, ◌||◌, ◌⊎◌, List, [], ◌++◌, take, drop, sym, ap, ◌∙◌, subst, inl, inr, ⊎_elim, arith}
use Rattle.std.specs.List.{AllByRecursion}
use Rattle.std.proofs.lemmas.Bool.{cases_lt}
use Rattle.std.proofs.lemmas.List.{drop-take}
use Rattle.std.proofs.ByRecursion.{All-take, All-drop}
use Rattle.rows.specs.declared.row.Row.{Row}
use Rattle.rows.specs.Rows.{spot, begins_at, ends_at, Fair, Rising}
use Rattle.rows.specs.Tables.{Changed}
use Rattle.rows.specs.Orders.{fair_rows, rising_join, rising-take, rising-drop}
use Rattle.rows.proofs.Covers.{covers, covers_none, changed, parts, replaced}
use Rattle.rows.proofs.Middles.{all_both}

-- what the two searches of a clear find
module _ (rs : List Row) (g i j : ℕ) (f : Rising 0 rs) (up : i ≤ j)
    (before : AllByRecursion (λ r. ends_at r < spot g 0) (take i rs)) (from : AllByRecursion (λ r. spot g 0 ≤ ends_at r) (drop i rs))
    (to : AllByRecursion (λ r. ends_at r < spot (g + 1) 0) (take j rs)) (behind : AllByRecursion (λ r. spot (g + 1) 0 ≤ ends_at r) (drop j rs)) where
  abbrev after : List Row
  after = take i rs ++ ([] ++ drop j rs)

  first_fair : AllByRecursion Fair (take i rs)
  first_fair = All-take Fair i rs (fair_rows 0 rs f)

  last_fair : AllByRecursion Fair (drop j rs)
  last_fair = All-drop Fair j rs (fair_rows 0 rs f)

  after_rises : Rising 0 after
  after_rises = rising_join 0 (spot g 0) (take i rs) (drop j rs) (rising-take 0 i rs f)
      (all_both (λ r. ends_at r < spot g 0) Fair (λ r. ends_at r + 2 ≤ spot g 0) (λ r b h. let lt : r.label < g = omega arith in omega arith) (take i rs) before first_fair) (omega arith)
      (rising-drop 0 j (spot g 0) rs f (all_both (λ r. spot (g + 1) 0 ≤ ends_at r) Fair (λ r. spot g 0 ≤ begins_at r) (λ r b h. let gt : g < r.label = omega arith in omega arith) (drop j rs) behind last_fair))

  none_left : (id : ℕ) → id < 2 ^ 64 → covers after (spot g id) ≡ false
  none_left id h =
      replaced (take i rs) [] (drop j rs) (spot g id)
      ∙ ap (λ b. (b || false) || covers (drop j rs) (spot g id)) (covers_none (spot g id) (take i rs) (all_both (λ r. ends_at r < spot g 0) Fair (λ r. (ends_at r < spot g id) ⊎ (spot g id < begins_at r)) (λ r b k. inl (omega arith)) (take i rs) before first_fair))
      ∙ covers_none (spot g id) (drop j rs) (all_both (λ r. spot (g + 1) 0 ≤ ends_at r) Fair (λ r. (ends_at r < spot g id) ⊎ (spot g id < begins_at r)) (λ r b k. inr (omega arith)) (drop j rs) behind last_fair)

  -- the rows between are all under the label
  middle_none : (t id : ℕ) → (t ≡ g → ⊥) → id < 2 ^ 64 → covers (drop i (take j rs)) (spot t id) ≡ false
  middle_none t id ne h =
      let m = j - i in
      let is : i + m ≡ j = omega arith in
      let low : AllByRecursion (λ r. spot g 0 ≤ ends_at r) (drop i (take j rs)) = subst (AllByRecursion (λ r. spot g 0 ≤ ends_at r)) (sym (drop-take i m rs) ∙ ap (λ n. drop i (take n rs)) is) (All-take _ m (drop i rs) from) in
      let high : AllByRecursion (λ r. ends_at r < spot (g + 1) 0) (drop i (take j rs)) = All-drop _ i (take j rs) to in
      let fair : AllByRecursion Fair (drop i (take j rs)) = All-drop Fair i (take j rs) (All-take Fair j rs (fair_rows 0 rs f)) in
      let one : AllByRecursion (λ r. (r.label ≡ g) × Fair r) (drop i (take j rs)) = all_both (λ r. spot g 0 ≤ ends_at r) (λ r. (ends_at r < spot (g + 1) 0) × Fair r) (λ r. (r.label ≡ g) × Fair r) (λ r b k. (omega arith, k.1)) (drop i (take j rs)) low (all_both (λ r. ends_at r < spot (g + 1) 0) Fair (λ r. (ends_at r < spot (g + 1) 0) × Fair r) (λ r b k. (b, k)) (drop i (take j rs)) high fair) in
      covers_none (spot t id) (drop i (take j rs)) (all_both (λ r. (r.label ≡ g) × Fair r) Fair (λ r. (ends_at r < spot t id) ⊎ (spot t id < begins_at r)) (λ r b k. ⊎_elim (λ (lt : t < g). inr (omega (arith, b, k))) (λ ge. inl (omega (arith, b, k))) (cases_lt t g)) (drop i (take j rs)) one fair)

  pub cleared : Changed rs g [] after
  cleared = changed rs after g [] f after_rises tt none_left
      (λ t id ne h.
      replaced (take i rs) [] (drop j rs) (spot t id)
      ∙ ap (λ b. (covers (take i rs) (spot t id) || b) || covers (drop j rs) (spot t id)) (sym (middle_none t id ne h))
      ∙ sym (parts rs i j up (spot t id)))
