-- A range put into rows: those that it touches become one row with it.
use Rattle.std.proofs.Common.{◌≡◌, ℕ, suc, ◌+◌, ◌-◌, ◌<◌, ◌≤◌, min, max, Bool, true, false, ◌&&◌, ◌||◌, eqb, ◌⊎◌, List, [], ◌∷◌, ◌++◌, length, get_or, take, drop, sym, refl, ap, ◌∙◌, subst, inl, inr, ⊎_elim, arith}
use Rattle.std.specs.List.{AllByRecursion}
use Rattle.std.proofs.lemmas.Bool.{cases_lt, or_cases, or_left, or_right, ne_eqb, eq-eqb}
use Rattle.std.proofs.ByRecursion.{All-weaker}
use Rattle.std.proofs.lemmas.List.{drop_all, length-take-le}
use Rattle.store.specs.Ids.{Lawful}
use Rattle.store.specs.Ranges.{place, within, with_range}
use Rattle.store.proofs.Adding.{adding_keeps_order, adding_members}
use Rattle.store.proofs.Members.{or_comm}
use Rattle.rows.specs.declared.row.Row.{Row}
use Rattle.rows.specs.Rows.{spot, begins_at, ends_at, Fair, Rising, ranges}
use Rattle.rows.specs.Tables.{Changed}
use Rattle.rows.specs.Orders.{before_row, behind_row, fair_place, rising_join, rising-take, rising-drop}
use Rattle.rows.specs.Spots.{ranges_canonical}
use Rattle.rows.proofs.Covers.{covers, spot_in_range, has_by_spot, changed, parts, replaced}
use Rattle.rows.proofs.Middles.{same_test, all_both, near_label, below_place, from_place, middle_covers, middle_between, bounds, inside}

-- a row in the place of the rows from i to j, which covers their spots and those of low..high
module _ (rs : List Row) (g lo hi i j : ℕ) (f : Rising 0 rs) (small : g < 11) (law : Lawful lo hi) (up : i ≤ j) (row : Row) (fair : Fair row)
    (before : AllByRecursion (λ r. ends_at r + 2 ≤ begins_at row) (take i rs)) (behind : AllByRecursion (λ r. ends_at row + 2 ≤ begins_at r) (drop j rs))
    (means : (p : ℕ) → within (begins_at row) (ends_at row) p ≡ (covers (drop i (take j rs)) p || within (spot g lo) (spot g hi) p)) where
  abbrev after : List Row
  after = take i rs ++ (row ∷ [] ++ drop j rs)

  after_rises : Rising 0 after
  after_rises = rising_join 0 (begins_at row) (take i rs) (row ∷ drop j rs) (rising-take 0 i rs f) before (omega arith) (omega arith, fair, rising-drop 0 j (ends_at row + 2) rs f behind)

  after_covers : (p : ℕ) → covers after p ≡ (covers rs p || within (spot g lo) (spot g hi) p)
  after_covers p =
      replaced (take i rs) (row ∷ []) (drop j rs) p
      ∙ ap (λ b. (covers (take i rs) p || b) || covers (drop j rs) p) (or_comm (within (begins_at row) (ends_at row) p) false ∙ means p)
      ∙ shuffle (covers (take i rs) p) (covers (drop i (take j rs)) p) (covers (drop j rs) p) (within (spot g lo) (spot g hi) p)
      ∙ ap (λ b. b || within (spot g lo) (spot g hi) p) (sym (parts rs i j up p))
    where
      shuffle : (a m b w : Bool) → ((a || (m || w)) || b) ≡ (((a || m) || b) || w)
      shuffle true m b w = refl
      shuffle false true b w = refl
      shuffle false false true true = refl
      shuffle false false true false = refl
      shuffle false false false true = refl
      shuffle false false false false = refl

  pub joined : Changed rs g (with_range lo hi (ranges g rs)) after
  joined = changed rs after g (with_range lo hi (ranges g rs)) f after_rises (adding_keeps_order 0 lo hi (ranges g rs) (omega arith) law (ranges_canonical g rs f))
      (λ id h.
      let same : eqb g g ≡ true = eq-eqb g g refl in
      after_covers (spot g id) ∙ ap (λ b. covers rs (spot g id) || b) (spot_in_range g lo hi g id small law h ∙ ap (λ b. b && within lo hi id) same)
      ∙ ap (λ b. b || within lo hi id) (sym (has_by_spot 0 g id rs f h)) ∙ sym (adding_members 0 lo hi id (ranges g rs) law.1 (ranges_canonical g rs f)))
      (λ t id ne h.
      let other : eqb g t ≡ false = ne_eqb g t (λ e. ne (sym e)) in
      after_covers (spot t id) ∙ ap (λ b. covers rs (spot t id) || b) (spot_in_range g lo hi t id small law h ∙ ap (λ b. b && within lo hi id) other) ∙ or_comm (covers rs (spot t id)) false)

-- what the two searches of a put find
module _ (rs : List Row) (g lo hi i j : ℕ) (d : Row) (f : Rising 0 rs) (small : g < 11) (law : Lawful lo hi) (li : i ≤ length rs) (lj : j ≤ length rs) (up : i ≤ j)
    (before : AllByRecursion (λ r. ends_at r < spot g lo - 1) (take i rs)) (touch : AllByRecursion (λ r. spot g lo - 1 ≤ ends_at r) (drop i rs))
    (touched : AllByRecursion (λ r. begins_at r < spot g hi + 2) (take j rs)) (behind : AllByRecursion (λ r. spot g hi + 2 ≤ begins_at r) (drop j rs)) where
  pub lone : j ≤ i → Changed rs g (with_range lo hi (ranges g rs)) (take i rs ++ ((record { label = g; low = lo; high = hi }) ∷ [] ++ drop j rs))
  lone le = joined rs g lo hi i j f small law up (record { label = g; low = lo; high = hi }) (small, law)
      (All-weaker (λ r. ends_at r < spot g lo - 1) (λ r. ends_at r + 2 ≤ spot g lo) (λ r b. omega arith) (take i rs) before) behind
      (λ p. ap (λ l. covers l p || within (spot g lo) (spot g hi) p) (sym none))
    where
      none : drop i (take j rs) ≡ []
      none = drop_all i (take j rs) (omega (arith, length-take-le j rs lj))

  module _ (lt : i < j) where
    abbrev first : Row
    first = get_or rs i d

    abbrev last : Row
    last = get_or rs (j - 1) d

    abbrev whole : Row
    whole = record { label = g; low = min lo first.low; high = max hi last.high }

    first_fair : Fair first
    first_fair = fair_place 0 rs i d f (omega arith)

    last_fair : Fair last
    last_fair = fair_place 0 rs (j - 1) d f (omega arith)

    first_touches : (spot g lo - 1 ≤ ends_at first) × (begins_at first < spot g hi + 2)
    first_touches = (from_place (λ r. spot g lo - 1 ≤ ends_at r) rs i i d (omega arith) (omega arith) touch, below_place (λ r. begins_at r < spot g hi + 2) rs j i d lj lt touched)

    last_touches : (spot g lo - 1 ≤ ends_at last) × (begins_at last < spot g hi + 2)
    last_touches = (from_place (λ r. spot g lo - 1 ≤ ends_at r) rs i (j - 1) d (omega arith) (omega arith) touch, below_place (λ r. begins_at r < spot g hi + 2) rs j (j - 1) d lj (omega arith) touched)

    first_label : first.label ≡ g
    first_label = near_label g lo hi first law first_fair (omega (arith, first_touches)) (omega (arith, first_touches))

    last_label : last.label ≡ g
    last_label = near_label g lo hi last law last_fair (omega (arith, last_touches)) (omega (arith, last_touches))

    whole_fair : Fair whole
    whole_fair = (small, hull lo hi first.low first.high last.low last.high law first_fair.1 last_fair.1 (omega (arith, first_label, first_touches)) (omega (arith, first_label, first_touches)) (omega (arith, last_label, last_touches)) (omega (arith, last_label, last_touches)))
      where
        hull : (lo hi a b x y : ℕ) → Lawful lo hi → Lawful a b → Lawful x y → place lo ≤ place b + 1 → place a ≤ place hi + 1 → place lo ≤ place y + 1 → place x ≤ place hi + 1 → Lawful (min lo a) (max hi y)
        hull lo hi a b x y l m n p q s t = omega arith

    low_end : (begins_at whole ≤ spot g lo) × (begins_at whole ≤ begins_at first) × ((begins_at whole ≡ spot g lo) ⊎ (begins_at whole ≡ begins_at first))
    low_end = low first.low (first_label)
      where
        low : (a : ℕ) → first.label ≡ g → (spot g (min lo a) ≤ spot g lo) × (spot g (min lo a) ≤ spot first.label a) × ((spot g (min lo a) ≡ spot g lo) ⊎ (spot g (min lo a) ≡ spot first.label a))
        low a is = ⊎_elim
            (λ (h : lo < a). let m : min lo a ≡ lo = omega arith in (omega (arith, m), omega (arith, m), inl (ap (spot g) m)))
            (λ h. let m : min lo a ≡ a = omega arith in (omega (arith, m), omega (arith, m), inr (ap (spot g) m ∙ ap (λ z. spot z a) (sym is))))
            (cases_lt lo a)

    high_end : (spot g hi ≤ ends_at whole) × (ends_at last ≤ ends_at whole) × ((ends_at whole ≡ spot g hi) ⊎ (ends_at whole ≡ ends_at last))
    high_end = high last.high (last_label)
      where
        high : (b : ℕ) → last.label ≡ g → (spot g hi ≤ spot g (max hi b)) × (spot last.label b ≤ spot g (max hi b)) × ((spot g (max hi b) ≡ spot g hi) ⊎ (spot g (max hi b) ≡ spot last.label b))
        high b is = ⊎_elim
            (λ (h : hi < b). let m : max hi b ≡ b = omega arith in (omega (arith, m), omega (arith, m), inr (ap (spot g) m ∙ ap (λ z. spot z b) (sym is))))
            (λ h. let m : max hi b ≡ hi = omega arith in (omega (arith, m), omega (arith, m), inl (ap (spot g) m)))
            (cases_lt hi b)

    -- it covers what the rows did, and the range
    whole_means : (p : ℕ) → within (begins_at whole) (ends_at whole) p ≡ (covers (drop i (take j rs)) p || within (spot g lo) (spot g hi) p)
    whole_means p = same_test _ _
        (λ w. go (bounds (begins_at whole) (ends_at whole) p w) (cases_lt p (spot g lo)) (cases_lt (spot g hi) p))
        (λ w. ⊎_elim
        (λ m. let b = middle_between rs i j d f lt lj p m in inside (begins_at whole) (ends_at whole) p (omega (arith, b, low_end.1)) (omega (arith, b, high_end.1)))
        (λ m. let b = bounds (spot g lo) (spot g hi) p m in inside (begins_at whole) (ends_at whole) p (omega (arith, b, low_end.0)) (omega (arith, b, high_end.0)))
        (or_cases (covers (drop i (take j rs)) p) (within (spot g lo) (spot g hi) p) w))
      where
        go : (begins_at whole ≤ p) × (p ≤ ends_at whole) → (p < spot g lo) ⊎ (spot g lo ≤ p) → (spot g hi < p) ⊎ (p ≤ spot g hi) → (covers (drop i (take j rs)) p || within (spot g lo) (spot g hi) p) ≡ true
        go b (inl low) r = or_left _ _ (middle_covers rs i j d f lt lj i p (omega arith) lt (⊎_elim (λ e. omega (arith, b)) (λ e. omega (arith, b)) low_end.2) (omega (arith, first_touches)))
        go b (inr l) (inl high) = or_left _ _ (middle_covers rs i j d f lt lj (j - 1) p (omega arith) (omega arith) (omega (arith, last_touches)) (⊎_elim (λ e. omega (arith, b)) (λ e. omega (arith, b)) high_end.2))
        go b (inr l) (inr h) = or_right (covers (drop i (take j rs)) p) (within (spot g lo) (spot g hi) p) (inside (spot g lo) (spot g hi) p l h)

    pub together : Changed rs g (with_range lo hi (ranges g rs)) (take i rs ++ (whole ∷ [] ++ drop j rs))
    together = joined rs g lo hi i j f small law up whole whole_fair
        (all_both (λ r. ends_at r < spot g lo - 1) (λ r. ends_at r + 2 ≤ begins_at first) (λ r. ends_at r + 2 ≤ begins_at whole) (λ r a b. ⊎_elim (λ e. omega arith) (λ e. omega arith) low_end.2) (take i rs) before (before_row 0 rs i d f (omega arith)))
        (all_both (λ r. spot g hi + 2 ≤ begins_at r) (λ r. ends_at last + 2 ≤ begins_at r) (λ r. ends_at whole + 2 ≤ begins_at r) (λ r a b. ⊎_elim (λ e. omega arith) (λ e. omega arith) high_end.2) (drop j rs) behind behind_last)
        whole_means
      where
        behind_last : AllByRecursion (λ r. ends_at last + 2 ≤ begins_at r) (drop j rs)
        behind_last = let js : suc (j - 1) ≡ j = omega arith in subst (λ n. AllByRecursion (λ r. ends_at last + 2 ≤ begins_at r) (drop n rs)) js (behind_row 0 rs (j - 1) d f (omega arith))
