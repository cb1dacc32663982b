-- A range taken out of rows: what it leaves of those that it overlaps.
use Rattle.std.proofs.Common.{◌≡◌, ℕ, suc, ◌+◌, ◌-◌, ◌<◌, ◌≤◌, Bool, true, false, not, ◌&&◌, ◌||◌, eqb, ltb, ◌⊎◌, List, [], ◌∷◌, ◌++◌, length, get_or, take, drop, sym, refl, ap, ◌∙◌, subst, inl, inr, ⊎_elim, append_assoc, arith, take-append-drop}
use Rattle.std.specs.List.{AllByRecursion}
use Rattle.std.proofs.lemmas.Bool.{both_ways, cases_lt, or_cases, or_left, or_right, and_parts, and_from, not-true, not_from_false, ne_eqb, eq-eqb, cond_both, lt-ltb, ltb-true}
use Rattle.std.proofs.lemmas.Bool.Decides.{nat_tests}
use Rattle.std.proofs.lemmas.List.{drop_all, length-take-le}
use Rattle.std.proofs.ByRecursion.{All-weaker}
use Rattle.store.specs.Ids.{Lawful}
use Rattle.store.specs.Ranges.{within, without_range}
use Rattle.store.proofs.Removing.{removing_keeps_order, removing_members}
use Rattle.store.proofs.Members.{or_comm}
use Rattle.rows.specs.declared.row.Row.{Row}
use Rattle.rows.specs.Rows.{spot, begins_at, ends_at, Fair, Rising, ranges}
use Rattle.rows.specs.Tables.{maybe, Changed}
use Rattle.rows.specs.Orders.{before_row, behind_row, fair_place, rising_join, rising-take, rising-drop}
use Rattle.rows.specs.Spots.{ranges_canonical}
use Rattle.rows.proofs.Covers.{covers, covers-++, covers_none, spot_in_range, has_by_spot, changed, parts, replaced}
use Rattle.rows.proofs.Middles.{same_test, near_label, below_place, from_place, middle_covers, middle_between, bounds, inside}

and_true : (x : Bool) → (x && true) ≡ x
and_true true = refl
and_true false = refl

-- rows in the place of those from i to j, which cover their spots but for those of low..high
module _ (rs : List Row) (g lo hi i j : ℕ) (f : Rising 0 rs) (small : g < 11) (law : Lawful lo hi) (up : i ≤ j) (ns : List Row)
    (before : AllByRecursion (λ r. ends_at r < spot g lo) (take i rs)) (behind : AllByRecursion (λ r. spot g hi + 1 ≤ begins_at r) (drop j rs))
    (rises : Rising 0 (take i rs ++ (ns ++ drop j rs)))
    (means : (p : ℕ) → covers ns p ≡ (covers (drop i (take j rs)) p && not (within (spot g lo) (spot g hi) p))) where
  abbrev after : List Row
  after = take i rs ++ (ns ++ drop j rs)

  after_covers : (p : ℕ) → covers after p ≡ (covers rs p && not (within (spot g lo) (spot g hi) p))
  after_covers p =
      replaced (take i rs) ns (drop j rs) p
      ∙ ap (λ b. (covers (take i rs) p || b) || covers (drop j rs) p) (means p)
      ∙ but_for (covers (take i rs) p) (covers (drop i (take j rs)) p) (covers (drop j rs) p) (within (spot g lo) (spot g hi) p)
      (λ w. let b = bounds (spot g lo) (spot g hi) p w in covers_none p (take i rs) (All-weaker (λ r. ends_at r < spot g lo) (λ r. (ends_at r < p) ⊎ (p < begins_at r)) (λ r h. inl (omega arith)) (take i rs) before))
      (λ w. let b = bounds (spot g lo) (spot g hi) p w in covers_none p (drop j rs) (All-weaker (λ r. spot g hi + 1 ≤ begins_at r) (λ r. (ends_at r < p) ⊎ (p < begins_at r)) (λ r h. inr (omega arith)) (drop j rs) behind))
      ∙ ap (λ b. b && not (within (spot g lo) (spot g hi) p)) (sym (parts rs i j up p))
    where
      but_for : (a m b w : Bool) → (w ≡ true → a ≡ false) → (w ≡ true → b ≡ false) → ((a || (m && not w)) || b) ≡ (((a || m) || b) && not w)
      but_for true m b true x y = absurd (both_ways true (x refl) refl)
      but_for false m true true x y = absurd (both_ways true (y refl) refl)
      but_for false true false true x y = refl
      but_for false false false true x y = refl
      but_for true m b false x y = refl
      but_for false true b false x y = refl
      but_for false false true false x y = refl
      but_for false false false false x y = refl

  pub cut : Changed rs g (without_range lo hi (ranges g rs)) after
  cut = changed rs after g (without_range lo hi (ranges g rs)) f rises (removing_keeps_order 0 lo hi (ranges g rs) law.1 (ranges_canonical g rs f))
      (λ id h.
      let same : eqb g g ≡ true = eq-eqb g g refl in
      after_covers (spot g id) ∙ ap (λ b. covers rs (spot g id) && not b) (spot_in_range g lo hi g id small law h ∙ ap (λ b. b && within lo hi id) same)
      ∙ ap (λ b. b && not (within lo hi id)) (sym (has_by_spot 0 g id rs f h)) ∙ sym (removing_members lo hi id (ranges g rs) law.1))
      (λ t id ne h.
      let other : eqb g t ≡ false = ne_eqb g t (λ e. ne (sym e)) in
      after_covers (spot t id) ∙ ap (λ b. covers rs (spot t id) && not b) (spot_in_range g lo hi t id small law h ∙ ap (λ b. b && within lo hi id) other) ∙ and_true (covers rs (spot t id)))

maybe_covers : (b : Bool) (r : Row) (p : ℕ) → covers (maybe b r) p ≡ (b && within (begins_at r) (ends_at r) p)
maybe_covers true r p = or_comm (within (begins_at r) (ends_at r) p) false
maybe_covers false r p = refl

-- what the two searches of a take find
module _ (rs : List Row) (g lo hi i j : ℕ) (d : Row) (f : Rising 0 rs) (small : g < 11) (law : Lawful lo hi) (lj : j ≤ length rs) (up : i ≤ j)
    (before : AllByRecursion (λ r. ends_at r < spot g lo) (take i rs)) (after : AllByRecursion (λ r. spot g lo ≤ ends_at r) (drop i rs))
    (begun : AllByRecursion (λ r. begins_at r < spot g hi + 1) (take j rs)) (behind : AllByRecursion (λ r. spot g hi + 1 ≤ begins_at r) (drop j rs)) where
  -- no row is touched
  pub untouched : j ≤ i → Changed rs g (without_range lo hi (ranges g rs)) (take i rs ++ ([] ++ drop j rs))
  untouched le =
      let is : take i rs ++ ([] ++ drop j rs) ≡ rs = (let e : j ≡ i = omega arith in ap (λ n. take i rs ++ drop n rs) e) ∙ take-append-drop i rs in
      let none : drop i (take j rs) ≡ [] = drop_all i (take j rs) (omega (arith, length-take-le j rs lj)) in
      cut rs g lo hi i j f small law up [] before behind (subst (Rising 0) (sym is) f) (λ p. ap (λ l. covers l p && not (within (spot g lo) (spot g hi) p)) (sym none))

  module _ (lt : i < j) where
    abbrev first : Row
    first = get_or rs i d

    abbrev last : Row
    last = get_or rs (j - 1) d

    abbrev lower : Row
    lower = record { label = g; low = first.low; high = lo - 1 }

    abbrev upper : Row
    upper = record { label = g; low = hi + 1; high = last.high }

    first_fair : Fair first
    first_fair = fair_place 0 rs i d f (omega arith)

    last_fair : Fair last
    last_fair = fair_place 0 rs (j - 1) d f (omega arith)

    first_overlaps : (spot g lo ≤ ends_at first) × (begins_at first < spot g hi + 1)
    first_overlaps = (from_place (λ r. spot g lo ≤ ends_at r) rs i i d (omega arith) (omega arith) after, below_place (λ r. begins_at r < spot g hi + 1) rs j i d lj lt begun)

    last_overlaps : (spot g lo ≤ ends_at last) × (begins_at last < spot g hi + 1)
    last_overlaps = (from_place (λ r. spot g lo ≤ ends_at r) rs i (j - 1) d (omega arith) (omega arith) after, below_place (λ r. begins_at r < spot g hi + 1) rs j (j - 1) d lj (omega arith) begun)

    first_label : first.label ≡ g
    first_label = near_label g lo hi first law first_fair (omega (arith, first_overlaps)) (omega (arith, first_overlaps))

    last_label : last.label ≡ g
    last_label = near_label g lo hi last law last_fair (omega (arith, last_overlaps)) (omega (arith, last_overlaps))

    lower_ends : first.low < lo → (begins_at lower ≡ begins_at first) × (ends_at lower + 1 ≡ spot g lo) × Fair lower
    lower_ends h = (omega (arith, first_label), omega (arith, first_label, first_fair, first_overlaps), (small, omega (arith, first_label, first_fair, first_overlaps)))

    upper_ends : hi < last.high → (begins_at upper ≡ spot g hi + 1) × (ends_at upper ≡ ends_at last) × Fair upper
    upper_ends h = (omega (arith, last_label, last_fair, last_overlaps), omega (arith, last_label), (small, omega (arith, last_label, last_fair, last_overlaps)))

    behind_last : AllByRecursion (λ r. ends_at last + 2 ≤ begins_at r) (drop j rs)
    behind_last = let js : suc (j - 1) ≡ j = omega arith in subst (λ n. AllByRecursion (λ r. ends_at last + 2 ≤ begins_at r) (drop n rs)) js (behind_row 0 rs (j - 1) d f (omega arith))

    -- the part above and the rows behind rise from any spot that is not past the range
    upper_rises : (m : ℕ) → m ≤ spot g hi + 1 → Rising m (maybe (ltb hi last.high) upper ++ drop j rs)
    upper_rises m h = cond_both (ltb hi last.high) (upper ∷ []) [] (λ l. Rising m (l ++ drop j rs))
        (λ e. let k = upper_ends (ltb-true _ _ e) in
        (omega (arith, k.0), k.2, rising-drop 0 j (ends_at upper + 2) rs f (All-weaker (λ r. ends_at last + 2 ≤ begins_at r) (λ r. ends_at upper + 2 ≤ begins_at r) (λ r b. omega (arith, k.1)) (drop j rs) behind_last)))
        (λ e. rising-drop 0 j m rs f (All-weaker (λ r. spot g hi + 1 ≤ begins_at r) (λ r. m ≤ begins_at r) (λ r b. omega arith) (drop j rs) behind))

    parts_rise : Rising (begins_at first) (maybe (ltb first.low lo) lower ++ (maybe (ltb hi last.high) upper ++ drop j rs))
    parts_rise = cond_both (ltb first.low lo) (lower ∷ []) [] (λ l. Rising (begins_at first) (l ++ (maybe (ltb hi last.high) upper ++ drop j rs)))
        (λ e. let k = lower_ends (ltb-true _ _ e) in (omega (arith, k.0), k.2, upper_rises (ends_at lower + 2) (omega (arith, k.1))))
        (λ e. upper_rises (begins_at first) (omega (arith, first_overlaps)))

    -- a spot in the part below, and in the part above
    module _ (p : ℕ) where
      abbrev low_part : Bool
      low_part = ltb first.low lo && within (begins_at lower) (ends_at lower) p

      abbrev high_part : Bool
      high_part = ltb hi last.high && within (begins_at upper) (ends_at upper) p

      into : (low_part || high_part) ≡ true → (covers (drop i (take j rs)) p && not (within (spot g lo) (spot g hi) p)) ≡ true
      into w = ⊎_elim
          (λ l. let a = and_parts _ _ l in let k = lower_ends (ltb-true _ _ a.0) in let b = bounds _ _ p a.1 in
          and_from _ _ (middle_covers rs i j d f lt lj i p (omega arith) lt (omega (arith, k, b)) (omega (arith, k, b, first_overlaps))) (not_from_false _ (let o : within (spot g lo) (spot g hi) p ≡ false = (let q : p < spot g lo = omega (arith, k, b) in grind (arith, nat_tests)) in o)))
          (λ r. let a = and_parts _ _ r in let k = upper_ends (ltb-true _ _ a.0) in let b = bounds _ _ p a.1 in
          and_from _ _ (middle_covers rs i j d f lt lj (j - 1) p (omega arith) (omega arith) (omega (arith, k, b, last_overlaps)) (omega (arith, k, b))) (not_from_false _ (let o : within (spot g lo) (spot g hi) p ≡ false = (let q : spot g hi < p = omega (arith, k, b) in grind (arith, nat_tests)) in o)))
          (or_cases low_part high_part w)

      out : (covers (drop i (take j rs)) p && not (within (spot g lo) (spot g hi) p)) ≡ true → (low_part || high_part) ≡ true
      out w =
          let a = and_parts _ _ w in
          let b = middle_between rs i j d f lt lj p a.0 in
          ⊎_elim
          (λ (low : p < spot g lo).
          let h : first.low < lo = omega (arith, b, first_label) in
          let k = lower_ends h in
          or_left _ _ (and_from _ _ (lt-ltb _ _ h) (inside _ _ p (omega (arith, k, b)) (omega (arith, k)))))
          (λ ge. ⊎_elim
          (λ (high : spot g hi < p).
          let h : hi < last.high = omega (arith, b, last_label) in
          let k = upper_ends h in
          or_right low_part high_part (and_from _ _ (lt-ltb _ _ h) (inside _ _ p (omega (arith, k)) (omega (arith, k, b)))))
          (λ le. absurd (both_ways _ (not-true _ a.1) (inside (spot g lo) (spot g hi) p ge le)))
          (cases_lt (spot g hi) p))
          (cases_lt p (spot g lo))

    parts_mean : (p : ℕ) → covers (maybe (ltb first.low lo) lower ++ maybe (ltb hi last.high) upper) p ≡ (covers (drop i (take j rs)) p && not (within (spot g lo) (spot g hi) p))
    parts_mean p =
        covers-++ (maybe (ltb first.low lo) lower) (maybe (ltb hi last.high) upper) p
        ∙ ap (λ b. b || covers (maybe (ltb hi last.high) upper) p) (maybe_covers (ltb first.low lo) lower p)
        ∙ ap (λ b. (ltb first.low lo && within (begins_at lower) (ends_at lower) p) || b) (maybe_covers (ltb hi last.high) upper p)
        ∙ same_test _ _ (into p) (out p)

    pub left_over : Changed rs g (without_range lo hi (ranges g rs)) (take i rs ++ ((maybe (ltb first.low lo) lower ++ maybe (ltb hi last.high) upper) ++ drop j rs))
    left_over = cut rs g lo hi i j f small law up (maybe (ltb first.low lo) lower ++ maybe (ltb hi last.high) upper) before behind
        (rising_join 0 (begins_at first) (take i rs) ((maybe (ltb first.low lo) lower ++ maybe (ltb hi last.high) upper) ++ drop j rs) (rising-take 0 i rs f) (before_row 0 rs i d f (omega arith)) (omega arith)
        (subst (Rising (begins_at first)) (sym (append_assoc (maybe (ltb first.low lo) lower) (maybe (ltb hi last.high) upper) (drop j rs))) parts_rise))
        parts_mean
