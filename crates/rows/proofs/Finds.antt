-- What the searches of a change find in a table, and that what is then put in its place is what was asked for.
use Rattle.std.proofs.Common.{◌≡◌, ℕ, ◌+◌, ◌-◌, ◌<◌, ◌≤◌, min, max, ltb, List, [], ◌∷◌, ◌++◌, length, get_or, take, drop, None, Option, Ok, Err, Result, option_to_list, sym, ap, ◌∙◌, subst, ⊎_elim, arith, length-drop, MatchResult, slice_range}
use Rattle.std.specs.List.{AllByRecursion}
use Rattle.std.proofs.ByRecursion.{All-take, All-drop}
use Rattle.std.proofs.lemmas.Bool.{cases_lt}
use Rattle.std.proofs.lemmas.List.{get_or-take, get_or-drop, length-take-le}
use Rattle.store.specs.Ids.{Lawful}
use Rattle.store.specs.Ranges.{Span, with_range, without_range}
use Rattle.store.specs.Refusals.{listed, store_full}
use Rattle.store.specs.declared.refusal.StoreRefusal.{StoreRefusal}
use Rattle.rows.specs.declared.row.Row.{Row}
use Rattle.rows.specs.Rows.{spot, begins_at, ends_at, Fair, Rising, ranges}
use Rattle.rows.specs.Tables.{maybe, Between, Changed, ChangedIfItFits}
use Rattle.rows.specs.Orders.{fair_rows}
use Rattle.rows.proofs.Halves.{front, rest, blank}
use Rattle.rows.proofs.Middles.{all_both, ordered_places}
use Rattle.rows.proofs.Joins.{lone, together}
use Rattle.rows.proofs.Cuts.{untouched, left_over}
use Rattle.rows.proofs.Clears.{cleared}

-- rows wanted in the place of others, and the answer to that
pub answered : {X : Type 0} (limit : ℕ) (before after wanted : List Row) (g : ℕ) (spans : List Span) (r : Result X StoreRefusal)
    → MatchResult r (λ _. after ≡ wanted) (λ e. (listed e ≡ store_full) × (after ≡ before) × (limit < length wanted))
    → Changed before g spans wanted → ChangedIfItFits limit before g spans after r
answered limit before after wanted g spans (Ok x) h changes = subst (Changed before g spans) (sym h) changes
answered limit before after wanted g spans (Err e) h changes = (h.0, h.1, (wanted, changes, h.2))

-- what a search between two spots finds, of the rows before and behind each place
pub record Found (rs : List Row) (at to i j : ℕ) : Type 0 where
  pub i_inside : i ≤ length rs
  pub j_inside : j ≤ length rs
  pub ended : AllByRecursion (λ r. ends_at r < at) (take i rs)
  pub not_ended : AllByRecursion (λ r. at ≤ ends_at r) (drop i rs)
  pub begun : AllByRecursion (λ r. begins_at r < to) (take j rs)
  pub not_begun : AllByRecursion (λ r. to ≤ begins_at r) (drop j rs)

pub found : (rs : List Row) (at to at' to' i j : ℕ) → at ≡ at' → to ≡ to' → Between rs at to i j → Found rs at' to' i j
found rs at to at' to' i j p q w =
    subst (λ x. Found rs x to' i j) p (subst (λ x. Found rs at x i j) q (record {
      i_inside = w.i_inside;
      j_inside = w.j_inside;
      ended = front _ rs i w.i_inside w.reach.0;
      not_ended = rest _ rs i w.reach.1;
      begun = front _ rs j w.j_inside w.begun.0;
      not_begun = rest _ rs j w.begun.1;
    }))

pub in_turn : (rs : List Row) (at to i j : ℕ) → Rising 0 rs → at ≤ to → Found rs at to i j → i ≤ j
in_turn rs at to i j f h w = ordered_places rs i j at to blank f w.i_inside w.j_inside h w.ended w.not_begun

-- the rows between two places, as a slice has them
module _ (rs met : List Row) (i j : ℕ) (lj : j ≤ length rs) (up : i ≤ j) (is : met ≡ slice_range rs i j) where
  pub met_length : length met ≡ j - i
  met_length = ap length is ∙ length-take-le (j - i) (drop i rs) (omega (arith, length-drop i rs))

  pub met_row : (k : ℕ) (d : Row) → k < j - i → get_or met k d ≡ get_or rs (i + k) d
  met_row k d h = ap (λ l. get_or l k d) is ∙ get_or-take (j - i) (drop i rs) k d h ∙ get_or-drop i rs k d

  pub first_met : (d : Row) → i < j → get_or met 0 d ≡ get_or rs i d
  first_met d h = let e : i + 0 ≡ i = omega arith in met_row 0 d (omega arith) ∙ ap (λ n. get_or rs n d) e

  pub last_met : (d : Row) → i < j → get_or met (length met - 1) d ≡ get_or rs (j - 1) d
  last_met d h =
      let e : i + (length met - 1) ≡ j - 1 = omega (arith, met_length) in
      met_row (length met - 1) d (omega (arith, met_length)) ∙ ap (λ n. get_or rs n d) e

module _ (rs met : List Row) (f : Rising 0 rs) (g lo hi i j : ℕ) (small : g < 11) (law : Lawful lo hi) (up : i ≤ j) (is : met ≡ slice_range rs i j) where
  -- one row for the range and what it touches
  pub put_changes : Found rs (spot g lo - 1) (spot g hi + 2) i j → (row : Row)
      → (length met ≡ 0 → row ≡ record { label = g; low = lo; high = hi })
      → ((d : Row) → 0 < length met → row ≡ record { label = g; low = min lo (get_or met 0 d).low; high = max hi (get_or met (length met - 1) d).high })
      → Changed rs g (with_range lo hi (ranges g rs)) (take i rs ++ (row ∷ [] ++ drop j rs))
  put_changes w row alone whole = ⊎_elim
      (λ lt. subst (λ x. Changed rs g (with_range lo hi (ranges g rs)) (take i rs ++ (x ∷ drop j rs)))
      (sym (whole blank (omega (arith, long)) ∙ ap (λ r. record { label = g; low = min lo r.low; high = max hi (get_or met (length met - 1) blank).high }) (first_met rs met i j w.j_inside up is blank lt) ∙ ap (λ r. record { label = g; low = min lo (get_or rs i blank).low; high = max hi r.high }) (last_met rs met i j w.j_inside up is blank lt)))
      (together rs g lo hi i j blank f small law w.i_inside w.j_inside up w.ended w.not_ended w.begun w.not_begun lt))
      (λ le. subst (λ x. Changed rs g (with_range lo hi (ranges g rs)) (take i rs ++ (x ∷ drop j rs))) (sym (alone (omega (arith, long))))
      (lone rs g lo hi i j blank f small law w.i_inside w.j_inside up w.ended w.not_ended w.begun w.not_begun le))
      (cases_lt i j)
    where
      long : length met ≡ j - i
      long = met_length rs met i j w.j_inside up is

  -- the parts that the range leaves of the rows that it overlaps
  pub take_changes : Found rs (spot g lo) (spot g hi + 1) i j → (below above : Option Row)
      → (length met ≡ 0 → below ≡ None) → (length met ≡ 0 → above ≡ None)
      → ((d : Row) → 0 < length met → option_to_list below ≡ maybe (ltb (get_or met 0 d).low lo) (record { label = g; low = (get_or met 0 d).low; high = lo - 1 }))
      → ((d : Row) → 0 < length met → option_to_list above ≡ maybe (ltb hi (get_or met (length met - 1) d).high) (record { label = g; low = hi + 1; high = (get_or met (length met - 1) d).high }))
      → Changed rs g (without_range lo hi (ranges g rs)) (take i rs ++ ((option_to_list below ++ option_to_list above) ++ drop j rs))
  take_changes w below above no_below no_above low high = ⊎_elim
      (λ lt. subst (λ l. Changed rs g (without_range lo hi (ranges g rs)) (take i rs ++ (l ++ drop j rs)))
      (sym (ap (λ l. l ++ option_to_list above) (low blank (omega (arith, long))) ∙ ap (λ l. lower (get_or met 0 blank) ++ l) (high blank (omega (arith, long)))
      ∙ ap (λ r. lower r ++ upper (get_or met (length met - 1) blank)) (first_met rs met i j w.j_inside up is blank lt) ∙ ap (λ r. lower (get_or rs i blank) ++ upper r) (last_met rs met i j w.j_inside up is blank lt)))
      (left_over rs g lo hi i j blank f small law w.j_inside up w.ended w.not_ended w.begun w.not_begun lt))
      (λ le. subst (λ l. Changed rs g (without_range lo hi (ranges g rs)) (take i rs ++ (l ++ drop j rs)))
      (sym (ap (λ o. option_to_list o ++ option_to_list above) (no_below (omega (arith, long))) ∙ ap option_to_list (no_above (omega (arith, long)))))
      (untouched rs g lo hi i j blank f small law w.j_inside up w.ended w.not_ended w.begun w.not_begun le))
      (cases_lt i j)
    where
      long : length met ≡ j - i
      long = met_length rs met i j w.j_inside up is

      lower : Row → List Row
      lower r = maybe (ltb r.low lo) (record { label = g; low = r.low; high = lo - 1 })

      upper : Row → List Row
      upper r = maybe (ltb hi r.high) (record { label = g; low = hi + 1; high = r.high })

-- the rows that reach a label's first spot and begin before the next label's are its own
pub clear_changes : (rs : List Row) (f : Rising 0 rs) (g i j : ℕ) → Found rs (spot g 0) (spot (g + 1) 0) i j → Changed rs g [] (take i rs ++ ([] ++ drop j rs))
clear_changes rs f g i j w =
    cleared rs g i j f (in_turn rs _ _ i j f (omega arith) w) w.ended w.not_ended
    (all_both (λ r. begins_at r < spot (g + 1) 0) Fair (λ r. ends_at r < spot (g + 1) 0) (λ r b h. let le : r.label < g + 1 = omega (arith, b) in omega (arith, h)) (take j rs) w.begun (All-take Fair j rs (fair_rows 0 rs f)))
    (all_both (λ r. spot (g + 1) 0 ≤ begins_at r) Fair (λ r. spot (g + 1) 0 ≤ ends_at r) (λ r b h. omega (arith, b, h)) (drop j rs) w.not_begun (All-drop Fair j rs (fair_rows 0 rs f)))
