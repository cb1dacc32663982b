-- The next range under a label, by the spot that it is looked for at.
use Rattle.std.proofs.Common.{◌≡◌, ℕ, ◌+◌, ◌*◌, ◌^◌, ◌<◌, ◌≤◌, List, [], ◌∷◌, ◌++◌, length, take, drop, Some, None, Option, eqb, ◌≢◌, slice_index_or, refl, sym, ap, subst, ◌∙◌, arith, take-append-drop}
use Rattle.std.specs.List.{AllByRecursion}
use Rattle.std.proofs.lemmas.Bool.{cond_both, cond-true, cond-false, eq-eqb, ne_eqb, eqb-true, lt-ltb, le-ltb}
use Rattle.std.proofs.lemmas.List.{drop_more, drop_all}
use Rattle.store.specs.Ranges.{Span, Canonical, next_range, LowestOrNone}
use Rattle.store.proofs.Nexts.{next_is_lowest}
use Rattle.rows.specs.declared.row.Row.{Row}
use Rattle.rows.specs.Rows.{spot, begins_at, ends_at, Fair, Rising, ranges}
use Rattle.rows.specs.Orders.{fair_rows, rising-take, rising_rest}

-- no rows from a spot past a label on are under it
pub none_under : (n s : ℕ) (rs : List Row) → (s + 1) * 2 ^ 66 ≤ n → Rising n rs → ranges s rs ≡ []
none_under n s [] h f = refl
none_under n s (r ∷ rs) h f = cond-false _ _ _ (ne_eqb r.label s (omega arith)) ∙ none_under (ends_at r + 2) s rs (omega arith) f.2

-- rows that end before a spot are passed over
passed : (s n : ℕ) (xs ys : List Row) → AllByRecursion Fair xs → AllByRecursion (λ r. ends_at r < spot s n) xs → next_range (ranges s (xs ++ ys)) n ≡ next_range (ranges s ys) n
passed s n [] ys f a = refl
passed s n (x ∷ xs) ys f a =
    cond_both (eqb x.label s) _ _ (λ l. next_range l n ≡ next_range (ranges s ys) n)
    (λ e. let is : x.label ≡ s = eqb-true _ _ e in
    let lt : x.high < n = omega (arith, a.0) in
    cond-true _ _ _ (lt-ltb _ _ lt) ∙ passed s n xs ys f.1 a.1)
    (λ e. passed s n xs ys f.1 a.1)

-- the rows before a place end before a number's spot
module _ (rs : List Row) (f : Rising 0 rs) (s n i : ℕ) (before : AllByRecursion (λ r. ends_at r < spot s n) (take i rs)) where
  from_here : next_range (ranges s rs) n ≡ next_range (ranges s (drop i rs)) n
  from_here = ap (λ l. next_range (ranges s l) n) (sym (take-append-drop i rs)) ∙ passed s n (take i rs) (drop i rs) (fair_rows 0 (take i rs) (rising-take 0 i rs f)) before

  pub next_none : length rs ≤ i → None ≡ next_range (ranges s rs) n
  next_none h = sym (from_here ∙ ap (λ l. next_range (ranges s l) n) (drop_all i rs h))

  -- and the row there does not
  module _ (r : Row) (h : i < length rs) (e : r ≡ slice_index_or rs i r) (small : n < 2 ^ 64) (late : spot s n ≤ ends_at r) where
    read_rest : drop i rs ≡ r ∷ drop (i + 1) rs
    read_rest = drop_more rs i r h ∙ ap (λ x. x ∷ drop (i + 1) rs) (sym e)

    here : Rising 0 (r ∷ drop (i + 1) rs)
    here = subst (Rising 0) read_rest (rising_rest 0 i rs f)

    pub next_found : r.label ≡ s → Some (r.low, r.high) ≡ next_range (ranges s rs) n
    next_found is =
        let le : n ≤ r.high = omega (arith, late, here.1) in
        sym (from_here ∙ ap (λ l. next_range (ranges s l) n) read_rest ∙ ap (λ l. next_range l n) (cond-true _ _ _ (eq-eqb r.label s is)) ∙ cond-false _ _ _ (le-ltb r.high n le))

    pub next_other : (r.label ≢ s) → None ≡ next_range (ranges s rs) n
    next_other ne =
        let past : (s + 1) * 2 ^ 66 ≤ begins_at r = omega (arith, here.1, late) in
        sym (from_here ∙ ap (λ l. next_range (ranges s l) n) read_rest ∙ ap (λ l. next_range l n) (none_under (begins_at r) s (r ∷ drop (i + 1) rs) past (omega arith, here.1, here.2)))

-- the answer by members follows from the answer by the list
module _ (rs : List Span) (id : ℕ) (f : Canonical rs) where
  pub by_members : (o : Option Span) → o ≡ next_range rs id → LowestOrNone rs id o
  by_members o e = subst (LowestOrNone rs id) (sym e) (next_is_lowest 0 rs id f)
