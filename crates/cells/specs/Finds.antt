-- Ranges in order: the test of their order, and what a place that a search stops at says of the next range and of members.
use Rattle.std.specs.Prelude.{◌≡◌, ℕ, zero, suc, ◌+◌, ◌-◌, ◌<◌, ◌≤◌, true, List, [], ◌∷◌, length, Some, None, refl}
use Rattle.std.proofs.Common.{subst, ◌∙◌, arith}
use Rattle.std.proofs.lemmas.Bool.{and_parts, and_from, leb-true, le-leb, eqb-true, eq-eqb, ltb-true, lt-ltb, le-ltb, cond-true, cond-false}
use Rattle.store.specs.Ids.{Lawful}
use Rattle.store.specs.Ranges.{Span, place, From, Canonical, next_range}
use Rattle.cells.specs.Places.{at_place, EndingBelow, BeginningWithin, lawful, in_order}

-- a range that passes the test is lawful
lawful_from : (r : Span) → lawful r ≡ true → Lawful r.0 r.1
lawful_from r e =
    let a = and_parts _ _ e in
    let b = and_parts _ _ a.1 in
    let c = and_parts _ _ b.1 in
    (leb-true _ _ a.0, leb-true _ _ b.0, ltb-true _ _ c.0, eqb-true _ _ c.1)

-- a lawful range passes the test
lawful_test : (r : Span) → Lawful r.0 r.1 → lawful r ≡ true
lawful_test r l = and_from _ _ (le-leb _ _ l.0) (and_from _ _ (le-leb _ _ l.1) (and_from _ _ (lt-ltb _ _ l.2) (eq-eqb _ _ l.3)))

-- ranges that pass the test are in order
pub in_order_from : (n : ℕ) (rs : List Span) → in_order n rs ≡ true → From n rs
in_order_from n [] e = tt
in_order_from n (r ∷ rs) e =
    let a = and_parts _ _ e in
    let b = and_parts _ _ a.1 in
    (leb-true _ _ a.0, lawful_from r b.0, in_order_from (place r.1 + 2) rs b.1)

-- ranges in order pass the test
pub in_order_test : (n : ℕ) (rs : List Span) → From n rs → in_order n rs ≡ true
in_order_test n [] f = refl
in_order_test n (r ∷ rs) f = and_from _ _ (le-leb _ _ f.0) (and_from _ _ (lawful_test r f.1) (in_order_test (place r.1 + 2) rs f.2))

-- a place past the first range that a search by high ends stops at, seen from the second range on
pub ending_rest : (r : Span) (rs : List Span) (n i : ℕ) → EndingBelow (r ∷ rs) n (suc i) → EndingBelow rs n i
ending_rest r rs n i w = record {
  inside = omega (arith, w.inside);
  passed = λ k h. w.passed (suc k) (omega arith);
  stops = λ h. w.stops (omega arith);
}

-- how many ranges from such a place on begin within, seen from the second range on
pub beginning_rest : (r : Span) (rs : List Span) (high i number : ℕ) → BeginningWithin (r ∷ rs) high (suc i) number → BeginningWithin rs high i number
beginning_rest r rs high i number w =
    let e : suc i + number ≡ suc (i + number) = omega arith in
    record {
      inside = omega (arith, w.inside);
      met = λ k a b. w.met (suc k) (omega arith) (omega arith);
      stops = λ h. subst (λ k. high < (at_place (r ∷ rs) k).0) e (w.stops (omega arith));
    }

-- past the last range there is no next one
pub next_none : (rs : List Span) (n i : ℕ) → EndingBelow rs n i → i ≡ length rs → next_range rs n ≡ None
next_none [] n i w e = refl
next_none (r ∷ rs) n zero w e = absurd (omega arith)
next_none (r ∷ rs) n (suc i) w e = cond-true _ _ _ (lt-ltb _ _ (w.passed 0 (omega arith))) ∙ next_none rs n i (ending_rest r rs n i w) (omega arith)

-- the range at the place is the next one
pub next_some : (rs : List Span) (n i : ℕ) → EndingBelow rs n i → i < length rs → next_range rs n ≡ Some (at_place rs i)
next_some [] n i w h = absurd (omega arith)
next_some (r ∷ rs) n zero w h = cond-false _ _ _ (le-ltb _ _ (w.stops (omega arith)))
next_some (r ∷ rs) n (suc i) w h = cond-true _ _ _ (lt-ltb _ _ (w.passed 0 (omega arith))) ∙ next_some rs n i (ending_rest r rs n i w) (omega arith)

-- the last range: it begins at the place m or later, it is lawful, and it ends at x or later
abbrev pub Last : ℕ → List Span → ℕ → ℕ → Type 0
Last m rs k x = (m ≤ place (at_place rs k).0) × Lawful (at_place rs k).0 (at_place rs k).1 × (x ≤ (at_place rs k).1)

-- no range of the list ends above the last one
pub last_high : (m : ℕ) (rs : List Span) (k : ℕ) → From m rs → k < length rs → Last m rs (length rs - 1) (at_place rs k).1
last_high m [] k f h = absurd (omega arith)
last_high m (r ∷ []) zero f h = (f.0, f.1, omega arith)
last_high m (r ∷ []) (suc k) f h = absurd (omega arith)
last_high m (r ∷ q ∷ rs) zero f h =
    let e : suc (length (q ∷ rs) - 1) ≡ length (r ∷ q ∷ rs) - 1 = omega arith in
    let t = last_high (place r.1 + 2) (q ∷ rs) 0 f.2 (omega arith) in
    subst (λ l. Last m (r ∷ q ∷ rs) l r.1) e (omega arith, t.1, omega arith)
last_high m (r ∷ q ∷ rs) (suc k) f h =
    let e : suc (length (q ∷ rs) - 1) ≡ length (r ∷ q ∷ rs) - 1 = omega arith in
    let t = last_high (place r.1 + 2) (q ∷ rs) k f.2 (omega arith) in
    subst (λ l. Last m (r ∷ q ∷ rs) l (at_place (q ∷ rs) k).1) e (omega arith, t.1, t.2)

-- where the last range ends below n, all do
pub all_below_last : (rs : List Span) (n : ℕ) → Canonical rs → 0 < length rs → (at_place rs (length rs - 1)).1 < n → EndingBelow rs n (length rs)
all_below_last rs n f some h = record {
  inside = omega arith;
  passed = λ k l. omega (arith, (last_high 0 rs k f l).2);
  stops = λ l. absurd (omega arith);
}
