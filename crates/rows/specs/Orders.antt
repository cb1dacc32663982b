-- What the order of rows gives, by lists and by places.
use Rattle.std.specs.Prelude.{◌≡◌, ℕ, zero, suc, ◌+◌, ◌<◌, ◌≤◌, true, List, [], ◌∷◌, ◌++◌, length, take, drop, slice_index_or, refl}
use Rattle.std.proofs.Common.{arith}
use Rattle.std.specs.List.{AllByRecursion}
use Rattle.std.proofs.lemmas.Bool.{and_parts, and_from, leb-true, le-leb, eqb-true, eq-eqb, ltb-true, lt-ltb}
use Rattle.rows.specs.declared.row.Row.{Row}
use Rattle.rows.specs.Rows.{begins_at, ends_at, Fair, fair, Rising, rising}

fair_from : (r : Row) → fair r ≡ true → Fair r
fair_from r e =
    let a = and_parts _ _ e in
    let b = and_parts _ _ a.1 in
    let c = and_parts _ _ b.1 in
    let d = and_parts _ _ c.1 in
    (ltb-true _ _ a.0, (leb-true _ _ b.0, leb-true _ _ c.0, ltb-true _ _ d.0, eqb-true _ _ d.1))

fair_test : (r : Row) → Fair r → fair r ≡ true
fair_test r f = and_from _ _ (lt-ltb _ _ f.0) (and_from _ _ (le-leb _ _ f.1.0) (and_from _ _ (le-leb _ _ f.1.1) (and_from _ _ (lt-ltb _ _ f.1.2) (eq-eqb _ _ f.1.3))))

pub rising_from : (n : ℕ) (rs : List Row) → rising n rs ≡ true → Rising n rs
rising_from n [] e = tt
rising_from n (r ∷ rs) e =
    let a = and_parts _ _ e in
    let b = and_parts _ _ a.1 in
    (leb-true _ _ a.0, fair_from r b.0, rising_from (ends_at r + 2) rs b.1)

pub rising_test : (n : ℕ) (rs : List Row) → Rising n rs → rising n rs ≡ true
rising_test n [] f = refl
rising_test n (r ∷ rs) f = and_from _ _ (le-leb _ _ f.0) (and_from _ _ (fair_test r f.1) (rising_test (ends_at r + 2) rs f.2))

pub earlier : (n m : ℕ) (rs : List Row) → n ≤ m → Rising m rs → Rising n rs
earlier n m [] h f = tt
earlier n m (r ∷ rs) h f = (omega arith, f.1, f.2)

pub fair_rows : (n : ℕ) (rs : List Row) → Rising n rs → AllByRecursion Fair rs
fair_rows n [] f = tt
fair_rows n (r ∷ rs) f = (f.1, fair_rows (ends_at r + 2) rs f.2)

-- every row of a rising list begins at the list's start or later
pub begin_late : (n : ℕ) (rs : List Row) → Rising n rs → AllByRecursion (λ r. n ≤ begins_at r) rs
begin_late n [] f = tt
begin_late n (r ∷ rs) f = (f.0, later (ends_at r + 2) rs (omega arith) f.2)
  where
    later : (m : ℕ) (qs : List Row) → n ≤ m → Rising m qs → AllByRecursion (λ r. n ≤ begins_at r) qs
    later m [] h g = tt
    later m (q ∷ qs) h g = (omega arith, later (ends_at q + 2) qs (omega arith) g.2)

-- two rising lists, the first all before the second
pub rising_join : (n m : ℕ) (xs ys : List Row) → Rising n xs → AllByRecursion (λ r. ends_at r + 2 ≤ m) xs → n ≤ m → Rising m ys → Rising n (xs ++ ys)
rising_join n m [] ys f a h g = earlier n m ys h g
rising_join n m (x ∷ xs) ys f a h g = (f.0, f.1, rising_join (ends_at x + 2) m xs ys f.2 a.1 a.0 g)

pub rising-take : (n i : ℕ) (rs : List Row) → Rising n rs → Rising n (take i rs)
rising-take n zero rs f = tt
rising-take n (suc i) [] f = tt
rising-take n (suc i) (r ∷ rs) f = (f.0, f.1, rising-take (ends_at r + 2) i rs f.2)

pub rising-drop : (n i m : ℕ) (rs : List Row) → Rising n rs → AllByRecursion (λ r. m ≤ begins_at r) (drop i rs) → Rising m (drop i rs)
rising-drop n zero m [] f a = tt
rising-drop n zero m (r ∷ rs) f a = (a.0, f.1, f.2)
rising-drop n (suc i) m [] f a = tt
rising-drop n (suc i) m (r ∷ rs) f a = rising-drop (ends_at r + 2) i m rs f.2 a

pub rising_rest : (n i : ℕ) (rs : List Row) → Rising n rs → Rising 0 (drop i rs)
rising_rest n i rs f = rising-drop n i 0 rs f (any (drop i rs))
  where
    any : (qs : List Row) → AllByRecursion (λ r. 0 ≤ begins_at r) qs
    any [] = tt
    any (q ∷ qs) = (omega arith, any qs)

-- the order by places
pub later_row : (n : ℕ) (rs : List Row) (a b : ℕ) (d : Row) → Rising n rs → a < b → b < length rs → ends_at (slice_index_or rs a d) + 2 ≤ begins_at (slice_index_or rs b d)
later_row n [] a b d f h l = absurd (omega arith)
later_row n (r ∷ rs) a zero d f h l = absurd (omega arith)
later_row n (r ∷ rs) zero (suc b) d f h l = first_from (ends_at r + 2) rs b f.2 (omega arith)
  where
    first_from : (m : ℕ) (qs : List Row) (c : ℕ) → Rising m qs → c < length qs → m ≤ begins_at (slice_index_or qs c d)
    first_from m [] c g k = absurd (omega arith)
    first_from m (q ∷ qs) zero g k = g.0
    first_from m (q ∷ qs) (suc c) g k = omega (arith, first_from (ends_at q + 2) qs c g.2 (omega arith), g.0, g.1)
later_row n (r ∷ rs) (suc a) (suc b) d f h l = later_row (ends_at r + 2) rs a b d f.2 (omega arith) (omega arith)

pub fair_place : (n : ℕ) (rs : List Row) (k : ℕ) (d : Row) → Rising n rs → k < length rs → Fair (slice_index_or rs k d)
fair_place n [] k d f l = absurd (omega arith)
fair_place n (r ∷ rs) zero d f l = f.1
fair_place n (r ∷ rs) (suc k) d f l = fair_place (ends_at r + 2) rs k d f.2 (omega arith)

-- the rows before a row, from it on, up to it, and behind it
pub before_row : (n : ℕ) (rs : List Row) (k : ℕ) (d : Row) → Rising n rs → k < length rs → AllByRecursion (λ r. ends_at r + 2 ≤ begins_at (slice_index_or rs k d)) (take k rs)
before_row n rs zero d f l = tt
before_row n [] (suc k) d f l = tt
before_row n (r ∷ rs) (suc k) d f l = (later_row n (r ∷ rs) 0 (suc k) d f (omega arith) l, before_row (ends_at r + 2) rs k d f.2 (omega arith))

pub from_row : (n : ℕ) (rs : List Row) (k : ℕ) (d : Row) → Rising n rs → k < length rs → AllByRecursion (λ r. begins_at (slice_index_or rs k d) ≤ begins_at r) (drop k rs)
from_row n [] k d f l = absurd (omega arith)
from_row n (r ∷ rs) zero d f l = begin_late (begins_at r) (r ∷ rs) (omega arith, f.1, f.2)
from_row n (r ∷ rs) (suc k) d f l = from_row (ends_at r + 2) rs k d f.2 (omega arith)

pub up_to_row : (n : ℕ) (rs : List Row) (k : ℕ) (d : Row) → Rising n rs → k < length rs → AllByRecursion (λ r. ends_at r ≤ ends_at (slice_index_or rs k d)) (take (suc k) rs)
up_to_row n [] k d f l = absurd (omega arith)
up_to_row n (r ∷ rs) zero d f l = (omega arith, tt)
up_to_row n (r ∷ rs) (suc k) d f l = (omega (arith, later_row n (r ∷ rs) 0 (suc k) d f (omega arith) l, fair_place n (r ∷ rs) (suc k) d f l), up_to_row (ends_at r + 2) rs k d f.2 (omega arith))

pub behind_row : (n : ℕ) (rs : List Row) (k : ℕ) (d : Row) → Rising n rs → k < length rs → AllByRecursion (λ r. ends_at (slice_index_or rs k d) + 2 ≤ begins_at r) (drop (suc k) rs)
behind_row n [] k d f l = absurd (omega arith)
behind_row n (r ∷ rs) zero d f l = begin_late (ends_at r + 2) rs f.2
behind_row n (r ∷ rs) (suc k) d f l = behind_row (ends_at r + 2) rs k d f.2 (omega arith)
