-- The rows between two places that a search has found, and what is put in their place.
use Rattle.std.proofs.Common.{◌≡◌, ℕ, suc, ◌+◌, ◌-◌, ◌<◌, ◌≤◌, Bool, true, false, List, [], ◌∷◌, length, get_or, take, drop, sym, refl, ap, ◌∙◌, subst, ⊎_elim, arith, length-drop}
use Rattle.std.specs.List.{AllByRecursion}
use Rattle.std.proofs.lemmas.Bool.{cases_lt}
use Rattle.std.proofs.lemmas.Bool.Decides.{nat_tests}
use Rattle.store.specs.Ids.{Lawful}
use Rattle.store.specs.Ranges.{within}
use Rattle.std.proofs.lemmas.List.{get_or-take, get_or-drop, drop-take, length-take-le}
use Rattle.std.proofs.ByRecursion.{All-get_or, All-take, All-drop}
use Rattle.rows.specs.declared.row.Row.{Row}
use Rattle.rows.specs.Rows.{spot, begins_at, ends_at, Fair, Rising}
use Rattle.rows.specs.Orders.{fair_place, from_row, up_to_row}
use Rattle.rows.proofs.Covers.{covers, covers_at, covers_between}

pub same_test : (x y : Bool) → (x ≡ true → y ≡ true) → (y ≡ true → x ≡ true) → x ≡ y
same_test true y f g = sym (f refl)
same_test false true f g = g refl
same_test false false f g = refl

pub bounds : (a b p : ℕ) → within a b p ≡ true → (a ≤ p) × (p ≤ b)
bounds a b p w = grind (arith, nat_tests)

pub inside : (a b p : ℕ) → a ≤ p → p ≤ b → within a b p ≡ true
inside a b p l h = grind (arith, nat_tests)

-- a row that a range overlaps or adjoins is under its label
pub near_label : (g lo hi : ℕ) (r : Row) → Lawful lo hi → Fair r → spot g lo ≤ ends_at r + 1 → begins_at r ≤ spot g hi + 1 → r.label ≡ g
near_label g lo hi r law fair low high = omega arith

pub all_both : (P Q R : Row → Type 0) → ((r : Row) → P r → Q r → R r) → (rs : List Row) → AllByRecursion P rs → AllByRecursion Q rs → AllByRecursion R rs
all_both P Q R f [] a b = tt
all_both P Q R f (r ∷ rs) a b = (f r a.0 b.0, all_both P Q R f rs a.1 b.1)

-- what holds of the rows up to a place, or from a place on, holds of a row there
pub below_place : (P : Row → Type 0) (rs : List Row) (i k : ℕ) (d : Row) → i ≤ length rs → k < i → AllByRecursion P (take i rs) → P (get_or rs k d)
below_place P rs i k d l h a = subst P (get_or-take i rs k d h) (All-get_or P (take i rs) k d (omega (arith, length-take-le i rs l)) a)

pub from_place : (P : Row → Type 0) (rs : List Row) (i k : ℕ) (d : Row) → k < length rs → i ≤ k → AllByRecursion P (drop i rs) → P (get_or rs k d)
from_place P rs i k d l h a =
    let is : i + (k - i) ≡ k = omega arith in
    subst P (get_or-drop i rs (k - i) d ∙ ap (λ n. get_or rs n d) is) (All-get_or P (drop i rs) (k - i) d (omega (arith, length-drop i rs)) a)

-- rows that end before a spot, and the rest that begins after it, do not overlap
pub ordered_places : (rs : List Row) (i j at to : ℕ) (d : Row) → Rising 0 rs → i ≤ length rs → j ≤ length rs → at ≤ to → AllByRecursion (λ r. ends_at r < at) (take i rs) → AllByRecursion (λ r. to ≤ begins_at r) (drop j rs) → i ≤ j
ordered_places rs i j at to d f a b h before behind = ⊎_elim
    (λ (lt : j < i). absurd (omega (arith, below_place (λ r. ends_at r < at) rs i j d a lt before, from_place (λ r. to ≤ begins_at r) rs j j d (omega arith) (omega arith) behind, fair_place 0 rs j d f (omega arith))))
    (λ ge. ge)
    (cases_lt j i)

-- the rows from i to j, where there is one
module _ (rs : List Row) (i j : ℕ) (d : Row) (f : Rising 0 rs) (h : i < j) (l : j ≤ length rs) where
  long : length (take j rs) ≡ j
  long = length-take-le j rs l

  pub middle_covers : (k p : ℕ) → i ≤ k → k < j → begins_at (get_or rs k d) ≤ p → p ≤ ends_at (get_or rs k d) → covers (drop i (take j rs)) p ≡ true
  middle_covers k p a b low high =
      let n = k - i in
      let is : i + n ≡ k = omega arith in
      let e : get_or (drop i (take j rs)) n d ≡ get_or rs k d = get_or-drop i (take j rs) n d ∙ ap (λ m. get_or (take j rs) m d) is ∙ get_or-take j rs k d b in
      covers_at (drop i (take j rs)) n d p (omega (arith, length-drop i (take j rs), long)) (omega (arith, ap begins_at e)) (omega (arith, ap ends_at e))

  pub middle_between : (p : ℕ) → covers (drop i (take j rs)) p ≡ true → (begins_at (get_or rs i d) ≤ p) × (p ≤ ends_at (get_or rs (j - 1) d))
  middle_between p w =
      let m = j - i in
      let is : i + m ≡ j = omega arith in
      let js : suc (j - 1) ≡ j = omega arith in
      covers_between (begins_at (get_or rs i d)) (ends_at (get_or rs (j - 1) d)) p (drop i (take j rs))
      (subst (AllByRecursion (λ r. begins_at (get_or rs i d) ≤ begins_at r)) (sym (drop-take i m rs) ∙ ap (λ n. drop i (take n rs)) is) (All-take _ m (drop i rs) (from_row 0 rs i d f (omega arith))))
      (All-drop _ i (take j rs) (subst (λ n. AllByRecursion (λ r. ends_at r ≤ ends_at (get_or rs (j - 1) d)) (take n rs)) js (up_to_row 0 rs (j - 1) d f (omega arith)))) w
