-- Rows in order end in order and begin in order, so that halving finds those that end, or begin, before a spot.
use Rattle.std.proofs.Common.{◌≡◌, ℕ, ◌+◌, ◌<◌, ◌≤◌, Bool, true, false, List, length, take, drop, nat_lt, slice_index_or, sym, ap, subst, ⊎_elim, arith, length-drop}
use Rattle.std.specs.List.{AllByRecursion, AllWithin}
use Rattle.std.specs.List.Sorted.{IsNonDecreasingBy, IsPartitionedBy, IsPartitionPoint}
use Rattle.std.specs.Fn.{Called, ComputesKey}
use denote.Param.Members.{Mut}
use denote.Ref.{Bor}
use Rattle.std.proofs.lemmas.Bool.{cases_lt, ltb-true, ltb-false}
use Rattle.std.proofs.lemmas.List.{get_or_default, get_or-take, get_or-drop, length-take-le}
use Rattle.std.proofs.lemmas.List.Sorted.{IsPartitionPoint-from_clause, IsPartitionedBy-ltb}
use Rattle.std.proofs.ByRecursion.{All-from_get_or}
use Rattle.rows.specs.declared.row.Row.{Row}
use Rattle.rows.specs.Rows.{begins_at, ends_at, Rising}
use Rattle.rows.specs.Orders.{fair_place, later_row}

abbrev pub blank : Row
blank = record { label = 0; low = 0; high = 0 }

module _ (rs : List Row) (f : Rising 0 rs) where
  pub ends_rise : IsNonDecreasingBy ends_at rs
  ends_rise a b d h l =
      ⊎_elim
      (λ lt. omega (arith, later_row 0 rs a b d f lt l, fair_place 0 rs b d f l))
      (λ ge. let e : a ≡ b = omega arith in subst (λ k. ends_at (slice_index_or rs a d) ≤ ends_at (slice_index_or rs k d)) e (omega arith))
      (cases_lt a b)

  pub begins_rise : IsNonDecreasingBy begins_at rs
  begins_rise a b d h l =
      ⊎_elim
      (λ lt. omega (arith, later_row 0 rs a b d f lt l, fair_place 0 rs a d f (omega arith)))
      (λ ge. let e : a ≡ b = omega arith in subst (λ k. begins_at (slice_index_or rs a d) ≤ begins_at (slice_index_or rs k d)) e (omega arith))
      (cases_lt a b)

-- where a row ends before a spot, so do those before it; where it does not, nor do those behind it
module _ (rs : List Row) (f : Rising 0 rs) (at m : ℕ) (h : m < length rs) where
  pub low_half : ends_at (slice_index_or rs m blank) < at → AllWithin (λ r. ends_at r < at) rs 0 (m + 1)
  low_half lt k d a b = omega (arith, ends_rise rs f k m d (omega arith) h, ap ends_at (get_or_default rs m d blank h))

  pub high_half : at ≤ ends_at (slice_index_or rs m blank) → AllWithin (λ r. at ≤ ends_at r) rs m (length rs)
  high_half le k d a b = omega (arith, ends_rise rs f m k d a b, ap ends_at (get_or_default rs m d blank h))

-- what holds at each place up to i, or from i on, holds of the rows there
module _ (P : Row → Type 0) (rs : List Row) (i : ℕ) where
  pub front : i ≤ length rs → AllWithin P rs 0 i → AllByRecursion P (take i rs)
  front h a = All-from_get_or P (take i rs) blank (λ k b. let u : k < i = omega (arith, length-take-le i rs h) in subst P (sym (get_or-take i rs k blank u)) (a k blank (omega arith) u))

  pub rest : AllWithin P rs i (length rs) → AllByRecursion P (drop i rs)
  rest a = All-from_get_or P (drop i rs) blank (λ k b. subst P (sym (get_or-drop i rs k blank)) (a (i + k) blank (omega arith) (omega (arith, length-drop i rs))))

-- where halving by a number that rises divides the rows
pub halved : (n : Row → ℕ) {F : Type 0} {g : Mut F (Bor Row × Unit {0}) Bool} {f : F} (rs xs : List Row) (at i : ℕ) → xs ≡ rs → IsNonDecreasingBy n rs
    → ((q : Row → Bool) → ComputesKey g q f → IsPartitionedBy q xs → IsPartitionPoint (λ y. q y ≡ true) (λ y. q y ≡ false) xs i)
    → ((a : Bor Row × Unit {0}) (r : Bool) (f' : F) → Called g f a r f' → (r ≡ nat_lt (n a.0.now) at) × (f' ≡ f))
    → IsPartitionPoint (λ r. n r < at) (λ r. at ≤ n r) rs i
halved n rs xs at i e up clause calls =
    let point = IsPartitionPoint-from_clause (λ r. nat_lt (n r) at) xs i clause (IsPartitionedBy-ltb n xs at (subst (IsNonDecreasingBy n) (sym e) up)) calls in
    subst (λ l. IsPartitionPoint (λ r. n r < at) (λ r. at ≤ n r) l i) e (λ k d a b. ltb-true _ _ (point.0 k d a b), λ k d a b. ltb-false _ _ (point.1 k d a b))
