-- Up to two ranges in the place of a run of ranges.
use Rattle.std.proofs.Common.{◌≡◌, ℕ, ◌+◌, ◌<◌, ◌≤◌, List, ◌++◌, length, take, drop, Option, ap, ◌∙◌, subst, arith}
use Rattle.std.proofs.lemmas.List.{length-take-le, take_at, drop_at}
use Rattle.store.specs.Ranges.{Span}
use Rattle.cells.specs.declared.chains.Chains.{Chains}
use Rattle.cells.specs.Chains.{count_of, ranges_of, Changed}
use Rattle.cells.specs.Places.{one_or_none}
use Rattle.cells.specs.Held.{ranges_many}

-- one change after another
pub then_changed : (x y z : Chains) (k : ℕ) (rs qs : List Span) → Changed x y k rs → Changed y z k qs → Changed x z k qs
then_changed x y z k rs qs a b = record { room = b.room ∙ a.room; here = b.here; others = λ o h n. b.others o h n ∙ a.others o h n }

-- what stands at a place of a list that is put together there
at_joint : (i : ℕ) (xs rs new rest : List Span) → i ≤ length xs → rs ≡ take i xs ++ rest → take i rs ++ (new ++ drop i rs) ≡ take i xs ++ (new ++ rest)
at_joint i xs rs new rest h e =
    let l = length-take-le i xs h in
    ap (λ t. take i t ++ (new ++ drop i t)) e ∙ ap (λ t. t ++ (new ++ drop i (take i xs ++ rest))) (take_at (take i xs) rest i l) ∙ ap (λ t. take i xs ++ (new ++ t)) (drop_at (take i xs) rest i l)

-- a run removed, and two ranges inserted, the upper one first
module _ (x a b z : Chains) (k i n : ℕ) (lower upper : Option Span) (h : k < 11) (l : i + n ≤ count_of x k)
    (removed : Changed x a k (take i (ranges_of x k) ++ drop (i + n) (ranges_of x k)))
    (one : Changed a b k (take i (ranges_of a k) ++ (one_or_none upper ++ drop i (ranges_of a k))))
    (two : Changed b z k (take i (ranges_of b k) ++ (one_or_none lower ++ drop i (ranges_of b k)))) where
  pub replaced : Changed x z k (take i (ranges_of x k) ++ (one_or_none lower ++ (one_or_none upper ++ drop (i + n) (ranges_of x k))))
  replaced =
      let fits : i ≤ length (ranges_of x k) = omega (arith, ranges_many x k (omega arith)) in
      let up = at_joint i (ranges_of x k) (ranges_of a k) (one_or_none upper) (drop (i + n) (ranges_of x k)) fits removed.here in
      let both = at_joint i (ranges_of x k) (ranges_of b k) (one_or_none lower) (one_or_none upper ++ drop (i + n) (ranges_of x k)) fits (one.here ∙ up) in
      then_changed x b z k _ _ (then_changed x a b k _ _ removed one) (subst (Changed b z k) both two)
