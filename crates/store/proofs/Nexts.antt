-- What the lowest range not below a number is among the members.
use Rattle.std.proofs.Common.{◌≡◌, ℕ, ◌+◌, ◌-◌, ◌<◌, ◌≤◌, false, ltb, List, [], ◌∷◌, IfSome, Some, None, Option, sym, refl, ◌∙◌, ⊎_elim, arith}
use Rattle.std.proofs.lemmas.Bool.{or_left, or_right, or_from, cases_eq, eq-eqb, ne_eqb, ltb-true, ltb-false, cond_both, cond-true, cond-false}
use Rattle.std.proofs.lemmas.Bool.Decides.{nat_tests}
use Rattle.store.specs.Ids.{counter, Lawful}
use Rattle.store.specs.Ranges.{Span, place, within, has, From, next_range, goes_before, LowestNotBelow, LowestOrNone}
use Rattle.store.proofs.Members.{none_below, none_after_first}

-- the ID before the first of a range is not in the set
before_first : (n : ℕ) (r : Span) (rs : List Span) → From n (r ∷ rs) → goes_before (has (r ∷ rs)) r.0 ≡ false
unfolding goes_before
before_first n r rs f = ⊎_elim
    (λ (z : counter r.0 ≡ 0). cond-true _ _ _ (eq-eqb _ _ z))
    (λ z.
    let out : within r.0 r.1 (r.0 - 1) ≡ false = grind (arith, nat_tests, f.1.0) in
    cond-false _ _ _ (ne_eqb _ _ z) ∙ or_from _ _ out (none_below (place r.1 + 2) rs (r.0 - 1) f.2 (omega arith)))
    (cases_eq (counter r.0) 0)

-- a range further on keeps what it is when a lower one stands before it
module _ (n k : ℕ) (r q : Span) (rs : List Span) (f : From n (r ∷ rs)) (lt : r.1 < k) (apart : place r.1 + 2 ≤ place q.0) (fine : Lawful q.0 q.1) (old : LowestNotBelow rs k q) where
  lowest_after : LowestNotBelow (r ∷ rs) k q
  unfolding goes_before
  lowest_after = record {
    lawful = fine;
    reaches = old.reaches;
    whole = λ id w. or_right _ _ (old.whole id w);
    begins_here = ⊎_elim
        (λ (z : counter q.0 ≡ 0). cond-true _ _ _ (eq-eqb _ _ z))
        (λ z.
        let out : within r.0 r.1 (q.0 - 1) ≡ false = grind (arith, nat_tests, f.1) in
        cond-false _ _ _ (ne_eqb _ _ z) ∙ or_from _ _ out (sym (cond-false _ _ _ (ne_eqb _ _ z)) ∙ old.begins_here))
        (cases_eq (counter q.0) 0);
    ends_here = λ e.
        let out : within r.0 r.1 (q.1 + 1) ≡ false = grind (arith, nat_tests, f.1) in
        or_from _ _ out (old.ends_here e);
    none_lower = λ id h l.
        let out : within r.0 r.1 id ≡ false = grind (arith, nat_tests) in
        or_from _ _ out (old.none_lower id h l);
  }

-- the answer is one of the ranges: at the place n or later, and lawful
pub next_is_one : (n : ℕ) (rs : List Span) (k : ℕ) → From n rs → IfSome (next_range rs k) (λ q. (n ≤ place q.0) × Lawful q.0 q.1)
next_is_one n [] k f = tt
next_is_one n (r ∷ rs) k f =
    cond_both (ltb r.1 k) (next_range rs k) (Some r) (λ o. IfSome o (λ q. (n ≤ place q.0) × Lawful q.0 q.1))
    (λ _. later (next_range rs k) (next_is_one (place r.1 + 2) rs k f.2))
    (λ _. (f.0, f.1))
  where
    later : (o : Option Span) → IfSome o (λ q. (place r.1 + 2 ≤ place q.0) × Lawful q.0 q.1) → IfSome o (λ q. (n ≤ place q.0) × Lawful q.0 q.1)
    later None h = tt
    later (Some q) h = (omega arith, h.1)

pub next_is_lowest : (n : ℕ) (rs : List Span) (k : ℕ) → From n rs → LowestOrNone rs k (next_range rs k)
next_is_lowest n [] k f = λ id h. refl
next_is_lowest n (r ∷ rs) k f =
    cond_both (ltb r.1 k) (next_range rs k) (Some r) (LowestOrNone (r ∷ rs) k)
    (λ e. later (ltb-true _ _ e) (next_range rs k) (next_is_one (place r.1 + 2) rs k f.2) (next_is_lowest (place r.1 + 2) rs k f.2))
    (λ e. record {
      lawful = f.1;
      reaches = ltb-false _ _ e;
      whole = λ id w. or_left _ _ w;
      begins_here = before_first n r rs f;
      ends_here = λ same. none_after_first n r rs f same;
      none_lower = λ id h l. none_below (place r.0) (r ∷ rs) id (omega arith, f.1, f.2) (omega arith);
    })
  where
    later : r.1 < k → (o : Option Span) → IfSome o (λ q. (place r.1 + 2 ≤ place q.0) × Lawful q.0 q.1) → LowestOrNone rs k o → LowestOrNone (r ∷ rs) k o
    later lt None one old = λ id h. let out : within r.0 r.1 id ≡ false = grind (arith, nat_tests) in or_from _ _ out (old id h)
    later lt (Some q) one old = lowest_after n k r q rs f lt one.0 one.1 old
