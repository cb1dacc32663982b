-- What is in a list of ranges, and that its members determine a canonical list.
use Rattle.std.proofs.Common.{◌≡◌, ℕ, ◌+◌, ◌/◌, ◌^◌, ◌<◌, ◌≤◌, Bool, true, false, ◌||◌, List, [], ◌∷◌, ◌++◌, sym, refl, ap, ◌∙◌, ⊎_elim, arith}
use Rattle.std.proofs.lemmas.Bool.{cases_order, cases_lt, both_ways, or_cases}
use Rattle.std.proofs.lemmas.Bool.Decides.{nat_tests}
use Rattle.store.specs.Ranges.{Span, place, within, has, From}

pub or_assoc : (x y z : Bool) → (x || (y || z)) ≡ ((x || y) || z)
or_assoc true y z = refl
or_assoc false y z = refl

pub or_comm : (x y : Bool) → (x || y) ≡ (y || x)
or_comm true true = refl
or_comm true false = refl
or_comm false true = refl
or_comm false false = refl

pub has-++ : (xs ys : List Span) (id : ℕ) → has (xs ++ ys) id ≡ (has xs id || has ys id)
has-++ [] ys id = refl
has-++ (x ∷ xs) ys id = ap (λ b. within x.0 x.1 id || b) (has-++ xs ys id) ∙ or_assoc (within x.0 x.1 id) (has xs id) (has ys id)

pub weaker : (n m : ℕ) (rs : List Span) → n ≤ m → From m rs → From n rs
weaker n m [] h f = tt
weaker n m (r ∷ rs) h f = (omega arith, f.1, f.2)

-- nothing is in the set below its first range
pub none_below : (n : ℕ) (rs : List Span) (id : ℕ) → From n rs → place id < n → has rs id ≡ false
none_below n [] id f h = refl
none_below n (r ∷ rs) id f h =
    let e : within r.0 r.1 id ≡ false = grind (arith, nat_tests) in
    rw e (none_below (place r.1 + 2) rs id f.2 (omega arith))

pub first_is_in : (r : Span) (rs : List Span) → r.0 ≤ r.1 → has (r ∷ rs) r.0 ≡ true
first_is_in r rs h = let e : within r.0 r.1 r.0 ≡ true = grind (arith, nat_tests) in rw e refl

-- the neighbour past the end of the first range is not in the set
pub none_after_first : (n : ℕ) (r : Span) (rs : List Span) → From n (r ∷ rs) → (r.1 + 1) / 2 ^ 48 ≡ r.1 / 2 ^ 48 → has (r ∷ rs) (r.1 + 1) ≡ false
none_after_first n r rs f same =
    let out : within r.0 r.1 (r.1 + 1) ≡ false = grind (arith, nat_tests) in
    rw out (none_below (place r.1 + 2) rs (r.1 + 1) f.2 (omega arith))

pub only_ids : (n : ℕ) (rs : List Span) → From n rs → (id : ℕ) → has rs id ≡ true → (2 ^ 48 ≤ id) × (id < 2 ^ 64)
only_ids n [] f id h = absurd (both_ways false refl h)
only_ids n (r ∷ rs) f id h =
    ⊎_elim
    (λ (w : within r.0 r.1 id ≡ true). let l : (r.0 ≤ id) × (id ≤ r.1) = grind (arith, nat_tests) in omega arith)
    (λ w. only_ids (place r.1 + 2) rs f.2 id w)
    (or_cases (within r.0 r.1 id) (has rs id) h)

-- two sets with the same members, each with a first range
module _ (n m : ℕ) (r q : Span) (rs qs : List Span) (f : From n (r ∷ rs)) (g : From m (q ∷ qs)) (e : (id : ℕ) → has (r ∷ rs) id ≡ has (q ∷ qs) id) where
  no_less : r.0 < q.0 → ⊥
  no_less h =
      let none : has (q ∷ qs) r.0 ≡ false = none_below (place q.0) (q ∷ qs) r.0 (omega arith, g.1, g.2) (omega arith) in
      both_ways _ none (sym (e r.0) ∙ first_is_in r rs f.1.1)

  no_shorter : r.0 ≡ q.0 → r.1 < q.1 → ⊥
  no_shorter s h =
      let inside : within q.0 q.1 (r.1 + 1) ≡ true = grind (arith, nat_tests, f.1.1) in
      let there : has (q ∷ qs) (r.1 + 1) ≡ true = rw inside refl in
      both_ways _ (none_after_first n r rs f (omega arith)) (e (r.1 + 1) ∙ there)

  same_rest : r.0 ≡ q.0 → r.1 ≡ q.1 → (id : ℕ) → has rs id ≡ has qs id
  same_rest s t id =
      ⊎_elim
      (λ low. none_below (place r.1 + 2) rs id f.2 (omega arith) ∙ sym (none_below (place q.1 + 2) qs id g.2 (omega arith)))
      (λ high.
      let out : within r.0 r.1 id ≡ false = grind (arith, nat_tests) in
      let gone : within q.0 q.1 id ≡ false = grind (arith, nat_tests) in
      rw (out, gone) at (e id))
      (cases_lt id (r.1 + 1))

module _ (n m : ℕ) (r q : Span) (rs qs : List Span) (f : From n (r ∷ rs)) (g : From m (q ∷ qs)) (e : (id : ℕ) → has (r ∷ rs) id ≡ has (q ∷ qs) id) where
  same_low : r.0 ≡ q.0
  same_low =
      ⊎_elim (λ p. p) (⊎_elim (λ p. absurd (no_less n m r q rs qs f g e p)) (λ p. absurd (no_less m n q r qs rs g f (λ id. sym (e id)) p))) (cases_order r.0 q.0)

  same_high : r.0 ≡ q.0 → r.1 ≡ q.1
  same_high s =
      ⊎_elim (λ p. p) (⊎_elim (λ p. absurd (no_shorter n m r q rs qs f g e s p)) (λ p. absurd (no_shorter m n q r qs rs g f (λ id. sym (e id)) (sym s) p))) (cases_order r.1 q.1)

pub one_list : (n m : ℕ) (rs qs : List Span) → From n rs → From m qs → ((id : ℕ) → has rs id ≡ has qs id) → rs ≡ qs
one_list n m [] [] f g e = refl
one_list n m [] (q ∷ qs) f g e = absurd (both_ways _ (sym (e q.0)) (first_is_in q qs g.1.1))
one_list n m (r ∷ rs) [] f g e = absurd (both_ways _ (e r.0) (first_is_in r rs f.1.1))
one_list n m (r ∷ rs) (q ∷ qs) f g e =
    let s = same_low n m r q rs qs f g e in
    let t = same_high n m r q rs qs f g e s in
    let rest = one_list (place r.1 + 2) (place q.1 + 2) rs qs f.2 g.2 (same_rest n m r q rs qs f g e s t) in
    λ i. (s i, t i) ∷ rest i
