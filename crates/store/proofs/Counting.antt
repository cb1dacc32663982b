-- The number of ranges of a set, counted by the IDs that are in it while their predecessor of the same replica is not.
use Rattle.std.proofs.Common.{◌≡◌, ℕ, zero, suc, ◌+◌, ◌-◌, ◌%◌, ◌^◌, ◌<◌, ◌≤◌, true, false, cond, not, ◌&&◌, ◌||◌, eqb, ltb, ◌⊎◌, List, [], ◌∷◌, length, sym, refl, ap, ◌∙◌, inl, inr, ⊎_elim, arith}
use mathlib.Core.Path.{fun_ext}
use Rattle.std.proofs.lemmas.Bool.{lt-ltb, le-ltb, eq-eqb, ne_eqb, cases_eq, cases_lt, cases_Bool, both_ways, cond-true, cond-false, cond_both, and_parts, and_from, not-true, not_from_false, or_cases, or_parts, or_left}
use Rattle.std.specs.List.{AllByRecursion}
use Rattle.std.proofs.lemmas.Bool.Decides.{nat_tests}
use Rattle.store.specs.Ids.{Lawful}
use Rattle.store.specs.Ranges.{Span, place, within, has, From, Canonical, goes_before, begins, beginnings}
use Rattle.store.proofs.Members.{none_below}

-- a set whose first range is r, and the set without it
same_beginning : (n : ℕ) (r : Span) (rs : List Span) (id : ℕ) → From n (r ∷ rs) → (id ≡ r.0 → ⊥) → begins (has (r ∷ rs)) id ≡ begins (has rs) id
unfolding begins goes_before
same_beginning n r rs id f ne = ⊎_elim
    (λ (lt : id < r.0).
    let a : within r.0 r.1 id ≡ false = grind (arith, nat_tests) in
    let b : has rs id ≡ false = none_below (place r.1 + 2) rs id f.2 (omega arith) in
    rw (a, b) refl)
    (λ ge. ⊎_elim
    (λ (in_r : id < r.1 + 1).
    let a : within r.0 r.1 id ≡ true = grind (arith, nat_tests) in
    let c : within r.0 r.1 (id - 1) ≡ true = grind (arith, nat_tests) in
    let b : has rs id ≡ false = none_below (place r.1 + 2) rs id f.2 (omega arith) in
    let e : eqb (id % 2 ^ 48) 0 ≡ false = ne_eqb _ _ (omega arith) in
    rw (a, b, c, e) refl)
    (λ out.
    let a : within r.0 r.1 id ≡ false = grind (arith, nat_tests) in
    rw a (past out (cases_eq id (r.1 + 1)) (cases_eq (id % 2 ^ 48) 0)))
    (cases_lt id (r.1 + 1)))
    (cases_lt id r.0)
  where
    past : r.1 + 1 ≤ id → (id ≡ r.1 + 1) ⊎ (id ≡ r.1 + 1 → ⊥) → (id % 2 ^ 48 ≡ 0) ⊎ (id % 2 ^ 48 ≡ 0 → ⊥) → (has rs id && not (cond (eqb (id % 2 ^ 48) 0) false (within r.0 r.1 (id - 1) || has rs (id - 1)))) ≡ (has rs id && not (cond (eqb (id % 2 ^ 48) 0) false (has rs (id - 1))))
    past out (inl is) (inl z) = let e : eqb (id % 2 ^ 48) 0 ≡ true = eq-eqb _ _ z in rw e refl
    past out (inr on) (inl z) = let e : eqb (id % 2 ^ 48) 0 ≡ true = eq-eqb _ _ z in rw e refl
    past out (inl is) (inr z) = let b : has rs id ≡ false = none_below (place r.1 + 2) rs id f.2 (omega arith) in rw b refl
    past out (inr on) (inr z) = let c : within r.0 r.1 (id - 1) ≡ false = grind (arith, nat_tests) in rw c refl

first_begins : (n : ℕ) (r : Span) (rs : List Span) → From n (r ∷ rs) → begins (has (r ∷ rs)) r.0 ≡ true
unfolding begins goes_before
first_begins n r rs f = ⊎_elim
    (λ (z : r.0 % 2 ^ 48 ≡ 0). let e : eqb (r.0 % 2 ^ 48) 0 ≡ true = eq-eqb _ _ z in rw (a, e) refl)
    (λ z.
    let c : within r.0 r.1 (r.0 - 1) ≡ false = grind (arith, nat_tests, f.1.1) in
    let b : has rs (r.0 - 1) ≡ false = none_below (place r.1 + 2) rs (r.0 - 1) f.2 (omega (arith, f.1.1)) in
    let e : eqb (r.0 % 2 ^ 48) 0 ≡ false = ne_eqb _ _ z in
    rw (a, c, b, e) refl)
    (cases_eq (r.0 % 2 ^ 48) 0)
  where
    a : within r.0 r.1 r.0 ≡ true
    a = grind (arith, nat_tests, f.1.1)

rest_begins_later : (n : ℕ) (r : Span) (rs : List Span) → From n (r ∷ rs) → begins (has rs) r.0 ≡ false
unfolding begins goes_before
rest_begins_later n r rs f = let b : has rs r.0 ≡ false = none_below (place r.1 + 2) rs r.0 f.2 (omega (arith, f.1.1)) in rw b refl

past_it : ℕ → ℕ → ℕ
past_it s n = cond (ltb s n) 1 0

beginnings_more : (m : ℕ) (r : Span) (rs : List Span) (n : ℕ) → From m (r ∷ rs) → beginnings (has (r ∷ rs)) n ≡ beginnings (has rs) n + past_it r.0 n
unfolding beginnings past_it
beginnings_more m r rs zero f = omega (arith, cond-false {A = ℕ} (ltb r.0 0) 1 0 (le-ltb r.0 0 (omega arith)))
beginnings_more m r rs (suc n) f =
    let ih = beginnings_more m r rs n f in
    ⊎_elim
    (λ (e : n ≡ r.0).
    let a : begins (has (r ∷ rs)) n ≡ true = ap (begins (has (r ∷ rs))) e ∙ first_begins m r rs f in
    let b : begins (has rs) n ≡ false = ap (begins (has rs)) e ∙ rest_begins_later m r rs f in
    omega (arith, ih, cond-true {A = ℕ} (begins (has (r ∷ rs)) n) 1 0 a, cond-false {A = ℕ} (begins (has rs) n) 1 0 b, cond-true {A = ℕ} (ltb r.0 (suc n)) 1 0 (lt-ltb _ _ (omega arith)), cond-false {A = ℕ} (ltb r.0 n) 1 0 (le-ltb _ _ (omega arith))))
    (λ ne.
    let a = ap (λ b. cond {A = ℕ} b 1 0) (same_beginning m r rs n f ne) in
    let t : past_it r.0 (suc n) ≡ past_it r.0 n = ⊎_elim (λ l. cond-true {A = ℕ} (ltb r.0 (suc n)) 1 0 (lt-ltb _ _ (omega arith)) ∙ sym (cond-true {A = ℕ} (ltb r.0 n) 1 0 (lt-ltb _ _ l))) (λ l. cond-false {A = ℕ} (ltb r.0 (suc n)) 1 0 (le-ltb _ _ (omega arith)) ∙ sym (cond-false {A = ℕ} (ltb r.0 n) 1 0 (le-ltb _ _ l))) (cases_lt r.0 n) in
    omega (arith, ih, a, t))
    (cases_eq n r.0)

no_beginnings : (n : ℕ) → beginnings (has []) n ≡ 0
unfolding beginnings begins
no_beginnings zero = refl
no_beginnings (suc n) = omega (arith, no_beginnings n)

-- the length of a canonical list is the number of IDs that begin a range
pub counted : (m n : ℕ) (rs : List Span) → From m rs → 2 ^ 64 ≤ n → length rs ≡ beginnings (has rs) n
unfolding past_it
counted m n [] f h = sym (no_beginnings n)
counted m n (r ∷ rs) f h =
    let lt : r.0 < n = omega arith in
    let one : past_it r.0 n ≡ 1 = cond-true _ _ _ (lt-ltb _ _ lt) in
    let more = beginnings_more m r rs n f in
    let rest = counted (place r.1 + 2) n rs f.2 h in
    omega (arith, one, more, rest)

-- an ID that begins a range of the union begins the range r or one of the others
begins_in_one : (r : Span) (rs : List Span) (id : ℕ) → Lawful r.0 r.1 → (id ≡ r.0 → ⊥) → begins (has (r ∷ rs)) id ≡ true → begins (has rs) id ≡ true
unfolding begins goes_before
begins_in_one r rs id l ne h =
    let p = and_parts (within r.0 r.1 id || has rs id) _ h in
    let before = not-true _ p.1 in
    ⊎_elim
    (λ (w : within r.0 r.1 id ≡ true).
    let b : (r.0 < id) × (id ≤ r.1) = grind (arith, nat_tests) in
    let z : eqb (id % 2 ^ 48) 0 ≡ false = ne_eqb _ _ (omega arith) in
    let v : within r.0 r.1 (id - 1) ≡ true = grind (arith, nat_tests) in
    absurd (both_ways _ before (cond-false _ _ _ z ∙ or_left _ _ v)))
    (λ w.
    let i : has rs id ≡ true = ⊎_elim (λ v. absurd (both_ways _ w v)) (λ v. v) (or_cases _ _ p.0) in
    and_from _ _ i (not_from_false _ (cond_both (eqb (id % 2 ^ 48) 0) false (has rs (id - 1)) (λ b. b ≡ false) (λ _. refl) (λ z. (or_parts _ _ (sym (cond-false _ _ _ z) ∙ before)).1))))
    (cases_Bool (within r.0 r.1 id))

one_more_at_most : (r : Span) (rs : List Span) (n : ℕ) → Lawful r.0 r.1 → beginnings (has (r ∷ rs)) n ≤ beginnings (has rs) n + past_it r.0 n
unfolding beginnings past_it
one_more_at_most r rs zero l = omega arith
one_more_at_most r rs (suc n) l =
    let ih = one_more_at_most r rs n l in
    ⊎_elim
    (λ (e : n ≡ r.0).
    let a : cond {A = ℕ} (begins (has (r ∷ rs)) n) 1 0 ≤ 1 = cond_both {A = ℕ} (begins (has (r ∷ rs)) n) 1 0 (λ k. k ≤ 1) (λ _. omega arith) (λ _. omega arith) in
    omega (arith, ih, a, cond-true {A = ℕ} (ltb r.0 (suc n)) 1 0 (lt-ltb _ _ (omega arith)), cond-false {A = ℕ} (ltb r.0 n) 1 0 (le-ltb _ _ (omega arith))))
    (λ ne.
    let a : cond {A = ℕ} (begins (has (r ∷ rs)) n) 1 0 ≤ cond {A = ℕ} (begins (has rs) n) 1 0 = cond_both {A = ℕ} (begins (has (r ∷ rs)) n) 1 0 (λ k. k ≤ cond {A = ℕ} (begins (has rs) n) 1 0)
    (λ b. omega (arith, cond-true {A = ℕ} (begins (has rs) n) 1 0 (begins_in_one r rs n l ne b))) (λ _. omega arith) in
    let t : past_it r.0 n ≤ past_it r.0 (suc n) = ⊎_elim (λ b. omega (arith, cond-true {A = ℕ} (ltb r.0 (suc n)) 1 0 (lt-ltb _ _ (omega arith)), cond-true {A = ℕ} (ltb r.0 n) 1 0 (lt-ltb _ _ b))) (λ b. omega (arith, cond-false {A = ℕ} (ltb r.0 n) 1 0 (le-ltb _ _ b))) (cases_lt r.0 n) in
    omega (arith, ih, a, t))
    (cases_eq n r.0)

-- ranges that need not be maximal are no fewer than the IDs that begin a range
at_least_beginnings : (n : ℕ) (qs : List Span) → AllByRecursion (λ q. Lawful q.0 q.1) qs → beginnings (has qs) n ≤ length qs
unfolding past_it
at_least_beginnings n [] l = omega (arith, no_beginnings n)
at_least_beginnings n (q ∷ qs) l =
    let one : past_it q.0 n ≤ 1 = cond_both {A = ℕ} (ltb q.0 n) 1 0 (λ k. k ≤ 1) (λ _. omega arith) (λ _. omega arith) in
    omega (arith, one, one_more_at_most q qs n l.0, at_least_beginnings n qs l.1)

fewest_below : (n : ℕ) → 2 ^ 64 ≤ n → (rs qs : List Span) → Canonical rs → AllByRecursion (λ q. Lawful q.0 q.1) qs → ((id : ℕ) → has rs id ≡ has qs id) → length rs ≤ length qs
fewest_below n h rs qs f l e = omega (arith, counted 0 n rs f h, ap (λ g. beginnings g n) (fun_ext e), at_least_beginnings n qs l)

pub fewest : (rs qs : List Span) → Canonical rs → AllByRecursion (λ q. Lawful q.0 q.1) qs → ((id : ℕ) → has rs id ≡ has qs id) → length rs ≤ length qs
fewest = fewest_below (2 ^ 64) (omega arith)
