-- Every cell is at one place of one chain.
use Rattle.std.proofs.Common.{◌≡◌, ℕ, zero, suc, ◌+◌, ◌-◌, ◌<◌, ◌≤◌, ◌⊎◌, List, [], ◌∷◌, ◌++◌, length, get_or, take, drop, sym, refl, ap, ◌∙◌, subst, inl, inr, ⊎_elim, arith, length-append, length-drop}
use Rattle.std.proofs.lemmas.Bool.{cases_eq, cases_order}
use Rattle.std.proofs.lemmas.List.{get_or-drop}
use Rattle.cells.specs.declared.cell.Cell.{Cell}
use Rattle.cells.specs.declared.cell.Ends.{Ends}
use Rattle.cells.specs.Links.{cell, ends, numbers, Linked, OnePlaceEach}
use Rattle.cells.specs.Segs.{Seg, Out, Splits, chain_at, out_or_in, once, out-++, out_left, out_right, parts}
use Rattle.cells.specs.Relinks.{elsewhere, inside}
use Rattle.cells.specs.Totals.{tally, tally_sum}

-- no number twice, and all below n
abbrev Distinct : List ℕ → Type 0
Distinct [] = Unit {0}
Distinct (x ∷ l) = Out x l × Distinct l

abbrev Under : ℕ → List ℕ → Type 0
Under n [] = Unit {0}
Under n (x ∷ l) = (x < n) × Under n l

under-++ : (n : ℕ) (a b : List ℕ) → Under n a → Under n b → Under n (a ++ b)
under-++ n [] b u v = v
under-++ n (x ∷ a) b u v = (u.0, under-++ n a b u.1 v)

under_parts : (n p : ℕ) (a b : List ℕ) → Under n (a ++ p ∷ b) → Under n (a ++ b)
under_parts n p [] b u = u.1
under_parts n p (x ∷ a) b u = (u.0, under_parts n p a b u.1)

-- with the highest number left out
under_less : (n : ℕ) (l : List ℕ) → Under (suc n) l → Out n l → Under n l
under_less n [] u o = tt
under_less n (x ∷ l) u o = (⊎_elim (λ (e : x ≡ n). absurd (o.0 e)) (λ ne. omega (arith, u.0)) (cases_eq x n), under_less n l u.1 o.1)

-- a number taken out of a list that has none twice
taken : (p : ℕ) (a b : List ℕ) → Distinct (a ++ p ∷ b) → Distinct (a ++ b) × Out p (a ++ b)
taken p [] b d = (d.1, d.0)
taken p (x ∷ a) b d =
    let r = taken p a b d.1 in
    ((out-++ x a b (out_left x a (p ∷ b) d.0) (out_right x a (p ∷ b) d.0).1, r.0), (λ e. (out_right x a (p ∷ b) d.0).0 (sym e), r.1))

-- there are not more numbers below n than n
pigeon : (n : ℕ) (l : List ℕ) → Distinct l → Under n l → length l ≤ n
pigeon zero [] d u = omega arith
pigeon zero (x ∷ l) d u = absurd (omega (arith, u.0))
pigeon (suc n) l d u =
    ⊎_elim
    (λ o. omega (arith, pigeon n l d (under_less n l u o)))
    (λ r. less (pigeon n) r.0 r.1.0 r.1.1)
    (out_or_in n l)
  where
    less : ((m : List ℕ) → Distinct m → Under n m → length m ≤ n) → (a b : List ℕ) → l ≡ a ++ n ∷ b → length l ≤ suc n
    less fits a b e =
        let t = taken n a b (subst Distinct e d) in
        let fewer = fits (a ++ b) t.0 (under_less n (a ++ b) (under_parts (suc n) n a b (subst (Under (suc n)) e u)) t.1) in
        omega (arith, ap length e, length-append a (n ∷ b), length-append a b, fewer)

-- two lists that share no number
joined : (a b : List ℕ) → ((p : ℕ) → Splits p a → Out p b) → Distinct a → Distinct b → Distinct (a ++ b)
joined [] b f d e = e
joined (x ∷ a) b f d e = (out-++ x a b d.0 (f x ([], (a, refl))), joined a b (λ p s. f p (x ∷ s.0, (s.1.0, ap (λ t. x ∷ t) s.1.1))) d.1 e)

not_at : (p : ℕ) (l : List ℕ) (i : ℕ) → Out p l → i < length l → get_or l i 0 ≡ p → ⊥
not_at p [] i o h e = absurd (omega arith)
not_at p (x ∷ l) zero o h e = o.0 e
not_at p (x ∷ l) (suc i) o h e = not_at p l i o.1 (omega arith) e

-- where a number stands in a list
place_of : (p : ℕ) (l : List ℕ) → Splits p l → (i : ℕ) × (i < length l) × (get_or l i 0 ≡ p)
place_of p l s = (length s.0, omega (arith, ap length s.1.1, length-append s.0 (p ∷ s.1.0)), ap (λ t. get_or t (length s.0) 0) s.1.1 ∙ at s.0)
  where
    at : (a : List ℕ) → get_or (a ++ p ∷ s.1.0) (length a) 0 ≡ p
    at [] = refl
    at (x ∷ a) = at a

-- the cells of a chain
chain_distinct : (cs : List Cell) (i e : ℕ) (l : List ℕ) → Seg cs i l e → length cs ≤ e → Distinct l × Under (length cs) l
chain_distinct cs i e [] s h = (tt, tt)
chain_distinct cs i e (x ∷ l) s h =
    let r = chain_distinct cs (cell cs x).next e l s.2 h in
    (((once cs i e x [] l s h).1, r.0), (s.1, r.1))

module _ (cs : List Cell) (es : List Ends) (g : Linked cs es) (long : length es ≡ 12) where
  -- the cells of the first n chains
  flat : ℕ → List ℕ
  flat zero = []
  flat (suc n) = numbers cs es n ++ flat n

  flat_out : (n : ℕ) (p : ℕ) → ((k : ℕ) → k < n → Out p (numbers cs es k)) → Out p (flat n)
  unfolding flat
  flat_out zero p f = tt
  flat_out (suc n) p f = out-++ p (numbers cs es n) (flat n) (f n (omega arith)) (flat_out n p (λ k h. f k (omega arith)))

  flat_distinct : (n : ℕ) → n ≤ 12 → Distinct (flat n) × Under (length cs) (flat n)
  unfolding flat
  flat_distinct zero h = (tt, tt)
  flat_distinct (suc n) h =
      let c = chain_at cs es n g (omega arith) in
      let one = chain_distinct cs (ends es n).first c.stop (numbers cs es n) c.seg c.over in
      let rest = flat_distinct n (omega arith) in (
        joined (numbers cs es n) (flat n) (λ p s. flat_out n p (λ k hk. elsewhere cs es n k p g (omega arith) (omega arith) (λ e. omega arith) s)) one.0 rest.0,
        under-++ (length cs) (numbers cs es n) (flat n) one.1 rest.1,
      )

  flat_long : (n : ℕ) → n ≤ 12 → length (flat n) ≡ tally es n
  unfolding flat tally
  flat_long zero h = refl
  flat_long (suc n) h = omega (arith, length-append (numbers cs es n) (flat n), flat_long n (omega arith), (chain_at cs es n g (omega arith)).len)

  flat_all : length (flat 12) ≡ length cs
  flat_all = flat_long 12 (omega arith) ∙ ap (tally es) (sym long) ∙ tally_sum es ∙ g.3

  -- a cell that is on none of the first n chains, or where it is
  search_chains : (p n : ℕ) → n ≤ 12 → ((k : ℕ) → k < n → Out p (numbers cs es k)) ⊎ ((k : ℕ) × (k < 12) × Splits p (numbers cs es k))
  search_chains p zero h = inl (λ k l. absurd (omega arith))
  search_chains p (suc n) h =
      ⊎_elim
      (λ o. ⊎_elim
      (λ f. inl (λ k l. ⊎_elim (λ (e : k ≡ n). subst (λ j. Out p (numbers cs es j)) (sym e) o) (λ ne. f k (omega arith)) (cases_eq k n)))
      inr
      (search_chains p n (omega arith)))
      (λ s. inr (n, omega arith, s))
      (out_or_in p (numbers cs es n))

  many : (k : ℕ) → k < 12 → length (numbers cs es k) ≡ (ends es k).count
  many k h = (chain_at cs es k g h).len

  at_place : (k i : ℕ) → k < 12 → i < (ends es k).count → Splits (get_or (numbers cs es k) i 0) (numbers cs es k)
  at_place k i h l = (take i (numbers cs es k), (drop (i + 1) (numbers cs es k), parts (numbers cs es k) i (omega (arith, many k h))))

  -- no cell twice on one chain
  same_place : (k h i : ℕ) → k < 12 → h < i → i < (ends es k).count → get_or (numbers cs es k) h 0 ≡ get_or (numbers cs es k) i 0 → ⊥
  unfolding at_place
  same_place k h i hk hi l e =
      let c = chain_at cs es k g hk in
      let s = at_place k h hk (omega arith) in
      let o = once cs (ends es k).first c.stop (get_or (numbers cs es k) h 0) s.0 s.1.0 (subst (λ t. Seg cs (ends es k).first t c.stop) s.1.1 c.seg) c.over in
      let z : h + 1 + (i - (h + 1)) ≡ i = omega arith in
      not_at (get_or (numbers cs es k) h 0) (drop (h + 1) (numbers cs es k)) (i - (h + 1)) o.1 (omega (arith, length-drop (h + 1) (numbers cs es k), many k hk))
      (get_or-drop (h + 1) (numbers cs es k) (i - (h + 1)) 0 ∙ ap (λ n. get_or (numbers cs es k) n 0) z ∙ sym e)

  pub one_place_each : OnePlaceEach cs es
  one_place_each = record {
    inside = λ k i h l. inside cs es k i (get_or (numbers cs es k) i 0) g.0 h l refl;
    once = λ j k h i hj hk lh li e. ⊎_elim
        (λ (same : j ≡ k). (
          same,
          ⊎_elim (λ (eq : h ≡ i). eq)
              (⊎_elim
              (λ lt. absurd (same_place k h i hk lt li (ap (λ n. get_or (numbers cs es n) h 0) (sym same) ∙ e)))
              (λ gt. absurd (same_place k i h hk gt (subst (λ n. h < (ends es n).count) same lh) (sym (ap (λ n. get_or (numbers cs es n) h 0) (sym same) ∙ e)))))
              (cases_order h i),
        ))
        (λ ne. absurd (not_at (get_or (numbers cs es j) h 0) (numbers cs es k) i (elsewhere cs es j k (get_or (numbers cs es j) h 0) g hj hk ne (at_place j h hj lh)) (omega (arith, many k hk)) (sym e)))
        (cases_eq j k);
    some = λ p l. ⊎_elim
        (λ f. absurd (omega (arith, pigeon (length cs) (p ∷ flat 12) (flat_out 12 p f, (flat_distinct 12 (omega arith)).0) (l, (flat_distinct 12 (omega arith)).1), flat_all)))
        (λ r. let w = place_of p (numbers cs es r.0) r.2 in (r.0, w.0, r.1, omega (arith, w.1, many r.0 r.1), w.2))
        (search_chains p 12 (omega arith));
  }
