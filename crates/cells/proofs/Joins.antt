-- A range added to ranges in order, by the places of those that it overlaps or adjoins.
use Rattle.std.proofs.Common.{◌≡◌, ℕ, zero, suc, ◌+◌, ◌-◌, ◌<◌, ◌≤◌, min, max, true, false, ltb, List, [], ◌∷◌, ◌++◌, length, take, drop, sym, refl, ap, ◌∙◌, subst, arith}
use Rattle.std.proofs.lemmas.Bool.{lt-ltb, le-ltb, ltb-true, ltb-false, cond-true, cond-false}
use Rattle.store.specs.Ids.{Lawful}
use Rattle.store.specs.Ranges.{Span, place, apart, From, Canonical, with_range}
use Rattle.cells.specs.Places.{at_place, EndingBelow, BeginningWithin}
use Rattle.cells.specs.Finds.{ending_rest, beginning_rest, last_high}

-- a range that ends well below is passed
pass : (lo hi : ℕ) (r : Span) (rs : List Span) → apart r.1 lo ≡ true → with_range lo hi (r ∷ rs) ≡ r ∷ with_range lo hi rs
pass lo hi r rs e = cond-true _ _ _ e

-- before a range that begins well above it stands alone
land : (lo hi : ℕ) (r : Span) (rs : List Span) → apart r.1 lo ≡ false → apart hi r.0 ≡ true → with_range lo hi (r ∷ rs) ≡ (lo, hi) ∷ r ∷ rs
land lo hi r rs e d = cond-false _ _ _ e ∙ cond-true _ _ _ d

-- a range that it overlaps or adjoins becomes one with it
absorb : (lo hi : ℕ) (r : Span) (rs : List Span) → apart r.1 lo ≡ false → apart hi r.0 ≡ false → with_range lo hi (r ∷ rs) ≡ with_range (min lo r.0) (max hi r.1) rs
absorb lo hi r rs e d = cond-false _ _ _ e ∙ cond-false _ _ _ d

-- behind a range r that is absorbed already: n more are absorbed, and the last of them may reach higher
absorb_more : (lo hi hi' : ℕ) (r : Span) (rs : List Span) (n : ℕ) → From (place r.1 + 2) rs → lo ≤ r.1 → ((id : ℕ) → ltb hi' id ≡ apart hi id)
    → n ≤ length rs → ((k : ℕ) → k < n → (at_place rs k).0 ≤ hi') → (n < length rs → hi' < (at_place rs n).0)
    → with_range lo (max hi r.1) rs ≡ (lo, max hi (at_place (r ∷ rs) n).1) ∷ drop n rs
absorb_more lo hi hi' r [] zero f l h b met stops = refl
absorb_more lo hi hi' r [] (suc n) f l h b met stops = absurd (omega arith)
absorb_more lo hi hi' r (q ∷ rs) zero f l h b met stops =
    let far : place hi + 1 < place q.0 = ltb-true _ _ (sym (h q.0) ∙ lt-ltb _ _ (stops (omega arith))) in
    land lo (max hi r.1) q rs (le-ltb _ _ (omega arith)) (lt-ltb _ _ (omega arith))
absorb_more lo hi hi' r (q ∷ rs) (suc n) f l h b met stops =
    let near : place q.0 ≤ place hi + 1 = ltb-false _ _ (sym (h q.0) ∙ le-ltb _ _ (met 0 (omega arith))) in
    let low : min lo q.0 ≡ lo = omega arith in
    let high : max (max hi r.1) q.1 ≡ max hi q.1 = omega arith in
    absorb lo (max hi r.1) q rs (le-ltb _ _ (omega arith)) (le-ltb _ _ (omega arith))
    ∙ ap (λ z. with_range z (max (max hi r.1) q.1) rs) low ∙ ap (λ z. with_range lo z rs) high
    ∙ absorb_more lo hi hi' q rs n f.2 (omega arith) h (omega arith) (λ k a. met (suc k) (omega arith)) (λ a. stops (omega arith))

-- the same from any place on: the ranges before the place i are passed, n are absorbed, and the rest stays
put_from : (m lo hi lo' hi' : ℕ) (rs : List Span) (i n : ℕ) (new : Span) → From m rs → Lawful lo hi → ((id : ℕ) → ltb id lo' ≡ apart id lo) → ((id : ℕ) → ltb hi' id ≡ apart hi id)
    → EndingBelow rs lo' i → BeginningWithin rs hi' i n → (n ≡ 0 → new ≡ (lo, hi)) → (0 < n → new ≡ (min lo (at_place rs i).0, max hi (at_place rs (i + n - 1)).1))
    → with_range lo hi rs ≡ take i rs ++ new ∷ drop (i + n) rs
put_from m lo hi lo' hi' [] zero zero new f l g h u v one many = ap (λ z. z ∷ []) (sym (one refl))
put_from m lo hi lo' hi' [] zero (suc n) new f l g h u v one many = absurd (omega (arith, v.inside))
put_from m lo hi lo' hi' [] (suc i) n new f l g h u v one many = absurd (omega (arith, u.inside))
put_from m lo hi lo' hi' (r ∷ rs) zero zero new f l g h u v one many =
    land lo hi r rs (sym (g r.1) ∙ le-ltb _ _ (u.stops (omega arith))) (sym (h r.0) ∙ lt-ltb _ _ (v.stops (omega arith)))
    ∙ ap (λ z. z ∷ r ∷ rs) (sym (one refl))
put_from m lo hi lo' hi' (r ∷ rs) zero (suc n) new f l g h u v one many =
    let near : place lo ≤ place r.1 + 1 = ltb-false _ _ (sym (g r.1) ∙ le-ltb _ _ (u.stops (omega arith))) in
    let e : 0 + suc n ≡ suc n = omega arith in
    let d : 0 + suc n - 1 ≡ n = omega arith in
    absorb lo hi r rs (le-ltb _ _ near) (sym (h r.0) ∙ le-ltb _ _ (v.met 0 (omega arith) (omega arith)))
    ∙ absorb_more (min lo r.0) hi hi' r rs n f.2 (omega arith) h (omega (arith, v.inside)) (λ k a. v.met (suc k) (omega arith) (omega arith))
    (λ a. subst (λ k. hi' < (at_place (r ∷ rs) k).0) e (v.stops (omega arith)))
    ∙ ap (λ z. z ∷ drop n rs) (sym (many (omega arith) ∙ ap (λ k. (min lo r.0, max hi (at_place (r ∷ rs) k).1)) d))
    ∙ ap (λ k. new ∷ drop k (r ∷ rs)) (sym e)
put_from m lo hi lo' hi' (r ∷ rs) (suc i) n new f l g h u v one many =
    let e : suc i + n ≡ suc (i + n) = omega arith in
    pass lo hi r rs (sym (g r.1) ∙ lt-ltb _ _ (u.passed 0 (omega arith)))
    ∙ ap (λ z. r ∷ z) (put_from (place r.1 + 2) lo hi lo' hi' rs i n new f.2 l g h (ending_rest r rs lo' i u) (beginning_rest r rs hi' i n v) one
    (λ some. let d : suc i + n - 1 ≡ suc (i + n - 1) = omega arith in many some ∙ ap (λ k. (min lo (at_place rs i).0, max hi (at_place (r ∷ rs) k).1)) d))
    ∙ ap (λ k. r ∷ (take i rs ++ new ∷ drop k (r ∷ rs))) (sym e)

-- a range added where n ranges from the place i on touch it: one range in their place
pub put_at : (lo hi lo' hi' : ℕ) (rs : List Span) (i n : ℕ) (new : Span) → Canonical rs → Lawful lo hi → ((id : ℕ) → ltb id lo' ≡ apart id lo) → ((id : ℕ) → ltb hi' id ≡ apart hi id) → EndingBelow rs lo' i → BeginningWithin rs hi' i n → (n ≡ 0 → new ≡ (lo, hi)) → (0 < n → new ≡ (min lo (at_place rs i).0, max hi (at_place rs (i + n - 1)).1)) → with_range lo hi rs ≡ take i rs ++ new ∷ drop (i + n) rs
put_at lo hi lo' hi' rs i n new f l g h u v one many = put_from 0 lo hi lo' hi' rs i n new f l g h u v one many

-- the same as grow_last below, from any place on
grow_from : (m lo hi : ℕ) (rs : List Span) → From m rs → Lawful lo hi → 0 < length rs → (at_place rs (length rs - 1)).0 ≤ lo → apart (at_place rs (length rs - 1)).1 lo ≡ false
    → with_range lo hi rs ≡ take (length rs - 1) rs ++ ((at_place rs (length rs - 1)).0, max (at_place rs (length rs - 1)).1 hi) ∷ []
grow_from m lo hi [] f l some a b = absurd (omega arith)
grow_from m lo hi (r ∷ []) f l some a b =
    let low : min lo r.0 ≡ r.0 = omega arith in
    let high : max hi r.1 ≡ max r.1 hi = omega arith in
    absorb lo hi r [] b (le-ltb _ _ (omega arith)) ∙ ap (λ z. (z, max hi r.1) ∷ []) low ∙ ap (λ z. (r.0, z) ∷ []) high
grow_from m lo hi (r ∷ q ∷ rs) f l some a b =
    let e : length (r ∷ q ∷ rs) - 1 ≡ suc (length (q ∷ rs) - 1) = omega arith in
    let low : (at_place (q ∷ rs) (length (q ∷ rs) - 1)).0 ≤ lo = subst (λ k. (at_place (r ∷ q ∷ rs) k).0 ≤ lo) e a in
    let near : apart (at_place (q ∷ rs) (length (q ∷ rs) - 1)).1 lo ≡ false = subst (λ k. apart (at_place (r ∷ q ∷ rs) k).1 lo ≡ false) e b in
    let t = last_high (place r.1 + 2) (q ∷ rs) 0 f.2 (omega arith) in
    pass lo hi r (q ∷ rs) (lt-ltb _ _ (omega arith)) ∙ ap (λ z. r ∷ z) (grow_from (place r.1 + 2) lo hi (q ∷ rs) f.2 l (omega arith) low near)
    ∙ ap (λ k. take k (r ∷ q ∷ rs) ++ ((at_place (r ∷ q ∷ rs) k).0, max (at_place (r ∷ q ∷ rs) k).1 hi) ∷ []) (sym e)

-- a range added that begins in the last one or right behind it: the last one grows
pub grow_last : (lo hi lo' : ℕ) (rs : List Span) → Canonical rs → Lawful lo hi → ((id : ℕ) → ltb id lo' ≡ apart id lo) → 0 < length rs → (at_place rs (length rs - 1)).0 ≤ lo → lo' ≤ (at_place rs (length rs - 1)).1 → with_range lo hi rs ≡ take (length rs - 1) rs ++ ((at_place rs (length rs - 1)).0, max (at_place rs (length rs - 1)).1 hi) ∷ []
grow_last lo hi lo' rs f l g some a b = grow_from 0 lo hi rs f l some a (sym (g (at_place rs (length rs - 1)).1) ∙ le-ltb _ _ b)
