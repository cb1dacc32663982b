-- A range removed from ranges in order, by the places of those that it overlaps.
use Rattle.std.proofs.Common.{◌≡◌, ℕ, zero, suc, ◌+◌, ◌-◌, ◌<◌, ◌≤◌, min, max, cond, ltb, List, [], ◌∷◌, ◌++◌, length, take, drop, sym, refl, ap, ◌∙◌, subst, arith}
use Rattle.std.proofs.lemmas.Bool.{lt-ltb, le-ltb, cond-true, cond-false}
use Rattle.store.specs.Ids.{Lawful}
use Rattle.store.specs.Ranges.{Span, place, From, Canonical, part_below, part_above, without_range}
use Rattle.cells.specs.Places.{at_place, EndingBelow, BeginningWithin}
use Rattle.cells.specs.Finds.{ending_rest, beginning_rest}

-- what is left below of an overlapped range that begins at a
abbrev lower : ℕ → ℕ → List Span
lower lo a = cond (ltb a lo) ((a, lo - 1) ∷ []) []

-- what is left above of an overlapped range that ends at b
abbrev upper : ℕ → ℕ → List Span
upper hi b = cond (ltb hi b) ((hi + 1, b) ∷ []) []

-- a first range of which the parts are known
parted : (lo hi : ℕ) (r : Span) (rs below above : List Span) → part_below lo r ≡ below → part_above hi r ≡ above → without_range lo hi (r ∷ rs) ≡ below ++ (above ++ without_range lo hi rs)
parted lo hi r rs below above a b = ap (λ z. z ++ (part_above hi r ++ without_range lo hi rs)) a ∙ ap (λ z. below ++ (z ++ without_range lo hi rs)) b

-- a range that ends below stays
pass : (lo hi : ℕ) (r : Span) (rs : List Span) → r.0 ≤ r.1 → r.1 < lo → lo ≤ hi → without_range lo hi (r ∷ rs) ≡ r ∷ without_range lo hi rs
pass lo hi r rs s h l =
    let top : min r.1 (lo - 1) ≡ r.1 = omega arith in
    parted lo hi r rs (r ∷ []) [] (cond-true _ _ _ (lt-ltb r.0 lo (omega arith)) ∙ ap (λ z. (r.0, z) ∷ []) top) (cond-false _ _ _ (le-ltb hi r.1 (omega arith)))

-- the lower part of a range that does not end below
below_is : (lo : ℕ) (r : Span) → lo ≤ r.1 → part_below lo r ≡ lower lo r.0
below_is lo r h = let top : min r.1 (lo - 1) ≡ lo - 1 = omega arith in ap (λ z. cond (ltb r.0 lo) ((r.0, z) ∷ []) []) top

-- the upper part of a range that does not begin above
above_is : (hi : ℕ) (r : Span) → r.0 ≤ hi → part_above hi r ≡ upper hi r.1
above_is hi r h = let low : max r.0 (hi + 1) ≡ hi + 1 = omega arith in ap (λ z. cond (ltb hi r.1) ((z, r.1) ∷ []) []) low

-- ranges that begin above stay
stay : (m lo hi : ℕ) (rs : List Span) → From m rs → lo ≤ hi → (0 < length rs → hi < (at_place rs 0).0) → without_range lo hi rs ≡ rs
stay m lo hi [] f l h = refl
stay m lo hi (r ∷ rs) f l h =
    let far : hi < r.0 = h (omega arith) in
    let low : max r.0 (hi + 1) ≡ r.0 = omega arith in
    parted lo hi r rs [] (r ∷ []) (cond-false _ _ _ (le-ltb r.0 lo (omega arith))) (cond-true _ _ _ (lt-ltb hi r.1 (omega arith)) ∙ ap (λ z. (z, r.1) ∷ []) low)
    ∙ ap (λ z. r ∷ z) (stay (place r.1 + 2) lo hi rs f.2 l (rest rs f.2))
  where
    rest : (qs : List Span) → From (place r.1 + 2) qs → 0 < length qs → hi < (at_place qs 0).0
    rest [] g some = absurd (omega arith)
    rest (q ∷ qs) g some = omega (arith, h (omega arith))

-- behind a range r that is overlapped: n more are, and only the last of them can leave an upper part
cut_more : (lo hi : ℕ) (r : Span) (rs : List Span) (n : ℕ) → From (place r.1 + 2) rs → lo ≤ r.1 → lo ≤ hi
    → n ≤ length rs → ((k : ℕ) → k < n → (at_place rs k).0 ≤ hi) → (n < length rs → hi < (at_place rs n).0)
    → upper hi r.1 ++ without_range lo hi rs ≡ upper hi (at_place (r ∷ rs) n).1 ++ drop n rs
cut_more lo hi r rs zero f a l b met stops = ap (λ z. upper hi r.1 ++ z) (stay (place r.1 + 2) lo hi rs f l stops)
cut_more lo hi r [] (suc n) f a l b met stops = absurd (omega arith)
cut_more lo hi r (q ∷ rs) (suc n) f a l b met stops =
    let near : q.0 ≤ hi = met 0 (omega arith) in
    let whole : upper hi r.1 ≡ [] = cond-false _ _ _ (le-ltb hi r.1 (omega arith)) in
    ap (λ z. z ++ without_range lo hi (q ∷ rs)) whole
    ∙ parted lo hi q rs [] (upper hi q.1) (cond-false _ _ _ (le-ltb q.0 lo (omega arith))) (above_is hi q near)
    ∙ cut_more lo hi q rs n f.2 (omega arith) l (omega arith) (λ k h. met (suc k) (omega arith)) (λ h. stops (omega arith))

-- the same as take_at below, from any place on
take_from : (m lo hi : ℕ) (rs : List Span) (i n : ℕ) → From m rs → lo ≤ hi → EndingBelow rs lo i → BeginningWithin rs hi i n → 0 < n
    → without_range lo hi rs ≡ take i rs ++ (lower lo (at_place rs i).0 ++ (upper hi (at_place rs (i + n - 1)).1 ++ drop (i + n) rs))
take_from m lo hi [] i n f l u v some = absurd (omega (arith, v.inside))
take_from m lo hi (r ∷ rs) zero zero f l u v some = absurd (omega arith)
take_from m lo hi (r ∷ rs) zero (suc n) f l u v some =
    let e : 0 + suc n ≡ suc n = omega arith in
    let d : 0 + suc n - 1 ≡ n = omega arith in
    let reach : lo ≤ r.1 = u.stops (omega arith) in
    parted lo hi r rs (lower lo r.0) (upper hi r.1) (below_is lo r reach) (above_is hi r (v.met 0 (omega arith) (omega arith)))
    ∙ ap (λ z. lower lo r.0 ++ z) (cut_more lo hi r rs n f.2 reach l (omega (arith, v.inside)) (λ k h. v.met (suc k) (omega arith) (omega arith))
    (λ h. subst (λ k. hi < (at_place (r ∷ rs) k).0) e (v.stops (omega arith))))
    ∙ ap (λ k. lower lo r.0 ++ (upper hi (at_place (r ∷ rs) k).1 ++ drop n rs)) (sym d)
    ∙ ap (λ k. lower lo r.0 ++ (upper hi (at_place (r ∷ rs) (0 + suc n - 1)).1 ++ drop k (r ∷ rs))) (sym e)
take_from m lo hi (r ∷ rs) (suc i) n f l u v some =
    let e : suc i + n ≡ suc (i + n) = omega arith in
    let d : suc i + n - 1 ≡ suc (i + n - 1) = omega arith in
    pass lo hi r rs f.1.1 (u.passed 0 (omega arith)) l
    ∙ ap (λ z. r ∷ z) (take_from (place r.1 + 2) lo hi rs i n f.2 l (ending_rest r rs lo i u) (beginning_rest r rs hi i n v) some)
    ∙ ap (λ k. r ∷ (take i rs ++ (lower lo (at_place rs i).0 ++ (upper hi (at_place (r ∷ rs) k).1 ++ drop (i + n) rs)))) (sym d)
    ∙ ap (λ k. r ∷ (take i rs ++ (lower lo (at_place rs i).0 ++ (upper hi (at_place (r ∷ rs) (suc i + n - 1)).1 ++ drop k (r ∷ rs))))) (sym e)

-- a range removed that overlaps n ranges from the place i on: the first can leave a lower part and the last an upper one
pub take_at : (lo hi : ℕ) (rs : List Span) (i n : ℕ) → Canonical rs → Lawful lo hi → EndingBelow rs lo i → BeginningWithin rs hi i n → 0 < n → without_range lo hi rs ≡ take i rs ++ (cond (ltb (at_place rs i).0 lo) (((at_place rs i).0, lo - 1) ∷ []) [] ++ (cond (ltb hi (at_place rs (i + n - 1)).1) ((hi + 1, (at_place rs (i + n - 1)).1) ∷ []) [] ++ drop (i + n) rs))
take_at lo hi rs i n f l u v some = take_from 0 lo hi rs i n f l.1 u v some

-- the same as take_nothing below, from any place on
none_from : (m lo hi : ℕ) (rs : List Span) (i : ℕ) → From m rs → lo ≤ hi → EndingBelow rs lo i → BeginningWithin rs hi i 0 → without_range lo hi rs ≡ rs
none_from m lo hi rs zero f l u v = stay m lo hi rs f l v.stops
none_from m lo hi [] (suc i) f l u v = refl
none_from m lo hi (r ∷ rs) (suc i) f l u v =
    pass lo hi r rs f.1.1 (u.passed 0 (omega arith)) l
    ∙ ap (λ z. r ∷ z) (none_from (place r.1 + 2) lo hi rs i f.2 l (ending_rest r rs lo i u) (beginning_rest r rs hi i 0 v))

-- a range removed that overlaps none: nothing changes
pub take_nothing : (lo hi : ℕ) (rs : List Span) (i n : ℕ) → Canonical rs → Lawful lo hi → EndingBelow rs lo i → BeginningWithin rs hi i n → n ≡ 0 → without_range lo hi rs ≡ rs
take_nothing lo hi rs i n f l u v e = none_from 0 lo hi rs i f l.1 u (subst (BeginningWithin rs hi i) e v)
