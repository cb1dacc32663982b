-- The spots that rows cover on the line of all labels and IDs, and that these alone decide what the rows stand for.
use Rattle.std.proofs.Common.{◌≡◌, ℕ, zero, suc, ◌+◌, ◌^◌, ◌<◌, ◌≤◌, Bool, true, false, cond, ◌&&◌, ◌||◌, eqb, ◌⊎◌, List, [], ◌∷◌, ◌++◌, length, get_or, take, drop, sym, refl, ap, ◌∙◌, inl, inr, ⊎_elim, arith, take-append-drop}
use Rattle.std.specs.List.{AllByRecursion}
use Rattle.std.proofs.lemmas.Bool.{both_ways, cases_Bool, cases_lt, or_cases, or_left, or_right, eq-eqb, ne_eqb, eqb-true, eqb-false}
use Rattle.std.proofs.lemmas.Bool.Decides.{nat_tests}
use Rattle.std.proofs.lemmas.List.{take-take}
use Rattle.store.specs.Ids.{Lawful}
use Rattle.store.specs.Ranges.{Span, within, has, Canonical}
use Rattle.store.proofs.Members.{or_assoc, one_list, only_ids}
use Rattle.rows.specs.declared.row.Row.{Row}
use Rattle.rows.specs.Rows.{spot, begins_at, ends_at, Fair, Rising, ranges}
use Rattle.rows.specs.Tables.{Changed}
use Rattle.rows.specs.Spots.{ranges_canonical}

abbrev pub covers : List Row → ℕ → Bool
covers [] p = false
covers (r ∷ rs) p = within (begins_at r) (ends_at r) p || covers rs p

pub covers-++ : (xs ys : List Row) (p : ℕ) → covers (xs ++ ys) p ≡ (covers xs p || covers ys p)
covers-++ [] ys p = refl
covers-++ (x ∷ xs) ys p = ap (λ b. within (begins_at x) (ends_at x) p || b) (covers-++ xs ys p) ∙ or_assoc (within (begins_at x) (ends_at x) p) (covers xs p) (covers ys p)

-- a row covers an ID's spot exactly if the ID is in its range, under its label
pub spot_in_row : (r : Row) (s id : ℕ) → Fair r → id < 2 ^ 64 → within (begins_at r) (ends_at r) (spot s id) ≡ (eqb r.label s && within r.low r.high id)
spot_in_row r s id f h = ⊎_elim
    (λ (e : r.label ≡ s). let t : eqb r.label s ≡ true = eq-eqb _ _ e in rw t (same e))
    (λ ne. let t : eqb r.label s ≡ false = ne_eqb _ _ ne in rw t (other ne))
    (cases_label r.label s)
  where
    cases_label : (a b : ℕ) → (a ≡ b) ⊎ (a ≡ b → ⊥)
    cases_label a b = ⊎_elim (λ e. inl (eqb-true a b e)) (λ e. inr (eqb-false a b e)) (cases_Bool (eqb a b))

    same : r.label ≡ s → within (begins_at r) (ends_at r) (spot s id) ≡ within r.low r.high id
    same e = grind (arith, nat_tests)

    other : (r.label ≡ s → ⊥) → within (begins_at r) (ends_at r) (spot s id) ≡ false
    other ne = ⊎_elim
        (λ lt. let k : spot s id < begins_at r = omega (arith, f.1) in grind (arith, nat_tests))
        (λ ge. let k : ends_at r < spot s id = omega (arith, f.1) in grind (arith, nat_tests))
        (cases_lt s r.label)

-- the same of a range's own spots
pub spot_in_range : (g lo hi t id : ℕ) → g < 11 → Lawful lo hi → id < 2 ^ 64 → within (spot g lo) (spot g hi) (spot t id) ≡ (eqb g t && within lo hi id)
spot_in_range g lo hi t id small law h = spot_in_row (record { label = g; low = lo; high = hi }) t id (small, law) h

pub has_by_spot : (n s id : ℕ) (rs : List Row) → Rising n rs → id < 2 ^ 64 → has (ranges s rs) id ≡ covers rs (spot s id)
has_by_spot n s id [] f h = refl
has_by_spot n s id (r ∷ rs) f h =
    first (eqb r.label s) ∙ ap (λ b. b || has (ranges s rs) id) (sym (spot_in_row r s id f.1 h)) ∙ ap (λ b. within (begins_at r) (ends_at r) (spot s id) || b) (has_by_spot (ends_at r + 2) s id rs f.2 h)
  where
    first : (b : Bool) → has (cond b ((r.low, r.high) ∷ ranges s rs) (ranges s rs)) id ≡ ((b && within r.low r.high id) || has (ranges s rs) id)
    first true = refl
    first false = refl

-- canonical lists that agree on the IDs there can be are one
one_list_of_ids : (rs qs : List Span) → Canonical rs → Canonical qs → ((id : ℕ) → id < 2 ^ 64 → has rs id ≡ has qs id) → rs ≡ qs
one_list_of_ids rs qs f g same = one_list 0 0 rs qs f g (λ id. ⊎_elim (same id) (λ ge. none rs f id ge ∙ sym (none qs g id ge)) (cases_lt id (2 ^ 64)))
  where
    none : (l : List Span) → Canonical l → (id : ℕ) → 2 ^ 64 ≤ id → has l id ≡ false
    none l c id ge = ⊎_elim (λ yes'. absurd (omega (arith, only_ids 0 l c id yes'))) (λ n. n) (cases_Bool (has l id))

-- rows in order whose spots are those of the wanted ranges under one label, and as before under every other
pub changed : (rs qs : List Row) (s : ℕ) (wanted : List Span) → Rising 0 rs → Rising 0 qs → Canonical wanted
    → ((id : ℕ) → id < 2 ^ 64 → covers qs (spot s id) ≡ has wanted id)
    → ((t id : ℕ) → (t ≡ s → ⊥) → id < 2 ^ 64 → covers qs (spot t id) ≡ covers rs (spot t id))
    → Changed rs s wanted qs
changed rs qs s wanted f g c here others = record {
  in_order = g;
  here = one_list_of_ids (ranges s qs) wanted (ranges_canonical s qs g) c (λ id h. has_by_spot 0 s id qs g h ∙ here id h);
  others = λ t ne. one_list_of_ids (ranges t qs) (ranges t rs) (ranges_canonical t qs g) (ranges_canonical t rs f) (λ id h. has_by_spot 0 t id qs g h ∙ others t id ne h ∙ sym (has_by_spot 0 t id rs f h));
}

-- rows cover nothing outside the spots between which they all stand
pub covers_between : (a b p : ℕ) (rs : List Row) → AllByRecursion (λ r. a ≤ begins_at r) rs → AllByRecursion (λ r. ends_at r ≤ b) rs → covers rs p ≡ true → (a ≤ p) × (p ≤ b)
covers_between a b p [] f g h = absurd (both_ways false refl h)
covers_between a b p (r ∷ rs) f g h = ⊎_elim
    (λ (w : within (begins_at r) (ends_at r) p ≡ true). let k : (begins_at r ≤ p) × (p ≤ ends_at r) = grind (arith, nat_tests) in omega (arith, f.0, g.0))
    (λ w. covers_between a b p rs f.1 g.1 w)
    (or_cases (within (begins_at r) (ends_at r) p) (covers rs p) h)

pub covers_none : (p : ℕ) (rs : List Row) → AllByRecursion (λ r. (ends_at r < p) ⊎ (p < begins_at r)) rs → covers rs p ≡ false
covers_none p [] f = refl
covers_none p (r ∷ rs) f =
    let out : within (begins_at r) (ends_at r) p ≡ false = ⊎_elim (λ lt. grind (arith, nat_tests)) (λ gt. grind (arith, nat_tests)) f.0 in
    rw out (covers_none p rs f.1)

pub covers_at : (rs : List Row) (k : ℕ) (d : Row) (p : ℕ) → k < length rs → begins_at (get_or rs k d) ≤ p → p ≤ ends_at (get_or rs k d) → covers rs p ≡ true
covers_at [] k d p l a b = absurd (omega arith)
covers_at (r ∷ rs) zero d p l a b = or_left _ _ (let w : within (begins_at r) (ends_at r) p ≡ true = grind (arith, nat_tests) in w)
covers_at (r ∷ rs) (suc k) d p l a b = or_right _ _ (covers_at rs k d p (omega arith) a b)

-- three parts of the rows
pub parts : (rs : List Row) (i j : ℕ) → i ≤ j → (p : ℕ) → covers rs p ≡ ((covers (take i rs) p || covers (drop i (take j rs)) p) || covers (drop j rs) p)
parts rs i j h p =
    ap (λ l. covers l p) (sym (take-append-drop j rs)) ∙ covers-++ (take j rs) (drop j rs) p
    ∙ ap (λ b. b || covers (drop j rs) p) (ap (λ l. covers l p) (sym (take-append-drop i (take j rs)) ∙ ap (λ l. l ++ drop i (take j rs)) (take-take i j rs h)) ∙ covers-++ (take i rs) (drop i (take j rs)) p)

pub replaced : (xs ns ys : List Row) (p : ℕ) → covers (xs ++ (ns ++ ys)) p ≡ ((covers xs p || covers ns p) || covers ys p)
replaced xs ns ys p = covers-++ xs (ns ++ ys) p ∙ ap (λ b. covers xs p || b) (covers-++ ns ys p) ∙ or_assoc (covers xs p) (covers ns p) (covers ys p)
