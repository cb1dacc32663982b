-- A range removed from a list of ranges.
use Rattle.std.proofs.Common.{◌≡◌, ℕ, ◌+◌, ◌-◌, ◌<◌, ◌≤◌, min, max, Bool, true, false, not, ◌&&◌, ◌||◌, ltb, List, [], ◌∷◌, ◌++◌, refl, ap, ◌∙◌, arith}
use Rattle.std.proofs.lemmas.Bool.{ltb-true, ltb-false, cond_both}
use Rattle.std.proofs.lemmas.Bool.Decides.{nat_tests}
use Rattle.store.specs.Ids.{Lawful}
use Rattle.store.specs.Ranges.{Span, place, within, has, From, part_below, part_above, without_range}
use Rattle.store.proofs.Members.{has-++, or_assoc, weaker}

below_keeps_order : (n lo : ℕ) (r : Span) (rs : List Span) → n ≤ place r.0 → Lawful r.0 r.1 → (r.0 < lo → From (place (min r.1 (lo - 1)) + 2) rs) → From n rs → From n (part_below lo r ++ rs)
below_keeps_order n lo r rs h s f g = cond_both (ltb r.0 lo) ((r.0, min r.1 (lo - 1)) ∷ []) [] (λ l. From n (l ++ rs)) (λ e. (h, omega (arith, ltb-true _ _ e), f (ltb-true _ _ e))) (λ e. g)

above_keeps_order : (n hi : ℕ) (r : Span) (rs : List Span) → n ≤ place (max r.0 (hi + 1)) → Lawful r.0 r.1 → From (place r.1 + 2) rs → From n rs → From n (part_above hi r ++ rs)
above_keeps_order n hi r rs h s f g = cond_both (ltb hi r.1) ((max r.0 (hi + 1), r.1) ∷ []) [] (λ l. From n (l ++ rs)) (λ e. (h, omega (arith, ltb-true _ _ e), f)) (λ e. g)

pub removing_keeps_order : (n lo hi : ℕ) (rs : List Span) → lo ≤ hi → From n rs → From n (without_range lo hi rs)
removing_keeps_order n lo hi [] s f = tt
removing_keeps_order n lo hi (r ∷ rs) s f =
    let rest = removing_keeps_order (place r.1 + 2) lo hi rs s f.2 in
    below_keeps_order n lo r _ f.0 f.1
    (λ lt. above_keeps_order (place (min r.1 (lo - 1)) + 2) hi r _ (omega arith) f.1 rest (weaker _ _ _ (omega arith) rest))
    (above_keeps_order n hi r _ (omega arith) f.1 rest (weaker _ _ _ (omega arith) rest))

parts : (lo hi id : ℕ) (r : Span) → lo ≤ hi → (has (part_below lo r) id || has (part_above hi r) id) ≡ (within r.0 r.1 id && not (within lo hi id))
parts lo hi id r h =
    cond_both (ltb r.0 lo) ((r.0, min r.1 (lo - 1)) ∷ []) [] (λ l. (has l id || has (part_above hi r) id) ≡ (within r.0 r.1 id && not (within lo hi id)))
    (λ e. cond_both (ltb hi r.1) ((max r.0 (hi + 1), r.1) ∷ []) [] (λ l. (has ((r.0, min r.1 (lo - 1)) ∷ []) id || has l id) ≡ (within r.0 r.1 id && not (within lo hi id)))
    (λ d. grind (arith, nat_tests, ltb-true _ _ e, ltb-true _ _ d)) (λ d. grind (arith, nat_tests, ltb-true _ _ e, ltb-false _ _ d)))
    (λ e. cond_both (ltb hi r.1) ((max r.0 (hi + 1), r.1) ∷ []) [] (λ l. has l id ≡ (within r.0 r.1 id && not (within lo hi id)))
    (λ d. grind (arith, nat_tests, ltb-false _ _ e, ltb-true _ _ d)) (λ d. grind (arith, nat_tests, ltb-false _ _ e, ltb-false _ _ d)))

or_of_ands : (a b c : Bool) → ((a && c) || (b && c)) ≡ ((a || b) && c)
or_of_ands true true true = refl
or_of_ands true true false = refl
or_of_ands true false true = refl
or_of_ands true false false = refl
or_of_ands false true true = refl
or_of_ands false true false = refl
or_of_ands false false true = refl
or_of_ands false false false = refl

pub removing_members : (lo hi id : ℕ) (rs : List Span) → lo ≤ hi → has (without_range lo hi rs) id ≡ (has rs id && not (within lo hi id))
removing_members lo hi id [] h = refl
removing_members lo hi id (r ∷ rs) h =
    has-++ (part_below lo r) _ id ∙ ap (λ b. has (part_below lo r) id || b) (has-++ (part_above hi r) _ id)
    ∙ or_assoc (has (part_below lo r) id) (has (part_above hi r) id) (has (without_range lo hi rs) id)
    ∙ ap (λ b. b || has (without_range lo hi rs) id) (parts lo hi id r h)
    ∙ ap (λ b. (within r.0 r.1 id && not (within lo hi id)) || b) (removing_members lo hi id rs h)
    ∙ or_of_ands (within r.0 r.1 id) (has rs id) (not (within lo hi id))
