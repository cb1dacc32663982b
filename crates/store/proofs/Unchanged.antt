-- Changes that change nothing, and how many ranges a change can make.
use Rattle.std.proofs.Common.{◌≡◌, ℕ, ◌+◌, ◌-◌, ◌<◌, ◌≤◌, min, max, Bool, true, false, cond, not, ◌&&◌, ◌||◌, ltb, List, [], ◌∷◌, ◌++◌, length, sym, refl, ap, ◌∙◌, ⊎_elim, arith, length-append}
use Rattle.std.proofs.lemmas.Bool.{cond_both, cond-false, cases_lt, le-ltb}
use Rattle.store.specs.Ids.{Lawful}
use Rattle.store.specs.Ranges.{Span, place, apart, From, Canonical, has, within, with_range, without_range, part_below, part_above}
use Rattle.store.proofs.Adding.{adding_keeps_order, adding_members}
use Rattle.store.proofs.Members.{one_list}
use Rattle.store.proofs.Removing.{removing_keeps_order, removing_members}

or_there : (x y : Bool) → (y ≡ true → x ≡ true) → (x || y) ≡ x
or_there true y h = refl
or_there false true h = sym (h refl)
or_there false false h = refl

and_there : (x y : Bool) → (y ≡ true → x ≡ false) → (x && not y) ≡ x
and_there true true h = sym (h refl)
and_there true false h = refl
and_there false y h = refl

module _ (rs : List Span) (low high : ℕ) (f : Canonical rs) (l : Lawful low high) where
  pub nothing_added : ((id : ℕ) → within low high id ≡ true → has rs id ≡ true) → with_range low high rs ≡ rs
  nothing_added h = one_list 0 0 _ _ (adding_keeps_order 0 low high rs (omega arith) l f) f (λ id. adding_members 0 low high id rs l.1 f ∙ or_there _ _ (h id))

  pub nothing_removed : ((id : ℕ) → within low high id ≡ true → has rs id ≡ false) → without_range low high rs ≡ rs
  nothing_removed h = one_list 0 0 _ _ (removing_keeps_order 0 low high rs l.1 f) f (λ id. removing_members low high id rs l.1 ∙ and_there _ _ (h id))

pub adding_makes_one_more : (low high : ℕ) (rs : List Span) → length (with_range low high rs) ≤ length rs + 1
adding_makes_one_more low high [] = omega arith
adding_makes_one_more low high (r ∷ rs) =
    cond_both (apart r.1 low) _ _ (λ q. length q ≤ length (r ∷ rs) + 1)
    (λ _. let h = adding_makes_one_more low high rs in omega arith)
    (λ _. cond_both (apart high r.0) _ _ (λ q. length q ≤ length (r ∷ rs) + 1)
    (λ _. omega arith)
    (λ _. let h = adding_makes_one_more (min low r.0) (max high r.1) rs in omega (arith, h)))

one_at_most : (b : Bool) (r : Span) → length (cond b (r ∷ []) []) ≤ 1
one_at_most true r = omega arith
one_at_most false r = omega arith

-- what one range leaves, and the rest
parts_counted : (low high : ℕ) (r : Span) (qs : List Span) → length (part_below low r ++ (part_above high r ++ qs)) ≡ length (part_below low r) + (length (part_above high r) + length qs)
parts_counted low high r qs = omega (arith, length-append (part_below low r) (part_above high r ++ qs), length-append (part_above high r) qs)

-- ranges past the one that is removed
none_more : (n low high : ℕ) (rs : List Span) → From n rs → place high < n → low ≤ high → length (without_range low high rs) ≤ length rs
none_more n low high [] f h o = omega arith
none_more n low high (r ∷ rs) f h o =
    let none : part_below low r ≡ [] = cond-false _ _ _ (le-ltb r.0 low (omega arith)) in
    let above = one_at_most (ltb high r.1) (max r.0 (high + 1), r.1) in
    let rest = none_more (place r.1 + 2) low high rs f.2 (omega arith) o in
    omega (arith, parts_counted low high r (without_range low high rs), ap length none, above, rest)

pub removing_makes_one_more : (n low high : ℕ) (rs : List Span) → From n rs → Lawful low high → length (without_range low high rs) ≤ length rs + 1
removing_makes_one_more n low high [] f l = omega arith
removing_makes_one_more n low high (r ∷ rs) f l =
    let below = one_at_most (ltb r.0 low) (r.0, min r.1 (low - 1)) in
    let all = parts_counted low high r (without_range low high rs) in
    ⊎_elim
    (λ (lt : high < r.1).
    let above = one_at_most (ltb high r.1) (max r.0 (high + 1), r.1) in
    let rest = none_more (place r.1 + 2) low high rs f.2 (omega arith) l.1 in
    omega (arith, below, above, all, rest))
    (λ ge.
    let none : part_above high r ≡ [] = cond-false _ _ _ (le-ltb high r.1 ge) in
    let rest = removing_makes_one_more (place r.1 + 2) low high rs f.2 l in
    omega (arith, below, all, ap length none, rest))
    (cases_lt high r.1)
