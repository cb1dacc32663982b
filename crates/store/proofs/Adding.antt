-- A range added to a list of ranges.
use Rattle.std.proofs.Common.{◌≡◌, ℕ, ◌+◌, ◌≤◌, min, max, false, ◌||◌, List, [], ◌∷◌, ap, ◌∙◌, arith}
use Rattle.std.proofs.lemmas.Bool.{ltb-true, ltb-false, cond_both}
use Rattle.std.proofs.lemmas.Bool.Decides.{nat_tests}
use Rattle.store.specs.Ids.{Lawful}
use Rattle.store.specs.Ranges.{Span, place, apart, within, has, From, with_range}
use Rattle.store.proofs.Members.{or_assoc, or_comm, weaker}

-- two ranges that overlap or adjoin are one
union : (lo hi a b id : ℕ) → place lo ≤ place b + 1 → place a ≤ place hi + 1 → lo ≤ hi → a ≤ b → within (min lo a) (max hi b) id ≡ (within a b id || within lo hi id)
union lo hi a b id p q s t = grind (arith, nat_tests)

union_lawful : (lo hi a b : ℕ) → place lo ≤ place b + 1 → place a ≤ place hi + 1 → Lawful lo hi → Lawful a b → Lawful (min lo a) (max hi b)
union_lawful lo hi a b p q s t = omega arith

pub adding_keeps_order : (n lo hi : ℕ) (rs : List Span) → n ≤ place lo → Lawful lo hi → From n rs → From n (with_range lo hi rs)
adding_keeps_order n lo hi [] h s f = (h, s, tt)
adding_keeps_order n lo hi (r ∷ rs) h s f =
    cond_both (apart r.1 lo) _ _ (From n)
    (λ e. (f.0, f.1, adding_keeps_order (place r.1 + 2) lo hi rs (omega (arith, ltb-true _ _ e)) s f.2))
    (λ e. cond_both (apart hi r.0) _ _ (From n)
    (λ d. (h, s, (omega (arith, ltb-true _ _ d), f.1, f.2)))
    (λ d.
    let p : place lo ≤ place r.1 + 1 = ltb-false _ _ e in
    let q : place r.0 ≤ place hi + 1 = ltb-false _ _ d in
    adding_keeps_order n (min lo r.0) (max hi r.1) rs (omega arith) (union_lawful lo hi r.0 r.1 p q s f.1) (weaker n _ rs (omega arith) f.2)))

pub adding_members : (n lo hi id : ℕ) (rs : List Span) → lo ≤ hi → From n rs → has (with_range lo hi rs) id ≡ (has rs id || within lo hi id)
adding_members n lo hi id [] h f = or_comm (within lo hi id) false
adding_members n lo hi id (r ∷ rs) h f =
    cond_both (apart r.1 lo) _ _ (λ l. has l id ≡ ((within r.0 r.1 id || has rs id) || within lo hi id))
    (λ e. ap (λ b. within r.0 r.1 id || b) (adding_members (place r.1 + 2) lo hi id rs h f.2) ∙ or_assoc (within r.0 r.1 id) (has rs id) (within lo hi id))
    (λ e. cond_both (apart hi r.0) _ _ (λ l. has l id ≡ ((within r.0 r.1 id || has rs id) || within lo hi id))
    (λ d. or_comm (within lo hi id) (within r.0 r.1 id || has rs id))
    (λ d.
    let p : place lo ≤ place r.1 + 1 = ltb-false _ _ e in
    let q : place r.0 ≤ place hi + 1 = ltb-false _ _ d in
    adding_members (place r.1 + 2) (min lo r.0) (max hi r.1) id rs (omega arith) f.2
    ∙ ap (λ b. has rs id || b) (union lo hi r.0 r.1 id p q h f.1.1)
    ∙ or_assoc (has rs id) (within r.0 r.1 id) (within lo hi id) ∙ ap (λ b. b || within lo hi id) (or_comm (has rs id) (within r.0 r.1 id))))
