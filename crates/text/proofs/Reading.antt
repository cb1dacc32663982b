-- Digits that are read one after another give what the whole word reads as.
use Rattle.std.proofs.Common.{◌≡◌, ℕ, ◌+◌, ◌-◌, ◌*◌, ◌^◌, ◌<◌, ◌≤◌, Bool, true, false, cond, ◌&&◌, ltb, List, [], ◌∷◌, length, Some, None, Option, option_and_then, sym, refl, ap, subst, ◌∙◌, inl, inr, zero-lt-suc, mul_assoc, mul_comm, add-mul, pow-suc, zero-add, zero-mul, le-mul_of_pos_right, arith, lit<}
use native.Mathlib.Nat.{one-le-pow}
use Rattle.std.proofs.lemmas.Bool.{lt-ltb, le-ltb, and_right, cases_lt}
use Rattle.std.specs.Fn.{Called}
use Rattle.std.specs.Iterator.{AlwaysYields, YieldsThen, TryFoldTurn, TryFoldsItems}
use Rattle.std.proofs.lemmas.Iterator.{YieldsList}
use Rattle.std.specs.List.{FoldsTo}
use Rattle.std.specs.ControlFlow.{continue_value}
use Rattle.std.specs.Option.{MatchOption}
use Rattle.std.specs.declared.ops.ControlFlow.{ControlFlow}
use Rattle.std.specs.declared.ops.ControlFlow.TheVariants.{Continue, Break}
use denote.Param.Members.{Mut}
use Rattle.text.specs.Decimal.{digit, all_digits, value, decimal, extended}

-- the number that stands there once the bytes of a word are written behind n, one after another
abbrev pub read_on : ℕ → List ℕ → Option ℕ
read_on n [] = Some n
read_on n (c ∷ cs) = option_and_then (λ m. read_on m cs) (extended n c)

-- the number n with the digits of a word behind it
abbrev behind : ℕ → List ℕ → ℕ
behind n cs = n * 10 ^ length cs + value cs

-- what a word reads as behind n
abbrev reads : ℕ → List ℕ → Option ℕ
reads n cs = cond (all_digits cs && ltb (behind n cs) (2 ^ 64)) (Some (behind n cs)) None

behind_none : (n : ℕ) → behind n [] ≡ n
behind_none n = omega arith

behind_one_more : (n d p v : ℕ) → (n * 10 + d) * p + v ≡ n * (p * 10) + (d * p + v)
behind_one_more n d p v = omega (arith, add-mul (n * 10) d p, mul_assoc n 10 p, mul_comm 10 p)

behind_is_more : (n : ℕ) (cs : List ℕ) → n ≤ behind n cs
behind_is_more n cs = omega (arith, le-mul_of_pos_right n (one-le-pow (length cs) 10 (zero-lt-suc 9)))

behind_step : (n c : ℕ) (cs : List ℕ) → behind (n * 10 + (c - 48)) cs ≡ behind n (c ∷ cs)
behind_step n c cs = rw (pow-suc 10 (length cs)) (behind_one_more n (c - 48) (10 ^ length cs) (value cs))

reads_step : (d a : Bool) (m b limit : ℕ) (f : ℕ → Option ℕ) → m ≤ b → (m < limit → f m ≡ cond (a && ltb b limit) (Some b) None)
    → option_and_then f (cond (d && ltb m limit) (Some m) None) ≡ cond (d && a && ltb b limit) (Some b) None
reads_step false a m b limit f le e = refl
reads_step true a m b limit f le e =
    elim (cases_lt m limit) [
      | inl low ↦ rw (lt-ltb m limit low) (e low)
      | inr high ↦ rw (le-ltb m limit high, and_right a (ltb b limit) (le-ltb b limit (omega arith)))
    ]

read_on_is : (n : ℕ) (cs : List ℕ) → n < 2 ^ 64 → read_on n cs ≡ reads n cs
read_on_is n [] h = rw (behind_none n, lt-ltb n (2 ^ 64) h)
read_on_is n (c ∷ cs) h =
    let m = n * 10 + (c - 48) in
    rw (← behind_step n c cs)
    (reads_step (digit c) (all_digits cs) m (behind m cs) (2 ^ 64) (λ k. read_on k cs) (behind_is_more m cs) (read_on_is m cs))

pub read_on_decimal : (word : List ℕ) → 0 < length word → read_on 0 word ≡ decimal word
read_on_decimal word h = read_on_is 0 word (lit< tt) ∙ rw (zero-mul (10 ^ length word), zero-add (value word), lt-ltb 0 (length word) h)

-- a `try_fold` that extends a number by each byte of a word reads on from the first number
module _ {S A F : Type 0} (E : Type 0) (steps : S → Option A → S → Type 0) (v : A → ℕ) (g : Mut F (ℕ × (A × Unit {0})) (Option ℕ)) (u : S)
    (extends : (f : F) (n : ℕ) (x : A) (o : Option ℕ) (f' : F) → Called g f (n, (x, tt)) o f' → o ≡ extended n (v x)) where
  abbrev Goes : Option ℕ → ControlFlow E ℕ → Type 0
  Goes o c = o ≡ continue_value c

  -- it has come to n, and then to the end of the word, or to a byte that is refused
  abbrev Ends : Option A → F → ℕ → Option ℕ → Type 0
  Ends end f n r =
      MatchOption end (Goes r (Continue n)) (λ x. (o : Option ℕ) × (f' : F) × (e : E) × Called g f (n, (x, tt)) o f' × Goes o (Break e) × (r ≡ None))

  read_on_ends : (word : List ℕ) (s : S) (end : Option A) (f : F) (n : ℕ) (r : Option ℕ) → AlwaysYields steps v s word → steps s end u → Ends end f n r → r ≡ read_on n word
  read_on_ends [] s None f n r yields step ends = ends
  read_on_ends (c ∷ cs) s None f n r yields step ends = absurd (yields.0 u step)
  read_on_ends [] s (Some x) f n r yields step ends = absurd (yields x u step)
  read_on_ends (c ∷ cs) s (Some x) f n r yields step ends =
      let none : extended n c ≡ None = ap (extended n) (sym (yields.1 x u step).0) ∙ sym (extends f n x ends.0 ends.1 ends.3) ∙ ends.4 in
      ends.5 ∙ ap (option_and_then (λ m. read_on m cs)) (sym none)

  read_on_folds : (xs : List A) (word : List ℕ) (s : S) (end : Option A) (f f' : F) (n m : ℕ) (r : Option ℕ) → AlwaysYields steps v s word → YieldsThen steps s xs end u
      → FoldsTo (TryFoldTurn g Goes) (f, n) xs (f', m) → Ends end f' m r → r ≡ read_on n word
  read_on_folds [] word s end f f' n m r yields gave folds ends =
      read_on_ends word s end f n r yields (subst (λ t. steps t end u) (sym gave.1) gave.2) (subst (λ (p : F × ℕ). Ends end p.0 p.1 r) (sym folds) ends)
  read_on_folds (x ∷ xs) [] s end f f' n m r yields gave folds ends = absurd (yields x gave.1.0 gave.1.1)
  read_on_folds (x ∷ xs) (c ∷ cs) s end f f' n m r yields gave folds ends =
      let next = yields.1 x gave.1.0 gave.1.1 in
      let turn = folds.1 in
      let some : extended n c ≡ Some folds.0.1 = ap (extended n) (sym next.0) ∙ sym (extends f n x turn.0 folds.0.0 turn.1) ∙ turn.2 in
      read_on_folds xs cs gave.1.0 end folds.0.0 f' folds.0.1 m r next.1 (gave.0, gave.1.2, gave.2) folds.2 ends ∙ ap (option_and_then (λ k. read_on k cs)) (sym some)

module _ {S A F E : Type 0} {steps : S → Option A → S → Type 0} {v : A → ℕ} {g : Mut F (ℕ × (A × Unit {0})) (Option ℕ)} {s : S} {word : List ℕ} (u : S) (f : F) (n : ℕ) (r : Option ℕ) where
  pub read_on_from_try_fold : TryFoldsItems steps g (λ o (c : ControlFlow E ℕ). o ≡ continue_value c) (λ _ o. o ≡ None) s f n r u → YieldsList steps v s word
      → ((f : F) (n : ℕ) (x : A) (o : Option ℕ) (f' : F) → Called g f (n, (x, tt)) o f' → o ≡ extended n (v x)) → r ≡ read_on n word
  read_on_from_try_fold ran yields extends = read_on_folds E steps v g u extends ran.0 word s ran.1 f ran.2 n ran.3 r yields.runs ran.4 ran.5 ran.6
