-- A part of a list replaced by another list.
use Rattle.std.proofs.Common.{◌≡◌, ℕ, suc, ◌+◌, ◌-◌, ◌≤◌, List, [], ◌∷◌, ◌++◌, length, take, drop, sym, refl, ap, ◌∙◌, append_assoc, arith, length-drop}
use lib.Seq.{paste}
use borrow.Rule.Slice.PartMut.{put_mid, post_of}
use Rattle.std.proofs.lemmas.List.{take-append-le, take-take, take_at, drop_at, drop-drop, drop-take, length-take-le}

take_past : {X : Type 0} (ps qs : List X) (m n : ℕ) → n ≡ length ps + m → take n (ps ++ qs) ≡ ps ++ take m qs
take_past [] qs m n e = let is : n ≡ m = omega arith in ap (λ k. take k qs) is
take_past (p ∷ ps) qs m n e =
    let is : n ≡ suc (length ps + m) = omega arith in
    ap (λ k. take k (p ∷ (ps ++ qs))) is ∙ ap (λ l. p ∷ l) (take_past ps qs m (length ps + m) refl)

module _ {X : Type 0} (xs : List X) where
  -- the rows behind a part, moved to another place, and those before it
  pub behind_paste : (at to used : ℕ) → at ≤ length xs → to ≤ used → used ≤ length xs → take (used - to) (drop at (paste xs at (drop to xs) (used - to))) ≡ drop to (take used xs)
  behind_paste at to used a h l =
      let n = used - to in
      let cut : length (take n (drop to xs)) ≡ n = length-take-le n (drop to xs) (omega (arith, length-drop to xs)) in
      let is : to + n ≡ used = omega arith in
      ap (λ z. take n (drop at z)) (append_assoc (take at xs) (take n (drop to xs)) (drop (at + n) xs))
      ∙ ap (take n) (drop_at (take at xs) (take n (drop to xs) ++ drop (at + n) xs) at (length-take-le at xs a))
      ∙ take_at (take n (drop to xs)) (drop (at + n) xs) n cut
      ∙ sym (drop-take to n xs) ∙ ap (λ k. drop to (take k xs)) is

  pub before_paste : (from at : ℕ) (s : List X) (n : ℕ) → from ≤ at → at ≤ length xs → take from (paste xs at s n) ≡ take from xs
  before_paste from at s n h l =
      let a : length (take at xs) ≡ at = length-take-le at xs l in
      ap (take from) (append_assoc (take at xs) (take n s) (drop (at + n) xs)) ∙ take-append-le from (take at xs) (take n s ++ drop (at + n) xs) (omega arith) ∙ take-take from at xs h

  pub behind_same : (to used : ℕ) → to ≤ used → take (used - to) (drop to xs) ≡ drop to (take used xs)
  behind_same to used h = let is : to + (used - to) ≡ used = omega arith in sym (drop-take to (used - to) xs) ∙ ap (λ k. drop to (take k xs)) is

  -- the part written over
  pub written : (ys zs : List X) (from to used : ℕ) → from ≤ to → to ≤ used → used ≤ length xs → from + length zs + (used - to) ≤ length ys → take from ys ≡ take from xs → take (used - to) (drop (from + length zs) ys) ≡ drop to (take used xs)
      → take (from + length zs + (used - to)) (put_mid from (from + length zs - from) ys zs) ≡ take from (take used xs) ++ (zs ++ drop to (take used xs))
  written ys zs from to used p q l room front back =
      let m = used - to in
      let k = from + length zs - from in
      let a : length (take from ys) ≡ from = length-take-le from ys (omega arith) in
      let kk : k ≡ length zs = omega arith in
      let rest : post_of from k ys ≡ drop (from + length zs) ys = drop-drop k from ys ∙ ap (λ i. drop (from + i) ys) kk in
      ap (λ z. take (from + length zs + m) (take from ys ++ (zs ++ z))) rest
      ∙ take_past (take from ys) (zs ++ drop (from + length zs) ys) (length zs + m) (from + length zs + m) (omega arith)
      ∙ ap (λ z. take from ys ++ z) (take_past zs (drop (from + length zs) ys) m (length zs + m) refl ∙ ap (λ z. zs ++ z) back)
      ∙ ap (λ z. z ++ (zs ++ drop to (take used xs))) (front ∙ sym (take-take from used xs (omega arith)))
