-- Which label each set has: the labels are the numbers 0 to 10 in some order, so that every set has one, and every label one set.
use Rattle.std.specs.Prelude.{ℕ, List, [], ◌∷◌}

-- each set's own number
abbrev pub own : List ℕ
own = 0 ∷ 1 ∷ 2 ∷ 3 ∷ 4 ∷ 5 ∷ 6 ∷ 7 ∷ 8 ∷ 9 ∷ 10 ∷ []
