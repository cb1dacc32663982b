-- Whatever is written stands behind what was there.
use Rattle.std.proofs.Common.{◌≡◌, ℕ, List, ◌++◌, ap, ◌∙◌, append_assoc}
use Rattle.mailcopy.specs.Prints.{Adds}
use Rattle.mailcopy.proofs.words.write_words.Goals as goal

as_before : (a b c : List ℕ) → Adds a b → c ≡ b → Adds a c
as_before a b c h e = (h.0, e ∙ h.1)

with_more : (a b c x : List ℕ) → Adds a b → c ≡ b ++ x → Adds a c
with_more a b c x h e = (h.0 ++ x, e ∙ ap (λ l. l ++ x) h.1 ∙ append_assoc a h.0 x)

pub returns-in_err-push : goal.returns-in_err-push
returns-in_err-push c = as_before _ _ _ c.loop-word.invariant c.in_err-push.ensures.items

pub loop-word-preserved : goal.loop-word-preserved
loop-word-preserved c = with_more _ _ _ _ (with_more _ _ _ _ c.loop-word.invariant c.in_ok-push.ensures.items) c.in_ok-extend_from_slice-2.ensures.items
