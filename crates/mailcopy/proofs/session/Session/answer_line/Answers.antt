-- Of a line that is no call its words are printed, and then that.
use Rattle.std.proofs.Common.{◌≡◌, true, ◌++◌, is_ok, Ok, Err, Result, inl, inr, refl, ap, ◌∙◌, append_assoc, rules}
use Rattle.std.proofs.lemmas.Bool.{cond-true}
use Rattle.std.specs.Result.{OnOk}
use Rattle.mailcopy.specs.Prints.{bad_call_text}
use Rattle.mailcopy.proofs.session.Session.answer_line.Goals as goal

on_ok : {T E : Type 0} (P : Type 0) (r : Result T E) → (is_ok r ≡ true → P) → OnOk r P
on_ok P (Ok x) h = h refl
on_ok P (Err e) h = tt

pub returns-in-Err : goal.returns-in-Err
returns-in-Err c =
    let words = c.write_words.ensures.0 in
    let told : c.as_bytes.result.now ≡ bad_call_text = search rules in
    inl (
      refl,
      on_ok _ c.extend_from_slice.result (λ ok. inr (
        words,
        c.extend_from_slice.ensures.items ∙ cond-true _ _ _ ok ∙ ap (λ l. l ++ c.as_bytes.result.now) c.write_words.ensures.1 ∙ ap (λ l. (c.args.out.now.items ++ words) ++ l) told ∙ append_assoc c.args.out.now.items words bad_call_text,
      )),
    )
