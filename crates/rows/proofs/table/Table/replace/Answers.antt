-- The rows after the change are in order, as was required.
use Rattle.std.proofs.Common.{◌≡◌, ◌+◌, ◌-◌, ◌++◌, length, take, drop, sym, ap, ◌∙◌, subst, arith}
use Rattle.std.proofs.lemmas.List.{take_at}
use Rattle.rows.specs.Rows.{Rising}
use Rattle.rows.specs.Tables.{spliced}
use Rattle.rows.specs.Orders.{rising_test}
use Rattle.rows.proofs.table.Table.replace.Goals as goal

pub invariant_of-self-2 : goal.invariant_of-self-2
invariant_of-self-2 c =
    let a = c.args in
    let places = a.self.now.memory.places in
    let new = c.splice.new.rows in
    let n = a.gone.from + length a.new.now + (a.self.now.used - a.gone.to) in
    let whole : take places.len (new ++ drop (length new) places.items) ≡ new = take_at new (drop (length new) places.items) places.len (omega (arith, c.splice.ensures.len, ap length c.deref_mut.ensures.value, places.ok.0)) in
    record {
      fits = omega arith;
      rises = rising_test 0 _ (subst (Rising 0) (sym (ap (take n) whole ∙ c.splice.ensures.items ∙ ap (λ l. spliced a.gone.from a.gone.to a.new.now (take a.self.now.used l)) c.deref_mut.ensures.value)) c.requires.rising);
    }
