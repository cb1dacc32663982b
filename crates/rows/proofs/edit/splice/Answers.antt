-- The rows behind the part are moved if need be, and then the part is written over.
use Rattle.std.proofs.Common.{◌≡◌, ◌+◌, ◌-◌, length, take, drop, ap, ◌∙◌, arith}
use borrow.Rule.Slice.PartMut.{put_mid}
use Rattle.rows.proofs.Splices.{behind_paste, before_paste, behind_same, written}
use Rattle.rows.proofs.edit.splice.Goals as goal
use Rattle.rows.proofs.edit.splice.Goals.{After-copy_from_slice, then-end-gone, else-end-gone}

front : (c : After-copy_from_slice) → take c.args.gone.from c.if-end-gone.rows ≡ take c.args.gone.from c.args.rows.now
front c = elim c.if-end-gone.branch [
  | then-end-gone w ↦ ap (take c.args.gone.from) (w.rows-is ∙ w.copy_within.ensures.after) ∙ before_paste c.args.rows.now c.args.gone.from (c.args.gone.from + length c.args.new.now) (drop c.args.gone.to c.args.rows.now) (c.args.used - c.args.gone.to) (omega arith) (omega arith)
  | else-end-gone w ↦ ap (take c.args.gone.from) w.rows-is
]

back : (c : After-copy_from_slice) → take (c.args.used - c.args.gone.to) (drop (c.args.gone.from + length c.args.new.now) c.if-end-gone.rows) ≡ drop c.args.gone.to (take c.args.used c.args.rows.now)
back c =
    let a = c.args in
    let n = a.used - a.gone.to in
    let end = a.gone.from + length a.new.now in
    elim c.if-end-gone.branch [
      | then-end-gone w ↦ ap (λ l. take n (drop end l)) (w.rows-is ∙ w.copy_within.ensures.after) ∙ behind_paste a.rows.now end a.gone.to a.used (omega arith) (omega arith) (omega arith)
      | else-end-gone w ↦ ap (λ l. take n (drop end l)) w.rows-is ∙ (let is : end ≡ a.gone.to = omega (arith, w.if-end-gone.false) in ap (λ k. take n (drop k a.rows.now)) is) ∙ behind_same a.rows.now a.gone.to a.used (omega arith)
    ]

long : (c : After-copy_from_slice) → length c.if-end-gone.rows ≡ length c.args.rows.now
long c = elim c.if-end-gone.branch [
  | then-end-gone w ↦ ap length w.rows-is ∙ w.copy_within.ensures.len
  | else-end-gone w ↦ ap length w.rows-is
]

pub returns-clause-items : goal.returns-clause-items
returns-clause-items c =
    let a = c.args in
    let r = c.if-end-gone.rows in
    let b = (goal.at.returns-clause-items c).After-copy_from_slice in
    ap (λ zs. take (a.gone.from + length a.new.now + (a.used - a.gone.to)) (put_mid a.gone.from (a.gone.from + length a.new.now - a.gone.from) r zs)) c.copy_from_slice.ensures.after
    ∙ written a.rows.now r a.new.now a.gone.from a.gone.to a.used a.gone.up c.requires.to c.requires.used (omega (arith, long b)) (front b) (back b)
