-- A draw lowers lots from the first on, and stops at one that is not emptied.
use Rattle.std.proofs.Common.{◌≡◌, ◌+◌, ◌-◌, ◌<◌, ◌≤◌, ◌∷◌, length, get_or, take, drop, set, sym, ap, ◌∙◌, arith, length-set}
use Rattle.std.proofs.lemmas.List.{get_or-set_same, drop_all}
use Rattle.std.proofs.lemmas.Bool.{cond-true, cond-false, lt-ltb, le-ltb}
use Rattle.book.specs.Allowance.{units, undrawn}
use Rattle.table_book.specs.Held.{held}
use Rattle.table_book.proofs.Rows.{none, at, next, after-set, length-held, units_lowered}
use Rattle.table_book.proofs.lots.Lots.draw.Goals.{else-loop-gone-test, then-loop-gone-test+then-self-gone-gt0}
use Rattle.table_book.proofs.lots.Lots.draw.Goals as goal

pub invariant_of-self-clause-countable : goal.invariant_of-self-clause-countable
invariant_of-self-clause-countable c =
    let t = c.loop-gone.self in
    let a = ap (λ k. k.amount) c.lower-left.ensures.left in
    omega (arith, units_lowered t c.loop-gone.gone c.lower-left.new.self c.loop-gone-test.true (omega arith))

pub loop-gone-preserved : goal.loop-gone-preserved
loop-gone-preserved c =
    let t = c.loop-gone.self in
    let i = c.loop-gone.gone in
    let left = c.loop-gone.left in
    let old = get_or t.lots i none in
    let v = c.lower-left.new.self in
    let rest = drop (i + 1) (held t) in
    let within : i < length t.lots = omega arith in
    let here = at t i c.loop-gone-test.true in
    let same = after-set t.lots t.len i v c.loop-gone-test.true in
    let a : v.amount ≡ old.amount - left = ap (λ k. k.amount) c.lower-left.ensures.left in
    let none_left : v.amount ≤ 0 = rw (get_or-set_same t.lots i v none within) at c.if-self-gone-gt0.false in
    let T = ap units here in
    let S = ap units same in
    let R : left - old.amount ≡ left - c.lower-left.result = omega arith in (
      c.loop-gone.invariant.0,
      omega arith,
      omega arith,
      (omega arith),
      c.loop-gone.invariant.4
          ∙ ap (undrawn left) here
          ∙ cond-false _ _ _ (le-ltb left old.amount (omega arith))
          ∙ ap (λ k. undrawn k rest) R
          ∙ ap (undrawn (left - c.lower-left.result)) (sym same),
      omega (arith, units_lowered t i v c.loop-gone-test.true (omega arith)),
    )

pub returns : goal.returns
returns c =
    let t = c.loop-gone.self in
    let i = c.loop-gone.gone in
    let left = c.loop-gone.left in
    let long = length-held t in
    elim c.loop-gone-test.branch [
      | else-loop-gone-test w ↦
          let e = drop_all i (held t) (omega arith) in
          let T = ap units e in
          record {
            answer = omega (arith, w.left-is);
            lots = c.forget.ensures.lots ∙ ap (λ s. drop i (held s)) w.self-is ∙ e ∙ sym (c.loop-gone.invariant.4 ∙ ap (undrawn left) e);
          }
      | then-loop-gone-test+then-self-gone-gt0 w ↦
          let old = get_or t.lots i none in
          let v = w.lower-left.new.self in
          let rest = drop (i + 1) (held t) in
          let within : i < length t.lots = omega arith in
          let fits : t.len ≤ length (set t.lots i v) = simp length-set (omega arith) in
          let here = at t i w.loop-gone-test.true in
          let some_left : 0 < v.amount = rw (get_or-set_same t.lots i v none within) at w.if-self-gone-gt0.true in
          let a : v.amount ≡ old.amount - left = ap (λ k. k.amount) w.lower-left.ensures.left in
          let T = ap units here in
          let now : drop i (held c.loop-gone-test.self) ≡ v ∷ rest = ap (λ s. drop i (held s)) w.self-is ∙ next (set t.lots i v) t.len i none w.loop-gone-test.true fits ∙ ap (λ k. k ∷ drop (i + 1) (take t.len (set t.lots i v))) (get_or-set_same t.lots i v none within) ∙ ap (λ ks. v ∷ ks) (after-set t.lots t.len i v w.loop-gone-test.true) in
          record {
            answer = omega (arith, w.left-is);
            lots = c.forget.ensures.lots ∙ now ∙ ap (λ k. k ∷ rest) w.lower-left.ensures.left ∙ sym (c.loop-gone.invariant.4 ∙ ap (undrawn left) here ∙ cond-true _ _ _ (lt-ltb left old.amount (omega arith)));
          }
    ]
