-- A lot that lasts goes to the front, and one that ended stays behind and is summed.
use Rattle.std.proofs.Common.{◌≡◌, ◌<◌, ◌≤◌, not, leb, length, get_or, take, ap, ◌∙◌, rules, arith, length-take}
use Rattle.std.proofs.lemmas.List.Filters.{FiltersInPlace-more_no, FiltersInPlace-more_set}
use Rattle.std.proofs.lemmas.List.{get_or_default, drop_all}
use Rattle.std.proofs.lemmas.Bool.{le-leb, lt-leb}
use Rattle.book.specs.Allowance.{units, ended, lasting}
use Rattle.book.proofs.Lots.{units_kept}
use Rattle.table_book.proofs.Rows.{none, same_at, ended_more, ended_same}
use Rattle.table_book.proofs.drawing.keep_lasting.Goals as goal

pub overflow_add-sum : goal.overflow_add-sum
overflow_add-sum c =
    let xs = c.args.lots.now in
    let ys = c.loop-i.lots in
    let i = c.loop-i.i in
    let day = c.args.day.0 in
    let same = same_at xs ys i c.loop-i.invariant.0.rest in
    let a = ap (λ k. k.amount) same in
    let e = ap (λ k. k.end.0) same in
    let by : (get_or ys i none).end.0 ≤ day = search rules in
    let m = ended_more day xs c.args.len i (omega arith) (omega arith) (omega arith) in
    let u = units_kept (λ k. leb k.end.0 day) (take c.args.len xs) in
    omega arith

pub loop-i-preserved-then-ended_by : goal.loop-i-preserved-then-ended_by
loop-i-preserved-then-ended_by c =
    let xs = c.args.lots.now in
    let ys = c.loop-i.lots in
    let i = c.loop-i.i in
    let day = c.args.day.0 in
    let x = get_or ys i none in
    let same = same_at xs ys i c.loop-i.invariant.0.rest in
    let a = ap (λ k. k.amount) same in
    let e = ap (λ k. k.end.0) same in
    let by : x.end.0 ≤ day = search rules in
    let m = ended_more day xs c.args.len i (omega arith) (omega arith) (omega arith) in
    let w : i < length ys = omega (arith, c.loop-i.invariant.0.long) in
    (FiltersInPlace-more_no c.loop-i.invariant.0 w (ap not (le-leb x.end.0 day by)) (get_or_default ys i none x w), omega arith)

pub loop-i-preserved : goal.loop-i-preserved
loop-i-preserved c =
    let xs = c.args.lots.now in
    let ys = c.loop-i.lots in
    let i = c.loop-i.i in
    let day = c.args.day.0 in
    let x = get_or ys i none in
    let same = same_at xs ys i c.loop-i.invariant.0.rest in
    let e = ap (λ k. k.end.0) same in
    let past : day < x.end.0 = search rules in
    let m = ended_same day xs c.args.len i (omega arith) (omega arith) (omega arith) in
    let w : i < length ys = omega (arith, c.loop-i.invariant.0.long) in
    (FiltersInPlace-more_set c.loop-i.invariant.0 w (ap not (lt-leb x.end.0 day past)) (get_or_default ys i none x w), omega arith)

pub returns : goal.returns
returns c =
    let xs = c.args.lots.now in
    let i = c.loop-i.i in
    let day = c.args.day.0 in
    let n = c.args.len in
    let all : i ≡ n = omega arith in
    let z = ap (λ ks. units (ended day ks)) (drop_all i (take n xs) (omega (arith, length-take n xs))) in
    let e = c.loop-i.invariant.0.front ∙ ap (λ k. lasting day (take k xs)) all in
    record { fewer = omega (arith, c.loop-i.invariant.0.behind); long = c.loop-i.invariant.0.long; front = e; sum = omega arith }
