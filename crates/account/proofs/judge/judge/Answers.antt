-- Judging ahead on small books, or after the lapse alone, is judging the account as brought up.
use Rattle.std.proofs.Common.{◌≡◌, suc, ap, ◌∙◌, arith}
use Rattle.quantities.proofs.Order.{not_past}
use Rattle.quantities.specs.declared.unit.UnitKind.TheVariants.{Minutes, Megabytes, Messages}
use Rattle.rules.specs.State.{Out}
use Rattle.rules.specs.DueDays.{settle}
use Rattle.rules.specs.Gregorian.{gregorian}
use Rattle.rules.specs.Ahead.{stripped}
use Rattle.rules.proofs.Ahead.{FewFresh, same-told}
use Rattle.ledger.specs.Meaning.{state_of}
use Rattle.small_book.specs.Meaning.{meaning}
use Rattle.account.specs.Meaning.{world}
use Rattle.account.proofs.judge.judge.Goals as goal

pub returns-else-gt : goal.returns-else-gt
returns-else-gt g c =
    let means = g.B.Book.means in
    let ledger = c.args.ledger.now in
    let s = state_of means ledger in
    let kept = g.met.B.Book.kept in
    let few : FewFresh s = elim [
      | Minutes ↦ (kept ledger.books.minutes).fresh
      | Megabytes ↦ (kept ledger.books.megabytes).fresh
      | Messages ↦ (kept ledger.books.messages).fresh
    ] in
    let most = g.B.Book.CAPACITY in
    let w = world (g.L.Line.tariff c.args.line.now) most in
    let D = c.args.day.day.0 in
    let u = state_of meaning c.settle.new.self in
    let to : u ≡ (settle gregorian (suc D) D (stripped s)).state =
    ap (λ (o : Out). o.state) c.settle.ensures.does ∙ ap (λ t. (settle gregorian (suc D) D t).state) c.ahead-next.ensures in
    record {
      told = c.judge_at-in-Active.ensures.told
          ∙ same-told w 1 most (omega arith) g.met.B.Book.roomy D c.in-Active.due c.args.call s u c.in-Active.is (not_past c.in-Active.due.0 D c.if-gt.ensures) few to;
    }
