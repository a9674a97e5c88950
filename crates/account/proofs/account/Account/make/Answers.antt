-- What a call did is what the rules say, accepted or refused.
use Rattle.std.proofs.Common.{ℕ, ◌^◌, cond, sym, refl, ap, ◌∙◌, arith}
use Rattle.quantities.proofs.Order.{not_before}
use Rattle.receipt.specs.Columns.{receipt_of}
use Rattle.rules.proofs.Answering.{in_time, accepted-from}
use Rattle.ledger.specs.Meaning.{state_of}
use Rattle.ledger.proofs.Turns.{all_below_more}
use Rattle.account.specs.Meaning.{account_of, world}
use Rattle.account.proofs.account.Account.make.Goals as goal

pub returns : goal.returns
returns g c =
    let means = g.B.Book.means in
    let a = c.args.self.now in
    let e = c.args.event in
    let w = world (g.L.Line.tariff a.line) g.B.Book.CAPACITY in
    let s = account_of means a in
    let (soon, on) = c.in-Some.ensures in
    let D = c.in-Some.day.day.0 in
    let told = in_time w s e D on soon (not_before _ _ c.if-lt.ensures) ∙ sym c.in_ok-judge.ensures.told in
    let t = state_of means c.bring_up-brought.new.self in
    let u = state_of means c.perform-done.new.ledger in
    let p = receipt_of c.bring_up-brought.result in
    let q = receipt_of c.perform-done.result in
    let sum = c.plus.ensures.exact (all_below_more (2 ^ 53) (2 ^ 63) (omega arith) p c.bring_up-brought.ensures.small) (all_below_more (2 ^ 46) (2 ^ 63) (omega arith) q c.perform-done.ensures.small) in
    record {
      does = accepted-from w s e D on t u p q (receipt_of c.plus.result) c.bring_up-brought.ensures.does c.perform-done.ensures.does sum told;
      line = refl;
      same = λ h. absurd (omega (arith, ap (λ b. cond {A = ℕ} b 1 0) h));
    }
