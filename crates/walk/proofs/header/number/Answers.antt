use Rattle.std.proofs.Common.{◌/◌, ◌%◌, get_or, ap, arith}
use Rattle.model.proofs.Digits.{value}
use Rattle.walk.proofs.header.number.Goals as goal

pub returns-in_err-digit : goal.returns-in_err-digit
returns-in_err-digit c = rw c.from_residual.ensures (λ n h e. c.in_err-digit.ensures (n / 10000 % 10) (omega arith) (ap (λ l. get_or l 0 0) e))

pub returns-in_err-digit-2 : goal.returns-in_err-digit-2
returns-in_err-digit-2 c = rw c.from_residual-in_err-digit-2.ensures (λ n h e. c.in_err-digit-2.ensures (n / 1000 % 10) (omega arith) (ap (λ l. get_or l 1 0) e))

pub returns-in_err-digit-3 : goal.returns-in_err-digit-3
returns-in_err-digit-3 c = rw c.from_residual-in_err-digit-3.ensures (λ n h e. c.in_err-digit-3.ensures (n / 100 % 10) (omega arith) (ap (λ l. get_or l 2 0) e))

pub returns-in_err-digit-4 : goal.returns-in_err-digit-4
returns-in_err-digit-4 c = rw c.from_residual-in_err-digit-4.ensures (λ n h e. c.in_err-digit-4.ensures (n / 10 % 10) (omega arith) (ap (λ l. get_or l 3 0) e))

pub returns-in_err-digit-5 : goal.returns-in_err-digit-5
returns-in_err-digit-5 c = rw c.from_residual-in_err-digit-5.ensures (λ n h e. c.in_err-digit-5.ensures (n % 10) (omega arith) (ap (λ l. get_or l 4 0) e))

pub returns : goal.returns
returns c =
    let a = c.in_ok-digit.ensures in
    let b = c.in_ok-digit-2.ensures in
    let x = c.in_ok-digit-3.ensures in
    let d = c.in_ok-digit-4.ensures in
    let e = c.in_ok-digit-5.ensures in
    (omega (arith, a.0, b.0, x.0, d.0, e.0), value c.args.digits _ _ _ _ _ (omega arith) a.0 b.0 x.0 d.0 e.0 a.1 b.1 x.1 d.1 e.1)
