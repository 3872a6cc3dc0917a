use Rattle.std.proofs.Common.{◌+◌, ◌*◌, ◌^◌, ◌<◌, length, arith}
use Rattle.kinds.specs.Digits.{value, value_lt}
use Rattle.kinds.proofs.Horner.{joined_lt}
use Rattle.kinds.proofs.digits.value_of_two.Goals as goal

pub overflow_mul-result : goal.overflow_mul-result
overflow_mul-result c =
    let f = c.args.front.now in
    let b = c.args.back.now in
    let h : value f * 10 ^ length b + value b < 10 ^ 18 = joined_lt (value f) (value b) (length f) (length b) (value_lt f c.requires.first) (value_lt b c.requires.second) c.requires.short in
    rw (c.value_of.ensures, c.pow.ensures) (omega arith)

pub overflow_add-result : goal.overflow_add-result
overflow_add-result c =
    let f = c.args.front.now in
    let b = c.args.back.now in
    let h : value f * 10 ^ length b + value b < 10 ^ 18 = joined_lt (value f) (value b) (length f) (length b) (value_lt f c.requires.first) (value_lt b c.requires.second) c.requires.short in
    rw (c.value_of.ensures, c.pow.ensures, c.value_of-2.ensures) (omega arith)
