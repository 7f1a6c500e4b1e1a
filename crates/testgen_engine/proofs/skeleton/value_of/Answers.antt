use Rattle.std.proofs.Common.{◌≡◌, ◌+◌, ◌*◌, ◌^◌, get_or, add-one, ap, ◌∙◌, arith}
use Rattle.std.proofs.Math.Nat.{pow-succ'}
use Rattle.std.proofs.lemmas.Int.Digits.{digits_value_more}
use Rattle.std.proofs.lemmas.Str.Parse.{digit_at}
use Rattle.testgen_engine.proofs.Digits.{digit_value-digit}
use Rattle.testgen_engine.proofs.skeleton.value_of.Goals as goal

pub overflow_sub-digit : goal.overflow_sub-digit
overflow_sub-digit c = (digit_at c.args.digits.now c.loop-digit.digit-index c.requires.digits c.loop-digit-test.true).0

pub loop-digit-preserved : goal.loop-digit-preserved
loop-digit-preserved c =
    let i = c.loop-digit.digit-index in
    let digit = get_or c.args.digits.now i 0 in
    let range = digit_at c.args.digits.now i c.requires.digits c.loop-digit-test.true in
    let more = digits_value_more 10 c.args.digits.now i c.loop-digit-test.true in
    let stands = digit_value-digit digit range in
    let power : 10 ^ (i + 1) ≡ 10 * 10 ^ i = ap (λ n. 10 ^ n) (add-one i) ∙ pow-succ' 10 i in
    let kept = c.loop-digit.invariant in
    let read = c.from.ensures in
    record { value = omega arith; small = omega arith }
