use Rattle.std.proofs.Common.{◌≤◌, ◌<◌, take, drop, sym, subst, ap, ◌∙◌, arith}
use Rattle.std.proofs.lemmas.Bool.{false≢true}
use Rattle.std.proofs.lemmas.List.Sums.{prefix_len-le-length}
use Rattle.std.specs.Char.{is_ascii_digit}
use Rattle.std.specs.List.{prefix_len}
use Rattle.std.specs.Str.Parse.{AllDigits, digits_value}
use Rattle.p4_program.specs.declared.v1model.TheConstants.{PORT_END}
use Rattle.testgen_engine.specs.Statements.{IsPlain, IsNumberAt}
use Rattle.testgen_engine.proofs.Digits.{AllDigits-front, no_number-not_plain, no_number-great, number_at}
use Rattle.testgen_engine.proofs.skeleton.leading_number.Goals as goal

pub split_at-requires : goal.split_at-requires
split_at-requires c = omega (arith, c.digit_count.ensures, prefix_len-le-length is_ascii_digit c.args.text.now)

pub returns-then-not-is_plain : goal.returns-then-not-is_plain
returns-then-not-is_plain c =
    let digits = c.split_at.ensures.front ∙ ap (λ n. take n c.args.text.now) c.digit_count.ensures in
    no_number-not_plain c.args.text.now (λ plain. false≢true (sym c.if-not-is_plain.true ∙ c.is_plain.ensures.1 (subst IsPlain (sym digits) plain)))

pub value_of-value-requires-clause-digits : goal.value_of-value-requires-clause-digits
value_of-value-requires-clause-digits c =
    let digits = c.split_at.ensures.front ∙ ap (λ n. take n c.args.text.now) c.digit_count.ensures in
    subst (AllDigits 10) (sym digits) (AllDigits-front c.args.text.now)

pub returns-then-value-lt-PORT_END : goal.returns-then-value-lt-PORT_END
returns-then-value-lt-PORT_END c =
    let text = c.args.text.now in
    let n = prefix_len is_ascii_digit text in
    let digits = c.split_at.ensures.front ∙ ap (λ n. take n text) c.digit_count.ensures in
    let rest = c.split_at.ensures.back ∙ ap (λ n. drop n text) c.digit_count.ensures in
    let value = c.value_of-value.ensures ∙ ap (digits_value 10) digits in
    let plain = subst IsPlain digits (c.is_plain.ensures.0 c.if-not-is_plain.false) in
    let small = subst (λ v. v < PORT_END) value c.if-value-lt-PORT_END.true in
    subst (λ v. IsNumberAt text v c.split_at.result.1.now) (sym value) (subst (λ r. IsNumberAt text (digits_value 10 (take n text)) r) (sym rest) (number_at text plain small))

pub returns-else-value-lt-PORT_END : goal.returns-else-value-lt-PORT_END
returns-else-value-lt-PORT_END c =
    let text = c.args.text.now in
    let digits = c.split_at.ensures.front ∙ ap (λ n. take n text) c.digit_count.ensures in
    let value = c.value_of-value.ensures ∙ ap (digits_value 10) digits in
    no_number-great text (subst (λ v. PORT_END ≤ v) value c.if-value-lt-PORT_END.false)
