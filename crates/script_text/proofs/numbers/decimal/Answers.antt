use Rattle.std.proofs.Common.{sym, ◌∙◌}
use Rattle.script_text.proofs.Decimals.{no_number, utf8_digits, number_from}
use Rattle.script_text.proofs.numbers.decimal.Goals as goal

pub returns-then-not-are_digits : goal.returns-then-not-are_digits
returns-then-not-are_digits c = no_number c.args.digits.now (sym c.are_digits.ensures ∙ c.if-not-are_digits.true)

pub returns-in-Err : goal.returns-in-Err
returns-in-Err c = absurd (c.in-Err.ensures.cases.0 (utf8_digits c.args.digits.now (sym c.are_digits.ensures ∙ c.if-not-are_digits.false)))

pub returns-in-Ok : goal.returns-in-Ok
returns-in-Ok c =
    rw c.ok.ensures.value (number_from c.args.digits.now c.parse.result (rw c.in-Ok.ensures.cases.0 at c.parse.ensures.value.0) (sym c.are_digits.ensures ∙ c.if-not-are_digits.false))
