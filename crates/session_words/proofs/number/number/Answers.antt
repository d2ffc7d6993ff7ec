use Rattle.std.proofs.Common.{sym, ◌∙◌}
use Rattle.session_words.proofs.Decimals.{no_digits}
use Rattle.session_words.proofs.number.number.Goals as goal

pub returns-then-not-are_digits : goal.returns-then-not-are_digits
returns-then-not-are_digits c = λ n small. no_digits n _ (rw c.as_bytes.ensures.value at (sym c.are_digits.ensures ∙ c.if-not-are_digits.true))
