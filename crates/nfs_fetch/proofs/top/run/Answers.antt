use Rattle.std.proofs.Common.{inl, inr, refl, arith}
use Rattle.run_asked.proofs.Words.{unworded, words-end}
use Rattle.nfs_fetch.proofs.top.run.Goals as goal

pub returns-in-Ok-clause-words : goal.returns-in-Ok-clause-words
returns-in-Ok-clause-words g c = λ two. let taken = c.fetch.ensures.taken in absurd (omega (arith, two, taken (omega (arith, two))))

pub returns-in-Ok-clause-apart : goal.returns-in-Ok-clause-apart
returns-in-Ok-clause-apart g c = λ three. c.fetch.ensures.taken (omega (arith, three))

pub returns-in-Ok-clause-no_words : goal.returns-in-Ok-clause-no_words
returns-in-Ok-clause-no_words g c = λ none. absurd (none c.in-Ok.settings c.in-Ok.ensures.found)

pub returns-in-Ok-clause-ends : goal.returns-in-Ok-clause-ends
returns-in-Ok-clause-ends g c = words-end _ c.in-Ok.settings _ _ _ c.in-Ok.ensures.found c.fetch.ensures.ends

pub returns-in-Err-Refused-clause-ends : goal.returns-in-Err-Refused-clause-ends
returns-in-Err-Refused-clause-ends g c = unworded _ _ 2 (inl refl)

pub returns-clause-ends : goal.returns-clause-ends
returns-clause-ends g c = unworded _ _ 7 (inr refl)
