use Rattle.std.proofs.Common.{inl, inr, refl, arith}
use Rattle.run_asked.proofs.Words.{unworded, words-end}
use Rattle.nfs_copy.proofs.Whole.{words-copy}
use Rattle.nfs_copy.proofs.top.run.Goals as goal

pub returns-in-Ok-clause-words : goal.returns-in-Ok-clause-words
returns-in-Ok-clause-words g c = λ two. let taken = c.copy.ensures.taken in absurd (omega (arith, two, taken (omega (arith, two))))

pub returns-in-Ok-clause-apart : goal.returns-in-Ok-clause-apart
returns-in-Ok-clause-apart g c = λ three. c.copy.ensures.taken (omega (arith, three))

pub returns-in-Ok-clause-no_words : goal.returns-in-Ok-clause-no_words
returns-in-Ok-clause-no_words g c = λ none. absurd (none c.in-Ok.settings c.in-Ok.ensures.found)

pub returns-in-Ok-clause-copied : goal.returns-in-Ok-clause-copied
returns-in-Ok-clause-copied g c = λ zero_is start. words-copy _ _ c.in-Ok.settings c.args.to c.in-Ok.ensures.found _ _ _ (c.copy.ensures.copied zero_is start)

pub returns-in-Ok-clause-ends : goal.returns-in-Ok-clause-ends
returns-in-Ok-clause-ends g c = words-end _ c.in-Ok.settings _ _ _ c.in-Ok.ensures.found c.copy.ensures.ends

pub returns-in-Err-Refused-clause-ends : goal.returns-in-Err-Refused-clause-ends
returns-in-Err-Refused-clause-ends g c = unworded _ _ 2 (inl refl)

pub returns-clause-ends : goal.returns-clause-ends
returns-clause-ends g c = unworded _ _ 7 (inr refl)
