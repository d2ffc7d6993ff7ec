use Rattle.std.proofs.Common.{inr, refl}
use Rattle.batch_runs.specs.Runs.{cut_before, no_words}
use Rattle.batch_runs.proofs.Tops.{unread-says, words-say}
use Rattle.batch_runs.proofs.top.run.Goals as goal

pub returns-in-Ok-clause-words : goal.returns-in-Ok-clause-words
returns-in-Ok-clause-words g c = λ two. absurd (c.run_with.ensures.taken two)

pub returns-in-Ok-clause-no_words : goal.returns-in-Ok-clause-no_words
returns-in-Ok-clause-no_words g c = λ none. absurd (none c.in-Ok.settings c.in-Ok.ensures.found)

pub returns-in-Ok-clause-shown : goal.returns-in-Ok-clause-shown
returns-in-Ok-clause-shown g c = words-say _ _ c.in-Ok.settings c.run_with.result c.in-Ok.ensures.found _ _ _ _ _ _ c.run_with.ensures.shown

pub returns-in-Err-Refused-clause-shown : goal.returns-in-Err-Refused-clause-shown
returns-in-Err-Refused-clause-shown g c = unread-says _ _ _ _ _ _ (λ h e. no_words e refl refl)

pub returns-in-Err-Memory-clause-shown : goal.returns-in-Err-Memory-clause-shown
returns-in-Err-Memory-clause-shown g c = unread-says _ _ _ _ _ _ (λ h e. cut_before e (inr refl) refl)
