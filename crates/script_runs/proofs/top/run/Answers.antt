use Rattle.std.proofs.Common.{inl, inr, refl}
use Rattle.script_runs.specs.LaneRuns.{Leaves, SessionBy}
use Rattle.script_runs.specs.Run.{no_words, cut_before}
use Rattle.script_runs.proofs.Runs.{words_say, unread_says}
use Rattle.script_runs.proofs.top.run.Goals as goal

pub returns-in-Ok-clause-words : goal.returns-in-Ok-clause-words
returns-in-Ok-clause-words g c = λ two. absurd (c.run_with.ensures.taken two)

pub returns-in-Ok-clause-no_words : goal.returns-in-Ok-clause-no_words
returns-in-Ok-clause-no_words g c = λ none. absurd (none c.in-Ok.settings c.in-Ok.ensures.found)

pub returns-in-Ok-clause-unread : goal.returns-in-Ok-clause-unread
returns-in-Ok-clause-unread g c = λ read. elim read [ inl two ↦ absurd (c.run_with.ensures.taken two) | inr four ↦ c.run_with.ensures.unread four ]

pub returns-in-Ok-clause-shown : goal.returns-in-Ok-clause-shown
returns-in-Ok-clause-shown g c = words_say (SessionBy Leaves) _ _ _ _ _ _ _ _ _ _ c.in-Ok.ensures.found c.run_with.ensures.shown

pub returns-in-Err-Refused-clause-shown : goal.returns-in-Err-Refused-clause-shown
returns-in-Err-Refused-clause-shown g c = unread_says _ _ _ _ _ _ (no_words refl refl)

pub returns-in-Err-Memory-clause-shown : goal.returns-in-Err-Memory-clause-shown
returns-in-Err-Memory-clause-shown g c = unread_says _ _ _ _ _ _ (cut_before (inr refl) refl)
