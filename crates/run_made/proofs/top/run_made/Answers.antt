use Rattle.std.proofs.Common.{inl, inr, Some, ap, ◌∙◌}
use Rattle.outside.specs.Views.{SinkView, SourceView}
use Rattle.script_runs.specs.LaneRuns.{SessionBy}
use Rattle.nfs_client.specs.Headline.{Headline}
use Rattle.nfs_client.specs.Run.{Shows}
use Rattle.run_made.proofs.CutShort.{session_by, headline_by}
use Rattle.run_made.proofs.Telling.{made_says, unmade_says, nothing_said, stays_seven}
use Rattle.run_made.proofs.top.run_made.Goals as goal

pub returns-in_default-clause-shown : goal.returns-in_default-clause-shown
returns-in_default-clause-shown g c = unmade_says (SessionBy Shows) session_by _ _ _ _ _

pub returns-in_default-clause-headline : goal.returns-in_default-clause-headline
returns-in_default-clause-headline g c = unmade_says Headline headline_by _ _ _ _ _

pub returns-in_default-new-clause-shown : goal.returns-in_default-new-clause-shown
returns-in_default-new-clause-shown g c = unmade_says (SessionBy Shows) session_by _ _ _ _ _

pub returns-in_default-new-clause-headline : goal.returns-in_default-new-clause-headline
returns-in_default-new-clause-headline g c = unmade_says Headline headline_by _ _ _ _ _

pub returns-in_default-new-2-clause-shown : goal.returns-in_default-new-2-clause-shown
returns-in_default-new-2-clause-shown g c = unmade_says (SessionBy Shows) session_by _ _ _ _ _

pub returns-in_default-new-2-clause-headline : goal.returns-in_default-new-2-clause-headline
returns-in_default-new-2-clause-headline g c = unmade_says Headline headline_by _ _ _ _ _

pub returns-clause-no_words : goal.returns-clause-no_words
returns-clause-no_words g c = λ none. elim (c.run-ran.ensures.no_words none) [
  | inl two ↦ inl (c.tell.ensures.words two)
  | inr seven ↦ inr (stays_seven _ _ _ _ _ c.tell.ensures.said seven)
]

pub tell-requires-clause-unread : goal.tell-requires-clause-unread
tell-requires-clause-unread g c = λ two. c.bytes-2.ensures ∙ nothing_said _ _ (ap (λ (t : SinkView). t.written) c.in-Ok-new-2.ensures) (c.run-ran.ensures.unread (inl two))

pub returns-clause-shown : goal.returns-clause-shown
returns-clause-shown g c = made_says (SessionBy Shows) session_by _ _ _ _ _ _ _ _ _ _ _ _ _
    (ap (λ (t : SourceView). Some t.left) c.in-Ok-new.ensures ∙ ap Some c.bytes.ensures ∙ ap Some c.in-Ok.ensures)
    (ap (λ (t : SinkView). t.written) c.in-Ok-new-2.ensures)
    c.run-ran.ensures.shown
    (rw c.bytes-2.ensures at c.tell.ensures.said)

pub returns-clause-headline : goal.returns-clause-headline
returns-clause-headline g c = made_says Headline headline_by _ _ _ _ _ _ _ _ _ _ _ _ _
    (ap (λ (t : SourceView). Some t.left) c.in-Ok-new.ensures ∙ ap Some c.bytes.ensures ∙ ap Some c.in-Ok.ensures)
    (ap (λ (t : SinkView). t.written) c.in-Ok-new-2.ensures)
    c.run-ran.ensures.headline
    (rw c.bytes-2.ensures at c.tell.ensures.said)
