-- What was left, or what may have been changed.
use Rattle.std.proofs.lemmas.Bool.{or_left, or_from}
use Rattle.std.proofs.Common.{true, false, sym, ◌∙◌}
use Rattle.trace_claims.specs.Bytes.{shows}
use Rattle.trace_claims.specs.Keeping.{is_touched, is_kept}
use Rattle.trace_claims.proofs.Kept.{until-next}
use Rattle.trace_claims.proofs.Reaching.{until-kept}
use Rattle.trace_claims.proofs.keeping.kept_until.Goals as goal

pub returns-then-shows : goal.returns-then-shows
returns-then-shows c =
    until-next (is_kept c.args.entries.now c.args.digest.now c.args.written.now c.args.question.now c.args.now.now c.args.stable.now c.args.span.offset) c.args.at c.args.span.to c.requires
    (or_left (shows c.args.entries.now c.args.written.now.place c.args.now.now c.args.stable.now c.args.span.offset c.args.at) (is_touched c.args.digest.now c.args.written.now c.args.question.now c.args.at)
    (sym c.shows.ensures ∙ c.if-shows.true))

pub returns-then-is_touched : goal.returns-then-is_touched
returns-then-is_touched c =
    until-kept c.args.entries.now c.args.digest.now c.args.written.now c.args.question.now c.args.now.now c.args.stable.now c.args.span.offset c.args.at c.args.span.to c.touched_until.result
    (c.touched_until.ensures (sym c.is_touched.ensures ∙ c.if-is_touched.true))

pub returns : goal.returns
returns c =
    or_from (shows c.args.entries.now c.args.written.now.place c.args.now.now c.args.stable.now c.args.span.offset c.args.at) (is_touched c.args.digest.now c.args.written.now c.args.question.now c.args.at)
    (sym c.shows.ensures ∙ c.if-shows.false) (sym c.is_touched.ensures ∙ c.if-is_touched.false)
