-- By the tests of the last entry, or of the whole beginning.
use Rattle.std.proofs.Common.{sym, ◌∙◌, ◌+◌, arith}
use Rattle.trace_claims.specs.Judging.{beginning_of}
use Rattle.trace_claims.proofs.Judgement.{lost-by, misread-by, early-by, keeps-by, steps-by}
use Rattle.trace_claims.proofs.Walking.{settled-step, reads-step, ends-step}
use Rattle.trace_claims.proofs.beginnings.newly_broken.Goals as goal

pub returns-then-refuses_write : goal.returns-then-refuses_write
returns-then-refuses_write c m origin all below keeps = c.breaks.ensures m origin all (omega (arith, below))

pub returns-then-not-is_settled_last : goal.returns-then-not-is_settled_last
returns-then-not-is_settled_last c m origin all below keeps =
    let s = steps-by m origin c.args.trace.now c.args.digest.now c.args.entry all below (sym c.refuses_write.ensures ∙ c.if-refuses_write.false) keeps in
    lost-by m origin (beginning_of c.args.trace.now (c.args.entry + 1)) c.is_settled_last.result (settled-step m origin c.args.trace.now c.args.digest.now c.args.entry s c.is_settled_last.result c.is_settled_last.ensures) c.if-not-is_settled_last.true

pub returns-then-not-last_shows_well : goal.returns-then-not-last_shows_well
returns-then-not-last_shows_well c m origin all below keeps =
    let s = steps-by m origin c.args.trace.now c.args.digest.now c.args.entry all below (sym c.refuses_write.ensures ∙ c.if-refuses_write.false) keeps in
    misread-by m origin (beginning_of c.args.trace.now (c.args.entry + 1)) c.is_settled_last.result _
    (settled-step m origin c.args.trace.now c.args.digest.now c.args.entry s c.is_settled_last.result c.is_settled_last.ensures)
    (reads-step m origin c.args.trace.now c.args.digest.now c.args.entry s) c.if-not-is_settled_last.false (sym c.last_shows_well.ensures ∙ c.if-not-last_shows_well.true)

pub returns-then-not-last_ends_well : goal.returns-then-not-last_ends_well
returns-then-not-last_ends_well c m origin all below keeps =
    let s = steps-by m origin c.args.trace.now c.args.digest.now c.args.entry all below (sym c.refuses_write.ensures ∙ c.if-refuses_write.false) keeps in
    early-by m origin (beginning_of c.args.trace.now (c.args.entry + 1)) c.is_settled_last.result _ _
    (settled-step m origin c.args.trace.now c.args.digest.now c.args.entry s c.is_settled_last.result c.is_settled_last.ensures)
    (reads-step m origin c.args.trace.now c.args.digest.now c.args.entry s) (ends-step m origin c.args.trace.now c.args.digest.now c.args.entry s)
    c.if-not-is_settled_last.false (sym c.last_shows_well.ensures ∙ c.if-not-last_shows_well.false) (sym c.last_ends_well.ensures ∙ c.if-not-last_ends_well.true)

pub returns : goal.returns
returns c m origin all below keeps =
    let s = steps-by m origin c.args.trace.now c.args.digest.now c.args.entry all below (sym c.refuses_write.ensures ∙ c.if-refuses_write.false) keeps in
    keeps-by m origin (beginning_of c.args.trace.now (c.args.entry + 1)) c.is_settled_last.result _ _
    (settled-step m origin c.args.trace.now c.args.digest.now c.args.entry s c.is_settled_last.result c.is_settled_last.ensures)
    (reads-step m origin c.args.trace.now c.args.digest.now c.args.entry s) (ends-step m origin c.args.trace.now c.args.digest.now c.args.entry s)
    c.if-not-is_settled_last.false (sym c.last_shows_well.ensures ∙ c.if-not-last_shows_well.false) (sym c.last_ends_well.ensures ∙ c.if-not-last_ends_well.false)
