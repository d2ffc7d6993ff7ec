-- Each claim by its test.
use Rattle.std.proofs.Common.{sym, ◌∙◌}
use Rattle.trace_claims.specs.Judging.{beginning_of}
use Rattle.trace_claims.proofs.Judgement.{lost-by, misread-by, early-by, keeps-by, settled-at, reads-at, ends-at}
use Rattle.trace_claims.proofs.beginnings.breaks.Goals as goal

pub returns-then-not-is_settled : goal.returns-then-not-is_settled
returns-then-not-is_settled c m origin all within = lost-by m origin (beginning_of c.args.trace.now c.args.total) c.is_settled.result (settled-at m origin c.args.trace.now c.args.digest.now c.args.total all within c.is_settled.result c.is_settled.ensures) c.if-not-is_settled.true

pub returns-then-not-all_show_well : goal.returns-then-not-all_show_well
returns-then-not-all_show_well c m origin all within =
    misread-by m origin (beginning_of c.args.trace.now c.args.total) c.is_settled.result _
    (settled-at m origin c.args.trace.now c.args.digest.now c.args.total all within c.is_settled.result c.is_settled.ensures)
    (reads-at m origin c.args.trace.now c.args.digest.now c.args.total all within)
    c.if-not-is_settled.false (sym c.all_show_well.ensures ∙ c.if-not-all_show_well.true)

pub returns-then-not-all_end_well : goal.returns-then-not-all_end_well
returns-then-not-all_end_well c m origin all within =
    early-by m origin (beginning_of c.args.trace.now c.args.total) c.is_settled.result _ _
    (settled-at m origin c.args.trace.now c.args.digest.now c.args.total all within c.is_settled.result c.is_settled.ensures)
    (reads-at m origin c.args.trace.now c.args.digest.now c.args.total all within) (ends-at m origin c.args.trace.now c.args.digest.now c.args.total all within)
    c.if-not-is_settled.false (sym c.all_show_well.ensures ∙ c.if-not-all_show_well.false) (sym c.all_end_well.ensures ∙ c.if-not-all_end_well.true)

pub returns : goal.returns
returns c m origin all within =
    keeps-by m origin (beginning_of c.args.trace.now c.args.total) c.is_settled.result _ _
    (settled-at m origin c.args.trace.now c.args.digest.now c.args.total all within c.is_settled.result c.is_settled.ensures)
    (reads-at m origin c.args.trace.now c.args.digest.now c.args.total all within) (ends-at m origin c.args.trace.now c.args.digest.now c.args.total all within)
    c.if-not-is_settled.false (sym c.all_show_well.ensures ∙ c.if-not-all_show_well.false) (sym c.all_end_well.ensures ∙ c.if-not-all_end_well.false)
