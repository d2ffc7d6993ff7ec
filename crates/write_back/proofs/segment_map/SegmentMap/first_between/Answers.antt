use Rattle.std.proofs.Common.{sym, ap, refl, ◌∙◌}
use Rattle.std.specs.List.{slice_get}
use Rattle.write_back.proofs.Ranges.{first_is, not-above}
use Rattle.write_back.proofs.segment_map.SegmentMap.first_between.Goals as goal

pub range-requires : goal.range-requires
range-requires c = not-above c.args.low c.args.high c.requires _ refl

pub returns-in_err-at : goal.returns-in_err-at
returns-in_err-at c =
    rw c.from_residual.ensures (rw (← c.self.view_is) (sym (ap (λ r. slice_get r 0) c.in_err-at.ensures.steps.0) ∙ ap (λ r. slice_get r 0) (c.range.ensures.between tt) ∙ first_is c.args.low c.args.high _))

pub returns : goal.returns
returns c =
    rw (← c.self.view_is) (sym (ap (λ r. slice_get r 0) c.in_ok-at.ensures.steps) ∙ ap (λ r. slice_get r 0) (c.range.ensures.between tt) ∙ first_is c.args.low c.args.high _)
