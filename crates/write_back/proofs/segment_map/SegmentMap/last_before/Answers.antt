use Rattle.std.proofs.Common.{sym, ◌∙◌}
use Rattle.write_back.proofs.Ranges.{last_none, last_some}
use Rattle.write_back.proofs.segment_map.SegmentMap.last_before.Goals as goal

pub returns-in_err-at : goal.returns-in_err-at
returns-in_err-at c =
    rw c.from_residual.ensures (rw (← c.self.view_is) (sym (last_none c.args.place _ (sym (c.range.ensures.between tt) ∙ c.in_err-at.ensures.steps.0))))

pub returns : goal.returns
returns c =
    rw (← c.self.view_is) (sym (last_some c.args.place _ _ _ (sym (c.range.ensures.between tt) ∙ c.in_ok-at.ensures.steps)))
