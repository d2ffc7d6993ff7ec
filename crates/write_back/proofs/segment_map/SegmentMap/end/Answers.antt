use Rattle.std.proofs.Common.{sym, subst, arith}
use Rattle.write_back.specs.Segments.{AreApart}
use Rattle.write_back.proofs.LastEnds.{last-is}
use Rattle.write_back.proofs.segment_map.SegmentMap.end.Goals as goal

pub overflow_add-result : goal.overflow_add-result
overflow_add-result c =
    let apart : AreApart 0 c.self.inside.entries.entries = subst (AreApart 0) (sym c.self.view_is) c.requires in
    let is = last-is 0 c.self.inside.entries.entries (c.in_ok-at.at.now, c.in_ok-at.segment.now) apart c.in_ok-at.ensures.last in
    omega (arith, is.1, c.len.ensures.len)

pub returns : goal.returns
returns c =
    let apart : AreApart 0 c.self.inside.entries.entries = subst (AreApart 0) (sym c.self.view_is) c.requires in
    let is = last-is 0 c.self.inside.entries.entries (c.in_ok-at.at.now, c.in_ok-at.segment.now) apart c.in_ok-at.ensures.last in
    rw (← c.self.view_is, c.len.ensures.len) (sym is.0)
