use Rattle.std.proofs.Common.{◌∙◌}
use Rattle.write_back.proofs.Ranges.{range_is}
use Rattle.write_back.proofs.segment_map.SegmentMap.from_place.Goals as goal

pub returns : goal.returns
returns c = rw (← c.self.view_is) (c.range.ensures.between tt ∙ range_is c.args.place _)
