use Rattle.std.proofs.Common.{ap, ◌∙◌, arith}
use Rattle.write_back.specs.Walk.{taken_out}
use Rattle.write_back.proofs.Ranges.{laid-taken}
use Rattle.write_back.proofs.Sums.{own-laid-free}
use Rattle.write_back.proofs.segment_map.SegmentMap.lay_both.Goals as goal

pub lay-requires-2 : goal.lay-requires-2
lay-requires-2 c =
    let free = rw c.in-Some.is at c.requires.free in
    let room = rw c.in-Some.is at c.requires.room in
    omega (arith, own-laid-free c.args.end c.in-Some.tail c.args.self.now free, room)

pub returns-in-Err-clause-err : goal.returns-in-Err-clause-err
returns-in-Err-clause-err c =
    c.take_out.ensures ∙ ap (taken_out c.args.end) (c.in-Err.ensures.err ∙ c.in_ok-lay.ensures.ok) ∙ laid-taken c.args.end c.in-Some.tail c.args.self.now (rw c.in-Some.is at c.requires.free)
