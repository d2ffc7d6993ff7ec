use Rattle.lane_session.proofs.Beginnings.{found-at}
use Rattle.lane_session.proofs.lanes.Lanes.seek.Goals as goal

pub returns : goal.returns
returns c = record {
  before = c.place-before.result;
  there = c.place-before.ensures;
  at = c.next_of-next.result;
  next = c.next_of-next.ensures;
  found = found-at c.args.script.now c.args.lane c.place-before.result.next c.next_of-next.result c.before_end.result c.next_of-next.ensures (rw c.count.ensures at c.before_end.ensures);
  is = c.set_place.ensures;
}
