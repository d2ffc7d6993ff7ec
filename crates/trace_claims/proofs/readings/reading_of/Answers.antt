-- What the read may show.
use Rattle.std.proofs.Common.{refl}
use Rattle.trace_claims.proofs.readings.reading_of.Goals as goal

pub returns : goal.returns
returns c = record {
  place_is = refl;
  end_is = refl;
  file_is = refl;
  offset_is = c.offset_of.ensures;
  count_is = c.count_of.ensures;
  since = c.since-since.result;
  is = c.since-since.ensures;
  has = c.in_ok-window.ensures;
}
