use Rattle.core_counts.proofs.thrift.Once.{kept-once}
use Rattle.core_counts.proofs.given_pages_are_asked_for_once.Goals as goal

pub returns : goal.returns
returns c = kept-once
