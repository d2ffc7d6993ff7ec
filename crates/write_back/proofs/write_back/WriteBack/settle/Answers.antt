use Rattle.write_back.specs.declared.change.Change.TheVariants as by
use Rattle.write_back.specs.Places.{ChangesAll}
use Rattle.write_back.proofs.ByFile.{on-tidied}
use Rattle.write_back.proofs.Marking.{held-settle}
use Rattle.write_back.proofs.Through.{tidied-holds}
use Rattle.write_back.proofs.write_back.WriteBack.settle.Goals as goal

pub change-requires : goal.change-requires
change-requires c = held-settle c.args.verf c.args.upto

pub returns-clause-segments : goal.returns-clause-segments
returns-clause-segments c = on-tidied _ _ _ c.args.file.now _ c.change.ensures.segments c.tidy.ensures.bytes

pub returns-clause-places : goal.returns-clause-places
returns-clause-places c = tidied-holds _ _ _ c.args.file.now (ChangesAll (by.Settle c.args.verf c.args.upto)) c.tidy.ensures.bytes c.change.ensures.places
