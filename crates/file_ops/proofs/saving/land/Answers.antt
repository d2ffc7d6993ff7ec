use Rattle.std.proofs.Common.{refl}
use Rattle.write_back.specs.declared.change.Change.TheVariants as by
use Rattle.write_back.specs.Landing.{landed, landed_part, acked_by}
use Rattle.file_ops.proofs.Free.{free-landed}
use Rattle.file_ops.proofs.Landed.{whole-none, whole-err, whole-refused, whole-fails}
use Rattle.file_ops.proofs.saving.land.Goals as goal

pub returns-in-Ok-clause-free : goal.returns-in-Ok-clause-free
returns-in-Ok-clause-free c = free-landed c.args.xid c.args.asked c.args.file.now (landed_part (acked_by c.in-Done.committed c.in-Done.verf) c.in-Done.count) _ _ (λ _ _. refl) c.in-Ok.ensures.ok.here c.requires

pub returns-in-Err-clause-free : goal.returns-in-Err-clause-free
returns-in-Err-clause-free c = free-landed c.args.xid c.args.asked c.args.file.now (landed by.Return) _ _ (λ _ _. refl) c.in-Err.ensures.err.here c.requires

pub returns-in-Refused-clause-free : goal.returns-in-Refused-clause-free
returns-in-Refused-clause-free c = free-landed c.args.xid c.args.asked c.args.file.now (landed (by.Refuse c.in-Refused.status)) _ _ (λ _ _. refl) c.refused.ensures.segments.here c.requires

pub returns-in-Fails-clause-free : goal.returns-in-Fails-clause-free
returns-in-Fails-clause-free c = free-landed c.args.xid c.args.asked c.args.file.now (landed by.Return) _ _ (λ _ _. refl) c.returned.ensures.segments.here c.requires

pub returns-in-Ok-clause-whole : goal.returns-in-Ok-clause-whole
returns-in-Ok-clause-whole c = whole-none _ _

pub returns-in-Err-clause-whole : goal.returns-in-Err-clause-whole
returns-in-Err-clause-whole c = whole-err _ _ _ _ _ c.in-Done.is _ _ _ c.in-Err.ensures.whole

pub returns-in-Refused-clause-whole : goal.returns-in-Refused-clause-whole
returns-in-Refused-clause-whole c = whole-refused _ _ c.in-Refused.is _ _

pub returns-in-Fails-clause-whole : goal.returns-in-Fails-clause-whole
returns-in-Fails-clause-whole c = whole-fails _ _ c.in-Fails.is _ _
