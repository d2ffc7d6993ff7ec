-- Nothing moved, or each object is looked at.
use Rattle.world_trace.proofs.Mirroring.{if-ok-then}
use Rattle.world_trace.proofs.changes.changed_if.Goals as goal

pub returns : goal.returns
returns c = if-ok-then c.changed_objects.result c.changed_objects.ensures (λ objects step old more rests shows. step old more shows)
