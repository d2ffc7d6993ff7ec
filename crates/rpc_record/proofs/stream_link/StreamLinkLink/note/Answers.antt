use Rattle.std.proofs.Common.{Ok, Err}
use Rattle.xdr_codec.specs.declared.blob.Memory.{Memory}
use Rattle.rpc_record.proofs.LineSteps.{note_step}
use Rattle.rpc_record.proofs.stream_link.StreamLinkLink.note.Goals as goal
use Rattle.rpc_record.proofs.stream_link.StreamLinkLink.note.Goals.{in-Ok, in-Err}

pub returns-clause-told : goal.returns-clause-told
returns-clause-told g c = elim c.match-note.branch [
  | in-Ok w ↦ rw (← c.self.view_is, w.result-is) (note_step {T = Unit {0}} {E = Memory} _ _ _ _ c.args.mark (Ok tt) c.self.invariant w.in-Ok.ensures.now).notes
  | in-Err w ↦ rw (← c.self.view_is, w.result-is) (note_step {T = Unit {0}} {E = Memory} _ _ _ _ c.args.mark (Err (record {})) c.self.invariant w.in-Err.ensures.now).notes
]
