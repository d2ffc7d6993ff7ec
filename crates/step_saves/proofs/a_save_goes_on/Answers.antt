use Rattle.step_saves.proofs.Going.{goes-leaves, goes-sound}
use Rattle.step_saves.proofs.a_save_goes_on.Goals as goal

pub returns-clause-sound : goal.returns-clause-sound
returns-clause-sound c = λ wsize turn by_reply s back next new after sound free g. goes-sound wsize turn.xid turn.room by_reply s back next new after sound free g

pub returns-clause-leaves : goal.returns-clause-leaves
returns-clause-leaves c = λ wsize turn by_reply s back next new after some sound way g. goes-leaves wsize turn.xid turn.room by_reply s back next new after some (sound s.file) way g
