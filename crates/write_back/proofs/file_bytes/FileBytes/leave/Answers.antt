use Rattle.write_back.proofs.Losing.{lessens-left}
use Rattle.write_back.proofs.file_bytes.FileBytes.leave.Goals as goal

pub returns : goal.returns
returns c =
    let none = rw (← c.self.view_is) at c.requires in
    rw (← c.self.view_is) (lessens-left (record { segments = c.self.inside.spans; pieces = c.self.inside.sent.items }) c.args.ages.now c.lessen_gone.new.ages c.self.invariant.kept.sound.apart none c.lessen_gone.ensures)
