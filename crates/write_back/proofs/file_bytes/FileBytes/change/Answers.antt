use Rattle.write_back.proofs.Losing.{loses-changed}
use Rattle.write_back.proofs.Keeping.{kept-held}
use Rattle.write_back.proofs.Passed.{upto-zero}
use Rattle.write_back.proofs.file_bytes.FileBytes.change.Goals as goal

pub invariant_of-self : goal.invariant_of-self
invariant_of-self c = rw c.change_all.ensures.after (record { kept = kept-held c.args.change _ _ c.self.inside.resume c.requires c.self.invariant.kept; none = upto-zero _ _ })

pub returns-clause-loses : goal.returns-clause-loses
returns-clause-loses c = rw (← c.self.view_is) (loses-changed c.args.change (record { segments = c.self.inside.spans; pieces = c.self.inside.sent.items }) c.change_all.new.self c.args.ages.now c.lessen_gone.new.ages c.self.invariant.kept.sound.apart c.change_all.ensures.after c.lessen_gone.ensures)
