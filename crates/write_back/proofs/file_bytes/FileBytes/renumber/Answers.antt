use Rattle.write_back.proofs.Keeping.{kept-xid}
use Rattle.write_back.proofs.file_bytes.FileBytes.renumber.Goals as goal

pub invariant_of-self : goal.invariant_of-self
invariant_of-self c =
    let free = rw (← c.self.view_is) at c.requires.free in
    rw c.renumber.ensures (record { kept = kept-xid c.args.xid c.args.to _ _ _ free c.self.invariant.kept; none = c.self.invariant.none })
