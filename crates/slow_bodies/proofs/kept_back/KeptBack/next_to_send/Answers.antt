use Rattle.write_back.proofs.Numbers.{upto_sends}
use Rattle.slow_bodies.proofs.kept_back.KeptBack.next_to_send.Goals as goal

pub invariant_of-self : goal.invariant_of-self
invariant_of-self c =
    upto_sends c.self.inside.number c.args.xid c.args.upto c.args.wsize _ _ c.args.file.now c.next_to_send.result c.next_to_send.follows.holds-at-none c.self.invariant

pub invariant_of-self-in_err-copied : goal.invariant_of-self-in_err-copied
invariant_of-self-in_err-copied c =
    upto_sends c.self.inside.number c.args.xid c.args.upto c.args.wsize _ _ c.args.file.now c.next_to_send.result c.next_to_send.follows.holds-at-none c.self.invariant

pub invariant_of-self-2 : goal.invariant_of-self-2
invariant_of-self-2 c =
    upto_sends c.self.inside.number c.args.xid c.args.upto c.args.wsize _ _ c.args.file.now c.next_to_send.result c.next_to_send.follows.holds-at-none c.self.invariant
