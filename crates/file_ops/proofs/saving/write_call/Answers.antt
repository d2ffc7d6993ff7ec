use Rattle.file_ops.proofs.Sendings.{last-fits, calls-last}
use Rattle.file_ops.proofs.saving.write_call.Goals as goal

pub last_bytes-bytes-requires-clause-fits : goal.last_bytes-bytes-requires-clause-fits
last_bytes-bytes-requires-clause-fits c =
    last-fits c.args.xid c.args.upto c.args.wsize _ c.args.back.now c.next_to_send.follows.lender-at-none c.args.file.now c.in_ok-piece.field-0 c.in-Some.piece _ c.in_ok-piece.was c.next_to_send.follows.holds-at-none c.in_ok-piece.ensures.shown c.in-Some.is c.in_ok-room.ensures.exact

pub returns : goal.returns
returns c =
    calls-last c.args.xid c.args.upto c.args.wsize c.args.back.now c.next_to_send.follows.lender-at-none c.args.file.now c.in_ok-piece.field-0 c.in-Some.piece _ c.last_bytes-bytes.result c.write_of.result c.in_ok-piece.was c.next_to_send.follows.holds-at-none c.in_ok-piece.ensures.shown c.in-Some.is c.last_bytes-bytes.ensures c.write_of.ensures
