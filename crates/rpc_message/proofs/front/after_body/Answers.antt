use Rattle.rpc_message.proofs.Fronts.{after_opaque, body_read}
use Rattle.rpc_message.proofs.front.after_body.Goals as goal

pub split_at-requires : goal.split_at-requires
split_at-requires c = (after_opaque 400 _ _ _ _ c.new.ensures c.in_ok-body.ensures.spelled.found).long

pub returns : goal.returns
returns c = body_read _ _ _ _ _ c.new.ensures c.in_ok-body.ensures.exact c.split_at.ensures.back (after_opaque 400 _ _ _ _ c.new.ensures c.in_ok-body.ensures.spelled.found)
