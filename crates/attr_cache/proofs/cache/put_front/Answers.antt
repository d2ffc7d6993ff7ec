use Rattle.attr_cache.proofs.Fronting.{put-is-fronted, length-put}
use Rattle.attr_cache.proofs.cache.put_front.Goals as goal

pub returns-clause-room : goal.returns-clause-room
returns-clause-room c = rw c.in_ok-put.ensures.entries (c.requires.0, length-put c.args.table.now _ _ c.requires.0 c.requires.1)

pub returns-clause-ok : goal.returns-clause-ok
returns-clause-ok c = rw c.in_ok-put.ensures.entries (put-is-fronted c.args.table.now _ _ c.requires.0 c.requires.1)
