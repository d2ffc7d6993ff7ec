use Rattle.std.proofs.Common.{sym}
use Rattle.page_cache.proofs.Made.{length-with_empty}
use Rattle.page_cache.proofs.page_room.PageRoom.len.Goals as goal

pub returns : goal.returns
returns c = rw (← c.self.view_is) (sym (length-with_empty c.self.inside.count c.self.inside.made.items c.self.invariant.0))
