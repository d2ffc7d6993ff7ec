use Rattle.std.proofs.Common.{sym}
use Rattle.write_back.proofs.Overlaying.{shown-none}
use Rattle.write_back.proofs.walks.show_any.Goals as goal

pub returns-in_default : goal.returns-in_default
returns-in_default c = rw (c.in_default.is) (sym (shown-none c.args.offset c.args.buf.now))
