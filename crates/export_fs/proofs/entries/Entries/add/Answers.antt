-- The entry with the highest cookie comes last.
use Rattle.std.proofs.Common.{rules}
use Rattle.export_fs.proofs.Cookies.{added}
use Rattle.export_fs.proofs.entries.Entries.add.Goals as goal

pub invariant_of-self-2 : goal.invariant_of-self-2
invariant_of-self-2 c = (added c.self.inside.by_cookie.entries c.insert.new.self.entries c.args.self.now c.args.row.cookie _ c.self.invariant (search rules) c.requires c.in_ok-insert.ensures.entries).0

pub returns-clause-ok : goal.returns-clause-ok
returns-clause-ok c = (added c.self.inside.by_cookie.entries c.insert.new.self.entries c.args.self.now c.args.row.cookie _ c.self.invariant (search rules) c.requires c.in_ok-insert.ensures.entries).1
