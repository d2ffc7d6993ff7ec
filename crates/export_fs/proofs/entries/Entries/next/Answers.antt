-- The range holds the entries after the cookie, and begins with the next one.
use Rattle.export_fs.proofs.Cookies.{ranged, ranged_none}
use Rattle.export_fs.proofs.entries.Entries.next.Goals as goal

pub returns-in-Some : goal.returns-in-Some
returns-in-Some c = ranged c.args.cookie c.self.inside.by_cookie.entries c.range-rest.result c.next.new.self c.args.self.now (c.in-Some.cookie.now, c.in-Some.entry.now) c.self.invariant c.self.view_is (c.range-rest.ensures.between tt) c.in-Some.ensures.steps

pub returns-in-None : goal.returns-in-None
returns-in-None c = ranged_none c.args.cookie c.self.inside.by_cookie.entries c.range-rest.result c.args.self.now c.self.view_is (c.range-rest.ensures.between tt) c.in-None.ensures.steps.0
