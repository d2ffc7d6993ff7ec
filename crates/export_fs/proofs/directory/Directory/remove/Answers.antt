-- What had the name goes from both maps.
use Rattle.std.proofs.Common.{rules}
use Rattle.export_fs.proofs.DirectoryKeepsNames.{removed}
use Rattle.export_fs.proofs.directory.Directory.remove.Goals as goal

pub invariant_of-self : goal.invariant_of-self
invariant_of-self c = (removed c.self.inside.entries c.forget.new.entries c.self.inside.by_name c.remove-before.new.self c.self.inside.last c.args.name.now c.remove-before.result c.self.invariant c.remove-before.ensures.value c.remove-before.ensures.updates c.forget.ensures).0

pub returns : goal.returns
returns c =
    let e = (removed c.self.inside.entries c.forget.new.entries c.self.inside.by_name c.remove-before.new.self c.self.inside.last c.args.name.now c.remove-before.result c.self.invariant c.remove-before.ensures.value c.remove-before.ensures.updates c.forget.ensures).1 in
    search (rules, e)
