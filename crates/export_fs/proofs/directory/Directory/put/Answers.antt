-- The new entry comes last, and that of what had the name goes.
use Rattle.std.proofs.Common.{rules, ◌≡◌, ◌+◌, ◌++◌, ◌∷◌, []}
use Rattle.export_fs.specs.Held.{Row}
use Rattle.export_fs.specs.Names.{without}
use Rattle.export_fs.proofs.DirectoryKeepsNames.{entered, not_entered, kept_same}
use Rattle.export_fs.proofs.directory.Directory.put.Goals as goal

pub invariant_of-self-in-Err : goal.invariant_of-self-in-Err
invariant_of-self-in-Err c =
    let k : c.in-Some.cookie ≡ c.self.inside.last + 1 = search rules in
    let row : Row = record { name = c.args.name.now; place = c.args.place; cookie = c.in-Some.cookie } in
    kept_same c.self.inside.entries c.take.new.self c.self.inside.by_name c.insert.new.self c.self.inside.last c.self.invariant
    (not_entered c.self.inside.entries c.add.new.self c.take.new.self c.self.inside.by_name c.insert.new.self c.self.inside.last row c.self.invariant k c.in_ok-add.ensures.ok c.take.ensures)
    c.in-Err.ensures.err

pub returns-in-Err-clause-err : goal.returns-in-Err-clause-err
returns-in-Err-clause-err c =
    let k : c.in-Some.cookie ≡ c.self.inside.last + 1 = search rules in
    let row : Row = record { name = c.args.name.now; place = c.args.place; cookie = c.in-Some.cookie } in
    let e : c.take.new.self ≡ c.self.inside.entries = not_entered c.self.inside.entries c.add.new.self c.take.new.self c.self.inside.by_name c.insert.new.self c.self.inside.last row c.self.invariant k c.in_ok-add.ensures.ok c.take.ensures in
    search (rules, e)

pub invariant_of-self-2 : goal.invariant_of-self-2
invariant_of-self-2 c =
    let k : c.in-Some.cookie ≡ c.self.inside.last + 1 = search rules in
    let row : Row = record { name = c.args.name.now; place = c.args.place; cookie = c.in-Some.cookie } in
    (entered c.self.inside.entries c.add.new.self c.forget.new.entries c.self.inside.by_name c.insert.new.self c.self.inside.last row c.in-Ok.before c.self.invariant k c.in_ok-add.ensures.ok c.in-Ok.ensures.old c.in-Ok.ensures.updates c.forget.ensures).0

pub returns-clause-ok : goal.returns-clause-ok
returns-clause-ok c =
    let k : c.in-Some.cookie ≡ c.self.inside.last + 1 = search rules in
    let row : Row = record { name = c.args.name.now; place = c.args.place; cookie = c.in-Some.cookie } in
    let e : c.forget.new.entries ≡ without c.args.name.now c.self.inside.entries ++ row ∷ [] = (entered c.self.inside.entries c.add.new.self c.forget.new.entries c.self.inside.by_name c.insert.new.self c.self.inside.last row c.in-Ok.before c.self.invariant k c.in_ok-add.ensures.ok c.in-Ok.ensures.old c.in-Ok.ensures.updates c.forget.ensures).1 in
    search (rules, e, k)
