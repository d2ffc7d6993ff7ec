-- The path is the way to the directory, and the last name.
use Rattle.std.proofs.Common.{rules, ◌≡◌, Option, IfOk, OnOk, is_some, unwrap_or, option_copied, sym, subst}
use Rattle.export_fs.specs.View.{View}
use Rattle.export_fs.proofs.FreshCalls.{stamped_place}
use Rattle.export_fs.proofs.ExportContract.{sound_place}
use Rattle.export_fs.proofs.PathPlaces.{placed_is}
use Rattle.export_fs.proofs.tree.Tree.place.Goals as goal

pub returns-in-Some-clause-made : goal.returns-in-Some-clause-made
returns-in-Some-clause-made c =
    let e = placed_is c.args.self.now c.args.path.now c.in-Some.front.now c.in-Some.name.now (option_copied c.args.file) c.walk-dir.result (search rules) (search rules) in
    subst (λ (z : Option View). IfOk c.place_in.result (λ made. made ≡ is_some z)) (sym e) c.place_in.ensures.made

pub returns-in-Some-clause-after : goal.returns-in-Some-clause-after
returns-in-Some-clause-after c =
    let e = placed_is c.args.self.now c.args.path.now c.in-Some.front.now c.in-Some.name.now (option_copied c.args.file) c.walk-dir.result (search rules) (search rules) in
    subst (λ (z : Option View). OnOk c.place_in.result (c.place_in.new.self ≡ unwrap_or z c.args.self.now)) (sym e) c.place_in.ensures.after

pub returns-in-Some-clause-sound : goal.returns-in-Some-clause-sound
returns-in-Some-clause-sound c = sound_place c.args.self.now _ c.args.path.now (option_copied c.args.file) c.place_in.result (returns-in-Some-clause-after c) c.place_in.ensures.err

pub returns-in-Some-clause-stamped : goal.returns-in-Some-clause-stamped
returns-in-Some-clause-stamped c = stamped_place c.args.self.now _ c.args.path.now (option_copied c.args.file) c.place_in.result (returns-in-Some-clause-after c) c.place_in.ensures.err
