use Rattle.std.proofs.Common.{◌∙◌}
use Rattle.write_back.proofs.Entering.{enter-undone, takes-added}
use Rattle.write_back.proofs.Keeping.{kept-added}
use Rattle.write_back.proofs.Passed.{upto-added}
use Rattle.write_back.proofs.file_bytes.FileBytes.add.Goals as goal

pub invariant_of-self-2 : goal.invariant_of-self-2
invariant_of-self-2 c =
    let room = rw (← c.self.view_is) at c.requires.room in
    let above = rw (← c.self.view_is) at c.requires.newest in
    rw (c.in_default.ensures.ok, c.min-self-inside.ensures, c.before_new-self-inside.ensures) (record {
      kept = kept-added c.args.offset c.args.bytes.now c.args.number _ c.self.inside.flying c.self.inside.resume c.self.invariant.kept c.requires.some c.requires.last room above;
      none = upto-added _ c.self.inside.passed c.args.offset c.args.bytes.now c.args.number _ c.self.invariant.none;
    })

pub returns-in-Err-clause-same : goal.returns-in-Err-clause-same
returns-in-Err-clause-same c = enter-undone c.args.number _ c.args.file.now c.args.ages.now c.enter.new.self c.lessen.new.self c.requires.unknown c.in_ok-enter.ensures.ok c.lessen.ensures

pub returns-clause-takes : goal.returns-clause-takes
returns-clause-takes c =
    let fresh = rw (← c.self.view_is) at c.requires.fresh in
    rw (← c.self.view_is) (takes-added c.args.offset c.args.bytes.now c.args.number c.args.file.now (record { segments = c.self.inside.spans; pieces = c.self.inside.sent.items }) c.put.new.self c.as_slice.result.now c.args.ages.now c.enter.new.self c.lessen_parts.new.self c.self.invariant.kept.sound.apart fresh c.in_default.ensures.ok
    (rw c.len-size.ensures.len at (c.as_slice.ensures.value ∙ c.in_ok-older.ensures)) (rw c.len-size.ensures.len at c.in_ok-enter.ensures.ok) c.lessen_parts.ensures)
