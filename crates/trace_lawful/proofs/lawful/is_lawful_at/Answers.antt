-- An entry is lawful where what it leaves is sound and it is itself.
use Rattle.std.proofs.Common.{arith}
use Rattle.std.proofs.lemmas.Grind.{common_steps}
use Rattle.trace_data.specs.Histories.{objects_after}
use Rattle.trace_lawful.proofs.Deciding.{not-so, ok-iff, sound-so, unsound-so, lawful-so}
use Rattle.trace_lawful.proofs.lawful.is_lawful_at.Goals as goal

pub returns-then-not-sound_all : goal.returns-then-not-sound_all
returns-then-not-sound_all c =
    let e = rw (c.objects_after.ensures, c.as_slice.ensures.value) at c.sound_all.ensures in
    not-so _ (λ w. unsound-so (objects_after c.args.trace.now.updates.items c.args.entry) c.sound_all.result e (grind (arith, common_steps)) w.sound)

pub returns : goal.returns
returns c =
    let e = rw (c.objects_after.ensures, c.as_slice.ensures.value) at c.sound_all.ensures in
    ok-iff c.is_lawful_entry.result _ _
    (lawful-so c.args.trace.now c.args.entry (sound-so (objects_after c.args.trace.now.updates.items c.args.entry) c.sound_all.result e (grind (arith, common_steps))))
    c.is_lawful_entry.ensures
