-- The first entry that isn't lawful.
use Rattle.std.proofs.Common.{◌≤◌, length, arith}
use Rattle.std.proofs.lemmas.Grind.{common_steps}
use Rattle.trace_lawful.proofs.Lawfulness.{breaks-lawful, breaks-start, lawful-whole}
use Rattle.trace_lawful.proofs.Deciding.{sound-so, unsound-so, so, fails, each-more}
use Rattle.trace_lawful.proofs.lawful.first_unlawful.Goals as goal

pub returns-then-not-sound_all : goal.returns-then-not-sound_all
returns-then-not-sound_all c =
    let e = rw c.as_slice.ensures.value at c.sound_all.ensures in
    breaks-start c.args.trace.now (unsound-so c.args.trace.now.start.objects.items c.sound_all.result e (grind (arith, common_steps)))

pub loop-entry-init : goal.loop-entry-init
loop-entry-init c =
    let e = rw c.as_slice.ensures.value at c.sound_all.ensures in
    record { within = omega arith; sound = sound-so c.args.trace.now.start.objects.items c.sound_all.result e (grind (arith, common_steps)); each = λ m lt. absurd (omega (arith, lt)) }

pub returns-then-not-branch : goal.returns-then-not-branch
returns-then-not-branch c =
    breaks-lawful c.args.trace.now c.loop-entry.entry (grind (arith, common_steps)) c.loop-entry.invariant.sound c.loop-entry.invariant.each
    (fails _ _ c.in_ok-is_lawful_at.ensures (grind (arith, common_steps)))

pub loop-entry-preserved : goal.loop-entry-preserved
loop-entry-preserved c = record {
  within = grind (arith, common_steps);
  sound = c.loop-entry.invariant.sound;
  each = each-more c.args.trace.now c.loop-entry.entry c.loop-entry.invariant.each (so _ _ c.in_ok-is_lawful_at.ensures (grind (arith, common_steps)));
}

pub returns : goal.returns
returns c =
    let le : length c.args.trace.now.entries.items ≤ c.loop-entry.entry = grind (arith, common_steps) in
    lawful-whole c.args.trace.now c.loop-entry.invariant.sound (λ k lt. c.loop-entry.invariant.each k (omega (arith, lt, le)))
