use Rattle.std.proofs.Common.{◌*◌, take}
use Rattle.std.specs.Simd.Lanes.{Each1}
use Rattle.script_text.specs.Plain.{IsPlain}
use Rattle.script_text.proofs.plain.plain_front.Given as goal

abbrev pub invariant-loop-block : goal.invariant-loop-block
invariant-loop-block l = Each1 IsPlain (take (256 * l.block) l.fn.text)
