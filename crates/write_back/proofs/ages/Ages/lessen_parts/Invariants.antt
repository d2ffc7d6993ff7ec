use Rattle.std.proofs.Common.{take}
use Rattle.write_back.specs.Ages.{Lessens, parts_by}
use Rattle.write_back.proofs.ages.Ages.lessen_parts.Given as goal

abbrev pub invariant-loop-part : goal.invariant-loop-part
invariant-loop-part l = Lessens (λ n. parts_by n (take l.part-index l.parts)) l.fn.self l.self
