use Rattle.std.proofs.Common.{◌≡◌, length}
use Rattle.script_text.specs.Lines.{words}
use Rattle.script_text.proofs.lines.next_word.Given as goal

abbrev pub invariant-loop-rest : goal.invariant-loop-rest
invariant-loop-rest l = words l.line ≡ words l.rest

abbrev pub decreases-loop-rest : goal.decreases-loop-rest
decreases-loop-rest l = length l.rest
