use Rattle.std.proofs.Common.{◌≡◌, length}
use Rattle.script_text.specs.Paths.{decoded}
use Rattle.script_text.proofs.Decoding.{read_before}
use Rattle.script_text.proofs.paths.decoded.Given as goal

abbrev pub invariant-loop-rest : goal.invariant-loop-rest
invariant-loop-rest l = decoded l.text ≡ read_before l.bytes.items (decoded l.rest)

abbrev pub decreases-loop-rest : goal.decreases-loop-rest
decreases-loop-rest l = length l.rest
