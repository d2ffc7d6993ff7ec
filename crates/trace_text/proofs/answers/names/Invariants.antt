-- The words that are left.
use Rattle.std.proofs.Common.{◌≡◌, length}
use Rattle.script_text.specs.Lines.{words}
use Rattle.trace_text.specs.Answers.{shown_names_of}
use Rattle.trace_text.proofs.Named.{joined}
use Rattle.trace_text.proofs.answers.names.Given as goal

abbrev pub invariant-loop-word : goal.invariant-loop-word
invariant-loop-word l = joined l.names.items (shown_names_of (words l.left)) ≡ shown_names_of (words l.fn.text)

abbrev pub decreases-loop-word : goal.decreases-loop-word
decreases-loop-word l = length (words l.left)
