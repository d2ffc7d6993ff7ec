use Rattle.std.proofs.Common.{◌≡◌, ◌≤◌, ◌+◌, length}
use Rattle.script_text.specs.Lines.{lines}
use Rattle.made_script.specs.Summaries.{oks_of, digits_of}
use Rattle.made_script.proofs.answers.summary.Given as goal

abbrev pub invariant-loop-rest : goal.invariant-loop-rest
invariant-loop-rest l = record {
  within : l.lines + length l.rest ≤ length l.text;
  fewer : l.oks ≤ l.lines;
  all : l.lines + length (lines l.rest) ≡ length (lines l.text);
  well : l.oks + oks_of (lines l.rest) ≡ oks_of (lines l.text);
  long : l.digits + digits_of (lines l.rest) ≡ digits_of (lines l.text);
}

abbrev pub decreases-loop-rest : goal.decreases-loop-rest
decreases-loop-rest l = length l.rest
