-- The entries so far.
use Rattle.std.proofs.Common.{◌≡◌, All}
use Rattle.trace_text.specs.Pages.{put}
use Rattle.trace_text.specs.Texts.{IsSpelled, steps_text}
use Rattle.trace_text.proofs.printing.write_steps.Given as goal

abbrev pub invariant-loop-entry : goal.invariant-loop-entry
invariant-loop-entry l = All IsSpelled l.trace.entries.items → l.page ≡ put l.fn.page (steps_text l.trace l.entry)
