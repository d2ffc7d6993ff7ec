-- The entry, and then what it changed.
use Rattle.std.proofs.Common.{◌≡◌, true, arith}
use Rattle.std.proofs.lemmas.Grind.{common_steps}
use Rattle.trace_text.specs.Pages.{is_none}
use Rattle.trace_text.specs.Texts.{step_text}
use Rattle.trace_text.proofs.Paging.{put_full, put_more, step_parts}
use Rattle.trace_text.proofs.printing.write_step.Goals as goal

pub returns-then-is_full : goal.returns-then-is_full
returns-then-is_full c = λ all. let full : true ≡ is_none c.args.page.now = grind (arith, common_steps) in put_full c.args.page.now (step_text c.args.trace.now c.args.entry) full

pub returns : goal.returns
returns c = λ all. put_more _ _ _ _ _ _ (step_parts c.args.trace.now c.args.entry) ((rw c.as_slice.ensures.value at c.in_ok-write_entry_at.ensures) all) c.in_ok-write_changes.ensures
