-- The names so far.
use Rattle.std.proofs.Common.{◌≡◌, take}
use Rattle.trace_text.specs.Pages.{put}
use Rattle.trace_text.specs.Texts.{slashed}
use Rattle.trace_text.proofs.op_texts.write_names.Given as goal

abbrev pub invariant-loop-name : goal.invariant-loop-name
invariant-loop-name l = l.page ≡ put l.fn.page (slashed (take l.name-index l.names))
