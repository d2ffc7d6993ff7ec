-- What is shown of the bytes so far.
use Rattle.std.proofs.Common.{◌≡◌, take}
use Rattle.world_model.specs.Transcript.{shown}
use Rattle.trace_text.specs.Pages.{put}
use Rattle.trace_text.proofs.page.Page.shown.Given as goal

abbrev pub invariant-loop-byte : goal.invariant-loop-byte
invariant-loop-byte l = l.self ≡ put l.fn.self (shown (take l.byte-index l.bytes))
