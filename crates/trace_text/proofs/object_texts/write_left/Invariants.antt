-- The entries so far.
use Rattle.std.proofs.Common.{◌≡◌, take}
use Rattle.std.specs.List.{flat_map}
use Rattle.trace_text.specs.Pages.{put}
use Rattle.trace_text.specs.Texts.{unname_text}
use Rattle.trace_text.proofs.object_texts.write_left.Given as goal

abbrev pub invariant-loop-entry : goal.invariant-loop-entry
invariant-loop-entry l = l.page ≡ put l.fn.page (flat_map (unname_text l.dir l.new) (take l.entry-index l.old))
