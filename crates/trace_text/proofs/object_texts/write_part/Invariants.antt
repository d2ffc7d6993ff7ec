-- The objects so far.
use Rattle.std.proofs.Common.{◌≡◌}
use Rattle.std.specs.List.{flat_map}
use Rattle.trace_text.specs.Pages.{put}
use Rattle.trace_text.specs.Texts.{changed_text, firsts, object_before, objects_in}
use Rattle.trace_text.proofs.object_texts.write_part.Given as goal

abbrev pub invariant-loop-place : goal.invariant-loop-place
invariant-loop-place l = l.page ≡ put l.fn.page (flat_map (changed_text (object_before l.trace l.entry) l.part) (firsts (objects_in l.trace l.entry) l.place))
