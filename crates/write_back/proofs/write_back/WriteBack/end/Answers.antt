use Rattle.std.proofs.Common.{sym, ap, ◌∙◌}
use Rattle.write_back.specs.Pieces.{FilePending}
use Rattle.write_back.specs.Segments.{last_end}
use Rattle.write_back.proofs.Counting.{of-found}
use Rattle.write_back.proofs.write_back.WriteBack.end.Goals as goal

pub returns : goal.returns
returns c =
    rw (← c.self.view_is)
    (c.end.ensures ∙ ap last_end c.spans.ensures ∙ sym (ap (λ (z : FilePending). last_end z.segments) (of-found c.args.file.now c.self.inside.files.entries _ (sym c.in_ok-get.ensures.value))))
