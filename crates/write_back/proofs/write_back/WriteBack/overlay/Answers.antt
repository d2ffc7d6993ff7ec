use Rattle.std.proofs.Common.{sym, ap, ◌∙◌}
use Rattle.write_back.specs.Pieces.{FilePending}
use Rattle.write_back.specs.Segments.{shown}
use Rattle.write_back.proofs.Counting.{of-found}
use Rattle.write_back.proofs.Through.{shown-none}
use Rattle.write_back.proofs.write_back.WriteBack.overlay.Goals as goal

pub returns-in-Some : goal.returns-in-Some
returns-in-Some c =
    rw (← c.self.view_is)
    (c.overlay.ensures ∙ ap (λ z. shown z c.args.offset c.args.buf.now) (c.spans.ensures ∙ sym (ap (λ (z : FilePending). z.segments) (of-found c.args.file.now c.self.inside.files.entries _ (sym c.in-Some.ensures.value)))))

pub returns-in_default : goal.returns-in_default
returns-in_default c =
    rw (← c.self.view_is)
    (sym (ap (λ (z : FilePending). shown z.segments c.args.offset c.args.buf.now) (of-found c.args.file.now c.self.inside.files.entries _ (sym c.in_default.ensures.value)) ∙ shown-none c.args.offset c.args.buf.now))
