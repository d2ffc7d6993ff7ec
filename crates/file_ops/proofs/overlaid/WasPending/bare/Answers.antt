use Rattle.std.proofs.Common.{ap, ◌∙◌, sym}
use Rattle.file_ops.specs.Overlaid.{size_to, size_shown}
use Rattle.file_ops.proofs.Bare.{bare-shown}
use Rattle.file_ops.proofs.overlaid.WasPending.bare.Goals as goal

pub returns-then-size-base : goal.returns-then-size-base
returns-then-size-base c =
    rw (← c.self.view_is) (
    bare-shown c.args.file.now c.args.offset c.args.count c.args.base.now c.self.inside.bytes c.self.inside.count c.self.inside.end c.args.back.now c.size_shown-size.result
    (c.is_sound.ensures.files c.args.file.now) (sym c.if-is_some.ensures) (sym (c.size_to.ensures ∙ ap (size_to c.args.offset) c.end-end.ensures) ∙ c.if-size_to-ne0.false)
    (c.size_shown-size.ensures.size ∙ ap (size_shown c.args.offset c.args.count c.args.base.now c.self.inside.end) c.end-end.ensures) c.if-size-base.true)
