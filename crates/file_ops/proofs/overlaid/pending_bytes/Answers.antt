use Rattle.std.proofs.Common.{◌≡◌, sym, ap, ◌∙◌, arith}
use Rattle.write_back.specs.Files.{of_file}
use Rattle.file_ops.specs.Overlaid.{size_to}
use Rattle.file_ops.proofs.Overlays.{nothing-kept, even-kept}
use Rattle.file_ops.proofs.overlaid.pending_bytes.Goals as goal

pub returns-then-size_to-eq0-clause-bytes : goal.returns-then-size_to-eq0-clause-bytes
returns-then-size_to-eq0-clause-bytes c =
    let none : c.size_to.result ≡ 0 = omega (arith, c.if-size_to-eq0.true) in
    nothing-kept c.args.file.now c.args.offset c.args.count c.args.back.now (c.is_sound.ensures.files c.args.file.now)
    (sym (c.size_to.ensures ∙ ap (size_to c.args.offset) c.end.ensures) ∙ none)

pub returns-clause-even : goal.returns-clause-even
returns-clause-even c = even-kept (of_file c.args.file.now c.args.back.now).segments c.args.offset c.args.count _ _ c.in_ok-lows.ensures c.in_ok-highs.ensures
