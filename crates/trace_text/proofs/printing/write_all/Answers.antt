-- The head, then the server before the first entry, then each entry.
use Rattle.std.proofs.Common.{◌≡◌, length}
use Rattle.std.proofs.lemmas.Result.{on_ok_weaker}
use Rattle.trace_text.specs.Pages.{put}
use Rattle.trace_text.specs.Texts.{steps_text}
use Rattle.trace_text.proofs.Paging.{all_put}
use Rattle.trace_text.proofs.printing.write_all.Goals as goal

pub returns : goal.returns
returns c = λ all. on_ok_weaker c.write_steps.result
    (λ (e : c.write_steps.new.page ≡ put c.write_start.new.page (steps_text c.args.trace.now (length c.args.trace.now.entries.items))).
    all_put c.args.trace.now c.args.page.now c.write_head.new.page c.write_start.new.page c.write_steps.new.page c.in_ok-write_head.ensures c.in_ok-write_start.ensures e)
    (c.write_steps.ensures all)
