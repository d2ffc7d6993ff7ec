-- The verifier, and then the objects.
use Rattle.std.proofs.Common.{◌≡◌, None}
use Rattle.std.proofs.lemmas.Result.{on_ok_weaker}
use Rattle.trace_text.specs.Pages.{put}
use Rattle.trace_text.specs.Texts.{object_before, objects_in, objects_text, verf_text}
use Rattle.world_model.specs.History.{no_server}
use Rattle.trace_text.proofs.Paging.{then_put}
use Rattle.trace_text.proofs.printing.write_start.Goals as goal

pub returns : goal.returns
returns c = on_ok_weaker c.write_objects.result
    (λ (e : c.write_objects.new.page ≡ put c.write_start_verf.new.page (objects_text (object_before c.args.trace.now None) (objects_in c.args.trace.now None))).
    then_put c.args.page.now c.write_start_verf.new.page c.write_objects.new.page (verf_text no_server.verf c.args.trace.now.start.verf)
    (objects_text (object_before c.args.trace.now None) (objects_in c.args.trace.now None)) c.in_ok-write_start_verf.ensures e)
    c.write_objects.ensures
