-- An object is written once.
use Rattle.std.proofs.Common.{◌≡◌, true, false, Some, length, slice_get, refl, ap, ◌∙◌, arith}
use Rattle.std.proofs.lemmas.Grind.{common_steps}
use Rattle.std.proofs.lemmas.Option.{slice_get_read}
use Rattle.trace_text.specs.Pages.{put}
use Rattle.trace_text.specs.Texts.{is_again, object_before}
use Rattle.trace_text.proofs.Paging.{place_again, place_once, put_nil}
use Rattle.trace_text.proofs.object_texts.write_first.Goals as goal

pub returns-then-is_again : goal.returns-then-is_again
returns-then-is_again c =
    let again : is_again c.args.objects.now c.args.place ≡ true = grind (arith, common_steps) in
    put_nil c.args.page.now ∙ ap (put c.args.page.now) (place_again (object_before c.args.trace.now c.args.entry) c.args.part c.args.objects.now c.args.place again)

pub returns : goal.returns
returns c =
    let there : slice_get c.args.objects.now c.args.place ≡ Some c.index-objects-place.result =
    slice_get_read c.args.objects.now (length c.args.objects.now) c.args.place c.index-objects-place.result refl c.requires c.index-objects-place.is in
    let again : is_again c.args.objects.now c.args.place ≡ false = grind (arith, common_steps) in
    c.in_ok-write_updated.ensures
    ∙ ap (put c.args.page.now) (place_once (object_before c.args.trace.now c.args.entry) c.args.part c.args.objects.now c.args.place c.index-objects-place.result there again)
