-- What stands at the place.
use Rattle.std.proofs.Common.{Some, length, refl, ap, ◌∙◌}
use Rattle.std.proofs.lemmas.Option.{slice_get_read}
use Rattle.world_model.specs.declared.entry.Entry.TheVariants.{Began}
use Rattle.world_model.specs.Entries.{At}
use Rattle.world_model.proofs.Places.{At-one}
use Rattle.trace_claims.proofs.courses.course_at.Goals as goal

pub returns-in-Began : goal.returns-in-Began
returns-in-Began c =
    let at : At c.args.entries.now c.args.place (Began c.in-Began.lane _ c.in-Began.op) = slice_get_read c.args.entries.now (length c.args.entries.now) c.args.place c.index-entries-place.result refl c.requires c.index-entries-place.is ∙ ap Some c.in-Began.is in
    record {
      is = record { line = _; op = c.in-Began.op; began = at; does = c.work_of.ensures; ends = c.end_of.ensures };
      there = refl;
    }

pub returns-in_default : goal.returns-in_default
returns-in_default c =
    let at : At c.args.entries.now c.args.place c.index-entries-place.result = slice_get_read c.args.entries.now (length c.args.entries.now) c.args.place c.index-entries-place.result refl c.requires c.index-entries-place.is in
    λ lane line op other. c.in_default.not-Began lane line op (At-one c.args.entries.now c.args.place _ _ at other)
