-- It is the entry there.
use Rattle.std.proofs.Common.{◌≡◌, Some, length, slice_get, refl}
use Rattle.std.proofs.lemmas.Option.{slice_get_read}
use Rattle.trace_text.proofs.Paging.{spelled_at}
use Rattle.trace_text.proofs.printing.write_entry_at.Goals as goal

pub returns : goal.returns
returns c = λ all.
    let there : slice_get c.args.entries.now c.args.place ≡ Some c.index-entries-place.result =
    slice_get_read c.args.entries.now (length c.args.entries.now) c.args.place c.index-entries-place.result refl c.requires c.index-entries-place.is in
    rw there (c.write_entry.ensures (spelled_at c.args.entries.now c.args.place c.index-entries-place.result all c.requires c.index-entries-place.is))
