-- What is sent there.
use Rattle.std.proofs.Common.{refl, ◌≡◌, slice_get, Some, length}
use Rattle.std.proofs.lemmas.Option.{slice_get_read}
use Rattle.world_model.specs.declared.entry.Entry.TheVariants.{Sent}
use Rattle.trace_claims.proofs.Rooting.{mount-unsent, mount-ok}
use Rattle.trace_claims.proofs.paths.mount_at.Goals as goal

pub returns-in-Sent : goal.returns-in-Sent
returns-in-Sent c =
    let at : slice_get c.args.entries.now c.args.place ≡ Some c.index-entries-place.result = slice_get_read c.args.entries.now (length c.args.entries.now) c.args.place c.index-entries-place.result refl c.requires c.index-entries-place.is in
    mount-ok c.args.entries.now c.args.place c.in-Sent.bytes _ (rw c.in-Sent.is at at) (rw c.bytes.ensures at c.path_asked.ensures)

pub returns-in_default : goal.returns-in_default
returns-in_default c =
    let at : slice_get c.args.entries.now c.args.place ≡ Some c.index-entries-place.result = slice_get_read c.args.entries.now (length c.args.entries.now) c.args.place c.index-entries-place.result refl c.requires c.index-entries-place.is in
    mount-unsent c.args.entries.now c.args.place c.index-entries-place.result at (λ bytes is. c.in_default.not-Sent bytes is)
