-- There is an entry where the map isn't empty.
use Rattle.std.proofs.Common.{rules, ◌≡◌, not}
use Rattle.export_fs.specs.Kept.{rows_of}
use Rattle.export_fs.specs.Refusals.{is_filled}
use Rattle.export_fs.proofs.Cookies.{filled_by_len}
use Rattle.export_fs.proofs.entries.Entries.is_filled.Goals as goal

pub returns : goal.returns
returns c =
    let e : not c.is_empty.result ≡ is_filled (rows_of c.self.inside.by_cookie.entries) = filled_by_len c.self.inside.by_cookie.entries c.is_empty.result c.is_empty.ensures in
    search (rules, e)
