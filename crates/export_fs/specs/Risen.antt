-- What steps of the export show: objects that change take new stamps, and pages of directories rise (RFC 1813, sections
-- 2.6, 3.3.16 and 3.3.17).
use Rattle.std.specs.Prelude.{◌≡◌, ◌<◌, ℕ, List, Some, take}
use Rattle.world_model.specs.declared.entry.Entry.{Entry}
use Rattle.world_model.specs.declared.entry.Entry.TheVariants as entries
use Rattle.world_model.specs.declared.message.Call.{Call}
use Rattle.world_model.specs.declared.message.Reply.{Reply}
use Rattle.world_model.specs.Entries.{At}
use Rattle.world_model.specs.Server.{Object}
use Rattle.world_model.specs.Fresh.{Differs}
use Rattle.world_model.specs.Rising.{RisesAt}
use Rattle.export_fs.specs.View.{View}
use Rattle.export_fs.specs.Seen.{server_of}

-- an object that differs has a ctime above each number that was taken before
abbrev pub TakesNew : View → View → Type 0
TakesNew v w = (f : List ℕ) (old new : Object) → (server_of v).object f ≡ Some old → (server_of w).object f ≡ Some new → Differs old new
    → v.counter < new.attr.ctime.seconds

-- an entry that tells of an executed READDIR or READDIRPLUS has a page that rises
abbrev pub PageRises : View → Entry → Type 0
PageRises v e = (xid : ℕ) (call : Call) (reply : Reply) → e ≡ entries.Executed xid call reply → RisesAt (server_of v) call reply

-- each page in a history was of the directory as it then was; `replay` gives the view that entries lead to
abbrev pub PagesRise : (View → List Entry → View) → View → List Entry → Type 0
PagesRise replay v list = (n xid : ℕ) (call : Call) (reply : Reply) → At list n (entries.Executed xid call reply)
    → RisesAt (server_of (replay v (take n list))) call reply
