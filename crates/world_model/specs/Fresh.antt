-- Each change of an object gives it a stamp that it never had (RFC 1813, section 2.6: what mtime and ctime are for).
use Rattle.std.specs.Prelude.{◌≡◌, ◌≢◌, ◌<◌, ◌≤◌, ℕ, suc, List, length, Some}
use Rattle.world_model.specs.Server.{Listed, Bytes, Entries, Object}
use Rattle.nfs_types.specs.Stamps.{stamp_of}
use Rattle.world_model.specs.History.{History}

-- A file has other bytes, a directory another list, or one of these another stamp.
pub data Differs (old new : Object) : Type 0 where
  bytes : (now stable later steady : List ℕ) → old.holds ≡ Bytes now stable → new.holds ≡ Bytes later steady → now ≢ later → Differs old new
  list : (before after : List Listed) → old.holds ≡ Entries before → new.holds ≡ Entries after → before ≢ after → Differs old new
  file_stamp : (now stable : List ℕ) → old.holds ≡ Bytes now stable → stamp_of old.attr ≢ stamp_of new.attr → Differs old new
  list_stamp : (entries : List Listed) → old.holds ≡ Entries entries → stamp_of old.attr ≢ stamp_of new.attr → Differs old new

-- RFC 1813 asks for no such clock of a server: this is a premise.
abbrev pub Fresh : History → Type 0
Fresh h = (n : ℕ) → n < length h.entries → (f : List ℕ) (old new : Object) → (h.at n).object f ≡ Some old → (h.at (suc n)).object f ≡ Some new → Differs old new
    → (m : ℕ) (o : Object) → m ≤ n → (h.at m).object f ≡ Some o → stamp_of o.attr ≢ stamp_of new.attr
