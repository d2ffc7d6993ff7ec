-- Cookies of a directory rise (RFC 1813, section 3.3.16, gives them no order: this is a premise of this project).
use Rattle.std.specs.Prelude.{◌≡◌, ◌≢◌, ◌⊎◌, ◌<◌, ◌≤◌, ℕ, suc, Bool, true, List, length, map, All, AllPairs, Contains, Some, ⊤}
use Rattle.nfs_dir_calls.specs.declared.call.DirCall.TheVariants as dirs
use Rattle.nfs_dir_calls.specs.declared.keeping.DirKept.TheVariants as found
use Rattle.nfs_dir_calls.specs.declared.plus_page.PlusRow.{PlusRow}
use Rattle.nfs_dir_calls.specs.declared.dir_page.DirRow.{DirRow}
use Rattle.world_model.specs.declared.entry.Entry.TheVariants as entries
use Rattle.world_model.specs.declared.message.Call.{Call}
use Rattle.world_model.specs.declared.message.Call.TheVariants as calls
use Rattle.world_model.specs.declared.message.Reply.{Reply}
use Rattle.world_model.specs.declared.message.Reply.TheVariants as replies
use Rattle.world_model.specs.Entries.{At}
use Rattle.world_model.specs.Names.{parent_name}
use Rattle.world_model.specs.Server.{Listed, Entries, Object, Server, Lists}
use Rattle.world_model.specs.History.{History}

-- what a page shows of an entry: its name and its cookie
pub record NameRow : Type 0 where
  pub name : List ℕ
  pub cookie : ℕ

abbrev pub row_of : Listed → NameRow
row_of e = record { name = e.name; cookie = e.cookie }

-- the rows of a READDIR's page, and of a READDIRPLUS's
abbrev pub dir_rows : List DirRow → List NameRow
dir_rows rows = map (λ (row : DirRow). record { name = row.name; cookie = row.cookie }) rows

abbrev pub plus_rows : List PlusRow → List NameRow
plus_rows rows = map (λ (row : PlusRow). record { name = row.name; cookie = row.cookie }) rows

-- A page gives entries with cookies above the one that was asked from, rising, and leaves out no entry before its last; it
-- says that it is the last page only if no entry follows. Two entries of one cookie so can't be on a page.
pub record Rises (list : List Listed) (cookie : ℕ) (rows : List NameRow) (eof : Bool) : Type 0 where
  pub above : All (λ (r : NameRow). cookie < r.cookie) rows
  pub rising : AllPairs (λ (a b : NameRow). a.cookie < b.cookie) rows
  pub whole : (e : Listed) → Lists list e → cookie < e.cookie → Contains rows (row_of e) ⊎ All (λ (r : NameRow). r.cookie < e.cookie) rows
  pub last : eof ≡ true → (e : Listed) → Lists list e → cookie < e.cookie → Contains rows (row_of e)

-- such a page of a directory of the server
abbrev pub RisesIn : Server → List ℕ → ℕ → List NameRow → Bool → Type 0
RisesIn s d cookie rows eof = (dir : Object) (list : List Listed) → s.object d ≡ Some dir → dir.holds ≡ Entries list → Rises list cookie rows eof

abbrev pub RisesAt : Server → Call → Reply → Type 0
RisesAt s (calls.Dir (dirs.ReadDir d cookie verf count)) (replies.Dir (found.ReadDir attr check rows eof)) = RisesIn s d cookie (dir_rows rows) eof
RisesAt s (calls.Dir (dirs.ReadDirPlus d cookie verf dircount maxcount)) (replies.Dir (found.ReadDirPlus attr check rows eof)) =
    RisesIn s d cookie (plus_rows rows) eof
RisesAt s call reply = ⊤

-- An entry that comes into a directory has a cookie above all that the directory ever had. The entry `..` of a directory
-- that moves may change as it likes.
abbrev pub EntersAbove : History → ℕ → Type 0
EntersAbove h n = (d : List ℕ) (old new : Object) (before after : List Listed) (e : Listed) → (h.at n).object d ≡ Some old → old.holds ≡ Entries before
    → (h.at (suc n)).object d ≡ Some new → new.holds ≡ Entries after
    → Lists after e → (Lists before e → ⊥) → e.name ≢ parent_name → (m : ℕ) (earlier : Object) (list : List Listed) (f : Listed) → m ≤ n
    → (h.at m).object d ≡ Some earlier → earlier.holds ≡ Entries list → Lists list f → f.cookie < e.cookie

pub record Rising (h : History) : Type 0 where
  pub pages : (n xid : ℕ) (call : Call) (reply : Reply) → At h.entries n (entries.Executed xid call reply) → RisesAt (h.at n) call reply
  pub enters : (n : ℕ) → n < length h.entries → EntersAbove h n
