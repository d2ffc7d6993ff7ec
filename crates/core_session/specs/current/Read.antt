-- What a read answers, and since when the server showed so: what kept pages and its own READs gave, with what was pending in this client over it
-- (RFC 1813, section 3.3.6).
use Rattle.std.specs.Prelude.{◌≡◌, ◌<◌, ◌≤◌, ◌+◌, ◌⊎◌, ℕ, Bool, true, List, ◌++◌, length, Option, Some, None, slice_get}
use Rattle.nfs_types.specs.declared.attr.Attr.{Attr}
use Rattle.nfs_types.specs.declared.wcc.Stamp.{Stamp}
use Rattle.nfs_file_calls.specs.declared.call.FileCall.TheVariants as files
use Rattle.nfs_file_calls.specs.declared.owned.FileKept.TheVariants as replies
use Rattle.page_cache.specs.Bytes.{start_of}
use Rattle.page_cache.specs.Pages.{Pages}
use Rattle.write_back.specs.Files.{of_file}
use Rattle.write_back.specs.Segments.{newest_at}
use Rattle.world_model.specs.declared.entry.Entry.{Entry}
use Rattle.world_model.specs.declared.message.Call.TheVariants as calls
use Rattle.world_model.specs.declared.message.Reply.TheVariants as answers
use Rattle.world_model.specs.declared.op.Op.{Op}
use Rattle.claims.specs.Modes.{Modes}
use Rattle.claims.specs.Slots.{IsOf, Opens}
use Rattle.op_machines.specs.declared.machine.Machine.{Machine}
use Rattle.client_core.specs.declared.setup.Setup.{Setup}
use Rattle.client_core.specs.View.{View}
use Rattle.core_answers.specs.bonds.Kept.{IsAnswered}
use Rattle.core_answers.specs.pages.Kept.{IsPage}
use Rattle.core_answers.specs.pages.Passing.{Passes}
use Rattle.core_answers.specs.pages.Read.{WasPending}
use Rattle.core_session.specs.current.Seen.{IsSeen, SeenFrom, WasRegular}

-- By a part of the history which goes on at least to the place x, the stamp is recent. It was shown since each open of the file that succeeded there; or
-- since the time for which the open may go by what is kept. It was shown, too, that the file is a regular one. If each read asks for attributes anew, the
-- stamp was shown since the read that began at x.
pub record RecentThen (modes : Modes) (h : List Entry) (x : ℕ) (file : List ℕ) (stamp : Stamp) : Type 0 where
  pub before : List Entry
  pub after : List Entry
  pub is : h ≡ before ++ after
  pub late : x ≤ length before
  pub recent : (lane slot o y : ℕ) → Opens modes before lane slot o y file → SeenFrom modes h o file stamp × WasRegular h file
  pub again : modes.noac ≡ true → IsSeen h x file stamp

-- A byte of the file at a place that the operation at the place x found: in a page that was kept under a recent stamp, or in the reply to a READ that was
-- first sent since the operation began.
pub data IsFound (first : Pages) (modes : Modes) (h : List Entry) (x : ℕ) (file : List ℕ) (place v : ℕ) : Type 0 where
  in_page : (stamp : Stamp) (index at : ℕ) (page : List ℕ) → IsPage first h file stamp index page → RecentThen modes h x file stamp
      → slice_get page at ≡ Some v → place ≡ start_of index + at → IsFound first modes h x file place v
  in_reply : (since offset count counted at : ℕ) (attr : Option Attr) (eof : Bool) (given : List ℕ) → x < since
      → IsAnswered h since (length h) (calls.File (files.Read file offset count)) (answers.File (replies.Read attr counted eof given))
      → slice_get given at ≡ Some v → place ≡ offset + at → IsFound first modes h x file place v

-- And where it found the file to end, at the place or before it: a recent stamp has no greater size; or a page that was kept under one is short; or the
-- reply to such a READ says that the file ends there.
pub data IsEnd (first : Pages) (modes : Modes) (h : List Entry) (x : ℕ) (file : List ℕ) (place : ℕ) : Type 0 where
  by_known : (stamp : Stamp) → RecentThen modes h x file stamp → stamp.size ≤ place → IsEnd first modes h x file place
  by_page : (stamp : Stamp) (index : ℕ) (page : List ℕ) → IsPage first h file stamp index page → RecentThen modes h x file stamp → length page < 4096
      → start_of index + length page ≤ place → IsEnd first modes h x file place
  by_reply : (since offset count counted : ℕ) (attr : Option Attr) (given : List ℕ) → x < since
      → IsAnswered h since (length h) (calls.File (files.Read file offset count)) (answers.File (replies.Read attr counted true given))
      → offset + length given ≤ place → IsEnd first modes h x file place

-- A byte was pending in the core past the place, and none at it, in a view through which it passed since the place x.
pub record WasPast (machine_of : ℕ → Op → Machine) (setup : Setup) (h : List Entry) (x : ℕ) (file : List ℕ) (place : ℕ) : Type 0 where
  pub before : List Entry
  pub after : List Entry
  pub is : h ≡ before ++ after
  pub late : x ≤ length before
  pub view : View
  pub passed : Passes machine_of setup before view
  pub q : ℕ
  pub byte : ℕ
  pub past : place < q
  pub there : newest_at (of_file file view.shelf.back).segments q ≡ Some byte
  pub clear : newest_at (of_file file view.shelf.back).segments place ≡ None

-- A byte of an answer, the k-th: it was pending; or it is what the server was found to have; or it is a zero, past the end of that, if a byte was
-- pending past it.
pub data IsShown (machine_of : ℕ → Op → Machine) (setup : Setup) (h : List Entry) (x : ℕ) (file server : List ℕ) (k place v : ℕ) : Type 0 where
  own : WasPending machine_of setup h x file place v → IsShown machine_of setup h x file server k place v
  served : slice_get server k ≡ Some v → IsShown machine_of setup h x file server k place v
  empty : v ≡ 0 → length server ≤ k → WasPast machine_of setup h x file place → IsShown machine_of setup h x file server k place v

-- A view through which the core passed after so much of the history.
pub record PassedThen (machine_of : ℕ → Op → Machine) (setup : Setup) (h : List Entry) (place : ℕ → Type 0) : Type 0 where
  pub before : List Entry
  pub after : List Entry
  pub is : h ≡ before ++ after
  pub at : place (length before)
  pub view : View
  pub passed : Passes machine_of setup before view

-- What is pending of the file in a view, at a place.
abbrev pub pending_in : View → List ℕ → ℕ → Option ℕ
pending_in v file place = newest_at (of_file file v.shelf.back).segments place

-- What is pending of the range as the read ends is in its answer, and what was as it began is where none is then.
pub record OwnShown (machine_of : ℕ → Op → Machine) (setup : Setup) (h : List Entry) (x : ℕ) (file : List ℕ) (offset count : ℕ) (bytes : List ℕ) : Type 0 where
  pub first : PassedThen machine_of setup h (λ n. n ≡ x)
  pub last : PassedThen machine_of setup h (λ n. x ≤ n)
  pub now : (k v : ℕ) → k < count → pending_in last.view file (offset + k) ≡ Some v → slice_get bytes k ≡ Some v
  pub then_ : (k v : ℕ) → k < count → pending_in last.view file (offset + k) ≡ None → pending_in first.view file (offset + k) ≡ Some v
      → slice_get bytes k ≡ Some v

-- The answer of a read of so many bytes of the file that its slot holds: each byte is so, of what the server was found to have from the offset on. If that
-- is less than was asked for, the file was found to end there, and the answer is no shorter.
pub record ReadShown (machine_of : ℕ → Op → Machine) (setup : Setup) (modes : Modes) (h : List Entry) (x : ℕ) (op : Op) (offset count : ℕ) (bytes : List ℕ)
    : Type 0 where
  pub file : List ℕ
  pub of : IsOf modes h x op file
  pub server : List ℕ
  pub found : (k v : ℕ) → slice_get server k ≡ Some v → IsFound setup.pages modes h x file (offset + k) v
  pub ends : (count ≤ length server) ⊎ IsEnd setup.pages modes h x file (offset + length server)
  pub long : (length bytes ≡ count) ⊎ (length server ≤ length bytes)
  pub most : length bytes ≤ count
  pub each : (k v : ℕ) → slice_get bytes k ≡ Some v → IsShown machine_of setup h x file server k (offset + k) v
  pub own_shown : OwnShown machine_of setup h x file offset count bytes
