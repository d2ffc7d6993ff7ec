-- What a read answers: what kept pages and its own READs gave, with what was pending in this client over it (RFC 1813, section 3.3.6).
use Rattle.std.specs.Prelude.{◌≡◌, ◌<◌, ◌≤◌, ◌+◌, ℕ, Bool, List, ◌++◌, length, take, Option, Some, slice_get}
use Rattle.nfs_types.specs.declared.attr.Attr.{Attr}
use Rattle.nfs_types.specs.declared.wcc.Stamp.{Stamp}
use Rattle.nfs_file_calls.specs.declared.call.FileCall.TheVariants as files
use Rattle.nfs_file_calls.specs.declared.owned.FileKept.TheVariants as replies
use Rattle.page_cache.specs.Bytes.{start_of}
use Rattle.write_back.specs.Files.{of_file}
use Rattle.write_back.specs.Segments.{newest_at}
use Rattle.world_model.specs.declared.answer.Answer.TheVariants.{Done}
use Rattle.world_model.specs.declared.answer.Value.TheVariants as values
use Rattle.world_model.specs.declared.entry.Entry.{Entry}
use Rattle.world_model.specs.declared.message.Call.TheVariants as calls
use Rattle.world_model.specs.declared.message.Reply.TheVariants as answers
use Rattle.world_model.specs.declared.op.Op.{Op}
use Rattle.world_model.specs.declared.op.Op.TheVariants.{Read}
use Rattle.claims.specs.Modes.{Modes}
use Rattle.world_model.specs.Operations.{Ended}
use Rattle.claims.specs.Slots.{IsOf}
use Rattle.claims.specs.Terms.{Terms}
use Rattle.op_machines.specs.Begun.{machine_of}
use Rattle.op_machines.specs.declared.begun.Mounted.{Mounted}
use Rattle.op_machines.specs.declared.machine.Machine.{Machine}
use Rattle.client_core.specs.declared.setup.Setup.{Setup}
use Rattle.client_core.specs.View.{View}
use Rattle.core_facts.specs.SlotAnswers.{GoesWith}
use Rattle.core_answers.specs.bonds.Kept.{IsAnswered}
use Rattle.core_answers.specs.pages.Kept.{IsPage}
use Rattle.core_answers.specs.pages.Passing.{Passes}
use Rattle.page_cache.specs.Pages.{Pages}

-- A byte of the file at a place that the operation at the place x found: in a page that was kept, or in the reply to a READ that was first sent since
-- the operation began.
pub data IsFound (first : Pages) (h : List Entry) (x : ℕ) (file : List ℕ) (place v : ℕ) : Type 0 where
  in_page : (stamp : Stamp) (index at : ℕ) (page : List ℕ) → IsPage first h file stamp index page → slice_get page at ≡ Some v → place ≡ start_of index + at → IsFound first h x file place v
  in_reply : (since offset count counted at : ℕ) (attr : Option Attr) (eof : Bool) (given : List ℕ) → x < since
      → IsAnswered h since (length h) (calls.File (files.Read file offset count)) (answers.File (replies.Read attr counted eof given)) → slice_get given at ≡ Some v
      → place ≡ offset + at → IsFound first h x file place v

-- The byte was pending in the core, in a view through which it passed since the place x.
pub record WasPending (machine_of : ℕ → Op → Machine) (setup : Setup) (h : List Entry) (x : ℕ) (file : List ℕ) (place v : ℕ) : Type 0 where
  pub before : List Entry
  pub after : List Entry
  pub is : h ≡ before ++ after
  pub late : x ≤ length before
  pub view : View
  pub passed : Passes machine_of setup before view
  pub pending : newest_at (of_file file view.shelf.back).segments place ≡ Some v

-- A byte of an answer, the k-th: it was pending; or it is what the server was found to have; or it is a zero, past the end of that.
pub data IsShown (machine_of : ℕ → Op → Machine) (setup : Setup) (h : List Entry) (x : ℕ) (file server : List ℕ) (k place v : ℕ) : Type 0 where
  own : WasPending machine_of setup h x file place v → IsShown machine_of setup h x file server k place v
  served : slice_get server k ≡ Some v → IsShown machine_of setup h x file server k place v
  empty : v ≡ 0 → length server ≤ k → IsShown machine_of setup h x file server k place v

-- The answer of a read of the file that its slot holds: each byte is so, of what the server was found to have from the offset on.
pub record ReadShown (machine_of : ℕ → Op → Machine) (setup : Setup) (modes : Modes) (h : List Entry) (x : ℕ) (op : Op) (offset : ℕ) (bytes : List ℕ) : Type 0 where
  pub file : List ℕ
  pub of : IsOf modes h x op file
  pub server : List ℕ
  pub found : (k v : ℕ) → slice_get server k ≡ Some v → IsFound setup.pages h x file (offset + k) v
  pub each : (k v : ℕ) → slice_get bytes k ≡ Some v → IsShown machine_of setup h x file server k (offset + k) v

-- Each answer to a read is so, by the history until then.
abbrev pub ReadsShown : Type 0
ReadsShown = (m : Mounted) (terms : Terms) (setup : Setup) (h : List Entry) (v : View) → GoesWith m terms setup h v
    → (lane x slot offset count y : ℕ) (bytes : List ℕ) → Ended h lane x (Read slot offset count) y (Done (values.Bytes bytes))
    → ReadShown (machine_of m) setup terms.modes (take y h) x (Read slot offset count) offset bytes
