-- What an answer that an operation succeeded shows of the history: a row for each operation.
use Rattle.std.specs.Prelude.{◌≡◌, ◌≤◌, ◌↔◌, ◌++◌, ℕ, true, List, length, Contains, Option, Some}
use Rattle.std.specs.Cmp.Lexicographic.{slice_cmp}
use Rattle.std.specs.List.Sorted.{IsStrictlySortedBy}
use Rattle.std.specs.Ordering.{nat_cmp}
use Rattle.nfs_types.specs.declared.attr.Attr.{Attr}
use Rattle.nfs_types.specs.declared.mode.Mode.{Mode}
use Rattle.nfs_types.specs.declared.verf.Verf.{Verf}
use Rattle.nfs_dir_calls.specs.declared.keeping.DirKept.TheVariants as found
use Rattle.nfs_dir_calls.specs.declared.plus_page.PlusRow.{PlusRow}
use Rattle.nfs_file_calls.specs.declared.call.FileCall.TheVariants as files
use Rattle.nfs_file_calls.specs.declared.owned.FileKept.TheVariants as kept
use Rattle.world_model.specs.declared.answer.Value.{Value}
use Rattle.world_model.specs.declared.answer.Value.TheVariants as values
use Rattle.world_model.specs.declared.entry.Entry.{Entry}
use Rattle.world_model.specs.declared.message.Call.{Call}
use Rattle.world_model.specs.declared.message.Call.TheVariants as calls
use Rattle.world_model.specs.declared.message.Reply.{Reply}
use Rattle.world_model.specs.declared.message.Reply.TheVariants as replies
use Rattle.world_model.specs.declared.op.Op.{Op}
use Rattle.world_model.specs.declared.op.Op.TheVariants as ops
use Rattle.claims.specs.Asks.{Asks, Acts, MakesFile, look_up}
use Rattle.world_model.specs.Chains.{Chain, list_call, names_of, page_reply}
use Rattle.world_model.specs.Heard.{status_of}
use Rattle.world_model.specs.Leads.{Leads}
use Rattle.claims.specs.Paths.{PlaceOf}
use Rattle.world_model.specs.Commits.{Committed}
use Rattle.claims.specs.Rights.{HoldsToRead, HoldsToWrite}
use Rattle.claims.specs.Shown.{ShownWithin, given_object}
use Rattle.claims.specs.Slots.{InSlot, IsOf, PutsTo}
use Rattle.claims.specs.Terms.{Terms}
use Rattle.world_model.specs.Operations.{EndsWith}

-- an open finds its file by LOOKUP or CREATE of the last name
pub data FindsFile (terms : Terms) (h : List Entry) (y : ℕ) (mode : Mode) (path : List (List ℕ)) (call : Call) : Type 0 where
  looked_up : (d name : List ℕ) → PlaceOf terms.origin h y path d name → call ≡ look_up d name → FindsFile terms h y mode path call
  made : (d name : List ℕ) → PlaceOf terms.origin h y path d name → MakesFile mode d name call → FindsFile terms h y mode path call

-- An open succeeded: it ends with the reply to GETATTR of its file, of kind 1. If the session may go by attributes that it
-- keeps, it may end with the LOOKUP or CREATE that gave the file. Then a reply has shown kind 1 of the file.
pub data OpenOk (terms : Terms) (h : List Entry) (x y : ℕ) (op : Op) (mode : Mode) (path : List (List ℕ)) : Type 0 where
  asked : (f : List ℕ) (attr : Attr) → Asks terms h x y op (calls.File (files.GetAttr f))
      → EndsWith h x y (calls.File (files.GetAttr f)) (replies.File (kept.GetAttr attr)) → attr.kind ≡ 1 → OpenOk terms h x y op mode path
  known : (f : List ℕ) (attr : Attr) (call : Call) (reply : Reply) → terms.modes.nocto ≡ true → FindsFile terms h y mode path call
      → EndsWith h x y call reply → status_of reply ≡ 0 → given_object reply ≡ Some f
      → ShownWithin h 0 y f attr → attr.kind ≡ 1 → OpenOk terms h x y op mode path

-- A sync succeeded: COMMIT of the whole file was answered 0.
pub record SyncOk (terms : Terms) (h : List Entry) (x y : ℕ) (op : Op) : Type 0 where
  pub f : List ℕ
  pub of : IsOf terms.modes h x op f
  pub committed : Committed h x y f

-- A put succeeded: its last reply names a file to which its path leads, and COMMIT of the whole file was answered 0.
pub record PutOk (terms : Terms) (h : List Entry) (x y : ℕ) (path : List (List ℕ)) (offset : ℕ) (bytes : List ℕ) : Type 0 where
  pub f : List ℕ
  pub puts : PutsTo h x y f offset bytes
  pub leads : Leads terms.origin h y path f
  pub committed : Committed h x y f

-- A close succeeded: the slot held an open.
pub record CloseOk (terms : Terms) (h : List Entry) (lane x slot : ℕ) : Type 0 where
  pub f : List ℕ
  pub open_at : ℕ
  pub holds : InSlot terms.modes h x lane slot open_at f

-- what the reply to the call that did it gives: the rights, the text, or nothing
abbrev pub value_of : Reply → Value
value_of (replies.File (kept.Access attr bits)) = values.Bits bits
value_of (replies.Dir (found.ReadLink attr text)) = values.Text text
value_of reply = values.Nothing

-- The operation did its one call: it ends with the reply, of status 0, and its value is the reply's.
pub record ActOk (terms : Terms) (h : List Entry) (x y : ℕ) (op : Op) (value : Value) : Type 0 where
  pub call : Call
  pub reply : Reply
  pub acts : Acts terms h x y op call
  pub ends : EndsWith h x y call reply
  pub went : status_of reply ≡ 0
  pub gives : value ≡ value_of reply

-- A stat succeeded: a reply showed these attributes of an object to which the path leads.
pub record StatOk (terms : Terms) (h : List Entry) (y : ℕ) (path : List (List ℕ)) (value : Value) : Type 0 where
  pub f : List ℕ
  pub attr : Attr
  pub leads : Leads terms.origin h y path f
  pub shown : ShownWithin h 0 y f attr
  pub gives : value ≡ values.Attrs attr

-- the most names of a directory that are listed
abbrev pub most_names : ℕ
most_names = 65536

-- A list succeeded: it ends with the last page of its directory, and its names are those of all pages, in byte order.
pub record ListOk (terms : Terms) (h : List Entry) (x y : ℕ) (path : List (List ℕ)) (value : Value) : Type 0 where
  pub d : List ℕ
  pub before : List PlusRow
  pub page : List PlusRow
  pub cookie : ℕ
  pub verf : Verf
  pub after : Verf
  pub attr : Option Attr
  pub names : List (List ℕ)
  pub leads : Leads terms.origin h y path d
  pub chain : Chain h x y d before cookie verf
  pub ends : EndsWith h x y (list_call d cookie verf) (page_reply attr after page true)
  pub few : length (names_of (before ++ page)) ≤ most_names
  pub ordered : IsStrictlySortedBy (slice_cmp nat_cmp) names
  pub same : (name : List ℕ) → Contains names name ↔ Contains (names_of (before ++ page)) name
  pub gives : value ≡ values.Names names

-- A read succeeded: its slot holds an open for reading, and its bytes are no more than were asked for.
pub record ReadOk (terms : Terms) (h : List Entry) (lane x slot count : ℕ) (value : Value) : Type 0 where
  pub bytes : List ℕ
  pub holds : HoldsToRead terms h lane x slot
  pub most : length bytes ≤ count
  pub gives : value ≡ values.Bytes bytes

-- Of the operation in this lane that began at the place x and was answered at the place y.
abbrev pub OkRow : Terms → List Entry → ℕ → ℕ → ℕ → Op → Value → Type 0
OkRow terms h lane x y (ops.OpenFile slot mode path) value = OpenOk terms h x y (ops.OpenFile slot mode path) mode path × (value ≡ values.Nothing)
OkRow terms h lane x y (ops.Read slot offset count) value = ReadOk terms h lane x slot count value
OkRow terms h lane x y (ops.Write slot offset bytes) value = HoldsToWrite terms h lane x slot × (value ≡ values.Nothing)
OkRow terms h lane x y (ops.Fill slot offset count byte) value = HoldsToWrite terms h lane x slot × (value ≡ values.Nothing)
OkRow terms h lane x y (ops.Put path offset bytes) value = PutOk terms h x y path offset bytes × (value ≡ values.Nothing)
OkRow terms h lane x y (ops.Sync slot) value = SyncOk terms h x y (ops.Sync slot) × (value ≡ values.Nothing)
OkRow terms h lane x y (ops.Close slot) value = CloseOk terms h lane x slot × (value ≡ values.Nothing)
OkRow terms h lane x y (ops.Truncate slot size) value = ActOk terms h x y (ops.Truncate slot size) value
OkRow terms h lane x y (ops.Stat path) value = StatOk terms h y path value
OkRow terms h lane x y (ops.Access path bits) value = ActOk terms h x y (ops.Access path bits) value
OkRow terms h lane x y (ops.MakeDir path) value = ActOk terms h x y (ops.MakeDir path) value
OkRow terms h lane x y (ops.RemoveDir path) value = ActOk terms h x y (ops.RemoveDir path) value
OkRow terms h lane x y (ops.Remove path) value = ActOk terms h x y (ops.Remove path) value
OkRow terms h lane x y (ops.Rename from to) value = ActOk terms h x y (ops.Rename from to) value
OkRow terms h lane x y (ops.Link from to) value = ActOk terms h x y (ops.Link from to) value
OkRow terms h lane x y (ops.SymLink path target) value = ActOk terms h x y (ops.SymLink path target) value
OkRow terms h lane x y (ops.ReadLink path) value = ActOk terms h x y (ops.ReadLink path) value
OkRow terms h lane x y (ops.List path) value = ListOk terms h x y path value
