-- How many calls a session makes at most. "At most the sum over some operations" is said by a list of different ones.
use Rattle.std.specs.Prelude.{◌≡◌, ◌≢◌, ◌<◌, ◌≤◌, ◌⊎◌, ◌+◌, ◌*◌, ℕ, false, List, [], length, All, AllPairs, Contains, sum_by, Option}
use Rattle.nfs_types.specs.declared.attr.Attr.{Attr}
use Rattle.nfs_types.specs.declared.verf.Verf.{Verf}
use Rattle.nfs_types.specs.declared.wcc.Wcc.{Wcc}
use Rattle.nfs_dir_calls.specs.declared.call.DirCall.TheVariants as dirs
use Rattle.nfs_dir_calls.specs.declared.plus_page.PlusRow.{PlusRow}
use Rattle.nfs_file_calls.specs.declared.call.FileCall.TheVariants as files
use Rattle.nfs_file_calls.specs.declared.owned.FileKept.TheVariants as kept
use Rattle.world_model.specs.declared.answer.Fault.{Fault}
use Rattle.world_model.specs.declared.entry.Entry.{Entry}
use Rattle.world_model.specs.declared.entry.Entry.TheVariants.{Began}
use Rattle.world_model.specs.declared.message.Call.{Call}
use Rattle.world_model.specs.declared.message.Call.TheVariants as calls
use Rattle.world_model.specs.declared.message.Reply.{Reply}
use Rattle.world_model.specs.declared.message.Reply.TheVariants as replies
use Rattle.world_model.specs.declared.op.Op.{Op}
use Rattle.world_model.specs.declared.op.Op.TheVariants as ops
use Rattle.claims.specs.Asks.{Asks, Stabilizes, IsWriter, Placed, AreDifferent, HasBegan, count_of, most_pending, look_up}
use Rattle.world_model.specs.Chains.{LastCookie, list_call, page_reply}
use Rattle.world_model.specs.Entries.{At}
use Rattle.world_model.specs.Heard.{Heard, status_of}
use Rattle.claims.specs.Hidden.{IsHidden}
use Rattle.world_model.specs.Messages.{SpellsCall, SpellsReply}
use Rattle.world_model.specs.Mounts.{Rooted, mount_call, info_call}
use Rattle.world_model.specs.Operations.{EndsAt}
use Rattle.claims.specs.PageRules.{RefusesSo}
use Rattle.claims.specs.Pages.{pages_met, reads_a_page}
use Rattle.claims.specs.Paths.{names_in, paths_of}
use Rattle.world_model.specs.ReadSize.{ReadSized}
use Rattle.claims.specs.Slots.{IsOf}
use Rattle.claims.specs.Terms.{Terms, most_tries}
use Rattle.claims.specs.Touched.{WritesByte}
use Rattle.world_model.specs.Waiting.{FirstSent}

-- ---- at most so many calls

-- the call under this xid is such a one
pub record Carries (h : List Entry) (P : Call → Type 0) (xid : ℕ) : Type 0 where
  pub at : ℕ
  pub bytes : List ℕ
  pub call : Call
  pub sent : FirstSent h at xid bytes
  pub spells : SpellsCall xid call bytes
  pub is : P call

-- different numbers
abbrev pub Different : List ℕ → Type 0
Different numbers = AllPairs (λ (a b : ℕ). a ≢ b) numbers

-- at most n different xids have such calls
abbrev pub Few : List Entry → (Call → Type 0) → ℕ → Type 0
Few h P n = (xids : List ℕ) → Different xids → All (Carries h P) xids → length xids ≤ n

-- different operations, of which each is so
pub record Operations (P : Placed → Type 0) (some : List Placed) : Type 0 where
  pub different : AreDifferent some
  pub each : All P some

-- different places of the history, of which each is so
pub record Places (P : ℕ → Type 0) (some : List ℕ) : Type 0 where
  pub different : Different some
  pub each : All P some

-- a reply to such a call came at this place while it waited
pub record RepliedAt (h : List Entry) (P : Call → ℕ → List ℕ → Type 0) (at : ℕ) : Type 0 where
  pub call : Call
  pub xid : ℕ
  pub bytes : List ℕ
  pub heard : Heard h 0 (length h) call xid bytes
  pub here : heard.got_at ≡ at
  pub is : P call xid bytes

-- ---- 1: equal calls

-- the operation asks for the call by its end
pub record Asking (terms : Terms) (h : List Entry) (call : Call) (o : Placed) : Type 0 where
  pub end : ℕ
  pub began : HasBegan h o
  pub ends : EndsAt h o.0 end
  pub asks : Asks terms h o.0 end o.1 call

-- a call other than WRITE, COMMIT, READDIRPLUS, MNT and FSINFO
pub record IsPlain (call : Call) : Type 0 where
  pub write : (f bytes : List ℕ) (offset how : ℕ) → call ≢ calls.File (files.Write f offset how bytes)
  pub commit : (f : List ℕ) (offset count : ℕ) → call ≢ calls.File (files.Commit f offset count)
  pub list : (d : List ℕ) (cookie dircount maxcount : ℕ) (verf : Verf) → call ≢ calls.Dir (dirs.ReadDirPlus d cookie verf dircount maxcount)
  pub mount : (path : List ℕ) → call ≢ mount_call path
  pub info : (root : List ℕ) → call ≢ info_call root

-- Equal calls: for each operation that asks for them, 3 and one for each name of its paths.
pub record FewEqual (terms : Terms) (h : List Entry) (call : Call) : Type 0 where
  pub asking : List Placed
  pub operations : Operations (Asking terms h call) asking
  pub few : Few h (λ c. c ≡ call) (most_tries * sum_by (λ (o : Placed). 3 + names_in o.1) asking)

-- ---- 2: READs of a file

pub data IsReadOf (f : List ℕ) (call : Call) : Type 0 where
  read : (offset count : ℕ) → call ≡ calls.File (files.Read f offset count) → IsReadOf f call

-- a read of the file
pub record ReadsOf (terms : Terms) (h : List Entry) (f : List ℕ) (o : Placed) : Type 0 where
  pub slot : ℕ
  pub offset : ℕ
  pub count : ℕ
  pub is : o.1 ≡ ops.Read slot offset count
  pub of : IsOf terms.modes h o.0 o.1 f

-- a reply to a READ of the file with fewer bytes than were asked for, and not at the file's end
pub record IsShortRead (f : List ℕ) (call : Call) (xid : ℕ) (bytes : List ℕ) : Type 0 where
  pub offset : ℕ
  pub count : ℕ
  pub attr : Option Attr
  pub counted : ℕ
  pub data_ : List ℕ
  pub is : call ≡ calls.File (files.Read f offset count)
  pub spells : SpellsReply xid call (replies.File (kept.Read attr counted false data_)) bytes
  pub short : length data_ < count

-- READs of a file: for each read of it, so many as the pages that meet its range take; and one for each short reply.
pub record FewReads (terms : Terms) (h : List Entry) (f : List ℕ) (rsize : ℕ) : Type 0 where
  pub reads : List Placed
  pub short : List ℕ
  pub operations : Operations (ReadsOf terms h f) reads
  pub replied : Places (RepliedAt h (IsShortRead f)) short
  pub few : Few h (IsReadOf f) (most_tries * (sum_by (λ (o : Placed). pages_met o.1 * reads_a_page rsize) reads + length short))

-- ---- 3: WRITEs of a place

pub record CoversPlace (f : List ℕ) (i : ℕ) (call : Call) : Type 0 where
  pub offset : ℕ
  pub how : ℕ
  pub bytes : List ℕ
  pub is : call ≡ calls.File (files.Write f offset how bytes)
  pub low : offset ≤ i
  pub high : i < offset + length bytes

pub data IsCommitOf (f : List ℕ) (call : Call) : Type 0 where
  commit : (offset count : ℕ) → call ≡ calls.File (files.Commit f offset count) → IsCommitOf f call

-- a reply that refuses the WRITE, breaks a rule, or counts fewer bytes than it carried
pub data LeavesUnwritten (call : Call) (xid : ℕ) (bytes : List ℕ) : Type 0 where
  refused : (fault : Fault) → RefusesSo xid call bytes fault → LeavesUnwritten call xid bytes
  short : (f : List ℕ) (offset how count committed : ℕ) (data_ : List ℕ) (wcc : Wcc) (verf : Verf) → call ≡ calls.File (files.Write f offset how data_)
      → SpellsReply xid call (replies.File (kept.Write wcc count committed verf)) bytes → count < length data_ → LeavesUnwritten call xid bytes

pub record IsPoor (f : List ℕ) (i : ℕ) (call : Call) (xid : ℕ) (bytes : List ℕ) : Type 0 where
  pub covers : CoversPlace f i call
  pub left : LeavesUnwritten call xid bytes

-- the operation at this place writes the place i of the file
abbrev pub WritesPlace : Terms → List Entry → List ℕ → ℕ → ℕ → Type 0
WritesPlace terms h f i x = (v : ℕ) × WritesByte terms.modes terms.origin h x f i v

-- WRITEs that cover a place: one for each operation that writes it, for each poor reply to such a WRITE and for each COMMIT
-- of the file.
pub record FewWrites (terms : Terms) (h : List Entry) (f : List ℕ) (i : ℕ) : Type 0 where
  pub writers : List ℕ
  pub poor : List ℕ
  pub commits : List ℕ
  pub operations : Places (WritesPlace terms h f i) writers
  pub replied : Places (RepliedAt h (IsPoor f i)) poor
  pub committed : Places (Carries h (IsCommitOf f)) commits
  pub few : Few h (CoversPlace f i) (most_tries * length writers + length poor + length commits)

-- ---- 4: COMMITs of a file

-- a sync, close or put that makes the file stable by its end
pub record StableOf (terms : Terms) (h : List Entry) (f : List ℕ) (o : Placed) : Type 0 where
  pub end : ℕ
  pub began : HasBegan h o
  pub ends : EndsAt h o.0 end
  pub stable : Stabilizes terms h o.0 end o.1 f

-- a write, fill or put
pub record WriterAt (h : List Entry) (o : Placed) : Type 0 where
  pub began : HasBegan h o
  pub writes : IsWriter o.1

-- no operations; or writes, fills and puts that together have more bytes than may be dirty at once
abbrev pub NoneOrFull : List Placed → Type 0
NoneOrFull full = (full ≡ []) ⊎ (most_pending < sum_by (λ (o : Placed). count_of o.1) full)

-- COMMITs of a file: 2 for each sync, close and put of it; and if writes may have waited for room, 32 for each write,
-- fill and put.
pub record FewCommits (terms : Terms) (h : List Entry) (f : List ℕ) : Type 0 where
  pub stable : List Placed
  pub full : List Placed
  pub operations : Operations (StableOf terms h f) stable
  pub writers : Operations (WriterAt h) full
  pub room : NoneOrFull full
  pub few : Few h (IsCommitOf f) (most_tries * (2 * length stable + 32 * length full))

-- ---- 5: pages of a directory

-- a page of the directory after which the page from this cookie and verifier follows
pub record IsPageBefore (d : List ℕ) (cookie : ℕ) (verf : Verf) (call : Call) (xid : ℕ) (bytes : List ℕ) : Type 0 where
  pub from : ℕ
  pub with_ : Verf
  pub attr : Option Attr
  pub rows : List PlusRow
  pub is : call ≡ list_call d from with_
  pub spells : SpellsReply xid call (page_reply attr verf rows false) bytes
  pub last : LastCookie rows cookie

-- Equal READDIRPLUS calls: one for each page that they follow; and from cookie 0 one for each list that asks for them.
pub record FewPages (terms : Terms) (h : List Entry) (d : List ℕ) (cookie : ℕ) (verf : Verf) : Type 0 where
  pub pages : List ℕ
  pub lists : List Placed
  pub replied : Places (RepliedAt h (IsPageBefore d cookie verf)) pages
  pub operations : Operations (Asking terms h (list_call d cookie verf)) lists
  pub first : (lists ≡ []) ⊎ (cookie ≡ 0)
  pub few : Few h (λ c. c ≡ list_call d cookie verf) (most_tries * (length pages + length lists))

-- ---- 6: LOOKUPs of hidden names

-- a path of the script has the name
pub record IsInScript (script : List Entry) (name : List ℕ) : Type 0 where
  pub at : ℕ
  pub lane : ℕ
  pub line : ℕ
  pub op : Op
  pub path : List (List ℕ)
  pub began : At script at (Began lane line op)
  pub of : Contains (paths_of op) path
  pub has : Contains path name

-- a LOOKUP of a hidden name that no path of the script has
pub record LooksForHidden (script : List Entry) (call : Call) : Type 0 where
  pub d : List ℕ
  pub name : List ℕ
  pub is : call ≡ look_up d name
  pub hidden : IsHidden name
  pub own : IsInScript script name → ⊥

-- a hidden name that was found
pub record MetHidden (script : List Entry) (call : Call) (xid : ℕ) (bytes : List ℕ) : Type 0 where
  pub reply : Reply
  pub looks : LooksForHidden script call
  pub spells : SpellsReply xid call reply bytes
  pub went : status_of reply ≡ 0

-- a remove
pub record RemovesAt (h : List Entry) (o : Placed) : Type 0 where
  pub path : List (List ℕ)
  pub began : HasBegan h o
  pub is : o.1 ≡ ops.Remove path

-- LOOKUPs of hidden names: one for each remove, and for each such name that was found.
pub record FewHidden (script h : List Entry) : Type 0 where
  pub removes : List Placed
  pub met : List ℕ
  pub operations : Operations (RemovesAt h) removes
  pub replied : Places (RepliedAt h (MetHidden script)) met
  pub few : Few h (LooksForHidden script) (most_tries * (length removes + length met))

-- ---- all

-- A session makes no more calls than its operations need.
pub record CallCounts (terms : Terms) (script h : List Entry) : Type 0 where
  pub equal : (call : Call) → IsPlain call → FewEqual terms h call
  pub reads : (f root : List ℕ) (rsize : ℕ) → Rooted terms.origin h (length h) root → ReadSized h (length h) root terms.rsize rsize → FewReads terms h f rsize
  pub writes : (f : List ℕ) (i : ℕ) → FewWrites terms h f i
  pub commits : (f : List ℕ) → FewCommits terms h f
  pub pages : (d : List ℕ) (cookie : ℕ) (verf : Verf) → FewPages terms h d cookie verf
  pub hidden : FewHidden script h
