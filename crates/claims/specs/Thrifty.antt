-- READs and WRITEs are no smaller than they may be, and none is sent for a page that is kept.
use Rattle.std.specs.Prelude.{◌≡◌, ◌≢◌, ◌<◌, ◌≤◌, ◌⊎◌, ◌+◌, ◌*◌, ℕ, Bool, true, List, length, All, AllPairs, sum_by, Option, Some}
use Rattle.nfs_types.specs.declared.attr.Attr.{Attr}
use Rattle.nfs_types.specs.declared.set_attr.SetAttr.{SetAttr}
use Rattle.nfs_types.specs.declared.time.Time.{Time}
use Rattle.nfs_types.specs.declared.wcc.Stamp.{Stamp}
use Rattle.nfs_file_calls.specs.declared.call.FileCall.TheVariants as files
use Rattle.nfs_file_calls.specs.declared.owned.FileKept.TheVariants as kept
use Rattle.world_model.specs.declared.answer.Answer.{Answer}
use Rattle.world_model.specs.declared.answer.Answer.TheVariants.{Refused}
use Rattle.world_model.specs.declared.answer.Fault.{Fault}
use Rattle.world_model.specs.declared.answer.Fault.TheVariants as faults
use Rattle.world_model.specs.declared.entry.Entry.{Entry}
use Rattle.world_model.specs.declared.entry.Entry.TheVariants.{Began, Sent}
use Rattle.world_model.specs.declared.message.Call.{Call}
use Rattle.world_model.specs.declared.message.Call.TheVariants as calls
use Rattle.world_model.specs.declared.message.Reply.{Reply}
use Rattle.world_model.specs.declared.message.Reply.TheVariants as replies
use Rattle.world_model.specs.declared.op.Op.{Op}
use Rattle.world_model.specs.declared.op.Op.TheVariants as ops
use Rattle.claims.specs.Asks.{Placed, AreDifferent, count_of, most_pending}
use Rattle.claims.specs.CallCounts.{WriterAt, CoversPlace}
use Rattle.world_model.specs.Entries.{At}
use Rattle.world_model.specs.Heard.{Heard}
use Rattle.world_model.specs.Leads.{Leads}
use Rattle.world_model.specs.Messages.{SpellsCall, SpellsReply}
use Rattle.world_model.specs.Mounts.{Rooted, Sized}
use Rattle.world_model.specs.Operations.{Ended, EndsAt}
use Rattle.claims.specs.PageRules.{RefusesSo}
use Rattle.claims.specs.Pages.{page_of, page_from}
use Rattle.world_model.specs.ReadSize.{ReadSized, page_bytes}
use Rattle.claims.specs.Shown.{ShowsAttr}
use Rattle.claims.specs.Slots.{Opens, InSlot, IsOf}
use Rattle.nfs_types.specs.Stamps.{stamp_of}
use Rattle.claims.specs.Terms.{Terms}
use Rattle.claims.specs.Touched.{Covers, Wrote}
use Rattle.world_model.specs.Operations.{UnderWay, EndsWith}
use Rattle.world_model.specs.Waiting.{FirstSent}

-- all operations are of one lane
abbrev pub OneLane : List Entry → Type 0
OneLane h = (a b lane other line its_line : ℕ) (op its_op : Op) → At h a (Began lane line op) → At h b (Began other its_line its_op) → lane ≡ other

-- READ of the file
abbrev pub read_call : List ℕ → ℕ → ℕ → Call
read_call f offset count = calls.File (files.Read f offset count)

-- the range has a byte of the page
pub record MeetsPage (offset count page : ℕ) : Type 0 where
  pub some : 1 ≤ count
  pub low : page_of offset ≤ page
  pub high : page < page_from (offset + count)

-- ---- 1: READs are long

-- the read that is under way is of the file, and its last page ends here
pub record EndsRead (terms : Terms) (h : List Entry) (i : ℕ) (f : List ℕ) (end : ℕ) : Type 0 where
  pub lane : ℕ
  pub x : ℕ
  pub slot : ℕ
  pub offset : ℕ
  pub count : ℕ
  pub under_way : UnderWay h lane x i (ops.Read slot offset count)
  pub of : IsOf terms.modes h x (ops.Read slot offset count) f
  pub some : 1 ≤ count
  pub is : end ≡ page_from (offset + count) * page_bytes

-- a page begins here that a READ of the file met which was sent earlier
pub record MetEarlier (h : List Entry) (i : ℕ) (f : List ℕ) (end : ℕ) : Type 0 where
  pub page : ℕ
  pub at : ℕ
  pub xid : ℕ
  pub bytes : List ℕ
  pub offset : ℕ
  pub count : ℕ
  pub is : end ≡ page * page_bytes
  pub sent : At h at (Sent bytes)
  pub spells : SpellsCall xid (read_call f offset count) bytes
  pub earlier : at < i
  pub met : MeetsPage offset count page

-- A READ asks for as many bytes as it may; or up to the end of the last page of a read under way; or up to a page that was
-- asked for before.
pub data IsLong (terms : Terms) (h : List Entry) (i : ℕ) (f : List ℕ) (offset count : ℕ) : Type 0 where
  whole : (root : List ℕ) (rsize : ℕ) → Rooted terms.origin h i root → ReadSized h i root terms.rsize rsize → count ≡ rsize → IsLong terms h i f offset count
  ends_read : EndsRead terms h i f (offset + count) → IsLong terms h i f offset count
  met : MetEarlier h i f (offset + count) → IsLong terms h i f offset count

abbrev pub LongReads : Terms → List Entry → Type 0
LongReads terms h = (i xid offset count : ℕ) (f bytes : List ℕ) → At h i (Sent bytes) → SpellsCall xid (read_call f offset count) bytes
    → IsLong terms h i f offset count

-- ---- 2: pages that are kept aren't asked for again

-- a reply to this call came between the places from and to, while it waited
pub record CameWithin (h : List Entry) (from to : ℕ) (call : Call) (reply : Reply) : Type 0 where
  pub xid : ℕ
  pub bytes : List ℕ
  pub heard : Heard h 0 to call xid bytes
  pub after : from < heard.got_at
  pub spells : SpellsReply xid call reply bytes

-- a WRITE or SETATTR of the file
pub data ChangesFile (f : List ℕ) (call : Call) : Type 0 where
  writes : (offset how : ℕ) (bytes : List ℕ) → call ≡ calls.File (files.Write f offset how bytes) → ChangesFile f call
  sets : (set : SetAttr) (guard : Option Time) → call ≡ calls.File (files.SetAttr f set guard) → ChangesFile f call

-- a page of a file
abbrev pub FilePage : Type 0
FilePage = List ℕ × ℕ

-- the range of a read that began before the place n meets the page
pub record IsMet (terms : Terms) (h : List Entry) (n : ℕ) (page : FilePage) : Type 0 where
  pub x : ℕ
  pub slot : ℕ
  pub offset : ℕ
  pub count : ℕ
  pub of : IsOf terms.modes h x (ops.Read slot offset count) page.0
  pub before : x < n
  pub met : MeetsPage offset count page.1

-- as many pages as are kept
abbrev pub most_pages : ℕ
most_pages = 1024

-- From the place o to n each reply that shows attributes of the file shows this stamp. No reply answers a WRITE or SETATTR of
-- it. The reads that began by then meet no more pages than are kept.
pub record Unchanged (terms : Terms) (h : List Entry) (o n : ℕ) (f : List ℕ) (stamp : Stamp) : Type 0 where
  pub shown : (call : Call) (reply : Reply) (attr : Attr) → CameWithin h o n call reply → ShowsAttr call reply f attr → stamp_of attr ≡ stamp
  pub unwritten : (call : Call) (xid : ℕ) (bytes : List ℕ) → ChangesFile f call → (heard : Heard h 0 n call xid bytes) → o < heard.got_at → ⊥
  pub few : (pages : List FilePage) → AllPairs (λ (a b : FilePage). a ≢ b) pages → All (IsMet terms h n) pages → length pages ≤ most_pages

-- A reply gives the page whole; or it says that the file ends, and gives the page up to the size.
pub data GivesPage (size offset : ℕ) (bytes : List ℕ) (eof : Bool) (page : ℕ) : Type 0 where
  whole : offset ≤ page * page_bytes → page * page_bytes + page_bytes ≤ offset + length bytes → GivesPage size offset bytes eof page
  last : eof ≡ true → offset ≤ page * page_bytes → page * page_bytes < size → size ≤ page * page_bytes + page_bytes → offset + length bytes ≡ size
      → GivesPage size offset bytes eof page

-- A reply that came at the place `at` gave the page, under the stamp that the open was told. It answers a READ that was made
-- for a read of the open at the place o.
pub record TookPage (terms : Terms) (h : List Entry) (o : ℕ) (f : List ℕ) (stamp : Stamp) (at page : ℕ) : Type 0 where
  pub lane : ℕ
  pub slot : ℕ
  pub y : ℕ
  pub opens : Opens terms.modes h lane slot o y f
  pub attr : Attr
  pub told : EndsWith h o y (calls.File (files.GetAttr f)) (replies.File (kept.GetAttr attr))
  pub known : stamp_of attr ≡ stamp
  pub r : ℕ
  pub end : ℕ
  pub asked_offset : ℕ
  pub asked_count : ℕ
  pub line : ℕ
  pub reads : At h r (Began lane line (ops.Read slot asked_offset asked_count))
  pub holds : InSlot terms.modes h r lane slot o f
  pub ends : EndsAt h r end
  pub xid : ℕ
  pub bytes : List ℕ
  pub offset : ℕ
  pub count : ℕ
  pub heard : Heard h r end (read_call f offset count) xid bytes
  pub here : heard.got_at ≡ at
  pub shows : Attr
  pub counted : ℕ
  pub eof : Bool
  pub data_ : List ℕ
  pub spells : SpellsReply xid (read_call f offset count) (replies.File (kept.Read (Some shows) counted eof data_)) bytes
  pub right : (n : ℕ) → RefusesSo xid (read_call f offset count) bytes (faults.Bad n) → ⊥
  pub same : stamp_of shows ≡ stamp
  pub gives : GivesPage stamp.size offset data_ eof page

-- While nothing shows that the file changed, no READ for a page that was given is sent.
abbrev pub KeptPages : Terms → List Entry → Type 0
KeptPages terms h = (o at page n xid offset count : ℕ) (f bytes : List ℕ) (stamp : Stamp) → TookPage terms h o f stamp at page → FirstSent h n xid bytes
    → SpellsCall xid (read_call f offset count) bytes → at < n
    → MeetsPage offset count page → Unchanged terms h o n f stamp → ⊥

-- ---- 3: WRITEs are long

-- all writes, fills and puts together have no more bytes than may be dirty at once
abbrev pub NeverFull : List Entry → Type 0
NeverFull h = (writers : List Placed) → AreDifferent writers → All (WriterAt h) writers → sum_by (λ (o : Placed). count_of o.1) writers ≤ most_pending

-- a sync or close, or a put
pub data IsSync (op : Op) : Type 0 where
  sync : (slot : ℕ) → op ≡ ops.Sync slot → IsSync op
  close : (slot : ℕ) → op ≡ ops.Close slot → IsSync op

abbrev pub IsPut : Op → Type 0
IsPut op = (path : List (List ℕ)) × (offset : ℕ) × (bytes : List ℕ) × (op ≡ ops.Put path offset bytes)

-- before the place i no truncate of the file was answered, and no close or put of it was refused
pub record Uncut (terms : Terms) (h : List Entry) (i : ℕ) (f : List ℕ) : Type 0 where
  pub truncate : (lane x slot size y : ℕ) (answer : Answer) → IsOf terms.modes h x (ops.Truncate slot size) f
      → Ended h lane x (ops.Truncate slot size) y answer → y < i → ⊥
  pub close : (lane x slot y : ℕ) (fault : Fault) → IsOf terms.modes h x (ops.Close slot) f → Ended h lane x (ops.Close slot) y (Refused fault) → y < i → ⊥
  pub put : (lane x offset y : ℕ) (path : List (List ℕ)) (bytes : List ℕ) (fault : Fault) → Ended h lane x (ops.Put path offset bytes) y (Refused fault)
      → Leads terms.origin h y path f → y < i → ⊥

-- The operation at the place w, which succeeded before the place x, wrote the place of the file; or the put at x itself does.
pub data WritesAt (terms : Terms) (h : List Entry) (x : ℕ) (op : Op) (f : List ℕ) (place w : ℕ) : Type 0 where
  earlier : (y v : ℕ) → Wrote terms.modes h w y f place v → y < x → WritesAt terms h x op f place w
  itself : (path : List (List ℕ)) (offset v : ℕ) (bytes : List ℕ) → op ≡ ops.Put path offset bytes → w ≡ x → Covers offset bytes place v
      → WritesAt terms h x op f place w

-- of these operations this one was the last to write the place of the file
pub record IsLatest (terms : Terms) (h : List Entry) (x : ℕ) (op : Op) (f : List ℕ) (place w : ℕ) : Type 0 where
  pub writes : WritesAt terms h x op f place w
  pub latest : (other : ℕ) → WritesAt terms h x op f place other → other ≤ w

-- a WRITE of the file that was sent before the place i covers the place
pub record CoveredEarlier (h : List Entry) (i : ℕ) (f : List ℕ) (place : ℕ) : Type 0 where
  pub at : ℕ
  pub xid : ℕ
  pub bytes : List ℕ
  pub call : Call
  pub sent : At h at (Sent bytes)
  pub spells : SpellsCall xid call bytes
  pub covers : CoversPlace f place call
  pub earlier : at < i

-- A WRITE with fewer bytes than it may have is first sent within a sync, close or put. Here `end` is the place of its last
-- byte.
pub record ShortWrite (terms : Terms) (h : List Entry) (i x : ℕ) (op : Op) (f : List ℕ) (end : ℕ) : Type 0 where
  pub lane : ℕ
  pub xid : ℕ
  pub bytes : List ℕ
  pub offset : ℕ
  pub how : ℕ
  pub data_ : List ℕ
  pub root : List ℕ
  pub wsize : ℕ
  pub sent : FirstSent h i xid bytes
  pub spells : SpellsCall xid (calls.File (files.Write f offset how data_)) bytes
  pub some : 1 ≤ length data_
  pub is : end + 1 ≡ offset + length data_
  pub rooted : Rooted terms.origin h i root
  pub sized : Sized h i root terms.wsize wsize
  pub short : length data_ < wsize
  pub under_way : UnderWay h lane x i op
  pub sync : IsSync op ⊎ IsPut op

-- If one operation was the last to write both the WRITE's last place and the next one, an earlier WRITE covers the next one.
-- Here `end` is the WRITE's last place. Writers never fill the session, and nothing cut the file or gave it up.
abbrev pub LongWrites : Terms → List Entry → Type 0
LongWrites terms h = NeverFull h → (i x end w : ℕ) (op : Op) (f : List ℕ) → ShortWrite terms h i x op f end → Uncut terms h i f
    → IsLatest terms h x op f (end + 1) w → IsLatest terms h x op f end w → CoveredEarlier h i f (end + 1)

-- ---- all

pub record Thrifty (terms : Terms) (h : List Entry) : Type 0 where
  pub reads : LongReads terms h
  pub pages : OneLane h → KeptPages terms h
  pub writes : OneLane h → LongWrites terms h
