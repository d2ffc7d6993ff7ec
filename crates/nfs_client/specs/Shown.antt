-- What the history of a run shows, by its settings alone: its core goes with it, and its root, the one of the set-up, was known as each operation began.
use Rattle.std.specs.Prelude.{◌≡◌, ◌≢◌, ◌<◌, ◌≤◌, ◌+◌, ◌⊎◌, ℕ, List, [], true, false, length, take, slice_get, Some}
use Rattle.attr_cache.specs.Attrs.{kept_of}
use Rattle.attr_cache.specs.declared.kept.KeptAttr.{KeptAttr}
use Rattle.name_cache.specs.Names.{looked}
use Rattle.nfs_types.specs.declared.attr.Attr.{Attr}
use Rattle.nfs_types.specs.declared.wcc.Stamp.{Stamp}
use Rattle.nfs_types.specs.Stamps.{stamp_of}
use Rattle.page_cache.specs.Bytes.{page_at}
use Rattle.page_cache.specs.Pages.{Pages, nothing_kept, known_of, page_of}
use Rattle.write_back.specs.Files.{of_file}
use Rattle.write_back.specs.Segments.{newest_at}
use Rattle.write_back.specs.Pieces.{piece_under}
use Rattle.write_back.specs.Pieces.{Sent as Piece}
use Rattle.world_model.specs.declared.answer.Answer.{Answer}
use Rattle.world_model.specs.declared.answer.Answer.TheVariants.{Done, Refused}
use Rattle.world_model.specs.declared.answer.Fault.{Fault}
use Rattle.world_model.specs.declared.answer.Fault.TheVariants.{Bad, Lost, Nfs, Spent}
use Rattle.world_model.specs.declared.answer.Value.{Value}
use Rattle.world_model.specs.declared.answer.Value.TheVariants.{Attrs, Bytes}
use Rattle.world_model.specs.declared.entry.Entry.{Entry}
use Rattle.world_model.specs.declared.entry.Entry.TheVariants.{Sent}
use Rattle.world_model.specs.declared.message.Call.{Call}
use Rattle.world_model.specs.declared.op.Op.{Op}
use Rattle.world_model.specs.declared.op.Op.TheVariants as ops
use Rattle.claims.specs.Caused.{Caused, IsTried, calls_in}
use Rattle.claims.specs.Complete.{IsOwn, Completes}
use Rattle.claims.specs.CallsAsked.{CallsAsked}
use Rattle.claims.specs.CallCounts.{CallCounts}
use Rattle.world_model.specs.Entries.{At}
use Rattle.world_model.specs.Follows.{Follows}
use Rattle.world_model.specs.Fresh.{Fresh}
use Rattle.world_model.specs.History.{History}
use Rattle.world_model.specs.Lawful.{Lawful}
use Rattle.world_model.specs.Lost.{IsLost}
use Rattle.world_model.specs.Messages.{HasXid, SpellsCall}
use Rattle.claims.specs.OkRows.{OkRow}
use Rattle.world_model.specs.Once.{Once}
use Rattle.world_model.specs.Operations.{Ended, UnderWay}
use Rattle.claims.specs.Pending.{Pending}
use Rattle.claims.specs.ReadTrue.{ReadCurrent, ReadShort, ReadsBytes, ReadTrue}
use Rattle.claims.specs.Recent.{AttrAge, ListTrue, NamesTrue}
use Rattle.claims.specs.RefusalRows.{RefusalRow}
use Rattle.world_model.specs.Rising.{Rising}
use Rattle.claims.specs.Settled.{Evident, HoldsStable, SettledBy, Settled}
use Rattle.claims.specs.Terms.{Terms, jukebox}
use Rattle.claims.specs.Thrifty.{Thrifty}
use Rattle.claims.specs.Touched.{Wrote}
use Rattle.law_calls.specs.Calls.{Numbered}
use Rattle.claims.specs.Cuts.{CutsStay}
use Rattle.law_reads.specs.Kept.{HasStamp}
use Rattle.law_stable.specs.OwnCalls.{NoForeign}
use Rattle.op_machines.specs.declared.machine.Machine.{Machine}
use Rattle.client_core.specs.declared.setup.Setup.{Setup}
use Rattle.client_core.specs.Steps.{IsBusyAt}
use Rattle.client_core.specs.View.{View}
use Rattle.core_facts.specs.Progress.{WaitsFor}
use Rattle.core_facts.specs.Refusing.{IsRefusalShown, IsRefusedSo}
use Rattle.core_facts.specs.Resting.{NoneBusy}
use Rattle.core_facts.specs.SlotAnswers.{HoldOpens, FindsPlace, PlaceRows}
use Rattle.core_answers.specs.answers.PutRules.{MayRefusePut}
use Rattle.core_answers.specs.asks.PutCalls.{IsAlone, IsMadeAlone}
use Rattle.core_answers.specs.asks.Xids.{IsAmong}
use Rattle.core_answers.specs.bonds.Led.{HadWhereLed}
use Rattle.core_answers.specs.bonds.Named.{StoodAfter}
use Rattle.op_machines.specs.declared.begun.Mounted.{Mounted}
use Rattle.core_counts.specs.coarse.WereLong.{write_call, WasLong}
use Rattle.core_session.specs.current.Recent.{ReadRecent}
use Rattle.core_session.specs.current.Steady.{IsStable}
use Rattle.core_answers.specs.pages.Kept.{IsKeptFrom}
use Rattle.core_answers.specs.pages.True.{GivenTrue}
use Rattle.core_answers.specs.reads.From.{ReadFrom, ReadGivenFrom}
use Rattle.core_facts.specs.Notes.{NoneReady}
use Rattle.core_session.specs.outcomes.Complete.{IsServed}
use Rattle.core_session.specs.outcomes.Refusals.{IsItsOwn}
use Rattle.core_answers.specs.refusals.Rowed.{IsFinal, RefusedFor}
use Rattle.core_session.specs.saves.PutsWritten.{AllMadeStable}
use Rattle.core_session.specs.settled.Lone.{PutStays}
use Rattle.core_session.specs.syncs.Until.{TouchedUntil}
use Rattle.core_answers.specs.writes.Alone.{IsWaiting, IsQuiet, committed_file, written_file}
use Rattle.core_answers.specs.writes.Carried.{IsCarried}
use Rattle.core_answers.specs.writes.Flights.{IsInFlight}
use Rattle.core_answers.specs.writes.Written.{PlaceWritten}
use Rattle.link_dials.specs.Sendings.{GoesToPorts}
use Rattle.nfs_script.specs.declared.script.ScriptLine.{ScriptLine}
use Rattle.session_words.specs.declared.settings.Settings.{Settings}
use Rattle.session_setup.specs.declared.opening.SetUp.{SetUp}
use Rattle.script_runs.specs.declared.stock.Stock.{Stock}
use Rattle.script_runs.specs.LaneRuns.{setup_of}
use Rattle.script_runs.specs.Stock.{pages_for, setup_with}
use Rattle.session_setup.specs.Origins.{origin_of, longest_of, modes_of, terms_by}
use Rattle.lane_session.specs.Bonds.{HasCore}
use Rattle.lane_session.specs.Running.{mounted_by}
use Rattle.lane_session.specs.Endings.{EndsAs, entries_of}

-- ---- calls

-- What a session shows of its calls:
-- - Each record was sent by the set-up, as MNT or FSINFO; or it is a call of an operation that is under way and asks for it.
-- - Each has the session's credential, and keeps to the session's sizes.
-- - Each byte of a WRITE may have been pending since the operation began that asks for it. An operation writes it there; no later one that succeeded had
--   covered, cut or settled it, and no last close given it up.
-- - MNT and FSINFO have one xid each. The xids are among those that there are, so no more calls are made.
-- - All records under one xid are equal, and none is sent after its reply.
-- - A put that is the only operation until then makes no room.
pub record CallsShown (terms : Terms) (setup : Setup) (before h : List Entry) : Type 0 where
  pub asked : CallsAsked terms h
  pub numbered : Numbered h
  pub among : (i xid : ℕ) (bytes : List ℕ) → At h i (Sent bytes) → HasXid bytes xid → (i < length before) ⊎ IsAmong setup.first_xid setup.limit xid
  pub lone_puts : (i : ℕ) (bytes : List ℕ) → At h i (Sent bytes) → (i < length before) ⊎ IsMadeAlone terms terms.cred h i bytes

-- A session that follows a script makes no more calls than its operations need, by `CallCounts` of `claims`. Each call may be made four times at most if a busy
-- server puts it off. But for that there are at most as many of these:
-- - equal plain calls: for each operation that asks, as many as its paths have names, and three more;
-- - READs of a file: as many as the pages take that its reads ask for, and one more for each short reply;
-- - WRITEs that cover a place of a file: one for each operation that writes it, for each reply that leaves it unwritten, and for each COMMIT of the file;
-- - COMMITs of a file: two for each sync, close and put of it, and 32 for each writer, if these may have no room;
-- - READDIRPLUS of a directory from a cookie on: as many as replies lead there, and from its beginning one for each list;
-- - LOOKUPs of hidden names: as many as removes began, and as such names were found taken.
abbrev pub CountsShown : Terms → List Entry → Type 0
CountsShown terms h = (script : List Entry) → Follows script h → CallCounts terms script h

-- Each WRITE that is sent after the set-up had as many bytes as the session's WRITE size, as it was made; or its bytes didn't go on where it ends.
abbrev pub WritesShown : Mounted → Setup → List Entry → List Entry → Type 0
WritesShown m setup before h = (i xid offset how : ℕ) (file bytes rec : List ℕ) → At h i (Sent rec) → SpellsCall xid (write_call file offset how bytes) rec
    → length before ≤ i → WasLong m setup h i file offset how bytes

-- ---- answers

-- An operation succeeds only if it has its row.
abbrev pub OksShown : Terms → List Entry → Type 0
OksShown terms h = (lane x y : ℕ) (op : Op) (value : Value) → Ended h lane x op y (Done value) → OkRow terms h lane x y op value

-- An operation on a slot succeeds only if the slot holds an open as it begins, for reading or writing as it needs. One that finds no such place is refused so,
-- and no other is. Each byte that a read answers is one of these, with the pages that were kept from the start:
-- - one that an operation gave to its place;
-- - one that a kept page had, or the reply to a READ of its own;
-- - a zero past the end of these.
pub record SlotsShown (pages : Pages) (terms : Terms) (h : List Entry) : Type 0 where
  pub reads : (lane x slot offset count y : ℕ) (bytes : List ℕ) → Ended h lane x (ops.Read slot offset count) y (Done (Bytes bytes))
      → ReadGivenFrom pages terms.modes (take y h) x (ops.Read slot offset count) offset bytes
  pub held : (lane x slot y : ℕ) (value : Value) → HoldOpens terms h lane x slot y value
  pub places : (lane x y : ℕ) (op : Op) (answer : Answer) → Ended h lane x op y answer → IsTried answer → FindsPlace terms h lane x op answer
  pub caused : (lane x y : ℕ) (op : Op) → PlaceRows terms h lane x y op

-- A put is refused for a rule that a reply broke only if a record broke it, and never for a slot; and alone only if it has its row.
pub record PutsShown (terms : Terms) (h : List Entry) : Type 0 where
  pub rules : (lane x : ℕ) (path : List (List ℕ)) (offset : ℕ) (bytes : List ℕ) (y n : ℕ) → Ended h lane x (ops.Put path offset bytes) y (Refused (Bad n))
      → IsRefusedSo h x y (Bad n)
  pub faults : (lane x : ℕ) (path : List (List ℕ)) (offset : ℕ) (bytes : List ℕ) (y : ℕ) (fault : Fault)
      → Ended h lane x (ops.Put path offset bytes) y (Refused fault) → MayRefusePut fault
  pub alone : (lane x : ℕ) (path : List (List ℕ)) (offset : ℕ) (bytes : List ℕ) (y : ℕ) (fault : Fault) → IsAlone h x y
      → Ended h lane x (ops.Put path offset bytes) y (Refused fault) → fault ≢ Nfs jukebox → RefusalRow terms h lane x y (ops.Put path offset bytes) fault

-- no operation is under way at the end of the history
abbrev pub NoneUnderWay : List Entry → Type 0
NoneUnderWay h = (lane x : ℕ) (op : Op) → UnderWay h lane x (length h) op → ⊥

-- each operation that is refused has its row
abbrev pub AllRowed : Terms → List Entry → Type 0
AllRowed terms h = (lane x y : ℕ) (op : Op) (fault : Fault) → Ended h lane x op y (Refused fault) → RefusalRow terms h lane x y op fault

-- What a session shows of refusals:
-- - Each operation that is refused has its row, whichever it is and whatever it is refused for.
-- - A status and a refusal by RPC come from a record that refused a call of it.
-- - What doesn't let it go on comes from a record that refused so a call that was sent for this very operation.
-- - None is refused for the kind of a file that wants none, nor for too many names that lists none.
-- - The session is lost, and an operation answered so, only for a cause.
-- - An operation is answered that all calls were made only if they were. If none is under way and the session isn't lost, so many were sent.
pub record FaultsShown (terms : Terms) (setup : Setup) (h : List Entry) (core : View) : Type 0 where
  pub rows : AllRowed terms h
  pub refusals : (lane x : ℕ) (op : Op) (y : ℕ) (fault : Fault) → Ended h lane x op y (Refused fault) → IsRefusalShown h x y fault
  pub own : (lane x y : ℕ) (op : Op) (fault : Fault) → IsFinal op fault → Ended h lane x op y (Refused fault) → RefusedFor terms h x y op fault
  pub kinds : (lane x y : ℕ) (op : Op) (fault : Fault) → Ended h lane x op y (Refused fault) → IsItsOwn op fault
  pub lost_answers : (lane x : ℕ) (op : Op) (y : ℕ) → Ended h lane x op y (Refused Lost) → IsLost h y
  pub lost : core.lost ≡ true → IsLost h (length h)
  pub all_made : (lane x : ℕ) (op : Op) (y : ℕ) → Ended h lane x op y (Refused Spent) → core.calls.made ≡ setup.limit
  pub spent : (lane x : ℕ) (op : Op) (y : ℕ) → Ended h lane x op y (Refused Spent) → (IsLost h (length h) → ⊥) → NoneUnderWay h → calls_in h ≡ terms.calls

-- ---- operations without an answer

-- As long as the session isn't lost, each operation under way waits for something; and if no call waits, none is under way.
pub record RestShown (core : View) : Type 0 where
  pub waits : core.lost ≡ false → (at number : ℕ) (machine : Machine) → IsBusyAt core at number machine → WaitsFor core number
  pub answered : core.calls.calls ≡ [] → NoneBusy core

-- ---- what is kept

-- Each page that the core keeps was kept from the start, or a READ gave it; it has what the client wrote and cut since. As long as the session isn't lost:
-- - Each byte that is pending is one that an operation gave to its place.
-- - The newest of each place is `Pending` by the history, if each answer that is ready was noted. Nothing that succeeded since has covered, cut or settled it,
--   and no last close left it alone.
-- - What is in flight is what a WRITE carries that waits, and what each WRITE that waits carries is in flight.
-- - While a COMMIT of a file waits, nothing of the file is in flight.
-- - Each byte of a put that succeeded, as the only operation until then, was made stable within it. A WRITE carried it, and was answered as stable or followed
--   by a COMMIT of the whole file under the same verifier.
pub record KeptShown (terms : Terms) (setup : Setup) (h : List Entry) (core : View) : Type 0 where
  pub pages : (file : List ℕ) (index : ℕ) (bytes : List ℕ) → page_of file index core.shelf.pages ≡ Some bytes
      → IsKeptFrom setup.pages h core.shelf.pages file index bytes
  pub pending : core.lost ≡ false → (f : List ℕ) (place : ℕ) → PlaceWritten terms.modes h core.shelf.back f place
  pub held_back : core.lost ≡ false → NoneReady core → (f : List ℕ) (place byte : ℕ) → newest_at (of_file f core.shelf.back).segments place ≡ Some byte
      → Pending terms.modes terms.origin h f place (length h) byte
  pub carried : core.lost ≡ false → (f : List ℕ) (xid : ℕ) (piece : Piece) → piece_under xid (of_file f core.shelf.back).pieces ≡ Some piece
      → IsCarried setup core f xid piece
  pub flying : core.lost ≡ false → (xid : ℕ) (call : Call) (f : List ℕ) → IsWaiting setup core xid call → written_file call ≡ Some f
      → IsInFlight xid f call core.shelf.back
  pub commits : core.lost ≡ false → (xid : ℕ) (call : Call) (f : List ℕ) → IsWaiting setup core xid call → committed_file call ≡ Some f → IsQuiet setup core f
  pub saved : core.lost ≡ false → (lane x y : ℕ) (path : List (List ℕ)) (offset : ℕ) (bytes : List ℕ) (value : Value)
      → Ended h lane x (ops.Put path offset bytes) y (Done value) → IsAlone h x y → AllMadeStable h x y offset bytes

-- ---- in the words of the model

-- The history of a session that follows a script and ends with a status is `Caused`, by `claims`: each call was asked for, and not too many were made;
-- each answer has its row; a missing place or right is answered so; a session that is lost stays lost; and if an operation was refused since all calls
-- were made, at status 0 or 1, they were.
abbrev pub CausedShown : Terms → List Entry → Type 0
CausedShown terms h = (lines : List ScriptLine) (status : ℕ) → Follows (entries_of lines) h → EndsAs lines h status
    → Caused terms (entries_of lines) status h

-- ---- an honest server

-- Of a history with the server at each of its moments:
-- - A stat's path leads by names that stood in their directories at recent moments. The object there had the attributes that the stat shows.
-- - These attributes are as old at most as the lifetimes allow.
-- - An open or put found its file under its name.
-- - If cookies rise, too, a list shows what its directory held.
-- - What a kept name stands for, it stood for after the time that is kept with its directory.
-- - A kept page is that page of the file at every moment at which the file has the known stamp.
-- - Each byte that a read answers is one that an operation gave to its place; or one that the file had; or past the end of that.
-- - What is stable when an open begins, and stays, is in the answers of its reads. That is so if this client gave its place no other byte.
-- - Each byte of a read is current, by `claims`: one that may be pending at a moment of the read; one that the file had at a moment of which the read may show
--   bytes; or a zero in a hole.
pub record HonestShown (s : Settings) (root : List ℕ) (core : View) (t : History) : Type 0 where
  pub stats : (lane x y : ℕ) (path : List (List ℕ)) (attr : Attr) → Ended t.entries lane x (ops.Stat path) y (Done (Attrs attr))
      → HadWhereLed t (longest_of s.lives) x y root path attr
  pub reads : (lane x slot offset count y : ℕ) (bytes : List ℕ) → Ended t.entries lane x (ops.Read slot offset count) y (Done (Bytes bytes))
      → ReadFrom (modes_of s) t x y (ops.Read slot offset count) offset bytes
  pub recent : (x y o : ℕ) (f : List ℕ) (offset count : ℕ) (bytes : List ℕ)
      → ReadsBytes (modes_of s) t.entries x y o f offset count bytes
      → ReadRecent (modes_of s) t x y o f offset count bytes
  pub read_true : ReadCurrent (modes_of s) (origin_of s.export) t
  pub read_back : (modes_of s).nocto ≡ false → (x y o : ℕ) (f : List ℕ) (offset count : ℕ) (bytes : List ℕ)
      → ReadsBytes (modes_of s) t.entries x y o f offset count bytes
      → (e k b : ℕ) → e < o → k < count → IsStable (modes_of s) t e y f (offset + k) b → slice_get bytes k ≡ Some b
  pub stood : (dir name found : List ℕ) (kept : KeptAttr) → kept_of dir core.shelf.attrs ≡ Some kept
      → looked dir name (stamp_of kept.attr) core.shelf.names ≡ Some found → StoodAfter t kept.sent_at dir name found
  pub pages : (file : List ℕ) (stamp : Stamp) (index : ℕ) (bytes : List ℕ) → page_of file index core.shelf.pages ≡ Some bytes
      → known_of file core.shelf.pages ≡ Some stamp → (n : ℕ) (now : List ℕ) → HasStamp t n file stamp now → bytes ≡ page_at index now
  pub ages : AttrAge (modes_of s) (origin_of s.export) t
  pub names : NamesTrue (modes_of s) (origin_of s.export) t
  pub lists : Rising t → ListTrue (modes_of s) (origin_of s.export) t

-- ---- stable bytes

-- Of an honest server that executes no late copies:
-- - Each byte of a put that succeeded, as the only operation until then, is in its file from the answer on, and stable.
-- - So is each byte of a write, fill or put from the answer on that settled it (`Settled` of `claims`). This is the answer of a sync, close or put that
--   succeeded and began after the write was answered, or of the put itself.
-- - `synced` says it without the server's objects. It lasts as long as no other operation of this client, and no other client, changes its place; and if before
--   it was settled no last close left the file, with a refusal.
-- - Past the size of a truncate that succeeded there is no byte but a zero, unless the place was touched.
--
-- If each change of an object gives it another stamp, too, reads are true, by `claims`. Each shows the bytes of the writes, fills and puts that succeeded
-- before it, settled or not, unless these places were touched. It shows zeros past the sizes of truncates, unless these were. A short answer ends where the
-- file did, and past all that this client wrote.
pub record StableShown (s : Settings) (t : History) : Type 0 where
  pub lone_puts : (lane x y : ℕ) (path : List (List ℕ)) (offset : ℕ) (bytes : List ℕ) (value : Value)
      → Ended t.entries lane x (ops.Put path offset bytes) y (Done value) → IsAlone t.entries x y
      → PutStays (modes_of s) (origin_of s.export) t path x y offset bytes
  pub synced : (w y : ℕ) (f : List ℕ) (i byte j p : ℕ) → Wrote (modes_of s) t.entries w y f i byte → SettledBy (modes_of s) t.entries w y f j
      → j < p → p ≤ length t.entries → (TouchedUntil (modes_of s) (origin_of s.export) t.entries w j p f i → ⊥) → NoForeign t w p f i
      → HoldsStable (t.at p) f i byte
  pub settled : Settled (modes_of s) (origin_of s.export) t
  pub cuts_stay : CutsStay (modes_of s) (origin_of s.export) t
  pub reads : Fresh t → ReadTrue (modes_of s) (origin_of s.export) t
  pub ends : Fresh t → ReadShort (modes_of s) (origin_of s.export) t

-- ---- complete sessions

-- If the server is honest and executes each call with status 0, RPC refuses none, and the session isn't lost: each operation succeeds, or finds its slot
-- taken or free, no right, no file, too many names, no calls left, or no memory. The same if operations go on from other statuses (`Completes`).
pub record CompleteShown (terms : Terms) (t : History) : Type 0 where
  pub served : IsServed t → (lane x y : ℕ) (op : Op) (answer : Answer) → Ended t.entries lane x op y answer → IsOwn answer
  pub completes : Completes terms t

-- ---- all

-- A core goes with the history of a session that was set up so, with the history before, and this is what the history shows: among it that it is `Thrifty`, by
-- `claims`: READs are long, and in one lane kept pages aren't asked for again, and WRITEs end only where they must; and of the server, if
-- it is honest and gives each change another stamp.
pub record RunShows (s : Settings) (first : ℕ) (v : SetUp) (before h : List Entry) : Type 0 where
  pub has : HasCore (mounted_by s (setup_of s v)) (setup_of s v) before h
  pub calls : CallsShown (terms_by s first) (setup_of s v) before h
  pub counts : CountsShown (terms_by s first) h
  pub ports : GoesToPorts s.mount_port s.nfs_port h
  pub thrift : Thrifty (terms_by s first) h
  pub writes : WritesShown (mounted_by s (setup_of s v)) (setup_of s v) before h
  pub oks : OksShown (terms_by s first) h
  pub slots : SlotsShown nothing_kept (terms_by s first) h
  pub puts : PutsShown (terms_by s first) h
  pub faults : FaultsShown (terms_by s first) (setup_of s v) h has.core
  pub rest : RestShown has.core
  pub caused : CausedShown (terms_by s first) h
  pub evidence : Evident (modes_of s) (origin_of s.export) h
  pub kept : KeptShown (terms_by s first) (setup_of s v) h has.core
  pub complete : (t : History) → t.entries ≡ h → CompleteShown (terms_by s first) t
  pub stable : (t : History) → t.entries ≡ h → Lawful t → Once t.entries → StableShown s t
  pub honest : (t : History) → t.entries ≡ h → Lawful t → Fresh t → HonestShown s v.root has.core t

-- The same of a session that began with a stock of pages, but that kept pages aren't asked for again. What an honest server makes true of reads and of kept
-- pages asks for pages that were true: each file had its page at a moment with the stamp, before any operation began.
pub record RunShowsOver (stock : Stock) (s : Settings) (first : ℕ) (v : SetUp) (before h : List Entry) : Type 0 where
  pub has : HasCore (mounted_by s (setup_with stock s v)) (setup_with stock s v) before h
  pub calls : CallsShown (terms_by s first) (setup_with stock s v) before h
  pub counts : CountsShown (terms_by s first) h
  pub ports : GoesToPorts s.mount_port s.nfs_port h
  pub writes : WritesShown (mounted_by s (setup_with stock s v)) (setup_with stock s v) before h
  pub oks : OksShown (terms_by s first) h
  pub slots : SlotsShown (pages_for stock v.root) (terms_by s first) h
  pub puts : PutsShown (terms_by s first) h
  pub faults : FaultsShown (terms_by s first) (setup_with stock s v) h has.core
  pub rest : RestShown has.core
  pub caused : CausedShown (terms_by s first) h
  pub evidence : Evident (modes_of s) (origin_of s.export) h
  pub kept : KeptShown (terms_by s first) (setup_with stock s v) h has.core
  pub complete : (t : History) → t.entries ≡ h → CompleteShown (terms_by s first) t
  pub stable : (t : History) → t.entries ≡ h → Lawful t → Once t.entries → GivenTrue (pages_for stock v.root) t → StableShown s t
  pub honest : (t : History) → t.entries ≡ h → Lawful t → Fresh t → GivenTrue (pages_for stock v.root) t → HonestShown s v.root has.core t
