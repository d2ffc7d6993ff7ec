-- The client as far as names, attributes and listings go: the calls that wait, its time, the attributes and names that it keeps, and how far the
-- operations under way came. It knows them by file handle and name, and nothing of tables, lists or lanes. Entries of the history do the
-- least to it; all else are moves of the client alone, at any time between entries. What a step asks is what the contracts of the layers are to
-- show; which layer, stands beside it.
use Rattle.std.specs.Prelude.{Bool, true, false, ◌≡◌, ◌<◌, ◌≤◌, ◌⊎◌, ◌+◌, ◌↔◌, ◌++◌, ℕ, List, [], ◌∷◌, Contains, Option, Some}
use Rattle.std.specs.Cmp.Lexicographic.{slice_cmp}
use Rattle.std.specs.List.Sorted.{IsStrictlySortedBy}
use Rattle.std.specs.Ordering.{nat_cmp}
use Rattle.nfs_types.specs.declared.attr.Attr.{Attr}
use Rattle.nfs_types.specs.declared.mode.Mode.{Mode}
use Rattle.nfs_types.specs.declared.verf.Verf.{Verf}
use Rattle.nfs_types.specs.declared.wcc.Stamp.{Stamp}
use Rattle.nfs_types.specs.declared.wcc.Wcc.{Wcc}
use Rattle.nfs_types.specs.Stamps.{stamp_of}
use Rattle.nfs_dir_calls.specs.declared.call.DirCall.TheVariants as dirs
use Rattle.nfs_dir_calls.specs.declared.create.Making.{Making}
use Rattle.nfs_dir_calls.specs.declared.keeping.DirKept.TheVariants as found
use Rattle.nfs_dir_calls.specs.declared.plus_page.PlusRow.{PlusRow}
use Rattle.nfs_file_calls.specs.declared.call.FileCall.TheVariants as files
use Rattle.nfs_file_calls.specs.declared.owned.FileKept.TheVariants as replies
use Rattle.world_model.specs.declared.answer.Answer.{Answer}
use Rattle.world_model.specs.declared.answer.Answer.TheVariants.{Done}
use Rattle.world_model.specs.declared.answer.Value.{Value}
use Rattle.world_model.specs.declared.answer.Value.TheVariants.{Attrs, Names}
use Rattle.world_model.specs.declared.entry.Entry.{Entry}
use Rattle.world_model.specs.declared.entry.Entry.TheVariants as entries
use Rattle.world_model.specs.declared.message.Call.{Call}
use Rattle.world_model.specs.declared.message.Call.TheVariants as calls
use Rattle.world_model.specs.declared.message.Reply.{Reply}
use Rattle.world_model.specs.declared.message.Reply.TheVariants as answers
use Rattle.world_model.specs.declared.op.Op.TheVariants as ops
use Rattle.world_model.specs.Chains.{LastCookie, names_of}
use Rattle.world_model.specs.History.{History}
use Rattle.claims.specs.Modes.{Modes}
use Rattle.world_model.specs.Mounts.{Origin, Rooted}
use Rattle.world_model.specs.Operations.{Ended, NoneCame}
use Rattle.claims.specs.Shown.{ShowsAttr}
use Rattle.claims.specs.Slots.{NamesFile}
use Rattle.model_walks.specs.Calls.{Calls, Fewer, Adds, MakesCall, EntersCalls}

-- a file handle, a name, and the names of a path
abbrev pub Handle : Type 0
Handle = List ℕ

abbrev pub Name : Type 0
Name = List ℕ

abbrev pub Path : Type 0
Path = List Name

-- attributes that are kept, the client's time when their call was made, and how long they are believed from then on (nfs(5), acregmin to acdirmax)
pub record KnownAttr : Type 0 where
  pub attr : Attr
  pub sent : ℕ
  pub lifetime : ℕ

-- a name in a directory
pub record Place : Type 0 where
  pub dir : Handle
  pub name : Name

-- what a name stands for, and the directory's stamp under which it was learnt
pub record KnownName : Type 0 where
  pub stamp : Stamp
  pub object : Handle

-- an operation, by the place of its beginning, and the names that it went through
pub record Walk : Type 0 where
  pub op : ℕ
  pub path : Path

-- A listing: its directory, the cookie to go on from, and the names so far; the place at which its last page came, and whether the directory ended
-- there.
pub record Listing : Type 0 where
  pub dir : Handle
  pub cookie : ℕ
  pub names : List Name
  pub since : ℕ
  pub ended : Bool

-- The calls; the client's time, which is the greatest reading of its clock; the attributes and names that are kept; and of the operations under
-- way: the objects to which names led, the files that opens and puts found, the attributes that stats are to show, and the listings.
pub record View : Type 0 where
  pub calls : Calls
  pub now : Option ℕ
  pub attrs : Handle → Option KnownAttr
  pub names : Place → Option KnownName
  pub spots : Walk → Option Handle
  pub found : Walk → Option Handle
  pub shown : Walk → Option Attr
  pub lists : Walk → Option Listing

-- a reply to a call was taken
pub record Came (c : View) (call : Call) (reply : Reply) : Type 0 where
  pub xid : ℕ
  pub at : ℕ
  pub time : Option ℕ
  pub place : ℕ
  pub is : c.calls.taken xid ≡ Some (record { call = call; at = at; time = time; reply = reply; came = place })

-- ---- moves of the client alone

-- A call is made, at the client's time.
pub record Calling (n : ℕ) (old new : View) : Type 0 where
  pub makes : MakesCall n old.now old.calls new.calls
  pub others : new ≡ record old { calls = new.calls }

-- Attributes that a reply shows are kept from the time at which its call was made, for no longer than attributes may be believed. Shown by
-- attr_cache (learn), and by name_ops and file_ops (which reply, and the call's own time).
pub record LearnsAttr (m : Modes) (old new : View) : Type 0 where
  pub call : Call
  pub reply : Reply
  pub came : Came old call reply
  pub object : Handle
  pub attr : Attr
  pub sent : ℕ
  pub lifetime : ℕ
  pub shows : ShowsAttr call reply object attr
  pub timed : came.time ≡ Some sent
  pub most : lifetime ≤ m.longest
  pub attrs : Adds old.attrs new.attrs object (record { attr = attr; sent = sent; lifetime = lifetime })
  pub others : new ≡ record old { attrs = new.attrs }

-- A name that a LOOKUP found is kept under the stamp that the same reply shows of the directory. Shown by name_cache (learn), name_ops and
-- file_ops.
pub record LearnsName (old new : View) : Type 0 where
  pub d : Handle
  pub name : Name
  pub object : Handle
  pub attr : Option Attr
  pub dir : Attr
  pub came : Came old (calls.Dir (dirs.Lookup d name)) (answers.Dir (found.Lookup object attr (Some dir)))
  pub names : Adds old.names new.names (record { dir = d; name = name }) (record { stamp = stamp_of dir; object = object })
  pub others : new ≡ record old { names = new.names }

-- kept attributes and names are dropped
pub record Forgets (old new : View) : Type 0 where
  pub attrs : Fewer old.attrs new.attrs
  pub names : Fewer old.names new.names
  pub others : new ≡ record old { attrs = new.attrs; names = new.names }

-- An operation goes on from a directory to which its names lead, through one name more.
pub record Goes (old new : View) (op : ℕ) (d : Handle) (name : Name) (object : Handle) : Type 0 where
  pub earlier : Path
  pub stands : old.spots (record { op = op; path = earlier }) ≡ Some d
  pub spots : Adds old.spots new.spots (record { op = op; path = earlier ++ name ∷ [] }) object
  pub others : new ≡ record old { spots = new.spots }

-- It goes by what a LOOKUP found that was made after it began. Shown by name_ops (Walk).
pub record LooksUp (old new : View) : Type 0 where
  pub op : ℕ
  pub d : Handle
  pub name : Name
  pub object : Handle
  pub attr : Option Attr
  pub dir : Option Attr
  pub goes : Goes old new op d name object
  pub came : Came old (calls.Dir (dirs.Lookup d name)) (answers.Dir (found.Lookup object attr dir))
  pub own : op < came.at

-- attributes are believed: the client's time is before the end of their lifetime
pub record Believes (c : View) (object : Handle) (known : KnownAttr) : Type 0 where
  pub time : ℕ
  pub is : c.attrs object ≡ Some known
  pub now : c.now ≡ Some time
  pub young : time < known.sent + known.lifetime

-- It goes by a name that is kept under the stamp of the directory's attributes, while those are believed. Shown by attr_cache (look),
-- name_cache (look) and name_ops (Walk).
pub record GoesByName (old new : View) : Type 0 where
  pub op : ℕ
  pub d : Handle
  pub name : Name
  pub object : Handle
  pub known : KnownAttr
  pub goes : Goes old new op d name object
  pub believes : Believes old d known
  pub named : old.names (record { dir = d; name = name }) ≡ Some (record { stamp = stamp_of known.attr; object = object })

-- the reply to a LOOKUP or CREATE of a name in a directory gives the file
pub data GivesFile (d : Handle) (name : Name) (f : Handle) (call : Call) (reply : Reply) : Type 0 where
  by_lookup : (attr dir : Option Attr) → call ≡ calls.Dir (dirs.Lookup d name) → reply ≡ answers.Dir (found.Lookup f attr dir) → GivesFile d name f call reply
  by_create : (making : Making) (attr : Option Attr) (wcc : Wcc) → call ≡ calls.Dir (dirs.Create d name making)
      → reply ≡ answers.Dir (found.Create (Some f) attr wcc) → GivesFile d name f call reply

-- An open or put finds its file by a LOOKUP or CREATE of the last name that was made after it began. Shown by file_ops (Opening).
pub record FindsFile (old new : View) : Type 0 where
  pub op : ℕ
  pub earlier : Path
  pub d : Handle
  pub name : Name
  pub f : Handle
  pub call : Call
  pub reply : Reply
  pub stands : old.spots (record { op = op; path = earlier }) ≡ Some d
  pub came : Came old call reply
  pub own : op < came.at
  pub gives : GivesFile d name f call reply
  pub found : Adds old.found new.found (record { op = op; path = earlier ++ name ∷ [] }) f
  pub others : new ≡ record old { found = new.found }

-- The attributes that a stat is to show: those that are believed, or else those that a GETATTR told which was made after it began. Shown by
-- attr_cache (look) and name_ops (Stat).
pub data KnowsAttr (c : View) (op : ℕ) (object : Handle) (attr : Attr) : Type 0 where
  believed : (known : KnownAttr) → Believes c object known → known.attr ≡ attr → KnowsAttr c op object attr
  told : (came : Came c (calls.File (files.GetAttr object)) (answers.File (replies.GetAttr attr))) → op < came.at → KnowsAttr c op object attr

pub record ShowsObject (old new : View) : Type 0 where
  pub op : ℕ
  pub path : Path
  pub object : Handle
  pub attr : Attr
  pub stands : old.spots (record { op = op; path = path }) ≡ Some object
  pub knows : KnowsAttr old op object attr
  pub shown : Adds old.shown new.shown (record { op = op; path = path }) attr
  pub others : new ≡ record old { shown = new.shown }

-- A listing begins with the cookie 0. Shown by name_ops (ListDir).
pub record BeginsList (old new : View) : Type 0 where
  pub op : ℕ
  pub path : Path
  pub d : Handle
  pub stands : old.spots (record { op = op; path = path }) ≡ Some d
  pub lists : Adds old.lists new.lists (record { op = op; path = path }) (record { dir = d; cookie = 0; names = []; since = op; ended = false })
  pub others : new ≡ record old { lists = new.lists }

-- It takes the page that was asked for from its cookie, after the page before it came; and goes on from the cookie of the page's last entry, unless the
-- directory ended. Shown by dir_list (page) and name_ops (ListDir).
pub record TakesPage (old new : View) : Type 0 where
  pub walk : Walk
  pub before : Listing
  pub was : old.lists walk ≡ Some before
  pub unended : before.ended ≡ false
  pub verf : Verf
  pub dircount : ℕ
  pub maxcount : ℕ
  pub attr : Option Attr
  pub check : Verf
  pub rows : List PlusRow
  pub eof : Bool
  pub came : Came old (calls.Dir (dirs.ReadDirPlus before.dir before.cookie verf dircount maxcount)) (answers.Dir (found.ReadDirPlus attr check rows eof))
  pub after : before.since < came.at
  pub cookie : ℕ
  pub last : eof ≡ false → LastCookie rows cookie
  pub lists : Adds old.lists new.lists walk
      (record { dir = before.dir; cookie = cookie; names = before.names ++ names_of rows; since = came.place; ended = eof })
  pub others : new ≡ record old { lists = new.lists }

pub data Move (m : Modes) (n : ℕ) (old new : View) : Type 0 where
  makes_call : Calling n old new → Move m n old new
  learns_attr : LearnsAttr m old new → Move m n old new
  learns_name : LearnsName old new → Move m n old new
  forgets : Forgets old new → Move m n old new
  looks_up : LooksUp old new → Move m n old new
  goes_by_name : GoesByName old new → Move m n old new
  finds_file : FindsFile old new → Move m n old new
  shows_object : ShowsObject old new → Move m n old new
  begins_list : BeginsList old new → Move m n old new
  takes_page : TakesPage old new → Move m n old new

-- ---- entries

-- An operation with a path stands at the root as it begins, if the clock was read before: client_core, nfs_client. Others begin to no effect.
pub record StartsWalk (origin : Origin) (t : History) (n : ℕ) (old new : View) : Type 0 where
  pub root : Handle
  pub time : ℕ
  pub rooted : Rooted origin t.entries n root
  pub timed : old.now ≡ Some time
  pub spots : Adds old.spots new.spots (record { op = n; path = [] }) root
  pub others : new ≡ record old { spots = new.spots }

abbrev pub Starts : Origin → History → ℕ → View → View → Type 0
Starts origin t n old new = (new ≡ old) ⊎ StartsWalk origin t n old new

-- The last record that came was the reply to this call. An answer that is ready is noted before the next record is received: nfs_client.
pub record LastCame (t : History) (n : ℕ) (c : View) (call : Call) (reply : Reply) : Type 0 where
  pub came : Came c call reply
  pub last : NoneCame t.entries came.place n

-- An open ends with the reply to the GETATTR of its file; or, if it goes by attributes that are kept, with that to the LOOKUP or CREATE that
-- gave it. Shown by file_ops (Opening).
pub data EndsOpen (f : Handle) (call : Call) (reply : Reply) : Type 0 where
  by_getattr : call ≡ calls.File (files.GetAttr f) → EndsOpen f call reply
  by_giving : (d : Handle) (name : Name) → GivesFile d name f call reply → EndsOpen f call reply

pub record AnswersOpen (t : History) (n : ℕ) (c : View) (op : ℕ) (path : Path) : Type 0 where
  pub f : Handle
  pub found : c.found (record { op = op; path = path }) ≡ Some f
  pub call : Call
  pub reply : Reply
  pub last : LastCame t n c call reply
  pub ends : EndsOpen f call reply

-- A put ends with the reply to a WRITE or COMMIT of its file. Shown by file_ops (PutFile).
pub record AnswersPut (t : History) (n : ℕ) (c : View) (op : ℕ) (path : Path) : Type 0 where
  pub f : Handle
  pub found : c.found (record { op = op; path = path }) ≡ Some f
  pub call : Call
  pub reply : Reply
  pub last : LastCame t n c call reply
  pub ends : NamesFile f call

-- A list ends with the last page of its directory: the names so far in byte order, each once. Shown by dir_list (finish) and name_ops (ListDir).
pub record AnswersList (t : History) (n : ℕ) (c : View) (op : ℕ) (path names : Path) : Type 0 where
  pub listing : Listing
  pub is : c.lists (record { op = op; path = path }) ≡ Some listing
  pub ended : listing.ended ≡ true
  pub cookie : ℕ
  pub verf : Verf
  pub dircount : ℕ
  pub maxcount : ℕ
  pub reply : Reply
  pub last : LastCame t n c (calls.Dir (dirs.ReadDirPlus listing.dir cookie verf dircount maxcount)) reply
  pub ordered : IsStrictlySortedBy (slice_cmp nat_cmp) names
  pub same : (name : Name) → Contains names name ↔ Contains listing.names name

-- An answer is that to which its operation came: client_core, nfs_client.
pub record Answers (t : History) (n lane : ℕ) (answer : Answer) (old new : View) : Type 0 where
  pub same : new ≡ old
  pub opened : (op slot : ℕ) (mode : Mode) (path : Path) (value : Value) → answer ≡ Done value
      → Ended t.entries lane op (ops.OpenFile slot mode path) n answer → AnswersOpen t n old op path
  pub put : (op offset : ℕ) (path : Path) (bytes : List ℕ) (value : Value) → answer ≡ Done value
      → Ended t.entries lane op (ops.Put path offset bytes) n answer → AnswersPut t n old op path
  pub shown : (op : ℕ) (path : Path) (attr : Attr) → answer ≡ Done (Attrs attr) → Ended t.entries lane op (ops.Stat path) n answer
      → old.shown (record { op = op; path = path }) ≡ Some attr
  pub listed : (op : ℕ) (path names : Path) → answer ≡ Done (Names names) → Ended t.entries lane op (ops.List path) n answer
      → AnswersList t n old op path names

-- The clock is read, and the client's time is its greatest reading so far: client_core.
pub record ReadsClock (ms : ℕ) (old new : View) : Type 0 where
  pub time : ℕ
  pub now : new.now ≡ Some time
  pub one : (time ≡ ms) ⊎ (old.now ≡ Some time)
  pub least : ms ≤ time
  pub later : (before : ℕ) → old.now ≡ Some before → before ≤ time
  pub others : new ≡ record old { now = new.now }

-- a step of the calls alone
pub record OfCalls (n : ℕ) (old : View) (e : Entry) (new : View) : Type 0 where
  pub goes : EntersCalls n old.calls e new.calls
  pub others : new ≡ record old { calls = new.calls }

-- What an entry does to the client; those of the server, and failures, do nothing.
abbrev pub Enters : Modes → Origin → History → ℕ → View → Entry → View → Type 0
Enters m origin t n old (entries.Began lane line op) new = Starts origin t n old new
Enters m origin t n old (entries.Answered lane line answer) new = Answers t n lane answer old new
Enters m origin t n old (entries.Sent bytes) new = OfCalls n old (entries.Sent bytes) new
Enters m origin t n old (entries.Delivered bytes) new = OfCalls n old (entries.Delivered bytes) new
Enters m origin t n old (entries.Clock ms) new = ReadsClock ms old new
Enters m origin t n old entry new = new ≡ old
