-- The trace of a simulated world: the entries that it tells, and the server at each of its moments.
use Rattle.std.specs.Prelude.{◌≡◌, ◌<◌, ℕ, suc, Bool, List, length, map, take, Option, Some, slice_get}
use Rattle.nfs_types.specs.declared.verf.Verf.{Verf}
use Rattle.world_model.specs.declared.entry.Entry.{Entry}
use Rattle.world_model.specs.History.{History}
use Rattle.world_model.specs.Server as model
use Rattle.world_model.specs.Steps.{Same}
use Rattle.export_fs.specs.View.{View}
use Rattle.export_fs.specs.Parts.{verifier}
use Rattle.export_fs.specs.Seen.{server_of}
use Rattle.trace_data.specs.declared.trace.Object.{Object}
use Rattle.trace_data.specs.declared.trace.Update.{Update}
use Rattle.trace_data.specs.declared.trace.Trace.{Trace}
use Rattle.trace_data.specs.Histories.{history_of, named}
use Rattle.world_link.specs.declared.directive.PartialWrite.{PartialWrite}
use Rattle.world_link.specs.declared.log.WorldLog.{WorldLog}
use Rattle.world_link.specs.Replay.{part_at, replayed, told_of}
use Rattle.world_link.specs.View.{entry_in}
use Rattle.world_trace.specs.Mirrored.{Mirrors, named_or}

-- what the log of a world tells: its entries, and the server at each moment, worked out from the start
abbrev pub told_by : WorldLog → History
told_by log = told_of (part_at log.partials.items) log.start (map entry_in log.told.items)

-- The trace tells this history: the same entries, and the same server at each moment.
pub record IsTraceOf (h : History) (trace : Trace) : Type 0 where
  pub entries : (history_of trace).entries ≡ h.entries
  pub moments : (n : ℕ) → Same (h.at n) ((history_of trace).at n)

-- what the trace says of the client
pub record SaysOfClient (root : Option (List ℕ)) (lives : ℕ) (noac nocto : Bool) (trace : Trace) : Type 0 where
  pub root_is : trace.root ≡ root
  pub lives_is : trace.lives ≡ lives
  pub noac_is : trace.noac ≡ noac
  pub nocto_is : trace.nocto ≡ nocto

-- ---- one update

-- with what an update names, one server is the other
pub record Tells (s t : model.Server) (update : Update) : Type 0 where
  pub verf : update.verf ≡ t.verf
  pub objects : (h : List ℕ) → named_or (named update.objects.items h) (s.object h) ≡ t.object h

-- The export is the wanted one, its objects are shown, and the update tells what changed.
pub record Leads (old wanted new : View) (shown : List Object) (update : Update) : Type 0 where
  pub is : new ≡ wanted
  pub shows : Mirrors new.nodes shown
  pub tells : Tells (server_of old) (server_of new) update

-- ---- all updates

-- the export at a moment
abbrev pub view_at : (ℕ → Option PartialWrite) → View → List Entry → ℕ → View
view_at parts start entries n = replayed parts start (take n entries)

-- so many updates tell what the first entries change
pub record Follows (parts : ℕ → Option PartialWrite) (start : View) (entries : List Entry) (updates : List Update) (count : ℕ) : Type 0 where
  pub many : length updates ≡ count
  pub tells : (n : ℕ) (update : Update) → slice_get updates n ≡ Some update
      → Tells (server_of (view_at parts start entries n)) (server_of (view_at parts start entries (suc n))) update
