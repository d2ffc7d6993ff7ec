-- What the lines of a trace say together: how the session was asked for, and a history with the server at each moment.
use Rattle.std.specs.Prelude.{◌≡◌, ◌≤◌, ℕ, List, [], ◌∷◌, ◌++◌, length, Bool, true, false, nat_lt, Option, Some, None, Result, Ok, Err, unwrap_or, if◌then◌else◌}
use Rattle.std.specs.Option.{option_map}
use Rattle.world_model.specs.declared.entry.Entry.{Entry}
use Rattle.world_model.specs.History.{History, no_server}
use Rattle.world_model.specs.Server.{Object, Server}
use Rattle.trace_data.specs.declared.trace.Update.{Update}
use Rattle.trace_data.specs.declared.trace.Trace.{Trace}
use Rattle.trace_data.specs.Histories.{object_of, object_at, verf_at, history_of}
use Rattle.trace_text.specs.declared.fault.LineFault.{LineFault}
use Rattle.trace_text.specs.Words.{Fails}

-- what was told so far; some line was, if it is begun
pub record Told : Type 0 where
  pub begun : Bool
  pub root : Option (List ℕ)
  pub lives : Option ℕ
  pub noac : Bool
  pub nocto : Bool
  pub history : History

-- no line: no entries, and a server without objects whose verifier is eight zero bytes
abbrev pub nothing_told : Told
nothing_told = record { begun = false; root = None; lives = None; noac = false; nocto = false; history = record { entries = []; at = λ n. no_server } }

-- ---- changes

abbrev pub begun : Told → Told
begun told = record told { begun = true }

abbrev pub with_root : List ℕ → Told → Told
with_root root told = record told { root = Some root }

abbrev pub with_lives : ℕ → Told → Told
with_lives lives told = record told { lives = Some lives }

abbrev pub with_noac : Told → Told
with_noac told = record told { noac = true }

abbrev pub with_nocto : Told → Told
with_nocto told = record told { nocto = true }

-- the object under a handle after the entries so far
abbrev pub object_now : Told → List ℕ → Option Object
object_now told handle = (told.history.at (length told.history.entries)).object handle

-- the server is another from the last entry on
abbrev pub changed : (Server → Server) → Told → Told
changed change told = record told {
  history = record {
    entries = told.history.entries;
    at = λ n. if nat_lt n (length told.history.entries) then told.history.at n else change (told.history.at n);
  };
}

-- one entry more, which leaves the server as it is
abbrev pub added : Entry → Told → Told
added entry told = record told { history = record { entries = told.history.entries ++ entry ∷ []; at = told.history.at } }

-- the same, if there are fewer than 4,096
abbrev pub entered : Entry → Told → Option Told
entered entry told = if nat_lt (length told.history.entries) 4096 then Some (added entry told) else None

-- ---- the data that say it

-- the lines so far, as data
pub record Lines : Type 0 where
  pub begun : Bool
  pub root : Option (List ℕ)
  pub lives : Option ℕ
  pub noac : Bool
  pub nocto : Bool
  pub start : Update
  pub entries : List Entry
  pub updates : List Update

-- each of them has an update, and there are 4,096 at most
pub record IsPaired (entries : List Entry) (updates : List Update) : Type 0 where
  pub same : length updates ≡ length entries
  pub few : length entries ≤ 4096

abbrev pub server_by : Update → List Update → ℕ → Server
server_by start updates n = record { verf = verf_at start.verf updates n; object = λ h. option_map object_of (object_at start.objects.items updates n h) }

abbrev pub told_by : Lines → Told
told_by lines = record {
  begun = lines.begun;
  root = lines.root;
  lives = lines.lives;
  noac = lines.noac;
  nocto = lines.nocto;
  history = record { entries = lines.entries; at = server_by lines.start lines.updates };
}

-- a trace says what was told; if no line says the greatest lifetime it is 60,000 milliseconds
pub record Says (trace : Trace) (told : Told) : Type 0 where
  pub root : trace.root ≡ told.root
  pub lives : trace.lives ≡ unwrap_or told.lives 60000
  pub noac : trace.noac ≡ told.noac
  pub nocto : trace.nocto ≡ told.nocto
  pub history : history_of trace ≡ told.history

-- what came of a line, and what is told then
abbrev pub Takes : Result Unit LineFault → Told → Option Told → Type 0
Takes (Ok nothing) new said = said ≡ Some new
Takes (Err fault) new said = Fails fault said
