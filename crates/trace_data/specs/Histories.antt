-- The history that a trace tells: its entries, and the server at each moment, which what was updated so far makes.
use Rattle.std.specs.Prelude.{ℕ, zero, suc, List, [], ◌∷◌, map, Option, Some, None, slice_get, if◌then◌else◌}
use Rattle.std.specs.Option.{option_map}
use Rattle.std.specs.Str.{bytes_eq}
use Rattle.nfs_types.specs.declared.verf.Verf.{Verf}
use Rattle.world_model.specs.Server as model
use Rattle.world_model.specs.History.{History}
use Rattle.trace_data.specs.declared.trace.DirEntry.{DirEntry}
use Rattle.trace_data.specs.declared.trace.Contents.{Contents}
use Rattle.trace_data.specs.declared.trace.Contents.TheVariants.{File, Directory, Other}
use Rattle.trace_data.specs.declared.trace.Object.{Object}
use Rattle.trace_data.specs.declared.trace.Updated.{Updated}
use Rattle.trace_data.specs.declared.trace.Update.{Update}
use Rattle.trace_data.specs.declared.trace.Trace.{Trace}

-- ---- objects

abbrev pub listed_of : DirEntry → model.Listed
listed_of e = record { name = e.name; object = e.object; cookie = e.cookie }

abbrev pub holds_of : Contents → model.Holds
holds_of (File now stable) = model.Bytes now stable
holds_of (Directory entries) = model.Entries (map listed_of entries.items)
holds_of (Other text) = model.Text text

abbrev pub object_of : Object → model.Object
object_of o = record { attr = o.attr; gone = o.gone; holds = holds_of o.contents }

-- ---- updates

-- the object that is named under the handle; of two the first
abbrev pub named : List Updated → List ℕ → Option Object
named [] h = None
named (u ∷ us) h = if bytes_eq u.handle h then Some u.object else named us h

abbrev pub objects_of : Option Update → List Updated
objects_of None = []
objects_of (Some u) = u.objects.items

-- the objects that the update of entry n names
unfoldable pub objects_after : List Update → ℕ → List Updated
objects_after us n = objects_of (slice_get us n)

-- what is named now, or else what was
abbrev pub or_else : Option Object → Option Object → Option Object
or_else None was = was
or_else (Some o) was = Some o

-- the object under the handle after the first n updates
abbrev pub object_at : List Updated → List Update → ℕ → List ℕ → Option Object
object_at start us zero h = named start h
object_at start us (suc n) h = or_else (named (objects_after us n) h) (object_at start us n h)

abbrev pub verf_or : Option Update → Verf → Verf
verf_or None was = was
verf_or (Some u) was = u.verf

-- the write verifier after the first n updates
abbrev pub verf_at : Verf → List Update → ℕ → Verf
verf_at start us zero = start
verf_at start us (suc n) = verf_or (slice_get us n) (verf_at start us n)

-- ---- the history

abbrev pub server_at : Trace → ℕ → model.Server
server_at t n = record {
  verf = verf_at t.start.verf t.updates.items n;
  object = λ h. option_map object_of (object_at t.start.objects.items t.updates.items n h);
}

abbrev pub history_of : Trace → History
history_of t = record { entries = t.entries.items; at = server_at t }
