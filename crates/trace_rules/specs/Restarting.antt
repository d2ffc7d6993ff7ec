-- The tests that decide whether an entry is a restart of the server.
use Rattle.std.specs.Prelude.{◌==◌, ◌&&◌, ◌||◌, not, ℕ, suc, Bool, true, false, List, length, Option, Some, None, slice_get}
use Rattle.std.specs.Str.{bytes_eq}
use Rattle.nfs_types.specs.declared.verf.Verf.{Verf}
use Rattle.trace_data.specs.declared.trace.Contents.{Contents}
use Rattle.trace_data.specs.declared.trace.Contents.TheVariants.{File, Directory, Other}
use Rattle.trace_data.specs.declared.trace.Object.{Object}
use Rattle.trace_data.specs.declared.trace.Updated.{Updated}
use Rattle.trace_data.specs.declared.trace.Update.{Update}
use Rattle.trace_rules.specs.Decided.{all_below}
use Rattle.trace_data.specs.Histories.{named, objects_after, object_at, verf_at}
use Rattle.trace_rules.specs.Freshness.{if_named}
use Rattle.trace_rules.specs.Keeping.{same_bool, is_file, same_object}

-- ---- the write verifier

abbrev pub same_verf : Verf → Verf → Bool
same_verf a b = bytes_eq a.0 b.0

-- no moment before n has the verifier
unfoldable pub new_verf : Verf → List Update → ℕ → Verf → Bool
new_verf start us n verf = all_below (λ m. not (same_verf (verf_at start us m) verf)) n

-- ---- what is left of each object

-- a file that loses bytes holds its stable ones
abbrev pub loses : Contents → Contents → Bool
loses (File now stable) new = not (bytes_eq now stable) && is_file stable stable new
loses (Directory entries) new = false
loses (Other text) new = false

unfoldable pub is_lost : Object → Object → Bool
is_lost old new = loses old.contents new.contents && same_bool new.gone old.gone && (new.attr.kind == old.attr.kind) && (new.attr.fileid == old.attr.fileid)

abbrev pub is_left : Option Object → Option Object → Bool
is_left old None = true
is_left None (Some new) = false
is_left (Some old) (Some new) = same_object old new || is_lost old new

-- what entry n leaves of the object under the handle, if its update names that
unfoldable pub left_under : List Updated → List Update → ℕ → List ℕ → Bool
left_under start us n f = is_left (object_at start us n f) (named (objects_after us n) f)

unfoldable pub left_at : List Updated → List Update → ℕ → List Updated → ℕ → Bool
left_at start us n objects k = if_named (λ f. left_under start us n f) (slice_get objects k)

unfoldable pub left_all : List Updated → List Update → ℕ → Bool
left_all start us n = all_below (λ k. left_at start us n (objects_after us n) k) (length (objects_after us n))

-- ---- files whose bytes are all stable

abbrev pub is_steady : Contents → Bool
is_steady (File now stable) = bytes_eq now stable
is_steady (Directory entries) = true
is_steady (Other text) = true

abbrev pub if_steady : Option Object → Bool
if_steady None = true
if_steady (Some o) = is_steady o.contents

-- the object at moment m
unfoldable pub steady_under : List Updated → List Update → ℕ → List ℕ → Bool
steady_under start us m f = if_steady (object_at start us m f)

-- an object that an update names, or else the one that is under its handle at moment m
abbrev pub steady_of : List Updated → List Update → ℕ → Option Updated → Bool
steady_of start us m None = true
steady_of start us m (Some u) = is_steady u.object.contents || steady_under start us m u.handle

unfoldable pub steady_at : List Updated → List Update → ℕ → List Updated → ℕ → Bool
steady_at start us m objects k = steady_of start us m (slice_get objects k)

unfoldable pub steady_all : List Updated → List Update → ℕ → List Updated → Bool
steady_all start us m objects = all_below (λ k. steady_at start us m objects k) (length objects)

unfoldable pub steady_updates : List Updated → List Update → ℕ → Bool
steady_updates start us m = all_below (λ j. steady_all start us m (objects_after us j)) m

-- each object at moment m
unfoldable pub steady : List Updated → List Update → ℕ → Bool
steady start us m = steady_all start us m start && steady_updates start us m

-- ---- a restart

unfoldable pub restarts : Verf → List Updated → List Update → ℕ → Verf → Bool
restarts first start us n verf =
    same_verf (verf_at first us (suc n)) verf && new_verf first us (suc n) verf && left_all start us n && steady start us (suc n)
