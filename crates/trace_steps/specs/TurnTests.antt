-- The tests on one object before and after an entry.
use Rattle.std.specs.Prelude.{◌==◌, ◌+◌, ◌&&◌, ◌||◌, nat_le, not, ℕ, suc, Bool, true, false, List, length, take, Option, Some, None, if◌then◌else◌}
use Rattle.std.specs.Str.{bytes_eq}
use Rattle.nfs_types.specs.declared.attr.Attr.{Attr}
use Rattle.nfs_types.specs.declared.wcc.Stamp.{Stamp}
use Rattle.nfs_types.specs.declared.wcc.Wcc.{Wcc}
use Rattle.nfs_types.specs.Stamps.{stamp_of, same_stamp}
use Rattle.world_model.specs.Bytes.{committed_part}
use Rattle.trace_data.specs.declared.trace.Contents.{Contents}
use Rattle.trace_data.specs.declared.trace.Contents.TheVariants.{File, Directory, Other}
use Rattle.trace_data.specs.declared.trace.Object.{Object}
use Rattle.trace_data.specs.declared.trace.Trace.{Trace}
use Rattle.trace_rules.specs.Decided.{any_below}
use Rattle.trace_rules.specs.Keeping.{same_attr, same_bool, is_file, same_contents}
use Rattle.trace_steps.specs.RangeTests.{is_put, is_resized, is_part}
use Rattle.trace_steps.specs.MomentTests.{before, after, is_one, only}

-- ---- an object that is there before and after

-- the object was there; its kind, its number and its names stay
unfoldable pub stays : Object → Object → Bool
stays a b = not a.gone && same_bool b.gone a.gone && (b.attr.kind == a.attr.kind) && (b.attr.fileid == a.attr.fileid)

abbrev pub stays_with : (Contents → Contents → Bool) → Option Object → Option Object → Bool
stays_with test None y = false
stays_with test (Some a) None = false
stays_with test (Some a) (Some b) = stays a b && test a.contents b.contents

-- the object under the handle stays, and what it holds before and after passes the test
unfoldable pub turns : (Contents → Contents → Bool) → Trace → ℕ → List ℕ → Bool
turns test t n f = stays_with test (before t n f) (after t n f)

unfoldable pub reads : Trace → ℕ → List ℕ → Bool
reads t n f = turns same_contents t n f

unfoldable pub looks : Trace → ℕ → List ℕ → Bool
looks t n f = reads t n f && only (is_one f f f) t n

-- ---- what a file holds afterwards

-- its size was set, if there is one to set
abbrev pub is_cut : ℕ → Contents → Contents → Bool
is_cut size (File now stable) (File later steady) = is_resized size now later && is_resized size stable steady
is_cut size (File now stable) (Directory entries) = false
is_cut size (File now stable) (Other text) = false
is_cut size (Directory entries) new = false
is_cut size (Other text) new = false

abbrev pub is_sized : Option ℕ → Contents → Contents → Bool
is_sized None old new = same_contents old new
is_sized (Some size) old new = is_cut size old new

-- these bytes were read from it
abbrev pub shows_part : ℕ → ℕ → Bool → List ℕ → List ℕ → Bool
shows_part offset counted eof bytes now = is_part offset counted now bytes && (not eof || nat_le (length now) (offset + counted))

abbrev pub is_read : ℕ → ℕ → Bool → List ℕ → Contents → Contents → Bool
is_read offset counted eof bytes (File now stable) new = is_file now stable new && shows_part offset counted eof bytes now
is_read offset counted eof bytes (Directory entries) new = false
is_read offset counted eof bytes (Other text) new = false

-- what is stable after a WRITE
unfoldable pub is_steady_after : ℕ → ℕ → List ℕ → List ℕ → List ℕ → Bool
is_steady_after committed offset bytes stable steady = if committed == 0 then bytes_eq steady stable else is_put offset bytes stable steady

abbrev pub is_written : ℕ → ℕ → List ℕ → Contents → Contents → Bool
is_written committed offset bytes (File now stable) (File later steady) = is_put offset bytes now later && is_steady_after committed offset bytes stable steady
is_written committed offset bytes (File now stable) (Directory entries) = false
is_written committed offset bytes (File now stable) (Other text) = false
is_written committed offset bytes (Directory entries) new = false
is_written committed offset bytes (Other text) new = false

-- a range of it became stable
abbrev pub is_committed : ℕ → ℕ → Contents → Contents → Bool
is_committed offset count (File now stable) (File later steady) = bytes_eq later now && is_put offset (committed_part offset count now) stable steady
is_committed offset count (File now stable) (Directory entries) = false
is_committed offset count (File now stable) (Other text) = false
is_committed offset count (Directory entries) new = false
is_committed offset count (Other text) new = false

-- the first bytes of a WRITE, so many of them, were put into it, and perhaps became stable
unfoldable pub is_begun : ℕ → List ℕ → List ℕ → List ℕ → List ℕ → List ℕ → ℕ → Bool
is_begun offset bytes now stable later steady count =
    is_put offset (take count bytes) now later && (bytes_eq steady stable || is_put offset (take count bytes) stable steady)

unfoldable pub is_broken : ℕ → List ℕ → List ℕ → List ℕ → List ℕ → List ℕ → Bool
is_broken offset bytes now stable later steady = any_below (λ count. is_begun offset bytes now stable later steady count) (suc (length bytes))

abbrev pub is_broken_off : ℕ → List ℕ → Contents → Contents → Bool
is_broken_off offset bytes (File now stable) (File later steady) = is_broken offset bytes now stable later steady
is_broken_off offset bytes (File now stable) (Directory entries) = false
is_broken_off offset bytes (File now stable) (Other text) = false
is_broken_off offset bytes (Directory entries) new = false
is_broken_off offset bytes (Other text) new = false

-- ---- what replies show

abbrev pub has_attr : Option Object → Option Attr → Bool
has_attr o None = true
has_attr None (Some attr) = false
has_attr (Some o) (Some attr) = same_attr o.attr attr

abbrev pub has_stamp : Option Object → Option Stamp → Bool
has_stamp o None = true
has_stamp None (Some stamp) = false
has_stamp (Some o) (Some stamp) = same_stamp (stamp_of o.attr) stamp

-- attributes, if a reply has them, are those of the object afterwards
unfoldable pub shows_attr : Trace → ℕ → List ℕ → Option Attr → Bool
shows_attr t n f attr = has_attr (after t n f) attr

-- the same of the object before
unfoldable pub showed_attr : Trace → ℕ → List ℕ → Option Attr → Bool
showed_attr t n f attr = has_attr (before t n f) attr

unfoldable pub showed_stamp : Trace → ℕ → List ℕ → Option Stamp → Bool
showed_stamp t n f stamp = has_stamp (before t n f) stamp

unfoldable pub shows_wcc : Trace → ℕ → List ℕ → Wcc → Bool
shows_wcc t n f wcc = showed_stamp t n f wcc.before && shows_attr t n f wcc.after

-- both parts of what is said are true of the object before
unfoldable pub showed_wcc : Trace → ℕ → List ℕ → Wcc → Bool
showed_wcc t n f wcc = showed_stamp t n f wcc.before && showed_attr t n f wcc.after
