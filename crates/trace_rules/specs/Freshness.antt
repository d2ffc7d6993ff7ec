-- The tests that decide whether each change of an object gives it a stamp that it never had.
use Rattle.std.specs.Prelude.{◌==◌, ◌&&◌, ◌||◌, not, ℕ, Bool, true, false, List, length, Option, Some, None, slice_get}
use Rattle.std.specs.Cmp.Lexicographic.{pointwise}
use Rattle.std.specs.Str.{bytes_eq}
use Rattle.nfs_types.specs.declared.wcc.Stamp.{Stamp}
use Rattle.nfs_types.specs.Stamps.{stamp_of, same_stamp}
use Rattle.trace_data.specs.declared.trace.DirEntry.{DirEntry}
use Rattle.trace_data.specs.declared.trace.Contents.{Contents}
use Rattle.trace_data.specs.declared.trace.Contents.TheVariants.{File, Directory, Other}
use Rattle.trace_data.specs.declared.trace.Object.{Object}
use Rattle.trace_data.specs.declared.trace.Updated.{Updated}
use Rattle.trace_data.specs.declared.trace.Update.{Update}
use Rattle.trace_rules.specs.Decided.{all_below, any_below}
use Rattle.trace_data.specs.Histories.{named, objects_after, object_at}

-- ---- what asks for another stamp

abbrev pub same_entry : DirEntry → DirEntry → Bool
same_entry a b = bytes_eq a.name b.name && bytes_eq a.object b.object && (a.cookie == b.cookie)

unfoldable pub same_entries : List DirEntry → List DirEntry → Bool
same_entries a b = pointwise same_entry a b

abbrev pub other_bytes : List ℕ → Contents → Bool
other_bytes now (File later stable) = not (bytes_eq now later)
other_bytes now (Directory entries) = false
other_bytes now (Other text) = false

abbrev pub other_list : List DirEntry → Contents → Bool
other_list before (File now stable) = false
other_list before (Directory entries) = not (same_entries before entries.items)
other_list before (Other text) = false

-- a file has other bytes, or a directory another list
abbrev pub other_contents : Contents → Contents → Bool
other_contents (File now stable) new = other_bytes now new
other_contents (Directory entries) new = other_list entries.items new
other_contents (Other text) new = false

-- a file or a directory
abbrev pub is_stamped : Contents → Bool
is_stamped (File now stable) = true
is_stamped (Directory entries) = true
is_stamped (Other text) = false

unfoldable pub differs : Object → Object → Bool
differs old new = other_contents old.contents new.contents || (is_stamped old.contents && not (same_stamp (stamp_of old.attr) (stamp_of new.attr)))

-- ---- which stamps an object had

abbrev pub has_stamp : Stamp → Option Object → Bool
has_stamp s None = false
has_stamp s (Some o) = same_stamp (stamp_of o.attr) s

-- an update names the object under the handle with that stamp
unfoldable pub gave_stamp : List Updated → List ℕ → Stamp → Bool
gave_stamp us f s = has_stamp s (named us f)

-- the object had the stamp at some moment up to n
unfoldable pub had_stamp : List Updated → List Update → ℕ → List ℕ → Stamp → Bool
had_stamp start us n f s = gave_stamp start f s || any_below (λ j. gave_stamp (objects_after us j) f s) n

-- ---- what each entry does

abbrev pub is_new : List Updated → List Update → ℕ → List ℕ → Option Object → Option Object → Bool
is_new start us n f None new = true
is_new start us n f (Some old) None = true
is_new start us n f (Some old) (Some new) = not (differs old new) || not (had_stamp start us n f (stamp_of new.attr))

-- if entry n changes the object under the handle, which its update names, then this gets a stamp that it never had
unfoldable pub renews : List Updated → List Update → ℕ → List ℕ → Bool
renews start us n f = is_new start us n f (object_at start us n f) (named (objects_after us n) f)

abbrev pub if_named : (List ℕ → Bool) → Option Updated → Bool
if_named test None = true
if_named test (Some u) = test u.handle

unfoldable pub renews_at : List Updated → List Update → ℕ → List Updated → ℕ → Bool
renews_at start us n objects k = if_named (λ f. renews start us n f) (slice_get objects k)

-- each object that the update of entry n names
unfoldable pub renews_all : List Updated → List Update → ℕ → Bool
renews_all start us n = all_below (λ k. renews_at start us n (objects_after us n) k) (length (objects_after us n))

unfoldable pub fresh : List Updated → List Update → ℕ → Bool
fresh start us count = all_below (λ n. renews_all start us n) count
