-- The tests that decide whether an entry serves a call by which names leave or move.
use Rattle.std.specs.Prelude.{◌==◌, ◌&&◌, ◌||◌, not, ℕ, Bool, true, false, List, [], ◌∷◌, length, Option, Some, None, slice_get, if◌then◌else◌}
use Rattle.std.specs.Str.{bytes_eq}
use Rattle.nfs_types.specs.declared.status.Status.{Status}
use Rattle.nfs_types.specs.declared.wcc.Wcc.{Wcc}
use Rattle.trace_data.specs.declared.trace.Contents.{Contents}
use Rattle.trace_data.specs.declared.trace.Contents.TheVariants.{File, Directory, Other}
use Rattle.trace_data.specs.declared.trace.DirEntry.{DirEntry}
use Rattle.trace_data.specs.declared.trace.Object.{Object}
use Rattle.trace_data.specs.declared.trace.Updated.{Updated}
use Rattle.trace_data.specs.declared.trace.Trace.{Trace}
use Rattle.trace_data.specs.Histories.{objects_after}
use Rattle.trace_rules.specs.Decided.{any_below}
use Rattle.trace_rules.specs.Freshness.{same_entries}
use Rattle.trace_rules.specs.Keeping.{same_bool, same_contents}
use Rattle.trace_steps.specs.MomentTests.{before, after, is_one, only}
use Rattle.trace_steps.specs.TurnTests.{turns, reads, shows_wcc, showed_wcc}
use Rattle.trace_steps.specs.ListTests.{is_entry, has_entry, lacks, names_it, without, is_without, all_in}
use Rattle.trace_steps.specs.FileTests.{refuses}
use Rattle.trace_steps.specs.NameTests.{entries_of, list_of, list_there, in_list, if_row, lists_with, had_name}

-- ---- an object that lost a name

-- an update's object names it, and so does what stands under that handle after the entry
unfoldable pub names_by : Trace → ℕ → List ℕ → Updated → Bool
names_by t n h u = in_list (λ es. names_it h es) (entries_of u.object.contents) && in_list (λ es. names_it h es) (list_of (after t n u.handle))

unfoldable pub names_among : Trace → ℕ → List ℕ → List Updated → Bool
names_among t n h [] = false
names_among t n h (u ∷ us) = names_by t n h u || names_among t n h us

-- a directory has a name for the object after the entry, other than `.` and `..`
unfoldable pub is_named : Trace → ℕ → List ℕ → Bool
is_named t n h =
    names_among t n h t.start.objects.items || names_among t n h (objects_after t.updates.items n)
    || any_below (λ j. names_among t n h (objects_after t.updates.items j)) n

-- it is gone if it has no name left, else as it was
abbrev pub is_gone_so : Bool → Bool → Bool → Bool
is_gone_so named was is = if named then same_bool is was else is

unfoldable pub loses_so : Trace → ℕ → List ℕ → Object → Object → Bool
loses_so t n h a b =
    same_contents a.contents b.contents && (b.attr.kind == a.attr.kind) && (b.attr.fileid == a.attr.fileid) && is_gone_so (is_named t n h) a.gone b.gone

abbrev pub loses_by : (Object → Object → Bool) → Option Object → Option Object → Bool
loses_by test None new = false
loses_by test (Some old) None = false
loses_by test (Some old) (Some new) = test old new

unfoldable pub loses : Trace → ℕ → List ℕ → Bool
loses t n h = loses_by (λ a b. loses_so t n h a b) (before t n h) (after t n h)

-- ---- REMOVE and RMDIR

unfoldable pub removes_row : Trace → ℕ → List ℕ → List ℕ → List DirEntry → List DirEntry → ℕ → DirEntry → Bool
removes_row t n d name old new k row = bytes_eq row.name name && is_without k old new && loses t n row.object && only (is_one d row.object row.object) t n

unfoldable pub removes_at : Trace → ℕ → List ℕ → List ℕ → List DirEntry → List DirEntry → ℕ → Bool
removes_at t n d name old new k = if_row (λ row. removes_row t n d name old new k row) (slice_get old k)

unfoldable pub removes_among : Trace → ℕ → List ℕ → List ℕ → List DirEntry → List DirEntry → Bool
removes_among t n d name old new = any_below (λ k. removes_at t n d name old new k) (length old)

unfoldable pub removes : Trace → ℕ → List ℕ → List ℕ → Wcc → Bool
removes t n d name wcc = turns (lists_with (λ old new. removes_among t n d name old new)) t n d && shows_wcc t n d wcc

-- ---- RENAME

-- the list without the entry at the place, which has the name
unfoldable pub clears_at : List ℕ → List DirEntry → List DirEntry → ℕ → Bool
clears_at name old new k = if_row (λ row. bytes_eq row.name name && is_without k old new) (slice_get old k)

-- the list without the name, if it has it
unfoldable pub clears : List ℕ → List DirEntry → List DirEntry → Bool
clears name old new = (lacks name old && same_entries new old) || any_below (λ k. clears_at name old new k) (length old)

-- the name enters for the object at the place, and what had it before leaves
unfoldable pub replaces_row : List ℕ → List ℕ → List DirEntry → List DirEntry → ℕ → DirEntry → Bool
replaces_row name h old new k row = is_entry name h row && lacks name (without k new) && clears name old (without k new)

unfoldable pub replaces_at : List ℕ → List ℕ → List DirEntry → List DirEntry → ℕ → Bool
replaces_at name h old new k = if_row (λ row. replaces_row name h old new k row) (slice_get new k)

unfoldable pub replaces : List ℕ → List ℕ → List DirEntry → List DirEntry → Bool
replaces name h old new = any_below (λ k. replaces_at name h old new k) (length new)

-- the lists of the two directories, from the first of which the entry at the place j leaves
unfoldable pub moves : Trace → ℕ → List ℕ → List ℕ → List ℕ → ℕ → List ℕ → Bool
moves t n d e to j h =
    if bytes_eq d e then turns (lists_with (λ old new. replaces to h (without j old) new)) t n d else
    (turns (lists_with (λ old new. is_without j old new)) t n d && turns (lists_with (λ old new. replaces to h old new)) t n e)

-- the object that moves holds what it held, or is a directory with another `..`
abbrev pub is_moved : Contents → Contents → Bool
is_moved (File now stable) new = same_contents (File now stable) new
is_moved (Directory old) (File now stable) = false
is_moved (Directory old) (Directory new) = all_in old.items new.items && all_in new.items old.items
is_moved (Directory old) (Other text) = false
is_moved (Other text) new = same_contents (Other text) new

-- each object that had the new name lost it, but the one that moves
unfoldable pub replaced : Trace → ℕ → List ℕ → List ℕ → List DirEntry → Bool
replaced t n to h [] = true
replaced t n to h (e ∷ es) = (not (bytes_eq e.name to) || bytes_eq e.object h || loses t n e.object) && replaced t n to h es

-- the two directories, the object, and what had the new name
abbrev pub is_touched : List ℕ → List ℕ → List ℕ → List ℕ → List DirEntry → List ℕ → Bool
is_touched d e h to target f = is_one d e h f || has_entry to f target

unfoldable pub renames_row : Trace → ℕ → List ℕ → List ℕ → List ℕ → List ℕ → List DirEntry → ℕ → DirEntry → Bool
renames_row t n d from e to target j row =
    bytes_eq row.name from && moves t n d e to j row.object && turns is_moved t n row.object && replaced t n to row.object target
    && only (is_touched d e row.object to target) t n

unfoldable pub renames_at : Trace → ℕ → List ℕ → List ℕ → List ℕ → List ℕ → List DirEntry → List DirEntry → ℕ → Bool
renames_at t n d from e to target source j = if_row (λ row. renames_row t n d from e to target j row) (slice_get source j)

unfoldable pub renames_among : Trace → ℕ → List ℕ → List ℕ → List ℕ → List ℕ → List DirEntry → List DirEntry → Bool
renames_among t n d from e to target source = any_below (λ j. renames_at t n d from e to target source j) (length source)

unfoldable pub moves_name : Trace → ℕ → List ℕ → List ℕ → List ℕ → List ℕ → Bool
moves_name t n d from e to =
    in_list (λ target. in_list (λ source. renames_among t n d from e to target source) (list_there (before t n d))) (list_there (before t n e))

-- both names are of one object, and nothing changes
unfoldable pub keeps_row : Trace → ℕ → List ℕ → List ℕ → List ℕ → List ℕ → DirEntry → Bool
keeps_row t n d from e to row = bytes_eq row.name from && had_name t n e to row.object && reads t n row.object && only (is_one d e row.object) t n

unfoldable pub keeps_one : Trace → ℕ → List ℕ → List ℕ → List ℕ → List ℕ → List DirEntry → Bool
keeps_one t n d from e to [] = false
keeps_one t n d from e to (row ∷ rows) = keeps_row t n d from e to row || keeps_one t n d from e to rows

unfoldable pub keeps_names : Trace → ℕ → List ℕ → List ℕ → List ℕ → List ℕ → Bool
keeps_names t n d from e to = in_list (λ rows. keeps_one t n d from e to rows) (list_there (before t n d)) && reads t n d && reads t n e

unfoldable pub renames : Trace → ℕ → List ℕ → List ℕ → List ℕ → List ℕ → Wcc → Wcc → Bool
renames t n d from e to source target =
    (moves_name t n d from e to || keeps_names t n d from e to) && shows_wcc t n d source && shows_wcc t n e target

-- a RENAME that is refused: of the second directory it may show it before and after
unfoldable pub refuses_rename : Trace → ℕ → Status → List ℕ → Wcc → List ℕ → Wcc → Bool
refuses_rename t n status d source e target = refuses t n status && showed_wcc t n d source && showed_wcc t n e target
