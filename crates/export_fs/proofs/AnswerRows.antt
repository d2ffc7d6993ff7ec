-- Rows by hand: what calls are answered, which bytes a restart leaves, and what stands after changes of names (RFC 1813,
-- section 3.3, and section 4.8). Each change takes the next number of a counter as the seconds of its times.
use Rattle.std.proofs.Common.{◌≡◌, ◌+◌, ℕ, Bool, true, false, List, [], ◌∷◌, ◌++◌, Option, Some, None, option_map, is_some, replicate, unwrap_or, refl}
use Rattle.xdr_codec.specs.Spelling as spelling
use Rattle.nfs_types.specs.Fields as fields
use Rattle.nfs_types.specs.declared.attr.Attr.{Attr}
use Rattle.nfs_types.specs.declared.time.Time.{Time}
use Rattle.nfs_types.specs.declared.verf.Verf.{Verf}
use Rattle.nfs_types.specs.declared.wcc.Wcc.{Wcc}
use Rattle.mount_calls.specs.declared.call.MountCall.TheVariants as mounts
use Rattle.mount_calls.specs.declared.reply.MountReply.TheVariants as mounted
use Rattle.nfs_dir_calls.specs.declared.keeping.DirKept.TheVariants as found
use Rattle.nfs_dir_calls.specs.declared.plus_page.PlusRow.{PlusRow}
use Rattle.nfs_dir_calls.specs.DirPages.{dir_row_bytes}
use Rattle.nfs_dir_calls.specs.OptHandles.{opt_handle_bytes}
use Rattle.nfs_dir_calls.specs.PlusPages.{plus_row_bytes}
use Rattle.nfs_file_calls.specs.declared.owned.FileKept.TheVariants as kept
use Rattle.world_model.specs.declared.message.Call.{Call}
use Rattle.world_model.specs.declared.message.Call.TheVariants as calls
use Rattle.world_model.specs.declared.message.Reply.{Reply}
use Rattle.world_model.specs.declared.message.Reply.TheVariants as replies
use Rattle.world_model.specs.NameService.{keeps_all}
use Rattle.export_fs.specs.View.{View}
use Rattle.export_fs.specs.Executed.{refusal, executed}
use Rattle.export_fs.specs.Finding.{found, file_size}
use Rattle.export_fs.specs.Parts.{verifier}
use Rattle.export_fs.specs.Placing.{placed}
use Rattle.export_fs.specs.Restart.{may_restart, after_restart, after_flush}
use Rattle.export_fs.proofs.RowCalls.{number, d, e, f, g, l, own, parent, t, sized, size, getattr, access, read, write, fsstat, fsinfo, pathconf, commit, lookup, readlink, guarded, symlink, remove, rename, link, readdirplus, does, place, fresh}
use Rattle.export_fs.proofs.StatusRows.{sample}

abbrev reply : View → Call → Reply
reply view call = (executed view call).1

abbrev at : ℕ → Time
at number = record { seconds = number; nanos = 0 }

-- the attributes of an object, with its kind, mode, count of links, size and number, and when it was made and last changed
abbrev attrs : ℕ → ℕ → ℕ → ℕ → ℕ → ℕ → ℕ → Attr
attrs kind mode nlink size fileid made changed = record {
  kind = kind;
  mode = mode;
  nlink = nlink;
  uid = 0;
  gid = 0;
  size = size;
  used = size;
  rdev_major = 0;
  rdev_minor = 0;
  fsid = 1;
  fileid = fileid;
  atime = at made;
  mtime = at changed;
  ctime = at changed;
}

-- the root after the change of that number
abbrev root_at : ℕ → Attr
root_at changed = attrs 2 493 2 0 1 1 changed

-- a file that was made as number 2 by the change 2, of that size, after the change of that number
abbrev file_at : ℕ → ℕ → Attr
file_at size changed = attrs 1 420 1 size 2 2 changed

-- an object was changed: its size and time before, and its attributes after
abbrev changed : ℕ → ℕ → Attr → Wcc
changed size before after = record { before = Some (record { size = size; mtime = at before; ctime = at before }); after = Some after }

abbrev verf : ℕ → Verf
verf n = record { 0 = number n }

-- the names `a`, `b` and `c`
abbrev a : List ℕ
a = 97 ∷ []

abbrev b : List ℕ
b = 98 ∷ []

abbrev c : List ℕ
c = 99 ∷ []

-- the bytes `hello`, and `HELLO`
abbrev hello : List ℕ
hello = 104 ∷ 101 ∷ 108 ∷ 108 ∷ 111 ∷ []

abbrev loud : List ℕ
loud = 72 ∷ 69 ∷ 76 ∷ 76 ∷ 79 ∷ []

-- ---- the new export

new_export : reply fresh (getattr (number 1)) ≡ replies.File (kept.GetAttr (root_at 1))
new_export = refl

-- MNT of `/srv`, and of `/srv/`
mount_ok : reply fresh (calls.Mount (mounts.Mnt (47 ∷ 115 ∷ 114 ∷ 118 ∷ []))) ≡ replies.Mount (mounted.MntOk (number 1) (0 ∷ 1 ∷ []))
unfolding spelling.u64_bytes
mount_ok = refl

mount_fail : reply fresh (calls.Mount (mounts.Mnt (47 ∷ 115 ∷ 114 ∷ 118 ∷ 47 ∷ []))) ≡ replies.Mount (mounted.MntFail 2)
mount_fail = refl

exports : reply fresh (calls.Mount mounts.Export) ≡ replies.Mount (mounted.Export (record { path = 47 ∷ 115 ∷ 114 ∷ 118 ∷ []; groups = [] } ∷ []))
exports = refl

-- every right that is asked for is granted
rights : reply fresh (access (number 1) 45) ≡ replies.File (kept.Access (Some (root_at 1)) 45)
rights = refl

space : reply fresh (fsstat (number 1)) ≡ replies.File (kept.FsStat (Some (root_at 1)) 1073741824 1073741824 1073741824 65536 65536 65536 0)
space = refl

sizes : reply fresh (fsinfo (number 1)) ≡ replies.File (kept.FsInfo (Some (root_at 1)) 65536 65536 4096 65536 65536 4096 32768 16777216 (at 1) 11)
sizes = refl

limits : reply fresh (pathconf (number 1)) ≡ replies.File (kept.PathConf (Some (root_at 1)) 1000 255 true true false true)
limits = refl

-- ---- bytes

-- a READ of so many bytes from an offset gives these, and says whether they reach the end
abbrev reads : View → ℕ → ℕ → Option Attr → List ℕ → ℕ → Bool → Type 0
reads view offset count attr bytes len eof = reply view (read (number 2) offset count) ≡ replies.File (kept.Read attr len eof bytes)

create : reply fresh (guarded (sized 3) (number 1) a) ≡ replies.Dir (found.Create (Some (number 2)) (Some (file_at 3 2)) (changed 0 1 (root_at 2)))
unfolding spelling.u64_bytes
create = refl

zeros : reads (does fresh (guarded (sized 3) (number 1) a ∷ [])) 0 9 (Some (file_at 3 2)) (0 ∷ 0 ∷ 0 ∷ []) 3 true
zeros = refl

-- the file `a` of the bytes `hello`
abbrev one_file : View
one_file = place a (Some hello) fresh

file_found : found one_file (a ∷ []) ≡ Some (number 2)
unfolding spelling.u64_bytes
file_found = refl

size_found : file_size one_file (number 2) ≡ Some 5
size_found = refl

-- a FILE_SYNC WRITE of `you` at 7, past the end
abbrev wider : Call
wider = write (number 2) 7 2 (121 ∷ 111 ∷ 117 ∷ [])

write_row : reply one_file wider ≡ replies.File (kept.Write (changed 5 2 (file_at 10 3)) 3 2 (verf 1))
unfolding spelling.u64_bytes
write_row = refl

gap : reads (does one_file (wider ∷ [])) 3 4 (Some (file_at 10 3)) (108 ∷ 111 ∷ 0 ∷ 0 ∷ []) 4 false
gap = refl

end : reads (does one_file (wider ∷ [])) 7 4 (Some (file_at 10 3)) (121 ∷ 111 ∷ 117 ∷ []) 3 true
end = refl

past_end : reads (does one_file (wider ∷ [])) 11 4 (Some (file_at 10 3)) [] 0 true
past_end = refl

cut : reads (does one_file (wider ∷ size (number 2) 2 ∷ [])) 0 4 (Some (file_at 2 4)) (104 ∷ 101 ∷ []) 2 true
cut = refl

-- ---- restarts

-- UNSTABLE, `HELLO you`; of it two bytes from 1 are committed
abbrev part_kept : View
part_kept = does one_file (write (number 2) 0 0 (loud ++ 32 ∷ 121 ∷ 111 ∷ 117 ∷ []) ∷ commit (number 2) 1 2 ∷ [])

may_1 : may_restart part_kept ≡ true
may_1 = refl

-- `hELlo`, as the change 4
lost : reads (after_restart part_kept) 0 9 (Some (file_at 5 4)) (104 ∷ 69 ∷ 76 ∷ 108 ∷ 111 ∷ []) 5 true
lost = refl

-- a restart that changes no file takes no number
lost_once : reply (after_restart (after_restart part_kept)) (getattr (number 2)) ≡ replies.File (kept.GetAttr (file_at 5 4))
lost_once = refl

verifier_1 : verifier part_kept ≡ verf 1
unfolding spelling.u64_bytes
verifier_1 = refl

verifier_3 : reply (after_restart (after_restart part_kept)) (commit (number 2) 0 0) ≡ replies.File (kept.Commit (changed 5 4 (file_at 5 4)) (verf 3))
unfolding spelling.u64_bytes
verifier_3 = refl

-- UNSTABLE, `HELLO`
abbrev unstable : View
unstable = does one_file (write (number 2) 0 0 loud ∷ [])

-- what is there of it of nine bytes from 3 becomes stable by itself
abbrev flushed : View
flushed = after_flush unstable (number 2) 3 9

-- `helLO`
flush_row : reads (after_restart flushed) 0 9 (Some (file_at 5 4)) (104 ∷ 101 ∷ 108 ∷ 76 ∷ 79 ∷ []) 5 true
flush_row = refl

-- as by a COMMIT of 0 bytes from 3, all to the end becomes stable
flush_to_end : after_flush unstable (number 2) 3 0 ≡ flushed
flush_to_end = refl

-- with `j` in place of `h`, and no number left: a restart that would change a file is refused
abbrev last : View
last = record (does (after_restart flushed) (write (number 2) 0 0 (106 ∷ []) ∷ [])) { counter = 4294967295 }

may_not : may_restart last ≡ false
may_not = refl

-- where no file changes, it isn't; nor where no restart can be counted
may_2 : may_restart (record one_file { counter = 4294967295 }) ≡ true
may_2 = refl

uncounted : may_restart (record one_file { reboots = 4294967295 }) ≡ false
uncounted = refl

-- ---- names

-- the file `a`, with the second name `b`
abbrev two_names : View
two_names = does (place a (Some []) fresh) (link (number 2) (number 1) b ∷ [])

-- LINK changes the file's ctime, and not its mtime
link_row : reply two_names (getattr (number 2)) ≡ replies.File (kept.GetAttr (record (file_at 0 2) { nlink = 2; ctime = at 3 }))
link_row = refl

-- RENAME of one name of an object to another of its names changes nothing
same_object : does two_names (rename (number 1) a (number 1) b ∷ []) ≡ two_names
same_object = refl

abbrev one_name : View
one_name = does two_names (remove (number 1) a ∷ [])

remove_row : reply one_name (getattr (number 2)) ≡ replies.File (kept.GetAttr (record (file_at 0 2) { ctime = at 4 }))
remove_row = refl

-- RENAME doesn't change what it moves
abbrev renamed : View
renamed = does one_name (rename (number 1) b (number 1) c ∷ [])

moved_row : reply renamed (getattr (number 2)) ≡ replies.File (kept.GetAttr (record (file_at 0 2) { ctime = at 4 }))
moved_row = refl

old_name : refusal renamed (lookup (number 1) b) ≡ 2
old_name = refl

new_name : reply renamed (lookup (number 1) c) ≡ replies.Dir (found.Lookup (number 2) (Some (record (file_at 0 2) { ctime = at 4 })) (Some (root_at 5)))
unfolding spelling.u64_bytes
new_name = refl

-- ---- pages: entries whose names have one byte take 132 bytes each

abbrev entry : List ℕ → ℕ → Attr → PlusRow
entry name cookie attr = record { fileid = attr.fileid; name = name; cookie = cookie; attr = Some attr; found = Some (number attr.fileid) }

-- the sample's entries of the root: `f`, `d`, `e` and `l`
abbrev row_f : PlusRow
row_f = entry f 1 (file_at 5 2)

abbrev row_d : PlusRow
row_d = entry d 2 (attrs 2 493 2 0 3 3 6)

abbrev row_e : PlusRow
row_e = entry e 3 (attrs 2 493 2 0 4 4 4)

abbrev row_l : PlusRow
row_l = entry l 4 (attrs 5 511 1 1 5 5 5)

abbrev pages : ℕ → ℕ → List PlusRow → Bool → Type 0
pages cookie most rows eof = reply sample (readdirplus (number 1) cookie most) ≡ replies.Dir (found.ReadDirPlus (Some (root_at 5)) (verf 0) rows eof)

-- at least one entry, however few bytes are asked for
page_1 : pages 0 1 (row_f ∷ []) false
unfolding spelling.u64_bytes spelling.flag_bytes spelling.u32_bytes spelling.opaque_bytes spelling.fixed_bytes fields.name_bytes fields.opt_attr_bytes fields.attr_bytes fields.owner_bytes fields.place_bytes fields.time_bytes fields.handle_bytes plus_row_bytes dir_row_bytes opt_handle_bytes
page_1 = refl

page_395 : pages 0 395 (row_f ∷ row_d ∷ []) false
unfolding spelling.u64_bytes spelling.flag_bytes spelling.u32_bytes spelling.opaque_bytes spelling.fixed_bytes fields.name_bytes fields.opt_attr_bytes fields.attr_bytes fields.owner_bytes fields.place_bytes fields.time_bytes fields.handle_bytes plus_row_bytes dir_row_bytes opt_handle_bytes
page_395 = refl

page_396 : pages 0 396 (row_f ∷ row_d ∷ row_e ∷ []) false
unfolding spelling.u64_bytes spelling.flag_bytes spelling.u32_bytes spelling.opaque_bytes spelling.fixed_bytes fields.name_bytes fields.opt_attr_bytes fields.attr_bytes fields.owner_bytes fields.place_bytes fields.time_bytes fields.handle_bytes plus_row_bytes dir_row_bytes opt_handle_bytes
page_396 = refl

page_after_2 : pages 2 264 (row_e ∷ row_l ∷ []) true
unfolding spelling.u64_bytes spelling.flag_bytes spelling.u32_bytes spelling.opaque_bytes spelling.fixed_bytes fields.name_bytes fields.opt_attr_bytes fields.attr_bytes fields.owner_bytes fields.place_bytes fields.time_bytes fields.handle_bytes plus_row_bytes dir_row_bytes opt_handle_bytes
page_after_2 = refl

-- `f` becomes `g`, with the next cookie
page_renamed : reply (does sample (rename (number 1) f (number 1) g ∷ [])) (readdirplus (number 1) 3 9000)
    ≡ replies.Dir (found.ReadDirPlus (Some (root_at 7)) (verf 0) (row_l ∷ entry g 5 (file_at 5 2) ∷ []) true)
unfolding spelling.u64_bytes spelling.flag_bytes spelling.u32_bytes spelling.opaque_bytes spelling.fixed_bytes fields.name_bytes fields.opt_attr_bytes fields.attr_bytes fields.owner_bytes fields.place_bytes fields.time_bytes fields.handle_bytes plus_row_bytes dir_row_bytes opt_handle_bytes
page_renamed = refl

-- ---- objects that are placed before the export is used

abbrev one_dir : View
one_dir = place d None fresh

no_root : is_some (placed fresh [] None) ≡ false
no_root = refl

dir_placed : is_some (placed fresh (d ∷ []) None) ≡ true
dir_placed = refl

name_taken : is_some (placed one_dir (d ∷ []) (Some a)) ≡ false
name_taken = refl

no_own_name : is_some (placed one_dir (parent ∷ []) None) ≡ false
no_own_name = refl

below : reply (unwrap_or (placed one_dir (d ∷ f ∷ []) (Some (97 ∷ 98 ∷ 99 ∷ []))) fresh) (read (number 3) 0 9)
    ≡ replies.File (kept.Read (Some (attrs 1 420 1 3 3 3 3)) 3 true (97 ∷ 98 ∷ 99 ∷ []))
below = refl

no_number : is_some (placed (record one_dir { counter = 4294967295 }) (g ∷ []) None) ≡ false
no_number = refl

-- ---- texts of links

text_read : reply sample (readlink (number 5)) ≡ replies.Dir (found.ReadLink (Some (attrs 5 511 1 1 5 5 5)) t)
text_read = refl

-- 1,024 bytes are the most; what else refuses a call does so first
abbrev longest : List ℕ
longest = replicate 1024 116

abbrev longer : List ℕ
longer = 116 ∷ longest

text_too_long : refusal fresh (symlink longer (number 1) l) ≡ 63
text_too_long = refl

text_refused : does fresh (symlink longer (number 1) l ∷ []) ≡ fresh
text_refused = refl

text_long : reply fresh (symlink longest (number 1) l) ≡ replies.Dir (found.SymLink (Some (number 2)) (Some (attrs 5 511 1 1024 2 2 2)) (changed 0 1 (root_at 2)))
unfolding spelling.u64_bytes
text_long = refl

text_there : refusal (does fresh (symlink t (number 1) l ∷ [])) (symlink longer (number 1) l) ≡ 17
text_there = refl

text_full : refusal (record fresh { counter = 4294967295 }) (symlink longer (number 1) l) ≡ 28
text_full = refl
