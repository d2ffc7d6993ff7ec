-- Calls, replies and pages by hand, from the XDR of RFC 1813, section 3.3.
use Rattle.std.proofs.Common.{◌≡◌, ℕ, List, [], ◌∷◌, ◌++◌, true, false, Some, None, Ok, Err, refl}
use Rattle.std.specs.Prelude.{codes}
use Rattle.xdr_codec.specs.declared.reader.XdrFault.TheVariants.{Short, TooLong, BadBool, BadValue, Trailing}
use Rattle.xdr_codec.specs.Reading.{flag_at, fixed_at, opaque_at}
use Rattle.xdr_codec.specs.Spelling.{u32_bytes, u64_bytes, flag_bytes, fixed_bytes, opaque_bytes}
use Rattle.xdr_codec.specs.Whole.{whole_at}
use Rattle.xdr_codec.proofs.Hex.{hex}
use Rattle.nfs_types.specs.declared.time.Time.{Time}
use Rattle.nfs_types.specs.declared.wcc.Wcc.{Wcc}
use Rattle.nfs_types.specs.declared.set_attr.SetAttr.{SetAttr}
use Rattle.nfs_types.specs.declared.set_attr.SetTime.TheVariants.{Server, Client}
use Rattle.nfs_types.specs.Fields.{handle_at, handle_bytes, name_at, name_bytes, verf_at, verf_bytes, time_at, time_bytes, opt_attr_at, opt_attr_bytes, opt_stamp_bytes, stamp_bytes, wcc_at, wcc_bytes, opt_u32_at, opt_u64_at, set_time_at, set_time_of, set_attr_at, opt_u32_bytes, opt_u64_bytes, set_time_bytes, set_attr_bytes}
use Rattle.nfs_dir_calls.specs.declared.call.DirCall.TheVariants as calls
use Rattle.nfs_dir_calls.specs.declared.create.Making.TheVariants.{Guarded, Exclusive}
use Rattle.nfs_dir_calls.specs.declared.mknod.Node.TheVariants.{Device, Pipe}
use Rattle.nfs_dir_calls.specs.declared.dir_page.DirRow.{DirRow}
use Rattle.nfs_dir_calls.specs.declared.keeping.DirKept.TheVariants as kept
use Rattle.nfs_dir_calls.specs.Places.{place_at, place_bytes}
use Rattle.nfs_dir_calls.specs.Lookup.{lookup_call_at, lookup_at}
use Rattle.nfs_dir_calls.specs.ReadLink.{readlink_at, readlink_bytes}
use Rattle.nfs_dir_calls.specs.Makings.{making_at, making_of, making_bytes}
use Rattle.nfs_dir_calls.specs.Create.{create_call_at}
use Rattle.nfs_dir_calls.specs.SymLink.{symlink_call_at}
use Rattle.nfs_dir_calls.specs.Nodes.{node_at, node_bytes, device_of, pipe_of}
use Rattle.nfs_dir_calls.specs.MkNod.{mknod_call_at}
use Rattle.nfs_dir_calls.specs.Remove.{remove_call_at}
use Rattle.nfs_dir_calls.specs.Rename.{rename_bytes}
use Rattle.nfs_dir_calls.specs.Pages.{page_at, page_bytes}
use Rattle.nfs_dir_calls.specs.DirPages.{dir_row_at, dir_row_bytes}
use Rattle.nfs_dir_calls.specs.ReadDir.{readdir_at, readdir_bytes}
use Rattle.nfs_dir_calls.specs.Calls.{dir_call_at, dir_call_bytes}
use Rattle.nfs_dir_calls.specs.Replies.{dir_reply_at, dir_reply_bytes}

abbrev dir : List ℕ
dir = hex (codes "0000000000000001")

-- the name `a` in the directory 0000000000000001
abbrev place : List ℕ
place = hex (codes "00000008 00000000 00000001 00000001 61000000")

-- ---- names

lookup_written : dir_call_bytes (calls.Lookup dir (codes "a")) ≡ place
unfolding dir_call_bytes place_bytes handle_bytes name_bytes opaque_bytes fixed_bytes u32_bytes
lookup_written = refl

lookup_read : dir_call_at 3 place ≡ Ok (calls.Lookup dir (codes "a"))
unfolding lookup_call_at place_at handle_at name_at opaque_at fixed_at
lookup_read = refl

handle_of_65_bytes : dir_call_at 3 (hex (codes "00000041")) ≡ Err TooLong
unfolding lookup_call_at place_at handle_at opaque_at
handle_of_65_bytes = refl

name_of_256_bytes : dir_call_at 3 (hex (codes "00000000 00000100")) ≡ Err TooLong
unfolding lookup_call_at place_at handle_at name_at opaque_at fixed_at
name_of_256_bytes = refl

name_of_no_bytes : dir_call_at 3 (hex (codes "00000000 00000000")) ≡ Err BadValue
unfolding lookup_call_at place_at handle_at name_at opaque_at fixed_at
name_of_no_bytes = refl

name_with_a_slash : dir_call_at 3 (hex (codes "00000000 00000001 2f000000")) ≡ Err BadValue
unfolding lookup_call_at place_at handle_at name_at opaque_at fixed_at
name_with_a_slash = refl

name_with_a_zero : dir_call_at 3 (hex (codes "00000000 00000002 61000000")) ≡ Err BadValue
unfolding lookup_call_at place_at handle_at name_at opaque_at fixed_at
name_with_a_zero = refl

remove_and_more : dir_call_at 12 (hex (codes "00000000 00000001 61000000 00000000")) ≡ Err Trailing
unfolding remove_call_at place_at handle_at name_at opaque_at fixed_at
remove_and_more = refl

-- ---- making files, links and nodes

-- the mode 0644, the group 5, the server's time of access and the time 8 and 9 of change
abbrev set : SetAttr
set = record { mode = Some 420; uid = None; gid = Some 5; size = None; atime = Server; mtime = Client (record { seconds = 8; nanos = 9 }) }

abbrev set_words : List ℕ
set_words = hex (codes "00000001 000001a4 00000000 00000001 00000005 00000000 00000001 00000002 00000008 00000009")

guarded_written : dir_call_bytes (calls.Create dir (codes "a") (Guarded set)) ≡ place ++ hex (codes "00000001") ++ set_words
unfolding dir_call_bytes place_bytes making_bytes set_attr_bytes opt_u32_bytes opt_u64_bytes set_time_bytes time_bytes handle_bytes name_bytes opaque_bytes fixed_bytes flag_bytes u32_bytes
guarded_written = refl

exclusive_read : dir_call_at 8 (place ++ hex (codes "00000002 0102030405060708")) ≡ Ok (calls.Create dir (codes "a") (Exclusive (record { 0 = 1 ∷ 2 ∷ 3 ∷ 4 ∷ 5 ∷ 6 ∷ 7 ∷ 8 ∷ [] })))
unfolding create_call_at place_at making_at making_of verf_at handle_at name_at opaque_at fixed_at
exclusive_read = refl

mode_of_3 : dir_call_at 8 (place ++ hex (codes "00000003 00000000 00000000")) ≡ Err BadValue
unfolding create_call_at place_at making_at making_of handle_at name_at opaque_at fixed_at
mode_of_3 = refl

text_of_1025_bytes : dir_call_at 10 (place ++ hex (codes "00000000 00000000 00000000 00000000 00000000 00000000 00000401")) ≡ Err TooLong
unfolding symlink_call_at place_at set_attr_at opt_u32_at opt_u64_at set_time_at set_time_of handle_at name_at opaque_at fixed_at flag_at
text_of_1025_bytes = refl

device_written : dir_call_bytes (calls.MkNod dir (codes "a") (Device 3 set 1 2)) ≡ place ++ hex (codes "00000003") ++ set_words ++ hex (codes "00000001 00000002")
unfolding dir_call_bytes place_bytes node_bytes set_attr_bytes opt_u32_bytes opt_u64_bytes set_time_bytes time_bytes handle_bytes name_bytes opaque_bytes fixed_bytes flag_bytes u32_bytes
device_written = refl

pipe_read : dir_call_at 11 (place ++ hex (codes "00000007") ++ set_words) ≡ Ok (calls.MkNod dir (codes "a") (Pipe 7 set))
unfolding mknod_call_at place_at node_at pipe_of set_attr_at opt_u32_at opt_u64_at set_time_at set_time_of time_at handle_at name_at opaque_at fixed_at flag_at
pipe_read = refl

plain_and_more : dir_call_at 11 (place ++ hex (codes "00000005 00000000")) ≡ Err Trailing
unfolding mknod_call_at place_at node_at handle_at name_at opaque_at fixed_at
plain_and_more = refl

-- ---- replies

-- a change from the stamp 1 to 5, and no change
abbrev changed : Wcc
changed = record { before = Some (record { size = 1; mtime = record { seconds = 2; nanos = 3 }; ctime = record { seconds = 4; nanos = 5 } }); after = None }

abbrev nothing : Wcc
nothing = record { before = None; after = None }

renamed_written : dir_reply_bytes (kept.Rename changed nothing) ≡ hex (codes "00000000 00000001 00000000 00000001 00000002 00000003 00000004 00000005 00000000 00000000 00000000")
unfolding dir_reply_bytes rename_bytes wcc_bytes opt_stamp_bytes stamp_bytes time_bytes opt_attr_bytes flag_bytes u32_bytes u64_bytes
renamed_written = refl

-- 18 XDEV
not_renamed_written : dir_reply_bytes (kept.RenameFail (record { 0 = 18 }) nothing changed) ≡ hex (codes "00000012 00000000 00000000 00000001 00000000 00000001 00000002 00000003 00000004 00000005 00000000")
unfolding dir_reply_bytes rename_bytes wcc_bytes opt_stamp_bytes stamp_bytes time_bytes opt_attr_bytes flag_bytes u32_bytes u64_bytes
not_renamed_written = refl

text_written : dir_reply_bytes (kept.ReadLink None (codes "/a")) ≡ hex (codes "00000000 00000000 00000002 2f610000")
unfolding dir_reply_bytes readlink_bytes opt_attr_bytes opaque_bytes fixed_bytes flag_bytes u32_bytes
text_written = refl

long_text : dir_reply_at 5 (hex (codes "00000000 00000000 00000401")) ≡ Err TooLong
unfolding readlink_at opt_attr_at opaque_at flag_at
long_text = refl

refusal_and_more : dir_reply_at 5 (hex (codes "00000016 00000000 00000000")) ≡ Err Trailing
unfolding readlink_at opt_attr_at flag_at
refusal_and_more = refl

-- ---- pages

-- the entries `a` and `bc`, with the end
abbrev listed : List ℕ
listed = hex (codes "00000001 00000000 00000003 00000001 61000000 00000000 00000001 00000001 00000000 00000004 00000002 62630000 00000001 00000002 00000000")

abbrev rows : List DirRow
rows = record { fileid = 3; name = codes "a"; cookie = 1 } ∷ record { fileid = 4; name = codes "bc"; cookie = 4294967298 } ∷ []

page_read : whole_at (page_at dir_row_at) listed ≡ Ok rows
unfolding page_at dir_row_at name_at opaque_at fixed_at flag_at
page_read = refl

page_written : page_bytes dir_row_bytes rows ≡ listed
unfolding page_bytes dir_row_bytes name_bytes opaque_bytes fixed_bytes flag_bytes u32_bytes u64_bytes
page_written = refl

listing_read : dir_reply_at 16 (hex (codes "00000000 00000000 0102030405060708") ++ listed ++ hex (codes "00000001")) ≡ Ok (kept.ReadDir None (record { 0 = 1 ∷ 2 ∷ 3 ∷ 4 ∷ 5 ∷ 6 ∷ 7 ∷ 8 ∷ [] }) rows true)
unfolding readdir_at page_at dir_row_at verf_at opt_attr_at name_at opaque_at fixed_at flag_at
listing_read = refl

page_without_entries : whole_at (page_at dir_row_at) (hex (codes "00000000")) ≡ Ok []
unfolding page_at flag_at
page_without_entries = refl

no_page : whole_at (page_at dir_row_at) [] ≡ Err Short
unfolding page_at
no_page = refl

page_of_2 : whole_at (page_at dir_row_at) (hex (codes "00000002")) ≡ Err BadBool
unfolding page_at flag_at
page_of_2 = refl

page_and_more : whole_at (page_at dir_row_at) (hex (codes "00000000 00")) ≡ Err Trailing
unfolding page_at flag_at
page_and_more = refl
