-- Rows by hand: what scripts ask for, and which fault comes first.
use Rattle.std.proofs.Common.{◌≡◌, ℕ, List, [], ◌∷◌, ◌++◌, Result, Ok, Err, map, codes, refl}
use Rattle.std.specs.Str.{is_utf8, chars}
use Rattle.hex.specs.Hex.{decode_pairs}
use Rattle.nfs_types.specs.declared.mode.Mode.TheVariants as modes
use Rattle.script_text.specs.Lines.{lines, words}
use Rattle.script_text.specs.Paths.{decoded}
use Rattle.world_model.specs.declared.op.Op.{Op}
use Rattle.world_model.specs.declared.op.Op.TheVariants as ops
use Rattle.nfs_script.specs.declared.fault.ScriptFault.{ScriptFault}
use Rattle.nfs_script.specs.declared.script.ScriptLine.{ScriptLine}
use Rattle.nfs_script.specs.Commands.{open_of, read_of, write_of, fill_of, sync_of, close_of, truncate_of, put_of, stat_of, access_of, make_dir_of, remove_dir_of, remove_of, rename_of, link_of, sym_link_of, read_link_of, list_of}
use Rattle.nfs_script.specs.Script.{script_of, script_from, last_line, asked_of}
use lib.Utf8.{encode}

abbrev asks : ℕ → ℕ → Op → ScriptLine
asks lane line op = record { lane = lane; line = line; op = op }

-- a script of one line in lane 1, which asks for that
abbrev one : Op → Result (List ScriptLine) ScriptFault
one op = Ok (asks 1 1 op ∷ [])

-- a script is refused for that line, with that kind
abbrev refused : ℕ → ℕ → Result (List ScriptLine) ScriptFault
refused line kind = Err (record { line = line; kind = kind })

-- each of some scripts of one line is refused with that kind
abbrev kinds : List ℕ → List (Result (List ScriptLine) ScriptFault)
kinds list = map (refused 1) list

-- lines that end with a line feed
abbrev text : List (List ℕ) → List ℕ
text [] = []
text (line ∷ more) = line ++ 10 ∷ text more

-- ---- commands on open files

opens : map script_of (codes "1 open 1 r /a/b" ∷ codes "1 open 16 w /a" ∷ codes "1 open 2 rw /a" ∷ codes "1 open 2 c /%41%2e" ∷ codes "1 open 2 x /a" ∷ [])
    ≡ one (ops.OpenFile 1 modes.R (codes "a" ∷ codes "b" ∷ [])) ∷ one (ops.OpenFile 16 modes.W (codes "a" ∷ [])) ∷
    one (ops.OpenFile 2 modes.RW (codes "a" ∷ [])) ∷ one (ops.OpenFile 2 modes.C (codes "A." ∷ [])) ∷
    one (ops.OpenFile 2 modes.X (codes "a" ∷ [])) ∷ []
unfolding is_utf8 chars encode lines words asked_of open_of decoded
opens = refl

reads : map script_of (codes "1 read 3 7 65536" ∷ codes "1 read 1 0 0" ∷ []) ≡ one (ops.Read 3 7 65536) ∷ one (ops.Read 1 0 0) ∷ []
unfolding is_utf8 chars encode lines words asked_of read_of
reads = refl

writes : map script_of (codes "1 write 3 4611686018427387904 4a6B" ∷ codes "1 write 1 0 00" ∷ []) ≡ one (ops.Write 3 4611686018427387904 (codes "Jk")) ∷ one (ops.Write 1 0 (0 ∷ [])) ∷ []
unfolding is_utf8 chars encode lines words asked_of write_of decode_pairs
writes = refl

fills : map script_of (codes "1 fill 3 7 1048576 fF" ∷ codes "1 fill 1 0 1 00" ∷ []) ≡ one (ops.Fill 3 7 1048576 255) ∷ one (ops.Fill 1 0 1 0) ∷ []
unfolding is_utf8 chars encode lines words asked_of fill_of decode_pairs
fills = refl

syncs : map script_of (codes "1 sync 4" ∷ codes "01 sync 0016" ∷ []) ≡ one (ops.Sync 4) ∷ one (ops.Sync 16) ∷ []
unfolding is_utf8 chars encode lines words asked_of sync_of
syncs = refl

closes : script_of (codes "1 close 5") ≡ one (ops.Close 5)
unfolding is_utf8 chars encode lines words asked_of close_of
closes = refl

truncates : map script_of (codes "1 truncate 6 4611686018427387904" ∷ codes "1 truncate 1 0" ∷ []) ≡ one (ops.Truncate 6 4611686018427387904) ∷ one (ops.Truncate 1 0) ∷ []
unfolding is_utf8 chars encode lines words asked_of truncate_of
truncates = refl

-- ---- commands on paths

puts : script_of (codes "1 put /a/b 7 6869") ≡ one (ops.Put (codes "a" ∷ codes "b" ∷ []) 7 (codes "hi"))
unfolding is_utf8 chars encode lines words asked_of put_of decoded decode_pairs
puts = refl

stats : map script_of (codes "1 stat /a" ∷ codes "1 stat /" ∷ []) ≡ one (ops.Stat (codes "a" ∷ [])) ∷ one (ops.Stat []) ∷ []
unfolding is_utf8 chars encode lines words asked_of stat_of decoded
stats = refl

accesses : map script_of (codes "1 access /a 63" ∷ codes "1 access / 1" ∷ []) ≡ one (ops.Access (codes "a" ∷ []) 63) ∷ one (ops.Access [] 1) ∷ []
unfolding is_utf8 chars encode lines words asked_of access_of decoded
accesses = refl

removes : map script_of (codes "1 mkdir /a" ∷ codes "1 rmdir /a" ∷ codes "1 remove /a" ∷ []) ≡ one (ops.MakeDir (codes "a" ∷ [])) ∷ one (ops.RemoveDir (codes "a" ∷ [])) ∷ one (ops.Remove (codes "a" ∷ [])) ∷ []
unfolding is_utf8 chars encode lines words asked_of make_dir_of remove_dir_of remove_of decoded
removes = refl

renames : map script_of (codes "1 rename /a /b/c" ∷ codes "1 link /a/b /c" ∷ []) ≡ one (ops.Rename (codes "a" ∷ []) (codes "b" ∷ codes "c" ∷ [])) ∷ one (ops.Link (codes "a" ∷ codes "b" ∷ []) (codes "c" ∷ [])) ∷ []
unfolding is_utf8 chars encode lines words asked_of rename_of link_of decoded
renames = refl

links : map script_of (codes "1 symlink /a ../b/%20" ∷ codes "1 readlink /a" ∷ []) ≡ one (ops.SymLink (codes "a" ∷ []) (codes "../b/ ")) ∷ one (ops.ReadLink (codes "a" ∷ [])) ∷ []
unfolding is_utf8 chars encode lines words asked_of sym_link_of read_link_of decoded
links = refl

lists : map script_of (codes "1 list /a" ∷ codes "1 list /" ∷ []) ≡ one (ops.List (codes "a" ∷ [])) ∷ one (ops.List []) ∷ []
unfolding is_utf8 chars encode lines words asked_of list_of decoded
lists = refl

-- ---- lines and words

blanks : script_of (9 ∷ codes " 016  sync" ++ 9 ∷ codes "1 " ++ 13 ∷ 10 ∷ []) ≡ Ok (asks 16 1 (ops.Sync 1) ∷ [])
unfolding is_utf8 chars encode lines words asked_of sync_of
blanks = refl

-- lines that are skipped are counted; the last one is a comment with `ä`
counted : script_of (codes "# 1 sync 1" ++ 10 ∷ 13 ∷ 10 ∷ 10 ∷ codes "1 sync 1" ++ 10 ∷ 35 ∷ 195 ∷ 164 ∷ 10 ∷ []) ≡ Ok (asks 1 4 (ops.Sync 1) ∷ [])
unfolding is_utf8 chars encode lines words asked_of sync_of
counted = refl

-- a carriage return at the end of the text belongs to its word
last_return : script_of (codes "1 remove /a" ++ 13 ∷ []) ≡ one (ops.Remove ((97 ∷ 13 ∷ []) ∷ []))
unfolding is_utf8 chars encode lines words asked_of remove_of decoded
last_return = refl

nothing : map script_of ([] ∷ codes "#" ∷ []) ≡ Ok [] ∷ Ok [] ∷ []
unfolding is_utf8 chars encode lines
nothing = refl

in_order : script_of (codes "2 close 3" ++ 10 ∷ 10 ∷ codes "1 sync 4") ≡ Ok (asks 2 1 (ops.Close 3) ∷ asks 1 3 (ops.Sync 4) ∷ [])
unfolding is_utf8 chars encode lines words asked_of close_of sync_of
in_order = refl

-- ---- the first faulty line: 1 it isn't UTF-8, 4 its lane, 9 its slot
faulty_lines : map script_of (
    (text (codes "1 sync 1" ∷ (35 ∷ 255 ∷ []) ∷ []) ++ codes "0 sync 1") ∷
    (text (codes "0 sync 1" ∷ []) ++ codes "1 sync " ++ 255 ∷ []) ∷
    codes "0 sync 1" ∷
    (text (codes "#" ∷ [] ∷ []) ++ codes "17 sync 1") ∷
    text (codes "1 sync 1" ∷ (32 ∷ 9 ∷ []) ∷ []) ∷
    codes "sync 1" ∷
    (text (codes "1 sync 1" ∷ codes "1 sync 0" ∷ []) ++ codes "1 sync x y") ∷
    (codes "1 sync 1" ++ 13 ∷ []) ∷ [])
    ≡ refused 2 1 ∷ refused 2 1 ∷ refused 1 4 ∷ refused 3 4 ∷ refused 2 4 ∷ refused 1 4 ∷ refused 2 9 ∷ refused 1 9 ∷ []
unfolding is_utf8 chars encode lines words asked_of sync_of
faulty_lines = refl

-- ---- faults within a line

-- 5: an unknown command or mode, and too few or too many words
of_commands : map script_of (codes "1" ∷ codes "1 opne 1 r /a" ∷ codes "1 Sync 1" ∷ codes "1 sync" ∷ codes "1 sync 1 1" ∷ codes "1 truncate 1" ∷ codes "1 rename /a" ∷ codes "1 read 1 0" ∷ codes "1 open 1 r /a b" ∷ codes "1 fill 1 0 1" ∷ codes "1 open 1 wr /a" ∷ codes "1 fill 1 0 1 00 0" ∷ [])
    ≡ kinds (5 ∷ 5 ∷ 5 ∷ 5 ∷ 5 ∷ 5 ∷ 5 ∷ 5 ∷ 5 ∷ 5 ∷ 5 ∷ 5 ∷ [])
unfolding is_utf8 chars encode lines words asked_of open_of read_of fill_of sync_of truncate_of rename_of
of_commands = refl

-- 9: a slot; 6: a number that is past its range
of_numbers : map script_of (codes "1 sync 0" ∷ codes "1 close 17" ∷ codes "1 truncate -1 0" ∷ codes "1 truncate 1 4611686018427387905" ∷ codes "1 put /a 4611686018427387905 00" ∷ codes "1 put /a +1 00" ∷ codes "1 read 1 0 65537" ∷ codes "1 read 1 18446744073709551616 1" ∷ codes "1 read 1 0 4294967297" ∷ codes "1 fill 1 0 0 00" ∷ codes "1 fill 1 0 1048577 00" ∷ codes "1 access /a 0" ∷ codes "1 access /a 64" ∷ codes "257 sync 1" ∷ [])
    ≡ kinds (9 ∷ 9 ∷ 9 ∷ 6 ∷ 6 ∷ 6 ∷ 6 ∷ 6 ∷ 6 ∷ 6 ∷ 6 ∷ 6 ∷ 6 ∷ 4 ∷ [])
unfolding is_utf8 chars encode lines words asked_of read_of fill_of sync_of close_of truncate_of put_of access_of decoded decode_pairs
of_numbers = refl

-- 7: bytes
of_bytes : map script_of (codes "1 put /a 0 686" ∷ codes "1 write 1 0 6g" ∷ codes "1 write 1 0 -" ∷ codes "1 fill 1 0 1 0" ∷ codes "1 fill 1 0 1 0000" ∷ codes "1 fill 1 0 1 xx" ∷ [])
    ≡ kinds (7 ∷ 7 ∷ 7 ∷ 7 ∷ 7 ∷ 7 ∷ [])
unfolding is_utf8 chars encode lines words asked_of write_of fill_of put_of decoded decode_pairs
of_bytes = refl

-- 8: a path, among them the root, which some commands don't take, or the text of a link
of_paths : map script_of (codes "1 open 1 r /" ∷ codes "1 put / 0 00" ∷ codes "1 mkdir /" ∷ codes "1 rmdir /" ∷ codes "1 remove /" ∷ codes "1 rename / /a" ∷ codes "1 rename /a /" ∷ codes "1 link / /a" ∷ codes "1 link /a /" ∷ codes "1 symlink / a" ∷ codes "1 readlink /" ∷ codes "1 stat a" ∷ codes "1 list //" ∷ codes "1 access /a/../b 1" ∷ codes "1 stat /%2f" ∷ codes "1 symlink /a %00" ∷ [])
    ≡ kinds (8 ∷ 8 ∷ 8 ∷ 8 ∷ 8 ∷ 8 ∷ 8 ∷ 8 ∷ 8 ∷ 8 ∷ 8 ∷ 8 ∷ 8 ∷ 8 ∷ 8 ∷ 8 ∷ [])
unfolding is_utf8 chars encode lines words asked_of open_of put_of stat_of access_of make_dir_of remove_dir_of remove_of rename_of link_of sym_link_of read_link_of list_of decoded
of_paths = refl

-- a line is read from left to right, and the number of its words comes with its command
left_to_right : map script_of (codes "0 opne" ∷ codes "1 sync x y" ∷ codes "1 open 0 q /" ∷ codes "1 open 1 q /" ∷ codes "1 read 0 x x" ∷ codes "1 write 0 x x" ∷ codes "1 write 1 x x" ∷ codes "1 fill 1 0 0 x" ∷ codes "1 put / x x" ∷ codes "1 put /a x x" ∷ codes "1 access a 0" ∷ codes "1 truncate 0 x" ∷ [])
    ≡ kinds (4 ∷ 5 ∷ 9 ∷ 5 ∷ 9 ∷ 9 ∷ 6 ∷ 6 ∷ 8 ∷ 6 ∷ 8 ∷ 9 ∷ [])
unfolding is_utf8 chars encode lines words asked_of open_of read_of write_of fill_of sync_of truncate_of put_of access_of decoded decode_pairs
left_to_right = refl

-- ---- lines that are numbered on

of_further_lines : map (script_from 16384) (codes "1 sync 4" ∷ text (codes "#" ∷ codes "2 sync 4" ∷ []) ∷ codes "0 sync 4" ∷ [])
    ≡ Ok (asks 1 16385 (ops.Sync 4) ∷ []) ∷ Ok (asks 2 16386 (ops.Sync 4) ∷ []) ∷ refused 16385 4 ∷ []
unfolding is_utf8 chars encode lines words asked_of sync_of last_line
of_further_lines = refl

-- no line has a number past 268,435,455
of_last_lines : map (script_from 268435454) (codes "1 sync 4" ∷ text (codes "1 sync 4" ∷ codes "1 sync 4" ∷ []) ∷ []) ≡ Ok (asks 1 268435455 (ops.Sync 4) ∷ []) ∷ refused 268435456 3 ∷ []
unfolding is_utf8 chars encode lines words asked_of sync_of last_line
of_last_lines = refl
