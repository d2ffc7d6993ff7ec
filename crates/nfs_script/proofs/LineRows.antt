-- Rows by hand: the lines of answers, of a refused mount, of a refused script and of counts.
use Rattle.std.proofs.Common.{◌≡◌, ℕ, zero, suc, List, [], ◌∷◌, ◌++◌, map, codes, refl}
use Rattle.std.specs.Fmt.{digits}
use Rattle.hex.specs.Hex.{encode_with}
use Rattle.nfs_types.specs.declared.attr.Attr.{Attr}
use Rattle.nfs_types.specs.declared.time.Time.{Time}
use Rattle.world_model.specs.declared.answer.Answer.{Answer}
use Rattle.world_model.specs.declared.answer.Answer.TheVariants as answers
use Rattle.world_model.specs.declared.answer.Fault.{Fault}
use Rattle.world_model.specs.declared.answer.Fault.TheVariants as faults
use Rattle.world_model.specs.declared.answer.Value.{Value}
use Rattle.world_model.specs.declared.answer.Value.TheVariants as values
use Rattle.world_model.specs.Counts.{item_text, tally_text}
use Rattle.world_model.specs.Transcript.{shown, names_text, mode_text, attr_text, line_text, mount_text}
use Rattle.nfs_script.specs.RefusalText.{refusal_text}
use Rattle.nfs_script.specs.DoneText.{done_text}

-- the answer to line 2 of lane 1
abbrev done : Value → List ℕ
done value = line_text 1 2 (answers.Done value)

abbrev refused : Fault → List ℕ
refused fault = line_text 1 2 (answers.Refused fault)

abbrev read : List ℕ → List ℕ
read bytes = done (values.Bytes bytes)

abbrev with_feed : List ℕ → List ℕ
with_feed line = line ++ 10 ∷ []

-- ---- answers

of_faults : map refused (faults.Nfs 2 ∷ faults.Nfs 10008 ∷ faults.Nfs 4294967295 ∷ faults.Rpc 1 ∷ faults.Rpc 205 ∷ faults.Rpc 4294967495 ∷ faults.Bad 7 ∷ faults.Lost ∷ faults.Spent ∷ faults.Slot ∷ faults.Mode ∷ faults.Kind ∷ faults.Many ∷ faults.Memory ∷ [])
    ≡ map with_feed (codes "1 2 nfs 2" ∷ codes "1 2 nfs 10008" ∷ codes "1 2 nfs 4294967295" ∷ codes "1 2 rpc 1" ∷ codes "1 2 rpc 205" ∷ codes "1 2 rpc 4294967495" ∷ codes "1 2 bad 7" ∷ codes "1 2 lost" ∷ codes "1 2 spent" ∷ codes "1 2 slot" ∷ codes "1 2 mode" ∷ codes "1 2 type" ∷ codes "1 2 many" ∷ codes "1 2 memory" ∷ [])
unfolding line_text digits
of_faults = refl

of_lanes : line_text 16 16384 (answers.Done values.Nothing) ≡ with_feed (codes "16 16384 ok")
unfolding line_text digits
of_lanes = refl

-- the greatest that the types hold
of_greatest : line_text 255 4294967295 (answers.Refused faults.Lost) ≡ with_feed (codes "255 4294967295 lost")
unfolding line_text digits
of_greatest = refl

of_reads : map read ([] ∷ codes "hi" ∷ (0 ∷ []) ∷ (255 ∷ 10 ∷ []) ∷ (171 ∷ 205 ∷ 239 ∷ 1 ∷ []) ∷ [])
    ≡ map with_feed (codes "1 2 ok" ∷ codes "1 2 ok 6869" ∷ codes "1 2 ok 00" ∷ codes "1 2 ok ff0a" ∷ codes "1 2 ok abcdef01" ∷ [])
unfolding line_text encode_with digits
of_reads = refl

-- the same bytes so many times
abbrev repeated : ℕ → List ℕ → List ℕ
repeated zero bytes = []
repeated (suc count) bytes = bytes ++ repeated count bytes

-- 63 to 66 bytes, 128 and 600
of_long_reads : map read (repeated 21 (1 ∷ 175 ∷ 156 ∷ []) ∷ repeated 32 (94 ∷ 208 ∷ []) ∷ repeated 13 (1 ∷ 2 ∷ 3 ∷ 4 ∷ 250 ∷ []) ∷ repeated 22 (7 ∷ 112 ∷ 9 ∷ []) ∷ repeated 64 (94 ∷ 208 ∷ []) ∷ repeated 200 (1 ∷ 175 ∷ 156 ∷ []) ∷ [])
    ≡ map with_feed ((codes "1 2 ok " ++ repeated 21 (codes "01af9c")) ∷ (codes "1 2 ok " ++ repeated 32 (codes "5ed0")) ∷ (codes "1 2 ok " ++ repeated 13 (codes "01020304fa")) ∷ (codes "1 2 ok " ++ repeated 22 (codes "077009")) ∷ (codes "1 2 ok " ++ repeated 64 (codes "5ed0")) ∷ (codes "1 2 ok " ++ repeated 200 (codes "01af9c")) ∷ [])
unfolding line_text encode_with digits
of_long_reads = refl

-- bytes 33 to 126 other than `%` as they are
of_texts : map (λ text. done (values.Text text)) ([] ∷ codes "../a/b" ∷ codes "a b%20" ∷ (0 ∷ 32 ∷ 33 ∷ 126 ∷ 127 ∷ 255 ∷ []) ∷ codes "%" ∷ [])
    ≡ map with_feed (codes "1 2 ok" ∷ codes "1 2 ok ../a/b" ∷ codes "1 2 ok a%20b%2520" ∷ codes "1 2 ok %00%20!~%7f%ff" ∷ codes "1 2 ok %25" ∷ [])
unfolding line_text shown digits encode_with
of_texts = refl

of_names : map (λ names. done (values.Names names)) ([] ∷ (codes "a" ∷ []) ∷ (codes "a" ∷ codes "b c" ∷ []) ∷ (codes ".nfs00000000" ∷ codes "x" ∷ []) ∷ (codes " " ∷ codes "%" ∷ (195 ∷ 164 ∷ []) ∷ []) ∷ [])
    ≡ map with_feed (codes "1 2 ok" ∷ codes "1 2 ok a" ∷ codes "1 2 ok a b%20c" ∷ codes "1 2 ok .nfs00000000 x" ∷ codes "1 2 ok %20 %25 %c3%a4" ∷ [])
unfolding line_text shown names_text digits encode_with
of_names = refl

of_rights : map (λ bits. done (values.Bits bits)) (0 ∷ 63 ∷ 4294967295 ∷ []) ≡ map with_feed (codes "1 2 ok 0" ∷ codes "1 2 ok 63" ∷ codes "1 2 ok 4294967295" ∷ [])
unfolding line_text digits
of_rights = refl

abbrev at : ℕ → Time
at seconds = record { seconds = seconds; nanos = 99 }

-- attributes of which each one that is shown is another number, and what isn't shown is 99
abbrev file : ℕ → Attr
file mode = record {
  kind = 1;
  mode = mode;
  nlink = 1;
  uid = 0;
  gid = 0;
  size = 2;
  used = 99;
  rdev_major = 99;
  rdev_minor = 99;
  fsid = 99;
  fileid = 3;
  atime = at 99;
  mtime = at 4;
  ctime = at 99;
}

abbrev dir : Attr
dir = record (file 33261) { kind = 2; nlink = 3; uid = 1000; gid = 100; size = 4096; fileid = 17 }

-- a mode of 0755 above other bits
of_attributes : map (λ attr. done (values.Attrs attr)) (file 420 ∷ dir ∷ []) ≡ map with_feed (codes "1 2 ok 1 0644 1 0 0 2 3 4" ∷ codes "1 2 ok 2 0755 3 1000 100 4096 17 4" ∷ [])
unfolding line_text mode_text attr_text digits
of_attributes = refl

-- the modes 0, 1, 7777, 10000, 104321 and the greatest number, the first five in octal
of_modes : map (λ mode. done (values.Attrs (file mode))) (0 ∷ 1 ∷ 4095 ∷ 4096 ∷ 35025 ∷ 4294967295 ∷ [])
    ≡ map with_feed (codes "1 2 ok 1 0000 1 0 0 2 3 4" ∷ codes "1 2 ok 1 0001 1 0 0 2 3 4" ∷ codes "1 2 ok 1 7777 1 0 0 2 3 4" ∷ codes "1 2 ok 1 0000 1 0 0 2 3 4" ∷ codes "1 2 ok 1 4321 1 0 0 2 3 4" ∷ codes "1 2 ok 1 7777 1 0 0 2 3 4" ∷ [])
unfolding line_text mode_text attr_text digits
of_modes = refl

abbrev most : Attr
most = record (file 420) {
  kind = 4294967295;
  nlink = 4294967294;
  uid = 4294967293;
  gid = 4294967292;
  size = 18446744073709551615;
  fileid = 18446744073709551614;
  mtime = at 4294967291;
}

of_most : done (values.Attrs most) ≡ with_feed (codes "1 2 ok 4294967295 0644 4294967294 4294967293 4294967292 18446744073709551615 18446744073709551614 4294967291")
unfolding line_text mode_text attr_text digits
of_most = refl

-- ---- the other lines

of_mounts : map mount_text (faults.Nfs 13 ∷ faults.Rpc 100 ∷ faults.Bad 2 ∷ faults.Lost ∷ faults.Spent ∷ faults.Memory ∷ [])
    ≡ map with_feed (codes "mount 13" ∷ codes "mount rpc 100" ∷ codes "mount bad 2" ∷ codes "mount lost" ∷ codes "mount spent" ∷ codes "mount memory" ∷ [])
unfolding mount_text digits
of_mounts = refl

of_scripts : map refusal_text (record { line = 0; kind = 10 } ∷ record { line = 1; kind = 5 } ∷ record { line = 16385; kind = 3 } ∷ [])
    ≡ map with_feed (codes "script 0 10" ∷ codes "script 1 5" ∷ codes "script 16385 3" ∷ [])
unfolding refusal_text digits
of_scripts = refl

of_counts : tally_text (record { calls = 9; getattr = 2; lookup = 3; read = 1; write = 4294967295; commit = 0 })
    ≡ with_feed (codes "calls 9 getattr 2 lookup 3 read 1 write 4294967295 commit 0")
unfolding item_text tally_text digits
of_counts = refl

of_batches : done_text 1 0 ++ done_text 4294967295 6 ≡ with_feed (codes "done 1 0") ++ with_feed (codes "done 4294967295 6")
unfolding done_text digits
of_batches = refl
