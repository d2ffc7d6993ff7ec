-- A small server, and what it may do: a directory under the empty handle, with one name for one file.
use Rattle.std.proofs.Common.{inl, inr, ◌⊎◌, ◌≡◌, ◌≤◌, ◌+◌, ℕ, zero, suc, Bool, true, false, List, [], ◌∷◌, length, take, Option, Some, None, refl, ap, subst, ◌∙◌, arith}
use Rattle.std.proofs.lemmas.List.Elements.{All-nil, All-cons}
use Rattle.nfs_types.specs.declared.attr.Attr.{Attr}
use Rattle.nfs_types.specs.declared.time.Time.{Time}
use Rattle.nfs_types.specs.declared.verf.Verf.{Verf}
use Rattle.nfs_types.specs.declared.wcc.Wcc.{Wcc}
use Rattle.nfs_types.specs.Stamps.{stamp_of}
use Rattle.mount_calls.specs.declared.reply.MountReply.TheVariants as mounted
use Rattle.nfs_file_calls.specs.declared.call.FileCall.TheVariants as files
use Rattle.nfs_file_calls.specs.declared.owned.FileKept.TheVariants as kept
use Rattle.world_model.specs.declared.message.Call.{Call}
use Rattle.world_model.specs.declared.message.Call.TheVariants as calls
use Rattle.world_model.specs.declared.message.Reply.{Reply}
use Rattle.world_model.specs.declared.message.Reply.TheVariants as replies
use Rattle.world_model.specs.Bytes.{put_at, part, committed_part}
use Rattle.world_model.specs.FileService.{Puts}
use Rattle.world_model.specs.Mounts.{mount_call, info_call}
use Rattle.world_model.specs.Server as servers
use Rattle.world_model.specs.Server.{Listed, Bytes, Entries, Object, Server, IsServer, IsSound, Names, HasName}
use Rattle.world_model.specs.Service.{Serves, refused, done}
use Rattle.world_model.specs.Steps.{Same, Turns, Reads, TrueWcc}
use Rattle.claims.specs.Asks.{look_up, looked_up}

abbrev pub root : List ℕ
root = []

abbrev pub the_file : List ℕ
the_file = zero ∷ []

-- What the server holds: a verifier; the bytes of the file now and after a restart, and when it was changed; the one letter
-- of its name, and when the directory was changed.
pub record State : Type 0 where
  pub verf : ℕ
  pub now : List ℕ
  pub stable : List ℕ
  pub changed : ℕ
  pub letter : ℕ
  pub moved : ℕ

abbrev pub time : ℕ → Time
time n = record { seconds = n; nanos = 0 }

abbrev pub attr_of : ℕ → ℕ → ℕ → ℕ → Attr
attr_of kind size fileid changed =
    record {
      kind = kind;
      mode = 420;
      nlink = 1;
      uid = 0;
      gid = 0;
      size = size;
      used = size;
      rdev_major = 0;
      rdev_minor = 0;
      fsid = 1;
      fileid = fileid;
      atime = time 1;
      mtime = time changed;
      ctime = time changed;
    }

abbrev pub file_attr : State → Attr
file_attr s = attr_of 1 (length s.now) 2 s.changed

abbrev pub verf : ℕ → Verf
verf n = record { 0 = n ∷ 0 ∷ 0 ∷ 0 ∷ 0 ∷ 0 ∷ 0 ∷ 0 ∷ [] }

abbrev pub name_of : State → List ℕ
name_of s = s.letter ∷ []

abbrev entry_of : State → Listed
entry_of s = record { name = name_of s; object = the_file; cookie = 1 }

abbrev pub directory : State → Object
directory s = record { attr = attr_of 2 0 1 s.moved; gone = false; holds = Entries (entry_of s ∷ []) }

abbrev pub file : State → Object
file s = record { attr = file_attr s; gone = false; holds = Bytes s.now s.stable }

abbrev pub place : State → List ℕ → Option Object
place s [] = Some (directory s)
place s (zero ∷ []) = Some (file s)
place s (zero ∷ c ∷ h) = None
place s (suc b ∷ h) = None

abbrev pub serve : State → Server
serve s = record { verf = verf s.verf; object = place s }

-- a file that is named `a` and is empty
abbrev pub empty_server : State
empty_server = record { verf = 1; now = []; stable = []; changed = 1; letter = 97; moved = 1 }

-- ---- which server this is

abbrev some : Object → Option Object
some o = Some o

some_is : (a b : Object) → some a ≡ some b → a ≡ b
some_is a b e = cc

abbrev pub IsOne : State → List ℕ → Object → Type 0
IsOne s h o = ((h ≡ root) × (directory s ≡ o)) ⊎ ((h ≡ the_file) × (file s ≡ o))

-- an object is the directory or the file
pub one_of : (s : State) (h : List ℕ) (o : Object) → (serve s).object h ≡ Some o → IsOne s h o
one_of s [] o is = inl (refl, some_is (directory s) o is)
one_of s (zero ∷ []) o is = inr (refl, some_is (file s) o is)
one_of s (zero ∷ c ∷ h) o is = absurd (cc is)
one_of s (suc b ∷ h) o is = absurd (cc is)

pub is_server : (s : State) → length s.stable ≤ length s.now → IsServer (serve s)
is_server s le h o is = elim (one_of s h o is) [
  | inl k ↦ subst IsSound k.1 (servers.directory (entry_of s ∷ []) refl refl (All-cons (λ (z : Listed). 1 ≤ z.cookie) (entry_of s) [] (omega arith) (All-nil (λ (z : Listed). 1 ≤ z.cookie))))
  | inr k ↦ subst IsSound k.1 (servers.file s.now s.stable refl refl refl le)
]

pub none_gone : (s : State) (h : List ℕ) (o : Object) → (serve s).object h ≡ Some o → o.gone ≡ true → ⊥
none_gone s h o is gone = elim (one_of s h o is) [
  | inl k ↦ absurd (cc (ap (λ (z : Object). z.gone) k.1 ∙ gone))
  | inr k ↦ absurd (cc (ap (λ (z : Object). z.gone) k.1 ∙ gone))
]

-- ---- calls that change nothing

pub stays : (s : State) → Same (serve s) (serve s)
stays s = record { verf = refl; object = λ h. refl }

turns_as : (s : State) (h : List ℕ) (o : Object) → (serve s).object h ≡ Some o → o.gone ≡ false → Turns (serve s) (serve s) h o o.holds
turns_as s h o is there = record { has = record { is = is; there = there }; new = o; is = is; becomes = record { holds = refl; gone = refl; kind = refl; fileid = refl } }

abbrev reads_root : (s : State) → Reads (serve s) (serve s) root
reads_root s = record { object = directory s; turns = turns_as s root (directory s) refl refl }

abbrev reads_file : (s : State) → Reads (serve s) (serve s) the_file
reads_file s = record { object = file s; turns = turns_as s the_file (file s) refl refl }

abbrev pub mounted_reply : Reply
mounted_reply = replies.Mount (mounted.MntOk root (1 ∷ []))

pub may_mount : (s : State) (path : List ℕ) → Serves (serve s) (mount_call path) mounted_reply (serve s)
may_mount s path = done (stays s)

-- sizes of 65,536 bytes
abbrev pub info_reply : Reply
info_reply = replies.File (kept.FsInfo None 65536 65536 4096 65536 65536 4096 4096 1048576 (time 1) 27)

pub may_inform : (s : State) → Serves (serve s) (info_call root) info_reply (serve s)
may_inform s = done (record { looks = record { reads = reads_root s; only = record { verf = refl; others = λ h other. refl } }; shows = tt })

-- LOOKUP of `a`
abbrev pub the_lookup : Call
the_lookup = look_up root (97 ∷ [])

abbrev pub the_found : Reply
the_found = looked_up the_file None None

pub may_look_up : (s : State) → s.letter ≡ 97 → Serves (serve s) the_lookup the_found (serve s)
may_look_up s letter = done (record {
  named = record { names = record { dir = directory s; entries = entry_of s ∷ []; cookie = 1; is = refl; holds = refl; listed = (0, rw letter refl) }; there = refl };
  reads = reads_root s;
  only = record { verf = refl; others = λ h other. refl };
  object = file s;
  there = refl;
  turns = turns_as s the_file (file s) refl refl;
  shows = tt;
  shows_dir = tt;
})

abbrev pub get_attr : Call
get_attr = calls.File (files.GetAttr the_file)

abbrev pub got_attr : State → Reply
got_attr s = replies.File (kept.GetAttr (file_attr s))

pub may_get_attr : (s : State) → Serves (serve s) get_attr (got_attr s) (serve s)
may_get_attr s = done (record { looks = record { reads = reads_file s; only = record { verf = refl; others = λ h other. refl } }; shows = (file s, refl, refl) })

-- ---- calls that change the file

pub other_places : (s t : State) → directory t ≡ directory s → (h : List ℕ) → (h ≡ the_file → ⊥) → place t h ≡ place s h
other_places s t same_dir [] other = ap some same_dir
other_places s t same_dir (zero ∷ []) other = absurd (other refl)
other_places s t same_dir (zero ∷ c ∷ h) other = refl
other_places s t same_dir (suc b ∷ h) other = refl

-- the file goes from one state to another, and nothing else changes
puts : (s t : State) → directory t ≡ directory s → t.verf ≡ s.verf → Puts (serve s) (serve t) the_file s.now s.stable t.now t.stable
puts s t same_dir same_verf = record {
  file = file s;
  held = refl;
  turns = record { has = record { is = refl; there = refl }; new = file t; is = refl; becomes = record { holds = refl; gone = refl; kind = refl; fileid = refl } };
  only = record { verf = ap verf same_verf; others = other_places s t same_dir };
}

abbrev pub no_wcc : Wcc
no_wcc = record { before = None; after = None }

abbrev pub wcc_of : State → State → Wcc
wcc_of s t = record { before = Some (stamp_of (file_attr s)); after = Some (file_attr t) }

abbrev pub write_of : ℕ → List ℕ → Call
write_of offset bytes = calls.File (files.Write the_file offset 0 bytes)

abbrev pub wrote_of : Wcc → ℕ → ℕ → ℕ → Reply
wrote_of wcc count committed v = replies.File (kept.Write wcc count committed (verf v))

no_wcc_true : (s t : State) → TrueWcc (serve s) (serve t) the_file no_wcc
no_wcc_true s t = record { before = tt; after = tt }

wcc_true : (s t : State) → TrueWcc (serve s) (serve t) the_file (wcc_of s t)
wcc_true s t = record { before = (file s, refl, refl); after = (file t, refl, refl) }

-- the state after a WRITE, UNSTABLE, of bytes at an offset
abbrev pub after_write : State → ℕ → List ℕ → ℕ → State
after_write s offset bytes changed = record s { now = put_at offset (take (length bytes) bytes) s.now; changed = changed }

pub may_write : (s : State) (offset changed : ℕ) (bytes : List ℕ) → 1 ≤ length bytes → Serves (serve s) (write_of offset bytes) (wrote_of no_wcc (length bytes) 0 s.verf) (serve (after_write s offset bytes changed))
may_write s offset changed bytes some_bytes = done (record {
  now = s.now;
  stable = s.stable;
  puts = puts s (after_write s offset bytes changed) refl refl;
  shows = no_wcc_true s (after_write s offset bytes changed);
  most = omega arith;
  some = λ le. le;
  firm = omega arith;
  known = omega arith;
  verifier = refl;
})

-- the same, with the attributes before and after
pub may_write_wcc : (s : State) (offset changed : ℕ) (bytes : List ℕ) → 1 ≤ length bytes
    → Serves (serve s) (write_of offset bytes) (wrote_of (wcc_of s (after_write s offset bytes changed)) (length bytes) 0 s.verf) (serve (after_write s offset bytes changed))
may_write_wcc s offset changed bytes some_bytes = done (record {
  now = s.now;
  stable = s.stable;
  puts = puts s (after_write s offset bytes changed) refl refl;
  shows = wcc_true s (after_write s offset bytes changed);
  most = omega arith;
  some = λ le. le;
  firm = omega arith;
  known = omega arith;
  verifier = refl;
})

-- NFS3ERR_NOSPC, 28, where nothing was written
abbrev pub no_space : Reply
no_space = replies.File (kept.WriteFail (record { 0 = 28 }) no_wcc)

pub may_refuse_write : (s : State) (offset : ℕ) (bytes : List ℕ) → Serves (serve s) (write_of offset bytes) no_space (serve s)
may_refuse_write s offset bytes = refused (record { nonzero = λ e. absurd (cc e); shows = no_wcc_true s s }) (stays s)

abbrev pub commit : Call
commit = calls.File (files.Commit the_file 0 0)

abbrev pub committed : ℕ → Reply
committed v = replies.File (kept.Commit no_wcc (verf v))

-- the state after a COMMIT of the whole file
abbrev pub after_commit : State → State
after_commit s = record s { stable = put_at 0 (committed_part 0 0 s.now) s.stable }

pub may_commit : (s : State) → Serves (serve s) commit (committed s.verf) (serve (after_commit s))
may_commit s = done (record { now = s.now; stable = s.stable; puts = puts s (after_commit s) refl refl; shows = no_wcc_true s (after_commit s); verifier = refl })

-- READ of one byte
abbrev pub read_of : ℕ → Call
read_of offset = calls.File (files.Read the_file offset 1)

abbrev pub read_reply : ℕ → Bool → Reply
read_reply byte eof = replies.File (kept.Read None 1 eof (byte ∷ []))

pub may_read : (s : State) (offset byte : ℕ) (eof : Bool) → byte ∷ [] ≡ part offset 1 s.now → (eof ≡ true → length s.now ≤ offset + 1) → Serves (serve s) (read_of offset) (read_reply byte eof) (serve s)
may_read s offset byte eof is at_end = done (record {
  now = s.now;
  stable = s.stable;
  puts = puts s s refl refl;
  shows = tt;
  is = is;
  long = refl;
  most = omega arith;
  end_ = at_end;
  some = λ none. absurd (cc none);
})
