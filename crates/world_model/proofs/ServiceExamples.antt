-- Worked examples of the service: a step that a server may make, and steps that it may not.
use Rattle.std.proofs.Common.{inl, ◌≡◌, ℕ, zero, suc, false, List, [], ◌∷◌, length, take, slice_get, Option, Some, None, refl, sym, ap, ◌∙◌, arith}
use Rattle.nfs_types.specs.declared.attr.Attr.{Attr}
use Rattle.nfs_types.specs.declared.time.Time.{Time}
use Rattle.nfs_types.specs.declared.verf.Verf.{Verf}
use Rattle.nfs_types.specs.declared.wcc.Wcc.{Wcc}
use Rattle.nfs_file_calls.specs.declared.call.FileCall.TheVariants as files
use Rattle.nfs_file_calls.specs.declared.owned.FileKept.TheVariants as kept
use Rattle.world_model.specs.declared.message.Call.{Call}
use Rattle.world_model.specs.declared.message.Call.TheVariants as calls
use Rattle.world_model.specs.declared.message.Reply.{Reply}
use Rattle.world_model.specs.declared.message.Reply.TheVariants as replies
use Rattle.world_model.specs.Bytes.{put_at, part}
use Rattle.world_model.specs.Server.{Holds, Bytes, Entries, Text, Object, Server}
use Rattle.world_model.specs.FileService.{Puts}
use Rattle.world_model.specs.NameService.{Begins}
use Rattle.world_model.specs.Service.{Serves, refused, broken_off, done}

-- ---- a server with one file, whose file handle has no byte

abbrev time : ℕ → Time
time n = record { seconds = n; nanos = 0 }

abbrev pub attr : ℕ → ℕ → Attr
attr size changed =
    record {
      kind = 1;
      mode = 420;
      nlink = 1;
      uid = 0;
      gid = 0;
      size = size;
      used = size;
      rdev_major = 0;
      rdev_minor = 0;
      fsid = 1;
      fileid = 2;
      atime = time 1;
      mtime = time changed;
      ctime = time changed;
    }

abbrev pub file : List ℕ → List ℕ → ℕ → Object
file now stable changed = record { attr = attr (length now) changed; gone = false; holds = Bytes now stable }

abbrev alone : Object → List ℕ → Option Object
alone o [] = Some o
alone o (b ∷ h) = None

abbrev pub verf : ℕ → Verf
verf n = record { 0 = n ∷ [] }

abbrev pub server : Object → Server
server o = record { verf = verf 1; object = alone o }

abbrev no_wcc : Wcc
no_wcc = record { before = None; after = None }

-- WRITE of one byte at 0, UNSTABLE, and its reply
abbrev pub write_one : Call
write_one = calls.File (files.Write [] 0 0 (3 ∷ []))

abbrev pub wrote : ℕ → Reply
wrote committed = replies.File (kept.Write no_wcc 1 committed (verf 1))

abbrev before_it : List ℕ
before_it = 1 ∷ 2 ∷ []

abbrev after_it : List ℕ
after_it = 3 ∷ 2 ∷ []

-- ---- what may be

others_stay : (o p : Object) (h : List ℕ) → (h ≡ [] → ⊥) → alone p h ≡ alone o h
others_stay o p [] other = absurd (other refl)
others_stay o p (b ∷ h) other = refl

-- an UNSTABLE write leaves what is stable
may_write : Serves (server (file before_it before_it 2)) write_one (wrote 0) (server (file after_it before_it 3))
may_write = done (record { now = before_it; stable = before_it; puts = puts; shows = record { before = tt; after = tt }; most = omega arith; some = λ some. omega arith; firm = omega arith; known = omega arith; verifier = refl })
  where
    puts : Puts (server (file before_it before_it 2)) (server (file after_it before_it 3)) [] before_it before_it after_it before_it
    puts = record { file = file before_it before_it 2; held = refl; turns = record { has = record { is = refl; there = refl }; new = file after_it before_it 3; is = refl; becomes = record { holds = refl; gone = refl; kind = refl; fileid = refl } }; only = record { verf = refl; others = others_stay (file before_it before_it 2) (file after_it before_it 3) } }

-- ---- what may not be

some : Object → Option Object
some o = Some o

-- what an object that is there holds
holds_or : Holds → Option Object → Holds
holds_or none None = none
holds_or none (Some o) = o.holds

held_is : (o p : Object) (now stable : List ℕ) → Some o ≡ Some p → p.holds ≡ Bytes now stable → o.holds ≡ Bytes now stable
unfolding holds_or
held_is o p now stable e held = ap (holds_or o.holds) e ∙ held

stable_or : Holds → List ℕ
stable_or (Bytes now stable) = stable
stable_or (Entries entries) = []
stable_or (Text text) = []

-- a write that says that its bytes are stable has made them so
may_not_claim : Serves (server (file before_it before_it 2)) write_one (wrote 2) (server (file after_it before_it 3)) → ⊥
unfolding stable_or
may_not_claim (refused r same) = absurd r
may_not_claim (broken_off f offset how bytes status wcc call reply w) = absurd (cc reply)
may_not_claim (done w) =
    let before : before_it ≡ w.stable = ap stable_or (held_is (file before_it before_it 2) w.puts.file w.now w.stable w.puts.turns.has.is w.puts.held) in
    let after : before_it ≡ put_at 0 (3 ∷ []) w.stable = ap stable_or (held_is (file after_it before_it 3) w.puts.turns.new (put_at 0 (3 ∷ []) w.now) (put_at 0 (3 ∷ []) w.stable) w.puts.turns.is w.puts.turns.becomes.holds) in
    let is : before_it ≡ after_it = after ∙ ap (put_at 0 (3 ∷ [])) (sym before) in
    absurd (cc is)

-- a write counts some of its bytes, where it has any
may_not_count_none : Serves (server (file before_it before_it 2)) write_one (replies.File (kept.Write no_wcc 0 0 (verf 1))) (server (file before_it before_it 2)) → ⊥
may_not_count_none (refused r same) = absurd r
may_not_count_none (broken_off f offset how bytes status wcc call reply w) = absurd (cc reply)
may_not_count_none (done w) = let some_counted = w.some (omega arith) in omega (arith, some_counted)

-- another verifier than the server's isn't answered
may_not_change_verifier : Serves (server (file before_it before_it 2)) write_one (replies.File (kept.Write no_wcc 1 0 (verf 2))) (server (file after_it before_it 3)) → ⊥
may_not_change_verifier (refused r same) = absurd r
may_not_change_verifier (broken_off f offset how bytes status wcc call reply w) = absurd (cc reply)
may_not_change_verifier (done w) = absurd (cc (ap (λ (v : Verf). v.0) w.verifier))

-- ---- more that may not be

-- the object of a server with one file is that file
held_now : (o p : Object) (now stable : List ℕ) → Some o ≡ Some p → p.holds ≡ Bytes now stable → (a b : List ℕ) → o.holds ≡ Bytes a b → a ≡ now
held_now o p now stable e held a b is = let q : Bytes a b ≡ Bytes now stable = sym is ∙ held_is o p now stable e held in cc q

-- a read gives the bytes of the file
may_not_read_others : (t : Server) → Serves (server (file before_it before_it 2)) (calls.File (files.Read [] 0 2)) (replies.File (kept.Read None 2 false (1 ∷ 3 ∷ []))) t → ⊥
may_not_read_others t (refused r same) = absurd r
may_not_read_others t (broken_off f offset how bytes status wcc call reply w) = absurd (cc call)
may_not_read_others t (done r) =
    let now : before_it ≡ r.now = held_now (file before_it before_it 2) r.puts.file r.now r.stable r.puts.turns.has.is r.puts.held before_it before_it refl in
    let is : 1 ∷ 3 ∷ [] ≡ part 0 2 before_it = r.is ∙ ap (part 0 2) (sym now) in
    absurd (cc is)

-- a commit answers the server's verifier
may_not_commit_by_another : (t : Server) → Serves (server (file before_it before_it 2)) (calls.File (files.Commit [] 0 0)) (replies.File (kept.Commit no_wcc (verf 2))) t → ⊥
may_not_commit_by_another t (refused r same) = absurd r
may_not_commit_by_another t (broken_off f offset how bytes status wcc call reply w) = absurd (cc call)
may_not_commit_by_another t (done c) = absurd (cc (ap (λ (v : Verf). v.0) c.verifier))

-- WRITE of one byte at 0 that is refused, in the midst or at once
abbrev refuses_it : Reply
refuses_it = replies.File (kept.WriteFail (record { 0 = 28 }) no_wcc)

-- a refused write may have put its bytes, and they may be stable or not
may_break_off : Serves (server (file before_it before_it 2)) write_one refuses_it (server (file after_it before_it 3))
may_break_off = broken_off [] 0 0 (3 ∷ []) (record { 0 = 28 }) no_wcc refl refl (record { now = before_it; stable = before_it; steady = before_it; count = 1; puts = puts; kept = inl refl; nonzero = λ e. absurd (cc e); shows = record { before = tt; after = tt } })
  where
    puts : Puts (server (file before_it before_it 2)) (server (file after_it before_it 3)) [] before_it before_it after_it before_it
    puts = record { file = file before_it before_it 2; held = refl; turns = record { has = record { is = refl; there = refl }; new = file after_it before_it 3; is = refl; becomes = record { holds = refl; gone = refl; kind = refl; fileid = refl } }; only = record { verf = refl; others = others_stay (file before_it before_it 2) (file after_it before_it 3) } }

-- it may not have changed a place that it isn't of
abbrev elsewhere : List ℕ
elsewhere = 1 ∷ 9 ∷ []

second : List ℕ → Option ℕ
second list = slice_get list 1

second_stays : (count : ℕ) → slice_get (put_at 0 (take count (3 ∷ [])) before_it) 1 ≡ Some 2
second_stays zero = refl
second_stays (suc zero) = refl
second_stays (suc (suc count)) = refl

may_not_change_elsewhere : Serves (server (file before_it before_it 2)) write_one refuses_it (server (file elsewhere before_it 3)) → ⊥
unfolding some second
may_not_change_elsewhere (refused r same) =
    let is : elsewhere ≡ before_it = held_now (file elsewhere before_it 3) (file before_it before_it 2) before_it before_it (same.object []) refl elsewhere before_it refl in
    absurd (cc is)
may_not_change_elsewhere (broken_off f offset how bytes status wcc call reply w) =
    let o : 0 ≡ offset = cc call in
    let b : 3 ∷ [] ≡ bytes = cc call in
    let h : [] ≡ f = cc call in
    let was : some (file before_it before_it 2) ≡ Some w.puts.file = ap (server (file before_it before_it 2)).object h ∙ w.puts.turns.has.is in
    let is : some (file elsewhere before_it 3) ≡ Some w.puts.turns.new = ap (server (file elsewhere before_it 3)).object h ∙ w.puts.turns.is in
    let now : before_it ≡ w.now = held_now (file before_it before_it 2) w.puts.file w.now w.stable was w.puts.held before_it before_it refl in
    let later : elsewhere ≡ put_at offset (take w.count bytes) w.now = held_now (file elsewhere before_it 3) w.puts.turns.new _ w.steady is w.puts.turns.becomes.holds elsewhere before_it refl in
    let put : elsewhere ≡ put_at 0 (take w.count (3 ∷ [])) before_it = rw (o, b, now) later in
    absurd (cc (ap second put ∙ second_stays w.count))
may_not_change_elsewhere (done d) = absurd d

-- a handle that an object has isn't given to a new one
may_not_reuse : (o : Object) (t : Server) (kind : ℕ) (holds : Holds) → Begins (server o) t [] kind holds → ⊥
may_not_reuse o t kind holds b = absurd (cc b.never)
