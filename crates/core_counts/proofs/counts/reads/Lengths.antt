-- A reply to FSINFO is no longer than a record may be.
use Rattle.core_counts.proofs.Prelude.{◌≡◌, ◌≤◌, ◌+◌, ℕ, List, length, Bool, true, false, Option, Some, None, refl, ap, arith, Attr, Time, Accepted}
use Rattle.rpc_message.specs.Reply.{SpellsReply}
use Rattle.std.proofs.lemmas.List.{length-append}
use Rattle.xdr_codec.specs.Spelling.{u32_bytes, u64_bytes, flag_bytes}
use Rattle.xdr_codec.specs.Spells.{SpellsU32, SpellsU64, SpellsFlag, SpellsPadded, SpellsOpaque, SpellsOpt, ◌⨾◌}
use Rattle.nfs_types.specs.Spells.{SpellsTime, SpellsAttr, SpellsOptAttr}
use Rattle.nfs_file_calls.specs.FileSystem.{FsInfoDone, SpellsFsInfoDone}
use Rattle.rpc_message.specs.Auth.{SpellsAuth}

-- bytes of this spelling are no more than so many
abbrev Most : (List ℕ → Type 0) → ℕ → Type 0
Most S n = (bytes : List ℕ) → S bytes → length bytes ≤ n

then-most : (S T : List ℕ → Type 0) (a b : ℕ) → Most S a → Most T b → Most (S ⨾ T) (a + b)
then-most S T a b s t bytes k =
    let one = s k.front k.one in
    let two = t k.back k.two in
    let both = length-append k.front k.back in
    let same = ap (λ (l : List ℕ). length l) k.is in
    omega (arith, one, two, both, same)

u32-length : (v : ℕ) → length (u32_bytes v) ≡ 4
unfolding u32_bytes
u32-length v = refl

u64-length : (v : ℕ) → length (u64_bytes v) ≡ 8
unfolding u64_bytes
u64-length v = refl

flag-length : (b : Bool) → length (flag_bytes b) ≡ 4
unfolding flag_bytes
flag-length true = u32-length 1
flag-length false = u32-length 0

u32-most : (v : ℕ) → Most (SpellsU32 v) 4
u32-most v bytes s = let same = ap (λ (l : List ℕ). length l) s.is in let size = u32-length v in omega (arith, same, size)

u64-most : (v : ℕ) → Most (SpellsU64 v) 8
u64-most v bytes s = let same = ap (λ (l : List ℕ). length l) s.is in let size = u64-length v in omega (arith, same, size)

flag-most : (b : Bool) → Most (SpellsFlag b) 4
flag-most b bytes s = let same = ap (λ (l : List ℕ). length l) s.is in let size = flag-length b in omega (arith, same, size)

opt-most : {A : Type 0} → (S : A → List ℕ → Type 0) (n : ℕ) → ((v : A) → Most (S v) n) → (o : Option A) → Most (SpellsOpt S o) (4 + n)
opt-most S n most None bytes s = let few = flag-most false bytes s in omega (arith, few)
opt-most S n most (Some v) bytes s = then-most (SpellsFlag true) (S v) 4 n (flag-most true) (most v) bytes s

padded-most : (max : ℕ) (v : List ℕ) → Most (SpellsPadded max v) (max + 3)
padded-most max v bytes s =
    let same = ap (λ (l : List ℕ). length l) s.is in
    let both = length-append v s.pad in
    let bound = s.bound in
    let long = s.long in
    omega (arith, same, both, bound, long)

opaque-most : (max : ℕ) (v : List ℕ) → Most (SpellsOpaque max v) (4 + (max + 3))
opaque-most max v = then-most (SpellsU32 (length v)) (SpellsPadded max v) 4 (max + 3) (u32-most (length v)) (padded-most max v)

auth-most : Most SpellsAuth 411
auth-most bytes s = then-most (SpellsU32 s.flavor) (SpellsOpaque 400 s.body) 4 407 (u32-most s.flavor) (opaque-most 400 s.body) bytes s.is

-- a word, and what follows it
word-then : (v : ℕ) (T : List ℕ → Type 0) (b : ℕ) → Most T b → Most (SpellsU32 v ⨾ T) (4 + b)
word-then v T b t = then-most (SpellsU32 v) T 4 b (u32-most v) t

long-then : (v : ℕ) (T : List ℕ → Type 0) (b : ℕ) → Most T b → Most (SpellsU64 v ⨾ T) (8 + b)
long-then v T b t = then-most (SpellsU64 v) T 8 b (u64-most v) t

time-most : (v : Time) → Most (SpellsTime v) 8
time-most v = word-then v.seconds (SpellsU32 v.nanos) 4 (u32-most v.nanos)

time-then : (v : Time) (T : List ℕ → Type 0) (b : ℕ) → Most T b → Most (SpellsTime v ⨾ T) (8 + b)
time-then v T b t = then-most (SpellsTime v) T 8 b (time-most v) t

attr-most : (v : Attr) → Most (SpellsAttr v) 84
attr-most v =
    word-then v.kind _ 80 (word-then v.mode _ 76 (word-then v.nlink _ 72 (word-then v.uid _ 68 (word-then v.gid _ 64 (long-then v.size _ 56 (long-then v.used _ 48
    (word-then v.rdev_major _ 44 (word-then v.rdev_minor _ 40 (long-then v.fsid _ 32 (long-then v.fileid _ 24 (time-then v.atime _ 16 (time-then v.mtime _ 8 (time-most v.ctime)))))))))))))

info-most : (v : FsInfoDone) → Most (SpellsFsInfoDone v) 136
info-most v =
    then-most (SpellsOptAttr v.attr) _ 88 48 (opt-most SpellsAttr 84 attr-most v.attr)
    (word-then v.rtmax _ 44 (word-then v.rtpref _ 40 (word-then v.rtmult _ 36 (word-then v.wtmax _ 32 (word-then v.wtpref _ 28 (word-then v.wtmult _ 24 (word-then v.dtpref _ 20
    (long-then v.maxfilesize _ 12 (time-then v.time_delta _ 4 (u32-most v.properties))))))))))

pub info-results-most : (v : FsInfoDone) → Most (SpellsU32 0 ⨾ SpellsFsInfoDone v) 140
info-results-most v = word-then 0 (SpellsFsInfoDone v) 136 (info-most v)

-- an accepted reply
pub accepted-most : (xid : ℕ) (results bytes : List ℕ) → SpellsReply (Accepted xid results) bytes → length bytes ≤ 427 + length results
accepted-most xid results bytes s =
    let all = word-then xid _ (4 + (4 + (411 + (4 + length results)))) (word-then 1 _ (4 + (411 + (4 + length results))) (word-then 0 _ (411 + (4 + length results))
    (then-most SpellsAuth _ 411 (4 + length results) auth-most (word-then 0 _ (length results) (λ text is. let same = ap (λ (l : List ℕ). length l) is in omega (arith, same)))))) bytes s in
    omega (arith, all)
