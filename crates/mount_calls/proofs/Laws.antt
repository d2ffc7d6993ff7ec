-- Calls and replies: what is read is spelled so, and what is spelled so is read.
use Rattle.std.proofs.Common.{◌≡◌, ◌≤◌, ◌<◌, ◌^◌, ◌⊎◌, inl, inr, ℕ, zero, suc, Bool, true, false, cond, ◌==◌, List, [], ◌∷◌, ◌++◌, length, slice_index_or, get_or, Result, Ok, Err, refl, sym, ap, subst, ◌∙◌, append_assoc, arith}
use Rattle.std.specs.Prelude.{IfOk, OnOk}
use Rattle.std.specs.List.{All}
use Rattle.std.proofs.lemmas.Bool.{eqb-true, ne_eqb, le-ltb}
use Rattle.std.proofs.lemmas.List.{append-nil}
use Rattle.xdr_codec.specs.declared.reader.XdrFault.{XdrFault}
use Rattle.xdr_codec.specs.declared.reader.XdrFault.TheVariants.{BadValue}
use Rattle.xdr_codec.specs.declared.codec_fault.CodecFault.{CodecFault}
use Rattle.xdr_codec.specs.Reading.{◌>>=◌, u32_at, opaque_at, end_at}
use Rattle.xdr_codec.specs.Spelling.{u32_bytes, flag_bytes, opaque_bytes}
use Rattle.xdr_codec.specs.Bytes.{IsBytes}
use Rattle.xdr_codec.specs.Spells.{◌⨾◌, SpellsU32, SpellsOpaque, SpellsList}
use Rattle.xdr_codec.specs.Whole.{ended, FindsOwned}
use Rattle.xdr_codec.proofs.Laws.{Codec, bind_ok, field_if, last_if, always, u32_codec}
use Rattle.xdr_codec.proofs.MoreLaws.{of, ok_is, opaque_codec, list_codec, opaque_written}
use Rattle.xdr_codec.proofs.WholeLaws.{WholeCodec, whole_codec}
use Rattle.nfs_types.specs.Fields.{handle_at, handle_bytes}
use Rattle.nfs_types.specs.Spells.{SpellsHandle}
use Rattle.nfs_types.proofs.Laws.{handle_codec}
use Rattle.mount_calls.specs.declared.exports.ExportRow.{ExportRow}
use Rattle.mount_calls.specs.declared.call.MountCall.{MountCall}
use Rattle.mount_calls.specs.declared.call.MountCall.TheVariants as calls
use Rattle.mount_calls.specs.declared.reply.MountReply.{MountReply}
use Rattle.mount_calls.specs.declared.reply.MountReply.TheVariants as replies
use Rattle.mount_calls.specs.Lists.{SpellsNothing, SpellsMany}
use Rattle.mount_calls.specs.Flavors.{words_at, words_bytes, flavors_at, flavors_bytes, SpellsFlavors}
use Rattle.mount_calls.specs.Exports.{groups_at, groups_bytes, SpellsGroups, AreGroups, row_at, row_bytes, SpellsRow, IsRow, exports_at, exports_bytes, SpellsExports, AreExports}
use Rattle.mount_calls.specs.Calls.{mount_proc, null_call_at, mnt_call_at, umnt_call_at, export_call_at, mount_call_at, SpellsMountArgs, SpellsMountCall, HasSpellingCall, mount_call_bytes}
use Rattle.mount_calls.specs.Replies.{reply_proc, null_reply_at, mnt_done_at, mnt_reply_at, umnt_reply_at, export_reply_at, mount_reply_at, SpellsFailure, SpellsMountResults, SpellsMountReply, HasSpellingReply, mnt_ok_bytes, mount_reply_bytes}
use Rattle.mount_calls.proofs.ListLaws.{nothing_codec, counted_codec, list_spelled}

-- ---- fields

pub flavors_codec : Codec flavors_at SpellsFlavors
unfolding flavors_at
flavors_codec = counted_codec 64 u32_codec

pub groups_codec : Codec groups_at SpellsGroups
unfolding groups_at
groups_codec = list_codec (opaque_codec 255)

pub row_codec : Codec row_at SpellsRow
unfolding row_at
row_codec = always (field_if (λ r. r.path) (opaque_codec 1024) (λ path. last_if (λ r. r.groups) (λ groups. record { path = path; groups = groups }) groups_codec (λ a. ((tt, refl), refl)) (λ b k. rw (← k.1) refl)))

pub exports_codec : Codec exports_at SpellsExports
unfolding exports_at
exports_codec = list_codec row_codec

-- ---- all of the bytes

-- what is made of a value that was read from all of the bytes
made_takes : {A B : Type 0} {read : List ℕ → Result A XdrFault} {S : A → List ℕ → Type 0} (T : B → List ℕ → Type 0) (make : A → B) → WholeCodec read S
    → ((a : A) (bytes : List ℕ) → S a bytes → T (make a) bytes) → (bytes : List ℕ) (v : B) → IsBytes bytes → (read bytes >>= λ a. Ok (make a)) ≡ Ok v → T v bytes
made_takes {B = B} {read = read} T make c spells bytes v fits e =
    let o = bind_ok (read bytes) (λ a. Ok (make a)) v e in
    subst (λ (b : B). T b bytes) (ok_is (make o.0) v o.2) (spells o.0 bytes (c.takes bytes o.0 fits o.1))

made_again : {A B : Type 0} {read : List ℕ → Result A XdrFault} {S : A → List ℕ → Type 0} (make : A → B) → WholeCodec read S → (a : A) (bytes : List ℕ) → S a bytes
    → (read bytes >>= λ x. Ok (make x)) ≡ Ok (make a)
made_again make c a bytes s = rw (c.again a bytes s) refl

by_test : {A : Type 0} (b : Bool) (r s : Result A XdrFault) (v : A) → cond b r s ≡ Ok v → ((b ≡ true) × (r ≡ Ok v)) ⊎ (s ≡ Ok v)
by_test true r s v e = inl (refl, e)
by_test false r s v e = inr e

-- the procedure is n, or what is read is read by the rest
dispatch : {A T : Type 0} (n proc : ℕ) (r s : Result A XdrFault) (v : A) → (proc ≡ n → r ≡ Ok v → T) → (s ≡ Ok v → T) → cond (proc == n) r s ≡ Ok v → T
dispatch n proc r s v here there e = elim (by_test (proc == n) r s v e) [ inl p ↦ here (eqb-true proc n p.0) p.1 | inr q ↦ there q ]

abbrev none : {A : Type 0} → XdrFault → Result A XdrFault
none d = Err d

-- no procedure at all
nothing_read : {A T : Type 0} (d : XdrFault) (v : A) → none {A = A} d ≡ Ok v → T
nothing_read d v e = absurd cc

-- ---- calls

null_call_takes : (args : List ℕ) (v : MountCall) → IsBytes args → null_call_at args ≡ Ok v → SpellsMountCall 0 v args
unfolding null_call_at
null_call_takes = made_takes (SpellsMountCall 0) (λ v. calls.Null) (whole_codec nothing_codec) (λ a args s. record { names = refl; is = s })

mnt_call_takes : (args : List ℕ) (v : MountCall) → IsBytes args → mnt_call_at args ≡ Ok v → SpellsMountCall 1 v args
unfolding mnt_call_at
mnt_call_takes = made_takes (SpellsMountCall 1) (λ path. calls.Mnt path) (whole_codec (opaque_codec 1024)) (λ a args s. record { names = refl; is = s })

umnt_call_takes : (args : List ℕ) (v : MountCall) → IsBytes args → umnt_call_at args ≡ Ok v → SpellsMountCall 3 v args
unfolding umnt_call_at
umnt_call_takes = made_takes (SpellsMountCall 3) (λ path. calls.Umnt path) (whole_codec (opaque_codec 1024)) (λ a args s. record { names = refl; is = s })

export_call_takes : (args : List ℕ) (v : MountCall) → IsBytes args → export_call_at args ≡ Ok v → SpellsMountCall 5 v args
unfolding export_call_at
export_call_takes = made_takes (SpellsMountCall 5) (λ v. calls.Export) (whole_codec nothing_codec) (λ a args s. record { names = refl; is = s })

call_takes : (proc : ℕ) (args : List ℕ) (v : MountCall) → IsBytes args → mount_call_at proc args ≡ Ok v → SpellsMountCall proc v args
call_takes proc args v fits =
    dispatch 0 proc _ _ v (λ p e. rw p (null_call_takes args v fits e)) (
    dispatch 1 proc _ _ v (λ p e. rw p (mnt_call_takes args v fits e)) (
    dispatch 3 proc _ _ v (λ p e. rw p (umnt_call_takes args v fits e)) (
    dispatch 5 proc _ _ v (λ p e. rw p (export_call_takes args v fits e)) (
    nothing_read BadValue v))))

call_again : (v : MountCall) (args : List ℕ) → SpellsMountArgs v args → mount_call_at (mount_proc v) args ≡ Ok v
unfolding null_call_at mnt_call_at umnt_call_at export_call_at
call_again calls.Null args s = made_again (λ v. calls.Null) (whole_codec nothing_codec) tt args s
call_again (calls.Mnt path) args s = made_again (λ path. calls.Mnt path) (whole_codec (opaque_codec 1024)) path args s
call_again (calls.Umnt path) args s = made_again (λ path. calls.Umnt path) (whole_codec (opaque_codec 1024)) path args s
call_again calls.Export args s = made_again (λ v. calls.Export) (whole_codec nothing_codec) tt args s

pub mount_call_codec : (proc : ℕ) → WholeCodec (mount_call_at proc) (SpellsMountCall proc)
mount_call_codec proc = record {
  takes = call_takes proc;
  again = λ v args s. rw (← s.names) (call_again v args s.is);
}

-- a call that bytes spell has a spelling
call_has : (v : MountCall) (args : List ℕ) → SpellsMountArgs v args → HasSpellingCall v
call_has calls.Null args s = tt
call_has (calls.Mnt path) args s = s.two.bound
call_has (calls.Umnt path) args s = s.two.bound
call_has calls.Export args s = tt

pub read_call_has : (proc : ℕ) (args : List ℕ) (result : Result MountCall CodecFault) → FindsOwned (SpellsMountCall proc) args result → IfOk result HasSpellingCall
read_call_has proc args (Ok v) f = call_has v args f.found.is
read_call_has proc args (Err e) f = tt

pub call_written : (v : MountCall) → HasSpellingCall v → SpellsMountArgs v (mount_call_bytes v)
unfolding mount_call_bytes
call_written calls.Null h = record { is = refl }
call_written (calls.Mnt path) h = opaque_written 1024 path h (omega arith)
call_written (calls.Umnt path) h = opaque_written 1024 path h (omega arith)
call_written calls.Export h = record { is = refl }

-- ---- replies

ended_ok : {A : Type 0} (x : A) (rest : List ℕ) (v : A) → ended x rest ≡ Ok v → (rest ≡ []) × (x ≡ v)
ended_ok x [] v e = (refl, ok_is x v e)
ended_ok x (b ∷ rest) v e = absurd cc

null_reply_takes : (results : List ℕ) (v : MountReply) → IsBytes results → null_reply_at results ≡ Ok v → SpellsMountReply 0 v results
unfolding null_reply_at
null_reply_takes = made_takes (SpellsMountReply 0) (λ v. replies.Null) (whole_codec nothing_codec) (λ a results s. record { names = refl; is = s })

umnt_reply_takes : (results : List ℕ) (v : MountReply) → IsBytes results → umnt_reply_at results ≡ Ok v → SpellsMountReply 3 v results
unfolding umnt_reply_at
umnt_reply_takes = made_takes (SpellsMountReply 3) (λ v. replies.Umnt) (whole_codec nothing_codec) (λ a results s. record { names = refl; is = s })

export_reply_takes : (results : List ℕ) (v : MountReply) → IsBytes results → export_reply_at results ≡ Ok v → SpellsMountReply 5 v results
unfolding export_reply_at
export_reply_takes = made_takes (SpellsMountReply 5) (λ list. replies.Export list) (whole_codec exports_codec) (λ a results s. record { names = refl; is = s })

-- after the status
mnt_as_takes : (stat : ℕ) (results front rest : List ℕ) (v : MountReply) → IsBytes rest → results ≡ front ++ rest → SpellsU32 stat front
    → cond (stat == 0) (mnt_done_at rest) (ended (replies.MntFail stat) rest) ≡ Ok v → SpellsMountReply 1 v results
unfolding mnt_done_at
mnt_as_takes zero results front rest v fits is s e =
    let o = bind_ok (handle_at rest) _ v e in
    let t = handle_codec.takes rest o.0 fits o.1 in
    let p = bind_ok (flavors_at o.0.1) _ v o.2 in
    let u = flavors_codec.takes o.0.1 p.0 t.rest p.1 in
    let d = ended_ok (replies.MntOk o.0.0 p.0.0) p.0.1 v p.2 in
    let back : o.0.1 ≡ u.front = u.is ∙ ap (λ (k : List ℕ). u.front ++ k) d.0 ∙ append-nil u.front in
    subst (λ (y : MountReply). SpellsMountReply 1 y results) d.1
    (record { names = refl; is = record { front = front; back = rest; is = is; one = s; two = record { front = t.front; back = o.0.1; is = t.is; one = t.spells; two = subst (λ (k : List ℕ). SpellsFlavors p.0.0 k) (sym back) u.spells } } })
mnt_as_takes (suc n) results front rest v fits is s e =
    let other : (suc n == 0) ≡ false = ne_eqb (suc n) 0 (λ q. omega (arith, q)) in
    let d = ended_ok (replies.MntFail (suc n)) rest v (rw other at e) in
    let whole : front ≡ results = sym (is ∙ ap (λ (k : List ℕ). front ++ k) d.0 ∙ append-nil front) in
    subst (λ (y : MountReply). SpellsMountReply 1 y results) d.1 (record { names = refl; is = record { failed = omega arith; is = subst (λ (k : List ℕ). SpellsU32 (suc n) k) whole s } })

mnt_reply_takes : (results : List ℕ) (v : MountReply) → IsBytes results → mnt_reply_at results ≡ Ok v → SpellsMountReply 1 v results
unfolding mnt_reply_at
mnt_reply_takes results v fits e =
    let o = bind_ok (u32_at results) _ v e in
    let t = u32_codec.takes results o.0 fits o.1 in
    mnt_as_takes o.0.0 results t.front o.0.1 v t.rest t.is t.spells o.2

reply_takes : (proc : ℕ) (results : List ℕ) (v : MountReply) → IsBytes results → mount_reply_at proc results ≡ Ok v → SpellsMountReply proc v results
reply_takes proc results v fits =
    dispatch 0 proc _ _ v (λ p e. rw p (null_reply_takes results v fits e)) (
    dispatch 1 proc _ _ v (λ p e. rw p (mnt_reply_takes results v fits e)) (
    dispatch 3 proc _ _ v (λ p e. rw p (umnt_reply_takes results v fits e)) (
    dispatch 5 proc _ _ v (λ p e. rw p (export_reply_takes results v fits e)) (
    nothing_read BadValue v))))

failure_again : (stat : ℕ) (results : List ℕ) → SpellsFailure stat results → mnt_reply_at results ≡ Ok (replies.MntFail stat)
unfolding mnt_reply_at
failure_again stat results s =
    let other : (stat == 0) ≡ false = ne_eqb stat 0 (λ q. omega (arith, q, s.failed)) in
    rw (← append-nil results, u32_codec.again stat results [] s.is, other) refl

reply_again : (v : MountReply) (results : List ℕ) → SpellsMountResults v results → mount_reply_at (reply_proc v) results ≡ Ok v
unfolding null_reply_at mnt_reply_at mnt_done_at umnt_reply_at export_reply_at
reply_again replies.Null results s = made_again (λ v. replies.Null) (whole_codec nothing_codec) tt results s
reply_again (replies.MntOk root flavors) results s =
    rw (
      s.is,
      u32_codec.again 0 s.front s.back s.one,
      s.two.is,
      handle_codec.again root s.two.front s.two.back s.two.one,
      ← append-nil s.two.back,
      flavors_codec.again flavors s.two.back [] s.two.two,
    ) refl
reply_again (replies.MntFail stat) results s = failure_again stat results s
reply_again replies.Umnt results s = made_again (λ v. replies.Umnt) (whole_codec nothing_codec) tt results s
reply_again (replies.Export list) results s = made_again (λ list. replies.Export list) (whole_codec exports_codec) list results s

pub mount_reply_codec : (proc : ℕ) → WholeCodec (mount_reply_at proc) (SpellsMountReply proc)
mount_reply_codec proc = record {
  takes = reply_takes proc;
  again = λ v results s. rw (← s.names) (reply_again v results s.is);
}

-- ---- a reply that bytes spell has a spelling

all_first : {X : Type 0} (P : X → Type 0) (x : X) (xs : List X) → P x → All P xs → All P (x ∷ xs)
all_first P x xs p all zero d lt = p
all_first P x xs p all (suc k) d lt = all k d (omega (arith, lt))

groups_are : (names : List (List ℕ)) (bytes : List ℕ) → SpellsGroups names bytes → AreGroups names
groups_are [] bytes s = λ k d lt. absurd (omega (arith, lt))
groups_are (name ∷ names) bytes s = all_first (λ (n : List ℕ). length n ≤ 255) name names s.two.one.two.bound (groups_are names s.two.back s.two.two)

rows_are : (rows : List ExportRow) (bytes : List ℕ) → SpellsExports rows bytes → AreExports rows
rows_are [] bytes s = λ k d lt. absurd (omega (arith, lt))
rows_are (row ∷ rows) bytes s =
    all_first IsRow row rows (record { path = s.two.one.one.two.bound; groups = groups_are row.groups s.two.one.back s.two.one.two }) (rows_are rows s.two.back s.two.two)

reply_has : (v : MountReply) (results : List ℕ) → SpellsMountResults v results → HasSpellingReply v
reply_has replies.Null results s = tt
reply_has (replies.MntOk root flavors) results s = s.two.two.bound
reply_has (replies.MntFail stat) results s = s.failed
reply_has replies.Umnt results s = tt
reply_has (replies.Export list) results s = rows_are list results s

pub read_reply_has : (proc : ℕ) (results : List ℕ) (result : Result MountReply CodecFault) → FindsOwned (SpellsMountReply proc) results result → IfOk result HasSpellingReply
read_reply_has proc results (Ok v) f = reply_has v results f.found.is
read_reply_has proc results (Err e) f = tt

-- ---- what is written

groups_written : (names : List (List ℕ)) → AreGroups names → SpellsGroups names (groups_bytes names)
unfolding groups_bytes
groups_written names are = list_spelled (SpellsOpaque 255) opaque_bytes names (λ k d lt. opaque_written 255 (slice_index_or names k d) (are k d lt) (omega arith))

row_written : (row : ExportRow) → IsRow row → SpellsRow row (row_bytes row)
unfolding row_bytes
row_written row is = record { front = opaque_bytes row.path; back = groups_bytes row.groups; is = refl; one = opaque_written 1024 row.path is.path (omega arith); two = groups_written row.groups is.groups }

pub exports_written : (rows : List ExportRow) → AreExports rows → SpellsExports rows (exports_bytes rows)
unfolding exports_bytes
exports_written rows are = list_spelled SpellsRow row_bytes rows (λ k d lt. row_written (slice_index_or rows k d) (are k d lt))

word_written : (v : ℕ) → v < 2 ^ 32 → SpellsU32 v (u32_bytes v)
word_written v fits = record { fits = fits; is = refl }

pub words_written : (list : List ℕ) → ((i : ℕ) → get_or list i 0 < 2 ^ 32) → SpellsMany SpellsU32 list (words_bytes list)
unfolding words_bytes
words_written [] fits = refl
words_written (v ∷ vs) fits = record { front = u32_bytes v; back = words_bytes vs; is = refl; one = word_written v (fits 0); two = words_written vs (λ i. fits (suc i)) }

pub flavors_written : (list : List ℕ) → length list ≤ 64 → SpellsMany SpellsU32 list (words_bytes list) → SpellsFlavors list (flavors_bytes list)
unfolding flavors_bytes
flavors_written list le words = record {
  bound = le;
  is = record { front = u32_bytes (length list); back = words_bytes list; is = refl; one = word_written (length list) (omega (arith, le)); two = words };
}

-- the count was read
pub flavors_go : (old mid : List ℕ) (count : ℕ) → u32_at old ≡ Ok (count, mid) → count ≤ 64 → flavors_at old ≡ words_at count mid
unfolding flavors_at words_at
flavors_go old mid count e le = rw (e, le-ltb 64 count le) refl

pub mnt_ok_written : (root flavors : List ℕ) → length root ≤ 64 → SpellsFlavors flavors (flavors_bytes flavors) → (SpellsU32 0 ⨾ SpellsHandle root ⨾ SpellsFlavors flavors) (mnt_ok_bytes root flavors)
unfolding mnt_ok_bytes handle_bytes
mnt_ok_written root flavors le spelled = record {
  front = u32_bytes 0;
  back = opaque_bytes root ++ flavors_bytes flavors;
  is = append_assoc (u32_bytes 0) (opaque_bytes root) (flavors_bytes flavors);
  one = word_written 0 (omega arith);
  two = record { front = opaque_bytes root; back = flavors_bytes flavors; is = refl; one = opaque_written 64 root le (omega arith); two = spelled };
}

pub failure_written : (stat : ℕ) → 0 < stat → stat < 2 ^ 32 → SpellsFailure stat (u32_bytes stat)
failure_written stat failed fits = record { failed = failed; is = word_written stat fits }

-- what was written for a reply without results
pub plain_written : (v : MountReply) → (v ≡ replies.Null) ⊎ (v ≡ replies.Umnt) → SpellsMountResults v (mount_reply_bytes v)
unfolding mount_reply_bytes
plain_written v (inl e) = rw e (record { is = refl })
plain_written v (inr e) = rw e (record { is = refl })

pub on_ok : {T E P : Type 0} (r : Result T E) → P → OnOk r P
on_ok (Ok x) p = p
on_ok (Err e) p = tt
