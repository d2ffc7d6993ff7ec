-- Verifiers and attributes that are written are read back as they are.
use Rattle.std.proofs.Common.{◌≡◌, ◌++◌, ℕ, zero, suc, List, [], ◌∷◌, length, replicate, Option, Some, Result, Ok, refl, sym, ap, ◌∙◌, arith}
use Rattle.std.proofs.lemmas.List.{append-nil}
use Rattle.hex.specs.Hex.{IsBytes}
use Rattle.nfs_types.specs.declared.attr.Attr.{Attr}
use Rattle.nfs_types.specs.declared.time.Time.{Time}
use Rattle.nfs_types.specs.declared.verf.Verf.{Verf}
use Rattle.nfs_types.specs.Fields.{attr_at, attr_bytes, owner_bytes, place_bytes, time_bytes, verf_at, verf_bytes}
use Rattle.nfs_types.specs.Spells.{SpellsAttr}
use Rattle.nfs_types.proofs.Laws.{attr_codec, verf_codec}
use Rattle.nfs_types.proofs.Written.{attr_written, time_written, verf_written}
use Rattle.xdr_codec.specs.Reading.{padding}
use Rattle.xdr_codec.specs.Spelling.{fixed_bytes, u32_bytes, u64_bytes}
use Rattle.xdr_codec.specs.Whole.{whole_at}
use Rattle.xdr_codec.specs.declared.reader.XdrFault.{XdrFault}
use Rattle.trace_text.specs.Texts.{hex_word}
use Rattle.trace_text.specs.Words.{◌>>=◌, attr_of, attr_or, verf_of, verf_or}
use Rattle.trace_prints.specs.HasText.{IsAttr, IsVerf}
use Rattle.trace_prints.proofs.Spelt.{hex-back}

-- a value that is read with nothing after it
pub whole-again : {A : Type 0} (read : List ℕ → Result (A × List ℕ) XdrFault) (v : A) (bytes : List ℕ) → read (bytes ++ []) ≡ Ok (v, []) → whole_at read bytes ≡ Ok v
whole-again read v bytes e =
    let whole : read bytes ≡ Ok (v, []) = ap read (sym (append-nil bytes)) ∙ e in
    rw whole refl

verf-spelled : (verf : Verf) → length verf.0 ≡ 8 → verf_bytes verf ≡ verf.0
unfolding verf_bytes fixed_bytes
verf-spelled verf e = ap (λ (n : ℕ). verf.0 ++ replicate (padding n) 0) e ∙ append-nil verf.0

pub verf-back : (verf : Verf) → IsVerf verf → verf_of (hex_word verf.0) ≡ Some verf
verf-back verf v =
    let spelled : verf_at (verf_bytes verf ++ []) ≡ Ok (verf, []) = verf_codec.again verf (verf_bytes verf) [] (verf_written verf v.eight) in
    ap (λ (o : Option (List ℕ)). o >>= λ bytes. verf_or (whole_at verf_at bytes)) (hex-back verf.0 v.bytes)
    ∙ ap verf_or (ap (whole_at verf_at) (sym (verf-spelled verf v.eight)) ∙ whole-again verf_at verf (verf_bytes verf) spelled)

-- ---- attributes

both : (a b : List ℕ) → IsBytes a → IsBytes b → IsBytes (a ++ b)
both [] b h k i = k i
both (x ∷ a) b h k zero = h 0
both (x ∷ a) b h k (suc i) = both a b (λ j. h (suc j)) k i

u32-plain : (v : ℕ) → IsBytes (u32_bytes v)
unfolding u32_bytes
u32-plain v zero = omega arith
u32-plain v (suc zero) = omega arith
u32-plain v (suc (suc zero)) = omega arith
u32-plain v (suc (suc (suc zero))) = omega arith
u32-plain v (suc (suc (suc (suc i)))) = omega arith

u64-plain : (v : ℕ) → IsBytes (u64_bytes v)
unfolding u64_bytes
u64-plain v zero = omega arith
u64-plain v (suc zero) = omega arith
u64-plain v (suc (suc zero)) = omega arith
u64-plain v (suc (suc (suc zero))) = omega arith
u64-plain v (suc (suc (suc (suc zero)))) = omega arith
u64-plain v (suc (suc (suc (suc (suc zero))))) = omega arith
u64-plain v (suc (suc (suc (suc (suc (suc zero)))))) = omega arith
u64-plain v (suc (suc (suc (suc (suc (suc (suc zero))))))) = omega arith
u64-plain v (suc (suc (suc (suc (suc (suc (suc (suc i)))))))) = omega arith

time-plain : (t : Time) → IsBytes (time_bytes t)
unfolding time_bytes
time-plain t = both (u32_bytes t.seconds) (u32_bytes t.nanos) (u32-plain t.seconds) (u32-plain t.nanos)

owner-plain : (a : Attr) → IsBytes (owner_bytes a)
unfolding owner_bytes
owner-plain a = both _ _ (both _ _ (both _ _ (both _ _ (u32-plain a.kind) (u32-plain a.mode)) (u32-plain a.nlink)) (u32-plain a.uid)) (u32-plain a.gid)

place-plain : (a : Attr) → IsBytes (place_bytes a)
unfolding place_bytes
place-plain a = both _ _ (both _ _ (both _ _ (both _ _ (both _ _ (u64-plain a.size) (u64-plain a.used)) (u32-plain a.rdev_major)) (u32-plain a.rdev_minor)) (u64-plain a.fsid)) (u64-plain a.fileid)

pub attr-plain : (a : Attr) → IsBytes (attr_bytes a)
unfolding attr_bytes
attr-plain a = both _ _ (both _ _ (both _ _ (both _ _ (owner-plain a) (place-plain a)) (time-plain a.atime)) (time-plain a.mtime)) (time-plain a.ctime)

attr-spelled : (a : Attr) → IsAttr a → SpellsAttr a (attr_bytes a)
attr-spelled a i = attr_written a i.kind i.mode i.nlink i.uid i.gid i.size i.used i.rdev_major i.rdev_minor i.fsid i.fileid
    (time_written a.atime i.atime.0 i.atime.1) (time_written a.mtime i.mtime.0 i.mtime.1) (time_written a.ctime i.ctime.0 i.ctime.1)

pub attr-back : (a : Attr) → IsAttr a → attr_of (hex_word (attr_bytes a)) ≡ Some a
attr-back a i = ap (λ (o : Option (List ℕ)). o >>= λ bytes. attr_or (whole_at attr_at bytes)) (hex-back (attr_bytes a) (attr-plain a))
    ∙ ap attr_or (whole-again attr_at a (attr_bytes a) (attr_codec.again a (attr_bytes a) [] (attr-spelled a i)))
