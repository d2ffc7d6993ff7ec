-- What is read as a field is spelled so, and what is spelled so is read.
use Rattle.std.proofs.Common.{◌≡◌, ℕ, zero, suc, cond, List, ◌++◌, Ok, Err, refl, ap, subst, ◌∙◌, append_assoc}
use Rattle.xdr_codec.specs.declared.reader.XdrFault.TheVariants.{BadValue}
use Rattle.xdr_codec.specs.Reading.{u32_at, opaque_at}
use Rattle.xdr_codec.specs.Spells.{SpellsU32, SpellsU64, SpellsOpt}
use Rattle.xdr_codec.proofs.Laws.{Takes, Codec, bind_ok, field_if, last_if, always, u32_codec, u64_codec}
use Rattle.xdr_codec.proofs.MoreLaws.{guard_ok, ok_is, both, fixed_codec, opaque_codec, opt_codec, codec_as}
use Rattle.nfs_types.specs.declared.set_attr.SetTime.{SetTime}
use Rattle.nfs_types.specs.declared.set_attr.SetTime.TheVariants.{Keep, Server, Client}
use Rattle.nfs_types.specs.Names.{is_no_name}
use Rattle.nfs_types.specs.Fields.{handle_at, name_at, verf_at, time_at, attr_at, opt_attr_at, stamp_at, opt_stamp_at, wcc_at, set_time_of, set_time_at, opt_u32_at, opt_u64_at, set_attr_at}
use Rattle.nfs_types.specs.Spells.{SpellsHandle, SpellsName, SpellsVerf, SpellsTime, SpellsAttr, SpellsOptAttr, SpellsStamp, SpellsWcc, SpellsSetTime, SpellsSetAttr}
use Rattle.nfs_types.proofs.Names.{name_of_test, test_of_name}

pub handle_codec : Codec handle_at SpellsHandle
unfolding handle_at
handle_codec = opaque_codec 64

pub name_codec : Codec name_at SpellsName
unfolding name_at
name_codec = record {
  takes = λ bytes x fits e.
      let o = bind_ok (opaque_at 255 bytes) (λ name. cond (is_no_name name.0) (Err BadValue) (Ok name)) x e in
      let t = (opaque_codec 255).takes bytes o.0 fits o.1 in
      let g = guard_ok (is_no_name o.0.0) BadValue (Ok o.0) x o.2 in
      subst (λ (y : List ℕ × List ℕ). Takes SpellsName bytes y) (ok_is o.0 x g.1)
      (record { front = t.front; is = t.is; spells = record { rule = name_of_test o.0.0 t.spells.two.bound g.0; is = t.spells }; rest = t.rest });
  again = λ v text rest s. rw ((opaque_codec 255).again v text rest s.is, test_of_name v s.rule) refl;
}

pub verf_codec : Codec verf_at SpellsVerf
unfolding verf_at
verf_codec = codec_as (λ bytes. record { 0 = bytes }) (λ v. v.0) (λ bytes. refl) (λ v. refl) (fixed_codec 8)

pub time_codec : Codec time_at SpellsTime
unfolding time_at
time_codec = always (field_if (λ t. t.seconds) u32_codec (λ seconds. last_if (λ t. t.nanos) (λ nanos. record { seconds = seconds; nanos = nanos }) u32_codec (λ a. ((tt, refl), refl)) (λ b k. rw (← k.1) refl)))

pub stamp_codec : Codec stamp_at SpellsStamp
unfolding stamp_at
stamp_codec = always (
    field_if (λ t. t.size) u64_codec (λ size. field_if (λ t. t.mtime) time_codec (λ mtime.
    last_if (λ t. t.ctime) (λ ctime. record { size = size; mtime = mtime; ctime = ctime }) time_codec (λ a. (((tt, refl), refl), refl)) (λ b k. rw (← k.1, ← k.0.1) refl))))

pub attr_codec : Codec attr_at SpellsAttr
unfolding attr_at
attr_codec = always (
    field_if (λ t. t.kind) u32_codec (λ kind. field_if (λ t. t.mode) u32_codec (λ mode. field_if (λ t. t.nlink) u32_codec (λ nlink.
    field_if (λ t. t.uid) u32_codec (λ uid. field_if (λ t. t.gid) u32_codec (λ gid. field_if (λ t. t.size) u64_codec (λ size. field_if (λ t. t.used) u64_codec (λ used.
    field_if (λ t. t.rdev_major) u32_codec (λ rdev_major. field_if (λ t. t.rdev_minor) u32_codec (λ rdev_minor. field_if (λ t. t.fsid) u64_codec (λ fsid.
    field_if (λ t. t.fileid) u64_codec (λ fileid. field_if (λ t. t.atime) time_codec (λ atime. field_if (λ t. t.mtime) time_codec (λ mtime.
    last_if (λ t. t.ctime) (λ ctime. record { kind = kind; mode = mode; nlink = nlink; uid = uid; gid = gid; size = size; used = used; rdev_major = rdev_major; rdev_minor = rdev_minor; fsid = fsid; fileid = fileid; atime = atime; mtime = mtime; ctime = ctime }) time_codec
    (λ a. ((((((((((((((tt, refl), refl), refl), refl), refl), refl), refl), refl), refl), refl), refl), refl), refl), refl))
    (λ b k. rw (← k.1, ← k.0.1, ← k.0.0.1, ← k.0.0.0.1, ← k.0.0.0.0.1, ← k.0.0.0.0.0.1, ← k.0.0.0.0.0.0.1, ← k.0.0.0.0.0.0.0.1, ← k.0.0.0.0.0.0.0.0.1, ← k.0.0.0.0.0.0.0.0.0.1, ← k.0.0.0.0.0.0.0.0.0.0.1, ← k.0.0.0.0.0.0.0.0.0.0.0.1, ← k.0.0.0.0.0.0.0.0.0.0.0.0.1) refl)))))))))))))))

pub opt_attr_codec : Codec opt_attr_at SpellsOptAttr
unfolding opt_attr_at
opt_attr_codec = opt_codec attr_codec

pub opt_stamp_codec : Codec opt_stamp_at (SpellsOpt SpellsStamp)
unfolding opt_stamp_at
opt_stamp_codec = opt_codec stamp_codec

pub wcc_codec : Codec wcc_at SpellsWcc
unfolding wcc_at
wcc_codec = always (
    field_if (λ t. t.before) opt_stamp_codec (λ before.
    last_if (λ t. t.after) (λ after. record { before = before; after = after }) opt_attr_codec (λ a. ((tt, refl), refl)) (λ b k. rw (← k.1) refl)))

pub opt_u32_codec : Codec opt_u32_at (SpellsOpt SpellsU32)
unfolding opt_u32_at
opt_u32_codec = opt_codec u32_codec

pub opt_u64_codec : Codec opt_u64_at (SpellsOpt SpellsU64)
unfolding opt_u64_at
opt_u64_codec = opt_codec u64_codec

-- ---- how a time is to be set

after_text : (text front back rest : List ℕ) → text ≡ front ++ back → text ++ rest ≡ front ++ (back ++ rest)
after_text text front back rest e = ap (λ (k : List ℕ). k ++ rest) e ∙ append_assoc front back rest

set_time_takes : (bytes : List ℕ) (how : ℕ) (more : List ℕ) (x : SetTime × List ℕ) → Takes SpellsU32 bytes (how, more) → set_time_of how more ≡ Ok x → Takes SpellsSetTime bytes x
unfolding set_time_of
set_time_takes bytes zero more x t e =
    let pair : SetTime × List ℕ = (Keep, more) in
    subst (λ (y : SetTime × List ℕ). Takes SpellsSetTime bytes y) (ok_is pair x e) (record { front = t.front; is = t.is; spells = t.spells; rest = t.rest })
set_time_takes bytes (suc zero) more x t e =
    let pair : SetTime × List ℕ = (Server, more) in
    subst (λ (y : SetTime × List ℕ). Takes SpellsSetTime bytes y) (ok_is pair x e) (record { front = t.front; is = t.is; spells = t.spells; rest = t.rest })
set_time_takes bytes (suc (suc zero)) more x t e =
    let o = bind_ok (time_at more) (λ time. Ok (Client time.0, time.1)) x e in
    let pair : SetTime × List ℕ = (Client o.0.0, o.0.1) in
    subst (λ (y : SetTime × List ℕ). Takes SpellsSetTime bytes y) (ok_is pair x o.2)
    (both {T = SpellsTime} {U = SpellsSetTime} bytes (2, more) o.0 (Client o.0.0) t (time_codec.takes more o.0 t.rest o.1) (λ text s. s))
set_time_takes bytes (suc (suc (suc n))) more x t e = absurd cc

set_time_again : (v : SetTime) (text rest : List ℕ) → SpellsSetTime v text → set_time_at (text ++ rest) ≡ Ok (v, rest)
unfolding set_time_of set_time_at
set_time_again Keep text rest s = rw (u32_codec.again 0 text rest s) refl
set_time_again Server text rest s = rw (u32_codec.again 1 text rest s) refl
set_time_again (Client time) text rest s = rw (after_text text s.front s.back rest s.is, u32_codec.again 2 s.front (s.back ++ rest) s.one, time_codec.again time s.back rest s.two) refl

pub set_time_codec : Codec set_time_at SpellsSetTime
unfolding set_time_at
set_time_codec = record {
  takes = λ bytes x fits e.
      let o = bind_ok (u32_at bytes) (λ how. set_time_of how.0 how.1) x e in
      set_time_takes bytes o.0.0 o.0.1 x (u32_codec.takes bytes o.0 fits o.1) o.2;
  again = λ v text rest s. set_time_again v text rest s;
}

pub set_attr_codec : Codec set_attr_at SpellsSetAttr
unfolding set_attr_at
set_attr_codec = always (
    field_if (λ t. t.mode) opt_u32_codec (λ mode. field_if (λ t. t.uid) opt_u32_codec (λ uid. field_if (λ t. t.gid) opt_u32_codec (λ gid.
    field_if (λ t. t.size) opt_u64_codec (λ size. field_if (λ t. t.atime) set_time_codec (λ atime.
    last_if (λ t. t.mtime) (λ mtime. record { mode = mode; uid = uid; gid = gid; size = size; atime = atime; mtime = mtime }) set_time_codec
    (λ a. ((((((tt, refl), refl), refl), refl), refl), refl))
    (λ b k. rw (← k.1, ← k.0.1, ← k.0.0.1, ← k.0.0.0.1, ← k.0.0.0.0.1) refl)))))))
