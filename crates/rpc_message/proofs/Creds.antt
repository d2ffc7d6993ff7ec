-- The written credentials are spelled as credentials are.
use Rattle.std.proofs.Common.{◌≡◌, ◌≤◌, ◌<◌, ◌^◌, ℕ, ◌+◌, List, [], ◌++◌, Result, Ok, Err, length, replicate, refl, append_assoc, arith}
use Rattle.std.proofs.lemmas.List.{append-nil, length-append, length-replicate}
use Rattle.xdr_codec.specs.Reading.{padding}
use Rattle.xdr_codec.specs.Spelling.{u32_bytes, fixed_bytes, opaque_bytes}
use Rattle.xdr_codec.specs.Spells.{SpellsU32}
use Rattle.xdr_codec.proofs.MoreLaws.{opaque_written}
use Rattle.rpc_message.specs.Auth.{SpellsAuth}
use Rattle.std.specs.Prelude.{OnOk}
use Rattle.rpc_message.specs.declared.cred.Cred.{Cred}
use Rattle.rpc_message.specs.declared.cred.Cred.TheVariants as creds
use Rattle.rpc_message.specs.Cred.{none_bytes, sys_bytes, cred_bytes}

-- ---- words

pub word_written : (v : ℕ) → v < 2 ^ 32 → SpellsU32 v (u32_bytes v)
word_written v fits = record { fits = fits; is = refl }

pub u32_long : (v : ℕ) → length (u32_bytes v) ≡ 4
unfolding u32_bytes
u32_long v = refl

-- ---- credentials

pub none_written : SpellsAuth none_bytes
unfolding none_bytes
none_written = record {
  flavor = 0;
  body = [];
  is = record { front = u32_bytes 0; back = opaque_bytes []; is = refl; one = word_written 0 (omega arith); two = opaque_written 400 [] (omega arith) (omega arith) };
}

pub opaque_length : (v : List ℕ) → length (opaque_bytes v) ≡ 4 + length v + padding (length v)
unfolding opaque_bytes fixed_bytes
opaque_length v =
    omega (arith, u32_long (length v), length-append (u32_bytes (length v)) (v ++ replicate (padding (length v)) 0), length-append v (replicate (padding (length v)) 0), length-replicate {A = ℕ} (padding (length v)) 0)

pub sys_length : (machine : List ℕ) (uid gid : ℕ) → length (sys_bytes machine uid gid) ≡ 20 + length machine + padding (length machine)
unfolding sys_bytes
sys_length machine uid gid =
    let a = length-append (u32_bytes 0) (opaque_bytes machine) in
    let b = length-append (u32_bytes 0 ++ opaque_bytes machine) (u32_bytes uid) in
    let c = length-append (u32_bytes 0 ++ opaque_bytes machine ++ u32_bytes uid) (u32_bytes gid) in
    let d = length-append (u32_bytes 0 ++ opaque_bytes machine ++ u32_bytes uid ++ u32_bytes gid) (u32_bytes 0) in
    omega (arith, a, b, c, d, opaque_length machine, u32_long 0, u32_long uid, u32_long gid)

pub whole_words : (n : ℕ) → padding (20 + n + padding n) ≡ 0
whole_words n = omega arith

-- the body takes whole words, so its length is all that stands before it
pub sys_opaque : (machine : List ℕ) (uid gid : ℕ) → opaque_bytes (sys_bytes machine uid gid) ≡ u32_bytes (20 + length machine + padding (length machine)) ++ sys_bytes machine uid gid
unfolding opaque_bytes fixed_bytes
sys_opaque machine uid gid = rw (sys_length machine uid gid, whole_words (length machine), append-nil (sys_bytes machine uid gid)) refl

pub sys_written : (machine : List ℕ) (uid gid : ℕ) → length machine ≤ 255 → SpellsAuth (u32_bytes 1 ++ opaque_bytes (sys_bytes machine uid gid))
sys_written machine uid gid le = record {
  flavor = 1;
  body = sys_bytes machine uid gid;
  is = record {
    front = u32_bytes 1;
    back = opaque_bytes (sys_bytes machine uid gid);
    is = refl;
    one = word_written 1 (omega arith);
    two = opaque_written 400 (sys_bytes machine uid gid) (omega (arith, sys_length machine uid gid, le)) (omega arith);
  };
}

-- ---- the calls that write them

pub on_ok : {T E P : Type 0} (r : Result T E) → P → OnOk r P
on_ok (Ok x) p = p
on_ok (Err e) p = tt

-- three parts that were appended one after another
pub appended : (a b c d x y z : List ℕ) → b ≡ a ++ x → c ≡ b ++ y → d ≡ c ++ z → d ≡ a ++ (x ++ (y ++ z))
appended a b c d x y z p q r = rw (r, q, p, append_assoc (a ++ x) y z, append_assoc a x (y ++ z)) refl

pub cred_none : (cred : Cred) → cred ≡ creds.None → SpellsAuth (cred_bytes cred)
unfolding cred_bytes
cred_none cred e = rw e none_written
