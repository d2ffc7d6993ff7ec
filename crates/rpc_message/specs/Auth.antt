-- Credentials and verifiers (RFC 5531, section 8.2: opaque_auth).
use Rattle.std.specs.Prelude.{ℕ, List, Result, Ok}
use Rattle.xdr_codec.specs.declared.reader.XdrFault.{XdrFault}
use Rattle.xdr_codec.specs.Reading.{◌>>=◌, u32_at, opaque_at}
use Rattle.xdr_codec.specs.Spells.{◌⨾◌, SpellsU32, SpellsOpaque}

-- the body is passed over
abbrev pub after_body_at : List ℕ → Result (Unit {0} × List ℕ) XdrFault
after_body_at bytes = opaque_at 400 bytes >>= λ body. Ok (tt, body.1)

-- a flavor and a body of at most 400 bytes, which are passed over
unfoldable pub auth_at : List ℕ → Result (Unit {0} × List ℕ) XdrFault
auth_at bytes = do
  flavor ← u32_at bytes
  after_body_at flavor.1

-- the bytes are some flavor and some body of at most 400 bytes
pub record SpellsAuth (bytes : List ℕ) : Type 0 where
  pub flavor : ℕ
  pub body : List ℕ
  pub is : (SpellsU32 flavor ⨾ SpellsOpaque 400 body) bytes
