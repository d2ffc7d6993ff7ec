-- Credentials and verifiers as they are written (RFC 5531, section 8.2, section 10.1 and appendix A).
use Rattle.std.specs.Prelude.{◌≡◌, ℕ, List, [], ◌++◌}
use Rattle.xdr_codec.specs.Spelling.{u32_bytes, opaque_bytes}
use Rattle.rpc_message.specs.declared.cred.Cred.{Cred}
use Rattle.rpc_message.specs.declared.cred.Cred.TheVariants as creds
use Rattle.rpc_message.specs.Auth.{SpellsAuth}

-- AUTH_NONE: flavor 0 and an empty body
unfoldable pub none_bytes : List ℕ
none_bytes = u32_bytes 0 ++ opaque_bytes []

-- the body of AUTH_SYS: stamp 0, the machine, the user, the group and a list of no further groups
unfoldable pub sys_bytes : List ℕ → ℕ → ℕ → List ℕ
sys_bytes machine uid gid = u32_bytes 0 ++ opaque_bytes machine ++ u32_bytes uid ++ u32_bytes gid ++ u32_bytes 0

-- a credential: AUTH_NONE, or AUTH_SYS, which is flavor 1
unfoldable pub cred_bytes : Cred → List ℕ
cred_bytes creds.None = none_bytes
cred_bytes (creds.Sys machine uid gid) = u32_bytes 1 ++ opaque_bytes (sys_bytes machine uid gid)

-- these bytes spell the credential and the verifier behind it, AUTH_NONE
pub record IsSpelled (cred : Cred) (bytes : List ℕ) : Type 0 where
  pub is : bytes ≡ cred_bytes cred ++ none_bytes
  pub spells : SpellsAuth (cred_bytes cred)
