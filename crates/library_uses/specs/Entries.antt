-- An entry: a number and a name of at most 255 bytes (RFC 4506, sections 4.5 and 4.11).
use Rattle.std.specs.Prelude.{◌++◌, ℕ, List, Result, Ok}
use Rattle.xdr_codec.specs.declared.reader.XdrFault.{XdrFault}
use Rattle.xdr_codec.specs.Reading.{◌>>=◌, u64_at, opaque_at}
use Rattle.xdr_codec.specs.Spelling.{u64_bytes, opaque_bytes}

-- what is read of it, and what is left
unfoldable pub entry_at : List ℕ → Result ((ℕ × List ℕ) × List ℕ) XdrFault
entry_at bytes = do
  id ← u64_at bytes
  name ← opaque_at 255 id.1
  Ok ((id.0, name.0), name.1)

-- its bytes
unfoldable pub entry_bytes : ℕ → List ℕ → List ℕ
entry_bytes id name = u64_bytes id ++ opaque_bytes name
