-- What a call of GETPORT asks for (RFC 1833, section 3.1: mapping).
use Rattle.std.specs.Prelude.{ℕ, List, ◌++◌, Result, Ok}
use Rattle.xdr_codec.specs.declared.reader.XdrFault.{XdrFault}
use Rattle.xdr_codec.specs.Reading.{◌>>=◌, u32_at}
use Rattle.xdr_codec.specs.Spelling.{u32_bytes}
use Rattle.xdr_codec.specs.Spells.{◌⨾◌, SpellsU32}
use Rattle.portmap_calls.specs.declared.mapping.Mapping.{Mapping}

-- program, version, protocol and port
unfoldable pub mapping_at : List ℕ → Result (Mapping × List ℕ) XdrFault
mapping_at bytes = do
  prog ← u32_at bytes
  vers ← u32_at prog.1
  prot ← u32_at vers.1
  port ← u32_at prot.1
  Ok (record { prog = prog.0; vers = vers.0; prot = prot.0; port = port.0 }, port.1)

unfoldable pub mapping_bytes : Mapping → List ℕ
mapping_bytes m = u32_bytes m.prog ++ u32_bytes m.vers ++ u32_bytes m.prot ++ u32_bytes m.port

abbrev pub SpellsMapping : Mapping → List ℕ → Type 0
SpellsMapping m = SpellsU32 m.prog ⨾ SpellsU32 m.vers ⨾ SpellsU32 m.prot ⨾ SpellsU32 m.port
