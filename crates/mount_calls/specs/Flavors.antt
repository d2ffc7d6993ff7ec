-- Lists of authentication flavors (RFC 1813, section 5.2.1: auth_flavors of mountres3_ok).
use Rattle.std.specs.Prelude.{ℕ, List, ◌++◌, length, Result}
use Rattle.xdr_codec.specs.declared.reader.XdrFault.{XdrFault}
use Rattle.xdr_codec.specs.Reading.{u32_at}
use Rattle.xdr_codec.specs.Spelling.{u32_bytes}
use Rattle.xdr_codec.specs.Spells.{SpellsU32}
use Rattle.mount_calls.specs.Lists.{many_at, counted_at, SpellsCounted, many_bytes}

-- so many words
unfoldable pub words_at : ℕ → List ℕ → Result (List ℕ × List ℕ) XdrFault
words_at count bytes = many_at u32_at count bytes

-- a counted list of at most 64 words
unfoldable pub flavors_at : List ℕ → Result (List ℕ × List ℕ) XdrFault
flavors_at bytes = counted_at 64 u32_at bytes

abbrev pub SpellsFlavors : List ℕ → List ℕ → Type 0
SpellsFlavors = SpellsCounted 64 SpellsU32

unfoldable pub words_bytes : List ℕ → List ℕ
words_bytes list = many_bytes u32_bytes list

unfoldable pub flavors_bytes : List ℕ → List ℕ
flavors_bytes list = u32_bytes (length list) ++ words_bytes list
