-- How CREATE makes a file (RFC 1813, section 3.3.8, createhow3): 0 UNCHECKED and 1 GUARDED with the attributes to set,
-- 2 EXCLUSIVE with a verifier.
use Rattle.std.specs.Prelude.{ℕ, zero, suc, List, ◌++◌, Result, Ok, Err}
use Rattle.xdr_codec.specs.declared.reader.XdrFault.{XdrFault}
use Rattle.xdr_codec.specs.declared.reader.XdrFault.TheVariants.{BadValue}
use Rattle.xdr_codec.specs.Reading.{◌>>=◌, u32_at}
use Rattle.xdr_codec.specs.Spelling.{u32_bytes}
use Rattle.xdr_codec.specs.Spells.{◌⨾◌, SpellsU32}
use Rattle.nfs_types.specs.Fields.{set_attr_at, set_attr_bytes, verf_at, verf_bytes}
use Rattle.nfs_types.specs.Spells.{SpellsSetAttr, SpellsVerf}
use Rattle.nfs_dir_calls.specs.declared.create.Making.{Making}
use Rattle.nfs_dir_calls.specs.declared.create.Making.TheVariants.{Unchecked, Guarded, Exclusive}

-- what follows the word of a mode
unfoldable pub making_of : ℕ → List ℕ → Result (Making × List ℕ) XdrFault
making_of zero bytes = set_attr_at bytes >>= λ set. Ok (Unchecked set.0, set.1)
making_of (suc zero) bytes = set_attr_at bytes >>= λ set. Ok (Guarded set.0, set.1)
making_of (suc (suc zero)) bytes = verf_at bytes >>= λ verf. Ok (Exclusive verf.0, verf.1)
making_of (suc (suc (suc n))) bytes = Err BadValue

unfoldable pub making_at : List ℕ → Result (Making × List ℕ) XdrFault
making_at bytes = u32_at bytes >>= λ mode. making_of mode.0 mode.1

unfoldable pub making_bytes : Making → List ℕ
making_bytes (Unchecked set) = u32_bytes 0 ++ set_attr_bytes set
making_bytes (Guarded set) = u32_bytes 1 ++ set_attr_bytes set
making_bytes (Exclusive verf) = u32_bytes 2 ++ verf_bytes verf

abbrev pub SpellsMaking : Making → List ℕ → Type 0
SpellsMaking (Unchecked set) = SpellsU32 0 ⨾ SpellsSetAttr set
SpellsMaking (Guarded set) = SpellsU32 1 ⨾ SpellsSetAttr set
SpellsMaking (Exclusive verf) = SpellsU32 2 ⨾ SpellsVerf verf
