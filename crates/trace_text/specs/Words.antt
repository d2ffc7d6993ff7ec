-- The words of a line: bytes in hex, and what they spell.
use Rattle.std.specs.Prelude.{◌≡◌, ℕ, List, [], ◌∷◌, length, codes, Bool, not, ◌&&◌, nat_le, Option, Some, None, Result, Ok, Err, if◌then◌else◌}
use Rattle.std.specs.Str.{bytes_eq}
use Rattle.hex.specs.Hex.{decode_of}
use Rattle.hex.specs.declared.error.FromHexError.{FromHexError}
use Rattle.nfs_types.specs.declared.attr.Attr.{Attr}
use Rattle.nfs_types.specs.declared.verf.Verf.{Verf}
use Rattle.nfs_types.specs.Fields.{attr_at, verf_at}
use Rattle.nfs_types.specs.Names.{is_no_name}
use Rattle.script_text.specs.Numbers.{number_of}
use Rattle.xdr_codec.specs.declared.reader.XdrFault.{XdrFault}
use Rattle.xdr_codec.specs.Whole.{whole_at}
use Rattle.trace_text.specs.declared.fault.LineFault.{LineFault}
use Rattle.trace_text.specs.declared.fault.LineFault.TheVariants as faults
use Rattle.trace_text.specs.declared.fault.TraceFault.{TraceFault}
use Rattle.trace_text.specs.declared.fault.TraceFault.TheVariants as traces

-- what follows if there was something
infixl 10 ◌>>=◌
abbrev pub ◌>>=◌ : {A B : Type 0} → Option A → (A → Option B) → Option B
None >>= f = None
(Some x) >>= f = f x

-- a reader failed: its words aren't of the form; out of memory may come at any text
abbrev pub Fails : {Y : Type 0} → LineFault → Option Y → Type 0
Fails faults.Form said = said ≡ None
Fails faults.Memory said = Unit {0}

-- the fault of a text that has this one in that line
abbrev pub fault_at : ℕ → LineFault → TraceFault
fault_at line faults.Form = traces.Line line
fault_at line faults.Memory = traces.Memory

-- what a reader gave, seen by view, is what its words say
abbrev pub Gives : {X Y : Type 0} → (X → Y) → Result X LineFault → Option Y → Type 0
Gives view (Ok x) said = said ≡ Some (view x)
Gives view (Err fault) said = Fails fault said

-- ---- how many

-- the first word and those after it
abbrev pub first_of : List (List ℕ) → Option (List ℕ × List (List ℕ))
first_of [] = None
first_of (word ∷ words) = Some (word, words)

-- no word
abbrev pub none_of : List (List ℕ) → Option Unit
none_of [] = Some tt
none_of (word ∷ words) = None

-- ---- numbers

-- a number of 64 bits
abbrev pub long_of : List ℕ → Option ℕ
long_of word = number_of 0 18446744073709551615 word

-- ---- bytes

abbrev pub decoded_or : {E : Type 0} → Result (List ℕ) E → Option (List ℕ)
decoded_or (Ok bytes) = Some bytes
decoded_or (Err fault) = None

-- the bytes of hex digits, or none if the word is `-`
abbrev pub bytes_of : List ℕ → Option (List ℕ)
bytes_of word = if bytes_eq word (codes "-") then Some [] else decoded_or (decode_of word)

-- at most 64 bytes
abbrev pub as_handle : List ℕ → Option (List ℕ)
as_handle bytes = if nat_le (length bytes) 64 then Some bytes else None

abbrev pub handle_of : List ℕ → Option (List ℕ)
handle_of word = bytes_of word >>= as_handle

-- 1 to 255 bytes without a slash or a zero
abbrev pub as_name : List ℕ → Option (List ℕ)
as_name bytes = if nat_le (length bytes) 255 && not (is_no_name bytes) then Some bytes else None

abbrev pub name_of : List ℕ → Option (List ℕ)
name_of word = bytes_of word >>= as_name

abbrev pub verf_or : Result Verf XdrFault → Option Verf
verf_or (Ok verf) = Some verf
verf_or (Err fault) = None

-- a write verifier, and nothing after it (RFC 1813, section 3.3.7)
abbrev pub verf_of : List ℕ → Option Verf
verf_of word = bytes_of word >>= λ bytes. verf_or (whole_at verf_at bytes)

abbrev pub attr_or : Result Attr XdrFault → Option Attr
attr_or (Ok attr) = Some attr
attr_or (Err fault) = None

-- the attributes of an object, and nothing after them (RFC 1813, section 2.5, fattr3)
abbrev pub attr_of : List ℕ → Option Attr
attr_of word = bytes_of word >>= λ bytes. attr_or (whole_at attr_at bytes)
