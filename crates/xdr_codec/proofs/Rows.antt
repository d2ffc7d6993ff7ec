-- The worked example of RFC 4506, section 7, and words by hand.
use Rattle.std.proofs.Common.{◌≡◌, ℕ, List, [], ◌∷◌, ◌++◌, true, false, Ok, Err, refl}
use Rattle.std.specs.Prelude.{codes}
use Rattle.xdr_codec.specs.declared.reader.XdrFault.TheVariants.{Short, TooLong, BadBool, Trailing}
use Rattle.xdr_codec.specs.Reading.{u32_at, u64_at, flag_at, fixed_at, opaque_at, end_at}
use Rattle.xdr_codec.specs.Spelling.{u32_bytes, u64_bytes, flag_bytes, fixed_bytes, opaque_bytes}
use Rattle.xdr_codec.proofs.Hex.{hex}

-- ---- a file: its name, the kind EXEC and the interpreter, its owner, its data

abbrev owner_and_data : List ℕ
owner_and_data = hex (codes "00000004 6a6f686e 00000006 28717569 74290000")

abbrev kind_and_rest : List ℕ
kind_and_rest = hex (codes "00000002 00000004 6c697370") ++ owner_and_data

abbrev sillyprog : List ℕ
sillyprog = hex (codes "00000009 73696c6c 7970726f 67000000") ++ kind_and_rest

written : opaque_bytes (codes "sillyprog") ++ u32_bytes 2 ++ opaque_bytes (codes "lisp") ++ opaque_bytes (codes "john") ++ opaque_bytes (codes "(quit)") ≡ sillyprog
unfolding opaque_bytes fixed_bytes u32_bytes
written = refl

name : opaque_at 255 sillyprog ≡ Ok (codes "sillyprog", kind_and_rest)
unfolding opaque_at fixed_at
name = refl

kind : u32_at kind_and_rest ≡ Ok (2, hex (codes "00000004 6c697370") ++ owner_and_data)
kind = refl

interpreter : opaque_at 255 (hex (codes "00000004 6c697370") ++ owner_and_data) ≡ Ok (codes "lisp", owner_and_data)
unfolding opaque_at fixed_at
interpreter = refl

owner : opaque_at 4 owner_and_data ≡ Ok (codes "john", hex (codes "00000006 28717569 74290000"))
unfolding opaque_at fixed_at
owner = refl

unended : end_at (hex (codes "00000006 28717569 74290000")) ≡ Err Trailing
unended = refl

last : opaque_at 6 (hex (codes "00000006 28717569 74290000")) ≡ Ok (codes "(quit)", [])
unfolding opaque_at fixed_at
last = refl

-- ---- words

numbers : u64_bytes 72623859790382856 ++ flag_bytes true ++ flag_bytes false ≡ hex (codes "0102030405060708 00000001 00000000")
unfolding u64_bytes flag_bytes u32_bytes
numbers = refl

number : u64_at (hex (codes "0102030405060708 00")) ≡ Ok (72623859790382856, 0 ∷ [])
number = refl

-- padding has any value when it is read, and is zero when it is written
padded : fixed_at 2 (hex (codes "07080102")) ≡ Ok (7 ∷ 8 ∷ [], [])
unfolding fixed_at
padded = refl

zeros : fixed_bytes (7 ∷ 8 ∷ []) ≡ hex (codes "07080000")
unfolding fixed_bytes
zeros = refl

-- ---- what is refused

two_is_no_bool : flag_at (hex (codes "00000002")) ≡ Err BadBool
unfolding flag_at
two_is_no_bool = refl

three_bytes : u32_at (hex (codes "000000")) ≡ Err Short
three_bytes = refl

above_the_bound : opaque_at 4 (hex (codes "00000005")) ≡ Err TooLong
unfolding opaque_at
above_the_bound = refl

padding_is_missing : opaque_at 4 (hex (codes "00000001 070000")) ≡ Err Short
unfolding opaque_at fixed_at
padding_is_missing = refl
