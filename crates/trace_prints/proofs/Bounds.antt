-- What the words of a line say is within the bounds of what a line can show.
use Rattle.std.proofs.Common.{◌≡◌, ◌<◌, ◌≤◌, ◌-◌, ◌^◌, ℕ, zero, suc, List, [], ◌∷◌, ◌++◌, length, take, Bool, true, false, not, ◌&&◌, cond, nat_le, Option, Some, None, Result, Ok, Err, IfSome, slice_get, refl, sym, subst, arith}
use Rattle.std.specs.Prelude.{codes, filter, if◌then◌else◌}
use Rattle.std.specs.List.{onto_first, slice_split}
use Rattle.std.specs.Str.{bytes_eq}
use Rattle.std.specs.Str.Parse.{digits_value}
use Rattle.std.proofs.lemmas.Bool.{and_parts, leb-true}
use Rattle.hex.specs.Hex.{IsBytes, decode_of}
use Rattle.hex.specs.declared.error.FromHexError.{FromHexError}
use Rattle.hex.proofs.HexLemmas.{decode_of-ok}
use Rattle.nfs_script.specs.Asked.{IsFrom}
use Rattle.nfs_types.specs.declared.attr.Attr.{Attr}
use Rattle.nfs_types.specs.declared.verf.Verf.{Verf}
use Rattle.nfs_types.specs.Fields.{attr_at, verf_at}
use Rattle.nfs_types.specs.Names.{is_no_name}
use Rattle.nfs_types.specs.Spells.{SpellsAttr, SpellsVerf}
use Rattle.nfs_types.proofs.Laws.{attr_codec, verf_codec}
use Rattle.nfs_types.proofs.Names.{name_of_test}
use Rattle.script_text.specs.Lines.{if_some, is_blank, is_empty, is_feed, is_return, lines, lines_of, one, without_return, words}
use Rattle.script_text.specs.Numbers.{is_numeral, is_within, number_of}
use Rattle.xdr_codec.specs.declared.reader.XdrFault.{XdrFault}
use Rattle.xdr_codec.specs.Whole.{whole_at}
use Rattle.xdr_codec.proofs.Laws.{IsBytes-take}
use Rattle.xdr_codec.proofs.WholeLaws.{whole_codec}
use Rattle.trace_text.specs.Words.{◌>>=◌, as_handle, as_name, attr_of, attr_or, bytes_of, decoded_or, first_of, handle_of, long_of, name_of, verf_of, verf_or}
use Rattle.trace_prints.specs.HasText.{IsAttr, IsHandleWord, IsListedName, IsVerf}

-- ---- one reading after another

-- where one reading gives a P, and the next one then gives a Q
pub next : {A B : Type 0} (P : A → Type 0) (Q : B → Type 0) (o : Option A) (f : A → Option B) → IfSome o P → ((x : A) → P x → IfSome (f x) Q) → IfSome (o >>= f) Q
next P Q None f p q = tt
next P Q (Some x) f p q = q x p

-- of what is read nothing is said
pub anything : {A : Type 0} (o : Option A) → IfSome o (λ x. Unit {0})
anything None = tt
anything (Some x) = tt

-- what is taken where it passes a test
pub passed : {A : Type 0} (P : A → Type 0) (b : Bool) (x : A) → (b ≡ true → P x) → IfSome (if b then Some x else None) P
passed P true x h = h refl
passed P false x h = tt

-- what is taken where it doesn't
pub refused : {A : Type 0} (P : A → Type 0) (b : Bool) (x : A) → (b ≡ false → P x) → IfSome (if b then None else Some x) P
refused P true x h = tt
refused P false x h = h refl

-- one of two
pub chosen : {A : Type 0} (P : A → Type 0) (b : Bool) (r s : Option A) → IfSome r P → IfSome s P → IfSome (if b then r else s) P
chosen P true r s h k = h
chosen P false r s h k = k

pub negated : (t : Bool) → not t ≡ true → t ≡ false
negated false h = refl
negated true h = sym h

-- ---- bytes of words

-- words of bytes
abbrev pub AreBytes : List (List ℕ) → Type 0
AreBytes [] = Unit {0}
AreBytes (word ∷ words) = IsBytes word × AreBytes words

pub bytes-nil : IsBytes []
bytes-nil i = omega arith

pub bytes-cons : (b : ℕ) (bytes : List ℕ) → b < 256 → IsBytes bytes → IsBytes (b ∷ bytes)
bytes-cons b bytes fits h zero = fits
bytes-cons b bytes fits h (suc i) = h i

onto-bytes : (b : ℕ) (pieces : List (List ℕ)) → b < 256 → AreBytes pieces → AreBytes (onto_first b pieces)
onto-bytes b [] fits h = (bytes-cons b [] fits bytes-nil, tt)
onto-bytes b (piece ∷ pieces) fits h = (bytes-cons b piece fits h.0, h.1)

pub pieces-bytes : (test : ℕ → Bool) (text : List ℕ) → IsBytes text → AreBytes (slice_split test text)
pieces-bytes test [] h = (bytes-nil, tt)
pieces-bytes test (b ∷ text) h = by (test b) (pieces-bytes test text (λ i. h (suc i)))
  where
    by : (t : Bool) → AreBytes (slice_split test text) → AreBytes (cond t ([] ∷ slice_split test text) (onto_first b (slice_split test text)))
    by true rest = (bytes-nil, rest)
    by false rest = onto-bytes b (slice_split test text) (h 0) rest

kept-bytes : (test : List ℕ → Bool) (pieces : List (List ℕ)) → AreBytes pieces → AreBytes (filter test pieces)
kept-bytes test [] h = tt
kept-bytes test (piece ∷ pieces) h = by (test piece) (kept-bytes test pieces h.1)
  where
    by : (t : Bool) → AreBytes (filter test pieces) → AreBytes (if t then piece ∷ filter test pieces else filter test pieces)
    by true rest = (h.0, rest)
    by false rest = rest

pub words-bytes : (line : List ℕ) → IsBytes line → AreBytes (words line)
unfolding words
words-bytes line h = kept-bytes (λ word. not (is_empty word)) (slice_split is_blank line) (pieces-bytes is_blank line h)

line-bytes : (line : List ℕ) → IsBytes line → IsBytes (without_return line)
line-bytes line h = by (is_return (slice_get line (length line - 1)))
  where
    by : (t : Bool) → IsBytes (if t then take (length line - 1) line else line)
    by true = IsBytes-take (length line - 1) line h
    by false = h

last-bytes : (piece : List ℕ) → IsBytes piece → AreBytes (if_some piece)
last-bytes [] h = tt
last-bytes (b ∷ piece) h = (h, tt)

lines-of-bytes : (pieces : List (List ℕ)) → AreBytes pieces → AreBytes (lines_of pieces)
lines-of-bytes [] h = tt
lines-of-bytes (piece ∷ []) h = last-bytes piece h.0
lines-of-bytes (piece ∷ after ∷ pieces) h = (line-bytes piece h.0, lines-of-bytes (after ∷ pieces) h.1)

pub lines-bytes : (text : List ℕ) → IsBytes text → AreBytes (lines text)
unfolding lines
lines-bytes text h = lines-of-bytes (slice_split is_feed text) (pieces-bytes is_feed text h)

-- ---- how many

-- a word of bytes, and words of bytes
abbrev pub IsFront : List ℕ × List (List ℕ) → Type 0
IsFront p = IsBytes p.0 × AreBytes p.1

pub first-bytes : (ws : List (List ℕ)) → AreBytes ws → IfSome (first_of ws) IsFront
first-bytes [] h = tt
first-bytes (word ∷ ws) h = h

pub one-bytes : (ws : List (List ℕ)) → AreBytes ws → IfSome (one ws) IsBytes
one-bytes [] h = tt
one-bytes (a ∷ []) h = h.0
one-bytes (a ∷ b ∷ ws) h = tt

-- ---- numbers

pub ranged : (low high : ℕ) (word : List ℕ) → IfSome (number_of low high word) (IsFrom low high)
ranged low high word = passed (IsFrom low high) (is_numeral word && is_within low high (digits_value 10 word)) (digits_value 10 word) (λ t.
    let k = and_parts (is_numeral word) (is_within low high (digits_value 10 word)) t in
    let w = and_parts (nat_le low (digits_value 10 word)) (nat_le (digits_value 10 word) high) k.1 in
    record { least = leb-true low (digits_value 10 word) w.0; most = leb-true (digits_value 10 word) high w.1 })

-- what is said of a number that is read, in other words
pub so : {A : Type 0} (P Q : A → Type 0) (o : Option A) → IfSome o P → ((x : A) → P x → Q x) → IfSome o Q
so P Q None h f = tt
so P Q (Some x) h f = f x h

pub long-small : (word : List ℕ) → IfSome (long_of word) (λ n. n < 2 ^ 64)
long-small word = so (IsFrom 0 18446744073709551615) (λ n. n < 2 ^ 64) (long_of word) (ranged 0 18446744073709551615 word) (λ n h. let le : n ≤ 18446744073709551615 = h.most in omega (arith, le))

pub word-small : (word : List ℕ) → IfSome (number_of 0 4294967295 word) (λ n. n < 2 ^ 32)
word-small word = so (IsFrom 0 4294967295) (λ n. n < 2 ^ 32) (number_of 0 4294967295 word) (ranged 0 4294967295 word) (λ n h. let le : n ≤ 4294967295 = h.most in omega (arith, le))

-- ---- bytes in hex

decoded-bytes : (word : List ℕ) (r : Result (List ℕ) FromHexError) → decode_of word ≡ r → IfSome (decoded_or r) IsBytes
decoded-bytes word (Ok bytes) e = (decode_of-ok word bytes e).3
decoded-bytes word (Err fault) e = tt

pub hex-bytes : (word : List ℕ) → IfSome (bytes_of word) IsBytes
hex-bytes word = chosen IsBytes (bytes_eq word (codes "-")) (Some []) (decoded_or (decode_of word)) bytes-nil (decoded-bytes word (decode_of word) refl)

pub handle-within : (word : List ℕ) → IfSome (handle_of word) IsHandleWord
handle-within word = next IsBytes IsHandleWord (bytes_of word) as_handle (hex-bytes word) (λ bytes h.
    passed IsHandleWord (nat_le (length bytes) 64) bytes (λ t. record { bytes = h; few = leb-true (length bytes) 64 t }))

pub as-listed : (bytes : List ℕ) → IsBytes bytes → IfSome (as_name bytes) IsListedName
as-listed bytes h = passed IsListedName (nat_le (length bytes) 255 && not (is_no_name bytes)) bytes (λ t.
    let k = and_parts (nat_le (length bytes) 255) (not (is_no_name bytes)) t in
    record { bytes = h; is = name_of_test bytes (leb-true (length bytes) 255 k.0) (negated (is_no_name bytes) k.1) })

pub name-within : (word : List ℕ) → IfSome (name_of word) IsListedName
name-within word = next IsBytes IsListedName (bytes_of word) as_name (hex-bytes word) (λ bytes h. as-listed bytes h)

-- ---- verifiers and attributes

front-bytes : (a b : List ℕ) → IsBytes (a ++ b) → IsBytes a
front-bytes [] b h = bytes-nil
front-bytes (x ∷ a) b h = bytes-cons x a (h 0) (front-bytes a b (λ i. h (suc i)))

verf-is : (bytes : List ℕ) (verf : Verf) → IsBytes bytes → SpellsVerf verf bytes → IsVerf verf
verf-is bytes verf h s = record { bytes = front-bytes verf.0 s.pad (subst IsBytes s.is h); eight = s.size }

pub verf-within : (word : List ℕ) → IfSome (verf_of word) IsVerf
verf-within word = next IsBytes IsVerf (bytes_of word) (λ bytes. verf_or (whole_at verf_at bytes)) (hex-bytes word) (λ bytes h. by bytes h (whole_at verf_at bytes) refl)
  where
    by : (bytes : List ℕ) → IsBytes bytes → (r : Result Verf XdrFault) → whole_at verf_at bytes ≡ r → IfSome (verf_or r) IsVerf
    by bytes h (Ok verf) e = verf-is bytes verf h ((whole_codec verf_codec).takes bytes verf h e)
    by bytes h (Err fault) e = tt

attr-is : (attr : Attr) (bytes : List ℕ) → SpellsAttr attr bytes → IsAttr attr
attr-is attr bytes s = record {
  kind = s.one.fits;
  mode = s.two.one.fits;
  nlink = s.two.two.one.fits;
  uid = s.two.two.two.one.fits;
  gid = s.two.two.two.two.one.fits;
  size = s.two.two.two.two.two.one.fits;
  used = s.two.two.two.two.two.two.one.fits;
  rdev_major = s.two.two.two.two.two.two.two.one.fits;
  rdev_minor = s.two.two.two.two.two.two.two.two.one.fits;
  fsid = s.two.two.two.two.two.two.two.two.two.one.fits;
  fileid = s.two.two.two.two.two.two.two.two.two.two.one.fits;
  atime = (s.two.two.two.two.two.two.two.two.two.two.two.one.one.fits, s.two.two.two.two.two.two.two.two.two.two.two.one.two.fits);
  mtime = (s.two.two.two.two.two.two.two.two.two.two.two.two.one.one.fits, s.two.two.two.two.two.two.two.two.two.two.two.two.one.two.fits);
  ctime = (s.two.two.two.two.two.two.two.two.two.two.two.two.two.one.fits, s.two.two.two.two.two.two.two.two.two.two.two.two.two.two.fits);
}

pub attr-within : (word : List ℕ) → IfSome (attr_of word) IsAttr
attr-within word = next IsBytes IsAttr (bytes_of word) (λ bytes. attr_or (whole_at attr_at bytes)) (hex-bytes word) (λ bytes h. by bytes h (whole_at attr_at bytes) refl)
  where
    by : (bytes : List ℕ) → IsBytes bytes → (r : Result Attr XdrFault) → whole_at attr_at bytes ≡ r → IfSome (attr_or r) IsAttr
    by bytes h (Ok attr) e = attr-is attr bytes ((whole_codec attr_codec).takes bytes attr h e)
    by bytes h (Err fault) e = tt
