-- Paths, targets and bytes of commands, each read back as what is written.
use Rattle.std.proofs.Common.{◌≡◌, ◌<◌, ◌≤◌, ◌+◌, ℕ, zero, suc, List, [], ◌∷◌, ◌++◌, length, map, Bool, true, false, not, ◌&&◌, ◌==◌, nat_le, Some, None, All, refl, sym, ap, ◌∙◌, arith, ◌||◌}
use Rattle.std.specs.Prelude.{codes, if◌then◌else◌, option_and_then}
use Rattle.std.specs.List.{list_any, slice_split}
use Rattle.std.specs.Str.{bytes_eq}
use Rattle.std.proofs.lemmas.Bool.{and_parts, le-leb, ne_eqb}
use Rattle.std.proofs.lemmas.List.{append-nil}
use Rattle.std.proofs.lemmas.List.Elements.{All-cons, All-append, All-nil}
use Rattle.std.proofs.lemmas.List.Splits.{slice_split_none, slice_split_at}
use Rattle.hex.specs.Hex.{IsBytes}
use Rattle.hex.proofs.HexLemmas.{decode_of-encode_lower}
use Rattle.nfs_types.specs.Names.{is_no_name}
use Rattle.script_text.specs.Paths.{is_path_name, is_slash, is_target, name_of, names_between, names_of, path_bytes, path_of, target_of, within_path}
use Rattle.script_text.specs.Payloads.{byte_of, is_payload_length, only_byte, payload_of, some_bytes}
use Rattle.world_model.specs.Transcript.{shown}
use Rattle.trace_text.specs.Texts.{hex_word, path_word, slashed}
use Rattle.trace_prints.specs.HasText.{IsPathName, ArePathNames}
use Rattle.trace_prints.proofs.Lined.{IsPlain, IsWord}
use Rattle.trace_prints.proofs.Spelt.{no-slash, shown-back, shown-plain, shown-slash, shown-some}

negated : (t : Bool) → not t ≡ true → t ≡ false
negated false h = refl
negated true h = sym h

-- ---- names

record Parts (name : List ℕ) : Type 0 where
  some : 0 < length name
  free : All (λ b. is_slash b ≡ false) name

parts : (name : List ℕ) → is_path_name name ≡ true → Parts name
parts name h =
    let a = and_parts (nat_le (length name) 255 && not (is_no_name name) && not (bytes_eq name (codes "."))) (not (bytes_eq name (codes ".."))) h in
    let b = and_parts (nat_le (length name) 255 && not (is_no_name name)) (not (bytes_eq name (codes "."))) a.0 in
    let c = and_parts (nat_le (length name) 255) (not (is_no_name name)) b.0 in
    of name (negated (is_no_name name) c.1)
  where
    of : (name : List ℕ) → is_no_name name ≡ false → Parts name
    of [] e = absurd (cc e)
    of (b ∷ bytes) e = record { some = omega arith; free = no-slash (b ∷ bytes) (left (list_any (λ y. y == 47) (b ∷ bytes)) (list_any (λ y. y == 0) (b ∷ bytes)) e) }
      where
        left : (s t : Bool) → (s || t) ≡ false → s ≡ false
        left false t h = refl
        left true t h = h

name-back : (name : List ℕ) → IsPathName name → name_of (shown name) ≡ Some name
name-back name p = ap (option_and_then (λ bytes. if is_path_name bytes then Some bytes else None)) (shown-back name p.bytes)
    ∙ ap (λ (t : Bool). if t then Some name else None) p.is

names-back : (names : List (List ℕ)) → ArePathNames names → names_of (map shown names) ≡ Some names
names-back [] ps = refl
names-back (name ∷ names) ps = rw (name-back name ps.0, names-back names ps.1) refl

-- ---- paths

pieces-of : (name : List ℕ) (names : List (List ℕ)) → IsPathName name → ArePathNames names → slice_split is_slash (shown name ++ slashed names) ≡ map shown (name ∷ names)
unfolding slashed
pieces-of name [] p ps = ap (slice_split is_slash) (append-nil (shown name)) ∙ slice_split_none is_slash (shown name) (shown-slash name p.bytes (parts name p.is).free)
pieces-of name (next ∷ names) p ps = slice_split_at is_slash (shown name) 47 (shown next ++ slashed names) (shown-slash name p.bytes (parts name p.is).free) refl
    ∙ ap (λ (k : List (List ℕ)). shown name ∷ k) (pieces-of next names ps.0 ps.1)

path-front : (text : List ℕ) → 0 < length text → path_of (47 ∷ text) ≡ names_between text
path-front [] h = absurd (omega (arith, h))
path-front (c ∷ text) h = refl

longer : (a b : List ℕ) → 0 < length a → 0 < length (a ++ b)
longer [] b h = absurd (omega (arith, h))
longer (x ∷ a) b h = omega arith

pub path-back : (names : List (List ℕ)) → ArePathNames names → path_bytes names ≤ 1024 → path_of (path_word names) ≡ Some names
unfolding slashed
path-back [] ps le = refl
path-back (name ∷ names) ps le =
    path-front (shown name ++ slashed names) (longer (shown name) (slashed names) (shown-some name (parts name ps.0.is).some))
    ∙ ap (λ (k : List (List ℕ)). option_and_then within_path (names_of k)) (pieces-of name names ps.0 ps.1)
    ∙ ap (option_and_then within_path) (names-back (name ∷ names) ps)
    ∙ ap (λ (t : Bool). if t then Some (name ∷ names) else None) (le-leb (path_bytes (name ∷ names)) 1024 le)

slash-plain : IsPlain 47
slash-plain = record { least = omega arith; most = omega arith }

slashed-plain : (names : List (List ℕ)) → ArePathNames names → All IsPlain (slashed names)
unfolding slashed
slashed-plain [] ps = All-nil IsPlain
slashed-plain (name ∷ names) ps = All-cons IsPlain 47 (shown name ++ slashed names) slash-plain
    (All-append IsPlain (shown name) (slashed names) (shown-plain name ps.0.bytes) (slashed-plain names ps.1))

pub path-is-word : (names : List (List ℕ)) → ArePathNames names → IsWord (path_word names)
unfolding slashed
path-is-word [] ps = record { some = omega arith; plain = All-cons IsPlain 47 [] slash-plain (All-nil IsPlain) }
path-is-word (name ∷ names) ps = record { some = omega arith; plain = slashed-plain (name ∷ names) ps }

-- ---- targets and bytes

pub target-back : (target : List ℕ) → IsBytes target → is_target target ≡ true → target_of (shown target) ≡ Some target
target-back target b is = ap (option_and_then (λ bytes. if is_target bytes then Some bytes else None)) (shown-back target b)
    ∙ ap (λ (t : Bool). if t then Some target else None) is

some-size : (n : ℕ) → 1 ≤ n → n ≤ 65536 → is_payload_length n ≡ true
some-size n low high = rw (ne_eqb n 0 (λ e. omega (arith, e, low))) (le-leb n 65536 high)

pub payload-back : (bytes : List ℕ) → IsBytes bytes → 1 ≤ length bytes → length bytes ≤ 65536 → payload_of (hex_word bytes) ≡ Some bytes
payload-back [] b low high = absurd (omega (arith, low))
payload-back (x ∷ bytes) b low high = ap some_bytes (decode_of-encode_lower (x ∷ bytes) b)
    ∙ ap (λ (t : Bool). if t then Some (x ∷ bytes) else None) (some-size (length (x ∷ bytes)) low high)

pub byte-back : (byte : ℕ) → byte < 256 → byte_of (hex_word (byte ∷ [])) ≡ Some byte
byte-back byte fits = ap only_byte (decode_of-encode_lower (byte ∷ []) only)
  where
    only : IsBytes (byte ∷ [])
    only zero = fits
    only (suc k) = omega arith
