-- The body of a page has its length, and is read back as it is.
use Rattle.std.proofs.Common.{◌≡◌, ◌≤◌, ◌<◌, ◌^◌, ℕ, ◌+◌, ◌-◌, List, ◌++◌, [], length, take, replicate, Some, Ok, refl, sym, arith, append_assoc, length-append}
use Rattle.std.proofs.lemmas.Bool.{le-ltb}
use Rattle.std.proofs.lemmas.List.{length-replicate, take_at, append-nil, take-replicate}
use Rattle.xdr_codec.specs.Reading.{u32_at, u64_at, fixed_at, padding}
use Rattle.xdr_codec.specs.Spelling.{u32_bytes, u64_bytes}
use Rattle.xdr_codec.specs.Spells.{SpellsFixed}
use Rattle.xdr_codec.proofs.Laws.{u32_codec, u64_codec}
use Rattle.xdr_codec.proofs.MoreLaws.{fixed_codec}
use Rattle.nfs_types.specs.declared.wcc.Stamp.{Stamp}
use Rattle.nfs_types.specs.Fields.{stamp_at, stamp_bytes, time_bytes}
use Rattle.nfs_types.specs.Held.{held}
use Rattle.page_store.specs.Pages.{stored_page, field_at, field_bytes, page_at, page_of, body_bytes}

pub take_replicate : (m n : ℕ) → m ≤ n → take {A = ℕ} m (replicate n 0) ≡ replicate m 0
take_replicate m n le = take-replicate m n 0 le

length-u32 : (n : ℕ) → length (u32_bytes n) ≡ 4
unfolding u32_bytes
length-u32 n = refl

length-u64 : (n : ℕ) → length (u64_bytes n) ≡ 8
unfolding u64_bytes
length-u64 n = refl

length-held : (room : ℕ) (bytes : List ℕ) → length bytes ≤ room → length (held room bytes) ≡ room
length-held room bytes fits = let whole = length-append bytes (replicate (room - length bytes) 0) in let more = length-replicate {A = ℕ} (room - length bytes) 0 in omega (arith, whole, more, fits)

length-field : (room : ℕ) (bytes : List ℕ) → length bytes ≤ room → length (field_bytes room bytes) ≡ room + 4
unfolding field_bytes
length-field room bytes fits =
    let whole = length-append (u32_bytes (length bytes)) (held room bytes) in
    let word = length-u32 (length bytes) in
    let rest = length-held room bytes fits in
    omega (arith, whole, word, rest)

length-stamp : (stamp : Stamp) → length (stamp_bytes stamp) ≡ 24
unfolding stamp_bytes time_bytes u32_bytes u64_bytes
length-stamp stamp = refl

pub body_long : (file : List ℕ) (stamp : Stamp) (index : ℕ) (bytes : List ℕ) → length file ≤ 64 → length bytes ≤ 4096 → length (body_bytes (stored_page file stamp index bytes)) ≡ 4220
unfolding body_bytes
body_long file stamp index bytes short fits =
    let e : List ℕ = replicate 20 0 in
    let d : List ℕ = field_bytes 4096 bytes in
    let a = length-append (field_bytes 64 file) (stamp_bytes stamp ++ (u64_bytes index ++ (d ++ e))) in
    let b = length-append (stamp_bytes stamp) (u64_bytes index ++ (d ++ e)) in
    let c = length-append (u64_bytes index) (d ++ e) in
    let f = length-append d e in
    let la = length-field 64 file short in
    let lb = length-stamp stamp in
    let lc = length-u64 index in
    let ld = length-field 4096 bytes fits in
    let le = length-replicate {A = ℕ} 20 0 in
    omega (arith, a, b, c, f, la, lb, lc, ld, le)

-- what was written into a room is read from it
field-again : (room : ℕ) (bytes rest : List ℕ) → length bytes ≤ room → room < 2 ^ 32 → padding room ≡ 0 → field_at room (field_bytes room bytes ++ rest) ≡ Ok (bytes, rest)
unfolding field_at field_bytes
field-again room bytes rest fits small even =
    let whole : (u32_bytes (length bytes) ++ held room bytes) ++ rest ≡ u32_bytes (length bytes) ++ (held room bytes ++ rest) = append_assoc (u32_bytes (length bytes)) (held room bytes) rest in
    let word : u32_at (u32_bytes (length bytes) ++ (held room bytes ++ rest)) ≡ Ok (length bytes, held room bytes ++ rest) =
    u32_codec.again (length bytes) (u32_bytes (length bytes)) (held room bytes ++ rest) (record { fits = omega (arith, fits, small); is = refl }) in
    let spells : SpellsFixed room (held room bytes) (held room bytes) = record { size = length-held room bytes fits; pad = []; long = sym even; is = sym (append-nil (held room bytes)) } in
    let all : fixed_at room (held room bytes ++ rest) ≡ Ok (held room bytes, rest) = (fixed_codec room).again (held room bytes) (held room bytes) rest spells in
    rw (whole, word, all, le-ltb _ _ fits, take_at bytes (replicate (room - length bytes) 0) (length bytes) refl) refl

pub body_again : (file : List ℕ) (stamp : Stamp) (index : ℕ) (bytes : List ℕ) → length file ≤ 64 → length bytes ≤ 4096 → index < 2 ^ 64
    → ((rest : List ℕ) → stamp_at (stamp_bytes stamp ++ rest) ≡ Ok (stamp, rest))
    → page_of (body_bytes (stored_page file stamp index bytes)) ≡ Some (stored_page file stamp index bytes)
unfolding body_bytes page_at
body_again file stamp index bytes short fits number again =
    let e : List ℕ = replicate 20 0 in
    let d : List ℕ = field_bytes 4096 bytes in
    let one = field-again 64 file (stamp_bytes stamp ++ (u64_bytes index ++ (d ++ e))) short (omega arith) refl in
    let two = again (u64_bytes index ++ (d ++ e)) in
    let three : u64_at (u64_bytes index ++ (d ++ e)) ≡ Ok (index, d ++ e) = u64_codec.again index (u64_bytes index) (d ++ e) (record { fits = number; is = refl }) in
    let four = field-again 4096 bytes e fits (omega arith) refl in
    rw (one, two, three, four) refl
