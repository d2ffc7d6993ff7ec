-- File handles name places, each its own.
use Rattle.std.proofs.Common.{◌≡◌, ◌<◌, ◌+◌, ◌-◌, ◌||◌, ℕ, true, false, List, length, Some, sym, ap, ◌∙◌, arith, nat_lt, ◌==◌, ⊎_elim, append-nil, []}
use Rattle.std.proofs.lemmas.Bool.{cases_Bool, or_parts, ltb-false, le-ltb, ne_eqb, eqb-true, eqb-false}
use Rattle.std.proofs.lemmas.Nat.{be_bytes_8}
use Rattle.std.proofs.lemmas.List.{take_all}
use Rattle.std.specs.Int.{w64, from_be_bytes}
use Rattle.byteorder.specs.Endian.{big_number}
use Rattle.byteorder.specs.Numbers.{big_number-reads_back, length-bytes_high_first}
use Rattle.xdr_codec.specs.Bytes.{IsBytes}
use Rattle.xdr_codec.specs.Spelling.{u64_bytes}
use Rattle.xdr_codec.proofs.Laws.{big_is_8}
use Rattle.export_fs.specs.Parts.{last_number, handle_of, place_of, place_of_number}

number_is : (number place : ℕ) → place_of_number number ≡ Some place → number ≡ place + 1
number_is number place e =
    ⊎_elim (λ (b : ((number == 0) || nat_lt last_number number) ≡ true). let f = simp b at e in absurd (cc))
    (λ (b : ((number == 0) || nat_lt last_number number) ≡ false).
    let f : Some (number - 1) ≡ Some place = simp b at e in
    let g : number - 1 ≡ place = cc in
    omega (arith, eqb-false number 0 (or_parts (number == 0) (nat_lt last_number number) b).0))
    (cases_Bool ((number == 0) || nat_lt last_number number))

number_below : (number place : ℕ) → place_of_number number ≡ Some place → place < last_number
number_below number place e =
    ⊎_elim (λ (b : ((number == 0) || nat_lt last_number number) ≡ true). let f = simp b at e in absurd (cc))
    (λ (b : ((number == 0) || nat_lt last_number number) ≡ false).
    let p = or_parts (number == 0) (nat_lt last_number number) b in
    omega (arith, number_is number place e, ltb-false last_number number p.1))
    (cases_Bool ((number == 0) || nat_lt last_number number))

-- a file handle that names a place has 8 bytes
place_parts : (h : List ℕ) (place : ℕ) → place_of h ≡ Some place → (length h ≡ 8) × (place_of_number (big_number 8 h) ≡ Some place)
place_parts h place e =
    ⊎_elim (λ (b : (length h == 8) ≡ true). let f : place_of_number (big_number 8 h) ≡ Some place = simp b at e in (eqb-true (length h) 8 b, f))
    (λ (b : (length h == 8) ≡ false). let f = simp b at e in absurd (cc))
    (cases_Bool (length h == 8))

pub place_below : (h : List ℕ) (place : ℕ) → place_of h ≡ Some place → place < last_number
place_below h place e = number_below (big_number 8 h) place (place_parts h place e).1

pub handle_is : (h : List ℕ) (place : ℕ) → IsBytes h → place_of h ≡ Some place → h ≡ handle_of place
unfolding u64_bytes
handle_is h place fits e =
    let p = place_parts h place e in
    let n : place + 1 ≡ big_number 8 h = sym (number_is (big_number 8 h) place p.1) in
    sym (be_bytes_8 h (place + 1) p.0 fits (n ∙ big_is_8 h ∙ ap (from_be_bytes w64) (take_all 8 h (omega (arith, p.0)))))

pub handle_length : (place : ℕ) → length (handle_of place) ≡ 8
unfolding u64_bytes
handle_length place = length-bytes_high_first 8 (place + 1)

handle_number : (place : ℕ) → place < last_number → big_number 8 (handle_of place) ≡ place + 1
unfolding u64_bytes
handle_number place l = ap (big_number 8) (sym (append-nil (u64_bytes (place + 1)))) ∙ big_number-reads_back 8 (place + 1) [] (omega arith)

pub place_is : (place : ℕ) → place < last_number → place_of (handle_of place) ≡ Some place
place_is place l =
    let a : (length (handle_of place) == 8) ≡ true = ap (λ (n : ℕ). n == 8) (handle_length place) in
    let b : (place + 1 == 0) ≡ false = ne_eqb (place + 1) 0 (λ q. omega arith) in
    let c : nat_lt last_number (place + 1) ≡ false = le-ltb last_number (place + 1) (omega arith) in
    let d : place + 1 - 1 ≡ place = omega arith in
    simp (a, handle_number place l, b, c) (ap Some d)
