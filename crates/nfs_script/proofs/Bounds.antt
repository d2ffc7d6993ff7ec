-- The bounds of what the words of a command say.
use Rattle.std.proofs.Common.{◌≡◌, ◌≤◌, ℕ, List, [], ◌∷◌, length, Bool, true, false, not, ◌&&◌, ◌==◌, nat_le, Option, Some, None, Result, Ok, Err, refl, arith, if◌then◌else◌, ok_or, IfOk, IfSome, option_and_then}
use Rattle.std.proofs.lemmas.Bool.{and_parts, leb-true}
use Rattle.std.specs.List.{list_any, slice_split}
use Rattle.std.specs.Str.Parse.{digits_value}
use Rattle.hex.specs.Hex.{decode_of}
use Rattle.hex.specs.declared.error.FromHexError.{FromHexError}
use Rattle.script_text.specs.Numbers.{number_of, is_numeral, is_within}
use Rattle.script_text.specs.Payloads.{some_bytes, is_payload_length}
use Rattle.script_text.specs.Paths.{path_of, path_bytes, names_of, within_path, names_between, is_slash, decoded, is_target}
use Rattle.nfs_script.specs.Faults.{◌>>=◌}
use Rattle.nfs_script.specs.Commands.{slot_of, offset_of, read_count_of, fill_count_of, bits_of, any_path_of, named, named_path_of, link_target_of, bytes_of}
use Rattle.nfs_script.specs.Script.{lane_of}
use Rattle.nfs_script.specs.Asked.{IsFrom, IsSlot, IsOffset, IsPayload, IsPath, IsNamed, IsTarget}

-- where one reading gives a P, and the next one then gives a Q
pub next : {E A B : Type 0} (P : A → Type 0) (Q : B → Type 0) (r : Result A E) (f : A → Result B E) → IfOk r P → ((x : A) → P x → IfOk (f x) Q) → IfOk (r >>= f) Q
next P Q (Ok x) f p q = q x p
next P Q (Err e) f p q = tt

-- of what is read nothing is said
pub anything : {E A : Type 0} (r : Result A E) → IfOk r (λ x. Unit {0})
anything (Ok x) = tt
anything (Err e) = tt

-- what is found is read
found : {E A : Type 0} (P : A → Type 0) (o : Option A) (cause : E) → IfSome o P → IfOk (ok_or o cause) P
found P None cause h = tt
found P (Some x) cause h = h

-- what is taken where it passes a test
passed : {A : Type 0} (P : A → Type 0) (b : Bool) (x : A) → (b ≡ true → P x) → IfSome (if b then Some x else None) P
passed P true x h = h refl
passed P false x h = tt

follows : {A B : Type 0} (P : B → Type 0) (o : Option A) (f : A → Option B) → ((x : A) → IfSome (f x) P) → IfSome (option_and_then f o) P
follows P None f h = tt
follows P (Some x) f h = h x

-- ---- numbers

ranged : (low high : ℕ) (word : List ℕ) → IfSome (number_of low high word) (IsFrom low high)
ranged low high word = passed (IsFrom low high) (is_numeral word && is_within low high (digits_value 10 word)) (digits_value 10 word) (λ t.
    let k = and_parts (is_numeral word) (is_within low high (digits_value 10 word)) t in
    let w = and_parts (nat_le low (digits_value 10 word)) (nat_le (digits_value 10 word) high) k.1 in
    record { least = leb-true low _ w.0; most = leb-true _ high w.1 })

bounded : (high : ℕ) (word : List ℕ) → IfSome (number_of 0 high word) (λ n. n ≤ high)
bounded high word = passed (λ n. n ≤ high) (is_numeral word && is_within 0 high (digits_value 10 word)) (digits_value 10 word) (λ t.
    let k = and_parts (is_numeral word) (is_within 0 high (digits_value 10 word)) t in
    let w = and_parts (nat_le 0 (digits_value 10 word)) (nat_le (digits_value 10 word) high) k.1 in
    leb-true _ high w.1)

pub lane_bounds : (word : List ℕ) → IfOk (lane_of word) (IsFrom 1 16)
lane_bounds word = found (IsFrom 1 16) _ _ (ranged 1 16 word)

pub slot_bounds : (word : List ℕ) → IfOk (slot_of word) IsSlot
slot_bounds word = found IsSlot _ _ (ranged 1 16 word)

pub offset_bounds : (word : List ℕ) → IfOk (offset_of word) IsOffset
offset_bounds word = found IsOffset _ _ (bounded 4611686018427387904 word)

pub read_count_bounds : (word : List ℕ) → IfOk (read_count_of word) (λ n. n ≤ 65536)
read_count_bounds word = found (λ n. n ≤ 65536) _ _ (bounded 65536 word)

pub fill_count_bounds : (word : List ℕ) → IfOk (fill_count_of word) (IsFrom 1 1048576)
fill_count_bounds word = found (IsFrom 1 1048576) _ _ (ranged 1 1048576 word)

pub bits_bounds : (word : List ℕ) → IfOk (bits_of word) (IsFrom 1 63)
bits_bounds word = found (IsFrom 1 63) _ _ (ranged 1 63 word)

-- ---- bytes

some_of : (n : ℕ) → not (n == 0) ≡ true → 1 ≤ n
some_of n h = grind (arith, h)

payload_in : (r : Result (List ℕ) FromHexError) → IfSome (some_bytes r) IsPayload
payload_in (Err e) = tt
payload_in (Ok bytes) = passed IsPayload (is_payload_length (length bytes)) bytes (λ t.
    let k = and_parts (not (length bytes == 0)) (nat_le (length bytes) 65536) t in
    record { least = some_of (length bytes) k.0; most = leb-true (length bytes) 65536 k.1 })

pub payload_bounds : (word : List ℕ) → IfOk (bytes_of word) IsPayload
payload_bounds word = found IsPayload _ _ (payload_in (decode_of word))

target_in : (bytes : List ℕ) → IfSome (if is_target bytes then Some bytes else None) IsTarget
target_in bytes = passed IsTarget (is_target bytes) bytes (λ t.
    let k = and_parts (not (length bytes == 0) && nat_le (length bytes) 1024) (not (list_any (λ b. b == 0) bytes)) t in
    let j = and_parts (not (length bytes == 0)) (nat_le (length bytes) 1024) k.0 in
    record { least = some_of (length bytes) j.0; most = leb-true (length bytes) 1024 j.1 })

pub target_bounds : (word : List ℕ) → IfOk (link_target_of word) IsTarget
target_bounds word = found IsTarget _ _ (follows IsTarget (decoded word) _ target_in)

-- ---- paths

within : (names : List (List ℕ)) → IfSome (within_path names) IsPath
within names = passed IsPath (nat_le (path_bytes names) 1024) names (λ t. leb-true (path_bytes names) 1024 t)

between : (text : List ℕ) → IfSome (names_between text) IsPath
between text = follows IsPath (names_of (slice_split is_slash text)) within_path within

if_slash : (b : Bool) (o : Option (List (List ℕ))) → IfSome o IsPath → IfSome (if b then o else None) IsPath
if_slash true o h = h
if_slash false o h = tt

path_in : (word : List ℕ) → IfSome (path_of word) IsPath
path_in [] = tt
path_in (b ∷ []) = if_slash (b == 47) (Some []) (omega arith)
path_in (b ∷ c ∷ text) = if_slash (b == 47) (names_between (c ∷ text)) (between (c ∷ text))

pub any_path_bounds : (word : List ℕ) → IfOk (any_path_of word) IsPath
any_path_bounds word = found IsPath _ _ (path_in word)

is_named : (path : List (List ℕ)) → IsPath path → IfOk (named path) IsNamed
is_named [] h = tt
is_named (name ∷ names) h = record { some = omega arith; within = h }

pub named_path_bounds : (word : List ℕ) → IfOk (named_path_of word) IsNamed
named_path_bounds word = next IsPath IsNamed (any_path_of word) named (any_path_bounds word) is_named
