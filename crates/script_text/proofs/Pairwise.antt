-- From the values of digits to the bytes of a text.
use Rattle.std.proofs.Common.{◌≡◌, ℕ, ◌+◌, ◌*◌, ◌-◌, ◌<◌, ◌≤◌, suc, zero, List, [], ◌∷◌, drop, Bool, true, false, Option, Some, None, Result, Ok, map, length, replicate, get_or, bit_or, nat_lt, refl, sym, ap, subst, ◌∙◌, arith, inl, inr}
use Rattle.std.specs.Prelude.{is_some}
use Rattle.std.specs.List.{AllPass}
use Rattle.std.proofs.lemmas.List.{get_or-map, length-map}
use Rattle.std.proofs.lemmas.Bool.{cases_lt}
use Rattle.std.proofs.lemmas.List.Elements.{All-head, All-tail, All-take, All-drop}
use Rattle.std.proofs.lemmas.Simd.{length-chunk, get_or-chunk, get_or-put_chunk_below, get_or-put_chunk_at, Each1-get_or, Each1-replicate, length-zip2}
use Rattle.std.specs.Simd.Lanes.{chunk, put_chunk, zip2, fold_l, Each1}
use Rattle.hex.specs.Hex.{decode_of, decode_pairs, pair_value, hex_digit_value, is_hex_digit}
use Rattle.hex.specs.declared.error.FromHexError.{FromHexError}
use Rattle.hex.proofs.Pairs.{decode_pairs-ok_pair, cons_byte}
use Rattle.hex.proofs.HexLemmas.{decode_of-even, decode_of-ok}
use Rattle.script_text.specs.Digits.{digit_of, pairs_of, AreRead, IsSeen, Tells}
use Rattle.script_text.specs.Paths.{escaped}
use Rattle.script_text.proofs.Lanewise.{IsSmall, small_parts, small_both, all_small, small_all}

pub length_pairs : (values : List ℕ) (n : ℕ) → length values ≡ 2 * n → length (pairs_of values) ≡ n
length_pairs [] n e = omega (arith, e)
length_pairs (a ∷ []) n e = absurd (omega (arith, e))
length_pairs (a ∷ b ∷ values) n e =
    let rest = length_pairs values (n - 1) (omega (arith, e)) in
    omega (arith, e, rest)

pair_at : (values : List ℕ) (j : ℕ) → 2 * j + 1 < length values → get_or (pairs_of values) j 0 ≡ get_or values (2 * j) 0 * 16 + get_or values (2 * j + 1) 0
pair_at [] j lt = absurd (omega arith)
pair_at (a ∷ []) j lt = absurd (omega arith)
pair_at (a ∷ b ∷ values) zero lt = refl
pair_at (a ∷ b ∷ values) (suc j) lt =
    let first : 2 * suc j ≡ suc (suc (2 * j)) = omega arith in
    let second : suc (suc (2 * j)) + 1 ≡ suc (suc (2 * j + 1)) = omega arith in
    rw (first, second) (pair_at values j (omega (arith, lt)))

-- what values tell of digits that have some
value_at : (values digits : List ℕ) (k : ℕ) → map digit_of values ≡ map hex_digit_value digits → length values ≡ length digits → k < length values → Each1 IsSmall values
    → hex_digit_value (get_or digits k 0) ≡ Some (get_or values k 0)
value_at values digits k e long lt small =
    let here = get_or-map hex_digit_value digits k 0 None (omega (arith, long, lt)) in
    let there = get_or-map digit_of values k 0 None lt in
    let low : get_or values k 0 < 16 = Each1-get_or IsSmall values k 0 lt small in
    sym here ∙ ap (λ (l : List (Option ℕ)). get_or l k None) (sym e) ∙ there ∙ some_of (get_or values k 0) low
  where
    some_of : (value : ℕ) → value < 16 → digit_of value ≡ Some value
    some_of value h = grind (arith, h)

joined_digits : (a b x y : ℕ) → hex_digit_value a ≡ Some x → hex_digit_value b ≡ Some y → escaped a b ≡ Some (x * 16 + y)
joined_digits a b x y h k = rw (h, k) refl

-- the bytes of a vector of digits
pub block_read : (hex bytes values : List ℕ) (at : ℕ) → at + 16 ≤ length bytes → length hex ≡ 2 * length bytes → length values ≡ 32
    → map digit_of values ≡ map hex_digit_value (chunk (2 * at) 32 hex) → Each1 IsSmall values → AreRead hex (put_chunk at bytes (pairs_of values)) at (at + 16)
block_read hex bytes values at fits room long e small i from to =
    let j : ℕ = i - at in
    let is : i ≡ at + j = omega arith in
    let digits = chunk (2 * at) 32 hex in
    let many : length digits ≡ 32 = length-chunk (2 * at) 32 hex (omega (arith, room, fits)) in
    let pairs = length_pairs values 16 (omega (arith, long)) in
    let below : j < 16 = omega (arith, is, to) in
    let even : 2 * i ≡ 2 * at + 2 * j = omega (arith, is) in
    let odd : 2 * i + 1 ≡ 2 * at + (2 * j + 1) = omega (arith, is) in
    let same : length values ≡ length digits = long ∙ sym many in
    let first : hex_digit_value (get_or hex (2 * i) 0) ≡ Some (get_or values (2 * j) 0) =
    ap (λ (k : ℕ). hex_digit_value (get_or hex k 0)) even
    ∙ ap (λ (d : ℕ). hex_digit_value d) (sym (get_or-chunk (2 * at) 32 hex (2 * j) 0 (omega (arith, below))))
    ∙ value_at values digits (2 * j) e same (omega (arith, below, long)) small in
    let second : hex_digit_value (get_or hex (2 * i + 1) 0) ≡ Some (get_or values (2 * j + 1) 0) =
    ap (λ (k : ℕ). hex_digit_value (get_or hex k 0)) odd
    ∙ ap (λ (d : ℕ). hex_digit_value d) (sym (get_or-chunk (2 * at) 32 hex (2 * j + 1) 0 (omega (arith, below))))
    ∙ value_at values digits (2 * j + 1) e same (omega (arith, below, long)) small in
    let byte : get_or (put_chunk at bytes (pairs_of values)) i 0 ≡ get_or values (2 * j) 0 * 16 + get_or values (2 * j + 1) 0 =
    ap (λ (k : ℕ). get_or (put_chunk at bytes (pairs_of values)) k 0) is
    ∙ get_or-put_chunk_at at bytes (pairs_of values) j 0 (omega (arith, below, pairs)) (omega (arith, fits, pairs))
    ∙ pair_at values j (omega (arith, below, long)) in
    joined_digits (get_or hex (2 * i) 0) (get_or hex (2 * i + 1) 0) _ _ first second ∙ ap (λ (v : ℕ). Some v) (sym byte)

-- bytes before a vector that is written stay
pub stay_read : (hex bytes more : List ℕ) (to at : ℕ) → to ≤ at → AreRead hex bytes 0 to → AreRead hex (put_chunk at bytes more) 0 to
stay_read hex bytes more to at le h i from lt = h i from lt ∙ ap (λ (v : ℕ). Some v) (sym (get_or-put_chunk_below at bytes more i 0 (omega (arith, lt, le))))

pub next_read : (hex bytes : List ℕ) (a b c : ℕ) → AreRead hex bytes 0 b → AreRead hex bytes a c → a ≤ b → AreRead hex bytes 0 c
next_read hex bytes a b c h k le i from lt = elim (cases_lt i b) [
  | inl below ↦ h i from below
  | inr past ↦ k i (omega (arith, past, le)) lt
]

pair_reads : (a b i v : ℕ) → escaped a b ≡ Some v → pair_value a b i ≡ Ok v
pair_reads a b i v h = go (hex_digit_value a) (hex_digit_value b) refl refl
  where
    ok_of : Option ℕ → Result ℕ FromHexError
    ok_of (Some x) = Ok x
    ok_of None = Ok 0

    go : (x y : Option ℕ) → hex_digit_value a ≡ x → hex_digit_value b ≡ y → pair_value a b i ≡ Ok v
    go None y hx hy = let none = rw hx at h in cc none
    go (Some x) None hx hy = let none = rw (hx, hy) at h in cc none
    go (Some x) (Some y) hx hy = let some : Some (x * 16 + y) ≡ Some v = sym (joined_digits a b x y hx hy) ∙ h in
        rw (hx, hy) (ap (λ (o : Option ℕ). ok_of o) some)

-- where each byte is that of its digits, the digits are those of the bytes
pub all_read : (bytes hex : List ℕ) (i : ℕ) → length hex ≡ 2 * length bytes → AreRead hex bytes 0 (length bytes) → decode_pairs i hex ≡ Ok bytes
unfolding decode_pairs
all_read [] [] i e h = refl
all_read [] (a ∷ hex) i e h = absurd (omega (arith, e))
all_read (y ∷ bytes) [] i e h = absurd (omega (arith, e))
all_read (y ∷ bytes) (a ∷ []) i e h = absurd (omega (arith, e))
all_read (y ∷ bytes) (a ∷ b ∷ hex) i e h =
    decode_pairs-ok_pair i a b y hex (pair_reads a b i y (h 0 (omega arith) (omega arith)))
    ∙ ap (λ (r : Result (List ℕ) FromHexError). cons_byte y r) (all_read bytes hex (i + 2) (omega (arith, e)) (λ j from lt. shifted j (h (suc j) (omega arith) (omega (arith, lt)))))
  where
    shifted : (j : ℕ) → escaped (get_or (a ∷ b ∷ hex) (2 * suc j) 0) (get_or (a ∷ b ∷ hex) (2 * suc j + 1) 0) ≡ Some (get_or (y ∷ bytes) (suc j) 0)
        → escaped (get_or hex (2 * j) 0) (get_or hex (2 * j + 1) 0) ≡ Some (get_or bytes j 0)
    shifted j k =
        let first : 2 * suc j ≡ suc (suc (2 * j)) = omega arith in
        let second : 2 * suc j + 1 ≡ suc (suc (2 * j + 1)) = omega arith in
        ap (λ (n : ℕ). escaped (get_or (a ∷ b ∷ hex) n 0) (get_or hex (2 * j + 1) 0)) (sym first)
        ∙ ap (λ (n : ℕ). escaped (get_or (a ∷ b ∷ hex) (2 * suc j) 0) (get_or (a ∷ b ∷ hex) n 0)) (sym second) ∙ k

pub reads_all : (hex bytes : List ℕ) → length hex ≡ 2 * length bytes → AreRead hex bytes 0 (length bytes) → decode_of hex ≡ Ok bytes
reads_all hex bytes e h = decode_of-even hex (omega (arith, e)) ∙ all_read bytes hex 0 e h

-- digits have values below sixteen
small_digits : (values digits : List ℕ) → map digit_of values ≡ map hex_digit_value digits → AllPass is_hex_digit digits → Each1 IsSmall values
small_digits [] digits e all = tt
small_digits (v ∷ values) [] e all = cc e
small_digits (v ∷ values) (d ∷ digits) e all =
    let here : digit_of v ≡ hex_digit_value d = ap (λ (l : List (Option ℕ)). head_or l) e in
    let rest : map digit_of values ≡ map hex_digit_value digits = ap (λ (l : List (Option ℕ)). tail_or l) e in (
      small_some v (ap (λ (o : Option ℕ). is_some o) here ∙ All-head (λ c. is_hex_digit c ≡ true) d digits all),
      small_digits values digits rest (All-tail (λ c. is_hex_digit c ≡ true) d digits all),
    )
  where
    head_or : List (Option ℕ) → Option ℕ
    head_or [] = None
    head_or (x ∷ xs) = x

    tail_or : List (Option ℕ) → List (Option ℕ)
    tail_or [] = []
    tail_or (x ∷ xs) = xs

    small_some : (value : ℕ) → is_some (digit_of value) ≡ true → value < 16
    small_some value h = grind (arith, h)

pub small_block : (hex values : List ℕ) (from : ℕ) → map digit_of values ≡ map hex_digit_value (chunk from 32 hex) → AllPass is_hex_digit hex → Each1 IsSmall values
small_block hex values from e all =
    small_digits values (chunk from 32 hex) e (All-take (λ c. is_hex_digit c ≡ true) 32 (drop from hex) (All-drop (λ c. is_hex_digit c ≡ true) from hex all))

lengths : (values digits : List ℕ) → map digit_of values ≡ map hex_digit_value digits → length values ≡ length digits
lengths values digits e = sym (length-map values digit_of) ∙ ap (λ (l : List (Option ℕ)). length l) e ∙ length-map digits hex_digit_value

pub nothing_seen : (hex bytes : List ℕ) → IsSeen hex bytes (replicate 32 0) 0
nothing_seen hex bytes = record {
  many = refl;
  found = λ h i from lt. absurd (omega (arith, lt));
  small = λ all. Each1-replicate IsSmall 32 0 (omega arith);
}

pub more_seen : (hex bytes after seen values : List ℕ) (from at : ℕ) → length hex ≡ 2 * length bytes → at + 16 ≤ length bytes → at ≤ from
    → map digit_of values ≡ map hex_digit_value (chunk (2 * at) 32 hex) → (Each1 IsSmall values → after ≡ put_chunk at bytes (pairs_of values))
    → IsSeen hex bytes seen from → IsSeen hex after (zip2 bit_or seen values) (at + 16)
more_seen hex bytes after seen values from at room fits le e put s =
    let long : length values ≡ 32 = lengths values (chunk (2 * at) 32 hex) e ∙ length-chunk (2 * at) 32 hex (omega (arith, room, fits)) in
    let equal : length seen ≡ length values = s.many ∙ sym long in
    record {
      many = length-zip2 bit_or seen values equal ∙ s.many;
      found = λ h.
          let parts = small_parts seen values equal h in
          let before : AreRead hex bytes 0 at = (λ i low lt. s.found parts.0 i low (omega (arith, lt, le))) in
          let written = put_chunk at bytes (pairs_of values) in
          subst (λ (b : List ℕ). AreRead hex b 0 (at + 16)) (sym (put parts.1))
          (next_read hex written at at (at + 16) (stay_read hex bytes (pairs_of values) at at (omega arith) before)
          (block_read hex bytes values at fits room long e parts.1) (omega arith));
      small = λ all. small_both seen values (s.small all) (small_block hex values (2 * at) e all);
    }

pub seen_to : (hex bytes seen : List ℕ) (to end : ℕ) → to ≡ end → IsSeen hex bytes seen to → IsSeen hex bytes seen end
seen_to hex bytes seen to end e s = subst (λ (n : ℕ). IsSeen hex bytes seen n) e s

pub all_seen : (hex bytes seen : List ℕ) (to : ℕ) → length hex ≡ 2 * length bytes → to ≡ length bytes → IsSeen hex bytes seen to
    → Tells hex (nat_lt (fold_l bit_or 0 seen) 16) bytes
all_seen hex bytes seen to room end s = by (nat_lt (fold_l bit_or 0 seen) 16) refl
  where
    by : (result : Bool) → nat_lt (fold_l bit_or 0 seen) 16 ≡ result → Tells hex result bytes
    by true e = reads_all hex bytes room (subst (λ (n : ℕ). AreRead hex bytes 0 n) end (s.found (all_small seen e)))
    by false e = λ others d. cc (sym e ∙ small_all seen (s.small (decode_of-ok hex others d).1))
