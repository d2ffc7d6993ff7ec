-- What was pending when a read began is what its two lists say, and what is laid over the server's bytes.
use Rattle.std.proofs.Common.{◌≡◌, ◌+◌, ◌<◌, ◌≤◌, ◌-◌, min, length, length-append, get_or-set_same, get_or-set_other, get_or-take, take_at, take_all, ext_get_or, get_or-append-add, ℕ, zero, suc, ◌==◌, true, false, List, [], ◌∷◌, ◌++◌, replicate, take, slice_get, slice_set, slice_index, Option, None, Some, unwrap_or, option_map, if◌then◌else◌, refl, ap, sym, ◌∙◌, inl, inr, arith}
use Rattle.std.specs.Prelude.{nat_lt}
use Rattle.std.proofs.lemmas.Bool.{eq-eqb, cases_lt, lt-ltb, le-ltb}
use Rattle.std.proofs.lemmas.List.{get_or_append_left, get_or_push, get_or_past, get_or-replicate, length-take, length-replicate}
use Rattle.std.proofs.lemmas.Option.{unwrap_or-slice_get, slice_get-get_or}
use Rattle.write_back.specs.Segments.{Segments, shown, newest_at, last_end}
use Rattle.write_back.specs.Pieces.{FilePending, fly_at}
use Rattle.write_back.specs.Sound.{IsSound}
use Rattle.write_back.specs.Waits.{IsClear, byte_pending}
use Rattle.write_back.specs.Files.{Pending, of_file}
use Rattle.write_back.proofs.EndAndBytes.{newest-is, end-none, end-some, shown-length}
use Rattle.file_ops.specs.Overlaid.{listed, byte_or, byte_shown, pending_then, alike_or, PendingThen, was_pending, size_to}

-- a list that pending bytes are shown over, at a place of it
pub shown-at : (es : Segments) (place : ℕ) (bytes : List ℕ) (i : ℕ)
    → slice_get (shown es place bytes) i ≡ option_map (λ b. unwrap_or (newest_at es (place + i)) b) (slice_get bytes i)
shown-at es place [] i = refl
shown-at es place (b ∷ bytes) zero = ap (λ p. Some (unwrap_or (newest_at es p) b)) (omega arith)
shown-at es place (b ∷ bytes) (suc i) =
    shown-at es (place + 1) bytes i ∙ ap (λ p. option_map (λ c. unwrap_or (newest_at es p) c) (slice_get bytes i)) (omega arith)

pub alike-at : (n i byte : ℕ) → i < n → slice_get (replicate n byte) i ≡ Some byte
alike-at zero i byte below = absurd (omega (below, arith))
alike-at (suc n) zero byte below = refl
alike-at (suc n) (suc i) byte below = alike-at n i byte (omega (below, arith))

pub pending-at : (es : Segments) (offset count i byte other : ℕ) → i < count
    → byte_or (shown es offset (replicate count byte)) i other ≡ unwrap_or (newest_at es (offset + i)) byte
pending-at es offset count i byte other below = rw (shown-at es offset (replicate count byte) i, alike-at count i byte below) refl

-- The two lists are alike where a byte was pending, and have it there.
either : (o : Option ℕ) (b : ℕ) → (if unwrap_or o 0 == unwrap_or o 255 then unwrap_or o 0 else b) ≡ unwrap_or o b
either None b = refl
either (Some c) b = rw (eq-eqb c c refl) refl

pub byte-shown : (file : List ℕ) (offset count : ℕ) (back : Pending) (base : List ℕ) (i : ℕ) → i < count
    → byte_shown base (was_pending file offset count back) i ≡ unwrap_or (newest_at (of_file file back).segments (offset + i)) (byte_or base i 0)
byte-shown file offset count back base i below = rw (pending-at (of_file file back).segments offset count i 0 0 below, pending-at (of_file file back).segments offset count i 255 255 below) (either (newest_at (of_file file back).segments (offset + i)) (byte_or base i 0))

length-listed : (f : ℕ → ℕ) (n : ℕ) → length (listed f n) ≡ n
length-listed f zero = refl
length-listed f (suc n) = omega (arith, length-append (listed f n) (f n ∷ []), length-listed f n)

-- the byte at each place of a list of bytes by place
listed-at : (f : ℕ → ℕ) (n i : ℕ) → i < n → slice_index (listed f n) i ≡ f i
listed-at f zero i low = absurd (omega (low, arith))
listed-at f (suc n) i low = elim (cases_lt i n) [
  | inl lt ↦ get_or_append_left (listed f n) (f n ∷ []) 0 i (omega (arith, lt, length-listed f n)) ∙ listed-at f n i lt
  | inr le ↦
      let e : i ≡ n = omega (arith, low, le) in
      rw e (get_or_push (listed f n) (f n) 0 n (length-listed f n))
]

-- a list whose bytes are these by place
pub is-listed : (f : ℕ → ℕ) (n : ℕ) (bytes : List ℕ) → length bytes ≡ n → ((i : ℕ) → i < n → byte_or bytes i 0 ≡ f i) → bytes ≡ listed f n
is-listed f n bytes long by = ext_get_or 0 bytes (listed f n) (long ∙ sym (length-listed f n)) (λ i low.
    let lt : i < n = omega (arith, low, long) in
    sym (unwrap_or-slice_get bytes i 0) ∙ by i lt ∙ sym (listed-at f n i lt))

-- the server's bytes, cut or filled up with zeros
pub padded-is : (old base front bytes more : List ℕ) (size count : ℕ) → old ≡ [] → front ≡ take (min (length base) size) base → bytes ≡ old ++ front
    → count ≡ length bytes → more ≡ take size bytes ++ replicate (size - count) 0 → more ≡ listed (λ i. byte_or base i 0) size
padded-is old base front bytes more size count none is joined counted all = is-listed (λ i. byte_or base i 0) size more long by
  where
    bytes-are : bytes ≡ take (min (length base) size) base
    bytes-are = joined ∙ ap (λ o. o ++ front) none ∙ is

    short : length bytes ≡ min (length base) size
    short = ap length bytes-are ∙ length-take (min (length base) size) base ∙ omega arith

    front-whole : take size bytes ≡ bytes
    front-whole = take_all size bytes (omega (arith, short))

    more-is : more ≡ bytes ++ replicate (size - count) 0
    more-is = all ∙ ap (λ b. b ++ replicate (size - count) 0) front-whole

    long : length more ≡ size
    long = ap length more-is ∙ length-append bytes (replicate (size - count) 0) ∙ ap (λ n. length bytes + n) (length-replicate (size - count) 0) ∙ omega (arith, short, counted)

    at-more : (i : ℕ) → i < size → slice_index (bytes ++ replicate (size - count) 0) i ≡ slice_index base i
    at-more i lt = elim (cases_lt i (length bytes)) [
      | inl low ↦ get_or_append_left bytes (replicate (size - count) 0) 0 i low ∙ ap (λ b. slice_index b i) bytes-are ∙ get_or-take (min (length base) size) base i 0 (omega (arith, low, short))
      | inr past ↦
          let e : i ≡ length bytes + (i - length bytes) = omega (arith, past) in
          ap (λ n. slice_index (bytes ++ replicate (size - count) 0) n) e ∙ get_or-append-add bytes (replicate (size - count) 0) (i - length bytes) 0
          ∙ get_or-replicate (size - count) (i - length bytes) 0 0 (omega (arith, lt, past, counted)) ∙ sym (get_or_past base i 0 (omega (arith, lt, past, short)))
    ]

    by : (i : ℕ) → i < size → byte_or more i 0 ≡ byte_or base i 0
    by i lt = unwrap_or-slice_get more i 0 ∙ ap (λ b. slice_index b i) more-is ∙ at-more i lt ∙ sym (unwrap_or-slice_get base i 0)

-- bytes of which so many have what was pending over them
abbrev pub byte_laid : List ℕ → List ℕ → List ℕ → ℕ → ℕ → ℕ
byte_laid lows highs old upto at = if nat_lt at upto then alike_or (byte_or lows at 0) (byte_or highs at 255) (byte_or old at 0) else byte_or old at 0

laid-below : (lows highs old : List ℕ) (upto i : ℕ) → i < upto → byte_laid lows highs old upto i ≡ alike_or (byte_or lows i 0) (byte_or highs i 255) (byte_or old i 0)
laid-below lows highs old upto i lt = let below : nat_lt i upto ≡ true = lt-ltb i upto lt in rw below refl

laid-above : (lows highs old : List ℕ) (upto i : ℕ) → upto ≤ i → byte_laid lows highs old upto i ≡ byte_or old i 0
laid-above lows highs old upto i le = let above : nat_lt i upto ≡ false = le-ltb i upto le in rw above refl

-- the byte within a list, whatever else would be taken for it
within : (bytes : List ℕ) (i other : ℕ) → i < length bytes → byte_or bytes i other ≡ slice_index bytes i
within bytes i other lt = ap (λ o. unwrap_or o other) (slice_get-get_or bytes i 0 lt)

pub laid-step : (lows highs old now : List ℕ) (upto byte : ℕ) → upto < length old → upto < length lows → upto < length highs → length now ≡ length old
    → ((i : ℕ) → i < length old → byte_or now i 0 ≡ byte_laid lows highs old upto i)
    → byte ≡ alike_or (slice_index lows upto) (slice_index highs upto) (slice_index now upto)
    → (i : ℕ) → i < length old → byte_or (slice_set now upto byte) i 0 ≡ byte_laid lows highs old (upto + 1) i
laid-step lows highs old now upto byte in-old in-lows in-highs long so is i lt = unwrap_or-slice_get (slice_set now upto byte) i 0 ∙ elim (cases_lt i upto) [
  | inl below ↦
      get_or-set_other now upto i byte 0 (λ e. absurd (omega (arith, below, e))) ∙ sym (unwrap_or-slice_get now i 0) ∙ so i lt
      ∙ laid-below lows highs old upto i below ∙ sym (laid-below lows highs old (upto + 1) i (omega (arith, below)))
  | inr from ↦ elim (cases_lt upto i) [
    | inl above ↦
        get_or-set_other now upto i byte 0 (λ e. absurd (omega (arith, above, e))) ∙ sym (unwrap_or-slice_get now i 0) ∙ so i lt
        ∙ laid-above lows highs old upto i from ∙ sym (laid-above lows highs old (upto + 1) i (omega (arith, above)))
    | inr to ↦
        let here : i ≡ upto = omega (arith, from, to) in
        rw here (get_or-set_same now upto byte 0 (omega (arith, in-old, long)) ∙ byte-is ∙ sym (laid-below lows highs old (upto + 1) upto (omega arith)))
  ]
]
  where
    was : slice_index now upto ≡ byte_or old upto 0
    was = sym (unwrap_or-slice_get now upto 0) ∙ so upto in-old ∙ laid-above lows highs old upto upto (omega arith)

    byte-is : byte ≡ alike_or (byte_or lows upto 0) (byte_or highs upto 255) (byte_or old upto 0)
    byte-is = is ∙ ap (λ x. alike_or x (slice_index highs upto) (slice_index now upto)) (sym (within lows upto 0 in-lows))
        ∙ ap (λ x. alike_or (byte_or lows upto 0) x (slice_index now upto)) (sym (within highs upto 255 in-highs))
        ∙ ap (λ x. alike_or (byte_or lows upto 0) (byte_or highs upto 255) x) was

pub laid-all : (lows highs old : List ℕ) (upto i : ℕ) → length lows ≡ length highs → min (min (length old) (length lows)) (length highs) ≤ upto → i < length old
    → byte_laid lows highs old upto i ≡ alike_or (byte_or lows i 0) (byte_or highs i 255) (byte_or old i 0)
laid-all lows highs old upto i even end lt = elim (cases_lt i upto) [
  | inl below ↦ laid-below lows highs old upto i below
  | inr from ↦
      let low : byte_or lows i 0 ≡ 0 = unwrap_or-slice_get lows i 0 ∙ get_or_past lows i 0 (omega (arith, even, end, lt, from)) in
      let high : byte_or highs i 255 ≡ 255 = unwrap_or-slice_get highs i 255 ∙ get_or_past highs i 255 (omega (arith, even, end, lt, from)) in
      laid-above lows highs old upto i from ∙ sym (ap (λ x. alike_or x (byte_or highs i 255) (byte_or old i 0)) low ∙ ap (λ x. alike_or 0 x (byte_or old i 0)) high)
]

alike-or-past : (n i byte : ℕ) → byte_or (replicate n byte) i byte ≡ byte
alike-or-past zero i byte = refl
alike-or-past (suc n) zero byte = refl
alike-or-past (suc n) (suc i) byte = alike-or-past n i byte

-- where nothing was pending, the server's byte is shown
pub none-shown : (count : ℕ) (end : Option ℕ) (base : List ℕ) (i : ℕ) → byte_shown base (pending_then count None end) i ≡ byte_or base i 0
none-shown count end base i = rw (alike-or-past count i 0, alike-or-past count i 255) refl

-- what was pending, laid over the server's bytes
pub laid-is : (was : PendingThen) (base padded laid rest : List ℕ) (size count : ℕ) → padded ≡ listed (λ i. byte_or base i 0) size → count ≡ length padded
    → length laid ≡ length padded → ((i : ℕ) → i < length padded → byte_or laid i 0 ≡ byte_shown padded was i)
    → take count (laid ++ rest) ≡ listed (byte_shown base was) size
laid-is was base padded laid rest size count is counted same so =
    take_at laid rest count (omega (arith, counted, same)) ∙ is-listed (byte_shown base was) size laid (omega (arith, long, same)) by
  where
    long : length padded ≡ size
    long = ap length is ∙ length-listed (λ i. byte_or base i 0) size

    padded-at : (i : ℕ) → i < size → byte_or padded i 0 ≡ byte_or base i 0
    padded-at i lt = unwrap_or-slice_get padded i 0 ∙ ap (λ b. slice_index b i) is ∙ listed-at (λ j. byte_or base j 0) size i lt

    by : (i : ℕ) → i < size → byte_or laid i 0 ≡ byte_shown base was i
    by i lt = so i (omega (arith, lt, long)) ∙ ap (λ x. alike_or (byte_or was.lows i 0) (byte_or was.highs i 255) x) (padded-at i lt)

-- ---- what is kept when a read begins

-- Nothing is pending from a place on, where the last byte ends at it or before it.
pub clear-from : (of : FilePending) (offset place : ℕ) → IsSound of → size_to offset (last_end of.segments) ≡ 0 → offset ≤ place → newest_at of.segments place ≡ None
clear-from of offset place sound none from = by (last_end of.segments) refl
  where
    clear : IsClear of place → newest_at of.segments place ≡ None
    clear is = newest-is of place sound ∙ ap (λ c. byte_pending c (fly_at of place)) is.rest ∙ ap (byte_pending None) is.fly

    by : (end : Option ℕ) → last_end of.segments ≡ end → newest_at of.segments place ≡ None
    by None is = clear (end-none of place sound is)
    by (Some q) is =
        let zero_ : q - offset ≡ 0 = ap (size_to offset) (sym is) ∙ none in
        clear ((end-some of q sound is).past place (omega (arith, zero_, from)))

shown-none : (es : Segments) (place count byte : ℕ) → ((at : ℕ) → place ≤ at → newest_at es at ≡ None) → shown es place (replicate count byte) ≡ replicate count byte
shown-none es place zero byte none = refl
shown-none es place (suc count) byte none =
    ap (λ o. unwrap_or o byte ∷ shown es (place + 1) (replicate count byte)) (none place (omega arith))
    ∙ ap {B = List ℕ} (λ bs. byte ∷ bs) (shown-none es (place + 1) count byte (λ at le. none at (omega (arith, le))))

abbrev then_of : Option ℕ → List ℕ → List ℕ → PendingThen
then_of end lows highs = record { lows = lows; highs = highs; end = end }

-- no byte of the range is pending
pub nothing-kept : (file : List ℕ) (offset count : ℕ) (back : Pending) → IsSound (of_file file back) → size_to offset (last_end (of_file file back).segments) ≡ 0
    → pending_then count None (last_end (of_file file back).segments) ≡ was_pending file offset count back
nothing-kept file offset count back sound none =
    ap (λ lows. then_of (last_end (of_file file back).segments) lows (replicate count 255)) (sym (shown-none (of_file file back).segments offset count 0 clear))
    ∙ ap (λ highs. then_of (last_end (of_file file back).segments) (shown (of_file file back).segments offset (replicate count 0)) highs) (sym (shown-none (of_file file back).segments offset count 255 clear))
  where
    clear : (at : ℕ) → offset ≤ at → newest_at (of_file file back).segments at ≡ None
    clear at le = clear-from (of_file file back) offset at sound none le

-- both lists are of the range's length
pub even-kept : (es : Segments) (offset count : ℕ) (lows highs : List ℕ) → lows ≡ shown es offset (replicate count 0) → highs ≡ shown es offset (replicate count 255)
    → length lows ≡ length highs
even-kept es offset count lows highs low high =
    ap length low ∙ shown-length es offset (replicate count 0) ∙ length-replicate count 0
    ∙ sym (ap length high ∙ shown-length es offset (replicate count 255) ∙ length-replicate count 255)
