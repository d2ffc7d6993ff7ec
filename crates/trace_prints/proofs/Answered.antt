-- An answer that is written is read back as what its text shows.
use Rattle.std.proofs.Common.{◌≡◌, ◌<◌, ◌+◌, ◌-◌, ◌*◌, ◌/◌, ◌%◌, ◌^◌, ℕ, List, [], ◌∷◌, ◌++◌, length, true, nat_le, Some, All, refl, sym, ap, ◌∙◌, arith, append_assoc}
use Rattle.std.specs.Prelude.{codes, decimal}
use Rattle.std.proofs.lemmas.Bool.{le-leb}
use Rattle.std.proofs.lemmas.List.Elements.{All-cons, All-nil}
use Rattle.hex.specs.Hex.{IsBytes, encode_lower, encode_with}
use Rattle.hex.proofs.HexLemmas.{decode_of-encode_lower}
use Rattle.nfs_types.specs.declared.attr.Attr.{Attr}
use Rattle.nfs_types.proofs.Names.{test_of_name}
use Rattle.script_text.specs.Paths.{decoded}
use Rattle.world_model.specs.declared.answer.Answer.{Answer}
use Rattle.world_model.specs.declared.answer.Answer.TheVariants as answers
use Rattle.world_model.specs.declared.answer.Fault.{Fault}
use Rattle.world_model.specs.declared.answer.Fault.TheVariants as faults
use Rattle.world_model.specs.declared.answer.Value.{Value}
use Rattle.world_model.specs.declared.answer.Value.TheVariants as values
use Rattle.world_model.specs.Transcript.{answer_text, attr_text, line_text, mode_text, names_text, octal_digit, shown, spaced, value_text}
use Rattle.trace_text.specs.Shapes.{AnswerShape}
use Rattle.trace_text.specs.Answers.{answer_of, attrs_of, bad_fault_of, bits_of, four_digits_of, link_text_of, nfs_fault_of, octal_digit_of, octal_of, read_bytes_of, rpc_fault_of, shown_name_of, shown_names_of, value_of}
use Rattle.trace_text.specs.Texts.{line_of, spread}
use Rattle.trace_text.specs.Words.{decoded_or}
use Rattle.trace_prints.specs.HasText.{AreListedNames, IsAnswer, IsListedName, IsShownAttr, IsValue}
use Rattle.trace_prints.specs.HasText as has
use Rattle.trace_prints.specs.Shown.{shown_answer, shown_attr, shown_value}
use Rattle.trace_prints.proofs.Lined.{IsPlain, IsWord, AreWords, spread-cons}
use Rattle.trace_prints.proofs.Ops.{word-so}
use Rattle.trace_prints.proofs.Spelt.{decimal-word, hex-plain, long-back, not-dash, number-back, shown-back, shown-is-word, shown-plain, shown-some}

-- ---- the words of an answer

abbrev pub fault_words : Fault → List (List ℕ)
fault_words (faults.Nfs n) = codes "nfs" ∷ decimal n ∷ []
fault_words (faults.Rpc n) = codes "rpc" ∷ decimal n ∷ []
fault_words (faults.Bad n) = codes "bad" ∷ decimal n ∷ []
fault_words faults.Lost = codes "lost" ∷ []
fault_words faults.Spent = codes "spent" ∷ []
fault_words faults.Slot = codes "slot" ∷ []
fault_words faults.Mode = codes "mode" ∷ []
fault_words faults.Kind = codes "type" ∷ []
fault_words faults.Many = codes "many" ∷ []
fault_words faults.Memory = codes "memory" ∷ []

abbrev pub if-some : List ℕ → List (List ℕ)
if-some [] = []
if-some (b ∷ word) = (b ∷ word) ∷ []

abbrev pub shown-words : List (List ℕ) → List (List ℕ)
shown-words [] = []
shown-words (name ∷ names) = shown name ∷ shown-words names

abbrev pub attr-words : Attr → List (List ℕ)
attr-words a = decimal a.kind ∷ mode_text a.mode ∷ decimal a.nlink ∷ decimal a.uid ∷ decimal a.gid ∷ decimal a.size ∷ decimal a.fileid ∷ decimal a.mtime.seconds ∷ []

abbrev pub value_words : Value → List (List ℕ)
value_words values.Nothing = []
value_words (values.Bytes bytes) = if-some (encode_lower bytes)
value_words (values.Text text) = if-some (shown text)
value_words (values.Attrs attr) = attr-words attr
value_words (values.Bits bits) = decimal bits ∷ []
value_words (values.Names names) = shown-words names

abbrev pub answer_words : Answer → List (List ℕ)
answer_words (answers.Done value) = codes "ok" ∷ value_words value
answer_words (answers.Refused fault) = fault_words fault

-- ---- their text

spaced-spread : (word : List ℕ) → spaced word ≡ spread (if-some word)
spaced-spread [] = refl
spaced-spread (b ∷ word) = refl

names-spread : (names : List (List ℕ)) → names_text names ≡ spread (shown-words names)
unfolding names_text
names-spread [] = refl
names-spread (name ∷ names) = ap (λ (k : List ℕ). 32 ∷ (shown name ++ k)) (names-spread names) ∙ sym (spread-cons (shown name) (shown-words names))

value-spread : (value : Value) → value_text value ≡ spread (value_words value)
unfolding attr_text
value-spread values.Nothing = refl
value-spread (values.Bytes bytes) = spaced-spread (encode_lower bytes)
value-spread (values.Text text) = spaced-spread (shown text)
value-spread (values.Attrs attr) = simp append_assoc
value-spread (values.Bits bits) = refl
value-spread (values.Names names) = names-spread names

answer-spread : (answer : Answer) → 32 ∷ answer_text answer ≡ spread (answer_words answer)
answer-spread (answers.Done value) = ap (λ (k : List ℕ). 32 ∷ (codes "ok" ++ k)) (value-spread value) ∙ sym (spread-cons (codes "ok") (value_words value))
answer-spread (answers.Refused (faults.Nfs n)) = refl
answer-spread (answers.Refused (faults.Rpc n)) = refl
answer-spread (answers.Refused (faults.Bad n)) = refl
answer-spread (answers.Refused faults.Lost) = refl
answer-spread (answers.Refused faults.Spent) = refl
answer-spread (answers.Refused faults.Slot) = refl
answer-spread (answers.Refused faults.Mode) = refl
answer-spread (answers.Refused faults.Kind) = refl
answer-spread (answers.Refused faults.Many) = refl
answer-spread (answers.Refused faults.Memory) = refl

flat-line : (w l n a : List ℕ) → (w ++ 32 ∷ []) ++ (((((l ++ 32 ∷ []) ++ n) ++ 32 ∷ []) ++ a) ++ 10 ∷ []) ≡ (w ++ (32 ∷ (l ++ 32 ∷ (n ++ 32 ∷ a)))) ++ 10 ∷ []
flat-line w l n a = simp append_assoc

-- the line of an answer, word by word
pub answered-text : (lane line : ℕ) (answer : Answer) → codes "answered " ++ line_text lane line answer ≡ line_of (codes "answered") (decimal lane ∷ decimal line ∷ answer_words answer)
unfolding line_text
answered-text lane line answer =
    let words : spread (decimal lane ∷ decimal line ∷ answer_words answer) ≡ 32 ∷ (decimal lane ++ 32 ∷ (decimal line ++ 32 ∷ answer_text answer)) =
    spread-cons (decimal lane) (decimal line ∷ answer_words answer)
    ∙ ap (λ (k : List ℕ). 32 ∷ (decimal lane ++ k)) (spread-cons (decimal line) (answer_words answer) ∙ ap (λ (k : List ℕ). 32 ∷ (decimal line ++ k)) (sym (answer-spread answer))) in
    flat-line (codes "answered") (decimal lane) (decimal line) (answer_text answer) ∙ ap (λ (k : List ℕ). (codes "answered" ++ k) ++ codes "\n") (sym words)

-- ---- reading it

octal-back : (n : ℕ) → octal_digit_of (octal_digit n) ≡ Some (n % 8)
octal-back n =
    let lt : n % 8 < 8 = omega arith in
    let low : nat_le 48 (48 + n % 8) ≡ true = le-leb 48 (48 + n % 8) (omega arith) in
    let high : nat_le (48 + n % 8) 55 ≡ true = le-leb (48 + n % 8) 55 (omega (arith, lt)) in
    let less : 48 + n % 8 - 48 ≡ n % 8 = omega arith in
    rw (low, high) (ap (λ (v : ℕ). Some v) less)

mode-back : (mode : ℕ) → octal_of (mode_text mode) ≡ Some (mode % 4096)
unfolding mode_text four_digits_of
mode-back mode =
    let sum : mode / 512 % 8 * 512 + mode / 64 % 8 * 64 + mode / 8 % 8 * 8 + mode % 8 ≡ mode % 4096 = omega arith in
    rw (octal-back (mode / 512), octal-back (mode / 64), octal-back (mode / 8), octal-back mode) (ap (λ (v : ℕ). Some v) sum)

attrs-back : (attr : Attr) → IsShownAttr attr → attrs_of (attr-words attr) ≡ Some (shown_attr attr)
unfolding attrs_of
attrs-back attr a = rw (
  number-back 0 4294967295 attr.kind (omega arith) (omega (arith, a.kind)) (omega (arith, a.kind)),
  mode-back attr.mode,
  number-back 0 4294967295 attr.nlink (omega arith) (omega (arith, a.nlink)) (omega (arith, a.nlink)),
  number-back 0 4294967295 attr.uid (omega arith) (omega (arith, a.uid)) (omega (arith, a.uid)),
  number-back 0 4294967295 attr.gid (omega arith) (omega (arith, a.gid)) (omega (arith, a.gid)),
  long-back attr.size a.size,
  long-back attr.fileid a.fileid,
  number-back 0 4294967295 attr.mtime.seconds (omega arith) (omega (arith, a.seconds)) (omega (arith, a.seconds)),
) refl

bytes-back : (bytes : List ℕ) → IsBytes bytes → read_bytes_of (if-some (encode_lower bytes)) ≡ Some bytes
unfolding encode_with
bytes-back [] b = refl
bytes-back (x ∷ bytes) b = rw (not-dash x bytes) (ap decoded_or (decode_of-encode_lower (x ∷ bytes) b))

text-back : (text : List ℕ) (word : List ℕ) → word ≡ shown text → decoded word ≡ Some text → (word ≡ [] → text ≡ []) → link_text_of (if-some word) ≡ Some text
text-back text [] e d n = ap Some (sym (n refl))
text-back text (b ∷ word) e d n = d

shown-nothing : (text : List ℕ) → shown text ≡ [] → text ≡ []
unfolding shown
shown-nothing [] e = refl
shown-nothing (b ∷ text) e =
    let some : 0 < length (shown (b ∷ text)) = shown-some (b ∷ text) (omega arith) in
    let none : length (shown (b ∷ text)) ≡ 0 = ap length e in
    absurd (omega (arith, some, none))

name-back : (name : List ℕ) → IsListedName name → shown_name_of (shown name) ≡ Some name
name-back name n = rw (shown-back name n.bytes, le-leb (length name) 255 n.is.bound, test_of_name name n.is) refl

names-back : (names : List (List ℕ)) → AreListedNames names → shown_names_of (shown-words names) ≡ Some names
names-back [] ns = refl
names-back (name ∷ names) ns = rw (name-back name ns.0, names-back names ns.1) refl

value-back : (shape : AnswerShape) (value : Value) → IsValue shape value → value_of shape (value_words value) ≡ Some (shown_value value)
unfolding bits_of
value-back shape value has.shows_nothing = refl
value-back shape value (has.shows_bytes shown b) = rw (bytes-back shown b) refl
value-back shape value (has.shows_text text b) = rw (text-back text (shown text) refl (shown-back text b) (shown-nothing text)) refl
value-back shape value (has.shows_attrs attr a) = rw (attrs-back attr a) refl
value-back shape value (has.shows_bits granted b) = rw (number-back 0 4294967295 granted (omega arith) (omega (arith, b)) (omega (arith, b))) refl
value-back shape value (has.shows_names listed ns) = rw (names-back listed ns) refl

pub answer-back : (shape : AnswerShape) (answer : Answer) → IsAnswer shape answer → answer_of shape (answer_words answer) ≡ Some (shown_answer answer)
unfolding nfs_fault_of rpc_fault_of bad_fault_of
answer-back shape (answers.Done value) a = rw (value-back shape value a) refl
answer-back shape (answers.Refused (faults.Nfs n)) a = rw (number-back 1 4294967295 n a.0 (omega (arith, a.1)) (omega (arith, a.1))) refl
answer-back shape (answers.Refused (faults.Rpc n)) a = rw (long-back n a) refl
answer-back shape (answers.Refused (faults.Bad n)) a = rw (number-back 1 7 n a.0 a.1 (omega (arith, a.1))) refl
answer-back shape (answers.Refused faults.Lost) a = refl
answer-back shape (answers.Refused faults.Spent) a = refl
answer-back shape (answers.Refused faults.Slot) a = refl
answer-back shape (answers.Refused faults.Mode) a = refl
answer-back shape (answers.Refused faults.Kind) a = refl
answer-back shape (answers.Refused faults.Many) a = refl
answer-back shape (answers.Refused faults.Memory) a = refl

-- ---- its words

if-word : (word : List ℕ) → All IsPlain word → AreWords (if-some word)
if-word [] p = tt
if-word (b ∷ word) p = (record { some = omega arith; plain = p }, tt)

names-words : (names : List (List ℕ)) → AreListedNames names → AreWords (shown-words names)
names-words [] ns = tt
names-words (name ∷ names) ns = (shown-is-word name ns.0.bytes ns.0.is.some, names-words names ns.1)

octal-plain : (n : ℕ) → IsPlain (octal_digit n)
octal-plain n = let lt : n % 8 < 8 = omega arith in record { least = omega arith; most = omega (arith, lt) }

mode-is-word : (mode : ℕ) → IsWord (mode_text mode)
unfolding mode_text
mode-is-word mode = record {
  some = omega arith;
  plain = All-cons IsPlain (octal_digit (mode / 512)) (octal_digit (mode / 64) ∷ octal_digit (mode / 8) ∷ octal_digit mode ∷ []) (octal-plain (mode / 512))
      (All-cons IsPlain (octal_digit (mode / 64)) (octal_digit (mode / 8) ∷ octal_digit mode ∷ []) (octal-plain (mode / 64))
      (All-cons IsPlain (octal_digit (mode / 8)) (octal_digit mode ∷ []) (octal-plain (mode / 8))
      (All-cons IsPlain (octal_digit mode) [] (octal-plain mode) (All-nil IsPlain))));
}

wide : (n : ℕ) → n < 2 ^ 32 → IsWord (decimal n)
wide n lt = decimal-word n (omega (arith, lt))

value-words : (shape : AnswerShape) (value : Value) → IsValue shape value → AreWords (value_words value)
value-words shape value has.shows_nothing = tt
value-words shape value (has.shows_bytes shown b) = if-word (encode_lower shown) (hex-plain shown b)
value-words shape value (has.shows_text text b) = if-word (shown text) (shown-plain text b)
value-words shape value (has.shows_attrs attr a) = (wide attr.kind a.kind, (mode-is-word attr.mode, (wide attr.nlink a.nlink, (wide attr.uid a.uid, (wide attr.gid a.gid, (decimal-word attr.size a.size, (decimal-word attr.fileid a.fileid, (wide attr.mtime.seconds a.seconds, tt))))))))
value-words shape value (has.shows_bits granted b) = (wide granted b, tt)
value-words shape value (has.shows_names listed ns) = names-words listed ns

pub answer-are-words : (shape : AnswerShape) (answer : Answer) → IsAnswer shape answer → AreWords (answer_words answer)
answer-are-words shape (answers.Done value) a = (word-so (codes "ok") refl, value-words shape value a)
answer-are-words shape (answers.Refused (faults.Nfs n)) a = (word-so (codes "nfs") refl, (wide n a.1, tt))
answer-are-words shape (answers.Refused (faults.Rpc n)) a = (word-so (codes "rpc") refl, (decimal-word n a, tt))
answer-are-words shape (answers.Refused (faults.Bad n)) a = (word-so (codes "bad") refl, (decimal-word n (omega (arith, a.1)), tt))
answer-are-words shape (answers.Refused faults.Lost) a = (word-so (codes "lost") refl, tt)
answer-are-words shape (answers.Refused faults.Spent) a = (word-so (codes "spent") refl, tt)
answer-are-words shape (answers.Refused faults.Slot) a = (word-so (codes "slot") refl, tt)
answer-are-words shape (answers.Refused faults.Mode) a = (word-so (codes "mode") refl, tt)
answer-are-words shape (answers.Refused faults.Kind) a = (word-so (codes "type") refl, tt)
answer-are-words shape (answers.Refused faults.Many) a = (word-so (codes "many") refl, tt)
answer-are-words shape (answers.Refused faults.Memory) a = (word-so (codes "memory") refl, tt)
