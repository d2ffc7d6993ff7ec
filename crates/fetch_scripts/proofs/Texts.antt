-- The lines of a transcript are those of its answers.
use Rattle.std.proofs.Common.{◌≡◌, ◌≢◌, ◌≤◌, ◌<◌, ◌^◌, ◌+◌, ◌-◌, ◌*◌, ◌/◌, ◌%◌, ◌==◌, ◌&&◌, ◌||◌, ◌⊎◌, inl, inr, ℕ, zero, suc, List, [], ◌∷◌, ◌++◌, length, drop, Bool, true, false, not, cond, nat_eq, nat_le, nat_lt, Option, Some, None, Result, Ok, Err, refl, sym, ap, subst, ◌∙◌, append_assoc, arith, if◌then◌else◌, filter}
use Rattle.std.specs.Prelude.{Contains, codes, decimal, slice_get, get_or}
use Rattle.std.specs.List.{All, list_all, slice_split, onto_first}
use Rattle.std.specs.Fmt.{digits, digits_onto, digit_glyph}
use Rattle.std.proofs.lemmas.Bool.{and_parts, cases_lt, leb-true, ne_eqb}
use Rattle.std.proofs.lemmas.List.Elements.{All-cons, All-nil, Contains-append_cases, Contains-append_left, Contains-append_right, Contains-push}
use Rattle.std.proofs.lemmas.List.Splits.{slice_split_at, slice_split_none}
use Rattle.std.specs.Str.Parse.{digits_value}
use Rattle.std.proofs.lemmas.Fmt.{decimal_is_IsNumeral}
use Rattle.std.proofs.lemmas.List.{get_or_past}
use Rattle.hex.specs.Hex.{◌>>=◌, decode_of, decode_pairs, digit_or_error, encode_lower, encode_with, hex_digit_value, lower_digits, pair_value, value_at}
use Rattle.hex.specs.declared.error.FromHexError.{FromHexError}
use Rattle.hex.proofs.HexLemmas.{IsDigits-lower_digits, decode_of-even, length-encode_with}
use Rattle.nfs_types.specs.declared.attr.Attr.{Attr}
use Rattle.world_model.specs.declared.answer.Answer.{Answer}
use Rattle.world_model.specs.declared.answer.Answer.TheVariants as answers
use Rattle.world_model.specs.declared.answer.Fault.{Fault}
use Rattle.world_model.specs.declared.answer.Fault.TheVariants as faults
use Rattle.world_model.specs.declared.answer.Value.{Value}
use Rattle.world_model.specs.declared.answer.Value.TheVariants as values
use Rattle.world_model.specs.declared.entry.Entry.{Entry}
use Rattle.world_model.specs.declared.entry.Entry.TheVariants.{Began, Answered, Dialed, Sent, Executed, Foreign, Flushed, Reboot, Delivered, Failed, Clock}
use Rattle.world_model.specs.Transcript.{answer_text, attr_text, fault_text, is_shown, line_text, mode_text, names_text, octal_digit, shown, shown_byte, spaced, transcript, value_text}
use Rattle.fetch_scripts.specs.Answering.{BeginsLine, Says, bytes_of}
use Rattle.script_text.specs.Numbers.{is_numeral, is_within, number_of}
use Rattle.script_text.specs.Payloads.{is_payload_length, payload_of, some_bytes}
use Rattle.script_text.specs.Lines.{if_some, is_empty, is_blank, is_feed, is_return, lines, lines_of, without_return, words}

-- ---- bytes that pass a test

and-true : (a b : Bool) → a ≡ true → b ≡ true → (a && b) ≡ true
and-true a b x y = rw x y

passes-append : (t : ℕ → Bool) (xs ys : List ℕ) → list_all t xs ≡ true → list_all t ys ≡ true → list_all t (xs ++ ys) ≡ true
passes-append t [] ys a b = b
passes-append t (x ∷ xs) ys a b =
    let p = and_parts (t x) (list_all t xs) a in
    and-true (t x) (list_all t (xs ++ ys)) p.0 (passes-append t xs ys p.1 b)

passes-at : (t : ℕ → Bool) (xs : List ℕ) (i : ℕ) → t 0 ≡ true → list_all t xs ≡ true → t (get_or xs i 0) ≡ true
passes-at t [] i z a = z
passes-at t (x ∷ xs) zero z a = (and_parts (t x) (list_all t xs) a).0
passes-at t (x ∷ xs) (suc i) z a = passes-at t xs i z (and_parts (t x) (list_all t xs) a).1

-- a test that digits, and bytes from 33 on, pass, and 0, too
pub record IsLoose (t : ℕ → Bool) : Type 0 where
  pub high : (b : ℕ) → 33 ≤ b → t b ≡ true
  pub low : t 0 ≡ true
  pub table : list_all t lower_digits ≡ true

module _ (t : ℕ → Bool) (l : IsLoose t) where
  glyph-passes : (d : ℕ) → t (digit_glyph false d) ≡ true
  glyph-passes d = elim (nat_lt d 10) as (λ b. t (if b then 48 + d else 87 + d) ≡ true) [
    | true ↦ l.high (48 + d) (omega arith)
    | false ↦ l.high (87 + d) (omega arith)
  ]

  onto-passes : (k n : ℕ) (acc : List ℕ) → list_all t acc ≡ true → list_all t (digits_onto k 10 false n acc) ≡ true
  onto-passes zero n acc h = h
  onto-passes (suc k) n acc h =
      let more : list_all t (digit_glyph false (n % 10) ∷ acc) ≡ true = and-true (t (digit_glyph false (n % 10))) (list_all t acc) (glyph-passes (n % 10)) h in
      elim (n / 10 == 0) as (λ b. list_all t (if b then digit_glyph false (n % 10) ∷ acc else digits_onto k 10 false (n / 10) (digit_glyph false (n % 10) ∷ acc)) ≡ true) [
        | true ↦ more
        | false ↦ onto-passes k (n / 10) (digit_glyph false (n % 10) ∷ acc) more
      ]

  pub decimal-passes : (n : ℕ) → list_all t (decimal n) ≡ true
  unfolding digits
  decimal-passes n = onto-passes 64 n [] refl

  pub hex-passes : (bytes : List ℕ) → list_all t (encode_lower bytes) ≡ true
  unfolding encode_with
  hex-passes [] = refl
  hex-passes (b ∷ bytes) =
      and-true (t (get_or lower_digits (b / 16) 0)) (t (get_or lower_digits (b % 16) 0) && list_all t (encode_lower bytes)) (passes-at t lower_digits (b / 16) l.low l.table)
      (and-true (t (get_or lower_digits (b % 16) 0)) (list_all t (encode_lower bytes)) (passes-at t lower_digits (b % 16) l.low l.table) (hex-passes bytes))

  byte-passes : (b : ℕ) → list_all t (shown_byte b) ≡ true
  byte-passes b = by (is_shown b) refl
    where
      by : (c : Bool) → is_shown b ≡ c → list_all t (if c then b ∷ [] else 37 ∷ encode_lower (b ∷ [])) ≡ true
      by true e = and-true (t b) true (l.high b (leb-true 33 b (and_parts (nat_le 33 b) (nat_le b 126) (and_parts (nat_le 33 b && nat_le b 126) (not (b == 37)) e).0).0)) refl
      by false e = and-true (t 37) (list_all t (encode_lower (b ∷ []))) (l.high 37 (omega arith)) (hex-passes (b ∷ []))

  shown-passes : (bytes : List ℕ) → list_all t (shown bytes) ≡ true
  unfolding shown
  shown-passes [] = refl
  shown-passes (b ∷ bytes) = passes-append t (shown_byte b) (shown bytes) (byte-passes b) (shown-passes bytes)

  mode-passes : (m : ℕ) → list_all t (mode_text m) ≡ true
  unfolding mode_text
  mode-passes m =
      and-true (t (octal_digit (m / 512))) (t (octal_digit (m / 64)) && (t (octal_digit (m / 8)) && (t (octal_digit m) && true))) (l.high _ (omega arith))
      (and-true (t (octal_digit (m / 64))) (t (octal_digit (m / 8)) && (t (octal_digit m) && true)) (l.high _ (omega arith))
      (and-true (t (octal_digit (m / 8))) (t (octal_digit m) && true) (l.high _ (omega arith))
      (and-true (t (octal_digit m)) true (l.high _ (omega arith)) refl)))

-- a space passes, too
module _ (t : ℕ → Bool) (l : IsLoose t) (space : t 32 ≡ true) where
  spaced-passes : (xs : List ℕ) → list_all t xs ≡ true → list_all t (spaced xs) ≡ true
  spaced-passes [] h = refl
  spaced-passes (x ∷ xs) h = and-true (t 32) (list_all t (x ∷ xs)) space h

  -- behind a space
  behind : (xs : List ℕ) → list_all t xs ≡ true → list_all t (32 ∷ xs) ≡ true
  behind xs h = and-true (t 32) (list_all t xs) space h

  names-passes : (names : List (List ℕ)) → list_all t (names_text names) ≡ true
  unfolding names_text
  names-passes [] = refl
  names-passes (n ∷ names) = passes-append t (32 ∷ shown n) (names_text names) (behind (shown n) (shown-passes t l n)) (names-passes names)

  -- a number, and what is behind a space
  numbered : (n : ℕ) (xs : List ℕ) → list_all t xs ≡ true → list_all t (decimal n ++ 32 ∷ xs) ≡ true
  numbered n xs h = passes-append t (decimal n) (32 ∷ xs) (decimal-passes t l n) (behind xs h)

  -- two texts with a space between them
  gap : (xs ys : List ℕ) → list_all t xs ≡ true → list_all t ys ≡ true → list_all t ((xs ++ codes " ") ++ ys) ≡ true
  gap xs ys a b = passes-append t (xs ++ codes " ") ys (passes-append t xs (codes " ") a (behind [] refl)) b

  attr-passes : (a : Attr) → list_all t (attr_text a) ≡ true
  unfolding attr_text
  attr-passes a =
      let number = decimal-passes t l in
      gap _ (decimal a.mtime.seconds) (gap _ (decimal a.fileid) (gap _ (decimal a.size) (gap _ (decimal a.gid) (gap _ (decimal a.uid) (gap _ (decimal a.nlink) (gap (decimal a.kind) (mode_text a.mode)
      (number a.kind) (mode-passes t l a.mode)) (number a.nlink)) (number a.uid)) (number a.gid)) (number a.size)) (number a.fileid)) (number a.mtime.seconds)

  value-passes : (v : Value) → list_all t (value_text v) ≡ true
  value-passes values.Nothing = refl
  value-passes (values.Bytes bytes) = spaced-passes (encode_lower bytes) (hex-passes t l bytes)
  value-passes (values.Text text) = spaced-passes (shown text) (shown-passes t l text)
  value-passes (values.Attrs attr) = behind (attr_text attr) (attr-passes attr)
  value-passes (values.Bits bits) = behind (decimal bits) (decimal-passes t l bits)
  value-passes (values.Names names) = names-passes names

-- ---- a line of its own

-- a byte that ends no line, and none that is left out at the end of one
abbrev pub fine : ℕ → Bool
fine b = not (b == 10) && not (b == 13)

fine-high : (b : ℕ) → 33 ≤ b → fine b ≡ true
fine-high b h = rw (ne_eqb b 10 (λ e. absurd (omega (arith, h, e))), ne_eqb b 13 (λ e. absurd (omega (arith, h, e)))) refl

loose-fine : IsLoose fine
loose-fine = record { high = fine-high; low = refl; table = refl }

fault-passes : (f : Fault) → list_all fine (fault_text f) ≡ true
fault-passes (faults.Nfs n) = passes-append fine (codes "nfs ") (decimal n) refl (decimal-passes fine loose-fine n)
fault-passes (faults.Rpc n) = passes-append fine (codes "rpc ") (decimal n) refl (decimal-passes fine loose-fine n)
fault-passes (faults.Bad n) = passes-append fine (codes "bad ") (decimal n) refl (decimal-passes fine loose-fine n)
fault-passes faults.Lost = refl
fault-passes faults.Spent = refl
fault-passes faults.Slot = refl
fault-passes faults.Mode = refl
fault-passes faults.Kind = refl
fault-passes faults.Many = refl
fault-passes faults.Memory = refl

answer-passes : (a : Answer) → list_all fine (answer_text a) ≡ true
answer-passes (answers.Done v) = passes-append fine (codes "ok") (value_text v) refl (value-passes fine loose-fine refl v)
answer-passes (answers.Refused f) = fault-passes f

-- the line of an answer, without its line feed
abbrev pub body : ℕ → ℕ → Answer → List ℕ
body lane line answer = decimal lane ++ 32 ∷ (decimal line ++ 32 ∷ answer_text answer)

body-passes : (lane line : ℕ) (a : Answer) → list_all fine (body lane line a) ≡ true
body-passes lane line a = numbered fine loose-fine refl lane _ (numbered fine loose-fine refl line _ (answer-passes a))

not-feed : (b : ℕ) → fine b ≡ true → is_feed b ≡ false
not-feed b h = elim (b == 10) as (λ t. (not t && not (b == 13)) ≡ true → t ≡ false) [
  | true ↦ λ e. absurd cc
  | false ↦ λ e. refl
] h

not-return : (b : ℕ) → fine b ≡ true → (b == 13) ≡ false
not-return b h = elim (b == 13) as (λ t. (not (b == 10) && not t) ≡ true → t ≡ false) [
  | true ↦ λ e. absurd (let no_way : false ≡ true = (and_parts (not (b == 10)) false e).1 in cc)
  | false ↦ λ e. refl
] h

no-feeds : (xs : List ℕ) → list_all fine xs ≡ true → All (λ x. is_feed x ≡ false) xs
no-feeds [] h = All-nil (λ x. is_feed x ≡ false)
no-feeds (x ∷ xs) h =
    let p = and_parts (fine x) (list_all fine xs) h in
    All-cons (λ x. is_feed x ≡ false) x xs (not-feed x p.0) (no-feeds xs p.1)

no-returns : (xs : List ℕ) (i : ℕ) → list_all fine xs ≡ true → is_return (slice_get xs i) ≡ false
no-returns [] i h = refl
no-returns (x ∷ xs) zero h = not-return x (and_parts (fine x) (list_all fine xs) h).0
no-returns (x ∷ xs) (suc i) h = no-returns xs i (and_parts (fine x) (list_all fine xs) h).1

kept-line : (xs : List ℕ) → list_all fine xs ≡ true → without_return xs ≡ xs
kept-line xs h = rw (no-returns xs (length xs - 1) h) refl

-- there is always a piece
abbrev Pieces : List (List ℕ) → Type 0
Pieces pieces = (first : List ℕ) × (others : List (List ℕ)) × (pieces ≡ first ∷ others)

pieces : (test : ℕ → Bool) (text : List ℕ) → Pieces (slice_split test text)
pieces test [] = ([], [], refl)
pieces test (b ∷ text) = elim (test b) as (λ t. Pieces (cond t ([] ∷ slice_split test text) (onto_first b (slice_split test text)))) [
  | true ↦ ([], slice_split test text, refl)
  | false ↦ (let p = pieces test text in (b ∷ p.0, p.1, rw p.2 refl))
]

more-lines : (line : List ℕ) (rest : List (List ℕ)) → Pieces rest → lines_of (line ∷ rest) ≡ without_return line ∷ lines_of rest
more-lines line rest p = rw p.2 refl

first-line : (xs rest : List ℕ) → list_all fine xs ≡ true → lines (xs ++ 10 ∷ rest) ≡ xs ∷ lines rest
unfolding lines
first-line xs rest h =
    ap lines_of (slice_split_at is_feed xs 10 rest (no-feeds xs h) refl)
    ∙ more-lines xs (slice_split is_feed rest) (pieces is_feed rest)
    ∙ ap (λ (l : List ℕ). l ∷ lines_of (slice_split is_feed rest)) (kept-line xs h)

text-is : (lane line : ℕ) (a : Answer) (rest : List ℕ) → line_text lane line a ++ rest ≡ body lane line a ++ 10 ∷ rest
unfolding line_text
text-is lane line a rest =
    append_assoc ((((decimal lane ++ 32 ∷ []) ++ decimal line) ++ 32 ∷ []) ++ answer_text a) (10 ∷ []) rest
    ∙ append_assoc (((decimal lane ++ 32 ∷ []) ++ decimal line) ++ 32 ∷ []) (answer_text a) (10 ∷ rest)
    ∙ append_assoc ((decimal lane ++ 32 ∷ []) ++ decimal line) (32 ∷ []) (answer_text a ++ 10 ∷ rest)
    ∙ append_assoc (decimal lane ++ 32 ∷ []) (decimal line) (32 ∷ (answer_text a ++ 10 ∷ rest))
    ∙ append_assoc (decimal lane) (32 ∷ []) (decimal line ++ 32 ∷ (answer_text a ++ 10 ∷ rest))
    ∙ sym (append_assoc (decimal lane) (32 ∷ (decimal line ++ 32 ∷ answer_text a)) (10 ∷ rest)
    ∙ ap (λ (t : List ℕ). decimal lane ++ 32 ∷ t) (append_assoc (decimal line) (32 ∷ answer_text a) (10 ∷ rest)))

-- ---- each line of a transcript is that of an answer

pub record Written (es : List Entry) (text : List ℕ) : Type 0 where
  pub lane : ℕ
  pub line : ℕ
  pub answer : Answer
  pub has : Contains es (Answered lane line answer)
  pub is : text ≡ body lane line answer

written-later : (e : Entry) (es : List Entry) (text : List ℕ) → Written es text → Written (e ∷ es) text
written-later e es text w = record { lane = w.lane; line = w.line; answer = w.answer; has = Contains-append_right (e ∷ []) es _ w.has; is = w.is }

no-line : (text : List ℕ) → Contains (lines []) text → ⊥
unfolding lines
no-line text c = absurd (omega (arith, c.1))

first-or-later : (x : List ℕ) (xs : List (List ℕ)) (text : List ℕ) → Contains (x ∷ xs) text → (x ≡ text) ⊎ Contains xs text
first-or-later x xs text c = elim (Contains-append_cases (x ∷ []) xs text c) [
  | inl here ↦ inl (one here)
  | inr later ↦ inr later
]
  where
    one : Contains (x ∷ []) text → x ≡ text
    one h = by h.0 h.1 h.2
      where
        by : (k : ℕ) → k < 1 → get_or (x ∷ []) k text ≡ text → x ≡ text
        by zero lt e = e
        by (suc k) lt e = absurd (omega (arith, lt))

pub written : (es : List Entry) (text : List ℕ) → Contains (lines (transcript es)) text → Written es text
written [] text c = absurd (no-line text c)
written (Answered lane line a ∷ es) text c =
    let all : lines (line_text lane line a ++ transcript es) ≡ body lane line a ∷ lines (transcript es) =
    ap lines (text-is lane line a (transcript es)) ∙ first-line (body lane line a) (transcript es) (body-passes lane line a) in
    elim (first-or-later (body lane line a) (lines (transcript es)) text (subst (λ (l : List (List ℕ)). Contains l text) all c)) [
      | inl here ↦ record { lane = lane; line = line; answer = a; has = Contains-append_left (Answered lane line a ∷ []) es _ (Contains-push [] _); is = sym here }
      | inr later ↦ written-later (Answered lane line a) es text (written es text later)
    ]
written (Began lane line op ∷ es) text c = written-later (Began lane line op) es text (written es text c)
written (Dialed port ∷ es) text c = written-later (Dialed port) es text (written es text c)
written (Sent bytes ∷ es) text c = written-later (Sent bytes) es text (written es text c)
written (Executed xid call reply ∷ es) text c = written-later (Executed xid call reply) es text (written es text c)
written (Foreign call reply ∷ es) text c = written-later (Foreign call reply) es text (written es text c)
written (Flushed file from len ∷ es) text c = written-later (Flushed file from len) es text (written es text c)
written (Reboot verf ∷ es) text c = written-later (Reboot verf) es text (written es text c)
written (Delivered bytes ∷ es) text c = written-later (Delivered bytes) es text (written es text c)
written (Failed ∷ es) text c = written-later Failed es text (written es text c)
written (Clock ms ∷ es) text c = written-later (Clock ms) es text (written es text c)

-- ---- its words

-- a byte within a word
abbrev inner : ℕ → Bool
inner b = not ((b == 32) || (b == 9))

inner-high : (b : ℕ) → 33 ≤ b → inner b ≡ true
inner-high b h = rw (ne_eqb b 32 (λ e. absurd (omega (arith, h, e))), ne_eqb b 9 (λ e. absurd (omega (arith, h, e)))) refl

loose-inner : IsLoose inner
loose-inner = record { high = inner-high; low = refl; table = refl }

not-blank : (b : ℕ) → inner b ≡ true → is_blank b ≡ false
not-blank b h = elim ((b == 32) || (b == 9)) as (λ t. not t ≡ true → t ≡ false) [
  | true ↦ λ e. absurd cc
  | false ↦ λ e. refl
] h

no-blanks : (xs : List ℕ) → list_all inner xs ≡ true → All (λ x. is_blank x ≡ false) xs
no-blanks [] h = All-nil (λ x. is_blank x ≡ false)
no-blanks (x ∷ xs) h =
    let p = and_parts (inner x) (list_all inner xs) h in
    All-cons (λ x. is_blank x ≡ false) x xs (not-blank x p.0) (no-blanks xs p.1)

-- a word, and those behind the space
pub word-then : (b : ℕ) (word rest : List ℕ) → list_all inner (b ∷ word) ≡ true → words ((b ∷ word) ++ 32 ∷ rest) ≡ (b ∷ word) ∷ words rest
unfolding words
word-then b word rest h = ap (filter (λ w. not (is_empty w))) (slice_split_at is_blank (b ∷ word) 32 rest (no-blanks (b ∷ word) h) refl)

-- a word alone
pub word-alone : (b : ℕ) (word : List ℕ) → list_all inner (b ∷ word) ≡ true → words (b ∷ word) ≡ (b ∷ word) ∷ []
unfolding words
word-alone b word h = ap (filter (λ w. not (is_empty w))) (slice_split_none is_blank (b ∷ word) (no-blanks (b ∷ word) h))

-- decimal numbers have a digit
onto-some : (k n : ℕ) (b : ℕ) (acc : List ℕ) → (c : ℕ) × (more : List ℕ) × (digits_onto k 10 false n (b ∷ acc) ≡ c ∷ more)
onto-some zero n b acc = (b, acc, refl)
onto-some (suc k) n b acc = elim (n / 10 == 0) as (λ t. (c : ℕ) × (more : List ℕ) × ((if t then digit_glyph false (n % 10) ∷ b ∷ acc else digits_onto k 10 false (n / 10) (digit_glyph false (n % 10) ∷ b ∷ acc)) ≡ c ∷ more)) [
  | true ↦ (digit_glyph false (n % 10), b ∷ acc, refl)
  | false ↦ onto-some k (n / 10) (digit_glyph false (n % 10)) (b ∷ acc)
]

decimal-some : (n : ℕ) → (c : ℕ) × (more : List ℕ) × (decimal n ≡ c ∷ more)
unfolding digits
decimal-some n = elim (n / 10 == 0) as (λ t. (c : ℕ) × (more : List ℕ) × ((if t then digit_glyph false (n % 10) ∷ [] else digits_onto 63 10 false (n / 10) (digit_glyph false (n % 10) ∷ [])) ≡ c ∷ more)) [
  | true ↦ (digit_glyph false (n % 10), [], refl)
  | false ↦ onto-some 63 (n / 10) (digit_glyph false (n % 10)) []
]

number-then : (n : ℕ) (rest : List ℕ) → words (decimal n ++ 32 ∷ rest) ≡ decimal n ∷ words rest
number-then n rest =
    let d = decimal-some n in
    let h : list_all inner (d.0 ∷ d.1) ≡ true = subst (λ (l : List ℕ). list_all inner l ≡ true) d.2 (decimal-passes inner loose-inner n) in
    subst (λ (l : List ℕ). words (l ++ 32 ∷ rest) ≡ l ∷ words rest) (sym d.2) (word-then d.0 d.1 rest h)

pub body-words : (lane line : ℕ) (a : Answer) → words (body lane line a) ≡ decimal lane ∷ decimal line ∷ words (answer_text a)
body-words lane line a =
    number-then lane (decimal line ++ 32 ∷ answer_text a) ∙ ap (λ (l : List (List ℕ)). decimal lane ∷ l) (number-then line (answer_text a))

-- ---- what it shows

-- a number of a line is told by its digits
number-told : (n number : ℕ) → n < 2 ^ 64 → number_of 1 268435455 (decimal n) ≡ Some number → n ≡ number
number-told n number small is = by (is_numeral (decimal n) && is_within 1 268435455 (digits_value 10 (decimal n))) is
  where
    by : (b : Bool) → (if b then Some (digits_value 10 (decimal n)) else None) ≡ Some number → n ≡ number
    by true e = let same : digits_value 10 (decimal n) ≡ number = cc in sym (decimal_is_IsNumeral n small).1 ∙ same
    by false e = absurd cc

-- what is said of a line is the answer to it
pub record Told (es : List Entry) (number : ℕ) (shown : List (List ℕ)) : Type 0 where
  pub lane : ℕ
  pub answer : Answer
  pub has : Contains es (Answered lane number answer)
  pub is : words (answer_text answer) ≡ shown

pub told : (es : List Entry) → ((lane line : ℕ) (answer : Answer) → Contains es (Answered lane line answer) → line < 2 ^ 64)
    → (number : ℕ) (shown : List (List ℕ)) → Says (transcript es) number shown → Told es number shown
told es small number shown s =
    let w = written es s.line s.has in
    let both : decimal w.lane ∷ decimal w.line ∷ words (answer_text w.answer) ≡ s.numbered.lane ∷ s.numbered.digits ∷ shown =
    sym (body-words w.lane w.line w.answer) ∙ ap words (sym w.is) ∙ s.numbered.parts in
    let digits_are : decimal w.line ≡ s.numbered.digits = cc in
    let shown_is : words (answer_text w.answer) ≡ shown = cc in
    let same : w.line ≡ number =
    number-told w.line number (small w.lane w.line w.answer w.has) (ap (number_of 1 268435455) digits_are ∙ s.numbered.is) in
    record { lane = w.lane; answer = w.answer; has = subst (λ (n : ℕ). Contains es (Answered w.lane n w.answer)) same w.has; is = shown_is }

-- an answer whose first word is `ok` is that of an operation that succeeded
abbrev first-of : List (List ℕ) → ℕ
first-of [] = 0
first-of ([] ∷ ws) = 0
first-of ((b ∷ w) ∷ ws) = b

other-word : (b : ℕ) (word : List ℕ) (rest : List (List ℕ)) (shown : List (List ℕ)) → b ≢ 111 → (b ∷ word) ∷ rest ≡ codes "ok" ∷ shown → ⊥
other-word b word rest shown other e = other (ap first-of e)

fault-words : (f : Fault) (shown : List (List ℕ)) → words (fault_text f) ≡ codes "ok" ∷ shown → ⊥
fault-words (faults.Nfs n) shown e = other-word 110 (102 ∷ 115 ∷ []) (words (decimal n)) shown (λ x. absurd (omega (arith, x))) (sym (word-then 110 (102 ∷ 115 ∷ []) (decimal n) refl) ∙ e)
fault-words (faults.Rpc n) shown e = other-word 114 (112 ∷ 99 ∷ []) (words (decimal n)) shown (λ x. absurd (omega (arith, x))) (sym (word-then 114 (112 ∷ 99 ∷ []) (decimal n) refl) ∙ e)
fault-words (faults.Bad n) shown e = other-word 98 (97 ∷ 100 ∷ []) (words (decimal n)) shown (λ x. absurd (omega (arith, x))) (sym (word-then 98 (97 ∷ 100 ∷ []) (decimal n) refl) ∙ e)
fault-words faults.Lost shown e = other-word 108 (111 ∷ 115 ∷ 116 ∷ []) [] shown (λ x. absurd (omega (arith, x))) (sym (word-alone 108 (111 ∷ 115 ∷ 116 ∷ []) refl) ∙ e)
fault-words faults.Spent shown e = other-word 115 (112 ∷ 101 ∷ 110 ∷ 116 ∷ []) [] shown (λ x. absurd (omega (arith, x))) (sym (word-alone 115 (112 ∷ 101 ∷ 110 ∷ 116 ∷ []) refl) ∙ e)
fault-words faults.Slot shown e = other-word 115 (108 ∷ 111 ∷ 116 ∷ []) [] shown (λ x. absurd (omega (arith, x))) (sym (word-alone 115 (108 ∷ 111 ∷ 116 ∷ []) refl) ∙ e)
fault-words faults.Mode shown e = other-word 109 (111 ∷ 100 ∷ 101 ∷ []) [] shown (λ x. absurd (omega (arith, x))) (sym (word-alone 109 (111 ∷ 100 ∷ 101 ∷ []) refl) ∙ e)
fault-words faults.Kind shown e = other-word 116 (121 ∷ 112 ∷ 101 ∷ []) [] shown (λ x. absurd (omega (arith, x))) (sym (word-alone 116 (121 ∷ 112 ∷ 101 ∷ []) refl) ∙ e)
fault-words faults.Many shown e = other-word 109 (97 ∷ 110 ∷ 121 ∷ []) [] shown (λ x. absurd (omega (arith, x))) (sym (word-alone 109 (97 ∷ 110 ∷ 121 ∷ []) refl) ∙ e)
fault-words faults.Memory shown e = other-word 109 (101 ∷ 109 ∷ 111 ∷ 114 ∷ 121 ∷ []) [] shown (λ x. absurd (omega (arith, x))) (sym (word-alone 109 (101 ∷ 109 ∷ 111 ∷ 114 ∷ 121 ∷ []) refl) ∙ e)

pub record Succeeds (a : Answer) (shown : List (List ℕ)) : Type 0 where
  pub value : Value
  pub is : a ≡ answers.Done value
  pub words_are : words (codes "ok" ++ value_text value) ≡ codes "ok" ∷ shown

pub succeeds : (a : Answer) (shown : List (List ℕ)) → words (answer_text a) ≡ codes "ok" ∷ shown → Succeeds a shown
succeeds (answers.Done v) shown e = record { value = v; is = refl; words_are = e }
succeeds (answers.Refused f) shown e = absurd (fault-words f shown e)

-- ---- the bytes of a read

-- a digit that can be read is that of its value
digit-read : (k v : ℕ) → hex_digit_value (get_or lower_digits k 0) ≡ Some v → v ≡ k
digit-read k v e = by (cases_lt k 16)
  where
    by : (k < 16) ⊎ (16 ≤ k) → v ≡ k
    by (inl low) = let both : ◌≡◌ {A = Option ℕ} (Some v) (Some k) = sym e ∙ IsDigits-lower_digits k low in cc
    by (inr high) = absurd (let none : ◌≡◌ {A = Option ℕ} None (Some v) = ap hex_digit_value (sym (get_or_past lower_digits k 0 high)) ∙ e in cc)

value-read : (c i v : ℕ) → value_at c i ≡ Ok v → hex_digit_value c ≡ Some v
value-read c i v e = by (hex_digit_value c) e
  where
    by : (o : Option ℕ) → digit_or_error c i o ≡ Ok v → o ≡ Some v
    by (Some x) e = let same : x ≡ v = cc in ap (λ (z : ℕ). Some z) same
    by None e = absurd cc

bind-ok : {A B : Type 0} → (r : Result A FromHexError) (f : A → Result B FromHexError) (b : B) → (r >>= f) ≡ Ok b → (a : A) × (r ≡ Ok a) × (f a ≡ Ok b)
bind-ok (Ok a) f b e = (a, refl, e)
bind-ok (Err x) f b e = absurd cc

pairs-read : (i : ℕ) (bytes out : List ℕ) → decode_pairs i (encode_lower bytes) ≡ Ok out → out ≡ bytes
unfolding encode_with decode_pairs
pairs-read i [] out e = let same : ◌≡◌ {A = Result (List ℕ) FromHexError} (Ok []) (Ok out) = e in cc
pairs-read i (b ∷ bytes) out e =
    let high = get_or lower_digits (b / 16) 0 in
    let low = get_or lower_digits (b % 16) 0 in
    let p0 = bind-ok (pair_value high low i) _ out e in
    let p1 = bind-ok (value_at high i) _ p0.0 p0.1 in
    let p2 = bind-ok (value_at low (i + 1)) _ p0.0 p1.2 in
    let p3 = bind-ok (decode_pairs (i + 2) (encode_lower bytes)) _ out p0.2 in
    let h : p1.0 ≡ b / 16 = digit-read (b / 16) p1.0 (value-read high i p1.0 p1.1) in
    let l : p2.0 ≡ b % 16 = digit-read (b % 16) p2.0 (value-read low (i + 1) p2.0 p2.1) in
    let byte : p1.0 * 16 + p2.0 ≡ p0.0 = (let same : ◌≡◌ {A = Result ℕ FromHexError} (Ok (p1.0 * 16 + p2.0)) (Ok p0.0) = p2.2 in cc) in
    let all : p0.0 ∷ p3.0 ≡ out = (let same : ◌≡◌ {A = Result (List ℕ) FromHexError} (Ok (p0.0 ∷ p3.0)) (Ok out) = p3.2 in cc) in
    let is : p0.0 ≡ b = omega (arith, h, l, byte) in
    sym all ∙ ap (λ (x : ℕ). x ∷ p3.0) is ∙ ap (λ (x : List ℕ). b ∷ x) (pairs-read (i + 2) bytes p3.0 p3.1)

-- what digits of bytes stand for is these bytes
payload-read : (bytes out : List ℕ) → payload_of (encode_lower bytes) ≡ Some out → out ≡ bytes
payload-read bytes out e = by (decode_of (encode_lower bytes)) refl e
  where
    own : (r : List ℕ) → decode_of (encode_lower bytes) ≡ Ok r → r ≡ bytes
    own r is =
        let len = length-encode_with lower_digits bytes in
        pairs-read 0 bytes r (sym (decode_of-even (encode_lower bytes) (omega (arith, len))) ∙ is)

    few : (r : List ℕ) (b : Bool) → (if b then Some r else None) ≡ Some out → r ≡ out
    few r true e = cc
    few r false e = absurd cc

    by : (r : Result (List ℕ) FromHexError) → decode_of (encode_lower bytes) ≡ r → some_bytes r ≡ Some out → out ≡ bytes
    by (Ok r) is e = sym (few r (is_payload_length (length r)) e) ∙ own r is
    by (Err x) is e = absurd cc

no-digits : (bs : List ℕ) → encode_lower bs ≡ [] → bs ≡ []
unfolding encode_with
no-digits [] e = refl
no-digits (b ∷ bs) e = absurd cc

pub bytes-read : (bytes out : List ℕ) (shown : List (List ℕ)) → words (codes "ok" ++ value_text (values.Bytes bytes)) ≡ codes "ok" ∷ shown → bytes_of shown ≡ Some out → out ≡ bytes
bytes-read bytes out shown e is = by (encode_lower bytes) refl (hex-passes inner loose-inner bytes) e
  where
    alone : words (codes "ok") ≡ codes "ok" ∷ []
    alone = word-alone 111 (107 ∷ []) refl

    by : (digits : List ℕ) → encode_lower bytes ≡ digits → list_all inner digits ≡ true → words (codes "ok" ++ spaced digits) ≡ codes "ok" ∷ shown → out ≡ bytes
    by [] none pass e =
        let whole : codes "ok" ∷ [] ≡ codes "ok" ∷ shown = sym alone ∙ e in
        let no_words : [] ≡ shown = cc in
        let same : Some [] ≡ Some out = ap bytes_of no_words ∙ is in
        let out_is : [] ≡ out = cc in
        sym out_is ∙ sym (no-digits bytes none)
    by (d ∷ digits) are pass e =
        let whole : codes "ok" ∷ (d ∷ digits) ∷ [] ≡ codes "ok" ∷ shown =
        sym (word-then 111 (107 ∷ []) (d ∷ digits) refl ∙ ap (λ (l : List (List ℕ)). codes "ok" ∷ l) (word-alone d digits pass)) ∙ e in
        let one : (d ∷ digits) ∷ [] ≡ shown = cc in
        payload-read bytes out (ap payload_of are ∙ ap bytes_of one ∙ is)

-- ---- a line that begins at a place

-- the pieces of a text are those behind a line feed, and others before them
record Behind (text rest : List ℕ) : Type 0 where
  first : List ℕ
  others : List (List ℕ)
  is : slice_split is_feed text ≡ first ∷ (others ++ slice_split is_feed rest)

behind-feed : (text : List ℕ) (k : ℕ) → k < length text → get_or text k 0 ≡ 10 → Behind text (drop (suc k) text)
behind-feed [] k lt e = absurd (omega (arith, lt))
behind-feed (b ∷ text) zero lt e = record {
  first = [];
  others = [];
  is = ap (λ (t : Bool). cond t ([] ∷ slice_split is_feed text) (onto_first b (slice_split is_feed text))) (ap is_feed e);
}
behind-feed (b ∷ text) (suc k) lt e = by (is_feed b) refl (behind-feed text k (omega (arith, lt)) e)
  where
    by : (t : Bool) → is_feed b ≡ t → Behind text (drop (suc k) text) → Behind (b ∷ text) (drop (suc k) text)
    by true is r = record {
      first = [];
      others = r.first ∷ r.others;
      is = ap (λ (t : Bool). cond t ([] ∷ slice_split is_feed text) (onto_first b (slice_split is_feed text))) is ∙ ap (λ (l : List (List ℕ)). [] ∷ l) r.is;
    }
    by false is r = record {
      first = b ∷ r.first;
      others = r.others;
      is = ap (λ (t : Bool). cond t ([] ∷ slice_split is_feed text) (onto_first b (slice_split is_feed text))) is ∙ ap (onto_first b) r.is;
    }

lines-later : (x : List ℕ) (xs rest : List (List ℕ)) (line : List ℕ) → Pieces rest → Contains (lines_of rest) line → Contains (lines_of (x ∷ (xs ++ rest))) line
lines-later x [] rest line p c =
    subst (λ (l : List (List ℕ)). Contains l line) (sym (more-lines x rest p)) (Contains-append_right (without_return x ∷ []) (lines_of rest) line c)
lines-later x (y ∷ ys) rest line p c = Contains-append_right (without_return x ∷ []) (lines_of (y ∷ (ys ++ rest))) line (lines-later y ys rest line p c)

lines-behind : (text : List ℕ) (k : ℕ) (line : List ℕ) → k < length text → get_or text k 0 ≡ 10 → Contains (lines (drop (suc k) text)) line → Contains (lines text) line
unfolding lines
lines-behind text k line lt e c =
    let b : Behind text (drop (suc k) text) = behind-feed text k lt e in
    subst (λ (l : List (List ℕ)). Contains (lines_of l) line) (sym b.is)
    (lines-later b.first b.others (slice_split is_feed (drop (suc k) text)) line (pieces is_feed (drop (suc k) text)) c)

pub line-here : (text rest first : List ℕ) (more : List (List ℕ)) (place : ℕ) → BeginsLine text place → rest ≡ drop place text → length rest + place ≡ length text
    → (0 < length rest → lines rest ≡ first ∷ more) → Contains (lines text) first
line-here text rest first more place b is long starts = by b.after
  where
    here : Contains (lines rest) first
    here =
        let inside = b.inside in
        subst (λ (l : List (List ℕ)). Contains l first) (sym (starts (omega (arith, inside, long)))) (Contains-append_left (first ∷ []) more first (Contains-push [] first))

    by : (place ≡ 0) ⊎ ((k : ℕ) × (place ≡ suc k) × (get_or text k 0 ≡ 10)) → Contains (lines text) first
    by (inl z) = subst (λ (t : List ℕ). Contains (lines t) first) (is ∙ ap (λ (n : ℕ). drop n text) z) here
    by (inr w) =
        let inside = b.inside in
        lines-behind text w.0 first (omega (arith, inside, w.1)) w.2 (subst (λ (t : List ℕ). Contains (lines t) first) (is ∙ ap (λ (n : ℕ). drop n text) w.1) here)
