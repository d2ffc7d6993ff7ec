-- Answers, read by the operation that they answer.
use Rattle.std.specs.Prelude.{ℕ, List, [], ◌∷◌, ◌+◌, ◌*◌, ◌-◌, length, codes, Bool, ◌&&◌, nat_le, Option, Some, None, if◌then◌else◌}
use Rattle.std.specs.Str.{bytes_eq}
use Rattle.nfs_types.specs.declared.attr.Attr.{Attr}
use Rattle.script_text.specs.Lines.{one}
use Rattle.script_text.specs.Numbers.{number_of}
use Rattle.script_text.specs.Paths.{decoded}
use Rattle.world_model.specs.declared.answer.Answer.{Answer}
use Rattle.world_model.specs.declared.answer.Answer.TheVariants as answers
use Rattle.world_model.specs.declared.answer.Fault.{Fault}
use Rattle.world_model.specs.declared.answer.Fault.TheVariants as faults
use Rattle.world_model.specs.declared.answer.Value.{Value}
use Rattle.world_model.specs.declared.answer.Value.TheVariants as values
use Rattle.world_model.specs.declared.op.Op.{Op}
use Rattle.world_model.specs.declared.op.Op.TheVariants as ops
use Rattle.trace_text.specs.declared.answers.Shape.{Shape}
use Rattle.trace_text.specs.declared.answers.Shape.TheVariants as shapes
use Rattle.trace_text.specs.Words.{◌>>=◌, first_of, none_of, long_of, bytes_of, as_name}

-- ---- a refusal

abbrev pub plain_fault_of : List ℕ → Option Fault
plain_fault_of word =
    if bytes_eq word (codes "lost") then Some faults.Lost else
    (if bytes_eq word (codes "spent") then Some faults.Spent else
    (if bytes_eq word (codes "slot") then Some faults.Slot else
    (if bytes_eq word (codes "mode") then Some faults.Mode else
    (if bytes_eq word (codes "type") then Some faults.Kind else
    (if bytes_eq word (codes "many") then Some faults.Many else
    (if bytes_eq word (codes "memory") then Some faults.Memory else None))))))

-- a status other than 0
unfoldable pub nfs_fault_of : List (List ℕ) → Option Fault
nfs_fault_of words = do
  word ← one words
  status ← number_of 1 4294967295 word
  Some (faults.Nfs status)

unfoldable pub rpc_fault_of : List (List ℕ) → Option Fault
rpc_fault_of words = do
  word ← one words
  status ← long_of word
  Some (faults.Rpc status)

unfoldable pub bad_fault_of : List (List ℕ) → Option Fault
bad_fault_of words = do
  word ← one words
  rule ← number_of 1 7 word
  Some (faults.Bad rule)

abbrev pub lone_fault_of : List ℕ → List (List ℕ) → Option Fault
lone_fault_of word words = none_of words >>= λ nothing. plain_fault_of word

abbrev pub fault_of : List ℕ → List (List ℕ) → Option Fault
fault_of word words =
    if bytes_eq word (codes "nfs") then nfs_fault_of words else
    (if bytes_eq word (codes "rpc") then rpc_fault_of words else
    (if bytes_eq word (codes "bad") then bad_fault_of words else lone_fault_of word words))

-- ---- what follows `ok`

-- what an answer shows if the operation succeeded
abbrev pub shape_in : Op → Shape
shape_in (ops.Read slot offset count) = shapes.Bytes
shape_in (ops.ReadLink path) = shapes.Text
shape_in (ops.Stat path) = shapes.Attrs
shape_in (ops.Access path bits) = shapes.Bits
shape_in (ops.List path) = shapes.Names
shape_in op = shapes.Nothing

-- bytes in hex, of which there is one at least
abbrev pub some_bytes_of : List ℕ → Option (List ℕ)
some_bytes_of word = if bytes_eq word (codes "-") then None else bytes_of word

abbrev pub read_bytes_of : List (List ℕ) → Option (List ℕ)
read_bytes_of [] = Some []
read_bytes_of (word ∷ words) = one (word ∷ words) >>= some_bytes_of

abbrev pub link_text_of : List (List ℕ) → Option (List ℕ)
link_text_of [] = Some []
link_text_of (word ∷ words) = one (word ∷ words) >>= decoded

-- a name as answers show it
abbrev pub shown_name_of : List ℕ → Option (List ℕ)
shown_name_of word = decoded word >>= as_name

abbrev pub shown_names_of : List (List ℕ) → Option (List (List ℕ))
shown_names_of [] = Some []
shown_names_of (word ∷ words) = shown_name_of word >>= λ name. shown_names_of words >>= λ names. Some (name ∷ names)

-- an octal digit
abbrev pub octal_digit_of : ℕ → Option ℕ
octal_digit_of digit = if nat_le 48 digit && nat_le digit 55 then Some (digit - 48) else None

-- a mode as four octal digits
unfoldable pub four_digits_of : ℕ → ℕ → ℕ → ℕ → Option ℕ
four_digits_of a b c d = do
  first ← octal_digit_of a
  second ← octal_digit_of b
  third ← octal_digit_of c
  fourth ← octal_digit_of d
  Some (first * 512 + second * 64 + third * 8 + fourth)

abbrev pub octal_of : List ℕ → Option ℕ
octal_of (a ∷ b ∷ c ∷ d ∷ []) = four_digits_of a b c d
octal_of word = None

-- The attributes that a stat shows: kind, mode, count of names, owner, group, size, number, and the second when the bytes
-- last changed. The others are 0.
unfoldable pub attrs_of : List (List ℕ) → Option Attr
attrs_of words = do
  kind_word ← first_of words
  mode_word ← first_of kind_word.1
  nlink_word ← first_of mode_word.1
  uid_word ← first_of nlink_word.1
  gid_word ← first_of uid_word.1
  size_word ← first_of gid_word.1
  fileid_word ← first_of size_word.1
  seconds_word ← one fileid_word.1
  kind ← number_of 0 4294967295 kind_word.0
  mode ← octal_of mode_word.0
  nlink ← number_of 0 4294967295 nlink_word.0
  uid ← number_of 0 4294967295 uid_word.0
  gid ← number_of 0 4294967295 gid_word.0
  size ← long_of size_word.0
  fileid ← long_of fileid_word.0
  seconds ← number_of 0 4294967295 seconds_word
  Some (record {
    kind = kind;
    mode = mode;
    nlink = nlink;
    uid = uid;
    gid = gid;
    size = size;
    used = 0;
    rdev_major = 0;
    rdev_minor = 0;
    fsid = 0;
    fileid = fileid;
    atime = record { seconds = 0; nanos = 0 };
    mtime = record { seconds = seconds; nanos = 0 };
    ctime = record { seconds = 0; nanos = 0 };
  })

unfoldable pub bits_of : List (List ℕ) → Option ℕ
bits_of words = one words >>= number_of 0 4294967295

abbrev pub value_of : Shape → List (List ℕ) → Option Value
value_of shapes.Bytes words = read_bytes_of words >>= λ bytes. Some (values.Bytes bytes)
value_of shapes.Text words = link_text_of words >>= λ text. Some (values.Text text)
value_of shapes.Attrs words = attrs_of words >>= λ attr. Some (values.Attrs attr)
value_of shapes.Bits words = bits_of words >>= λ bits. Some (values.Bits bits)
value_of shapes.Names words = shown_names_of words >>= λ names. Some (values.Names names)
value_of shapes.Nothing words = none_of words >>= λ nothing. Some values.Nothing

-- ---- an answer

abbrev pub answer_by : Shape → List ℕ → List (List ℕ) → Option Answer
answer_by shape word words =
    if bytes_eq word (codes "ok") then (value_of shape words >>= λ value. Some (answers.Done value))
    else (fault_of word words >>= λ fault. Some (answers.Refused fault))

-- the answer to an operation of that shape
abbrev pub answer_of : Shape → List (List ℕ) → Option Answer
answer_of shape words = first_of words >>= λ first. answer_by shape first.0 first.1
