-- An answer that is read shows what an operation of its shape may show.
use Rattle.std.proofs.Common.{◌<◌, ◌≤◌, ◌^◌, ℕ, zero, suc, List, [], ◌∷◌, Bool, true, false, ◌&&◌, ◌==◌, Option, Some, None, IfSome, slice_get, arith}
use Rattle.std.specs.Prelude.{codes, if◌then◌else◌}
use Rattle.std.specs.Str.{bytes_eq}
use Rattle.hex.specs.Hex.{IsBytes}
use Rattle.nfs_script.specs.Asked.{IsFrom}
use Rattle.script_text.specs.Lines.{one}
use Rattle.script_text.specs.Numbers.{number_of}
use Rattle.script_text.specs.Paths.{decoded}
use Rattle.world_model.specs.declared.answer.Answer.TheVariants as answers
use Rattle.world_model.specs.declared.answer.Fault.TheVariants as faults
use Rattle.world_model.specs.declared.entry.Entry.{Entry}
use Rattle.world_model.specs.declared.entry.Entry.TheVariants as entries
use Rattle.world_model.specs.declared.op.Op.{Op}
use Rattle.world_model.specs.declared.op.Op.TheVariants as ops
use Rattle.trace_text.specs.Answers.{answer_by, answer_of, attrs_of, bad_fault_of, bits_of, fault_of, link_text_of, lone_fault_of, nfs_fault_of, octal_of, plain_fault_of, read_bytes_of, rpc_fault_of, shape_in, shown_name_of, shown_names_of, some_bytes_of, value_of}
use Rattle.trace_text.specs.EntryLines.{last_shape, or_shape, shape_at}
use Rattle.trace_text.specs.Shapes.{AnswerShape}
use Rattle.trace_text.specs.Shapes as shapes
use Rattle.trace_text.specs.Words.{◌>>=◌, as_name, bytes_of, first_of, long_of, none_of}
use Rattle.trace_prints.specs.HasText.{AreListedNames, IsAnswer, IsFault, IsListedName, IsShownAttr, IsValue}
use Rattle.trace_prints.specs.HasText as has
use Rattle.trace_prints.proofs.Bounds.{AreBytes, IsFront, anything, as-listed, bytes-nil, chosen, first-bytes, hex-bytes, long-small, next, one-bytes, ranged, word-small}
use Rattle.trace_prints.proofs.OpBounds.{decoded-plain}

-- ---- refusals

nfs-within : (ws : List (List ℕ)) → IfSome (nfs_fault_of ws) IsFault
unfolding nfs_fault_of
nfs-within ws =
    next (λ w. Unit {0}) IsFault (one ws) _ (anything (one ws)) (λ word u.
    next (IsFrom 1 4294967295) IsFault (number_of 1 4294967295 word) _ (ranged 1 4294967295 word) (λ status s. let most : status ≤ 4294967295 = s.most in (s.least, omega (arith, most))))

rpc-within : (ws : List (List ℕ)) → IfSome (rpc_fault_of ws) IsFault
unfolding rpc_fault_of
rpc-within ws =
    next (λ w. Unit {0}) IsFault (one ws) _ (anything (one ws)) (λ word u.
    next (λ n. n < 2 ^ 64) IsFault (long_of word) _ (long-small word) (λ status s. s))

bad-within : (ws : List (List ℕ)) → IfSome (bad_fault_of ws) IsFault
unfolding bad_fault_of
bad-within ws =
    next (λ w. Unit {0}) IsFault (one ws) _ (anything (one ws)) (λ word u.
    next (IsFrom 1 7) IsFault (number_of 1 7 word) _ (ranged 1 7 word) (λ rule s. (s.least, s.most)))

plain-within : (word : List ℕ) → IfSome (plain_fault_of word) IsFault
plain-within word =
    chosen IsFault (bytes_eq word (codes "lost")) (Some faults.Lost) _ tt (
    chosen IsFault (bytes_eq word (codes "spent")) (Some faults.Spent) _ tt (
    chosen IsFault (bytes_eq word (codes "slot")) (Some faults.Slot) _ tt (
    chosen IsFault (bytes_eq word (codes "mode")) (Some faults.Mode) _ tt (
    chosen IsFault (bytes_eq word (codes "type")) (Some faults.Kind) _ tt (
    chosen IsFault (bytes_eq word (codes "many")) (Some faults.Many) _ tt (
    chosen IsFault (bytes_eq word (codes "memory")) (Some faults.Memory) None tt tt))))))

fault-within : (word : List ℕ) (ws : List (List ℕ)) → IfSome (fault_of word ws) IsFault
fault-within word ws =
    chosen IsFault (bytes_eq word (codes "nfs")) (nfs_fault_of ws) _ (nfs-within ws) (
    chosen IsFault (bytes_eq word (codes "rpc")) (rpc_fault_of ws) _ (rpc-within ws) (
    chosen IsFault (bytes_eq word (codes "bad")) (bad_fault_of ws) (lone_fault_of word ws) (bad-within ws) (
    next (λ u. Unit {0}) IsFault (none_of ws) _ (anything (none_of ws)) (λ u k. plain-within word))))

-- ---- what follows `ok`

read-bytes : (ws : List (List ℕ)) → IfSome (read_bytes_of ws) IsBytes
read-bytes [] = bytes-nil
read-bytes (word ∷ ws) = next (λ w. Unit {0}) IsBytes (one (word ∷ ws)) some_bytes_of (anything (one (word ∷ ws))) (λ w u.
    chosen IsBytes (bytes_eq w (codes "-")) None (bytes_of w) tt (hex-bytes w))

link-bytes : (ws : List (List ℕ)) → AreBytes ws → IfSome (link_text_of ws) IsBytes
link-bytes [] h = bytes-nil
link-bytes (word ∷ ws) h = next IsBytes IsBytes (one (word ∷ ws)) decoded (one-bytes (word ∷ ws) h) (λ w b. decoded-plain w b)

attrs-within : (ws : List (List ℕ)) → IfSome (attrs_of ws) IsShownAttr
unfolding attrs_of
attrs-within ws =
    next (λ p. Unit {0}) IsShownAttr (first_of ws) _ (anything (first_of ws)) (λ kind-word u0.
    next (λ p. Unit {0}) IsShownAttr (first_of (kind-word.1)) _ (anything (first_of (kind-word.1))) (λ mode-word u1.
    next (λ p. Unit {0}) IsShownAttr (first_of (mode-word.1)) _ (anything (first_of (mode-word.1))) (λ nlink-word u2.
    next (λ p. Unit {0}) IsShownAttr (first_of (nlink-word.1)) _ (anything (first_of (nlink-word.1))) (λ uid-word u3.
    next (λ p. Unit {0}) IsShownAttr (first_of (uid-word.1)) _ (anything (first_of (uid-word.1))) (λ gid-word u4.
    next (λ p. Unit {0}) IsShownAttr (first_of (gid-word.1)) _ (anything (first_of (gid-word.1))) (λ size-word u5.
    next (λ p. Unit {0}) IsShownAttr (first_of (size-word.1)) _ (anything (first_of (size-word.1))) (λ fileid-word u6.
    next (λ p. Unit {0}) IsShownAttr (one (fileid-word.1)) _ (anything (one (fileid-word.1))) (λ seconds-word u7.
    next (λ n. n < 2 ^ 32) IsShownAttr (number_of 0 4294967295 (kind-word.0)) _ (word-small (kind-word.0)) (λ kind a.
    next (λ n. Unit {0}) IsShownAttr (octal_of (mode-word.0)) _ (anything (octal_of (mode-word.0))) (λ mode b.
    next (λ n. n < 2 ^ 32) IsShownAttr (number_of 0 4294967295 (nlink-word.0)) _ (word-small (nlink-word.0)) (λ nlink c.
    next (λ n. n < 2 ^ 32) IsShownAttr (number_of 0 4294967295 (uid-word.0)) _ (word-small (uid-word.0)) (λ uid d.
    next (λ n. n < 2 ^ 32) IsShownAttr (number_of 0 4294967295 (gid-word.0)) _ (word-small (gid-word.0)) (λ gid e.
    next (λ n. n < 2 ^ 64) IsShownAttr (long_of (size-word.0)) _ (long-small (size-word.0)) (λ size f.
    next (λ n. n < 2 ^ 64) IsShownAttr (long_of (fileid-word.0)) _ (long-small (fileid-word.0)) (λ fileid g.
    next (λ n. n < 2 ^ 32) IsShownAttr (number_of 0 4294967295 seconds-word) _ (word-small seconds-word) (λ seconds h.
    record { kind = a; nlink = c; uid = d; gid = e; size = f; fileid = g; seconds = h }))))))))))))))))

bits-within : (ws : List (List ℕ)) → IfSome (bits_of ws) (λ n. n < 2 ^ 32)
unfolding bits_of
bits-within ws = next (λ w. Unit {0}) (λ n. n < 2 ^ 32) (one ws) (number_of 0 4294967295) (anything (one ws)) (λ word u. word-small word)

names-within : (ws : List (List ℕ)) → AreBytes ws → IfSome (shown_names_of ws) AreListedNames
names-within [] h = tt
names-within (word ∷ ws) h =
    next IsListedName AreListedNames (shown_name_of word) _ (next IsBytes IsListedName (decoded word) as_name (decoded-plain word h.0) (λ bytes b. as-listed bytes b)) (λ name n.
    next AreListedNames AreListedNames (shown_names_of ws) _ (names-within ws h.1) (λ names k. (n, k)))

-- ---- an answer

-- what follows `ok` in an answer of that shape is what it may show
abbrev IsRead : AnswerShape → Type 0
IsRead shape = (ws : List (List ℕ)) → AreBytes ws → IfSome (value_of shape ws) (IsValue shape)

read-nothing : IsRead shapes.no_value
read-nothing ws h = next (λ u. Unit {0}) (IsValue shapes.no_value) (none_of ws) _ (anything (none_of ws)) (λ u k. has.shows_nothing)

read-some : IsRead shapes.read_bytes
read-some ws h = next IsBytes (IsValue shapes.read_bytes) (read_bytes_of ws) _ (read-bytes ws) (λ bytes b. has.shows_bytes bytes b)

read-text : IsRead shapes.link_text
read-text ws h = next IsBytes (IsValue shapes.link_text) (link_text_of ws) _ (link-bytes ws h) (λ text b. has.shows_text text b)

read-attrs : IsRead shapes.stat_attrs
read-attrs ws h = next IsShownAttr (IsValue shapes.stat_attrs) (attrs_of ws) _ (attrs-within ws) (λ attr a. has.shows_attrs attr a)

read-bits : IsRead shapes.access_bits
read-bits ws h = next (λ n. n < 2 ^ 32) (IsValue shapes.access_bits) (bits_of ws) _ (bits-within ws) (λ bits b. has.shows_bits bits b)

read-names : IsRead shapes.listed_names
read-names ws h = next AreListedNames (IsValue shapes.listed_names) (shown_names_of ws) _ (names-within ws h) (λ names n. has.shows_names names n)

-- each operation has one of six shapes
op-read : (op : Op) → IsRead (shape_in op)
op-read (ops.OpenFile slot mode path) = read-nothing
op-read (ops.Read slot offset count) = read-some
op-read (ops.Write slot offset bytes) = read-nothing
op-read (ops.Fill slot offset count byte) = read-nothing
op-read (ops.Put path offset bytes) = read-nothing
op-read (ops.Sync slot) = read-nothing
op-read (ops.Close slot) = read-nothing
op-read (ops.Truncate slot size) = read-nothing
op-read (ops.Stat path) = read-attrs
op-read (ops.Access path bits) = read-bits
op-read (ops.MakeDir path) = read-nothing
op-read (ops.RemoveDir path) = read-nothing
op-read (ops.Remove path) = read-nothing
op-read (ops.Rename from to) = read-nothing
op-read (ops.Link from to) = read-nothing
op-read (ops.SymLink path target) = read-nothing
op-read (ops.ReadLink path) = read-text
op-read (ops.List path) = read-names

begun-read : (lane line of at : ℕ) (op : Op) (before : AnswerShape) → IsRead before → IsRead (or_shape (if (of == lane) && (at == line) then Some (shape_in op) else None) before)
begun-read lane line of at op before r = by ((of == lane) && (at == line))
  where
    by : (t : Bool) → IsRead (or_shape (if t then Some (shape_in op) else None) before)
    by true = op-read op
    by false = r

entry-read : (lane line : ℕ) (o : Option Entry) (before : AnswerShape) → IsRead before → IsRead (or_shape (shape_at lane line o) before)
entry-read lane line None before r = r
entry-read lane line (Some (entries.Began of at op)) before r = begun-read lane line of at op before r
entry-read lane line (Some (entries.Answered of at answer)) before r = r
entry-read lane line (Some (entries.Dialed port)) before r = r
entry-read lane line (Some (entries.Sent bytes)) before r = r
entry-read lane line (Some (entries.Executed xid call reply)) before r = r
entry-read lane line (Some (entries.Foreign call reply)) before r = r
entry-read lane line (Some (entries.Flushed file from len)) before r = r
entry-read lane line (Some (entries.Reboot verf)) before r = r
entry-read lane line (Some (entries.Delivered bytes)) before r = r
entry-read lane line (Some entries.Failed) before r = r
entry-read lane line (Some (entries.Clock ms)) before r = r

last-read : (lane line : ℕ) (es : List Entry) (n : ℕ) → IsRead (last_shape lane line es n)
last-read lane line es zero = read-nothing
last-read lane line es (suc n) = entry-read lane line (slice_get es n) (last_shape lane line es n) (last-read lane line es n)

answer-by : (shape : AnswerShape) (word : List ℕ) (ws : List (List ℕ)) → IsRead shape → AreBytes ws → IfSome (answer_by shape word ws) (IsAnswer shape)
answer-by shape word ws r h =
    chosen (IsAnswer shape) (bytes_eq word (codes "ok")) (value_of shape ws >>= λ value. Some (answers.Done value)) (fault_of word ws >>= λ fault. Some (answers.Refused fault))
    (next (IsValue shape) (IsAnswer shape) (value_of shape ws) _ (r ws h) (λ value v. v))
    (next IsFault (IsAnswer shape) (fault_of word ws) _ (fault-within word ws) (λ fault f. f))

-- an answer to the operation that began last in the lane and line
pub answer-within : (lane line : ℕ) (es : List Entry) (n : ℕ) (ws : List (List ℕ)) → AreBytes ws → IfSome (answer_of (last_shape lane line es n) ws) (IsAnswer (last_shape lane line es n))
answer-within lane line es n ws h =
    next IsFront (IsAnswer (last_shape lane line es n)) (first_of ws) _ (first-bytes ws h) (λ p k.
    answer-by (last_shape lane line es n) (p.0) (p.1) (last-read lane line es n) k.1)
