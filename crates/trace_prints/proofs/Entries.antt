-- The line of an entry is read back as what it shows of that entry.
use Rattle.std.proofs.Common.{◌≡◌, ◌<◌, ◌+◌, ℕ, zero, suc, List, [], ◌∷◌, ◌++◌, length, map, Bool, true, false, Option, Some, None, slice_get, refl, ap, ◌∙◌, arith, append_assoc}
use Rattle.std.specs.Prelude.{codes, decimal, if◌then◌else◌}
use Rattle.std.proofs.lemmas.Bool.{lt-ltb}
use Rattle.std.proofs.lemmas.Option.{slice_get-map}
use Rattle.std.specs.Option.{option_map}
use Rattle.export_serve.specs.Spelling.{reply_bytes}
use Rattle.script_text.specs.Lines.{is_skipped}
use Rattle.trace_calls.specs.Sending.{call_bytes}
use Rattle.world_model.specs.declared.entry.Entry.{Entry}
use Rattle.world_model.specs.declared.entry.Entry.TheVariants as entries
use Rattle.world_model.specs.declared.message.Call.{Call}
use Rattle.world_model.specs.declared.message.Reply.{Reply}
use Rattle.world_model.specs.declared.op.Op.{Op}
use Rattle.world_model.specs.declared.op.Op.TheVariants as ops
use Rattle.world_model.specs.Transcript.{shown}
use Rattle.trace_text.specs.Shapes.{AnswerShape}
use Rattle.trace_text.specs.EntryLines.{answered_call_of, answered_line, began_line, clock_line, delivered_line, dialed_line, executed_line, failed_line, flushed_line, foreign_line, last_shape, or_shape, reboot_line, sent_line, shape_at}
use Rattle.trace_text.specs.Reading.{line_by}
use Rattle.trace_text.specs.Texts.{call_words, entry_text, hex_word, line_of, mode_word, op_words, path_word, spread}
use Rattle.trace_text.specs.Told.{Told, added, begun, entered}
use Rattle.trace_prints.specs.HasText.{IsCall, IsEntry}
use Rattle.trace_prints.specs.Shown.{shown_answer, shown_entry}
use Rattle.trace_prints.proofs.Lined.{AreWords}
use Rattle.trace_prints.specs.Rounds.{Reads, ShowsLast}
use Rattle.trace_prints.proofs.ByLine.{reads-line}
use Rattle.trace_prints.proofs.Calls.{answers-it, asks-for}
use Rattle.trace_prints.proofs.Marks.{verf-back}
use Rattle.trace_prints.proofs.Spelt.{decimal-word, handle-back, hex-back, hex-is-word, long-back, number-back}
use Rattle.trace_prints.proofs.Ops.{is_word, op-are-words, read-op, word-so}
use Rattle.trace_prints.proofs.Answered.{answer-are-words, answer-back, answer_words, answered-text}

-- ---- what began last

shape-shown : (lane line : ℕ) (o : Option Entry) → shape_at lane line (option_map shown_entry o) ≡ shape_at lane line o
shape-shown lane line None = refl
shape-shown lane line (Some (entries.Began of at op)) = refl
shape-shown lane line (Some (entries.Answered of at answer)) = refl
shape-shown lane line (Some (entries.Dialed port)) = refl
shape-shown lane line (Some (entries.Sent bytes)) = refl
shape-shown lane line (Some (entries.Executed xid call reply)) = refl
shape-shown lane line (Some (entries.Foreign call reply)) = refl
shape-shown lane line (Some (entries.Flushed file from len)) = refl
shape-shown lane line (Some (entries.Reboot verf)) = refl
shape-shown lane line (Some (entries.Delivered bytes)) = refl
shape-shown lane line (Some entries.Failed) = refl
shape-shown lane line (Some (entries.Clock ms)) = refl

pub last-shown : (lane line : ℕ) (es : List Entry) (n : ℕ) → last_shape lane line (map shown_entry es) n ≡ last_shape lane line es n
last-shown lane line es zero = refl
last-shown lane line es (suc n) =
    ap (λ (o : Option Entry). or_shape (shape_at lane line o) (last_shape lane line (map shown_entry es) n)) (slice_get-map shown_entry es n)
    ∙ ap (λ (o : Option AnswerShape). or_shape o (last_shape lane line (map shown_entry es) n)) (shape-shown lane line (slice_get es n))
    ∙ ap (or_shape (shape_at lane line (slice_get es n))) (last-shown lane line es n)

-- ---- one entry more

more-room : (told : Told) (entry : Entry) → length told.history.entries < 4096 → entered entry told ≡ Some (added entry told)
more-room told entry lt = ap (λ (t : Bool). if t then Some (added entry told) else None) (lt-ltb (length told.history.entries) 4096 lt)

-- the text of an operation, behind its lane and line
began-text : (l n : List ℕ) (word : List ℕ) (words : List (List ℕ)) → codes "began" ++ spread (l ∷ n ∷ []) ++ spread (word ∷ words) ++ codes "\n" ≡ line_of (codes "began") (l ∷ n ∷ word ∷ words)
began-text l n word words = ap (λ (k : List ℕ). k ++ codes "\n") (
    append_assoc (codes "began") (spread (l ∷ n ∷ [])) (spread (word ∷ words))
    ∙ ap (λ (k : List ℕ). codes "began" ++ 32 ∷ k) (append_assoc l (32 ∷ n) (spread (word ∷ words)))
    )

op-text : (lane line : ℕ) (op : Op) → entry_text (entries.Began lane line op) ≡ line_of (codes "began") (decimal lane ∷ decimal line ∷ op_words op)
op-text lane line (ops.OpenFile slot mode path) = began-text (decimal lane) (decimal line) (codes "open") (decimal slot ∷ mode_word mode ∷ path_word path ∷ [])
op-text lane line (ops.Read slot offset count) = began-text (decimal lane) (decimal line) (codes "read") (decimal slot ∷ decimal offset ∷ decimal count ∷ [])
op-text lane line (ops.Write slot offset bytes) = began-text (decimal lane) (decimal line) (codes "write") (decimal slot ∷ decimal offset ∷ hex_word bytes ∷ [])
op-text lane line (ops.Fill slot offset count byte) = began-text (decimal lane) (decimal line) (codes "fill") (decimal slot ∷ decimal offset ∷ decimal count ∷ hex_word (byte ∷ []) ∷ [])
op-text lane line (ops.Put path offset bytes) = began-text (decimal lane) (decimal line) (codes "put") (path_word path ∷ decimal offset ∷ hex_word bytes ∷ [])
op-text lane line (ops.Sync slot) = began-text (decimal lane) (decimal line) (codes "sync") (decimal slot ∷ [])
op-text lane line (ops.Close slot) = began-text (decimal lane) (decimal line) (codes "close") (decimal slot ∷ [])
op-text lane line (ops.Truncate slot size) = began-text (decimal lane) (decimal line) (codes "truncate") (decimal slot ∷ decimal size ∷ [])
op-text lane line (ops.Stat path) = began-text (decimal lane) (decimal line) (codes "stat") (path_word path ∷ [])
op-text lane line (ops.Access path bits) = began-text (decimal lane) (decimal line) (codes "access") (path_word path ∷ decimal bits ∷ [])
op-text lane line (ops.MakeDir path) = began-text (decimal lane) (decimal line) (codes "mkdir") (path_word path ∷ [])
op-text lane line (ops.RemoveDir path) = began-text (decimal lane) (decimal line) (codes "rmdir") (path_word path ∷ [])
op-text lane line (ops.Remove path) = began-text (decimal lane) (decimal line) (codes "remove") (path_word path ∷ [])
op-text lane line (ops.Rename from to) = began-text (decimal lane) (decimal line) (codes "rename") (path_word from ∷ path_word to ∷ [])
op-text lane line (ops.Link from to) = began-text (decimal lane) (decimal line) (codes "link") (path_word from ∷ path_word to ∷ [])
op-text lane line (ops.SymLink path target) = began-text (decimal lane) (decimal line) (codes "symlink") (path_word path ∷ shown target ∷ [])
op-text lane line (ops.ReadLink path) = began-text (decimal lane) (decimal line) (codes "readlink") (path_word path ∷ [])
op-text lane line (ops.List path) = began-text (decimal lane) (decimal line) (codes "list") (path_word path ∷ [])

-- what the text of a line is, by another spelling of it
reads-as : (told new : Told) (text line : List ℕ) → text ≡ line → Reads told line new → Reads told text new
reads-as told new text line e r = rw e r

-- a line of a word and a few words
short-line : (told : Told) (entry : Entry) (word : List ℕ) (words : List (List ℕ)) → is_word word ≡ true → is_skipped word ≡ false → AreWords words
    → line_by told word words ≡ entered entry told → length told.history.entries < 4096 → Reads told (line_of word words) (begun (added entry told))
short-line told entry word words w e ws so lt = reads-line told (added entry told) word words (word-so word w) e ws (so ∙ more-room told entry lt)

call-is : (xid : ℕ) (call : Call) (reply : Reply) → IsCall xid call reply → answered_call_of (call_words xid call reply) ≡ Some (xid, call, reply)
unfolding answered_call_of
call-is xid call reply c = rw (hex-back (call_bytes xid call) c.call_plain, hex-back (reply_bytes xid reply) c.reply_plain, asks-for xid call (call_bytes xid call) c.asks, answers-it xid call reply (reply_bytes xid reply) c.answers) refl

call-words : (xid : ℕ) (call : Call) (reply : Reply) → IsCall xid call reply → AreWords (call_words xid call reply)
call-words xid call reply c = (hex-is-word (call_bytes xid call) c.call_plain, (hex-is-word (reply_bytes xid reply) c.reply_plain, tt))

-- The line of an entry adds what it shows of the entry.
pub reads-entry : (told : Told) (shape : ℕ → ℕ → AnswerShape) (entry : Entry) → ShowsLast told shape
    → IsEntry shape entry → length told.history.entries < 4096 → Reads told (entry_text entry) (begun (added (shown_entry entry) told))
unfolding began_line answered_line dialed_line sent_line delivered_line failed_line clock_line flushed_line reboot_line executed_line foreign_line
reads-entry told shape (entries.Began lane line op) last e lt =
    reads-as told (begun (added (entries.Began lane line op) told)) (entry_text (entries.Began lane line op)) (line_of (codes "began") (decimal lane ∷ decimal line ∷ op_words op)) (op-text lane line op)
    (short-line told (entries.Began lane line op) (codes "began") (decimal lane ∷ decimal line ∷ op_words op) refl refl
    (decimal-word lane (omega (arith, e.0.lane_most)), (decimal-word line (omega (arith, e.0.line_most)), op-are-words op e.1))
    (rw (read-op op e.1, number-back 1 16 lane e.0.lane_least e.0.lane_most (omega (arith, e.0.lane_most)), number-back 1 4294967295 line e.0.line_least (omega (arith, e.0.line_most)) (omega (arith, e.0.line_most))) refl) lt)
reads-entry told shape (entries.Answered lane line answer) last e lt =
    reads-as told (begun (added (entries.Answered lane line (shown_answer answer)) told)) (entry_text (entries.Answered lane line answer))
    (line_of (codes "answered") (decimal lane ∷ decimal line ∷ answer_words answer)) (answered-text lane line answer)
    (short-line told (entries.Answered lane line (shown_answer answer)) (codes "answered") (decimal lane ∷ decimal line ∷ answer_words answer) refl refl
    (decimal-word lane (omega (arith, e.0.lane_most)), (decimal-word line (omega (arith, e.0.line_most)), answer-are-words (shape lane line) answer e.1))
    (rw (
      number-back 1 16 lane e.0.lane_least e.0.lane_most (omega (arith, e.0.lane_most)),
      number-back 1 4294967295 line e.0.line_least (omega (arith, e.0.line_most)) (omega (arith, e.0.line_most)),
      last lane line,
      answer-back (shape lane line) answer e.1,
    ) refl) lt)
reads-entry told shape (entries.Dialed port) last e lt = short-line told (entries.Dialed port) (codes "dialed") (decimal port ∷ []) refl refl (decimal-word port (omega (arith, e)), tt)
    (rw (number-back 0 65535 port (omega arith) (omega (arith, e)) (omega (arith, e))) refl) lt
reads-entry told shape (entries.Sent bytes) last e lt = short-line told (entries.Sent bytes) (codes "sent") (hex_word bytes ∷ []) refl refl (hex-is-word bytes e, tt) (rw (hex-back bytes e) refl) lt
reads-entry told shape (entries.Executed xid call reply) last e lt =
    short-line told (entries.Executed xid call reply) (codes "executed") (call_words xid call reply) refl refl (call-words xid call reply e) (rw (call-is xid call reply e) refl) lt
reads-entry told shape (entries.Foreign call reply) last e lt =
    short-line told (entries.Foreign call reply) (codes "foreign") (call_words 0 call reply) refl refl (call-words 0 call reply e) (rw (call-is 0 call reply e) refl) lt
reads-entry told shape (entries.Flushed file from len) last e lt =
    short-line told (entries.Flushed file from len) (codes "flushed") (hex_word file ∷ decimal from ∷ decimal len ∷ []) refl refl
    (hex-is-word file e.0.bytes, (decimal-word from e.1, (decimal-word len e.2, tt))) (rw (handle-back file e.0.bytes e.0.few, long-back from e.1, long-back len e.2) refl) lt
reads-entry told shape (entries.Reboot verf) last e lt = short-line told (entries.Reboot verf) (codes "reboot") (hex_word verf.0 ∷ []) refl refl (hex-is-word verf.0 e.bytes, tt) (rw (verf-back verf e) refl) lt
reads-entry told shape (entries.Delivered bytes) last e lt = short-line told (entries.Delivered bytes) (codes "delivered") (hex_word bytes ∷ []) refl refl (hex-is-word bytes e, tt) (rw (hex-back bytes e) refl) lt
reads-entry told shape entries.Failed last e lt = short-line told entries.Failed (codes "failed") [] refl refl tt refl lt
reads-entry told shape (entries.Clock ms) last e lt = short-line told (entries.Clock ms) (codes "clock") (decimal ms ∷ []) refl refl (decimal-word ms e, tt) (rw (long-back ms e) refl) lt
