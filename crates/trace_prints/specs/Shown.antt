-- What of a history its text shows: all but some of the attributes of a stat's answer.
use Rattle.std.specs.Prelude.{◌≡◌, ℕ, ◌%◌, map, Result, Ok, Err, unwrap_or}
use Rattle.nfs_types.specs.declared.attr.Attr.{Attr}
use Rattle.trace_data.specs.declared.trace.Trace.{Trace}
use Rattle.trace_data.specs.Histories.{history_of}
use Rattle.trace_text.specs.Told.{Told}
use Rattle.world_model.specs.declared.answer.Answer.{Answer}
use Rattle.world_model.specs.declared.answer.Answer.TheVariants as answers
use Rattle.world_model.specs.declared.answer.Value.{Value}
use Rattle.world_model.specs.declared.answer.Value.TheVariants as values
use Rattle.world_model.specs.declared.entry.Entry.{Entry}
use Rattle.world_model.specs.declared.entry.Entry.TheVariants as entries
use Rattle.world_model.specs.History.{History}

-- kind, the lower 12 bits of the mode, names, owner, group, size, number, and the second when the bytes last changed; all else is 0
abbrev pub shown_attr : Attr → Attr
shown_attr attr = record {
  kind = attr.kind;
  mode = attr.mode % 4096;
  nlink = attr.nlink;
  uid = attr.uid;
  gid = attr.gid;
  size = attr.size;
  used = 0;
  rdev_major = 0;
  rdev_minor = 0;
  fsid = 0;
  fileid = attr.fileid;
  atime = record { seconds = 0; nanos = 0 };
  mtime = record { seconds = attr.mtime.seconds; nanos = 0 };
  ctime = record { seconds = 0; nanos = 0 };
}

abbrev pub shown_value : Value → Value
shown_value values.Nothing = values.Nothing
shown_value (values.Bytes bytes) = values.Bytes bytes
shown_value (values.Text text) = values.Text text
shown_value (values.Attrs attr) = values.Attrs (shown_attr attr)
shown_value (values.Bits bits) = values.Bits bits
shown_value (values.Names names) = values.Names names

abbrev pub shown_answer : Answer → Answer
shown_answer (answers.Done value) = answers.Done (shown_value value)
shown_answer (answers.Refused fault) = answers.Refused fault

abbrev pub shown_entry : Entry → Entry
shown_entry (entries.Began lane line op) = entries.Began lane line op
shown_entry (entries.Answered lane line answer) = entries.Answered lane line (shown_answer answer)
shown_entry (entries.Dialed port) = entries.Dialed port
shown_entry (entries.Sent bytes) = entries.Sent bytes
shown_entry (entries.Executed xid call reply) = entries.Executed xid call reply
shown_entry (entries.Foreign call reply) = entries.Foreign call reply
shown_entry (entries.Flushed file from len) = entries.Flushed file from len
shown_entry (entries.Reboot verf) = entries.Reboot verf
shown_entry (entries.Delivered bytes) = entries.Delivered bytes
shown_entry entries.Failed = entries.Failed
shown_entry (entries.Clock ms) = entries.Clock ms

-- the history as its text shows it
abbrev pub shown_history : History → History
shown_history h = record { entries = map shown_entry h.entries; at = h.at }

-- what was told is what a trace says, with the history as its text shows it; if no line says the greatest lifetime it is 60,000 milliseconds
pub record IsAgain (trace : Trace) (told : Told) : Type 0 where
  pub root : told.root ≡ trace.root
  pub lives : unwrap_or told.lives 60000 ≡ trace.lives
  pub noac : told.noac ≡ trace.noac
  pub nocto : told.nocto ≡ trace.nocto
  pub history : told.history ≡ shown_history (history_of trace)

-- a text was read as this trace
abbrev pub IsReadAgain : Trace → Result Told ℕ → Type 0
IsReadAgain trace (Ok told) = IsAgain trace told
IsReadAgain trace (Err line) = ⊥
