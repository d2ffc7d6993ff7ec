-- The history that is read from the calls of a wire.
use Rattle.std.specs.Prelude.{ℕ, List, [], ◌∷◌, ◌++◌, length, Option, Some, None, nat_lt, if◌then◌else◌}
use Rattle.world_model.specs.declared.entry.Entry.{Entry}
use Rattle.world_model.specs.declared.entry.Entry.TheVariants as entries
use Rattle.world_model.specs.Server.{Server}
use Rattle.world_model.specs.History.{History}
use Rattle.world_model.specs.Lawful.{Lawful}
use Rattle.outside.specs.declared.wire.WireEntry.{WireEntry}
use Rattle.outside.specs.declared.wire.WireEntry.TheVariants.{Connected, Wrote, Read, Noted, Missed}
use Rattle.outside.specs.Link.{entry_of}
use Rattle.outside.specs.Wire.{Step, WireCall, WireTold}
use Rattle.outside.specs.Records.{Split, split}

-- no entry yet
abbrev pub begins_at : Server → History
begins_at start = record { entries = []; at = λ n. start }

-- the server after all entries
abbrev pub now_at : History → Server
now_at h = h.at (length h.entries)

unfoldable pub at_next : History → Server → ℕ → Server
at_next h after n = if nat_lt (length h.entries) n then after else h.at n

-- one entry more, and the server after it
abbrev pub goes_on : History → Entry → Server → History
goes_on h e after = record { entries = h.entries ++ e ∷ []; at = at_next h after }

-- an entry that leaves the server as it is
abbrev pub adds : History → Entry → History
adds h e = goes_on h e (now_at h)

-- what the server did
abbrev pub follows : List Step → History → History
follows [] h = h
follows (s ∷ steps) h = follows steps (goes_on h s.entry s.after)

abbrev pub all_add : (List ℕ → Entry) → List (List ℕ) → History → History
all_add make [] h = h
all_add make (rec ∷ recs) h = all_add make recs (adds h (make rec))

-- the history so far, and since the latest connection the bytes that were read and those that were written behind the
-- last whole record
pub record Reading : Type 0 where
  pub history : History
  pub unread : List ℕ
  pub unsent : List ℕ

abbrev pub wrote_all : Split → Reading → Reading
wrote_all s r = record { history = all_add entries.Sent s.records r.history; unread = r.unread; unsent = s.rest }

abbrev pub read_all : Split → Reading → Reading
read_all s r = record { history = all_add entries.Delivered s.records r.history; unread = s.rest; unsent = r.unsent }

-- What a call's own entry shows. A record was sent where its last byte was written, and delivered where its last byte
-- was read; a new connection begins with no bytes.
abbrev pub shown : WireEntry → Reading → Reading
shown (Connected port) r = record { history = adds r.history (entries.Dialed port); unread = []; unsent = [] }
shown (Wrote bytes) r = wrote_all (split (r.unsent ++ bytes)) r
shown (Read bytes) r = read_all (split (r.unread ++ bytes)) r
shown (Noted mark) r = record r { history = adds r.history (entry_of mark) }
shown Missed r = r

abbrev pub read_call : WireCall → Reading → Reading
read_call c r = shown c.did (record r { history = follows c.quiet r.history })

abbrev pub read_calls : List WireCall → Reading → Reading
read_calls [] r = r
read_calls (c ∷ cs) r = read_calls cs (read_call c r)

abbrev pub reading : WireTold → Reading
reading t = read_calls t.calls (record { history = begins_at t.start; unread = []; unsent = [] })

-- what is told, if anything is, is what an honest server and network make
abbrev pub IsLawfulWire : Option WireTold → Type 0
IsLawfulWire None = Unit {0}
IsLawfulWire (Some t) = Lawful (reading t).history
