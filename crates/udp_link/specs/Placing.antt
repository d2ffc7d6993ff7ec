-- The history of a link, from the calls of its datagrams and what the link placed behind each of them.
use Rattle.std.specs.Prelude.{◌≡◌, ◌≤◌, ◌-◌, ℕ, List, [], ◌∷◌, ◌++◌, take, drop, length, Option, Some, None, if◌then◌else◌}
use Rattle.world_model.specs.declared.entry.Entry.{Entry}
use Rattle.world_model.specs.declared.entry.Entry.TheVariants as entries
use Rattle.world_model.specs.Server.{Server}
use Rattle.world_model.specs.History.{History}
use Rattle.outside.specs.declared.datagrams.DatagramEntry.{DatagramEntry}
use Rattle.outside.specs.declared.datagrams.DatagramEntry.TheVariants.{Aimed, Sent, Came, Noted, Missed}
use Rattle.outside.specs.Link.{entry_of}
use Rattle.outside.specs.Reading.{begins_at, adds}
use Rattle.outside.specs.Datagrams.{DatagramCall, DatagramsTold, Heard, is_aimed, hear_call}
use Rattle.rpc_record.specs.Stream.{after_steps}
use Rattle.outside.specs.declared.places.DatagramAdds.{DatagramAdds}
use Rattle.outside.specs.declared.places.DatagramAdds.TheVariants as added

-- what the link placed
abbrev pub places : DatagramAdds → Heard → Heard
places added.Nothing h = h
places added.Failed h = record h { history = adds h.history entries.Failed }
places (added.Unsent bytes) h = record h { history = adds (adds h.history (entries.Sent bytes)) entries.Failed }

-- the kept list, played over the calls: each place stands behind its call
abbrev pub replays : List DatagramAdds → List DatagramCall → Heard → Heard
replays [] cs h = h
replays (a ∷ more) [] h = h
replays (a ∷ more) (c ∷ cs) h = replays more cs (places a (hear_call c h))

-- the latest calls, so many, and those before them
abbrev pub latest : ℕ → List DatagramCall → List DatagramCall
latest n calls = drop (length calls - n) calls

abbrev pub earlier : ℕ → List DatagramCall → List DatagramCall
earlier n calls = take (length calls - n) calls

-- the server after calls
abbrev pub after_calls : Server → List DatagramCall → Server
after_calls s [] = s
after_calls s (c ∷ cs) = after_calls (after_steps s c.quiet) cs

-- no entry yet, and no port was dialed
abbrev pub begun : Server → Heard
begun start = record { history = begins_at start; aimed = None }

-- Where the history of a link stands. What the datagrams did before the latest calls is no part of it: it begins with the
-- server after that.
abbrev pub heard_by : DatagramsTold → List DatagramAdds → Heard
heard_by t ks = replays ks (latest (length ks) t.calls) (begun (after_calls t.start (earlier (length ks) t.calls)))

abbrev pub now_of : Option DatagramsTold → List DatagramAdds → Option Heard
now_of None ks = None
now_of (Some t) ks = Some (heard_by t ks)

abbrev pub told_of : Option Heard → Option History
told_of None = None
told_of (Some h) = Some h.history

-- ---- which datagrams are delivered

-- the port that is aimed at after a call, and after calls
abbrev pub aims : DatagramEntry → Option ℕ → Option ℕ
aims (Aimed port) aimed = Some port
aims (Sent bytes) aimed = aimed
aims (Came from bytes) aimed = aimed
aims (Noted mark) aimed = aimed
aims Missed aimed = aimed

abbrev pub aims_all : List DatagramCall → Option ℕ → Option ℕ
aims_all [] aimed = aimed
aims_all (c ∷ cs) aimed = aims_all cs (aims c.did aimed)

-- the datagram that a call brought from the port aimed at
abbrev pub brought : DatagramEntry → Option ℕ → List (List ℕ)
brought (Aimed port) aimed = []
brought (Sent bytes) aimed = []
brought (Came from bytes) aimed = if is_aimed aimed from then bytes ∷ [] else []
brought (Noted mark) aimed = []
brought Missed aimed = []

-- all that calls brought from the port aimed at last before each, in order
abbrev pub brought_by : List DatagramCall → Option ℕ → List (List ℕ)
brought_by [] aimed = []
brought_by (c ∷ cs) aimed = brought c.did aimed ++ brought_by cs (aims c.did aimed)

-- the record that an entry delivers
abbrev pub delivered_of : Entry → List (List ℕ)
delivered_of (entries.Delivered bytes) = bytes ∷ []
delivered_of e = []

-- the records that were delivered, in order
abbrev pub delivered : List Entry → List (List ℕ)
delivered [] = []
delivered (e ∷ es) = delivered_of e ++ delivered es

-- Each call since the link was made has its place. The port is the one dialed last. The records that were delivered are
-- exactly the datagrams that came from the port dialed last, in order, each whole.
pub record Placed (t : DatagramsTold) (ks : List DatagramAdds) (port : Option ℕ) : Type 0 where
  pub enough : length ks ≤ length t.calls
  pub aimed : (heard_by t ks).aimed ≡ port
  pub dialed : aims_all (latest (length ks) t.calls) None ≡ port
  pub exact : delivered (heard_by t ks).history.entries ≡ brought_by (latest (length ks) t.calls) None

-- Nothing is placed behind datagrams that don't tell their calls.
abbrev pub IsPlaced : Option DatagramsTold → List DatagramAdds → Option ℕ → Type 0
IsPlaced None ks port = ks ≡ []
IsPlaced (Some t) ks port = Placed t ks port

-- ---- what a call adds

-- the entry that a call's own shows, if that port is aimed at
abbrev pub shown_as : Option ℕ → DatagramEntry → List Entry
shown_as aimed (Aimed port) = entries.Dialed port ∷ []
shown_as aimed (Sent bytes) = entries.Sent bytes ∷ []
shown_as aimed (Came from bytes) = if is_aimed aimed from then entries.Delivered bytes ∷ [] else []
shown_as aimed (Noted mark) = entry_of mark ∷ []
shown_as aimed Missed = []

-- the entries that were placed behind it
abbrev pub placed_as : DatagramAdds → List Entry
placed_as added.Nothing = []
placed_as added.Failed = entries.Failed ∷ []
placed_as (added.Unsent bytes) = entries.Sent bytes ∷ entries.Failed ∷ []
