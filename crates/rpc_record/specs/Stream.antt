-- The history of a link, from the calls of its wire and what the link placed behind them.
use Rattle.std.specs.Prelude.{◌≡◌, ◌≤◌, ◌+◌, ◌-◌, ℕ, suc, List, [], ◌∷◌, ◌++◌, take, drop, length, Bool, true, false, Option, Some, None, Result, Ok, Err, ◌==◌, if◌then◌else◌}
use Rattle.world_model.specs.declared.entry.Entry.TheVariants as entries
use Rattle.world_model.specs.declared.entry.Mark.{Mark}
use Rattle.world_model.specs.Entries.{ours}
use Rattle.world_model.specs.Server.{Server}
use Rattle.world_model.specs.History.{History}
use Rattle.outside.specs.declared.wire.WireEntry.{WireEntry}
use Rattle.outside.specs.declared.wire.WireEntry.TheVariants.{Connected, Wrote, Read, Noted, Missed}
use Rattle.outside.specs.declared.wire.WireRead.{WireRead}
use Rattle.outside.specs.declared.wire.WireRead.TheVariants as reads
use Rattle.outside.specs.declared.link.LinkFault.{LinkFault}
use Rattle.outside.specs.declared.link.LinkFault.TheVariants as faults
use Rattle.outside.specs.Link.{entry_of}
use Rattle.outside.specs.Wire.{Step, WireCall, WireTold, entries_in}
use Rattle.outside.specs.Reading.{begins_at, adds, follows}
use Rattle.outside.specs.declared.places.WirePlace.{WirePlace}
use Rattle.outside.specs.declared.places.WireAdds.{WireAdds}
use Rattle.outside.specs.declared.places.WireAdds.TheVariants as added
use Rattle.outside.specs.Records.{◌>>=◌, nth_record}

-- What is known at a moment: the calls of the wire that have no place yet, and the history so far. And since the latest
-- connection: the bytes that were read, how many of their records were delivered, the bytes that were written, and how many
-- of their records were sent.
pub record Stream : Type 0 where
  pub calls : List WireCall
  pub history : History
  pub came : List ℕ
  pub taken : ℕ
  pub went : List ℕ
  pub sent : ℕ

abbrev pub begun : Server → List WireCall → Stream
begun start calls = record { calls = calls; history = begins_at start; came = []; taken = 0; went = []; sent = 0 }

abbrev pub quietly : List Step → Stream → Stream
quietly quiet s = record s { history = follows quiet s.history }

-- what the own entry of a call of the wire shows
abbrev pub shows : WireEntry → Stream → Stream
shows (Connected port) s = record { calls = s.calls; history = adds s.history (entries.Dialed port); came = []; taken = 0; went = []; sent = 0 }
shows (Wrote bytes) s = record s { went = s.went ++ bytes }
shows (Read bytes) s = record s { came = s.came ++ bytes }
shows (Noted mark) s = record s { history = adds s.history (entry_of mark) }
shows Missed s = s

abbrev pub delivers : Option (List ℕ) → Stream → Stream
delivers None s = s
delivers (Some rec) s = record s { history = adds s.history (entries.Delivered rec); taken = suc s.taken }

abbrev pub sends : Option (List ℕ) → Stream → Stream
sends None s = s
sends (Some rec) s = record s { history = adds s.history (entries.Sent rec); sent = suc s.sent }

-- What the link placed. A record that is delivered is the next one of the bytes that were read since the latest connection.
-- A record that was sent whole is the next one of those that were written.
abbrev pub places : WireAdds → Stream → Stream
places added.Nothing s = s
places added.Failed s = record s { history = adds s.history entries.Failed }
places added.Whole s = sends (nth_record s.sent s.went) s
places (added.Part bytes) s = record s { history = adds (adds s.history (entries.Sent bytes)) entries.Failed }
places added.Delivered s = delivers (nth_record s.taken s.came) s

abbrev pub called_of : List WireCall → Stream → Option Stream
called_of [] s = None
called_of (c ∷ cs) s = Some (shows c.did (quietly c.quiet (record s { calls = cs })))

abbrev pub called : Bool → Stream → Option Stream
called false s = Some s
called true s = called_of s.calls s

-- the kept list, played over the calls
abbrev pub replays : List WirePlace → Stream → Option Stream
replays [] s = Some s
replays (k ∷ ks) s = called k.call s >>= λ t. replays ks (places k.adds t)

abbrev pub one_if : Bool → ℕ
one_if true = 1
one_if false = 0

-- how many of the kept places are those of calls
abbrev pub calls_in : List WirePlace → ℕ
calls_in [] = 0
calls_in (k ∷ ks) = one_if k.call + calls_in ks

-- the latest calls of a wire, so many, and those before them
abbrev pub latest : ℕ → List WireCall → List WireCall
latest n calls = drop (length calls - n) calls

abbrev pub earlier : ℕ → List WireCall → List WireCall
earlier n calls = take (length calls - n) calls

-- the server after what it did, and after calls
abbrev pub after_steps : Server → List Step → Server
after_steps s [] = s
after_steps s (x ∷ xs) = after_steps x.after xs

abbrev pub after_calls : Server → List WireCall → Server
after_calls s [] = s
after_calls s (c ∷ cs) = after_calls (after_steps s c.quiet) cs

-- What a wire did before its latest calls is no part of the link's history, which begins with the server after that.
abbrev pub begun_at : ℕ → WireTold → Stream
begun_at n t = begun (after_calls t.start (earlier n t.calls)) (latest n t.calls)

abbrev pub now_of : Option WireTold → List WirePlace → Option Stream
now_of None ks = None
now_of (Some t) ks = replays ks (begun_at (calls_in ks) t)

-- Each call of the wire since then has its place, and no place is without a call. Behind a wire that doesn't tell its calls
-- nothing is placed.
pub record Placed (t : WireTold) (ks : List WirePlace) : Type 0 where
  pub enough : calls_in ks ≤ length t.calls
  pub now : Stream
  pub is : replays ks (begun_at (calls_in ks) t) ≡ Some now
  pub all : now.calls ≡ []

abbrev pub AllPlaced : Option WireTold → List WirePlace → Type 0
AllPlaced None ks = ks ≡ []
AllPlaced (Some t) ks = Placed t ks

-- nothing is kept if the wire doesn't tell its calls
abbrev pub KeepsNone : Option WireTold → List WirePlace → Type 0
KeepsNone None ks = ks ≡ []
KeepsNone (Some t) ks = Unit {0}

-- what a line is: its wire, what it placed behind the wire's calls, and the wire's count
pub record Along (W : Type 0) : Type 0 where
  pub over : W
  pub kept : List WirePlace
  pub faults : ℕ

-- where its history stands
abbrev pub now_in : {W : Type 0} → (W → Option WireTold) → Along W → Option Stream
now_in told a = now_of (told a.over) a.kept

-- a relation of two streams, if they are told
abbrev pub Goes : Option Stream → Option Stream → (Stream → Stream → Type 0) → Type 0
Goes None new R = new ≡ None
Goes (Some s) None R = ⊥
Goes (Some s) (Some t) R = R s t

-- After s comes t by a call of the wire, perhaps after entries of the server.
pub record Called (did : WireEntry) (places_then : WireAdds) (s t : Stream) : Type 0 where
  pub quiet : List Step
  pub unseen : ours (entries_in quiet) ≡ []
  pub is : t ≡ places places_then (shows did (quietly quiet s))

-- what a call of a line did, from what the wire's call did and what was then placed
abbrev pub Did : Option WireEntry → WireAdds → Stream → Stream → Type 0
Did None a s t = t ≡ s
Did (Some did) a s t = Called did a s t

-- what a note did: the mark was added, and nothing of the server's
abbrev pub Marked : {T E : Type 0} → Mark → Result T E → Stream → Stream → Type 0
Marked mark (Ok x) s t = t ≡ shows (Noted mark) s
Marked mark (Err e) s t = t ≡ s

-- after a write: the record if its last bytes were taken, and the part of it if the wire failed
abbrev pub if_wrote : ℕ → List ℕ → Result ℕ LinkFault → WireAdds
if_wrote len part (Ok n) = if n == len then added.Whole else added.Nothing
if_wrote len part (Err faults.Failed) = added.Part part
if_wrote len part (Err faults.Memory) = added.Nothing

abbrev pub if_dialed : {T : Type 0} → Result T LinkFault → WireAdds
if_dialed (Ok x) = added.Nothing
if_dialed (Err faults.Failed) = added.Failed
if_dialed (Err faults.Memory) = added.Nothing

abbrev pub if_missed : WireRead → WireAdds
if_missed (reads.Got n) = added.Nothing
if_missed reads.Silent = added.Failed
if_missed reads.Failed = added.Failed
if_missed reads.Memory = added.Nothing

abbrev pub told_of : Option Stream → Option History
told_of None = None
told_of (Some s) = Some s.history

-- the history is empty, and begins with the server as the wire tells it
abbrev pub IsBegun : Option WireTold → Option Stream → Type 0
IsBegun None now = now ≡ None
IsBegun (Some t) now = now ≡ Some (begun (after_calls t.start t.calls) [])
