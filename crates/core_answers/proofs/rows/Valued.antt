-- What operations on the file of a slot answer where they go well: nothing, and a read at most as many bytes as it was asked for.
use Rattle.core_answers.proofs.Prelude.{◌≡◌, ◌≤◌, ◌-◌, ◌+◌, ℕ, zero, suc, max, Bool, true, false, List, [], ◌∷◌, ◌++◌, length, Option, Some, None, Result, Ok, Err, inl, inr, refl, sym, ap, subst, ◌∙◌, arith, if◌then◌else◌, Attr, Mode, Opened, Pages, Pending, of_file, last_end, Answer, Fault, Value, Call, Reply, goes_again, fails_busy, left, is_first, Step, Repeat, Shelf, Turn, CloseFile, Closing, Removal, ReadFile, Phase, Reading, Saving, SyncFile, Syncing, WriteFile, Writing, closed_answer, refusal_of, remove_of, remove_busy, place_after, Said, part, refusal, joined, got_by, by-step, ends_as}
use Rattle.std.proofs.Common.{min}
use Rattle.file_ops.specs.ReadReply.{says_busy}
use Rattle.nfs_types.specs.declared.mode.Mode.TheVariants as modes
use Rattle.xdr_codec.specs.declared.blob.Memory as memory
use Rattle.write_back.proofs.EndAndBytes.{shown-length}
use Rattle.world_model.specs.declared.answer.Answer.TheVariants as answers
use Rattle.world_model.specs.declared.answer.Fault.TheVariants as faults
use Rattle.world_model.specs.declared.answer.Value.TheVariants as values
use Rattle.client_shelf.specs.declared.step.Step.TheVariants as nexts
use Rattle.file_ops.specs.declared.close_file.Closing.TheVariants as closing
use Rattle.file_ops.specs.declared.reading.Phase.TheVariants as phases
use Rattle.file_ops.specs.declared.sync_file.Syncing.TheVariants as syncing
use Rattle.file_ops.specs.declared.write_file.Writing.TheVariants as writing
use Rattle.file_ops.specs.Closes as closes
use Rattle.file_ops.specs.Overlaid.{listed, byte_shown, size_shown, size_to, bytes_from}
use Rattle.file_ops.specs.ReadFile as reads
use Rattle.file_ops.specs.Reading as reading
use Rattle.file_ops.specs.Saves as saves
use Rattle.file_ops.specs.Syncs as syncs
use Rattle.file_ops.specs.WriteFile as writes

-- V holds of the value that the step ends with
abbrev pub OfAnswer : (Value → Type 0) → Answer → Type 0
OfAnswer V (answers.Done value) = V value
OfAnswer V (answers.Refused fault) = Unit {0}

abbrev pub Gives : (Value → Type 0) → Step → Type 0
Gives V (nexts.Send call) = Unit {0}
Gives V nexts.Wait = Unit {0}
Gives V (nexts.Done answer) = OfAnswer V answer

gives-as : (V : Value → Type 0) (to next : Step) → next ≡ to → Gives V to → Gives V next
gives-as V to next is g = subst (Gives V) (sym is) g

-- no value
abbrev pub IsNothing : Value → Type 0
IsNothing value = value ≡ values.Nothing

-- ---- writes and fills

leads-value : (to : Step) (state : Writing) (shelf : Shelf) (next : Step) (new : Writing) (after : Shelf) → writes.Leads to state shelf next new after → Gives IsNothing to → Gives IsNothing next
leads-value to state shelf next new after l g = gives-as IsNothing to next l.gives_next g

room-value : (told : _) → Gives IsNothing (writes.room_next told)
room-value told = by-step (λ g. Gives IsNothing (writes.room_next g)) (λ call. tt) tt ended told
  where
    ended : (result : Result (Unit {0}) Fault) → Gives IsNothing (writes.room_next (ends_as result))
    ended (Ok nothing) = tt
    ended (Err fault) = tt

saves-value : (b : Bool) (wsize lane : ℕ) (file : List ℕ) (saving : Saving) (turn : Turn) (shelf : Shelf) (next : Step) (new : Writing) (after : Shelf)
    → writes.SavesIf b wsize lane file saving turn shelf next new after → Gives IsNothing next
saves-value true wsize lane file saving turn shelf next new after s = leads-value (writes.room_next s.told) _ _ next new after s.leads (room-value s.told)
saves-value false wsize lane file saving turn shelf next new after s = leads-value nexts.Wait (writing.Room file saving) shelf next new after s tt

refuses-value : (fault : Fault) (shelf : Shelf) (next : Step) (new : Writing) (after : Shelf) → writes.Refuses fault shelf next new after → Gives IsNothing next
refuses-value fault shelf next new after r = leads-value (nexts.Done (answers.Refused fault)) writing.Idle shelf next new after r tt

writes-value : (b : Bool) (wsize lane : ℕ) (file : List ℕ) (offset : ℕ) (bytes : List ℕ) (turn : Turn) (shelf : Shelf) (next : Step) (new : Writing) (after : Shelf)
    → writes.WritesIf b wsize lane file offset bytes turn shelf next new after → Gives IsNothing next
writes-value true wsize lane file offset bytes turn shelf next new after (inl s) =
    saves-value (is_first lane (joined lane s.of shelf).order) wsize lane file (saves.begun s.of shelf.seq) turn (joined lane s.of shelf) next new after s.saves
writes-value true wsize lane file offset bytes turn shelf next new after (inr s) = refuses-value faults.Memory shelf next new after s.1
writes-value false wsize lane file offset bytes turn shelf next new after (inl s) = leads-value (nexts.Done (answers.Done values.Nothing)) writing.Idle _ next new after s.leads refl
writes-value false wsize lane file offset bytes turn shelf next new after (inr s) = refuses-value faults.Memory shelf next new after s

pub write-starts : (found : Result (List ℕ) Fault) (wsize : ℕ) (m : WriteFile) (turn : Turn) (shelf : Shelf) (next : Step) (new : WriteFile) (after : Shelf)
    → writes.StartsAt found wsize m turn shelf next new after → Gives IsNothing next
write-starts (Err fault) wsize m turn shelf next new after s = refuses-value fault shelf next new.state after s.refuses
write-starts (Ok file) wsize m turn shelf next new after (inl s) = writes-value _ wsize m.lane file m.offset _ turn shelf next new.state after s.writes
write-starts (Ok file) wsize m turn shelf next new after (inr s) = refuses-value faults.Memory shelf next new.state after s.refuses

pub write-resumes : (at : Writing) (wsize lane : ℕ) (turn : Turn) (shelf : Shelf) (next : Step) (new : Writing) (after : Shelf) → writes.ResumesIn at wsize lane turn shelf next new after
    → Gives IsNothing next
write-resumes writing.Idle wsize lane turn shelf next new after r = leads-value nexts.Wait writing.Idle shelf next new after r tt
write-resumes (writing.Room file saving) wsize lane turn shelf next new after r = saves-value (is_first lane shelf.order) wsize lane file saving turn shelf next new after r

follows-value : (told : _) (wsize : ℕ) (m : WriteFile) (file : List ℕ) (saved : Saving) (turn : Turn) (shelf : Shelf) (next : Step) (new : Writing) (after : Shelf)
    → writes.Follows told wsize m file saved turn shelf next new after → Gives IsNothing next
follows-value told wsize m file saved turn shelf next new after f = by-step (λ g. writes.Follows g wsize m file saved turn shelf next new after → Gives IsNothing next)
    (λ call l. leads-value (nexts.Send call) _ _ next new after l tt) (λ l. leads-value nexts.Wait _ _ next new after l tt) ended told f
  where
    ended : (result : Result (Unit {0}) Fault) → writes.Follows (ends_as result) wsize m file saved turn shelf next new after → Gives IsNothing next
    ended (Ok nothing) l = writes-value _ wsize m.lane file m.offset (writes.made_bytes m.text) turn (record shelf { order = left m.lane shelf.order }) next new after l
    ended (Err fault) l = leads-value (nexts.Done (answers.Refused fault)) _ _ next new after l tt

pub write-takes : (at : Writing) (wsize : ℕ) (m : WriteFile) (sent turn : Turn) (came : Result Reply Fault) (shelf : Shelf) (next : Step) (new : Writing) (after : Shelf)
    → writes.TakesIn at wsize m sent turn came shelf next new after → Gives IsNothing next
write-takes writing.Idle wsize m sent turn came shelf next new after t = leads-value nexts.Wait writing.Idle shelf next new after t tt
write-takes (writing.Room file saving) wsize m sent turn came shelf next new after t = follows-value t.told wsize m file t.saved turn _ next new after t.follows

-- ---- syncs

answer-value : (result : Result (Unit {0}) Fault) → OfAnswer IsNothing (syncs.answer_of result)
answer-value (Ok done) = refl
answer-value (Err fault) = tt

sync-value : (gives : _) → Gives IsNothing (syncs.sync_next gives)
sync-value gives = by-step (λ g. Gives IsNothing (syncs.sync_next g)) (λ call. tt) tt (λ result. answer-value result) gives

queues-value : (b : Bool) (wsize lane : ℕ) (turn : Turn) (saving : Saving) (old : Shelf) (next : Step) (state : Syncing) (new : Shelf) → syncs.QueuesIf b wsize lane turn saving old next state new
    → Gives IsNothing next
queues-value true wsize lane turn saving old next state new q = gives-as IsNothing (syncs.sync_next q.gives) next q.follows.next_is (sync-value q.gives)
queues-value false wsize lane turn saving old next state new q = gives-as IsNothing nexts.Wait next q.next_is tt

pub sync-starts : (found : Option (List ℕ)) (wsize : ℕ) (m : SyncFile) (turn : Turn) (old : Shelf) (next : Step) (state : Syncing) (new : Shelf) → syncs.StartsAt found wsize m turn old next state new
    → Gives IsNothing next
sync-starts None wsize m turn old next state new s = gives-as IsNothing (nexts.Done (answers.Refused faults.Slot)) next s.next_is tt
sync-starts (Some file) wsize m turn old next state new s =
    queues-value (is_first m.lane (joined m.lane file old).order) wsize m.lane turn (saves.begun file old.seq) (joined m.lane file old) next state new s

pub sync-resumes : (at : Syncing) (wsize : ℕ) (m : SyncFile) (turn : Turn) (old : Shelf) (next : Step) (state : Syncing) (new : Shelf) → syncs.Resumes at wsize m turn old next state new
    → Gives IsNothing next
sync-resumes syncing.Idle wsize m turn old next state new r = gives-as IsNothing nexts.Wait next r.next_is tt
sync-resumes (syncing.Saves saving) wsize m turn old next state new r = queues-value (is_first m.lane old.order) wsize m.lane turn saving old next state new r

pub sync-takes : (at : Syncing) (wsize : ℕ) (m : SyncFile) (sent turn : Turn) (came : Result Reply Fault) (old : Shelf) (next : Step) (state : Syncing) (new : Shelf)
    → syncs.Takes at wsize m sent turn came old next state new → Gives IsNothing next
sync-takes syncing.Idle wsize m sent turn came old next state new t = gives-as IsNothing nexts.Wait next t.next_is tt
sync-takes (syncing.Saves saving) wsize m sent turn came old next state new t = gives-as IsNothing (syncs.sync_next t.gives) next t.follows.next_is (sync-value t.gives)

-- ---- closes

closed-value : (why : Option Fault) → OfAnswer IsNothing (closed_answer why)
closed-value None = refl
closed-value (Some fault) = tt

ends-value : (lane : ℕ) (file : List ℕ) (why : Option Fault) (old : Shelf) (next : Step) (state : Closing) (new : Shelf) → closes.Ends lane file why old next state new → Gives IsNothing next
ends-value lane file why old next state new e = gives-as IsNothing (nexts.Done (closed_answer why)) next e.next_is (closed-value why)

asks-value : (room : Bool) (removal : Removal) (old : Shelf) (next : Step) (state : Closing) (new : Shelf) → closes.Asks room removal old next state new → Gives IsNothing next
asks-value true removal old next state new a = gives-as IsNothing (nexts.Send (remove_of removal)) next a.next_is tt
asks-value false removal old next state new a = gives-as IsNothing nexts.Wait next a.next_is tt

ends-at-value : (place : Option (List ℕ × List ℕ)) (lane : ℕ) (room : Bool) (file : List ℕ) (why : Option Fault) (old : Shelf) (next : Step) (state : Closing) (new : Shelf)
    → closes.EndsAt place lane room file why old next state new → Gives IsNothing next
ends-at-value None lane room file why old next state new e = ends-value lane file why old next state new e
ends-at-value (Some place) lane room file why old next state new e = asks-value room (record { file = file; dir = place.0; name = place.1; refusal = why }) old next state new e

frees-value : (lane slot : ℕ) (room : Bool) (file : List ℕ) (why : Option Fault) (old : Shelf) (next : Step) (state : Closing) (new : Shelf)
    → closes.Frees lane slot room file why old next state new → Gives IsNothing next
frees-value lane slot room file why old next state new f = ends-at-value f.place lane room file why f.freed next state new f.ends

close-follows : (gives : _) (lane slot : ℕ) (room begun : Bool) (saving : Saving) (old : Shelf) (next : Step) (state : Closing) (new : Shelf)
    → closes.Follows gives lane slot room begun saving old next state new → Gives IsNothing next
close-follows gives lane slot room begun saving old next state new f = by-step (λ g. closes.Follows g lane slot room begun saving old next state new → Gives IsNothing next)
    (λ call l. gives-as IsNothing (nexts.Send call) next l.0 tt) (λ l. gives-as IsNothing nexts.Wait next l.0 tt)
    (λ result l. frees-value lane slot room saving.file (refusal_of result) old next state new l) gives f

goes-on-value : (wsize lane slot : ℕ) (turn : Turn) (begun : Bool) (saving : Saving) (old : Shelf) (next : Step) (state : Closing) (new : Shelf)
    → closes.GoesOn wsize lane slot turn begun saving old next state new → Gives IsNothing next
goes-on-value wsize lane slot turn begun saving old next state new g = close-follows g.gives lane slot turn.room begun g.saved g.gone next state new g.follows

waits-value : (at : Closing) (old : Shelf) (next : Step) (state : Closing) (new : Shelf) → closes.Waits at old next state new → Gives IsNothing next
waits-value at old next state new w = gives-as IsNothing nexts.Wait next w.next_is tt

begins-value : (end : Option ℕ) (wsize lane slot : ℕ) (turn : Turn) (saving : Saving) (old : Shelf) (next : Step) (state : Closing) (new : Shelf)
    → closes.Begins end wsize lane slot turn saving old next state new → Gives IsNothing next
begins-value None wsize lane slot turn saving old next state new b = frees-value lane slot turn.room saving.file None old next state new b
begins-value (Some end) wsize lane slot turn saving old next state new b = goes-on-value wsize lane slot turn false saving old next state new b

close-queues : (b : Bool) (wsize lane slot : ℕ) (turn : Turn) (saving : Saving) (old : Shelf) (next : Step) (state : Closing) (new : Shelf)
    → closes.QueuesIf b wsize lane slot turn saving old next state new → Gives IsNothing next
close-queues true wsize lane slot turn saving old next state new q = begins-value (last_end (of_file saving.file old.back).segments) wsize lane slot turn saving old next state new q
close-queues false wsize lane slot turn saving old next state new q = waits-value (closing.Queued saving) old next state new q

pub close-starts : (found : Option (List ℕ)) (wsize : ℕ) (m : CloseFile) (turn : Turn) (old : Shelf) (next : Step) (state : Closing) (new : Shelf)
    → closes.StartsAt found wsize m turn old next state new → Gives IsNothing next
close-starts None wsize m turn old next state new s = gives-as IsNothing (nexts.Done (answers.Refused faults.Slot)) next s.next_is tt
close-starts (Some file) wsize m turn old next state new s =
    close-queues (is_first m.lane (joined m.lane file old).order) wsize m.lane m.slot turn (saves.begun file old.seq) (joined m.lane file old) next state new s

goes-on-if : (b : Bool) (wsize lane slot : ℕ) (turn : Turn) (saving : Saving) (old : Shelf) (next : Step) (state : Closing) (new : Shelf)
    → closes.GoesOnIf b wsize lane slot turn saving old next state new → Gives IsNothing next
goes-on-if true wsize lane slot turn saving old next state new g = goes-on-value wsize lane slot turn true saving old next state new g
goes-on-if false wsize lane slot turn saving old next state new g = waits-value (closing.Saves saving) old next state new g

pub close-resumes : (at : Closing) (wsize : ℕ) (m : CloseFile) (turn : Turn) (old : Shelf) (next : Step) (state : Closing) (new : Shelf) → closes.Resumes at wsize m turn old next state new
    → Gives IsNothing next
close-resumes closing.Idle wsize m turn old next state new r = waits-value closing.Idle old next state new r
close-resumes (closing.Queued saving) wsize m turn old next state new r = close-queues (is_first m.lane old.order) wsize m.lane m.slot turn saving old next state new r
close-resumes (closing.Saves saving) wsize m turn old next state new r = goes-on-if (is_first m.lane old.order) wsize m.lane m.slot turn saving old next state new r
close-resumes (closing.ToRemove removal) wsize m turn old next state new r = asks-value turn.room removal old next state new r
close-resumes (closing.Removing removal) wsize m turn old next state new r = waits-value (closing.Removing removal) old next state new r

ends-if : (again : Bool) (lane : ℕ) (removal : Removal) (old : Shelf) (next : Step) (state : Closing) (new : Shelf) → closes.EndsIf again lane removal old next state new → Gives IsNothing next
ends-if true lane removal old next state new e = gives-as IsNothing (nexts.Send (remove_of removal)) next e.next_is tt
ends-if false lane removal old next state new e = ends-value lane removal.file removal.refusal old next state new e

pub close-takes : (at : Closing) (wsize : ℕ) (m : CloseFile) (sent turn : Turn) (came : Result Reply Fault) (old : Shelf) (next : Step) (state : Closing) (new : Shelf)
    → closes.Takes at wsize m sent turn came old next state new → Gives IsNothing next
close-takes closing.Idle wsize m sent turn came old next state new t = waits-value closing.Idle old next state new t
close-takes (closing.Queued saving) wsize m sent turn came old next state new t = waits-value (closing.Queued saving) old next state new t
close-takes (closing.Saves saving) wsize m sent turn came old next state new t = close-follows t.gives m.lane m.slot turn.room true t.saved t.took next state new t.follows
close-takes (closing.ToRemove removal) wsize m sent turn came old next state new t = waits-value (closing.ToRemove removal) old next state new t
close-takes (closing.Removing removal) wsize m sent turn came old next state new t =
    ends-if (goes_again (remove_busy came) sent turn old.repeats) m.lane removal t.took next state new t.ends

-- ---- reads

-- at most so many bytes
pub record HasBytes (count : ℕ) (value : Value) : Type 0 where
  pub bytes : List ℕ
  pub most : length bytes ≤ count
  pub is : value ≡ values.Bytes bytes

length-append : (xs ys : List ℕ) → length (xs ++ ys) ≡ length xs + length ys
length-append [] ys = omega arith
length-append (x ∷ xs) ys = let rest = length-append xs ys in omega (arith, rest)

length-listed : (f : ℕ → ℕ) (n : ℕ) → length (listed f n) ≡ n
length-listed f zero = refl
length-listed f (suc n) = let rest = length-listed f n in let both = length-append (listed f n) (f n ∷ []) in omega (arith, rest, both)

min-most : (a b : ℕ) → min a b ≤ a
min-most a b = omega arith

at-most : (a b c d : ℕ) → a ≡ b → b ≤ c → c ≤ d → a ≤ d
at-most a b c d same low high = omega (arith, same, low, high)

answer-most : (count : ℕ) (r : Reading) (back : Pending) → r.space ≤ count → length (reading.answer_of r back) ≤ count
answer-most count r back low =
    let base : List ℕ = bytes_from r.offset r.base in
    let end : Option ℕ = last_end (of_file r.file back).segments in
    let size : ℕ = size_shown r.offset r.space base r.was.end end in
    let all : length (reading.answer_of r back) ≡ length (listed (byte_shown base r.was) size) = shown-length (of_file r.file back).segments r.offset (listed (byte_shown base r.was) size) in
    let each : length (listed (byte_shown base r.was) size) ≡ size = length-listed (byte_shown base r.was) size in
    let least : size ≤ r.space = min-most r.space (max (max (size_to r.offset r.was.end) (size_to r.offset end)) (length base)) in
    at-most (length (reading.answer_of r back)) size r.space count (all ∙ each) least low

-- a read that has begun has no more space than it was given
abbrev pub HasSpace : ℕ → Option Reading → Type 0
HasSpace count None = Unit {0}
HasSpace count (Some r) = r.space ≤ count

settled-in : (p : Phase) (r : Reading) (pages : Pages) → (reading.settled_in p r pages).reading.space ≡ r.space
settled-in phases.Attrs r pages = refl
settled-in phases.AskedAttrs r pages = refl
settled-in phases.Pages r pages = refl
settled-in phases.Rest r pages = refl
settled-in (phases.Asked count) r pages = refl
settled-in phases.Ended r pages = refl

answered-space : (p : Phase) (r : Reading) → (reading.answered p r).space ≤ r.space
answered-space phases.Attrs r = omega arith
answered-space phases.AskedAttrs r = omega arith
answered-space phases.Pages r = omega arith
answered-space phases.Rest r = omega arith
answered-space (phases.Asked count) r = omega arith
answered-space phases.Ended r = omega arith

asked-space : (b : Bool) (s : reading.State)
    → (if b then record { reading = record s.reading { phase = phases.AskedAttrs }; pages = s.pages } else reading.asked_part s).reading.space ≡ s.reading.space
asked-space true s = refl
asked-space false s = refl

gone-if : (b : Bool) (s : reading.State) → (if b then reading.asked s else record { reading = reading.answered s.reading.phase s.reading; pages = s.pages }).reading.space ≤ s.reading.space
gone-if true s = let same = asked-space (reading.asks_attrs s.reading.phase) s in omega (arith, same)
gone-if false s = answered-space s.reading.phase s.reading

gone-space : (room : Bool) (s : reading.State) → (reading.gone room s).reading.space ≤ s.reading.space
gone-space room s = gone-if (reading.asks room s) s

module _ (count : ℕ) where
  stays-value : (p : Phase) (r : Reading) (back : Pending) (next : Step) → r.space ≤ count → reading.Stays p r back next → Gives (HasBytes count) next
  stays-value phases.Attrs r back next low s = gives-as (HasBytes count) nexts.Wait next s tt
  stays-value phases.AskedAttrs r back next low s = gives-as (HasBytes count) nexts.Wait next s tt
  stays-value phases.Pages r back next low s = gives-as (HasBytes count) nexts.Wait next s tt
  stays-value phases.Rest r back next low s = gives-as (HasBytes count) nexts.Wait next s tt
  stays-value (phases.Asked n) r back next low s = gives-as (HasBytes count) nexts.Wait next s tt
  stays-value phases.Ended r back next low s =
      gives-as (HasBytes count) (reading.shown_next (reading.answer_of r back)) next s (record { bytes = reading.answer_of r back; most = answer-most count r back low; is = refl })

  goes-if : (b : Bool) (back : Pending) (s : reading.State) (next : Step) → s.reading.space ≤ count → reading.GoesIf b back s next → Gives (HasBytes count) next
  goes-if true back s next low g = gives-as (HasBytes count) (nexts.Send (reading.asked_call s)) next g tt
  goes-if false back s next low g = stays-value s.reading.phase s.reading back next low g

  goes-value : (room : Bool) (back : Pending) (s : reading.State) (next : Step) → s.reading.space ≤ count → reading.Goes room back s next → Gives (HasBytes count) next
  goes-value room back s next low g = goes-if (reading.asks room s) back s next low g

  -- what a step gives, and the space after it
  pub record ReadGives (next : Step) (new : Option Reading) : Type 0 where
    pub gives : Gives (HasBytes count) next
    pub space : HasSpace count new

  settled-low : (r : Reading) (pages : Pages) → r.space ≤ count → (reading.settled r pages).reading.space ≤ count
  settled-low r pages low = let same = settled-in r.phase r pages in omega (arith, same, low)

  gone-low : (room : Bool) (s : reading.State) → s.reading.space ≤ count → (reading.gone room s).reading.space ≤ count
  gone-low room s low = let less = gone-space room s in omega (arith, less, low)

  -- the read after the step
  abbrev Same : ReadFile → ReadFile → Type 0
  Same m new = new.count ≡ m.count

  pub record ReadStep (m : ReadFile) (next : Step) (new : ReadFile) : Type 0 where
    pub gives : Gives (HasBytes count) next
    pub space : HasSpace count new.reading
    pub same : new.count ≡ m.count

  from-goes : (room : Bool) (m : ReadFile) (back : Pending) (s : reading.State) (next : Step) (new : ReadFile) (later : Pages) → s.reading.space ≤ count
      → reads.GoesFrom room m back s next new later → ReadStep m next new
  from-goes room m back s next new later low g = record {
    gives = goes-value room back s next low g.step;
    space = subst (λ (k : ReadFile). HasSpace count k.reading) (sym g.machine) (gone-low room s low);
    same = ap (λ (k : ReadFile). k.count) g.machine;
  }

  stays-so : (m : ReadFile) (pages : Pages) (next to : Step) (new : ReadFile) (later : Pages) → HasSpace count m.reading → Gives (HasBytes count) to → reads.StaysSo m pages next to new later
      → ReadStep m next new
  stays-so m pages next to new later low g s = record {
    gives = gives-as (HasBytes count) to next s.step g;
    space = subst (λ (k : ReadFile). HasSpace count k.reading) (sym s.machine) low;
    same = ap (λ (k : ReadFile). k.count) s.machine;
  }

  -- as it begins
  abbrev TriedLow : Result Reading Fault → Type 0
  TriedLow (Ok r) = r.space ≤ count
  TriedLow (Err fault) = Unit {0}

  begun-in : (mode : Mode) (moment : ℕ) (m : ReadFile) (file : List ℕ) (back : Pending) → m.count ≡ count → TriedLow (reads.begun_in mode moment m file back)
  begun-in modes.W moment m file back is = tt
  begun-in modes.R moment m file back is = omega (arith, is)
  begun-in modes.RW moment m file back is = omega (arith, is)
  begun-in modes.C moment m file back is = omega (arith, is)
  begun-in modes.X moment m file back is = omega (arith, is)

  begun-at : (opened : Option Opened) (moment : ℕ) (m : ReadFile) (back : Pending) → m.count ≡ count → TriedLow (reads.begun_at opened moment m back)
  begun-at None moment m back is = tt
  begun-at (Some o) moment m back is = begun-in o.mode moment m o.file back is

  begins-low : (tried result : Result Reading Fault) → TriedLow tried → reads.Begins tried result → TriedLow result
  begins-low (Err fault) result low b = subst TriedLow (sym b) tt
  begins-low (Ok r) result low (inl b) = subst TriedLow (sym b) low
  begins-low (Ok r) result low (inr b) = subst TriedLow (sym b) tt

  starts-with : (begun : Result Reading Fault) (room : Bool) (m : ReadFile) (pages : Pages) (back : Pending) (next : Step) (new : ReadFile) (later : Pages) → TriedLow begun
      → HasSpace count m.reading → reads.StartsWith begun room m pages back next new later → ReadStep m next new
  starts-with (Err fault) room m pages back next new later low space s = stays-so m pages next (reading.refused fault) new later space tt s
  starts-with (Ok r) room m pages back next new later low space s = from-goes room m back (reading.settled r pages) next new later (settled-low r pages low) s

  pub read-starts : (opened : Option Opened) (turn : Turn) (m : ReadFile) (pages : Pages) (back : Pending) (next : Step) (new : ReadFile) (later : Pages) → m.count ≡ count
      → HasSpace count m.reading → reads.Starts opened turn m pages back next new later → ReadStep m next new
  read-starts opened turn m pages back next new later is space s =
      starts-with s.reading turn.room m pages back next new later
      (begins-low (reads.begun_at opened (turn.moment - 1) m back) s.reading (begun-at opened (turn.moment - 1) m back is) s.begins) space s.goes

  pub read-resumes : (of : Option Reading) (room : Bool) (m : ReadFile) (pages : Pages) (back : Pending) (next : Step) (new : ReadFile) (later : Pages) → m.reading ≡ of → HasSpace count of
      → reads.ResumesIn of room m pages back next new later → ReadStep m next new
  read-resumes None room m pages back next new later is space s = stays-so m pages next nexts.Wait new later (subst (HasSpace count) (sym is) space) tt s
  read-resumes (Some r) room m pages back next new later is space s = from-goes room m back (reading.settled r pages) next new later (settled-low r pages space) s

  -- ---- a reply

  -- what it comes to, and the space of the read after it
  abbrev StateLow : reading.State → Type 0
  StateLow s = s.reading.space ≤ count

  again-value : (again : Bool) (call : Call) (fault : Fault) (next : Step) → next ≡ reading.again_next again call fault → Gives (HasBytes count) next
  again-value true call fault next is = gives-as (HasBytes count) (nexts.Send call) next is tt
  again-value false call fault next is = gives-as (HasBytes count) (reading.refused fault) next is tt

  opened-value : (result : Result (Unit {0}) memory.Memory) (turn : Turn) (r : Reading) (pages : Pages) (back : Pending) (next : Step) (new : reading.State) → r.space ≤ count
      → reading.AfterOpened result turn r pages back next new → Gives (HasBytes count) next × StateLow new
  opened-value (Ok done) turn r pages back next new low a =
      let on : Reading = record r { phase = phases.Pages } in (
        goes-value turn.room back (reading.settled on pages) next (settled-low on pages low) a.0,
        subst StateLow (sym a.1) (gone-low turn.room (reading.settled on pages) (settled-low on pages low)),
      )
  opened-value (Err no_memory) turn r pages back next new low a =
      (gives-as (HasBytes count) (reading.refused faults.Memory) next a.0 tt, subst StateLow (sym a.1) low)

  attrs-value : (told : Result Attr Fault) (again : Bool) (sent turn : Turn) (r : Reading) (pages : Pages) (back : Pending) (next : Step) (new : reading.State) → r.space ≤ count
      → reading.TakesAttrs again told sent turn r pages back next new → Gives (HasBytes count) next × StateLow new
  attrs-value (Ok attr) again sent turn r pages back next new low t = opened-value t.result turn r t.later back next new low t.goes
  attrs-value (Err fault) again sent turn r pages back next new low t = (again-value again (reading.attrs_call r.file) fault next t.0, subst StateLow (sym t.1) low)

  part-low : (n moment : ℕ) (attr : Option Attr) (eof : Bool) (bytes : List ℕ) (r : Reading) (pages : Pages) → r.space ≤ count → StateLow (reading.after_part n moment attr eof bytes r pages)
  part-low n moment attr eof bytes r pages low =
      let same = settled-in (reading.added n eof bytes r).phase (reading.added n eof bytes r) (reading.noted attr r.file moment (place_after r.base) bytes eof pages) in
      omega (arith, same, low)

  tells-value : (said : Said) (again : Bool) (sent turn : Turn) (r : Reading) (pages : Pages) (back : Pending) (next : Step) → r.space ≤ count
      → reading.Tells again sent turn said r pages back next → Gives (HasBytes count) next × StateLow (reading.told sent turn said r pages)
  tells-value (part attr eof bytes) again sent turn r pages back next low t =
      let after = reading.after_part (reading.count_of r.phase) sent.moment attr eof bytes r pages in
      let less = part-low (reading.count_of r.phase) sent.moment attr eof bytes r pages low in
      (goes-value turn.room back after next less t, gone-low turn.room after less)
  tells-value (refusal attr fault) again sent turn r pages back next low t = (again-value again (reading.part_call r) fault next t, low)

  heard-value : (said : Option Said) (sent turn : Turn) (repeats : List Repeat) (r : Reading) (pages : Pages) (back : Pending) (next : Step) (new : reading.State) → r.space ≤ count
      → reading.TakesPart said sent turn repeats r pages back next new → Gives (HasBytes count) next × StateLow new
  heard-value None sent turn repeats r pages back next new low t = (gives-as (HasBytes count) nexts.Wait next t.0 tt, subst StateLow (sym t.1) low)
  heard-value (Some said) sent turn repeats r pages back next new low t =
      let v = tells-value said (goes_again (says_busy said) sent turn repeats) sent turn r pages back next low t.0 in (v.0, subst StateLow (sym t.1) v.1)

  reply-value : (b : Bool) (sent turn : Turn) (came : Result Reply Fault) (repeats : List Repeat) (r : Reading) (pages : Pages) (back : Pending) (next : Step) (new : reading.State) → r.space ≤ count
      → reading.TakesIf b sent turn came repeats r pages back next new → Gives (HasBytes count) next × StateLow new
  reply-value true sent turn came repeats r pages back next new low t =
      attrs-value (got_by came) (goes_again (fails_busy (got_by came)) sent turn repeats) sent turn r pages back next new low t
  reply-value false sent turn came repeats r pages back next new low t = heard-value (reading.heard r.phase came) sent turn repeats r pages back next new low t

  pub read-takes : (of : Option Reading) (sent turn : Turn) (came : Result Reply Fault) (repeats : List Repeat) (m : ReadFile) (pages : Pages) (back : Pending) (next : Step) (new : ReadFile)
      (later : Pages) → m.reading ≡ of → HasSpace count of → reads.TakesIn of sent turn came repeats m pages back next new later → ReadStep m next new
  read-takes None sent turn came repeats m pages back next new later is space s = stays-so m pages next nexts.Wait new later (subst (HasSpace count) (sym is) space) tt s
  read-takes (Some r) sent turn came repeats m pages back next new later is space t =
      let v = reply-value (reading.waits_attrs r.phase) sent turn came repeats r pages back next t.state space t.step in
      record {
        gives = v.0;
        space = subst (λ (k : ReadFile). HasSpace count k.reading) (sym t.machine) v.1;
        same = ap (λ (k : ReadFile). k.count) t.machine;
      }
