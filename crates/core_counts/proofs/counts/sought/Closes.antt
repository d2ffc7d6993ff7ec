-- What a step of a close leaves of the number of the next hidden name: it stays.
use Rattle.core_counts.proofs.Prelude.{◌≡◌, ℕ, Bool, true, false, List, Option, Some, None, Result, ap, ◌∙◌, Fault, Reply, of_file, last_end, Step, Shelf, Turn, is_first, goes_again, CloseFile, Closing, Saving, remove_busy, refusal_of, file_at, joined, by-step}
use Rattle.file_ops.specs.declared.close_file.Closing.TheVariants as closing
use Rattle.file_ops.specs.Closes as closes
use Rattle.file_ops.specs.Saves as saves

ends-at : (place : Option (List ℕ × List ℕ)) (lane : ℕ) (room : Bool) (file : List ℕ) (refusal : Option Fault) (old : Shelf) (next : Step) (state : Closing) (new : Shelf)
    → closes.EndsAt place lane room file refusal old next state new → new.counter ≡ old.counter
ends-at None lane room file refusal old next state new e = ap (λ (k : Shelf). k.counter) e.others
ends-at (Some place) lane room file refusal old next state new e = ap (λ (k : Shelf). k.counter) e.shelf_is

frees : (lane slot : ℕ) (room : Bool) (file : List ℕ) (refusal : Option Fault) (old : Shelf) (next : Step) (state : Closing) (new : Shelf)
    → closes.Frees lane slot room file refusal old next state new → new.counter ≡ old.counter
frees lane slot room file refusal old next state new f = ends-at f.place lane room file refusal f.freed next state new f.ends ∙ ap (λ (k : Shelf). k.counter) f.slot_is

follows : (gives : _) (lane slot : ℕ) (room begun : Bool) (saving : Saving) (old : Shelf) (next : Step) (state : Closing) (new : Shelf)
    → closes.Follows gives lane slot room begun saving old next state new → new.counter ≡ old.counter
follows gives lane slot room begun saving old next state new f = by-step (λ g. closes.Follows g lane slot room begun saving old next state new → new.counter ≡ old.counter)
    (λ call l. ap (λ (k : Shelf). k.counter) l.2) (λ l. ap (λ (k : Shelf). k.counter) l.2)
    (λ result l. frees lane slot room saving.file (refusal_of result) old next state new l) gives f

goes-on : (wsize lane slot : ℕ) (turn : Turn) (begun : Bool) (saving : Saving) (old : Shelf) (next : Step) (state : Closing) (new : Shelf)
    → closes.GoesOn wsize lane slot turn begun saving old next state new → new.counter ≡ old.counter
goes-on wsize lane slot turn begun saving old next state new g = follows g.gives lane slot turn.room begun g.saved g.gone next state new g.follows ∙ ap (λ (k : Shelf). k.counter) g.others

queues : (b : Bool) (wsize lane slot : ℕ) (turn : Turn) (saving : Saving) (old : Shelf) (next : Step) (state : Closing) (new : Shelf)
    → closes.QueuesIf b wsize lane slot turn saving old next state new → new.counter ≡ old.counter
queues false wsize lane slot turn saving old next state new q = ap (λ (k : Shelf). k.counter) q.shelf_is
queues true wsize lane slot turn saving old next state new q = by (last_end (of_file saving.file old.back).segments) q
  where
    by : (end : Option ℕ) → closes.Begins end wsize lane slot turn saving old next state new → new.counter ≡ old.counter
    by None b = frees lane slot turn.room saving.file None old next state new b
    by (Some end) b = goes-on wsize lane slot turn false saving old next state new b

pub close-starts : (wsize : ℕ) (m : CloseFile) (turn : Turn) (old : Shelf) (next : Step) (state : Closing) (new : Shelf) → closes.Starts wsize m turn old next state new → new.counter ≡ old.counter
close-starts wsize m turn old next state new s = by (file_at m.lane m.slot old.opens) s
  where
    by : (found : Option (List ℕ)) → closes.StartsAt found wsize m turn old next state new → new.counter ≡ old.counter
    by None s = ap (λ (k : Shelf). k.counter) s.shelf_is
    by (Some file) s = queues (is_first m.lane (joined m.lane file old).order) wsize m.lane m.slot turn (saves.begun file old.seq) (joined m.lane file old) next state new s

pub close-resumes : (at : Closing) (wsize : ℕ) (m : CloseFile) (turn : Turn) (old : Shelf) (next : Step) (state : Closing) (new : Shelf) → closes.Resumes at wsize m turn old next state new
    → new.counter ≡ old.counter
close-resumes closing.Idle wsize m turn old next state new r = ap (λ (k : Shelf). k.counter) r.shelf_is
close-resumes (closing.Queued saving) wsize m turn old next state new r = queues (is_first m.lane old.order) wsize m.lane m.slot turn saving old next state new r
close-resumes (closing.Saves saving) wsize m turn old next state new r = by (is_first m.lane old.order) r
  where
    by : (b : Bool) → closes.GoesOnIf b wsize m.lane m.slot turn saving old next state new → new.counter ≡ old.counter
    by true g = goes-on wsize m.lane m.slot turn true saving old next state new g
    by false g = ap (λ (k : Shelf). k.counter) g.shelf_is
close-resumes (closing.ToRemove removal) wsize m turn old next state new r = ap (λ (k : Shelf). k.counter) r.shelf_is
close-resumes (closing.Removing removal) wsize m turn old next state new r = ap (λ (k : Shelf). k.counter) r.shelf_is

pub close-takes : (at : Closing) (wsize : ℕ) (m : CloseFile) (sent turn : Turn) (came : Result Reply Fault) (old : Shelf) (next : Step) (state : Closing) (new : Shelf)
    → closes.Takes at wsize m sent turn came old next state new → new.counter ≡ old.counter
close-takes closing.Idle wsize m sent turn came old next state new t = ap (λ (k : Shelf). k.counter) t.shelf_is
close-takes (closing.Queued saving) wsize m sent turn came old next state new t = ap (λ (k : Shelf). k.counter) t.shelf_is
close-takes (closing.Saves saving) wsize m sent turn came old next state new t = follows t.gives m.lane m.slot turn.room true t.saved t.took next state new t.follows ∙ ap (λ (k : Shelf). k.counter) t.others
close-takes (closing.ToRemove removal) wsize m sent turn came old next state new t = ap (λ (k : Shelf). k.counter) t.shelf_is
close-takes (closing.Removing removal) wsize m sent turn came old next state new t = by (goes_again (remove_busy came) sent turn old.repeats) t.ends ∙ ap (λ (k : Shelf). k.counter) t.others
  where
    by : (b : Bool) → closes.EndsIf b m.lane removal t.took next state new → new.counter ≡ t.took.counter
    by true e = ap (λ (k : Shelf). k.counter) e.shelf_is
    by false e = ap (λ (k : Shelf). k.counter) e.others
