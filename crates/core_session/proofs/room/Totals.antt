-- No step of a save makes more bytes pending than were, nor what an operation gives up or cuts.
use Rattle.core_session.proofs.Prelude.{◌≡◌, ◌≤◌, ◌+◌, ◌-◌, ◌&&◌, ◌⊎◌, inl, inr, ℕ, Bool, true, false, List, [], ◌∷◌, Option, Some, None, Result, Ok, Err, refl, sym, ap, subst, ◌∙◌, arith, Verf, Fault, Reply, lost, chosen, Pending, of_file, all_pending, Segments, last_end, Verdict, AllStable, SendAgain, verdict_of, Opens, Step, Repeat, Shelf, Turn, goes_again, is_first, CloseFile, Closing, Sending, Committing, Resending, CommittingAgain, Saving, SyncFile, Syncing, GivesUpBy, refusal_of, remove_busy, commit_told, file_at, joined, by-step}
use Rattle.file_ops.specs.declared.close_file.Closing.TheVariants as closing
use Rattle.file_ops.specs.declared.saving.Phase.{Phase}
use Rattle.file_ops.specs.declared.sync_file.Syncing.TheVariants as syncing
use Rattle.file_ops.specs.Closes as closes
use Rattle.file_ops.specs.Saves as saves
use Rattle.file_ops.specs.Syncs as syncs

-- no more bytes are pending than were
abbrev pub Less : Pending → Pending → Type 0
Less old new = all_pending new ≤ all_pending old

pub same-less : (old new : Pending) → new ≡ old → Less old new
same-less old new same = let equal = ap all_pending same in omega (arith, equal)

pub less-less : (a b c : Pending) → Less a b → Less b c → Less a c
less-less a b c first then_ = omega (arith, first, then_)

-- ---- a save that goes on

pub goes-less : (wsize xid : ℕ) (room by_reply : Bool) (s : Saving) (back : Pending) (next : _) (new : Saving) (after : Pending)
    → saves.Goes wsize xid room by_reply s back next new after → Less back after
goes-less wsize xid room by_reply s back next new after g = over s.refusal g
  where
    run : (es : Segments) → saves.SendsRun xid by_reply es s back next new after → Less back after
    run [] r = same-less back after r.1
    run (e ∷ es) r = let same = r.1.2 in omega (arith, same)

    sends : (b : Bool) (es : Segments) → saves.SendsIf b xid by_reply es s back next new after → Less back after
    sends true es (inl r) = run es r
    sends true es (inr l) = same-less back after l.1
    sends false es l = same-less back after l.1

    over : (refusal : Option Fault) → saves.GoesOver refusal wsize xid room by_reply s back next new after → Less back after
    over (Some fault) l = same-less back after l.1
    over None g = sends (saves.may_send room s) (chosen s.upto wsize (of_file s.file back)) g

-- ---- a save that takes what came of its call

module _ (wsize : ℕ) (sent turn : Turn) where
  write-less : (told : _) (s : Saving) (back : Pending) (next : _) (new : Saving) (after : Pending)
      → saves.TakesWrite wsize sent.xid turn.xid turn.room told s back next new after → Less back after
  write-less told s back next new after t =
      less-less back t.between after t.total (goes-less wsize turn.xid turn.room t.counts (saves.refused_by t.refusal s) t.between next new after t.goes)

  commit-less : (told : Result Verf Fault) (s : Saving) (back : Pending) (next : _) (new : Saving) (after : Pending)
      → saves.TakesCommit wsize turn.xid turn.room told s back next new after → Less back after
  commit-less (Err fault) s back next new after t = same-less back after t.1
  commit-less (Ok verf) s back next new after t =
      less-less back t.between after t.total (by (verdict_of (lost verf s.upto (of_file s.file back).segments)) t.goes)
    where
      by : (verdict : Verdict) → saves.Decides verdict wsize turn.xid turn.room s t.between next new after → Less t.between after
      by AllStable d = same-less t.between after d.1
      by (SendAgain count) d = goes-less wsize turn.xid turn.room false (record s { phase = Resending }) t.between next new after d

  repeats-less : (again : Bool) (told : _) (s : Saving) (back : Pending) (next : _) (new : Saving) (after : Pending)
      → saves.RepeatsWrite again wsize sent turn told s back next new after → Less back after
  repeats-less true told s back next new after r = let same = r.2 in omega (arith, same)
  repeats-less false told s back next new after r = write-less told (saves.less_waiting s) back next new after r

  told-less : (busy : Bool) (told : _) (repeats : List Repeat) (s : Saving) (back : Pending) (next : _) (new : Saving) (after : Pending) (later : List Repeat)
      → saves.TakesToldIf busy wsize sent turn told repeats s back next new after later → Less back after
  told-less true told repeats s back next new after later (inl t) = repeats-less (goes_again true sent turn repeats) told s back next new after t.0
  told-less true told repeats s back next new after later (inr t) = write-less _ (saves.less_waiting s) back next new after t.0
  told-less false told repeats s back next new after later t = write-less told (saves.less_waiting s) back next new after t.0

  first-less : (again : Bool) (told : Result Verf Fault) (s : Saving) (back : Pending) (next : _) (new : Saving) (after : Pending)
      → saves.TakesFirst again wsize turn told s back next new after → Less back after
  first-less true told s back next new after t = same-less back after t.1
  first-less false told s back next new after t = commit-less told (saves.less_waiting s) back next new after t

  phase-less : (phase : Phase) (came : Result Reply Fault) (repeats : List Repeat) (s : Saving) (back : Pending) (next : _) (new : Saving) (after : Pending) (later : List Repeat)
      → saves.TakesIn phase wsize sent turn came repeats s back next new after later → Less back after
  phase-less Sending came repeats s back next new after later t =
      told-less (saves.may_again (saves.told_busy (saves.told_of sent.xid s.file back came)) s) (saves.told_of sent.xid s.file back came) repeats s back next new after later t
  phase-less Resending came repeats s back next new after later t =
      told-less (saves.may_again (saves.told_busy (saves.told_of sent.xid s.file back came)) s) (saves.told_of sent.xid s.file back came) repeats s back next new after later t
  phase-less Committing came repeats s back next new after later t =
      first-less (saves.commit_again (commit_told came) sent turn repeats s) (commit_told came) s back next new after t.0
  phase-less CommittingAgain came repeats s back next new after later t = same-less back after t.1

  pub takes-less : (came : Result Reply Fault) (repeats : List Repeat) (s : Saving) (back : Pending) (next : _) (new : Saving) (after : Pending) (later : List Repeat)
      → saves.Takes wsize sent turn came repeats s back next new after later → Less back after
  takes-less came repeats s back next new after later t = phase-less s.phase came repeats s back next new after later t

-- ---- what is given up

pub given-less : (refusal : Option Fault) (file : List ℕ) (opens : Opens) (old new : Pending) → GivesUpBy refusal file opens old new → Less old new
given-less None file opens old new g = same-less old new g
given-less (Some fault) file opens old new g = g.total

-- ---- syncs

module _ (wsize : ℕ) (turn : Turn) where
  sync-queues : (b : Bool) (lane : ℕ) (saving : Saving) (old : Shelf) (next : Step) (state : Syncing) (new : Shelf)
      → syncs.QueuesIf b wsize lane turn saving old next state new → Less old.back new.back
  sync-queues true lane saving old next state new q = goes-less wsize turn.xid turn.room false saving old.back q.gives q.saved new.back q.goes
  sync-queues false lane saving old next state new q = same-less old.back new.back (ap (λ (s : Shelf). s.back) q.shelf_is)

  pub sync-starts : (machine : SyncFile) (old : Shelf) (next : Step) (state : Syncing) (new : Shelf) → syncs.Starts wsize machine turn old next state new
      → Less old.back new.back
  sync-starts machine old next state new s = at (file_at machine.lane machine.slot old.opens) s
    where
      at : (found : Option (List ℕ)) → syncs.StartsAt found wsize machine turn old next state new → Less old.back new.back
      at None s = same-less old.back new.back (ap (λ (s : Shelf). s.back) s.shelf_is)
      at (Some file) s = sync-queues (is_first machine.lane (joined machine.lane file old).order) machine.lane (saves.begun file old.seq)
          (joined machine.lane file old) next state new s

  pub sync-resumes : (at : Syncing) (machine : SyncFile) (old : Shelf) (next : Step) (state : Syncing) (new : Shelf)
      → syncs.Resumes at wsize machine turn old next state new → Less old.back new.back
  sync-resumes syncing.Idle machine old next state new s = same-less old.back new.back (ap (λ (s : Shelf). s.back) s.shelf_is)
  sync-resumes (syncing.Saves saving) machine old next state new s = sync-queues (is_first machine.lane old.order) machine.lane saving old next state new s

  pub sync-takes : (sent : Turn) (came : Result Reply Fault) (at : Syncing) (machine : SyncFile) (old : Shelf) (next : Step) (state : Syncing) (new : Shelf)
      → syncs.Takes at wsize machine sent turn came old next state new → Less old.back new.back
  sync-takes sent came syncing.Idle machine old next state new t = same-less old.back new.back (ap (λ (s : Shelf). s.back) t.shelf_is)
  sync-takes sent came (syncing.Saves saving) machine old next state new t =
      takes-less wsize sent turn came old.repeats saving old.back t.gives t.saved new.back new.repeats t.takes

  -- ---- closes

  close-waits : (old new : Shelf) → new ≡ old → Less old.back new.back
  close-waits old new same = same-less old.back new.back (ap (λ (s : Shelf). s.back) same)

  close-frees : (lane slot : ℕ) (file : List ℕ) (refusal : Option Fault) (old : Shelf) (next : Step) (state : Closing) (new : Shelf)
      → closes.Frees lane slot turn.room file refusal old next state new → Less old.back new.back
  close-frees lane slot file refusal old next state new f =
      less-less old.back f.freed.back new.back (same-less old.back f.freed.back (ap (λ (s : Shelf). s.back) f.slot_is)) (at f.place f.ends)
    where
      at : (place : Option (List ℕ × List ℕ)) → closes.EndsAt place lane turn.room file refusal f.freed next state new → Less f.freed.back new.back
      at None e = given-less refusal file f.freed.opens f.freed.back new.back e.back
      at (Some place) e = close-waits f.freed new e.shelf_is

  close-follows : (gives : _) (lane slot : ℕ) (begun : Bool) (saving : Saving) (old : Shelf) (next : Step) (state : Closing) (new : Shelf)
      → closes.Follows gives lane slot turn.room begun saving old next state new → Less old.back new.back
  close-follows gives lane slot begun saving old next state new f = by-step
      (λ g. closes.Follows g lane slot turn.room begun saving old next state new → Less old.back new.back)
      (λ call f. close-waits old new f.2)
      (λ f. close-waits old new f.2)
      (λ result f. close-frees lane slot saving.file (refusal_of result) old next state new f)
      gives f

  close-on : (lane slot : ℕ) (begun : Bool) (saving : Saving) (old : Shelf) (next : Step) (state : Closing) (new : Shelf)
      → closes.GoesOn wsize lane slot turn begun saving old next state new → Less old.back new.back
  close-on lane slot begun saving old next state new g =
      less-less old.back g.gone.back new.back (goes-less wsize turn.xid turn.room false saving old.back g.gives g.saved g.gone.back g.goes)
      (close-follows g.gives lane slot begun g.saved g.gone next state new g.follows)

  close-queues : (b : Bool) (lane slot : ℕ) (saving : Saving) (old : Shelf) (next : Step) (state : Closing) (new : Shelf)
      → closes.QueuesIf b wsize lane slot turn saving old next state new → Less old.back new.back
  close-queues false lane slot saving old next state new q = close-waits old new q.shelf_is
  close-queues true lane slot saving old next state new q = at (last_end (of_file saving.file old.back).segments) q
    where
      at : (end : Option ℕ) → closes.Begins end wsize lane slot turn saving old next state new → Less old.back new.back
      at None b = close-frees lane slot saving.file None old next state new b
      at (Some end) b = close-on lane slot false saving old next state new b

  pub close-starts : (machine : CloseFile) (old : Shelf) (next : Step) (state : Closing) (new : Shelf) → closes.Starts wsize machine turn old next state new
      → Less old.back new.back
  close-starts machine old next state new s = at (file_at machine.lane machine.slot old.opens) s
    where
      at : (found : Option (List ℕ)) → closes.StartsAt found wsize machine turn old next state new → Less old.back new.back
      at None s = close-waits old new s.shelf_is
      at (Some file) s = close-queues (is_first machine.lane (joined machine.lane file old).order) machine.lane machine.slot (saves.begun file old.seq)
          (joined machine.lane file old) next state new s

  pub close-resumes : (at : Closing) (machine : CloseFile) (old : Shelf) (next : Step) (state : Closing) (new : Shelf)
      → closes.Resumes at wsize machine turn old next state new → Less old.back new.back
  close-resumes closing.Idle machine old next state new s = close-waits old new s.shelf_is
  close-resumes (closing.Queued saving) machine old next state new s =
      close-queues (is_first machine.lane old.order) machine.lane machine.slot saving old next state new s
  close-resumes (closing.Saves saving) machine old next state new s = by (is_first machine.lane old.order) s
    where
      by : (b : Bool) → closes.GoesOnIf b wsize machine.lane machine.slot turn saving old next state new → Less old.back new.back
      by true g = close-on machine.lane machine.slot true saving old next state new g
      by false g = close-waits old new g.shelf_is
  close-resumes (closing.ToRemove removal) machine old next state new s = close-waits old new s.shelf_is
  close-resumes (closing.Removing removal) machine old next state new s = close-waits old new s.shelf_is

  pub close-takes : (sent : Turn) (came : Result Reply Fault) (at : Closing) (machine : CloseFile) (old : Shelf) (next : Step) (state : Closing) (new : Shelf)
      → closes.Takes at wsize machine sent turn came old next state new → Less old.back new.back
  close-takes sent came closing.Idle machine old next state new t = close-waits old new t.shelf_is
  close-takes sent came (closing.Queued saving) machine old next state new t = close-waits old new t.shelf_is
  close-takes sent came (closing.ToRemove removal) machine old next state new t = close-waits old new t.shelf_is
  close-takes sent came (closing.Saves saving) machine old next state new t =
      less-less old.back t.took.back new.back (takes-less wsize sent turn came old.repeats saving old.back t.gives t.saved t.took.back t.took.repeats t.takes)
      (close-follows t.gives machine.lane machine.slot true t.saved t.took next state new t.follows)
  close-takes sent came (closing.Removing removal) machine old next state new t =
      less-less old.back t.took.back new.back (same-less old.back t.took.back (ap (λ (s : Shelf). s.back) t.others))
      (by (goes_again (remove_busy came) sent turn old.repeats) t.ends)
    where
      by : (b : Bool) → closes.EndsIf b machine.lane removal t.took next state new → Less t.took.back new.back
      by true e = close-waits t.took new e.shelf_is
      by false e = given-less removal.refusal removal.file t.took.opens t.took.back new.back e.back
