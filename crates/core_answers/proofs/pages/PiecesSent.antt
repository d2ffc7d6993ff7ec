-- A WRITE that an operation asks for is that of the bytes that come into flight under the xid of its turn.
use Rattle.core_answers.proofs.Prelude.{◌≡◌, ◌≢◌, ◌&&◌, ◌==◌, ◌-◌, ◌+◌, ℕ, Bool, true, false, nat_eq, List, [], ◌∷◌, ◌++◌, Option, Some, None, Result, Ok, Err, refl, sym, ap, subst, ◌∙◌, ◌⊎◌, inl, inr, nat_lt, unwrap_or, if◌then◌else◌, eq-eqb, Verf, Fault, Call, Reply, Segments, last_end, lost, Sent, FilePending, piece_under, renumbered, chosen, piece_of, with_sent, with_xid, Pending, of_file, OnFile, same-or, Verdict, AllStable, SendAgain, verdict_of, left, is_first, Step, Repeat, Shelf, Turn, goes_again, CloseFile, Closing, Removal, OpeningStep, PutFile, Putting, Sending, Committing, Resending, CommittingAgain, Saving, SyncFile, Syncing, WriteFile, Writing, is_full, refusal_of, remove_busy, commit_told, file_to_write, IsUnused, file_at, joined, by-step, ends_as, FileMachine, Machine, Opener, PathMachine, file_of, placed, slot_taken, begun_at, Starts, Resumes, Takes, WalkStep, flies_if, flies_save, flies_write, flies_sync, flies_close, flies_put, flies_file, flies_path, flies_of, Flies, AskedOf}
use Rattle.core_facts.proofs.Flights.{has-flies}
use Rattle.world_model.specs.declared.answer.Answer.TheVariants as answers
use Rattle.world_model.specs.declared.answer.Fault.TheVariants as faults
use Rattle.client_shelf.specs.declared.step.Step.TheVariants as nexts
use Rattle.file_ops.specs.declared.close_file.Closing.TheVariants as closing
use Rattle.file_ops.specs.declared.opening.OpeningStep.TheVariants as openings
use Rattle.file_ops.specs.declared.put_file.Putting.TheVariants as putting
use Rattle.file_ops.specs.declared.saving.Phase.{Phase}
use Rattle.file_ops.specs.declared.sync_file.Syncing.TheVariants as syncing
use Rattle.file_ops.specs.declared.write_file.Writing.TheVariants as writing
use Rattle.file_ops.specs.Closes as closes
use Rattle.file_ops.specs.OpenFile.{goes_as}
use Rattle.file_ops.specs.PutFile as puts
use Rattle.file_ops.specs.Saves as saves
use Rattle.file_ops.specs.Syncs as syncs
use Rattle.file_ops.specs.WriteFile as writes
use Rattle.file_ops.proofs.Fewer.{fewer-unused, on-decided}
use Rattle.file_ops.proofs.SaveEnds.{lands-fewer}
use Rattle.file_ops.proofs.Unmade.{Mine, AnyCall, UnusedSave, carries-mine, replies-mine}
use Rattle.file_ops.proofs.Walks.{Left, LeftAs, WriteHas, write-writes, write-resumes as write-walks, write-takes as write-took}
use Rattle.op_machines.specs.declared.file_machine.FileMachine.TheVariants as files
use Rattle.op_machines.specs.declared.machine.Machine.TheVariants as machines
use Rattle.op_machines.specs.FileSteps as steps
use Rattle.op_machines.specs.PathSteps as paths
use Rattle.name_ops.specs.declared.walk.WalkStep.TheVariants as walks
use Rattle.name_ops.specs.Walking as walking
use Rattle.name_ops.proofs.Keeps.{walk-takes-kept}
use Rattle.op_machines.proofs.Walk.{has-any}
use Rattle.core_facts.proofs.AllWalks.{PathHas, HasAll, all-starts, all-resumes, all-takes}
use Rattle.core_answers.proofs.bonds.NameCalls.{asked-done, asked-waits, asked-sends}
use Rattle.core_answers.proofs.pages.Under.{EachUnder, each-none, each-alone}

-- ---- one file

-- what is in flight of the file under the xid is what the call writes
abbrev pub IsOf : ℕ → Option (List ℕ) → Call → Pending → Type 0
IsOf xid None call back = Unit {0}
IsOf xid (Some file) call back = (piece : Sent) → piece_under xid (of_file file back).pieces ≡ Some piece → call ≡ saves.write_of file piece

some-sent : (a b : Sent) → Some a ≡ Some b → a ≡ b
some-sent a b e = cc

last-under : (pieces : List Sent) (piece : Sent) → piece_under piece.xid pieces ≡ None → piece_under piece.xid (pieces ++ piece ∷ []) ≡ Some piece
last-under [] piece none = ap (λ (b : Bool). if b then Some piece else None) (eq-eqb piece.xid piece.xid refl)
last-under (p ∷ pieces) piece none = by (nat_eq p.xid piece.xid) refl none (last-under pieces piece)
  where
    by : (b : Bool) → nat_eq p.xid piece.xid ≡ b → (if b then Some p else piece_under piece.xid pieces) ≡ None
        → (piece_under piece.xid pieces ≡ None → piece_under piece.xid (pieces ++ piece ∷ []) ≡ Some piece)
        → piece_under piece.xid (p ∷ pieces ++ piece ∷ []) ≡ Some piece
    by true h none more = absurd (let no_way : Some p ≡ None = none in cc)
    by false h none more = rw h (more none)

as_xid : ℕ → Sent → Sent
as_xid to p = record { xid = to; offset = p.offset; how = p.how; bytes = p.bytes; parts = p.parts }

-- the piece that got the xid has the bytes that it had
pub record WasSent (asked : ℕ) (pieces : List Sent) (piece : Sent) : Type 0 where
  pub was : Sent
  pub there : piece_under asked pieces ≡ Some was
  pub offset : piece.offset ≡ was.offset
  pub how : piece.how ≡ was.how
  pub bytes : piece.bytes ≡ was.bytes

renumbered-was : (asked to : ℕ) (pieces : List Sent) (piece : Sent) → piece_under to pieces ≡ None → piece_under to (renumbered asked to pieces) ≡ Some piece → WasSent asked pieces piece
renumbered-was asked to [] piece none is = absurd (let no_way : None ≡ Some piece = is in cc)
renumbered-was asked to (p ∷ pieces) piece none is = by (nat_eq p.xid asked) (nat_eq p.xid to) refl refl none (renumbered-was asked to pieces piece) is
  where
    own : nat_eq to to ≡ true
    own = eq-eqb to to refl

    by : (a b : Bool) → nat_eq p.xid asked ≡ a → nat_eq p.xid to ≡ b → (if b then Some p else piece_under to pieces) ≡ None
        → (piece_under to pieces ≡ None → piece_under to (renumbered asked to pieces) ≡ Some piece → WasSent asked pieces piece)
        → piece_under to (if a then record { xid = to; offset = p.offset; how = p.how; bytes = p.bytes; parts = p.parts } ∷ pieces else p ∷ renumbered asked to pieces) ≡ Some piece
        → WasSent asked (p ∷ pieces) piece
    by a true ha hb none more got = absurd (let no_way : Some p ≡ None = none in cc)
    by true false ha hb none more got =
        let same : record { xid = to; offset = p.offset; how = p.how; bytes = p.bytes; parts = p.parts } ≡ piece = some-sent _ piece (rw own at got) in
        record {
          was = p;
          there = rw ha refl;
          offset = sym (ap (λ (s : Sent). s.offset) same);
          how = sym (ap (λ (s : Sent). s.how) same);
          bytes = sym (ap (λ (s : Sent). s.bytes) same);
        }
    by false false ha hb none more got =
        let rest : piece_under to (renumbered asked to pieces) ≡ Some piece = (rw hb at got) in
        let w = more none rest in
        record { was = w.was; there = rw ha w.there; offset = w.offset; how = w.how; bytes = w.bytes }

-- ---- one save

module _ (xid : ℕ) where
  abbrev SaveOf : Pending → Saving → Call → Type 0
  SaveOf back s call = IsOf xid (flies_save s) call back

  -- a step of a save, as one of an operation
  abbrev SendsOf : Step → Saving → Pending → Type 0
  SendsOf next s back = AskedOf (SaveOf back) next s

  of-either : (b : Bool) (file : List ℕ) (call : Call) (back : Pending) → IsOf xid (Some file) call back → IsOf xid (flies_if b file) call back
  of-either true file call back is = is
  of-either false file call back is = tt

  commit-none : (phase : Phase) (file : List ℕ) (call : Call) (back : Pending) → IsOf xid (flies_if (saves.is_sending (saves.commit_phase phase)) file) call back
  commit-none Sending file call back = tt
  commit-none Committing file call back = tt
  commit-none Resending file call back = tt
  commit-none CommittingAgain file call back = tt

  phase-none : (phase : Phase) → saves.is_sending phase ≡ false → (file : List ℕ) (call : Call) (back : Pending) → IsOf xid (flies_if (saves.is_sending phase) file) call back
  phase-none phase is file call back = subst (λ (b : Bool). IsOf xid (flies_if b file) call back) (sym is) tt

  sends-as : (to : _) (state : Saving) (gives : _) (new : Saving) (after : Pending) → saves.Leads to state gives new → SendsOf (syncs.sync_next to) state after
      → SendsOf (syncs.sync_next gives) new after
  sends-as to state gives new after l k =
      subst (λ g. SendsOf (syncs.sync_next g) new after) (sym l.gives_next) (subst (λ (t : Saving). SendsOf (syncs.sync_next to) t after) (sym l.keeps) k)

  refused-sends : (s : Saving) (fault : Fault) (after : Pending) → SendsOf (syncs.sync_next (saves.refused_next s.waiting fault)) s after
  refused-sends s fault after = by (s.waiting == 0) refl
    where
      by : (b : Bool) → (s.waiting == 0) ≡ b → SendsOf (syncs.sync_next (saves.refused_next s.waiting fault)) s after
      by true e = (rw e tt)
      by false e = (rw e tt)

  sent-sends : (by_reply : Bool) (s : Saving) (after : Pending) → SendsOf (syncs.sync_next (saves.next_sent by_reply s)) (saves.saving_sent by_reply s) after
  sent-sends by_reply s after = by (nat_lt 0 s.waiting) (saves.is_again s.phase && by_reply) refl refl
    where
      by : (lt done : Bool) → nat_lt 0 s.waiting ≡ lt → (saves.is_again s.phase && by_reply) ≡ done
          → SendsOf (syncs.sync_next (saves.next_sent by_reply s)) (saves.saving_sent by_reply s) after
      by true done is ends = rw is tt
      by false true is ends = rw (is, ends) tt
      by false false is ends = rw (is, ends) (commit-none s.phase s.file (saves.commit_of s.file) after)

  put-in : (e : _) (es : Segments) (file : List ℕ) (back after : Pending) → OnFile back after file (with_sent (piece_of xid e (e ∷ es)) (of_file file back)) → IsUnused xid back
      → IsOf xid (Some file) (saves.write_of file (piece_of xid e (e ∷ es))) after
  put-in e es file back after on free piece is =
      let there : piece_under xid (of_file file after).pieces ≡ Some (piece_of xid e (e ∷ es)) =
      ap (λ (of : FilePending). piece_under xid of.pieces) on.here ∙ last-under (of_file file back).pieces (piece_of xid e (e ∷ es)) (free file) in
      ap (saves.write_of file) (some-sent (piece_of xid e (e ∷ es)) piece (sym there ∙ is))

  run-sends : (by_reply : Bool) (run : Segments) (s : Saving) (back : Pending) (gives : _) (new : Saving) (after : Pending)
      → saves.Sends xid by_reply run s back gives new after → IsUnused xid back → SendsOf (syncs.sync_next gives) new after
  run-sends by_reply run s back gives new after (inr g) free = sends-as (saves.refused_next s.waiting faults.Memory) s gives new after g.0 (refused-sends s faults.Memory after)
  run-sends by_reply [] s back gives new after (inl g) free = sends-as (saves.next_sent by_reply s) (saves.saving_sent by_reply s) gives new after g.0 (sent-sends by_reply s after)
  run-sends by_reply (e ∷ es) s back gives new after (inl g) free =
      sends-as _ (record s { waiting = s.waiting + 1 }) gives new after g.0
      (of-either (saves.is_sending s.phase) s.file (saves.write_of s.file (piece_of xid e (e ∷ es))) after (put-in e es s.file back after g.1.0 free))

  goes-sends : (wsize : ℕ) (room by_reply : Bool) (s : Saving) (back : Pending) (gives : _) (new : Saving) (after : Pending)
      → saves.Goes wsize xid room by_reply s back gives new after → IsUnused xid back → SendsOf (syncs.sync_next gives) new after
  goes-sends wsize room by_reply s back gives new after goes free = over s.refusal goes
    where
      may : (b : Bool) → saves.SendsIf b xid by_reply (chosen s.upto wsize (of_file s.file back)) s back gives new after → SendsOf (syncs.sync_next gives) new after
      may true g = run-sends by_reply (chosen s.upto wsize (of_file s.file back)) s back gives new after g free
      may false g = sends-as _ s gives new after g.0 tt

      over : (r : Option Fault) → saves.GoesOver r wsize xid room by_reply s back gives new after → SendsOf (syncs.sync_next gives) new after
      over (Some fault) g = sends-as (saves.refused_next s.waiting fault) s gives new after g.0 (refused-sends s fault after)
      over None g = may (saves.may_send room s) g

  write-sends : (wsize asked : ℕ) (room : Bool) (told : _) (s : Saving) (back : Pending) (gives : _) (new : Saving) (after : Pending)
      → saves.TakesWrite wsize asked xid room told s back gives new after → IsUnused xid back → SendsOf (syncs.sync_next gives) new after
  write-sends wsize asked room told s back gives new after t free =
      goes-sends wsize room t.counts (saves.refused_by t.refusal s) t.between gives new after t.goes
      (fewer-unused xid back t.between (lands-fewer asked s.file told back t.between t.refusal t.lands) free)

  decides-sends : (verdict : Verdict) (wsize : ℕ) (room : Bool) (s : Saving) (back : Pending) (gives : _) (new : Saving) (after : Pending)
      → saves.Decides verdict wsize xid room s back gives new after → IsUnused xid back → SendsOf (syncs.sync_next gives) new after
  decides-sends AllStable wsize room s back gives new after d free = sends-as _ s gives new after d.0 tt
  decides-sends (SendAgain count) wsize room s back gives new after d free = goes-sends wsize room false (record s { phase = Resending }) back gives new after d free

  commit-sends : (told : Result Verf Fault) (wsize : ℕ) (room : Bool) (s : Saving) (back : Pending) (gives : _) (new : Saving) (after : Pending)
      → saves.TakesCommit wsize xid room told s back gives new after → IsUnused xid back → SendsOf (syncs.sync_next gives) new after
  commit-sends (Err fault) wsize room s back gives new after t free = sends-as _ s gives new after t.0 tt
  commit-sends (Ok verf) wsize room s back gives new after t free =
      decides-sends (verdict_of (lost verf s.upto (of_file s.file back).segments)) wsize room s t.between gives new after t.goes
      (fewer-unused xid back t.between (on-decided s.upto verf back t.between s.file t.decides) free)

again-of : (asked to : ℕ) (file : List ℕ) (back after : Pending) → OnFile back after file (with_xid asked to (of_file file back)) → IsUnused to back
    → IsOf to (Some file) (saves.write_of file (saves.answered asked file back)) after
again-of asked to file back after on free piece is =
    let got : piece_under to (renumbered asked to (of_file file back).pieces) ≡ Some piece = sym (ap (λ (of : FilePending). piece_under to of.pieces) on.here) ∙ is in
    let w = renumbered-was asked to (of_file file back).pieces piece (free file) got in
    let it : saves.answered asked file back ≡ w.was = ap (λ (o : Option Sent). unwrap_or o saves.no_piece) w.there in
    ap (saves.write_of file) it ∙ same-write piece w.was w.offset w.how w.bytes
  where
    same-write : (p q : Sent) → p.offset ≡ q.offset → p.how ≡ q.how → p.bytes ≡ q.bytes → saves.write_of file q ≡ saves.write_of file p
    same-write p q a b c = λ i. saves.write_of file (record { xid = p.xid; offset = sym a i; how = sym b i; bytes = sym c i; parts = p.parts })

module _ (sent turn : Turn) where
  abbrev TurnSends : Step → Saving → Pending → Type 0
  TurnSends next s back = AskedOf (λ k call. IsOf turn.xid (flies_save k) call back) next s

  repeats-sends : (again : Bool) (wsize : ℕ) (told : _) (s : Saving) (back : Pending) (gives : _) (new : Saving) (after : Pending)
      → saves.RepeatsWrite again wsize sent turn told s back gives new after → IsUnused turn.xid back → TurnSends (syncs.sync_next gives) new after
  repeats-sends true wsize told s back gives new after r free =
      sends-as turn.xid _ s gives new after r.0
      (of-either turn.xid (saves.is_sending s.phase) s.file (saves.write_of s.file (saves.answered sent.xid s.file back)) after (again-of sent.xid turn.xid s.file back after r.1 free))
  repeats-sends false wsize told s back gives new after r free = write-sends turn.xid wsize sent.xid turn.room told (saves.less_waiting s) back gives new after r free

  told-sends : (busy : Bool) (wsize : ℕ) (told : _) (repeats : List Repeat) (s : Saving) (back : Pending) (gives : _) (new : Saving) (after : Pending) (later : List Repeat)
      → saves.TakesToldIf busy wsize sent turn told repeats s back gives new after later → IsUnused turn.xid back → TurnSends (syncs.sync_next gives) new after
  told-sends true wsize told repeats s back gives new after later (inl g) free = repeats-sends (goes_again true sent turn repeats) wsize told s back gives new after g.0 free
  told-sends true wsize told repeats s back gives new after later (inr g) free = write-sends turn.xid wsize sent.xid turn.room _ (saves.less_waiting s) back gives new after g.0 free
  told-sends false wsize told repeats s back gives new after later g free = write-sends turn.xid wsize sent.xid turn.room told (saves.less_waiting s) back gives new after g.0 free

  first-sends : (again : Bool) (told : Result Verf Fault) (wsize : ℕ) (s : Saving) (back : Pending) (gives : _) (new : Saving) (after : Pending)
      → saves.is_sending s.phase ≡ false → saves.TakesFirst again wsize turn told s back gives new after → IsUnused turn.xid back → TurnSends (syncs.sync_next gives) new after
  first-sends true told wsize s back gives new after at t free =
      sends-as turn.xid _ (saves.put_off_more s) gives new after t.0 (phase-none turn.xid s.phase at s.file (saves.commit_of s.file) after)
  first-sends false told wsize s back gives new after at t free = commit-sends turn.xid told wsize turn.room (saves.less_waiting s) back gives new after t free

  last-sends : (again : Bool) (told : Result Verf Fault) (s : Saving) (after : Pending) → saves.is_sending s.phase ≡ false
      → TurnSends (syncs.sync_next (saves.last_next again told s)) (saves.last_saving again s) after
  last-sends true told s after at = phase-none turn.xid s.phase at s.file (saves.commit_of s.file) after
  last-sends false (Ok verf) s after at = tt
  last-sends false (Err fault) s after at = tt

  takes-sends : (came : Result Reply Fault) (wsize : ℕ) (repeats : List Repeat) (s : Saving) (back : Pending) (gives : _) (new : Saving) (after : Pending) (later : List Repeat)
      → saves.Takes wsize sent turn came repeats s back gives new after later → IsUnused turn.xid back → TurnSends (syncs.sync_next gives) new after
  takes-sends came wsize repeats s back gives new after later takes free = by s.phase refl takes
    where
      by : (p : Phase) → s.phase ≡ p → saves.TakesIn p wsize sent turn came repeats s back gives new after later → TurnSends (syncs.sync_next gives) new after
      by Sending at t = told-sends _ wsize _ repeats s back gives new after later t free
      by Resending at t = told-sends _ wsize _ repeats s back gives new after later t free
      by Committing at t = first-sends (saves.commit_again (commit_told came) sent turn repeats s) (commit_told came) wsize s back gives new after (ap saves.is_sending at) t.0 free
      by CommittingAgain at t =
          sends-as turn.xid (saves.last_next (saves.commit_again (commit_told came) sent turn repeats s) (commit_told came) s)
          (saves.last_saving (saves.commit_again (commit_told came) sent turn repeats s) s) gives new after t.0
          (last-sends (saves.commit_again (commit_told came) sent turn repeats s) (commit_told came) s after (ap saves.is_sending at))

-- ---- the machines with saves

module _ (turn : Turn) (wsize : ℕ) where
  abbrev Sends : Step → Saving → Pending → Type 0
  Sends next s back = AskedOf (λ k call. IsOf turn.xid (flies_save k) call back) next s

  abbrev WriteOf : Pending → Writing → Call → Type 0
  WriteOf back w call = IsOf turn.xid (flies_write w) call back

  abbrev SyncOf : Pending → Syncing → Call → Type 0
  SyncOf back w call = IsOf turn.xid (flies_sync w) call back

  abbrev CloseOf : Pending → Closing → Call → Type 0
  CloseOf back w call = IsOf turn.xid (flies_close w) call back

  abbrev PutOf : Pending → Writing → Putting → Call → Type 0
  PutOf back write p call = IsOf turn.xid (flies_put p write) call back

  to-back : (to back : Pending) (next : Step) {S : Type 0} → (E : Pending → S → Call → Type 0) (state : S) → back ≡ to → AskedOf (E to) next state → AskedOf (E back) next state
  to-back to back next E state is a = subst (λ (b : Pending). AskedOf (E b) next state) (sym is) a

  -- syncs
  sync-as : (gives : _) (saved : Saving) (next : Step) (state : Syncing) (back : Pending) → next ≡ syncs.sync_next gives → state ≡ syncs.sync_state gives saved
      → Sends (syncs.sync_next gives) saved back → AskedOf (SyncOf back) next state
  sync-as gives saved next state back n s l = by-step
      (λ g. next ≡ syncs.sync_next g → state ≡ syncs.sync_state g saved → Sends (syncs.sync_next g) saved back → AskedOf (SyncOf back) next state)
      (λ call is at own. asked-sends (SyncOf back) call next state is (subst (λ (k : Syncing). SyncOf back k call) (sym at) own))
      (λ is at own. asked-waits (SyncOf back) next state is) (λ result is at own. asked-done (SyncOf back) _ next state is) gives n s l

  sync-queues : (b : Bool) (lane : ℕ) (s : Saving) (old : Shelf) (next : Step) (state : Syncing) (new : Shelf) → syncs.QueuesIf b wsize lane turn s old next state new
      → IsUnused turn.xid old.back → AskedOf (SyncOf new.back) next state
  sync-queues true lane s old next state new q free =
      sync-as q.gives q.saved next state new.back q.follows.next_is q.follows.state_is (goes-sends turn.xid wsize turn.room false s old.back q.gives q.saved new.back q.goes free)
  sync-queues false lane s old next state new q free = asked-waits (SyncOf new.back) next state q.next_is

  sync-starts : (found : Option (List ℕ)) (m : SyncFile) (old : Shelf) (next : Step) (state : Syncing) (new : Shelf) → syncs.StartsAt found wsize m turn old next state new
      → IsUnused turn.xid old.back → AskedOf (SyncOf new.back) next state
  sync-starts None m old next state new s free = asked-done (SyncOf new.back) _ next state s.next_is
  sync-starts (Some file) m old next state new s free =
      sync-queues (is_first m.lane (joined m.lane file old).order) m.lane (saves.begun file old.seq) (joined m.lane file old) next state new s free

  sync-resumes : (at : Syncing) (m : SyncFile) (old : Shelf) (next : Step) (state : Syncing) (new : Shelf) → syncs.Resumes at wsize m turn old next state new
      → IsUnused turn.xid old.back → AskedOf (SyncOf new.back) next state
  sync-resumes syncing.Idle m old next state new r free = asked-waits (SyncOf new.back) next state r.next_is
  sync-resumes (syncing.Saves s) m old next state new r free = sync-queues (is_first m.lane old.order) m.lane s old next state new r free

  sync-takes : (at : Syncing) (m : SyncFile) (sent : Turn) (came : Result Reply Fault) (old : Shelf) (next : Step) (state : Syncing) (new : Shelf)
      → syncs.Takes at wsize m sent turn came old next state new → IsUnused turn.xid old.back → AskedOf (SyncOf new.back) next state
  sync-takes syncing.Idle m sent came old next state new t free = asked-waits (SyncOf new.back) next state t.next_is
  sync-takes (syncing.Saves s) m sent came old next state new t free =
      sync-as t.gives t.saved next state new.back t.follows.next_is t.follows.state_is
      (takes-sends sent turn came wsize old.repeats s old.back t.gives t.saved new.back new.repeats t.takes free)

  -- closes
  close-to : (call : Call) (at : Closing) (back : Pending) (next : Step) (state : Closing) → next ≡ nexts.Send call → state ≡ at → CloseOf back at call → AskedOf (CloseOf back) next state
  close-to call at back next state n s l = asked-sends (CloseOf back) call next state n (subst (λ (k : Closing). CloseOf back k call) (sym s) l)

  close-asks : (room : Bool) (removal : Removal) (back : Pending) (next : Step) (state : Closing) → next ≡ closes.ask_next room removal → state ≡ closes.ask_state room removal
      → AskedOf (CloseOf back) next state
  close-asks true removal back next state is at = close-to _ (closing.Removing removal) back next state is at tt
  close-asks false removal back next state is at = asked-waits (CloseOf back) next state is

  close-ends-at : (place : Option (List ℕ × List ℕ)) (lane : ℕ) (file : List ℕ) (why : Option Fault) (old : Shelf) (next : Step) (state : Closing) (new : Shelf)
      → closes.EndsAt place lane turn.room file why old next state new → AskedOf (CloseOf new.back) next state
  close-ends-at None lane file why old next state new e = asked-done (CloseOf new.back) _ next state e.next_is
  close-ends-at (Some place) lane file why old next state new e = close-asks turn.room _ new.back next state e.next_is e.state_is

  close-follows : (gives : _) (lane slot : ℕ) (begun : Bool) (saved : Saving) (old : Shelf) (next : Step) (state : Closing) (new : Shelf)
      → closes.Follows gives lane slot turn.room begun saved old next state new → Sends (syncs.sync_next gives) saved old.back → AskedOf (CloseOf new.back) next state
  close-follows gives lane slot begun saved old next state new f l = by-step
      (λ g. closes.Follows g lane slot turn.room begun saved old next state new → Sends (syncs.sync_next g) saved old.back → AskedOf (CloseOf new.back) next state)
      (λ call t own. to-back old.back new.back next CloseOf state (ap (λ (s : Shelf). s.back) t.2) (close-to call (closing.Saves saved) old.back next state t.0 t.1 own))
      (λ t own. asked-waits (CloseOf new.back) next state t.0)
      (λ result t own. close-ends-at t.place lane saved.file (refusal_of result) t.freed next state new t.ends) gives f l

  close-on : (lane slot : ℕ) (begun : Bool) (s : Saving) (old : Shelf) (next : Step) (state : Closing) (new : Shelf) → closes.GoesOn wsize lane slot turn begun s old next state new
      → IsUnused turn.xid old.back → AskedOf (CloseOf new.back) next state
  close-on lane slot begun s old next state new g free =
      close-follows g.gives lane slot begun g.saved g.gone next state new g.follows (goes-sends turn.xid wsize turn.room false s old.back g.gives g.saved g.gone.back g.goes free)

  close-begins : (end : Option ℕ) (lane slot : ℕ) (s : Saving) (old : Shelf) (next : Step) (state : Closing) (new : Shelf) → closes.Begins end wsize lane slot turn s old next state new
      → IsUnused turn.xid old.back → AskedOf (CloseOf new.back) next state
  close-begins None lane slot s old next state new b free = close-ends-at b.place lane s.file None b.freed next state new b.ends
  close-begins (Some end) lane slot s old next state new b free = close-on lane slot false s old next state new b free

  close-queues : (b : Bool) (lane slot : ℕ) (s : Saving) (old : Shelf) (next : Step) (state : Closing) (new : Shelf) → closes.QueuesIf b wsize lane slot turn s old next state new
      → IsUnused turn.xid old.back → AskedOf (CloseOf new.back) next state
  close-queues true lane slot s old next state new q free = close-begins (last_end (of_file s.file old.back).segments) lane slot s old next state new q free
  close-queues false lane slot s old next state new q free = asked-waits (CloseOf new.back) next state q.next_is

  close-starts : (found : Option (List ℕ)) (m : CloseFile) (old : Shelf) (next : Step) (state : Closing) (new : Shelf) → closes.StartsAt found wsize m turn old next state new
      → IsUnused turn.xid old.back → AskedOf (CloseOf new.back) next state
  close-starts None m old next state new s free = asked-done (CloseOf new.back) _ next state s.next_is
  close-starts (Some file) m old next state new s free =
      close-queues (is_first m.lane (joined m.lane file old).order) m.lane m.slot (saves.begun file old.seq) (joined m.lane file old) next state new s free

  close-if : (b : Bool) (lane slot : ℕ) (s : Saving) (old : Shelf) (next : Step) (state : Closing) (new : Shelf) → closes.GoesOnIf b wsize lane slot turn s old next state new
      → IsUnused turn.xid old.back → AskedOf (CloseOf new.back) next state
  close-if true lane slot s old next state new g free = close-on lane slot true s old next state new g free
  close-if false lane slot s old next state new g free = asked-waits (CloseOf new.back) next state g.next_is

  close-resumes : (at : Closing) (m : CloseFile) (old : Shelf) (next : Step) (state : Closing) (new : Shelf) → closes.Resumes at wsize m turn old next state new
      → IsUnused turn.xid old.back → AskedOf (CloseOf new.back) next state
  close-resumes closing.Idle m old next state new r free = asked-waits (CloseOf new.back) next state r.next_is
  close-resumes (closing.Queued s) m old next state new r free = close-queues (is_first m.lane old.order) m.lane m.slot s old next state new r free
  close-resumes (closing.Saves s) m old next state new r free = close-if (is_first m.lane old.order) m.lane m.slot s old next state new r free
  close-resumes (closing.ToRemove removal) m old next state new r free = close-asks turn.room removal new.back next state r.next_is r.state_is
  close-resumes (closing.Removing removal) m old next state new r free = asked-waits (CloseOf new.back) next state r.next_is

  close-removed : (again : Bool) (lane : ℕ) (removal : Removal) (old : Shelf) (next : Step) (state : Closing) (new : Shelf) → closes.EndsIf again lane removal old next state new
      → AskedOf (CloseOf new.back) next state
  close-removed true lane removal old next state new e = close-to _ (closing.Removing removal) new.back next state e.next_is e.state_is tt
  close-removed false lane removal old next state new e = asked-done (CloseOf new.back) _ next state e.next_is

  close-takes : (at : Closing) (m : CloseFile) (sent : Turn) (came : Result Reply Fault) (old : Shelf) (next : Step) (state : Closing) (new : Shelf)
      → closes.Takes at wsize m sent turn came old next state new → IsUnused turn.xid old.back → AskedOf (CloseOf new.back) next state
  close-takes closing.Idle m sent came old next state new t free = asked-waits (CloseOf new.back) next state t.next_is
  close-takes (closing.Queued s) m sent came old next state new t free = asked-waits (CloseOf new.back) next state t.next_is
  close-takes (closing.Saves s) m sent came old next state new t free =
      close-follows t.gives m.lane m.slot true t.saved t.took next state new t.follows
      (takes-sends sent turn came wsize old.repeats s old.back t.gives t.saved t.took.back t.took.repeats t.takes free)
  close-takes (closing.ToRemove removal) m sent came old next state new t free = asked-waits (CloseOf new.back) next state t.next_is
  close-takes (closing.Removing removal) m sent came old next state new t free =
      close-removed (goes_again (remove_busy came) sent turn old.repeats) m.lane removal t.took next state new t.ends

  -- writes
  room-as : (told : _) (lane : ℕ) (file : List ℕ) (saved : Saving) (shelf : Shelf) (next : Step) (state : Writing) (after : Shelf)
      → writes.Leads (writes.room_next told) (writes.room_state told file saved) (writes.room_shelf told lane shelf) next state after
      → Sends (syncs.sync_next told) saved shelf.back → AskedOf (WriteOf after.back) next state
  room-as told lane file saved shelf next state after r l = by-step
      (λ g. writes.Leads (writes.room_next g) (writes.room_state g file saved) (writes.room_shelf g lane shelf) next state after → Sends (syncs.sync_next g) saved shelf.back
      → AskedOf (WriteOf after.back) next state)
      (λ call t own. to-back shelf.back after.back next WriteOf state (ap (λ (s : Shelf). s.back) t.shelf_is)
      (asked-sends (WriteOf shelf.back) call next state t.gives_next (subst (λ (k : Writing). WriteOf shelf.back k call) (sym t.keeps) own)))
      (λ t own. asked-waits (WriteOf after.back) next state t.gives_next) ended told r l
    where
      ended : (result : Result (Unit {0}) Fault)
          → writes.Leads (writes.room_next (ends_as result)) (writes.room_state (ends_as result) file saved) (writes.room_shelf (ends_as result) lane shelf) next state after
          → Sends (syncs.sync_next (ends_as result)) saved shelf.back → AskedOf (WriteOf after.back) next state
      ended (Ok done) t own = asked-waits (WriteOf after.back) next state t.gives_next
      ended (Err fault) t own = asked-done (WriteOf after.back) _ next state t.gives_next

  write-saves : (b : Bool) (lane : ℕ) (file : List ℕ) (s : Saving) (shelf : Shelf) (next : Step) (state : Writing) (after : Shelf)
      → writes.SavesIf b wsize lane file s turn shelf next state after → IsUnused turn.xid shelf.back → AskedOf (WriteOf after.back) next state
  write-saves false lane file s shelf next state after g free = asked-waits (WriteOf after.back) next state g.gives_next
  write-saves true lane file s shelf next state after g free =
      room-as g.told lane file g.saved (record shelf { back = g.back }) next state after g.leads (goes-sends turn.xid wsize turn.room false s shelf.back g.told g.saved g.back g.goes free)

  write-ifs : (b : Bool) (lane : ℕ) (file : List ℕ) (offset : ℕ) (bytes : List ℕ) (shelf : Shelf) (next : Step) (state : Writing) (after : Shelf)
      → writes.WritesIf b wsize lane file offset bytes turn shelf next state after → IsUnused turn.xid shelf.back → AskedOf (WriteOf after.back) next state
  write-ifs true lane file offset bytes shelf next state after (inl g) free =
      write-saves (is_first lane (joined lane g.of shelf).order) lane file (saves.begun g.of shelf.seq) (joined lane g.of shelf) next state after g.saves free
  write-ifs true lane file offset bytes shelf next state after (inr g) free = asked-done (WriteOf after.back) _ next state g.1.gives_next
  write-ifs false lane file offset bytes shelf next state after (inl g) free = asked-done (WriteOf after.back) _ next state g.leads.gives_next
  write-ifs false lane file offset bytes shelf next state after (inr g) free = asked-done (WriteOf after.back) _ next state g.gives_next

  write-starts : (found : Result (List ℕ) Fault) (m : WriteFile) (shelf : Shelf) (next : Step) (new : WriteFile) (after : Shelf) → writes.StartsAt found wsize m turn shelf next new after
      → IsUnused turn.xid shelf.back → AskedOf (WriteOf after.back) next new.state
  write-starts (Err fault) m shelf next new after s free = asked-done (WriteOf after.back) _ next new.state s.refuses.gives_next
  write-starts (Ok file) m shelf next new after (inl s) free =
      write-ifs (is_full (writes.text_bytes m.text) shelf.back) m.lane file m.offset (writes.text_bytes m.text) shelf next new.state after s.writes free
  write-starts (Ok file) m shelf next new after (inr s) free = asked-done (WriteOf after.back) _ next new.state s.refuses.gives_next

  write-resumes : (at : Writing) (lane : ℕ) (shelf : Shelf) (next : Step) (state : Writing) (after : Shelf) → writes.ResumesIn at wsize lane turn shelf next state after
      → IsUnused turn.xid shelf.back → AskedOf (WriteOf after.back) next state
  write-resumes writing.Idle lane shelf next state after r free = asked-waits (WriteOf after.back) next state r.gives_next
  write-resumes (writing.Room file s) lane shelf next state after r free = write-saves (is_first lane shelf.order) lane file s shelf next state after r free

  write-follows : (told : _) (m : WriteFile) (file : List ℕ) (saved : Saving) (shelf : Shelf) (next : Step) (state : Writing) (after : Shelf)
      → writes.Follows told wsize m file saved turn shelf next state after → Sends (syncs.sync_next told) saved shelf.back
      → Left (λ b. IsUnused turn.xid b) (Mine turn.xid) AnyCall told saved shelf.back → AskedOf (WriteOf after.back) next state
  write-follows told m file saved shelf next state after f l free = by-step
      (λ g. writes.Follows g wsize m file saved turn shelf next state after → Sends (syncs.sync_next g) saved shelf.back
      → Left (λ b. IsUnused turn.xid b) (Mine turn.xid) AnyCall g saved shelf.back → AskedOf (WriteOf after.back) next state)
      (λ call t own unused. to-back shelf.back after.back next WriteOf state (ap (λ (s : Shelf). s.back) t.shelf_is)
      (asked-sends (WriteOf shelf.back) call next state t.gives_next (subst (λ (k : Writing). WriteOf shelf.back k call) (sym t.keeps) own)))
      (λ t own unused. asked-waits (WriteOf after.back) next state t.gives_next) ended told f l free
    where
      ended : (result : Result (Unit {0}) Fault) → writes.Follows (ends_as result) wsize m file saved turn shelf next state after → Sends (syncs.sync_next (ends_as result)) saved shelf.back
          → Left (λ b. IsUnused turn.xid b) (Mine turn.xid) AnyCall (ends_as result) saved shelf.back → AskedOf (WriteOf after.back) next state
      ended (Ok done) t own unused =
          write-ifs (is_full (writes.made_bytes m.text) shelf.back) m.lane file m.offset (writes.made_bytes m.text) (record shelf { order = left m.lane shelf.order }) next state after t
          unused
      ended (Err fault) t own unused = asked-done (WriteOf after.back) _ next state t.gives_next

  write-takes : (at : Writing) (m : WriteFile) (sent : Turn) (came : Result Reply Fault) (shelf : Shelf) (next : Step) (state : Writing) (after : Shelf)
      → writes.TakesIn at wsize m sent turn came shelf next state after → IsUnused turn.xid shelf.back → AskedOf (WriteOf after.back) next state
  write-takes writing.Idle m sent came shelf next state after t free = asked-waits (WriteOf after.back) next state t.gives_next
  write-takes (writing.Room file s) m sent came shelf next state after t free =
      write-follows t.told m file t.saved _ next state after t.follows (takes-sends sent turn came wsize shelf.repeats s shelf.back t.told t.saved t.back t.repeats t.takes free)
      ((replies-mine wsize sent turn came).takes shelf.repeats s shelf.back t.told t.saved t.back t.repeats t.takes free)

  -- puts
  put-follows : (gives : _) (write : Writing) (lane : ℕ) (saved : Saving) (old : Shelf) (next : Step) (state : Putting) (new : Shelf)
      → puts.Follows gives lane saved old next state new → Sends (syncs.sync_next gives) saved old.back → AskedOf (PutOf new.back write) next state
  put-follows gives write lane saved old next state new f l = by-step
      (λ g. puts.Follows g lane saved old next state new → Sends (syncs.sync_next g) saved old.back → AskedOf (PutOf new.back write) next state)
      (λ call t own. to-back old.back new.back next (λ b. PutOf b write) state (ap (λ (s : Shelf). s.back) t.2)
      (asked-sends (PutOf old.back write) call next state t.0 (subst (λ (k : Putting). PutOf old.back write k call) (sym t.1) own)))
      (λ t own. asked-waits (PutOf new.back write) next state t.0) (λ result t own. asked-done (PutOf new.back write) _ next state t.next_is) gives f l

  put-queues : (b : Bool) (write : Writing) (lane : ℕ) (s : Saving) (old : Shelf) (next : Step) (state : Putting) (new : Shelf) → puts.QueuesIf b wsize lane turn s old next state new
      → IsUnused turn.xid old.back → AskedOf (PutOf new.back write) next state
  put-queues true write lane s old next state new g free =
      put-follows g.gives write lane g.saved g.gone next state new g.follows (goes-sends turn.xid wsize turn.room false s old.back g.gives g.saved g.gone.back g.goes free)
  put-queues false write lane s old next state new g free = asked-waits (PutOf new.back write) next state g.next_is

  after-write : (told : Step) (write : Writing) (lane : ℕ) (file : List ℕ) (old : Shelf) (next : Step) (state : Putting) (new : Shelf)
      → puts.AfterWrite told wsize lane file turn old next state new → AskedOf (WriteOf old.back) told write
      → LeftAs (λ b. IsUnused turn.xid b) (WriteHas (λ b. IsUnused turn.xid b) (Mine turn.xid)) AnyCall told write old.back → AskedOf (PutOf new.back write) next state
  after-write (nexts.Send call) write lane file old next state new a l free =
      to-back old.back new.back next (λ b. PutOf b write) state (ap (λ (s : Shelf). s.back) a.2)
      (asked-sends (PutOf old.back write) call next state a.0 (subst (λ (k : Putting). PutOf old.back write k call) (sym a.1) l))
  after-write nexts.Wait write lane file old next state new a l free = asked-waits (PutOf new.back write) next state a.0
  after-write (nexts.Done (answers.Done value)) write lane file old next state new a l free =
      put-queues (is_first lane (joined lane file old).order) write lane (saves.begun file old.seq) (joined lane file old) next state new a free
  after-write (nexts.Done (answers.Refused fault)) write lane file old next state new a l free = asked-done (PutOf new.back write) _ next state a.next_is

  abbrev PutFileOf : Pending → PutFile → Call → Type 0
  PutFileOf back m call = PutOf back m.write.state m.state call

  writes-on : (m : PutFile) (file : List ℕ) (told : Step) (written : Writing) (mid : Shelf) (next : Step) (new : PutFile) (after : Shelf)
      → puts.WritesOn wsize m file turn told written mid next new after → AskedOf (WriteOf mid.back) told written
      → LeftAs (λ b. IsUnused turn.xid b) (WriteHas (λ b. IsUnused turn.xid b) (Mine turn.xid)) AnyCall told written mid.back → AskedOf (PutFileOf after.back) next new
  writes-on m file told written mid next new after w l free =
      put-of next new after.back (subst (λ (k : Writing). AskedOf (PutOf after.back k) next new.state) (sym (ap (λ (p : PutFile). p.write.state) w.machine_is))
      (after-write told written m.write.lane file mid next new.state after w.follows l free))
    where
      put-of : (next : Step) (k : PutFile) (back : Pending) → AskedOf (PutOf back k.write.state) next k.state → AskedOf (PutFileOf back) next k
      put-of (nexts.Send call) k back a = a
      put-of nexts.Wait k back a = tt
      put-of (nexts.Done answer) k back a = tt

  put-adds : (m : PutFile) (file : List ℕ) (old : Shelf) (next : Step) (new : PutFile) (after : Shelf) → puts.AddsBytes wsize m file turn old next new after → IsUnused turn.xid old.back
      → AskedOf (PutFileOf after.back) next new
  put-adds m file old next new after a free =
      writes-on m file a.told a.written a.mid next new after a.goes
      (write-ifs (is_full (writes.made_bytes m.write.text) (puts.put_at m.write.lane file old).back) m.write.lane file m.write.offset (writes.made_bytes m.write.text)
      (puts.put_at m.write.lane file old) a.told a.written a.mid a.writes free)
      (write-writes wsize turn (λ b. IsUnused turn.xid b) (Mine turn.xid) AnyCall (carries-mine wsize turn) m.write.lane file m.write.offset (writes.made_bytes m.write.text)
      (puts.put_at m.write.lane file old) a.told a.written a.mid a.writes free)

  opens-of : (call : Call) (m : PutFile) (back : Pending) (next : Step) (new : PutFile) → m.state ≡ putting.Opens → next ≡ nexts.Send call → new ≡ m → AskedOf (PutFileOf back) next new
  opens-of call m back next new at is same =
      asked-sends (PutFileOf back) call next new is
      (subst (λ (k : PutFile). PutFileOf back k call) (sym same) (subst (λ (p : Putting). PutOf back m.write.state p call) (sym at) tt))

  after-opening : (step : OpeningStep) (m : PutFile) (old : Shelf) (next : Step) (new : PutFile) (after : Shelf) → m.state ≡ putting.Opens → puts.AfterOpening step wsize m turn old next new after
      → IsUnused turn.xid old.back → AskedOf (PutFileOf after.back) next new
  after-opening (openings.Send call) m old next new after at a free = opens-of call m after.back next new at a.0 a.1
  after-opening openings.Wait m old next new after at a free = asked-waits (PutFileOf after.back) next new a.next_is
  after-opening (openings.Ended (Ok file)) m old next new after at a free = put-adds m file old next new after a free
  after-opening (openings.Ended (Err fault)) m old next new after at a free = asked-done (PutFileOf after.back) _ next new a.0

  put-state : (m new : PutFile) (next : Step) (back : Pending) → new ≡ record m { state = new.state } → AskedOf (PutOf back m.write.state) next new.state → AskedOf (PutFileOf back) next new
  put-state m new next back is a = by next (subst (λ (k : Writing). AskedOf (PutOf back k) next new.state) (sym (ap (λ (p : PutFile). p.write.state) is)) a)
    where
      by : (n : Step) → AskedOf (PutOf back new.write.state) n new.state → AskedOf (PutFileOf back) n new
      by (nexts.Send call) a = a
      by nexts.Wait a = tt
      by (nexts.Done answer) a = tt

  put-opens : (step : OpeningStep) (m : PutFile) (back : Pending) (next : Step) (new : PutFile) (o : _) → m.state ≡ putting.Opens → next ≡ goes_as step
      → new ≡ record m { opening = o } → AskedOf (PutFileOf back) next new
  put-opens (openings.Send call) m back next new o at is same = opens-of call (record m { opening = o }) back next new at is same
  put-opens openings.Wait m back next new o at is same = asked-waits (PutFileOf back) next new is
  put-opens (openings.Ended (Ok file)) m back next new o at is same = asked-done (PutFileOf back) _ next new is
  put-opens (openings.Ended (Err fault)) m back next new o at is same = asked-done (PutFileOf back) _ next new is

  put-resumes : (at : Putting) (m : PutFile) (old : Shelf) (next : Step) (new : PutFile) (after : Shelf) → m.state ≡ at → puts.Resumes at wsize m turn old next new after
      → IsUnused turn.xid old.back → AskedOf (PutFileOf after.back) next new
  put-resumes putting.Idle m old next new after at r free = asked-waits (PutFileOf after.back) next new r.next_is
  put-resumes putting.Opens m old next new after at r free = put-opens _ m after.back next new _ at r.0 r.1
  put-resumes (putting.Adds file) m old next new after at r free =
      writes-on m file r.told r.written r.mid next new after r.goes (write-resumes m.write.state m.write.lane old r.told r.written r.mid r.resumes free)
      (write-walks wsize turn (λ b. IsUnused turn.xid b) (Mine turn.xid) AnyCall (carries-mine wsize turn) m.write.state m.write.lane old r.told r.written r.mid r.resumes free)
  put-resumes (putting.Saves s) m old next new after at r free =
      put-state m new next after.back r.1 (put-queues (is_first m.write.lane old.order) m.write.state m.write.lane s old next new.state after r.0 free)

  any-write : (w : Writing) (back : Pending) → IsUnused turn.xid back → WriteHas (λ b. IsUnused turn.xid b) (UnusedSave turn.xid) w back
  any-write writing.Idle back free = free
  any-write (writing.Room file s) back free = free

  put-takes : (at : Putting) (m : PutFile) (sent : Turn) (came : Result Reply Fault) (old : Shelf) (next : Step) (new : PutFile) (after : Shelf) → m.state ≡ at
      → puts.Takes at wsize m sent turn came old next new after → IsUnused turn.xid old.back → AskedOf (PutFileOf after.back) next new
  put-takes putting.Idle m sent came old next new after at t free = asked-waits (PutFileOf after.back) next new t.next_is
  put-takes putting.Opens m sent came old next new after at t free =
      after-opening t.step _ t.took next new after at t.follows (subst (λ (b : Pending). IsUnused turn.xid b) (sym (ap (λ (s : Shelf). s.back) t.others)) free)
  put-takes (putting.Adds file) m sent came old next new after at t free =
      writes-on m file t.told t.written t.mid next new after t.goes (write-takes m.write.state m.write sent came old t.told t.written t.mid t.takes free)
      (write-took wsize turn (λ b. IsUnused turn.xid b) (Mine turn.xid) AnyCall (carries-mine wsize turn) sent came (UnusedSave turn.xid) (replies-mine wsize sent turn came) m.write.state m.write old
      t.told t.written t.mid t.takes (any-write m.write.state old.back free))
  put-takes (putting.Saves s) m sent came old next new after at t free =
      put-state m new next after.back t.1
      (put-follows t.0.gives m.write.state m.write.lane t.0.saved t.0.took next new.state after t.0.follows
      (takes-sends sent turn came wsize old.repeats s old.back t.0.gives t.0.saved t.0.took.back t.0.took.repeats t.0.takes free))

  -- ---- any operation

  abbrev FileOf : Pending → FileMachine → Call → Type 0
  FileOf back m call = IsOf turn.xid (flies_file m) call back

  abbrev pub MachineOf : Pending → Machine → Call → Type 0
  MachineOf back m call = IsOf turn.xid (flies_of m) call back

  any-of : {S : Type 0} → (E : S → Call → Type 0) (next : Step) (to new : S) → new ≡ to → ((call : Call) → E to call) → AskedOf E next new
  any-of E (nexts.Send call) to new is any = subst (λ s. E s call) (sym is) (any call)
  any-of E nexts.Wait to new is any = tt
  any-of E (nexts.Done answer) to new is any = tt

  of-state : {S T : Type 0} → (E : S → Call → Type 0) (F : T → Call → Type 0) (next : Step) (state : S) (to new : T) → new ≡ to → ((call : Call) → E state call → F to call)
      → AskedOf E next state → AskedOf F next new
  of-state E F (nexts.Send call) state to new is same a = subst (λ t. F t call) (sym is) (same call a)
  of-state E F nexts.Wait state to new is same a = tt
  of-state E F (nexts.Done answer) state to new is same a = tt

  file-starts : (m : FileMachine) (old : Shelf) (next : Step) (new : FileMachine) (after : Shelf) → steps.Starts wsize m turn old next new after → IsUnused turn.xid old.back
      → AskedOf (FileOf after.back) next new
  file-starts (files.Open m) old next new after s free = any-of (FileOf after.back) next _ new s.machine_is (λ c. tt)
  file-starts (files.Read m) old next new after s free = any-of (FileOf after.back) next _ new s.machine_is (λ c. tt)
  file-starts (files.Write m) old next new after s free =
      of-state (WriteOf after.back) (FileOf after.back) next s.machine.state (files.Write s.machine) new s.machine_is (λ c is. is)
      (write-starts (file_to_write m.lane m.slot old.opens) m old next s.machine after s.step free)
  file-starts (files.Sync m) old next new after s free =
      of-state (SyncOf after.back) (FileOf after.back) next s.state (files.Sync (record m { state = s.state })) new s.machine_is (λ c is. is)
      (sync-starts (file_at m.lane m.slot old.opens) m old next s.state after s.step free)
  file-starts (files.Close m) old next new after s free =
      of-state (CloseOf after.back) (FileOf after.back) next s.state (files.Close (record m { state = s.state })) new s.machine_is (λ c is. is)
      (close-starts (file_at m.lane m.slot old.opens) m old next s.state after s.step free)
  file-starts (files.Truncate m) old next new after s free = any-of (FileOf after.back) next _ new s.machine_is (λ c. tt)
  file-starts (files.Put m) old next new after s free = any-of (FileOf after.back) next _ new s.machine_is (λ c. tt)

  file-resumes : (m : FileMachine) (old : Shelf) (next : Step) (new : FileMachine) (after : Shelf) → steps.Resumes wsize m turn old next new after → IsUnused turn.xid old.back
      → AskedOf (FileOf after.back) next new
  file-resumes (files.Open m) old next new after s free = any-of (FileOf after.back) next _ new s.machine_is (λ c. tt)
  file-resumes (files.Read m) old next new after s free = any-of (FileOf after.back) next _ new s.machine_is (λ c. tt)
  file-resumes (files.Write m) old next new after s free =
      of-state (WriteOf after.back) (FileOf after.back) next s.state (files.Write (record m { state = s.state })) new s.machine_is (λ c is. is)
      (write-resumes m.state m.lane old next s.state after s.step free)
  file-resumes (files.Sync m) old next new after s free =
      of-state (SyncOf after.back) (FileOf after.back) next s.state (files.Sync (record m { state = s.state })) new s.machine_is (λ c is. is)
      (sync-resumes m.state m old next s.state after s.step free)
  file-resumes (files.Close m) old next new after s free =
      of-state (CloseOf after.back) (FileOf after.back) next s.state (files.Close (record m { state = s.state })) new s.machine_is (λ c is. is)
      (close-resumes m.state m old next s.state after s.step free)
  file-resumes (files.Truncate m) old next new after s free = any-of (FileOf after.back) next _ new s.machine_is (λ c. tt)
  file-resumes (files.Put m) old next new after s free =
      of-state (PutFileOf after.back) (FileOf after.back) next s.machine (files.Put s.machine) new s.machine_is (λ c is. is) (put-resumes m.state m old next s.machine after refl s.step free)

  file-takes : (m : FileMachine) (sent : Turn) (came : Result Reply Fault) (old : Shelf) (next : Step) (new : FileMachine) (after : Shelf) → steps.Takes wsize m sent turn came old next new after
      → IsUnused turn.xid old.back → AskedOf (FileOf after.back) next new
  file-takes (files.Open m) sent came old next new after s free = any-of (FileOf after.back) next _ new s.machine_is (λ c. tt)
  file-takes (files.Read m) sent came old next new after s free = any-of (FileOf after.back) next _ new s.machine_is (λ c. tt)
  file-takes (files.Write m) sent came old next new after s free =
      of-state (WriteOf after.back) (FileOf after.back) next s.state (files.Write (record m { state = s.state })) new s.machine_is (λ c is. is)
      (write-takes m.state m sent came old next s.state after s.step free)
  file-takes (files.Sync m) sent came old next new after s free =
      of-state (SyncOf after.back) (FileOf after.back) next s.state (files.Sync (record m { state = s.state })) new s.machine_is (λ c is. is)
      (sync-takes m.state m sent came old next s.state after s.step free)
  file-takes (files.Close m) sent came old next new after s free =
      of-state (CloseOf after.back) (FileOf after.back) next s.state (files.Close (record m { state = s.state })) new s.machine_is (λ c is. is)
      (close-takes m.state m sent came old next s.state after s.step free)
  file-takes (files.Truncate m) sent came old next new after s free = any-of (FileOf after.back) next _ new s.machine_is (λ c. tt)
  file-takes (files.Put m) sent came old next new after s free =
      of-state (PutFileOf after.back) (FileOf after.back) next s.machine (files.Put s.machine) new s.machine_is (λ c is. is)
      (put-takes m.state m sent came old next s.machine after refl s.step free)

  abbrev PathOf : Pending → PathMachine → Call → Type 0
  PathOf back m call = IsOf turn.xid (flies_path m.arrived m.opener) call back

  path-of : (back : Pending) (m : PathMachine) (opener : Opener) → m.arrived ≡ true → (call : Call) → FileOf back (file_of opener) call → PathOf back (record m { opener = opener }) call
  path-of back m opener at call is = subst (λ (b : Bool). IsOf turn.xid (flies_path b opener) call back) (sym at) is

  path-then : (m : PathMachine) (opener : Opener) (next : Step) (new : PathMachine) (back : Pending) → m.arrived ≡ true → new ≡ record m { opener = opener }
      → AskedOf (FileOf back) next (file_of opener) → AskedOf (PathOf back) next new
  path-then m opener next new back at is a = of-state (FileOf back) (PathOf back) next (file_of opener) (record m { opener = opener }) new is (path-of back m opener at) a

  path-waits : (call : Call) (m : PathMachine) (back : Pending) (next : Step) (new : PathMachine) → m.arrived ≡ false → next ≡ nexts.Send call → new ≡ m → AskedOf (PathOf back) next new
  path-waits call m back next new at is same =
      asked-sends (PathOf back) call next new is
      (subst (λ (k : PathMachine). PathOf back k call) (sym same) (subst (λ (b : Bool). IsOf turn.xid (flies_path b m.opener) call back) (sym at) tt))

  path-follows : (step : WalkStep) (m : PathMachine) (old : Shelf) (next : Step) (new : PathMachine) (after : Shelf) → m.arrived ≡ false → paths.Follows step wsize m turn old next new after
      → IsUnused turn.xid old.back → AskedOf (PathOf after.back) next new
  path-follows (walks.Send call) m old next new after at f free = path-waits call m after.back next new at f.0 f.1
  path-follows walks.Wait m old next new after at f free = asked-waits (PathOf after.back) next new f.0
  path-follows (walks.At dir) m old next new after at f free =
      path-then (record m { opener = placed dir m.opener; arrived = true }) f.opener next new after.back refl f.machine_is
      (file-resumes (file_of (placed dir m.opener)) old next (file_of f.opener) after f.step free)
  path-follows (walks.Refused fault) m old next new after at f free = asked-done (PathOf after.back) _ next new f.0

  path-resumes : (b : Bool) (m : PathMachine) (old : Shelf) (next : Step) (new : PathMachine) (after : Shelf) → m.arrived ≡ b → paths.PathResumes b wsize m turn old next new after
      → IsUnused turn.xid old.back → AskedOf (PathOf after.back) next new
  path-resumes true m old next new after at r free =
      path-then m r.opener next new after.back at r.machine_is (file-resumes (file_of m.opener) old next (file_of r.opener) after r.step free)
  path-resumes false m old next new after at r free =
      path-follows (walking.go_next m.walk turn old) (record m { walk = walking.go_after m.walk turn old }) (walking.go_shelf m.walk turn old) next new after at r free

  path-starts : (taken : Bool) (m : PathMachine) (old : Shelf) (next : Step) (new : PathMachine) (after : Shelf) → paths.StartsIf taken wsize m turn old next new after
      → IsUnused turn.xid old.back → AskedOf (PathOf after.back) next new
  path-starts true m old next new after s free = asked-done (PathOf after.back) _ next new s.0
  path-starts false m old next new after s free = path-resumes m.arrived (record m { opener = begun_at (turn.moment - 1) m.opener }) old next new after refl s free

  path-takes : (b : Bool) (m : PathMachine) (sent : Turn) (came : Result Reply Fault) (old : Shelf) (next : Step) (new : PathMachine) (after : Shelf) → m.arrived ≡ b
      → paths.PathTakes b wsize m sent turn came old next new after → IsUnused turn.xid old.back → AskedOf (PathOf after.back) next new
  path-takes true m sent came old next new after at t free =
      path-then m t.opener next new after.back at t.machine_is (file-takes (file_of m.opener) sent came old next (file_of t.opener) after t.step free)
  path-takes false m sent came old next new after at t free =
      path-follows t.step t.walked t.heard next new after (ap (λ (w : PathMachine). w.arrived) t.walked_is ∙ at) t.follows
      (subst (λ (b : Pending). IsUnused turn.xid b)
      (sym (walk-takes-kept (walking.waiting_name m.walk) m.walk sent turn came old t.step t.walked.walk t.heard t.takes).back) free)

  sends-starts : (m : Machine) (old : Shelf) (next : Step) (new : Machine) (after : Shelf) → Starts wsize m turn old next new after → IsUnused turn.xid old.back
      → AskedOf (MachineOf after.back) next new
  sends-starts (machines.File m) old next new after s free =
      of-state (FileOf after.back) (MachineOf after.back) next s.machine (machines.File s.machine) new s.machine_is (λ c is. is) (file-starts m old next s.machine after s.step free)
  sends-starts (machines.Path m) old next new after s free =
      of-state (PathOf after.back) (MachineOf after.back) next s.machine (machines.Path s.machine) new s.machine_is (λ c is. is)
      (path-starts (slot_taken m.opener old.opens) m old next s.machine after s.step free)
  sends-starts (machines.Name m) old next new after s free = any-of (MachineOf after.back) next (machines.Name s.machine) new s.machine_is (λ c. tt)

  sends-resumes : (m : Machine) (old : Shelf) (next : Step) (new : Machine) (after : Shelf) → Resumes wsize m turn old next new after → IsUnused turn.xid old.back
      → AskedOf (MachineOf after.back) next new
  sends-resumes (machines.File m) old next new after s free =
      of-state (FileOf after.back) (MachineOf after.back) next s.machine (machines.File s.machine) new s.machine_is (λ c is. is) (file-resumes m old next s.machine after s.step free)
  sends-resumes (machines.Path m) old next new after s free =
      of-state (PathOf after.back) (MachineOf after.back) next s.machine (machines.Path s.machine) new s.machine_is (λ c is. is)
      (path-resumes m.arrived m old next s.machine after refl s.step free)
  sends-resumes (machines.Name m) old next new after s free = any-of (MachineOf after.back) next (machines.Name s.machine) new s.machine_is (λ c. tt)

  sends-takes : (m : Machine) (sent : Turn) (came : Result Reply Fault) (old : Shelf) (next : Step) (new : Machine) (after : Shelf) → Takes wsize m sent turn came old next new after
      → IsUnused turn.xid old.back → AskedOf (MachineOf after.back) next new
  sends-takes (machines.File m) sent came old next new after s free =
      of-state (FileOf after.back) (MachineOf after.back) next s.machine (machines.File s.machine) new s.machine_is (λ c is. is)
      (file-takes m sent came old next s.machine after s.step free)
  sends-takes (machines.Path m) sent came old next new after s free =
      of-state (PathOf after.back) (MachineOf after.back) next s.machine (machines.Path s.machine) new s.machine_is (λ c is. is)
      (path-takes m.arrived m sent came old next s.machine after refl s.step free)
  sends-takes (machines.Name m) sent came old next new after s free = any-of (MachineOf after.back) next (machines.Name s.machine) new s.machine_is (λ c. tt)

-- ---- of all files

-- each piece under the xid is what the call writes
abbrev pub AllSentAs : ℕ → Call → Pending → Type 0
AllSentAs xid call back = (file : List ℕ) → EachUnder xid (λ piece. call ≡ saves.write_of file piece) (of_file file back).pieces

abbrev pub SentAs : ℕ → Step → Pending → Type 0
SentAs xid (nexts.Send call) back = AllSentAs xid call back
SentAs xid nexts.Wait back = Unit {0}
SentAs xid (nexts.Done answer) back = Unit {0}

-- what flies for the machine is what its call writes, and nothing else is in flight under its xid
sent-as : (xid : ℕ) (flies : Option (List ℕ)) (call : Call) (back : Pending) → Flies xid flies back → IsOf xid flies call back → AllSentAs xid call back
sent-as xid None call back free is file = each-none xid (λ piece. call ≡ saves.write_of file piece) (of_file file back).pieces (free file)
sent-as xid (Some own) call back f is file = by (same-or own file)
  where
    by : (file ≡ own) ⊎ (file ≢ own) → EachUnder xid (λ piece. call ≡ saves.write_of file piece) (of_file file back).pieces
    by (inl same) = subst (λ (g : List ℕ). EachUnder xid (λ piece. call ≡ saves.write_of g piece) (of_file g back).pieces) (sym same)
        (each-alone xid (λ piece. call ≡ saves.write_of own piece) (of_file own back).pieces f.alone is)
    by (inr apart) = each-none xid (λ piece. call ≡ saves.write_of file piece) (of_file file back).pieces (f.others file apart)

left-sent : (xid : ℕ) (next : Step) (m : Machine) (back : Pending) → LeftAs (λ b. IsUnused xid b) (HasAll (λ b. IsUnused xid b) (Mine xid)) AnyCall next m back
    → AskedOf (λ k call. IsOf xid (flies_of k) call back) next m → SentAs xid next back
left-sent xid (nexts.Send call) m back l a = sent-as xid (flies_of m) call back (has-flies xid back m l.0) a
left-sent xid nexts.Wait m back l a = tt
left-sent xid (nexts.Done answer) m back l a = tt

any-call : (call : Call) → AnyCall call
any-call call = tt

path-free : (xid : ℕ) (b : Bool) (o : Opener) (back : Pending) → IsUnused xid back → PathHas (λ b. IsUnused xid b) (UnusedSave xid) b o back
path-free xid true o back free = has-any (λ b. IsUnused xid b) (UnusedSave xid) (λ s b p. p) (file_of o) back free
path-free xid false o back free = free

all-free : (xid : ℕ) (m : Machine) (back : Pending) → IsUnused xid back → HasAll (λ b. IsUnused xid b) (UnusedSave xid) m back
all-free xid (machines.File m) back free = has-any (λ b. IsUnused xid b) (UnusedSave xid) (λ s b p. p) m back free
all-free xid (machines.Path m) back free = path-free xid m.arrived m.opener back free
all-free xid (machines.Name m) back free = free

module _ (turn : Turn) (wsize : ℕ) where
  pub starts-sent : (m : Machine) (old : Shelf) (next : Step) (new : Machine) (after : Shelf) → IsUnused turn.xid old.back → Starts wsize m turn old next new after
      → SentAs turn.xid next after.back
  starts-sent m old next new after free s =
      left-sent turn.xid next new after.back
      (all-starts wsize turn (λ b. IsUnused turn.xid b) (Mine turn.xid) AnyCall any-call (carries-mine wsize turn) m old next new after free s)
      (sends-starts turn wsize m old next new after s free)

  pub resumes-sent : (m : Machine) (old : Shelf) (next : Step) (new : Machine) (after : Shelf) → IsUnused turn.xid old.back → Resumes wsize m turn old next new after
      → SentAs turn.xid next after.back
  resumes-sent m old next new after free s =
      left-sent turn.xid next new after.back
      (all-resumes wsize turn (λ b. IsUnused turn.xid b) (Mine turn.xid) AnyCall any-call (carries-mine wsize turn) m old next new after free s)
      (sends-resumes turn wsize m old next new after s free)

  pub takes-sent : (m : Machine) (sent : Turn) (came : Result Reply Fault) (old : Shelf) (next : Step) (new : Machine) (after : Shelf) → IsUnused turn.xid old.back
      → Takes wsize m sent turn came old next new after → SentAs turn.xid next after.back
  takes-sent m sent came old next new after free s =
      left-sent turn.xid next new after.back
      (all-takes wsize turn (λ b. IsUnused turn.xid b) (Mine turn.xid) AnyCall any-call (carries-mine wsize turn) sent came (UnusedSave turn.xid)
      (replies-mine wsize sent turn came) m old next new after (all-free turn.xid m old.back free) s)
      (sends-takes turn wsize m sent came old next new after s free)
