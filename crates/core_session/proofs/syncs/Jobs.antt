-- What each step of an operation on a file makes of its save and of what is pending, with the number of the last write and the order of the files.
use Rattle.core_session.proofs.Prelude.{◌≡◌, ◌&&◌, ◌||◌, ◌+◌, ℕ, zero, suc, Bool, true, false, not, List, [], ◌∷◌, position, remove, Option, Some, None, Result, Ok, Err, refl, sym, ap, subst, ◌∙◌, inl, inr, list_any, option_map_or, Wcc, Fault, Call, Reply, last_end, nothing, with_cut, Pending, of_file, OnFile, with_bytes, Opens, IsOpen, LaneFile, Repeat, Shelf, Turn, goes_again, fails_busy, added, left, is_first, is_lane, is_other, Step, CloseFile, Closing, Removal, Opening, OpeningStep, PutFile, Putting, Saving, SyncFile, Syncing, TruncateFile, Truncating, WriteFile, Writing, is_full, GivesUpBy, closed_answer, remove_of, remove_busy, TellsOpen, file_to_write, is_quiet, file_at, joined, by-step, ends_as, FileMachine, EndsSo}
use Rattle.file_ops.specs.Closings.{GivesIf}
use Rattle.world_model.specs.declared.answer.Answer.TheVariants as answers
use Rattle.world_model.specs.declared.answer.Value.TheVariants.{Nothing}
use Rattle.client_shelf.specs.declared.step.Step.TheVariants as nexts
use Rattle.file_ops.specs.declared.close_file.Closing.TheVariants as closing
use Rattle.file_ops.specs.declared.opening.OpeningStep.TheVariants as openings
use Rattle.file_ops.specs.declared.put_file.Putting.TheVariants as putting
use Rattle.file_ops.specs.declared.sync_file.Syncing.TheVariants as syncing
use Rattle.file_ops.specs.declared.truncate_file.Truncating.TheVariants as truncating
use Rattle.file_ops.specs.declared.write_file.Writing.TheVariants as writing
use Rattle.file_ops.specs.OpenFile as opens
use Rattle.file_ops.specs.Opening as opening
use Rattle.file_ops.specs.Closes as closes
use Rattle.file_ops.specs.PutFile as puts
use Rattle.file_ops.specs.Saves as saves
use Rattle.file_ops.specs.Syncs as syncs
use Rattle.file_ops.specs.TruncateFile as truncates
use Rattle.file_ops.specs.WriteFile as writes
use Rattle.op_machines.specs.declared.file_machine.FileMachine.TheVariants as files
use Rattle.op_machines.specs.FileSteps as steps
use Rattle.core_answers.proofs.paths.Endings.{goes-not}
use Rattle.core_session.proofs.drops.SaveFiles.{goes-save, takes-save}

-- what is said of the number of the last write, of what is pending, and of the order of the files
abbrev pub Fact : Type 1
Fact = ℕ → Pending → List LaneFile → Type 0

abbrev pub At : Fact → Shelf → Type 0
At P s = P s.seq s.back s.order

-- ---- what is carried through a step of a save

-- Of a save that goes on L; where it ended P, of its file B, and X where it ended well.
abbrev pub Out : Fact → (Saving → Fact) → Type 0 → (List ℕ → Type 0) → Step → Saving → Fact
Out P L X B (nexts.Send call) new q b o = L new q b o
Out P L X B nexts.Wait new q b o = L new q b o
Out P L X B (nexts.Done (answers.Done value)) new q b o = P q b o × X × B new.file
Out P L X B (nexts.Done (answers.Refused fault)) new q b o = P q b o × B new.file

-- Saves of files of which B holds: P before and after one; K of one that waits for its turn or is under way, as a step of it begins, and L as it ends.
pub record Level (wsize lane : ℕ) (turn : Turn) (P : Fact) (K L : Saving → Fact) (X : Type 0) (B : List ℕ → Type 0) : Type 0 where
  pub rests : (s : Saving) (q : ℕ) (b : Pending) (o : List LaneFile) → K s q b o → L s q b o
  pub joins : (file : List ℕ) (q : ℕ) (b : Pending) (o : List LaneFile) → B file → P q b o → K (saves.begun file q) q b (added (record { lane = lane; file = file }) (left lane o))
  pub leaves : (q : ℕ) (b : Pending) (o : List LaneFile) → P q b o → P q b (left lane o)
  pub goes : (s : Saving) (q : ℕ) (b : Pending) (o : List LaneFile) (next : _) (new : Saving) (after : Pending) → is_first lane o ≡ true
      → saves.Goes wsize turn.xid turn.room false s b next new after → K s q b o → Out P L X B (syncs.sync_next next) new q after o
  pub clear : (s : Saving) (q : ℕ) (b : Pending) (o : List LaneFile) → last_end (of_file s.file b).segments ≡ None → K s q b o → P q b o × X × B s.file

-- where what came of a call of the save is taken, of which N holds
pub record Replies (wsize : ℕ) (sent turn : Turn) (came : Result Reply Fault) (N : Saving → Pending → Type 0) (P : Fact) (K L : Saving → Fact) (X : Type 0) (B : List ℕ → Type 0) : Type 0 where
  pub takes : (repeats later : List Repeat) (s : Saving) (q : ℕ) (b : Pending) (o : List LaneFile) (next : _) (new : Saving) (after : Pending)
      → saves.Takes wsize sent turn came repeats s b next new after later → N s b → K s q b o → Out P L X B (syncs.sync_next next) new q after o

-- Bytes of which A holds come in, in a step of which W is known: then PA holds, and Y.
pub record Adds (A : List ℕ → ℕ → List ℕ → Type 0) (W : Type 0) (P PA : Fact) (Y : Type 0) : Type 0 where
  pub adds : (file : List ℕ) (offset : ℕ) (bytes : List ℕ) (q : ℕ) (b after : Pending) (o : List LaneFile) → W → A file offset bytes → is_full bytes b ≡ false
      → OnFile b after file (with_bytes offset bytes (q + 1) (of_file file b)) → P q b o → PA (q + 1) after o × Y

-- what is pending of a file is given up at a refusal, or cut
pub record Gives (next : Step) (final : Opens) (B : List ℕ → Type 0) (P R : Fact) : Type 0 where
  pub gives : (file : List ℕ) (fault : Fault) (q : ℕ) (b after : Pending) (o : List LaneFile) → next ≡ nexts.Done (answers.Refused fault) → B file → (IsOpen final file → ⊥)
      → is_quiet file b ≡ true
      → OnFile b after file nothing → P q b o → R q after o
  pub same : (q : ℕ) (b : Pending) (o : List LaneFile) → P q b o → R q b o

-- a put gives up what is pending of its file where it is the first in the order there, S says where it stands, and no other put is at the file
pub record GivesAlone (lane : ℕ) (next : Step) (final : Shelf) (S : List ℕ → List LaneFile → Type 0) (R : Fact) : Type 0 where
  pub gives : (file : List ℕ) (fault : Fault) (q : ℕ) (b after : Pending) (o : List LaneFile) → next ≡ nexts.Done (answers.Refused fault) → S file o → is_first lane o ≡ true
      → (IsOpen final.opens file → ⊥) → list_any (is_other lane file) final.puts ≡ false → is_quiet file b ≡ true → OnFile b after file nothing → R q b o → R q after o

pub record Shortens (lane : ℕ) (C : List ℕ → ℕ → ℕ → Type 0) (P R : Fact) : Type 0 where
  pub cuts : (file : List ℕ) (size upto q : ℕ) (b after : Pending) (o : List LaneFile) → C file size upto → is_quiet file b ≡ true → OnFile b after file (with_cut size upto (of_file file b))
      → P q b o → R q after o
  pub uncut : (q : ℕ) (b : Pending) (o : List LaneFile) → P q b o → R q b o
  pub joins_in : (file : List ℕ) (q : ℕ) (b : Pending) (o : List LaneFile) → P q b o → P q b (added (record { lane = lane; file = file }) (left lane o))
  pub leaves_it : (q : ℕ) (b : Pending) (o : List LaneFile) → R q b o → R q b (left lane o)

-- where no place passes, none does of those that are left
or-false : (a b : Bool) → (a || b) ≡ false → (a ≡ false) × (b ≡ false)
or-false true b is = absurd (let no_way : true ≡ false = is in cc)
or-false false b is = (refl, is)

false-or : (a b : Bool) → a ≡ false → b ≡ false → (a || b) ≡ false
false-or true b is then_ = absurd (let no_way : true ≡ false = is in cc)
false-or false b is then_ = then_

none-removed : (p : LaneFile → Bool) (ps : List LaneFile) (at : ℕ) → list_any p ps ≡ false → list_any p (remove ps at) ≡ false
none-removed p [] zero none = none
none-removed p [] (suc at) none = none
none-removed p (q ∷ ps) zero none = (or-false (p q) (list_any p ps) none).1
none-removed p (q ∷ ps) (suc at) none =
    let n = or-false (p q) (list_any p ps) none in
    false-or (p q) (list_any p (remove ps at)) n.0 (none-removed p ps at n.1)

none-left : (lane : ℕ) (p : LaneFile → Bool) (ps : List LaneFile) → list_any p ps ≡ false → list_any p (left lane ps) ≡ false
none-left lane p ps none = by (position (is_lane lane) ps)
  where
    by : (o : Option ℕ) → list_any p (option_map_or (λ at. remove ps at) o ps) ≡ false
    by None = none
    by (Some at) = none-removed p ps at none

shelf-at : (P : Fact) (old new : Shelf) → new ≡ old → At P old → At P new
shelf-at P old new is p = subst (At P) (sym is) p

pub at-as : (P : Fact) (q : ℕ) (b : Pending) (o : List LaneFile) (new : Shelf) → new.seq ≡ q → new.back ≡ b → new.order ≡ o → P q b o → At P new
at-as P q b o new is back order p =
    subst (λ (n : ℕ). P n new.back new.order) (sym is) (subst (λ (z : Pending). P q z new.order) (sym back) (subst (λ (l : List LaneFile). P q b l) (sym order) p))

-- ---- syncs and closes: P before and after, X where they went well

abbrev pub SyncHas : Fact → (Saving → Fact) → Syncing → Fact
SyncHas P K syncing.Idle q b o = P q b o
SyncHas P K (syncing.Saves s) q b o = K s q b o

abbrev pub CloseHas : Fact → (Saving → Fact) → Type 0 → (List ℕ → Type 0) → Closing → Fact
CloseHas P K X B closing.Idle q b o = P q b o
CloseHas P K X B (closing.Queued s) q b o = K s q b o
CloseHas P K X B (closing.Saves s) q b o = K s q b o
CloseHas P K X B (closing.ToRemove r) q b o = P q b o × (r.refusal ≡ None → X) × B r.file
CloseHas P K X B (closing.Removing r) q b o = P q b o × (r.refusal ≡ None → X) × B r.file

-- what a step leads to: H of the state that goes on; P and X at a good end, and R at a refusal
abbrev pub Fin : {S : Type 0} → Fact → Fact → (S → Fact) → Type 0 → Step → S → Fact
Fin P R H X (nexts.Send call) state q b o = H state q b o
Fin P R H X nexts.Wait state q b o = H state q b o
Fin P R H X (nexts.Done (answers.Done value)) state q b o = P q b o × X
Fin P R H X (nexts.Done (answers.Refused fault)) state q b o = R q b o

abbrev pub FinAt : {S : Type 0} → Fact → Fact → (S → Fact) → Type 0 → Step → S → Shelf → Type 0
FinAt P R H X next state s = Fin P R H X next state s.seq s.back s.order

to-wait : {S : Type 0} → (P R : Fact) (H : S → Fact) (X : Type 0) (next : Step) (state to : S) (old new : Shelf) → next ≡ nexts.Wait → state ≡ to → new ≡ old → At (H to) old → FinAt P R H X next state new
to-wait P R H X next state to old new n s o h = rw (n, s, o) h

to-send : {S : Type 0} → (P R : Fact) (H : S → Fact) (X : Type 0) (call : Call) (next : Step) (state to : S) (old new : Shelf) → next ≡ nexts.Send call → state ≡ to → new ≡ old → At (H to) old
    → FinAt P R H X next state new
to-send P R H X call next state to old new n s o h = rw (n, s, o) h

to-refused : {S : Type 0} → (P R : Fact) (H : S → Fact) (X : Type 0) (fault : Fault) (next : Step) (state : S) (new : Shelf) → next ≡ nexts.Done (answers.Refused fault) → At R new → FinAt P R H X next state new
to-refused P R H X fault next state new n p = rw n p

to-good : {S : Type 0} → (P R : Fact) (H : S → Fact) (X : Type 0) (next : Step) (state : S) (new : Shelf) → next ≡ nexts.Done (answers.Done Nothing) → At P new → X → FinAt P R H X next state new
to-good P R H X next state new n p x = rw n (p, x)

module _ (wsize : ℕ) (turn : Turn) (P R : Fact) (down : (q : ℕ) (b : Pending) (o : List LaneFile) → P q b o → R q b o) (K L : Saving → Fact) (X : Type 0) (B : List ℕ → Type 0) where
  module _ (lane : ℕ) (w : Level wsize lane turn P K L X B) where
    sync-as : (gives : _) (saved : Saving) (old : Shelf) (next : Step) (state : Syncing) (new : Shelf) → syncs.Follows lane gives saved old.order next state new.order → new.seq ≡ old.seq
        → Out P L X B (syncs.sync_next gives) saved old.seq new.back old.order → FinAt P R (SyncHas P L) X next state new
    sync-as gives saved old next state new f q l = by-step
        (λ g. syncs.Follows lane g saved old.order next state new.order → Out P L X B (syncs.sync_next g) saved old.seq new.back old.order → FinAt P R (SyncHas P L) X next state new)
        (λ call f l. rw (f.next_is, f.state_is, f.order_is, q) l) (λ f l. rw (f.next_is, f.state_is, f.order_is, q) l) ended gives f l
      where
        ended : (result : Result (Unit {0}) Fault) → syncs.Follows lane (ends_as result) saved old.order next state new.order → Out P L X B (syncs.sync_next (ends_as result)) saved old.seq new.back old.order
            → FinAt P R (SyncHas P L) X next state new
        ended (Ok done) f l =
            to-good P R (SyncHas P L) X next state new f.next_is (at-as P old.seq new.back (left lane old.order) new q refl f.order_is (w.leaves old.seq new.back old.order l.0)) l.1
        ended (Err fault) f l =
            to-refused P R (SyncHas P L) X fault next state new f.next_is (at-as R old.seq new.back (left lane old.order) new q refl f.order_is (down old.seq new.back (left lane old.order) (w.leaves old.seq new.back old.order l.0)))

    sync-queues : (b : Bool) → (s : Saving) (old : Shelf) (next : Step) (state : Syncing) (new : Shelf) → is_first lane old.order ≡ b → syncs.QueuesIf b wsize lane turn s old next state new → At (K s) old
        → FinAt P R (SyncHas P L) X next state new
    sync-queues true s old next state new first g h =
        sync-as g.gives g.saved old next state new g.follows (ap (λ (z : Shelf). z.seq) g.others) (w.goes s old.seq old.back old.order g.gives g.saved new.back first g.goes h)
    sync-queues false s old next state new first g h = to-wait P R (SyncHas P L) X next state (syncing.Saves s) old new g.next_is g.state_is g.shelf_is (w.rests s old.seq old.back old.order h)

  sync-starts : (m : SyncFile) (old : Shelf) (next : Step) (state : Syncing) (new : Shelf) → Level wsize m.lane turn P K L X B
      → ((file : List ℕ) → file_at m.lane m.slot old.opens ≡ Some file → B file) → syncs.Starts wsize m turn old next state new → At P old → FinAt P R (SyncHas P L) X next state new
  sync-starts m old next state new w begins s p = by (file_at m.lane m.slot old.opens) refl s
    where
      by : (found : Option (List ℕ)) → file_at m.lane m.slot old.opens ≡ found → syncs.StartsAt found wsize m turn old next state new → FinAt P R (SyncHas P L) X next state new
      by None is s = to-refused P R (SyncHas P L) X _ next state new s.next_is (shelf-at R old new s.shelf_is (down old.seq old.back old.order p))
      by (Some file) is s =
          sync-queues m.lane w (is_first m.lane (joined m.lane file old).order) (saves.begun file old.seq) (joined m.lane file old) next state new refl s
          (w.joins file old.seq old.back old.order (begins file is) p)

  sync-resumes : (at : Syncing) (m : SyncFile) (old : Shelf) (next : Step) (state : Syncing) (new : Shelf) → Level wsize m.lane turn P K L X B → syncs.Resumes at wsize m turn old next state new
      → At (SyncHas P K at) old → FinAt P R (SyncHas P L) X next state new
  sync-resumes syncing.Idle m old next state new w r h = to-wait P R (SyncHas P L) X next state syncing.Idle old new r.next_is r.state_is r.shelf_is h
  sync-resumes (syncing.Saves s) m old next state new w r h = sync-queues m.lane w (is_first m.lane old.order) s old next state new refl r h

  sync-takes : (sent : Turn) (came : Result Reply Fault) (N : Saving → Pending → Type 0) → Replies wsize sent turn came N P K L X B → (at : Syncing) (m : SyncFile) (old : Shelf) (next : Step)
      (state : Syncing) (new : Shelf) → Level wsize m.lane turn P K L X B → syncs.Takes at wsize m sent turn came old next state new
      → ((s : Saving) → at ≡ syncing.Saves s → N s old.back) → At (SyncHas P K at) old → FinAt P R (SyncHas P L) X next state new
  sync-takes sent came N v syncing.Idle m old next state new w t n h = to-wait P R (SyncHas P L) X next state syncing.Idle old new t.next_is t.state_is t.shelf_is h
  sync-takes sent came N v (syncing.Saves s) m old next state new w t n h =
      sync-as m.lane w t.gives t.saved old next state new t.follows (ap (λ (z : Shelf). z.seq) t.others)
      (v.takes old.repeats new.repeats s old.seq old.back old.order t.gives t.saved new.back t.takes (n s refl) h)

  -- ---- closes

  module _ (next : Step) (final : Opens) (g : Gives next final B P R) where
    given-if : (quiet b : Bool) (file : List ℕ) (fault : Fault) (q : ℕ) (old new : Pending) (o : List LaneFile) → next ≡ nexts.Done (answers.Refused fault) → B file
        → (b ≡ true → IsOpen final file → ⊥) → is_quiet file old ≡ quiet
        → GivesIf (b && quiet) file old new → P q old o → R q new o
    given-if true true file fault q old new o n at shut is given p = g.gives file fault q old new o n at (shut refl) is given p
    given-if true false file fault q old new o n at shut is given p = subst (λ (z : Pending). R q z o) (sym given) (g.same q old o p)
    given-if false true file fault q old new o n at shut is given p = subst (λ (z : Pending). R q z o) (sym given) (g.same q old o p)
    given-if false false file fault q old new o n at shut is given p = subst (λ (z : Pending). R q z o) (sym given) (g.same q old o p)

    given-by : (refusal : Option Fault) (file : List ℕ) (slots : Opens) (q : ℕ) (old new : Pending) (o : List LaneFile) → next ≡ nexts.Done (closed_answer refusal) → B file → slots ≡ final
        → GivesUpBy refusal file slots old new → P q old o → R q new o
    given-by None file slots q old new o n at same given p = subst (λ (z : Pending). R q z o) (sym given) (g.same q old o p)
    given-by (Some fault) file slots q old new o n at same given p =
        given-if (is_quiet file old) (not given.is_open) file fault q old new o n at (λ is. told-shut given.is_open is given.told) refl given.back p
      where
        told-shut : (b : Bool) → not b ≡ true → TellsOpen slots file b → IsOpen final file → ⊥
        told-shut true is t open_ = absurd (let no_way : false ≡ true = is in cc)
        told-shut false is t open_ = t (subst (λ (z : Opens). IsOpen z file) (sym same) open_)

    -- where the step leads, with the table of opens at its end
    abbrev CloseFin : Closing → Shelf → Type 0
    CloseFin state new = new.opens ≡ final → FinAt P R (CloseHas P L X B) X next state new

    module _ (lane : ℕ) (w : Level wsize lane turn P K L X B) where
      close-ends : (file : List ℕ) (refusal : Option Fault) (old : Shelf) (state : Closing) (new : Shelf) → closes.Ends lane file refusal old next state new → B file → (refusal ≡ None → X) → At P old
          → CloseFin state new
      close-ends file refusal old state new e at good p = by refusal refl e.next_is e.back
        where
          left-it : P old.seq old.back (left lane old.order)
          left-it = w.leaves old.seq old.back old.order p

          by : (r : Option Fault) → refusal ≡ r → next ≡ nexts.Done (closed_answer r) → GivesUpBy r file old.opens old.back new.back → CloseFin state new
          by None is n back =
              λ fin. to-good P R (CloseHas P L X B) X next state new n
              (at-as P old.seq old.back (left lane old.order) new (ap (λ (z : Shelf). z.seq) e.others) back (ap (λ (z : Shelf). z.order) e.others) left-it) (good is)
          by (Some fault) is n back =
              λ fin. to-refused P R (CloseHas P L X B) X fault next state new n
              (at-as R old.seq new.back (left lane old.order) new (ap (λ (z : Shelf). z.seq) e.others) refl (ap (λ (z : Shelf). z.order) e.others)
              (given-by (Some fault) file old.opens old.seq old.back new.back (left lane old.order) n at (sym (ap (λ (z : Shelf). z.opens) e.others) ∙ fin) back left-it))

      close-asks : (b : Bool) (r : Removal) (old : Shelf) (state : Closing) (new : Shelf) → closes.Asks b r old next state new → At P old × (r.refusal ≡ None → X) × B r.file
          → CloseFin state new
      close-asks true r old state new a h = λ fin. to-send P R (CloseHas P L X B) X (remove_of r) next state (closing.Removing r) old new a.next_is a.state_is a.shelf_is h
      close-asks false r old state new a h = λ fin. to-wait P R (CloseHas P L X B) X next state (closing.ToRemove r) old new a.next_is a.state_is a.shelf_is h

      close-frees : (slot : ℕ) (file : List ℕ) (refusal : Option Fault) (old : Shelf) (state : Closing) (new : Shelf) → closes.Frees lane slot turn.room file refusal old next state new
          → B file → (refusal ≡ None → X) → At P old → CloseFin state new
      close-frees slot file refusal old state new f at good p = by f.place f.ends
        where
          freed : At P f.freed
          freed = at-as P old.seq old.back old.order f.freed (ap (λ (z : Shelf). z.seq) f.slot_is) (ap (λ (z : Shelf). z.back) f.slot_is) (ap (λ (z : Shelf). z.order) f.slot_is) p

          by : (place : Option (List ℕ × List ℕ)) → closes.EndsAt place lane turn.room file refusal f.freed next state new → CloseFin state new
          by None e = close-ends file refusal f.freed state new e at good freed
          by (Some place) e = close-asks turn.room (record { file = file; dir = place.0; name = place.1; refusal = refusal }) f.freed state new e (freed, good, at)

      none-some : (fault : Fault) → Some fault ≡ None → X
      none-some fault e = absurd (cc)

      close-follows : (gives : _) (slot : ℕ) (begun : Bool) (saved : Saving) (old : Shelf) (state : Closing) (new : Shelf)
          → closes.Follows gives lane slot turn.room begun saved old next state new → Out P L X B (syncs.sync_next gives) saved old.seq old.back old.order → CloseFin state new
      close-follows gives slot begun saved old state new f l = by-step
          (λ g. closes.Follows g lane slot turn.room begun saved old next state new → Out P L X B (syncs.sync_next g) saved old.seq old.back old.order → CloseFin state new)
          (λ call f l. λ fin. to-send P R (CloseHas P L X B) X call next state (closing.Saves saved) old new f.0 f.1 f.2 l) (λ f l. waits begun f.0 f.1 f.2 l) ended gives f l
        where
          waits : (b : Bool) → next ≡ nexts.Wait → state ≡ closes.waits_as b saved → new ≡ old → At (L saved) old → CloseFin state new
          waits true n s o h = λ fin. to-wait P R (CloseHas P L X B) X next state (closing.Saves saved) old new n s o h
          waits false n s o h = λ fin. to-wait P R (CloseHas P L X B) X next state (closing.Queued saved) old new n s o h

          ended : (result : Result (Unit {0}) Fault) → closes.Follows (ends_as result) lane slot turn.room begun saved old next state new
              → Out P L X B (syncs.sync_next (ends_as result)) saved old.seq old.back old.order → CloseFin state new
          ended (Ok done) f l = close-frees slot saved.file None old state new f l.2 (λ is. l.1) l.0
          ended (Err fault) f l = close-frees slot saved.file (Some fault) old state new f l.1 (none-some fault) l.0

      close-on : (slot : ℕ) (begun : Bool) (s : Saving) (old : Shelf) (state : Closing) (new : Shelf) → is_first lane old.order ≡ true → closes.GoesOn wsize lane slot turn begun s old next state new
          → At (K s) old → CloseFin state new
      close-on slot begun s old state new first k h =
          close-follows k.gives slot begun k.saved k.gone state new k.follows
          (at-as (Out P L X B (syncs.sync_next k.gives) k.saved) old.seq k.gone.back old.order k.gone (ap (λ (z : Shelf). z.seq) k.others) refl (ap (λ (z : Shelf). z.order) k.others)
          (w.goes s old.seq old.back old.order k.gives k.saved k.gone.back first k.goes h))

      close-queues : (b : Bool) (slot : ℕ) (s : Saving) (old : Shelf) (state : Closing) (new : Shelf) → is_first lane old.order ≡ b → closes.QueuesIf b wsize lane slot turn s old next state new
          → At (K s) old → CloseFin state new
      close-queues false slot s old state new first k h = λ fin. to-wait P R (CloseHas P L X B) X next state (closing.Queued s) old new k.next_is k.state_is k.shelf_is (w.rests s old.seq old.back old.order h)
      close-queues true slot s old state new first k h = by (last_end (of_file s.file old.back).segments) refl k
        where
          by : (end : Option ℕ) → last_end (of_file s.file old.back).segments ≡ end → closes.Begins end wsize lane slot turn s old next state new → CloseFin state new
          by None is k = let c = w.clear s old.seq old.back old.order is h in close-frees slot s.file None old state new k c.2 (λ none. c.1) c.0
          by (Some end) is k = close-on slot false s old state new first k h

    close-starts : (m : CloseFile) (old : Shelf) (state : Closing) (new : Shelf) → Level wsize m.lane turn P K L X B → ((file : List ℕ) → file_at m.lane m.slot old.opens ≡ Some file → B file)
        → closes.Starts wsize m turn old next state new → At P old → CloseFin state new
    close-starts m old state new w begins s p = by (file_at m.lane m.slot old.opens) refl s
      where
        by : (found : Option (List ℕ)) → file_at m.lane m.slot old.opens ≡ found → closes.StartsAt found wsize m turn old next state new → CloseFin state new
        by None is s = λ fin. to-refused P R (CloseHas P L X B) X _ next state new s.next_is (shelf-at R old new s.shelf_is (down old.seq old.back old.order p))
        by (Some file) is s =
            close-queues m.lane w (is_first m.lane (joined m.lane file old).order) m.slot (saves.begun file old.seq) (joined m.lane file old) state new refl s
            (w.joins file old.seq old.back old.order (begins file is) p)

    close-resumes : (at : Closing) (m : CloseFile) (old : Shelf) (state : Closing) (new : Shelf) → Level wsize m.lane turn P K L X B → closes.Resumes at wsize m turn old next state new
        → At (CloseHas P K X B at) old → CloseFin state new
    close-resumes closing.Idle m old state new w r h = λ fin. to-wait P R (CloseHas P L X B) X next state closing.Idle old new r.next_is r.state_is r.shelf_is h
    close-resumes (closing.Queued s) m old state new w r h = close-queues m.lane w (is_first m.lane old.order) m.slot s old state new refl r h
    close-resumes (closing.Saves s) m old state new w r h = by (is_first m.lane old.order) refl r
      where
        by : (b : Bool) → is_first m.lane old.order ≡ b → closes.GoesOnIf b wsize m.lane m.slot turn s old next state new → CloseFin state new
        by true first k = close-on m.lane w m.slot true s old state new first k h
        by false first k = λ fin. to-wait P R (CloseHas P L X B) X next state (closing.Saves s) old new k.next_is k.state_is k.shelf_is (w.rests s old.seq old.back old.order h)
    close-resumes (closing.ToRemove r) m old state new w k h = close-asks m.lane w turn.room r old state new k h
    close-resumes (closing.Removing r) m old state new w k h = λ fin. to-wait P R (CloseHas P L X B) X next state (closing.Removing r) old new k.next_is k.state_is k.shelf_is h

    close-takes : (sent : Turn) (came : Result Reply Fault) (N : Saving → Pending → Type 0) → Replies wsize sent turn came N P K L X B → (at : Closing) (m : CloseFile) (old : Shelf)
        (state : Closing) (new : Shelf) → Level wsize m.lane turn P K L X B → closes.Takes at wsize m sent turn came old next state new
        → ((s : Saving) → at ≡ closing.Saves s → N s old.back) → At (CloseHas P K X B at) old → CloseFin state new
    close-takes sent came N v closing.Idle m old state new w t n h = λ fin. to-wait P R (CloseHas P L X B) X next state closing.Idle old new t.next_is t.state_is t.shelf_is h
    close-takes sent came N v (closing.Queued s) m old state new w t n h = λ fin. to-wait P R (CloseHas P L X B) X next state (closing.Queued s) old new t.next_is t.state_is t.shelf_is (w.rests s old.seq old.back old.order h)
    close-takes sent came N v (closing.ToRemove r) m old state new w t n h = λ fin. to-wait P R (CloseHas P L X B) X next state (closing.ToRemove r) old new t.next_is t.state_is t.shelf_is h
    close-takes sent came N v (closing.Saves s) m old state new w t n h =
        close-follows m.lane w t.gives m.slot true t.saved t.took state new t.follows
        (at-as (Out P L X B (syncs.sync_next t.gives) t.saved) old.seq t.took.back old.order t.took (ap (λ (z : Shelf). z.seq) t.others) refl (ap (λ (z : Shelf). z.order) t.others)
        (v.takes old.repeats t.took.repeats s old.seq old.back old.order t.gives t.saved t.took.back t.takes (n s refl) h))
    close-takes sent came N v (closing.Removing r) m old state new w t n h = by (goes_again (remove_busy came) sent turn old.repeats) t.ends
      where
        took : At P t.took
        took = at-as P old.seq old.back old.order t.took (ap (λ (z : Shelf). z.seq) t.others) (ap (λ (z : Shelf). z.back) t.others) (ap (λ (z : Shelf). z.order) t.others) h.0

        by : (b : Bool) → closes.EndsIf b m.lane r t.took next state new → CloseFin state new
        by true e = λ fin. to-send P R (CloseHas P L X B) X (remove_of r) next state (closing.Removing r) t.took new e.next_is e.state_is e.shelf_is (took, h.1, h.2)
        by false e = close-ends m.lane w r.file r.refusal t.took state new e h.2 h.1 took

-- ---- writes and fills: P before its bytes came in, PA afterwards, and Y

abbrev pub RoomHas : Fact → (Saving → Fact) → (List ℕ → ℕ → List ℕ → Type 0) → ℕ → List ℕ → Writing → Fact
RoomHas P K A offset bytes writing.Idle q b o = P q b o
RoomHas P K A offset bytes (writing.Room file s) q b o = K s q b o × A file offset bytes

abbrev pub NoFile : List ℕ → Type 0
NoFile file = Unit {0}

-- N: where a refused one stands in the order
abbrev pub WriteFin : Fact → (List LaneFile → Type 0) → Fact → (Writing → Fact) → Type 0 → Step → Writing → Fact
WriteFin P N PA H Y (nexts.Send call) state q b o = H state q b o
WriteFin P N PA H Y nexts.Wait state q b o = H state q b o
WriteFin P N PA H Y (nexts.Done (answers.Done value)) state q b o = PA q b o × Y
WriteFin P N PA H Y (nexts.Done (answers.Refused fault)) state q b o = P q b o × N o

abbrev pub WriteFinAt : Fact → (List LaneFile → Type 0) → Fact → (Writing → Fact) → Type 0 → Step → Writing → Shelf → Type 0
WriteFinAt P N PA H Y next state s = WriteFin P N PA H Y next state s.seq s.back s.order

abbrev pub AnyPlace : List LaneFile → Type 0
AnyPlace o = Unit {0}

module _ (wsize : ℕ) (turn : Turn) (P : Fact) (K L : Saving → Fact) (PA : Fact) (A : List ℕ → ℕ → List ℕ → Type 0) (W : Type 0) (Y : Type 0) (offset : ℕ) (bytes : List ℕ)
    (a : Adds A W P PA Y) (lane : ℕ) (w : Level wsize lane turn P K L (Unit {0}) NoFile) (Off : List LaneFile → Type 0) (out : (q : ℕ) (b : Pending) (o : List LaneFile) → P q b o → Off (left lane o)) where
  abbrev Has : Writing → Fact
  Has state = RoomHas P L A offset bytes state

  abbrev Had : Writing → Fact
  Had state = RoomHas P K A offset bytes state

  write-wait : (next : Step) (state to : Writing) (old new : Shelf) → next ≡ nexts.Wait → state ≡ to → new ≡ old → At (Has to) old → WriteFinAt P Off PA Has Y next state new
  write-wait next state to old new n s o h = rw (n, s, o) h

  write-refused : (fault : Fault) (next : Step) (state : Writing) (new : Shelf) → next ≡ nexts.Done (answers.Refused fault) → At P new → Off new.order → WriteFinAt P Off PA Has Y next state new
  write-refused fault next state new n p away = rw n (p, away)

  room-as : (told : _) (file : List ℕ) (saved : Saving) (shelf : Shelf) (next : Step) (state : Writing) (after : Shelf)
      → writes.Leads (writes.room_next told) (writes.room_state told file saved) (writes.room_shelf told lane shelf) next state after → A file offset bytes
      → EndsSo ⊥ (syncs.sync_next told) → At (Out P L (Unit {0}) NoFile (syncs.sync_next told) saved) shelf → WriteFinAt P Off PA Has Y next state after
  room-as told file saved shelf next state after r given on l = by-step
      (λ t. writes.Leads (writes.room_next t) (writes.room_state t file saved) (writes.room_shelf t lane shelf) next state after → EndsSo ⊥ (syncs.sync_next t)
      → At (Out P L (Unit {0}) NoFile (syncs.sync_next t) saved) shelf → WriteFinAt P Off PA Has Y next state after)
      (λ call r on l. rw (r.gives_next, r.keeps, r.shelf_is) (l, given))
      (λ r on l. write-wait next state (writing.Room file saved) shelf after r.gives_next r.keeps r.shelf_is (l, given)) ended told r on l
    where
      ended : (result : Result (Unit {0}) Fault)
          → writes.Leads (writes.room_next (ends_as result)) (writes.room_state (ends_as result) file saved) (writes.room_shelf (ends_as result) lane shelf) next state after
          → EndsSo ⊥ (syncs.sync_next (ends_as result)) → At (Out P L (Unit {0}) NoFile (syncs.sync_next (ends_as result)) saved) shelf → WriteFinAt P Off PA Has Y next state after
      ended (Ok done) r on l = absurd on
      ended (Err fault) r on l =
          write-refused fault next state after r.gives_next
          (at-as P shelf.seq shelf.back (left lane shelf.order) after (ap (λ (z : Shelf). z.seq) r.shelf_is) (ap (λ (z : Shelf). z.back) r.shelf_is) (ap (λ (z : Shelf). z.order) r.shelf_is)
          (w.leaves shelf.seq shelf.back shelf.order l.0))
          (subst Off (sym (ap (λ (z : Shelf). z.order) r.shelf_is)) (out shelf.seq shelf.back shelf.order l.0))

  write-saves : (b : Bool) (file : List ℕ) (s : Saving) (shelf : Shelf) (next : Step) (state : Writing) (after : Shelf) → is_first lane shelf.order ≡ b
      → writes.SavesIf b wsize lane file s turn shelf next state after → A file offset bytes → At (K s) shelf → WriteFinAt P Off PA Has Y next state after
  write-saves false file s shelf next state after first r given h =
      write-wait next state (writing.Room file s) shelf after r.gives_next r.keeps r.shelf_is (w.rests s shelf.seq shelf.back shelf.order h, given)
  write-saves true file s shelf next state after first r given h =
      room-as r.told file r.saved (record shelf { back = r.back }) next state after r.leads given
      (goes-not wsize turn.xid turn.room s shelf.back r.told r.saved r.back r.goes)
      (w.goes s shelf.seq shelf.back shelf.order r.told r.saved r.back first r.goes h)

  write-writes : (file : List ℕ) (shelf : Shelf) (next : Step) (state : Writing) (after : Shelf) → A file offset bytes → (next ≡ nexts.Done (answers.Done Nothing) → W)
      → Off shelf.order → writes.Writes wsize lane file offset bytes turn shelf next state after → At P shelf → WriteFinAt P Off PA Has Y next state after
  write-writes file shelf next state after given end away wrote p = by (is_full bytes shelf.back) refl wrote
    where
      good : (answer : Step) → next ≡ nexts.Done (answers.Done Nothing) → At PA after × Y → WriteFinAt P Off PA Has Y next state after
      good answer n l = rw n l

      by : (b : Bool) → is_full bytes shelf.back ≡ b → writes.WritesIf b wsize lane file offset bytes turn shelf next state after → WriteFinAt P Off PA Has Y next state after
      by true full (inl s) =
          write-saves (is_first lane (joined lane s.of shelf).order) file (saves.begun s.of shelf.seq) (joined lane s.of shelf) next state after refl s.saves given
          (w.joins s.of shelf.seq shelf.back shelf.order tt p)
      by true full (inr s) = write-refused _ next state after s.1.gives_next (shelf-at P shelf after s.1.shelf_is p) (subst Off (sym (ap (λ (z : Shelf). z.order) s.1.shelf_is)) away)
      by false full (inl s) =
          let l = a.adds file offset bytes shelf.seq shelf.back after.back shelf.order (end s.leads.gives_next) given full s.adds p in
          good next s.leads.gives_next
          (at-as PA (shelf.seq + 1) after.back shelf.order after (ap (λ (z : Shelf). z.seq) s.leads.shelf_is) refl (ap (λ (z : Shelf). z.order) s.leads.shelf_is) l.0, l.1)
      by false full (inr s) = write-refused _ next state after s.gives_next (shelf-at P shelf after s.shelf_is p) (subst Off (sym (ap (λ (z : Shelf). z.order) s.shelf_is)) away)

  pub write-resumes : (at : Writing) (old : Shelf) (next : Step) (state : Writing) (after : Shelf) → writes.ResumesIn at wsize lane turn old next state after → At (Had at) old
      → WriteFinAt P Off PA Has Y next state after
  write-resumes writing.Idle old next state after r h = write-wait next state writing.Idle old after r.gives_next r.keeps r.shelf_is h
  write-resumes (writing.Room file s) old next state after r h = write-saves (is_first lane old.order) file s old next state after refl r h.1 h.0

  pub write-takes : (sent : Turn) (came : Result Reply Fault) (N : Saving → Pending → Type 0) → Replies wsize sent turn came N P K L (Unit {0}) NoFile → (at : Writing) (m : WriteFile) (old : Shelf)
      (next : Step) (state : Writing) (after : Shelf) → m.lane ≡ lane → m.offset ≡ offset → writes.made_bytes m.text ≡ bytes → (next ≡ nexts.Done (answers.Done Nothing) → W)
      → writes.TakesIn at wsize m sent turn came old next state after → ((file : List ℕ) (s : Saving) → at ≡ writing.Room file s → N s old.back) → At (Had at) old
      → WriteFinAt P Off PA Has Y next state after
  write-takes sent came N v writing.Idle m old next state after own from text end t n h = write-wait next state writing.Idle old after t.gives_next t.keeps t.shelf_is h
  write-takes sent came N v (writing.Room file s) m old next state after own from text end t n h =
      follows t.told _ t.follows (v.takes old.repeats t.repeats s old.seq old.back old.order t.told t.saved t.back t.takes (n file s refl) h.0)
    where
      follows : (told : _) (shelf : Shelf) → writes.Follows told wsize m file t.saved turn shelf next state after → At (Out P L (Unit {0}) NoFile (syncs.sync_next told) t.saved) shelf
          → WriteFinAt P Off PA Has Y next state after
      follows told shelf f l = by-step
          (λ g. writes.Follows g wsize m file t.saved turn shelf next state after → At (Out P L (Unit {0}) NoFile (syncs.sync_next g) t.saved) shelf → WriteFinAt P Off PA Has Y next state after)
          (λ call f l. rw (f.gives_next, f.keeps, f.shelf_is) (l, h.1))
          (λ f l. write-wait next state (writing.Room file t.saved) shelf after f.gives_next f.keeps f.shelf_is (l, h.1)) ended told f l
        where
          ended : (result : Result (Unit {0}) Fault) → writes.Follows (ends_as result) wsize m file t.saved turn shelf next state after
              → At (Out P L (Unit {0}) NoFile (syncs.sync_next (ends_as result)) t.saved) shelf → WriteFinAt P Off PA Has Y next state after
          ended (Ok done) f l =
              write-writes file (record shelf { order = left lane shelf.order }) next state after h.1 end (out shelf.seq shelf.back shelf.order l.0)
              (subst (λ (bs : List ℕ). writes.Writes wsize lane file offset bs turn (record shelf { order = left lane shelf.order }) next state after) text
              (subst (λ (k : ℕ). writes.Writes wsize lane file k (writes.made_bytes m.text) turn (record shelf { order = left lane shelf.order }) next state after) from
              (subst (λ (k : ℕ). writes.Writes wsize k file m.offset (writes.made_bytes m.text) turn (record shelf { order = left k shelf.order }) next state after) own f)))
              (w.leaves shelf.seq shelf.back shelf.order l.0)
          ended (Err fault) f l =
              room-as (ends_as (Err fault)) file t.saved shelf next state after
              (subst (λ (k : ℕ). writes.Leads (writes.room_next (ends_as (Err fault))) (writes.room_state (ends_as (Err fault)) file t.saved) (writes.room_shelf (ends_as (Err fault)) k shelf) next state after) own f)
              h.1 tt l

-- ---- puts

abbrev pub PutHas : Fact → (Saving → Fact) → (Saving → Fact) → (List ℕ → ℕ → List ℕ → Type 0) → PutFile → Putting → Fact
PutHas P K KA A m putting.Idle q b o = P q b o
PutHas P K KA A m putting.Opens q b o = P q b o
PutHas P K KA A m (putting.Adds file) q b o = RoomHas P K (λ g k bs. A g k bs × (g ≡ file)) m.write.offset (writes.made_bytes m.write.text) m.write.state q b o
PutHas P K KA A m (putting.Saves s) q b o = KA s q b o

-- A of the bytes of a put and of the file that it has opened, where its opening ends at this step; and it isn't the first of a file
abbrev pub PutOpens : (List ℕ → ℕ → List ℕ → Type 0) → (at : Putting) (wsize : ℕ) (m : PutFile) (sent turn : Turn) (came : Result Reply Fault) (old : Shelf) (next : Step) (new : PutFile) (after : Shelf)
    → puts.Takes at wsize m sent turn came old next new after → Type 0
PutOpens A putting.Idle wsize m sent turn came old next new after t = Unit {0}
PutOpens A putting.Opens wsize m sent turn came old next new after t =
    (file : List ℕ) → t.step ≡ openings.Ended (Ok file) → A file m.write.offset (writes.made_bytes m.write.text) × (is_first m.write.lane old.order ≡ false)
PutOpens A (putting.Adds file) wsize m sent turn came old next new after t = Unit {0}
PutOpens A (putting.Saves s) wsize m sent turn came old next new after t = Unit {0}

abbrev pub PutFin : Fact → Fact → (PutFile → Fact) → Type 0 → Step → PutFile → Fact
PutFin PA R H X (nexts.Send call) new q b o = H new q b o
PutFin PA R H X nexts.Wait new q b o = H new q b o
PutFin PA R H X (nexts.Done (answers.Done value)) new q b o = PA q b o × X
PutFin PA R H X (nexts.Done (answers.Refused fault)) new q b o = R q b o

-- Bytes come in to a file of which B holds then.
pub record Brings (A : List ℕ → ℕ → List ℕ → Type 0) (W : Type 0) (P PA : Fact) (B : List ℕ → Type 0) : Type 0 where
  pub adds : (file : List ℕ) (offset : ℕ) (bytes : List ℕ) (q : ℕ) (b after : Pending) (o : List LaneFile) → W → A file offset bytes → is_full bytes b ≡ false
      → OnFile b after file (with_bytes offset bytes (q + 1) (of_file file b)) → P q b o → PA (q + 1) after o × B file

any-file : (A : List ℕ → ℕ → List ℕ → Type 0) (W : Type 0) (P PA : Fact) (B : List ℕ → Type 0) → Brings A W P PA B → Adds A W P PA (Unit {0})
any-file A W P PA B a = record { adds = λ file offset bytes q b after o w given full on p. ((a.adds file offset bytes q b after o w given full on p).0, tt) }

one-file : (A : List ℕ → ℕ → List ℕ → Type 0) (W : Type 0) (P PA : Fact) (B : List ℕ → Type 0) (file : List ℕ) → Brings A W P PA B → Adds (λ g k bs. A g k bs × (g ≡ file)) W P PA (B file)
one-file A W P PA B file a = record {
  adds = λ g offset bytes q b after o w given full on p.
      let l = a.adds g offset bytes q b after o w given.0 full on p in
      (l.0, subst B given.1 l.1);
}

module _ (wsize : ℕ) (turn : Turn) (P R : Fact) (K L : Saving → Fact) (PA : Fact) (KA LA : Saving → Fact) (X : Type 0) (B : List ℕ → Type 0) (A : List ℕ → ℕ → List ℕ → Type 0) (W : Type 0) (yes_ : W)
    (a : Brings A W P PA B) (next : Step) (final : Shelf) (lane : ℕ) (S : List ℕ → List LaneFile → Type 0) (stands : (s : Saving) (q : ℕ) (b : Pending) (o : List LaneFile) → KA s q b o → S s.file o)
    (out : (q : ℕ) (b : Pending) (o : List LaneFile) → P q b o → is_first lane (left lane o) ≡ false) (g : GivesAlone lane next final S R) (enough : (q : ℕ) (b : Pending) (o : List LaneFile) → P q b o → R q b o)
    (less : (q : ℕ) (b : Pending) (o : List LaneFile) → PA q b o → R q b o) (leave : (q : ℕ) (b : Pending) (o : List LaneFile) → R q b o → R q b (left lane o)) (room : Level wsize lane turn P K L (Unit {0}) NoFile) (own : Level wsize lane turn PA KA LA X B) where
  -- it isn't the first of a file
  abbrev Away : List LaneFile → Type 0
  Away o = is_first lane o ≡ false

  abbrev PutsHave : PutFile → Fact
  PutsHave m = PutHas P L LA A m m.state

  abbrev PutFinAt : PutFile → Shelf → Type 0
  PutFinAt new s = s ≡ final → PutFin PA R PutsHave X next new s.seq s.back s.order

  put-wait : (new : PutFile) (to : Putting) (old after : Shelf) → next ≡ nexts.Wait → new.state ≡ to → after ≡ old → At (PutHas P L LA A new to) old → PutFinAt new after
  put-wait new to old after n s o h = λ fin. rw (n, o) (subst (λ (t : Putting). At (PutHas P L LA A new t) old) (sym s) h)

  put-send : (call : Call) (new : PutFile) (to : Putting) (old after : Shelf) → next ≡ nexts.Send call → new.state ≡ to → after ≡ old → At (PutHas P L LA A new to) old → PutFinAt new after
  put-send call new to old after n s o h = λ fin. rw (n, o) (subst (λ (t : Putting). At (PutHas P L LA A new t) old) (sym s) h)

  put-refused : (fault : Fault) (new : PutFile) (after : Shelf) → next ≡ nexts.Done (answers.Refused fault) → At R after → PutFinAt new after
  put-refused fault new after n p = λ fin. rw n p

  put-good : (new : PutFile) (after : Shelf) → next ≡ nexts.Done (answers.Done Nothing) → At PA after → X → PutFinAt new after
  put-good new after n p x = λ fin. rw n (p, x)

  -- where it is the first, of its file, and alone
  abbrev There : List ℕ → Fact
  There file q b o = R q b o × S file o × (is_first lane o ≡ true) × (list_any (is_other lane file) final.puts ≡ false)

  ends-refused : (file : List ℕ) (fault : Fault) (old : Shelf) (state : Putting) (new : PutFile) (after : Shelf) → puts.Ends lane file (Some fault) old next state after
      → (is_first lane old.order ≡ true → S file old.order) → At R old → PutFinAt new after
  ends-refused file fault old state new after e alone p = λ fin.
      put-refused fault new after e.next_is
      (at-as R old.seq after.back (left lane old.order) after (ap (λ (z : Shelf). z.seq) e.others) refl (ap (λ (z : Shelf). z.order) e.others)
      (leave old.seq after.back old.order (gone (sym (ap (λ (z : Shelf). z.opens) e.others) ∙ ap (λ (z : Shelf). z.opens) fin) (sym (ap (λ (z : Shelf). z.puts) fin) ∙ ap (λ (z : Shelf). z.puts) e.others)
      (puts.keeps_refused lane file old.puts old.order) refl e.back))) fin
    where
      first-of : (x y : Bool) → (x || not y) ≡ false → y ≡ true
      first-of true y is = absurd (let no_way : true ≡ false = is in cc)
      first-of false true is = refl
      first-of false false is = absurd (let no_way : true ≡ false = is in cc)

      alone-of : (x y : Bool) → (x || not y) ≡ false → x ≡ false
      alone-of true y is = absurd (let no_way : true ≡ false = is in cc)
      alone-of false y is = refl

      there : Gives next final.opens (λ z. z ≡ file) (There file) R
      there = record {
        gives = λ z other q b given o n same shut quiet on t.
            g.gives z other q b given o n (subst (λ (y : List ℕ). S y o) (sym same) t.1) t.2 shut (subst (λ (y : List ℕ). list_any (is_other lane y) final.puts ≡ false) (sym same) t.3) quiet on t.0;
        same = λ q b o t. t.0;
      }

      gone : old.opens ≡ final.opens → final.puts ≡ left lane old.puts → (b : Bool) → puts.keeps_refused lane file old.puts old.order ≡ b → puts.GivesUpAlone b (Some fault) file old.opens old.back after.back → R old.seq after.back old.order
      gone same places true keeps k = subst (λ (z : Pending). R old.seq z old.order) (sym k) p
      gone same places false keeps k =
          let first = first-of (list_any (is_other lane file) old.puts) (is_first lane old.order) keeps in
          given-by wsize turn (There file) R (λ q b o t. t.0) K L (Unit {0}) (λ z. z ≡ file) next final.opens there (Some fault) file old.opens old.seq old.back after.back old.order e.next_is refl same k
          (p, alone first, first, ap (list_any (is_other lane file)) places ∙ none-left lane (is_other lane file) old.puts (alone-of (list_any (is_other lane file) old.puts) (is_first lane old.order) keeps))

  ends-good : (file : List ℕ) (old : Shelf) (state : Putting) (new : PutFile) (after : Shelf) → puts.Ends lane file None old next state after → At PA old → X → PutFinAt new after
  ends-good file old state new after e p x =
      put-good new after e.next_is
      (at-as PA old.seq old.back (left lane old.order) after (ap (λ (z : Shelf). z.seq) e.others) (same (puts.keeps_refused lane file old.puts old.order) e.back) (ap (λ (z : Shelf). z.order) e.others)
      (own.leaves old.seq old.back old.order p)) x
    where
      same : (b : Bool) → puts.GivesUpAlone b None file old.opens old.back after.back → after.back ≡ old.back
      same true k = k
      same false k = k

  put-follows : (gives : _) (saved : Saving) (old : Shelf) (new : PutFile) (after : Shelf) → puts.Follows gives lane saved old next new.state after → S saved.file old.order
      → At (Out PA LA X B (syncs.sync_next gives) saved) old → PutFinAt new after
  put-follows gives saved old new after f at l = by-step
      (λ g. puts.Follows g lane saved old next new.state after → At (Out PA LA X B (syncs.sync_next g) saved) old → PutFinAt new after)
      (λ call f l. put-send call new (putting.Saves saved) old after f.0 f.1 f.2 l) (λ f l. put-wait new (putting.Saves saved) old after f.0 f.1 f.2 l) ended gives f l
    where
      ended : (result : Result (Unit {0}) Fault) → puts.Follows (ends_as result) lane saved old next new.state after → At (Out PA LA X B (syncs.sync_next (ends_as result)) saved) old → PutFinAt new after
      ended (Ok done) f l = ends-good saved.file old new.state new after f l.0 l.1
      ended (Err fault) f l = ends-refused saved.file fault old new.state new after f (λ first. at) (less old.seq old.back old.order l.0)

  put-queues : (b : Bool) (s : Saving) (old : Shelf) (new : PutFile) (after : Shelf) → is_first lane old.order ≡ b → puts.QueuesIf b wsize lane turn s old next new.state after
      → At (KA s) old → PutFinAt new after
  put-queues false s old new after first k h = put-wait new (putting.Saves s) old after k.next_is k.state_is k.shelf_is (own.rests s old.seq old.back old.order h)
  put-queues true s old new after first k h =
      put-follows k.gives k.saved k.gone new after k.follows
      (subst (S k.saved.file) (sym (ap (λ (z : Shelf). z.order) k.others))
      (subst (λ (z : List ℕ). S z old.order)
      (sym (goes-save s.file s.upto wsize turn.xid turn.room false s old.back k.gives k.saved k.gone.back (record { file_is = refl; upto_is = refl }) k.goes).file_is)
      (stands s old.seq old.back old.order h)))
      (at-as (Out PA LA X B (syncs.sync_next k.gives) k.saved) old.seq k.gone.back old.order k.gone (ap (λ (z : Shelf). z.seq) k.others) refl (ap (λ (z : Shelf). z.order) k.others)
      (own.goes s old.seq old.back old.order k.gives k.saved k.gone.back first k.goes h))

  put-wrote : (told : Step) (file : List ℕ) (offset : ℕ) (bytes : List ℕ) (written : Writing) (old : Shelf) (new : PutFile) (after : Shelf)
      → puts.AfterWrite told wsize lane file turn old next new.state after → new.write.state ≡ written → new.write.offset ≡ offset → writes.made_bytes new.write.text ≡ bytes
      → WriteFinAt P Away PA (RoomHas P L (λ g k bs. A g k bs × (g ≡ file)) offset bytes) (B file) told written old → PutFinAt new after
  put-wrote (nexts.Send call) file offset bytes written old new after f state from text l = put-send call new (putting.Adds file) old after f.0 f.1 f.2 (rw (state, from, text) l)
  put-wrote nexts.Wait file offset bytes written old new after f state from text l = put-wait new (putting.Adds file) old after f.0 f.1 f.2 (rw (state, from, text) l)
  put-wrote (nexts.Done (answers.Done value)) file offset bytes written old new after f state from text l =
      put-queues (is_first lane (joined lane file old).order) (saves.begun file old.seq) (joined lane file old) new after refl f
      (own.joins file old.seq old.back old.order l.1 l.0)
  put-wrote (nexts.Done (answers.Refused fault)) file offset bytes written old new after f state from text l = ends-refused file fault old new.state new after f (λ first. absurd (let no_way : false ≡ true = sym l.1 ∙ first in cc)) (enough old.seq old.back old.order l.0)

  put-writes-on : (m : PutFile) (file : List ℕ) (told : Step) (written : Writing) (mid : Shelf) (new : PutFile) (after : Shelf) → m.write.lane ≡ lane
      → puts.WritesOn wsize m file turn told written mid next new after
      → WriteFinAt P Away PA (RoomHas P L (λ g k bs. A g k bs × (g ≡ file)) m.write.offset (writes.made_bytes m.write.text)) (B file) told written mid → PutFinAt new after
  put-writes-on m file told written mid new after same k l =
      put-wrote told file m.write.offset (writes.made_bytes m.write.text) written mid new after
      (subst (λ (n : ℕ). puts.AfterWrite told wsize n file turn mid next new.state after) same k.follows)
      (ap (λ (z : PutFile). z.write.state) k.machine_is) (ap (λ (z : PutFile). z.write.offset) k.machine_is) (ap (λ (z : PutFile). writes.made_bytes z.write.text) k.machine_is) l

  put-opened : (step : OpeningStep) (m : PutFile) (old : Shelf) (new : PutFile) (after : Shelf) → m.write.lane ≡ lane → m.state ≡ putting.Opens
      → puts.AfterOpening step wsize m turn old next new after → At P old
      → ((file : List ℕ) → step ≡ openings.Ended (Ok file) → A file m.write.offset (writes.made_bytes m.write.text) × (is_first m.write.lane old.order ≡ false)) → PutFinAt new after
  put-opened (openings.Send call) m old new after same at f p given =
      put-send call new putting.Opens old after f.0 (ap (λ (z : PutFile). z.state) f.1 ∙ at) f.2 p
  put-opened openings.Wait m old new after same at f p given =
      put-wait new putting.Opens old after f.next_is (ap (λ (z : PutFile). z.state) f.machine_is ∙ at) f.shelf_is p
  put-opened (openings.Ended (Ok file)) m old new after same at f p given =
      put-writes-on m file f.told f.written f.mid new after same f.goes
      (write-writes wsize turn P K L PA (λ h k bs. A h k bs × (h ≡ file)) W (B file) m.write.offset (writes.made_bytes m.write.text) (one-file A W P PA B file a) lane room Away out
      file (puts.put_at lane file old) f.told f.written f.mid ((given file refl).0, refl) (λ is. yes_) (subst (λ (n : ℕ). is_first n old.order ≡ false) same (given file refl).1)
      (subst (λ (n : ℕ). writes.Writes wsize n file m.write.offset (writes.made_bytes m.write.text) turn (puts.put_at n file old) f.told f.written f.mid) same f.writes) p)
  put-opened (openings.Ended (Err fault)) m old new after same at f p given = put-refused fault new after f.0 (shelf-at R old after f.2 (enough old.seq old.back old.order p))

  put-resumes : (at : Putting) (m : PutFile) (old : Shelf) (new : PutFile) (after : Shelf) → m.write.lane ≡ lane → m.state ≡ at → puts.Resumes at wsize m turn old next new after
      → At (PutHas P K KA A m at) old → PutFinAt new after
  put-resumes putting.Idle m old new after same at r h = put-wait new putting.Idle old after r.next_is (ap (λ (z : PutFile). z.state) r.machine_is ∙ at) r.shelf_is h
  put-resumes putting.Opens m old new after same at r h = by (opening.waits m.opening turn) refl
    where
      by : (b : Bool) → opening.waits m.opening turn ≡ b → PutFinAt new after
      by true e = let n : next ≡ nexts.Wait = (rw e at r.0) in put-wait new putting.Opens old after n (ap (λ (z : PutFile). z.state) r.1 ∙ at) r.2 h
      by false e =
          let n : next ≡ nexts.Send (opening.call_of m.opening m.opening.step) = (rw e at r.0) in
          put-send (opening.call_of m.opening m.opening.step) new putting.Opens old after n (ap (λ (z : PutFile). z.state) r.1 ∙ at) r.2 h
  put-resumes (putting.Adds file) m old new after same at r h =
      put-writes-on m file r.told r.written r.mid new after same r.goes
      (write-resumes wsize turn P K L PA (λ g k bs. A g k bs × (g ≡ file)) W (B file) m.write.offset (writes.made_bytes m.write.text) (one-file A W P PA B file a) lane room Away out
      m.write.state old r.told r.written r.mid (subst (λ (n : ℕ). writes.ResumesIn m.write.state wsize n turn old r.told r.written r.mid) same r.resumes) h)
  put-resumes (putting.Saves s) m old new after same at r h =
      put-queues (is_first lane old.order) s old new after refl (subst (λ (n : ℕ). puts.QueuesIf (is_first n old.order) wsize n turn s old next new.state after) same r.0) h

  put-takes : (sent : Turn) (came : Result Reply Fault) (N : Saving → Pending → Type 0) → Replies wsize sent turn came N P K L (Unit {0}) NoFile → Replies wsize sent turn came N PA KA LA X B
      → (at : Putting) (m : PutFile) (old : Shelf) (new : PutFile) (after : Shelf) → m.write.lane ≡ lane → m.state ≡ at → (t : puts.Takes at wsize m sent turn came old next new after)
      → PutOpens A at wsize m sent turn came old next new after t → ((file : List ℕ) (s : Saving) (g : List ℕ) → at ≡ putting.Adds file → m.write.state ≡ writing.Room g s → N s old.back) → ((s : Saving) → at ≡ putting.Saves s → N s old.back)
      → At (PutHas P K KA A m at) old → PutFinAt new after
  put-takes sent came N rooms owns putting.Idle m old new after same at t opened in_room in_save h =
      put-wait new putting.Idle old after t.next_is (ap (λ (z : PutFile). z.state) t.machine_is ∙ at) t.shelf_is h
  put-takes sent came N rooms owns putting.Opens m old new after same at t opened in_room in_save h =
      put-opened t.step _ t.took new after same at t.follows
      (at-as P old.seq old.back old.order t.took (ap (λ (z : Shelf). z.seq) t.others) (ap (λ (z : Shelf). z.back) t.others) (ap (λ (z : Shelf). z.order) t.others) h)
      (λ file is. (let given = opened file is in (given.0, subst (λ (o : List LaneFile). is_first m.write.lane o ≡ false) (sym (ap (λ (z : Shelf). z.order) t.others)) given.1)))
  put-takes sent came N rooms owns (putting.Adds file) m old new after same at t opened in_room in_save h =
      put-writes-on m file t.told t.written t.mid new after same t.goes
      (write-takes wsize turn P K L PA (λ g k bs. A g k bs × (g ≡ file)) W (B file) m.write.offset (writes.made_bytes m.write.text) (one-file A W P PA B file a) lane room Away out
      sent came N rooms m.write.state m.write old t.told t.written t.mid same refl refl (λ is. yes_) t.takes (λ g s is. in_room file s g refl is) h)
  put-takes sent came N rooms owns (putting.Saves s) m old new after same at t opened in_room in_save h =
      let one = (subst (λ (n : ℕ). puts.TakesOne wsize n sent turn came s old next new.state after) same t.0) in
      put-follows one.gives one.saved one.took new after one.follows
      (subst (S one.saved.file) (sym (ap (λ (z : Shelf). z.order) one.others))
      (subst (λ (z : List ℕ). S z old.order)
      (sym (takes-save s.file s.upto wsize sent turn came old.repeats s old.back one.gives one.saved one.took.back one.took.repeats (record { file_is = refl; upto_is = refl }) one.takes).file_is)
      (stands s old.seq old.back old.order h)))
      (at-as (Out PA LA X B (syncs.sync_next one.gives) one.saved) old.seq one.took.back old.order one.took (ap (λ (z : Shelf). z.seq) one.others) refl (ap (λ (z : Shelf). z.order) one.others)
      (owns.takes old.repeats one.took.repeats s old.seq old.back old.order one.gives one.saved one.took.back one.takes (in_save s refl) h))

-- ---- truncates

abbrev pub TruncateHas : Fact → (List ℕ → ℕ → ℕ → Type 0) → ℕ → Truncating → Fact
TruncateHas P C size truncating.Idle q b o = P q b o
TruncateHas P C size (truncating.Queued file upto) q b o = P q b o × C file size upto
TruncateHas P C size (truncating.Asked file upto) q b o = P q b o × C file size upto

abbrev pub AnyFin : Fact → Fact → Step → Fact
AnyFin R H (nexts.Send call) q b o = H q b o
AnyFin R H nexts.Wait q b o = H q b o
AnyFin R H (nexts.Done answer) q b o = R q b o

module _ (turn : Turn) (P R : Fact) (C : List ℕ → ℕ → ℕ → Type 0) (m : TruncateFile) (w : Shortens m.lane C P R) where
  abbrev CutHas : Truncating → Fact
  CutHas state = TruncateHas P C m.size state

  abbrev CutFin : Step → Truncating → Shelf → Type 0
  CutFin next state s = AnyFin R (CutHas state) next s.seq s.back s.order

  cut-queued : (file : List ℕ) (upto : ℕ) (old : Shelf) (next : Step) (state : Truncating) (new : Shelf) → next ≡ truncates.queued_next m file turn old → state ≡ truncates.queued_state m file upto turn old
      → new ≡ old → At P old → C file m.size upto → CutFin next state new
  cut-queued file upto old next state new n s o p c = by (truncates.may_ask m.lane file turn old) refl
    where
      by : (b : Bool) → truncates.may_ask m.lane file turn old ≡ b → CutFin next state new
      by true e = let asks : next ≡ nexts.Send (truncates.size_call file m.size) = (rw e at n) in let then_ : state ≡ truncating.Asked file upto = (rw e at s) in rw (asks, then_, o) (p, c)
      by false e = let waits : next ≡ nexts.Wait = (rw e at n) in let then_ : state ≡ truncating.Queued file upto = (rw e at s) in rw (waits, then_, o) (p, c)

  cut-starts : (found : Result (List ℕ) Fault) (old : Shelf) (next : Step) (state : Truncating) (new : Shelf) → next ≡ truncates.begun_next found m turn old → state ≡ truncates.begun_state found m turn old
      → new ≡ truncates.begun_shelf found m old → ((file : List ℕ) → found ≡ Ok file → C file m.size old.seq) → At P old → CutFin next state new
  cut-starts (Ok file) old next state new n s o c p = cut-queued file old.seq (joined m.lane file old) next state new n s o (w.joins_in file old.seq old.back old.order p) (c file refl)
  cut-starts (Err fault) old next state new n s o c p = rw (n, o) (w.uncut old.seq old.back old.order p)

  cut-resumes : (at : Truncating) (old : Shelf) (next : Step) (state : Truncating) (new : Shelf) → next ≡ truncates.resumed_next at m turn old → state ≡ truncates.resumed_state at m turn old → new ≡ old
      → At (CutHas at) old → CutFin next state new
  cut-resumes truncating.Idle old next state new n s o h = rw (n, s, o) h
  cut-resumes (truncating.Queued file upto) old next state new n s o h = cut-queued file upto old next state new n s o h.0 h.1
  cut-resumes (truncating.Asked file upto) old next state new n s o h = rw (n, s, o) h

  cut-quiet : (b : Bool) (file : List ℕ) (upto q : ℕ) (old new : Pending) (o : List LaneFile) → is_quiet file old ≡ b → truncates.CutsQuiet b file m.size upto old new → C file m.size upto → P q old o → R q new o
  cut-quiet true file upto q old new o quiet k c p = w.cuts file m.size upto q old new o c quiet k p
  cut-quiet false file upto q old new o quiet k c p = subst (λ (z : Pending). R q z o) (sym k) (w.uncut q old o p)

  cut-back : (told : Result Wcc Fault) (file : List ℕ) (upto q : ℕ) (old new : Pending) (o : List LaneFile) → truncates.CutsBack told file m.size upto old new → C file m.size upto → P q old o → R q new o
  cut-back (Ok wcc) file upto q old new o k c p = cut-quiet (is_quiet file old) file upto q old new o refl k c p
  cut-back (Err fault) file upto q old new o k c p = subst (λ (z : Pending). R q z o) (sym k) (w.uncut q old o p)

  told-fin : (told : Result Wcc Fault) (next : Step) (state : Truncating) (new : Shelf) → next ≡ truncates.told_next told → At R new → CutFin next state new
  told-fin (Ok wcc) next state new n p = rw n p
  told-fin (Err fault) next state new n p = rw n p

  cut-takes : (at : Truncating) (sent : Turn) (came : Result Reply Fault) (old : Shelf) (next : Step) (state : Truncating) (new : Shelf) → next ≡ truncates.took_next at m came sent turn old.repeats
      → state ≡ truncates.took_state at came sent turn old.repeats → truncates.TookBack at m came old.back new.back → new ≡ truncates.took_shelf at m came sent turn new.attrs new.back old
      → At (CutHas at) old → CutFin next state new
  cut-takes truncating.Idle sent came old next state new n s k o h = rw (n, s, o) h
  cut-takes (truncating.Queued file upto) sent came old next state new n s k o h = rw (n, s, o) h
  cut-takes (truncating.Asked file upto) sent came old next state new n s k o h = told (truncates.size_told came) refl k
    where
      ends : (t : Result Wcc Fault) → truncates.size_told came ≡ t → truncates.CutsBack t file m.size upto old.back new.back → truncates.size_again came sent turn old.repeats ≡ false → CutFin next state new
      ends t is k e =
          let tells : next ≡ truncates.told_next (truncates.size_told came) = (rw e at n) in
          let order : new.order ≡ truncates.ended_order (truncates.size_again came sent turn old.repeats) m.lane old.order = ap (λ (z : Shelf). z.order) o in
          let goes : new.order ≡ left m.lane old.order = (rw e at order) in
          told-fin (truncates.size_told came) next state new tells
          (at-as R old.seq new.back (left m.lane old.order) new (ap (λ (z : Shelf). z.seq) o) refl goes (w.leaves_it old.seq new.back old.order (cut-back t file upto old.seq old.back new.back old.order k h.1 h.0)))

      told : (t : Result Wcc Fault) → truncates.size_told came ≡ t → truncates.CutsBack t file m.size upto old.back new.back → CutFin next state new
      told (Ok wcc) is k = ends (Ok wcc) is k (ap (λ (r : Result Wcc Fault). goes_again (fails_busy r) sent turn old.repeats) is)
      told (Err fault) is k = by (truncates.size_again came sent turn old.repeats) refl
        where
          by : (b : Bool) → truncates.size_again came sent turn old.repeats ≡ b → CutFin next state new
          by false e = ends (Err fault) is k e
          by true e =
              let asks : next ≡ nexts.Send (truncates.size_call file m.size) = (rw e at n) in
              let then_ : state ≡ truncating.Asked file upto = (rw e at s) in
              let order : new.order ≡ truncates.ended_order (truncates.size_again came sent turn old.repeats) m.lane old.order = ap (λ (z : Shelf). z.order) o in
              let stays : new.order ≡ old.order = (rw e at order) in
              rw (asks, then_) (at-as P old.seq old.back old.order new (ap (λ (z : Shelf). z.seq) o) k stays h.0, h.1)

-- ---- any operation on a file

-- what an operation is known by: the bytes that it may add, the file that it saves, gives up or cuts, and what each end shows
pub record Job : Type 1 where
  pub P : Fact
  pub R : Fact
  pub K : Saving → Fact
  pub L : Saving → Fact
  pub PA : Fact
  pub KA : Saving → Fact
  pub LA : Saving → Fact
  pub X : Type 0
  pub A : List ℕ → ℕ → List ℕ → Type 0
  pub B : List ℕ → Type 0
  pub C : List ℕ → ℕ → ℕ → Type 0
  pub S : List ℕ → List LaneFile → Type 0

-- the same as a step ends
abbrev pub ended : Job → Job
ended j = record { P = j.P; R = j.R; K = j.L; L = j.L; PA = j.PA; KA = j.LA; LA = j.LA; X = j.X; A = j.A; B = j.B; C = j.C; S = j.S }

abbrev pub FileHas : Job → FileMachine → Fact
FileHas j (files.Open m) = j.P
FileHas j (files.Read m) = j.P
FileHas j (files.Write m) = RoomHas j.P j.K j.A m.offset (writes.made_bytes m.text) m.state
FileHas j (files.Sync m) = SyncHas j.PA j.KA m.state
FileHas j (files.Close m) = CloseHas j.PA j.KA j.X j.B m.state
FileHas j (files.Truncate m) = TruncateHas j.P j.C m.size m.state
FileHas j (files.Put m) = PutHas j.P j.K j.KA j.A m m.state

-- where it ended well
abbrev pub FileGood : Job → FileMachine → Fact
FileGood j (files.Open m) q b o = j.P q b o
FileGood j (files.Read m) q b o = j.P q b o
FileGood j (files.Write m) q b o = j.PA q b o
FileGood j (files.Sync m) q b o = j.PA q b o × j.X
FileGood j (files.Close m) q b o = j.PA q b o × j.X
FileGood j (files.Truncate m) q b o = j.R q b o
FileGood j (files.Put m) q b o = j.PA q b o × j.X

-- where it was refused
abbrev pub FileBad : Job → FileMachine → Fact
FileBad j (files.Open m) q b o = j.R q b o
FileBad j (files.Read m) q b o = j.R q b o
FileBad j (files.Write m) q b o = j.P q b o
FileBad j (files.Sync m) q b o = j.R q b o
FileBad j (files.Close m) q b o = j.R q b o
FileBad j (files.Truncate m) q b o = j.R q b o
FileBad j (files.Put m) q b o = j.R q b o

abbrev pub FileFin : Job → Step → FileMachine → Fact
FileFin j (nexts.Send call) m q b o = FileHas (ended j) m q b o
FileFin j nexts.Wait m q b o = FileHas (ended j) m q b o
FileFin j (nexts.Done (answers.Done value)) m q b o = FileGood j m q b o
FileFin j (nexts.Done (answers.Refused fault)) m q b o = FileBad j m q b o

-- of its slot, as it begins
abbrev pub FileBegins : Job → FileMachine → Opens → Type 0
FileBegins j (files.Open m) slots = Unit {0}
FileBegins j (files.Read m) slots = Unit {0}
FileBegins j (files.Write m) slots = (file : List ℕ) → file_to_write m.lane m.slot slots ≡ Ok file → j.A file m.offset (writes.text_bytes m.text)
FileBegins j (files.Sync m) slots = (file : List ℕ) → file_at m.lane m.slot slots ≡ Some file → j.B file
FileBegins j (files.Close m) slots = (file : List ℕ) → file_at m.lane m.slot slots ≡ Some file → j.B file
FileBegins j (files.Truncate m) slots = (file : List ℕ) (upto : ℕ) → file_to_write m.lane m.slot slots ≡ Ok file → j.C file m.size upto
FileBegins j (files.Put m) slots = Unit {0}

-- the lane of the order in which it stands, where it is in one
abbrev pub file_lane : ℕ → FileMachine → ℕ
file_lane lane (files.Open m) = lane
file_lane lane (files.Read m) = lane
file_lane lane (files.Write m) = m.lane
file_lane lane (files.Sync m) = m.lane
file_lane lane (files.Close m) = m.lane
file_lane lane (files.Truncate m) = m.lane
file_lane lane (files.Put m) = m.write.lane

-- how the end of a write is known, and that it's a close or a put, which may give up what is pending
abbrev pub WriteKnown : Type 0 → (Bool → Shelf → Type 0) → FileMachine → Step → Shelf → Type 0
WriteKnown W Z (files.Write m) next final = next ≡ nexts.Done (answers.Done Nothing) → W
WriteKnown W Z (files.Close m) next final = Z true final
WriteKnown W Z (files.Put m) next final = W × Z false final
WriteKnown W Z machine next final = W

-- A of the bytes of a put and of the file that it has opened, where its opening ends at this step
abbrev pub FileOpens : (List ℕ → ℕ → List ℕ → Type 0) → (wsize : ℕ) (m : FileMachine) (sent turn : Turn) (came : Result Reply Fault) (old : Shelf) (next : Step) (new : FileMachine) (after : Shelf)
    → steps.Takes wsize m sent turn came old next new after → Type 0
FileOpens A wsize (files.Open m) sent turn came old next new after t = Unit {0}
FileOpens A wsize (files.Read m) sent turn came old next new after t = Unit {0}
FileOpens A wsize (files.Write m) sent turn came old next new after t = Unit {0}
FileOpens A wsize (files.Sync m) sent turn came old next new after t = Unit {0}
FileOpens A wsize (files.Close m) sent turn came old next new after t = Unit {0}
FileOpens A wsize (files.Truncate m) sent turn came old next new after t = Unit {0}
FileOpens A wsize (files.Put m) sent turn came old next new after t = PutOpens A m.state wsize m sent turn came old next t.machine after t.step

-- its save, which has begun or waits for its turn
abbrev pub writing_save : Writing → Option Saving
writing_save writing.Idle = None
writing_save (writing.Room file s) = Some s

abbrev pub syncing_save : Syncing → Option Saving
syncing_save syncing.Idle = None
syncing_save (syncing.Saves s) = Some s

abbrev pub closing_save : Closing → Option Saving
closing_save closing.Idle = None
closing_save (closing.Queued s) = Some s
closing_save (closing.Saves s) = Some s
closing_save (closing.ToRemove r) = None
closing_save (closing.Removing r) = None

abbrev pub putting_save : Putting → Writing → Option Saving
putting_save putting.Idle write = None
putting_save putting.Opens write = None
putting_save (putting.Adds file) write = writing_save write
putting_save (putting.Saves s) write = Some s

abbrev pub file_save : FileMachine → Option Saving
file_save (files.Open m) = None
file_save (files.Read m) = None
file_save (files.Write m) = writing_save m.state
file_save (files.Sync m) = syncing_save m.state
file_save (files.Close m) = closing_save m.state
file_save (files.Truncate m) = None
file_save (files.Put m) = putting_save m.state m.write.state

-- what each step of an operation with such laws keeps
pub record JobLaws (j : Job) (wsize lane : ℕ) (turn : Turn) (next : Step) (W : Type 0) (Z : Bool → Shelf → Type 0) : Type 0 where
  pub room : Level wsize lane turn j.P j.K j.L (Unit {0}) NoFile
  pub own : Level wsize lane turn j.PA j.KA j.LA j.X j.B
  pub adds : Brings j.A W j.P j.PA j.B
  pub gives : (final : Shelf) → Z true final → Gives next final.opens j.B j.PA j.R
  pub stands : (s : Saving) (q : ℕ) (b : Pending) (o : List LaneFile) → j.KA s q b o → j.S s.file o
  pub out : (q : ℕ) (b : Pending) (o : List LaneFile) → j.P q b o → is_first lane (left lane o) ≡ false
  pub gives_put : (final : Shelf) → Z false final → GivesAlone lane next final j.S j.R
  pub cuts : Shortens lane j.C j.P j.R
  pub enough : (q : ℕ) (b : Pending) (o : List LaneFile) → j.P q b o → j.R q b o
  pub less : (q : ℕ) (b : Pending) (o : List LaneFile) → j.PA q b o → j.R q b o
  pub leave : (q : ℕ) (b : Pending) (o : List LaneFile) → j.R q b o → j.R q b (left lane o)

pub record JobReplies (j : Job) (wsize : ℕ) (sent turn : Turn) (came : Result Reply Fault) (N : Saving → Pending → Type 0) : Type 0 where
  pub room : Replies wsize sent turn came N j.P j.K j.L (Unit {0}) NoFile
  pub own : Replies wsize sent turn came N j.PA j.KA j.LA j.X j.B

-- what holds as it begins
abbrev pub FileEnters : Job → FileMachine → Fact
FileEnters j (files.Open m) = j.P
FileEnters j (files.Read m) = j.P
FileEnters j (files.Write m) = j.P
FileEnters j (files.Sync m) = j.PA
FileEnters j (files.Close m) = j.PA
FileEnters j (files.Truncate m) = j.P
FileEnters j (files.Put m) = j.P

module _ (j : Job) (lane wsize : ℕ) (turn : Turn) (next : Step) (W : Type 0) (Z : Bool → Shelf → Type 0) where
  abbrev pub FileFinAt : FileMachine → Shelf → Type 0
  FileFinAt m s = FileFin j next m s.seq s.back s.order

  -- one that has no save and cuts nothing
  plain-fin : (m : FileMachine) (old new : Shelf) → new.seq ≡ old.seq → new.back ≡ old.back → new.order ≡ old.order → At j.P old → ((s : Shelf) → At j.P s → At (FileHas (ended j) m) s)
      → ((s : Shelf) → At j.P s → At (FileGood j m) s) → ((q : ℕ) (b : Pending) (o : List LaneFile) → j.P q b o → FileBad j m q b o) → FileFinAt m new
  plain-fin m old new seq back order p has good enough = by next
    where
      here : At j.P new
      here = at-as j.P old.seq old.back old.order new seq back order p

      by : (n : Step) → FileFin j n m new.seq new.back new.order
      by (nexts.Send call) = has new here
      by nexts.Wait = has new here
      by (nexts.Done (answers.Done value)) = good new here
      by (nexts.Done (answers.Refused fault)) = enough new.seq new.back new.order here

  -- how each kind of operation leads on
  write-fin : (m new : WriteFile) (bytes : List ℕ) (after : Shelf) → new.offset ≡ m.offset → writes.made_bytes new.text ≡ bytes
      → WriteFinAt j.P AnyPlace j.PA (RoomHas j.P j.L j.A m.offset bytes) (Unit {0}) next new.state after → FileFinAt (files.Write new) after
  write-fin m new bytes after from text l =
      by next
      (subst (λ (bs : List ℕ). WriteFinAt j.P AnyPlace j.PA (RoomHas j.P j.L j.A new.offset bs) (Unit {0}) next new.state after) (sym text)
      (subst (λ (k : ℕ). WriteFinAt j.P AnyPlace j.PA (RoomHas j.P j.L j.A k bytes) (Unit {0}) next new.state after) (sym from) l))
    where
      by : (n : Step) → WriteFinAt j.P AnyPlace j.PA (RoomHas j.P j.L j.A new.offset (writes.made_bytes new.text)) (Unit {0}) n new.state after → FileFin j n (files.Write new) after.seq after.back after.order
      by (nexts.Send call) l = l
      by nexts.Wait l = l
      by (nexts.Done (answers.Done value)) l = l.0
      by (nexts.Done (answers.Refused fault)) l = l.0

  sync-fin : (m : SyncFile) (after : Shelf) → FinAt j.PA j.R (SyncHas j.PA j.LA) j.X next m.state after
      → FileFinAt (files.Sync m) after
  sync-fin m after l = by next l
    where
      by : (n : Step) → FinAt j.PA j.R (SyncHas j.PA j.LA) j.X n m.state after → FileFin j n (files.Sync m) after.seq after.back after.order
      by (nexts.Send call) l = l
      by nexts.Wait l = l
      by (nexts.Done (answers.Done value)) l = l
      by (nexts.Done (answers.Refused fault)) l = l

  close-fin : (m : CloseFile) (after : Shelf) → FinAt j.PA j.R (CloseHas j.PA j.LA j.X j.B) j.X next m.state after
      → FileFinAt (files.Close m) after
  close-fin m after l = by next l
    where
      by : (n : Step) → FinAt j.PA j.R (CloseHas j.PA j.LA j.X j.B) j.X n m.state after → FileFin j n (files.Close m) after.seq after.back after.order
      by (nexts.Send call) l = l
      by nexts.Wait l = l
      by (nexts.Done (answers.Done value)) l = l
      by (nexts.Done (answers.Refused fault)) l = l

  cut-fin : (m new : TruncateFile) (after : Shelf) → new.size ≡ m.size → AnyFin j.R (TruncateHas j.P j.C m.size new.state) next after.seq after.back after.order → FileFinAt (files.Truncate new) after
  cut-fin m new after size l = by next (subst (λ (k : ℕ). AnyFin j.R (TruncateHas j.P j.C k new.state) next after.seq after.back after.order) (sym size) l)
    where
      by : (n : Step) → AnyFin j.R (TruncateHas j.P j.C new.size new.state) n after.seq after.back after.order → FileFin j n (files.Truncate new) after.seq after.back after.order
      by (nexts.Send call) l = l
      by nexts.Wait l = l
      by (nexts.Done (answers.Done value)) l = l
      by (nexts.Done (answers.Refused fault)) l = l

  put-fin : (new : PutFile) (after : Shelf) → PutFin j.PA j.R (λ m. PutHas j.P j.L j.LA j.A m m.state) j.X next new after.seq after.back after.order → FileFinAt (files.Put new) after
  put-fin new after l = by next l
    where
      by : (n : Step) → PutFin j.PA j.R (λ m. PutHas j.P j.L j.LA j.A m m.state) j.X n new after.seq after.back after.order → FileFin j n (files.Put new) after.seq after.back after.order
      by (nexts.Send call) l = l
      by nexts.Wait l = l
      by (nexts.Done (answers.Done value)) l = l
      by (nexts.Done (answers.Refused fault)) l = l

  file-as : (to new : FileMachine) (after : Shelf) → new ≡ to → FileFinAt to after → FileFinAt new after
  file-as to new after is l = subst (λ (m : FileMachine). FileFinAt m after) (sym is) l

  put-begins : (begun : Opening) (new : PutFile) (old after : Shelf) → next ≡ opens.goes_as (opening.go_next begun turn) → new.state ≡ putting.Opens → after ≡ old → At j.P old
      → FileFinAt (files.Put new) after
  put-begins begun new old after n s o p = by (opening.waits begun turn) refl
    where
      by : (b : Bool) → opening.waits begun turn ≡ b → FileFinAt (files.Put new) after
      by true e = let k : next ≡ nexts.Wait = (rw e at n) in rw (k, o, s) p
      by false e = let k : next ≡ nexts.Send (opening.call_of begun begun.step) = (rw e at n) in rw (k, o, s) p

  pub file-starts : (machine : FileMachine) (old : Shelf) (new : FileMachine) (after : Shelf) → JobLaws j wsize (file_lane lane machine) turn next W Z → WriteKnown W Z machine next after
      → FileBegins j machine old.opens → steps.Starts wsize machine turn old next new after → At (FileEnters j machine) old → FileFinAt new after
  file-starts (files.Open m) old new after w end begins s p =
      file-as _ new after s.machine_is
      (plain-fin (files.Open (opens.start_after m turn old.opens)) old after (ap (λ (z : Shelf). z.seq) s.shelf_is) (ap (λ (z : Shelf). z.back) s.shelf_is) (ap (λ (z : Shelf). z.order) s.shelf_is) p
      (λ k h. h) (λ k h. h) w.enough)
  file-starts (files.Read m) old new after w end begins s p =
      file-as (files.Read s.machine) new after s.machine_is
      (plain-fin (files.Read s.machine) old after (ap (λ (z : Shelf). z.seq) s.others) (ap (λ (z : Shelf). z.back) s.others) (ap (λ (z : Shelf). z.order) s.others) p (λ k h. h) (λ k h. h) w.enough)
  file-starts (files.Write m) old new after w end begins s p =
      file-as (files.Write s.machine) new after s.machine_is (by (file_to_write m.lane m.slot old.opens) refl s.step)
    where
      refused : (fault : Fault) → next ≡ nexts.Done (answers.Refused fault) → after ≡ old → FileFinAt (files.Write s.machine) after
      refused fault n o = rw (n, o) p

      by : (found : Result (List ℕ) Fault) → file_to_write m.lane m.slot old.opens ≡ found → writes.StartsAt found wsize m turn old next s.machine after → FileFinAt (files.Write s.machine) after
      by (Err fault) is r = refused fault r.refuses.gives_next r.refuses.shelf_is
      by (Ok file) is (inr r) = refused _ r.refuses.gives_next r.refuses.shelf_is
      by (Ok file) is (inl r) =
          write-fin m s.machine (writes.text_bytes m.text) after (ap (λ (z : WriteFile). z.offset) r.text) (ap (λ (z : WriteFile). writes.made_bytes z.text) r.text)
          (write-writes wsize turn j.P j.K j.L j.PA j.A W (Unit {0}) m.offset (writes.text_bytes m.text) (any-file j.A W j.P j.PA j.B w.adds) m.lane w.room AnyPlace (λ q b o k. tt) file old next s.machine.state after (begins file is) end tt
          r.writes p)
  file-starts (files.Sync m) old new after w end begins s p =
      file-as (files.Sync (record m { state = s.state })) new after s.machine_is
      (sync-fin (record m { state = s.state }) after (sync-starts wsize turn j.PA j.R w.less j.KA j.LA j.X j.B m old next s.state after w.own begins s.step p))
  file-starts (files.Close m) old new after w end begins s p =
      file-as (files.Close (record m { state = s.state })) new after s.machine_is
      (close-fin (record m { state = s.state }) after (close-starts wsize turn j.PA j.R w.less j.KA j.LA j.X j.B next after.opens (w.gives after end) m old s.state after w.own begins s.step p refl))
  file-starts (files.Truncate m) old new after w end begins s p =
      file-as (files.Truncate (record m { state = truncates.started_state m turn old })) new after s.machine_is
      (cut-fin m (record m { state = truncates.started_state m turn old }) after refl
      (cut-starts turn j.P j.R j.C m w.cuts (truncates.found_file m old) old next (truncates.started_state m turn old) after s.next_is refl s.shelf_is (λ file is. begins file old.seq is) p))
  file-starts (files.Put m) old new after w end begins s p =
      file-as (files.Put (record m { opening = opening.go_after (puts.opening_at turn m) turn; state = putting.Opens })) new after s.machine_is
      (put-begins (puts.opening_at turn m) (record m { opening = opening.go_after (puts.opening_at turn m) turn; state = putting.Opens }) old after s.next_is refl s.shelf_is p)

  pub file-resumes : (machine : FileMachine) (old : Shelf) (new : FileMachine) (after : Shelf) → JobLaws j wsize (file_lane lane machine) turn next W Z → WriteKnown W Z machine next after
      → steps.Resumes wsize machine turn old next new after → At (FileHas j machine) old → FileFinAt new after
  file-resumes (files.Open m) old new after w end s p =
      file-as _ new after s.machine_is
      (plain-fin (files.Open (opens.gone m turn)) old after (ap (λ (z : Shelf). z.seq) s.shelf_is) (ap (λ (z : Shelf). z.back) s.shelf_is) (ap (λ (z : Shelf). z.order) s.shelf_is) p (λ k h. h) (λ k h. h) w.enough)
  file-resumes (files.Read m) old new after w end s p =
      file-as (files.Read s.machine) new after s.machine_is
      (plain-fin (files.Read s.machine) old after (ap (λ (z : Shelf). z.seq) s.others) (ap (λ (z : Shelf). z.back) s.others) (ap (λ (z : Shelf). z.order) s.others) p (λ k h. h) (λ k h. h) w.enough)
  file-resumes (files.Write m) old new after w end s h =
      file-as (files.Write (record m { state = s.state })) new after s.machine_is
      (write-fin m (record m { state = s.state }) (writes.made_bytes m.text) after refl refl
      (write-resumes wsize turn j.P j.K j.L j.PA j.A W (Unit {0}) m.offset (writes.made_bytes m.text) (any-file j.A W j.P j.PA j.B w.adds) m.lane w.room AnyPlace (λ q b o k. tt) m.state old next s.state after s.step h))
  file-resumes (files.Sync m) old new after w end s h =
      file-as (files.Sync (record m { state = s.state })) new after s.machine_is
      (sync-fin (record m { state = s.state }) after (sync-resumes wsize turn j.PA j.R w.less j.KA j.LA j.X j.B m.state m old next s.state after w.own s.step h))
  file-resumes (files.Close m) old new after w end s h =
      file-as (files.Close (record m { state = s.state })) new after s.machine_is
      (close-fin (record m { state = s.state }) after (close-resumes wsize turn j.PA j.R w.less j.KA j.LA j.X j.B next after.opens (w.gives after end) m.state m old s.state after w.own s.step h refl))
  file-resumes (files.Truncate m) old new after w end s h =
      file-as (files.Truncate (record m { state = truncates.resumed_state m.state m turn old })) new after s.machine_is
      (cut-fin m (record m { state = truncates.resumed_state m.state m turn old }) after refl
      (cut-resumes turn j.P j.R j.C m w.cuts m.state old next (truncates.resumed_state m.state m turn old) after s.next_is refl s.shelf_is h))
  file-resumes (files.Put m) old new after w end s h =
      file-as (files.Put s.machine) new after s.machine_is
      (put-fin s.machine after (put-resumes wsize turn j.P j.R j.K j.L j.PA j.KA j.LA j.X j.B j.A W end.0 w.adds next after m.write.lane j.S w.stands w.out (w.gives_put after end.1) w.enough w.less w.leave w.room w.own m.state m old s.machine after refl refl s.step h refl))

  pub file-takes : (sent : Turn) (came : Result Reply Fault) (N : Saving → Pending → Type 0) → JobReplies j wsize sent turn came N → (machine : FileMachine) (old : Shelf) (new : FileMachine) (after : Shelf)
      → JobLaws j wsize (file_lane lane machine) turn next W Z → WriteKnown W Z machine next after → (t : steps.Takes wsize machine sent turn came old next new after)
      → FileOpens j.A wsize machine sent turn came old next new after t → ((s : Saving) → file_save machine ≡ Some s → N s old.back) → At (FileHas j machine) old → FileFinAt new after
  file-takes sent came N v (files.Open m) old new after w end s opened n p =
      file-as _ new after s.machine_is
      (plain-fin (files.Open (opens.took_after (opening.opening_again m.opening sent turn came old.repeats) m turn came after.attrs old.pages)) old after
      (ap (λ (z : Shelf). z.seq) s.others) (ap (λ (z : Shelf). z.back) s.others) (ap (λ (z : Shelf). z.order) s.others) p (λ k h. h) (λ k h. h) w.enough)
  file-takes sent came N v (files.Read m) old new after w end s opened n p =
      file-as (files.Read s.machine) new after s.machine_is
      (plain-fin (files.Read s.machine) old after (ap (λ (z : Shelf). z.seq) s.others) (ap (λ (z : Shelf). z.back) s.others) (ap (λ (z : Shelf). z.order) s.others) p (λ k h. h) (λ k h. h) w.enough)
  file-takes sent came N v (files.Write m) old new after w end s opened n h =
      file-as (files.Write (record m { state = s.state })) new after s.machine_is
      (write-fin m (record m { state = s.state }) (writes.made_bytes m.text) after refl refl
      (write-takes wsize turn j.P j.K j.L j.PA j.A W (Unit {0}) m.offset (writes.made_bytes m.text) (any-file j.A W j.P j.PA j.B w.adds) m.lane w.room AnyPlace (λ q b o k. tt)
      sent came N v.room m.state m old next s.state after refl refl refl end s.step (λ file saving is. n saving (ap writing_save is)) h))
  file-takes sent came N v (files.Sync m) old new after w end s opened n h =
      file-as (files.Sync (record m { state = s.state })) new after s.machine_is
      (sync-fin (record m { state = s.state }) after
      (sync-takes wsize turn j.PA j.R w.less j.KA j.LA j.X j.B sent came N v.own m.state m old next s.state after w.own s.step (λ saving is. n saving (ap syncing_save is)) h))
  file-takes sent came N v (files.Close m) old new after w end s opened n h =
      file-as (files.Close (record m { state = s.state })) new after s.machine_is
      (close-fin (record m { state = s.state }) after
      (close-takes wsize turn j.PA j.R w.less j.KA j.LA j.X j.B next after.opens (w.gives after end) sent came N v.own m.state m old s.state after w.own s.step (λ saving is. n saving (ap closing_save is)) h refl))
  file-takes sent came N v (files.Truncate m) old new after w end s opened n h =
      file-as (files.Truncate (record m { state = truncates.took_state m.state came sent turn old.repeats })) new after s.machine_is
      (cut-fin m (record m { state = truncates.took_state m.state came sent turn old.repeats }) after refl
      (cut-takes turn j.P j.R j.C m w.cuts m.state sent came old next (truncates.took_state m.state came sent turn old.repeats) after s.next_is refl s.back s.shelf_is h))
  file-takes sent came N v (files.Put m) old new after w end s opened n h =
      file-as (files.Put s.machine) new after s.machine_is
      (put-fin s.machine after
      (put-takes wsize turn j.P j.R j.K j.L j.PA j.KA j.LA j.X j.B j.A W end.0 w.adds next after m.write.lane j.S w.stands w.out (w.gives_put after end.1) w.enough w.less w.leave w.room w.own sent came N v.room v.own m.state m old s.machine after refl refl s.step opened
      (λ file saving g is at. n saving (ap (λ (t : Putting). putting_save t m.write.state) is ∙ ap writing_save at)) (λ saving is. n saving (ap (λ (t : Putting). putting_save t m.write.state) is)) h refl))
