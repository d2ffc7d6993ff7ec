-- What each step of a put makes of its bytes, beside which nothing is pending.
use Rattle.std.proofs.Common.{◌≡◌, ◌≢◌, ◌≤◌, ◌^◌, ◌+◌, ◌-◌, ℕ, Bool, true, false, List, [], ◌∷◌, length, Result, Ok, Err, inl, inr, ◌⊎◌, refl, sym, ap, subst, ◌∙◌, arith}
use Rattle.std.specs.Prelude.{slice_index, Contains, if◌then◌else◌}
use Rattle.std.proofs.lemmas.Bool.{ltb-false}
use Rattle.world_model.specs.declared.answer.Fault.{Fault}
use Rattle.world_model.specs.declared.answer.Answer.TheVariants as answers
use Rattle.world_model.specs.declared.message.Call.{Call}
use Rattle.world_model.specs.declared.message.Reply.{Reply}
use Rattle.client_shelf.specs.declared.step.Step.{Step}
use Rattle.client_shelf.specs.declared.step.Step.TheVariants as nexts
use Rattle.client_shelf.specs.declared.shelf.Shelf.{Shelf}
use Rattle.client_shelf.specs.declared.turn.Turn.{Turn}
use Rattle.client_shelf.specs.LaneFiles.{is_first}
use Rattle.write_back.specs.Files.{Pending, of_file, all_pending, with_bytes, numbers_of, IsFree, IsNewest, IsNothing, OnFile}
use Rattle.write_back.specs.Pieces.{FilePending, nothing, piece_under}
use Rattle.write_back.specs.Segments.{covers}
use Rattle.write_back.specs.Sound.{IsSound, most_pending}
use Rattle.write_back.proofs.Keeping.{sound-nothing}
use Rattle.write_back.proofs.WritesByFile.{same-or}
use Rattle.file_ops.specs.declared.opening.OpeningStep.{OpeningStep}
use Rattle.file_ops.specs.declared.opening.OpeningStep.TheVariants as openings
use Rattle.file_ops.specs.declared.put_file.PutFile.{PutFile}
use Rattle.file_ops.specs.declared.put_file.Putting.{Putting}
use Rattle.file_ops.specs.declared.put_file.Putting.TheVariants as putting
use Rattle.file_ops.specs.declared.saving.Saving.{Saving}
use Rattle.file_ops.specs.declared.write_file.Writing.{Writing}
use Rattle.file_ops.specs.Adding.{is_full}
use Rattle.file_ops.specs.OpenFile.{goes_as}
use Rattle.file_ops.specs.Opening.{call_of, waits, opening_again}
use Rattle.file_ops.specs.SlotFiles.{joined}
use Rattle.file_ops.specs.PutFile as puts
use Rattle.file_ops.specs.Saves as saves
use Rattle.file_ops.specs.Syncs.{sync_next}
use Rattle.file_ops.specs.WriteFile as writes
use Rattle.file_ops.proofs.SaveCounts.{by-step, ends_as}
use Rattle.step_pending.specs.Cells.{EachSound}
use Rattle.step_pending.proofs.ComingIn.{sound-in}
use Rattle.step_saves.specs.Accounts.{Account, ByWrite, ByCommit}
use Rattle.step_saves.specs.PutBytes.{PutSaves, PutAt, PutLeaves}
use Rattle.step_saves.specs.Saves.{GoesOn, IsAwaited, Leaves}
use Rattle.step_saves.proofs.AccountSteps.{goes-known, takes-known, own-known, clear-known}
use Rattle.step_saves.proofs.Going.{begins, goes-leaves, goes-sound}
use Rattle.step_saves.proofs.Taking.{takes-leaves, takes-sound}

none-flies : (offset number : ℕ) (bytes : List ℕ) → (with_bytes offset bytes number nothing).pieces ≡ []
none-flies offset number [] = refl
none-flies offset number (b ∷ bs) = refl

-- a number is above all of none
none-in : (n : ℕ) → Contains [] n → ⊥
none-in n found = omega (arith, found.1)

module _ (offset : ℕ) (bytes : List ℕ) (Wrote : List ℕ → ℕ → List ℕ → Type 0) (Finished : List ℕ → ℕ → Type 0) where
  abbrev At : Putting → Pending → Type 0
  At state back = PutAt offset bytes Wrote Finished state back

  abbrev Leaving : Step → Putting → Pending → Type 0
  Leaving next state back = PutLeaves offset bytes Wrote Finished next state back

  abbrev EachOf : List ℕ → ℕ → Pending → Type 0
  EachOf file upto back = (place : ℕ) → covers offset (length bytes) place ≡ true → Account place (slice_index bytes (place - offset)) upto (Wrote file place) (Finished file place) (of_file file back)

  leaving-is : (next to : Step) (state was : Putting) (new mid : Shelf) → next ≡ to → state ≡ was → new ≡ mid → Leaving to was mid.back → Leaving next state new.back
  leaving-is next to state was new mid n s m l =
      subst (λ z. Leaving z state new.back) (sym n) (subst (λ z. Leaving to z new.back) (sym s) (subst (λ (z : Shelf). Leaving to was z.back) (sym m) l))

  -- its save goes on, or has ended
  follows-leaves : (gives : _) (lane : ℕ) (s saved : Saving) (mid : Shelf) (next : Step) (state : Putting) (new : Shelf) → EachSound mid.back → EachOf s.file s.upto mid.back
      → Leaves (sync_next gives) s saved mid.back → puts.Follows gives lane saved mid next state new → Leaving next state new.back
  follows-leaves gives lane s saved mid next state new sound each leaves follows =
      by-step (λ g. Leaves (sync_next g) s saved mid.back → puts.Follows g lane saved mid next state new → Leaving next state new.back)
      (λ call l f. leaving-is next (nexts.Send call) state (putting.Saves saved) new mid f.0 f.1 f.2 (on l))
      (λ l f. leaving-is next nexts.Wait state (putting.Saves saved) new mid f.0 f.1 f.2 (on l))
      (λ result l f. ended result l f) gives leaves follows
    where
      on : GoesOn s saved mid.back → PutSaves offset bytes Wrote Finished saved mid.back
      on l = record {
        sound = sound;
        way = l.so;
        bytes_are = λ place inside.
            subst (λ (f : List ℕ). Account place (slice_index bytes (place - offset)) saved.upto (Wrote f place) (Finished f place) (of_file f mid.back)) (sym l.file)
            (subst (λ (n : ℕ). Account place (slice_index bytes (place - offset)) n (Wrote s.file place) (Finished s.file place) (of_file s.file mid.back)) (sym l.upto) (each place inside));
      }

      ended : (result : Result (Unit {0}) Fault) → Leaves (sync_next (ends_as result)) s saved mid.back → puts.Follows (ends_as result) lane saved mid next state new → Leaving next state new.back
      ended (Ok done) l f =
          subst (λ z. Leaving z state new.back) (sym f.next_is)
          (s.file, (λ place inside. clear-known s.file place (slice_index bytes (place - offset)) s.upto (Wrote s.file place) (Finished s.file place) s.upto mid.back l.clear (omega arith) (each place inside)))
      ended (Err fault) l f = subst (λ z. Leaving z state new.back) (sym f.next_is) tt

  module _ (wsize lane : ℕ) (turn : Turn) (some : 1 ≤ wsize) where
    saves-on : (s : Saving) (old : Shelf) (next : Step) (state : Putting) (new : Shelf) → ((file : List ℕ) → IsFree turn.xid file old.back) → PutSaves offset bytes Wrote Finished s old.back
        → puts.GoesOn wsize lane turn s old next state new → Leaving next state new.back
    saves-on s old next state new free has g =
        follows-leaves g.gives lane s g.saved g.gone next state new
        (goes-sound wsize turn.xid turn.room false s old.back g.gives g.saved g.gone.back has.sound (free s.file) g.goes)
        (λ place inside. goes-known s.file place (slice_index bytes (place - offset)) s.upto (Wrote s.file place) (Finished s.file place) wsize turn.xid turn.room false s old.back g.gives g.saved g.gone.back has.sound (has.bytes_are place inside) g.goes)
        (goes-leaves wsize turn.xid turn.room false s old.back g.gives g.saved g.gone.back some (has.sound s.file) has.way g.goes) g.follows

    queues-if : (b : Bool) (s : Saving) (old : Shelf) (next : Step) (state : Putting) (new : Shelf) → ((file : List ℕ) → IsFree turn.xid file old.back) → PutSaves offset bytes Wrote Finished s old.back
        → puts.QueuesIf b wsize lane turn s old next state new → Leaving next state new.back
    queues-if true s old next state new free has g = saves-on s old next state new free has g
    queues-if false s old next state new free has w = leaving-is next nexts.Wait state (putting.Saves s) new old w.next_is w.state_is w.shelf_is has

    -- its save takes what came
    pub takes-save : (sent : Turn) (came : Result Reply Fault) (s : Saving) (old : Shelf) (next : Step) (state : Putting) (new : Shelf) → ((file : List ℕ) → IsFree turn.xid file old.back)
        → PutSaves offset bytes Wrote Finished s old.back → IsAwaited s sent.xid old.back
        → ((place : ℕ) → covers offset (length bytes) place ≡ true → ByWrite place (slice_index bytes (place - offset)) (Wrote s.file place) (Finished s.file place) s.file old.back sent.xid s.file came)
        → ((place : ℕ) → covers offset (length bytes) place ≡ true → ByCommit (Wrote s.file place) (Finished s.file place) s.file s.file came) → puts.TakesOne wsize lane sent turn came s old next state new → Leaving next state new.back
    takes-save sent came s old next state new free has awaited written committed t =
        follows-leaves t.gives lane s t.saved t.took next state new
        (takes-sound wsize sent turn came old.repeats s old.back t.gives t.saved t.took.back t.took.repeats has.sound free t.takes)
        (λ place inside. takes-known s.file place (slice_index bytes (place - offset)) s.upto (Wrote s.file place) (Finished s.file place) wsize sent turn came old.repeats s old.back t.gives t.saved t.took.back t.took.repeats has.sound
        (has.bytes_are place inside) (written place inside) (committed place inside) t.takes)
        (takes-leaves wsize sent turn came old.repeats s old.back t.gives t.saved t.took.back t.took.repeats some has.sound has.way awaited t.takes) t.follows

    -- ---- its bytes come in

    module _ (file : List ℕ) (old : Shelf) (empty : IsNothing old.back) (newest : IsNewest (old.seq + 1) old.back) (last : offset + length bytes ≤ 2 ^ 63 - 1) where
      sound-old : EachSound old.back
      sound-old other = subst IsSound (sym (empty other)) sound-nothing

      -- what was pending then
      saves-begun : (mid : Shelf) → mid.seq ≡ old.seq + 1 → all_pending old.back + length bytes ≤ most_pending → OnFile old.back mid.back file (with_bytes offset bytes (old.seq + 1) (of_file file old.back))
          → PutSaves offset bytes Wrote Finished (saves.begun file mid.seq) mid.back
      saves-begun mid seq room on = record {
        sound = sound-in old.back mid.back file offset (old.seq + 1) bytes sound-old newest last room on;
        way = begins file mid.seq mid.back (ap (λ (of : FilePending). of.pieces) (on.here ∙ ap (with_bytes offset bytes (old.seq + 1)) (empty file)) ∙ none-flies offset (old.seq + 1) bytes);
        bytes_are = λ place inside.
            own-known file place (slice_index bytes (place - offset)) mid.seq (Wrote file place) (Finished file place) offset bytes old.back mid.back sound-old
            (subst (λ (n : ℕ). OnFile old.back mid.back file (with_bytes offset bytes n (of_file file old.back))) (sym seq) on) inside refl;
      }

      -- nothing is in flight then
      free-then : (mid : Shelf) → OnFile old.back mid.back file (with_bytes offset bytes (old.seq + 1) (of_file file old.back)) → (to : List ℕ) → IsFree turn.xid to mid.back
      free-then mid on to = ap (piece_under turn.xid) (by (same-or file to))
        where
          by : (to ≡ file) ⊎ (to ≢ file) → (of_file to mid.back).pieces ≡ []
          by (inl same) =
              ap (λ (f : List ℕ). (of_file f mid.back).pieces) same ∙ ap (λ (of : FilePending). of.pieces) (on.here ∙ ap (with_bytes offset bytes (old.seq + 1)) (empty file))
              ∙ none-flies offset (old.seq + 1) bytes
          by (inr apart) = ap (λ (of : FilePending). of.pieces) (on.others to apart ∙ empty to)

      -- a write that was refused refuses the put
      refused-put : (told : Step) (fault : Fault) (mid : Shelf) (next : Step) (state : Putting) (new : Shelf) → told ≡ nexts.Done (answers.Refused fault) → puts.AfterWrite told wsize lane file turn mid next state new
          → Leaving next state new.back
      refused-put told fault mid next state new is after =
          let ends = subst (λ z. puts.AfterWrite z wsize lane file turn mid next state new) is after in
          subst (λ z. Leaving z state new.back) (sym ends.next_is) tt

      -- the room for its bytes, and what follows
      comes-in : (b : Bool) (told : Step) (written : Writing) (mid : Shelf) (next : Step) (state : Putting) (new : Shelf) → is_full bytes old.back ≡ b
          → writes.WritesIf b wsize lane file offset bytes turn (puts.put_at lane file old) told written mid
          → puts.AfterWrite told wsize lane file turn mid next state new → Leaving next state new.back
      comes-in true told written mid next state new full (inl oldest) after =
          absurd (none-in oldest.oldest.number (subst (λ (of : FilePending). Contains (numbers_of of) oldest.oldest.number) (empty oldest.of) oldest.oldest.there))
      comes-in true told written mid next state new full (inr refused) after = refused-put told _ mid next state new refused.1.gives_next after
      comes-in false told written mid next state new full (inr refused) after = refused-put told _ mid next state new refused.gives_next after
      comes-in false told written mid next state new full (inl adds) after =
          let seq : mid.seq ≡ old.seq + 1 = ap (λ (z : Shelf). z.seq) adds.leads.shelf_is in
          let room : all_pending old.back + length bytes ≤ most_pending = ltb-false most_pending (all_pending old.back + length bytes) full in
          let follows = subst (λ z. puts.AfterWrite z wsize lane file turn mid next state new) adds.leads.gives_next after in
          queues-if (is_first lane (joined lane file mid).order) (saves.begun file mid.seq) (joined lane file mid) next state new (free-then mid adds.adds) (saves-begun mid seq room adds.adds) follows

-- ---- the put

-- what the put's bytes need as they come in: the next number of a write is above those of all pending bytes, and they end below 2 ^ 63
pub record MayAdd (m : PutFile) (old : Shelf) : Type 0 where
  pub newest : IsNewest (old.seq + 1) old.back
  pub last : m.write.offset + length (writes.made_bytes m.write.text) ≤ 2 ^ 63 - 1

module _ (Wrote : List ℕ → ℕ → List ℕ → Type 0) (Finished : List ℕ → ℕ → Type 0) (wsize : ℕ) (turn : Turn) (some : 1 ≤ wsize) where
  -- so it is, and so it leaves what is pending
  abbrev pub Has : PutFile → Putting → Pending → Type 0
  Has m state back = PutAt m.write.offset (writes.made_bytes m.write.text) Wrote Finished state back

  abbrev pub LeavesPut : PutFile → Step → Putting → Pending → Type 0
  LeavesPut m next state back = PutLeaves m.write.offset (writes.made_bytes m.write.text) Wrote Finished next state back

  put-is : (m : PutFile) (next to : Step) (state was : Putting) (new mid : Shelf) → next ≡ to → state ≡ was → new ≡ mid → LeavesPut m to was mid.back → LeavesPut m next state new.back
  put-is m next to state was new mid n s b l = leaving-is m.write.offset (writes.made_bytes m.write.text) Wrote Finished next to state was new mid n s b l

  -- what follows a step of its opening
  opened : (step : OpeningStep) (m : PutFile) (old : Shelf) (next : Step) (new : PutFile) (after : Shelf) → m.state ≡ putting.Opens → IsNothing old.back → MayAdd m old
      → puts.AfterOpening step wsize m turn old next new after → LeavesPut m next new.state after.back
  opened (openings.Send call) m old next new after opens empty may f =
      put-is m next (nexts.Send call) new.state putting.Opens after old f.0 (ap (λ (z : PutFile). z.state) f.1 ∙ opens) f.2 empty
  opened openings.Wait m old next new after opens empty may f =
      put-is m next nexts.Wait new.state putting.Opens after old f.next_is (ap (λ (z : PutFile). z.state) f.machine_is ∙ opens) f.shelf_is empty
  opened (openings.Ended (Ok file)) m old next new after opens empty may f =
      comes-in m.write.offset (writes.made_bytes m.write.text) Wrote Finished wsize m.write.lane turn some file old empty may.newest may.last (is_full (writes.made_bytes m.write.text) old.back)
      f.told f.written f.mid next new.state after refl f.writes f.goes.follows
  opened (openings.Ended (Err fault)) m old next new after opens empty may f = subst (λ z. LeavesPut m z new.state after.back) (sym f.0) tt

  goes-opening : (b : Bool) (call : Call) (m : PutFile) (old : Shelf) (next : Step) (state : Putting) (new : Shelf) → IsNothing old.back
      → next ≡ goes_as (if b then openings.Wait else openings.Send call) → state ≡ putting.Opens → new ≡ old → LeavesPut m next state new.back
  goes-opening true call m old next state new empty n s b = put-is m next nexts.Wait state putting.Opens new old n s b empty
  goes-opening false call m old next state new empty n s b = put-is m next (nexts.Send call) state putting.Opens new old n s b empty

  -- a step without a reply
  pub put-resumes : (state : Putting) (m : PutFile) (old : Shelf) (next : Step) (new : PutFile) (after : Shelf) → m.state ≡ state → ((file : List ℕ) → IsFree turn.xid file old.back) → Has m state old.back
      → puts.Resumes state wsize m turn old next new after → LeavesPut m next new.state after.back
  put-resumes putting.Idle m old next new after is free has r =
      put-is m next nexts.Wait new.state putting.Idle after old r.next_is (ap (λ (z : PutFile). z.state) r.machine_is ∙ is) r.shelf_is has
  put-resumes putting.Opens m old next new after is free has r =
      goes-opening (waits m.opening turn) (call_of m.opening m.opening.step) m old next new.state after has r.0 (ap (λ (z : PutFile). z.state) r.1 ∙ is) r.2
  put-resumes (putting.Adds file) m old next new after is free has r = absurd has
  put-resumes (putting.Saves s) m old next new after is free has r =
      queues-if m.write.offset (writes.made_bytes m.write.text) Wrote Finished wsize m.write.lane turn some (is_first m.write.lane old.order) s old next new.state after free has r.0

  -- what is to be known of what came to its save
  abbrev pub SaveKnown : Putting → PutFile → Turn → Result Reply Fault → Pending → Type 0
  SaveKnown putting.Idle m sent came back = Unit {0}
  SaveKnown putting.Opens m sent came back = Unit {0}
  SaveKnown (putting.Adds file) m sent came back = Unit {0}
  SaveKnown (putting.Saves s) m sent came back =
      IsAwaited s sent.xid back
      × ((place : ℕ) → covers m.write.offset (length (writes.made_bytes m.write.text)) place ≡ true
      → ByWrite place (slice_index (writes.made_bytes m.write.text) (place - m.write.offset)) (Wrote s.file place) (Finished s.file place) s.file back sent.xid s.file came)
      × ((place : ℕ) → covers m.write.offset (length (writes.made_bytes m.write.text)) place ≡ true → ByCommit (Wrote s.file place) (Finished s.file place) s.file s.file came)

  -- a step with what came of its call
  pub put-takes : (state : Putting) (m : PutFile) (sent : Turn) (came : Result Reply Fault) (old : Shelf) (next : Step) (new : PutFile) (after : Shelf) → m.state ≡ state
      → ((file : List ℕ) → IsFree turn.xid file old.back) → MayAdd m old → Has m state old.back → SaveKnown state m sent came old.back
      → puts.Takes state wsize m sent turn came old next new after → LeavesPut m next new.state after.back
  put-takes putting.Idle m sent came old next new after is free may has known t =
      put-is m next nexts.Wait new.state putting.Idle after old t.next_is (ap (λ (z : PutFile). z.state) t.machine_is ∙ is) t.shelf_is has
  put-takes putting.Opens m sent came old next new after is free may has known t =
      let back : t.took.back ≡ old.back = ap (λ (z : Shelf). z.back) t.others in
      let seq : t.took.seq ≡ old.seq = ap (λ (z : Shelf). z.seq) t.others in
      opened t.step (puts.led (opening_again m.opening sent turn came old.repeats) m turn came t.took.attrs old.pages) t.took next new after is
      (subst IsNothing (sym back) has)
      (record { newest = subst (λ (n : ℕ). IsNewest (n + 1) t.took.back) (sym seq) (subst (λ (p : Pending). IsNewest (old.seq + 1) p) (sym back) may.newest); last = may.last }) t.follows
  put-takes (putting.Adds file) m sent came old next new after is free may has known t = absurd has
  put-takes (putting.Saves s) m sent came old next new after is free may has known t =
      takes-save m.write.offset (writes.made_bytes m.write.text) Wrote Finished wsize m.write.lane turn some sent came s old next new.state after free has known.0 known.1 known.2 t.0
