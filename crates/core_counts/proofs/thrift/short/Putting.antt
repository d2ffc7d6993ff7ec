-- A put whose bytes have both places, or neither: so through each of its steps, its path among them.
use Rattle.core_counts.proofs.Prelude.{◌≡◌, ◌<◌, ◌≤◌, ◌^◌, ◌⊎◌, inl, inr, ◌+◌, ◌-◌, ℕ, Bool, true, false, List, [], ◌∷◌, length, Some, None, Result, Ok, Err, refl, sym, ap, subst, ◌∙◌, arith, slice_index, ltb-false, Fault, Reply, Step, Shelf, Turn, is_first, Unsent, Pending, of_file, all_pending, with_bytes, OnFile, HasNoPiece, IsNewest, FilePending, Flown, rest_at, fly_at, fly_in, PutsBytes, Cell, covers, how_of, ready_of, puts-with, OpeningStep, PutFile, Putting, Saving, Writing, is_full, refusal_of, joined, by-step, ends_as, WalkStep, Machine, Opener, PathMachine, file_of, slot_taken, begun_at, Starts, Resumes, Takes, EachSound, if-true, if-false, IsAwaited, TakesHas, PathHas, FileHas, PutHas, WaitsPlain, NotAsStable}
use Rattle.write_back.specs.Pieces.{Sent}
use Rattle.file_ops.specs.Closings.{closed_answer}
use Rattle.op_machines.specs.Openers.{placed}
use Rattle.world_model.specs.declared.answer.Answer.TheVariants as answers
use Rattle.client_shelf.specs.declared.step.Step.TheVariants as nexts
use Rattle.write_back.specs.declared.state.State.TheVariants.{Waiting}
use Rattle.write_back.specs.Sound.{most_pending}
use Rattle.file_ops.specs.declared.opening.OpeningStep.TheVariants as openings
use Rattle.file_ops.specs.declared.put_file.Putting.TheVariants as putting
use Rattle.file_ops.specs.PutFile as puts
use Rattle.file_ops.specs.Saves as saves
use Rattle.file_ops.specs.Syncs.{sync_next}
use Rattle.file_ops.specs.WriteFile as writes
use Rattle.name_ops.specs.declared.walk.WalkStep.TheVariants as walks
use Rattle.name_ops.specs.Walking as walking
use Rattle.name_ops.proofs.Keeps.{walk-takes-kept}
use Rattle.op_machines.specs.declared.machine.Machine.TheVariants as machines
use Rattle.op_machines.specs.declared.opener.Opener.TheVariants as openers
use Rattle.op_machines.specs.FileSteps as steps
use Rattle.op_machines.specs.PathSteps as paths
use Rattle.step_pending.proofs.ComingIn.{sound-in}
use Rattle.step_saves.proofs.Going.{begins}
use Rattle.core_facts.proofs.Expecting.{some-put, no-open}
use Rattle.core_session.proofs.drops.SaveFiles.{goes-save, takes-save}
use Rattle.core_counts.proofs.counts.writes.Weights.{newest-below}
use Rattle.core_counts.proofs.thrift.short.Ends.{Each, Second, waits, flies, EndsLong}
use Rattle.core_counts.proofs.thrift.short.Holding.{Hold, Early, HoldsOn, hold-goes, hold-takes, hold-unmade}

same-pieces : (offset : ℕ) (bytes : List ℕ) (number : ℕ) (of : FilePending) → (with_bytes offset bytes number of).pieces ≡ of.pieces
same-pieces offset [] number of = refl
same-pieces offset (b ∷ bs) number of = refl

module _ (before next wsize : ℕ) (is_next : next ≡ before + 1) (some : 1 ≤ wsize) (f : List ℕ) (Cov : Type 0) (offset : ℕ) (bytes : List ℕ) (side : Bool) (has_before : covers offset (length bytes) before ≡ side)
    (has_next : covers offset (length bytes) next ≡ side) where
  abbrev pub Holding : Saving → Pending → Type 0
  Holding s b = Hold before next wsize is_next some s b

  abbrev pub Soon : ℕ → List ℕ → Pending → Type 0
  Soon to file b = Early before next wsize is_next some to file b

  -- of a save of the file
  abbrev pub SaveIs : Saving → Pending → Type 0
  SaveIs s b = s.file ≡ f → Cov ⊎ Holding s b

  -- until its bytes come in, where they don't have both: the second byte waits, and the first isn't to be sent as stable
  abbrev pub Awaits : Bool → Pending → Type 0
  Awaits true b = Unit {0}
  Awaits false b = Cov ⊎ (NotAsStable (of_file f b) before × WaitsPlain (of_file f b) next)

  abbrev pub AtState : Putting → Pending → Type 0
  AtState putting.Idle b = Awaits side b
  AtState putting.Opens b = Awaits side b
  AtState (putting.Adds file) b = ⊥
  AtState (putting.Saves s) b = SaveIs s b

  -- it has these bytes
  pub record HasText (p : PutFile) : Type 0 where
    pub offset_is : p.write.offset ≡ offset
    pub text_is : writes.made_bytes p.write.text ≡ bytes

  pub record PutIs (p : PutFile) (b : Pending) : Type 0 where
    pub text : HasText p
    pub at : AtState p.state b

  abbrev pub PutOn : Step → PutFile → Pending → Type 0
  PutOn (nexts.Send call) p b = PutIs p b
  PutOn nexts.Wait p b = PutIs p b
  PutOn (nexts.Done answer) p b = Unit {0}

  -- what is known as its bytes come in
  pub record MayAdd (old : Shelf) : Type 0 where
    pub newest : IsNewest (old.seq + 1) old.back
    pub last : offset + length bytes ≤ 2 ^ 63 - 1
    pub full : is_full bytes old.back ≡ false
    pub quiet : HasNoPiece f old.back

  put-on : (nx to : Step) (new p : PutFile) (after mid : Shelf) → nx ≡ to → new ≡ p → after ≡ mid → PutOn to p mid.back → PutOn nx new after.back
  put-on nx to new p after mid n m s h = rw (n, m, s) h

  -- ---- its save

  abbrev SaveOn : Step → Saving → Pending → Type 0
  SaveOn (nexts.Send call) s b = SaveIs s b
  SaveOn nexts.Wait s b = SaveIs s b
  SaveOn (nexts.Done answer) s b = Unit {0}

  save-on : (n : Step) (s new : Saving) (b : Pending) → new.file ≡ s.file → (s.file ≡ f → Cov ⊎ HoldsOn before next wsize is_next some n s new b) → SaveOn n new b
  save-on (nexts.Send call) s new b file h = λ same. elim (h (sym file ∙ same)) [ inl c ↦ inl c | inr k ↦ inr k.1 ]
  save-on nexts.Wait s new b file h = λ same. elim (h (sym file ∙ same)) [ inl c ↦ inl c | inr k ↦ inr k.1 ]
  save-on (nexts.Done answer) s new b file h = tt

  follows-on : (gives : _) (lane : ℕ) (saved : Saving) (p new : PutFile) (mid : Shelf) (nx : Step) (after : Shelf) → HasText p → new ≡ record p { state = new.state }
      → puts.Follows gives lane saved mid nx new.state after → SaveOn (sync_next gives) saved mid.back → PutOn nx new after.back
  follows-on gives lane saved p new mid nx after text is follows on =
      by-step (λ g. puts.Follows g lane saved mid nx new.state after → SaveOn (sync_next g) saved mid.back → PutOn nx new after.back)
      (λ call f h. going nx (nexts.Send call) f.0 f.1 f.2 (λ k. k) h)
      (λ f h. going nx nexts.Wait f.0 f.1 f.2 (λ k. k) h)
      (λ result f h. subst (λ (n : Step). PutOn n new after.back) (sym (ended result f)) tt) gives follows on
    where
      own : AtState new.state after.back → PutIs new after.back
      own at = record { text = record { offset_is = ap (λ (z : PutFile). z.write.offset) is ∙ text.offset_is; text_is = ap (λ (z : PutFile). writes.made_bytes z.write.text) is ∙ text.text_is }; at = at }

      going : (n to : Step) → n ≡ to → new.state ≡ putting.Saves saved → after ≡ mid → (PutIs new after.back → PutOn to new after.back) → SaveIs saved mid.back → PutOn n new after.back
      going n to is_ state shelf on_ h =
          subst (λ (z : Step). PutOn z new after.back) (sym is_)
          (on_ (own (subst (λ (s : Putting). AtState s after.back) (sym state) (subst (λ (z : Shelf). SaveIs saved z.back) (sym shelf) h))))

      ended : (result : Result (Unit {0}) Fault) → puts.Follows (ends_as result) lane saved mid nx new.state after → nx ≡ nexts.Done (closed_answer (refusal_of result))
      ended result f = f.next_is

  module _ (turn : Turn) (old : Shelf) (sound : EachSound old.back) where
    queues-on : (b : Bool) (lane : ℕ) (s : Saving) (p new : PutFile) (nx : Step) (after : Shelf) → (s.file ≡ f → Soon turn.xid s.file old.back) → HasText p → new ≡ record p { state = new.state }
        → puts.QueuesIf b wsize lane turn s old nx new.state after → SaveIs s old.back → PutOn nx new after.back
    queues-on false lane s p new nx after early text is q h =
        subst (λ (n : Step). PutOn n new after.back) (sym q.next_is)
        (record {
          text = record { offset_is = ap (λ (z : PutFile). z.write.offset) is ∙ text.offset_is; text_is = ap (λ (z : PutFile). writes.made_bytes z.write.text) is ∙ text.text_is };
          at = subst (λ (z : Putting). AtState z after.back) (sym q.state_is) (subst (λ (z : Shelf). SaveIs s z.back) (sym q.shelf_is) h);
        })
    queues-on true lane s p new nx after early text is g h =
        follows-on g.gives lane g.saved p new g.gone nx after text is g.follows
        (save-on (sync_next g.gives) s g.saved g.gone.back
        (goes-save s.file s.upto wsize turn.xid turn.room false s old.back g.gives g.saved g.gone.back (record { file_is = refl; upto_is = refl }) g.goes).file_is
        (λ same. elim (h same) [
          | inl c ↦ inl c
          | inr k ↦ inr (hold-goes before next wsize is_next some turn.xid turn.room false s old.back g.gives g.saved g.gone.back sound (early same) g.goes k)
        ]))

  -- ---- its bytes come in

  module _ (turn : Turn) (old : Shelf) (sound : EachSound old.back) (may : MayAdd old) (file : List ℕ) where
    held-begun : (mid : Pending) → OnFile old.back mid file (with_bytes offset bytes (old.seq + 1) (of_file file old.back)) → file ≡ f → Awaits side old.back → Cov ⊎ Holding (saves.begun file (old.seq + 1)) mid
    held-begun mid on same = by side refl
      where
        none : (of_file file mid).pieces ≡ []
        none =
            ap (λ (of : FilePending). of.pieces) on.here ∙ same-pieces offset bytes (old.seq + 1) (of_file file old.back)
            ∙ ap (λ (g : List ℕ). (of_file g old.back).pieces) same ∙ may.quiet

        comes : PutsBytes offset bytes (old.seq + 1) (of_file file old.back) (of_file file mid)
        comes = puts-with offset bytes (old.seq + 1) (of_file file old.back) (of_file file mid) (sound file) on.here

        written : ℕ → Cell
        written place = record { byte = slice_index bytes (place - offset); number = old.seq + 1; state = Waiting Unsent }

        here : (place : ℕ) → covers offset (length bytes) place ≡ true → rest_at (of_file file mid) place ≡ Some (written place)
        here place inside = comes.rest place ∙ if-true (covers offset (length bytes) place) (Some (written place)) (rest_at (of_file file old.back) place) inside

        stays : (place : ℕ) → covers offset (length bytes) place ≡ false → rest_at (of_file file mid) place ≡ rest_at (of_file f old.back) place
        stays place outside =
            comes.rest place ∙ if-false (covers offset (length bytes) place) (Some (written place)) (rest_at (of_file file old.back) place) outside
            ∙ ap (λ (g : List ℕ). rest_at (of_file g old.back) place) same

        one : (a b : Cell) → Some a ≡ Some b → a ≡ b
        one a b e = cc

        plain : (cell : Cell) → written before ≡ cell → how_of (ready_of cell.state) ≡ 0
        plain cell is = subst (λ (c : Cell). how_of (ready_of c.state) ≡ 0) is refl

        no-fly : (place : ℕ) (flown : Flown) → fly_at (of_file file mid) place ≡ Some flown → ⊥
        no-fly place flown at = let no_way : None ≡ Some flown = sym (ap (λ (qs : List Sent). fly_in qs place) none) ∙ at in absurd cc

        by : (c : Bool) → side ≡ c → Awaits c old.back → Cov ⊎ Holding (saves.begun file (old.seq + 1)) mid
        by true is awaits = inr (record {
          way = begins file (old.seq + 1) mid none;
          open_ = record {
            second = waits (written next) (here next (has_next ∙ is)) refl refl (omega arith) (subst (Each (EndsLong before next wsize)) (sym none) tt);
            rest = λ cell at. plain cell (one (written before) cell (sym (here before (has_before ∙ is)) ∙ at));
            fly = λ flown at. absurd (no-fly before flown at);
            apart = λ place flown at. absurd (no-fly place flown at);
          };
        })
        by false is (inl c) = inl c
        by false is (inr both) =
            let low = (newest-below old.seq f old.back may.newest next).rest both.1.cell both.1.at in
            inr (record {
              way = begins file (old.seq + 1) mid none;
              open_ = record {
                second = waits both.1.cell (stays next (has_next ∙ is) ∙ both.1.at) both.1.ready both.1.plain (omega (arith, low)) (subst (Each (EndsLong before next wsize)) (sym none) tt);
                rest = λ cell at. both.0 cell (sym (stays before (has_before ∙ is)) ∙ at);
                fly = λ flown at. absurd (no-fly before flown at);
                apart = λ place flown at. absurd (no-fly place flown at);
              };
            })

    refused-on : (told : Step) (fault : Fault) (lane : ℕ) (mid : Shelf) (nx : Step) (new : PutFile) (after : Shelf) → told ≡ nexts.Done (answers.Refused fault)
        → puts.AfterWrite told wsize lane file turn mid nx new.state after → PutOn nx new after.back
    refused-on told fault lane mid nx new after is f =
        let ends = subst (λ (z : Step). puts.AfterWrite z wsize lane file turn mid nx new.state after) is f in
        subst (λ (z : Step). PutOn z new after.back) (sym ends.next_is) tt

    comes-in : (b : Bool) (lane : ℕ) (told : Step) (written : Writing) (mid : Shelf) (p new : PutFile) (nx : Step) (after : Shelf) → is_full bytes old.back ≡ b → Awaits side old.back → HasText p
        → new ≡ record p { write = record p.write { state = written }; state = new.state }
        → writes.WritesIf b wsize lane file offset bytes turn (puts.put_at lane file old) told written mid → puts.AfterWrite told wsize lane file turn mid nx new.state after → PutOn nx new after.back
    comes-in true lane told written mid p new nx after full awaits text is w f = absurd (let full_ = may.full in let no_way : true ≡ false = sym full ∙ full_ in cc)
    comes-in false lane told written mid p new nx after full awaits text is (inr refused) f = refused-on told _ lane mid nx new after refused.gives_next f
    comes-in false lane told written mid p new nx after full awaits text is (inl adds) wrote =
        let follows = subst (λ (z : Step). puts.AfterWrite z wsize lane file turn mid nx new.state after) adds.leads.gives_next wrote in
        let seq : mid.seq ≡ old.seq + 1 = ap (λ (z : Shelf). z.seq) adds.leads.shelf_is in
        let room : all_pending old.back + length bytes ≤ most_pending = ltb-false most_pending (all_pending old.back + length bytes) full in
        let fine : EachSound mid.back = sound-in old.back mid.back file offset (old.seq + 1) bytes sound may.newest may.last room adds.adds in
        queues-on turn (joined lane file mid) fine (is_first lane (joined lane file mid).order) lane (saves.begun file mid.seq) (record p { write = record p.write { state = written } }) new nx after
        (λ same. subst (Each (λ q. q.xid < turn.xid)) (sym (pieces mid.back adds.adds same)) tt)
        (record { offset_is = text.offset_is; text_is = text.text_is }) is follows
        (λ same. subst (λ (n : ℕ). Cov ⊎ Holding (saves.begun file n) mid.back) (sym seq) (held-begun mid.back adds.adds same awaits))
      where
        pieces : (mid : Pending) → OnFile old.back mid file (with_bytes offset bytes (old.seq + 1) (of_file file old.back)) → file ≡ f → (of_file file mid).pieces ≡ []
        pieces mid on same =
            ap (λ (of : FilePending). of.pieces) on.here ∙ same-pieces offset bytes (old.seq + 1) (of_file file old.back)
            ∙ ap (λ (g : List ℕ). (of_file g old.back).pieces) same ∙ may.quiet

  -- ---- a step of the put

  -- what is known of what came: the second byte isn't in flight, or was covered; or the call couldn't be made, and was the last one
  abbrev pub HeardBy : Turn → Turn → Result Reply Fault → Putting → Pending → Type 0
  HeardBy sent turn came putting.Idle b = Unit {0}
  HeardBy sent turn came putting.Opens b = Unit {0}
  HeardBy sent turn came (putting.Adds file) b = Unit {0}
  HeardBy sent turn came (putting.Saves s) b =
      IsAwaited s sent.xid b
      × (Soon turn.xid s.file b × ((flown : Flown) → s.file ≡ f → fly_at (of_file s.file b) next ≡ Some flown → Cov) ⊎ ((fault : Fault) × (came ≡ Err fault) × (s.file ≡ f → Each (λ q. q.xid ≤ sent.xid) (of_file s.file b).pieces)))

  opened-on : (turn : Turn) (old : Shelf) (sound : EachSound old.back) (step : OpeningStep) (p new : PutFile) (nx : Step) (after : Shelf) → HasText p → p.state ≡ putting.Opens → Awaits side old.back
      → puts.AfterOpening step wsize p turn old nx new after → ((file : List ℕ) → step ≡ openings.Ended (Ok file) → MayAdd old) → PutOn nx new after.back
  opened-on turn old sound (openings.Send call) p new nx after text opens awaits f may = put-on nx (nexts.Send call) new p after old f.0 f.1 f.2 (record { text = text; at = rw opens awaits })
  opened-on turn old sound openings.Wait p new nx after text opens awaits f may = put-on nx nexts.Wait new p after old f.next_is f.machine_is f.shelf_is (record { text = text; at = rw opens awaits })
  opened-on turn old sound (openings.Ended (Err fault)) p new nx after text opens awaits f may = subst (λ (z : Step). PutOn z new after.back) (sym f.0) tt
  opened-on turn old sound (openings.Ended (Ok file)) p new nx after text opens awaits f may =
      comes-in turn old sound (may file refl) file (is_full bytes old.back) p.write.lane f.told f.written f.mid p new nx after refl awaits text f.goes.machine_is
      (subst (λ (bs : List ℕ). writes.Writes wsize p.write.lane file offset bs turn (puts.put_at p.write.lane file old) f.told f.written f.mid) text.text_is
      (subst (λ (o : ℕ). writes.Writes wsize p.write.lane file o (writes.made_bytes p.write.text) turn (puts.put_at p.write.lane file old) f.told f.written f.mid) text.offset_is f.writes)) f.goes.follows

  may-as : (old took : Shelf) → took.back ≡ old.back → took.seq ≡ old.seq → MayAdd old → MayAdd took
  may-as old took back seq may = record {
    newest = subst (λ (n : ℕ). IsNewest (n + 1) took.back) (sym seq) (subst (IsNewest (old.seq + 1)) (sym back) may.newest);
    last = may.last;
    full = subst (λ (b : Pending). is_full bytes b ≡ false) (sym back) may.full;
    quiet = subst (HasNoPiece f) (sym back) may.quiet;
  }

  module _ (turn : Turn) (old : Shelf) (sound : EachSound old.back) where
    put-resumes : (state : Putting) (p new : PutFile) (nx : Step) (after : Shelf) → p.state ≡ state → HasText p → AtState state old.back → ((s : Saving) → state ≡ putting.Saves s → Soon turn.xid s.file old.back) → puts.Resumes state wsize p turn old nx new after → PutOn nx new after.back
    put-resumes putting.Idle p new nx after is text at early r = put-on nx nexts.Wait new p after old r.next_is r.machine_is r.shelf_is (record { text = text; at = rw is at })
    put-resumes putting.Opens p new nx after is text at early r = by nx
      where
        own : PutIs new after.back
        own = record {
          text = record { offset_is = ap (λ (z : PutFile). z.write.offset) r.1 ∙ text.offset_is; text_is = ap (λ (z : PutFile). writes.made_bytes z.write.text) r.1 ∙ text.text_is };
          at = subst (λ (s : Putting). AtState s after.back) (sym (ap (λ (z : PutFile). z.state) r.1 ∙ is)) (subst (λ (z : Shelf). Awaits side z.back) (sym r.2) at);
        }

        by : (n : Step) → PutOn n new after.back
        by (nexts.Send call) = own
        by nexts.Wait = own
        by (nexts.Done answer) = tt
    put-resumes (putting.Adds file) p new nx after is text at early r = absurd at
    put-resumes (putting.Saves s) p new nx after is text at early r =
        queues-on turn old sound (is_first p.write.lane old.order) p.write.lane s p new nx after (λ same. early s refl) text r.1 r.0 at

    put-takes : (state : Putting) (sent : Turn) (came : Result Reply Fault) (p new : PutFile) (nx : Step) (after : Shelf) → p.state ≡ state → HasText p → AtState state old.back → HeardBy sent turn came state old.back
        → (t : puts.Takes state wsize p sent turn came old nx new after) → PutHas (λ file. MayAdd old) state wsize p sent turn came old nx new after t → PutOn nx new after.back
    put-takes putting.Idle sent came p new nx after is text at heard t has = put-on nx nexts.Wait new p after old t.next_is t.machine_is t.shelf_is (record { text = text; at = rw is at })
    put-takes putting.Opens sent came p new nx after is text at heard t has =
        let back : t.took.back ≡ old.back = ap (λ (z : Shelf). z.back) t.others in
        let seq : t.took.seq ≡ old.seq = ap (λ (z : Shelf). z.seq) t.others in
        opened-on turn t.took (subst EachSound (sym back) sound) t.step _ new nx after (record { offset_is = text.offset_is; text_is = text.text_is }) is (subst (Awaits side) (sym back) at) t.follows (λ file same. may-as old t.took back seq (has file same))
    put-takes (putting.Adds file) sent came p new nx after is text at heard t has = absurd at
    put-takes (putting.Saves s) sent came p new nx after is text at heard t has =
        let one = t.0 in
        follows-on one.gives p.write.lane one.saved p new one.took nx after text t.1 one.follows
        (save-on (sync_next one.gives) s one.saved one.took.back
        (takes-save s.file s.upto wsize sent turn came old.repeats s old.back one.gives one.saved one.took.back one.took.repeats (record { file_is = refl; upto_is = refl }) one.takes).file_is
        (λ same. elim (at same) [ inl c ↦ inl c | inr k ↦ kept same k heard.1 ]))
      where
        kept : s.file ≡ f → Holding s old.back → Soon turn.xid s.file old.back × ((flown : Flown) → s.file ≡ f → fly_at (of_file s.file old.back) next ≡ Some flown → Cov)
            ⊎ ((fault : Fault) × (came ≡ Err fault) × (s.file ≡ f → Each (λ q. q.xid ≤ sent.xid) (of_file s.file old.back).pieces))
            → Cov ⊎ HoldsOn before next wsize is_next some (sync_next t.0.gives) s t.0.saved t.0.took.back
        kept same k (inr lost) =
            inr (hold-unmade before next wsize is_next some sent turn lost.0 s old.back sound (lost.2 same) k old.repeats t.0.took.repeats t.0.gives t.0.saved t.0.took.back heard.0
            (subst (λ (c : Result Reply Fault). saves.Takes wsize sent turn c old.repeats s old.back t.0.gives t.0.saved t.0.took.back t.0.took.repeats) lost.1 t.0.takes))
        kept same k (inl now) = by k.open_.second
          where
            by : Second before next wsize s.upto (of_file s.file old.back) → Cov ⊎ HoldsOn before next wsize is_next some (sync_next t.0.gives) s t.0.saved t.0.took.back
            by (flies flown at_ none plain low each) = inl (now.1 flown same at_)
            by (waits cell at_ ready plain low each) =
                inr (hold-takes before next wsize is_next some sent turn came s old.back sound now.0 k (record { cell = cell; at = at_; ready = ready; plain = plain; low = low; each = each })
                old.repeats t.0.took.repeats t.0.gives t.0.saved t.0.took.back heard.0 t.0.takes)

  -- ---- and its path

  abbrev pub WayRuns : Opener → Pending → Type 0
  WayRuns (openers.Put p) b = HasText p × Awaits side b
  WayRuns (openers.Open o) b = ⊥

  abbrev pub ThereRuns : Opener → Pending → Type 0
  ThereRuns (openers.Put p) b = PutIs p b
  ThereRuns (openers.Open o) b = ⊥

  abbrev pub OpenerRuns : Bool → Opener → Pending → Type 0
  OpenerRuns true o b = ThereRuns o b
  OpenerRuns false o b = WayRuns o b

  abbrev pub Runs : Machine → Pending → Type 0
  Runs (machines.Path m) b = OpenerRuns m.arrived m.opener b
  Runs (machines.File m) b = ⊥
  Runs (machines.Name m) b = ⊥

  abbrev pub RunsOn : Step → Machine → Pending → Type 0
  RunsOn (nexts.Send call) m b = Runs m b
  RunsOn nexts.Wait m b = Runs m b
  RunsOn (nexts.Done answer) m b = Unit {0}

  abbrev ThereOn : Step → Opener → Pending → Type 0
  ThereOn (nexts.Send call) o b = ThereRuns o b
  ThereOn nexts.Wait o b = ThereRuns o b
  ThereOn (nexts.Done answer) o b = Unit {0}

  there-of : (n : Step) (q : PutFile) (b : Pending) → PutOn n q b → ThereOn n (openers.Put q) b
  there-of (nexts.Send call) q b h = h
  there-of nexts.Wait q b h = h
  there-of (nexts.Done answer) q b h = tt

  path-of : (n : Step) (m new : PathMachine) (k : Opener) (b : Pending) → m.arrived ≡ true → new ≡ record m { opener = k } → ThereOn n k b → RunsOn n (machines.Path new) b
  path-of (nexts.Send call) m new k b there is h = subst (λ (z : PathMachine). OpenerRuns z.arrived z.opener b) (sym is) (subst (λ (c : Bool). OpenerRuns c k b) (sym there) h)
  path-of nexts.Wait m new k b there is h = subst (λ (z : PathMachine). OpenerRuns z.arrived z.opener b) (sym is) (subst (λ (c : Bool). OpenerRuns c k b) (sym there) h)
  path-of (nexts.Done answer) m new k b there is h = tt

  machine-of : (n : Step) (to new : Machine) (b : Pending) → new ≡ to → RunsOn n to b → RunsOn n new b
  machine-of n to new b is h = subst (λ (z : Machine). RunsOn n z b) (sym is) h

  placed-runs : (dir : List ℕ) (o : Opener) (b : Pending) → WayRuns o b → ThereRuns (placed dir o) b
  placed-runs dir (openers.Open o) b h = h
  placed-runs dir (openers.Put p) b h = record { text = record { offset_is = h.0.offset_is; text_is = h.0.text_is }; at = h.1 }

  begun-runs : (moment : ℕ) (o : Opener) (b : Pending) → WayRuns o b → WayRuns (begun_at moment o) b
  begun-runs moment (openers.Open o) b h = h
  begun-runs moment (openers.Put p) b h = (record { offset_is = h.0.offset_is; text_is = h.0.text_is }, h.1)

  abbrev EarlyOf : ℕ → Opener → Pending → Type 0
  EarlyOf to (openers.Put p) b = (s : Saving) → p.state ≡ putting.Saves s → Soon to s.file b
  EarlyOf to (openers.Open o) b = Unit {0}

  early-any : (to : ℕ) (o : Opener) (b : Pending) → ((file : List ℕ) → Soon to file b) → EarlyOf to o b
  early-any to (openers.Put p) b early = λ s is. early s.file
  early-any to (openers.Open o) b early = tt

  early-placed : (to : ℕ) (dir : List ℕ) (o : Opener) (b : Pending) → EarlyOf to (placed dir o) b
  early-placed to dir (openers.Put p) b = λ s is. absurd (let no_way : putting.Opens ≡ putting.Saves s = is in cc)
  early-placed to dir (openers.Open o) b = tt

  module _ (turn : Turn) (old : Shelf) (sound : EachSound old.back) (nx : Step) (after : Shelf) where
    then-resumes : (o k : Opener) → ThereRuns o old.back → EarlyOf turn.xid o old.back → steps.Resumes wsize (file_of o) turn old nx (file_of k) after → ThereOn nx k after.back
    then-resumes (openers.Open o) k runs early r = absurd runs
    then-resumes (openers.Put p) (openers.Open o) runs early r = absurd (no-open o r.machine r.machine_is)
    then-resumes (openers.Put p) (openers.Put q) runs early r =
        there-of nx q after.back (subst (λ (z : PutFile). PutOn nx z after.back) (some-put q r.machine r.machine_is)
        (put-resumes turn old sound p.state p r.machine nx after refl runs.text runs.at early r.step))

    follows-way : (step : WalkStep) (m new : PathMachine) → m.arrived ≡ false → WayRuns m.opener old.back → paths.Follows step wsize m turn old nx new after → RunsOn nx (machines.Path new) after.back
    follows-way (walks.Send call) m new way runs f =
        subst (λ (n : Step). RunsOn n (machines.Path new) after.back) (sym f.0)
        (subst (λ (z : PathMachine). OpenerRuns z.arrived z.opener after.back) (sym f.1) (subst (λ (c : Bool). OpenerRuns c m.opener after.back) (sym way) (subst (λ (z : Shelf). WayRuns m.opener z.back) (sym f.2) runs)))
    follows-way walks.Wait m new way runs f =
        subst (λ (n : Step). RunsOn n (machines.Path new) after.back) (sym f.0)
        (subst (λ (z : PathMachine). OpenerRuns z.arrived z.opener after.back) (sym f.1) (subst (λ (c : Bool). OpenerRuns c m.opener after.back) (sym way) (subst (λ (z : Shelf). WayRuns m.opener z.back) (sym f.2) runs)))
    follows-way (walks.Refused fault) m new way runs f = subst (λ (n : Step). RunsOn n (machines.Path new) after.back) (sym f.0) tt
    follows-way (walks.At dir) m new way runs f =
        path-of nx (record m { opener = placed dir m.opener; arrived = true }) new f.opener after.back refl f.machine_is
        (then-resumes (placed dir m.opener) f.opener (placed-runs dir m.opener old.back runs) (early-placed turn.xid dir m.opener old.back) f.step)

  path-resumes : (b : Bool) (turn : Turn) (old : Shelf) → EachSound old.back → ((file : List ℕ) → Soon turn.xid file old.back) → (nx : Step) (after : Shelf) (m new : PathMachine) → m.arrived ≡ b
      → OpenerRuns b m.opener old.back → paths.PathResumes b wsize m turn old nx new after → RunsOn nx (machines.Path new) after.back
  path-resumes true turn old sound early nx after m new is runs r = path-of nx m new r.opener after.back is r.machine_is (then-resumes turn old sound nx after m.opener r.opener runs (early-any turn.xid m.opener old.back early) r.step)
  path-resumes false turn old sound early nx after m new is runs r =
      follows-way turn (walking.go_shelf m.walk turn old) sound nx after (walking.go_next m.walk turn old) (record m { walk = walking.go_after m.walk turn old }) new is runs r

  pub runs-resumes : (turn : Turn) (old : Shelf) → EachSound old.back → ((file : List ℕ) → Soon turn.xid file old.back) → (nx : Step) (after : Shelf) (m new : Machine) → Runs m old.back
      → Resumes wsize m turn old nx new after → RunsOn nx new after.back
  runs-resumes turn old sound early nx after (machines.File m) new runs r = absurd runs
  runs-resumes turn old sound early nx after (machines.Name m) new runs r = absurd runs
  runs-resumes turn old sound early nx after (machines.Path m) new runs r =
      machine-of nx (machines.Path r.machine) new after.back r.machine_is (path-resumes m.arrived turn old sound early nx after m r.machine refl runs r.step)

  pub runs-starts : (turn : Turn) (old : Shelf) → EachSound old.back → ((file : List ℕ) → Soon turn.xid file old.back) → (nx : Step) (after : Shelf) (m : PathMachine) (new : Machine) → m.arrived ≡ false → WayRuns m.opener old.back
      → Starts wsize (machines.Path m) turn old nx new after → RunsOn nx new after.back
  runs-starts turn old sound early nx after m new way runs s =
      machine-of nx (machines.Path s.machine) new after.back s.machine_is (by (slot_taken m.opener old.opens) s.step)
    where
      by : (b : Bool) → paths.StartsIf b wsize m turn old nx s.machine after → RunsOn nx (machines.Path s.machine) after.back
      by true k = subst (λ (n : Step). RunsOn n (machines.Path s.machine) after.back) (sym k.0) tt
      by false k =
          path-resumes m.arrived turn old sound early nx after (record m { opener = begun_at (turn.moment - 1) m.opener }) s.machine refl
          (subst (λ (c : Bool). OpenerRuns c (begun_at (turn.moment - 1) m.opener) old.back) (sym way) (begun-runs (turn.moment - 1) m.opener old.back runs)) k

  -- what is known of what came, of a machine
  abbrev pub OpenerHears : Turn → Turn → Result Reply Fault → Bool → Opener → Pending → Type 0
  OpenerHears sent turn came true (openers.Put p) b = HeardBy sent turn came p.state b
  OpenerHears sent turn came true (openers.Open o) b = Unit {0}
  OpenerHears sent turn came false o b = Unit {0}

  abbrev pub Hears : Turn → Turn → Result Reply Fault → Machine → Pending → Type 0
  Hears sent turn came (machines.Path m) b = OpenerHears sent turn came m.arrived m.opener b
  Hears sent turn came (machines.File m) b = Unit {0}
  Hears sent turn came (machines.Name m) b = Unit {0}

  module _ (sent turn : Turn) (came : Result Reply Fault) (old : Shelf) (sound : EachSound old.back) (nx : Step) (after : Shelf) where
    abbrev Has_ : List ℕ → ℕ → List ℕ → Type 0
    Has_ g o bs = MayAdd old

    then-takes : (o k : Opener) → ThereRuns o old.back → OpenerHears sent turn came true o old.back → (t : steps.Takes wsize (file_of o) sent turn came old nx (file_of k) after)
        → FileHas Has_ wsize (file_of o) sent turn came old nx (file_of k) after t → ThereOn nx k after.back
    then-takes (openers.Open o) k runs heard t has = absurd runs
    then-takes (openers.Put p) (openers.Open o) runs heard t has = absurd (no-open o t.machine t.machine_is)
    then-takes (openers.Put p) (openers.Put q) runs heard t has =
        there-of nx q after.back (subst (λ (z : PutFile). PutOn nx z after.back) (some-put q t.machine t.machine_is)
        (put-takes turn old sound p.state sent came p t.machine nx after refl runs.text runs.at heard t.step has))

    path-takes : (b : Bool) (m new : PathMachine) → m.arrived ≡ b → OpenerRuns b m.opener old.back → OpenerHears sent turn came b m.opener old.back → (t : paths.PathTakes b wsize m sent turn came old nx new after)
        → PathHas Has_ b wsize m sent turn came old nx new after t → RunsOn nx (machines.Path new) after.back
    path-takes true m new is runs heard t has = path-of nx m new t.opener after.back is t.machine_is (then-takes m.opener t.opener runs heard t.step has)
    path-takes false m new is runs heard t has =
        let kept = walk-takes-kept (walking.waiting_name m.walk) m.walk sent turn came old t.step t.walked.walk t.heard t.takes in
        follows-way turn t.heard (subst EachSound (sym kept.back) sound) nx after t.step t.walked new
        (ap (λ (w : PathMachine). w.arrived) t.walked_is ∙ is) (subst (λ (o : Opener). WayRuns o t.heard.back) (sym (ap (λ (w : PathMachine). w.opener) t.walked_is)) (subst (WayRuns m.opener) (sym kept.back) runs)) t.follows

    pub runs-takes : (m new : Machine) → Runs m old.back → Hears sent turn came m old.back → (t : Takes wsize m sent turn came old nx new after) → TakesHas Has_ wsize m sent turn came old nx new after t
        → RunsOn nx new after.back
    runs-takes (machines.File m) new runs heard t has = absurd runs
    runs-takes (machines.Name m) new runs heard t has = absurd runs
    runs-takes (machines.Path m) new runs heard t has = machine-of nx (machines.Path t.machine) new after.back t.machine_is (path-takes m.arrived m t.machine refl runs heard t.step has)

-- by another fact, where the second byte was covered
pub runs-map : (before next wsize : ℕ) (is_next : next ≡ before + 1) (some : 1 ≤ wsize) (f : List ℕ) (Cov Cov' : Type 0) (offset : ℕ) (bytes : List ℕ) (side : Bool) (has_before : covers offset (length bytes) before ≡ side)
    (has_next : covers offset (length bytes) next ≡ side) → (Cov → Cov') → (m : Machine) (b : Pending) → Runs before next wsize is_next some f Cov offset bytes side has_before has_next m b
    → Runs before next wsize is_next some f Cov' offset bytes side has_before has_next m b
runs-map before next wsize is_next some f Cov Cov' offset bytes side has_before has_next conv (machines.File m) b r = r
runs-map before next wsize is_next some f Cov Cov' offset bytes side has_before has_next conv (machines.Name m) b r = r
runs-map before next wsize is_next some f Cov Cov' offset bytes side has_before has_next conv (machines.Path m) b r = by m.arrived m.opener r
  where
    awaits-map : (c : Bool) → Awaits before next wsize is_next some f Cov offset bytes side has_before has_next c b → Awaits before next wsize is_next some f Cov' offset bytes side has_before has_next c b
    awaits-map true at = at
    awaits-map false (inl c) = inl (conv c)
    awaits-map false (inr both) = inr both

    at-map : (state : Putting) → AtState before next wsize is_next some f Cov offset bytes side has_before has_next state b → AtState before next wsize is_next some f Cov' offset bytes side has_before has_next state b
    at-map putting.Idle at = awaits-map side at
    at-map putting.Opens at = awaits-map side at
    at-map (putting.Adds file) at = at
    at-map (putting.Saves s) at = λ same. elim (at same) [ inl c ↦ inl (conv c) | inr k ↦ inr k ]

    by : (c : Bool) (o : Opener) → OpenerRuns before next wsize is_next some f Cov offset bytes side has_before has_next c o b → OpenerRuns before next wsize is_next some f Cov' offset bytes side has_before has_next c o b
    by true (openers.Open o) k = k
    by true (openers.Put p) k = record { text = record { offset_is = k.text.offset_is; text_is = k.text.text_is }; at = at-map p.state k.at }
    by false (openers.Open o) k = k
    by false (openers.Put p) k = (record { offset_is = k.0.offset_is; text_is = k.0.text_is }, awaits-map side k.1)
