-- What a step of any operation makes of the machine.
use Rattle.core_counts.proofs.Prelude.{◌≡◌, ◌⊎◌, inl, inr, ◌+◌, ℕ, Bool, true, List, [], ◌∷◌, Result, Err, refl, sym, subst, Held, Fault, Call, Reply, Pending, of_file, with_bytes, HasNoPiece, IsNewest, OnFile, with_cut, nothing, Step, Shelf, Turn, Saving, IsUnused, Machine, Fits, Starts, Resumes, Takes, Purpose, Setup, After, TakesHas, NearAs, EachSound}
use Rattle.write_back.specs.Pieces.{Sent}
use Rattle.core_answers.proofs.writes.Backs.{CarriesReply}
use Rattle.core_session.proofs.order.Adds.{Bears}
use Rattle.core_session.proofs.order.Sounds.{Sounds, SoundsFirst, SoundCall, bears-sounds, replies-sounds}
use Rattle.world_model.specs.declared.answer.Fault.TheVariants as faults
use Rattle.client_shelf.specs.declared.step.Step.TheVariants as nexts
use Rattle.file_ops.specs.Quiet.{is_quiet, are_none}
use Rattle.file_ops.specs.Saves as saves
use Rattle.file_ops.specs.Syncs as syncs
use Rattle.core_answers.proofs.writes.AllBacks.{Saves}
use Rattle.core_session.proofs.order.Adds as adding
use Rattle.model_writes.specs.Machine.{View}
use Rattle.step_pending.proofs.Below.{rest-below, fly-below}
use Rattle.step_pending.proofs.ComingIn.{comes-in}
use Rattle.step_pending.proofs.Cutting.{cut-leads, given-leads}
use Rattle.core_counts.specs.coarse.Moves as machine
use Rattle.core_counts.proofs.coarse.Led.{Led, Asked, plain-asked, goes-led}
use Rattle.core_counts.proofs.coarse.Near.{near-starts}
use Rattle.core_counts.proofs.coarse.Taken.{Fates, led-had, junk-had, takes-led}

quiet-none : (ps : List Sent) → are_none ps ≡ true → ps ≡ []
quiet-none [] is = refl
quiet-none (p ∷ ps) is = absurd cc

-- two facts of what a step leads to
both-after : (A C : Pending → Type 0) (B D : Call → Pending → Type 0) (next : Step) (back : Pending) → After A B next back → After C D next back
    → After (λ k. A k × C k) (λ call k. B call k × D call k) next back
both-after A C B D (nexts.Send call) back a c = (a, c)
both-after A C B D nexts.Wait back a c = (a, c)
both-after A C B D (nexts.Done answer) back a c = (a, c)

-- J goes on as it is, into W where a call is asked for
pub record Stays (wsize : ℕ) (turn : Turn) (J : Pending → Type 0) (W : Call → Pending → Type 0) : Type 0 where
  pub junk : (call : Call) (back : Pending) → J back → W call back
  pub goes : (by_reply : Bool) (s : Saving) (back : Pending) (next : _) (new : Saving) (after : Pending) → saves.Goes wsize turn.xid turn.room by_reply s back next new after → J back → J after
  pub adds : (file : List ℕ) (offset : ℕ) (bytes : List ℕ) (number : ℕ) (old new : Pending) → OnFile old new file (with_bytes offset bytes number (of_file file old)) → J old → J new
  pub cuts : (file : List ℕ) (size upto : ℕ) (old new : Pending) → OnFile old new file (with_cut size upto (of_file file old)) → J old → J new
  pub gives : (file : List ℕ) (old new : Pending) → is_quiet file old ≡ true → OnFile old new file nothing → J old → J new

-- where nothing else may be so
pub none-stays : (wsize : ℕ) (turn : Turn) → Stays wsize turn (λ back. ⊥) (λ call back. ⊥)
none-stays wsize turn = record {
  junk = λ call back never. never;
  goes = λ by_reply s back next new after g never. never;
  adds = λ file offset bytes number old new on never. never;
  cuts = λ file size upto old new on never. never;
  gives = λ file old new quiet on never. never;
}

module _ (setup : Setup) (held : Held Purpose) (H : View → Type 0) (wsize : ℕ) (turn : Turn) (J : Pending → Type 0) (W : Call → Pending → Type 0) (st : Stays wsize turn J W) where
  abbrev pub L : Pending → Type 0
  L back = Led setup held H turn.xid back

  abbrev pub Had : Pending → Type 0
  Had back = J back ⊎ Led setup held H turn.xid back

  abbrev pub Asks : Call → Pending → Type 0
  Asks call back = W call back ⊎ Asked setup held H turn.xid wsize call back

  -- before bytes came in, since, and with a call
  abbrev pub First : ℕ → Pending → Type 0
  First n back = Had back × SoundsFirst wsize turn n back

  abbrev pub Since : Pending → Type 0
  Since back = Had back × Sounds wsize turn back

  abbrev pub WithCall : Call → Pending → Type 0
  WithCall call back = Asks call back × EachSound back

  -- ---- bytes come in, are cut, or given up

  add-led : (file : List ℕ) (offset : ℕ) (bytes : List ℕ) (number : ℕ) (old new : Pending) → EachSound old → IsNewest number old
      → OnFile old new file (with_bytes offset bytes number (of_file file old)) → L old → L new
  add-led file offset bytes number old new sound newest on l =
      let k = comes-in old new file offset number bytes sound on l.c l.shows in
      let d : View = record l.c { rest = k.rest; fly = k.fly } in
      record {
        b = l.b;
        from = l.from;
        c = d;
        moves = machine.moves l.b l.c d l.moves (machine.adds file offset bytes number (record { next = refl; wait = λ x. refl })
            (record { rest = rest-below old number newest l.c l.shows; fly = fly-below old number newest l.c l.shows }) (k.steps d (λ i. refl) (λ i. refl)));
        calls = record { next = l.calls.next; calls = l.calls.calls };
        shows = k.shows d (λ i. refl) (λ i. refl);
      }

  cut-led : (file : List ℕ) (size upto : ℕ) (old new : Pending) → EachSound old → OnFile old new file (with_cut size upto (of_file file old)) → L old → L new
  cut-led file size upto old new sound on l =
      let k = cut-leads old new file size upto sound on l.c l.shows in
      let d : View = record l.c { rest = k.rest; fly = k.fly } in
      record {
        b = l.b;
        from = l.from;
        c = d;
        moves = machine.moves l.b l.c d l.moves (machine.cuts file size (record { next = refl; wait = λ x. refl }) (k.steps d (λ i. refl) (λ i. refl)));
        calls = record { next = l.calls.next; calls = l.calls.calls };
        shows = k.shows d (λ i. refl) (λ i. refl);
      }

  give-led : (file : List ℕ) (old new : Pending) → is_quiet file old ≡ true → OnFile old new file nothing → L old → L new
  give-led file old new quiet on l =
      let none : HasNoPiece file old = quiet-none (of_file file old).pieces quiet in
      let k = given-leads old new file none on l.c l.shows in
      let d : View = record l.c { rest = k.rest; fly = k.fly } in
      record {
        b = l.b;
        from = l.from;
        c = d;
        moves = machine.moves l.b l.c d l.moves (machine.gives_up file (record { next = refl; wait = λ x. refl }) (k.steps d (λ i. refl) (λ i. refl)));
        calls = record { next = l.calls.next; calls = l.calls.calls };
        shows = k.shows d (λ i. refl) (λ i. refl);
      }

  -- ---- a step of a save, and the rest

  goes-had : (by_reply : Bool) (s : Saving) (back : Pending) (next : _) (new : Saving) (after : Pending) → Sounds wsize turn back
      → saves.Goes wsize turn.xid turn.room by_reply s back next new after → Had back → After Had Asks (syncs.sync_next next) after
  goes-had by_reply s back next new after sounds g (inl j) =
      junk-had setup held H wsize turn turn (Err faults.Memory) J W (λ s b. Unit {0}) st.junk (syncs.sync_next next) after (st.goes by_reply s back next new after g j)
  goes-had by_reply s back next new after sounds g (inr l) =
      led-had setup held H wsize turn turn (Err faults.Memory) J W (λ s b. Unit {0}) (syncs.sync_next next) after
      (goes-led setup held H turn.xid wsize turn.room by_reply s back next new after sounds.sound (sounds.free) g l)

  adds-had : (file : List ℕ) (offset : ℕ) (bytes : List ℕ) (number : ℕ) (old new : Pending) → EachSound old → IsNewest number old
      → OnFile old new file (with_bytes offset bytes number (of_file file old)) → Had old → Had new
  adds-had file offset bytes number old new sound newest on (inl j) = inl (st.adds file offset bytes number old new on j)
  adds-had file offset bytes number old new sound newest on (inr l) = inr (add-led file offset bytes number old new sound newest on l)

  cuts-had : (file : List ℕ) (size upto : ℕ) (old new : Pending) → EachSound old → OnFile old new file (with_cut size upto (of_file file old)) → Had old → Had new
  cuts-had file size upto old new sound on (inl j) = inl (st.cuts file size upto old new on j)
  cuts-had file size upto old new sound on (inr l) = inr (cut-led file size upto old new sound on l)

  gives-had : (file : List ℕ) (old new : Pending) → is_quiet file old ≡ true → OnFile old new file nothing → Had old → Had new
  gives-had file old new quiet on (inl j) = inl (st.gives file old new quiet on j)
  gives-had file old new quiet on (inr l) = inr (give-led file old new quiet on l)

  plain-had : (call : Call) (back : Pending) → IsUnused turn.xid back → Had back → Asks call back
  plain-had call back free (inl j) = inl (st.junk call back j)
  plain-had call back free (inr l) = inr (plain-asked setup held H turn.xid wsize call back free l)

  pub bears-had : (n : ℕ) → Bears wsize turn (NearAs wsize turn n) (First n) Since WithCall
  bears-had n = record {
    first = record {
      goes = λ by_reply s back next new after g p.
          both-after Had (SoundsFirst wsize turn n) Asks (SoundCall wsize turn) (syncs.sync_next next) after (goes-had by_reply s back next new after p.1.sounds g p.0)
          (k.first.goes by_reply s back next new after g p.1);
      cuts = λ file size upto old new quiet on p. (cuts-had file size upto old new p.1.sounds.sound on p.0, k.first.cuts file size upto old new quiet on p.1);
      gives = λ file old new quiet on p. (gives-had file old new quiet on p.0, k.first.gives file old new quiet on p.1);
      plain = λ call back p. (plain-had call back p.1.sounds.free p.0, p.1.sounds.sound);
    };
    then_ = record {
      goes = λ by_reply s back next new after g p.
          both-after Had (Sounds wsize turn) Asks (SoundCall wsize turn) (syncs.sync_next next) after (goes-had by_reply s back next new after p.1 g p.0)
          (k.then_.goes by_reply s back next new after g p.1);
      cuts = λ file size upto old new quiet on p. (cuts-had file size upto old new p.1.sound on p.0, k.then_.cuts file size upto old new quiet on p.1);
      gives = λ file old new quiet on p. (gives-had file old new quiet on p.0, k.then_.gives file old new quiet on p.1);
      plain = λ call back p. (plain-had call back p.1.free p.0, p.1.sound);
    };
    less = λ back p. (p.0, p.1.sounds);
    adds = λ file offset bytes number old new a room on p.
        (adds-had file offset bytes number old new p.1.sounds.sound (subst (λ (m : ℕ). IsNewest m old) (sym a.0) p.1.newest) on p.0, k.adds file offset bytes number old new a room on p.1);
  }
    where
      k : Bears wsize turn (NearAs wsize turn n) (SoundsFirst wsize turn n) (Sounds wsize turn) (SoundCall wsize turn)
      k = bears-sounds wsize turn n

  -- ---- a step of any operation

  pub starts-led : (m : Machine) (old : Shelf) (next : Step) (new : Machine) (after : Shelf) → Fits m → Had old.back → EachSound old.back → IsUnused turn.xid old.back
      → IsNewest (old.seq + 1) old.back → Starts wsize m turn old next new after → After Since WithCall next after.back
  starts-led m old next new after fits had sound free newest s =
      adding.all-starts wsize turn (NearAs wsize turn (old.seq + 1)) (First (old.seq + 1)) Since WithCall (bears-had (old.seq + 1)) m old next new after
      (near-starts (old.seq + 1) wsize turn m old.opens next fits) (had, record { sounds = record { sound = sound; free = free }; newest = newest }) s

  pub resumes-led : (m : Machine) (old : Shelf) (next : Step) (new : Machine) (after : Shelf) → Had old.back → EachSound old.back → IsUnused turn.xid old.back
      → Resumes wsize m turn old next new after → After Since WithCall next after.back
  resumes-led m old next new after had sound free s =
      adding.all-resumes wsize turn Since WithCall (bears-had 0).then_ m old next new after (had, record { sound = sound; free = free }) s

  module _ (sent : Turn) (came : Result Reply Fault) (N : Saving → Pending → Type 0) (f : Fates setup held H wsize sent turn came J W N) where
    replies-had : (n : ℕ) → CarriesReply wsize sent turn came N (First n) WithCall
    replies-had n = record {
      takes = λ repeats s back next new after later t now p.
          both-after Had (SoundsFirst wsize turn n) Asks (SoundCall wsize turn) (syncs.sync_next next) after
          (takes-led setup held H wsize sent turn came J W N f s back now p.1.sounds.sound p.1.sounds.free repeats next new after later t p.0)
          ((replies-sounds wsize turn sent came n).takes repeats s back next new after later t tt p.1);
    }

    pub takes-by : (m : Machine) (old : Shelf) (next : Step) (new : Machine) (after : Shelf) (t : Takes wsize m sent turn came old next new after)
        → TakesHas (λ file offset bytes. NearAs wsize turn (old.seq + 1) file offset bytes (old.seq + 1)) wsize m sent turn came old next new after t
        → Saves (λ s. N s old.back) m → Had old.back → EachSound old.back → IsUnused turn.xid old.back → IsNewest (old.seq + 1) old.back → After Since WithCall next after.back
    takes-by m old next new after t near now had sound free newest =
        adding.all-takes wsize turn (NearAs wsize turn (old.seq + 1)) (First (old.seq + 1)) Since WithCall (bears-had (old.seq + 1)) sent came N (replies-had (old.seq + 1)) m old next new after
        t near now (had, record { sounds = record { sound = sound; free = free }; newest = newest })
