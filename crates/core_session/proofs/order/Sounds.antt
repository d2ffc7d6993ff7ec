-- Each step of any operation leaves what is pending of each file sound, as long as it began so.
use Rattle.core_session.proofs.Prelude.{◌≡◌, ◌≢◌, ◌≤◌, ◌<◌, ◌+◌, ◌-◌, ◌^◌, ◌||◌, ◌⊎◌, inl, inr, ℕ, Bool, true, false, List, [], ◌∷◌, length, Result, refl, sym, subst, ◌∙◌, arith, nat_lt, if◌then◌else◌, ltb-false, Fault, Call, Reply, Segments, Pending, of_file, all_pending, OnFile, with_cut, FilePending, nothing, same-or, Step, Repeat, Shelf, Turn, Opens, PutFile, Putting, Saving, WriteFile, Writing, is_full, is_quiet, IsUnused, by-step, FileMachine, Machine, PathMachine, Fits, file_of, Starts, Resumes, Takes, EachSound, After, CarriesReply, any-saves}
use Rattle.std.specs.Prelude.{nat_le, Contains}
use Rattle.write_back.specs.Segments.{cut_from, head_of, end_of}
use Rattle.write_back.specs.Files.{numbers_of, IsNewest}
use Rattle.write_back.specs.Pieces.{Sent}
use Rattle.file_ops.specs.Quiet.{are_none}
use Rattle.std.proofs.lemmas.List.Elements.{Contains-append_cases, Contains-append_left, Contains-append_right}
use Rattle.write_back.specs.Sound.{most_pending}
use Rattle.write_back.proofs.Adding.{sound-cut}
use Rattle.client_shelf.specs.declared.step.Step.TheVariants as nexts
use Rattle.file_ops.specs.declared.put_file.Putting.TheVariants as putting
use Rattle.file_ops.specs.declared.write_file.Text.{Text}
use Rattle.file_ops.specs.declared.write_file.Text.TheVariants as texts
use Rattle.file_ops.specs.declared.write_file.Writing.TheVariants as writing
use Rattle.file_ops.specs.PutFile as puts
use Rattle.file_ops.specs.Saves as saves
use Rattle.file_ops.specs.Syncs as syncs
use Rattle.file_ops.specs.WriteFile as writes
use Rattle.file_ops.proofs.Fewer.{IsIn, numbers_written, numbers_flying, both-in, later-in, none-in, fewer-newest, fewer-unused}
use Rattle.file_ops.proofs.Unsent.{NoCall, goes-same, takes-fewer}
use Rattle.op_machines.specs.declared.file_machine.FileMachine.TheVariants as files
use Rattle.op_machines.specs.declared.machine.Machine.TheVariants as machines
use Rattle.op_machines.specs.FileFits.{FileFits}
use Rattle.op_machines.specs.FileSteps as steps
use Rattle.op_machines.specs.PathSteps as paths
use Rattle.step_pending.proofs.ComingIn.{sound-in}
use Rattle.step_pending.proofs.Cutting.{sound-given}
use Rattle.step_pending.proofs.Leading.{sound-on}
use Rattle.step_saves.proofs.Going.{goes-sound}
use Rattle.step_saves.proofs.Taking.{takes-sound}
use Rattle.core_answers.proofs.writes.Under.{same-under, bytes-under, gives-under}
use Rattle.core_session.proofs.order.Adds.{Moves, Bears, RoomHas, PutHas, FileHas, PathHas, TakesHas, StartsHas, all-starts, all-resumes, all-takes}

-- ---- numbers after a truncate, and after bytes are given up

cut-in : (place upto : ℕ) (es : Segments) → IsIn (numbers_written (cut_from place upto es)) (numbers_written es)
cut-in place upto [] x c = c
cut-in place upto (e ∷ es) x c = by (nat_lt upto e.1.number || nat_le (end_of e) place) (nat_lt e.0 place) (cut-in place upto es) c
  where
    by : (a b : Bool) → IsIn (numbers_written (cut_from place upto es)) (numbers_written es)
        → Contains (numbers_written (if a then e ∷ cut_from place upto es else if b then (e.0, head_of (place - e.0) e.1) ∷ cut_from place upto es else cut_from place upto es)) x → Contains (numbers_written (e ∷ es)) x
    by true b w c = both-in e.1.number (numbers_written (cut_from place upto es)) (numbers_written es) w x c
    by false true w c = both-in e.1.number (numbers_written (cut_from place upto es)) (numbers_written es) w x c
    by false false w c = later-in e.1.number (numbers_written es) x (w x c)

cut-numbers : (size upto : ℕ) (of : FilePending) (x : ℕ) → Contains (numbers_of (with_cut size upto of)) x → Contains (numbers_of of) x
cut-numbers size upto of x c = by (Contains-append_cases (numbers_written (cut_from size upto of.segments)) (numbers_flying of.pieces) x c)
  where
    by : Contains (numbers_written (cut_from size upto of.segments)) x ⊎ Contains (numbers_flying of.pieces) x → Contains (numbers_of of) x
    by (inl d) = Contains-append_left (numbers_written of.segments) (numbers_flying of.pieces) x (cut-in size upto of.segments x d)
    by (inr d) = Contains-append_right (numbers_written of.segments) (numbers_flying of.pieces) x d

on-newest : (n : ℕ) (old new : Pending) (file : List ℕ) (to : FilePending) → OnFile old new file to → IsIn (numbers_of to) (numbers_of (of_file file old)) → IsNewest n old → IsNewest n new
on-newest n old new file to on less newest other m c = by (same-or file other)
  where
    by : (other ≡ file) ⊎ (other ≢ file) → m < n
    by (inl same) =
        newest file m (less m (subst (λ (v : FilePending). Contains (numbers_of v) m) on.here (subst (λ (f : List ℕ). Contains (numbers_of (of_file f new)) m) same c)))
    by (inr apart) = newest other m (subst (λ (v : FilePending). Contains (numbers_of v) m) (on.others other apart) c)

quiet-none : (ps : List Sent) → are_none ps ≡ true → ps ≡ []
quiet-none [] is = refl
quiet-none (p ∷ ps) is = absurd cc

-- ---- what is carried

module _ (wsize : ℕ) (turn : Turn) where
  -- nothing is in flight under the xid of the step
  pub record Sounds (back : Pending) : Type 0 where
    pub sound : EachSound back
    pub free : IsUnused turn.xid back

  -- and the next number is above all that are pending
  pub record SoundsFirst (n : ℕ) (back : Pending) : Type 0 where
    pub sounds : Sounds back
    pub newest : IsNewest n back

  abbrev pub SoundCall : Call → Pending → Type 0
  SoundCall call back = EachSound back

  goes-by : (by_reply : Bool) (s : Saving) (back : Pending) (next : _) (new : Saving) (after : Pending) → (P : Pending → Type 0) → (P back → Sounds back) → P back
      → saves.Goes wsize turn.xid turn.room by_reply s back next new after → After P SoundCall (syncs.sync_next next) after
  goes-by by_reply s back next new after P of p g = by-step
      (λ n. saves.Goes wsize turn.xid turn.room by_reply s back n new after → After P SoundCall (syncs.sync_next n) after)
      (λ call g. goes-sound wsize turn.xid turn.room by_reply s back _ new after (of p).sound ((of p).free s.file) g)
      (λ g. same (goes-same wsize turn.xid turn.room by_reply s back _ new after g (λ call is. cc)))
      (λ result g. same (goes-same wsize turn.xid turn.room by_reply s back _ new after g (λ call is. cc)))
      next g
    where
      same : after ≡ back → P after
      same is = subst P (sym is) p

  gives-sounds : (file : List ℕ) (old new : Pending) → is_quiet file old ≡ true → OnFile old new file nothing → Sounds old → Sounds new
  gives-sounds file old new quiet on p = record {
    sound = sound-given old new file p.sound on;
    free = λ f. gives-under turn.xid old old new file quiet on (λ g. refl) f ∙ p.free f;
  }

  cuts-sounds : (file : List ℕ) (size upto : ℕ) (old new : Pending) → is_quiet file old ≡ true → OnFile old new file (with_cut size upto (of_file file old)) → Sounds old → Sounds new
  cuts-sounds file size upto old new quiet on p = record {
    sound = sound-on old new file (with_cut size upto (of_file file old)) on p.sound
        (sound-cut size upto (of_file file old) (p.sound file) (quiet-none (of_file file old).pieces quiet));
    free = λ f. same-under turn.xid old old new file (with_cut size upto (of_file file old)) refl on (λ g. refl) f ∙ p.free f;
  }

  moves-sounds : Moves wsize turn Sounds SoundCall
  moves-sounds = record {
    goes = λ by_reply s back next new after g p. goes-by by_reply s back next new after Sounds (λ q. q) p g;
    cuts = cuts-sounds;
    gives = gives-sounds;
    plain = λ call back p. p.sound;
  }

  moves-first : (n : ℕ) → Moves wsize turn (SoundsFirst n) SoundCall
  moves-first n = record {
    goes = λ by_reply s back next new after g p. goes-by by_reply s back next new after (SoundsFirst n) (λ q. q.sounds) p g;
    cuts = λ file size upto old new quiet on p. record {
      sounds = cuts-sounds file size upto old new quiet on p.sounds;
      newest = on-newest n old new file (with_cut size upto (of_file file old)) on (cut-numbers size upto (of_file file old)) p.newest;
    };
    gives = λ file old new quiet on p. record {
      sounds = gives-sounds file old new quiet on p.sounds;
      newest = on-newest n old new file nothing on (λ x c. absurd (none-in x c)) p.newest;
    };
    plain = λ call back p. p.sounds.sound;
  }

  -- bytes end within all places of a file
  abbrev pub Near : List ℕ → ℕ → List ℕ → Type 0
  Near file offset bytes = offset + length bytes ≤ 2 ^ 63 - 1

  abbrev pub NearAs : ℕ → List ℕ → ℕ → List ℕ → ℕ → Type 0
  NearAs n file offset bytes number = (number ≡ n) × (offset + length bytes ≤ 2 ^ 63 - 1)

  has-room : (bytes : List ℕ) (old : Pending) → is_full bytes old ≡ false → all_pending old + length bytes ≤ most_pending
  has-room bytes old room = ltb-false most_pending (all_pending old + length bytes) room

  pub bears-sounds : (n : ℕ) → Bears wsize turn (NearAs n) (SoundsFirst n) Sounds SoundCall
  bears-sounds n = record {
    first = moves-first n;
    then_ = moves-sounds;
    less = λ back p. p.sounds;
    adds = λ file offset bytes number old new a room on p. record {
      sound = sound-in old new file offset number bytes p.sounds.sound (subst (λ (m : ℕ). IsNewest m old) (sym a.0) p.newest) a.1 (has-room bytes old room) on;
      free = λ f. bytes-under turn.xid old old new file offset bytes number on (λ g. refl) f ∙ p.sounds.free f;
    };
  }

  module _ (sent : Turn) (came : Result Reply Fault) where
    pub replies-sounds : (n : ℕ) → CarriesReply wsize sent turn came (λ s b. Unit {0}) (SoundsFirst n) SoundCall
    replies-sounds n = record { takes = takes }
      where
        takes : (repeats : List Repeat) (s : Saving) (back : Pending) (next : _) (new : Saving) (after : Pending) (later : List Repeat)
            → saves.Takes wsize sent turn came repeats s back next new after later → Unit {0} → SoundsFirst n back → After (SoundsFirst n) SoundCall (syncs.sync_next next) after
        takes repeats s back next new after later t any p = by-step
            (λ k. saves.Takes wsize sent turn came repeats s back k new after later → After (SoundsFirst n) SoundCall (syncs.sync_next k) after)
            (λ call t. takes-sound wsize sent turn came repeats s back _ new after later p.sounds.sound p.sounds.free t)
            (λ t. less _ t (λ call is. cc))
            (λ result t. less _ t (λ call is. cc))
            next t
          where
            less : (k : _) → saves.Takes wsize sent turn came repeats s back k new after later → NoCall k → SoundsFirst n after
            less k t none =
                let few = takes-fewer wsize sent turn came repeats s back k new after later t none in
                record {
                  sounds = record {
                    sound = takes-sound wsize sent turn came repeats s back k new after later p.sounds.sound p.sounds.free t;
                    free = fewer-unused turn.xid back after few p.sounds.free;
                  };
                  newest = fewer-newest n back after few p.newest;
                }

  pub after-sound : (P : Pending → Type 0) → ((back : Pending) → P back → EachSound back) → (next : Step) (back : Pending) → After P SoundCall next back → EachSound back
  after-sound P of (nexts.Send call) back p = p
  after-sound P of nexts.Wait back p = of back p
  after-sound P of (nexts.Done answer) back p = of back p

-- ---- the bytes of an operation end within all places

made-near : (offset : ℕ) (text : Text) → offset + length (writes.text_bytes text) ≤ 2 ^ 63 - 1 → offset + length (writes.made_bytes text) ≤ 2 ^ 63 - 1
made-near offset (texts.Given bytes) fits = fits
made-near offset (texts.Fill count byte) fits = omega (arith, fits)

module _ (n wsize : ℕ) (sent turn : Turn) (came : Result Reply Fault) where
  room-near : (B : List ℕ → Type 0) → ((f : List ℕ) → B f) → (at : Writing) (m : WriteFile) (old : Shelf) (next : Step) (state : Writing) (after : Shelf)
      (t : writes.TakesIn at wsize m sent turn came old next state after) → RoomHas B at wsize m sent turn came old next state after t
  room-near B b writing.Idle m old next state after t = tt
  room-near B b (writing.Room file saving) m old next state after t = λ well. b file

  put-near : (B : List ℕ → Type 0) → ((f : List ℕ) → B f) → (at : Putting) (m : PutFile) (old : Shelf) (next : Step) (new : PutFile) (after : Shelf)
      (t : puts.Takes at wsize m sent turn came old next new after) → PutHas B at wsize m sent turn came old next new after t
  put-near B b putting.Idle m old next new after t = tt
  put-near B b putting.Opens m old next new after t = λ file is. b file
  put-near B b (putting.Adds file) m old next new after t = room-near B b m.write.state m.write old t.told t.written t.mid t.takes
  put-near B b (putting.Saves saving) m old next new after t = tt

  file-near : (m : FileMachine) (old : Shelf) (next : Step) (new : FileMachine) (after : Shelf) (t : steps.Takes wsize m sent turn came old next new after) → FileFits m
      → FileHas (λ f o b. NearAs wsize turn n f o b n) wsize m sent turn came old next new after t
  file-near (files.Open m) old next new after t fits = tt
  file-near (files.Read m) old next new after t fits = tt
  file-near (files.Write m) old next new after t fits = room-near _ (λ f ends. (refl, made-near m.offset m.text fits)) m.state m old next t.state after t.step
  file-near (files.Sync m) old next new after t fits = tt
  file-near (files.Close m) old next new after t fits = tt
  file-near (files.Truncate m) old next new after t fits = tt
  file-near (files.Put m) old next new after t fits = put-near _ (λ f. (refl, made-near m.write.offset m.write.text fits)) m.state m old next t.machine after t.step

  path-near : (b : Bool) (m : PathMachine) (old : Shelf) (next : Step) (new : PathMachine) (after : Shelf) (t : paths.PathTakes b wsize m sent turn came old next new after) → FileFits (file_of m.opener)
      → PathHas (λ f o b. NearAs wsize turn n f o b n) b wsize m sent turn came old next new after t
  path-near true m old next new after t fits = file-near (file_of m.opener) old next (file_of t.opener) after t.step fits
  path-near false m old next new after t fits = tt

  near-has : (m : Machine) (old : Shelf) (next : Step) (new : Machine) (after : Shelf) (t : Takes wsize m sent turn came old next new after) → Fits m
      → TakesHas (λ f o b. NearAs wsize turn n f o b n) wsize m sent turn came old next new after t
  near-has (machines.File m) old next new after t fits = file-near m old next t.machine after t.step fits
  near-has (machines.Path m) old next new after t fits = path-near m.arrived m old next t.machine after t.step fits
  near-has (machines.Name m) old next new after t fits = tt

near-starts : (n wsize : ℕ) (turn : Turn) (m : Machine) (slots : Opens) (next : Step) → Fits m → StartsHas (λ f o b. NearAs wsize turn n f o b n) m slots next
near-starts n wsize turn (machines.File (files.Open m)) slots next fits = tt
near-starts n wsize turn (machines.File (files.Read m)) slots next fits = tt
near-starts n wsize turn (machines.File (files.Write m)) slots next fits = λ file found ends. (refl, fits)
near-starts n wsize turn (machines.File (files.Sync m)) slots next fits = tt
near-starts n wsize turn (machines.File (files.Close m)) slots next fits = tt
near-starts n wsize turn (machines.File (files.Truncate m)) slots next fits = tt
near-starts n wsize turn (machines.File (files.Put m)) slots next fits = tt
near-starts n wsize turn (machines.Path m) slots next fits = tt
near-starts n wsize turn (machines.Name m) slots next fits = tt

-- ---- each step

module _ (wsize : ℕ) (turn : Turn) where
  pub starts-sound : (m : Machine) (old : Shelf) (next : Step) (new : Machine) (after : Shelf) → Fits m → EachSound old.back → IsUnused turn.xid old.back → IsNewest (old.seq + 1) old.back
      → Starts wsize m turn old next new after → EachSound after.back
  starts-sound m old next new after fits sound free newest s =
      after-sound wsize turn (Sounds wsize turn) (λ back p. p.sound) next after.back
      (all-starts wsize turn (NearAs wsize turn (old.seq + 1)) (SoundsFirst wsize turn (old.seq + 1)) (Sounds wsize turn) (SoundCall wsize turn) (bears-sounds wsize turn (old.seq + 1)) m old next new after
      (near-starts (old.seq + 1) wsize turn m old.opens next fits) (record { sounds = record { sound = sound; free = free }; newest = newest }) s)

  pub resumes-sound : (m : Machine) (old : Shelf) (next : Step) (new : Machine) (after : Shelf) → EachSound old.back → IsUnused turn.xid old.back → Resumes wsize m turn old next new after
      → EachSound after.back
  resumes-sound m old next new after sound free s =
      after-sound wsize turn (Sounds wsize turn) (λ back p. p.sound) next after.back
      (all-resumes wsize turn (Sounds wsize turn) (SoundCall wsize turn) (moves-sounds wsize turn) m old next new after (record { sound = sound; free = free }) s)

  pub takes-sounds : (sent : Turn) (came : Result Reply Fault) (m : Machine) (old : Shelf) (next : Step) (new : Machine) (after : Shelf) → Fits m → EachSound old.back
      → IsUnused turn.xid old.back → IsNewest (old.seq + 1) old.back → Takes wsize m sent turn came old next new after → EachSound after.back
  takes-sounds sent came m old next new after fits sound free newest t =
      after-sound wsize turn (Sounds wsize turn) (λ back p. p.sound) next after.back
      (all-takes wsize turn (NearAs wsize turn (old.seq + 1)) (SoundsFirst wsize turn (old.seq + 1)) (Sounds wsize turn) (SoundCall wsize turn) (bears-sounds wsize turn (old.seq + 1)) sent came
      (λ s b. Unit {0}) (replies-sounds wsize turn sent came (old.seq + 1)) m old next new after t
      (near-has (old.seq + 1) wsize sent turn came m old next new after t fits) (any-saves m) (record { sounds = record { sound = sound; free = free }; newest = newest }))
