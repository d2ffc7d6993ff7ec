-- What each step of a write makes of the COMMITs of a file that it may still ask for: those of the save by which it makes room now, and two for each further save.
use Rattle.core_counts.proofs.Prelude.{◌≡◌, ◌≢◌, ◌≤◌, ◌<◌, ◌⊎◌, inl, inr, ◌+◌, ◌*◌, ◌-◌, ℕ, Bool, true, false, List, Result, Ok, Err, refl, sym, ap, subst, ◌∙◌, arith, Pending, of_file, same-or, IsCommitOf, commit, Fault, Call, Reply, ended, is_first, Step, Repeat, Shelf, Turn, is_full, file_to_write, joined, Saving, WriteFile, Writing, by-step, ends_as, Saves, IsEmpty}
use Rattle.core_answers.proofs.asks.SavedCalls.{goes-on, takes-on}
use Rattle.core_session.proofs.asked.Empty.{oldest-some}
use Rattle.world_model.specs.declared.answer.Answer.TheVariants as answers
use Rattle.world_model.specs.declared.answer.Value.TheVariants as values
use Rattle.client_shelf.specs.LaneFiles.{left as left_order}
use Rattle.client_shelf.specs.declared.step.Step.TheVariants as nexts
use Rattle.file_ops.specs.Saves as saves
use Rattle.file_ops.specs.Syncs as syncs
use Rattle.file_ops.specs.WriteFile as writes
use Rattle.file_ops.specs.declared.write_file.Writing.TheVariants as writing
use Rattle.core_facts.proofs.NamesAwaited.{Sends}
use Rattle.core_facts.proofs.SaveCommits.{EndsSo}
use Rattle.core_answers.proofs.paths.Endings.{goes-not}
use Rattle.core_session.proofs.drops.SaveFiles.{IsSave, goes-save, takes-save}
use Rattle.core_session.proofs.room.Stages.{IsGoing}
use Rattle.core_session.proofs.syncs.SaveMoves.{goes-frame, takes-frame}
use Rattle.core_counts.proofs.counts.commits.Saves.{left_to, Took, again, on, goes-spent, takes-took}
use Rattle.core_counts.proofs.counts.engine.Steps.{one-longer}

-- it asks for such a call
abbrev pub AsksSuch : Step → (Call → Type 0) → Type 0
AsksSuch next P = (call : Call) → next ≡ nexts.Send call → P call

same-call : (a b : Call) → nexts.Send a ≡ nexts.Send b → a ≡ b
same-call a b e = cc

pub wait-none : {X : Type 0} → (next : Step) (call : Call) → next ≡ nexts.Wait → next ≡ nexts.Send call → X
wait-none next call is sends = absurd (let no_way : nexts.Wait ≡ nexts.Send call = sym is ∙ sends in cc)

module _ (f : List ℕ) where
  -- So many further saves of the file may begin: one at least, or nothing of it is pending.
  pub record Waits (back : Pending) (q : ℕ) : Type 0 where
    pub more : ℕ
    pub may : (1 ≤ more) ⊎ IsEmpty f back
    pub less : 30 + 2 * more ≤ q

  -- While it makes room by this save: of another file; or of this one, where one more may begin for each number given since.
  pub data RoomLeft (seq : ℕ) (back : Pending) (q : ℕ) (s : Saving) : Type 0 where
    elsewhere : f ≢ s.file → Waits back q → RoomLeft seq back q s
    of_it : f ≡ s.file → (more : ℕ) → seq ≤ more + s.upto → 30 + left_to s + 2 * more ≤ q → RoomLeft seq back q s

  abbrev pub WriteLeft : ℕ → Pending → ℕ → Writing → Type 0
  WriteLeft seq back q writing.Idle = Waits back q
  WriteLeft seq back q (writing.Room file s) = RoomLeft seq back q s

  -- It goes on, and adds no bytes. F: of the table of repeats where a call isn't made again.
  pub record Stays (F : List Repeat → Type 0) (had : ℕ) (old after : Shelf) (next : Step) (Holds : ℕ → Type 0) : Type 0 where
    pub going : IsGoing next
    pub seq : after.seq ≡ old.seq
    pub left : ℕ
    pub holds : Holds left
    pub less : left ≤ had
    pub asks : (call : Call) → next ≡ nexts.Send call → IsCommitOf f call → F after.repeats → left + 1 ≤ had

  pub data WriteStep (F : List Repeat → Type 0) (had : ℕ) (old after : Shelf) (next : Step) (new : Writing) : Type 0 where
    goes : Stays F had old after next (λ q. WriteLeft after.seq after.back q new) → WriteStep F had old after next new
    refused : (fault : Fault) → next ≡ nexts.Done (answers.Refused fault) → WriteStep F had old after next new
    adds : next ≡ nexts.Done (answers.Done values.Nothing) → WriteStep F had old after next new

  write-as : (to new : Writing) (shelf after : Shelf) (q : ℕ) → new ≡ to → after ≡ shelf → WriteLeft shelf.seq shelf.back q to → WriteLeft after.seq after.back q new
  write-as to new shelf after q is same l =
      subst (λ (w : Writing). WriteLeft after.seq after.back q w) (sym is) (subst (λ (z : Shelf). WriteLeft z.seq z.back q to) (sym same) l)

  -- ---- one step of the save

  -- a COMMIT of another file isn't one of this
  other-save : {X : Type 0} → (file : List ℕ) (call : Call) → f ≢ file → Saves file call → IsCommitOf f call → X
  other-save file call apart (inl k) (commit offset count is) = absurd (let no_way = sym k.1 ∙ is in cc)
  other-save file call apart (inr k) (commit offset count is) = absurd (apart (let same = sym k ∙ is in cc))

  sent-such : (next : Step) (P : Call → Type 0) → Sends next P → AsksSuch next P
  sent-such (nexts.Send call) P s other is = subst P (same-call call other is) s
  sent-such nexts.Wait P s other is = wait-none nexts.Wait other refl is
  sent-such (nexts.Done answer) P s other is = absurd (cc)

  -- what it leaves
  record Saved (F : Type 0) (seq : ℕ) (back : Pending) (had : ℕ) (next : Step) (new : Saving) : Type 0 where
    left : ℕ
    holds : RoomLeft seq back left new
    less : left ≤ had
    asks : (call : Call) → next ≡ nexts.Send call → IsCommitOf f call → F → left + 1 ≤ had

  framed : (old new : Pending) (q : ℕ) → of_file f new ≡ of_file f old → Waits old q → Waits new q
  framed old new q same w = record { more = w.more; may = by w.may; less = w.less }
    where
      by : (1 ≤ w.more) ⊎ IsEmpty f old → (1 ≤ w.more) ⊎ IsEmpty f new
      by (inl some) = inl some
      by (inr none) = inr (same ∙ none)

  goes-saved : (F : Type 0) (wsize : ℕ) (turn : Turn) (s : Saving) (seq : ℕ) (back : Pending) (told : _) (new : Saving) (after : Pending) (q : ℕ)
      → saves.Goes wsize turn.xid turn.room false s back told new after → RoomLeft seq back q s → Saved F seq after q (syncs.sync_next told) new
  goes-saved F wsize turn s seq back told new after q g l = by l
    where
      is : IsSave s.file s.upto new
      is = goes-save s.file s.upto wsize turn.xid turn.room false s back told new after (record { file_is = refl; upto_is = refl }) g

      by : RoomLeft seq back q s → Saved F seq after q (syncs.sync_next told) new
      by (elsewhere apart w) = record {
        left = q;
        holds = elsewhere (λ same. apart (same ∙ is.file_is)) (framed back after q (goes-frame f wsize turn.xid turn.room false s back told new after apart g) w);
        less = omega arith;
        asks = λ call sends p fresh.
            other-save s.file call apart
            (sent-such (syncs.sync_next told) (Saves s.file) (goes-on s.file wsize turn.xid turn.room false s back told new after refl g).asks call sends) p;
      }
      by (of_it here more low few) =
          let spent = goes-spent f wsize turn.xid turn.room false s back told new after g in record {
            left = 30 + left_to new + 2 * more;
            holds = of_it (here ∙ sym is.file_is) more (subst (λ (u : ℕ). seq ≤ more + u) (sym is.upto_is) low) (omega arith);
            less = let less = spent.less in omega (arith, less, few);
            asks = λ call sends p fresh. let one = spent.asks call sends p in omega (arith, one, few);
          }

  -- as the write sees it
  stays-as : (F : List Repeat → Type 0) (had : ℕ) (old shelf after : Shelf) (told : Step) (file : List ℕ) (new : Saving) (next : Step) (state : Writing) → IsGoing told → next ≡ told
      → state ≡ writing.Room file new → after ≡ shelf → shelf.seq ≡ old.seq → Saved (F shelf.repeats) shelf.seq shelf.back had told new → WriteStep F had old after next state
  stays-as F had old shelf after told file new next state going is state_is same seq s = goes (record {
    going = subst IsGoing (sym is) going;
    seq = ap (λ (z : Shelf). z.seq) same ∙ seq;
    left = s.left;
    holds = write-as (writing.Room file new) state shelf after s.left state_is same s.holds;
    less = s.less;
    asks = λ call sends p fresh. s.asks call (sym is ∙ sends) p (subst (λ (z : Shelf). F z.repeats) same fresh);
  })

  room-led : (F : List Repeat → Type 0) (had lane : ℕ) (old shelf after : Shelf) (file : List ℕ) (new : Saving) (next : Step) (state : Writing) (told : _) → shelf.seq ≡ old.seq
      → writes.Leads (writes.room_next told) (writes.room_state told file new) (writes.room_shelf told lane shelf) next state after → EndsSo ⊥ (syncs.sync_next told)
      → Saved (F shelf.repeats) shelf.seq shelf.back had (syncs.sync_next told) new → WriteStep F had old after next state
  room-led F had lane old shelf after file new next state told seq l up s = by-step
      (λ t. writes.Leads (writes.room_next t) (writes.room_state t file new) (writes.room_shelf t lane shelf) next state after → EndsSo ⊥ (syncs.sync_next t)
      → Saved (F shelf.repeats) shelf.seq shelf.back had (syncs.sync_next t) new → WriteStep F had old after next state)
      (λ call l up s. stays-as F had old shelf after (nexts.Send call) file new next state (inr (call, refl)) l.gives_next l.keeps l.shelf_is seq s)
      (λ l up s. stays-as F had old shelf after nexts.Wait file new next state (inl refl) l.gives_next l.keeps l.shelf_is seq s)
      done told l up s
    where
      done : (result : Result (Unit {0}) Fault)
          → writes.Leads (writes.room_next (ends_as result)) (writes.room_state (ends_as result) file new) (writes.room_shelf (ends_as result) lane shelf) next state after
          → EndsSo ⊥ (syncs.sync_next (ends_as result)) → Saved (F shelf.repeats) shelf.seq shelf.back had (syncs.sync_next (ends_as result)) new → WriteStep F had old after next state
      done (Ok nothing) l up s = absurd up
      done (Err fault) l up s = refused fault l.gives_next

  saves-room : (F : List Repeat → Type 0) (b : Bool) (wsize lane : ℕ) (file : List ℕ) (s : Saving) (turn : Turn) (old shelf : Shelf) (next : Step) (state : Writing) (after : Shelf) (q : ℕ)
      → shelf.seq ≡ old.seq → RoomLeft shelf.seq shelf.back q s → writes.SavesIf b wsize lane file s turn shelf next state after → WriteStep F q old after next state
  saves-room F false wsize lane file s turn old shelf next state after q seq l k =
      stays-as F q old shelf after nexts.Wait file s next state (inl refl) k.gives_next k.keeps k.shelf_is seq
      (record { left = q; holds = l; less = omega arith; asks = λ call sends p fresh. wait-none nexts.Wait call refl sends })
  saves-room F true wsize lane file s turn old shelf next state after q seq l k =
      room-led F q lane old (record shelf { back = k.back }) after file k.saved next state k.told seq k.leads
      (goes-not wsize turn.xid turn.room s shelf.back k.told k.saved k.back k.goes)
      (goes-saved (F shelf.repeats) wsize turn s shelf.seq shelf.back k.told k.saved k.back q k.goes l)

  -- ---- its bytes become pending, or room is made

  pub write-writes : (F : List Repeat → Type 0) (wsize lane : ℕ) (file : List ℕ) (offset : ℕ) (bytes : List ℕ) (turn : Turn) (old shelf : Shelf) (next : Step) (state : Writing) (after : Shelf) (q : ℕ)
      → shelf.seq ≡ old.seq → Waits shelf.back q → writes.Writes wsize lane file offset bytes turn shelf next state after → WriteStep F q old after next state
  write-writes F wsize lane file offset bytes turn old shelf next state after q seq w k = by (is_full bytes shelf.back) k
    where
      begins : (of : List ℕ) → (IsEmpty of shelf.back → ⊥) → (f ≡ of) ⊎ (f ≢ of) → RoomLeft shelf.seq shelf.back q (saves.begun of shelf.seq)
      begins of some (inr apart) = elsewhere apart w
      begins of some (inl here) = may w.may
        where
          may : (1 ≤ w.more) ⊎ IsEmpty f shelf.back → RoomLeft shelf.seq shelf.back q (saves.begun of shelf.seq)
          may (inr none) = absurd (some (subst (λ (g : List ℕ). IsEmpty g shelf.back) here none))
          may (inl one) = let few = w.less in of_it here (w.more - 1) (omega arith) (omega (arith, one, few))

      by : (b : Bool) → writes.WritesIf b wsize lane file offset bytes turn shelf next state after → WriteStep F q old after next state
      by true (inl s) =
          saves-room F (is_first lane (joined lane s.of shelf).order) wsize lane file (saves.begun s.of shelf.seq) turn old (joined lane s.of shelf) next state after q seq
          (begins s.of (oldest-some shelf.back s.of s.oldest) (same-or s.of f)) s.saves
      by true (inr s) = refused _ s.1.gives_next
      by false (inl s) = adds s.leads.gives_next
      by false (inr s) = refused _ s.gives_next

  -- ---- a write's steps

  pub write-starts : (F : List Repeat → Type 0) (wsize : ℕ) (m : WriteFile) (turn : Turn) (old : Shelf) (next : Step) (new : WriteFile) (after : Shelf) (q : ℕ) → Waits old.back q
      → writes.Starts wsize m turn old next new after → WriteStep F q old after next new.state
  write-starts F wsize m turn old next new after q w s = by (file_to_write m.lane m.slot old.opens) s
    where
      by : (found : Result (List ℕ) Fault) → writes.StartsAt found wsize m turn old next new after → WriteStep F q old after next new.state
      by (Err fault) k = refused fault k.refuses.gives_next
      by (Ok file) (inl k) = write-writes F wsize m.lane file m.offset (writes.text_bytes m.text) turn old old next new.state after q refl w k.writes
      by (Ok file) (inr k) = refused _ k.refuses.gives_next

  -- it rests
  idle-rests : (F : List Repeat → Type 0) (old after : Shelf) (next : Step) (state : Writing) (q : ℕ) → Waits old.back q → writes.Leads nexts.Wait writing.Idle old next state after
      → WriteStep F q old after next state
  idle-rests F old after next state q w k = goes (record {
    going = inl k.gives_next;
    seq = ap (λ (z : Shelf). z.seq) k.shelf_is;
    left = q;
    holds = write-as writing.Idle state old after q k.keeps k.shelf_is w;
    less = omega arith;
    asks = λ call sends p fresh. wait-none next call k.gives_next sends;
  })

  pub write-resumes : (F : List Repeat → Type 0) (at : Writing) (wsize lane : ℕ) (turn : Turn) (old : Shelf) (next : Step) (state : Writing) (after : Shelf) (q : ℕ) → WriteLeft old.seq old.back q at
      → writes.ResumesIn at wsize lane turn old next state after → WriteStep F q old after next state
  write-resumes F writing.Idle wsize lane turn old next state after q w k = idle-rests F old after next state q w k
  write-resumes F (writing.Room file s) wsize lane turn old next state after q l k = saves-room F (is_first lane old.order) wsize lane file s turn old old next state after q refl l k

  -- ---- what came

  -- where its save ends well, nothing of the file is pending, or bytes were added since the save began
  abbrev pub EndsAbove : ℕ → Turn → Turn → Result Reply Fault → Shelf → Saving → Type 0
  EndsAbove wsize sent turn came old s = (repeats later : List Repeat) (new : Saving) (after : Pending) → saves.Takes wsize sent turn came repeats s old.back (ends_as (Ok tt)) new after later
      → IsEmpty f after ⊎ (s.upto < old.seq)

  abbrev pub RoomEnds : ℕ → Turn → Turn → Result Reply Fault → Shelf → Writing → Type 0
  RoomEnds wsize sent turn came old writing.Idle = Unit {0}
  RoomEnds wsize sent turn came old (writing.Room file s) = f ≡ s.file → EndsAbove wsize sent turn came old s

  abbrev pub NotAgain : Turn → List Repeat → List Repeat → Type 0
  NotAgain sent old rs = rs ≡ ended sent.xid old

  takes-saved : (wsize : ℕ) (sent turn : Turn) (came : Result Reply Fault) (repeats : List Repeat) (s : Saving) (seq : ℕ) (back : Pending) (told : _) (new : Saving) (after : Pending) (later : List Repeat) (q : ℕ)
      → saves.Takes wsize sent turn came repeats s back told new after later → RoomLeft seq back q s → Saved (NotAgain sent repeats later) seq after q (syncs.sync_next told) new
  takes-saved wsize sent turn came repeats s seq back told new after later q t l = by l
    where
      is : IsSave s.file s.upto new
      is = takes-save s.file s.upto wsize sent turn came repeats s back told new after later (record { file_is = refl; upto_is = refl }) t

      by : RoomLeft seq back q s → Saved (NotAgain sent repeats later) seq after q (syncs.sync_next told) new
      by (elsewhere apart w) = record {
        left = q;
        holds = elsewhere (λ same. apart (same ∙ is.file_is)) (framed back after q (takes-frame f wsize sent turn came repeats s back told new after later apart t) w);
        less = omega arith;
        asks = λ call sends p fresh.
            other-save s.file call apart
            (sent-such (syncs.sync_next told) (Saves s.file) (takes-on s.file wsize sent turn came repeats s back told new after later refl t).asks call sends) p;
      }
      by (of_it here more low few) = took (takes-took f wsize sent turn came repeats s back told new after later t)
        where
          took : Took f sent turn repeats later s (syncs.sync_next told) new → Saved (NotAgain sent repeats later) seq after q (syncs.sync_next told) new
          took (again table less) = record {
            left = 30 + left_to new + 2 * more;
            holds = of_it (here ∙ sym is.file_is) more (subst (λ (u : ℕ). seq ≤ more + u) (sym is.upto_is) low) (omega arith);
            less = omega (arith, less, few);
            asks = λ call sends p fresh. absurd (one-longer (ended sent.xid repeats) _ (sym fresh ∙ table));
          }
          took (on table spent) = record {
            left = 30 + left_to new + 2 * more;
            holds = of_it (here ∙ sym is.file_is) more (subst (λ (u : ℕ). seq ≤ more + u) (sym is.upto_is) low) (omega arith);
            less = let less = spent.less in omega (arith, less, few);
            asks = λ call sends p fresh. let one = spent.asks call sends p in omega (arith, one, few);
          }

  module _ (wsize : ℕ) (m : WriteFile) (sent turn : Turn) (came : Result Reply Fault) (old : Shelf) (next : Step) (state : Writing) (after : Shelf) (q : ℕ) (file : List ℕ) (s : Saving)
      (ends : f ≡ s.file → EndsAbove wsize sent turn came old s) (l : RoomLeft old.seq old.back q s) (t : writes.TakesSave wsize m sent turn came file s old next state after) where
    abbrev shelf : Shelf
    shelf = record old { attrs = t.attrs; pages = saves.pages_after sent.xid (turn.moment - 1) came s old.back old.pages; back = t.back; repeats = t.repeats }

    abbrev StepIs : Type 0
    StepIs = WriteStep (NotAgain sent old.repeats) q old after next state

    waits : saves.Takes wsize sent turn came old.repeats s old.back (ends_as (Ok tt)) t.saved t.back t.repeats → RoomLeft old.seq old.back q s → Waits t.back q
    waits k (elsewhere apart w) = framed old.back t.back q (takes-frame f wsize sent turn came old.repeats s old.back (ends_as (Ok tt)) t.saved t.back t.repeats apart k) w
    waits k (of_it here more low few) = record { more = more; may = by (ends here old.repeats t.repeats t.saved t.back k); less = omega (arith, few) }
      where
        by : IsEmpty f t.back ⊎ (s.upto < old.seq) → (1 ≤ more) ⊎ IsEmpty f t.back
        by (inl none) = inr none
        by (inr past) = inl (omega (arith, past, low))

    done : (result : Result (Unit {0}) Fault) → saves.Takes wsize sent turn came old.repeats s old.back (ends_as result) t.saved t.back t.repeats
        → writes.Follows (ends_as result) wsize m file t.saved turn shelf next state after → StepIs
    done (Ok nothing) k f_ =
        write-writes (NotAgain sent old.repeats) wsize m.lane file m.offset (writes.made_bytes m.text) turn old (record shelf { order = left_order m.lane shelf.order }) next state after q refl (waits k l) f_
    done (Err fault) k f_ = refused fault f_.gives_next

    follows : (told : _) → saves.Takes wsize sent turn came old.repeats s old.back told t.saved t.back t.repeats → writes.Follows told wsize m file t.saved turn shelf next state after → StepIs
    follows told k f_ = by-step
        (λ g. saves.Takes wsize sent turn came old.repeats s old.back g t.saved t.back t.repeats → writes.Follows g wsize m file t.saved turn shelf next state after → StepIs)
        (λ call k f_. stays-as (NotAgain sent old.repeats) q old shelf after (nexts.Send call) file t.saved next state (inr (call, refl)) f_.gives_next f_.keeps f_.shelf_is refl
        (takes-saved wsize sent turn came old.repeats s old.seq old.back _ t.saved t.back t.repeats q k l))
        (λ k f_. stays-as (NotAgain sent old.repeats) q old shelf after nexts.Wait file t.saved next state (inl refl) f_.gives_next f_.keeps f_.shelf_is refl
        (takes-saved wsize sent turn came old.repeats s old.seq old.back _ t.saved t.back t.repeats q k l))
        done told k f_

  pub write-takes : (at : Writing) (wsize : ℕ) (m : WriteFile) (sent turn : Turn) (came : Result Reply Fault) (old : Shelf) (next : Step) (state : Writing) (after : Shelf) (q : ℕ)
      → RoomEnds wsize sent turn came old at → WriteLeft old.seq old.back q at → writes.TakesIn at wsize m sent turn came old next state after
      → WriteStep (NotAgain sent old.repeats) q old after next state
  write-takes writing.Idle wsize m sent turn came old next state after q ends w k = idle-rests (NotAgain sent old.repeats) old after next state q w k
  write-takes (writing.Room file s) wsize m sent turn came old next state after q ends l t = follows wsize m sent turn came old next state after q file s ends l t t.told t.takes t.follows
