-- A read asks for as many READs as the pages that meet its range take, and for one more after each short reply.
use Rattle.core_counts.proofs.Prelude.{◌≡◌, ◌≢◌, ◌<◌, ◌≤◌, ◌⊎◌, inl, inr, ◌+◌, ◌-◌, ◌*◌, ℕ, Bool, true, false, List, [], ◌∷◌, ◌++◌, length, Option, Some, None, Result, Ok, Err, refl, sym, ap, subst, ◌∙◌, arith, Attr, Mode, Opened, same-or, IsReadOf, Answer, Fault, Entry, Began, Call, Reply, Op, Says, ended, Step, Repeat, Shelf, Turn, ReadFile, Phase, Reading, place_after, Mounted, Machine, machine_of, Starts, Resumes, Takes, of_phase, of_reading, in_flight, Going, PhaseNames, ReadNames, PhaseAt, ReadAt, Calls}
use Rattle.std.proofs.Common.{if◌then◌else◌}
use Rattle.claims.specs.CallCounts.{IsShortRead}
use Rattle.file_ops.specs.Base.{nothing_of}
use Rattle.std.specs.FinMap as finite
use Rattle.nfs_types.specs.declared.mode.Mode.TheVariants as modes
use Rattle.nfs_file_calls.specs.declared.call.FileCall.TheVariants as calls_of
use Rattle.nfs_file_calls.specs.declared.owned.FileKept.TheVariants as kept
use Rattle.claims.specs.Pages.{pages_met, reads_a_page}
use Rattle.world_model.specs.declared.answer.Answer.TheVariants as answers
use Rattle.world_model.specs.declared.answer.Fault.TheVariants as faults
use Rattle.world_model.specs.declared.message.Call.TheVariants as calls
use Rattle.world_model.specs.declared.message.Reply.TheVariants as replies
use Rattle.world_model.specs.declared.op.Op.TheVariants as ops
use Rattle.client_shelf.specs.declared.step.Step.TheVariants as nexts
use Rattle.file_ops.specs.declared.reading.Phase.TheVariants as phases
use Rattle.file_ops.specs.ReadFile as reads
use Rattle.file_ops.specs.Reading as reading
use Rattle.op_machines.specs.declared.file_machine.FileMachine.TheVariants as files
use Rattle.op_machines.specs.declared.machine.Machine.TheVariants as machines
use Rattle.core_answers.proofs.asks.ReadRanges.{begun-in}
use Rattle.core_counts.proofs.counts.engine.Laws.{Came, told, unmade, Spends, Gains, nothing, one, Took, again, on, CountLaws}
use Rattle.core_counts.proofs.counts.reads.Readings.{StopsIn}
use Rattle.core_counts.proofs.counts.reads.Takes as steps

-- a read
abbrev pub IsRead : Op → Type 0
IsRead op = (slot : ℕ) × (offset : ℕ) × (count : ℕ) × (op ≡ ops.Read slot offset count)

going : (next : Step) (P : Type 0) → P → Going next P
going (nexts.Send call) P p = p
going nexts.Wait P p = p
going (nexts.Done answer) P p = tt

done-going : (next : Step) (answer : Answer) (P : Type 0) → next ≡ nexts.Done answer → Going next P
done-going next answer P is = subst (λ (n : Step). Going n P) (sym is) tt

done-not : (next : Step) (answer : Answer) (call : Call) → next ≡ nexts.Done answer → next ≡ nexts.Send call → ⊥
done-not next answer call is sends = absurd (let no_way : nexts.Done answer ≡ nexts.Send call = sym is ∙ sends in cc)

waits-is : (p : Phase) → steps.waits p ≡ of_phase p
waits-is phases.Attrs = refl
waits-is phases.AskedAttrs = refl
waits-is phases.Pages = refl
waits-is phases.Rest = refl
waits-is (phases.Asked size) = refl
waits-is phases.Ended = refl

module _ (m : Mounted) (some : 1 ≤ m.rsize) (f : List ℕ) where
  abbrev At : List ℕ → ℕ → ℕ → Reading → Type 0
  At g offset count r = ReadAt g offset count m.rsize m.noac some r

  abbrev StopsSo : List ℕ → ℕ → ℕ → Reading → Type 0
  StopsSo g offset count r = steps.StopsAt g offset count m.rsize m.noac some r

  abbrev level : List ℕ → ℕ → ℕ → Reading → ℕ
  level g offset count r = steps.level-of g offset count m.rsize m.noac some r

  abbrev SpentSo : List ℕ → ℕ → ℕ → ℕ → Step → Reading → Type 0
  SpentSo g offset count had next r = steps.Spends g offset count m.rsize m.noac some had next r

  -- how many READs of the file a read that has begun may still ask for
  pub record LeftTo (offset count : ℕ) (r : Reading) (left : ℕ) : Type 0 where
    pub g : List ℕ
    pub at : At g offset count r
    pub stops : StopsSo g offset count r
    pub level : g ≡ f → level g offset count r ≤ left

  abbrev pub LeftIn : ℕ → ℕ → Option Reading → ℕ → Type 0
  LeftIn offset count None left = Unit {0}
  LeftIn offset count (Some r) left = LeftTo offset count r left

  pub record Left (h : List Entry) (x : ℕ) (op : Op) (machine : Machine) (left : ℕ) : Type 0 where
    pub slot : ℕ
    pub offset : ℕ
    pub count : ℕ
    pub op_is : op ≡ ops.Read slot offset count
    pub of : ReadFile
    pub is : machine ≡ machines.File (files.Read of)
    pub at : LeftIn offset count of.reading left

  abbrev pub base : Op → ℕ
  base op = pages_met op * reads_a_page m.rsize

  abbrev SpendsNow : List Entry → ℕ → Op → ℕ → Step → Machine → Type 0
  SpendsNow h x op had next new = Spends (IsReadOf f) Left h x op had next new

  in-as : (offset count left : ℕ) (to new : Option Reading) → new ≡ to → LeftIn offset count to left → LeftIn offset count new left
  in-as offset count left to new is k = subst (λ (o : Option Reading). LeftIn offset count o left) (sym is) k

  -- ---- what a step leaves

  spends : (h : List Entry) (x : ℕ) (op : Op) (had : ℕ) (next : Step) (new : Machine) (slot offset count : ℕ) → op ≡ ops.Read slot offset count → (of : ReadFile) → new ≡ machines.File (files.Read of)
      → (r : Reading) → of.reading ≡ Some r → (g : List ℕ) → At g offset count r → (most : ℕ) → SpentSo g offset count most next r → (g ≡ f → most ≤ had) → SpendsNow h x op had next new
  spends h x op had next new slot offset count op_is of is r begun g at most sp fits = by (same-or f g)
    where
      by : (g ≡ f) ⊎ (g ≢ f) → SpendsNow h x op had next new
      by (inl same) = record {
        left = level g offset count r;
        keeps = going next (Left h x op new (level g offset count r)) (record {
          slot = slot;
          offset = offset;
          count = count;
          op_is = op_is;
          of = of;
          is = is;
          at = in-as offset count (level g offset count r) (Some r) of.reading begun (record { g = g; at = at; stops = sp.stops; level = λ e. omega arith });
        });
        less = let l = sp.less in let fit = fits same in omega (arith, l, fit);
        asks = λ call sends p. let l = sp.asks f call sends p in let fit = fits same in omega (arith, l, fit);
      }
      by (inr apart) = record {
        left = had;
        keeps = going next (Left h x op new had) (record {
          slot = slot;
          offset = offset;
          count = count;
          op_is = op_is;
          of = of;
          is = is;
          at = in-as offset count had (Some r) of.reading begun (record { g = g; at = at; stops = sp.stops; level = λ e. absurd (apart e) });
        });
        less = omega arith;
        asks = λ call sends p. absurd (apart (sp.mine f call sends p));
      }

  ends-spends : (h : List Entry) (x : ℕ) (op : Op) (had : ℕ) (next : Step) (new : Machine) (answer : Answer) → next ≡ nexts.Done answer → SpendsNow h x op had next new
  ends-spends h x op had next new answer is = record {
    left = had;
    keeps = done-going next answer (Left h x op new had) is;
    less = omega arith;
    asks = λ call sends p. absurd (done-not next answer call is sends);
  }

  waits-spends : (h : List Entry) (x : ℕ) (op : Op) (had : ℕ) (next : Step) (new : Machine) → next ≡ nexts.Wait → Left h x op new had → SpendsNow h x op had next new
  waits-spends h x op had next new is k = record {
    left = had;
    keeps = going next (Left h x op new had) k;
    less = omega arith;
    asks = λ call sends p. absurd (let no_way : nexts.Wait ≡ nexts.Send call = sym is ∙ sends in cc);
  }

  -- ---- it begins

  module _ (h : List Entry) (lane line slot offset count wsize : ℕ) (turn : Turn) (old : Shelf) (next : Step) (new : Machine) (after : Shelf) where
    abbrev own : ReadFile
    own = record { lane = lane; slot = slot; offset = offset; count = count; rsize = m.rsize; noac = m.noac; reading = None }

    abbrev Later : List Entry
    Later = h ++ Began lane line (ops.Read slot offset count) ∷ []

    abbrev ReadNow : Op
    ReadNow = ops.Read slot offset count

    first-phase : (g : List ℕ) (b : Bool) → m.noac ≡ b → PhaseAt g offset count m.rsize m.noac some (if b then phases.Attrs else phases.Pages) (nothing_of offset count)
    first-phase g true is = is
    first-phase g false is = tt

    first-stops : (b : Bool) (left : ℕ) → StopsIn m.rsize (if b then phases.Attrs else phases.Pages) left
    first-stops true left = tt
    first-stops false left = tt

    starts-as : (machine : ReadFile) (g : List ℕ) (moment : ℕ) → new ≡ machines.File (files.Read machine)
        → reads.GoesFrom turn.room own old.back (reading.settled (reads.begun moment own g old.back) old.pages) next machine after.pages → SpendsNow Later (length h) ReadNow (base ReadNow) next new
    starts-as machine g moment is s =
        let r : Reading = reads.begun moment own g old.back in
        let at : At g offset count r = record { file = refl; size = refl; base = begun-in offset count; phase = first-phase g m.noac refl } in
        let moved = steps.goes-on g offset count m.rsize m.noac some turn.room old.back r old.pages next at (first-stops m.noac _) s.step in
        spends Later (length h) ReadNow (base ReadNow) next new slot offset count refl machine is (reading.gone turn.room (reading.settled r old.pages)).reading
        (ap (λ (k : ReadFile). k.reading) s.machine) g moved.0 (level g offset count r) moved.1 (λ e. steps.begun-level g slot offset count m.rsize m.noac some r refl)

    with-begun : (machine : ReadFile) (of : Option Opened) (result : Result Reading Fault) → new ≡ machines.File (files.Read machine)
        → reads.Begins (reads.begun_at of (turn.moment - 1) own old.back) result → reads.StartsWith result turn.room own old.pages old.back next machine after.pages
        → SpendsNow Later (length h) ReadNow (base ReadNow) next new
    with-begun machine None result is b s = refused faults.Slot result b s
      where
        refused : (fault : Fault) (result : Result Reading Fault) → result ≡ Err fault → reads.StartsWith result turn.room own old.pages old.back next machine after.pages
            → SpendsNow Later (length h) ReadNow (base ReadNow) next new
        refused fault result e s =
            ends-spends Later (length h) ReadNow (base ReadNow) next new (answers.Refused fault)
            (subst (λ (r : Result Reading Fault). reads.StartsWith r turn.room own old.pages old.back next machine after.pages) e s).step
    with-begun machine (Some o) result is b s = of o.mode b
      where
        refused : (fault : Fault) → result ≡ Err fault → SpendsNow Later (length h) ReadNow (base ReadNow) next new
        refused fault e =
            ends-spends Later (length h) ReadNow (base ReadNow) next new (answers.Refused fault)
            (subst (λ (r : Result Reading Fault). reads.StartsWith r turn.room own old.pages old.back next machine after.pages) e s).step

        begins : reads.Begins (Ok (reads.begun (turn.moment - 1) own o.file old.back)) result → SpendsNow Later (length h) ReadNow (base ReadNow) next new
        begins (inr none) = refused faults.Memory none
        begins (inl ok) =
            starts-as machine o.file (turn.moment - 1) is
            (subst (λ (r : Result Reading Fault). reads.StartsWith r turn.room own old.pages old.back next machine after.pages) ok s)

        of : (mode : Mode) → reads.Begins (reads.begun_in mode (turn.moment - 1) own o.file old.back) result → SpendsNow Later (length h) ReadNow (base ReadNow) next new
        of modes.W k = refused faults.Mode k
        of modes.R k = begins k
        of modes.RW k = begins k
        of modes.C k = begins k
        of modes.X k = begins k

    begins-so : Starts wsize (machine_of m lane ReadNow) turn old next new after → SpendsNow Later (length h) ReadNow (base ReadNow) next new
    begins-so s =
        with-begun s.step.machine (finite.get old.opens (lane, slot)) s.step.step.reading (s.machine_is ∙ ap machines.File s.step.machine_is) s.step.step.begins s.step.step.goes

  -- ---- it goes on

  resumes-so : (h : List Entry) (x : ℕ) (op : Op) (wsize : ℕ) (turn : Turn) (old : Shelf) (next : Step) (new : Machine) (after : Shelf) (had slot offset count : ℕ)
      → op ≡ ops.Read slot offset count → (k : ReadFile) (to : ReadFile) → new ≡ machines.File (files.Read to) → (o : Option Reading) → k.reading ≡ o → LeftIn offset count o had
      → reads.ResumesIn o turn.room k old.pages old.back next to after.pages → SpendsNow h x op had next new
  resumes-so h x op wsize turn old next new after had slot offset count op_is k to is None none left s =
      waits-spends h x op had next new s.step (record {
        slot = slot;
        offset = offset;
        count = count;
        op_is = op_is;
        of = to;
        is = is;
        at = in-as offset count had None to.reading (ap (λ (q : ReadFile). q.reading) s.machine ∙ none) tt;
      })
  resumes-so h x op wsize turn old next new after had slot offset count op_is k to is (Some r) begun left s =
      let moved = steps.goes-on left.g offset count m.rsize m.noac some turn.room old.back r old.pages next left.at left.stops s.step in
      spends h x op had next new slot offset count op_is to is (reading.gone turn.room (reading.settled r old.pages)).reading (ap (λ (q : ReadFile). q.reading) s.machine) left.g moved.0
      (level left.g offset count r) moved.1 left.level

  -- ---- what came

  abbrev TookNow : List Entry → ℕ → Op → ℕ → Turn → Turn → Result Reply Fault → List Repeat → Step → Machine → List Repeat → Type 0
  TookNow h x op had sent turn came old next new later = Took (IsReadOf f) (IsShortRead f) Left h x op had sent turn came old next new later

  own-names : (machine : Machine) (k : ReadFile) (call : Call) → machine ≡ machines.File (files.Read k) → Calls machine call → ReadNames k.reading call
  own-names machine k call is c = (subst (λ (n : Machine). Calls n call) is c).0.1

  ok-err : (R : Type 0) (reply : Reply) (fault : Fault) → ◌≡◌ {A = Result Reply Fault} (Ok reply) (Err fault) → R
  ok-err R reply fault e = absurd (cc)

  module _ (h : List Entry) (x : ℕ) (op : Op) (machine : Machine) (sent turn : Turn) (came : Result Reply Fault) (old : Shelf) (next : Step) (new : Machine) (later : List Repeat) (had slot offset count : ℕ)
      (op_is : op ≡ ops.Read slot offset count) (k to : ReadFile) (was : machine ≡ machines.File (files.Read k)) (is : new ≡ machines.File (files.Read to)) (r now : Reading)
      (begun : k.reading ≡ Some r) (goes : to.reading ≡ Some now) (left : LeftTo offset count r had) (c : Came h x machine sent came old) where
    plain : later ≡ ended sent.xid old.repeats → SpendsNow h x op had next new → TookNow h x op had sent turn came old.repeats next new later
    plain table s = on table 0 (nothing refl) (record { left = s.left; keeps = s.keeps; less = let l = s.less in omega (arith, l); asks = λ call sends p. let l = s.asks call sends p in omega (arith, l) })

    -- the READ that a short reply answers
    short-read : (n : ℕ) (attr : Option Attr) (counted : ℕ) (bytes : List ℕ) → left.g ≡ f → r.phase ≡ phases.Asked n → came ≡ Ok (replies.File (kept.Read attr counted false bytes)) → length bytes < n
        → Gains (IsShortRead f) h x came 1
    short-read n attr counted bytes own phase is_reply lt = by c
      where
        by : Came h x machine sent came old → Gains (IsShortRead f) h x came 1
        by (told call xid rec now_told expects says sent_is piece) = one refl (replies.File (kept.Read attr counted false bytes)) is_reply call xid rec now_told (record {
          offset = place_after r.base;
          count = n;
          attr = attr;
          counted = counted;
          data_ = bytes;
          is = names ∙ ap (λ (g : List ℕ). calls.File (calls_of.Read g (place_after r.base) n)) (left.at.file ∙ own);
          spells = (subst (Says xid call rec) is_reply says).is;
          short = lt;
        })
          where
            names : call ≡ calls.File (calls_of.Read r.file (place_after r.base) n)
            names = subst (λ (p : Phase). PhaseNames p r call) phase (subst (λ (o : Option Reading). ReadNames o call) begun (own-names machine k call was expects))
        by (unmade call fault expects none fault_is) = ok-err _ (replies.File (kept.Read attr counted false bytes)) fault (sym is_reply ∙ none)

    took-so : steps.Took left.g offset count m.rsize m.noac some came sent turn old.repeats later r next now → TookNow h x op had sent turn came old.repeats next new later
    took-so (steps.again table same) = again table had (omega arith) (record {
      slot = slot;
      offset = offset;
      count = count;
      op_is = op_is;
      of = to;
      is = is;
      at = in-as offset count had (Some r) to.reading (goes ∙ ap (λ (q : Reading). Some q) same) left;
    })
    took-so (steps.ends table answer e) = plain table (ends-spends h x op had next new answer e)
    took-so (steps.on table at sp) = plain table (spends h x op had next new slot offset count op_is to is now goes left.g at (level left.g offset count r) sp left.level)
    took-so (steps.short table at sp n attr counted bytes phase is_reply lt) = by (same-or f left.g)
      where
        by : (left.g ≡ f) ⊎ (left.g ≢ f) → TookNow h x op had sent turn came old.repeats next new later
        by (inl own) =
            on table 1 (short-read n attr counted bytes own phase is_reply lt)
            (spends h x op (had + 1) next new slot offset count op_is to is now goes left.g at (level left.g offset count r + 1) sp (λ e. let l = left.level e in omega (arith, l)))
        by (inr apart) =
            plain table (spends h x op had next new slot offset count op_is to is now goes left.g at (level left.g offset count r + 1) sp (λ e. absurd (apart e)))

  takes-in : (h : List Entry) (x : ℕ) (op : Op) (machine : Machine) (sent turn : Turn) (came : Result Reply Fault) (old : Shelf) (next : Step) (new : Machine) (after : Shelf) (others had slot offset count : ℕ)
      → op ≡ ops.Read slot offset count → (k to : ReadFile) → machine ≡ machines.File (files.Read k) → new ≡ machines.File (files.Read to) → Came h x machine sent came old → (o : Option Reading)
      → k.reading ≡ o → of_reading o ≡ others + 1 → LeftIn offset count o had → after.repeats ≡ reads.repeats_heard o sent turn came old.repeats
      → reads.TakesIn o sent turn came old.repeats k old.pages old.back next to after.pages → TookNow h x op had sent turn came old.repeats next new after.repeats
  takes-in h x op machine sent turn came old next new after others had slot offset count op_is k to was is c None begun count_is left table t = absurd (omega (arith, count_is))
  takes-in h x op machine sent turn came old next new after others had slot offset count op_is k to was is c (Some r) begun count_is left table t =
      took-so h x op machine sent turn came old next new after.repeats had slot offset count op_is k to was is r t.state.reading begun (ap (λ (q : ReadFile). q.reading) t.machine) left c
      (steps.reading-took left.g offset count m.rsize m.noac some r.phase others came sent turn old.repeats after.repeats r old.pages old.back next t.state refl left.at left.stops
      (let waits = waits-is r.phase in omega (arith, count_is, waits)) table t.step)

  takes-so : (h : List Entry) (x : ℕ) (op : Op) (machine : Machine) (wsize : ℕ) (sent turn : Turn) (came : Result Reply Fault) (old : Shelf) (next : Step) (new : Machine) (after : Shelf) (others had : ℕ)
      → Left h x op machine had → in_flight machine ≡ others + 1 → Came h x machine sent came old → Takes wsize machine sent turn came old next new after
      → TookNow h x op had sent turn came old.repeats next new after.repeats
  takes-so h x op machine wsize sent turn came old next new after others had left count_is c t =
      let g = subst (λ (n : Machine). Takes wsize n sent turn came old next new after) left.is t in
      takes-in h x op machine sent turn came old next new after others had left.slot left.offset left.count left.op_is left.of g.step.machine left.is (g.machine_is ∙ ap machines.File g.step.machine_is) c
      left.of.reading refl (sym (ap in_flight left.is) ∙ count_is) left.at g.step.repeats g.step.step

  pub read-laws : CountLaws (machine_of m) (IsReadOf f) (IsShortRead f) IsRead base Left
  read-laws = record {
    starts = λ h lane line op wsize turn old next new after read s.
        subst (λ (o : Op). SpendsNow (h ++ Began lane line o ∷ []) (length h) o (base o) next new) (sym read.3)
        (begins-so h lane line read.0 read.1 read.2 wsize turn old next new after (subst (λ (o : Op). Starts wsize (machine_of m lane o) turn old next new after) read.3 s));
    resumes = λ h x op machine wsize turn old next new after had read left s.
        let g = subst (λ (n : Machine). Resumes wsize n turn old next new after) left.is s in
        resumes-so h x op wsize turn old next new after had left.slot left.offset left.count left.op_is left.of g.step.machine (g.machine_is ∙ ap machines.File g.step.machine_is) left.of.reading refl left.at g.step.step;
    takes = λ h x op machine wsize sent turn came old next new after others had read left count_is c t.
        takes-so h x op machine wsize sent turn came old next new after others had left count_is c t;
    grows = λ h e x op machine left k. record { slot = k.slot; offset = k.offset; count = k.count; op_is = k.op_is; of = k.of; is = k.is; at = k.at };
  }
