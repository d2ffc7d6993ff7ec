-- A step of a lane keeps what stands of the newest bytes at a place.
use Rattle.core_session.proofs.Prelude.{◌≡◌, ◌≢◌, ◌≤◌, ◌<◌, ◌⊎◌, inl, inr, ℕ, Bool, true, false, nat_eq, List, ◌++◌, length, Option, Some, None, slice_get, refl, sym, ap, subst, ◌∙◌, arith, eqb-true, eqb-false, cases_lt, Answer, Value, Entry, Began, Answered, Op, At, AnsweredBefore, Ended, UnderWay, IsOf, slot_of, Terms, WritesByte, Cuts, At-one, At-below, Pending, of_file, LaneFile, Closing, Saving, Syncing, Mounted, FileMachine, Machine, Opener, machine_of, file_of, State, Busy, Over, Setup, View, GoesWith, Runs, IsGuarded, IsClose, plainly, kind_of, EachSound, Cell, cell_at, CloseFile}
use Rattle.world_model.specs.declared.answer.Answer.TheVariants as answers
use Rattle.world_model.specs.declared.op.Op.TheVariants as ops
use Rattle.file_ops.specs.declared.close_file.Closing.TheVariants as closing
use Rattle.file_ops.specs.declared.sync_file.Syncing.TheVariants as syncing
use Rattle.op_machines.specs.declared.file_machine.FileMachine.TheVariants as files
use Rattle.op_machines.specs.declared.machine.Machine.TheVariants as machines
use Rattle.op_machines.specs.declared.opener.Opener.TheVariants as openers
use Rattle.core_session.proofs.drops.LaneIs.{state-is, number-is, busy-over}
use Rattle.core_session.proofs.syncs.AllJobs.{JobHas, job_save}
use Rattle.core_session.proofs.syncs.Causes.{IsWriter, IsSaver, IsPut, OfOp}
use Rattle.core_session.proofs.syncs.Fate.{one-under, ready-is, story-turns}
use Rattle.core_session.proofs.syncs.Fates.{job_kind, file_kind}
use Rattle.core_session.proofs.syncs.Jobs.{SyncHas, CloseHas, syncing_save, closing_save}
use Rattle.core_session.proofs.syncs.Nexts.{at-on, common-from, has-map, not-before, tale-map}
use Rattle.core_session.proofs.syncs.Passing.{Tale, told, Shown}
use Rattle.core_session.proofs.syncs.Plans.{Plan, Came_}
use Rattle.core_session.proofs.syncs.PutGoes.{OwnAt, Names, own_save, own-has}
use Rattle.core_session.proofs.syncs.Turning.{IsFixed, ready, gone, Turns, fixed-turns}
use Rattle.core_session.proofs.pending.Above.{Above}
use Rattle.core_session.proofs.syncs.Aparts.{Apart}
use Rattle.core_session.proofs.pending.Begins.{one-file}
use Rattle.core_session.proofs.pending.Contents.{newest-low}
use Rattle.core_session.proofs.pending.Cuttings.{IsTruncate, IsCutter}
use Rattle.core_session.proofs.syncs.Guard.{slot-guard}
use Rattle.core_session.proofs.pending.Newest.{OfNewest, cell-of, newest-zip, newest-map, newest-each, newest-there}
use Rattle.core_session.proofs.syncs.SlotHeld.{HoldsSlot}
use Rattle.core_session.proofs.pending.Alone.{UnleftTo}
use Rattle.claims.specs.Touched as touched
use Rattle.core_session.proofs.pending.Settles as settles
use Rattle.core_session.proofs.pending.Settles.{StateGood}
use Rattle.core_session.proofs.pending.Standing.{IsSaverOf, Marked, wrote, cut, saved, past, PutEnd, settled_, left_, never, PutSaves, IsGiven, Here, tale, Told, Phase, Was, IsNew, Now, C, E, c-e, plan}

-- ---- which operation it is

pub writer-kind : (mt : Mounted) (n : ℕ) (op : Op) → IsWriter op → job_kind (machine_of mt n op) ≡ 1
writer-kind mt n (ops.Write slot offset bytes) w = refl
writer-kind mt n (ops.Fill slot offset count v) w = refl
writer-kind mt n (ops.Sync slot) w = absurd w
writer-kind mt n (ops.Close slot) w = absurd w
writer-kind mt n (ops.OpenFile slot mode path) w = absurd w
writer-kind mt n (ops.Read slot offset count) w = absurd w
writer-kind mt n (ops.Truncate slot size) w = absurd w
writer-kind mt n (ops.Put path offset bytes) w = absurd w
writer-kind mt n (ops.Stat path) w = absurd w
writer-kind mt n (ops.Access path bits) w = absurd w
writer-kind mt n (ops.MakeDir path) w = absurd w
writer-kind mt n (ops.RemoveDir path) w = absurd w
writer-kind mt n (ops.Remove path) w = absurd w
writer-kind mt n (ops.Rename from to) w = absurd w
writer-kind mt n (ops.Link from to) w = absurd w
writer-kind mt n (ops.SymLink path target) w = absurd w
writer-kind mt n (ops.ReadLink path) w = absurd w
writer-kind mt n (ops.List path) w = absurd w

saver-kind : (mt : Mounted) (n : ℕ) (op : Op) → IsSaver op → (job_kind (machine_of mt n op) ≡ 2) ⊎ (job_kind (machine_of mt n op) ≡ 5)
saver-kind mt n (ops.Sync slot) s = inl refl
saver-kind mt n (ops.Close slot) s = inr refl
saver-kind mt n (ops.Write slot offset bytes) s = absurd s
saver-kind mt n (ops.Fill slot offset count v) s = absurd s
saver-kind mt n (ops.OpenFile slot mode path) s = absurd s
saver-kind mt n (ops.Read slot offset count) s = absurd s
saver-kind mt n (ops.Truncate slot size) s = absurd s
saver-kind mt n (ops.Put path offset bytes) s = absurd s
saver-kind mt n (ops.Stat path) s = absurd s
saver-kind mt n (ops.Access path bits) s = absurd s
saver-kind mt n (ops.MakeDir path) s = absurd s
saver-kind mt n (ops.RemoveDir path) s = absurd s
saver-kind mt n (ops.Remove path) s = absurd s
saver-kind mt n (ops.Rename from to) s = absurd s
saver-kind mt n (ops.Link from to) s = absurd s
saver-kind mt n (ops.SymLink path target) s = absurd s
saver-kind mt n (ops.ReadLink path) s = absurd s
saver-kind mt n (ops.List path) s = absurd s

pub put-kind : (mt : Mounted) (n : ℕ) (op : Op) → IsPut op → job_kind (machine_of mt n op) ≡ 3
put-kind mt n (ops.Put path offset bytes) s = refl
put-kind mt n (ops.Write slot offset bytes) s = absurd s
put-kind mt n (ops.Fill slot offset count v) s = absurd s
put-kind mt n (ops.Sync slot) s = absurd s
put-kind mt n (ops.Close slot) s = absurd s
put-kind mt n (ops.OpenFile slot mode path) s = absurd s
put-kind mt n (ops.Read slot offset count) s = absurd s
put-kind mt n (ops.Truncate slot size) s = absurd s
put-kind mt n (ops.Stat path) s = absurd s
put-kind mt n (ops.Access path bits) s = absurd s
put-kind mt n (ops.MakeDir path) s = absurd s
put-kind mt n (ops.RemoveDir path) s = absurd s
put-kind mt n (ops.Remove path) s = absurd s
put-kind mt n (ops.Rename from to) s = absurd s
put-kind mt n (ops.Link from to) s = absurd s
put-kind mt n (ops.SymLink path target) s = absurd s
put-kind mt n (ops.ReadLink path) s = absurd s
put-kind mt n (ops.List path) s = absurd s

file-saver : (m : FileMachine) → (file_kind m ≡ 2) ⊎ (file_kind m ≡ 5) → settles.SavesFile m
file-saver (files.Open m) (inl k) = absurd (omega (arith, k))
file-saver (files.Open m) (inr k) = absurd (omega (arith, k))
file-saver (files.Read m) (inl k) = absurd (omega (arith, k))
file-saver (files.Read m) (inr k) = absurd (omega (arith, k))
file-saver (files.Write m) (inl k) = absurd (omega (arith, k))
file-saver (files.Write m) (inr k) = absurd (omega (arith, k))
file-saver (files.Sync m) k = tt
file-saver (files.Close m) k = tt
file-saver (files.Truncate m) (inl k) = absurd (omega (arith, k))
file-saver (files.Truncate m) (inr k) = absurd (omega (arith, k))
file-saver (files.Put m) (inl k) = absurd (omega (arith, k))
file-saver (files.Put m) (inr k) = absurd (omega (arith, k))

pub machine-saver : (m : Machine) → (job_kind m ≡ 2) ⊎ (job_kind m ≡ 5) → settles.IsSaver m
machine-saver (machines.File m) k = file-saver m k
machine-saver (machines.Path m) k = absurd (by m.opener k)
  where
    by : (o : Opener) → (file_kind (file_of o) ≡ 2) ⊎ (file_kind (file_of o) ≡ 5) → ⊥
    by (openers.Open o) (inl k) = omega (arith, k)
    by (openers.Open o) (inr k) = omega (arith, k)
    by (openers.Put o) (inl k) = omega (arith, k)
    by (openers.Put o) (inr k) = omega (arith, k)
machine-saver (machines.Name m) (inl k) = absurd (omega (arith, k))
machine-saver (machines.Name m) (inr k) = absurd (omega (arith, k))

busy-one : (a b : Machine) → Busy a ≡ Busy b → a ≡ b
busy-one a b e = cc

-- what is told of the save of a sync or a close
some-save : (a b : Saving) → Some a ≡ Some b → a ≡ b
some-save a b e = cc

module _ (f : List ℕ) (t : Tale) (q : ℕ) (b : Pending) (o : List LaneFile) (z : Saving) where
  abbrev SaveTold : Type 0
  SaveTold = t.B z.file × (f ≡ z.file → t.T z.upto)

  own-told : (s : Saving) → Some s ≡ Some z → t.B s.file → (f ≡ s.file → t.T s.upto) → SaveTold
  own-told s is of to = subst (λ (y : Saving). t.B y.file × (f ≡ y.file → t.T y.upto)) (some-save s z is) (of, to)

  sync-told : (w : Syncing) → SyncHas (told f (Unit {0}) t).PA (told f (Unit {0}) t).KA w q b o → syncing_save w ≡ Some z → SaveTold
  sync-told syncing.Idle h is = absurd (let no_way : None ≡ Some z = is in cc)
  sync-told (syncing.Saves s) h is = own-told s is h.1 h.2

  close-told : (w : Closing) → CloseHas (told f (Unit {0}) t).PA (told f (Unit {0}) t).KA (told f (Unit {0}) t).X (told f (Unit {0}) t).B w q b o → closing_save w ≡ Some z → SaveTold
  close-told closing.Idle h is = absurd (let no_way : None ≡ Some z = is in cc)
  close-told (closing.Queued s) h is = own-told s is h.1 h.2
  close-told (closing.Saves s) h is = own-told s is h.1 h.2
  close-told (closing.ToRemove r) h is = absurd (let no_way : None ≡ Some z = is in cc)
  close-told (closing.Removing r) h is = absurd (let no_way : None ≡ Some z = is in cc)

  pub saver-told : (m : Machine) → settles.IsSaver m → JobHas (told f (Unit {0}) t) m q b o → job_save m ≡ Some z → SaveTold
  saver-told (machines.File (files.Sync m)) saver h is = sync-told m.state h is
  saver-told (machines.File (files.Close m)) saver h is = close-told m.state h is
  saver-told (machines.File (files.Open m)) saver h is = absurd saver
  saver-told (machines.File (files.Read m)) saver h is = absurd saver
  saver-told (machines.File (files.Write m)) saver h is = absurd saver
  saver-told (machines.File (files.Truncate m)) saver h is = absurd saver
  saver-told (machines.File (files.Put m)) saver h is = absurd saver
  saver-told (machines.Path m) saver h is = absurd saver
  saver-told (machines.Name m) saver h is = absurd saver

began-same : (a b c d : ℕ) (o p : Op) → Began a b o ≡ Began c d p → (a ≡ c) × (b ≡ d) × (o ≡ p)
began-same a b c d o p e = (cc, cc, cc)

module _ (mt : Mounted) (terms : Terms) (setup : Setup) (H : List Entry) (V : View) (g : GoesWith mt terms setup H V) (f : List ℕ) (i : ℕ) where
  abbrev Phase_ : List Entry → View → Type 0
  Phase_ = Phase mt terms setup H f i

  abbrev Marked_ : List Entry → View → ℕ → Type 0
  Marked_ = Marked mt terms setup H f i

  abbrev SaverOf : ℕ → Type 0
  SaverOf = IsSaverOf mt terms setup H f i

  abbrev Given_ : List Entry → View → (ℕ → ℕ) → ℕ → ℕ → Type 0
  Given_ = IsGiven mt terms setup H f i

  abbrev Tale_ : ℕ → ℕ → Tale
  Tale_ = tale mt terms setup H f i

  pub fixed-low : (h : List Entry) (v : View) (x : ℕ) (a : Answer) → IsFixed h v x a → x < length h
  fixed-low h v x a (ready k n o there u) = u.before
  fixed-low h v x a (gone lane y o d) = At-below h x (Began lane d.line o) d.began

  pub marked-low : (h : List Entry) (v : View) (x : ℕ) → Marked_ h v x → x < length h
  marked-low h v x (wrote byte value fixed w b) = fixed-low h v x (answers.Done value) fixed
  marked-low h v x (cut value fixed cuts) = fixed-low h v x (answers.Done value) fixed
  marked-low h v x (saved value fixed sv) = fixed-low h v x (answers.Done value) fixed
  marked-low h v x (past k n machine op there u is sv) = u.before

  -- all that is known of each byte before a step
  pub was-all : (h : List Entry) (v : View) (p : Phase_ h v) (x mark kind : ℕ) (own : Option Saving) (tgt : List ℕ)
      → C mt terms setup H f i h v p.u x mark v.shelf.seq kind own tgt v.shelf.seq v.shelf.back
  was-all h v p x mark kind own tgt = (
    common-from 0 v.shelf.seq v.shelf.seq v.shelf.back (omega arith) p.common,
    newest-zip (Here mt terms setup H f i (Given_ h v p.u)) Rest (Here mt terms setup H f i (Was mt terms setup H f i h v p.u x mark v.shelf.seq kind own tgt))
        (λ file place byte number k r same here. (k same here, r.0, λ y m. r.1 (y, m) same here)) v.shelf.back p.given
        (newest-zip Low Each Rest (λ file place byte number low each. (low, each)) v.shelf.back (newest-low v.shelf.seq v.shelf.back p.common.upto)
        (newest-each Those (λ a. Above f i (p.u a.0)) v.shelf.back (λ a. a.1))),
    refl,
  )
    where
      Those : Type 0
      Those = (y : ℕ) × OfNewest (Above f i (p.u y)) v.shelf.back

      Low : List ℕ → ℕ → ℕ → ℕ → Type 0
      Low file place byte number = number ≤ v.shelf.seq

      Each : List ℕ → ℕ → ℕ → ℕ → Type 0
      Each file place byte number = (a : Those) → Above f i (p.u a.0) file place byte number

      Rest : List ℕ → ℕ → ℕ → ℕ → Type 0
      Rest file place byte number = Low file place byte number × Each file place byte number

  -- the file of a save is the operation's
  pub save-file : (x mark : ℕ) (machine : Machine) (z : Saving) (q : ℕ) (b : Pending) (o : List LaneFile) → settles.IsSaver machine → SaverOf x → JobHas (told f (Unit {0}) (Tale_ x mark)) machine q b o
      → job_save machine ≡ Some z → (f ≡ z.file) × (mark ≤ z.upto)
  save-file x mark machine z q b o saver sv h is =
      let k = saver-told f (Tale_ x mark) q b o z machine saver h is in
      let here : f ≡ z.file = one-file mt terms setup H V g x sv.op f z.file sv.of (k.0 sv.lane sv.line sv.op sv.began sv.saver) in
      (here, k.1 here)

  module _ (h h2 rest : List Entry) (split_ : h2 ++ rest ≡ H) (old new : View) (at number x : ℕ) (op : Op) (wsize : ℕ) (some : 1 ≤ wsize) (least : 1 ≤ number) (most : number ≤ 16) (base : ℕ → Option (List ℕ)) (kind : ℕ)
      (kind_is : kind ≡ job_kind (machine_of mt number op)) (runs : Runs h2 number) (under : UnderWay h2 number x (length h2) op) (shorter : length h ≤ length h2)
      (ended_was : (lane y z : ℕ) (o : Op) (a : Answer) → Ended h2 lane y o z a → Ended h lane y o z a) (p : Phase_ h old) (u2 : ℕ → ℕ) (same : (y : ℕ) → y < length h → u2 y ≡ p.u y)
      (low2 : (y : ℕ) → u2 y ≤ old.shelf.seq) (fresh : (y lane line : ℕ) (o : Op) → At H y (Began lane line o) → length h ≤ y → y < length h2 → u2 y ≡ old.shelf.seq) where
    began-here : At H x (Began number under.line op)
    began-here = at-on H h2 rest split_ x (Began number under.line op) under.began

    -- the operation that began there is this one
    pub op-here : (P : Op → Type 0) → OfOp H x P → P op
    op-here P of = of number under.line op began-here

    pub writer-here : OfOp H x IsWriter → kind ≡ 1
    writer-here of = kind_is ∙ writer-kind mt number op (op-here IsWriter of)

    pub truncate-here : Cuts terms.modes H x f i → IsTruncate op
    truncate-here c =
        subst IsTruncate (began-same c.of.lane c.of.line number under.line (ops.Truncate c.slot c.size) op (At-one H x (Began c.of.lane c.of.line (ops.Truncate c.slot c.size)) (Began number under.line op) c.of.began began-here)).2 tt

    pub put-here : OfOp H x IsPut → kind ≡ 3
    put-here of = kind_is ∙ put-kind mt number op (op-here IsPut of)

    pub saver-here : SaverOf x → (kind ≡ 2) ⊎ (kind ≡ 5)
    saver-here sv = by (saver-kind mt number op (subst IsSaver (began-same sv.lane sv.line number under.line sv.op op (At-one H x (Began sv.lane sv.line sv.op) (Began number under.line op) sv.began began-here)).2 sv.saver))
      where
        by : (job_kind (machine_of mt number op) ≡ 2) ⊎ (job_kind (machine_of mt number op) ≡ 5) → (kind ≡ 2) ⊎ (kind ≡ 5)
        by (inl k) = inl (kind_is ∙ k)
        by (inr k) = inr (kind_is ∙ k)

    abbrev pub Plan_ : Option Saving → List ℕ → Plan f wsize kind old.shelf.seq (λ z. Unit {0})
    Plan_ own tgt = plan mt terms setup H f i h old p.u x (u2 x) old.shelf.seq kind own tgt wsize new.shelf (low2 x)

    module _ (own : Option Saving) (tgt : List ℕ) (came : Came_ f wsize some number least most base kind old.shelf.seq (λ z. Unit {0}) (Plan_ own tgt) old.lanes at new)
        (t : Turns f h h2 old new at number x op came.state) (settled : StateGood came.state → SaverOf x → OfNewest (Above f i (u2 x)) new.shelf.back)
        (cut_marks : IsTruncate op → (machine : Machine) → came.state ≡ Busy machine → IsCutter (u2 x) machine)
        (cut_done : (value : Value) → came.state ≡ Over (answers.Done value) → Cuts terms.modes H x f i → OfNewest (Above f i (u2 x)) new.shelf.back)
        (put_done : (value : Value) → came.state ≡ Over (answers.Done value) → OfOp H x IsPut → PutEnd mt terms setup H f i h2 new x (u2 x))
        (own_on : x < length h → (number_ : ℕ) → PutSaves mt terms setup H f i h old x number_ → (machine : Machine) → came.state ≡ Busy machine → OwnAt (Names f number_) (own_save machine))
        (own_done : x < length h → (number_ : ℕ) → PutSaves mt terms setup H f i h old x number_ → OfOp H x IsPut → (value : Value) → came.state ≡ Over (answers.Done value)
        → OfNewest (Above f i number_) new.shelf.back)
        (new_done : OfOp H x IsPut → own ≡ None → (value : Value) → came.state ≡ Over (answers.Done value) → ⊥)
        (apart_on : (y : ℕ) → Apart f h old y → Apart f h2 new y)
        (guards_ : EachSound new.shelf.back → (number_ : ℕ) → number_ ≤ old.shelf.seq → IsGuarded number_ old f → IsGuarded number_ new f ⊎ OfNewest (Above f i number_) new.shelf.back)
        (slots2 : HoldsSlot terms.modes H x f h2 new) (unleft_ : (w number_ : ℕ) → IsGuarded number_ old f → UnleftTo terms.modes H f (length h) w → UnleftTo terms.modes H f (length h2) w) where
      abbrev ThePlan : Plan f wsize kind old.shelf.seq (λ z. Unit {0})
      ThePlan = Plan_ own tgt

      abbrev Now_ : ℕ → ℕ → Type 0
      Now_ = Now mt terms setup H f i h old p.u x (u2 x) old.shelf.seq kind own tgt

      abbrev Was_ : ℕ → ℕ → Type 0
      Was_ = Was mt terms setup H f i h old p.u x (u2 x) old.shelf.seq kind own tgt

      abbrev New_ : ℕ → ℕ → Type 0
      New_ = IsNew mt terms setup H f i h old p.u x (u2 x) old.shelf.seq kind own tgt

      abbrev E_ : ℕ → Pending → Type 0
      E_ = E mt terms setup H f i h old p.u x (u2 x) old.shelf.seq kind own tgt

      abbrev ShownN : State → Type 0
      ShownN st = Shown f wsize some number least most base came.owner ThePlan.C ThePlan.D ThePlan.E ThePlan.t kind st new.shelf.seq new.shelf.back new.shelf.order

      e-of : (st : State) → ShownN st → E_ new.shelf.seq new.shelf.back
      e-of (Busy m) sh = of sh.1.content
        where
          of : ThePlan.C new.shelf.seq new.shelf.back ⊎ ThePlan.D new.shelf.seq new.shelf.back → E_ new.shelf.seq new.shelf.back
          of (inl c) = c-e mt terms setup H f i h old p.u x (u2 x) old.shelf.seq kind own tgt new.shelf.seq new.shelf.back c
          of (inr d) = d.0
      e-of (Over answer) sh = sh.content

      content : E_ new.shelf.seq new.shelf.back
      content = e-of came.state came.shown

      -- ---- which lane it is

      lane-there : (k n : ℕ) (st : State) → slice_get new.lanes k ≡ Some (record { number = n; state = st }) → k ≡ at → (n ≡ number) × (st ≡ came.state)
      lane-there k n st there here =
          let e = sym there ∙ ap (slice_get new.lanes) here ∙ came.but.here in
          (number-is st came.state n number e, state-is st came.state n number e)

      other-under : (k n y : ℕ) (o : Op) (st : State) → slice_get new.lanes k ≡ Some (record { number = n; state = st }) → UnderWay h2 n y (length h2) o → y ≢ x → k ≢ at
      other-under k n y o st there u off here =
          let is = lane-there k n st there here in
          off (one-under h2 number x y op o runs under (subst (λ (m : ℕ). UnderWay h2 m y (length h2) o) is.0 u)).0

      fixed-was : (y : ℕ) (a : Answer) → y ≢ x → IsFixed h2 new y a → IsFixed h old y a
      fixed-was y a off (gone lane z o d) = gone lane z o (ended_was lane y z o a d)
      fixed-was y a off (ready k n o there u) =
          let apart = other-under k n y o (Over a) there u off in
          let was = came.but.was k (record { number = n; state = Over a }) there apart in
          ready k n o was (t.was n y o (t.apart k (record { number = n; state = Over a }) was apart) u)

      own-lane : (k n : ℕ) (st : State) (o : Op) → slice_get new.lanes k ≡ Some (record { number = n; state = st }) → UnderWay h2 n x (length h2) o → came.state ≡ st
      own-lane k n st o there u = by (nat_eq k at) refl
        where
          by : (b : Bool) → nat_eq k at ≡ b → came.state ≡ st
          by true d = sym (lane-there k n st there (eqb-true k at d)).1
          by false d =
              let off = eqb-false k at d in
              let was = came.but.was k (record { number = n; state = st }) there off in
              absurd (t.apart k (record { number = n; state = st }) was off
              (began-same n u.line number under.line o op (At-one h2 x (Began n u.line o) (Began number under.line op) u.began under.began)).0)

      own-fixed : (a : Answer) → IsFixed h2 new x a → came.state ≡ Over a
      own-fixed a (ready k n o there u) = own-lane k n (Over a) o there u
      own-fixed a (gone lane y o d) = absurd (under.unanswered (record { lane = lane; op = o; y = y; answer = a; ended = d; before = At-below h2 y (Answered lane d.line a) d.answered }))

      -- ---- who gave each byte

      sound2 : EachSound new.shelf.back
      sound2 = content.0.sound

      -- another's, where it is there still
      was-on : (byte number_ : ℕ) → (OfNewest (Above f i number_) new.shelf.back → ⊥) → Was_ byte number_ → Given_ h2 new u2 byte number_
      was-on byte number_ there was = record {
        w = was.0.w;
        began = let began = was.0.began in omega (arith, began, shorter);
        writes = was.0.writes;
        well = λ writer. (let k = was.0.well writer in (k.0, fixed-turns f h h2 old new at number x op came.state t was.0.w (answers.Done k.0) k.1));
        late = λ y lane line o at_y within above before. by y lane line o at_y within above before (cases_lt y (length h));
        guard = λ writer. still (guards_ sound2 number_ was.1 (was.0.guard writer));
        unleft = λ writer. unleft_ was.0.w number_ (was.0.guard writer) (was.0.unleft writer);
        saves_ = λ put k n machine o lane u. saved_by put k n machine o lane u (nat_eq was.0.w x) refl;
        unput = λ put value fixed. ended_by put value fixed (nat_eq was.0.w x) refl;
      }
        where
          saved_by : OfOp H was.0.w IsPut → (k n : ℕ) (machine : Machine) (o : Op) → slice_get new.lanes k ≡ Some (record { number = n; state = Busy machine }) → UnderWay h2 n was.0.w (length h2) o → (b : Bool)
              → nat_eq was.0.w x ≡ b → OwnAt (Names f number_) (own_save machine)
          saved_by put k n machine o lane u true d =
              let same = eqb-true was.0.w x d in
              own_on (subst (λ (z : ℕ). z < length h) same was.0.began) number_ (subst (λ (z : ℕ). PutSaves mt terms setup H f i h old z number_) same (was.0.saves_ put)) machine
              (own-lane k n (Busy machine) o lane (subst (λ (z : ℕ). UnderWay h2 n z (length h2) o) same u))
          saved_by put k n machine o lane u false d =
              let apart = other-under k n was.0.w o (Busy machine) lane u (eqb-false was.0.w x d) in
              let before = came.but.was k (record { number = n; state = Busy machine }) lane apart in
              was.0.saves_ put k n machine o before (t.was n was.0.w o (t.apart k (record { number = n; state = Busy machine }) before apart) u)

          ended_by : OfOp H was.0.w IsPut → (value : Value) → IsFixed h2 new was.0.w (answers.Done value) → (b : Bool) → nat_eq was.0.w x ≡ b → ⊥
          ended_by put value fixed true d =
              let same = eqb-true was.0.w x d in
              there
              (own_done (subst (λ (z : ℕ). z < length h) same was.0.began) number_ (subst (λ (z : ℕ). PutSaves mt terms setup H f i h old z number_) same (was.0.saves_ put))
              (subst (λ (z : ℕ). OfOp H z IsPut) same put) value (own-fixed (answers.Done value) (subst (λ (z : ℕ). IsFixed h2 new z (answers.Done value)) same fixed)))
          ended_by put value fixed false d = was.0.unput put value (fixed-was was.0.w (answers.Done value) (eqb-false was.0.w x d) fixed)

          still : IsGuarded number_ new f ⊎ OfNewest (Above f i number_) new.shelf.back → IsGuarded number_ new f
          still (inl guard) = guard
          still (inr above) = absurd (there above)

          by : (y lane line : ℕ) (o : Op) → At H y (Began lane line o) → y < length h2 → u2 y < number_ → AnsweredBefore H was.0.w y → (y < length h) ⊎ (length h ≤ y) → ⊥
          by y lane line o at_y within above before (inl early) = was.0.late y lane line o at_y early (subst (λ (n : ℕ). n < number_) (same y early) above) before
          by y lane line o at_y within above before (inr last) =
              let is = fresh y lane line o at_y last within in
              let few = was.1 in
              omega (arith, is, few, above)

      -- its slot guards what a write adds
      own-guard : (answer : Answer) → came.state ≡ Over answer → OfOp H x IsWriter → (byte number_ : ℕ) → WritesByte terms.modes terms.origin H x f i byte → IsGuarded number_ new f
      own-guard answer over writer byte number_ writes = by writes
        where
          none : (c : CloseFile) → IsClose new number c → ⊥
          none c k = at_ (nat_eq k.at at) refl
            where
              at_ : (b : Bool) → nat_eq k.at at ≡ b → ⊥
              at_ true d =
                  busy-over (machines.File (files.Close c)) answer
                  (state-is (Busy (machines.File (files.Close c))) came.state number number (sym k.there ∙ ap (slice_get new.lanes) (eqb-true k.at at d) ∙ came.but.here) ∙ over)
              at_ false d =
                  let off = eqb-false k.at at d in
                  t.apart k.at (record { number = number; state = Busy (machines.File (files.Close c)) })
                  (came.but.was k.at (record { number = number; state = Busy (machines.File (files.Close c)) }) k.there off) off refl

          of-slot : (o : Op) (slot lane line : ℕ) → kind_of o ≡ plainly → slot_of o ≡ Some slot → At H x (Began lane line o) → IsOf terms.modes H x o f → IsGuarded number_ new f
          of-slot o slot lane line plain on began of =
              let is : op ≡ o = sym (began-same lane line number under.line o op (At-one H x (Began lane line o) (Began number under.line op) began began-here)).2 in
              slot-guard number_ f new number slot none (slots2 o slot plain on of number (subst (λ (z : Op). UnderWay h2 number x (length h2) z) is under))

          by : WritesByte terms.modes terms.origin H x f i byte → IsGuarded number_ new f
          by (touched.write slot offset bytes of c) = of-slot (ops.Write slot offset bytes) slot of.lane of.line refl refl of.began of
          by (touched.fill slot offset count of low high) = of-slot (ops.Fill slot offset count byte) slot of.lane of.line refl refl of.began of
          by (touched.put lane line offset n path bytes at_x ends leads c) = absurd (writer lane line (ops.Put path offset bytes) at_x)

      -- what is known of the operation whose byte it is
      abbrev Well : Type 0
      Well = OfOp H x IsWriter → (value : Value) × IsFixed h2 new x (answers.Done value)

      abbrev HasEnded : Type 0
      HasEnded = OfOp H x IsWriter → (answer : Answer) × (came.state ≡ Over answer)

      abbrev Keeps : Type 0
      Keeps = OfOp H x IsPut → (byte number_ : ℕ) → New_ byte number_ → (machine : Machine) → came.state ≡ Busy machine → OwnAt (Names f number_) (own_save machine)

      new-on : Well → HasEnded → Keeps → (byte number_ : ℕ) → New_ byte number_ → Given_ h2 new u2 byte number_
      new-on well over keeps byte number_ is = record {
        w = x;
        began = under.before;
        writes = is.1;
        well = well;
        late = λ y lane line o at_y within above before. not-before H h2 rest split_ y number x op within under before;
        guard = λ writer. (let o = over writer in own-guard o.0 o.1 writer byte number_ is.1);
        unleft = λ writer k before left r b at_r low high. not-before H h2 rest split_ k number x op (omega (arith, low, high)) under before;
        saves_ = λ put k n machine o lane u. keeps put byte number_ is machine (own-lane k n (Busy machine) o lane u);
        unput = λ put value fixed. new_done put (is.2 (put-here put)).0 value (own-fixed (answers.Done value) fixed);
      }

      now-on : Well → HasEnded → Keeps → (byte number_ : ℕ) → (OfNewest (Above f i number_) new.shelf.back → ⊥) → Now_ byte number_ → Given_ h2 new u2 byte number_
      now-on well over keeps byte number_ there (inl was) = was-on byte number_ there was
      now-on well over keeps byte number_ there (inr is) = new-on well over keeps byte number_ is

      abbrev GivenNow : Type 0
      GivenNow = OfNewest (Here mt terms setup H f i (Given_ h2 new u2)) new.shelf.back

      -- a byte that is there isn't above its own number
      there-not : (file : List ℕ) (place : ℕ) (cell : Cell) → cell_at (of_file file new.shelf.back).segments place ≡ Some cell → file ≡ f → place ≡ i → OfNewest (Above f i cell.number) new.shelf.back → ⊥
      there-not file place cell at_ same_ here above =
          let more : cell.number < cell.number = cell-of (Above f i cell.number file) (of_file file new.shelf.back).segments place cell (above.file file) at_ same_ here in
          omega (arith, more)

      c-given : ThePlan.C new.shelf.seq new.shelf.back → GivenNow
      c-given c =
          newest-there (Here mt terms setup H f i Was_) (Here mt terms setup H f i (Given_ h2 new u2)) new.shelf.back sound2
          (λ file place cell at_ k same_ here. was-on cell.byte cell.number (there-not file place cell at_ same_ here) (k same_ here)) c.1

      e-given : Well → HasEnded → Keeps → E_ new.shelf.seq new.shelf.back → GivenNow
      e-given well over keeps e =
          newest-there (Here mt terms setup H f i Now_) (Here mt terms setup H f i (Given_ h2 new u2)) new.shelf.back sound2
          (λ file place cell at_ k same_ here. now-on well over keeps cell.byte cell.number (there-not file place cell at_ same_ here) (k same_ here)) e.1

      -- where it has its answer
      over-keeps : (a : Answer) → came.state ≡ Over a → Keeps
      over-keeps a is put byte number_ new_ machine busy = absurd (busy-over machine a (sym busy ∙ is))

      -- where it is no write
      module _ (other : kind ≡ 1 → ⊥) where
        unwritten-well : Well
        unwritten-well writer = absurd (other (writer-here writer))

        unwritten-ends : HasEnded
        unwritten-ends writer = absurd (other (writer-here writer))

        -- a put that has its own save has its bytes in it
        busy-keeps : (m : Machine) → came.state ≡ Busy m → ShownN (Busy m) → kind ≡ 3 → (z : Saving) → own_save m ≡ Some z → Keeps
        busy-keeps m is sh three z its put byte number_ new_ machine busy =
            let k = own-has (told f (Unit {0}) ThePlan.t) m z its new.shelf.seq new.shelf.back new.shelf.order sh.1.tale in
            let aim = new_.2 three in
            let file : z.file ≡ f = k.1.1 three ∙ sym aim.1 in
            let low = (k.2 (sym file)).1 (three, aim.0) in
            let number_is = new_.0 in
            let same : m ≡ machine = busy-one m machine (sym is ∙ busy) in
            subst (λ (y : Machine). OwnAt (Names f number_) (own_save y)) same (z, its, (file, omega (arith, low, number_is)))

        busy-given : (m : Machine) → came.state ≡ Busy m → ShownN (Busy m) → (b : Bool) → nat_eq kind 3 ≡ b → (o : Option Saving) → own_save m ≡ o → GivenNow
        busy-given m is sh false d o its = e-given unwritten-well unwritten-ends (λ put. absurd (eqb-false kind 3 d (put-here put))) (e-of (Busy m) sh)
        busy-given m is sh true d None none = c-given (sh.1.unsaved (sh.0 ∙ eqb-true kind 3 d) none)
        busy-given m is sh true d (Some z) its = e-given unwritten-well unwritten-ends (busy-keeps m is sh (eqb-true kind 3 d) z its) (e-of (Busy m) sh)

      given-of : (st : State) → came.state ≡ st → ShownN st → (b : Bool) → nat_eq kind 1 ≡ b → GivenNow
      given-of (Busy m) is sh true d = c-given (sh.1.plain (sh.0 ∙ eqb-true kind 1 d))
      given-of (Over (answers.Refused fault)) is sh true d = c-given (sh.unwritten (eqb-true kind 1 d) fault refl)
      given-of (Over (answers.Done value)) is sh b d =
          e-given (λ writer. (value, ready-is f h h2 old new at number x op came.state t (answers.Done value) is)) (λ writer. (answers.Done value, is)) (over-keeps (answers.Done value) is) sh.content
      given-of (Busy m) is sh false d = busy-given (eqb-false kind 1 d) m is sh (nat_eq kind 3) refl (own_save m) refl
      given-of (Over (answers.Refused fault)) is sh false d =
          e-given (unwritten-well (eqb-false kind 1 d)) (unwritten-ends (eqb-false kind 1 d)) (over-keeps (answers.Refused fault) is) sh.content

      -- ---- another operation

      marked-was : (y : ℕ) → y ≢ x → Marked_ h2 new y → Marked_ h old y
      marked-was y off (wrote byte value fixed w b) = wrote byte value (fixed-was y (answers.Done value) off fixed) w b
      marked-was y off (cut value fixed cuts) = cut value (fixed-was y (answers.Done value) off fixed) cuts
      marked-was y off (saved value fixed sv) = saved value (fixed-was y (answers.Done value) off fixed) sv
      marked-was y off (past k n machine o there u is sv) =
          let apart = other-under k n y o (Busy machine) there u off in
          let was = came.but.was k (record { number = n; state = Busy machine }) there apart in
          past k n machine o was (t.was n y o (t.apart k (record { number = n; state = Busy machine }) was apart) u) is sv

      others-above : (y : ℕ) → y < length h → OfNewest (Above f i (p.u y)) old.shelf.back → OfNewest (Above f i (u2 y)) new.shelf.back
      others-above y within m = newest-map (Here mt terms setup H f i Now_) (Above f i (u2 y)) (λ file place byte number_ k same_ here. by byte number_ (k same_ here)) new.shelf.back content.1
        where
          by : (byte number_ : ℕ) → Now_ byte number_ → u2 y < number_
          by byte number_ (inl was) = subst (λ (n : ℕ). n < number_) (sym (same y within)) (was.2 y m)
          by byte number_ (inr is) = let low = low2 y in let more = is.0 in omega (arith, low, more)

      -- ---- its own

      own-above : Marked_ h2 new x → OfNewest (Above f i (u2 x)) new.shelf.back
      own-above (wrote byte value fixed w b) =
          let sh = subst ShownN (own-fixed (answers.Done value) fixed) came.shown in
          let d = sh.wrote (writer-here w) value refl in
          newest-map (Above f i old.shelf.seq) (Above f i (u2 x)) (λ file place byte_ number_ k same_ here. (let above = k same_ here in let low = low2 x in omega (arith, above, low))) new.shelf.back (d.1 w byte b)
      own-above (cut value fixed cuts) = cut_done value (own-fixed (answers.Done value) fixed) cuts
      own-above (saved value fixed sv) = settled (subst StateGood (sym (own-fixed (answers.Done value) fixed)) tt) sv
      own-above (past k n machine o there u is sv) = settled (subst StateGood (sym (own-lane k n (Busy machine) o there u)) is) sv

      -- ---- all of it

      marks-now : (y : ℕ) → Marked_ h2 new y → OfNewest (Above f i (u2 y)) new.shelf.back
      marks-now y m = by (nat_eq y x) refl
        where
          by : (b : Bool) → nat_eq y x ≡ b → OfNewest (Above f i (u2 y)) new.shelf.back
          by true d = subst (λ (z : ℕ). OfNewest (Above f i (u2 z)) new.shelf.back) (sym (eqb-true y x d)) (own-above (subst (λ (z : ℕ). Marked_ h2 new z) (eqb-true y x d) m))
          by false d = let was = marked-was y (eqb-false y x d) m in others-above y (marked-low h old y was) (p.marks y was)

      puts-now : (y : ℕ) (value : Value) → IsFixed h2 new y (answers.Done value) → OfOp H y IsPut → PutEnd mt terms setup H f i h2 new y (u2 y)
      puts-now y value fixed puts = by (nat_eq y x) refl
        where
          other : (within : y < length h) → PutEnd mt terms setup H f i h old y (p.u y) → PutEnd mt terms setup H f i h2 new y (u2 y)
          other within (settled_ above) = settled_ (others-above y within above)
          other within (left_ a) = left_ (apart_on y a)
          other within (never none) = never none

          by : (b : Bool) → nat_eq y x ≡ b → PutEnd mt terms setup H f i h2 new y (u2 y)
          by true d =
              let is = eqb-true y x d in
              subst (λ (z : ℕ). PutEnd mt terms setup H f i h2 new z (u2 z)) (sym is)
              (put_done value (own-fixed (answers.Done value) (subst (λ (z : ℕ). IsFixed h2 new z (answers.Done value)) is fixed)) (subst (λ (z : ℕ). OfOp H z IsPut) is puts))
          by false d = let was = fixed-was y (answers.Done value) (eqb-false y x d) fixed in other (fixed-low h old y (answers.Done value) was) (p.puts y value was puts)

      pub next-phase : Phase_ h2 new
      next-phase = record {
        u = u2;
        low = λ y. (let low = low2 y in let since = content.0.since in omega (arith, low, since));
        common = common-from old.shelf.seq 0 new.shelf.seq new.shelf.back (omega arith) content.0;
        given = given-of came.state refl came.shown (nat_eq kind 1) refl;
        marks = marks-now;
        puts = puts-now;
        story = story-turns f h h2 old new at number x op came.state t runs (Told mt terms setup H f i p.u) (Told mt terms setup H f i u2)
            (λ machine is. (
            let now = subst ShownN is came.shown in (
              now.0 ∙ kind_is,
              tale-map f ThePlan.t (Tale_ x (u2 x)) machine (λ n z. z.0) (λ z. z) (λ file offset bytes z. z.0.0) (λ file z. z.0) (λ file size upto z. z) new.shelf.seq new.shelf.back new.shelf.order now.1.tale,
              λ truncates. cut_marks truncates machine is,
            )))
            (λ n z machine o other uw told_. (
              told_.0,
              has-map f (Tale_ z (p.u z)) (Tale_ z (u2 z)) machine (λ m le. subst (λ (v : ℕ). v ≤ m) (sym (same z uw.before)) le) (λ k. k) (λ file offset bytes k. k) (λ file k. k) (λ file size upto k. k) told_.1,
              λ truncates. subst (λ (v : ℕ). IsCutter v machine) (sym (same z uw.before)) (told_.2 truncates),
            )) p.story;
        owned = came.owned_;
      }
