-- Each newest byte that is pending was given by an operation since whose answer none that went well covered or settled it.
use Rattle.core_session.proofs.Prelude.{◌≡◌, ◌≤◌, ◌<◌, ℕ, false, List, [], ◌∷◌, ◌++◌, length, Option, Some, None, position, append_assoc, append-nil, slice_get, refl, sym, ap, subst, ◌∙◌, Waiting, waiting_at, Answer, Fault, Value, Entry, Began, Answered, Delivered, Op, AnsweredBefore, Terms, RefusedWrite, At-one, said_of, of_file, Cell, byte_of, cell_at, newest_at, Mounted, machine_of, Purpose, Setup, is_busy, IsIdle, StartsLane, TakesAt, Stirs, AnswersAt, counted, View, KnowsRoot, Reaches, GoesWith, begins-unbegun, taken_one, Known, reached-all, lanes-under-way, keeps-placed, stirs-stay, starts-stay, steps-stay, Stays, PutsNamed, PutRefused, LeftAlone, Shelf, Lane, Busy, IsFresh, Kind, BeginsAs}
use Rattle.claims.specs.Pending.{Pending}
use Rattle.world_model.specs.declared.answer.Answer.TheVariants as answers
use Rattle.world_model.specs.declared.op.Op.TheVariants as ops
use Rattle.claims.specs.Touched as touched
use Rattle.core_session.proofs.saves.WholeSteps.{keeps-wholly, starts-wholly}
use Rattle.core_session.proofs.syncs.Causes.{IsWriter, OfOp}
use Rattle.core_session.proofs.syncs.Turning.{IsFixed, under-was, under-answers-back, under-plain-back}
use Rattle.core_session.proofs.syncs.WatchingAlong.{KeepsWatching, reached-watching}
use Rattle.core_session.specs.pending.Held.{IsUnsettled, PendingUnsettled, PendingHeldBack}
use Rattle.core_session.proofs.pending.Entries.{answers-phase, same-phase, fresh-phase}
use Rattle.op_machines.specs.declared.file_machine.FileMachine.TheVariants as files
use Rattle.op_machines.specs.declared.machine.Machine.TheVariants as machines
use Rattle.core_session.proofs.drops.Along.{GuardsKnown, guards-steps}
use Rattle.core_session.proofs.drops.Drops.{own-others}
use Rattle.core_session.proofs.drops.GuardLaws.{stirs-step, takes-step}
use Rattle.core_session.proofs.drops.KnowingAlong.{IsPlain, StepsKnowing}
use Rattle.core_session.proofs.drops.Laws.{DropsKnown, drops-fresh, Begun, starts-begun}
use Rattle.core_session.proofs.drops.Shown.{guards-kept}
use Rattle.core_session.proofs.drops.SlotKinds.{begins-as}
use Rattle.core_session.proofs.pending.Alone.{HeldSoon, at-once, alone-not, unleft-step}
use Rattle.core_session.proofs.syncs.Guard.{starts-plain}
use Rattle.core_session.proofs.syncs.SlotHeld.{HoldsSlot, holds-step, holds-starts, holds-same, holds-unbegun}
use Rattle.core_session.proofs.pending.Givers.{answered-writer}
use Rattle.core_session.proofs.pending.Moments.{given, unput-by, uncovered-by, uncut-by, unsettled-by}
use Rattle.core_session.proofs.pending.Onwards.{refused-not, never-refused}
use Rattle.core_session.proofs.room.Onward.{Onward}
use Rattle.core_session.proofs.pending.Standing.{IsGiven, Phase, Stands}
use Rattle.core_session.proofs.pending.StartsOn.{starts-phase}
use Rattle.core_session.proofs.pending.StirsOn.{stirs-phase}
use Rattle.core_session.proofs.pending.TakesOn.{takes-phase}

abbrev has-some : View → Type 0
has-some v = 1 ≤ v.wsize

some-stays : Stays has-some
some-stays = record {
  makes = λ old new number call made p. subst (λ (v : View). 1 ≤ v.wsize) (sym made.is) p;
  sets = λ old at number was state shelf there p. p;
}

began-op : (a b c d : ℕ) (o p : Op) → Began a b o ≡ Began c d p → o ≡ p
began-op a b c d o p e = cc

refused-done : (fault : Fault) (value : Value) → answers.Refused fault ≡ answers.Done value → ⊥
refused-done fault value e = cc

pub refused-writer : (H : List Entry) (w : ℕ) → RefusedWrite H w → OfOp H w IsWriter
refused-writer H w (touched.write lane slot offset y bytes fault ended) n l other there =
    subst IsWriter (began-op lane ended.line n l (ops.Write slot offset bytes) other (At-one H w (Began lane ended.line (ops.Write slot offset bytes)) (Began n l other) ended.began there)) tt
refused-writer H w (touched.fill lane slot offset count byte y fault ended) n l other there =
    subst IsWriter (began-op lane ended.line n l (ops.Fill slot offset count byte) other (At-one H w (Began lane ended.line (ops.Fill slot offset count byte)) (Began n l other) ended.began there)) tt

module _ (mt : Mounted) (terms : Terms) (setup : Setup) (H : List Entry) (V : View) (g : GoesWith mt terms setup H V) (roots : KnowsRoot terms.origin H mt.root) (puts_named : PutsNamed H) (f : List ℕ) (i : ℕ) where
  abbrev St : List Entry → View → Type 0
  St = Stands mt terms setup H f i

  -- ---- along the history

  abbrev Guards : List Entry → View → Type 0
  Guards h v = GuardsKnown terms.modes h v

  abbrev laws : StepsKnowing (machine_of mt) setup (GuardsKnown terms.modes)
  laws = guards-steps mt terms.modes g.nocto setup

  abbrev SlotsOf : List Entry → View → Type 0
  SlotsOf h v = (x : ℕ) (rest : List Entry) → h ++ rest ≡ H → HoldsSlot terms.modes H x f h v

  guards-fresh : (h : List Entry) (v : View) → IsFresh setup v → Guards h v
  guards-fresh h v fresh = record {
    drops = drops-fresh mt terms.modes g.nocto setup h v fresh;
    ranked = record {
      sorted = λ n l c d f u w a b low. absurd (none a.close.at (record { number = n; state = Busy (machines.File (files.Close c)) }) a.close.there);
      below = λ n c f u a. absurd (none a.close.at (record { number = n; state = Busy (machines.File (files.Close c)) }) a.close.there);
    };
  }
    where
      none : (k : ℕ) (lane : Lane) → slice_get v.lanes k ≡ Some lane → ⊥
      none k lane there = let no_way : None ≡ Some lane = ap (λ (lanes : List Lane). slice_get lanes k) (sym fresh.lanes) ∙ there in cc

  slots-stirs : (h : List Entry) (old new : View) (at : ℕ) → Known setup h old → Stirs old at new → Guards h old → SlotsOf h old → SlotsOf h new
  slots-stirs h old new at k t d slots x rest is =
      holds-step mt terms setup H V g x f h h old new (stirs-step setup terms.modes h old new k d.drops at t) d.drops k (λ o n u. u) (slots x rest is)

  slots-takes : (h : List Entry) (old new : View) (rec : List ℕ) (xid : ℕ) (call : Waiting Purpose) (at : ℕ) → Known setup h old → waiting_at xid old.calls.calls ≡ Some call
      → position (is_busy call.purpose.lane) old.lanes ≡ Some at → TakesAt (taken_one old xid) at call.purpose.sent (said_of call.purpose.proc rec) new → Guards h old → SlotsOf h old
      → SlotsOf (h ++ Delivered rec ∷ []) new
  slots-takes h old new rec xid call at k waits there t d slots x rest is =
      holds-step mt terms setup H V g x f h (h ++ Delivered rec ∷ []) old new (takes-step setup terms.modes h old new k d.drops rec xid call at waits there t) d.drops k
      (λ o n u. under-was h (Delivered rec) n x o (λ l p e. absurd (cc e)) u) (slots x (Delivered rec ∷ rest) (sym (append_assoc h (Delivered rec ∷ []) rest) ∙ is))

  slots-starts : (h : List Entry) (old new : View) (lane line : ℕ) (op : Op) (now : ℕ) (r : Reaches (machine_of mt) setup h old) (found : old.lost ≡ false) (idle : IsIdle lane old.lanes)
      (t : StartsLane (counted old now) lane (machine_of mt lane op) new) → SlotsOf h old → SlotsOf (h ++ Began lane line op ∷ []) new
  slots-starts h old new lane line op now r found idle t slots x rest is =
      holds-starts mt terms setup H V g x f h rest old new lane line op is r found idle (own-others _ _ _ _ _ _ _ _ _ _ begun.state begun.own)
      (λ plain. starts-plain (counted old now) new lane (machine_of mt lane op) t
      (subst (λ (q : Kind). BeginsAs terms.modes.nocto lane q (machine_of mt lane op)) plain (begins-as terms.modes mt g.nocto lane op)))
      (slots x (Began lane line op ∷ rest) (sym (append_assoc h (Began lane line op ∷ []) rest) ∙ is))
    where
      begun : Begun mt terms.modes g.nocto setup h old new lane line op
      begun = starts-begun mt terms.modes g.nocto setup h old new lane line op now r found idle t

  slots-answers : (h : List Entry) (old new : View) (at lane line : ℕ) (answer : Answer) → AnswersAt old at lane (Some answer) new → SlotsOf h old → SlotsOf (h ++ Answered lane line answer ∷ []) new
  slots-answers h old new at lane line answer a slots x rest is =
      holds-same terms.modes H x f h (h ++ Answered lane line answer ∷ []) old new (ap (λ (v : View). v.shelf.opens) a.is) (λ o n u. under-answers-back h lane line answer n x o u)
      (slots x (Answered lane line answer ∷ rest) (sym (append_assoc h (Answered lane line answer ∷ []) rest) ∙ is))

  slots-same : (h : List Entry) (e : Entry) (old new : View) → IsPlain e → new.shelf ≡ old.shelf → SlotsOf h old → SlotsOf (h ++ e ∷ []) new
  slots-same h e old new plain shelf slots x rest is =
      holds-same terms.modes H x f h (h ++ e ∷ []) old new (ap (λ (z : Shelf). z.opens) shelf) (λ o n u. under-plain-back h e n x o plain u)
      (slots x (e ∷ rest) (sym (append_assoc h (e ∷ []) rest) ∙ is))

  pub stands-all : KeepsWatching (machine_of mt) setup (Stands mt terms setup H f i)
  stands-all = record {
    fresh = λ h v may up fresh. record {
      wholly = (keeps-wholly mt setup).fresh h v fresh;
      placed = (keeps-placed mt setup).fresh v fresh;
      wsize = subst (λ (n : ℕ). 1 ≤ n) (sym fresh.wsize) may.sizes.write;
      guards = guards-fresh h v fresh;
      slots = λ x rest is. holds-unbegun terms.modes H x f h v up.unbegun;
      phase = λ rest is. fresh-phase mt terms setup H f i h v fresh;
    };
    stirs = λ h old new at k t st.
        let gk2 = laws.stirs h old new at k t st.guards in
        let slots2 = slots-stirs h old new at k t st.guards st.slots in
        record {
          wholly = (keeps-wholly mt setup).stirs h old new at k t st.wholly;
          placed = (keeps-placed mt setup).stirs h old new at k t st.placed;
          wsize = stirs-stay has-some some-stays old new at t st.wsize;
          guards = gk2;
          slots = slots2;
          phase = λ rest is. stirs-phase mt terms setup H V g f i h rest is old new at k t st.wholly st.placed st.wsize st.guards gk2 (λ x. slots2 x rest is) (st.phase rest is);
        };
    starts = λ h old new lane line op now r found k idle fits t st.
        let gk2 = laws.starts h old new lane line op now r found k idle fits t st.guards in
        let slots2 = slots-starts h old new lane line op now r found idle t st.slots in
        record {
          wholly = starts-wholly mt setup h old new lane line op now r found k idle t st.wholly;
          placed = (keeps-placed mt setup).starts h old new lane op now k idle t st.placed;
          wsize = starts-stay has-some some-stays (counted old now) new lane (machine_of mt lane op) (λ state shelf. st.wsize) t;
          guards = gk2;
          slots = slots2;
          phase = λ rest is. (
              let here : h ++ Began lane line op ∷ rest ≡ H = sym (append_assoc h (Began lane line op ∷ []) rest) ∙ is in
              starts-phase mt terms setup H V g f i h rest old new lane line op now here r found k idle fits t st.wholly st.placed st.wsize st.guards gk2 (λ x. slots2 x rest is)
              (st.phase (Began lane line op ∷ rest) here));
        };
    takes = λ h old new rec xid call at r found k fin hears named waits there t st.
        let gk2 = laws.takes h old new rec xid call at r found k fin hears named waits there t st.guards in
        let slots2 = slots-takes h old new rec xid call at k waits there t st.guards st.slots in
        record {
          wholly = (keeps-wholly mt setup).takes h old new rec xid call at r found k waits there t st.wholly;
          placed = (keeps-placed mt setup).takes h old new rec xid call at k waits there t st.placed;
          wsize = steps-stay has-some some-stays (taken_one old xid) new at t.number t.machine t.after t.shelf t.next t.there t.leads st.wsize;
          guards = gk2;
          slots = slots2;
          phase = λ rest is. (
              let here : h ++ Delivered rec ∷ rest ≡ H = sym (append_assoc h (Delivered rec ∷ []) rest) ∙ is in
              takes-phase mt terms setup H V g roots puts_named f i h rest rec here old new xid call at r found k fin hears named waits there t st.wholly st.placed st.wsize st.guards gk2
              (λ x. slots2 x rest is) (st.phase (Delivered rec ∷ rest) here));
        };
    answers = λ h old new at lane line answer r found k r2 found2 open_line a st. record {
      wholly = (keeps-wholly mt setup).answers h old new at lane line answer k a st.wholly;
      placed = (keeps-placed mt setup).answers h old new at lane answer k a st.placed;
      wsize = subst (λ (v : View). 1 ≤ v.wsize) (sym a.is) st.wsize;
      guards = laws.answers h old new at lane line answer r found k r2 found2 open_line a st.guards;
      slots = slots-answers h old new at lane line answer a st.slots;
      phase = λ rest is. (
          let here : h ++ Answered lane line answer ∷ rest ≡ H = sym (append_assoc h (Answered lane line answer ∷ []) rest) ∙ is in
          answers-phase mt terms setup H f i h rest old new at lane line answer here k open_line a
          (lanes-under-way (h ++ Answered lane line answer ∷ []) new (reached-all (machine_of mt) (begins-unbegun mt) setup (h ++ Answered lane line answer ∷ []) new r2 found2).lanes).apart
          (λ number guard. (guards-kept mt terms setup h old (record { nocto = g.nocto; reaches = r }) found).noted at lane answer new a number f guard)
          (λ w number guard u. unleft-step mt terms setup H V g f h (Answered lane line answer ∷ rest) here (Answered lane line answer) rest refl old st.guards.drops (λ b e. absurd (cc e)) w number guard u)
          (st.phase (Answered lane line answer ∷ rest) here));
    };
    same = λ h e old new r found k plain noted sends lanes shelf wsize calls st. record {
      wholly = (keeps-wholly mt setup).same h e old new lanes shelf calls st.wholly;
      placed = (keeps-placed mt setup).same old new lanes shelf calls.purposes st.placed;
      wsize = subst (λ (n : ℕ). 1 ≤ n) (sym wsize) st.wsize;
      guards = laws.same h e old new plain noted lanes shelf wsize calls st.guards;
      slots = slots-same h e old new plain shelf st.slots;
      phase = λ rest is. (
          let here : h ++ e ∷ rest ≡ H = sym (append_assoc h (e ∷ []) rest) ∙ is in
          same-phase mt terms setup H f i h e rest old new here plain noted lanes shelf
          (λ w number guard u. unleft-step mt terms setup H V g f h (e ∷ rest) here e rest refl old st.guards.drops
          (λ b is_. at-once mt terms setup H V g f h (e ∷ rest) here old r found (noted b is_).noted) w number guard u)
          (st.phase (e ∷ rest) here));
    };
  }

  -- ---- at any of its moments

  module _ (h rest : List Entry) (is : h ++ rest ≡ H) (v : View) (p : Phase mt terms setup H f i h v) (cell : Cell) (there : cell_at (of_file f v.shelf.back).segments i ≡ Some cell) where
    abbrev giver : IsGiven mt terms setup H f i h v p.u cell.byte cell.number
    giver = given mt terms setup H f i h rest is v p cell there

    -- no last close left the file alone since
    pub unleft-by : DropsKnown terms.modes h v → HeldSoon mt terms setup H V g f h rest is v → (PutRefused H giver.w → ⊥) → (k : ℕ) → AnsweredBefore H giver.w k → LeftAlone terms.modes H k f → k < length h → ⊥
    unleft-by d soon none k before left low =
        let writer = answered-writer H giver.w (length h) (λ d. unput-by mt terms setup H f i h rest is v p cell there d) none k before low terms.modes terms.origin f i cell.byte giver.writes in
        alone-not mt terms setup H V g f h rest is k low left (λ j bytes at from to. giver.unleft writer k before left j bytes at from to) v d soon cell.number (giver.guard writer)

    -- where what has a good answer isn't refused later
    pub unsettled : (OfOp H giver.w IsWriter → (value : Value) → IsFixed h v giver.w (answers.Done value) → RefusedWrite H giver.w → ⊥) → IsUnsettled terms.modes terms.origin H f i (length h) cell.byte
    unsettled never_refused = record {
      w = giver.w;
      before = giver.began;
      writes = giver.writes;
      unrefused = λ r. refused r;
      unput = λ d. unput-by mt terms setup H f i h rest is v p cell there d;
      uncovered = λ x y u before wrote_ low. uncovered-by mt terms setup H f i h rest is v p cell there x y u before wrote_ low;
      uncut = λ x y size before t least low. uncut-by mt terms setup H f i h rest is v p cell there x y size before t least low;
      unsettled = λ x y before made low. unsettled-by mt terms setup H f i h rest is v p cell there x y before made low;
    }
      where
        refused : RefusedWrite H giver.w → ⊥
        refused r = (let writer = refused-writer H giver.w r in let k = giver.well writer in never_refused writer k.0 k.1 r)

    -- where the table's slots of the file are held before a record comes
    pub whole : (OfOp H giver.w IsWriter → (value : Value) → IsFixed h v giver.w (answers.Done value) → RefusedWrite H giver.w → ⊥) → DropsKnown terms.modes h v
        → HeldSoon mt terms setup H V g f h rest is v → Pending terms.modes terms.origin H f i (length h) cell.byte
    whole never_refused d soon = record {
      w = giver.w;
      before = giver.began;
      writes = giver.writes;
      unrefused = λ r. refused r;
      unput = λ d. unput-by mt terms setup H f i h rest is v p cell there d;
      uncovered = λ x y u before wrote_ low. uncovered-by mt terms setup H f i h rest is v p cell there x y u before wrote_ low;
      uncut = λ x y size before t least low. uncut-by mt terms setup H f i h rest is v p cell there x y size before t least low;
      unsettled = λ x y before made low. unsettled-by mt terms setup H f i h rest is v p cell there x y before made low;
      unleft = λ none k before left low. unleft-by d soon none k before left low;
    }
      where
        refused : RefusedWrite H giver.w → ⊥
        refused r = (let writer = refused-writer H giver.w r in let k = giver.well writer in never_refused writer k.0 k.1 r)

-- ---- at its end

some-byte : (a b : ℕ) → Some a ≡ Some b → a ≡ b
some-byte a b e = cc

-- the newest byte of a place
record IsNewest (v : View) (f : List ℕ) (i byte : ℕ) : Type 0 where
  cell : Cell
  there : cell_at (of_file f v.shelf.back).segments i ≡ Some cell
  byte_is : cell.byte ≡ byte

newest : (v : View) (f : List ℕ) (i byte : ℕ) → newest_at (of_file f v.shelf.back).segments i ≡ Some byte → IsNewest v f i byte
newest v f i byte is = by (cell_at (of_file f v.shelf.back).segments i) refl is
  where
    by : (o : Option Cell) → cell_at (of_file f v.shelf.back).segments i ≡ o → byte_of o ≡ Some byte → IsNewest v f i byte
    by None there e = absurd (let no_way : None ≡ Some byte = e in cc)
    by (Some cell) there e = record { cell = cell; there = there; byte_is = some-byte cell.byte byte e }

pub pending-unsettled : PendingUnsettled
pending-unsettled mt terms setup h v g found roots puts_named f i byte is =
    let st = reached-watching (machine_of mt) (begins-unbegun mt) setup (Stands mt terms setup h f i) (stands-all mt terms setup h v g roots puts_named f i) h v g.reaches found in
    let n = newest v f i byte is in
    subst (IsUnsettled terms.modes terms.origin h f i (length h)) n.byte_is
    (unsettled mt terms setup h v g roots puts_named f i h [] (append-nil h) v (st.phase [] (append-nil h)) n.cell n.there (λ writer value k r. refused-not h v _ value k r))

-- Along a session that goes on: of each moment through which it came.
pub held-at : (mt : Mounted) (terms : Terms) (setup : Setup) (H : List Entry) (V : View) → GoesWith mt terms setup H V → KnowsRoot terms.origin H mt.root → PutsNamed H → (h rest : List Entry) → h ++ rest ≡ H
    → (v : View) → Reaches (machine_of mt) setup h v → v.lost ≡ false → Onward (machine_of mt) setup h v H V → (f : List ℕ) (i byte : ℕ)
    → newest_at (of_file f v.shelf.back).segments i ≡ Some byte → IsUnsettled terms.modes terms.origin H f i (length h) byte
held-at mt terms setup H V g roots puts_named h rest is v r found on f i byte at =
    let st = reached-watching (machine_of mt) (begins-unbegun mt) setup (Stands mt terms setup H f i) (stands-all mt terms setup H V g roots puts_named f i) h v r found in
    let n = newest v f i byte at in
    let p = st.phase rest is in
    subst (IsUnsettled terms.modes terms.origin H f i (length h)) n.byte_is
    (unsettled mt terms setup H V g roots puts_named f i h rest is v p n.cell n.there
    (λ writer value k refused. never-refused mt setup H V h rest is v r on _ writer value k refused))

pub pending-held : PendingHeldBack
pending-held mt terms setup h v g found roots puts_named noted f i byte is =
    let st = reached-watching (machine_of mt) (begins-unbegun mt) setup (Stands mt terms setup h f i) (stands-all mt terms setup h v g roots puts_named f i) h v g.reaches found in
    let n = newest v f i byte is in
    subst (Pending terms.modes terms.origin h f i (length h)) n.byte_is
    (whole mt terms setup h v g roots puts_named f i h [] (append-nil h) v (st.phase [] (append-nil h)) n.cell n.there (λ writer value k r. refused-not h v _ value k r) st.guards.drops
    (at-once mt terms setup h v g f h [] (append-nil h) v g.reaches found noted))

-- Along a session that goes on: of each moment through which it came.
pub held-whole : (mt : Mounted) (terms : Terms) (setup : Setup) (H : List Entry) (V : View) (g : GoesWith mt terms setup H V) → KnowsRoot terms.origin H mt.root → PutsNamed H → (h rest : List Entry) (is : h ++ rest ≡ H)
    (v : View) → Reaches (machine_of mt) setup h v → v.lost ≡ false → Onward (machine_of mt) setup h v H V → (f : List ℕ) → HeldSoon mt terms setup H V g f h rest is v → (i byte : ℕ)
    → newest_at (of_file f v.shelf.back).segments i ≡ Some byte → Pending terms.modes terms.origin H f i (length h) byte
held-whole mt terms setup H V g roots puts_named h rest is v r found on f soon i byte at =
    let st = reached-watching (machine_of mt) (begins-unbegun mt) setup (Stands mt terms setup H f i) (stands-all mt terms setup H V g roots puts_named f i) h v r found in
    let n = newest v f i byte at in
    let p = st.phase rest is in
    subst (Pending terms.modes terms.origin H f i (length h)) n.byte_is
    (whole mt terms setup H V g roots puts_named f i h rest is v p n.cell n.there
    (λ writer value k refused. never-refused mt setup H V h rest is v r on _ writer value k refused) st.guards.drops soon)
