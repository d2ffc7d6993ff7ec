-- An operation takes what came of its call, and the machine hears what the record says.
use Rattle.core_counts.proofs.Prelude.{◌⊎◌, ◌≡◌, ◌≢◌, inl, inr, ◌≤◌, ◌<◌, ◌+◌, ◌-◌, ℕ, false, List, Option, Some, None, position, Result, refl, sym, ap, subst, ◌∙◌, arith, Waiting, next_xid, made_call, waiting_at, waits_early, others_made, gone, Entry, Fault, Call, Reply, Op, SpellsCallBy, proc_of, said_of, Pending, of_file, OnFile, at_xid, landed, FilePending, fly_at, piece_under, Step, Shelf, Turn, Saving, IsReady, IsUnused, Mounted, Machine, machine_of, Fits, Purpose, Busy, Setup, is_busy, with_state, record_of, Makes, Refuses, TakesAt, View, turn_at, in_flight, Reaches, begins-unbegun, taken_one, flies_of, Known, taker-is, taker-one, Rows, same-rows, taken-rows, reached-good, written_file, Expects, expects-laws, Saves, one-call, nfs-of, CallFits, Asks, commits_of, fits-laws, After, tales, Free, unused-next, waits-late, SameUnder, Basis, basis-ready, sent-piece, Has, Wholly, takes-has, call_of, EachSound, Moves, Hears, MakesLong, Shown, ShownCall}
use Rattle.write_back.specs.Pieces.{Sent}
use Rattle.core_facts.proofs.Tales.{TaleLaws}
use Rattle.core_answers.proofs.asks.CallsAwaited.{Names}
use Rattle.core_answers.proofs.writes.PiecesCarried.{unmade-under}
use Rattle.core_answers.proofs.writes.Under.{as_xid, renamed-under}
use Rattle.core_session.proofs.saves.Taking.{sent-is}
use Rattle.core_counts.specs.coarse.Runs.{heard_as}
use Rattle.core_facts.proofs.Telling.{Did}
use Rattle.std.proofs.lemmas.Bool.{ne_eqb}
use Rattle.write_back.specs.declared.change.Change.TheVariants as by_change
use Rattle.client_shelf.specs.declared.step.Step.TheVariants as nexts
use Rattle.file_ops.specs.Saves as saves
use Rattle.op_machines.proofs.AllLaws as laws
use Rattle.client_core.specs.Steps.{Leads as LeadsTo}
use Rattle.core_facts.proofs.Flown.{Flown}
use Rattle.core_answers.specs.writes.Flights.{IsInFlight}
use Rattle.core_answers.proofs.writes.AllFits as fitting
use Rattle.core_session.proofs.syncs.Showings as showings
use Rattle.model_writes.specs.Machine as coarse
use Rattle.model_writes.specs.Story as story
use Rattle.step_pending.specs.Steps.{IsOf}
use Rattle.step_pending.proofs.Replied.{returned-leads}
use Rattle.step_pending.proofs.Shown.{flown-of, not-under}
use Rattle.core_counts.specs.coarse.Moves as machine
use Rattle.core_counts.proofs.coarse.Again as again
use Rattle.core_counts.proofs.coarse.Bearing.{none-stays, takes-by}
use Rattle.core_counts.proofs.coarse.Calls.{NoWrite, commit-or, shown-ended}
use Rattle.core_counts.proofs.coarse.Hearing.{Heard, same-led, AtCommit, commit-fates, Renewed, Or, AtWrite, write-fates, wrote-led}
use Rattle.core_counts.proofs.coarse.Led.{Led}
use Rattle.core_counts.proofs.coarse.Making.{Final, same-stays, idle-unused, made-calls, file-final, finish, left-idle}
use Rattle.core_counts.proofs.coarse.Near.{near-has}
use Rattle.core_counts.proofs.coarse.Onward.{Ahead}
use Rattle.core_counts.proofs.coarse.OfSaves.{IsOfSave, never-both, of-machine}
use Rattle.core_counts.proofs.coarse.Views.{called, ended, renewed-renews}

-- ---- what the operation of a call expects

any-did : (h : List Entry) (x : ℕ) (op : Op) (next : Step) (new : Machine) (after_ : Shelf)
    → Did (λ g y o c. Unit {0}) (λ g s. Unit {0}) (λ g y o s. Unit {0}) h x op next new after_
any-did h x op (nexts.Send call) new after_ = record { shelf = tt; asks = tt; then_ = tt }
any-did h x op nexts.Wait new after_ = record { shelf = tt; asks = tt; then_ = tt }
any-did h x op (nexts.Done answer) new after_ = record { shelf = tt; asks = tt; then_ = tt }

own-tales : (m : Mounted) (setup : Setup) → TaleLaws (machine_of m) setup Expects (λ g y o c. Unit {0}) (λ g s. Unit {0}) (λ g y o s. Unit {0})
own-tales m setup = record {
  fresh = λ h v up fresh. tt;
  starts = λ h lane line op wsize turn old next new after_ i s. any-did _ _ op next new after_;
  resumes = λ h x op machine_ wsize turn old next new after_ i s r. any-did h x op next new after_;
  takes = λ h x op machine_ wsize sent turn came old next new after_ others i s one told t. any-did h x op next new after_;
  still = λ h e shelf i. tt;
  waits = λ h e x op call w. tt;
  grows = λ h e x op state quiet s. tt;
  lost = λ h x op l. tt;
}

none-file : {X : Type 0} → (f : List ℕ) → None ≡ Some f → X
none-file f is = absurd (let no_way : None ≡ Some f = is in cc)

some-file : (f g : List ℕ) → Some f ≡ Some g → f ≡ g
some-file f g e = cc

some-piece : (p q : Sent) → Some p ≡ Some q → p ≡ q
some-piece p q e = cc

-- a WRITE of two files is one of the same file
one-file : (f g : List ℕ) (p q : Sent) → saves.write_of f p ≡ saves.write_of g q → f ≡ g
one-file f g p q is = some-file f g (ap written_file is)

-- ---- as it takes what came

module _ (m : Mounted) (setup : Setup) (h : List Entry) (old : View) (r : Reaches (machine_of m) setup h old) (found : old.lost ≡ false) (k : Known setup h old) (basis : Basis setup h old)
    (wholly : Wholly setup h old) (c : coarse.View) (shown : Shown setup old c) (rec : List ℕ) (x : ℕ) (call : Waiting Purpose) (at : ℕ) (waits : waiting_at x old.calls.calls ≡ Some call)
    (place : position (is_busy call.purpose.lane) old.lanes ≡ Some at) (new : View) (t : TakesAt (taken_one old x) at call.purpose.sent (said_of call.purpose.proc rec) new) (flown : Flown new)
    (later : List Entry) (ahead : Ahead (machine_of m) setup later new) where
  abbrev came : Result Reply Fault
  came = said_of call.purpose.proc rec

  abbrev sent : Turn
  sent = call.purpose.sent

  abbrev turn : Turn
  turn = turn_at (taken_one old x)

  abbrev v : View
  v = with_state (taken_one old x) at t.number (Busy t.after) t.shelf

  rows : Rows setup h v
  rows = same-rows setup h (taken_one old x) v refl (taken-rows setup h old x k.rows)

  same-lane : call.purpose.lane ≡ t.number
  same-lane = sym (taker-is setup h old x call at k waits place t.number t.machine t.there)

  own : sent.xid ≡ x
  own = sent-is m setup h old r found x call waits at t.number t.machine t.there same-lane wholly

  -- the call that waits
  record Waits : Type 0 where
    a : Call
    spells : SpellsCallBy setup.cred x a call.bytes
    is : c.wait x ≡ Some (call_of a)

  it : Waits
  it =
      let w : ShownCall setup x (Some call) (c.wait x) = subst (λ (o : Option (Waiting Purpose)). ShownCall setup x o (c.wait x)) waits (shown.calls.calls x) in
      record { a = w.0; spells = w.1; is = w.2 }

  -- a call that the record spells is that one
  one : (b : Call) → SpellsCallBy setup.cred x b call.bytes → it.a ≡ b
  one b spells =
      let made = (k.rows.rows x call waits).made in
      sym (one-call x x made.asked it.a call.bytes (nfs-of made.asked made.nfs) made.spells.spells it.spells.spells)
      ∙ one-call x x made.asked b call.bytes (nfs-of made.asked made.nfs) made.spells.spells spells.spells

  fits : CallFits t.machine it.a
  fits =
      let good = reached-good (machine_of m) (begins-unbegun m) setup CallFits fits-laws (λ g y o c. Unit {0}) (λ g s. Unit {0}) (λ g y o s. Unit {0}) (tales m setup) h old r in
      let e = (good.each at (record { number = t.number; state = Busy t.machine }) t.there).0 x call waits same-lane in
      subst (CallFits t.machine) (sym (one e.made.asked e.made.spells)) e.expects

  names : Names t.machine it.a
  names =
      let good = reached-good (machine_of m) (begins-unbegun m) setup Expects expects-laws (λ g y o c. Unit {0}) (λ g s. Unit {0}) (λ g y o s. Unit {0}) (own-tales m setup) h old r in
      let e = (good.each at (record { number = t.number; state = Busy t.machine }) t.there).0 x call waits same-lane in
      subst (Names t.machine) (sym (one e.made.asked e.made.spells)) e.expects.1

  -- ---- what is known of the step

  ready : IsReady (next_xid old.calls) old.shelf.seq old.shelf.back
  ready = basis-ready setup h old k.rows basis

  free : IsUnused (next_xid old.calls) old.shelf.back
  free = unused-next setup h old k.rows basis.flying.flown

  fit : Fits t.machine
  fit = basis.fits at (record { number = t.number; state = Busy t.machine }) t.there

  single : in_flight t.machine ≡ (in_flight t.machine - 1) + 1
  single = taker-one setup h old x call at k waits place t.number t.machine t.there

  asks : Asks t.next t.after
  asks = fitting.all-takes old.wsize turn sent came t.machine old.shelf t.next t.after t.shelf (in_flight t.machine - 1) single t.takes

  ready-after : IsReady (next_xid v.calls + 1) v.shelf.seq v.shelf.back
  ready-after = laws.takes-ready old.wsize t.machine sent turn came old.shelf t.next t.after t.shelf t.takes ready

  has : After (Free (next_xid v.calls)) (Has (next_xid v.calls)) t.next v.shelf.back
  has = takes-has old.wsize turn sent came t.machine old.shelf t.next t.after t.shelf (in_flight t.machine - 1) single
      (sent-piece m setup h old r found x call waits at t.number t.machine t.there same-lane wholly) t.takes free

  early : x < next_xid old.calls
  early = waits_early old.calls.cred old.calls.first_xid (next_xid old.calls) x old.calls.calls call k.rows.sound.calls.each waits

  abbrev Hear : coarse.View → Type 0
  Hear b = Heard setup old.calls k.rows.sound.calls.each c shown.calls x (call_of it.a) it.is came old.shelf.back shown.places basis.sound old.wsize (next_xid old.calls) b

  -- the WRITE is made once more
  abbrev Renewing : coarse.View → coarse.View → Type 0
  Renewing b d = coarse.Renews c b x (heard_as (call_of it.a) came) × (d ≡ b)

  abbrev Ends : Type 0
  Ends = Final setup Hear Renewing v new

  -- ---- it waits for no WRITE

  plainly : flies_of t.machine ≡ None → Ends
  plainly none =
      finish setup h v rows Hear Renewing at t.number t.after t.next new asks ready-after flown has t.leads m later ahead (λ b. ⊥) (λ c_ b. ⊥) turn refl (none-stays old.wsize turn) (λ never. never)
      (λ c_ is never_ sound. absurd never_)
      (takes-by setup v.calls Hear old.wsize turn (λ b. ⊥) (λ c_ b. ⊥) (none-stays old.wsize turn) sent came
      (AtCommit setup old.calls k.rows.sound.calls.each c shown.calls x (call_of it.a) it.is came old.shelf.back shown.places basis.sound old.wsize (next_xid old.calls) sent turn own refl)
      (commit-fates setup old.calls k.rows.sound.calls.each c shown.calls x (call_of it.a) it.is came old.shelf.back shown.places basis.sound old.wsize (next_xid old.calls) sent turn own refl)
      t.machine old.shelf t.next t.after t.shelf t.takes (near-has (old.shelf.seq + 1) old.wsize sent turn came t.machine old.shelf t.next t.after t.shelf t.takes fit)
      (of-machine
      (λ s. AtCommit setup old.calls k.rows.sound.calls.each c shown.calls x (call_of it.a) it.is came old.shelf.back shown.places basis.sound old.wsize (next_xid old.calls) sent turn own refl s old.shelf.back)
      t.machine (λ s of. (refl, λ sends. none-file s.file (sym none ∙ of.sends sends), λ idle. at-commit s (of.commits_ idle))))
      (inr (same-led setup old.calls k.rows.sound.calls.each c shown.calls x (call_of it.a) it.is came old.shelf.back shown.places basis.sound old.wsize (next_xid old.calls) (commit-or it.a no-write)))
      basis.sound free basis.newest)
    where
      no-write : NoWrite it.a
      no-write f is = none-file f (sym none ∙ fits.writes f is)

      at-commit : (s : Saving) → commits_of t.machine ≡ Some s.file → call_of it.a ≡ story.commit s.file
      at-commit s is = by (showings.machine-of s.file it.a t.machine is names)
        where
          by : Saves s.file it.a → call_of it.a ≡ story.commit s.file
          by (inl w) = absurd (no-write s.file (ap written_file w.1))
          by (inr same) = ap call_of same

  -- ---- it waits for a WRITE of a file

  module _ (f : List ℕ) (flies : flies_of t.machine ≡ Some f) where
    piece-of : IsInFlight x f it.a old.shelf.back
    piece-of =
        let whole = wholly.all x call waits in
        let same : it.a ≡ whole.call = one whole.call whole.spells in
        subst (λ (b : Call). IsInFlight x f b old.shelf.back) (sym same) (whole.has f (ap written_file (sym same) ∙ fits.sends f flies))

    abbrev piece : Sent
    piece = piece-of.piece

    alone : IsOf x f old.shelf.back
    alone other apart = by (piece_under x (of_file other old.shelf.back).pieces) refl
      where
        by : (o : Option Sent) → piece_under x (of_file other old.shelf.back).pieces ≡ o → o ≡ None
        by None is = refl
        by (Some p) is =
            let spelled = basis.flying.all x call waits in
            let carried : it.a ≡ saves.write_of other p = one spelled.call spelled.spells ∙ spelled.carries other p is in
            absurd (apart (one-file other f p piece (sym carried ∙ piece-of.is)))

    is-write : call_of it.a ≡ story.write f piece.offset piece.bytes piece.how
    is-write = ap call_of piece-of.is

    -- the reply was taken: nothing is in flight under its xid
    waits-no-more : waiting_at x v.calls.calls ≡ None
    waits-no-more = gone old.calls.cred old.calls.first_xid (next_xid old.calls) x old.calls.calls k.rows.sound.calls.each

    late : 1 ≤ x
    late =
        let low = waits-late old.calls.cred old.calls.first_xid (next_xid old.calls) x old.calls.calls call k.rows.sound.calls.each waits in
        let first = k.rows.sound.calls.first in
        omega (arith, low, first)

    landed-so : (next : Step) → LeadsTo v at t.number t.after next new → IsUnused x v.shelf.back
    landed-so (nexts.Send c) (inl mk) =
        let none : waiting_at x new.calls.calls ≡ None =
        ap (λ (w : View). waiting_at x w.calls.calls) mk.is
        ∙ others_made x (next_xid v.calls) v.calls.calls (made_call (record_of v c mk.args) (record { lane = t.number; proc = proc_of c; sent = turn_at v })) (ne_eqb x (next_xid v.calls) (λ same. absurd (let low = early in omega (arith, low, same))))
        ∙ waits-no-more in
        subst (λ (w : View). IsUnused x w.shelf.back) mk.is (idle-unused new x flown none)
    landed-so (nexts.Send c) (inr u) =
        let none : waiting_at x new.calls.calls ≡ None = ap (λ (w : View). waiting_at x w.calls.calls) u.is ∙ waits-no-more in
        let free_ : IsUnused x u.left.back = subst (λ (w : View). IsUnused x w.shelf.back) u.is (idle-unused new x flown none) in
        λ g. sym (unmade-under m setup v t.after u.fault u.next u.after u.left u.takes x (λ same. absurd (let low = early in omega (arith, low, same))) (λ same. absurd (let low = late in omega (arith, low, same))) g) ∙ free_ g
    landed-so nexts.Wait is =
        subst (λ (w : View). IsUnused x w.shelf.back) is (idle-unused new x flown (ap (λ (w : View). waiting_at x w.calls.calls) is ∙ waits-no-more))
    landed-so (nexts.Done answer) is =
        subst (λ (w : View). IsUnused x w.shelf.back) is (idle-unused new x flown (ap (λ (w : View). waiting_at x w.calls.calls) is ∙ waits-no-more))

    never : SameUnder x old.shelf.back v.shelf.back → ⊥
    never same = let no_way : None ≡ Some piece = sym (landed-so t.next t.leads f) ∙ same f ∙ piece-of.there in absurd cc

    abbrev Once : Call → Pending → Type 0
    Once c_ b = Or setup old.calls k.rows.sound.calls.each c shown.calls x (call_of it.a) it.is came old.shelf.back shown.places basis.sound old.wsize (next_xid old.calls) f piece piece-of.there is-write
        alone c_ b

    abbrev Anew : Call → Pending → Type 0
    Anew c_ b = Renewed setup old.calls k.rows.sound.calls.each c shown.calls x (call_of it.a) it.is came old.shelf.back shown.places basis.sound old.wsize (next_xid old.calls) f piece piece-of.there
        is-write alone c_ b

    -- ---- it goes out once more

    module _ (c_ : Call) (w : Anew c_ v.shelf.back) (sound : EachSound v.shelf.back) where
      again-call : call_of c_ ≡ call_of it.a
      again-call = ap call_of (w.writes ∙ sym piece-of.is)

      apart_ : x ≢ next_xid old.calls
      apart_ same = absurd (let low = early in omega (arith, low, same))

      renewed-made : Makes v t.number c_ new → Ends
      renewed-made mk =
          let b : coarse.View = called (ended c x c.rest c.fly) (next_xid old.calls) (call_of c_) w.leads.rest w.leads.fly in
          let renames = w.leads.steps b (λ i. refl) (λ i. refl) in
          let renews : coarse.Renews c b x (heard_as (call_of it.a) came) =
          renewed-renews c x (next_xid old.calls) (call_of c_) (heard_as (call_of it.a) came) w.leads.rest w.leads.fly (it.is ∙ ap Some (sym again-call)) (sym shown.calls.next) apart_
          renames.rest renames.fly in
          subst Ends_ (sym mk.is) (record {
            b = b;
            from = inr renews;
            long = inl (renews, refl);
            size = refl;
            d = b;
            moves = machine.stays b;
            shown = record {
              places = w.leads.shows b (λ i. refl) (λ i. refl);
              calls = made-calls setup h v rows Hear Renewing t.number c_ new mk (ended c x c.rest c.fly) (shown-ended setup old.calls k.rows.sound.calls.each c shown.calls x c.rest c.fly) (call_of c_) w.leads.rest
                  w.leads.fly refl;
            };
          })
        where
          Ends_ : View → Type 0
          Ends_ n = Final setup Hear Renewing v n

      -- it can't be made
      under : piece_under (next_xid old.calls) (of_file f v.shelf.back).pieces ≡ Some (as_xid (next_xid old.calls) piece)
      under =
          ap (λ (of : FilePending). piece_under (next_xid old.calls) of.pieces) w.on.here
          ∙ renamed-under x (next_xid old.calls) (of_file f old.shelf.back).pieces piece (free f) piece-of.there

      alone-anew : IsOf (next_xid old.calls) f v.shelf.back
      alone-anew other apart = ap (λ (of : FilePending). piece_under (next_xid old.calls) of.pieces) (w.on.others other apart) ∙ free other

      fresh : (i : story.Spot) (g : coarse.Flight) → c.fly i ≡ Some g → g.xid ≢ next_xid old.calls
      fresh i g is =
          let fl = flown-of (fly_at (of_file i.file old.shelf.back) i.at) g (sym (shown.places.fly i) ∙ is) in
          subst (λ (z : coarse.Flight). z.xid ≢ next_xid old.calls) fl.2
          (not-under (of_file i.file old.shelf.back).pieces (next_xid old.calls) i.at fl.0 (basis.sound i.file).xids (free i.file) fl.1)

      renewed-back : (between : Pending) → OnFile v.shelf.back between f (at_xid (landed by_change.Return) (next_xid v.calls) (of_file f v.shelf.back)) → Led setup v.calls Hear 0 between
      renewed-back between on =
          wrote-led setup old.calls k.rows.sound.calls.each c shown.calls x (call_of it.a) it.is came old.shelf.back shown.places basis.sound old.wsize 0 f piece piece-of.there is-write alone between
          (heard_as (call_of it.a) came) refl
          (again.returned-leads x (next_xid old.calls) f piece.offset piece.bytes piece.how (heard_as (call_of it.a) came) v.shelf.back between c fresh w.leads
          (returned-leads v.shelf.back between f (next_xid old.calls) (as_xid (next_xid old.calls) piece) piece.how story.denied sound alone-anew under on
          (record c { rest = w.leads.rest; fly = w.leads.fly }) (w.leads.shows (record c { rest = w.leads.rest; fly = w.leads.fly }) (λ i. refl) (λ i. refl)))
          f piece.offset piece.bytes piece.how)

      renewed-unmade : t.next ≡ nexts.Send c_ → Refuses v at t.number t.after new → Ends
      renewed-unmade is u =
          file-final setup h v rows Hear Renewing at t.number t.after new u sound ready-after f (as_xid (next_xid old.calls) piece) under
          (λ g flies_. sym (some-file f g (ap written_file (sym w.writes) ∙ (subst (λ (n : Step). Asks n t.after) is asks).sends g flies_))) renewed-back
          (left-idle setup h v rows Hear Renewing at t.number t.after t.next new asks ready-after flown has t.leads m later ahead u)

      renewed-ends : (next : Step) → t.next ≡ next → next ≡ nexts.Send c_ → LeadsTo v at t.number t.after next new → Ends
      renewed-ends (nexts.Send d) is same leads = by (subst (λ (n : Step). LeadsTo v at t.number t.after n new) same leads)
        where
          by : LeadsTo v at t.number t.after (nexts.Send c_) new → Ends
          by (inl mk) = renewed-made mk
          by (inr u) = renewed-unmade (is ∙ same) u
      renewed-ends nexts.Wait is same leads = absurd (cc)
      renewed-ends (nexts.Done answer) is same leads = absurd (cc)

    writes : Ends
    writes =
        finish setup h v rows Hear Renewing at t.number t.after t.next new asks ready-after flown has t.leads m later ahead (SameUnder x old.shelf.back) Once turn refl
        (same-stays x old.shelf.back Once (λ c_ b j. inl j) old.wsize turn (λ same. absurd (let low = early in omega (arith, low, same)))) never
        (λ c_ is w sound. otherwise c_ is w sound)
        (takes-by setup v.calls Hear old.wsize turn (SameUnder x old.shelf.back) Once
        (same-stays x old.shelf.back Once (λ c_ b j. inl j) old.wsize turn (λ same. absurd (let low = early in omega (arith, low, same)))) sent came
        (AtWrite setup old.calls k.rows.sound.calls.each c shown.calls x (call_of it.a) it.is came old.shelf.back shown.places basis.sound old.wsize (next_xid old.calls) f piece piece-of.there is-write alone
        sent turn own refl)
        (write-fates setup old.calls k.rows.sound.calls.each c shown.calls x (call_of it.a) it.is came old.shelf.back shown.places basis.sound old.wsize (next_xid old.calls) f piece piece-of.there is-write alone
        sent turn own refl)
        t.machine old.shelf t.next t.after t.shelf t.takes (near-has (old.shelf.seq + 1) old.wsize sent turn came t.machine old.shelf t.next t.after t.shelf t.takes fit)
        (of-machine
        (λ s. AtWrite setup old.calls k.rows.sound.calls.each c shown.calls x (call_of it.a) it.is came old.shelf.back shown.places basis.sound old.wsize (next_xid old.calls) f piece piece-of.there is-write
        alone sent turn own refl s old.shelf.back)
        t.machine (λ s of. (refl, λ sends. some-file s.file f (sym (of.sends sends) ∙ flies), λ idle. both-not s of idle)))
        (inl (λ g. refl)) basis.sound free basis.newest)
      where
        both-not : (s : Saving) → IsOfSave (flies_of t.machine) (commits_of t.machine) s → saves.is_sending s.phase ≡ false → ⊥
        both-not s of idle = never-both t.machine f s.file flies (of.commits_ idle)

        otherwise : (c_ : Call) → t.next ≡ nexts.Send c_ → Once c_ v.shelf.back → EachSound v.shelf.back → Ends
        otherwise c_ is (inl j) sound = absurd (never j)
        otherwise c_ is (inr w) sound = renewed-ends c_ w sound t.next refl is t.leads

  final : Ends
  final = by (flies_of t.machine) refl
    where
      by : (o : Option (List ℕ)) → flies_of t.machine ≡ o → Ends
      by None is = plainly is
      by (Some f) is = writes f is

  -- the machine has heard what the record says, and moves lead to a view that shows the core
  pub record HeardSo : Type 0 where
    pub asked : story.Call
    pub waited : c.wait x ≡ Some asked
    pub b : coarse.View
    pub hears : Hears c x (heard_as asked (said_of call.purpose.proc rec)) b
    pub d : coarse.View
    pub moves : Moves b d
    pub shows : Shown setup new d
    pub long : coarse.Renews c b x (heard_as asked (said_of call.purpose.proc rec)) × (d ≡ b) ⊎ MakesLong setup (next_xid old.calls) new
    pub size : new.wsize ≡ old.wsize

  pub heard-so : HeardSo
  heard-so = record { asked = call_of it.a; waited = it.is; b = final.b; hears = final.from; d = final.d; moves = final.moves; shows = final.shown; long = final.long; size = final.size }
