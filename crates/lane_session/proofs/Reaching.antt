-- The core of a session goes on with the history, at each part of the session's work.
use Rattle.std.proofs.Common.{◌≡◌, ◌<◌, ◌+◌, ◌^◌, ◌⊎◌, inl, inr, ℕ, suc, List, [], ◌∷◌, ◌++◌, length, position, Bool, true, false, Option, Some, None, option_map, Result, Ok, Err, refl, sym, ap, subst, ◌∙◌, append_assoc}
use Rattle.rpc_retry.specs.Waiting.{first_due, sent, sent_call}
use Rattle.rpc_retry.specs.declared.waiting.Waiting.{Waiting}
use Rattle.rpc_retry.specs.Held.{Held, next_xid}
use Rattle.rpc_retry.specs.Sound.{IsSound}
use Rattle.rpc_retry.proofs.Dues.{if_true, if_false}
use Rattle.rpc_retry.proofs.Lookups.{at_sent}
use Rattle.world_model.specs.declared.answer.Answer.{Answer}
use Rattle.world_model.specs.declared.entry.Entry.{Entry}
use Rattle.world_model.specs.declared.entry.Entry.TheVariants.{Began, Answered, Dialed, Sent, Executed, Foreign, Flushed, Reboot, Delivered, Failed, Clock}
use Rattle.world_model.specs.declared.op.Op.{Op}
use Rattle.world_model.specs.History.{History}
use Rattle.world_model.specs.declared.tally.Tally.{Tally}
use Rattle.world_model.specs.Counts.{tally_of}
use Rattle.world_model.specs.Lost.{Loses, dropped as dropped_run}
use Rattle.world_model.specs.Messages.{HasXid}
use Rattle.world_model.specs.Rows.{DropRun, most_dropped, begins as no_drop}
use Rattle.world_model.specs.Told.{Adds, Tells, Relates}
use Rattle.world_model.specs.Entries.{ours}
use Rattle.world_model.specs.Waiting.{Waits}
use Rattle.world_model.proofs.Histories.{IsQuiet, quiet_by, quietly, steps_on, steps_on_twice}
use Rattle.link_dials.specs.Sendings.{LatestIs}
use Rattle.session_words.specs.declared.settings.Settings.{Settings}
use Rattle.op_machines.specs.Begun.{machine_of}
use Rattle.op_machines.specs.Fits.{Fits}
use Rattle.op_machines.specs.declared.begun.Mounted.{Mounted}
use Rattle.op_machines.specs.declared.machine.Machine.{Machine}
use Rattle.client_core.specs.declared.lane.Lane.{Lane}
use Rattle.client_core.specs.declared.lane.Purpose.{Purpose}
use Rattle.client_core.specs.declared.setup.Setup.{Setup}
use Rattle.client_core.specs.Lanes.{is_over}
use Rattle.client_core.specs.Numbers.{IsIdle}
use Rattle.client_core.specs.Steps.{Begins, SendsIf, SendsBy, call_sent, AnswersBy, WereSent, lost}
use Rattle.client_core.specs.View.{View}
use Rattle.core_facts.proofs.Cases.{sent_now}
use Rattle.core_facts.proofs.Rows.{reached-rows, under}
use Rattle.core_facts.proofs.Sound.{reached-sound}
use Rattle.core_facts.specs.Reaches.{MaySetUp, MayHear, IsOpenLine, StepsTo, last_reading}
use Rattle.core_facts.specs.Notes.{Notes, ComesAfter, NoneReady, notes_fresh}
use Rattle.lane_session.specs.declared.counts.Counts.{Counts}
use Rattle.lane_session.specs.declared.running.Session.{Session}
use Rattle.lane_session.specs.Bonds.{Start, SentSince, TakesAll, Bond, Bonded, HasCore, CoreGoes, CoreWent, CoreBy, steps, Redials, RedialsBy, IsOpened, EndsWith}
use Rattle.lane_session.specs.LaneMarks.{IsRunning}
use Rattle.lane_session.specs.Resending.{AllLate, DueAgain, SendsAgain}
use Rattle.lane_session.specs.Running.{IsFreshFor, NoneOver, Fails, Takes, TakesBy, given_up, mounted_by}
use Rattle.lane_session.proofs.Bonding.{since-none, reached, bond-step, bond-loses, bond-taken, bond-dropped}
use Rattle.lane_session.proofs.Cores.{HeardSo, heard_none, heard_one, heard-so, sends-so}
use Rattle.lane_session.proofs.LostOnce.{may-stay, fresh-only, unmarked-stays}
use Rattle.lane_session.specs.Tallies.{with_attempt}
use Rattle.lane_session.proofs.LaneNumbers.{none-ready, may-hear}
use Rattle.lane_session.proofs.Redialing.{still_by, still-ours}
use Rattle.lane_session.proofs.Resending.{Excused, latest-now, latest-quiet, again-step, again-fails, again-dials, again-lost, resends-none, heard-excused, sent-excused}
use Rattle.lane_session.proofs.Taking.{takes-none, takes-on, takes-still, takes-begins, takes-earlier, takes-read}
use Rattle.lane_session.proofs.Tallying.{tallied-on, tallied-sends}

-- ---- entries that leave the core as it is

still-step : (machine : ℕ → Op → Machine) (h : List Entry) (v : View) (e : Entry) → steps (e ∷ []) ≡ [] → StepsTo machine h v e v
still-step machine h v (Began l line op) q = absurd cc
still-step machine h v (Answered l line a) q = absurd cc
still-step machine h v (Dialed port) q = refl
still-step machine h v (Sent bytes) q = absurd cc
still-step machine h v (Executed xid call reply) q = refl
still-step machine h v (Foreign call reply) q = refl
still-step machine h v (Flushed file from len) q = refl
still-step machine h v (Reboot verf) q = refl
still-step machine h v (Delivered bytes) q = absurd cc
still-step machine h v Failed q = inr refl
still-step machine h v (Clock ms) q = absurd cc

still-record : (e : Entry) (bytes : List ℕ) → steps (e ∷ []) ≡ [] → e ≡ Delivered bytes → ⊥
still-record e bytes q is = let here : Delivered bytes ∷ [] ≡ [] = subst (λ (d : Entry). steps (d ∷ []) ≡ []) is q in cc

still-sent : (e : Entry) (bytes : List ℕ) → steps (e ∷ []) ≡ [] → e ≡ Sent bytes → ⊥
still-sent e bytes q is = let here : Sent bytes ∷ [] ≡ [] = subst (λ (d : Entry). steps (d ∷ []) ≡ []) is q in cc

still-before : (e : Entry) → steps (e ∷ []) ≡ [] → ComesAfter e → ⊥
still-before (Began l line op) q comes = comes
still-before (Answered l line a) q comes = comes
still-before (Dialed port) q comes = comes
still-before (Sent bytes) q comes = absurd cc
still-before (Executed xid call reply) q comes = comes
still-before (Foreign call reply) q comes = comes
still-before (Flushed file from len) q comes = comes
still-before (Reboot verf) q comes = comes
still-before (Delivered bytes) q comes = absurd cc
still-before Failed q comes = comes
still-before (Clock ms) q comes = comes

tallied-still : (h more : List Entry) (t : Tally) → steps more ≡ [] → t ≡ tally_of h → t ≡ tally_of (h ++ more)
tallied-still h more t q was = still_by (λ (k : List Entry). t ≡ tally_of k) (λ k e still is. tallied-on k e t (λ bytes of. still-sent e bytes still of) is) h more q was

-- the call that the core lent is counted
pub record SendsCounted (old : Session) (lent : Waiting Purpose) (new : Session) : Type 0 where
  pub lends : Some lent ≡ call_sent old.core
  pub tally : new.counts.tally ≡ with_attempt lent.attempts lent.purpose.proc old.counts.tally

module _ (m : Mounted) (setup : Setup) (start : Start) where
  -- one entry that leaves the core as it is
  bond-one : (h : List Entry) (e : Entry) (v : View) (n : ℕ) → steps (e ∷ []) ≡ [] → Bond m setup start.from h v n → Bond m setup start.from (h ++ e ∷ []) v n
  bond-one h e v n still b =
      bond-step m setup start.from h v e v n (λ comes. absurd (still-before e still comes)) (may-stay e v) (still-step (machine_of m) h v e still) (λ bytes is. still-record e bytes still is) b

  bond-still : (h more : List Entry) (v : View) (n : ℕ) → steps more ≡ [] → Bond m setup start.from h v n → Bond m setup start.from (h ++ more) v n
  bond-still h more v n q b =
      still_by (λ (k : List Entry). Bond m setup start.from k v n) (λ k e still c. bond-one k e v n still c) h more q b

  -- what an entry that is no failure leaves of the calls that are sent again
  again-on : (h : List Entry) (old : View) (e : Entry) (new : View) (n : ℕ) → StepsTo (machine_of m) h old e new → (e ≡ Failed → ⊥) → Bond m setup start.from h old n → SendsAgain h old
      → SendsAgain (h ++ e ∷ []) new
  again-on h old e new n t other b a = again-step (machine_of m) setup h old e new t other (reached-sound (machine_of m) setup h old (reached m setup start.from h old n b)) a

  quiet-failed : (e : Entry) → ours (e ∷ []) ≡ [] → e ≡ Failed → ⊥
  quiet-failed e q is = let here : Failed ∷ [] ≡ [] = subst (λ (d : Entry). ours (d ∷ []) ≡ []) is q in absurd cc

  pub bonded-quiet : (s : Session) → IsQuiet (λ (h : List Entry). Bonded m setup start h s)
  bonded-quiet s = quiet_by (λ (h : List Entry). Bonded m setup start h s) (λ h e q b. record {
    mounted = b.mounted;
    bond = bond-one h e s.core s.dropped (still-ours (e ∷ []) [] q refl) b.bond;
    again = again-on h s.core e s.core s.dropped (still-step (machine_of m) h s.core e (still-ours (e ∷ []) [] q refl)) (quiet-failed e q) b.bond b.again;
    takes = takes-still start.from h (e ∷ []) (still-ours (e ∷ []) [] q refl) b.takes;
    tallied = λ is. tallied-still h (e ∷ []) s.counts.tally (still-ours (e ∷ []) [] q refl) (b.tallied is);
  })

  -- dials were made, after a failure
  pub bonded-redials : (h k : List Entry) (s : Session) → Redials h k → DueAgain s.core → Bonded m setup start h s → Bonded m setup start k s
  bonded-redials h k s r due b = record {
    mounted = b.mounted;
    bond = subst (λ (t : List Entry). Bond m setup start.from t s.core s.dropped) (sym r.is) (bond-still h r.more s.core s.dropped r.still b.bond);
    again = again-dials h k r.more s.core r.is r.each due b.again;
    takes = subst (TakesAll start.from) (sym r.is) (takes-still start.from h r.more r.still b.takes);
    tallied = λ is. subst (λ (t : List Entry). s.counts.tally ≡ tally_of t) (sym r.is) (tallied-still h r.more s.counts.tally r.still (b.tallied is));
  }

  pub core-of : (h : List Entry) (s : Session) → Bonded m setup start h s → HasCore m setup start.from h
  core-of h s b = record { core = s.core; notes = b.bond.notes; since = b.bond.since; takes = takes-earlier start.from h b.takes; stays = b.bond.stays; resends = b.again.resends }

  -- the session's other fields don't count
  bonded-like : (h : List Entry) (s t : Session) → t.mounted ≡ s.mounted → t.core ≡ s.core → t.dropped ≡ s.dropped → t.counts ≡ s.counts → Bonded m setup start h s → Bonded m setup start h t
  bonded-like h s t mounted core count tally b = record {
    mounted = mounted ∙ b.mounted;
    bond = subst (λ (v : View). Bond m setup start.from h v t.dropped) (sym core) (subst (λ (n : ℕ). Bond m setup start.from h s.core n) (sym count) b.bond);
    again = subst (SendsAgain h) (sym core) b.again;
    takes = b.takes;
    tallied = λ is. ap (λ (c : Counts). c.tally) tally ∙ b.tallied is;
  }

  pub bonded-given-up : (h : List Entry) (s : Session) → NoneReady s.core → Loses h (length h) → Bonded m setup start h s → Bonded m setup start h (given_up s)
  bonded-given-up h s none shown b = record {
    mounted = b.mounted;
    bond = bond-loses m setup start.from h s.core s.dropped none shown b.bond;
    again = again-lost h s.core b.again;
    takes = b.takes;
    tallied = b.tallied;
  }

  -- where each lane has told its answer, none is ready
  bonded-none : (h : List Entry) (s : Session) → NoneOver s.core → Bonded m setup start h s → NoneReady s.core
  bonded-none h s told b = none-ready (machine_of m) setup h s.core (reached m setup start.from h s.core s.dropped b.bond) told

  -- ---- one call of the link

  -- the attempts that run have ended
  pub bonded-fails : (h : List Entry) (old new : Session) → NoneOver old.core → Fails old new → ((xid : ℕ) → Waits h xid (length h) → Excused h xid) → Bonded m setup start h old
      → Bonded m setup start (h ++ Failed ∷ []) new
  bonded-fails h old new told f excused b =
      subst (Bonded m setup start (h ++ Failed ∷ [])) (sym f.is) (record {
        mounted = b.mounted;
        bond = bond-step m setup start.from h old.core Failed new.core old.dropped (λ comes. absurd comes) (inr (bonded-none h old told b)) (inl (f.result, f.core)) (λ bytes e. absurd cc) b.bond;
        again = again-fails h old.core f.result new.core f.core excused b.again;
        takes = takes-on start.from h Failed (λ ms e. absurd cc) b.takes;
        tallied = λ is. tallied-on h Failed old.counts.tally (λ bytes e. absurd cc) (b.tallied is);
      })

  -- a record came
  pub bonded-takes : (h : List Entry) (old new : Session) (rec : List ℕ) → WereSent old.core.calls.calls → NoneOver old.core → Takes old rec new → Bonded m setup start h old
      → Bonded m setup start (h ++ Delivered rec ∷ []) new
  bonded-takes h old new rec all_sent told t b = by t.result refl t.is
    where
      k : List Entry
      k = h ++ Delivered rec ∷ []

      may : MayHear old.core
      may = may-hear (machine_of m) setup h old.core (reached m setup start.from h old.core old.dropped b.bond) all_sent told

      -- a record that is dropped leaves the core as it is
      none_so : t.result ≡ false → NoneReady t.core
      none_so is = by_heard is (heard-so old.core rec t.result t.core (reached-sound (machine_of m) setup h old.core (reached m setup start.from h old.core old.dropped b.bond)).calls.within t.hears)
        where
          by_heard : t.result ≡ false → HeardSo old.core t.result t.core → NoneReady t.core
          by_heard is (heard_none not same) = subst NoneReady (sym same) (bonded-none h old told b)
          by_heard is (heard_one took k one) = absurd (let no_way : true ≡ false = sym took ∙ is in cc)

      dropped_so : t.result ≡ false → Bond m setup start.from k t.core (old.dropped + 1)
      dropped_so is = bond-dropped m setup start.from h old.core rec t.result t.core old.dropped may t.hears is b.bond

      takes_so : TakesAll start.from k
      takes_so = takes-on start.from h (Delivered rec) (λ ms e. absurd cc) b.takes

      again_so : SendsAgain k t.core
      again_so = again-on h old.core (Delivered rec) t.core old.dropped (record { may = may; result = t.result; hears = t.hears }) (λ is. absurd cc) b.bond b.again

      tallied_so : start.counted ≡ true → old.counts.tally ≡ tally_of k
      tallied_so so = tallied-on h (Delivered rec) old.counts.tally (λ bytes e. absurd cc) (b.tallied so)

      by : (r : Bool) → t.result ≡ r → TakesBy old r t.core new → Bonded m setup start k new
      by true took is =
          subst (Bonded m setup start k) (sym is) (record { mounted = b.mounted; bond = bond-taken m setup start.from h old.core rec t.result t.core old.dropped may t.hears took b.bond; again = again_so; takes = takes_so; tallied = tallied_so })
      by false not (inl p) = subst (Bonded m setup start k) (sym p.1) (record { mounted = b.mounted; bond = dropped_so not; again = again_so; takes = takes_so; tallied = tallied_so })
      by false not (inr p) =
          let run : DropRun k most_dropped (length k) = subst (λ (n : ℕ). DropRun k n (length k)) p.0 (dropped_so not).run in
          subst (Bonded m setup start k) (sym p.1)
          (bonded-given-up k (record old { core = t.core; dropped = old.dropped + 1 }) (none_so not) (dropped_run run) (record { mounted = b.mounted; bond = dropped_so not; again = again_so; takes = takes_so; tallied = tallied_so }))

  -- a record was sent
  pub bonded-sends : (h : List Entry) (old new : Session) (lent : Waiting Purpose) → NoneOver old.core → SendsBy old.core (Some lent.bytes) new.core → SendsCounted old lent new → new.mounted ≡ old.mounted
      → new.dropped ≡ old.dropped → Bonded m setup start h old → Bonded m setup start (h ++ Sent lent.bytes ∷ []) new
  bonded-sends h old new lent told t counts mounted count b = record {
    mounted = mounted ∙ b.mounted;
    bond = subst (λ (n : ℕ). Bond m setup start.from (h ++ Sent lent.bytes ∷ []) new.core n) (sym count)
        (bond-step m setup start.from h old.core (Sent lent.bytes) new.core old.dropped (λ comes. bonded-none h old told b) tt t (λ bytes e. absurd cc) b.bond);
    again = again-on h old.core (Sent lent.bytes) new.core old.dropped t (λ is. absurd cc) b.bond b.again;
    takes = takes-on start.from h (Sent lent.bytes) (λ ms e. absurd cc) b.takes;
    tallied = λ is.
        tallied-sends setup h old.core lent new.core old.counts.tally new.counts.tally (reached-rows (machine_of m) setup h old.core (reached m setup start.from h old.core old.dropped b.bond))
        t counts.lends counts.tally (b.tallied is);
  }

-- ---- what the parts of an exchange do to the core

pub core-same : (old : Session) (h : List Entry) → CoreGoes old old h h
core-same old h m setup start b = b

pub core-cut : (old : Session) (h : List Entry) → CoreWent old h h
core-cut old h m setup start b = core-of m setup start h old b

pub core-redials : (old : Session) (h k : List Entry) → DueAgain old.core → Redials h k → CoreGoes old old h k
core-redials old h k due r m setup start b = bonded-redials m setup start h k old r due b

pub core-redials-cut : (old : Session) (h k : List Entry) → DueAgain old.core → Redials h k → CoreWent old h k
core-redials-cut old h k due r m setup start b = core-of m setup start k old (bonded-redials m setup start h k old r due b)

-- four dials failed
pub core-undialed : (old : Session) (h k : List Entry) → NoneOver old.core → DueAgain old.core → RedialsBy (Ok false) h k → CoreGoes old (given_up old) h k
core-undialed old h k told due r m setup start b = bonded-given-up m setup start k old (bonded-none m setup start h old told b) r.1 (bonded-redials m setup start h k old r.0 due b)

-- the link had no memory
pub core-unmade : (old : Session) (a b : History) → Adds a b [] → CoreWent old a.entries b.entries
core-unmade old a b p m setup start c = core-of m setup start b.entries old (quietly (λ (h : List Entry). Bonded m setup start h old) a b (bonded-quiet m setup start old) p c)

pub core-fails : (old new : Session) (a b : History) → NoneOver old.core → first_due old.core.calls.calls ≡ None → old.core.lost ≡ false → Fails old new → Adds a b (Failed ∷ [])
    → CoreGoes old new a.entries b.entries
core-fails old new a b told none live f p m setup start c =
    steps_on (λ (h : List Entry). Bonded m setup start h old) (λ (h : List Entry). Bonded m setup start h new) a b Failed (bonded-quiet m setup start old) (bonded-quiet m setup start new)
    (λ h x. bonded-fails m setup start h old new told f (heard-excused h old.core none live x.bond.known x.again.late) x) p c

pub core-takes : (old new : Session) (rec : List ℕ) (a b : History) → WereSent old.core.calls.calls → NoneOver old.core → Takes old rec new → Adds a b (Delivered rec ∷ []) → CoreGoes old new a.entries b.entries
core-takes old new rec a b all_sent told t p m setup start c =
    steps_on (λ (h : List Entry). Bonded m setup start h old) (λ (h : List Entry). Bonded m setup start h new) a b (Delivered rec) (bonded-quiet m setup start old) (bonded-quiet m setup start new)
    (λ h x. bonded-takes m setup start h old new rec all_sent told t x) p c

pub core-sends : (old new : Session) (lent : Waiting Purpose) (a b : History) → NoneOver old.core → SendsBy old.core (Some lent.bytes) new.core → SendsCounted old lent new → new.mounted ≡ old.mounted → new.dropped ≡ old.dropped
    → Adds a b (Sent lent.bytes ∷ []) → CoreGoes old new a.entries b.entries
core-sends old new lent a b told t counts mounted count p m setup start c =
    steps_on (λ (h : List Entry). Bonded m setup start h old) (λ (h : List Entry). Bonded m setup start h new) a b (Sent lent.bytes) (bonded-quiet m setup start old) (bonded-quiet m setup start new)
    (λ h x. bonded-sends m setup start h old new lent told t counts mounted count x) p c

-- a call that is sent leaves each lane as it is
pub sent-told : (old mid : Session) (result : Option (List ℕ)) → SendsBy old.core result mid.core → NoneOver old.core → NoneOver mid.core
sent-told old mid result t told n lt = subst (λ (ls : List Lane). position (is_over (suc n)) ls ≡ None) (sym (sends-so old.core result mid.core t).lanes) (told n lt)

-- the record has the xid of its call
sent-under : (old : Session) (rec : List ℕ) → (m : Mounted) (setup : Setup) (start : Start) (h : List Entry) → Bonded m setup start h old → (xid : ℕ) (call : Waiting Purpose)
    → first_due old.core.calls.calls ≡ Some (xid, call) → rec ≡ call.bytes → HasXid rec xid
sent-under old rec m setup start h b xid call due is =
    let sound = reached-sound (machine_of m) setup h old.core (reached m setup start.from h old.core old.dropped b.bond) in
    let waits = at_sent old.core.calls.cred old.core.calls.first_xid (next_xid old.core.calls) xid old.core.calls.calls call sound.calls.each due in
    subst (λ (r : List ℕ). HasXid r xid) (sym is) (under setup old.core xid call sound waits.before)

-- the record went out, and the link failed
pub core-sends-fails : (old mid new : Session) (lent : Waiting Purpose) (a b : History) → NoneOver old.core → IsSound old.core.calls → SendsBy old.core (Some lent.bytes) mid.core → SendsCounted old lent mid
    → mid.mounted ≡ old.mounted → mid.dropped ≡ old.dropped → Fails mid new → Adds a b (Sent lent.bytes ∷ Failed ∷ []) → CoreGoes old new a.entries b.entries
core-sends-fails old mid new lent a b told sound t counts mounted count f p m setup start c =
    let rec : List ℕ = lent.bytes in
    steps_on_twice (λ (h : List Entry). Bonded m setup start h old) (λ (h : List Entry). Bonded m setup start h mid × LatestIs h (length h) (Sent rec)) (λ (h : List Entry). Bonded m setup start h new)
    a b (Sent rec) Failed (bonded-quiet m setup start old)
    (λ h more q x. (bonded-quiet m setup start mid h more q x.0, latest-quiet (Sent rec) h more q x.1)) (bonded-quiet m setup start new)
    (λ h x. (bonded-sends m setup start h old mid lent told t counts mounted count x, latest-now h (Sent rec)))
    (λ h x. bonded-fails m setup start h mid new (sent-told old mid (Some rec) t told) f
    (sent-excused h old.core.calls.cred old.core.calls.first_xid (next_xid old.core.calls) old.core rec mid.core t sound.each (sent-under old rec m setup start a.entries c) x.1 x.0.bond.known x.0.again.late) x.0) p c

-- none was due
none-due : (o : Option (ℕ × Waiting Purpose)) → None ≡ option_map (λ (e : ℕ × Waiting Purpose). e.1.bytes) o → o ≡ None
none-due None e = refl
none-due (Some x) e = absurd cc

sent-none : (es : List (ℕ × Waiting Purpose)) → first_due es ≡ None → sent es ≡ es
sent-none [] n = refl
sent-none (e ∷ es) n = (elim e.1.due as (λ b. e.1.due ≡ b → sent (e ∷ es) ≡ e ∷ es) [
  | true ↦ λ d. absurd (let no_way : Some e ≡ None = sym (if_true e.1.due (Some e) (first_due es) d) ∙ n in cc)
  | false ↦ λ d. if_false e.1.due ((e.0, sent_call e.1) ∷ es) (e ∷ sent es) d
      ∙ ap (λ (l : List (ℕ × Waiting Purpose)). e ∷ l) (sent-none es (sym (if_false e.1.due (Some e) (first_due es) d) ∙ n))
]) refl

pub sends-nothing : (old new : View) → SendsBy old None new → new ≡ old
sends-nothing old new t = by old.lost t
  where
    by : (b : Bool) → SendsIf b old None new → new ≡ old
    by true t = t.1
    by false t = t.is ∙ ap (λ (es : List (ℕ × Waiting Purpose)). record old { calls = record old.calls { calls = es } }) (sent-none old.calls.calls (none-due (first_due old.calls.calls) t.gives))

pub core-sends-none : (old new : Session) (h : List Entry) → SendsBy old.core None new.core → new.mounted ≡ old.mounted → new.dropped ≡ old.dropped → new.counts ≡ old.counts → CoreGoes old new h h
core-sends-none old new h t mounted count tally m setup start b = bonded-like m setup start h old new mounted (sends-nothing old.core new.core t) count tally b

-- ---- one part after another

pub core-then : (a b c : Session) (h k l : List Entry) → CoreGoes a b h k → CoreGoes b c k l → CoreGoes a c h l
core-then a b c h k l p q m setup start x = q m setup start (p m setup start x)

pub core-then-cut : (a b : Session) (h k l : List Entry) → CoreGoes a b h k → CoreWent b k l → CoreWent a h l
core-then-cut a b h k l p q m setup start x = q m setup start (p m setup start x)

pub core-then-by : {T E : Type 0} → (a b c : Session) (result : Result T E) (h k l : List Entry) → CoreGoes a b h k → CoreBy b c result k l → CoreBy a c result h l
core-then-by a b c (Ok x) h k l p q = core-then a b c h k l p q
core-then-by a b c (Err e) h k l p q = core-then-cut a b h k l p q

pub relates-both : (a b : Option History) (R S : List Entry → List Entry → Type 0) → Relates a b R → Relates a b S → Relates a b (λ h k. R h k × S h k)
relates-both None b R S p q = tt
relates-both (Some a) None R S p q = absurd p
relates-both (Some a) (Some b) R S p q = (p, q)

-- ---- a line begins

pub now-read : (h : List Entry) (first ms : ℕ) → last_reading first (h ++ Clock ms ∷ []) ≡ ms
now-read [] first ms = refl
now-read (Began l line op ∷ h) first ms = now-read h first ms
now-read (Answered l line a ∷ h) first ms = now-read h first ms
now-read (Dialed port ∷ h) first ms = now-read h first ms
now-read (Sent bytes ∷ h) first ms = now-read h first ms
now-read (Executed xid call reply ∷ h) first ms = now-read h first ms
now-read (Foreign call reply ∷ h) first ms = now-read h first ms
now-read (Flushed file from len ∷ h) first ms = now-read h first ms
now-read (Reboot verf ∷ h) first ms = now-read h first ms
now-read (Delivered bytes ∷ h) first ms = now-read h first ms
now-read (Failed ∷ h) first ms = now-read h first ms
now-read (Clock now ∷ h) first ms = now-read h now ms

bond-clock : (m : Mounted) (setup : Setup) (start : Start) (h : List Entry) (s : Session) (ms : ℕ) → Bonded m setup start h s
    → Bond m setup start.from (h ++ Clock ms ∷ []) s.core s.dropped
bond-clock m setup start h s ms b = bond-step m setup start.from h s.core (Clock ms) s.core s.dropped (λ comes. absurd comes) tt refl (λ bytes e. absurd cc) b.bond

again-clock : (m : Mounted) (setup : Setup) (start : Start) (h : List Entry) (s : Session) (ms : ℕ) → Bonded m setup start h s → SendsAgain (h ++ Clock ms ∷ []) s.core
again-clock m setup start h s ms b = again-on m setup start h s.core (Clock ms) s.core s.dropped refl (λ is. absurd cc) b.bond b.again

tallied-clock : (m : Mounted) (setup : Setup) (start : Start) (h : List Entry) (s : Session) (ms : ℕ) → Bonded m setup start h s → start.counted ≡ true
    → s.counts.tally ≡ tally_of (h ++ Clock ms ∷ [])
tallied-clock m setup start h s ms b is = tallied-on h (Clock ms) s.counts.tally (λ bytes e. absurd cc) (b.tallied is)

pub core-begins : (s t : Session) (h : List Entry) (ms lane line : ℕ) (op : Op) → IsIdle lane s.core.lanes → s.core.begun < 2 ^ 32 → Fits (machine_of s.mounted lane op)
    → Begins s.core lane (machine_of s.mounted lane op) ms t.core → t.mounted ≡ s.mounted → t.dropped ≡ s.dropped → t.counts ≡ s.counts → CoreGoes s t h (h ++ Clock ms ∷ Began lane line op ∷ [])
core-begins s t h ms lane line op idle few fits step mounted count tally m setup start b =
    let h1 : List Entry = h ++ Clock ms ∷ [] in
    let read = bond-clock m setup start h s ms b in
    let step_now : Begins s.core lane (machine_of m lane op) (last_reading 0 h1) t.core =
    subst (λ (n : ℕ). Begins s.core lane (machine_of m lane op) n t.core) (sym (now-read h 0 ms)) (subst (λ (x : Mounted). Begins s.core lane (machine_of x lane op) ms t.core) b.mounted step) in
    let begun : StepsTo (machine_of m) h1 s.core (Began lane line op) t.core = record { idle = idle; few = few; fits = subst (λ (x : Mounted). Fits (machine_of x lane op)) b.mounted fits; step = step_now } in
    subst (λ (k : List Entry). Bonded m setup start k t) (append_assoc h (Clock ms ∷ []) (Began lane line op ∷ [])) (record {
      mounted = mounted ∙ b.mounted;
      bond = subst (λ (n : ℕ). Bond m setup start.from (h1 ++ Began lane line op ∷ []) t.core n) (sym count)
          (bond-step m setup start.from h1 s.core (Began lane line op) t.core s.dropped (λ comes. absurd comes) tt begun (λ bytes e. absurd cc) read);
      again = again-on m setup start h1 s.core (Began lane line op) t.core s.dropped begun (λ is. absurd cc) read (again-clock m setup start h s ms b);
      takes = takes-begins start.from h ms lane line op b.takes;
      tallied = λ is. ap (λ (c : Counts). c.tally) tally ∙ tallied-on h1 (Began lane line op) s.counts.tally (λ bytes e. absurd cc) (tallied-clock m setup start h s ms b is);
    })

-- nothing was begun, for want of memory
pub core-unbegun : (s : Session) (h k : List Entry) (given : List ℕ) → (k ≡ h) ⊎ ((ms : ℕ) × (given ≡ ms ∷ []) × (k ≡ h ++ Clock ms ∷ [])) → CoreWent s h k
core-unbegun s h k given (inl is) m setup start b = subst (HasCore m setup start.from) (sym is) (core-of m setup start h s b)
core-unbegun s h k given (inr n) m setup start b =
    let read = bond-clock m setup start h s n.0 b in
    subst (HasCore m setup start.from) (sym n.2)
    (record { core = s.core; notes = read.notes; since = read.since; takes = takes-read start.from h n.0 b.takes; stays = read.stays; resends = (again-clock m setup start h s n.0 b).resends })

-- ---- an answer is told

open-line : (h : List Entry) (lane line : ℕ) → IsRunning h lane line → IsOpenLine h lane line
open-line h lane line r = record { op = r.op; before = r.before; is = r.marks }

pub core-answers : (s t : Session) (h : List Entry) (lane line : ℕ) (answer : Answer) → IsRunning h lane line → AnswersBy s.core lane (Some answer) t.core → t.mounted ≡ s.mounted → t.dropped ≡ s.dropped → t.counts ≡ s.counts
    → CoreGoes s t h (h ++ Answered lane line answer ∷ [])
core-answers s t h lane line answer running answers mounted count tally m setup start b = record {
  mounted = mounted ∙ b.mounted;
  bond = subst (λ (n : ℕ). Bond m setup start.from (h ++ Answered lane line answer ∷ []) t.core n) (sym count)
      (bond-step m setup start.from h s.core (Answered lane line answer) t.core s.dropped (λ comes. absurd comes) tt (record { line_is = open-line h lane line running; answers = answers }) (λ bytes e. absurd cc) b.bond);
  again = again-on m setup start h s.core (Answered lane line answer) t.core s.dropped (record { line_is = open-line h lane line running; answers = answers }) (λ is. absurd cc) b.bond b.again;
  takes = takes-on start.from h (Answered lane line answer) (λ ms e. absurd cc) b.takes;
  tallied = λ is. ap (λ (c : Counts). c.tally) tally ∙ tallied-on h (Answered lane line answer) s.counts.tally (λ bytes e. absurd cc) (b.tallied is);
}

-- the lane had no answer, or no line left: the core stays
pub core-like : (s t : Session) (h : List Entry) → t.mounted ≡ s.mounted → t.core ≡ s.core → t.dropped ≡ s.dropped → t.counts ≡ s.counts → CoreGoes s t h h
core-like s t h mounted core count tally m setup start b = bonded-like m setup start h s t mounted core count tally b

-- ---- from the set-up on

pub fresh-bonded : (settings : Settings) (setup : Setup) (start : Start) (s : Session) (h : List Entry) → MaySetUp setup → IsFreshFor settings setup s → start.from ≡ h → (start.counted ≡ true → s.counts.tally ≡ tally_of h)
    → IsOpened (Some setup) h → Bonded (mounted_by settings setup) setup start h s
fresh-bonded settings setup start s h may f is tallied o = record {
  mounted = f.mounted;
  bond = record {
    notes = notes_fresh h s.core may o.0 f.core;
    since = subst (λ (k : List Entry). SentSince k h) (sym is) (since-none h);
    known = λ xid w. absurd (o.1 xid w);
    run = no_drop s.dropped (length h) f.dropped;
    only = fresh-only setup s.core f.core;
    stays = unmarked-stays h o.0.unmarked;
  };
  again = record { resends = resends-none h o.0.unbegun; late = λ live. subst (λ (c : Held Purpose). AllLate h c.calls) (sym f.core.calls) tt };
  takes = subst (λ (k : List Entry). TakesAll k h) (sym is) (takes-none h);
  tallied = tallied;
}

abbrev uncounted : List Entry → Start
uncounted h = record { from = h; counted = false }

abbrev counted_from : List Entry → Start
counted_from h = record { from = h; counted = true }

pub ends-with : (settings : Settings) (setup : Setup) (s t : Session) (h k : List Entry) → MaySetUp setup → IsFreshFor settings setup s → CoreGoes s t h k → IsOpened (Some setup) h → EndsWith settings (Some setup) h k
ends-with settings setup s t h k may f g o =
    core-of (mounted_by settings setup) setup (uncounted h) k t (g (mounted_by settings setup) setup (uncounted h) (fresh-bonded settings setup (uncounted h) s h may f refl (λ is. absurd cc) o))

-- the core at the end of its lines
pub notes-with : (settings : Settings) (setup : Setup) (s t : Session) (h k : List Entry) → MaySetUp setup → IsFreshFor settings setup s → CoreGoes s t h k → IsOpened (Some setup) h
    → Notes (machine_of (mounted_by settings setup)) setup k t.core
notes-with settings setup s t h k may f g o =
    (g (mounted_by settings setup) setup (uncounted h) (fresh-bonded settings setup (uncounted h) s h may f refl (λ is. absurd cc) o)).bond.notes

pub breaks-with : (settings : Settings) (setup : Setup) (s : Session) (h k : List Entry) → MaySetUp setup → IsFreshFor settings setup s → CoreWent s h k → IsOpened (Some setup) h → EndsWith settings (Some setup) h k
breaks-with settings setup s h k may f g o = g (mounted_by settings setup) setup (uncounted h) (fresh-bonded settings setup (uncounted h) s h may f refl (λ is. absurd cc) o)

-- the counts of a session at the end of its lines
pub counts-with : (settings : Settings) (setup : Setup) (begun : Tally) (s t : Session) (h k : List Entry) → MaySetUp setup → IsFreshFor settings setup s → s.counts.tally ≡ begun
    → CoreGoes s t h k → IsOpened (Some setup) h → begun ≡ tally_of h → t.counts.tally ≡ tally_of k
counts-with settings setup begun s t h k may f counts g o is =
    (g (mounted_by settings setup) setup (counted_from h) (fresh-bonded settings setup (counted_from h) s h may f refl (λ so. counts ∙ is) o)).tallied refl

-- ---- histories

-- a call of the link after what went before
pub relates-call : (a b c : Option History) (es : List Entry) (R S : List Entry → List Entry → Type 0) → ((h : List Entry) (x y : History) → R h x.entries → Adds x y es → S h y.entries) → Relates a b R → Tells b c es
    → Relates a c S
relates-call None b c es R S step p q = tt
relates-call (Some a) None c es R S step p q = absurd p
relates-call (Some a) (Some b) None es R S step p q = absurd q
relates-call (Some a) (Some b) (Some c) es R S step p q = step a.entries b c p q
