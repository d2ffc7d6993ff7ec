-- A relation of the shelf before and after each step of an operation holds of each step of the core.
use Rattle.core_counts.proofs.Prelude.{◌≡◌, ◌<◌, ◌+◌, ◌-◌, inl, inr, ℕ, List, [], ◌∷◌, ◌++◌, length, false, position, slice_get, Some, option_map, Result, Ok, Err, sym, ap, subst, ◌∙◌, append_assoc, append-nil, arith, xid_at, Waiting, waiting_at, Fault, Entry, Sent, Delivered, Call, Reply, Op, Heard, History, Lawful, HasXid, SpellsCall, FirstSent-grow, At-grow, At-below, At-back, At-last, length_last, said_of, Says, Step, Shelf, Turn, machine_of, Mounted, Machine, Starts, Resumes, Takes, Purpose, Busy, Setup, is_busy, with_state, Leads, Stirs, counted, StartsLane, TakesAt, View, turn_at, unmade_turn, Numbered, in_flight, HearsRecord, Reaches, IsMade, IsOutstanding, Tried, begins-unbegun, taken_one, was-sent, says-of, Known, reached-all, taker-is, taker-one, reached-rows, AskedOf, ThenOf, Passes, IsNfs, Both, nfs-of, WasRun}
use Rattle.call_replies.specs.Says.{SpellsOne}
use Rattle.core_facts.specs.Tries.{unsent, runs, ended}
use Rattle.core_facts.proofs.Keeping.{reached-kept}
use Rattle.core_answers.proofs.pages.PageCalls.{both-asks}
use Rattle.client_shelf.specs.declared.step.Step.TheVariants as nexts
use Rattle.core_facts.specs.Counted.{IsOfOperation}
use Rattle.core_facts.proofs.AllAwaited.{Awaits}
use Rattle.core_facts.proofs.Flown.{Flown, keeps-flown}
use Rattle.core_facts.proofs.Owning.{reached-owned}
use Rattle.core_answers.specs.bonds.Kept.{HadShown}
use Rattle.core_answers.proofs.bonds.AttrsShown.{time-grows, answered-last}
use Rattle.core_answers.proofs.bonds.Executions.{answered-ran}
use Rattle.core_answers.proofs.bonds.FileCalls.{Asking}
use Rattle.core_answers.proofs.engine.Told.{AskLaws, WasTold}
use Rattle.core_answers.proofs.bonds.NamesShown.{awaits-asks}
use Rattle.core_answers.proofs.bonds.Timed.{MadeAfter, reached-timed}
use Rattle.core_answers.proofs.pages.FilePages.{IsSentAs}
use Rattle.core_answers.proofs.pages.Keeping.{BondLaws, reached-known}
use Rattle.core_answers.proofs.pages.PiecesCalled.{Spelled, called-sent}
use Rattle.core_answers.proofs.reads.Passed.{passed-along}
use Rattle.core_answers.proofs.writes.Along.{KeepsAlong}

-- ---- for which call an operation waits

-- which READ or SETATTR it is, and which LOOKUP
abbrev pub Waits : Machine → Call → Type 0
Waits m c = Both m c × Awaits m c

waits-asked : (next : Step) (new : Machine) → AskedOf Both next new → AskedOf Awaits next new → AskedOf Waits next new
waits-asked (nexts.Send call) new a b = (a, b)
waits-asked nexts.Wait new a b = tt
waits-asked (nexts.Done answer) new a b = tt

waits-asking : (others : ℕ) (m : Machine) (next : Step) (new : Machine) → Asking Both (Both m) others next new → Asking Awaits (Awaits m) others next new
    → Asking Waits (Waits m) others next new
waits-asking others m (nexts.Send call) new a b = record { asked = (a.asked, b.asked); kept = λ some c on. (a.kept some c on.0, b.kept some c on.1) }
waits-asking others m nexts.Wait new a b = record { asked = tt; kept = λ some c on. (a.kept some c on.0, b.kept some c on.1) }
waits-asking others m (nexts.Done answer) new a b = record { asked = tt; kept = tt }

pub waits-asks : AskLaws Waits
waits-asks = record {
  starts = λ m wsize turn old next new after s. waits-asked next new (both-asks.starts m wsize turn old next new after s) (awaits-asks.starts m wsize turn old next new after s);
  resumes = λ m wsize turn old next new after right on s.
      waits-asking (in_flight m) m next new (both-asks.resumes m wsize turn old next new after right on s) (awaits-asks.resumes m wsize turn old next new after right on s);
  takes = λ m wsize sent turn came old next new after others one s.
      waits-asking others m next new (both-asks.takes m wsize sent turn came old next new after others one s) (awaits-asks.takes m wsize sent turn came old next new after others one s);
}

-- ---- a relation of the shelf before and after

-- It holds of each step of an operation, where of a reply that is taken this is told; where nothing happens; and of what happens one after the other.
pub record StepLaws (Tell : Call → ℕ → Reply → Type 0) (R : Shelf → Shelf → Type 0) : Type 0 where
  pub same : (old new : Shelf) → new ≡ old → R old new
  pub then_ : (a b c : Shelf) → R a b → R b c → R a c
  pub starts : (machine : Machine) (wsize : ℕ) (turn : Turn) (old : Shelf) (next : Step) (new : Machine) (after : Shelf) → Starts wsize machine turn old next new after → R old after
  pub resumes : (machine : Machine) (wsize : ℕ) (turn : Turn) (old : Shelf) (next : Step) (new : Machine) (after : Shelf) → Resumes wsize machine turn old next new after → R old after
  pub takes : (machine : Machine) (call : Call) (wsize : ℕ) (sent turn : Turn) (came : Result Reply Fault) (old : Shelf) (next : Step) (new : Machine) (after : Shelf)
      → Waits machine call → ((reply : Reply) → came ≡ Ok reply → Tell call sent.now reply) → ((reply : Reply) → came ≡ Ok reply → IsSentAs sent.xid call old.back)
      → Takes wsize machine sent turn came old next new after → R old after

-- ---- what is known of the views

unit-along : (m : Mounted) (setup : Setup) → KeepsAlong (machine_of m) setup (λ h v. Unit {0})
unit-along m setup = record {
  fresh = λ h v fresh. tt;
  stirs = λ h old new at k s i. tt;
  starts = λ h old new lane line op now r found k idle s i. tt;
  takes = λ h old new rec xid call at r found k waits place s i. tt;
  answers = λ h old new at lane line answer k a i. tt;
  same = λ h e old new lanes shelf calls i. tt;
}

pub passed-known : (m : Mounted) (setup : Setup) (h : List Entry) (v : View) → Passes (machine_of m) setup h v → Known setup h v
passed-known m setup h v p = (passed-along (machine_of m) (begins-unbegun m) setup (λ k w. Unit {0}) (unit-along m setup) h v p).known

no-story : (next : Step) (new : Machine) → ThenOf (λ k. Unit {0}) (λ a. Unit {0}) next new
no-story (nexts.Send call) new = tt
no-story nexts.Wait new = tt
no-story (nexts.Done answer) new = tt

unit-laws : (m : Mounted) (setup : Setup) → BondLaws (machine_of m) setup Waits (λ h lane shelf. Unit {0}) (λ h shelf. Unit {0}) (λ h x op state. Unit {0})
unit-laws m setup = record {
  starts = λ h lane line op wsize turn old next new after given passed g late s. record { kept = tt; then_ = no-story next new };
  resumes = λ h x op machine wsize turn old next new after g passed within late story r. record { kept = tt; then_ = no-story next new };
  takes = λ h x op machine call wsize sent turn came old next new after g within late story on told s. record { kept = tt; then_ = no-story next new };
  still = λ h e shelf g. tt;
  grows = λ h e x op state story. tt;
  lost = λ h x op shown. tt;
}

-- ---- what was answered was executed

grown : (h rest : List Entry) (call : Call) (ms : ℕ) (reply : Reply) → WasTold h call ms reply → WasTold (h ++ rest) call ms reply
grown h [] call ms reply w = subst (λ (k : List Entry). WasTold k call ms reply) (sym (append-nil h)) w
grown h (e ∷ rest) call ms reply w =
    subst (λ (k : List Entry). WasTold k call ms reply) (append_assoc h (e ∷ []) rest)
    (grown (h ++ e ∷ []) rest call ms reply
    (record { since = w.since; timed = time-grows h (e ∷ []) w.since ms w.timed; answered = answered-last h e w.since call reply w.answered }))

was-run : (t : History) → Lawful t → Numbered t.entries → (h rest : List Entry) (call : Call) (ms : ℕ) (reply : Reply) → t.entries ≡ h ++ rest → IsNfs call → WasTold h call ms reply
    → WasRun t call ms reply
was-run t lawful numbered h rest call ms reply is nfs w =
    let all = subst (λ (k : List Entry). WasTold k call ms reply) (sym is) (grown h rest call ms reply w) in
    let ran = answered-ran t lawful numbered all.since (length t.entries) call reply nfs all.answered in
    record { place = ran.place; xid = ran.xid; done = ran.at; since = all.since; timed = all.timed; late = ran.late }

-- the record answers a call that was first sent at a place
answers-call : (h : List Entry) (rec : List ℕ) (xid from : ℕ) (asked : Call) (bytes : List ℕ) → IsOutstanding h xid bytes from → SpellsCall xid asked bytes → HasXid rec xid
    → Heard (h ++ Delivered rec ∷ []) from (length (h ++ Delivered rec ∷ [])) asked xid rec
answers-call h rec xid from asked bytes o spells named =
    let within : from < length h = At-below h from (Sent bytes) o.sent.sent in
    let more = length_last h (Delivered rec) in
    record {
      sent_at = from;
      record_sent = bytes;
      got_at = length h;
      sent = FirstSent-grow h (Delivered rec ∷ []) from xid bytes o.sent;
      spells = spells;
      got = record {
        got = At-last h (Delivered rec);
        under = named;
        waits = record {
          at = from;
          bytes = bytes;
          sent = At-grow h (Delivered rec ∷ []) from (Sent bytes) o.sent.sent;
          under = o.sent.under;
          before = within;
          unanswered = λ j b at has after before. o.unheard j b (At-back h (Delivered rec ∷ []) j (Delivered b) at before) has after;
        };
      };
      after = omega arith;
      later = within;
      before = omega (arith, more);
    }

module _ (m : Mounted) (setup : Setup) where
  -- a reply that is taken answers the call that waits
  answered : (h : List Entry) (old : View) (rec : List ℕ) (new : View) (xid : ℕ) (call : Waiting Purpose) (k : HearsRecord old rec new) → Reaches (machine_of m) setup h old
      → old.lost ≡ false → xid_at rec ≡ Some xid → waiting_at xid old.calls.calls ≡ Some call → (made : IsMade setup.cred xid call) (reply : Reply)
      → said_of call.purpose.proc rec ≡ Ok reply → WasTold (h ++ Delivered rec ∷ []) made.asked call.purpose.sent.now reply
  answered h old rec new xid call k r found named waits made reply is = by ((reached-rows (machine_of m) setup h old r).rows xid call waits).tried
    where
      later : List Entry
      later = h ++ Delivered rec ∷ []

      said : SpellsOne xid made.asked rec reply
      said = subst (Says xid made.asked rec) is
          (says-of old rec k.result new xid call k.hears named waits xid named made.asked (record { nfs = made.nfs; is = sym made.proc }))

      own : IsOfOperation h old xid call
      own = (reached-owned (machine_of m) (begins-unbegun m) setup h old r found).owned xid call waits

      timed : (from : ℕ) (o : IsOutstanding h xid call.bytes from) → MadeAfter h xid call.purpose.sent.now → HadShown h from call.purpose.sent.now
      timed from o (inl none) = inl (
        none,
        record {
          x = own.x;
          lane = call.purpose.lane;
          line = own.under_way.line;
          op = own.op;
          began = own.under_way.began;
          before = own.since from call.bytes o.sent.sent o.sent.under;
        },
      )
      timed from o (inr s) = inr (s.0, s.1, s.2 from call.bytes o.sent.sent o.sent.under)

      told : (from : ℕ) → IsOutstanding h xid call.bytes from → WasTold later made.asked call.purpose.sent.now reply
      told from o = record {
        since = from;
        timed = time-grows h (Delivered rec ∷ []) from call.purpose.sent.now (timed from o ((reached-timed (machine_of m) setup h old r).1 xid call waits));
        answered = record {
          xid = xid;
          bytes = rec;
          heard = answers-call h rec xid from made.asked call.bytes o made.spells.spells named;
          spells = said.is;
          only = said.only;
        };
      }

      by : Tried h xid call → WasTold later made.asked call.purpose.sent.now reply
      by (unsent nothing u) = absurd (let some = was-sent xid old.calls.calls call k.may.sent waits in omega (arith, some, nothing))
      by (runs from running o rest) = told from o
      by (ended from idle o rest) = told from o

  -- so it was executed
  pub ran : (t : History) → Lawful t → Numbered t.entries → (h rest : List Entry) (old : View) (rec : List ℕ) (new : View) (xid : ℕ) (call : Waiting Purpose)
      → t.entries ≡ h ++ Delivered rec ∷ rest → HearsRecord old rec new → Reaches (machine_of m) setup h old → old.lost ≡ false → xid_at rec ≡ Some xid
      → waiting_at xid old.calls.calls ≡ Some call → (made : IsMade setup.cred xid call) (reply : Reply) → said_of call.purpose.proc rec ≡ Ok reply
      → WasRun t made.asked call.purpose.sent.now reply
  ran t lawful numbered h rest old rec new xid call along k r found named waits made reply said =
      was-run t lawful numbered (h ++ Delivered rec ∷ []) rest made.asked call.purpose.sent.now reply (along ∙ sym (append_assoc h (Delivered rec ∷ []) rest))
      (nfs-of made.asked made.nfs) (answered h old rec new xid call k r found named waits made reply said)

  -- what is known of the operation whose call is answered
  record Asked (old : View) (xid : ℕ) (call : Waiting Purpose) (machine : Machine) : Type 0 where
    made : IsMade setup.cred xid call
    on : Waits machine made.asked
    spelled : Spelled setup.cred xid call.bytes old.shelf.back

  asked-of : (h : List Entry) (old : View) (xid : ℕ) (call : Waiting Purpose) (at number : ℕ) (machine : Machine) → Reaches (machine_of m) setup h old
      → waiting_at xid old.calls.calls ≡ Some call → slice_get old.lanes at ≡ Some (record { number = number; state = Busy machine }) → call.purpose.lane ≡ number
      → Asked old xid call machine
  asked-of h old xid call at number machine r waits there same =
      let k =
      reached-known m setup Waits waits-asks (λ g lane shelf. Unit {0}) (λ g shelf. Unit {0}) (λ g x op state. Unit {0}) (unit-laws m setup) (λ g w lane reached found idle. tt) (λ g w fresh. tt) h old r in
      let e = (k.lanes at (record { number = number; state = Busy machine }) there).0 xid call waits same in
      record { made = e.made; on = e.on; spelled = k.called xid call waits }

  -- ---- steps of the core

  module _ (Tell : Call → ℕ → Reply → Type 0) (R : Shelf → Shelf → Type 0) (laws : StepLaws Tell R) where
    -- with the call that it asks for, also where that isn't made
    leads-on : (from : Shelf) (v new : View) (at number : ℕ) (machine : Machine) (next : Step) → AskedOf Waits next machine → Leads v at number machine next new → R from v.shelf
        → R from new.shelf
    leads-on from v new at number machine (nexts.Send call) asked (inl k) f = subst (λ (w : View). R from w.shelf) (sym k.is) f
    leads-on from v new at number machine (nexts.Send call) asked (inr u) f =
        subst (λ (w : View). R from w.shelf) (sym u.is)
        (laws.then_ from v.shelf u.left f
        (laws.takes machine call v.wsize (turn_at v) (unmade_turn v) (Err u.fault) v.shelf u.next u.after u.left asked (λ reply is. absurd cc) (λ reply is. absurd cc) u.takes))
    leads-on from v new at number machine nexts.Wait asked is f = subst (λ (w : View). R from w.shelf) (sym is) f
    leads-on from v new at number machine (nexts.Done answer) asked is f = subst (λ (w : View). R from w.shelf) (sym is) f

    pub starts-step : (old new : View) (lane now : ℕ) (op : Op) → StartsLane (counted old now) lane (machine_of m lane op) new → R old.shelf new.shelf
    starts-step old new lane now op s =
        leads-on old.shelf (record (counted old now) { lanes = old.lanes ++ record { number = lane; state = Busy s.after } ∷ []; shelf = s.shelf }) new (length old.lanes) lane s.after s.next
        (waits-asks.starts (machine_of m lane op) old.wsize (turn_at (counted old now)) old.shelf s.next s.after s.shelf s.starts) s.leads
        (laws.starts (machine_of m lane op) old.wsize (turn_at (counted old now)) old.shelf s.next s.after s.shelf s.starts)

    pub stirs-step : (h : List Entry) (old new : View) (at : ℕ) → Known setup h old → Stirs old at new → R old.shelf new.shelf
    stirs-step h old new at known s =
        let right = known.known.right at (record { number = s.number; state = Busy s.machine }) s.there in
        leads-on old.shelf (with_state old at s.number (Busy s.after) s.shelf) new at s.number s.after s.next
        (waits-asks.resumes s.machine old.wsize (turn_at old) old.shelf s.next s.after s.shelf right s.goes s.resumes).asked s.leads
        (laws.resumes s.machine old.wsize (turn_at old) old.shelf s.next s.after s.shelf s.resumes)

    pub takes-step : (h : List Entry) (old new : View) (rec : List ℕ) (xid at : ℕ) (call : Waiting Purpose) → Reaches (machine_of m) setup h old → old.lost ≡ false
        → waiting_at xid old.calls.calls ≡ Some call → position (is_busy call.purpose.lane) old.lanes ≡ Some at
        → ((made : IsMade setup.cred xid call) (reply : Reply) → said_of call.purpose.proc rec ≡ Ok reply → Tell made.asked call.purpose.sent.now reply)
        → TakesAt (taken_one old xid) at call.purpose.sent (said_of call.purpose.proc rec) new → R old.shelf new.shelf
    takes-step h old new rec xid at call r found waits place told s =
        leads-on old.shelf (with_state (taken_one old xid) at s.number (Busy s.after) s.shelf) new at s.number s.after s.next
        (waits-asks.takes s.machine old.wsize call.purpose.sent turn came old.shelf s.next s.after s.shelf (in_flight s.machine - 1) one s.takes).asked s.leads
        (laws.takes s.machine e.made.asked old.wsize call.purpose.sent turn came old.shelf s.next s.after s.shelf e.on (told e.made)
        (λ reply said.
        called-sent setup.cred xid call call.purpose.sent.xid old.shelf.back e.made
        (flown.sents xid call.purpose (ap (option_map (λ (w : Waiting Purpose). w.purpose)) waits)) e.spelled)
        s.takes)
      where
        came : Result Reply Fault
        came = said_of call.purpose.proc rec

        turn : Turn
        turn = turn_at (taken_one old xid)

        known : Known setup h old
        known = reached-all (machine_of m) (begins-unbegun m) setup h old r found

        flown : Flown old
        flown = reached-kept (machine_of m) (begins-unbegun m) setup Flown (keeps-flown m setup) h old r found

        one : in_flight s.machine ≡ (in_flight s.machine - 1) + 1
        one = taker-one setup h old xid call at known waits place s.number s.machine s.there

        e : Asked old xid call s.machine
        e = asked-of h old xid call at s.number s.machine r waits s.there (sym (taker-is setup h old xid call at known waits place s.number s.machine s.there))
