-- Each piece in flight has no more bytes than the session's size of WRITE.
use Rattle.core_session.proofs.Prelude.{◌≡◌, ◌≢◌, ◌≤◌, ◌⊎◌, inl, inr, ℕ, Bool, true, false, nat_eq, length, List, [], ◌∷◌, ◌++◌, Option, Some, None, Result, Err, sym, ap, subst, ◌∙◌, arith, if◌then◌else◌, Waiting, Fault, Entry, Reply, Op, FilePending, nothing, piece_under, with_sent, at_xid, landed, landed_part, with_cut, with_xid, Pending, of_file, OnFile, with_bytes, same-or, decided, said_of, Step, Shelf, Turn, Mounted, Machine, machine_of, Starts, Resumes, Takes, Purpose, Busy, Setup, with_state, Leads, Stirs, counted, StartsLane, TakesAt, View, turn_at, unmade_turn, StepsTo, Reaches, begins, goes, loses, last_reading, begins-unbegun, Heard, dropped, replied, sent_now, FailedNow, goes_on, gives_up, failed_now, answered_now, taken_one, Known, Stays, After, CarriesReply, any-saves}
use Rattle.std.specs.Prelude.{⊤}
use Rattle.write_back.specs.Pieces.{Sent, without, renumbered}
use Rattle.write_back.specs.Landing.{at_piece}
use Rattle.core_facts.proofs.Cases.{heard}
use Rattle.core_facts.proofs.Walks.{begins-stay, hears-for-stay}
use Rattle.core_answers.proofs.writes.Backs.{Carries}
use Rattle.core_answers.proofs.writes.Mapped.{any-asks, any-brings, any-starts}
use Rattle.world_model.specs.declared.entry.Entry.TheVariants as entries
use Rattle.client_shelf.specs.declared.step.Step.TheVariants as nexts
use Rattle.file_ops.specs.Syncs as syncs
use Rattle.core_answers.proofs.writes.AllBacks.{all-starts, all-resumes, all-takes}
use Rattle.core_session.proofs.saves.HearingAlong.{KeepsHearing, reached-hearing}
use Rattle.core_session.proofs.calls.SizedSaves.{IsKept, goes-kept, takes-kept}

-- ---- the size stays as it was set up

abbrev pub HasSize : Setup → View → Type 0
HasSize setup v = v.wsize ≡ setup.wsize

size-stays : (setup : Setup) → Stays (HasSize setup)
size-stays setup = record {
  makes = λ old new number call m s. subst (HasSize setup) (sym m.is) s;
  sets = λ old at number was state shelf there s. s;
}

heard-size : (setup : Setup) (old : View) (rec : List ℕ) (new : View) → Heard old rec new → HasSize setup old → HasSize setup new
heard-size setup old rec new (dropped none is) s = subst (HasSize setup) (sym is) s
heard-size setup old rec new (replied xid call named waits t) s = hears-for-stay (HasSize setup) (size-stays setup) (taken_one old xid) new rec call.purpose t s

failed-size : (setup : Setup) (old new : View) → FailedNow old new → HasSize setup old → HasSize setup new
failed-size setup old new (goes_on none is) s = subst (HasSize setup) (sym is) s
failed-size setup old new (gives_up xid up is) s = subst (HasSize setup) (sym is) s

size-step : (machine_of : ℕ → Op → Machine) (setup : Setup) (h : List Entry) (old : View) (e : Entry) (new : View) → StepsTo machine_of h old e new → HasSize setup old → HasSize setup new
size-step machine_of setup h old (entries.Began lane line op) new t s = begins-stay (HasSize setup) (size-stays setup) old new lane (machine_of lane op) (last_reading 0 h) (λ state shelf. s) t.step
size-step machine_of setup h old (entries.Answered lane line answer) new t s = let a = answered_now old lane answer new t.answers in subst (HasSize setup) (sym a.is.is) s
size-step machine_of setup h old (entries.Sent bytes) new t s = let n = sent_now old bytes new t in subst (HasSize setup) (sym n.is) s
size-step machine_of setup h old (entries.Delivered bytes) new t s = heard-size setup old bytes new (heard old bytes t.result new t.hears) s
size-step machine_of setup h old entries.Failed new (inl t) s = failed-size setup old new (failed_now old t.0 new t.1) s
size-step machine_of setup h old entries.Failed new (inr t) s = subst (HasSize setup) (sym t) s
size-step machine_of setup h old (entries.Dialed port) new t s = subst (HasSize setup) (sym t) s
size-step machine_of setup h old (entries.Executed xid call reply) new t s = subst (HasSize setup) (sym t) s
size-step machine_of setup h old (entries.Foreign call reply) new t s = subst (HasSize setup) (sym t) s
size-step machine_of setup h old (entries.Flushed file from len) new t s = subst (HasSize setup) (sym t) s
size-step machine_of setup h old (entries.Reboot verf) new t s = subst (HasSize setup) (sym t) s
size-step machine_of setup h old (entries.Clock ms) new t s = subst (HasSize setup) (sym t) s

pub reached-size : (machine_of : ℕ → Op → Machine) (setup : Setup) (h : List Entry) (v : View) → Reaches machine_of setup h v → HasSize setup v
reached-size machine_of setup _ _ (begins h v may up fresh) = fresh.wsize
reached-size machine_of setup _ _ (goes h before v b e r is t) = size-step machine_of setup before b e v t (reached-size machine_of setup before b r)
reached-size machine_of setup _ _ (loses h v b r shown is) = ap (λ (w : View). w.wsize) is ∙ reached-size machine_of setup h b r

-- ---- pieces

module _ (most : ℕ) where
  abbrev pub AreShort : List Sent → Type 0
  AreShort [] = ⊤
  AreShort (piece ∷ pieces) = (length piece.bytes ≤ most) × AreShort pieces

  -- of each file
  abbrev pub Short : Pending → Type 0
  Short back = (file : List ℕ) → AreShort (of_file file back).pieces

  short-without : (xid : ℕ) (pieces : List Sent) → AreShort pieces → AreShort (without xid pieces)
  short-without xid [] fit = tt
  short-without xid (p ∷ pieces) fit = by (nat_eq p.xid xid) (short-without xid pieces fit.1)
    where
      by : (b : Bool) → AreShort (without xid pieces) → AreShort (if b then pieces else p ∷ without xid pieces)
      by true more = fit.1
      by false more = (fit.0, more)

  short-renumbered : (xid to : ℕ) (pieces : List Sent) → AreShort pieces → AreShort (renumbered xid to pieces)
  short-renumbered xid to [] fit = tt
  short-renumbered xid to (p ∷ pieces) fit = by (nat_eq p.xid xid) (short-renumbered xid to pieces fit.1)
    where
      by : (b : Bool) → AreShort (renumbered xid to pieces) → AreShort
          (if b then record { xid = to; offset = p.offset; how = p.how; bytes = p.bytes; parts = p.parts } ∷ pieces else p ∷ renumbered xid to pieces)
      by true more = fit
      by false more = (fit.0, more)

  short-append : (pieces : List Sent) (piece : Sent) → AreShort pieces → length piece.bytes ≤ most → AreShort (pieces ++ piece ∷ [])
  short-append [] piece fit last = (last, tt)
  short-append (p ∷ pieces) piece fit last = (fit.0, short-append pieces piece fit.1 last)

  pub short-under : (xid : ℕ) (pieces : List Sent) (piece : Sent) → AreShort pieces → piece_under xid pieces ≡ Some piece → length piece.bytes ≤ most
  short-under xid [] piece fit is = absurd (cc)
  short-under xid (p ∷ pieces) piece fit is = by (nat_eq p.xid xid) (λ later. short-under xid pieces piece fit.1 later) is
    where
      by : (b : Bool) → (piece_under xid pieces ≡ Some piece → length piece.bytes ≤ most) → (if b then Some p else piece_under xid pieces) ≡ Some piece → length piece.bytes ≤ most
      by true more one = let same : p ≡ piece = cc in subst (λ (q : Sent). length q.bytes ≤ most) same fit.0
      by false more other = more other

  -- ---- files

  on-short : (old new : Pending) (file : List ℕ) (to : FilePending) → OnFile old new file to → (AreShort (of_file file old).pieces → AreShort to.pieces) → Short old → Short new
  on-short old new file to on keeps all other = by (same-or file other)
    where
      by : (other ≡ file) ⊎ (other ≢ file) → AreShort (of_file other new).pieces
      by (inl same) = subst (λ (f : List ℕ). AreShort (of_file f new).pieces) (sym same)
          (subst (λ (of : FilePending). AreShort of.pieces) (sym on.here) (keeps (all file)))
      by (inr apart) = subst (λ (of : FilePending). AreShort of.pieces) (sym (on.others other apart)) (all other)

  same-short : (old new : Pending) → new ≡ old → Short old → Short new
  same-short old new is all = subst Short (sym is) all

  at-short : (f : Sent → FilePending → FilePending) (found : Option Sent) (of : FilePending) → ((piece : Sent) → AreShort of.pieces → AreShort (f piece of).pieces)
      → AreShort of.pieces → AreShort (at_piece f found of).pieces
  at-short f None of keeps fit = fit
  at-short f (Some piece) of keeps fit = keeps piece fit

  -- ---- changes that a save makes

  kept : (wsize asked to : ℕ) → wsize ≤ most → IsKept wsize asked to Short
  kept wsize asked to small = record {
    puts = λ file piece upto old new is fits on in_flight all. on-short old new file (with_sent piece (of_file file old)) on
        (λ fit. short-append (of_file file old).pieces piece fit (omega (arith, fits, small))) all;
    lands = λ file change old new on all. on-short old new file (at_xid (landed change) asked (of_file file old)) on
        (at-short (landed change) (piece_under asked (of_file file old).pieces) (of_file file old) (λ piece fit. short-without piece.xid (of_file file old).pieces fit)) all;
    part_lands = λ file change count old new on all. on-short old new file (at_xid (landed_part change count) asked (of_file file old)) on
        (at-short (landed_part change count) (piece_under asked (of_file file old).pieces) (of_file file old) (λ piece fit. short-without piece.xid (of_file file old).pieces fit)) all;
    renames = λ file old new on all. on-short old new file (with_xid asked to (of_file file old)) on (λ fit. short-renumbered asked to (of_file file old).pieces fit) all;
    decides = λ file upto verf old new on all. on-short old new file (decided upto verf (of_file file old)) on (λ fit. fit) all;
  }

  module _ (wsize : ℕ) (small : wsize ≤ most) where
    -- ---- steps of operations

    short-after : (next : Step) (back : Pending) → Short back → After Short (λ call. Short) next back
    short-after (nexts.Send call) back p = p
    short-after nexts.Wait back p = p
    short-after (nexts.Done answer) back p = p

    after-short : (next : Step) (back : Pending) → After Short (λ call. Short) next back → Short back
    after-short (nexts.Send call) back p = p
    after-short nexts.Wait back p = p
    after-short (nexts.Done answer) back p = p

    same-pieces : (offset : ℕ) (bytes : List ℕ) (number : ℕ) (of : FilePending) → AreShort of.pieces → AreShort (with_bytes offset bytes number of).pieces
    same-pieces offset [] number of fit = fit
    same-pieces offset (b ∷ bs) number of fit = fit

    carries : (turn : Turn) → Carries wsize turn (λ f o b n. Unit {0}) (λ c. Unit {0}) Short (λ call. Short)
    carries turn = record {
      goes = λ by_reply s back next new after g p. short-after (syncs.sync_next next) after (goes-kept Short wsize 0 turn.xid (kept wsize 0 turn.xid small) turn.room by_reply s back next new after g p);
      adds = λ file offset bytes number old new a on p. on-short old new file _ on (same-pieces offset bytes number (of_file file old)) p;
      cuts = λ file size upto old new on p. on-short old new file (with_cut size upto (of_file file old)) on (λ fit. fit) p;
      gives = λ file old new quiet on p. on-short old new file nothing on (λ fit. tt) p;
      plain = λ call back f p. p;
    }

    replies : (sent turn : Turn) (came : Result Reply Fault) → CarriesReply wsize sent turn came (λ s b. Unit {0}) Short (λ call. Short)
    replies sent turn came = record {
      takes = λ repeats s back next new after later t n p. short-after (syncs.sync_next next) after (takes-kept Short wsize sent turn (kept wsize sent.xid turn.xid small) came repeats s back next new after later t p);
    }

    start-step : (turn : Turn) (machine : Machine) (old : Shelf) (next : Step) (new : Machine) (after : Shelf) → Starts wsize machine turn old next new after → Short old.back → Short after.back
    start-step turn machine old next new after s p =
        after-short next after.back
        (all-starts wsize turn (λ f o b n. Unit {0}) (λ c. Unit {0}) (λ call o. tt) Short (λ call. Short) (carries turn) machine old next new after (any-asks next new) (any-starts machine old.opens) p s)

    resume-step : (turn : Turn) (machine : Machine) (old : Shelf) (next : Step) (new : Machine) (after : Shelf) → Resumes wsize machine turn old next new after → Short old.back → Short after.back
    resume-step turn machine old next new after s p =
        after-short next after.back
        (all-resumes wsize turn (λ f o b n. Unit {0}) (λ c. Unit {0}) (λ call o. tt) Short (λ call. Short) (carries turn) machine old next new after (any-asks next new) p s)

    take-step : (sent turn : Turn) (came : Result Reply Fault) (machine : Machine) (old : Shelf) (next : Step) (new : Machine) (after : Shelf) → Takes wsize machine sent turn came old next new after
        → Short old.back → Short after.back
    take-step sent turn came machine old next new after s p =
        after-short next after.back
        (all-takes wsize turn (λ f o b n. Unit {0}) (λ c. Unit {0}) (λ call o. tt) Short (λ call. Short) (carries turn) sent came (λ s b. Unit {0}) (replies sent turn came) machine old next new after
        (any-asks next new) (any-brings machine) (any-saves machine) p s)

-- ---- along a history

module _ (setup : Setup) where
  -- the size is the session's, and each piece keeps to it
  pub record Sizes (v : View) : Type 0 where
    pub size : v.wsize ≡ setup.wsize
    pub short : Short setup.wsize v.shelf.back

  least : (v : View) → v.wsize ≡ setup.wsize → v.wsize ≤ setup.wsize
  least v is = omega (arith, is)

  leads-sizes : (v new : View) (at number : ℕ) (machine : Machine) (next : Step) → Sizes v → Leads v at number machine next new → Sizes new
  leads-sizes v new at number machine (nexts.Send call) s (inl m) = subst Sizes (sym m.is) (record { size = s.size; short = s.short })
  leads-sizes v new at number machine (nexts.Send call) s (inr f) = subst Sizes (sym f.is) (record {
    size = s.size;
    short = take-step setup.wsize v.wsize (least v s.size) (turn_at v) (unmade_turn v) (Err f.fault) machine v.shelf f.next f.after f.left f.takes s.short;
  })
  leads-sizes v new at number machine nexts.Wait s is = subst Sizes (sym is) s
  leads-sizes v new at number machine (nexts.Done answer) s is = subst Sizes (sym is) (record { size = s.size; short = s.short })

  stirs-sizes : (h : List Entry) (old new : View) (at : ℕ) → Known setup h old → Stirs old at new → Sizes old → Sizes new
  stirs-sizes h old new at k t s =
      leads-sizes (with_state old at t.number (Busy t.after) t.shelf) new at t.number t.after t.next
      (record { size = s.size; short = resume-step setup.wsize old.wsize (least old s.size) (turn_at old) t.machine old.shelf t.next t.after t.shelf t.resumes s.short }) t.leads

  starts-sizes : (machine_of : ℕ → Op → Machine) (old new : View) (lane : ℕ) (op : Op) (now : ℕ) → StartsLane (counted old now) lane (machine_of lane op) new → Sizes old → Sizes new
  starts-sizes machine_of old new lane op now t s =
      leads-sizes (record (counted old now) { lanes = old.lanes ++ record { number = lane; state = Busy t.after } ∷ []; shelf = t.shelf }) new (length old.lanes) lane t.after t.next
      (record { size = s.size; short = start-step setup.wsize old.wsize (least old s.size) (turn_at (counted old now)) (machine_of lane op) old.shelf t.next t.after t.shelf t.starts s.short }) t.leads

  takes-sizes : (old new : View) (rec : List ℕ) (xid : ℕ) (call : Waiting Purpose) (at : ℕ) → TakesAt (taken_one old xid) at call.purpose.sent (said_of call.purpose.proc rec) new → Sizes old → Sizes new
  takes-sizes old new rec xid call at t s =
      leads-sizes (with_state (taken_one old xid) at t.number (Busy t.after) t.shelf) new at t.number t.after t.next
      (record {
        size = s.size;
        short = take-step setup.wsize old.wsize (least old s.size) call.purpose.sent (turn_at (taken_one old xid)) (said_of call.purpose.proc rec) t.machine old.shelf t.next t.after t.shelf t.takes s.short;
      }) t.leads

pub reached-short : (m : Mounted) (setup : Setup) (h : List Entry) (v : View) → Reaches (machine_of m) setup h v → v.lost ≡ false → Short setup.wsize v.shelf.back
reached-short m setup h v r found = (reached-hearing (machine_of m) (begins-unbegun m) setup (λ g u. Sizes setup u) laws h v r found).short
  where
    laws : KeepsHearing (machine_of m) setup (λ g u. Sizes setup u)
    laws = record {
      fresh = λ g u may up fresh. record { size = fresh.wsize; short = subst (Short setup.wsize) (sym fresh.back) (λ file. tt) };
      stirs = λ g old new at k t s. stirs-sizes setup g old new at k t s;
      starts = λ g old new lane line op now r before k idle fits t s. starts-sizes setup (machine_of m) old new lane op now t s;
      takes = λ g old new rec xid call at r before k fin hears named waits there t s. takes-sizes setup old new rec xid call at t s;
      answers = λ g old new at lane line answer k a s. subst (Sizes setup) (sym a.is) (record { size = s.size; short = s.short });
      same = λ g e old new plain lanes shelf wsize calls s. record { size = wsize ∙ s.size; short = subst (λ (l : Shelf). Short setup.wsize l.back) (sym shelf) s.short };
    }
