-- Each step of a lane, in the view: where an operation begins, goes on, or takes what came of a call.
use Rattle.core_counts.proofs.Prelude.{◌≡◌, ◌≤◌, ◌+◌, ◌-◌, ◌⊎◌, inl, inr, ℕ, Bool, true, false, nat_eq, List, [], ◌∷◌, ◌++◌, length, Option, Some, None, option_map, position, Result, refl, sym, ap, subst, ◌∙◌, arith, Waiting, next_xid, waiting_at, Fault, Entry, Call, Reply, Op, said_of, Pending, LaneFile, Turn, Step, Saving, IsUnused, Mounted, Machine, machine_of, Purpose, Busy, Setup, is_busy, IsIdle, with_state, Stirs, counted, StartsLane, TakesAt, View, turn_at, in_flight, Counts, AreApart, counts-calls, begins-unbegun, Reaches, taken_one, flies_of, eqb-true, eqb-false, Known, taker-is, taker-one, lanes-under-way, at-set, at-push, SitsWith, LaneLive, set-other, unused-next, waits-late, IsSent, Wholly, starts-has, resumes-has, takes-has, sent-piece, JobHas, JobBegins, JobOpens, job_save, save-is, job_kind, take-kind, Job, Owner, Content, SaveSo, ContentReplies, Tale, told, bases, Shelf}
use Rattle.core_facts.proofs.Orders.{seat_with, seat-own, seat-other, same-sits, leaves, joins}
use Rattle.core_facts.proofs.Placing.{Placed, seat_state, seat_in}
use Rattle.core_answers.proofs.writes.PiecesCarried.{starts-under, resumes-under, takes-under}
use Rattle.core_session.proofs.syncs.AllJobs.{BeginsFirst, JobFin, JobEnters, all-starts, all-resumes, all-takes}
use Rattle.core_session.proofs.syncs.Fates.{start-kind, resume-kind, live-lane, fresh-lane}
use Rattle.core_session.proofs.syncs.Jobs.{JobLaws}
use Rattle.core_session.proofs.syncs.Levels.{Before, BesideSo, SaveNow}
use Rattle.world_model.specs.declared.answer.Answer.TheVariants as answers
use Rattle.client_shelf.specs.declared.step.Step.TheVariants as nexts
use Rattle.op_machines.specs.declared.file_machine.FileMachine.TheVariants as files
use Rattle.op_machines.specs.declared.machine.Machine.TheVariants as machines
use Rattle.core_facts.proofs.AllSeats.{seat_of, IsLive, IsFreshFor, OfMachine, begins-fresh}
use Rattle.core_facts.proofs.AllSeats as seats
use Rattle.core_facts.proofs.Looks.{look-idle}
use Rattle.core_answers.proofs.writes.AllFits as fitting
use Rattle.core_counts.proofs.thrift.short.EvLanes.{EndKnown, GivesBy, end-known, leads-opens, unused-zero, free-after, asked-piece, own-seat, Landed, IsAsked, Unmade, leads}
use Rattle.core_counts.proofs.thrift.short.EvPassing.{Ways, Shown, job-in, enters}
use Rattle.core_counts.proofs.thrift.short.EvWorking.{Moves, job-laws, job-replies}

-- ---- what is read off the engines below

sends-live : (lane : ℕ) (base : ℕ → Option (List ℕ)) (least : 1 ≤ lane) (most : lane ≤ 16) (next : Step) (m : Machine) (order : List LaneFile)
    → OfMachine lane (SitsWith lane base) (leaves lane base) (joins lane base least most) next m order → (call : Call) → next ≡ nexts.Send call → IsLive lane m
sends-live lane base least most (nexts.Send other) m order s call is = s.0
sends-live lane base least most nexts.Wait m order s call is = absurd (cc)
sends-live lane base least most (nexts.Done answer) m order s call is = absurd (cc)

sends-count : (next : Step) (before : ℕ) (m : Machine) → Counts next before m → (call : Call) → next ≡ nexts.Send call → 1 ≤ in_flight m
sends-count (nexts.Send other) before m c call is = let more = c.0 in omega (arith, more)
sends-count nexts.Wait before m c call is = absurd (cc)
sends-count (nexts.Done answer) before m c call is = absurd (cc)

module _ (m : Mounted) (setup : Setup) (h : List Entry) (old : View) (k : Known setup h old) (wholly : Wholly setup h old) (placed : Placed old) (some : 1 ≤ old.wsize) where
  pub apart : AreApart old.lanes
  apart = (lanes-under-way h old k.lanes).apart

  unused : IsUnused (next_xid old.calls) old.shelf.back
  unused = unused-next setup h old k.rows wholly.flying.flown

  zero_ : IsUnused 0 old.shelf.back
  zero_ = unused-zero setup h old k.rows wholly.flying.flown

  first : 1 ≤ old.calls.first_xid
  first = k.rows.sound.calls.first

  -- where a lane's save stands
  save-seat : (base : ℕ → Option (List ℕ)) (number : ℕ) (machine : Machine) (o : List LaneFile) → SitsWith number base (seat_of machine) o → (z : Saving) → job_save machine ≡ Some z
      → SitsWith number base (Some z.file) o
  save-seat base number machine o sits z is = subst (λ (q : Option (List ℕ)). SitsWith number base q o) (save-is machine z is).seat_is sits

  module _ (f : List ℕ) (C D E : ℕ → Pending → Type 0) (t : Tale) where
    -- ---- it goes on

    module _ (new : View) (at : ℕ) (s : Stirs old at new) where
      abbrev pub live : LaneLive s.number s.machine
      live = placed.live at (record { number = s.number; state = Busy s.machine }) s.there

      abbrev pub stirred : View
      stirred = with_state old at s.number (Busy s.after) s.shelf

      seated : SitsWith s.number (bases f old.lanes) (seat_of s.machine) old.shelf.order
      seated = own-seat old.lanes old.shelf.order at s.number s.machine apart s.there placed.sits

      pub stirs-landed : (owner : Option (Owner f s.number (bases f old.lanes))) (tables : Shelf) (tables_are : tables ≡ new.shelf) (w : Ways f old.wsize (turn_at old) C D E t)
          → ((next : Step) → Moves C D E t.A (EndKnown (job_kind s.machine) next) (GivesBy tables (job_kind s.machine) next) t.Cut t.B next)
          → Unmade f old.wsize some s.number live.least live.most (bases f old.lanes) owner C D E t tables stirred (job_kind s.machine) → (Whole : Type 0)
          → (Whole → C old.shelf.seq old.shelf.back → D old.shelf.seq old.shelf.back) → C old.shelf.seq old.shelf.back
          → (job_save s.machine ≡ None → BesideSo f s.number (bases f old.lanes) owner old.shelf.seq old.shelf.back old.shelf.order)
          → ((z : Saving) → job_save s.machine ≡ Some z → SaveSo f s.number (bases f old.lanes) owner z old.shelf.seq old.shelf.back old.shelf.order)
          → JobHas (told f Whole t) s.machine old.shelf.seq old.shelf.back old.shelf.order
          → Landed f old.wsize some s.number live.least live.most (bases f old.lanes) owner C D E t old.lanes at (job_kind s.machine) new
      stirs-landed owner tables tables_are w moves u Whole whole content beside save tale = record {
        state = l.state;
        here = l.here;
        others = λ n other. l.others n other ∙ set-other old.lanes at n (record { number = s.number; state = Busy s.after }) other;
        shown = subst (λ (n : ℕ). Shown f old.wsize some s.number live.least live.most (bases f old.lanes) owner C D E t n l.state new.shelf.seq new.shelf.back new.shelf.order) kind l.shown;
      }
        where
          kind : job_kind s.after ≡ job_kind s.machine
          kind = resume-kind old.wsize (turn_at old) s.machine old.shelf s.next s.after s.shelf s.resumes

          j : Job
          j = job-in f old.wsize some s.number live.least live.most (bases f old.lanes) owner C D E t (turn_at old) w

          fin : JobFin (job-in f old.wsize some s.number live.least live.most (bases f old.lanes) owner C D E t (turn_at old) w) s.next s.after s.shelf.seq s.shelf.back s.shelf.order
          fin = all-resumes (job-in f old.wsize some s.number live.least live.most (bases f old.lanes) owner C D E t (turn_at old) w) s.number old.wsize (turn_at old) s.next
              (EndKnown (job_kind s.machine) s.next) (GivesBy tables (job_kind s.machine) s.next) s.machine old.shelf s.after s.shelf
              (subst (λ (n : ℕ). JobLaws (job-in f old.wsize some s.number live.least live.most (bases f old.lanes) owner C D E t (turn_at old) w) old.wsize n (turn_at old) s.next
              (EndKnown (job_kind s.machine) s.next) (GivesBy tables (job_kind s.machine) s.next)) (sym (live-lane s.number s.machine live.live))
              (job-laws f old.wsize some (turn_at old) s.number live.least live.most (bases f old.lanes) owner C D E w.c w.d w.e t.T t.X t.B w.mark w.apart_ends w.settles t.A t.Cut
              (EndKnown (job_kind s.machine) s.next) (GivesBy tables (job_kind s.machine) s.next) s.next (moves s.next) (u.puts s.next)))
              (end-known s.machine s.next tables s.shelf (λ fault same. leads-opens stirred new at s.number s.after s.next s.leads (answers.Refused fault) same ∙ sym tables_are)) s.resumes
              (enters f old.wsize some s.number live.least live.most (bases f old.lanes) owner C D E t (turn_at old) w Whole s.machine old.shelf.seq old.shelf.back old.shelf.order whole content unused
              (seat_of s.machine) seated beside save (save-seat (bases f old.lanes) s.number s.machine old.shelf.order seated) tale)

          asked : (call : Call) → s.next ≡ nexts.Send call → IsAsked f old.wsize some s.number live.least live.most (bases f old.lanes) owner C D E t stirred s.after
          asked call is = record {
            live = sends-live s.number (bases f old.lanes) live.least live.most s.next s.after s.shelf.order
                (seats.all-resumes s.number (SitsWith s.number (bases f old.lanes)) (leaves s.number (bases f old.lanes)) (joins s.number (bases f old.lanes) live.least live.most) s.machine
                old.wsize (turn_at old) old.shelf s.next s.after s.shelf live.live seated s.resumes) call is;
            some_wait = sends-count s.next (in_flight s.machine) s.after
                (counts-calls.resume old.wsize s.machine (turn_at old) old.shelf s.next s.after s.shelf s.resumes (k.known.right at (record { number = s.number; state = Busy s.machine }) s.there)) call is;
            sent = λ g flies. asked-piece (next_xid old.calls) s.next s.after s.shelf.back (resumes-has old.wsize (turn_at old) s.machine old.shelf s.next s.after s.shelf s.resumes unused)
                (fitting.all-resumes old.wsize (turn_at old) s.machine old.shelf s.next s.after s.shelf s.resumes) call is g flies;
          }

          l : Landed f old.wsize some s.number live.least live.most (bases f old.lanes) owner C D E t stirred.lanes at (job_kind s.after) new
          l = leads f old.wsize some s.number live.least live.most (bases f old.lanes) owner C D E t stirred new at s.after s.next (turn_at old) w tables tables_are
              (subst (Unmade f old.wsize some s.number live.least live.most (bases f old.lanes) owner C D E t tables stirred) (sym kind) u) refl
              (at-set old.lanes at (record { number = s.number; state = Busy s.machine }) (record { number = s.number; state = Busy s.after }) s.there)
              (free-after old.shelf.back s.shelf.back (resumes-under old.wsize (turn_at old) 0 (λ same. absurd (omega (arith, first, same))) s.machine old.shelf s.next s.after s.shelf s.resumes) zero_)
              asked fin s.leads

    -- ---- it takes what came of its call

    module _ (rec : List ℕ) (xid : ℕ) (call : Waiting Purpose) (at : ℕ) (r : Reaches (machine_of m) setup h old) (found : old.lost ≡ false) (waits : waiting_at xid old.calls.calls ≡ Some call)
        (place : position (is_busy call.purpose.lane) old.lanes ≡ Some at) (new : View) (s : TakesAt (taken_one old xid) at call.purpose.sent (said_of call.purpose.proc rec) new) where
      abbrev pub lively : LaneLive s.number s.machine
      lively = placed.live at (record { number = s.number; state = Busy s.machine }) s.there

      abbrev pub took : View
      took = with_state (taken_one old xid) at s.number (Busy s.after) s.shelf

      abbrev pub turn : Turn
      turn = turn_at (taken_one old xid)

      seated-here : SitsWith s.number (bases f old.lanes) (seat_of s.machine) old.shelf.order
      seated-here = own-seat old.lanes old.shelf.order at s.number s.machine apart s.there placed.sits

      pub taker : call.purpose.lane ≡ s.number
      taker = sym (taker-is setup h old xid call at k waits place s.number s.machine s.there)

      pub single : in_flight s.machine ≡ (in_flight s.machine - 1) + 1
      single = taker-one setup h old xid call at k waits place s.number s.machine s.there

      pub some-wait : 1 ≤ in_flight s.machine
      some-wait = let one = single in omega (arith, one)

      pieces : (g : List ℕ) → flies_of s.machine ≡ Some g → IsSent call.purpose.sent.xid g old.shelf.back
      pieces = sent-piece m setup h old r found xid call waits at s.number s.machine s.there taker wholly

      pub takes-landed : (owner : Option (Owner f s.number (bases f old.lanes))) (tables : Shelf) (tables_are : tables ≡ new.shelf) (w : Ways f old.wsize turn C D E t)
          → ((next : Step) → Moves C D E t.A (EndKnown (job_kind s.machine) next) (GivesBy tables (job_kind s.machine) next) t.Cut t.B next)
          → Unmade f old.wsize some s.number lively.least lively.most (bases f old.lanes) owner C D E t tables took (job_kind s.machine) → (M : Saving → Pending → Type 0)
          → ContentReplies old.wsize call.purpose.sent turn (said_of call.purpose.proc rec) M C → ContentReplies old.wsize call.purpose.sent turn (said_of call.purpose.proc rec) M D
          → ((z : Saving) → job_save s.machine ≡ Some z → M z old.shelf.back)
          → JobOpens t.A old.wsize s.machine call.purpose.sent turn (said_of call.purpose.proc rec) old.shelf s.next s.after s.shelf s.takes → (Whole : Type 0)
          → (Whole → C old.shelf.seq old.shelf.back → D old.shelf.seq old.shelf.back) → C old.shelf.seq old.shelf.back
          → (job_save s.machine ≡ None → BesideSo f s.number (bases f old.lanes) owner old.shelf.seq old.shelf.back old.shelf.order)
          → ((z : Saving) → job_save s.machine ≡ Some z → SaveSo f s.number (bases f old.lanes) owner z old.shelf.seq old.shelf.back old.shelf.order)
          → JobHas (told f Whole t) s.machine old.shelf.seq old.shelf.back old.shelf.order
          → Landed f old.wsize some s.number lively.least lively.most (bases f old.lanes) owner C D E t old.lanes at (job_kind s.machine) new
      takes-landed owner tables tables_are w moves u M rc rd known opens Whole whole content beside save tale = record {
        state = l.state;
        here = l.here;
        others = λ n other. l.others n other ∙ set-other old.lanes at n (record { number = s.number; state = Busy s.after }) other;
        shown = subst (λ (n : ℕ). Shown f old.wsize some s.number lively.least lively.most (bases f old.lanes) owner C D E t n l.state new.shelf.seq new.shelf.back new.shelf.order) kind l.shown;
      }
        where
          came : Result Reply Fault
          came = said_of call.purpose.proc rec

          kind : job_kind s.after ≡ job_kind s.machine
          kind = take-kind old.wsize turn call.purpose.sent (said_of call.purpose.proc rec) s.machine old.shelf s.next s.after s.shelf s.takes

          low : old.calls.first_xid ≤ xid
          low = waits-late old.calls.cred old.calls.first_xid (next_xid old.calls) xid old.calls.calls call k.rows.sound.calls.each waits

          sent-is : call.purpose.sent.xid ≡ xid
          sent-is = wholly.flying.flown.sents xid call.purpose (ap (option_map (λ (w : Waiting Purpose). w.purpose)) waits)

          fin : JobFin (job-in f old.wsize some s.number lively.least lively.most (bases f old.lanes) owner C D E t turn w) s.next s.after s.shelf.seq s.shelf.back s.shelf.order
          fin = all-takes (job-in f old.wsize some s.number lively.least lively.most (bases f old.lanes) owner C D E t turn w) s.number old.wsize turn s.next
              (EndKnown (job_kind s.machine) s.next) (GivesBy tables (job_kind s.machine) s.next) call.purpose.sent (said_of call.purpose.proc rec) (SaveNow call.purpose.sent M)
              (job-replies f old.wsize some turn s.number lively.least lively.most (bases f old.lanes) owner C D E w.c w.d w.e t.T t.X t.B w.mark w.apart_ends w.settles t.A t.Cut
              call.purpose.sent (said_of call.purpose.proc rec) M rc rd)
              s.machine old.shelf s.after s.shelf
              (subst (λ (n : ℕ). JobLaws (job-in f old.wsize some s.number lively.least lively.most (bases f old.lanes) owner C D E t turn w) old.wsize n turn s.next
              (EndKnown (job_kind s.machine) s.next) (GivesBy tables (job_kind s.machine) s.next)) (sym (live-lane s.number s.machine lively.live))
              (job-laws f old.wsize some turn s.number lively.least lively.most (bases f old.lanes) owner C D E w.c w.d w.e t.T t.X t.B w.mark w.apart_ends w.settles t.A t.Cut
              (EndKnown (job_kind s.machine) s.next) (GivesBy tables (job_kind s.machine) s.next) s.next (moves s.next) (u.puts s.next)))
              (end-known s.machine s.next tables s.shelf (λ fault same. leads-opens took new at s.number s.after s.next s.leads (answers.Refused fault) same ∙ sym tables_are)) s.takes opens
              (λ z saved. (
              let o = save-is s.machine z saved in
              record { waits = o.waits some-wait; it = λ sends. pieces z.file (o.flies_is some-wait sends); more = known z saved }))
              (enters f old.wsize some s.number lively.least lively.most (bases f old.lanes) owner C D E t turn w Whole s.machine old.shelf.seq old.shelf.back old.shelf.order whole content unused
              (seat_of s.machine) seated-here beside save (save-seat (bases f old.lanes) s.number s.machine old.shelf.order seated-here) tale)

          asked : (c : Call) → s.next ≡ nexts.Send c → IsAsked f old.wsize some s.number lively.least lively.most (bases f old.lanes) owner C D E t took s.after
          asked c is = record {
            live = sends-live s.number (bases f old.lanes) lively.least lively.most s.next s.after s.shelf.order
                (seats.all-takes s.number (SitsWith s.number (bases f old.lanes)) (leaves s.number (bases f old.lanes)) (joins s.number (bases f old.lanes) lively.least lively.most) s.machine
                old.wsize call.purpose.sent turn (said_of call.purpose.proc rec) old.shelf s.next s.after s.shelf (in_flight s.machine - 1) lively.live single seated-here s.takes) c is;
            some_wait = sends-count s.next (in_flight s.machine - 1) s.after
                (counts-calls.take old.wsize s.machine call.purpose.sent turn (said_of call.purpose.proc rec) old.shelf s.next s.after s.shelf (in_flight s.machine - 1) s.takes
                (k.known.right at (record { number = s.number; state = Busy s.machine }) s.there) single) c is;
            sent = λ g flies. asked-piece (next_xid old.calls) s.next s.after s.shelf.back
                (takes-has old.wsize turn call.purpose.sent (said_of call.purpose.proc rec) s.machine old.shelf s.next s.after s.shelf (in_flight s.machine - 1) single pieces s.takes unused)
                (fitting.all-takes old.wsize turn call.purpose.sent (said_of call.purpose.proc rec) s.machine old.shelf s.next s.after s.shelf (in_flight s.machine - 1) single s.takes) c is g flies;
          }

          l : Landed f old.wsize some s.number lively.least lively.most (bases f old.lanes) owner C D E t took.lanes at (job_kind s.after) new
          l = leads f old.wsize some s.number lively.least lively.most (bases f old.lanes) owner C D E t took new at s.after s.next turn w tables tables_are
              (subst (Unmade f old.wsize some s.number lively.least lively.most (bases f old.lanes) owner C D E t tables took) (sym kind) u) refl
              (at-set old.lanes at (record { number = s.number; state = Busy s.machine }) (record { number = s.number; state = Busy s.after }) s.there)
              (free-after old.shelf.back s.shelf.back
              (takes-under old.wsize turn call.purpose.sent (said_of call.purpose.proc rec) 0 (λ same. absurd (omega (arith, first, low, same, sent-is))) (λ same. absurd (omega (arith, first, same)))
              s.machine old.shelf s.next s.after s.shelf s.takes) zero_)
              asked fin s.leads

    -- ---- one begins

    module _ (new : View) (lane : ℕ) (op : Op) (now : ℕ) (idle : IsIdle lane old.lanes) (s : StartsLane (counted old now) lane (machine_of m lane op) new) where
      abbrev pub begun : View
      begun = record (counted old now) { lanes = old.lanes ++ record { number = lane; state = Busy s.after } ∷ []; shelf = s.shelf }

      none-seat : SitsWith lane (bases f old.lanes) None old.shelf.order
      none-seat = same-sits (λ n. seat_in n old.lanes) (seat_with lane None (λ n. seat_in n old.lanes)) old.shelf.order (λ n. none n (nat_eq n lane) refl) placed.sits
        where
          none : (n : ℕ) (b : Bool) → nat_eq n lane ≡ b → seat_with lane None (λ j. seat_in j old.lanes) n ≡ seat_in n old.lanes
          none n true d =
              let same = eqb-true n lane d in
              ap (λ (j : ℕ). seat_with lane None (λ i. seat_in i old.lanes) j) same ∙ seat-own lane None (λ i. seat_in i old.lanes)
              ∙ sym (ap (λ (j : ℕ). seat_in j old.lanes) same ∙ look-idle seat_state lane old.lanes idle.other)
          none n false d = seat-other lane n None (λ j. seat_in j old.lanes) (eqb-false n lane d)

      first-way : (o : Machine) → IsFreshFor lane o → BeginsFirst o
      first-way (machines.File o) fresh = tt
      first-way (machines.Path o) fresh = fresh.on_way
      first-way (machines.Name o) fresh = tt

      enters-new : (owner : Option (Owner f lane (bases f old.lanes))) (w : Ways f old.wsize (turn_at (counted old now)) C D E t) (o : Machine)
          → Before f old.wsize some (turn_at (counted old now)) lane idle.least idle.most (bases f old.lanes) owner C w.c old.shelf.seq old.shelf.back old.shelf.order
          → ((job_kind o ≡ 2) ⊎ (job_kind o ≡ 5) → Before f old.wsize some (turn_at (counted old now)) lane idle.least idle.most (bases f old.lanes) owner D w.d old.shelf.seq old.shelf.back old.shelf.order)
          → JobEnters (job-in f old.wsize some lane idle.least idle.most (bases f old.lanes) owner C D E t (turn_at (counted old now)) w) o old.shelf.seq old.shelf.back old.shelf.order
      enters-new owner w (machines.File (files.Open o)) p pa = p
      enters-new owner w (machines.File (files.Read o)) p pa = p
      enters-new owner w (machines.File (files.Write o)) p pa = p
      enters-new owner w (machines.File (files.Sync o)) p pa = pa (inl refl)
      enters-new owner w (machines.File (files.Close o)) p pa = pa (inr refl)
      enters-new owner w (machines.File (files.Truncate o)) p pa = p
      enters-new owner w (machines.File (files.Put o)) p pa = p
      enters-new owner w (machines.Path o) p pa = p
      enters-new owner w (machines.Name o) p pa = p

      pub starts-landed : (owner : Option (Owner f lane (bases f old.lanes))) (tables : Shelf) (tables_are : tables ≡ new.shelf) (w : Ways f old.wsize (turn_at (counted old now)) C D E t)
          → ((next : Step) → Moves C D E t.A (EndKnown (job_kind (machine_of m lane op)) next) (GivesBy tables (job_kind (machine_of m lane op)) next) t.Cut t.B next)
          → Unmade f old.wsize some lane idle.least idle.most (bases f old.lanes) owner C D E t tables begun (job_kind (machine_of m lane op))
          → JobBegins (job-in f old.wsize some lane idle.least idle.most (bases f old.lanes) owner C D E t (turn_at (counted old now)) w) (machine_of m lane op) old.shelf.opens
          → C old.shelf.seq old.shelf.back → ((job_kind (machine_of m lane op) ≡ 2) ⊎ (job_kind (machine_of m lane op) ≡ 5) → D old.shelf.seq old.shelf.back)
          → BesideSo f lane (bases f old.lanes) owner old.shelf.seq old.shelf.back old.shelf.order
          → Landed f old.wsize some lane idle.least idle.most (bases f old.lanes) owner C D E t begun.lanes (length old.lanes) (job_kind (machine_of m lane op)) new
      starts-landed owner tables tables_are w moves u begins content whole beside =
          subst (λ (n : ℕ). Landed f old.wsize some lane idle.least idle.most (bases f old.lanes) owner C D E t begun.lanes (length old.lanes) n new) kind l
        where
          kind : job_kind s.after ≡ job_kind (machine_of m lane op)
          kind = start-kind old.wsize (turn_at (counted old now)) (machine_of m lane op) old.shelf s.next s.after s.shelf s.starts

          before : (G : ℕ → Pending → Type 0) (g : Content old.wsize (turn_at (counted old now)) G) → G old.shelf.seq old.shelf.back
              → Before f old.wsize some (turn_at (counted old now)) lane idle.least idle.most (bases f old.lanes) owner G g old.shelf.seq old.shelf.back old.shelf.order
          before G g at = record { content = at; free = unused; other = beside; seat = record { seat = None; sits = none-seat } }

          fin : JobFin (job-in f old.wsize some lane idle.least idle.most (bases f old.lanes) owner C D E t (turn_at (counted old now)) w) s.next s.after s.shelf.seq s.shelf.back s.shelf.order
          fin = all-starts (job-in f old.wsize some lane idle.least idle.most (bases f old.lanes) owner C D E t (turn_at (counted old now)) w) lane old.wsize (turn_at (counted old now)) s.next
              (EndKnown (job_kind (machine_of m lane op)) s.next) (GivesBy tables (job_kind (machine_of m lane op)) s.next) (machine_of m lane op) old.shelf s.after s.shelf
              (subst (λ (n : ℕ). JobLaws (job-in f old.wsize some lane idle.least idle.most (bases f old.lanes) owner C D E t (turn_at (counted old now)) w) old.wsize n (turn_at (counted old now)) s.next
              (EndKnown (job_kind (machine_of m lane op)) s.next) (GivesBy tables (job_kind (machine_of m lane op)) s.next)) (sym (fresh-lane lane (machine_of m lane op) (begins-fresh m lane op)))
              (job-laws f old.wsize some (turn_at (counted old now)) lane idle.least idle.most (bases f old.lanes) owner C D E w.c w.d w.e t.T t.X t.B w.mark w.apart_ends w.settles t.A t.Cut
              (EndKnown (job_kind (machine_of m lane op)) s.next) (GivesBy tables (job_kind (machine_of m lane op)) s.next) s.next (moves s.next) (u.puts s.next)))
              (end-known (machine_of m lane op) s.next tables s.shelf (λ fault same. leads-opens begun new (length old.lanes) lane s.after s.next s.leads (answers.Refused fault) same ∙ sym tables_are)) (first-way (machine_of m lane op) (begins-fresh m lane op)) begins s.starts
              (enters-new owner w (machine_of m lane op) (before C w.c content) (λ is. before D w.d (whole is)))

          asked : (c : Call) → s.next ≡ nexts.Send c → IsAsked f old.wsize some lane idle.least idle.most (bases f old.lanes) owner C D E t begun s.after
          asked c is = record {
            live = sends-live lane (bases f old.lanes) idle.least idle.most s.next s.after s.shelf.order
                (seats.all-starts lane (SitsWith lane (bases f old.lanes)) (leaves lane (bases f old.lanes)) (joins lane (bases f old.lanes) idle.least idle.most) (machine_of m lane op)
                old.wsize (turn_at (counted old now)) old.shelf s.next s.after s.shelf (begins-fresh m lane op) none-seat s.starts) c is;
            some_wait = sends-count s.next 0 s.after
                (counts-calls.start old.wsize (machine_of m lane op) (turn_at (counted old now)) old.shelf s.next s.after s.shelf s.starts (begins-unbegun m lane op)) c is;
            sent = λ g flies. asked-piece (next_xid old.calls) s.next s.after s.shelf.back
                (starts-has old.wsize (turn_at (counted old now)) (machine_of m lane op) old.shelf s.next s.after s.shelf s.starts unused)
                (fitting.all-starts old.wsize (turn_at (counted old now)) (machine_of m lane op) old.shelf s.next s.after s.shelf s.starts) c is g flies;
          }

          l : Landed f old.wsize some lane idle.least idle.most (bases f old.lanes) owner C D E t begun.lanes (length old.lanes) (job_kind s.after) new
          l = leads f old.wsize some lane idle.least idle.most (bases f old.lanes) owner C D E t begun new (length old.lanes) s.after s.next (turn_at (counted old now)) w tables tables_are
              (subst (Unmade f old.wsize some lane idle.least idle.most (bases f old.lanes) owner C D E t tables begun) (sym kind) u) refl
              (at-push old.lanes (record { number = lane; state = Busy s.after }))
              (free-after old.shelf.back s.shelf.back (starts-under old.wsize (turn_at (counted old now)) 0 (λ same. absurd (omega (arith, first, same))) (machine_of m lane op) old.shelf s.next s.after s.shelf s.starts) zero_)
              asked fin s.leads
