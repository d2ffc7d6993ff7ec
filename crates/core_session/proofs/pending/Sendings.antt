-- Each byte of a WRITE that waits may have been pending at a moment since the operation began that asks for it.
use Rattle.core_session.proofs.Prelude.{◌≡◌, ◌<◌, ◌≤◌, ◌+◌, ℕ, false, List, [], ◌∷◌, ◌++◌, length, Some, position, slice_get, refl, sym, subst, ◌∙◌, append_assoc, arith, Waiting, waiting_at, of_file, piece_under, Entry, Began, Answered, Delivered, Op, IsBusy, Ended, UnderWay, PendingWithin, Terms, RefusedWrite, At-below, said_of, Mounted, machine_of, Purpose, Busy, Setup, is_busy, numbers_of, TakesAt, View, KnowsRoot, Reaches, begins, GoesWith, begins-unbegun, taken_one, Known, taker-is, Runs, quiet-facts, lanes-under-way, number_of, to-map, PutsNamed}
use Rattle.write_back.specs.Pieces.{Sent}
use Rattle.core_session.proofs.calls.TableHeld.{AllNoted}
use Rattle.core_session.proofs.syncs.Ends.{answered-once}
use Rattle.core_session.proofs.syncs.Turning.{IsFixed, ready, gone, fixed-same, under-on}
use Rattle.core_session.proofs.syncs.WatchingAlong.{KeepsWatching, reached-watching}
use Rattle.core_session.proofs.pending.Bases.{AllSoon, NotedSoon, Based, came, based-same, based-starts, based-stirs, ended-on, rests}
use Rattle.core_session.proofs.pending.Flights.{Flights, Was, fresh-flights, stirs-flights, starts-flights, takes-flights, answers-flights, same-flights}
use Rattle.core_session.proofs.pending.Standing.{Stands}
use Rattle.core_session.proofs.pending.Unsettled.{refused-writer, stands-all}
use Rattle.core_session.proofs.pending.Onwards.{never-refused}
use Rattle.core_session.proofs.room.Onward.{Onward}

module _ (mt : Mounted) (terms : Terms) (setup : Setup) (H : List Entry) (V : View) (g : GoesWith mt terms setup H V) (roots : KnowsRoot terms.origin H mt.root) (puts_named : PutsNamed H) (f : List ℕ) (i : ℕ) where
  -- what stands of the newest bytes, and what is known of the WRITEs that wait
  record Stood (h : List Entry) (v : View) : Type 0 where
    stands : Stands mt terms setup H f i h v
    based : Based mt terms setup H V g f h v
    flights : (rest : List Entry) → h ++ rest ≡ H → Flights mt terms setup H V g f i h v

  abbrev all : KeepsWatching (machine_of mt) setup (Stands mt terms setup H f i)
  all = stands-all mt terms setup H V g roots puts_named f i

  stood-takes : (h : List Entry) (old new : View) (rec : List ℕ) (xid : ℕ) (call : Waiting Purpose) (at : ℕ) (k : Known setup h old) (noted : AllNoted old) (waits : waiting_at xid old.calls.calls ≡ Some call)
      → position (is_busy call.purpose.lane) old.lanes ≡ Some at → TakesAt (taken_one old xid) at call.purpose.sent (said_of call.purpose.proc rec) new → Stood h old
      → Stands mt terms setup H f i (h ++ Delivered rec ∷ []) new → (rest : List Entry) → (h ++ Delivered rec ∷ []) ++ rest ≡ H → Flights mt terms setup H V g f i (h ++ Delivered rec ∷ []) new
  stood-takes h old new rec xid call at k noted waits there t st now rest is =
      takes-flights mt terms setup H V g f i h rest rec is old new xid call at k waits t st.stands.wholly.flying number-of run.x run.op
      (subst (λ (n : ℕ). UnderWay h n run.x (length h) run.op) (sym number-of) run.under_way) runs
      (under-on h (Delivered rec) t.number run.x run.op (λ line answer e. absurd (cc e)) run.under_way) (now.phase rest is) (came h rec refl)
      now.guards.drops noted (st.flights (Delivered rec ∷ rest) (sym (append_assoc h (Delivered rec ∷ []) rest) ∙ is))
    where
      run : IsBusy h t.number (length h)
      run = (lanes-under-way h old k.lanes).busy at (record { number = t.number; state = Busy t.machine }) t.there

      number-of : call.purpose.lane ≡ t.number
      number-of = sym (taker-is setup h old xid call at k waits there t.number t.machine t.there)

      runs : Runs (h ++ Delivered rec ∷ []) t.number
      runs = (quiet-facts h (Delivered rec) (numbers_of old.lanes) (λ number. refl) k.lanes).busy at t.number (to-map number_of old.lanes at (record { number = t.number; state = Busy t.machine }) t.there)

  stood-all : KeepsWatching (machine_of mt) setup Stood
  stood-all = record {
    fresh = λ h v may up fresh. record {
      stands = all.fresh h v may up fresh;
      based = rests mt terms setup H V g f h v (begins h v may up fresh) fresh.lost;
      flights = λ rest is. fresh-flights mt terms setup H V g f i h v fresh;
    };
    stirs = λ h old new at k t st.
        let now = all.stirs h old new at k t st.stands in
        let based = based-stirs mt terms setup H V g f h old new at k t st.stands.guards.drops st.based in
        record {
          stands = now;
          based = based;
          flights = λ rest is. stirs-flights mt terms setup H V g f i h rest is old new at k t st.stands.wholly.flying (now.phase rest is) based now.guards.drops (st.flights rest is);
        };
    starts = λ h old new lane line op at r found k idle fits t st.
        let now = all.starts h old new lane line op at r found k idle fits t st.stands in
        let based = based-starts mt terms setup H V g f h old new lane line op at r found idle t in
        record {
          stands = now;
          based = based;
          flights = λ rest is. starts-flights mt terms setup H V g f i h rest lane line op is old new at k idle t st.stands.wholly.flying (now.phase rest is) based now.guards.drops
              (st.flights (Began lane line op ∷ rest) (sym (append_assoc h (Began lane line op ∷ []) rest) ∙ is));
        };
    takes = λ h old new rec xid call at r found k fin hears named waits there t st.
        let now = all.takes h old new rec xid call at r found k fin hears named waits there t st.stands in
        record { stands = now; based = came h rec refl; flights = λ rest is. stood-takes h old new rec xid call at k hears.may.noted waits there t st now rest is };
    answers = λ h old new at lane line answer r found k r2 found2 open_line a st. record {
      stands = all.answers h old new at lane line answer r found k r2 found2 open_line a st.stands;
      based = rests mt terms setup H V g f (h ++ Answered lane line answer ∷ []) new r2 found2;
      flights = λ rest is. answers-flights mt terms setup H V g f i h rest old new at lane line answer is k open_line a
          (st.flights (Answered lane line answer ∷ rest) (sym (append_assoc h (Answered lane line answer ∷ []) rest) ∙ is));
    };
    same = λ h e old new r found k plain noted sends lanes shelf wsize calls st. record {
      stands = all.same h e old new r found k plain noted sends lanes shelf wsize calls st.stands;
      based = based-same mt terms setup H V g f h e old new r found plain (fixed-same h e old new plain lanes) shelf;
      flights = λ rest is. same-flights mt terms setup H V g f i h rest e old new is (λ b came_. (noted b came_).noted) plain lanes shelf calls (st.flights (e ∷ rest) (sym (append_assoc h (e ∷ []) rest) ∙ is));
    };
  }

  -- of a WRITE that waits, for an operation under way, when no answer is ready
  pub carried-pending : (h rest : List Entry) → h ++ rest ≡ H → (v : View) → Reaches (machine_of mt) setup h v → v.lost ≡ false → AllNoted v → Onward (machine_of mt) setup h v H V
      → (xid : ℕ) (w : Waiting Purpose)
      → waiting_at xid v.calls.calls ≡ Some w → (x : ℕ) (op : Op) → UnderWay h w.purpose.lane x (length h) op → (piece : Sent) → piece_under xid (of_file f v.shelf.back).pieces ≡ Some piece
      → (k byte : ℕ) → i ≡ piece.offset + k → slice_get piece.bytes k ≡ Some byte → PendingWithin terms.modes terms.origin H x (length h) f i byte
  carried-pending h rest is v r found noted on xid w waits x op u piece there k byte at has =
      record { n = length s.past; moment = record { late = s.late; soon = s.soon }; pending = s.pending unrefused soon }
    where
      s : Was mt terms setup H V g f i x h v byte
      s = (reached-watching (machine_of mt) (begins-unbegun mt) setup Stood stood-all h v r found).flights rest is xid w waits x op u piece there k byte at has

      unrefused : RefusedWrite H s.w → ⊥
      unrefused refused =
          let writer = refused-writer H s.w refused in
          let good = s.well writer in
          never-refused mt setup H V h rest is v r on s.w writer good.0 good.1 refused

      soon : AllSoon H s.past s.seen
      soon y a was = by (s.fixes y a was)
        where
          by : IsFixed h v y a → NotedSoon H (length s.past) y a
          by (ready j n o lane under) = absurd (noted j n a lane)
          by (gone lane z o ended) = record {
            lane = lane;
            op = o;
            z = z;
            ended = whole ended;
            none = λ d b came_ from to.
                let below = At-below h z (Answered lane ended.line a) ended.answered in
                let before = s.after d b came_ from (omega (arith, to, below)) y a was in
                let same = answered-once H y lane before.lane z before.y o before.op a before.answer (whole ended) before.ended in
                let early = before.before in
                omega (arith, same, early, to);
          }
            where
              whole : Ended h lane y o z a → Ended H lane y o z a
              whole e = ended-on h rest H is lane y o z a e
