-- A session of batches over its set-up.
use Rattle.std.proofs.Common.{◌≡◌, inr, ℕ, List, [], ◌∷◌, true, Option, Some, None, Result, Err, refl, sym, ap, ◌∙◌, append-nil, arith}
use Rattle.world_model.specs.declared.entry.Entry.{Entry}
use Rattle.world_model.specs.declared.tally.Tally.{Tally}
use Rattle.world_model.specs.Counts.{tally_of}
use Rattle.world_model.specs.History.{History}
use Rattle.world_model.specs.Told.{Relates}
use Rattle.nfs_script.specs.declared.script.ScriptLine.{ScriptLine}
use Rattle.page_cache.specs.Sound.{IsSound as AreSoundPages}
use Rattle.client_core.specs.declared.setup.Setup.{Setup}
use Rattle.core_facts.specs.Reaches.{MaySetUp}
use Rattle.session_words.specs.declared.settings.Settings.{Settings}
use Rattle.script_batches.specs.Batches.{Read}
use Rattle.lane_session.specs.declared.running.Session.{Session}
use Rattle.lane_session.specs.Bonds.{IsOpened, Start}
use Rattle.lane_session.specs.Running.{IsFreshFor, mounted_by}
use Rattle.lane_session.specs.Streams.{Passes}
use Rattle.lane_session.proofs.CoreEnds.{told-none}
use Rattle.lane_session.proofs.Ending.{broken-none, fresh-goes}
use Rattle.lane_session.proofs.Passing.{appends_same, passes_less, reads_same}
use Rattle.lane_session.proofs.Reaching.{fresh-bonded}
use Rattle.batch_runs.specs.declared.answered.Answered.{Answered}
use Rattle.batch_runs.specs.declared.stop.Stop.{Stop}
use Rattle.batch_runs.specs.declared.stop.Stop.TheVariants as stops
use Rattle.batch_runs.specs.Running.{FromBatch, IsRead, RunsIn, RunsOver, in_front}
use Rattle.batch_runs.specs.Runs.{cut_between}

abbrev counted_from : List Entry → Start
counted_from h = record { from = h; counted = true }

-- a session that is new goes with the set-up
pub over-told : (s : Settings) (setup : Setup) (session : Session) (tally : Tally) (first : List ScriptLine) (old : Answered) (left : Option (List Read)) (result : Result ℕ Stop) (given text : List ℕ)
    (h k : List Entry) → MaySetUp setup → IsFreshFor s setup session → session.counts.tally ≡ tally
    → IsRead first left (λ l. RunsIn s.count first session old l result given text h k) → IsOpened (Some setup) h → tally ≡ tally_of h
    → IsRead first left (λ l. RunsOver s setup old l result given text h k)
over-told s setup session tally first old left result given text h k may f counts r o is batch asks =
    let bonded = fresh-bonded s setup (counted_from h) session h may f refl (λ so. counts ∙ is) o in
    let t = r batch asks (mounted_by s setup) setup (counted_from h) refl (fresh-goes first s setup session f h o.0.unmarked) bonded in
    record { runs = t.runs; core = t.core }

-- memory ran out before
pub none-told : (t : Option History) (s : Settings) (setup : Setup) (tally : Tally) (first : List ScriptLine) (old : Answered) (left : Option (List Read)) → MaySetUp setup → AreSoundPages setup.pages
    → Relates t t (λ h k. IsOpened (Some setup) h → tally ≡ tally_of h → IsRead first left (λ l. RunsOver s setup old l (Err stops.Memory) [] [] h k))
none-told None s setup tally first old left may sound = tt
none-told (Some x) s setup tally first old left may sound = λ o is batch asks.
    let b = broken-none [] x.entries o.0.unmarked in
    record {
      runs = record {
        parts = [];
        rest = record { more = all batch left; lines = []; entries = []; text = [] };
        are = tt;
        read = read batch left;
        ends = cut_between (inr refl) (record { lines = refl; entries = refl; text = refl });
        history = sym (append-nil x.entries);
        written = refl;
        follows = b.follows;
        together = λ n bytes at le k lane line op there. absurd cc;
        clock = record { last = []; is = refl; few = omega arith; whole = λ other. refl };
        timed = b.timed;
        asked = λ n l lt. absurd (omega (arith, lt));
      };
      core = told-none (Some x) s setup may sound o;
    }
  where
    all : Read → Option (List Read) → List Read
    all batch None = []
    all batch (Some more) = batch ∷ more

    read : (batch : Read) (left : Option (List Read)) → FromBatch (in_front batch left) (all batch left)
    read batch None = tt
    read batch (Some more) = refl

-- ---- with what the clock gave and what was written

pub over-passes : (r0 r1 : Option (List ℕ)) (t0 t1 : Option History) (w0 w1 : Option (List ℕ)) (s : Settings) (setup : Setup) (session : Session) (tally : Tally) (first : List ScriptLine) (old : Answered)
    (left : Option (List Read)) (result : Result ℕ Stop) → MaySetUp setup → IsFreshFor s setup session → session.counts.tally ≡ tally
    → Passes r0 r1 t0 t1 w0 w1 (λ given text h k. IsRead first left (λ l. RunsIn s.count first session old l result given text h k))
    → Passes r0 r1 t0 t1 w0 w1 (λ given text h k. IsOpened (Some setup) h → tally ≡ tally_of h → IsRead first left (λ l. RunsOver s setup old l result given text h k))
over-passes r0 r1 t0 t1 w0 w1 s setup session tally first old left result may f counts p =
    passes_less r0 r1 t0 t1 w0 w1 (λ given text h k. IsRead first left (λ l. RunsIn s.count first session old l result given text h k))
    (λ given text h k. IsOpened (Some setup) h → tally ≡ tally_of h → IsRead first left (λ l. RunsOver s setup old l result given text h k))
    (λ given text h k r. over-told s setup session tally first old left result given text h k may f counts r) p

pub none-passes : (r : Option (List ℕ)) (t : Option History) (w : Option (List ℕ)) (s : Settings) (setup : Setup) (tally : Tally) (first : List ScriptLine) (old : Answered) (left : Option (List Read))
    → MaySetUp setup → AreSoundPages setup.pages
    → Passes r r t t w w (λ given text h k. IsOpened (Some setup) h → tally ≡ tally_of h → IsRead first left (λ l. RunsOver s setup old l (Err stops.Memory) given text h k))
none-passes r t w s setup tally first old left may sound = record {
  given = [];
  read = reads_same r;
  text = [];
  added = appends_same w;
  told = none-told t s setup tally first old left may sound;
}
