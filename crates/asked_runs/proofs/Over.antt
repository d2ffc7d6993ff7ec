-- A session of scripts that are asked for, over its set-up.
use Rattle.std.proofs.Common.{◌≡◌, inr, ℕ, List, [], true, false, Option, Some, None, Result, Err, refl, sym, append-nil, arith}
use Rattle.xdr_codec.specs.declared.blob.Memory.{Memory}
use Rattle.world_model.specs.declared.entry.Entry.{Entry}
use Rattle.world_model.specs.History.{History}
use Rattle.world_model.specs.Told.{Relates}
use Rattle.nfs_script.specs.declared.script.ScriptLine.{ScriptLine}
use Rattle.page_cache.specs.Sound.{IsSound as AreSoundPages}
use Rattle.client_core.specs.declared.setup.Setup.{Setup}
use Rattle.core_facts.specs.Reaches.{MaySetUp}
use Rattle.session_words.specs.declared.settings.Settings.{Settings}
use Rattle.lane_session.specs.declared.running.Session.{Session}
use Rattle.lane_session.specs.Bonds.{IsOpened, Start}
use Rattle.lane_session.specs.Running.{IsFreshFor, mounted_by}
use Rattle.lane_session.proofs.CoreEnds.{told-none}
use Rattle.lane_session.proofs.Ending.{broken-none, fresh-goes}
use Rattle.lane_session.proofs.Passing.{reads_same}
use Rattle.lane_session.proofs.Reaching.{fresh-bonded}
use Rattle.asked_runs.specs.Asking.{Round}
use Rattle.asked_runs.specs.Running.{RunsIn, RunsOver, Shows}
use Rattle.asked_runs.proofs.Showing.{shows-less}

-- the calls of the set-up aren't counted here
abbrev from : List Entry → Start
from h = record { from = h; counted = false }

never : (P : Type 0) → false ≡ true → P
never P e = absurd cc

-- a session that is new goes with the set-up
pub over-shows : (r0 r1 : Option (List ℕ)) (t0 t1 : Option History) (Asked : List Round → Type 0) (s : Settings) (setup : Setup) (session : Session) (first : List ScriptLine) (result : Result ℕ Memory)
    → MaySetUp setup → IsFreshFor s setup session → Shows r0 r1 t0 t1 (RunsIn Asked first session result)
    → Shows r0 r1 t0 t1 (λ given h k. IsOpened (Some setup) h → RunsOver Asked s setup result given h k)
over-shows r0 r1 t0 t1 Asked s setup session first result may fresh p =
    shows-less r0 r1 t0 t1 (RunsIn Asked first session result) (λ given h k. IsOpened (Some setup) h → RunsOver Asked s setup result given h k)
    (λ given h k runs opened.
    runs (mounted_by s setup) setup (from h) (fresh-goes first s setup session fresh h opened.0.unmarked)
    (fresh-bonded s setup (from h) session h may fresh refl (λ so. never _ so) opened)) p

-- memory ran out before
pub none-shows : (r : Option (List ℕ)) (t : Option History) (Asked : List Round → Type 0) (s : Settings) (setup : Setup) (e : Memory) → MaySetUp setup → AreSoundPages setup.pages
    → Shows r r t t (λ given h k. IsOpened (Some setup) h → RunsOver Asked s setup (Err e) given h k)
none-shows r t Asked s setup e may sound = record { given = []; are = reads_same r; is = by t }
  where
    by : (t : Option History) → Relates t t (λ h k. IsOpened (Some setup) h → RunsOver Asked s setup (Err e) [] h k)
    by None = tt
    by (Some x) = λ opened.
        let none = broken-none [] x.entries opened.0.unmarked in
        record {
          session = record {
            parts = [];
            rest = [];
            last = [];
            are = tt;
            history = sym (append-nil x.entries);
            whole = λ uncut. (refl, refl);
            lost = λ seven. absurd (omega (arith, seven));
            kept = λ few. absurd (omega (arith, few));
            ending = inr refl;
            follows = none.follows;
            clock = record { last = []; is = refl; few = omega arith; whole = λ other. refl };
            timed = none.timed;
          };
          asked = λ few. absurd (omega (arith, few));
          may = λ n l lt. absurd (omega (arith, lt));
          core = told-none (Some x) s setup may sound opened;
        }
