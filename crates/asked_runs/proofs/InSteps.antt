-- A session goes on by a script, or ends so, with what the clock gave.
use Rattle.std.proofs.Common.{ℕ, List, ◌∷◌, [], ◌++◌, All, Option, Some, None, Ok, Err, append-nil, subst}
use Rattle.xdr_codec.specs.declared.blob.Memory.{Memory}
use Rattle.world_model.specs.History.{History}
use Rattle.nfs_script.specs.Asked.{IsAskedLine}
use Rattle.nfs_script.specs.declared.script.ScriptLine.{ScriptLine}
use Rattle.lane_session.specs.declared.running.Session.{Session}
use Rattle.lane_session.specs.Holding.{IsHeld}
use Rattle.asked_runs.specs.Asking.{Round}
use Rattle.asked_runs.specs.Running.{RunsIn, RunsNext, RunsTo, Shows, first_round}
use Rattle.asked_runs.specs.Statuses.{EndsBy}
use Rattle.asked_runs.proofs.Cuts.{cut-none, up-cut}
use Rattle.asked_runs.proofs.Showing.{shows-less, shows-same, shows-then}
use Rattle.asked_runs.proofs.Steps.{UpIn, step-ends, step-on, step-stops}
use Rattle.asked_runs.proofs.UpTo.{up-none}

module _ (A : Type 0) (asks : A → List Round → A → Type 0) (first : List ScriptLine) (old : A) where
  -- the calls for scripts since the first one
  abbrev pub Since : A → List Round → Type 0
  Since now rounds = (x : A) → asks x (first_round first) old → asks x rounds now

  -- one call more
  abbrev pub Calls : A → A → Round → Type 0
  Calls now after round = (x : A) (rounds : List Round) → asks x rounds now → asks x (rounds ++ round ∷ []) after

  one-on : (now after : A) (round : Round) → Calls now after round → (rounds : List Round) → Since now rounds → Since after (rounds ++ round ∷ [])
  one-on now after round calls rounds since x asked = calls x rounds (since x asked)

  module _ (session : Session) where
    pub in-none : (r : Option (List ℕ)) (t : Option History) → Shows r r t t (UpIn (Since old) first session first session)
    in-none r t = shows-same r t (UpIn (Since old) first session first session) (λ h m setup start goes bonded. up-none m setup start (Since old) first session h (λ x asked. asked) goes bonded)

    module _ (r0 r1 r2 : Option (List ℕ)) (t0 t1 t2 : Option History) (now after : A) (script : List ScriptLine) (may : All IsAskedLine script) (s new : Session)
        (u : Shows r0 r1 t0 t1 (UpIn (Since now) first session script s)) where
      pub in-on : (next : List ScriptLine) → Shows r1 r2 t1 t2 (RunsNext (Calls now after) script s new (Ok (Some next)))
          → Shows r0 r2 t0 t2 (UpIn (Since after) first session next new)
      in-on next p =
          shows-then r0 r1 r2 t0 t1 t2 (UpIn (Since now) first session script s) (RunsNext (Calls now after) script s new (Ok (Some next))) (UpIn (Since after) first session next new)
          (λ given given_now h k l up r m setup start goes bonded.
          step-on m setup start (Since now) (Since after) (Calls now after) (one-on now after) script may s new given given_now h k l (up m setup start goes bonded) next r) u p

      pub in-ends : (status : ℕ) → EndsBy new.status status → Shows r1 r2 t1 t2 (RunsNext (Calls now after) script s new (Ok None))
          → Shows r0 r2 t0 t2 (RunsIn (Since after) first session (Ok status))
      in-ends status ends p =
          shows-then r0 r1 r2 t0 t1 t2 (UpIn (Since now) first session script s) (RunsNext (Calls now after) script s new (Ok None)) (RunsIn (Since after) first session (Ok status))
          (λ given given_now h k l up r m setup start goes bonded.
          step-ends m setup start (Since now) (Since after) (Calls now after) (one-on now after) script may s new given given_now h k l (up m setup start goes bonded) status ends r) u p

      pub in-stops : (e : Memory) → Shows r1 r2 t1 t2 (RunsNext (Calls now after) script s new (Err e))
          → Shows r0 r2 t0 t2 (RunsIn (Since after) first session (Err e))
      in-stops e p =
          shows-then r0 r1 r2 t0 t1 t2 (UpIn (Since now) first session script s) (RunsNext (Calls now after) script s new (Err e)) (RunsIn (Since after) first session (Err e))
          (λ given given_now h k l up r m setup start goes bonded.
          step-stops m setup start (Since now) (Since after) (Calls now after) (one-on now after) script may s new given given_now h k l (up m setup start goes bonded) e r) u p

    -- no further script is run
    pub in-full : (r0 r1 : Option (List ℕ)) (t0 t1 : Option History) (now : A) (script : List ScriptLine) (may : All IsAskedLine script) (s : Session) (e : Memory) → IsHeld script s
        → Shows r0 r1 t0 t1 (UpIn (Since now) first session script s) → Shows r0 r1 t0 t1 (RunsIn (Since now) first session (Err e))
    in-full r0 r1 t0 t1 now script may s e held u =
        shows-less r0 r1 t0 t1 (UpIn (Since now) first session script s) (RunsIn (Since now) first session (Err e))
        (λ given h k up m setup start goes bonded.
        subst (λ (g : List ℕ). RunsTo (Since now) m setup start.from (Err e) g h k) (append-nil given) (up-cut m setup start (Since now) (Since now) script may s given [] h k k (up m setup start goes bonded) e (cut-none script s k held))) u
