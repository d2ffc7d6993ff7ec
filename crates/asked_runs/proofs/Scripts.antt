-- One script, and what comes behind it, with what the clock gave.
use Rattle.std.proofs.Common.{◌≡◌, ℕ, inl, inr, List, [], Option, Some, Result, Ok, Err, sym, subst, ◌∙◌}
use Rattle.xdr_codec.specs.declared.blob.Memory.{Memory}
use Rattle.world_model.specs.History.{History}
use Rattle.outside.specs.Views.{SinkView}
use Rattle.nfs_script.specs.declared.script.ScriptLine.{ScriptLine}
use Rattle.lane_session.specs.declared.halt.Halt.{Halt}
use Rattle.lane_session.specs.declared.running.Session.{Session}
use Rattle.lane_session.specs.Going.{GoesBy}
use Rattle.lane_session.specs.Holding.{IsHeld}
use Rattle.lane_session.specs.Ports.{KeepsPort}
use Rattle.lane_session.specs.Streams.{Passes}
use Rattle.script_runs.specs.Scripts.{IsOver}
use Rattle.asked_runs.specs.Asking.{Round}
use Rattle.asked_runs.specs.Running.{FindsNext, RunsNext, RunsScript, Shows}
use Rattle.asked_runs.proofs.Cuts.{cut-none}
use Rattle.asked_runs.proofs.Showing.{shows-less, shows-passes, shows-same}

module _ (r0 r1 : Option (List ℕ)) (t0 t1 : Option History) (script : List ScriptLine) (s new : Session) where
  -- what a sink in memory holds is what was written since it was empty
  pub script-ran : (sink : SinkView) → IsOver script new → Passes r0 r1 t0 t1 (Some []) (Some sink.written) (GoesBy {T = Unit {0}} [] script s new (Ok tt))
      → Shows r0 r1 t0 t1 (RunsScript script s new (Ok sink))
  script-ran sink over p =
      shows-passes r0 r1 t0 t1 (Some []) (Some sink.written) (GoesBy {T = Unit {0}} [] script s new (Ok tt)) (RunsScript script s new (Ok sink))
      (λ given text added h k goes. record { goes = subst (λ (t : List ℕ). GoesBy {T = Unit {0}} [] script s new (Ok tt) given t h k) (sym added) goes; over = over }) p

  pub script-cut : (w0 w1 : Option (List ℕ)) (halt : Halt) (e : Memory) → Passes r0 r1 t0 t1 w0 w1 (GoesBy {T = Unit {0}} [] script s new (Err halt))
      → Shows r0 r1 t0 t1 (RunsScript script s new (Err e))
  script-cut w0 w1 halt e p =
      shows-passes r0 r1 t0 t1 w0 w1 (GoesBy {T = Unit {0}} [] script s new (Err halt)) (RunsScript script s new (Err e))
      (λ given text added h k cuts. record { halt = halt; text = text; cuts = cuts }) p

-- memory ran out before
pub script-none : (r : Option (List ℕ)) (t : Option History) (script : List ScriptLine) (s : Session) (e : Memory) → IsHeld script s → Shows r r t t (RunsScript script s s (Err e))
script-none r t script s e held = shows-same r t (RunsScript script s s (Err e)) (λ h. cut-none script s h held)

-- ---- what comes behind it

module _ (r0 r1 : Option (List ℕ)) (t0 t1 : Option History) (Asks : Round → Type 0) (script : List ScriptLine) (s mid new : Session) where
  pub found-shows : (sink : SinkView) (result : Result (Option (List ScriptLine)) Memory) → FindsNext Asks script sink.written mid new result
      → Shows r0 r1 t0 t1 (RunsScript script s mid (Ok sink)) → Shows r0 r1 t0 t1 (RunsNext Asks script s new result)
  found-shows sink (Ok next) finds p =
      shows-less r0 r1 t0 t1 (RunsScript script s mid (Ok sink)) (RunsNext Asks script s new (Ok next))
      (λ given h k runs. record { mid = mid; answers = sink.written; runs = runs; finds = finds }) p
  found-shows sink (Err e) finds p =
      shows-less r0 r1 t0 t1 (RunsScript script s mid (Ok sink)) (RunsNext Asks script s new (Err e))
      (λ given h k runs. inr (record { mid = mid; answers = sink.written; runs = runs; finds = finds })) p

  pub stop-shows : (e : Memory) → Shows r0 r1 t0 t1 (RunsScript script s mid (Err e)) → Shows r0 r1 t0 t1 (RunsNext Asks script s new (Err e))
  stop-shows e p = shows-less r0 r1 t0 t1 (RunsScript script s mid (Err e)) (RunsNext Asks script s new (Err e)) (λ given h k cut. inl cut) p

-- the session's port stays
pub port-same : (p q r : ℕ) (a b : Option History) → KeepsPort p q a b → r ≡ q → KeepsPort p r a b
port-same p q r a b k is = record { same = is ∙ k.same; only = k.only }
