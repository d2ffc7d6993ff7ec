-- A session goes on by a script, or ends so.
use Rattle.std.proofs.Common.{◌≡◌, ◌≢◌, ◌≤◌, ◌⊎◌, ◌∙◌, ap, sym, inl, inr, ℕ, refl, List, [], ◌∷◌, ◌++◌, All, length, Some, None, Ok, Err, arith}
use Rattle.xdr_codec.specs.declared.blob.Memory.{Memory}
use Rattle.world_model.specs.declared.entry.Entry.{Entry}
use Rattle.nfs_script.specs.Asked.{IsAskedLine}
use Rattle.nfs_script.specs.declared.script.ScriptLine.{ScriptLine}
use Rattle.client_core.specs.declared.setup.Setup.{Setup}
use Rattle.op_machines.specs.declared.begun.Mounted.{Mounted}
use Rattle.lane_session.specs.declared.running.Session.{Session}
use Rattle.lane_session.specs.Bonds.{Bonded, Start}
use Rattle.lane_session.specs.Going.{Goes}
use Rattle.asked_runs.specs.Asking.{Round}
use Rattle.asked_runs.specs.Running.{RunsNext, RunsTo}
use Rattle.asked_runs.specs.Statuses.{EndsBy, IsEnding, is_kept, is_lost}
use Rattle.asked_runs.proofs.Cuts.{up-cut}
use Rattle.asked_runs.proofs.UpTo.{UpTo, up-next, up-over}

-- a session that went with the history before its first script goes so far
abbrev pub UpIn : (List Round → Type 0) → List ScriptLine → Session → List ScriptLine → Session → List ℕ → List Entry → List Entry → Type 0
UpIn Asked first session script s given h k =
    (m : Mounted) (setup : Setup) (start : Start) → Goes [] (length h) first h session → Bonded m setup start h session → UpTo m setup start Asked script s given h k

module _ (m : Mounted) (setup : Setup) (start : Start) (Asked After : List Round → Type 0) (Asks : Round → Type 0)
    (on : (round : Round) → Asks round → (rounds : List Round) → Asked rounds → After (rounds ++ round ∷ [])) (script : List ScriptLine) (may : All IsAskedLine script)
    (s new : Session) (given given_now : List ℕ) (h k l : List Entry) (u : UpTo m setup start Asked script s given h k) where
  -- the next script
  pub step-on : (next : List ScriptLine) → RunsNext Asks script s new (Ok (Some next)) given_now k l → UpTo m setup start After next new (given ++ given_now) h l
  step-on next r =
      up-next m setup start Asked After Asks on script may s r.mid r.answers given given_now h k l u r.runs next new r.finds.0 r.finds.1 r.finds.2

  -- there is none, or the session is lost
  pub step-ends : (status : ℕ) → EndsBy new.status status → RunsNext Asks script s new (Ok None) given_now k l → RunsTo After m setup start.from (Ok status) (given ++ given_now) h l
  step-ends status ends r = by ends r.finds.1
    where
      same : r.mid.status ≡ new.status
      same = ap (λ (t : Session). t.status) (sym r.finds.0)

      over : IsEnding status → (status ≡ 6 → r.mid.status ≡ 6) → (status ≤ 1 → r.mid.status ≢ 6) → (status ≤ 1 → Asks (record { answers = r.answers; status = r.mid.status; script = None }))
          → RunsTo After m setup start.from (Ok status) (given ++ given_now) h l
      over ending lost kept asks = up-over m setup start Asked After Asks on script may s r.mid r.answers given given_now h k l u r.runs (Ok status) ending lost kept asks

      by : EndsBy new.status status → (r.mid.status ≡ 6) ⊎ Asks (record { answers = r.answers; status = r.mid.status; script = None })
          → RunsTo After m setup start.from (Ok status) (given ++ given_now) h l
      by (is_lost own six) a = over (inl (inr six)) (λ now. same ∙ own) (λ few. absurd (omega (arith, few, six))) (λ few. absurd (omega (arith, few, six)))
      by (is_kept other few) (inl six) = absurd (other (sym same ∙ six))
      by (is_kept other few) (inr asks) = over (inl (inl few)) (λ six. absurd (omega (arith, few, six))) (λ now six. other (sym same ∙ six)) (λ now. asks)

  -- it is cut off
  pub step-stops : (e : Memory) → RunsNext Asks script s new (Err e) given_now k l → RunsTo After m setup start.from (Err e) (given ++ given_now) h l
  step-stops e (inl cut) = up-cut m setup start Asked After script may s given given_now h k l u e cut
  step-stops e (inr r) =
      up-over m setup start Asked After Asks on script may s r.mid r.answers given given_now h k l u r.runs (Err e) (inr refl)
      (λ six. absurd (omega (arith, six))) (λ few. absurd (omega (arith, few))) (λ few. absurd (omega (arith, few)))
