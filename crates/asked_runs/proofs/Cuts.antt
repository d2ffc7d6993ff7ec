-- A session that is cut off: in the lines of a script, or before them.
use Rattle.std.proofs.Common.{◌≤◌, inl, inr, ℕ, List, [], ◌++◌, All, length, Err, refl, sym, ap, ◌∙◌, append_assoc, arith}
use Rattle.xdr_codec.specs.declared.blob.Memory.{Memory}
use Rattle.world_model.specs.declared.entry.Entry.{Entry}
use Rattle.world_model.specs.Clocked.{clocks}
use Rattle.nfs_script.specs.Asked.{IsAskedLine}
use Rattle.nfs_script.specs.declared.script.ScriptLine.{ScriptLine}
use Rattle.client_core.specs.declared.setup.Setup.{Setup}
use Rattle.op_machines.specs.declared.begun.Mounted.{Mounted}
use Rattle.lane_session.specs.declared.halt.Halt.{Halt}
use Rattle.lane_session.specs.declared.halt.Halt.TheVariants as halts
use Rattle.lane_session.specs.declared.running.Session.{Session}
use Rattle.lane_session.specs.Bonds.{Start}
use Rattle.lane_session.specs.Going.{Went}
use Rattle.lane_session.specs.Holding.{IsHeld}
use Rattle.lane_session.specs.Statuses.{IsLeft}
use Rattle.lane_session.proofs.Marking.{unstarted}
use Rattle.script_runs.proofs.Finishing.{all-append}
use Rattle.asked_runs.specs.Asking.{Round}
use Rattle.asked_runs.specs.Runs.{entries_in, lines_in}
use Rattle.asked_runs.specs.Running.{IsCut, RunsTo}
use Rattle.asked_runs.proofs.UpTo.{UpTo}

left-few : (halt : Halt) (last : List ℕ) → IsLeft halt last → length last ≤ 1
left-few halts.Output last is = let none = ap length is in omega (arith, none)
left-few halts.Memory last is = is

-- nothing was done of its lines
pub cut-none : (script : List ScriptLine) (s : Session) (h : List Entry) → IsHeld script s → IsCut script s [] h h
cut-none script s h held = record {
  halt = halts.Memory;
  text = [];
  cuts = unstarted [] script h h s s [] held.seated.sixteen (omega arith) (inl refl);
}

-- in its lines
pub up-cut : (m : Mounted) (setup : Setup) (start : Start) (Asked After : List Round → Type 0) (script : List ScriptLine) (may : All IsAskedLine script) (s : Session) (given given_now : List ℕ) (h k l : List Entry)
    → UpTo m setup start Asked script s given h k → (e : Memory) → IsCut script s given_now k l → RunsTo After m setup start.from (Err e) (given ++ given_now) h l
up-cut m setup start Asked After script may s given given_now h k l u e c =
    let more : List Entry = c.cuts.grown.0 in
    let w : Went (lines_in u.parts) (length k) script l = c.cuts.went (lines_in u.parts) (length k) u.goes in
    record {
      session = record {
        parts = u.parts;
        rest = script;
        last = more;
        are = u.are;
        history = c.cuts.grown.1 ∙ ap (λ (t : List Entry). t ++ more) u.history ∙ append_assoc h (entries_in u.parts) more;
        whole = λ uncut. absurd (uncut refl);
        lost = λ six. absurd (omega (arith, six));
        kept = λ few. absurd (omega (arith, few));
        ending = inr refl;
        follows = record { alternates = w.alternates; begins = w.begins };
        clock = record {
          last = c.cuts.last;
          is = sym (append_assoc (clocks h) given given_now) ∙ ap (λ (t : List ℕ). t ++ given_now) (sym u.clocked) ∙ c.cuts.clocked;
          few = left-few c.halt c.cuts.last c.cuts.left;
          whole = λ other. absurd (other refl);
        };
        timed = w.timed;
      };
      asked = λ few. absurd (omega (arith, few));
      may = all-append (lines_in u.parts) script u.may may;
      core = c.cuts.core (lines_in u.parts) (length k) u.goes m setup start u.bonded;
    }
