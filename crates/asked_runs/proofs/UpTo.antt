-- A session on its way: the scripts that were run so far, and the one before whose lines it stands.
use Rattle.std.proofs.Common.{◌≡◌, ◌≢◌, ◌≤◌, ℕ, List, [], ◌∷◌, ◌++◌, All, length, drop, Option, Some, None, Result, refl, sym, ap, subst, ◌∙◌, append-nil, append_assoc, arith}
use Rattle.std.proofs.lemmas.List.{append_cancel_left}
use Rattle.xdr_codec.specs.declared.blob.Memory.{Memory}
use Rattle.world_model.specs.declared.entry.Entry.{Entry}
use Rattle.world_model.specs.Clocked.{clocks}
use Rattle.world_model.specs.Follows.{Finishes, Follows}
use Rattle.world_model.specs.Transcript.{transcript}
use Rattle.nfs_script.specs.Asked.{IsAskedLine}
use Rattle.nfs_script.specs.declared.script.ScriptLine.{ScriptLine}
use Rattle.client_core.specs.declared.setup.Setup.{Setup}
use Rattle.op_machines.specs.declared.begun.Mounted.{Mounted}
use Rattle.lane_session.specs.declared.running.Session.{Session}
use Rattle.lane_session.specs.Bonds.{Bonded, Start}
use Rattle.lane_session.specs.Endings.{entries_of}
use Rattle.lane_session.specs.Going.{Goes}
use Rattle.lane_session.specs.Labels.{told_by}
use Rattle.lane_session.specs.Statuses.{HasStatus}
use Rattle.lane_session.specs.TogetherFrom.{TogetherFrom}
use Rattle.lane_session.proofs.Labels.{told-append, told-plain}
use Rattle.lane_session.proofs.Reaching.{core-of}
use Rattle.script_runs.specs.Scripts.{StandsBefore}
use Rattle.script_runs.proofs.Finishing.{all-append, script-finishes, script-follows}
use Rattle.asked_runs.specs.Asking.{Round}
use Rattle.asked_runs.specs.Runs.{AreKept, ArePartsFrom, Part, entries_in, last_status, lines_in}
use Rattle.asked_runs.specs.Running.{RunsTo, RunsWhole, first_round}
use Rattle.asked_runs.specs.Statuses.{IsEnding, ended_with}
use Rattle.asked_runs.proofs.Parts.{entries-more, kept-more, lines-more, parts-more, rounds-more, rounds-none, rounds_to, status-more}

-- The session stands before the lines of a script, which was asked for behind those that were run.
pub record UpTo (m : Mounted) (setup : Setup) (start : Start) (Asked : List Round → Type 0) (script : List ScriptLine) (s : Session) (given : List ℕ) (h k : List Entry) : Type 0 where
  pub parts : List Part
  pub are : ArePartsFrom h [] parts
  pub history : k ≡ h ++ entries_in parts
  pub clocked : clocks k ≡ clocks h ++ given
  pub bonded : Bonded m setup start k s
  pub may : All IsAskedLine (lines_in parts)
  pub kept : AreKept parts
  pub asked : Asked (rounds_to [] 0 parts (Some script))
  pub goes : Goes (lines_in parts) (length k) script k s

none-may : All IsAskedLine []
none-may n x lt = absurd (omega (arith, lt))

-- before the first script
pub up-none : (m : Mounted) (setup : Setup) (start : Start) (Asked : List Round → Type 0) (script : List ScriptLine) (s : Session) (h : List Entry) → Asked (first_round script)
    → Goes [] (length h) script h s → Bonded m setup start h s → UpTo m setup start Asked script s [] h h
up-none m setup start Asked script s h asked goes bonded = record {
  parts = [];
  are = tt;
  history = sym (append-nil h);
  clocked = sym (append-nil (clocks h));
  bonded = bonded;
  may = none-may;
  kept = tt;
  asked = asked;
  goes = goes;
}

drop-past : (h more : List Entry) → drop (length h) (h ++ more) ≡ more
drop-past [] more = refl
drop-past (e ∷ h) more = drop-past h more

-- what is written of a script is its transcript
told-more : (h more : List Entry) (text : List ℕ) → told_by [] (h ++ more) ≡ told_by [] h ++ text → text ≡ transcript more
told-more h more text shown = append_cancel_left (told_by [] h) text (told_by [] more) (sym shown ∙ told-append [] h more) ∙ told-plain more

module _ (m : Mounted) (setup : Setup) (start : Start) (Asked After : List Round → Type 0) (Asks : Round → Type 0)
    (on : (round : Round) → Asks round → (rounds : List Round) → Asked rounds → After (rounds ++ round ∷ [])) (script : List ScriptLine) (may : All IsAskedLine script)
    (s new : Session) (answers given given_now : List ℕ) (h k l : List Entry) (u : UpTo m setup start Asked script s given h k) (ran : RunsWhole script s new answers given_now k l) where
  abbrev more : List Entry
  more = ran.goes.grown.0

  goes-now : Goes (lines_in u.parts) (length k) script l new
  goes-now = ran.goes.goes (lines_in u.parts) (length k) u.goes

  bonded-now : Bonded m setup start l new
  bonded-now = ran.goes.core (lines_in u.parts) (length k) u.goes m setup start u.bonded

  may-now : All IsAskedLine (lines_in u.parts ++ script)
  may-now = all-append (lines_in u.parts) script u.may may

  behind : l ≡ (h ++ entries_in u.parts) ++ more
  behind = ran.goes.grown.1 ∙ ap (λ (t : List Entry). t ++ more) u.history

  clocked-now : clocks l ≡ clocks h ++ (given ++ given_now)
  clocked-now = ran.goes.clocked ∙ ap (λ (t : List ℕ). t ++ given_now) u.clocked ∙ append_assoc (clocks h) given given_now

  answers-now : answers ≡ transcript more
  answers-now = told-more k more answers (subst (λ (t : List Entry). told_by [] t ≡ told_by [] k ++ answers) ran.goes.grown.1 ran.goes.shown)

  -- the script, as it was run
  abbrev part : Part
  part = record { lines = script; entries = more; status = new.status }

  abbrev parts-now : List Part
  parts-now = u.parts ++ part ∷ []

  are-now : ArePartsFrom h [] parts-now
  are-now =
      let from : length k ≡ length (h ++ entries_in u.parts) = ap length u.history in
      let finishes = subst (Finishes (entries_of (lines_in u.parts ++ script))) behind (script-finishes (lines_in u.parts) script (length k) l new ran.over may-now goes-now) in
      let together = subst (TogetherFrom (length (h ++ entries_in u.parts)) (entries_of script)) behind (subst (λ (n : ℕ). TogetherFrom n (entries_of script) l) from goes-now.together) in
      let status = subst (λ (t : List Entry). HasStatus t new.status) (ap (drop (length k)) ran.goes.grown.1 ∙ drop-past k more) goes-now.status in
      parts-more h [] u.parts part u.are (record { finishes = finishes; together = together; status = status })

  lines-now : lines_in parts-now ≡ lines_in u.parts ++ script
  lines-now = lines-more u.parts part

  history-now : l ≡ h ++ entries_in parts-now
  history-now = behind ∙ append_assoc h (entries_in u.parts) more ∙ ap (λ (t : List Entry). h ++ t) (sym (entries-more u.parts part))

  -- the call behind it
  asked-now : (next : Option (List ScriptLine)) → Asks (record { answers = answers; status = new.status; script = next }) → After (rounds_to [] 0 parts-now next)
  asked-now next asks =
      subst After (rounds-more [] 0 u.parts part next)
      (on (record { answers = transcript more; status = new.status; script = next })
      (subst (λ (t : List ℕ). Asks (record { answers = t; status = new.status; script = next })) answers-now asks)
      (rounds_to [] 0 u.parts (Some script)) u.asked)

  -- the next script
  pub up-next : (next : List ScriptLine) (later : Session) → Asks (record { answers = answers; status = new.status; script = Some next }) → new.status ≢ 6
      → StandsBefore script next new later → UpTo m setup start After next later (given ++ given_now) h l
  up-next next later asks other stands = record {
    parts = parts-now;
    are = are-now;
    history = history-now;
    clocked = clocked-now;
    bonded = stands.core l m setup start bonded-now;
    may = subst (All IsAskedLine) (sym lines-now) may-now;
    kept = kept-more u.parts part u.kept other;
    asked = asked-now (Some next) asks;
    goes = subst (λ (t : List ScriptLine). Goes t (length l) next l later) (sym lines-now) (stands.goes (lines_in u.parts) (length k) l goes-now);
  }

  -- there is none, or the run ends so for another cause
  pub up-over : (result : Result ℕ Memory) → IsEnding (ended_with result) → (ended_with result ≡ 6 → new.status ≡ 6) → (ended_with result ≤ 1 → new.status ≢ 6)
      → (ended_with result ≤ 1 → Asks (record { answers = answers; status = new.status; script = None })) → RunsTo After m setup start.from result (given ++ given_now) h l
  up-over result ending lost kept asks =
      let none : lines_in parts-now ++ [] ≡ lines_in u.parts ++ script = append-nil (lines_in parts-now) ∙ lines-now in
      let last : last_status 0 parts-now ≡ new.status = status-more 0 u.parts part in
      record {
        session = record {
          parts = parts-now;
          rest = [];
          last = [];
          are = are-now;
          history = history-now ∙ ap (λ (t : List Entry). h ++ t) (sym (append-nil (entries_in parts-now)));
          whole = λ uncut. (refl, refl);
          lost = λ six. last ∙ lost six;
          kept = λ few. kept-more u.parts part u.kept (kept few);
          ending = ending;
          follows = subst (λ (t : List ScriptLine). Follows (entries_of t) l) (sym none) (script-follows (lines_in u.parts) script (length k) l new ran.over may-now goes-now);
          clock = record { last = []; is = sym clocked-now ∙ sym (append-nil (clocks l)); few = omega arith; whole = λ other. refl };
          timed = goes-now.timed;
        };
        asked = λ few. subst After (rounds-none [] 0 parts-now) (asked-now None (asks few));
        may = subst (All IsAskedLine) (sym none) may-now;
        core = core-of m setup start l new bonded-now;
      }
