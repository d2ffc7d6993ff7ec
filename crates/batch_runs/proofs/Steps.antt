-- A session of batches goes on by a script and its batch, and by those behind it that are refused; or it ends so.
use Rattle.std.proofs.Common.{◌≡◌, ℕ, inl, inr, List, ◌++◌, [], All, length, Bool, true, Option, Some, None, Ok, Err, sym, ap, subst, ◌∙◌, append-nil, append_assoc}
use Rattle.world_model.specs.declared.entry.Entry.{Entry}
use Rattle.nfs_script.specs.Asked.{IsAskedLine}
use Rattle.nfs_script.specs.declared.script.ScriptLine.{ScriptLine}
use Rattle.script_batches.specs.Batches.{Read}
use Rattle.client_core.specs.declared.setup.Setup.{Setup}
use Rattle.op_machines.specs.declared.begun.Mounted.{Mounted}
use Rattle.lane_session.specs.declared.running.Session.{Session}
use Rattle.lane_session.specs.Bonds.{Bonded, Start}
use Rattle.lane_session.specs.Going.{Goes}
use Rattle.batch_runs.specs.declared.answered.Answered.{Answered}
use Rattle.batch_runs.specs.declared.stop.Stop.{Stop}
use Rattle.batch_runs.specs.Running.{RunsNext, RunsOn, RunsTo}
use Rattle.batch_runs.proofs.Cuts.{cut-behind-lines, cut-in-lines}
use Rattle.batch_runs.proofs.Nexts.{ends-ill, ends-well, ran-refused, up-next}
use Rattle.batch_runs.proofs.UpTo.{UpTo, script-ran}

-- a session that went with the history before its first script goes so far
abbrev pub UpIn : Bool → List ScriptLine → Session → Answered → Answered → List ScriptLine → Option (List Read) → Option (List Read) → Session → List ℕ → List ℕ → List Entry → List Entry
    → Type 0
UpIn count first session old now script left rest s given text h k =
    (m : Mounted) (setup : Setup) (start : Start) → start.counted ≡ true → Goes [] (length h) first h session → Bonded m setup start h session
    → UpTo count m setup start old now script left rest s given text h k

module _ (count : Bool) (m : Mounted) (setup : Setup) (start : Start) (counted : start.counted ≡ true) (old now after : Answered) (script : List ScriptLine) (may : All IsAskedLine script)
    (left rest last : Option (List Read)) (s new : Session) (given text given_now text_now : List ℕ) (h k l : List Entry)
    (u : UpTo count m setup start old now script left rest s given text h k) where
  text-on : (a b : List ℕ) → text_now ≡ a ++ b → (text ++ a) ++ b ≡ text ++ text_now
  text-on a b is = append_assoc text a b ∙ ap (λ (t : List ℕ). text ++ t) (sym is)

  -- the next script
  pub up-on : (next : List ScriptLine) → RunsOn count script s new now after rest last (Ok (Some next)) given_now text_now k l
      → UpTo count m setup start old after next left last new (given ++ given_now) (text ++ text_now) h l
  up-on next on =
      let ran = script-ran count m setup start counted old now on.done script may left rest s on.mid given text given_now on.told h k l u on.runs in
      let refused = ran-refused count m setup start old on.done script left rest on.mid (given ++ given_now) (text ++ on.told) h l ran after on.finds.0 on.ended on.finds.1 in
      let up = up-next count m setup start old after script left on.finds.0 on.mid (given ++ given_now) ((text ++ on.told) ++ on.ended) h l refused last on.finds.2.0 next new on.finds.2.1 on.finds.2.2 on.next in
      subst (λ (t : List ℕ). UpTo count m setup start old after next left last new (given ++ given_now) t h l) (text-on on.told on.ended on.text_is) up

  -- there is none
  pub up-ends : RunsOn count script s new now after rest last (Ok None) given_now text_now k l
      → RunsTo count old left start.from m setup (Ok after.status) (given ++ given_now) (text ++ text_now) h l
  up-ends on =
      let ran = script-ran count m setup start counted old now on.done script may left rest s on.mid given text given_now on.told h k l u on.runs in
      let refused = ran-refused count m setup start old on.done script left rest on.mid (given ++ given_now) (text ++ on.told) h l ran after on.finds.0 on.ended on.finds.1 in
      let ends = ends-well count m setup start old after script left on.finds.0 on.mid (given ++ given_now) ((text ++ on.told) ++ on.ended) h l refused last on.finds.2 on.runs.over in
      subst (λ (t : List ℕ). RunsTo count old left start.from m setup (Ok after.status) (given ++ given_now) t h l)
      (append-nil ((text ++ on.told) ++ on.ended) ∙ text-on on.told on.ended on.text_is) ends

  -- it came to an end behind the script
  ends-later : (stop : Stop) → RunsOn count script s new now after rest last (Err stop) given_now text_now k l
      → RunsTo count old left start.from m setup (Err stop) (given ++ given_now) (text ++ text_now) h l
  ends-later stop on =
      let ran = script-ran count m setup start counted old now on.done script may left rest s on.mid given text given_now on.told h k l u on.runs in
      let f = on.finds in
      let refused = ran-refused count m setup start old on.done script left rest on.mid (given ++ given_now) (text ++ on.told) h l ran after f.0 f.1.0 f.1.2 in
      let ends = ends-ill count m setup start old after script left f.0 on.mid (given ++ given_now) ((text ++ on.told) ++ f.1.0) h l refused stop f.1.1 f.1.4 on.runs.over in
      let whole : ((text ++ on.told) ++ f.1.0) ++ f.1.1 ≡ text ++ text_now =
      append_assoc (text ++ on.told) f.1.0 f.1.1 ∙ ap (λ (t : List ℕ). (text ++ on.told) ++ t) (sym f.1.3) ∙ text-on on.told on.ended on.text_is in
      subst (λ (t : List ℕ). RunsTo count old left start.from m setup (Err stop) (given ++ given_now) t h l) whole ends

  pub up-stops : (stop : Stop) → RunsNext count script s new now after rest last (Err stop) given_now text_now k l
      → RunsTo count old left start.from m setup (Err stop) (given ++ given_now) (text ++ text_now) h l
  up-stops stop (inl on) = ends-later stop on
  up-stops stop (inr (same, inl cut)) = cut-in-lines count m setup start counted old now script may left rest s given text h k u after stop given_now text_now l cut
  up-stops stop (inr (same, inr ran)) = cut-behind-lines count m setup start counted old now script may left rest s given text h k u new after stop given_now text_now l ran
