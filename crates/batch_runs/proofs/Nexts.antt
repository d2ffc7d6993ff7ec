-- From one script of a session to the next, over batches that are refused; and how a session of batches ends behind its last script.
use Rattle.std.proofs.Common.{◌≡◌, ◌≢◌, ◌+◌, inl, inr, ℕ, suc, List, [], ◌∷◌, ◌++◌, All, length, max, Bool, Option, Some, None, Result, Ok, Err, refl, sym, ap, subst, ◌∙◌, append-nil, arith}
use Rattle.world_model.specs.declared.entry.Entry.{Entry}
use Rattle.world_model.specs.Clocked.{clocks}
use Rattle.world_model.specs.Follows.{Follows, IsFront}
use Rattle.nfs_script.specs.Asked.{IsAskedLine}
use Rattle.nfs_script.specs.declared.script.ScriptLine.{ScriptLine}
use Rattle.script_batches.specs.Batches.{Read}
use Rattle.client_core.specs.declared.setup.Setup.{Setup}
use Rattle.op_machines.specs.declared.begun.Mounted.{Mounted}
use Rattle.lane_session.specs.declared.running.Session.{Session}
use Rattle.lane_session.specs.Bonds.{Start}
use Rattle.lane_session.specs.Endings.{entries_of}
use Rattle.lane_session.specs.Going.{Goes}
use Rattle.lane_session.specs.TogetherFrom.{TogetherFrom}
use Rattle.lane_session.proofs.Reaching.{core-of}
use Rattle.script_runs.specs.Scripts.{IsOver, StandsBefore}
use Rattle.script_runs.proofs.Finishing.{script-follows}
use Rattle.batch_runs.specs.declared.answered.Answered.{Answered}
use Rattle.batch_runs.specs.declared.stop.Stop.{Stop}
use Rattle.batch_runs.specs.declared.stop.Stop.TheVariants as stops
use Rattle.batch_runs.specs.Parts.{RefusedFrom, asked_in, entries_in, lines_in, refused_text, text_in, worst_in}
use Rattle.batch_runs.specs.Reading.{AnswersAll, IsAtEnd, IsFirst, StopsAt, Takes, in_refusal, no_batch}
use Rattle.batch_runs.specs.Running.{FromBatch, RunsTo, ended_with}
use Rattle.batch_runs.specs.Runs.{EndsBatches, IsNone, Rest, at_end, cut_between, cut_refused, no_source}
use Rattle.batch_runs.specs.Stops.{status_of}
use Rattle.script_runs.specs.Run.{IsCutOff}
use Rattle.batch_runs.proofs.Parts.{entries-append, length-append, lines-append, parts-append, reads-append, refused-are, refused-entries, refused-lines, takes-more, text-append, worst-append}
use Rattle.batch_runs.proofs.UpTo.{RanTo, UpTo, reads_in}

pub max-two : (a b c d : ℕ) → b ≡ max a c → max b d ≡ max a (max c d)
max-two a b c d is = omega (arith, is)

module _ (count : Bool) (m : Mounted) (setup : Setup) (start : Start) (old now : Answered) (script : List ScriptLine) (left mid : Option (List Read)) (s : Session) (given text : List ℕ) (h k : List Entry)
    (r : RanTo count m setup start old now script left mid s given text h k) where
  -- batches that were refused behind it
  pub ran-refused : (after : Answered) (rest : Option (List Read)) (back : List ℕ) → AnswersAll RefusedFrom now after mid rest back
      → RanTo count m setup start old after script left rest s given (text ++ back) h k
  ran-refused after rest back a =
      let none_lines : lines_in a.parts ≡ [] = refused-lines now.count a.parts a.are in
      let none_entries : entries_in a.parts ≡ [] = refused-entries now.count a.parts a.are in
      let lines_are : lines_in (r.parts ++ a.parts) ≡ lines_in r.parts =
      lines-append r.parts a.parts ∙ ap (λ (t : List ScriptLine). lines_in r.parts ++ t) none_lines ∙ append-nil (lines_in r.parts) in
      record {
        parts = r.parts ++ a.parts;
        so_far = record {
          are = parts-append count old.count now.count h [] r.parts a.parts r.so_far.counts.count r.so_far.are (refused-are count now.count (h ++ entries_in r.parts) (lines_in r.parts) a.parts a.are);
          counts = record {
            count = (let x = r.so_far.counts.count in let y = a.counts.count in let long = length-append r.parts a.parts in omega (arith, x, y, long));
            status = a.counts.status ∙ max-two old.status now.status (worst_in r.parts) (worst_in a.parts) r.so_far.counts.status ∙ ap (max old.status) (sym (worst-append r.parts a.parts));
          };
          history = r.so_far.history
              ∙ ap (λ (t : List Entry). h ++ t) (sym (entries-append r.parts a.parts ∙ ap (λ (t : List Entry). entries_in r.parts ++ t) none_entries ∙ append-nil (entries_in r.parts)));
          written = ap (λ (t : List ℕ). t ++ back) r.so_far.written ∙ ap (λ (t : List ℕ). text_in r.parts ++ t) a.written ∙ sym (text-append r.parts a.parts);
          clocked = r.so_far.clocked;
          bonded = r.so_far.bonded;
          asked = subst (All IsAskedLine) (sym lines_are) r.so_far.asked;
        };
        read = subst (Takes left rest) (sym (reads-append r.parts a.parts)) (takes-more left mid rest (reads_in r.parts) (reads_in a.parts) r.read a.read);
        done = r.done;
        lines = lines_are ∙ r.lines;
        from = r.from;
        goes = r.goes;
      }

  -- a script that may be run next
  pub up-next : (rest : Option (List Read)) (batch : Read) (next : List ScriptLine) (new : Session) → Takes mid rest (batch ∷ []) → asked_in batch ≡ Ok next → StandsBefore script next s new
      → UpTo count m setup start old now next left rest new given text h k
  up-next rest batch next new takes asks stands = record {
    parts = r.parts;
    so_far = record {
      are = r.so_far.are;
      counts = r.so_far.counts;
      history = r.so_far.history;
      written = r.so_far.written;
      clocked = r.so_far.clocked;
      bonded = stands.core k m setup start r.so_far.bonded;
      asked = r.so_far.asked;
    };
    current = batch;
    asks = asks;
    read = takes-more left mid rest (reads_in r.parts) (batch ∷ []) r.read takes;
    goes = subst (λ (t : List ScriptLine). Goes t (length k) next k new) (sym r.lines) (stands.goes r.done r.from k r.goes);
  }

  -- ---- ends

  -- nothing comes behind the last entry
  none-together : TogetherFrom (length (h ++ entries_in r.parts)) (entries_of []) k
  none-together n bytes at le j lane line op there = absurd cc

  ends-behind : (result : Result ℕ Stop) (rest : Rest) (back : List ℕ) → rest.lines ≡ [] → rest.entries ≡ [] → rest.text ≡ back → IsOver script s
      → EndsBatches count (suc (old.count + length r.parts)) (h ++ entries_in r.parts) (ended_with result) (max old.status (worst_in r.parts)) rest
      → FromBatch left (reads_in r.parts ++ rest.more) → RunsTo count old left start.from m setup result given (text ++ back) h k
  ends-behind result rest back no_lines no_entries text_is over ends read =
      let lines_are : lines_in r.parts ++ rest.lines ≡ lines_in r.parts = ap (λ (t : List ScriptLine). lines_in r.parts ++ t) no_lines ∙ append-nil (lines_in r.parts) in
      record {
        runs = record {
          parts = r.parts;
          rest = rest;
          are = r.so_far.are;
          read = read;
          ends = ends;
          history = r.so_far.history
              ∙ ap (λ (t : List Entry). h ++ t) (sym (ap (λ (t : List Entry). entries_in r.parts ++ t) no_entries ∙ append-nil (entries_in r.parts)));
          written = ap (λ (t : List ℕ). t ++ back) r.so_far.written ∙ ap (λ (t : List ℕ). text_in r.parts ++ t) (sym text_is);
          follows = subst (λ (t : List ScriptLine). Follows (entries_of t) k) (sym (lines_are ∙ r.lines))
              (script-follows r.done script r.from k s over (subst (All IsAskedLine) r.lines r.so_far.asked) r.goes);
          together = subst (λ (t : List ScriptLine). TogetherFrom (length (h ++ entries_in r.parts)) (entries_of t) k) (sym no_lines) none-together;
          clock = record { last = []; is = sym r.so_far.clocked ∙ sym (append-nil (clocks k)); few = omega arith; whole = λ other. refl };
          timed = r.goes.timed;
          asked = subst (All IsAskedLine) (sym lines_are) r.so_far.asked;
        };
        core = core-of m setup start k s r.so_far.bonded;
      }

  abbrev no_rest : List Read → List ℕ → Rest
  no_rest more back = record { more = more; lines = []; entries = []; text = back }

  from-end : (rest : Option (List Read)) → IsAtEnd mid rest → FromBatch left (reads_in r.parts ++ [])
  from-end rest ended = by left mid rest r.read ended
    where
      by : (a b c : Option (List Read)) → Takes a b (reads_in r.parts) → IsAtEnd b c → FromBatch a (reads_in r.parts ++ [])
      by None b c t e = tt
      by (Some x) None c t e = absurd t
      by (Some x) (Some y) None t e = absurd e
      by (Some x) (Some y) (Some z) t e = t ∙ ap (λ (l : List Read). reads_in r.parts ++ l) e

  -- the input has no further batch
  pub ends-well : (rest : Option (List Read)) → IsAtEnd mid rest → IsOver script s → RunsTo count old left start.from m setup (Ok now.status) given (text ++ []) h k
  ends-well rest ended over =
      ends-behind (Ok now.status) (no_rest [] []) [] refl refl refl over (at_end r.so_far.counts.status refl (record { lines = refl; entries = refl; text = refl })) (from-end rest ended)

  -- what is left, as far as the source tells it
  abbrev left_of : Option (List Read) → List Read
  left_of None = []
  left_of (Some more) = more

  from-left : FromBatch left (reads_in r.parts ++ left_of mid)
  from-left = by left mid r.read
    where
      by : (a b : Option (List Read)) → Takes a b (reads_in r.parts) → FromBatch a (reads_in r.parts ++ left_of b)
      by None b t = tt
      by (Some x) None t = absurd t
      by (Some x) (Some y) t = t

  cut-off : (stop : Stop) → stop ≢ stops.Source → IsCutOff (status_of stop)
  cut-off stops.Source other = absurd (other refl)
  cut-off stops.Output other = inl refl
  cut-off stops.Memory other = inr refl

  refusal-from : (batch : Read) → IsFirst mid batch → (more : List Read) × FromBatch left (reads_in r.parts ++ batch ∷ more)
  refusal-from batch first = by left mid r.read first
    where
      by : (a b : Option (List Read)) → Takes a b (reads_in r.parts) → IsFirst b batch → (more : List Read) × FromBatch a (reads_in r.parts ++ batch ∷ more)
      by None b t f = ([], tt)
      by (Some x) None t f = absurd t
      by (Some x) (Some y) t f = (f.0, t ∙ ap (λ (l : List Read). reads_in r.parts ++ l) f.1)

  -- no further batch could be read or answered
  pub ends-ill : (stop : Stop) (back : List ℕ) → StopsAt (suc now.count) stop mid back → IsOver script s → RunsTo count old left start.from m setup (Err stop) given (text ++ back) h k
  ends-ill stop back (no_batch none) over =
      ends-behind (Err stop) (no_rest (left_of mid) back) back refl refl refl over (by stop) from-left
    where
      nothing : IsNone (no_rest (left_of mid) back)
      nothing = record { lines = refl; entries = refl; text = none }

      by : (stop : Stop) → EndsBatches count (suc (old.count + length r.parts)) (h ++ entries_in r.parts) (status_of stop) (max old.status (worst_in r.parts)) (no_rest (left_of mid) back)
      by stops.Source = no_source refl nothing
      by stops.Output = cut_between (inl refl) nothing
      by stops.Memory = cut_between (inr refl) nothing
  ends-ill stop back (in_refusal other batch fault first why front) over =
      let number : suc now.count ≡ suc (old.count + length r.parts) = (let n = r.so_far.counts.count in omega (arith, n)) in
      let from = refusal-from batch first in
      ends-behind (Err stop) (no_rest (batch ∷ from.0) back) back refl refl refl over
      (cut_refused (cut-off stop other) batch from.0 fault refl why refl refl (subst (λ (n : ℕ). IsFront back (refused_text n fault)) number front)) from.1
