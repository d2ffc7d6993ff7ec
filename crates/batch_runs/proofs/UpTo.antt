-- A session of batches on its way: what was read, run and answered so far.
use Rattle.std.proofs.Common.{◌≡◌, ◌+◌, ℕ, suc, List, [], ◌∷◌, ◌++◌, All, length, map, max, drop, Bool, true, Option, Some, None, Ok, refl, sym, ap, subst, ◌∙◌, append-nil, append_assoc, arith}
use Rattle.std.proofs.lemmas.List.{append_cancel_left}
use Rattle.world_model.specs.declared.entry.Entry.{Entry}
use Rattle.world_model.specs.Clocked.{clocks}
use Rattle.world_model.specs.Counts.{tally_of}
use Rattle.world_model.specs.Follows.{Finishes, Follows}
use Rattle.world_model.specs.Transcript.{transcript}
use Rattle.nfs_script.specs.Asked.{IsAskedLine}
use Rattle.nfs_script.specs.DoneText.{done_text}
use Rattle.nfs_script.specs.declared.script.ScriptLine.{ScriptLine}
use Rattle.script_batches.specs.Batches.{Read}
use Rattle.client_core.specs.declared.setup.Setup.{Setup}
use Rattle.op_machines.specs.declared.begun.Mounted.{Mounted}
use Rattle.lane_session.specs.declared.running.Session.{Session}
use Rattle.lane_session.specs.Bonds.{Bonded, Start}
use Rattle.lane_session.specs.Endings.{counts_text, entries_of}
use Rattle.lane_session.specs.Going.{Goes, GoesOn}
use Rattle.lane_session.specs.Labels.{told_by}
use Rattle.lane_session.specs.Statuses.{HasStatus}
use Rattle.lane_session.specs.TogetherFrom.{TogetherFrom}
use Rattle.lane_session.proofs.Labels.{told-append, told-plain}
use Rattle.script_runs.specs.Scripts.{IsOver}
use Rattle.script_runs.proofs.Finishing.{all-append, script-finishes, script-follows}
use Rattle.batch_runs.specs.declared.answered.Answered.{Answered}
use Rattle.batch_runs.specs.Parts.{ArePartsFrom, Part, PartIs, asked_in, entries_in, lines_in, ran_part, ran_text, text_in, worst_in}
use Rattle.batch_runs.specs.Reading.{Counts, Takes}
use Rattle.batch_runs.specs.Running.{RunsWhole, in_front}
use Rattle.batch_runs.proofs.Parts.{entries-append, length-append, lines-append, parts-append, reads-append, text-append, worst-append}

-- each batch that was answered, as it was read
abbrev pub reads_in : List Part → List Read
reads_in parts = map (λ (p : Part). p.read) parts

-- These batches were answered, after so many and after a history; and a core goes with all of it.
pub record IsSoFar (count : Bool) (m : Mounted) (setup : Setup) (start : Start) (old now : Answered) (s : Session) (given text : List ℕ) (h k : List Entry)
    (parts : List Part) : Type 0 where
  pub are : ArePartsFrom count old.count h [] parts
  pub counts : Counts old now parts
  pub history : k ≡ h ++ entries_in parts
  pub written : text ≡ text_in parts
  pub clocked : clocks k ≡ clocks h ++ given
  pub bonded : Bonded m setup start k s
  pub asked : All IsAskedLine (lines_in parts)

-- The session stands before the lines of a script.
pub record UpTo (count : Bool) (m : Mounted) (setup : Setup) (start : Start) (old now : Answered) (script : List ScriptLine) (left rest : Option (List Read)) (s : Session)
    (given text : List ℕ) (h k : List Entry) : Type 0 where
  pub parts : List Part
  pub so_far : IsSoFar count m setup start old now s given text h k parts
  pub current : Read
  pub asks : asked_in current ≡ Ok script
  pub read : Takes left rest (reads_in parts ++ current ∷ [])
  pub goes : Goes (lines_in parts) (length k) script k s

-- Each line of the script has its answer, and so has its batch.
pub record RanTo (count : Bool) (m : Mounted) (setup : Setup) (start : Start) (old now : Answered) (script : List ScriptLine) (left rest : Option (List Read)) (s : Session)
    (given text : List ℕ) (h k : List Entry) : Type 0 where
  pub parts : List Part
  pub so_far : IsSoFar count m setup start old now s given text h k parts
  pub read : Takes left rest (reads_in parts)
  pub done : List ScriptLine
  pub lines : lines_in parts ≡ done ++ script
  pub from : ℕ
  pub goes : Goes done from script k s

-- ---- where it begins

none-asked : All IsAskedLine []
none-asked n x lt = absurd (omega (arith, lt))

pub takes-current : (current : Read) (left : Option (List Read)) → Takes (in_front current left) left (current ∷ [])
takes-current current None = tt
takes-current current (Some left) = refl

pub up-none : (count : Bool) (m : Mounted) (setup : Setup) (start : Start) (old : Answered) (script : List ScriptLine) (left : Option (List Read)) (s : Session) (h : List Entry) (current : Read)
    → asked_in current ≡ Ok script → Goes [] (length h) script h s → Bonded m setup start h s → UpTo count m setup start old old script (in_front current left) left s [] [] h h
up-none count m setup start old script left s h current asks goes bonded = record {
  parts = [];
  so_far = record {
    are = tt;
    counts = record { count = omega arith; status = omega arith };
    history = sym (append-nil h);
    written = refl;
    clocked = sym (append-nil (clocks h));
    bonded = bonded;
    asked = none-asked;
  };
  current = current;
  asks = asks;
  read = takes-current current left;
  goes = goes;
}

-- ---- a script that was run

drop-past : (h more : List Entry) → drop (length h) (h ++ more) ≡ more
drop-past [] more = refl
drop-past (e ∷ h) more = drop-past h more

-- what was written of it
told-more : (h more : List Entry) (text : List ℕ) → told_by [] (h ++ more) ≡ told_by [] h ++ text → text ≡ transcript more
told-more h more text shown =
    append_cancel_left (told_by [] h) text (told_by [] more) (sym shown ∙ told-append [] h more) ∙ told-plain more

pub max-one : (a b c d : ℕ) → b ≡ max a c → max b d ≡ max a (max c d)
max-one a b c d is = omega (arith, is)

pub max-none : (a : ℕ) → max a 0 ≡ a
max-none a = omega arith

module _ (count : Bool) (m : Mounted) (setup : Setup) (start : Start) (counted : start.counted ≡ true) (old now : Answered) (script : List ScriptLine) (may : All IsAskedLine script)
    (left rest : Option (List Read)) (s new : Session) (given text given_now told : List ℕ) (h k l : List Entry)
    (u : UpTo count m setup start old now script left rest s given text h k) (on : GoesOn [] script s new given_now told k l) (over : IsOver script new) where
  abbrev pub more : List Entry
  more = on.grown.0

  pub goes-now : Goes (lines_in u.parts) (length k) script l new
  goes-now = on.goes (lines_in u.parts) (length k) u.goes

  pub bonded-now : Bonded m setup start l new
  bonded-now = on.core (lines_in u.parts) (length k) u.goes m setup start u.so_far.bonded

  pub asked-now : All IsAskedLine (lines_in u.parts ++ script)
  asked-now = all-append (lines_in u.parts) script u.so_far.asked may

  pub follows-now : Follows (entries_of (lines_in u.parts ++ script)) l
  follows-now = script-follows (lines_in u.parts) script (length k) l new over asked-now goes-now

  pub behind : l ≡ (h ++ entries_in u.parts) ++ more
  behind = on.grown.1 ∙ ap (λ (t : List Entry). t ++ more) u.so_far.history

  pub status-now : HasStatus more new.status
  status-now = subst (λ (t : List Entry). HasStatus t new.status) (ap (drop (length k)) on.grown.1 ∙ drop-past k more) goes-now.status

  pub together-now : TogetherFrom (length (h ++ entries_in u.parts)) (entries_of script) l
  together-now =
      let from : length k ≡ length (h ++ entries_in u.parts) = ap length u.so_far.history in
      subst (λ (n : ℕ). TogetherFrom n (entries_of script) l) from goes-now.together

  pub clocked-now : clocks l ≡ clocks h ++ (given ++ given_now)
  clocked-now = on.clocked ∙ ap (λ (t : List ℕ). t ++ given_now) u.so_far.clocked ∙ append_assoc (clocks h) given given_now

  pub text-now : (ended : List ℕ) → told ++ ended ≡ transcript more ++ ended
  text-now ended =
      ap (λ (t : List ℕ). t ++ ended) (told-more k more told (subst (λ (t : List Entry). told_by [] t ≡ told_by [] k ++ told) on.grown.1 on.shown))

  pub end-now : counts_text count new.counts.tally ++ done_text (now.count + 1) new.status
      ≡ counts_text count (tally_of ((h ++ entries_in u.parts) ++ more)) ++ done_text (suc (old.count + length u.parts)) new.status
  end-now =
      let tally : new.counts.tally ≡ tally_of ((h ++ entries_in u.parts) ++ more) = bonded-now.tallied counted ∙ ap tally_of behind in
      let number : now.count + 1 ≡ suc (old.count + length u.parts) = (let n = u.so_far.counts.count in omega (arith, n)) in
      ap (λ (t : List ℕ). t ++ done_text (now.count + 1) new.status) (ap (counts_text count) tally)
      ∙ ap (λ (n : ℕ). counts_text count (tally_of ((h ++ entries_in u.parts) ++ more)) ++ done_text n new.status) number

  abbrev part_of : List ℕ → Part
  part_of text_now = record { read = u.current; lines = script; entries = more; status = new.status; text = text_now }

  part-is : (text_now : List ℕ) → text_now ≡ ran_text count (suc (old.count + length u.parts)) (h ++ entries_in u.parts) more new.status
      → PartIs count (suc (old.count + length u.parts)) (h ++ entries_in u.parts) ([] ++ lines_in u.parts) (part_of text_now)
  part-is text_now text_is =
      ran_part u.asks
      (subst (Finishes (entries_of (lines_in u.parts ++ script))) behind (script-finishes (lines_in u.parts) script (length k) l new over asked-now goes-now))
      (subst (TogetherFrom (length (h ++ entries_in u.parts)) (entries_of script)) behind together-now)
      status-now text_is

  part-behind : (after : Answered) (text_now : List ℕ) → text_now ≡ ran_text count (suc (old.count + length u.parts)) (h ++ entries_in u.parts) more new.status
      → after.count ≡ now.count + 1 → after.status ≡ max now.status new.status → RanTo count m setup start old after script left rest new (given ++ given_now) (text ++ text_now) h l
  part-behind after text_now text_is count_is status_is =
      let part : Part = part_of text_now in
      let lines_are : lines_in (u.parts ++ part ∷ []) ≡ lines_in u.parts ++ script =
      lines-append u.parts (part ∷ []) ∙ ap (λ (t : List ScriptLine). lines_in u.parts ++ t) (append-nil script) in
      record {
        parts = u.parts ++ part ∷ [];
        so_far = record {
          are = parts-append count old.count (old.count + length u.parts) h [] u.parts (part ∷ []) refl u.so_far.are (part-is text_now text_is, tt);
          counts = record {
            count = (let b = u.so_far.counts.count in let long = length-append u.parts (part ∷ []) in omega (arith, count_is, b, long));
            status = status_is ∙ max-one old.status now.status (worst_in u.parts) new.status u.so_far.counts.status
                ∙ ap (max old.status) (ap (max (worst_in u.parts)) (sym (max-none new.status)) ∙ sym (worst-append u.parts (part ∷ [])));
          };
          history = behind ∙ append_assoc h (entries_in u.parts) more
              ∙ ap (λ (t : List Entry). h ++ t) (ap (λ (t : List Entry). entries_in u.parts ++ t) (sym (append-nil more)) ∙ sym (entries-append u.parts (part ∷ [])));
          written = ap (λ (t : List ℕ). t ++ text_now) u.so_far.written
              ∙ ap (λ (t : List ℕ). text_in u.parts ++ t) (sym (append-nil text_now)) ∙ sym (text-append u.parts (part ∷ []));
          clocked = clocked-now;
          bonded = bonded-now;
          asked = subst (All IsAskedLine) (sym lines_are) asked-now;
        };
        read = subst (Takes left rest) (sym (reads-append u.parts (part ∷ []))) u.read;
        done = lines_in u.parts;
        lines = lines_are;
        from = length k;
        goes = goes-now;
      }

-- its lines were run, and its batch was answered
pub script-ran : (count : Bool) (m : Mounted) (setup : Setup) (start : Start) (counted : start.counted ≡ true) (old now after : Answered) (script : List ScriptLine) (may : All IsAskedLine script)
    (left rest : Option (List Read)) (s new : Session) (given text given_now text_now : List ℕ) (h k l : List Entry) → UpTo count m setup start old now script left rest s given text h k
    → RunsWhole count script s new now after (Ok tt) given_now text_now k l → RanTo count m setup start old after script left rest new (given ++ given_now) (text ++ text_now) h l
script-ran count m setup start counted old now after script may left rest s new given text given_now text_now h k l u r =
    part-behind count m setup start counted old now script may left rest s new given text given_now r.told h k l u r.goes r.over after text_now
    (r.text_is ∙ text-now count m setup start counted old now script may left rest s new given text given_now r.told h k l u r.goes r.over r.ended
    ∙ ap (λ (t : List ℕ). transcript r.goes.grown.0 ++ t) (r.answers.2 ∙ end-now count m setup start counted old now script may left rest s new given text given_now r.told h k l u r.goes r.over))
    r.answers.0 r.answers.1
