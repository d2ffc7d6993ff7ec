-- A session of batches that is cut off: in the lines of a script, or behind them.
use Rattle.std.proofs.Common.{◌≡◌, ◌≢◌, ◌≤◌, ◌+◌, inl, inr, ℕ, suc, List, [], ◌∷◌, ◌++◌, All, length, Bool, true, Option, Some, None, Err, refl, sym, ap, subst, ◌∙◌, append-nil, append_assoc, arith}
use Rattle.std.proofs.lemmas.List.{append_cancel_left, length-append}
use Rattle.world_model.specs.declared.answer.Answer.{Answer}
use Rattle.world_model.specs.declared.entry.Entry.{Entry}
use Rattle.world_model.specs.declared.entry.Entry.TheVariants.{Answered as answered_so}
use Rattle.world_model.specs.Clocked.{clocks}
use Rattle.world_model.specs.Follows.{IsFront}
use Rattle.world_model.specs.Transcript.{line_text, transcript}
use Rattle.nfs_script.specs.Asked.{IsAskedLine}
use Rattle.nfs_script.specs.declared.script.ScriptLine.{ScriptLine}
use Rattle.script_batches.specs.Batches.{Read}
use Rattle.client_core.specs.declared.setup.Setup.{Setup}
use Rattle.op_machines.specs.declared.begun.Mounted.{Mounted}
use Rattle.lane_session.specs.declared.halt.Halt.{Halt}
use Rattle.lane_session.specs.declared.halt.Halt.TheVariants as halts
use Rattle.lane_session.specs.declared.running.Session.{Session}
use Rattle.lane_session.specs.Bonds.{Start}
use Rattle.lane_session.specs.Endings.{entries_of}
use Rattle.lane_session.specs.Going.{Went}
use Rattle.lane_session.specs.Labels.{IsCutIn, all_told, last_cut, told_by}
use Rattle.lane_session.specs.Statuses.{IsLeft}
use Rattle.lane_session.specs.TogetherFrom.{TogetherFrom}
use Rattle.lane_session.proofs.Labels.{told-append}
use Rattle.lane_session.proofs.Reaching.{core-of}
use Rattle.script_runs.specs.Run.{IsCutOff}
use Rattle.script_runs.proofs.Finishing.{all-append}
use Rattle.batch_runs.specs.declared.answered.Answered.{Answered}
use Rattle.batch_runs.specs.declared.stop.Stop.{Stop}
use Rattle.batch_runs.specs.declared.stop.Stop.TheVariants as stops
use Rattle.batch_runs.specs.Parts.{entries_in, lines_in, ran_text}
use Rattle.batch_runs.specs.Reading.{Takes}
use Rattle.batch_runs.specs.Running.{FromBatch, IsCut, RunsTo, RunsWhole}
use Rattle.batch_runs.specs.Runs.{Rest, cut_done, cut_in}
use Rattle.batch_runs.specs.Stops.{of_halt, status_of}
use Rattle.batch_runs.proofs.UpTo.{UpTo, bonded-now, clocked-now, end-now, follows-now, goes-now, reads_in, status-now, text-now, together-now}

-- ---- the text of what came since

same-last : (xs ys : List Entry) (x y : Entry) → xs ++ x ∷ [] ≡ ys ++ y ∷ [] → (xs ≡ ys) × (x ≡ y)
same-last [] [] x y e = (refl, cc)
same-last [] (b ∷ ys) x y e = absurd (let l = ap length e in let long = length-append ys (y ∷ []) in omega (arith, l, long))
same-last (a ∷ xs) [] x y e = absurd (let l = ap length e in let long = length-append xs (x ∷ []) in omega (arith, l, long))
same-last (a ∷ xs) (b ∷ ys) x y e =
    let head : a ≡ b = cc in
    let r = same-last xs ys x y cc in
    (ap (λ (t : Entry). t ∷ xs) head ∙ ap (λ (t : List Entry). b ∷ t) r.0, r.1)

-- entries are none, or some and a last one
data IsSplit (es : List Entry) : Type 0 where
  none : es ≡ [] → IsSplit es
  a_last : (front : List Entry) (e : Entry) → es ≡ front ++ e ∷ [] → IsSplit es

split-of : (es : List Entry) → IsSplit es
split-of [] = none refl
split-of (e ∷ es) = by (split-of es)
  where
    by : IsSplit es → IsSplit (e ∷ es)
    by (none is) = a_last [] e (ap (λ (t : List Entry). e ∷ t) is)
    by (a_last front d is) = a_last (e ∷ front) d (ap (λ (t : List Entry). e ∷ t) is)

no-bytes : (text : List ℕ) → length text ≡ 0 → text ≡ []
no-bytes [] e = refl
no-bytes (b ∷ text) e = absurd (omega (arith, e))

module _ (h more : List Entry) (text : List ℕ) (before : List Entry) (lane line : ℕ) (answer : Answer) (front : List ℕ) (is : h ++ more ≡ before ++ answered_so lane line answer ∷ [])
    (shown : told_by [] h ++ text ≡ told_by [] before ++ front) (within : IsFront front ([] ++ line_text lane line answer)) where
  cut-last : IsSplit more → IsCutIn [] more text
  cut-last (none gone) =
      let is_h : h ≡ before ++ answered_so lane line answer ∷ [] = sym (append-nil h) ∙ ap (λ (t : List Entry). h ++ t) (sym gone) ∙ is in
      let told : told_by [] h ≡ told_by [] before ++ (line_text lane line answer ++ []) = ap (told_by []) is_h ∙ told-append [] before (answered_so lane line answer ∷ []) in
      let left : (line_text lane line answer ++ []) ++ text ≡ front =
      append_cancel_left (told_by [] before) ((line_text lane line answer ++ []) ++ text) front
      (sym (append_assoc (told_by [] before) (line_text lane line answer ++ []) text) ∙ ap (λ (t : List ℕ). t ++ text) (sym told) ∙ shown) in
      let long = ap length left in
      let both = length-append (line_text lane line answer ++ []) text in
      let plain = ap length (append-nil (line_text lane line answer)) in
      let whole = ap length within.is in
      let parts = length-append front within.rest in
      all_told (no-bytes text (omega (arith, long, both, plain, whole, parts)) ∙ sym (ap (told_by []) gone))
  cut-last (a_last init e ends) =
      let two = same-last (h ++ init) before e (answered_so lane line answer) (append_assoc h init (e ∷ []) ∙ ap (λ (t : List Entry). h ++ t) (sym ends) ∙ is) in
      last_cut init lane line answer front (ends ∙ ap (λ (t : Entry). init ++ t ∷ []) two.1)
      (append_cancel_left (told_by [] h) text (told_by [] init ++ front)
      (shown ∙ ap (λ (t : List Entry). told_by [] t ++ front) (sym two.0) ∙ ap (λ (t : List ℕ). t ++ front) (told-append [] h init) ∙ append_assoc (told_by [] h) (told_by [] init) front))
      within

cut-since : (h more : List Entry) (text : List ℕ) → IsCutIn [] (h ++ more) (told_by [] h ++ text) → IsCutIn [] more text
cut-since h more text (all_told is) = all_told (append_cancel_left (told_by [] h) text (told_by [] more) (is ∙ told-append [] h more))
cut-since h more text (last_cut before lane line answer front is shown within) = cut-last h more text before lane line answer front is shown within (split-of more)

-- ---- the ends

halt-cuts : (halt : Halt) → IsCutOff (status_of (of_halt halt))
halt-cuts halts.Output = inl refl
halt-cuts halts.Memory = inr refl

stop-cuts : (stop : Stop) → stop ≢ stops.Source → IsCutOff (status_of stop)
stop-cuts stops.Source other = absurd (other refl)
stop-cuts stops.Output other = inl refl
stop-cuts stops.Memory other = inr refl

left-few : (halt : Halt) (last : List ℕ) → IsLeft halt last → length last ≤ 1
left-few halts.Output last is = let none = ap length is in omega (arith, none)
left-few halts.Memory last is = is

left-none : (halt : Halt) (last : List ℕ) → IsLeft halt last → status_of (of_halt halt) ≢ 7 → last ≡ []
left-none halts.Output last is other = is
left-none halts.Memory last is other = absurd (other refl)

module _ (count : Bool) (m : Mounted) (setup : Setup) (start : Start) (counted : start.counted ≡ true) (old now : Answered) (script : List ScriptLine) (may : All IsAskedLine script)
    (left rest : Option (List Read)) (s : Session) (given text : List ℕ) (h k : List Entry) (u : UpTo count m setup start old now script left rest s given text h k) where
  abbrev left_of : Option (List Read) → List Read
  left_of None = []
  left_of (Some more) = more

  from-current : FromBatch left (reads_in u.parts ++ u.current ∷ left_of rest)
  from-current = by left rest u.read
    where
      by : (a b : Option (List Read)) → Takes a b (reads_in u.parts ++ u.current ∷ []) → FromBatch a (reads_in u.parts ++ u.current ∷ left_of b)
      by None b t = tt
      by (Some x) None t = absurd t
      by (Some x) (Some y) t = t ∙ append_assoc (reads_in u.parts) (u.current ∷ []) y

  abbrev rest_of : List Entry → List ℕ → Rest
  rest_of more text_now = record { more = u.current ∷ left_of rest; lines = script; entries = more; text = text_now }

  history-now : (more l : List Entry) → l ≡ k ++ more → l ≡ h ++ (entries_in u.parts ++ more)
  history-now more l is = is ∙ ap (λ (t : List Entry). t ++ more) u.so_far.history ∙ append_assoc h (entries_in u.parts) more

  -- in its lines
  pub cut-in-lines : (after : Answered) (stop : Stop) (given_now text_now : List ℕ) (l : List Entry) → IsCut script s now after stop given_now text_now k l
      → RunsTo count old left start.from m setup (Err stop) (given ++ given_now) (text ++ text_now) h l
  cut-in-lines after stop given_now text_now l c =
      let more : List Entry = c.cuts.grown.0 in
      let w : Went (lines_in u.parts) (length k) script l = c.cuts.went (lines_in u.parts) (length k) u.goes in
      let from : length k ≡ length (h ++ entries_in u.parts) = ap length u.so_far.history in
      let cut : IsCutOff (status_of stop) = subst (λ (t : Stop). IsCutOff (status_of t)) (sym c.stops) (halt-cuts c.halt) in
      let shown : IsCutIn [] more text_now =
      cut-since k more text_now (subst (λ (t : List Entry). IsCutIn [] t (told_by [] k ++ text_now)) c.cuts.grown.1 c.cuts.shown) in
      record {
        runs = record {
          parts = u.parts;
          rest = rest_of more text_now;
          are = u.so_far.are;
          read = from-current;
          ends = cut_in cut u.current (left_of rest) refl u.asks shown;
          history = history-now more l c.cuts.grown.1;
          written = ap (λ (t : List ℕ). t ++ text_now) u.so_far.written;
          follows = record { alternates = w.alternates; begins = w.begins };
          together = subst (λ (n : ℕ). TogetherFrom n (entries_of script) l) from w.together;
          clock = record {
            last = c.cuts.last;
            is = sym (append_assoc (clocks h) given given_now) ∙ ap (λ (t : List ℕ). t ++ given_now) (sym u.so_far.clocked) ∙ c.cuts.clocked;
            few = left-few c.halt c.cuts.last c.cuts.left;
            whole = λ other. left-none c.halt c.cuts.last c.cuts.left (λ seven. other (ap status_of c.stops ∙ seven));
          };
          timed = w.timed;
          asked = all-append (lines_in u.parts) script u.so_far.asked may;
        };
        core = c.cuts.core (lines_in u.parts) (length k) u.goes m setup start u.so_far.bonded;
      }

  -- behind its lines
  pub cut-behind-lines : (new : Session) (after : Answered) (stop : Stop) (given_now text_now : List ℕ) (l : List Entry) → RunsWhole count script s new now after (Err stop) given_now text_now k l
      → RunsTo count old left start.from m setup (Err stop) (given ++ given_now) (text ++ text_now) h l
  cut-behind-lines new after stop given_now text_now l r =
      let more : List Entry = r.goes.grown.0 in
      let cut : IsCutOff (status_of stop) = stop-cuts stop r.answers.1 in
      let front : IsFront text_now (ran_text count (suc (old.count + length u.parts)) (h ++ entries_in u.parts) more new.status) = record {
        rest = r.answers.2.rest;
        is = ap (λ (t : List ℕ). transcript more ++ t)
            (sym (end-now count m setup start counted old now script may left rest s new given text given_now r.told h k l u r.goes r.over) ∙ r.answers.2.is)
            ∙ sym (append_assoc (transcript more) r.ended r.answers.2.rest)
            ∙ ap (λ (t : List ℕ). t ++ r.answers.2.rest) (sym (text-now count m setup start counted old now script may left rest s new given text given_now r.told h k l u r.goes r.over r.ended) ∙ sym r.text_is);
      } in
      let goes = goes-now count m setup start counted old now script may left rest s new given text given_now r.told h k l u r.goes r.over in
      let bonded = bonded-now count m setup start counted old now script may left rest s new given text given_now r.told h k l u r.goes r.over in
      let clocked = clocked-now count m setup start counted old now script may left rest s new given text given_now r.told h k l u r.goes r.over in
      record {
        runs = record {
          parts = u.parts;
          rest = rest_of more text_now;
          are = u.so_far.are;
          read = from-current;
          ends = cut_done cut u.current (left_of rest) new.status refl u.asks (status-now count m setup start counted old now script may left rest s new given text given_now r.told h k l u r.goes r.over) front;
          history = history-now more l r.goes.grown.1;
          written = ap (λ (t : List ℕ). t ++ text_now) u.so_far.written;
          follows = follows-now count m setup start counted old now script may left rest s new given text given_now r.told h k l u r.goes r.over;
          together = together-now count m setup start counted old now script may left rest s new given text given_now r.told h k l u r.goes r.over;
          clock = record { last = []; is = sym clocked ∙ sym (append-nil (clocks l)); few = omega arith; whole = λ other. refl };
          timed = goes.timed;
          asked = all-append (lines_in u.parts) script u.so_far.asked may;
        };
        core = core-of m setup start l new bonded;
      }
