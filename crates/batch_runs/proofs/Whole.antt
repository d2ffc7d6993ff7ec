-- A whole run of batches: those before the first line, and what came of the others.
use Rattle.std.proofs.Common.{◌≡◌, ◌≢◌, ◌+◌, inl, inr, ℕ, suc, List, [], ◌∷◌, ◌++◌, length, map, max, Bool, Option, Some, None, Result, Ok, Err, refl, sym, ap, subst, ◌∙◌, append-nil, append_assoc, arith}
use Rattle.world_model.specs.declared.entry.Entry.{Entry}
use Rattle.world_model.specs.Follows.{Follows, IsFront, none as no_marks}
use Rattle.nfs_script.specs.DoneText.{done_text}
use Rattle.nfs_script.specs.declared.script.ScriptLine.{ScriptLine}
use Rattle.script_batches.specs.Batches.{Read, batches_of}
use Rattle.session_words.specs.declared.settings.Settings.{Settings}
use Rattle.session_setup.specs.declared.opening.SetUp.{SetUp}
use Rattle.lane_session.specs.Endings.{counts_text}
use Rattle.lane_session.specs.Statuses.{HasStatus, well}
use Rattle.script_runs.specs.Run.{IsCutOff}
use Rattle.batch_runs.specs.declared.answered.Answered.{Answered}
use Rattle.batch_runs.specs.declared.stop.Stop.{Stop}
use Rattle.batch_runs.specs.declared.stop.Stop.TheVariants as stops
use Rattle.batch_runs.specs.Opening.{OpensWith, lost as opens_lost, opened, refused as opens_refused, unready as opens_unready}
use Rattle.batch_runs.specs.Parts.{AreIdleFrom, ArePartsFrom, AreRead, Part, entries_in, refused_text, text_in, worst_in}
use Rattle.batch_runs.specs.Reading.{AnswersAll, FindsScript, IsAtEnd, IsFirst, StopsIdle, Takes, as_any, in_done, in_refusal, left_in, no_batch, no_calls}
use Rattle.batch_runs.specs.Running.{FromBatch, RunsAll, ended_with, in_front}
use Rattle.batch_runs.specs.Runs.{BatchesBy, EndsBatches, IsNone, SessionOf, at_end, cut_between, cut_done, cut_refused, lost, no_lines, no_source, ready, unmounted, unready}
use Rattle.batch_runs.specs.Stops.{status_of}
use Rattle.batch_runs.proofs.Parts.{length-append, reads-append, text-append, worst-append}

abbrev reads_in : List Part → List Read
reads_in parts = map (λ (p : Part). p.read) parts

abbrev pub nothing : Answered
nothing = record { count = 0; status = 0 }

-- all batches of an input, where the source tells it
abbrev pub first_left : Option (List ℕ) → Option (List Read)
first_left left = left_in left (record { held = record { bytes = []; reads = 18446744073709551615 }; lines = 0 })

abbrev left_of : Option (List Read) → List Read
left_of None = []
left_of (Some more) = more

none-follows : Follows [] []
none-follows = record { alternates = λ lane. no_marks [] refl; begins = λ lane. record { rest = []; is = refl } }

-- ---- no batch has a line

module _ (count : Bool) (left : Option (List ℕ)) (mid : Option (List Read)) (now : Answered) (text : List ℕ) (a : AnswersAll (AreIdleFrom count) nothing now (first_left left) mid text) where
  read-so : (more : List Read) → ((l : List ℕ) → left ≡ Some l → reads_in a.parts ++ more ≡ batches_of 0 l) → AreRead left (a.parts ++ []) more
  read-so more is = by left is
    where
      by : (b : Option (List ℕ)) → ((l : List ℕ) → b ≡ Some l → reads_in a.parts ++ more ≡ batches_of 0 l) → AreRead b (a.parts ++ []) more
      by None is = tt
      by (Some l) is = ap (λ (t : List Part). reads_in t ++ more) (append-nil a.parts) ∙ is l refl

  -- what was read, and what is left
  read-all : (more : List Read) → (left_of mid ≡ more) → AreRead left (a.parts ++ []) more
  read-all more same = by left mid a.read same
    where
      by : (b : Option (List ℕ)) (c : Option (List Read)) → Takes (first_left b) c (reads_in a.parts) → left_of c ≡ more → AreRead b (a.parts ++ []) more
      by None c t same = tt
      by (Some l) None t same = absurd t
      by (Some l) (Some xs) t same = ap (λ (p : List Part). reads_in p ++ more) (append-nil a.parts) ∙ ap (λ (x : List Read). reads_in a.parts ++ x) (sym same) ∙ sym t

  abbrev idle-session : (status : ℕ) (more : List Read) (back : List ℕ) → AreRead left (a.parts ++ []) more
      → EndsBatches count (suc (length (a.parts ++ []))) [] status (worst_in (a.parts ++ [])) (record { more = more; lines = []; entries = []; text = back })
      → SessionOf count left [] [] [] status (text ++ back)
  idle-session status more back read ends = record {
    early = a.parts;
    parts = [];
    rest = record { more = more; lines = []; entries = []; text = back };
    idle = a.are.lines;
    early_are = a.are.are;
    are = tt;
    read = read;
    ends = ends;
    history = refl;
    written = ap (λ (t : List ℕ). t ++ back) (a.written ∙ ap text_in (sym (append-nil a.parts)));
    follows = none-follows;
    together = λ n bytes at le k lane line op there. absurd cc;
    clock = record { last = []; is = refl; few = omega arith; whole = λ other. refl };
    timed = λ x lane line op at. absurd cc;
  }

module _ (R : Settings → List ScriptLine → ℕ → SetUp → List Entry → List Entry → Type 0) (s : Settings) (left : Option (List ℕ)) (rest : Option (List Read)) (now : Answered) (text : List ℕ) where
  worst-is : (mid : Option (List Read)) (front : List ℕ) (a : AnswersAll (AreIdleFrom s.count) nothing now (first_left left) mid front) → now.status ≡ worst_in (a.parts ++ [])
  worst-is mid front a = a.counts.status ∙ zero-max (worst_in a.parts) ∙ ap worst_in (sym (append-nil a.parts))
    where
      zero-max : (n : ℕ) → max 0 n ≡ n
      zero-max n = omega arith

  number-is : (mid : Option (List Read)) (front : List ℕ) (a : AnswersAll (AreIdleFrom s.count) nothing now (first_left left) mid front) → suc now.count ≡ suc (length (a.parts ++ []))
  number-is mid front a = let n = a.counts.count in let long = ap length (append-nil a.parts) in omega (arith, n, long)

  -- no batch has a line
  pub none-found : FindsScript (AreIdleFrom s.count) (StopsIdle s.count) nothing now (first_left left) rest (Ok None) text → BatchesBy R s left [] [] now.status text
  none-found f =
      let a = f.1 in
      let nothing_left : left_of f.0 ≡ [] = by f.0 rest f.2 in
      let session = idle-session s.count left f.0 now text a now.status [] [] (read-all s.count left f.0 now text a [] nothing_left)
      (at_end (worst-is f.0 text a) refl (record { lines = refl; entries = refl; text = refl })) in
      subst (λ (t : List ℕ). BatchesBy R s left [] [] now.status t) (append-nil text) (no_lines refl session refl)
    where
      by : (b c : Option (List Read)) → IsAtEnd b c → left_of b ≡ []
      by None c e = refl
      by (Some xs) None e = absurd e
      by (Some xs) (Some ys) e = e

  cut-off : (stop : Stop) → stop ≢ stops.Source → IsCutOff (status_of stop)
  cut-off stops.Source other = absurd (other refl)
  cut-off stops.Output other = inl refl
  cut-off stops.Memory other = inr refl

  -- what is left of an input that has this batch
  behind-of : Option (List Read) → List Read
  behind-of None = []
  behind-of (Some []) = []
  behind-of (Some (x ∷ xs)) = xs

  -- none could be read or answered
  module _ (stop : Stop) (mid : Option (List Read)) (front back : List ℕ) (a : AnswersAll (AreIdleFrom s.count) nothing now (first_left left) mid front) where
    stop-so : (more : List Read) → AreRead left (a.parts ++ []) more
        → EndsBatches s.count (suc (length (a.parts ++ []))) [] (status_of stop) (worst_in (a.parts ++ [])) (record { more = more; lines = []; entries = []; text = back })
        → BatchesBy R s left [] [] (status_of stop) (front ++ back)
    stop-so more read ends = no_lines refl (idle-session s.count left mid now front a (status_of stop) more back read ends) refl

    first-more : (batch : Read) → IsFirst mid batch → (more : List Read) × AreRead left (a.parts ++ []) (batch ∷ more)
    first-more batch first = by left mid a.read first
      where
        by : (b : Option (List ℕ)) (c : Option (List Read)) → Takes (first_left b) c (reads_in a.parts) → IsFirst c batch → (more : List Read) × AreRead b (a.parts ++ []) (batch ∷ more)
        by None c t first = ([], tt)
        by (Some l) None t first = absurd t
        by (Some l) (Some xs) t first =
            (first.0, ap (λ (p : List Part). reads_in p ++ batch ∷ first.0) (append-nil a.parts) ∙ ap (λ (x : List Read). reads_in a.parts ++ x) (sym first.1) ∙ sym t)

    idle-stop : StopsIdle s.count (suc now.count) stop mid back → BatchesBy R s left [] [] (status_of stop) (front ++ back)
    idle-stop (as_any (no_batch none)) =
        stop-so (left_of mid) (read-all s.count left mid now front a (left_of mid) refl) (by stop)
      where
        nothing-of : IsNone (record { more = left_of mid; lines = []; entries = []; text = back })
        nothing-of = record { lines = refl; entries = refl; text = none }

        by : (stop : Stop) → EndsBatches s.count (suc (length (a.parts ++ []))) [] (status_of stop) (worst_in (a.parts ++ [])) (record { more = left_of mid; lines = []; entries = []; text = back })
        by stops.Source = no_source refl nothing-of
        by stops.Output = cut_between (inl refl) nothing-of
        by stops.Memory = cut_between (inr refl) nothing-of
    idle-stop (as_any (in_refusal other batch fault first why within)) =
        let m = first-more batch first in
        stop-so (batch ∷ m.0) m.1
        (cut_refused (cut-off stop other) batch m.0 fault refl why refl refl (subst (λ (n : ℕ). IsFront back (refused_text n fault)) (number-is mid front a) within))
    idle-stop (in_done other batch first asks within) =
        let m = first-more batch first in
        let status : HasStatus [] 0 = well refl (λ fault i. absurd (let at = i.is in cc)) in
        stop-so (batch ∷ m.0) m.1
        (cut_done (cut-off stop other) batch m.0 0 refl asks status (subst (λ (n : ℕ). IsFront back (counts_text s.count no_calls ++ done_text n 0)) (number-is mid front a) within))

  pub stop-found : (stop : Stop) → FindsScript (AreIdleFrom s.count) (StopsIdle s.count) nothing now (first_left left) rest (Err stop) text → BatchesBy R s left [] [] (status_of stop) text
  stop-found stop f =
      subst (λ (t : List ℕ). BatchesBy R s left [] [] (status_of stop) t) (sym f.1.3) (idle-stop stop f.0 f.1.0 f.1.1 f.1.2 f.1.4)

-- ---- a session was set up, or it was to be

module _ (R : Settings → List ScriptLine → ℕ → SetUp → List Entry → List Entry → Type 0) (s : Settings) (left : Option (List ℕ)) (mid rest : Option (List Read)) (now : Answered) (front : List ℕ) (batch : Read)
    (a : AnswersAll (AreIdleFrom s.count) nothing now (first_left left) mid front) (takes : Takes mid rest (batch ∷ [])) where
  -- the batches from the first one that is run
  read-on : (parts : List Part) (more : List Read) → FromBatch (in_front batch rest) (reads_in parts ++ more) → AreRead left (a.parts ++ parts) more
  read-on parts more from = by left mid rest a.read takes from
    where
      by : (b : Option (List ℕ)) (c d : Option (List Read)) → Takes (first_left b) c (reads_in a.parts) → Takes c d (batch ∷ []) → FromBatch (in_front batch d) (reads_in parts ++ more) → AreRead b (a.parts ++ parts) more
      by None c d t u from = tt
      by (Some l) None d t u from = absurd t
      by (Some l) (Some xs) None t u from = absurd u
      by (Some l) (Some xs) (Some ys) t u from =
          ap (λ (x : List Read). x ++ more) (reads-append a.parts parts)
          ∙ append_assoc (reads_in a.parts) (reads_in parts) more
          ∙ ap (λ (x : List Read). reads_in a.parts ++ x) (sym (u ∙ from))
          ∙ sym t

  -- only those before it were answered
  read-early : (more : List Read) × AreRead left a.parts more
  read-early = by left mid a.read
    where
      by : (b : Option (List ℕ)) (c : Option (List Read)) → Takes (first_left b) c (reads_in a.parts) → (more : List Read) × AreRead b a.parts more
      by None c t = ([], tt)
      by (Some l) None t = absurd t
      by (Some l) (Some xs) t = (xs, sym t)

  count-is : (parts : List Part) → suc (now.count + length parts) ≡ suc (length (a.parts ++ parts))
  count-is parts = let n = a.counts.count in let long = length-append a.parts parts in omega (arith, n, long)

  max-both : (x y z : ℕ) → x ≡ max 0 y → max x z ≡ max y z
  max-both x y z is = omega (arith, is)

  worst-both : (parts : List Part) → max now.status (worst_in parts) ≡ worst_in (a.parts ++ parts)
  worst-both parts = max-both now.status (worst_in a.parts) (worst_in parts) a.counts.status ∙ sym (worst-append a.parts parts)

  module _ (result : Result ℕ Stop) (given back : List ℕ) (before h : List Entry) (runs : RunsAll s.count now (in_front batch rest) result given back before h) where
    abbrev whole-session : SessionOf s.count left given before h (ended_with result) (front ++ back)
    whole-session = record {
      early = a.parts;
      parts = runs.parts;
      rest = runs.rest;
      idle = a.are.lines;
      early_are = a.are.are;
      are = (let n = a.counts.count in let same : now.count ≡ length a.parts = omega (arith, n) in subst (λ (k : ℕ). ArePartsFrom s.count k before [] runs.parts) same runs.are);
      read = read-on runs.parts runs.rest.more runs.read;
      ends = subst (λ (w : ℕ). EndsBatches s.count (suc (length (a.parts ++ runs.parts))) (before ++ entries_in runs.parts) (ended_with result) w runs.rest) (worst-both runs.parts)
          (subst (λ (n : ℕ). EndsBatches s.count n (before ++ entries_in runs.parts) (ended_with result) (max now.status (worst_in runs.parts)) runs.rest) (count-is runs.parts) runs.ends);
      history = runs.history;
      written = ap (λ (t : List ℕ). t ++ back) a.written
          ∙ ap (λ (t : List ℕ). text_in a.parts ++ t) runs.written
          ∙ sym (append_assoc (text_in a.parts) (text_in runs.parts) runs.rest.text)
          ∙ ap (λ (t : List ℕ). t ++ runs.rest.text) (sym (text-append a.parts runs.parts));
      follows = runs.follows;
      together = runs.together;
      clock = runs.clock;
      timed = runs.timed;
    }

  pub opens-so : (result : Result ℕ Stop) (given back : List ℕ) (h : List Entry) → OpensWith R s now (in_front batch rest) given h result back
      → BatchesBy R s left given h (ended_with result) (front ++ back)
  opens-so result given back h (opened ms xid later is first v before sets runs r) =
      ready ms xid later is first v before sets (whole-session result later back before h runs) r
  opens-so result given back h (opens_lost ms xid later is first tally before sets loses gone) =
      lost ms xid later is first tally before sets (whole-session result later back before h loses.runs) loses.only gone
  opens-so result given back h (opens_refused ms xid is first fault sets tells) =
      unmounted ms xid is first a.parts read-early.0 a.are.lines a.are.are read-early.1 fault sets back tells (ap (λ (t : List ℕ). t ++ back) a.written)
  opens-so result given back h (opens_unready ms xid is first sets seven none) =
      unready ms xid is first a.parts read-early.0 a.are.lines a.are.are read-early.1 sets seven
      (ap (λ (t : List ℕ). front ++ t) none ∙ append-nil front ∙ a.written)
