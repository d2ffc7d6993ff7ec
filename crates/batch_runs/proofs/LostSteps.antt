-- A session that was lost in its set-up goes on by a script, each line of which is answered so, and by batches that are refused; or it ends.
use Rattle.std.proofs.Common.{◌≡◌, ◌≢◌, ◌+◌, inl, inr, ℕ, suc, List, [], ◌∷◌, ◌++◌, All, length, max, take, slice_get, Bool, Option, Some, None, Result, Ok, Err, refl, sym, ap, subst, ◌∙◌, append-nil, append_assoc, arith}
use Rattle.world_model.specs.declared.entry.Entry.{Entry}
use Rattle.world_model.specs.declared.tally.Tally.{Tally}
use Rattle.world_model.specs.Clocked.{clocks}
use Rattle.world_model.specs.Counts.{tally_of}
use Rattle.world_model.specs.Follows.{Finishes, Follows, IsFront, begun}
use Rattle.world_model.specs.History.{history}
use Rattle.world_model.specs.Transcript.{transcript}
use Rattle.nfs_script.specs.Asked.{IsAskedLine}
use Rattle.nfs_script.specs.DoneText.{done_text}
use Rattle.nfs_script.specs.declared.script.ScriptLine.{ScriptLine}
use Rattle.script_batches.specs.Batches.{Read}
use Rattle.lane_session.specs.declared.halt.Halt.{Halt}
use Rattle.lane_session.specs.Endings.{counts_text, entries_of}
use Rattle.lane_session.specs.Labels.{told_by}
use Rattle.lane_session.specs.Losing.{IsToldOf, LosesOnly, LostLines, LostPart, by_lanes, status_of as status_of_lines}
use Rattle.lane_session.specs.Sessions.{IsUnmarked}
use Rattle.lane_session.specs.TogetherFrom.{TogetherFrom}
use Rattle.lane_session.proofs.Labels.{told-plain}
use Rattle.lane_session.proofs.LaneOrder.{by-empty, lanes-same}
use Rattle.lane_session.proofs.LostAdds.{told-loses}
use Rattle.lane_session.proofs.LostLaws.{entries-both}
use Rattle.lane_session.proofs.Pushes.{begun-append, clocks-append}
use Rattle.script_runs.specs.Run.{IsCutOff}
use Rattle.script_runs.proofs.Finishing.{all-append}
use Rattle.batch_runs.specs.declared.answered.Answered.{Answered}
use Rattle.batch_runs.specs.declared.stop.Stop.{Stop}
use Rattle.batch_runs.specs.declared.stop.Stop.TheVariants as stops
use Rattle.batch_runs.specs.Parts.{Part, PartIs, RefusedFrom, asked_in, entries_in, lines_in, ran_part, ran_text, refused_text, text_in, worst_in}
use Rattle.batch_runs.specs.Reading.{AnswersAll, IsAtEnd, StopsAt, Takes, in_refusal, no_batch}
use Rattle.batch_runs.specs.Running.{FromBatch, LosesNext, LosesOn, LosesScripts, LosesWhole, ended_with, in_front}
use Rattle.batch_runs.specs.Runs.{EndsBatches, IsNone, Rest, at_end, cut_between, cut_done, cut_in, cut_refused, no_source}
use Rattle.batch_runs.specs.Stops.{of_halt, status_of}
use Rattle.batch_runs.proofs.LeftOf.{from-current, from-end, from-left, from-refusal, halt-off, last-few, last-none, left_of, stop-off}
use Rattle.batch_runs.proofs.LostSo.{IsLostCut as IsCutShort, IsLostTo, lost-finishes, lost-follows, lost-lines, lost-none, part-cut}
use Rattle.batch_runs.proofs.LostUpTo.{EachLosing, IsLostSoFar, each-both, in-order, none-heard, own-each, own-none, own-status, same-calls}
use Rattle.batch_runs.proofs.Nexts.{max-two}
use Rattle.batch_runs.proofs.Parts.{entries-append, length-append, lines-append, parts-append, reads-append, refused-are, refused-entries, refused-lines, takes-more, text-append, worst-append}
use Rattle.batch_runs.proofs.UpTo.{max-none, max-one, reads_in, takes-current}

-- The next script was read.
pub record LostUpTo (count : Bool) (tally : Tally) (old now : Answered) (script : List ScriptLine) (left rest : Option (List Read)) (given text : List ℕ) (h k : List Entry) : Type 0 where
  pub parts : List Part
  pub so_far : IsLostSoFar count tally old now given text h k parts
  pub current : Read
  pub asks : asked_in current ≡ Ok script
  pub read : Takes left rest (reads_in parts ++ current ∷ [])

-- Each batch that was read has its answer.
pub record LostRanTo (count : Bool) (tally : Tally) (old now : Answered) (left rest : Option (List Read)) (given text : List ℕ) (h k : List Entry) : Type 0 where
  pub parts : List Part
  pub so_far : IsLostSoFar count tally old now given text h k parts
  pub read : Takes left rest (reads_in parts)

none-asked : All IsAskedLine []
none-asked n x lt = absurd (omega (arith, lt))

pub lost-up-none : (count : Bool) (tally : Tally) (old : Answered) (script : List ScriptLine) (left : Option (List Read)) (h : List Entry) (current : Read)
    → asked_in current ≡ Ok script → IsUnmarked h → tally ≡ tally_of h → LostUpTo count tally old old script (in_front current left) left [] [] h h
lost-up-none count tally old script left h current asks unmarked is = record {
  parts = [];
  so_far = record {
    are = tt;
    counts = record { count = omega arith; status = omega arith };
    history_is = sym (append-nil h);
    written = refl;
    clocked = sym (append-nil (clocks h));
    gone = lost-none h unmarked;
    asked = none-asked;
    only = λ i e at. absurd cc;
    none = λ e. refl;
    tally_is = is;
  };
  current = current;
  asks = asks;
  read = takes-current current left;
}

no-both : (xs ys : List ScriptLine) → xs ++ ys ≡ [] → (xs ≡ []) × (ys ≡ [])
no-both [] ys e = (refl, e)
no-both (x ∷ xs) ys e = absurd cc

both-none : (xs ys : List Entry) → xs ≡ [] → ys ≡ [] → xs ++ ys ≡ []
both-none xs ys a b = ap (λ (t : List Entry). t ++ ys) a ∙ b

-- ---- a script whose lines were answered so

module _ (count : Bool) (tally : Tally) (old now : Answered) (script : List ScriptLine) (may : All IsAskedLine script) (left rest : Option (List Read)) (given text given_now told : List ℕ) (h k l es : List Entry)
    (u : LostUpTo count tally old now script left rest given text h k) (is : l ≡ k ++ es) (lines : LostLines (by_lanes 16 script) es) (given_is : given_now ≡ clocks es) (told_is : told ≡ told_by [] es) where
  behind : l ≡ (h ++ entries_in u.parts) ++ es
  behind = is ∙ ap (λ (t : List Entry). t ++ es) u.so_far.history_is

  gone-now : IsLostTo (lines_in u.parts ++ script) l
  gone-now =
      in-order (lines_in u.parts) script l may
      (subst (IsLostTo (lines_in u.parts ++ by_lanes 16 script)) (sym is) (lost-lines (lines_in u.parts) (by_lanes 16 script) k es lines u.so_far.gone))

  tally-now : tally ≡ tally_of l
  tally-now = u.so_far.tally_is ∙ same-calls script may given_now told k l es is lines given_is told_is

  clocked-now : clocks l ≡ clocks h ++ (given ++ given_now)
  clocked-now =
      ap clocks is ∙ clocks-append k es ∙ ap (λ (t : List ℕ). t ++ clocks es) u.so_far.clocked ∙ append_assoc (clocks h) given (clocks es)
      ∙ ap (λ (t : List ℕ). clocks h ++ (given ++ t)) (sym given_is)

  asked-now : All IsAskedLine (lines_in u.parts ++ script)
  asked-now = all-append (lines_in u.parts) script u.so_far.asked may

  each-now : EachLosing es
  each-now = own-each script may given_now told k l es is lines given_is told_is

  none-now : lines_in u.parts ++ script ≡ [] → entries_in u.parts ++ es ≡ []
  none-now e =
      let both = no-both (lines_in u.parts) script e in
      both-none (entries_in u.parts) es (u.so_far.none both.0) (own-none script may given_now told k l es is lines given_is told_is both.1)

  together-now : TogetherFrom (length (h ++ entries_in u.parts)) (entries_of script) ((h ++ entries_in u.parts) ++ es)
  together-now = none-heard (h ++ entries_in u.parts) es (entries_of script) each-now

  -- what ends its batch
  ended-now : counts_text count tally ++ done_text (now.count + 1) (status_of_lines script)
      ≡ counts_text count (tally_of ((h ++ entries_in u.parts) ++ es)) ++ done_text (suc (old.count + length u.parts)) (status_of_lines script)
  ended-now =
      let number : now.count + 1 ≡ suc (old.count + length u.parts) = (let n = u.so_far.counts.count in omega (arith, n)) in
      ap (λ (t : List ℕ). t ++ done_text (now.count + 1) (status_of_lines script)) (ap (counts_text count) (tally-now ∙ ap tally_of behind))
      ∙ ap (λ (n : ℕ). counts_text count (tally_of ((h ++ entries_in u.parts) ++ es)) ++ done_text n (status_of_lines script)) number

  told-now : told ≡ transcript es
  told-now = told_is ∙ told-plain es

  abbrev part_of : List ℕ → Part
  part_of text_now = record { read = u.current; lines = script; entries = es; status = status_of_lines script; text = text_now }

  lost-part : (text_now : List ℕ) → text_now ≡ ran_text count (suc (old.count + length u.parts)) (h ++ entries_in u.parts) es (status_of_lines script)
      → PartIs count (suc (old.count + length u.parts)) (h ++ entries_in u.parts) ([] ++ lines_in u.parts) (part_of text_now)
  lost-part text_now text_is =
      ran_part u.asks (subst (Finishes (entries_of (lines_in u.parts ++ script))) behind (lost-finishes (lines_in u.parts ++ script) l gone-now)) together-now
      (own-status script may given_now told k l es is lines given_is told_is) text_is

  ran-behind : (after : Answered) (text_now : List ℕ) → text_now ≡ ran_text count (suc (old.count + length u.parts)) (h ++ entries_in u.parts) es (status_of_lines script)
      → after.count ≡ now.count + 1 → after.status ≡ max now.status (status_of_lines script) → LostRanTo count tally old after left rest (given ++ given_now) (text ++ text_now) h l
  ran-behind after text_now text_is count_is status_is =
      let part : Part = part_of text_now in
      let lines_are : lines_in (u.parts ++ part ∷ []) ≡ lines_in u.parts ++ script =
      lines-append u.parts (part ∷ []) ∙ ap (λ (t : List ScriptLine). lines_in u.parts ++ t) (append-nil script) in
      let entries_are : entries_in (u.parts ++ part ∷ []) ≡ entries_in u.parts ++ es =
      entries-append u.parts (part ∷ []) ∙ ap (λ (t : List Entry). entries_in u.parts ++ t) (append-nil es) in
      record {
        parts = u.parts ++ part ∷ [];
        so_far = record {
          are = parts-append count old.count (old.count + length u.parts) h [] u.parts (part ∷ []) refl u.so_far.are (lost-part text_now text_is, tt);
          counts = record {
            count = (let b = u.so_far.counts.count in let long = length-append u.parts (part ∷ []) in omega (arith, count_is, b, long));
            status = status_is ∙ max-one old.status now.status (worst_in u.parts) (status_of_lines script) u.so_far.counts.status
                ∙ ap (max old.status) (ap (max (worst_in u.parts)) (sym (max-none (status_of_lines script))) ∙ sym (worst-append u.parts (part ∷ [])));
          };
          history_is = behind ∙ append_assoc h (entries_in u.parts) es ∙ ap (λ (t : List Entry). h ++ t) (sym entries_are);
          written = ap (λ (t : List ℕ). t ++ text_now) u.so_far.written
              ∙ ap (λ (t : List ℕ). text_in u.parts ++ t) (sym (append-nil text_now)) ∙ sym (text-append u.parts (part ∷ []));
          clocked = clocked-now;
          gone = subst (λ (t : List ScriptLine). IsLostTo t l) (sym lines_are) gone-now;
          asked = subst (All IsAskedLine) (sym lines_are) asked-now;
          only = subst EachLosing (sym entries_are) (each-both (entries_in u.parts) es u.so_far.only each-now);
          none = λ e. entries_are ∙ none-now (sym lines_are ∙ e);
          tally_is = tally-now;
        };
        read = subst (Takes left rest) (sym (reads-append u.parts (part ∷ []))) u.read;
      }

  -- it was cut off behind them
  cut-behind : (stop : Stop) (text_now ended : List ℕ) → stop ≢ stops.Source → text_now ≡ told ++ ended → IsFront ended (counts_text count tally ++ done_text (now.count + 1) (status_of_lines script))
      → LosesScripts count old left (Err stop) (given ++ given_now) (text ++ text_now) h l
  cut-behind stop text_now ended other text_is front = record {
    runs = record {
      parts = u.parts;
      rest = record { more = u.current ∷ left_of rest; lines = script; entries = es; text = text_now };
      are = u.so_far.are;
      read = from-current left rest (reads_in u.parts) u.current u.read;
      ends = cut_done (stop-off stop other) u.current (left_of rest) (status_of_lines script) refl u.asks (own-status script may given_now told k l es is lines given_is told_is) (record {
        rest = front.rest;
        is = ap (λ (t : List ℕ). transcript es ++ t) (sym ended-now ∙ front.is) ∙ sym (append_assoc (transcript es) ended front.rest)
            ∙ ap (λ (t : List ℕ). t ++ front.rest) (ap (λ (t : List ℕ). t ++ ended) (sym told-now) ∙ sym text_is);
      });
      history = behind ∙ append_assoc h (entries_in u.parts) es;
      written = ap (λ (t : List ℕ). t ++ text_now) u.so_far.written;
      follows = lost-follows (lines_in u.parts ++ script) l gone-now;
      together = subst (TogetherFrom (length (h ++ entries_in u.parts)) (entries_of script)) (sym behind) together-now;
      clock = record { last = []; is = sym clocked-now ∙ sym (append-nil (clocks l)); few = omega arith; whole = λ other. refl };
      timed = gone-now.timed_all;
      asked = asked-now;
    };
    only = record {
      more = entries_in u.parts ++ es;
      is = behind ∙ append_assoc h (entries_in u.parts) es;
      each = each-both (entries_in u.parts) es u.so_far.only each-now;
      none = none-now;
    };
  }

-- ---- it was cut off in its lines

-- the lines of lanes one after another are the lines of the script, lane by lane
cut-order : (done script : List ScriptLine) (k : List Entry) → All IsAskedLine script → IsCutShort (done ++ by_lanes 16 script) k → IsCutShort (done ++ script) k
cut-order done script k asked g = record {
  follows = record {
    alternates = g.follows.alternates;
    begins = λ lane. subst (IsFront (begun lane k))
        (ap (begun lane) (entries-both done (by_lanes 16 script))
        ∙ begun-append lane (entries_of done) (entries_of (by_lanes 16 script))
        ∙ ap (λ (t : List Entry). begun lane (entries_of done) ++ t) (lanes-same script asked lane)
        ∙ sym (begun-append lane (entries_of done) (entries_of script))
        ∙ ap (begun lane) (sym (entries-both done script)))
        (g.follows.begins lane);
  };
  timed_all = g.timed_all;
}

module _ (count : Bool) (tally : Tally) (old now : Answered) (script : List ScriptLine) (may : All IsAskedLine script) (left rest : Option (List Read)) (given text given_now text_now : List ℕ) (h k l : List Entry)
    (u : LostUpTo count tally old now script left rest given text h k) (halt : Halt) (n : ℕ) (line : ScriptLine) (there : slice_get (by_lanes 16 script) n ≡ Some line) (es part : List Entry)
    (is : l ≡ k ++ (es ++ part)) (lines : LostLines (take n (by_lanes 16 script)) es) (front : LostPart line part) (told : IsToldOf [] halt given_now text_now (es ++ part)) where
  lost-more : LosesOnly script [] (es ++ part)
  lost-more =
      told-loses (Some (history [])) (Some (history (es ++ part))) [] (by_lanes 16 script) script (Err halt) given_now text_now (λ none. by-empty 16 script none)
      (n, line, there, (es, part, refl, lines, front, told))

  more-each : EachLosing (es ++ part)
  more-each = subst EachLosing (sym lost-more.is) lost-more.each

  more-behind : l ≡ (h ++ entries_in u.parts) ++ (es ++ part)
  more-behind = is ∙ ap (λ (t : List Entry). t ++ (es ++ part)) u.so_far.history_is

  short : IsCutShort (lines_in u.parts ++ script) l
  short =
      subst (IsCutShort (lines_in u.parts ++ script)) (append_assoc k es part ∙ sym is)
      (cut-order (lines_in u.parts) script ((k ++ es) ++ part) may
      (part-cut (lines_in u.parts) (by_lanes 16 script) n line there (k ++ es) part (lost-lines (lines_in u.parts) (take n (by_lanes 16 script)) k es lines u.so_far.gone) front))

  cut-within : (stop : Stop) → stop ≡ of_halt halt → LosesScripts count old left (Err stop) (given ++ given_now) (text ++ text_now) h l
  cut-within stop stop_is = record {
    runs = record {
      parts = u.parts;
      rest = record { more = u.current ∷ left_of rest; lines = script; entries = es ++ part; text = text_now };
      are = u.so_far.are;
      read = from-current left rest (reads_in u.parts) u.current u.read;
      ends = cut_in (subst (λ (x : Stop). IsCutOff (status_of x)) (sym stop_is) (halt-off halt)) u.current (left_of rest) refl u.asks told.shown;
      history = more-behind ∙ append_assoc h (entries_in u.parts) (es ++ part);
      written = ap (λ (t : List ℕ). t ++ text_now) u.so_far.written;
      follows = short.follows;
      together = subst (TogetherFrom (length (h ++ entries_in u.parts)) (entries_of script)) (sym more-behind) (none-heard (h ++ entries_in u.parts) (es ++ part) (entries_of script) more-each);
      clock = record {
        last = told.last;
        is = sym (append_assoc (clocks h) given given_now) ∙ ap (λ (t : List ℕ). t ++ given_now) (sym u.so_far.clocked) ∙ ap (λ (t : List ℕ). clocks k ++ t) told.clocked
            ∙ sym (append_assoc (clocks k) (clocks (es ++ part)) told.last) ∙ ap (λ (t : List ℕ). t ++ told.last) (sym (clocks-append k (es ++ part)) ∙ ap clocks (sym is));
        few = last-few halt told.last told.left;
        whole = λ other. last-none halt told.last told.left (λ seven. other (ap status_of stop_is ∙ seven));
      };
      timed = short.timed_all;
      asked = all-append (lines_in u.parts) script u.so_far.asked may;
    };
    only = record {
      more = entries_in u.parts ++ (es ++ part);
      is = more-behind ∙ append_assoc h (entries_in u.parts) (es ++ part);
      each = each-both (entries_in u.parts) (es ++ part) u.so_far.only more-each;
      none = λ e.
          let both = no-both (lines_in u.parts) script e in
          both-none (entries_in u.parts) (es ++ part) (u.so_far.none both.0) (lost-more.is ∙ lost-more.none both.1);
    };
  }

-- ---- behind a batch that was answered

module _ (count : Bool) (tally : Tally) (old now : Answered) (left mid : Option (List Read)) (given text : List ℕ) (h k : List Entry) (r : LostRanTo count tally old now left mid given text h k) where
  -- batches that were refused
  lost-refused : (after : Answered) (rest : Option (List Read)) (back : List ℕ) → AnswersAll RefusedFrom now after mid rest back → LostRanTo count tally old after left rest given (text ++ back) h k
  lost-refused after rest back a =
      let none_lines : lines_in a.parts ≡ [] = refused-lines now.count a.parts a.are in
      let none_entries : entries_in a.parts ≡ [] = refused-entries now.count a.parts a.are in
      let lines_are : lines_in (r.parts ++ a.parts) ≡ lines_in r.parts =
      lines-append r.parts a.parts ∙ ap (λ (t : List ScriptLine). lines_in r.parts ++ t) none_lines ∙ append-nil (lines_in r.parts) in
      let entries_are : entries_in (r.parts ++ a.parts) ≡ entries_in r.parts =
      entries-append r.parts a.parts ∙ ap (λ (t : List Entry). entries_in r.parts ++ t) none_entries ∙ append-nil (entries_in r.parts) in
      record {
        parts = r.parts ++ a.parts;
        so_far = record {
          are = parts-append count old.count now.count h [] r.parts a.parts r.so_far.counts.count r.so_far.are (refused-are count now.count (h ++ entries_in r.parts) (lines_in r.parts) a.parts a.are);
          counts = record {
            count = (let x = r.so_far.counts.count in let y = a.counts.count in let long = length-append r.parts a.parts in omega (arith, x, y, long));
            status = a.counts.status ∙ max-two old.status now.status (worst_in r.parts) (worst_in a.parts) r.so_far.counts.status ∙ ap (max old.status) (sym (worst-append r.parts a.parts));
          };
          history_is = r.so_far.history_is ∙ ap (λ (t : List Entry). h ++ t) (sym entries_are);
          written = ap (λ (t : List ℕ). t ++ back) r.so_far.written ∙ ap (λ (t : List ℕ). text_in r.parts ++ t) a.written ∙ sym (text-append r.parts a.parts);
          clocked = r.so_far.clocked;
          gone = subst (λ (t : List ScriptLine). IsLostTo t k) (sym lines_are) r.so_far.gone;
          asked = subst (All IsAskedLine) (sym lines_are) r.so_far.asked;
          only = subst EachLosing (sym entries_are) r.so_far.only;
          none = λ e. entries_are ∙ r.so_far.none (sym lines_are ∙ e);
          tally_is = r.so_far.tally_is;
        };
        read = subst (Takes left rest) (sym (reads-append r.parts a.parts)) (takes-more left mid rest (reads_in r.parts) (reads_in a.parts) r.read a.read);
      }

  -- a script that comes next
  lost-next : (rest : Option (List Read)) (batch : Read) (next : List ScriptLine) → Takes mid rest (batch ∷ []) → asked_in batch ≡ Ok next → LostUpTo count tally old now next left rest given text h k
  lost-next rest batch next takes asks =
      record { parts = r.parts; so_far = r.so_far; current = batch; asks = asks; read = takes-more left mid rest (reads_in r.parts) (batch ∷ []) r.read takes }

  -- nothing comes behind the last entry
  ends-after : (result : Result ℕ Stop) (rest : Rest) (back : List ℕ) → rest.lines ≡ [] → rest.entries ≡ [] → rest.text ≡ back
      → EndsBatches count (suc (old.count + length r.parts)) (h ++ entries_in r.parts) (ended_with result) (max old.status (worst_in r.parts)) rest
      → FromBatch left (reads_in r.parts ++ rest.more) → LosesScripts count old left result given (text ++ back) h k
  ends-after result rest back no_lines no_entries text_is ends read =
      let lines_are : lines_in r.parts ++ rest.lines ≡ lines_in r.parts = ap (λ (t : List ScriptLine). lines_in r.parts ++ t) no_lines ∙ append-nil (lines_in r.parts) in
      record {
        runs = record {
          parts = r.parts;
          rest = rest;
          are = r.so_far.are;
          read = read;
          ends = ends;
          history = r.so_far.history_is
              ∙ ap (λ (t : List Entry). h ++ t) (sym (ap (λ (t : List Entry). entries_in r.parts ++ t) no_entries ∙ append-nil (entries_in r.parts)));
          written = ap (λ (t : List ℕ). t ++ back) r.so_far.written ∙ ap (λ (t : List ℕ). text_in r.parts ++ t) (sym text_is);
          follows = subst (λ (t : List ScriptLine). Follows (entries_of t) k) (sym lines_are) (lost-follows (lines_in r.parts) k r.so_far.gone);
          together = subst (λ (t : List ScriptLine). TogetherFrom (length (h ++ entries_in r.parts)) (entries_of t) k) (sym no_lines) (λ n bytes at le j lane line op there. absurd cc);
          clock = record { last = []; is = sym r.so_far.clocked ∙ sym (append-nil (clocks k)); few = omega arith; whole = λ other. refl };
          timed = r.so_far.gone.timed_all;
          asked = subst (All IsAskedLine) (sym lines_are) r.so_far.asked;
        };
        only = record { more = entries_in r.parts; is = r.so_far.history_is; each = r.so_far.only; none = λ e. r.so_far.none (sym lines_are ∙ e) };
      }

  abbrev no_rest : List Read → List ℕ → Rest
  no_rest more back = record { more = more; lines = []; entries = []; text = back }

  -- the input has no further batch
  lost-well : (rest : Option (List Read)) → IsAtEnd mid rest → LosesScripts count old left (Ok now.status) given (text ++ []) h k
  lost-well rest ended =
      ends-after (Ok now.status) (no_rest [] []) [] refl refl refl (at_end r.so_far.counts.status refl (record { lines = refl; entries = refl; text = refl }))
      (from-end left mid rest (reads_in r.parts) r.read ended)

  -- no further batch could be read or answered
  lost-ill : (stop : Stop) (back : List ℕ) → StopsAt (suc now.count) stop mid back → LosesScripts count old left (Err stop) given (text ++ back) h k
  lost-ill stop back (no_batch none) =
      ends-after (Err stop) (no_rest (left_of mid) back) back refl refl refl (by stop) (from-left left mid (reads_in r.parts) r.read)
    where
      empty : IsNone (no_rest (left_of mid) back)
      empty = record { lines = refl; entries = refl; text = none }

      by : (stop : Stop) → EndsBatches count (suc (old.count + length r.parts)) (h ++ entries_in r.parts) (status_of stop) (max old.status (worst_in r.parts)) (no_rest (left_of mid) back)
      by stops.Source = no_source refl empty
      by stops.Output = cut_between (inl refl) empty
      by stops.Memory = cut_between (inr refl) empty
  lost-ill stop back (in_refusal other batch fault first why front) =
      let number : suc now.count ≡ suc (old.count + length r.parts) = (let n = r.so_far.counts.count in omega (arith, n)) in
      let from = from-refusal left mid (reads_in r.parts) batch r.read first in
      ends-after (Err stop) (no_rest (batch ∷ from.0) back) back refl refl refl
      (cut_refused (stop-off stop other) batch from.0 fault refl why refl refl (subst (λ (n : ℕ). IsFront back (refused_text n fault)) number front)) from.1

-- ---- one turn

module _ (count : Bool) (tally : Tally) (old now after : Answered) (script : List ScriptLine) (may : All IsAskedLine script) (left rest last : Option (List Read)) (given text given_now text_now : List ℕ)
    (h k l : List Entry) (u : LostUpTo count tally old now script left rest given text h k) where
  lost-ran : (done : Answered) (told : List ℕ) → LosesWhole count script tally now done (Ok tt) given_now told k l
      → LostRanTo count tally old done left rest (given ++ given_now) (text ++ told) h l
  lost-ran done told r =
      ran-behind count tally old now script may left rest given text given_now r.told h k l r.loses.0 u r.loses.1 r.loses.2 r.loses.3 r.loses.4 done told
      (r.text_is ∙ ap (λ (t : List ℕ). t ++ r.ended) (told-now count tally old now script may left rest given text given_now r.told h k l r.loses.0 u r.loses.1 r.loses.2 r.loses.3 r.loses.4)
      ∙ ap (λ (t : List ℕ). transcript r.loses.0 ++ t)
      (r.answers.2 ∙ ended-now count tally old now script may left rest given text given_now r.told h k l r.loses.0 u r.loses.1 r.loses.2 r.loses.3 r.loses.4))
      r.answers.0 r.answers.1

  text-both : (a b : List ℕ) → text_now ≡ a ++ b → (text ++ a) ++ b ≡ text ++ text_now
  text-both a b is = append_assoc text a b ∙ ap (λ (t : List ℕ). text ++ t) (sym is)

  -- the next script
  pub lost-on : (next : List ScriptLine) → LosesOn count script tally now after rest last (Ok (Some next)) given_now text_now k l
      → LostUpTo count tally old after next left last (given ++ given_now) (text ++ text_now) h l
  lost-on next on =
      let ran = lost-ran on.done on.told on.loses in
      let refused = lost-refused count tally old on.done left rest (given ++ given_now) (text ++ on.told) h l ran after on.finds.0 on.ended on.finds.1 in
      let up = lost-next count tally old after left on.finds.0 (given ++ given_now) ((text ++ on.told) ++ on.ended) h l refused last on.finds.2.0 next on.finds.2.1 on.finds.2.2 in
      subst (λ (t : List ℕ). LostUpTo count tally old after next left last (given ++ given_now) t h l) (text-both on.told on.ended on.text_is) up

  -- there is none
  pub lost-ends : LosesOn count script tally now after rest last (Ok None) given_now text_now k l → LosesScripts count old left (Ok after.status) (given ++ given_now) (text ++ text_now) h l
  lost-ends on =
      let ran = lost-ran on.done on.told on.loses in
      let refused = lost-refused count tally old on.done left rest (given ++ given_now) (text ++ on.told) h l ran after on.finds.0 on.ended on.finds.1 in
      let ends = lost-well count tally old after left on.finds.0 (given ++ given_now) ((text ++ on.told) ++ on.ended) h l refused last on.finds.2 in
      subst (λ (t : List ℕ). LosesScripts count old left (Ok after.status) (given ++ given_now) t h l)
      (append-nil ((text ++ on.told) ++ on.ended) ∙ text-both on.told on.ended on.text_is) ends

  -- it came to an end behind the script
  lost-later : (stop : Stop) → LosesOn count script tally now after rest last (Err stop) given_now text_now k l → LosesScripts count old left (Err stop) (given ++ given_now) (text ++ text_now) h l
  lost-later stop on =
      let ran = lost-ran on.done on.told on.loses in
      let f = on.finds in
      let refused = lost-refused count tally old on.done left rest (given ++ given_now) (text ++ on.told) h l ran after f.0 f.1.0 f.1.2 in
      let ends = lost-ill count tally old after left f.0 (given ++ given_now) ((text ++ on.told) ++ f.1.0) h l refused stop f.1.1 f.1.4 in
      let whole : ((text ++ on.told) ++ f.1.0) ++ f.1.1 ≡ text ++ text_now =
      append_assoc (text ++ on.told) f.1.0 f.1.1 ∙ ap (λ (t : List ℕ). (text ++ on.told) ++ t) (sym f.1.3) ∙ text-both on.told on.ended on.text_is in
      subst (λ (t : List ℕ). LosesScripts count old left (Err stop) (given ++ given_now) t h l) whole ends

  pub lost-stops : (stop : Stop) → LosesNext count script tally now after rest last (Err stop) given_now text_now k l
      → LosesScripts count old left (Err stop) (given ++ given_now) (text ++ text_now) h l
  lost-stops stop (inl on) = lost-later stop on
  lost-stops stop (inr (same, inl cut)) =
      let c = cut.loses in
      cut-within count tally old now script may left rest given text given_now text_now h k l u cut.halt c.0 c.1 c.2 c.3.0 c.3.1 c.3.2 c.3.3 c.3.4 c.3.5 stop cut.stops
  lost-stops stop (inr (same, inr r)) =
      cut-behind count tally old now script may left rest given text given_now r.told h k l r.loses.0 u r.loses.1 r.loses.2 r.loses.3 r.loses.4 stop text_now r.ended r.answers.1 r.text_is r.answers.2
