-- What a session promises, once its lines have ended and its counts are written.
use Rattle.std.proofs.Common.{◌≡◌, ◌≢◌, ◌≤◌, inl, inr, ℕ, Bool, List, [], ◌++◌, length, Option, Err, refl, sym, ap, subst, ◌∙◌, arith, append-nil, append_assoc}
use Rattle.world_model.specs.declared.entry.Entry.{Entry}
use Rattle.world_model.specs.declared.tally.Tally.{Tally}
use Rattle.world_model.specs.Clocked.{clocks}
use Rattle.world_model.specs.Counts.{tally_of}
use Rattle.world_model.specs.History.{History}
use Rattle.world_model.specs.Told.{Relates}
use Rattle.world_model.specs.Transcript.{transcript}
use Rattle.nfs_script.specs.declared.script.ScriptLine.{ScriptLine}
use Rattle.lane_session.specs.declared.halt.Halt.{Halt}
use Rattle.lane_session.specs.declared.halt.Halt.TheVariants as halts
use Rattle.lane_session.specs.declared.top.End.{End}
use Rattle.lane_session.specs.Endings.{whole, cut, TextOf, whole_text, counts_cut, line_cut, counts_text}
use Rattle.lane_session.specs.Labels.{IsCutIn, all_told, last_cut}
use Rattle.lane_session.specs.Sessions.{SessionIs, SessionCounts, IsDone, IsBroken, TellsEnd, tells, tells_front}
use Rattle.lane_session.specs.Statuses.{of_halt, IsCutOff, IsLeft, HasStatus, IsEnding, CausedBy}
use Rattle.lane_session.specs.Streams.{Says, Passes}
use Rattle.lane_session.proofs.Labels.{told-plain}
use Rattle.lane_session.proofs.Passing.{appends_then, relates_less}
use Rattle.lane_session.proofs.Reaching.{relates-both}

module _ (r0 r1 : Option (List ℕ)) (t0 t1 : Option History) (w0 w1 w2 : Option (List ℕ)) (R S : List ℕ → List ℕ → List Entry → List Entry → Type 0) (Q : List ℕ → Type 0) where
  -- a text more is written
  pub passes-more : ((g t u : List ℕ) (h k : List Entry) → R g t h k → Q u → S g (t ++ u) h k) → Passes r0 r1 t0 t1 w0 w1 R → Says w1 w2 Q → Passes r0 r1 t0 t1 w0 w2 S
  passes-more join p q = record {
    given = p.given;
    read = p.read;
    text = p.text ++ q.text;
    added = appends_then w0 w1 w2 p.text q.text p.added q.added;
    told = relates_less t0 t1 _ _ (λ h k x. join p.given p.text q.text h k x q.is) p.told;
  }

cut-off : (halt : Halt) → IsCutOff (of_halt halt)
cut-off halts.Output = inl refl
cut-off halts.Memory = inr refl

few-left : (halt : Halt) (last : List ℕ) → IsLeft halt last → length last ≤ 1
few-left halts.Output last is = rw is (omega arith)
few-left halts.Memory last few = few

none-left : (halt : Halt) (last : List ℕ) → IsLeft halt last → of_halt halt ≢ 7 → last ≡ []
none-left halts.Output last is other = is
none-left halts.Memory last few other = absurd (other refl)

-- the text of a session that was cut off before its counts
pub cut-text : (count : Bool) (tally : Tally) (status : ℕ) (text : List ℕ) (k : List Entry) → IsCutOff status → IsCutIn [] k text → TextOf count tally k status text
cut-text count tally status text k off (all_told is) = counts_cut off [] (is ∙ told-plain k ∙ sym (append-nil (transcript k))) (record { rest = counts_text count tally; is = refl })
cut-text count tally status text k off (last_cut before lane line answer front is shown within) =
    line_cut off before lane line answer front is (shown ∙ ap (λ (t : List ℕ). t ++ front) (told-plain before)) within

done-session : (count : Bool) (script : List ScriptLine) (end : End) (status : ℕ) (given text more : List ℕ) (h k : List Entry) → IsDone script end given text h k → TellsEnd end count status more
    → SessionIs count script given h k status (text ++ more)
done-session count script end status given text more h k d (tells is shown) = record {
  grown = d.grown;
  follows = d.follows;
  ends = whole d.finishes (subst (HasStatus k) (sym is) d.status);
  tally = end.tally;
  says = whole_text (ap (λ (t : List ℕ). t ++ more) d.shown ∙ ap (λ (t : List ℕ). transcript k ++ t) shown);
  clock = record { last = []; is = sym d.clocked ∙ sym (append-nil (clocks k)); few = omega arith; whole = λ other. refl };
  timed = d.timed;
  together = d.together;
}
done-session count script end status given text more h k d (tells_front off front) = record {
  grown = d.grown;
  follows = d.follows;
  ends = cut off;
  tally = end.tally;
  says = counts_cut off more (ap (λ (t : List ℕ). t ++ more) d.shown) front;
  clock = record { last = []; is = sym d.clocked ∙ sym (append-nil (clocks k)); few = omega arith; whole = λ other. refl };
  timed = d.timed;
  together = d.together;
}

broken-session : (count : Bool) (script : List ScriptLine) (tally : Tally) (halt : Halt) (status : ℕ) (given text : List ℕ) (h k : List Entry) → status ≡ of_halt halt → IsBroken script halt given text h k
    → SessionIs count script given h k status text
broken-session count script tally halt status given text h k is b =
    let off : IsCutOff status = subst IsCutOff (sym is) (cut-off halt) in
    record {
      grown = b.grown;
      follows = b.follows;
      ends = cut off;
      tally = tally;
      says = cut-text count tally status text k off b.shown;
      clock = record { last = b.last; is = b.clocked; few = few-left halt b.last b.left; whole = λ other. none-left halt b.last b.left (λ same. other (is ∙ same)) };
      timed = b.timed;
      together = b.together;
    }

-- ---- with the counts of the history

done-counted : (count : Bool) (script : List ScriptLine) (end : End) (status : ℕ) (given text more : List ℕ) (h k : List Entry) → IsDone script end given text h k → TellsEnd end count status more → end.tally ≡ tally_of k
    → TextOf count (tally_of k) k status (text ++ more)
done-counted count script end status given text more h k d told is = subst (λ (t : Tally). TextOf count t k status (text ++ more)) is (by told)
  where
    by : TellsEnd end count status more → TextOf count end.tally k status (text ++ more)
    by (tells same shown) = whole_text (ap (λ (t : List ℕ). t ++ more) d.shown ∙ ap (λ (t : List ℕ). transcript k ++ t) shown)
    by (tells_front off front) = counts_cut off more (ap (λ (t : List ℕ). t ++ more) d.shown) front

broken-counted : (count : Bool) (script : List ScriptLine) (halt : Halt) (status : ℕ) (given text : List ℕ) (h k : List Entry) → status ≡ of_halt halt → IsBroken script halt given text h k
    → TextOf count (tally_of k) k status text
broken-counted count script halt status given text h k is b = cut-text count (tally_of k) status text k (subst IsCutOff (sym is) (cut-off halt)) b.shown

pub done-counts : (opened : Type 0) (before : Tally) (count : Bool) (script : List ScriptLine) (end : End) (status : ℕ) (given text more : List ℕ) (h k : List Entry)
    → IsDone script end given text h k → (opened → before ≡ tally_of h → end.tally ≡ tally_of k) → TellsEnd end count status more
    → SessionCounts opened before count script given h k status (text ++ more)
done-counts opened before count script end status given text more h k d counts told = record {
  is = done-session count script end status given text more h k d told;
  counted = λ o is. done-counted count script end status given text more h k d told (counts o is);
}

pub broken-counts : (opened : Type 0) (before : Tally) (count : Bool) (script : List ScriptLine) (halt : Halt) (status : ℕ) (given text : List ℕ) (h k : List Entry)
    → status ≡ of_halt halt → IsBroken script halt given text h k → SessionCounts opened before count script given h k status text
broken-counts opened before count script halt status given text h k is b = record {
  is = broken-session count script before halt status given text h k is b;
  counted = λ o same. broken-counted count script halt status given text h k is b;
}

module _ (r0 r1 : Option (List ℕ)) (t0 t1 : Option History) (w0 w1 : Option (List ℕ)) (R : List ℕ → List ℕ → List Entry → List Entry → Type 0) (S : List Entry → List Entry → Type 0) where
  -- what is so of the histories, too
  pub passes-both : Passes r0 r1 t0 t1 w0 w1 R → Relates t0 t1 S → Passes r0 r1 t0 t1 w0 w1 (λ g t h k. R g t h k × S h k)
  passes-both p s = record { given = p.given; read = p.read; text = p.text; added = p.added; told = relates-both t0 t1 (λ h k. R p.given p.text h k) S p.told s }

pub halted : (halt : Halt) (status : ℕ) → status ≡ of_halt halt → IsEnding status
halted halts.Output status is = inr (inr (inr (inl is)))
halted halts.Memory status is = inr (inr (inr (inr is)))

pub sink-caused : (halt : Halt) (status : ℕ) (P : Type 0) → status ≡ of_halt halt → CausedBy {T = End} (Err halt) P → status ≡ 5 → P
sink-caused halts.Output status P is p five = p
sink-caused halts.Memory status P is p five = absurd (omega (arith, is, five))
