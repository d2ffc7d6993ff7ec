-- The history of a session that was lost in its set-up, batch after batch.
use Rattle.std.proofs.Common.{◌≡◌, ◌≢◌, ℕ, zero, suc, List, [], ◌∷◌, ◌++◌, take, drop, slice_get, true, false, nat_eq, Some, refl, sym, ap, subst, ◌∙◌, append-nil, append_assoc}
use Rattle.std.proofs.lemmas.Bool.{eqb-true, eqb-false}
use Rattle.std.proofs.lemmas.List.{take-append-drop}
use Rattle.world_model.specs.declared.answer.Answer.TheVariants.{Refused}
use Rattle.world_model.specs.declared.answer.Fault.TheVariants as faults
use Rattle.world_model.specs.declared.entry.Entry.{Entry}
use Rattle.world_model.specs.declared.entry.Entry.TheVariants.{Answered, Began, Clock}
use Rattle.world_model.specs.Follows.{Alternates, Finishes, Follows, IsFront, begun, marks_of}
use Rattle.nfs_script.specs.declared.script.ScriptLine.{ScriptLine}
use Rattle.core_facts.proofs.Marks.{answered-other, began-other}
use Rattle.lane_session.specs.Endings.{entries_of}
use Rattle.lane_session.specs.Going.{AllTimed}
use Rattle.lane_session.specs.LaneMarks.{IsResting, IsRunning}
use Rattle.lane_session.specs.Losing.{LostLines, LostPart, answered as part_answered, begun as part_begun, lost_line, no_line, nothing, one_line, timed}
use Rattle.lane_session.specs.Sessions.{IsUnmarked}
use Rattle.lane_session.proofs.LaneLaws.{answers-now, begins-now, resting-alternates, resting-grow, running-alternates}
use Rattle.lane_session.proofs.LostLaws.{entries-both, none-gone}
use Rattle.lane_session.proofs.Placing.{timed-begin, timed-quiet}
use Rattle.lane_session.proofs.Pushes.{begun-append}

-- these lines were begun and answered
pub record IsLostTo (done : List ScriptLine) (h : List Entry) : Type 0 where
  pub resting : (lane : ℕ) → IsResting h lane
  pub begins : (lane : ℕ) → begun lane h ≡ begun lane (entries_of done)
  pub timed_all : AllTimed h

-- and a further one was begun
record IsLosingAt (done : List ScriptLine) (l : ScriptLine) (h : List Entry) : Type 0 where
  pub running : IsRunning h l.lane l.line
  pub others : (lane : ℕ) → lane ≢ l.lane → IsResting h lane
  pub begins : (lane : ℕ) → begun lane h ≡ begun lane (entries_of (done ++ l ∷ []))
  pub timed_all : AllTimed h

-- none of the session has begun
pub lost-none : (h : List Entry) → IsUnmarked h → IsLostTo [] h
lost-none h u = let g = none-gone h u in record { resting = g.resting; begins = g.begins; timed_all = g.all_timed }

module _ (done : List ScriptLine) (h : List Entry) (ms : ℕ) (g : IsLostTo done h) where
  lost-clock : IsLostTo done (h ++ Clock ms ∷ [])
  lost-clock = record {
    resting = λ lane. resting-grow h (Clock ms) lane refl (g.resting lane);
    begins = λ lane. begun-append lane h (Clock ms ∷ []) ∙ append-nil (begun lane h) ∙ g.begins lane;
    timed_all = timed-quiet h (Clock ms) (λ l m op is. absurd cc) g.timed_all;
  }

  lost-began : (l : ScriptLine) → IsLosingAt done l ((h ++ Clock ms ∷ []) ++ Began l.lane l.line l.op ∷ [])
  lost-began l =
      let mid : List Entry = h ++ Clock ms ∷ [] in
      let e : Entry = Began l.lane l.line l.op in
      record {
        running = begins-now mid l.lane l.line l.op (lost-clock.resting l.lane);
        others = λ lane differs. resting-grow mid e lane (began-other lane l.lane l.line l.op (λ same. differs (sym same))) (lost-clock.resting lane);
        begins = λ lane. begun-append lane mid (e ∷ []) ∙ ap (λ (t : List Entry). t ++ begun lane (e ∷ [])) (lost-clock.begins lane) ∙ sym (begun-append lane (entries_of done) (e ∷ []))
            ∙ ap (begun lane) (sym (entries-both done (l ∷ [])));
        timed_all = timed-begin h ms l.lane l.line l.op g.timed_all;
      }

lost-answered : (done : List ScriptLine) (l : ScriptLine) (h : List Entry) → IsLosingAt done l h → IsLostTo (done ++ l ∷ []) (h ++ Answered l.lane l.line (Refused faults.Lost) ∷ [])
lost-answered done l h g =
    let e : Entry = Answered l.lane l.line (Refused faults.Lost) in
    record {
      resting = λ lane. (elim (nat_eq lane l.lane) as (λ b. nat_eq lane l.lane ≡ b → IsResting (h ++ Answered l.lane l.line (Refused faults.Lost) ∷ []) lane) [
        | true ↦ λ is. subst (IsResting (h ++ Answered l.lane l.line (Refused faults.Lost) ∷ [])) (sym (eqb-true lane l.lane is)) (answers-now h l.lane l.line (Refused faults.Lost) g.running)
        | false ↦ λ is. resting-grow h (Answered l.lane l.line (Refused faults.Lost)) lane (answered-other lane l.lane l.line (Refused faults.Lost) (λ same. eqb-false lane l.lane is (sym same))) (g.others lane (eqb-false lane l.lane is))
      ]) refl;
      begins = λ lane. begun-append lane h (e ∷ []) ∙ append-nil (begun lane h) ∙ g.begins lane;
      timed_all = timed-quiet h e (λ m n op is. absurd cc) g.timed_all;
    }

three : (h : List Entry) (a b c : Entry) → ((h ++ a ∷ []) ++ b ∷ []) ++ c ∷ [] ≡ h ++ a ∷ b ∷ c ∷ []
three h a b c = ap (λ (t : List Entry). t ++ c ∷ []) (append_assoc h (a ∷ []) (b ∷ [])) ∙ append_assoc h (a ∷ b ∷ []) (c ∷ [])

lost-line : (done : List ScriptLine) (l : ScriptLine) (h : List Entry) (ms : ℕ) → IsLostTo done h → IsLostTo (done ++ l ∷ []) (h ++ lost_line l ms)
lost-line done l h ms g = subst (IsLostTo (done ++ l ∷ [])) (three h (Clock ms) (Began l.lane l.line l.op) (Answered l.lane l.line (Refused faults.Lost)))
    (lost-answered done l ((h ++ Clock ms ∷ []) ++ Began l.lane l.line l.op ∷ []) (lost-began done h ms g l))

-- further lines
pub lost-lines : (done order : List ScriptLine) (h es : List Entry) → LostLines order es → IsLostTo done h → IsLostTo (done ++ order) (h ++ es)
lost-lines done _ h _ (no_line order es none is) g =
    subst (λ (s : List ScriptLine). IsLostTo (done ++ s) (h ++ es)) (sym none) (subst (λ (t : List Entry). IsLostTo (done ++ []) (h ++ t)) (sym is)
    (subst (λ (s : List ScriptLine). IsLostTo s (h ++ [])) (sym (append-nil done)) (subst (IsLostTo done) (sym (append-nil h)) g)))
lost-lines done _ h _ (one_line order before es more l ms one is rest) g =
    subst (λ (s : List ScriptLine). IsLostTo (done ++ s) (h ++ es)) (sym one) (subst (λ (t : List Entry). IsLostTo (done ++ (before ++ l ∷ [])) (h ++ t)) (sym is)
    (subst (λ (s : List ScriptLine). IsLostTo s (h ++ (more ++ lost_line l ms))) (append_assoc done before (l ∷ []))
    (subst (IsLostTo ((done ++ before) ++ l ∷ [])) (append_assoc h more (lost_line l ms)) (lost-line (done ++ before) l (h ++ more) ms (lost-lines done before h more rest g)))))

-- all of them
pub lost-finishes : (done : List ScriptLine) (h : List Entry) → IsLostTo done h → Finishes (entries_of done) h
lost-finishes done h g = record { all = g.begins; answered = λ x lane line op at. (g.resting lane).answered x line op at }

pub lost-follows : (done : List ScriptLine) (h : List Entry) → IsLostTo done h → Follows (entries_of done) h
lost-follows done h g = record {
  alternates = λ lane. resting-alternates h lane (g.resting lane);
  begins = λ lane. record { rest = []; is = sym (g.begins lane) ∙ sym (append-nil (begun lane h)) };
}

-- ---- a run that is cut off in its lines

pub record IsLostCut (lines : List ScriptLine) (h : List Entry) : Type 0 where
  pub follows : Follows (entries_of lines) h
  pub timed_all : AllTimed h

front-of : (done order : List ScriptLine) (n lane : ℕ) (h : List Entry) → begun lane h ≡ begun lane (entries_of (done ++ take n order)) → IsFront (begun lane h) (begun lane (entries_of (done ++ order)))
front-of done order n lane h is = record {
  rest = begun lane (entries_of (drop n order));
  is = ap (λ (t : List ScriptLine). begun lane (entries_of (done ++ t))) (sym (take-append-drop n order))
      ∙ ap (λ (t : List ScriptLine). begun lane (entries_of t)) (sym (append_assoc done (take n order) (drop n order)))
      ∙ ap (begun lane) (entries-both (done ++ take n order) (drop n order))
      ∙ begun-append lane (entries_of (done ++ take n order)) (entries_of (drop n order))
      ∙ ap (λ (t : List Entry). t ++ begun lane (entries_of (drop n order))) (sym is);
}

to-cut : (done order : List ScriptLine) (n : ℕ) (h : List Entry) → IsLostTo (done ++ take n order) h → IsLostCut (done ++ order) h
to-cut done order n h g = record {
  follows = record { alternates = λ lane. resting-alternates h lane (g.resting lane); begins = λ lane. front-of done order n lane h (g.begins lane) };
  timed_all = g.timed_all;
}

take-more : (order : List ScriptLine) (n : ℕ) (l : ScriptLine) → slice_get order n ≡ Some l → take (suc n) order ≡ take n order ++ l ∷ []
take-more [] n l there = absurd cc
take-more (x ∷ xs) zero l there = let is : x ≡ l = cc in ap (λ (z : ScriptLine). z ∷ []) is
take-more (x ∷ xs) (suc n) l there = ap (λ (t : List ScriptLine). x ∷ t) (take-more xs n l there)

module _ (done order : List ScriptLine) (n : ℕ) (l : ScriptLine) (there : slice_get order n ≡ Some l) where
  one-more : (done ++ take n order) ++ l ∷ [] ≡ done ++ take (suc n) order
  one-more = append_assoc done (take n order) (l ∷ []) ∙ ap (λ (t : List ScriptLine). done ++ t) (sym (take-more order n l there))

  at-cut : (h : List Entry) → IsLosingAt (done ++ take n order) l h → IsLostCut (done ++ order) h
  at-cut h g = record {
    follows = record {
      alternates = λ lane. (elim (nat_eq lane l.lane) as (λ b. nat_eq lane l.lane ≡ b → Alternates (marks_of lane h)) [
        | true ↦ λ is. subst (λ (m : ℕ). Alternates (marks_of m h)) (sym (eqb-true lane l.lane is)) (running-alternates h l.lane l.line g.running)
        | false ↦ λ is. resting-alternates h lane (g.others lane (eqb-false lane l.lane is))
      ]) refl;
      begins = λ lane. front-of done order (suc n) lane h (g.begins lane ∙ ap (λ (t : List ScriptLine). begun lane (entries_of t)) one-more);
    };
    timed_all = g.timed_all;
  }

  pub part-cut : (h part : List Entry) → IsLostTo (done ++ take n order) h → LostPart l part → IsLostCut (done ++ order) (h ++ part)
  part-cut h part g (nothing is) = subst (λ (t : List Entry). IsLostCut (done ++ order) (h ++ t)) (sym is) (subst (IsLostCut (done ++ order)) (sym (append-nil h)) (to-cut done order n h g))
  part-cut h part g (timed ms is) = subst (λ (t : List Entry). IsLostCut (done ++ order) (h ++ t)) (sym is) (to-cut done order n (h ++ Clock ms ∷ []) (lost-clock (done ++ take n order) h ms g))
  part-cut h part g (part_begun ms is) = subst (λ (t : List Entry). IsLostCut (done ++ order) (h ++ t)) (sym is)
      (subst (IsLostCut (done ++ order)) (append_assoc h (Clock ms ∷ []) (Began l.lane l.line l.op ∷ []))
      (at-cut ((h ++ Clock ms ∷ []) ++ Began l.lane l.line l.op ∷ []) (lost-began (done ++ take n order) h ms g l)))
  part-cut h part g (part_answered ms is) = subst (λ (t : List Entry). IsLostCut (done ++ order) (h ++ t)) (sym is)
      (to-cut done order (suc n) (h ++ lost_line l ms) (subst (λ (s : List ScriptLine). IsLostTo s (h ++ lost_line l ms)) one-more (lost-line (done ++ take n order) l h ms g)))
