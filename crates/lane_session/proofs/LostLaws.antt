-- The history of a session that was lost before any of its lines began.
use Rattle.std.proofs.Common.{◌≡◌, ◌≢◌, ℕ, zero, suc, List, [], ◌∷◌, ◌++◌, take, drop, slice_get, true, false, cond, nat_eq, Some, Err, inl, inr, refl, sym, ap, subst, ◌∙◌, arith, append-nil, append_assoc}
use Rattle.std.specs.Prelude.{length}
use Rattle.std.proofs.lemmas.Bool.{eqb-true, eqb-false}
use Rattle.std.proofs.lemmas.List.{take-append-drop}
use Rattle.world_model.specs.declared.answer.Answer.{Answer}
use Rattle.world_model.specs.declared.answer.Answer.TheVariants.{Refused}
use Rattle.world_model.specs.declared.answer.Fault.TheVariants as faults
use Rattle.world_model.specs.declared.entry.Entry.{Entry}
use Rattle.world_model.specs.declared.entry.Entry.TheVariants.{Began, Answered, Dialed, Sent, Executed, Foreign, Flushed, Reboot, Delivered, Failed, Clock}
use Rattle.world_model.specs.declared.op.Op.{Op}
use Rattle.world_model.specs.Clocked.{clocks}
use Rattle.world_model.specs.Entries.{At}
use Rattle.world_model.specs.Follows.{begun, marks_of, Alternates, IsFront}
use Rattle.world_model.specs.LanesTogether.{HasBegun}
use Rattle.world_model.proofs.Places.{At-below, At-cases}
use Rattle.nfs_script.specs.declared.script.ScriptLine.{ScriptLine}
use Rattle.core_facts.proofs.Marks.{not-began, not-answered, began-other, answered-other}
use Rattle.lane_session.specs.declared.halt.Halt.{Halt}
use Rattle.lane_session.specs.declared.top.End.{End}
use Rattle.lane_session.specs.Going.{AllTimed}
use Rattle.lane_session.specs.LaneMarks.{IsRunning, IsResting, closed_none}
use Rattle.lane_session.specs.Losing.{lost_line, LostLines, no_line, one_line, LostPart, nothing, timed, begun as part_begun, answered as part_answered, IsToldOf, LosesBy, status_of}
use Rattle.lane_session.specs.Endings.{entries_of}
use Rattle.lane_session.specs.Labels.{told_by, IsCutIn}
use Rattle.lane_session.specs.Sessions.{IsUnmarked, IsDone, IsBroken}
use Rattle.lane_session.specs.Statuses.{HasStatus, well, IsSessionStatus}
use Rattle.lane_session.proofs.LaneLaws.{running-alternates, resting-alternates, resting-grow, begins-now, answers-now}
use Rattle.lane_session.proofs.Placing.{status-quiet, status-answer, timed-quiet, timed-begin, begun-own}
use Rattle.lane_session.proofs.Labels.{told-append, told-plain, cut-behind}
use Rattle.lane_session.proofs.Pushes.{clocks-append, begun-append}
use Rattle.lane_session.proofs.Together.{begun-back}

-- ---- no mark

pub apart : (lane : ℕ) (e : Entry) (es : List Entry) → marks_of lane (e ∷ es) ≡ [] → (marks_of lane (e ∷ []) ≡ []) × (marks_of lane es ≡ [])
apart lane (Began l line op) es q = (elim (nat_eq l lane) as (λ b. cond b (Began l line op ∷ marks_of lane es) (marks_of lane es) ≡ [] → (cond b (Began l line op ∷ []) [] ≡ []) × (marks_of lane es ≡ [])) [
  | true ↦ λ h. absurd cc
  | false ↦ λ h. (refl, h)
]) q
apart lane (Answered l line a) es q = (elim (nat_eq l lane) as (λ b. cond b (Answered l line a ∷ marks_of lane es) (marks_of lane es) ≡ [] → (cond b (Answered l line a ∷ []) [] ≡ []) × (marks_of lane es ≡ [])) [
  | true ↦ λ h. absurd cc
  | false ↦ λ h. (refl, h)
]) q
apart lane (Clock ms) es q = (refl, q)
apart lane (Dialed port) es q = (refl, q)
apart lane (Sent bytes) es q = (refl, q)
apart lane (Executed xid call reply) es q = (refl, q)
apart lane (Foreign call reply) es q = (refl, q)
apart lane (Flushed file from len) es q = (refl, q)
apart lane (Reboot verf) es q = (refl, q)
apart lane (Delivered bytes) es q = (refl, q)
apart lane Failed es q = (refl, q)

never-began : (lane : ℕ) (h : List Entry) (n line : ℕ) (op : Op) → At h n (Began lane line op) → marks_of lane h ≡ [] → ⊥
never-began lane [] n line op at q = absurd (cc)
never-began lane (e ∷ es) zero line op at q = not-began lane e (apart lane e es q).0 line op cc
never-began lane (e ∷ es) (suc n) line op at q = never-began lane es n line op at (apart lane e es q).1

pub never-answered : (lane : ℕ) (h : List Entry) (n line : ℕ) (a : Answer) → At h n (Answered lane line a) → marks_of lane h ≡ [] → ⊥
never-answered lane [] n line a at q = absurd (cc)
never-answered lane (e ∷ es) zero line a at q = not-answered lane e (apart lane e es q).0 line a cc
never-answered lane (e ∷ es) (suc n) line a at q = never-answered lane es n line a at (apart lane e es q).1

unbegun-one : (lane : ℕ) (e : Entry) → marks_of lane (e ∷ []) ≡ [] → begun lane (e ∷ []) ≡ []
unbegun-one lane (Began l line op) q = q
unbegun-one lane (Answered l line a) q = refl
unbegun-one lane (Clock ms) q = refl
unbegun-one lane (Dialed port) q = refl
unbegun-one lane (Sent bytes) q = refl
unbegun-one lane (Executed xid call reply) q = refl
unbegun-one lane (Foreign call reply) q = refl
unbegun-one lane (Flushed file from len) q = refl
unbegun-one lane (Reboot verf) q = refl
unbegun-one lane (Delivered bytes) q = refl
unbegun-one lane Failed q = refl

unbegun : (lane : ℕ) (h : List Entry) → marks_of lane h ≡ [] → begun lane h ≡ []
unbegun lane [] q = refl
unbegun lane (e ∷ es) q =
    let two = apart lane e es q in
    begun-append lane (e ∷ []) es ∙ ap (λ (t : List Entry). t ++ begun lane es) (unbegun-one lane e two.0) ∙ unbegun lane es two.1

untold-one : (label : List ℕ) (e : Entry) → ((lane : ℕ) → marks_of lane (e ∷ []) ≡ []) → told_by label (e ∷ []) ≡ []
untold-one label (Began l line op) q = refl
untold-one label (Answered l line a) q = absurd (not-answered l (Answered l line a) (q l) line a refl)
untold-one label (Clock ms) q = refl
untold-one label (Dialed port) q = refl
untold-one label (Sent bytes) q = refl
untold-one label (Executed xid call reply) q = refl
untold-one label (Foreign call reply) q = refl
untold-one label (Flushed file from len) q = refl
untold-one label (Reboot verf) q = refl
untold-one label (Delivered bytes) q = refl
untold-one label Failed q = refl

pub untold : (label : List ℕ) (h : List Entry) → IsUnmarked h → told_by label h ≡ []
untold label [] u = refl
untold label (e ∷ es) u =
    told-append label (e ∷ []) es
    ∙ ap (λ (t : List ℕ). t ++ told_by label es) (untold-one label e (λ lane. (apart lane e es (u lane)).0))
    ∙ untold label es (λ lane. (apart lane e es (u lane)).1)

-- ---- lines that were lost, one after the other

status-last : (front : List ScriptLine) (l : ScriptLine) → status_of (front ++ l ∷ []) ≡ 6
status-last [] l = refl
status-last (x ∷ xs) l = refl

-- no record came since a line began
abbrev pub NoneCame : List Entry → Type 0
NoneCame h = (n : ℕ) (bytes : List ℕ) → At h n (Delivered bytes) → HasBegun h n → ⊥

none-came-on : (h : List Entry) (e : Entry) → ((bytes : List ℕ) → e ≡ Delivered bytes → ⊥) → NoneCame h → NoneCame (h ++ e ∷ [])
none-came-on h e none c n bytes at b = elim (At-cases h e n (Delivered bytes) at) [
  | inl old ↦ c n bytes old (begun-back h e n (let lt = At-below h n (Delivered bytes) old in omega (arith, lt)) b)
  | inr now ↦ none bytes now.1
]

-- the first lines of a script were begun and answered
pub record Gone (front : List ScriptLine) (h : List Entry) : Type 0 where
  pub resting : (lane : ℕ) → IsResting h lane
  pub begins : (lane : ℕ) → begun lane h ≡ begun lane (entries_of front)
  pub status : HasStatus h (status_of front)
  pub all_timed : AllTimed h
  pub none_came : NoneCame h

-- and a further one was begun
record Going (front : List ScriptLine) (l : ScriptLine) (h : List Entry) : Type 0 where
  pub running : IsRunning h l.lane l.line
  pub others : (lane : ℕ) → lane ≢ l.lane → IsResting h lane
  pub begins : (lane : ℕ) → begun lane h ≡ begun lane (entries_of (front ++ l ∷ []))
  pub status : HasStatus h (status_of front)
  pub all_timed : AllTimed h
  pub none_came : NoneCame h

-- nothing was begun
pub none-gone : (h : List Entry) → IsUnmarked h → Gone [] h
none-gone h u = record {
  resting = λ lane. record { answered = λ k line op at. absurd (never-began lane h k line op at (u lane)); closed = closed_none (marks_of lane h) (u lane) };
  begins = λ lane. unbegun lane h (u lane);
  status = well refl (λ fault i. never-answered i.lane h i.at i.line (Refused fault) i.is (u i.lane));
  all_timed = λ x lane line op at. absurd (never-began lane h x line op at (u lane));
  none_came = λ n bytes at b. never-began b.lane h b.at b.line b.op b.began (u b.lane);
}

clocked-gone : (front : List ScriptLine) (h : List Entry) (ms : ℕ) → Gone front h → Gone front (h ++ Clock ms ∷ [])
clocked-gone front h ms g = record {
  resting = λ lane. resting-grow h (Clock ms) lane refl (g.resting lane);
  begins = λ lane. begun-append lane h (Clock ms ∷ []) ∙ append-nil (begun lane h) ∙ g.begins lane;
  status = status-quiet h (Clock ms) (status_of front) (λ fault l m is. absurd cc) g.status;
  all_timed = timed-quiet h (Clock ms) (λ l m op is. absurd cc) g.all_timed;
  none_came = none-came-on h (Clock ms) (λ bytes is. absurd cc) g.none_came;
}

pub entries-both : (a b : List ScriptLine) → entries_of (a ++ b) ≡ entries_of a ++ entries_of b
entries-both [] b = refl
entries-both (x ∷ a) b = ap (λ (t : List Entry). Began x.lane x.line x.op ∷ t) (entries-both a b)

begins-gone : (front : List ScriptLine) (l : ScriptLine) (h : List Entry) (ms : ℕ) → Gone front h → Going front l ((h ++ Clock ms ∷ []) ++ Began l.lane l.line l.op ∷ [])
begins-gone front l h ms g =
    let mid : List Entry = h ++ Clock ms ∷ [] in
    let e : Entry = Began l.lane l.line l.op in
    let m : Gone front mid = clocked-gone front h ms g in
    record {
      running = begins-now mid l.lane l.line l.op (m.resting l.lane);
      others = λ lane differs. resting-grow mid e lane (began-other lane l.lane l.line l.op (λ same. differs (sym same))) (m.resting lane);
      begins = λ lane. begun-append lane mid (e ∷ []) ∙ ap (λ (t : List Entry). t ++ begun lane (e ∷ [])) (m.begins lane) ∙ sym (begun-append lane (entries_of front) (e ∷ []))
          ∙ ap (begun lane) (sym (entries-both front (l ∷ [])));
      status = status-quiet mid e (status_of front) (λ fault n k is. absurd cc) m.status;
      all_timed = timed-begin h ms l.lane l.line l.op g.all_timed;
      none_came = none-came-on mid e (λ bytes is. absurd cc) m.none_came;
    }

answers-gone : (front : List ScriptLine) (l : ScriptLine) (h : List Entry) → Going front l h → Gone (front ++ l ∷ []) (h ++ Answered l.lane l.line (Refused faults.Lost) ∷ [])
answers-gone front l h g =
    let e : Entry = Answered l.lane l.line (Refused faults.Lost) in
    record {
      resting = λ lane. (elim (nat_eq lane l.lane) as (λ b. nat_eq lane l.lane ≡ b → IsResting (h ++ Answered l.lane l.line (Refused faults.Lost) ∷ []) lane) [
        | true ↦ λ is. subst (IsResting (h ++ Answered l.lane l.line (Refused faults.Lost) ∷ [])) (sym (eqb-true lane l.lane is)) (answers-now h l.lane l.line (Refused faults.Lost) g.running)
        | false ↦ λ is. resting-grow h (Answered l.lane l.line (Refused faults.Lost)) lane (answered-other lane l.lane l.line (Refused faults.Lost) (λ same. eqb-false lane l.lane is (sym same))) (g.others lane (eqb-false lane l.lane is))
      ]) refl;
      begins = λ lane. begun-append lane h (e ∷ []) ∙ append-nil (begun lane h) ∙ g.begins lane;
      status = subst (HasStatus (h ++ e ∷ [])) (sym (status-last front l)) (status-answer h l.lane l.line (status_of front) (Refused faults.Lost) g.status);
      all_timed = timed-quiet h e (λ m n op is. absurd cc) g.all_timed;
      none_came = none-came-on h e (λ bytes is. absurd cc) g.none_came;
    }

three : (h : List Entry) (a b c : Entry) → ((h ++ a ∷ []) ++ b ∷ []) ++ c ∷ [] ≡ h ++ a ∷ b ∷ c ∷ []
three h a b c = ap (λ (t : List Entry). t ++ c ∷ []) (append_assoc h (a ∷ []) (b ∷ [])) ∙ append_assoc h (a ∷ b ∷ []) (c ∷ [])

line-gone : (front : List ScriptLine) (l : ScriptLine) (h : List Entry) (ms : ℕ) → Gone front h → Gone (front ++ l ∷ []) (h ++ lost_line l ms)
line-gone front l h ms g = subst (Gone (front ++ l ∷ [])) (three h (Clock ms) (Began l.lane l.line l.op) (Answered l.lane l.line (Refused faults.Lost)))
    (answers-gone front l ((h ++ Clock ms ∷ []) ++ Began l.lane l.line l.op ∷ []) (begins-gone front l h ms g))

lines-gone : (h : List Entry) (front : List ScriptLine) (es : List Entry) → LostLines front es → IsUnmarked h → Gone front (h ++ es)
lines-gone h _ _ (no_line front es none is) u =
    subst (λ (s : List ScriptLine). Gone s (h ++ es)) (sym none) (subst (λ (t : List Entry). Gone [] (h ++ t)) (sym is) (subst (Gone []) (sym (append-nil h)) (none-gone h u)))
lines-gone h _ _ (one_line front before es more l ms one is rest) u =
    subst (λ (s : List ScriptLine). Gone s (h ++ es)) (sym one) (subst (λ (t : List Entry). Gone (before ++ l ∷ []) (h ++ t)) (sym is)
    (subst (Gone (before ++ l ∷ [])) (append_assoc h more (lost_line l ms)) (line-gone before l (h ++ more) ms (lines-gone h before more rest u))))

-- ---- a session that is cut off

record Cut (script : List ScriptLine) (k : List Entry) : Type 0 where
  pub alternates : (lane : ℕ) → Alternates (marks_of lane k)
  pub begins : (lane : ℕ) → IsFront (begun lane k) (begun lane (entries_of script))
  pub all_timed : AllTimed k
  pub none_came : NoneCame k

front-begun : (script : List ScriptLine) (n lane : ℕ) (h : List Entry) → begun lane h ≡ begun lane (entries_of (take n script)) → IsFront (begun lane h) (begun lane (entries_of script))
front-begun script n lane h is = record {
  rest = begun lane (entries_of (drop n script));
  is = ap (λ (t : List ScriptLine). begun lane (entries_of t)) (sym (take-append-drop n script))
      ∙ ap (begun lane) (entries-both (take n script) (drop n script))
      ∙ begun-append lane (entries_of (take n script)) (entries_of (drop n script))
      ∙ ap (λ (t : List Entry). t ++ begun lane (entries_of (drop n script))) (sym is);
}

gone-cut : (script : List ScriptLine) (n : ℕ) (h : List Entry) → Gone (take n script) h → Cut script h
gone-cut script n h g = record {
  alternates = λ lane. resting-alternates h lane (g.resting lane);
  begins = λ lane. front-begun script n lane h (g.begins lane);
  all_timed = g.all_timed;
  none_came = g.none_came;
}

going-alternates : (front : List ScriptLine) (l : ScriptLine) (h : List Entry) (lane : ℕ) → Going front l h → Alternates (marks_of lane h)
going-alternates front l h lane g = (elim (nat_eq lane l.lane) as (λ b. nat_eq lane l.lane ≡ b → Alternates (marks_of lane h)) [
  | true ↦ λ is. subst (λ (n : ℕ). Alternates (marks_of n h)) (sym (eqb-true lane l.lane is)) (running-alternates h l.lane l.line g.running)
  | false ↦ λ is. resting-alternates h lane (g.others lane (eqb-false lane l.lane is))
]) refl

take-more : (script : List ScriptLine) (n : ℕ) (l : ScriptLine) → slice_get script n ≡ Some l → take (suc n) script ≡ take n script ++ l ∷ []
take-more [] n l there = absurd (cc)
take-more (x ∷ xs) zero l there = let is : x ≡ l = cc in ap (λ (z : ScriptLine). z ∷ []) is
take-more (x ∷ xs) (suc n) l there = ap (λ (t : List ScriptLine). x ∷ t) (take-more xs n l there)

going-cut : (script : List ScriptLine) (n : ℕ) (l : ScriptLine) (h : List Entry) → slice_get script n ≡ Some l → Going (take n script) l h → Cut script h
going-cut script n l h there g = record {
  alternates = λ lane. going-alternates (take n script) l h lane g;
  begins = λ lane. front-begun script (suc n) lane h (g.begins lane ∙ ap (λ (t : List ScriptLine). begun lane (entries_of t)) (sym (take-more script n l there)));
  all_timed = g.all_timed;
  none_came = g.none_came;
}

part-cut : (script : List ScriptLine) (n : ℕ) (l : ScriptLine) (h part : List Entry) → slice_get script n ≡ Some l → Gone (take n script) h → LostPart l part → Cut script (h ++ part)
part-cut script n l h part there g (nothing is) = subst (λ (t : List Entry). Cut script (h ++ t)) (sym is) (subst (Cut script) (sym (append-nil h)) (gone-cut script n h g))
part-cut script n l h part there g (timed ms is) = subst (λ (t : List Entry). Cut script (h ++ t)) (sym is) (gone-cut script n (h ++ Clock ms ∷ []) (clocked-gone (take n script) h ms g))
part-cut script n l h part there g (part_begun ms is) = subst (λ (t : List Entry). Cut script (h ++ t)) (sym is)
    (subst (Cut script) (append_assoc h (Clock ms ∷ []) (Began l.lane l.line l.op ∷ [])) (going-cut script n l ((h ++ Clock ms ∷ []) ++ Began l.lane l.line l.op ∷ []) there (begins-gone (take n script) l h ms g)))
part-cut script n l h part there g (part_answered ms is) = subst (λ (t : List Entry). Cut script (h ++ t)) (sym is)
    (gone-cut script (suc n) (h ++ lost_line l ms) (subst (λ (s : List ScriptLine). Gone s (h ++ lost_line l ms)) (sym (take-more script n l there)) (line-gone (take n script) l h ms g)))

-- ---- what all lines come to

-- two lists of lines, in each lane the same ones in the same order
abbrev pub SameLanes : List ScriptLine → List ScriptLine → Type 0
SameLanes order script = (lane : ℕ) → begun lane (entries_of order) ≡ begun lane (entries_of script)

some-line : (l : ScriptLine) (ls : List ScriptLine) → begun l.lane (entries_of (l ∷ ls)) ≡ [] → ⊥
some-line l ls none =
    let first : Began l.lane l.line l.op ∷ begun l.lane (entries_of ls) ≡ [] =
    ap (λ (t : List Entry). t ++ begun l.lane (entries_of ls)) (sym (begun-own l.lane l.line l.op)) ∙ sym (begun-append l.lane (Began l.lane l.line l.op ∷ []) (entries_of ls)) ∙ none in
    absurd cc

-- there are lines in the one where there are in the other
status-same : (order script : List ScriptLine) → SameLanes order script → status_of order ≡ status_of script
status-same [] [] same = refl
status-same (l ∷ ls) (x ∷ xs) same = refl
status-same [] (x ∷ xs) same = absurd (some-line x xs (sym (same x.lane)))
status-same (l ∷ ls) [] same = absurd (some-line l ls (same l.lane))

shown-of : (h es k : List Entry) → IsUnmarked h → k ≡ h ++ es → told_by [] k ≡ told_by [] es
shown-of h es k u is = ap (told_by []) is ∙ told-append [] h es ∙ ap (λ (t : List ℕ). t ++ told_by [] es) (untold [] h u)

module _ (order script : List ScriptLine) (same : SameLanes order script) where
  pub lost-ends : (end : End) (given text : List ℕ) (h k es : List Entry) → end.status ≡ status_of script → IsUnmarked h → k ≡ h ++ es → LostLines order es → given ≡ clocks es → text ≡ told_by [] es
      → IsDone script end given text h k
  lost-ends end given text h k es status u is lines given_is text_is =
      let g : Gone order k = subst (Gone order) (sym is) (lines-gone h order es lines u) in
      record {
        follows = record {
          alternates = λ lane. resting-alternates k lane (g.resting lane);
          begins = λ lane. record { rest = []; is = sym (same lane) ∙ sym (g.begins lane) ∙ sym (append-nil (begun lane k)) };
        };
        finishes = record { all = λ lane. g.begins lane ∙ same lane; answered = λ x lane line op at. (g.resting lane).answered x line op at };
        status = subst (HasStatus k) (status-same order script same ∙ sym status) g.status;
        shown = text_is ∙ sym (shown-of h es k u is) ∙ told-plain k;
        grown = (es, is);
        clocked = ap clocks is ∙ clocks-append h es ∙ ap (λ (t : List ℕ). clocks h ++ t) (sym given_is);
        timed = g.all_timed;
        together = λ n bytes at b k lane line op of. absurd (g.none_came n bytes at b);
      }

  pub lost-breaks : (halt : Halt) (given text : List ℕ) (h k : List Entry) → IsUnmarked h → LosesBy [] order (Err halt) given text h k → IsBroken script halt given text h k
  lost-breaks halt given text h k u p = by p.0 p.1 p.2 p.3.0 p.3.1 p.3.2 p.3.3 p.3.4 p.3.5
    where
      by : (n : ℕ) (l : ScriptLine) → slice_get order n ≡ Some l → (es part : List Entry) → k ≡ h ++ (es ++ part) → LostLines (take n order) es → LostPart l part → IsToldOf [] halt given text (es ++ part)
          → IsBroken script halt given text h k
      by n l there es part is lines cut told =
          let c : Cut order k = subst (Cut order) (append_assoc h es part ∙ sym is) (part-cut order n l (h ++ es) part there (lines-gone h (take n order) es lines u) cut) in
          record {
            follows = record { alternates = c.alternates; begins = λ lane. let f = c.begins lane in record { rest = f.rest; is = sym (same lane) ∙ f.is } };
            shown = subst (λ (t : List Entry). IsCutIn [] t text) (sym is) (cut-behind [] h (es ++ part) text (untold [] h u) told.shown);
            last = told.last;
            grown = (es ++ part, is);
            clocked = ap (λ (t : List ℕ). clocks h ++ t) told.clocked ∙ sym (append_assoc (clocks h) (clocks (es ++ part)) told.last)
                ∙ ap (λ (t : List ℕ). t ++ told.last) (sym (ap clocks is ∙ clocks-append h (es ++ part)));
            left = told.left;
            timed = c.all_timed;
            together = λ n bytes at b k lane line op of. absurd (c.none_came n bytes at b);
          }

pub empty-status : (script : List ScriptLine) (n : ℕ) → n ≡ length script → nat_eq n 0 ≡ true → 0 ≡ status_of script
empty-status [] n is e = refl
empty-status (l ∷ ls) n is e = absurd (let none = eqb-true n 0 e in omega (arith, is, none))

pub some-status : (script : List ScriptLine) (n : ℕ) → n ≡ length script → nat_eq n 0 ≡ false → 6 ≡ status_of script
some-status [] n is e = absurd (let other = eqb-false n 0 e in omega (arith, is, other))
some-status (l ∷ ls) n is e = refl

pub status-ends : (script : List ScriptLine) (n : ℕ) → n ≡ status_of script → IsSessionStatus n
status-ends [] n is = inl is
status-ends (l ∷ ls) n is = inr (inr is)
