-- A lane begins a line, tells an answer, or finds no line left.
use Rattle.std.proofs.Common.{◌≡◌, ◌≢◌, ◌≤◌, ◌<◌, ◌+◌, ◌-◌, ◌^◌, ◌⊎◌, inl, inr, ℕ, suc, List, [], ◌∷◌, ◌++◌, length, take, slice_get, slice_set, Some, None, Ok, Err, refl, sym, ap, subst, ◌∙◌, arith, append-nil, append_assoc}
use Rattle.world_model.specs.declared.answer.Answer.{Answer}
use Rattle.world_model.specs.declared.entry.Entry.{Entry}
use Rattle.world_model.specs.declared.entry.Entry.TheVariants.{Began, Answered, Clock}
use Rattle.world_model.specs.declared.op.Op.{Op}
use Rattle.world_model.specs.Clocked.{clocks, IsTimed}
use Rattle.world_model.specs.Entries.{At}
use Rattle.world_model.specs.Follows.{begun}
use Rattle.world_model.specs.Transcript.{line_text}
use Rattle.nfs_script.specs.declared.script.ScriptLine.{ScriptLine}
use Rattle.op_machines.specs.Begun.{machine_of}
use Rattle.op_machines.specs.Fits.{Fits}
use Rattle.client_core.specs.Numbers.{IsIdle}
use Rattle.client_core.specs.Steps.{AnswersBy, Begins}
use Rattle.client_core.specs.View.{View}
use Rattle.core_facts.proofs.Marks.{began-other, answered-other}
use Rattle.lane_session.specs.declared.halt.Halt.{Halt}
use Rattle.lane_session.specs.declared.halt.Halt.TheVariants as halts
use Rattle.lane_session.specs.declared.lanes.Place.{Place}
use Rattle.lane_session.specs.declared.running.Session.{Session}
use Rattle.lane_session.specs.Bonds.{CoreGoes, CoreWent}
use Rattle.lane_session.specs.Going.{Goes, Went, GoesOn, CutsOff, TellsAnswer}
use Rattle.lane_session.specs.LaneMarks.{IsRunning}
use Rattle.lane_session.specs.Endings.{entries_of}
use Rattle.lane_session.specs.Labels.{told_by, all_told, last_cut}
use Rattle.lane_session.specs.Places.{IsOpen, IsPlaced, Seeks, Ends}
use Rattle.lane_session.specs.Running.{LineIs}
use Rattle.lane_session.specs.Statuses.{after_answer, IsLeft}
use Rattle.lane_session.proofs.LaneLaws.{resting-grow, begins-now, answers-now}
use Rattle.lane_session.proofs.Since.{since-quiet, since-answer, within-grow}
use Rattle.lane_session.proofs.Placing.{timed-quiet, timed-begin, get-set, begun-other, begun-own, passed-after, one-after, placed-grow}
use Rattle.lane_session.proofs.Labels.{told-append}
use Rattle.lane_session.proofs.Pushes.{clocks-append, begun-append}
use Rattle.lane_session.proofs.Reaching.{core-then-cut, core-cut, core-like, core-begins, core-unbegun, core-answers}
use Rattle.lane_session.proofs.Seating.{line-of, set-set, length-set}
use Rattle.lane_session.proofs.Together.{together-on}
use Rattle.lane_session.proofs.Turning.{went-of}

-- ---- the clock is read

pub clock-goes : (done : List ScriptLine) (from : ℕ) (script : List ScriptLine) (h : List Entry) (ms : ℕ) (s : Session) → Goes done from script h s → Goes done from script (h ++ Clock ms ∷ []) s
clock-goes done from script h ms s g = record {
  others = λ lane out. let o = g.others lane out in (begun-append lane h (Clock ms ∷ []) ∙ append-nil (begun lane h) ∙ o.0, resting-grow h (Clock ms) lane refl o.1);
  placed = λ n p there. placed-grow done script h (Clock ms) (suc n) p refl refl (g.placed n p there);
  within = within-grow from h (Clock ms) g.within;
  status = since-quiet from h (Clock ms) s.status g.within (λ fault l m is. absurd cc) g.status;
  timed = timed-quiet h (Clock ms) (λ l m op is. absurd cc) g.timed;
  together = together-on from (entries_of script) h (Clock ms) (λ bytes is. absurd cc) g.together;
}

-- a lane out of bounds is another than one within
out-differs : (lane other : ℕ) → 1 ≤ lane → lane ≤ 16 → (other ≡ 0) ⊎ (16 < other) → lane ≢ other
out-differs lane other least most (inl is) same = omega (arith, least, is, same)
out-differs lane other least most (inr over) same = omega (arith, most, over, same)

-- ---- an answer is told

module _ (done : List ScriptLine) (from : ℕ) (script : List ScriptLine) (h : List Entry) (lane line : ℕ) (a : Answer) (s : Session) (core : View) (lanes : List Place) (least : 1 ≤ lane) (most : lane ≤ 16) (line_is : LineIs lane (Some line) s) (ends : Ends lane s.lanes lanes)
    (g : Goes done from script h s) where
  abbrev e : Entry
  e = Answered lane line a

  abbrev q : Place
  q = record { next = ends.before.next; line = None }

  begun-same : (other : ℕ) → begun other (h ++ e ∷ []) ≡ begun other h
  begun-same other = begun-append other h (e ∷ []) ∙ append-nil (begun other h)

  own : IsPlaced done script (h ++ e ∷ []) lane q
  own =
      let was : IsPlaced done script h (suc (lane - 1)) ends.before = g.placed (lane - 1) ends.before ends.there in
      let n : suc (lane - 1) ≡ lane = omega (arith, least) in
      let here : IsPlaced done script h lane ends.before = subst (λ (m : ℕ). IsPlaced done script h m ends.before) n was in
      let line_of : ends.before.line ≡ Some line = line-of s.lanes lane (Some line) ends.before line_is ends.there in
      record {
        begins = begun-same lane ∙ here.begins;
        open_line = answers-now h lane line a (subst (IsOpen h lane) line_of here.open_line);
      }

  pub answer-goes : Goes done from script (h ++ e ∷ []) (record s { core = core; lanes = lanes; status = after_answer s.status a })
  answer-goes = record {
    others = λ other out. let o = g.others other out in (begun-same other ∙ o.0, resting-grow h e other (answered-other other lane line a (out-differs lane other least most out)) o.1);
    placed = λ n p there. elim (get-set s.lanes (lane - 1) n q p (subst (λ (ps : List Place). slice_get ps n ≡ Some p) ends.is there)) [
      | inl is ↦ subst (IsPlaced done script (h ++ e ∷ []) (suc n)) (sym is.1) (subst (λ (m : ℕ). IsPlaced done script (h ++ e ∷ []) m q) (let i = is.0 in omega (arith, i, least)) own)
      | inr is ↦ placed-grow done script h e (suc n) p (answered-other (suc n) lane line a (λ same. is.0 (omega (arith, same)))) refl (g.placed n p is.1)
    ];
    within = within-grow from h e g.within;
    status = since-answer from h lane line s.status a g.within g.status;
    timed = timed-quiet h e (λ l m op is. absurd cc) g.timed;
    together = together-on from (entries_of script) h e (λ bytes is. absurd cc) g.together;
  }

-- the line that is under way
running-line : (done : List ScriptLine) (from : ℕ) (script : List ScriptLine) (h : List Entry) (lane line : ℕ) (s : Session) (p : Place) → 1 ≤ lane → LineIs lane (Some line) s → slice_get s.lanes (lane - 1) ≡ Some p → Goes done from script h s → IsRunning h lane line
running-line done from script h lane line s p least line_is there g =
    let n : suc (lane - 1) ≡ lane = omega (arith, least) in
    let here : IsPlaced done script h lane p = subst (λ (m : ℕ). IsPlaced done script h m p) n (g.placed (lane - 1) p there) in
    let own : p.line ≡ Some line = line-of s.lanes lane (Some line) p line_is there in
    subst (IsOpen h lane) own here.open_line

-- what telling an answer is to the session
pub told-answer : (label : List ℕ) (script : List ScriptLine) (h k : List Entry) (lane line : ℕ) (a : Answer) (s : Session) (core : View) (lanes : List Place) (text : List ℕ) → 1 ≤ lane → lane ≤ 16 → LineIs lane (Some line) s → Ends lane s.lanes lanes
    → AnswersBy s.core lane (Some a) core → TellsAnswer {T = Unit {0}} label lane line a (Ok tt) text h k → GoesOn label script s (record s { core = core; lanes = lanes; status = after_answer s.status a }) [] text h k
told-answer label script h k lane line a s core lanes text least most line_is ends answers t = record {
  grown = (Answered lane line a ∷ [], t.0);
  clocked = ap clocks t.0 ∙ clocks-append h (Answered lane line a ∷ []);
  shown = ap (told_by label) t.0 ∙ told-append label h (Answered lane line a ∷ []) ∙ ap (λ (x : List ℕ). told_by label h ++ x) (append-nil (label ++ line_text lane line a) ∙ sym t.1);
  goes = λ done from g. subst (λ (x : List Entry). Goes done from script x (record s { core = core; lanes = lanes; status = after_answer s.status a })) (sym t.0) (answer-goes done from script h lane line a s core lanes least most line_is ends g);
  core = λ done from g. subst (CoreGoes s (record s { core = core; lanes = lanes; status = after_answer s.status a }) h) (sym t.0)
      (core-answers s (record s { core = core; lanes = lanes; status = after_answer s.status a }) h lane line a (running-line done from script h lane line s ends.before least line_is ends.there g) answers refl refl refl);
}

none-left : (halt : Halt) → IsLeft halt []
none-left halts.Output = refl
none-left halts.Memory = omega arith

ended-places : (lane : ℕ) (places : List Place) (p : Place) → slice_get places (lane - 1) ≡ Some p → Ends lane places (slice_set places (lane - 1) (record { next = p.next; line = None }))
ended-places lane places p there = record { before = p; there = there; is = refl }

pub untold-answer : (label : List ℕ) (script : List ScriptLine) (h k : List Entry) (lane line : ℕ) (a : Answer) (s : Session) (core : View) (halt : Halt) (p : Place) (text : List ℕ) → 1 ≤ lane → lane ≤ 16 → LineIs lane (Some line) s → length s.lanes ≡ 16
    → slice_get s.lanes (lane - 1) ≡ Some p → AnswersBy s.core lane (Some a) core → TellsAnswer {T = Unit {0}} label lane line a (Err halt) text h k → CutsOff label script s halt [] text h k
untold-answer label script h k lane line a s core halt p text least most line_is long there answers (inl t) = record {
  last = [];
  grown = ([], t.0 ∙ sym (append-nil h));
  clocked = append-nil (clocks h) ∙ ap clocks (sym t.0) ∙ sym (append-nil (clocks k));
  left = none-left halt;
  shown = all_told (ap (λ (x : List ℕ). told_by label h ++ x) t.1 ∙ append-nil (told_by label h) ∙ ap (told_by label) (sym t.0));
  went = λ done from g. subst (Went done from script) (sym t.0) (went-of done from script h s long g);
  core = λ done from g. subst (CoreWent s h) (sym t.0) (core-cut s h);
}
untold-answer label script h k lane line a s core halt p text least most line_is long there answers (inr t) =
    let ends = ended-places lane s.lanes p there in
    let after : Session = record s { lanes = slice_set s.lanes (lane - 1) (record { next = p.next; line = None }); status = after_answer s.status a } in
    let now : Session = record s { core = core } in
    record {
      last = [];
      grown = (Answered lane line a ∷ [], t.0);
      clocked = append-nil (clocks h) ∙ sym (append-nil (clocks h)) ∙ sym (ap clocks t.0 ∙ clocks-append h (Answered lane line a ∷ [])) ∙ sym (append-nil (clocks k));
      left = none-left halt;
      shown = last_cut h lane line a text t.0 refl t.1;
      went = λ done from g. subst (Went done from script) (sym t.0)
          (went-of done from script (h ++ Answered lane line a ∷ []) after (length-set s.lanes (lane - 1) (record { next = p.next; line = None }) ∙ long)
          (answer-goes done from script h lane line a s s.core (slice_set s.lanes (lane - 1) (record { next = p.next; line = None })) least most line_is ends g));
      core = λ done from g. subst (CoreWent s h) (sym t.0) (core-then-cut s now h (h ++ Answered lane line a ∷ []) (h ++ Answered lane line a ∷ [])
          (core-answers s now h lane line a (running-line done from script h lane line s p least line_is there g) answers refl refl refl) (core-cut now (h ++ Answered lane line a ∷ [])));
    }

-- ---- a line begins

module _ (done : List ScriptLine) (from : ℕ) (script : List ScriptLine) (h : List Entry) (lane place : ℕ) (l : ScriptLine) (s : Session) (core : View) (mid : List Place) (least : 1 ≤ lane) (most : lane ≤ 16) (line_is : LineIs lane None s)
    (seeks : Seeks script lane s.lanes (Some place) mid) (there : slice_get script place ≡ Some l) (lane_is : l.lane ≡ lane) (g : Goes done from script h s) where
  abbrev began : Entry
  began = Began lane l.line l.op

  abbrev next_place : Place
  next_place = record { next = place + 1; line = Some l.line }

  all : slice_set mid (lane - 1) next_place ≡ slice_set s.lanes (lane - 1) next_place
  all = ap (λ (t : List Place). slice_set t (lane - 1) next_place) seeks.is ∙ set-set s.lanes (lane - 1) (record { next = seeks.at; line = seeks.before.line }) next_place

  before : IsPlaced done script h lane seeks.before
  before = subst (λ (m : ℕ). IsPlaced done script h m seeks.before) (omega (arith, least)) (g.placed (lane - 1) seeks.before seeks.there)

  one-placed : IsPlaced done script (h ++ began ∷ []) lane next_place
  one-placed =
      let at_is : place ≡ seeks.at = seeks.found.0 in
      let one : place + 1 ≡ suc seeks.at = omega (arith, at_is) in
      let line_none : seeks.before.line ≡ None = line-of s.lanes lane None seeks.before line_is seeks.there in
      record {
        begins = begun-append lane h (began ∷ [])
            ∙ ap (λ (t : List Entry). begun lane h ++ t) (begun-own lane l.line l.op)
            ∙ ap (λ (t : List Entry). t ++ Began lane l.line l.op ∷ []) before.begins
            ∙ sym (one-after done script lane seeks.before.next seeks.at l.line l.op l seeks.next (subst (λ (m : ℕ). slice_get script m ≡ Some l) at_is there) lane_is refl refl)
            ∙ ap (λ (m : ℕ). begun lane (entries_of (done ++ take m script))) (sym one);
        open_line = begins-now h lane l.line l.op (subst (IsOpen h lane) line_none before.open_line);
      }

  pub begin-goes : (timed : (x m n : ℕ) (op : Op) → At (h ++ began ∷ []) x (Began m n op) → IsTimed (h ++ began ∷ []) x)
      → Goes done from script (h ++ began ∷ []) (record s { core = core; lanes = slice_set mid (lane - 1) next_place })
  begin-goes timed = record {
    others = λ other out. let o = g.others other out in (
      begun-append other h (began ∷ []) ∙ ap (λ (t : List Entry). begun other h ++ t) (begun-other other lane l.line l.op (out-differs lane other least most out)) ∙ append-nil (begun other h) ∙ o.0,
      resting-grow h began other (began-other other lane l.line l.op (out-differs lane other least most out)) o.1,
    );
    placed = λ n p here. elim (get-set s.lanes (lane - 1) n next_place p (subst (λ (ps : List Place). slice_get ps n ≡ Some p) all here)) [
      | inl is ↦ subst (IsPlaced done script (h ++ began ∷ []) (suc n)) (sym is.1) (subst (λ (m : ℕ). IsPlaced done script (h ++ began ∷ []) m next_place) (let i = is.0 in omega (arith, i, least)) one-placed)
      | inr is ↦ let differs : lane ≢ suc n = λ same. is.0 (omega (arith, same)) in
          placed-grow done script h began (suc n) p (began-other (suc n) lane l.line l.op differs) (begun-other (suc n) lane l.line l.op differs) (g.placed n p is.1)
    ];
    within = within-grow from h began g.within;
    status = since-quiet from h began s.status g.within (λ fault m n is. absurd cc) g.status;
    timed = timed;
    together = together-on from (entries_of script) h began (λ bytes is. absurd cc) g.together;
  }

-- the time is noted, and a line begins
pub started : (label : List ℕ) (script : List ScriptLine) (h k : List Entry) (ms lane place : ℕ) (l : ScriptLine) (s : Session) (core : View) (mid : List Place) → 1 ≤ lane → lane ≤ 16 → LineIs lane None s
    → Seeks script lane s.lanes (Some place) mid → slice_get script place ≡ Some l → l.lane ≡ lane → IsIdle lane s.core.lanes → s.core.begun < 2 ^ 32 → Fits (machine_of s.mounted lane l.op)
    → Begins s.core lane (machine_of s.mounted lane l.op) ms core → k ≡ h ++ Clock ms ∷ Began lane l.line l.op ∷ []
    → GoesOn label script s (record s { core = core; lanes = slice_set mid (lane - 1) (record { next = place + 1; line = Some l.line }) }) (ms ∷ []) [] h k
started label script h k ms lane place l s core mid least most line_is seeks there lane_is idle few fits begins is = record {
  grown = (Clock ms ∷ Began lane l.line l.op ∷ [], is);
  clocked = ap clocks is ∙ clocks-append h (Clock ms ∷ Began lane l.line l.op ∷ []);
  shown = ap (told_by label) is ∙ told-append label h (Clock ms ∷ Began lane l.line l.op ∷ []);
  goes = λ done from g.
      let mid_goes = clock-goes done from script h ms s g in
      let h1 : List Entry = h ++ Clock ms ∷ [] in
      subst (λ (x : List Entry). Goes done from script x (record s { core = core; lanes = slice_set mid (lane - 1) (record { next = place + 1; line = Some l.line }) })) (append_assoc h (Clock ms ∷ []) (Began lane l.line l.op ∷ []) ∙ sym is)
      (begin-goes done from script h1 lane place l s core mid least most line_is seeks there lane_is mid_goes (timed-begin h ms lane l.line l.op g.timed));
  core = λ done from g.
      let after : Session = record s { core = core; lanes = slice_set mid (lane - 1) (record { next = place + 1; line = Some l.line }) } in
      subst (CoreGoes s after h) (sym is) (core-begins s after h ms lane l.line l.op idle few fits begins refl refl refl);
}

-- memory ran out at the beginning of a line
pub unstarted : (label : List ℕ) (script : List ScriptLine) (h k : List Entry) (s t : Session) (given : List ℕ) → length s.lanes ≡ 16 → length given ≤ 1
    → (k ≡ h) ⊎ ((ms : ℕ) × (given ≡ ms ∷ []) × (k ≡ h ++ Clock ms ∷ [])) → CutsOff label script s halts.Memory given [] h k
unstarted label script h k s t given long few (inl is) = record {
  last = given;
  grown = ([], is ∙ sym (append-nil h));
  clocked = ap (λ (x : List Entry). clocks x ++ given) (sym is);
  left = few;
  shown = all_told (append-nil (told_by label h) ∙ ap (told_by label) (sym is));
  went = λ done from g. subst (Went done from script) (sym is) (went-of done from script h s long g);
  core = λ done from g. core-unbegun s h k given (inl is);
}
unstarted label script h k s t given long few (inr m) = record {
  last = [];
  grown = (Clock m.0 ∷ [], m.2);
  clocked = ap (λ (x : List ℕ). clocks h ++ x) m.1 ∙ sym (ap clocks m.2 ∙ clocks-append h (Clock m.0 ∷ [])) ∙ sym (append-nil (clocks k));
  left = omega arith;
  shown = all_told (sym (ap (told_by label) m.2 ∙ told-append label h (Clock m.0 ∷ [])));
  went = λ done from g. subst (Went done from script) (sym m.2) (went-of done from script (h ++ Clock m.0 ∷ []) s long (clock-goes done from script h m.0 s g));
  core = λ done from g. core-unbegun s h k given (inr m);
}

-- ---- no line is left

pub rest-goes : (done : List ScriptLine) (from : ℕ) (script : List ScriptLine) (h : List Entry) (lane : ℕ) (s : Session) (mid : List Place) → 1 ≤ lane → Seeks script lane s.lanes None mid → Goes done from script h s → Goes done from script h (record s { lanes = mid })
rest-goes done from script h lane s mid least seeks g = record {
  others = g.others;
  placed = λ n p there. elim (get-set s.lanes (lane - 1) n q p (subst (λ (ps : List Place). slice_get ps n ≡ Some p) seeks.is there)) [
    | inl is ↦ subst (IsPlaced done script h (suc n)) (sym is.1) (own n is.0)
    | inr is ↦ g.placed n p is.1
  ];
  within = g.within;
  status = g.status;
  timed = g.timed;
  together = g.together;
}
  where
    q : Place
    q = record { next = seeks.at; line = seeks.before.line }

    own : (n : ℕ) → n ≡ lane - 1 → IsPlaced done script h (suc n) q
    own n is =
        let was : IsPlaced done script h (suc (lane - 1)) seeks.before = g.placed (lane - 1) seeks.before seeks.there in
        let m : suc (lane - 1) ≡ lane = omega (arith, least) in
        let here : IsPlaced done script h lane seeks.before = subst (λ (x : ℕ). IsPlaced done script h x seeks.before) m was in
        let there : IsPlaced done script h lane q = record { begins = here.begins ∙ sym (passed-after done script lane seeks.before.next seeks.at seeks.next); open_line = here.open_line } in
        subst (λ (x : ℕ). IsPlaced done script h x q) (omega (arith, is, least)) there

pub rested-on : (label : List ℕ) (script : List ScriptLine) (h : List Entry) (lane : ℕ) (s : Session) (mid : List Place) → 1 ≤ lane → Seeks script lane s.lanes None mid → GoesOn label script s (record s { lanes = mid }) [] [] h h
rested-on label script h lane s mid least seeks = record {
  grown = ([], sym (append-nil h));
  clocked = sym (append-nil (clocks h));
  shown = sym (append-nil (told_by label h));
  goes = λ done from g. rest-goes done from script h lane s mid least seeks g;
  core = λ done from g. core-like s (record s { lanes = mid }) h refl refl refl refl;
}
