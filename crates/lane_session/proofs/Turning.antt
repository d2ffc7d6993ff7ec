-- How a session goes on along its history.
use Rattle.std.proofs.Common.{◌≡◌, ◌<◌, ◌⊎◌, inl, inr, ℕ, zero, suc, List, [], ◌∷◌, ◌++◌, length, take, drop, slice_get, All, Option, Some, None, Result, Ok, Err, refl, sym, ap, subst, ◌∙◌, arith, append-nil, append_assoc}
use Rattle.std.proofs.lemmas.Bool.{cases_lt}
use Rattle.std.proofs.lemmas.List.{take-append-drop}
use Rattle.world_model.specs.declared.answer.Answer.TheVariants.{Refused}
use Rattle.world_model.specs.declared.entry.Entry.{Entry}
use Rattle.world_model.specs.Clocked.{clocks}
use Rattle.world_model.specs.Follows.{begun, marks_of, Alternates, IsFront}
use Rattle.nfs_script.specs.Asked.{IsAskedLine}
use Rattle.nfs_script.specs.declared.script.ScriptLine.{ScriptLine}
use Rattle.lane_session.specs.declared.halt.Halt.{Halt}
use Rattle.lane_session.specs.declared.halt.Halt.TheVariants as halts
use Rattle.lane_session.specs.declared.lanes.Place.{Place}
use Rattle.lane_session.specs.declared.running.Session.{Session}
use Rattle.lane_session.specs.Bonds.{CoreGoes, CoreWent}
use Rattle.lane_session.specs.Going.{Grows, Goes, Went, GoesOn, CutsOff, GoesBy}
use Rattle.lane_session.specs.Holding.{AreQuiet}
use Rattle.lane_session.specs.Endings.{entries_of}
use Rattle.lane_session.specs.Labels.{told_by, all_told, IsCutIn}
use Rattle.lane_session.specs.Places.{IsOpen, IsPlaced}
use Rattle.lane_session.specs.Running.{marks, Quietly}
use Rattle.lane_session.specs.Statuses.{IsLeft, HasStatus}
use Rattle.lane_session.proofs.LaneLaws.{resting-grow, running-alternates, resting-alternates}
use Rattle.lane_session.proofs.Placing.{silent, no-mark, marks-none, timed-quiet, placed-grow, begun-after}
use Rattle.lane_session.proofs.Since.{since-quiet, within-grow}
use Rattle.lane_session.proofs.Labels.{told-append}
use Rattle.lane_session.proofs.Pushes.{clocks-append, begun-append, marks-append, quiet_by}
use Rattle.lane_session.proofs.Reaching.{core-then, core-then-cut}
use Rattle.lane_session.proofs.Together.{together-quiet}

-- ---- nothing is noted

-- each lane has told its answer, and has no line left where none is under way
pub record IsWaiting (script : List ScriptLine) (s : Session) : Type 0 where
  pub asked : All IsAskedLine script
  pub sixteen : length s.lanes ≡ 16
  pub quiet : AreQuiet script s

goes-one : (done : List ScriptLine) (from : ℕ) (script : List ScriptLine) (h : List Entry) (e : Entry) (s : Session) → IsWaiting script s → marks (e ∷ []) ≡ [] → Goes done from script h s → Goes done from script (h ++ e ∷ []) s
goes-one done from script h e s w q g = record {
  others = λ lane out. let o = g.others lane out in let m = silent e q lane in
      (begun-append lane h (e ∷ []) ∙ ap (λ (t : List Entry). begun lane h ++ t) m.1 ∙ append-nil (begun lane h) ∙ o.0, resting-grow h e lane m.0 o.1);
  placed = λ n p there. let m = silent e q (suc n) in placed-grow done script h e (suc n) p m.0 m.1 (g.placed n p there);
  within = within-grow from h e g.within;
  status = since-quiet from h e s.status g.within (λ fault l m is. (no-mark e q).0 l m (Refused fault) is) g.status;
  timed = timed-quiet h e (no-mark e q).1 g.timed;
  together = together-quiet done script h s w.asked w.sixteen w.quiet g.placed from e g.together;
}

-- only lanes and status count
goes-like : (done : List ScriptLine) (from : ℕ) (script : List ScriptLine) (h : List Entry) (s t : Session) → t.lanes ≡ s.lanes → t.status ≡ s.status → Goes done from script h s → Goes done from script h t
goes-like done from script h s t lanes status g = record {
  others = g.others;
  placed = λ n p there. g.placed n p (subst (λ (ps : List Place). slice_get ps n ≡ Some p) lanes there);
  within = g.within;
  status = subst (HasStatus (drop from h)) (sym status) g.status;
  timed = g.timed;
  together = g.together;
}

goes-quietly : (done : List ScriptLine) (from : ℕ) (script : List ScriptLine) (h k : List Entry) (s : Session) → IsWaiting script s → Quietly h k → Goes done from script h s → Goes done from script k s
goes-quietly done from script h k s w q g = subst (λ (t : List Entry). Goes done from script t s) (sym q.is) (quiet_by (λ (t : List Entry). Goes done from script t s) (λ t e. goes-one done from script t e s w) h q.more q.unmarked g)

pub quiet-clocks : (h k : List Entry) → Quietly h k → clocks k ≡ clocks h ++ []
quiet-clocks h k q = ap clocks q.is ∙ clocks-append h q.more ∙ ap (λ (t : List ℕ). clocks h ++ t) (marks-none [] q.more q.unmarked).0

pub quiet-told : (label : List ℕ) (h k : List Entry) → Quietly h k → told_by label k ≡ told_by label h ++ []
quiet-told label h k q = ap (told_by label) q.is ∙ told-append label h q.more ∙ ap (λ (t : List ℕ). told_by label h ++ t) (marks-none label q.more q.unmarked).1

pub quietly-then : (h k l : List Entry) → Quietly h k → Quietly k l → Quietly h l
quietly-then h k l p q = record {
  more = p.more ++ q.more;
  is = q.is ∙ ap (λ (t : List Entry). t ++ q.more) p.is ∙ append_assoc h p.more q.more;
  unmarked = marks-append p.more q.more ∙ ap (λ (t : List Entry). t ++ marks q.more) p.unmarked ∙ q.unmarked;
}

pub quietly-none : (h : List Entry) → Quietly h h
quietly-none h = record { more = []; is = sym (append-nil h); unmarked = refl }

-- ---- a session that is cut off

in-list : {A : Type 0} → (xs : List A) (n : ℕ) → n < length xs → (x : A) × (slice_get xs n ≡ Some x)
in-list [] n lt = absurd (omega (arith, lt))
in-list (x ∷ xs) zero lt = (x, refl)
in-list (x ∷ xs) (suc n) lt = in-list xs n (omega (arith, lt))

placed-front : (done script : List ScriptLine) (h : List Entry) (lane : ℕ) (p : Place) → IsPlaced done script h lane p → IsFront (begun lane h) (begun lane (entries_of (done ++ script)))
placed-front done script h lane p i = record {
  rest = begun lane (entries_of (drop p.next script));
  is = begun-after done script lane
      ∙ ap (λ (t : List ScriptLine). begun lane (entries_of done) ++ begun lane (entries_of t)) (sym (take-append-drop p.next script))
      ∙ ap (λ (t : List Entry). begun lane (entries_of done) ++ t) (begun-after (take p.next script) (drop p.next script) lane)
      ∙ sym (append_assoc (begun lane (entries_of done)) (begun lane (entries_of (take p.next script))) (begun lane (entries_of (drop p.next script))))
      ∙ ap (λ (t : List Entry). t ++ begun lane (entries_of (drop p.next script))) (sym (begun-after done (take p.next script) lane) ∙ sym i.begins);
}

open-alternates : (h : List Entry) (lane : ℕ) (line : Option ℕ) → IsOpen h lane line → Alternates (marks_of lane h)
open-alternates h lane None o = resting-alternates h lane o
open-alternates h lane (Some line) o = running-alternates h lane line o

-- a lane is one of 1 to 16, or another
which : (lane : ℕ) → ((n : ℕ) × (n < 16) × (lane ≡ suc n)) ⊎ ((lane ≡ 0) ⊎ (16 < lane))
which zero = inr (inl refl)
which (suc n) = elim (cases_lt n 16) [
  | inl lt ↦ inl (n, lt, refl)
  | inr ge ↦ inr (inr (omega (arith, ge)))
]

pub went-of : (done : List ScriptLine) (from : ℕ) (script : List ScriptLine) (h : List Entry) (s : Session) → length s.lanes ≡ 16 → Goes done from script h s → Went done from script h
went-of done from script h s long g = record {
  alternates = λ lane. elim (which lane) [
    | inl w ↦ let p = in-list s.lanes w.0 (let lt = w.1 in omega (arith, lt, long)) in
        subst (λ (n : ℕ). Alternates (marks_of n h)) (sym w.2) (open-alternates h (suc w.0) p.0.line (g.placed w.0 p.0 p.1).open_line)
    | inr out ↦ resting-alternates h lane (g.others lane out).1
  ];
  begins = λ lane. elim (which lane) [
    | inl w ↦ let p = in-list s.lanes w.0 (let lt = w.1 in omega (arith, lt, long)) in
        subst (λ (n : ℕ). IsFront (begun n h) (begun n (entries_of (done ++ script)))) (sym w.2) (placed-front done script h (suc w.0) p.0 (g.placed w.0 p.0 p.1))
    | inr out ↦ record { rest = begun lane (entries_of (done ++ script)); is = sym (ap (λ (t : List Entry). t ++ begun lane (entries_of (done ++ script))) (g.others lane out).0) }
  ];
  timed = g.timed;
  together = g.together;
}

-- ---- one part after another

pub goes-none : (label : List ℕ) (script : List ScriptLine) (s t : Session) (h : List Entry) → t.lanes ≡ s.lanes → t.status ≡ s.status → CoreGoes s t h h → GoesOn label script s t [] [] h h
goes-none label script s t h lanes status core = record {
  grown = ([], sym (append-nil h));
  clocked = sym (append-nil (clocks h));
  shown = sym (append-nil (told_by label h));
  goes = λ done from g. goes-like done from script h s t lanes status g;
  core = λ done from g. core;
}

-- the exchange with the server
pub goes-turned : (label : List ℕ) (script : List ScriptLine) (s t : Session) (h k : List Entry) → IsWaiting script s → t.lanes ≡ s.lanes → t.status ≡ s.status → Quietly h k → CoreGoes s t h k → GoesOn label script s t [] [] h k
goes-turned label script s t h k w lanes status q core = record {
  grown = (q.more, q.is);
  clocked = quiet-clocks h k q;
  shown = quiet-told label h k q;
  goes = λ done from g. goes-like done from script k s t lanes status (goes-quietly done from script h k s w q g);
  core = λ done from g. core;
}

pub cut-turned : (label : List ℕ) (script : List ScriptLine) (s : Session) (halt : Halt) (h k : List Entry) → IsWaiting script s → Quietly h k → CoreWent s h k → CutsOff label script s halt [] [] h k
cut-turned label script s halt h k w q core = record {
  last = [];
  grown = (q.more, q.is);
  clocked = append-nil (clocks h) ∙ sym (append-nil (clocks h)) ∙ sym (quiet-clocks h k q) ∙ sym (append-nil (clocks k));
  left = none halt;
  shown = all_told (sym (quiet-told label h k q));
  went = λ done from g. went-of done from script k s w.sixteen (goes-quietly done from script h k s w q g);
  core = λ done from g. core;
}
  where
    none : (halt : Halt) → IsLeft halt []
    none halts.Output = refl
    none halts.Memory = omega arith

grows-then : (h k l : List Entry) → Grows h k → Grows k l → Grows h l
grows-then h k l (a, p) (b, q) = (a ++ b, q ∙ ap (λ (t : List Entry). t ++ b) p ∙ append_assoc h a b)

pub goes-then-on : (label : List ℕ) (script : List ScriptLine) (s t u : Session) (g i x y : List ℕ) (h k l : List Entry) → GoesOn label script s t g x h k → GoesOn label script t u i y k l → GoesOn label script s u (g ++ i) (x ++ y) h l
goes-then-on label script s t u g i x y h k l p q = record {
  grown = grows-then h k l p.grown q.grown;
  clocked = q.clocked ∙ ap (λ (z : List ℕ). z ++ i) p.clocked ∙ append_assoc (clocks h) g i;
  shown = q.shown ∙ ap (λ (z : List ℕ). z ++ y) p.shown ∙ append_assoc (told_by label h) x y;
  goes = λ done from w. q.goes done from (p.goes done from w);
  core = λ done from w. core-then s t u h k l (p.core done from w) (q.core done from (p.goes done from w));
}

pub goes-then-off : (label : List ℕ) (script : List ScriptLine) (s t : Session) (halt : Halt) (g i x y : List ℕ) (h k l : List Entry) → GoesOn label script s t g x h k → CutsOff label script t halt i y k l → CutsOff label script s halt (g ++ i) (x ++ y) h l
goes-then-off label script s t halt g i x y h k l p q = record {
  last = q.last;
  grown = grows-then h k l p.grown q.grown;
  clocked = sym (append_assoc (clocks h) g i) ∙ ap (λ (z : List ℕ). z ++ i) (sym p.clocked) ∙ q.clocked;
  left = q.left;
  shown = subst (IsCutIn label l) (ap (λ (z : List ℕ). z ++ y) p.shown ∙ append_assoc (told_by label h) x y) q.shown;
  went = λ done from w. q.went done from (p.goes done from w);
  core = λ done from w. core-then-cut s t h k l (p.core done from w) (q.core done from (p.goes done from w));
}

pub goes-after : {T : Type 0} → (label : List ℕ) (script : List ScriptLine) (s t u : Session) (result : Result T Halt) (g i x y : List ℕ) (h k l : List Entry) → GoesOn label script s t g x h k → GoesBy label script t u result i y k l → GoesBy label script s u result (g ++ i) (x ++ y) h l
goes-after label script s t u (Ok d) g i x y h k l p q = goes-then-on label script s t u g i x y h k l p q
goes-after label script s t u (Err d) g i x y h k l p q = goes-then-off label script s t d g i x y h k l p q
