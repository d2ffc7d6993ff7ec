-- Lanes that go on, one after the other.
use Rattle.std.proofs.Common.{◌≡◌, ◌≤◌, ◌<◌, ◌+◌, ◌-◌, inl, inr, ℕ, zero, suc, List, [], ◌∷◌, ◌==◌, length, position, get_or, slice_get, Bool, true, false, nat_eq, Option, Some, None, option_map, MatchOption, refl, sym, ap, subst, ◌∙◌, arith}
use Rattle.std.specs.Bool.{OnTrue}
use borrow.Author.Tests.{eqb-true, eqb-false}
use Rattle.std.proofs.lemmas.Bool.{ne_eqb}
use Rattle.std.proofs.lemmas.List.Quantifiers.{position-Some}
use Rattle.world_model.specs.declared.answer.Answer.{Answer}
use Rattle.nfs_script.specs.declared.script.ScriptLine.{ScriptLine}
use Rattle.client_core.specs.declared.lane.Lane.{Lane}
use Rattle.client_core.specs.declared.lane.State.{State}
use Rattle.client_core.specs.declared.lane.State.TheVariants.{Busy, Over}
use Rattle.client_core.specs.Lanes.{is_over, over_by, IsUnder, AnsweredFrom}
use Rattle.client_core.specs.Numbers.{IsOther, numbers_of}
use Rattle.client_core.specs.Steps.{AnswersBy, AnswersAt}
use Rattle.client_core.specs.View.{View}
use Rattle.lane_session.specs.declared.lanes.Place.{Place}
use Rattle.lane_session.specs.declared.running.Session.{Session}
use Rattle.lane_session.specs.Holding.{IsHeld, IsQuiet, AreQuiet, Lessens, SameTries, calls_left, tries_left}
use Rattle.lane_session.specs.Places.{AreBegun, Seeks, lines_left}
use Rattle.lane_session.specs.Running.{LineIs, RestsOne, RestsAll, StepsSo, StepsLane}
use Rattle.lane_session.proofs.Placing.{get-set}
use Rattle.lane_session.proofs.Seating.{line-of, lines-set, get-other}

not-over : (s : State) (b : Bool) → b ≡ false → over_by b s ≡ false
not-over (Busy machine) b e = refl
not-over (Over answer) b e = e

all-other : (n : ℕ) (xs : List Lane) (k : ℕ) (d : Lane) → IsOther n (numbers_of xs) → k < length xs → is_over n (get_or xs k d) ≡ false
all-other n [] k d o lt = absurd (omega (arith, lt))
all-other n (x ∷ xs) zero d o lt = not-over x.state (x.number == n) (ne_eqb x.number n o.0)
all-other n (x ∷ xs) (suc k) d o lt = all-other n xs k d o.1 (omega (arith, lt))

-- a lane that the core doesn't have has no answer there
over-none : (lanes : List Lane) (n : ℕ) → IsOther n (numbers_of lanes) → position (is_over n) lanes ≡ None
over-none [] n o = refl
over-none (lane ∷ lanes) n o = by (position (is_over n) (lane ∷ lanes)) refl
  where
    by : (at : Option ℕ) → position (is_over n) (lane ∷ lanes) ≡ at → position (is_over n) (lane ∷ lanes) ≡ None
    by None e = e
    by (Some at) e =
        let s = position-Some (is_over n) (lane ∷ lanes) at lane e in
        absurd (let no_way : true ≡ false = sym s.1 ∙ all-other n (lane ∷ lanes) at lane o s.0 in cc)

abbrev none_of : Option Answer
none_of = None

pub no-answer : (old : View) (n : ℕ) (new : View) → AnswersBy old n None new → (position (is_over n) old.lanes ≡ None) × (new ≡ old)
no-answer old n new a = by (position (is_over n) old.lanes) refl a
  where
    by : (o : Option ℕ) → position (is_over n) old.lanes ≡ o → MatchOption o ((none_of ≡ None) × (new ≡ old)) (λ at. AnswersAt old at n None new) → (position (is_over n) old.lanes ≡ None) × (new ≡ old)
    by None e t = (e, t.1)
    by (Some at) e t = absurd (let no_way : None ≡ Some t.answer = t.gives in cc)

pub same-lane : (lane : ℕ) → 1 ≤ lane → suc (lane - 1) ≡ lane
same-lane lane least = omega (arith, least)

-- the lane has a line under way without an answer
pub rests-busy : (script : List ScriptLine) (lane line : ℕ) (old new : Session) → 1 ≤ lane → LineIs lane (Some line) old → AnswersBy old.core lane None new.core → new.lanes ≡ old.lanes → SameTries old new → RestsOne script lane old new
rests-busy script lane line old new least line_is answers lanes tries =
    let a = no-answer old.core lane new.core answers in
    record {
      core = a.1;
      tries = tries;
      lines = subst (λ (ps : List Place). lines_left (length script) ps ≤ lines_left (length script) old.lanes) (sym lanes) (omega arith);
      quiet = record {
        told = subst (λ (m : ℕ). position (is_over m) new.core.lanes ≡ None) (sym (same-lane lane least)) (subst (λ (v : View). position (is_over lane) v.lanes ≡ None) (sym a.1) a.0);
        none = λ p there none. absurd (
            let own : p.line ≡ Some line = line-of old.lanes lane (Some line) p line_is (subst (λ (ps : List Place). slice_get ps (lane - 1) ≡ Some p) lanes there) in
            let no_way : None ≡ Some line = sym none ∙ own in cc);
      };
      others = λ n differs. ap (λ (ps : List Place). slice_get ps n) lanes;
    }

-- the lane has no line left
pub rests-idle : (script : List ScriptLine) (lane : ℕ) (old : Session) (mid : List Place) → 1 ≤ lane → lane ≤ 16 → IsHeld script old → LineIs lane None old → Seeks script lane old.lanes None mid → RestsOne script lane old (record old { lanes = mid })
rests-idle script lane old mid least most held line_is seeks =
    let q : Place = record { next = seeks.at; line = seeks.before.line } in
    let none_left : seeks.at ≡ length script = seeks.found in
    let idle : IsOther (suc (lane - 1)) (numbers_of old.core.lanes) = held.seated.idle (lane - 1) seeks.before seeks.there (line-of old.lanes lane None seeks.before line_is seeks.there) in
    record {
      core = refl;
      tries = record { attempts = refl; dropped = refl };
      lines = let e = lines-set (length script) old.lanes (lane - 1) seeks.before q seeks.there in
          let after = seeks.next.after in
          subst (λ (ps : List Place). lines_left (length script) ps ≤ lines_left (length script) old.lanes) (sym seeks.is) (omega (arith, e, after));
      quiet = record {
        told = over-none old.core.lanes (suc (lane - 1)) idle;
        none = λ p there none. elim (get-set old.lanes (lane - 1) (lane - 1) q p (subst (λ (ps : List Place). slice_get ps (lane - 1) ≡ Some p) seeks.is there)) [
          | inl e ↦ ap (λ (r : Place). r.next) e.1 ∙ none_left
          | inr e ↦ absurd (e.0 refl)
        ];
      };
      others = λ n differs. ap (λ (ps : List Place). slice_get ps n) seeks.is ∙ get-other old.lanes (lane - 1) n q differs;
    }

-- ---- one lane after another

pub quiet-kept : (script : List ScriptLine) (lane : ℕ) (old new : Session) (n : ℕ) → RestsOne script lane old new → (n ≡ lane - 1 → ⊥) → IsQuiet script old n → IsQuiet script new n
quiet-kept script lane old new n r differs q = record {
  told = subst (λ (v : View). position (is_over (suc n)) v.lanes ≡ None) (sym r.core) q.told;
  none = λ p there none. q.none p (sym (r.others n differs) ∙ there) none;
}

pub quiet-more : (script : List ScriptLine) (index : ℕ) (old new : Session) → RestsOne script (index + 1) old new → ((n : ℕ) → n < index → IsQuiet script old n) → (n : ℕ) → n < index + 1 → IsQuiet script new n
quiet-more script index old new r q n lt = by (nat_eq n index) refl
  where
    by : (b : Bool) → nat_eq n index ≡ b → IsQuiet script new n
    by true e = subst (IsQuiet script new) (let same = eqb-true n index e in omega (arith, same)) r.quiet
    by false e = let other = eqb-false n index e in
        quiet-kept script (index + 1) old new n r (λ same. other (omega (arith, same))) (q n (omega (arith, lt, other)))

pub rests-then : (script : List ScriptLine) (old mid new : Session) → mid.core ≡ old.core → SameTries old mid → lines_left (length script) mid.lanes ≤ lines_left (length script) old.lanes → Lessens script mid new → Lessens script old new
rests-then script old mid new core tries lines l = record {
  tries = record { attempts = l.tries.attempts ∙ tries.attempts; dropped = l.tries.dropped ∙ tries.dropped };
  calls = let c = l.calls in let e : calls_left mid.core ≡ calls_left old.core = ap calls_left core in omega (arith, c, e);
  lines = let m = l.lines in omega (arith, m, lines);
}

pub lessens-tries : (script : List ScriptLine) (old new : Session) → Lessens script old new → tries_left new ≤ tries_left old
lessens-tries script old new l = let c = l.calls in let a = l.tries.attempts in let d = l.tries.dropped in omega (arith, c, a, d)

pub rests-tries : (script : List ScriptLine) (old new : Session) → RestsAll script old new → tries_left new ≤ tries_left old
rests-tries script old new r = let c : calls_left new.core ≡ calls_left old.core = ap calls_left r.core in let a = r.tries.attempts in let d = r.tries.dropped in omega (arith, c, a, d)

-- by whether a lane went on
pub went-on : (script : List ScriptLine) (old new : Session) (went : Bool) → went ≡ true → StepsSo script old went new → Lessens script old new
went-on script old new true e s = s
went-on script old new false e s = absurd (cc)

pub went-not : (script : List ScriptLine) (old new : Session) (went : Bool) → went ≡ false → StepsSo script old went new → RestsAll script old new
went-not script old new true e s = absurd (cc)
went-not script old new false e s = s

pub lane-went-on : (script : List ScriptLine) (lane : ℕ) (old new : Session) (went : Bool) → went ≡ true → StepsLane script lane old went new → Lessens script old new
lane-went-on script lane old new true e s = s
lane-went-on script lane old new false e s = absurd (cc)

pub lane-went-not : (script : List ScriptLine) (lane : ℕ) (old new : Session) (went : Bool) → went ≡ false → StepsLane script lane old went new → RestsOne script lane old new
lane-went-not script lane old new true e s = absurd (cc)
lane-went-not script lane old new false e s = s

-- each lane has a line under way or none left, and none has an answer
pub quiet-all : (script : List ScriptLine) (s : Session) (b : Bool) → OnTrue b (AreBegun (length script) s.lanes) → AnsweredFrom None s.core.lanes → OnTrue b (AreQuiet script s)
quiet-all script s true begun none = λ n lt. record { told = none (suc n) tt; none = begun n }
quiet-all script s false begun none = tt

line-there : (places : List Place) (n line : ℕ) (p : Place) → option_map (λ (q : Place). q.line) (slice_get places n) ≡ Some (Some line) → slice_get places n ≡ Some p → p.line ≡ Some line
line-there places n line p is there = let e = sym (ap (option_map (λ (q : Place). q.line)) there) ∙ is in cc

-- a lane with a line under way has no answer, since none of its number or a lesser one has
pub waits-quiet : (s : Session) (lane line : ℕ) (least : Option ℕ) (b : Bool) → 1 ≤ lane → option_map (λ (p : Place). p.line) (slice_get s.lanes (lane - 1)) ≡ Some (Some line) → AnsweredFrom least s.core.lanes
    → OnTrue b (IsUnder lane least) → OnTrue b ((script : List ScriptLine) → IsQuiet script s (lane - 1))
waits-quiet s lane line least false one there from under = tt
waits-quiet s lane line least true one there from under = λ script. record {
  told = subst (λ (m : ℕ). position (is_over m) s.core.lanes ≡ None) (sym (same-lane lane one)) (from lane under);
  none = λ p at free. absurd (let busy : p.line ≡ Some line = line-there s.lanes (lane - 1) line p there at in let clash = sym free ∙ busy in cc);
}
