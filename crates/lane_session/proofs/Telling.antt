-- A lane that tells the answer of its line, or has none to tell.
use Rattle.std.proofs.Common.{◌≡◌, ◌≤◌, ◌-◌, ℕ, List, [], slice_get, Option, Some, None, option_map, Ok, Err, refl, sym, subst}
use Rattle.world_model.specs.declared.answer.Answer.{Answer}
use Rattle.world_model.specs.declared.entry.Entry.{Entry}
use Rattle.world_model.specs.History.{History}
use Rattle.world_model.specs.Told.{Relates}
use Rattle.nfs_script.specs.declared.script.ScriptLine.{ScriptLine}
use Rattle.client_core.specs.Numbers.{AreLanes}
use Rattle.client_core.specs.Steps.{AnswersBy}
use Rattle.client_core.specs.View.{View}
use Rattle.lane_session.specs.declared.halt.Halt.{Halt}
use Rattle.lane_session.specs.declared.lanes.Place.{Place}
use Rattle.lane_session.specs.declared.running.Session.{Session}
use Rattle.lane_session.specs.Going.{GoesOn, CutsOff, TellsAnswer}
use Rattle.lane_session.specs.Holding.{IsHeld, Lessens}
use Rattle.lane_session.specs.Places.{Ends}
use Rattle.lane_session.specs.Running.{LineIs, RestsOne}
use Rattle.lane_session.specs.Statuses.{after_answer}
use Rattle.lane_session.specs.Streams.{Says}
use Rattle.lane_session.proofs.Marking.{told-answer, untold-answer}
use Rattle.lane_session.proofs.Passing.{appends_same, relates_same, relates_less}
use Rattle.lane_session.proofs.Reaching.{core-like}
use Rattle.lane_session.proofs.Seating.{answered-held, answered-less}
use Rattle.lane_session.proofs.Stepping.{no-answer, rests-busy}
use Rattle.lane_session.proofs.Turning.{goes-none}

-- what is said of the text and the histories, and less
pub says_less : (w0 w1 : Option (List ℕ)) (t0 t1 : Option History) (R S : List ℕ → List Entry → List Entry → Type 0) → ((t : List ℕ) (h k : List Entry) → R t h k → S t h k)
    → Says w0 w1 (λ t. Relates t0 t1 (R t)) → Says w0 w1 (λ t. Relates t0 t1 (S t))
says_less w0 w1 t0 t1 R S less s = record { text = s.text; added = s.added; is = relates_less t0 t1 (R s.text) (S s.text) (λ h k x. less s.text h k x) s.is }

-- a lane with a line, or without one, has a place
pub place-there : (ps : List Place) (i : ℕ) (line : Option ℕ) → option_map (λ (p : Place). p.line) (slice_get ps i) ≡ Some line → (p : Place) × (slice_get ps i ≡ Some p)
place-there ps i line is = by (slice_get ps i) refl is
  where
    by : (o : Option Place) → slice_get ps i ≡ o → option_map (λ (p : Place). p.line) o ≡ Some line → (p : Place) × (slice_get ps i ≡ Some p)
    by None e is = absurd (cc)
    by (Some p) e is = (p, e)

-- ---- no answer is there

module _ (lane : ℕ) (old : Session) (core : View) (answers : AnswersBy old.core lane None core) where
  pub unanswered-held : (script : List ScriptLine) → IsHeld script old → IsHeld script (record old { core = core })
  unanswered-held script held = subst (λ (v : View). IsHeld script (record old { core = v })) (sym (no-answer old.core lane core answers).1) held

  pub unanswered-rests : (line : ℕ) → 1 ≤ lane → LineIs lane (Some line) old → (script : List ScriptLine) → RestsOne script lane old (record old { core = core })
  unanswered-rests line least line_is script = rests-busy script lane line old (record old { core = core }) least line_is answers refl (record { attempts = refl; dropped = refl })

  pub unanswered-goes : (label : List ℕ) (w : Option (List ℕ)) (t : Option History)
      → Says w w (λ text. Relates t t (λ h k. (script : List ScriptLine) → IsHeld script old → GoesOn label script old (record old { core = core }) [] text h k))
  unanswered-goes label w t = record {
    text = [];
    added = appends_same w;
    is = relates_same t _ (λ h script held. goes-none label script old (record old { core = core }) h refl refl (core-like old (record old { core = core }) h refl (no-answer old.core lane core answers).1 refl refl));
  }

-- ---- the answer is there

module _ (lane line : ℕ) (a : Answer) (old : Session) (core : View) (lanes : List Place) (status : ℕ) (least : 1 ≤ lane) (most : lane ≤ 16) (line_is : LineIs lane (Some line) old) (ends : Ends lane old.lanes lanes)
    (is : status ≡ after_answer old.status a) where
  pub telling-held : AreLanes old.core.lanes → AnswersBy old.core lane (Some a) core → (script : List ScriptLine) → IsHeld script old → IsHeld script (record old { core = core; lanes = lanes; status = status })
  telling-held numbers answers script held =
      subst (λ (n : ℕ). IsHeld script (record old { core = core; lanes = lanes; status = n })) (sym is) (answered-held script lane line a old core lanes least numbers held line_is answers ends)

  pub telling-less : AnswersBy old.core lane (Some a) core → (script : List ScriptLine) → Lessens script old (record old { core = core; lanes = lanes; status = status })
  telling-less answers script = answered-less script lane line a old core lanes status line_is answers ends

  pub telling-goes : (label : List ℕ) → AnswersBy old.core lane (Some a) core → (w0 w1 : Option (List ℕ)) (t0 t1 : Option History) → Says w0 w1 (λ text. Relates t0 t1 (TellsAnswer {T = Unit {0}} label lane line a (Ok tt) text))
      → Says w0 w1 (λ text. Relates t0 t1 (λ h k. (script : List ScriptLine) → IsHeld script old → GoesOn label script old (record old { core = core; lanes = lanes; status = status }) [] text h k))
  telling-goes label answers w0 w1 t0 t1 said = says_less w0 w1 t0 t1 _ _ (λ text h k t script held.
      subst (λ (n : ℕ). GoesOn label script old (record old { core = core; lanes = lanes; status = n }) [] text h k) (sym is) (told-answer label script h k lane line a old core lanes text least most line_is ends answers t)) said

-- ---- the session is cut off

pub telling-cut : (label : List ℕ) (w0 w1 : Option (List ℕ)) (t0 t1 : Option History) (lane line : ℕ) (a : Answer) (old : Session) (core : View) (halt : Halt) → 1 ≤ lane → lane ≤ 16 → LineIs lane (Some line) old
    → AnswersBy old.core lane (Some a) core → Says w0 w1 (λ text. Relates t0 t1 (TellsAnswer {T = Unit {0}} label lane line a (Err halt) text))
    → Says w0 w1 (λ text. Relates t0 t1 (λ h k. (script : List ScriptLine) → IsHeld script old → CutsOff label script old halt [] text h k))
telling-cut label w0 w1 t0 t1 lane line a old core halt least most line_is answers said =
    let p = place-there old.lanes (lane - 1) (Some line) line_is in
    says_less w0 w1 t0 t1 _ _ (λ text h k t script held. untold-answer label script h k lane line a old core halt p.0 text least most line_is held.seated.sixteen p.1 answers t) said
