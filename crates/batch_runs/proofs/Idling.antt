-- Batches up to the first one with a line: what is written of them.
use Rattle.std.proofs.Common.{◌≡◌, ◌≢◌, ◌<◌, ◌+◌, ℕ, suc, List, [], ◌∷◌, ◌++◌, length, Bool, Option, Some, None, IfOk, Result, Ok, Err, refl, sym, ap, subst, ◌∙◌, append_assoc, append-nil, arith}
use Rattle.world_model.specs.Follows.{IsFront}
use Rattle.nfs_script.specs.DoneText.{done_text}
use Rattle.nfs_script.specs.declared.script.ScriptLine.{ScriptLine}
use Rattle.script_batches.specs.Batches.{Read}
use Rattle.lane_session.specs.Endings.{counts_text}
use Rattle.script_runs.specs.Run.{Says}
use Rattle.batch_runs.specs.declared.answered.Answered.{Answered}
use Rattle.batch_runs.specs.declared.stop.Stop.{Stop}
use Rattle.batch_runs.specs.Parts.{AreIdleFrom, Part, RefusedFrom, asked_in}
use Rattle.batch_runs.specs.Reading.{AnswersAll, AnswersFound, AnswersIdle, AnswersOne, FindsScript, IsFirst, StopsAt, StopsIdle, Takes, TakesIdle, as_any, in_done, no_calls}
use Rattle.batch_runs.proofs.Idle.{idle-done, idle-refused}
use Rattle.batch_runs.proofs.Saying.{says-less, says-none, says-then}

-- ---- one that was found is answered if it has no line

abbrev pub idle_text : Bool → ℕ → List ℕ
idle_text count number = counts_text count no_calls ++ done_text number 0

pub idle-passed : (count : Bool) (w : Option (List ℕ)) (lines : List ScriptLine) (old : Answered) → 0 < length lines → Says w w (AnswersIdle count lines old old (Ok (Some lines)))
idle-passed count w [] old some = absurd (omega (arith, some))
idle-passed count w (l ∷ ls) old some = says-none w (AnswersIdle count (l ∷ ls) old old (Ok (Some (l ∷ ls)))) (refl, refl)

pub idle-told : (count : Bool) (v w : Option (List ℕ)) (lines : List ScriptLine) (old new : Answered) → length lines ≡ 0
    → Says v w (AnswersOne {T = Unit {0}} 0 (idle_text count (old.count + 1)) old new (Ok tt)) → Says v w (AnswersIdle count lines old new (Ok (Some lines)))
idle-told count v w [] old new none said =
    says-less v w (AnswersOne {T = Unit {0}} 0 (idle_text count (old.count + 1)) old new (Ok tt)) (AnswersIdle count [] old new (Ok (Some []))) (λ t a. a) said
idle-told count v w (l ∷ ls) old new none said = absurd (omega (arith, none))

pub idle-cut : (count : Bool) (v w : Option (List ℕ)) (lines : List ScriptLine) (stop : Stop) (old new : Answered) → length lines ≡ 0
    → Says v w (AnswersOne {T = Unit {0}} 0 (idle_text count (old.count + 1)) old new (Err stop)) → Says v w (AnswersIdle count lines old new (Err stop))
idle-cut count v w [] stop old new none said =
    says-less v w (AnswersOne {T = Unit {0}} 0 (idle_text count (old.count + 1)) old new (Err stop)) (AnswersIdle count [] old new (Err stop)) (λ t a. a) said
idle-cut count v w (l ∷ ls) stop old new none said = absurd (omega (arith, none))

-- ---- batches that were refused, and the one that was found

abbrev found_of : List ScriptLine → Result (Option (List ScriptLine)) Stop
found_of lines = Ok (Some lines)

same-found : (lines : List ScriptLine) (r : Result (Option (List ScriptLine)) Stop) → IfOk r (λ o. o ≡ Some lines) → IfOk r (λ o. found_of lines ≡ Ok o)
same-found lines (Ok o) e = ap (λ (x : Option (List ScriptLine)). Ok x) (sym e)
same-found lines (Err stop) e = tt

module _ (count : Bool) (u v w : Option (List ℕ)) (old mid new : Answered) (left rest : Option (List Read)) where
  pub idle-found : (lines : List ScriptLine) (result : Result (Option (List ScriptLine)) Stop) → IfOk result (λ r. r ≡ Some lines)
      → Says u v (FindsScript RefusedFrom StopsAt old mid left rest (Ok (Some lines))) → Says v w (AnswersIdle count lines mid new result) → Says u w (TakesIdle count old new left rest result)
  idle-found lines result same finds answers =
      says-then u v w (FindsScript RefusedFrom StopsAt old mid left rest (Ok (Some lines))) (AnswersIdle count lines mid new result) (TakesIdle count old new left rest result)
      (λ f b x y. record { found = Ok (Some lines); mid = mid; front = f; back = b; finds = x; answers = y; same = same-found lines result same; text_is = refl }) finds answers

module _ (count : Bool) (v w : Option (List ℕ)) (old new : Answered) (left rest : Option (List Read)) where
  pub idle-none : Says v w (FindsScript RefusedFrom StopsAt old new left rest (Ok None)) → Says v w (TakesIdle count old new left rest (Ok None))
  idle-none finds =
      says-less v w (FindsScript RefusedFrom StopsAt old new left rest (Ok None)) (TakesIdle count old new left rest (Ok None))
      (λ t f. record { found = Ok None; mid = new; front = t; back = []; finds = f; answers = (refl, refl, refl); same = refl; text_is = sym (append-nil t) }) finds

  pub idle-stopped : (stop : Stop) → Says v w (FindsScript RefusedFrom StopsAt old new left rest (Err stop)) → Says v w (TakesIdle count old new left rest (Err stop))
  idle-stopped stop finds =
      says-less v w (FindsScript RefusedFrom StopsAt old new left rest (Err stop)) (TakesIdle count old new left rest (Err stop))
      (λ t f. record { found = Err stop; mid = new; front = t; back = []; finds = f; answers = (refl, refl, refl); same = tt; text_is = sym (append-nil t) }) finds

-- ---- behind those before

takes-first : (left rest : Option (List Read)) (batch : Read) → Takes left rest (batch ∷ []) → IsFirst left batch
takes-first None rest batch t = tt
takes-first (Some x) None batch t = absurd t
takes-first (Some x) (Some y) batch t = (y, t)

all-as : (Are : ℕ → List Part → Type 0) (old a b : Answered) (left rest : Option (List Read)) (s t : List ℕ) → b ≡ a → t ≡ s → AnswersAll Are old a left rest s → AnswersAll Are old b left rest t
all-as Are old a b left rest s t same text x =
    subst (λ (y : List ℕ). AnswersAll Are old b left rest y) (sym text) (subst (λ (y : Answered). AnswersAll Are old y left rest s) (sym same) x)

module _ (count : Bool) (old mid new : Answered) (left between rest : Option (List Read)) (text one : List ℕ)
    (a : AnswersAll (AreIdleFrom count) old mid left between text) where
  -- those that were refused, and then nothing more was written
  plain : (last : Answered) (m : Option (List Read)) (front back : List ℕ) → AnswersAll RefusedFrom mid last between m front → new ≡ last → back ≡ [] → one ≡ front ++ back
      → AnswersAll (AreIdleFrom count) old new left m (text ++ one)
  plain last m front back refused same none is =
      all-as (AreIdleFrom count) old last new left m (text ++ front) (text ++ one) same
      (ap (λ (t : List ℕ). text ++ t) (is ∙ ap (λ (t : List ℕ). front ++ t) none ∙ append-nil front)) (idle-refused count old mid last left between m text front a refused)

  -- a script without a line
  empty-on : (batch : Read) (last : Answered) (m : Option (List Read)) (front back : List ℕ) → AnswersAll RefusedFrom mid last between m front
      → Takes m rest (batch ∷ []) → asked_in batch ≡ Ok [] → AnswersOne {T = Option (List ScriptLine)} 0 (idle_text count (last.count + 1)) last new (Ok (Some [])) back → one ≡ front ++ back
      → AnswersAll (AreIdleFrom count) old new left rest (text ++ one)
  empty-on batch last m front back refused takes asks answers is =
      let before = idle-refused count old mid last left between m text front a refused in
      let whole = idle-done count old last new left m rest (text ++ front) back before batch asks takes refl answers in
      subst (λ (t : List ℕ). AnswersAll (AreIdleFrom count) old new left rest t) (append_assoc text front back ∙ ap (λ (t : List ℕ). text ++ t) (sym is)) whole

  -- one that was taken has no line
  pub idle-on : TakesIdle count mid new between rest (Ok (Some [])) one → AnswersAll (AreIdleFrom count) old new left rest (text ++ one)
  idle-on t =
      let f : FindsScript RefusedFrom StopsAt mid t.mid between rest (Ok (Some [])) t.front = subst (λ (r : Result (Option (List ScriptLine)) Stop). FindsScript RefusedFrom StopsAt mid t.mid between rest r t.front) t.same t.finds in
      let b : AnswersFound count (Ok (Some [])) t.mid new (Ok (Some [])) t.back = subst (λ (r : Result (Option (List ScriptLine)) Stop). AnswersFound count r t.mid new (Ok (Some [])) t.back) t.same t.answers in
      empty-on f.2.0 t.mid f.0 t.front t.back f.1 f.2.1 f.2.2 b t.text_is

  -- it has some
  pub idle-script : (lines : List ScriptLine) → lines ≢ [] → TakesIdle count mid new between rest (Ok (Some lines)) one
      → FindsScript (AreIdleFrom count) (StopsIdle count) old new left rest (Ok (Some lines)) (text ++ one)
  idle-script [] some t = absurd (some refl)
  idle-script (l ∷ ls) some t =
      let f : FindsScript RefusedFrom StopsAt mid t.mid between rest (Ok (Some (l ∷ ls))) t.front =
      subst (λ (r : Result (Option (List ScriptLine)) Stop). FindsScript RefusedFrom StopsAt mid t.mid between rest r t.front) t.same t.finds in
      let b : AnswersFound count (Ok (Some (l ∷ ls))) t.mid new (Ok (Some (l ∷ ls))) t.back =
      subst (λ (r : Result (Option (List ScriptLine)) Stop). AnswersFound count r t.mid new (Ok (Some (l ∷ ls))) t.back) t.same t.answers in
      (f.0, plain t.mid f.0 t.front t.back f.1 b.0 b.1 t.text_is, (f.2.0, f.2.1, f.2.2))

  -- there is none
  pub idle-end : TakesIdle count mid new between rest (Ok None) one → FindsScript (AreIdleFrom count) (StopsIdle count) old new left rest (Ok None) (text ++ one)
  idle-end t =
      let f : FindsScript RefusedFrom StopsAt mid t.mid between rest (Ok None) t.front = subst (λ (r : Result (Option (List ScriptLine)) Stop). FindsScript RefusedFrom StopsAt mid t.mid between rest r t.front) t.same t.finds in
      let b : AnswersFound count (Ok None) t.mid new (Ok None) t.back = subst (λ (r : Result (Option (List ScriptLine)) Stop). AnswersFound count r t.mid new (Ok None) t.back) t.same t.answers in
      (f.0, plain t.mid f.0 t.front t.back f.1 b.1 b.2 t.text_is, f.2)

  -- it came to an end
  pub idle-stop : (stop : Stop) → TakesIdle count mid new between rest (Err stop) one → FindsScript (AreIdleFrom count) (StopsIdle count) old new left rest (Err stop) (text ++ one)
  idle-stop stop t = by t.found t.finds t.answers
    where
      by : (found : Result (Option (List ScriptLine)) Stop) → FindsScript RefusedFrom StopsAt mid t.mid between rest found t.front → AnswersFound count found t.mid new (Err stop) t.back
          → FindsScript (AreIdleFrom count) (StopsIdle count) old new left rest (Err stop) (text ++ one)
      by (Ok (Some [])) f b =
          let number : t.mid.count + 1 ≡ suc new.count = (let n = ap (λ (x : Answered). x.count) b.0 in omega (arith, n)) in (
            f.0,
            (
              text ++ t.front,
              t.back,
              all-as (AreIdleFrom count) old t.mid new left f.0 (text ++ t.front) (text ++ t.front) b.0 refl (idle-refused count old mid t.mid left between f.0 text t.front a f.1),
              ap (λ (x : List ℕ). text ++ x) t.text_is ∙ sym (append_assoc text t.front t.back),
              in_done b.1 f.2.0 (takes-first f.0 rest f.2.0 f.2.1) f.2.2 (subst (λ (n : ℕ). IsFront t.back (idle_text count n)) number b.2),
            ),
          )
      by (Ok (Some (l ∷ ls))) f b = absurd b
      by (Ok None) f b = absurd (let e = b.0 in cc)
      by (Err other) f b =
          let same : stop ≡ other = (let e = b.0 in cc) in
          let stops : StopsAt (suc t.mid.count) stop f.0 f.1.1 = subst (λ (x : Stop). StopsAt (suc t.mid.count) x f.0 f.1.1) (sym same) f.1.4 in
          let number : suc t.mid.count ≡ suc new.count = (let n = ap (λ (x : Answered). x.count) b.1 in omega (arith, n)) in (
            f.0,
            (
              text ++ f.1.0,
              f.1.1,
              all-as (AreIdleFrom count) old t.mid new left f.0 (text ++ f.1.0) (text ++ f.1.0) b.1 refl (idle-refused count old mid t.mid left between f.0 text f.1.0 a f.1.2),
              ap (λ (x : List ℕ). text ++ x) (t.text_is ∙ ap (λ (x : List ℕ). t.front ++ x) b.2 ∙ append-nil t.front ∙ f.1.3) ∙ sym (append_assoc text f.1.0 f.1.1),
              as_any (subst (λ (n : ℕ). StopsAt n stop f.0 f.1.1) number stops),
            ),
          )

-- ---- what is written

module _ (count : Bool) (u v w : Option (List ℕ)) (old mid new : Answered) (left between rest : Option (List Read)) (all : Says u v (AnswersAll (AreIdleFrom count) old mid left between)) where
  pub idle-on-said : (lines : List ScriptLine) → length lines ≡ 0 → Says v w (TakesIdle count mid new between rest (Ok (Some lines))) → Says u w (AnswersAll (AreIdleFrom count) old new left rest)
  idle-on-said [] none said =
      says-then u v w (AnswersAll (AreIdleFrom count) old mid left between) (TakesIdle count mid new between rest (Ok (Some []))) (AnswersAll (AreIdleFrom count) old new left rest)
      (λ text one a t. idle-on count old mid new left between rest text one a t) all said
  idle-on-said (l ∷ ls) none said = absurd (omega (arith, none))

  pub idle-script-said : (lines : List ScriptLine) → lines ≢ [] → Says v w (TakesIdle count mid new between rest (Ok (Some lines)))
      → Says u w (FindsScript (AreIdleFrom count) (StopsIdle count) old new left rest (Ok (Some lines)))
  idle-script-said lines some said =
      says-then u v w (AnswersAll (AreIdleFrom count) old mid left between) (TakesIdle count mid new between rest (Ok (Some lines)))
      (FindsScript (AreIdleFrom count) (StopsIdle count) old new left rest (Ok (Some lines))) (λ text one a t. idle-script count old mid new left between rest text one a lines some t) all said

  pub idle-end-said : Says v w (TakesIdle count mid new between rest (Ok None)) → Says u w (FindsScript (AreIdleFrom count) (StopsIdle count) old new left rest (Ok None))
  idle-end-said said =
      says-then u v w (AnswersAll (AreIdleFrom count) old mid left between) (TakesIdle count mid new between rest (Ok None)) (FindsScript (AreIdleFrom count) (StopsIdle count) old new left rest (Ok None))
      (λ text one a t. idle-end count old mid new left between rest text one a t) all said

  pub idle-stop-said : (stop : Stop) → Says v w (TakesIdle count mid new between rest (Err stop)) → Says u w (FindsScript (AreIdleFrom count) (StopsIdle count) old new left rest (Err stop))
  idle-stop-said stop said =
      says-then u v w (AnswersAll (AreIdleFrom count) old mid left between) (TakesIdle count mid new between rest (Err stop)) (FindsScript (AreIdleFrom count) (StopsIdle count) old new left rest (Err stop))
      (λ text one a t. idle-stop count old mid new left between rest text one a stop t) all said

pub has-lines : (lines : List ScriptLine) → 0 < length lines → lines ≢ []
has-lines [] some e = absurd (omega (arith, some))
has-lines (l ∷ ls) some e = absurd cc
