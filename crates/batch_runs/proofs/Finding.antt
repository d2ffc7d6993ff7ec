-- Batches that are read, and answered where they are refused or have no line.
use Rattle.std.proofs.Common.{◌≡◌, ◌+◌, ℕ, suc, List, [], ◌∷◌, ◌++◌, length, map, max, Option, Some, None, Result, Ok, Err, refl, sym, ap, subst, ◌∙◌, append-nil, arith}
use Rattle.nfs_script.specs.declared.fault.ScriptFault.{ScriptFault}
use Rattle.nfs_script.specs.declared.script.ScriptLine.{ScriptLine}
use Rattle.script_batches.specs.Batches.{InputView, Read}
use Rattle.script_batches.specs.declared.input.Batch.{Batch}
use Rattle.script_batches.specs.Taking.{Gives, read_of}
use Rattle.batch_runs.specs.declared.answered.Answered.{Answered}
use Rattle.batch_runs.specs.declared.reading.Next.{Next}
use Rattle.batch_runs.specs.declared.reading.Next.TheVariants as nexts
use Rattle.batch_runs.specs.declared.stop.Stop.{Stop}
use Rattle.batch_runs.specs.Parts.{IsRefused, Part, RefusedFrom, asked_in, refused_text, text_in, worst_in}
use Rattle.batch_runs.specs.Reading.{AnswersAll, AnswersNext, AnswersOne, FindsScript, IsAtEnd, IsFirst, NextIs, StopsAt, Takes, TakesNext, TakesOne, in_refusal, left_in, no_batch}
use Rattle.batch_runs.proofs.Parts.{length-append, reads-append, takes-more, takes-none, text-append, worst-append}

taken : (a b : Option (List ℕ)) (old now : InputView) (batch : Batch) → Gives a b old now (Some batch) → Takes (left_in a old) (left_in b now) (read_of batch ∷ [])
taken None b old now batch g = tt
taken (Some l) None old now batch g = absurd g
taken (Some l) (Some m) old now batch g = g

-- none was read yet
pub all-none : (Are : ℕ → List Part → Type 0) (old : Answered) (left : Option (List Read)) → Are old.count [] → AnswersAll Are old old left left []
all-none Are old left are = record {
  parts = [];
  are = are;
  counts = record { count = omega arith; status = omega arith };
  read = takes-none left;
  written = refl;
}

-- ---- batches that are refused

refused-more : (n m : ℕ) (ps : List Part) (p : Part) → m ≡ n + length ps → RefusedFrom n ps → IsRefused (suc m) p → RefusedFrom n (ps ++ p ∷ [])
refused-more n m [] p is r one = let same : m ≡ n = omega (arith, is) in (subst (λ (k : ℕ). IsRefused (suc k) p) same one, tt)
refused-more n m (q ∷ ps) p is r one = (r.0, refused-more (suc n) m ps p (omega (arith, is)) r.1 one)

max-next : (a b c d : ℕ) → b ≡ max a c → max b d ≡ max a (max c (max d 0))
max-next a b c d is = omega (arith, is)

-- a further one
pub all-more : (old mid new : Answered) (left between rest : Option (List Read)) (text one : List ℕ) (batch : Read) (fault : ScriptFault) → AnswersAll RefusedFrom old mid left between text
    → Takes between rest (batch ∷ []) → asked_in batch ≡ Err fault → AnswersOne {T = Unit {0}} 3 (refused_text (mid.count + 1) fault) mid new (Ok tt) one
    → AnswersAll RefusedFrom old new left rest (text ++ one)
all-more old mid new left between rest text one batch fault a takes asks answers =
    let part : Part = record { read = batch; lines = []; entries = []; status = 3; text = one } in
    let number : mid.count + 1 ≡ suc mid.count = omega arith in
    let refused : IsRefused (suc mid.count) part = record {
      fault = fault;
      why = asks;
      lines = refl;
      entries = refl;
      status = refl;
      text = answers.2 ∙ ap (λ (n : ℕ). refused_text n fault) number;
    } in
    record {
      parts = a.parts ++ part ∷ [];
      are = refused-more old.count mid.count a.parts part a.counts.count a.are refused;
      counts = record {
        count = (let x = a.counts.count in let y = answers.0 in let long = length-append a.parts (part ∷ []) in omega (arith, x, y, long));
        status = answers.1 ∙ max-next old.status mid.status (worst_in a.parts) 3 a.counts.status ∙ ap (max old.status) (sym (worst-append a.parts (part ∷ [])));
      };
      read = subst (Takes left rest) (sym (reads-append a.parts (part ∷ []))) (takes-more left between rest (map (λ (p : Part). p.read) a.parts) (batch ∷ []) a.read takes);
      written = ap (λ (t : List ℕ). t ++ one) a.written ∙ ap (λ (t : List ℕ). text_in a.parts ++ t) (sym (append-nil one)) ∙ sym (text-append a.parts (part ∷ []));
    }

module _ (old mid new : Answered) (left between rest : Option (List Read)) (text one : List ℕ) (a : AnswersAll RefusedFrom old mid left between text) where
  pub all-refused : (fault : ScriptFault) → TakesOne mid new between rest (Ok (nexts.Refused fault)) one → AnswersAll RefusedFrom old new left rest (text ++ one)
  all-refused fault t = all-more old mid new left between rest text one t.0 fault a t.1 t.2 t.3

  same-text : one ≡ [] → text ++ one ≡ text
  same-text none = ap (λ (t : List ℕ). text ++ t) none ∙ append-nil text

  all-same : one ≡ [] → new ≡ mid → AnswersAll RefusedFrom old new left between (text ++ one)
  all-same none same = subst (λ (t : List ℕ). AnswersAll RefusedFrom old new left between t) (sym (same-text none)) (subst (λ (v : Answered). AnswersAll RefusedFrom old v left between text) (sym same) a)

  -- a script, or the end of the input
  pub finds-script : (lines : List ScriptLine) → TakesOne mid new between rest (Ok (nexts.Script lines)) one → FindsScript RefusedFrom StopsAt old new left rest (Ok (Some lines)) (text ++ one)
  finds-script lines t = (between, all-same t.3 t.4, (t.0, t.1, t.2))

  pub finds-end : TakesOne mid new between rest (Ok nexts.End) one → FindsScript RefusedFrom StopsAt old new left rest (Ok None) (text ++ one)
  finds-end t = (between, all-same t.1 t.2, t.0)

  -- it came to an end
  pub finds-stop : (stop : Stop) → TakesOne mid new between rest (Err stop) one → FindsScript RefusedFrom StopsAt old new left rest (Err stop) (text ++ one)
  finds-stop stop t =
      let number : mid.count + 1 ≡ suc new.count = (let n = ap (λ (v : Answered). v.count) t.0 in omega (arith, n)) in
      (between, (text, one, subst (λ (v : Answered). AnswersAll RefusedFrom old v left between text) (sym t.0) a, refl, subst (λ (n : ℕ). StopsAt n stop between one) number t.1))

-- ---- one batch

-- the next one, as the reader of batches gives it
pub next-is : (a b : Option (List ℕ)) (old now : InputView) (batch : Batch) (next : Next) → Gives a b old now (Some batch) → NextIs (read_of batch) next → TakesNext (left_in a old) (left_in b now) next
next-is a b old now batch (nexts.Script lines) g is = (read_of batch, taken a b old now batch g, is)
next-is a b old now batch (nexts.Refused fault) g is = (read_of batch, taken a b old now batch g, is)
next-is a b old now batch nexts.End g is = absurd is

-- there is none
pub end-is : (a b : Option (List ℕ)) (old now : InputView) → Gives a b old now None → IsAtEnd (left_in a old) (left_in b now)
end-is None b old now g = tt
end-is (Some l) None old now g = absurd g
end-is (Some l) (Some m) old now g = g

takes-first : (left rest : Option (List Read)) (batch : Read) → Takes left rest (batch ∷ []) → IsFirst left batch
takes-first None rest batch t = tt
takes-first (Some x) None batch t = absurd t
takes-first (Some x) (Some y) batch t = (y, t)

pub one-next : (old new : Answered) (left rest : Option (List Read)) (next : Next) (result : Result Next Stop) (text : List ℕ) → TakesNext left rest next → AnswersNext next old new result text
    → TakesOne old new left rest result text
one-next old new left rest (nexts.Script lines) (Ok now) text t a =
    subst (λ (n : Next). TakesOne old new left rest (Ok n) text) (sym a.0) (t.0, t.1, t.2, a.1.0, a.1.1)
one-next old new left rest (nexts.Refused fault) (Ok now) text t a = subst (λ (n : Next). TakesOne old new left rest (Ok n) text) (sym a.0) (t.0, t.1, t.2, a.1)
one-next old new left rest nexts.End (Ok now) text t a = subst (λ (n : Next). TakesOne old new left rest (Ok n) text) (sym a.0) (t, a.1.0, a.1.1)
one-next old new left rest (nexts.Script lines) (Err stop) text t a = absurd a.2
one-next old new left rest (nexts.Refused fault) (Err stop) text t a = (a.0, in_refusal a.1 t.0 fault (takes-first left rest t.0 t.1) t.2 a.2)
one-next old new left rest nexts.End (Err stop) text t a = absurd a.2

pub one-stop : (old : Answered) (left rest : Option (List Read)) (stop : Stop) → TakesOne old old left rest (Err stop) []
one-stop old left rest stop = (refl, no_batch refl)
