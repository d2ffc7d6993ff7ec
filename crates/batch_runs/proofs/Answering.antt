-- Batches that are read one after another, up to one that isn't refused: what is written of them.
use Rattle.std.proofs.Common.{◌≡◌, ◌+◌, ℕ, List, Bool, false, true, Option, Some, None, IfOk, IfSome, Result, Ok, Err, refl, sym, ap, subst, ◌∙◌, if◌then◌else◌}
use Rattle.nfs_script.specs.declared.fault.ScriptFault.{ScriptFault}
use Rattle.nfs_script.specs.declared.script.ScriptLine.{ScriptLine}
use Rattle.nfs_script.specs.Script.{script_from}
use Rattle.script_batches.specs.Batches.{InputView, Read}
use Rattle.script_batches.specs.declared.input.Batch.{Batch}
use Rattle.script_batches.specs.Taking.{Gives, read_of}
use Rattle.script_runs.specs.Run.{Says}
use Rattle.batch_runs.specs.declared.answered.Answered.{Answered}
use Rattle.batch_runs.specs.declared.reading.Next.{Next}
use Rattle.batch_runs.specs.declared.reading.Next.TheVariants as nexts
use Rattle.batch_runs.specs.declared.stop.Stop.{Stop}
use Rattle.batch_runs.specs.Parts.{RefusedFrom, asked_in, refused_text}
use Rattle.batch_runs.specs.Reading.{AnswersAll, AnswersNext, AnswersOne, FindsScript, IfFurther, IsAskedNext, MayRun, MayRunSome, NextIs, StopsAt, TakesNext, TakesOne, left_in}
use Rattle.batch_runs.proofs.Finding.{all-refused, finds-end, finds-script, finds-stop, next-is, one-next, one-stop}
use Rattle.batch_runs.proofs.Saying.{says-less, says-none, says-then}

-- ---- what a batch asks for

pub asked-cut : (b : Read) → b.ended ≡ false → asked_in b ≡ Err (record { line = b.last; kind = 10 })
asked-cut b is = ap (λ (x : Bool). if x then script_from b.before b.text else Err (record { line = b.last; kind = 10 })) is

pub asked-ended : (b : Read) (read : Result (List ScriptLine) ScriptFault) → b.ended ≡ true → script_from b.before b.text ≡ read → asked_in b ≡ read
asked-ended b read ended is = ap (λ (x : Bool). if x then script_from b.before b.text else Err (record { line = b.last; kind = 10 })) ended ∙ is

-- what was read is what the reader of batches gave
pub batch-taken : (a b : Option (List ℕ)) (old now : InputView) (batch : Batch) (result : Result Next Stop) → Gives a b old now (Some batch) → IfOk result (NextIs (read_of batch))
    → IfOk result (TakesNext (left_in a old) (left_in b now))
batch-taken a b old now batch (Ok next) g is = next-is a b old now batch next g is
batch-taken a b old now batch (Err stop) g is = tt

-- ---- it is answered if it is refused

pub answers-script : (w : Option (List ℕ)) (lines : List ScriptLine) (old : Answered) → Says w w (AnswersNext (nexts.Script lines) old old (Ok (nexts.Script lines)))
answers-script w lines old = says-none w (AnswersNext (nexts.Script lines) old old (Ok (nexts.Script lines))) (refl, (refl, refl))

pub answers-end : (w : Option (List ℕ)) (old : Answered) → Says w w (AnswersNext nexts.End old old (Ok nexts.End))
answers-end w old = says-none w (AnswersNext nexts.End old old (Ok nexts.End)) (refl, (refl, refl))

pub answers-refused : (v w : Option (List ℕ)) (fault : ScriptFault) (old new : Answered) → Says v w (AnswersOne {T = Unit {0}} 3 (refused_text (old.count + 1) fault) old new (Ok tt))
    → Says v w (AnswersNext (nexts.Refused fault) old new (Ok (nexts.Refused fault)))
answers-refused v w fault old new said =
    says-less v w (AnswersOne {T = Unit {0}} 3 (refused_text (old.count + 1) fault) old new (Ok tt)) (AnswersNext (nexts.Refused fault) old new (Ok (nexts.Refused fault))) (λ t a. (refl, a)) said

pub answers-cut : (v w : Option (List ℕ)) (fault : ScriptFault) (stop : Stop) (old new : Answered) → Says v w (AnswersOne {T = Unit {0}} 3 (refused_text (old.count + 1) fault) old new (Err stop))
    → Says v w (AnswersNext (nexts.Refused fault) old new (Err stop))
answers-cut v w fault stop old new said =
    says-less v w (AnswersOne {T = Unit {0}} 3 (refused_text (old.count + 1) fault) old new (Err stop)) (AnswersNext (nexts.Refused fault) old new (Err stop)) (λ t a. a) said

pub batch-answered : (v w : Option (List ℕ)) (old new : Answered) (left rest : Option (List Read)) (next : Next) (result : Result Next Stop) → TakesNext left rest next
    → Says v w (AnswersNext next old new result) → Says v w (TakesOne old new left rest result)
batch-answered v w old new left rest next result taken said =
    says-less v w (AnswersNext next old new result) (TakesOne old new left rest result) (λ t a. one-next old new left rest next result t taken a) said

pub batch-unread : (w : Option (List ℕ)) (old : Answered) (left rest : Option (List Read)) (stop : Stop) → Says w w (TakesOne old old left rest (Err stop))
batch-unread w old left rest stop = says-none w (TakesOne old old left rest (Err stop)) (one-stop old left rest stop)

-- what is so of it stays so
pub same-asked : (next : Next) (result : Result Next Stop) → IfOk result (λ now. now ≡ next) → IsAskedNext next → IfOk result IsAskedNext
same-asked next (Ok now) same asked = subst IsAskedNext (sym same) asked
same-asked next (Err stop) same asked = tt

pub same-further : (P : Type 0) (next : Next) (result : Result Next Stop) → IfOk result (λ now. now ≡ next) → IfFurther P next → IfOk result (IfFurther P)
same-further P next (Ok now) same further = subst (IfFurther P) (sym same) further
same-further P next (Err stop) same further = tt

-- ---- one after another

module _ (u v w : Option (List ℕ)) (old mid new : Answered) (left between rest : Option (List Read)) (all : Says u v (AnswersAll RefusedFrom old mid left between)) where
  pub refused-said : (fault : ScriptFault) → Says v w (TakesOne mid new between rest (Ok (nexts.Refused fault))) → Says u w (AnswersAll RefusedFrom old new left rest)
  refused-said fault said =
      says-then u v w (AnswersAll RefusedFrom old mid left between) (TakesOne mid new between rest (Ok (nexts.Refused fault))) (AnswersAll RefusedFrom old new left rest)
      (λ t one a r. all-refused old mid new left between rest t one a fault r) all said

  pub script-said : (lines : List ScriptLine) → Says v w (TakesOne mid new between rest (Ok (nexts.Script lines))) → Says u w (FindsScript RefusedFrom StopsAt old new left rest (Ok (Some lines)))
  script-said lines said =
      says-then u v w (AnswersAll RefusedFrom old mid left between) (TakesOne mid new between rest (Ok (nexts.Script lines))) (FindsScript RefusedFrom StopsAt old new left rest (Ok (Some lines)))
      (λ t one a r. finds-script old mid new left between rest t one a lines r) all said

  pub end-said : Says v w (TakesOne mid new between rest (Ok nexts.End)) → Says u w (FindsScript RefusedFrom StopsAt old new left rest (Ok None))
  end-said said =
      says-then u v w (AnswersAll RefusedFrom old mid left between) (TakesOne mid new between rest (Ok nexts.End)) (FindsScript RefusedFrom StopsAt old new left rest (Ok None))
      (λ t one a r. finds-end old mid new left between rest t one a r) all said

  pub stop-said : (stop : Stop) → Says v w (TakesOne mid new between rest (Err stop)) → Says u w (FindsScript RefusedFrom StopsAt old new left rest (Err stop))
  stop-said stop said =
      says-then u v w (AnswersAll RefusedFrom old mid left between) (TakesOne mid new between rest (Err stop)) (FindsScript RefusedFrom StopsAt old new left rest (Err stop))
      (λ t one a r. finds-stop old mid new left between rest t one a stop r) all said

-- ---- the script that was found

pub found-asked : (next : List ScriptLine) (result : Result (Option (List ScriptLine)) Stop) → IfOk result (λ r. r ≡ Some next) → MayRun next → IfOk result MayRunSome
found-asked next (Ok r) same may = subst MayRunSome (sym same) may
found-asked next (Err stop) same may = tt

pub found-so : (P : List ScriptLine → Type 0) (next : List ScriptLine) (result : Result (Option (List ScriptLine)) Stop) → IfOk result (λ r. r ≡ Some next) → IfOk result (λ r. P next)
    → IfOk result (λ r. IfSome r P)
found-so P next (Ok r) same so = subst (λ (o : Option (List ScriptLine)). IfSome o P) (sym same) so
found-so P next (Err stop) same so = tt

pub found-less : (P : Type 0) (result : Result (Option (List ScriptLine)) Stop) → P → IfOk result (λ r. IfSome r (λ l. P))
found-less P (Ok (Some r)) less = less
found-less P (Ok None) less = tt
found-less P (Err stop) less = tt
