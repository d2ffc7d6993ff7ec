-- What is written, and the statuses with it.
use Rattle.std.proofs.Common.{◌≡◌, ◌≢◌, ◌⊎◌, ℕ, List, [], Bool, Option, Some, None, Result, Ok, Err, refl, sym, ◌∙◌, ap, subst, arith}
use Rattle.std.specs.Prelude.{IfOk, unwrap_or}
use Rattle.std.proofs.lemmas.List.{append-nil}
use Rattle.world_model.specs.Follows.{IsFront}
use Rattle.script_runs.specs.Run as run
use Rattle.script_runs.specs.Streams.{Appends, AppendsFront}
use Rattle.trace_check.specs.declared.judging.Verdict.{Verdict}
use Rattle.trace_check.specs.declared.judging.Verdict.TheVariants.{Yes, No}
use Rattle.trace_data.specs.declared.trace.Trace.{Trace}
use Rattle.trace_data.specs.Histories.{history_of}
use Rattle.claims.specs.Modes.{Modes, modes_with}
use Rattle.trace_check.specs.Judged as check
use Rattle.trace_claims.specs.Judging.{FirstMount, IsOrigin}
use Rattle.trace_claims.specs.Judging as origins
use Rattle.trace_claims.specs.Modes.{modes_of}
use Rattle.world_model.specs.declared.entry.Entry.{Entry}
use Rattle.world_model.specs.Mounts.{Origin}
use Rattle.trace_text.specs.Reading.{SaysAll, text_told}
use Rattle.trace_text.specs.Told.{Told, Says}
use Rattle.world_model.specs.History.{History}
use Rattle.trace_runs.specs.Verdicts.{EndsSo, IsTold, IsToldOrigin, IsVerdictOf, Tells, given, mounting, status_of, told_modes, whole, unread, cut, short, judged, refused}

adds-none : (o : Option (List ℕ)) → Appends o o []
adds-none None = tt
adds-none (Some old) = sym (append-nil old)

-- the source failed: nothing is written
pub says-unread : (left o : Option (List ℕ)) → run.Says o o (EndsSo left 4)
says-unread left o = record { text = []; added = adds-none o; is = unread refl refl }

-- memory ran out before anything was written
pub says-short : (left o : Option (List ℕ)) → run.Says o o (EndsSo left 7)
says-short left o = record { text = []; added = adds-none o; is = short refl refl }

-- all of it was written
pub says-whole : (left old new : Option (List ℕ)) (status : ℕ) (text : List ℕ) → Tells left status text → Appends old new text → run.Says old new (EndsSo left status)
says-whole left old new status text told added = record { text = text; added = added; is = whole told }

front-of : (old new : Option (List ℕ)) (text : List ℕ) → AppendsFront old new text → (front : List ℕ) × Appends old new front × IsFront front text
front-of None new text front = ([], tt, record { rest = text; is = refl })
front-of (Some old) None text front = absurd front
front-of (Some old) (Some new) text front = (front.0, front.1, front.2)

-- a front of it was written
pub says-cut : (left old new : Option (List ℕ)) (status its : ℕ) (text : List ℕ) → (status ≡ 5) ⊎ (status ≡ 7) → Tells left its text → AppendsFront old new text
    → run.Says old new (EndsSo left status)
says-cut left old new status its text why told front = let f = front-of old new text front in record { text = f.0; added = f.1; is = cut its text why told f.2 }

-- what is told has the status 0, 1 or 9
verdict-not : (v : Verdict) (n : ℕ) → (0 ≢ n) → (1 ≢ n) → status_of v ≢ n
verdict-not Yes n a b e = a e
verdict-not (No rule entries) n a b e = b e

told-not : (trace : List ℕ) (status : ℕ) (text : List ℕ) (n : ℕ) → (0 ≢ n) → (1 ≢ n) → (9 ≢ n) → IsTold trace status text → status ≢ n
told-not trace status text n a b c (judged told read on) e = verdict-not on.verdict n a b (sym on.status_is ∙ e)
told-not trace status text n a b c (refused line read is same) e = c (sym is ∙ e)

pub told-not-4 : (left : Option (List ℕ)) (status : ℕ) (text : List ℕ) → Tells left status text → status ≢ 4
told-not-4 left status text tells = told-not tells.trace status text 4 (λ e. absurd (omega (arith, e))) (λ e. absurd (omega (arith, e))) (λ e. absurd (omega (arith, e))) tells.told

pub told-not-5 : (left : Option (List ℕ)) (status : ℕ) (text : List ℕ) → Tells left status text → status ≢ 5
told-not-5 left status text tells = told-not tells.trace status text 5 (λ e. absurd (omega (arith, e))) (λ e. absurd (omega (arith, e))) (λ e. absurd (omega (arith, e))) tells.told

-- ---- what is told of a text

entries-told : (read : Trace) (told : Told) → Says read told → read.entries.items ≡ told.history.entries
entries-told read told says = ap (λ (h : History). h.entries) says.history

origin-told : (read : Trace) (told : Told) (origin : Origin) → Says read told → IsToldOrigin told origin → IsOrigin read origin
origin-told read told origin says (given root is from) = origins.given root (says.root ∙ is) from
origin-told read told origin says (mounting path is mounts from) =
    origins.mounting path (says.root ∙ is) (subst (λ (es : List Entry). FirstMount es path) (sym (entries-told read told says)) mounts) from

modes-told : (read : Trace) (told : Told) → Says read told → modes_of read ≡ told_modes told
modes-told read told says = ap (λ (n : ℕ). modes_with n read.noac read.nocto) says.lives ∙ ap (λ (b : Bool). modes_with (unwrap_or told.lives 60000) b read.nocto) says.noac
    ∙ ap (λ (b : Bool). modes_with (unwrap_or told.lives 60000) told.noac b) says.nocto

on-told : (trace : List ℕ) (read : Trace) (said : Result Told ℕ) (status : ℕ) (text : List ℕ) → text_told trace ≡ said → SaysAll read said → IsVerdictOf read status text
    → IsTold trace status text
on-told trace read (Ok told) status text e says on = judged told e (record {
  verdict = on.verdict;
  says = λ origin is. subst (λ (h : History). check.Says (told_modes told) origin h on.verdict) says.history
      (subst (λ (m : Modes). check.Says m origin (history_of read) on.verdict) (modes-told read told says) (on.says origin (origin-told read told origin says is)));
  yes = λ origin is. subst (λ (h : History). check.SaysYes (told_modes told) origin h on.verdict) says.history
      (subst (λ (m : Modes). check.SaysYes m origin (history_of read) on.verdict) (modes-told read told says) (on.yes origin (origin-told read told origin says is)));
  status_is = on.status_is;
  text_is = on.text_is;
})
on-told trace read (Err line) status text e says on = absurd says

-- a history that was read, and the verdict on it
pub judged-so : (trace : List ℕ) (read : Trace) (status : ℕ) (text : List ℕ) → SaysAll read (text_told trace) → IsVerdictOf read status text → IsTold trace status text
judged-so trace read status text says on = on-told trace read (text_told trace) status text refl says on

-- ---- what came of a call

pub if-ok : {A E : Type 0} (r : Result A E) (P Q : A → Type 0) → ((a : A) → P a → Q a) → IfOk r P → IfOk r Q
if-ok (Ok a) P Q f p = f a p
if-ok (Err e) P Q f p = tt
