-- What is said of a line is the answer to it.
use Rattle.std.proofs.Common.{◌≡◌, ◌<◌, ◌^◌, ◌⊎◌, inl, inr, ℕ, zero, suc, List, [], ◌∷◌, ◌++◌, length, Bool, true, false, cond, nat_eq, Option, Some, None, refl, sym, ap, subst, ◌∙◌, arith}
use Rattle.std.specs.Prelude.{Contains, codes, get_or}
use Rattle.world_model.specs.declared.answer.Answer.{Answer}
use Rattle.world_model.specs.declared.answer.Answer.TheVariants as answers
use Rattle.world_model.specs.declared.answer.Value.{Value}
use Rattle.world_model.specs.declared.entry.Entry.{Entry}
use Rattle.world_model.specs.declared.entry.Entry.TheVariants.{Began, Answered}
use Rattle.world_model.specs.Follows.{marks_of}
use Rattle.world_model.specs.Transcript.{answer_text, transcript, value_text}
use Rattle.script_text.specs.Lines.{words}
use Rattle.law_copies.proofs.Marks.{IsOwn, IsSilent, answered-own, marks-cons, own-or-silent}
use Rattle.fetch_scripts.specs.Answering.{IsOk, IsRead, Says, bytes_of}
use Rattle.fetch_scripts.proofs.Texts.{Told, succeeds, told}
use Rattle.nfs_fetch.proofs.Weave.{Ans, AreNumbered, Has, ans_marks, has-one}

-- ---- among entries

abbrev pub Among : List Entry → Entry → Type 0
Among [] d = ⊥
Among (x ∷ xs) d = (x ≡ d) ⊎ Among xs d

among-back : (xs ys : List Entry) (d : Entry) → Among ys d → Among (xs ++ ys) d
among-back [] ys d h = h
among-back (x ∷ xs) ys d h = inr (among-back xs ys d h)

among-at : (xs : List Entry) (d : Entry) (k : ℕ) → k < length xs → get_or xs k d ≡ d → Among xs d
among-at [] d k lt e = absurd (omega (arith, lt))
among-at (x ∷ xs) d zero lt e = inl e
among-at (x ∷ xs) d (suc k) lt e = inr (among-at xs d k (omega (arith, lt)) e)

pub among : (xs : List Entry) (d : Entry) → Contains xs d → Among xs d
among xs d h = among-at xs d h.0 h.1 h.2

marks-among : (lane : ℕ) (e : List Entry) (d : Entry) → IsOwn lane d → Among e d → Among (marks_of lane e) d
marks-among lane [] d own h = absurd h
marks-among lane (x ∷ e) d own (inl is) =
    subst (λ (t : List Entry). Among t d) (sym (marks-cons lane x e))
    (subst (λ (t : List Entry). Among (t ++ marks_of lane e) d) (sym (subst (IsOwn lane) (sym is) own)) (inl is))
marks-among lane (x ∷ e) d own (inr later) =
    subst (λ (t : List Entry). Among t d) (sym (marks-cons lane x e)) (among-back (marks_of lane (x ∷ [])) (marks_of lane e) d (marks-among lane e d own later))

-- a line with this answer
pub record Answering (all : List Ans) (number : ℕ) (answer : Answer) : Type 0 where
  pub one : Ans
  pub has : Has all one
  pub line : one.line ≡ number
  pub answer_is : one.answer ≡ answer

ans-among : (lane other number : ℕ) (answer : Answer) (all : List Ans) → Among (ans_marks lane all) (Answered other number answer) → Answering all number answer
ans-among lane other number answer [] h = absurd h
ans-among lane other number answer (a ∷ all) h = by (λ more. ans-among lane other number answer all more) (nat_eq a.lane lane) h
  where
    later : Answering all number answer → Answering (a ∷ all) number answer
    later x = record { one = x.one; has = inr x.has; line = x.line; answer_is = x.answer_is }

    by : (Among (ans_marks lane all) (Answered other number answer) → Answering all number answer) → (b : Bool) → Among (cond b (Began a.lane a.line a.op ∷ Answered a.lane a.line a.answer ∷ ans_marks lane all) (ans_marks lane all)) (Answered other number answer)
        → Answering (a ∷ all) number answer
    by others true (inl no_way) = absurd cc
    by others true (inr (inl is)) =
        let line_is : a.line ≡ number = cc in
        let answer_is : a.answer ≡ answer = cc in
        record { one = a; has = inl refl; line = line_is; answer_is = answer_is }
    by others true (inr (inr more)) = later (others more)
    by others false h = later (others h)

-- the text tells the answers of these lines
abbrev pub Telling : List ℕ → List Ans → Type 0
Telling text all = (number : ℕ) (shown : List (List ℕ)) → Says text number shown → (a : Ans) → Has all a → a.line ≡ number → words (answer_text a.answer) ≡ shown

pub telling : (e : List Entry) (all : List Ans) (n : ℕ) → AreNumbered n all → ((lane : ℕ) → marks_of lane e ≡ ans_marks lane all) → ((a : Ans) → Has all a → a.line < 2 ^ 64)
    → Telling (transcript e) all
telling e all n num marks small number shown s a has line_is =
    let t : Told e number shown = told e (λ lane line answer c. let x = found lane line answer c in subst (λ (k : ℕ). k < 2 ^ 64) x.line (small x.one x.has)) number shown s in
    let x : Answering all number t.answer = found t.lane number t.answer t.has in
    let same : a ≡ x.one = has-one n all a x.one num has x.has (line_is ∙ sym x.line) in
    ap (λ (z : Ans). words (answer_text z.answer)) same ∙ ap (λ (z : Answer). words (answer_text z)) x.answer_is ∙ t.is
  where
    found : (lane line : ℕ) (answer : Answer) → Contains e (Answered lane line answer) → Answering all line answer
    found lane line answer c =
        ans-among lane lane line answer all (subst (λ (m : List Entry). Among m (Answered lane line answer)) (marks lane)
        (marks-among lane e (Answered lane line answer) (answered-own lane line answer) (among e (Answered lane line answer) c)))

-- a value shows these bytes
pub record ShowsBytes (value : Value) (bytes : List ℕ) : Type 0 where
  pub shown : List (List ℕ)
  pub words_are : words (codes "ok" ++ value_text value) ≡ codes "ok" ∷ shown
  pub are : bytes_of shown ≡ Some bytes

pub record DidWell (a : Ans) : Type 0 where
  pub value : Value
  pub is : a.answer ≡ answers.Done value

pub record DidRead (a : Ans) (bytes : List ℕ) : Type 0 where
  pub value : Value
  pub is : a.answer ≡ answers.Done value
  pub shows : ShowsBytes value bytes

pub did-well : (text : List ℕ) (all : List Ans) (a : Ans) → Telling text all → Has all a → IsOk text a.line → DidWell a
did-well text all a tell has ok =
    let s = succeeds a.answer ok.shown (tell a.line (codes "ok" ∷ ok.shown) ok.says a has refl) in
    record { value = s.value; is = s.is }

pub did-read : (text : List ℕ) (all : List Ans) (a : Ans) (bytes : List ℕ) → Telling text all → Has all a → IsRead text a.line bytes → DidRead a bytes
did-read text all a bytes tell has r =
    let s = succeeds a.answer r.shown (tell a.line (codes "ok" ∷ r.shown) r.says a has refl) in
    record { value = s.value; is = s.is; shows = record { shown = r.shown; words_are = s.words_are; are = r.are } }
