-- A lane whose lines all have their answers, none of them a refusal, did what it was asked for.
use Rattle.std.proofs.Common.{◌≡◌, ℕ, List, [], ◌∷◌, ◌++◌, length, map, Bool, true, false, cond, nat_eq, refl, sym, ap, subst, ◌∙◌}
use Rattle.std.proofs.lemmas.Bool.{eqb-true}
use Rattle.world_model.specs.declared.answer.Answer.{Answer}
use Rattle.world_model.specs.declared.answer.Answer.TheVariants as answers
use Rattle.world_model.specs.declared.answer.Fault.{Fault}
use Rattle.world_model.specs.declared.answer.Value.{Value}
use Rattle.world_model.specs.declared.entry.Entry.{Entry}
use Rattle.world_model.specs.declared.entry.Entry.TheVariants.{Began, Answered}
use Rattle.world_model.specs.declared.op.Op.{Op}
use Rattle.world_model.specs.Follows.{Alternates, Finishes, Follows, answered, begun, busy, marks_of, none}
use Rattle.world_model.specs.Operations.{AnsweredBefore}
use Rattle.world_model.proofs.Places.{At-one}
use Rattle.law_copies.specs.Copied.{AsksForCopy, AskedAreCopied, Copied, Done, NoneRefused, done_marks, laid, ops_of}
use Rattle.law_copies.proofs.Marks.{AreOwn, IsOwn, Stands, answered-own, apart, began-own, begun-cons, begun-marks, marks-own, stands}

-- ---- the marks of the lane

-- no mark at the end begins an operation
abbrev IsAtRest : ℕ → List Entry → Type 0
IsAtRest lane marks = (front : List Entry) (line : ℕ) (op : Op) → marks ≡ front ++ Began lane line op ∷ [] → ⊥

-- no mark is a refusal
abbrev HasNoRefusal : ℕ → List Entry → Type 0
HasNoRefusal lane marks = (front rest : List Entry) (line : ℕ) (fault : Fault) → marks ≡ front ++ Answered lane line (answers.Refused fault) ∷ rest → ⊥

-- marks that are operations which succeeded
record AreDone (lane : ℕ) (marks : List Entry) : Type 0 where
  pub done : List Done
  pub is : marks ≡ done_marks lane done

began-lane : (lane other line : ℕ) (op : Op) → IsOwn lane (Began other line op) → other ≡ lane
began-lane lane other line op own = eqb-true other lane (on (nat_eq other lane) own)
  where
    on : (b : Bool) → cond b (Began other line op ∷ []) [] ≡ Began other line op ∷ [] → b ≡ true
    on true e = refl
    on false e = absurd cc

one-more : (lane line : ℕ) (op : Op) (value : Value) (rest : List Entry) → AreDone lane rest
    → AreDone lane (Began lane line op ∷ Answered lane line (answers.Done value) ∷ rest)
one-more lane line op value rest a = record {
  done = record { line = line; op = op; value = value } ∷ a.done;
  is = ap (λ (t : List Entry). Began lane line op ∷ Answered lane line (answers.Done value) ∷ t) a.is;
}

are-done : (lane : ℕ) (marks : List Entry) → Alternates marks → AreOwn lane marks → IsAtRest lane marks → HasNoRefusal lane marks → AreDone lane marks
are-done lane _ (none marks is) own rest well = record { done = []; is = is }
are-done lane _ (busy marks other line op is) own rest well =
    let same : other ≡ lane = began-lane lane other line op (subst (AreOwn lane) is own).0 in
    absurd (rest [] line op (is ∙ ap (λ (l : ℕ). Began l line op ∷ []) same))
are-done lane _ (answered marks more other line op answer is a) own rest well =
    by (λ at_rest no_refusal. are-done lane more a (subst (AreOwn lane) is own).1.1 at_rest no_refusal) answer is
  where
    same : other ≡ lane
    same = began-lane lane other line op (subst (AreOwn lane) is own).0

    by : (IsAtRest lane more → HasNoRefusal lane more → AreDone lane more) → (n : Answer) → marks ≡ Began other line op ∷ Answered other line n ∷ more → AreDone lane marks
    by behind (answers.Refused fault) e =
        absurd (well (Began other line op ∷ []) more line fault (e ∙ ap (λ (l : ℕ). Began other line op ∷ Answered l line (answers.Refused fault) ∷ more) same))
    by behind (answers.Done value) e =
        let after : AreDone lane more = behind
        (λ front n o last. rest (Began other line op ∷ Answered other line (answers.Done value) ∷ front) n o
        (e ∙ ap (λ (t : List Entry). Began other line op ∷ Answered other line (answers.Done value) ∷ t) last))
        (λ front back n fault one. well (Began other line op ∷ Answered other line (answers.Done value) ∷ front) back n fault
        (e ∙ ap (λ (t : List Entry). Began other line op ∷ Answered other line (answers.Done value) ∷ t) one)) in
        let whole : marks ≡ Began lane line op ∷ Answered lane line (answers.Done value) ∷ more =
        e ∙ ap (λ (l : ℕ). Began l line op ∷ Answered l line (answers.Done value) ∷ more) same in
        subst (AreDone lane) (sym whole) (one-more lane line op value more after)

-- ---- what they begin

-- the entries that begin operations which succeeded
abbrev begins : ℕ → List Done → List Entry
begins lane [] = []
begins lane (d ∷ ds) = Began lane d.line d.op ∷ begins lane ds

begun-own : (lane line : ℕ) (op : Op) → begun lane (Began lane line op ∷ []) ≡ Began lane line op ∷ []
begun-own lane line op = began-own lane line op

begun-done : (lane : ℕ) (ds : List Done) → begun lane (done_marks lane ds) ≡ begins lane ds
begun-done lane [] = refl
begun-done lane (d ∷ ds) =
    begun-cons lane (Began lane d.line d.op) (Answered lane d.line (answers.Done d.value) ∷ done_marks lane ds)
    ∙ ap (λ (t : List Entry). t ++ begun lane (done_marks lane ds)) (begun-own lane d.line d.op)
    ∙ ap (λ (t : List Entry). Began lane d.line d.op ∷ t) (begun-done lane ds)

ops-begins : (lane : ℕ) (ds : List Done) → ops_of (begins lane ds) ≡ map (λ (d : Done). d.op) ds
ops-begins lane [] = refl
ops-begins lane (d ∷ ds) = ap (λ (t : List Op). d.op ∷ t) (ops-begins lane ds)

-- operations whose beginnings are one list and then another
record Parts (lane : ℕ) (ds : List Done) (xs ys : List Entry) : Type 0 where
  pub first : List Done
  pub second : List Done
  pub is : ds ≡ first ++ second
  pub front : begins lane first ≡ xs
  pub back : begins lane second ≡ ys

parts : (lane : ℕ) (ds : List Done) (xs ys : List Entry) → begins lane ds ≡ xs ++ ys → Parts lane ds xs ys
parts lane ds [] ys e = record { first = []; second = ds; is = refl; front = refl; back = e }
parts lane [] (x ∷ xs) ys e = absurd cc
parts lane (d ∷ ds) (x ∷ xs) ys e =
    let head : Began lane d.line d.op ≡ x = cc in
    let tail : begins lane ds ≡ xs ++ ys = cc in
    let p : Parts lane ds xs ys = parts lane ds xs ys tail in
    record {
      first = d ∷ p.first;
      second = p.second;
      is = ap (λ (t : List Done). d ∷ t) p.is;
      front = ap (λ (t : List Entry). Began lane d.line d.op ∷ t) p.front ∙ ap (λ (z : Entry). z ∷ xs) head;
      back = p.back;
    }

-- ---- the law

module _ (script h : List Entry) (f : Follows script h) (n : Finishes script h) (lane : ℕ) (well : NoneRefused h lane) where
  at-rest : IsAtRest lane (marks_of lane h)
  at-rest front line op is = late (n.answered s.place lane line op s.at)
    where
      s : Stands lane h (Began lane line op) []
      s = stands lane h front (Began lane line op) [] is

      of-lane : (l m : ℕ) (o : Op) → Began l m o ≡ Began lane line op → l ≡ lane
      of-lane l m o e = cc

      late : AnsweredBefore h s.place (length h) → ⊥
      late a =
          let same : a.lane ≡ lane = of-lane a.lane a.ended.line a.op (At-one h s.place _ _ a.ended.began s.at) in
          let own : IsOwn lane (Answered a.lane a.ended.line a.answer) =
          subst (λ (l : ℕ). IsOwn lane (Answered l a.ended.line a.answer)) (sym same) (answered-own lane a.ended.line a.answer) in
          apart lane (Answered a.lane a.ended.line a.answer) own (s.none refl a.y (Answered a.lane a.ended.line a.answer) a.ended.answered a.ended.later)

  no-refusal : HasNoRefusal lane (marks_of lane h)
  no-refusal front rest line fault is =
      let s : Stands lane h (Answered lane line (answers.Refused fault)) rest = stands lane h front (Answered lane line (answers.Refused fault)) rest is in
      well s.place line fault s.at

  lane-done : AreDone lane (marks_of lane h)
  lane-done = are-done lane (marks_of lane h) (f.alternates lane) (marks-own lane h) at-rest no-refusal

  begins-script : begins lane lane-done.done ≡ begun lane script
  begins-script = sym (begun-done lane lane-done.done) ∙ ap (begun lane) (sym lane-done.is) ∙ begun-marks lane h ∙ n.all lane

  copied : (path pieces : List (List ℕ)) → AsksForCopy script lane path pieces → Copied h path (laid pieces)
  copied path pieces a =
      let p : Parts lane lane-done.done a.before (a.own ++ a.after) = parts lane lane-done.done a.before (a.own ++ a.after) (begins-script ∙ a.is) in
      let q : Parts lane p.second a.own a.after = parts lane p.second a.own a.after p.back in
      record {
        lane = lane;
        pieces = pieces;
        whole = refl;
        earlier = p.first;
        done = q.first;
        later = q.second;
        did = sym (ops-begins lane q.first) ∙ ap ops_of q.front ∙ a.asks;
        marks = lane-done.is ∙ ap (done_marks lane) (p.is ∙ ap (λ (t : List Done). p.first ++ t) q.is);
      }

pub asked-are-copied : AskedAreCopied
asked-are-copied script h f n lane well path pieces a = copied script h f n lane well path pieces a
