-- The lines of a script with their answers.
use Rattle.std.proofs.Common.{◌≡◌, ◌≤◌, ◌⊎◌, inl, inr, ℕ, suc, List, [], ◌∷◌, ◌++◌, Bool, true, false, cond, nat_eq, refl, sym, ap, subst, ◌∙◌, arith, eq-eqb}
use Rattle.std.proofs.lemmas.Bool.{eqb-true}
use Rattle.world_model.specs.declared.answer.Answer.{Answer}
use Rattle.world_model.specs.declared.answer.Answer.TheVariants as answers
use Rattle.world_model.specs.declared.entry.Entry.{Entry}
use Rattle.world_model.specs.declared.entry.Entry.TheVariants.{Began, Answered}
use Rattle.world_model.specs.declared.op.Op.{Op}
use Rattle.world_model.specs.Follows.{begun}
use Rattle.nfs_script.specs.declared.script.ScriptLine.{ScriptLine}
use Rattle.law_copies.specs.Copied.{Done, done_marks}
use Rattle.lane_session.specs.Endings.{entries_of}
use Rattle.nfs_fetch.proofs.Marks.{Pair, pair_begins, pair_marks}

-- a line and its answer
pub record Ans : Type 0 where
  pub lane : ℕ
  pub line : ℕ
  pub op : Op
  pub answer : Answer

abbrev pub lines_of : List Ans → List ScriptLine
lines_of [] = []
lines_of (a ∷ all) = record { lane = a.lane; line = a.line; op = a.op } ∷ lines_of all

abbrev pub ans_marks : ℕ → List Ans → List Entry
ans_marks lane [] = []
ans_marks lane (a ∷ all) = cond (nat_eq a.lane lane) (Began a.lane a.line a.op ∷ Answered a.lane a.line a.answer ∷ ans_marks lane all) (ans_marks lane all)

pub record Woven (lines : List ScriptLine) (rem : ℕ → List Pair) : Type 0 where
  pub all : List Ans
  pub lines_are : lines_of all ≡ lines
  pub marks : (lane : ℕ) → ans_marks lane all ≡ pair_marks lane (rem lane)

no-pairs : (lane : ℕ) (ps : List Pair) → [] ≡ pair_begins lane ps → [] ≡ pair_marks lane ps
no-pairs lane [] e = refl
no-pairs lane (p ∷ ps) e = absurd cc

-- the lines of each lane have their pairs
pub weave : (lines : List ScriptLine) (rem : ℕ → List Pair) → ((lane : ℕ) → begun lane (entries_of lines) ≡ pair_begins lane (rem lane)) → Woven lines rem
weave [] rem h = record { all = []; lines_are = refl; marks = λ lane. no-pairs lane (rem lane) (h lane) }
weave (l ∷ lines) rem h = by (λ left has. weave lines left has) (rem l.lane) refl mine
  where
    mine : Began l.lane l.line l.op ∷ begun l.lane (entries_of lines) ≡ pair_begins l.lane (rem l.lane)
    mine =
        ap (λ (b : Bool). cond b (Began l.lane l.line l.op ∷ begun l.lane (entries_of lines)) (begun l.lane (entries_of lines))) (sym (eq-eqb l.lane l.lane refl)) ∙ h l.lane

    by : ((left : ℕ → List Pair) → ((lane : ℕ) → begun lane (entries_of lines) ≡ pair_begins lane (left lane)) → Woven lines left) → (ps : List Pair) → rem l.lane ≡ ps
        → Began l.lane l.line l.op ∷ begun l.lane (entries_of lines) ≡ pair_begins l.lane (rem l.lane) → Woven (l ∷ lines) rem
    by others [] e m = absurd (let no_way : Began l.lane l.line l.op ∷ begun l.lane (entries_of lines) ≡ [] = m ∙ ap (pair_begins l.lane) e in cc)
    by others (p ∷ ps) e m =
        let both : Began l.lane l.line l.op ∷ begun l.lane (entries_of lines) ≡ Began l.lane p.line p.op ∷ pair_begins l.lane ps = m ∙ ap (pair_begins l.lane) e in
        let head : Began l.lane l.line l.op ≡ Began l.lane p.line p.op = cc in
        let tail : begun l.lane (entries_of lines) ≡ pair_begins l.lane ps = cc in
        let w : Woven lines (λ (lane : ℕ). cond (nat_eq l.lane lane) ps (rem lane)) =
        others (λ (lane : ℕ). cond (nat_eq l.lane lane) ps (rem lane)) (λ lane. left lane (nat_eq l.lane lane) refl tail) in
        record {
          all = record { lane = l.lane; line = l.line; op = l.op; answer = p.answer } ∷ w.all;
          lines_are = ap (λ (t : List ScriptLine). l ∷ t) w.lines_are;
          marks = λ lane. own lane (ans_marks lane w.all) (w.marks lane) (nat_eq l.lane lane) refl head;
        }
      where
        left : (lane : ℕ) (b : Bool) → nat_eq l.lane lane ≡ b → begun l.lane (entries_of lines) ≡ pair_begins l.lane ps
            → begun lane (entries_of lines) ≡ pair_begins lane (cond (nat_eq l.lane lane) ps (rem lane))
        left lane true same tail =
            let one : l.lane ≡ lane = eqb-true l.lane lane same in
            subst (λ (k : ℕ). begun k (entries_of lines) ≡ pair_begins k ps) one tail ∙ ap (λ (b : Bool). pair_begins lane (cond b ps (rem lane))) (sym same)
        left lane false other tail =
            ap (λ (b : Bool). cond b (Began l.lane l.line l.op ∷ begun lane (entries_of lines)) (begun lane (entries_of lines))) (sym other) ∙ h lane
            ∙ ap (λ (b : Bool). pair_begins lane (cond b ps (rem lane))) (sym other)

        own : (lane : ℕ) (marks : List Entry) → marks ≡ pair_marks lane (cond (nat_eq l.lane lane) ps (rem lane)) → (b : Bool) → nat_eq l.lane lane ≡ b
            → Began l.lane l.line l.op ≡ Began l.lane p.line p.op
            → cond (nat_eq l.lane lane) (Began l.lane l.line l.op ∷ Answered l.lane l.line p.answer ∷ marks) marks ≡ pair_marks lane (rem lane)
        own lane marks is true same head =
            let one : l.lane ≡ lane = eqb-true l.lane lane same in
            let line_is : l.line ≡ p.line = cc in
            let op_is : l.op ≡ p.op = cc in
            ap (λ (b : Bool). cond b (Began l.lane l.line l.op ∷ Answered l.lane l.line p.answer ∷ marks) marks) same
            ∙ ap (λ (t : List Entry). Began l.lane l.line l.op ∷ Answered l.lane l.line p.answer ∷ t) (is ∙ ap (λ (b : Bool). pair_marks lane (cond b ps (rem lane))) same)
            ∙ ap (λ (k : ℕ). Began l.lane k l.op ∷ Answered l.lane k p.answer ∷ pair_marks lane ps) line_is
            ∙ ap (λ (o : Op). Began l.lane p.line o ∷ Answered l.lane p.line p.answer ∷ pair_marks lane ps) op_is
            ∙ ap (λ (k : ℕ). Began k p.line p.op ∷ Answered k p.line p.answer ∷ pair_marks lane ps) one
            ∙ ap (pair_marks lane) (sym (sym (ap rem one) ∙ e))
        own lane marks is false other head =
            ap (λ (b : Bool). cond b (Began l.lane l.line l.op ∷ Answered l.lane l.line p.answer ∷ marks) marks) other
            ∙ is ∙ ap (λ (b : Bool). pair_marks lane (cond b ps (rem lane))) other

-- ---- one after another

pub ans-append : (lane : ℕ) (xs ys : List Ans) → ans_marks lane (xs ++ ys) ≡ ans_marks lane xs ++ ans_marks lane ys
ans-append lane [] ys = refl
ans-append lane (x ∷ xs) ys = by (nat_eq x.lane lane) (ans-append lane xs ys)
  where
    by : (b : Bool) → ans_marks lane (xs ++ ys) ≡ ans_marks lane xs ++ ans_marks lane ys
        → cond b (Began x.lane x.line x.op ∷ Answered x.lane x.line x.answer ∷ ans_marks lane (xs ++ ys)) (ans_marks lane (xs ++ ys))
        ≡ cond b (Began x.lane x.line x.op ∷ Answered x.lane x.line x.answer ∷ ans_marks lane xs) (ans_marks lane xs) ++ ans_marks lane ys
    by true e = ap (λ (t : List Entry). Began x.lane x.line x.op ∷ Answered x.lane x.line x.answer ∷ t) e
    by false e = e

pub lines-append : (xs ys : List Ans) → lines_of (xs ++ ys) ≡ lines_of xs ++ lines_of ys
lines-append [] ys = refl
lines-append (x ∷ xs) ys = ap (λ (t : List ScriptLine). record { lane = x.lane; line = x.line; op = x.op } ∷ t) (lines-append xs ys)

-- lines with answers whose lines are one list and then another
pub record Split (all : List Ans) (xs ys : List ScriptLine) : Type 0 where
  pub first : List Ans
  pub second : List Ans
  pub is : all ≡ first ++ second
  pub front : lines_of first ≡ xs
  pub back : lines_of second ≡ ys

pub split : (all : List Ans) (xs ys : List ScriptLine) → lines_of all ≡ xs ++ ys → Split all xs ys
split all [] ys e = record { first = []; second = all; is = refl; front = refl; back = e }
split [] (x ∷ xs) ys e = absurd cc
split (a ∷ all) (x ∷ xs) ys e =
    let head : record { lane = a.lane; line = a.line; op = a.op } ≡ x = cc in
    let tail : lines_of all ≡ xs ++ ys = cc in
    let s : Split all xs ys = split all xs ys tail in
    record {
      first = a ∷ s.first;
      second = s.second;
      is = ap (λ (t : List Ans). a ∷ t) s.is;
      front = ap (λ (t : List ScriptLine). record { lane = a.lane; line = a.line; op = a.op } ∷ t) s.front ∙ ap (λ (z : ScriptLine). z ∷ xs) head;
      back = s.back;
    }

-- operations of a lane that succeeded
abbrev pub done_ans : ℕ → List Done → List Ans
done_ans lane [] = []
done_ans lane (d ∷ ds) = record { lane = lane; line = d.line; op = d.op; answer = answers.Done d.value } ∷ done_ans lane ds

pub done-ans : (lane : ℕ) (ds : List Done) → ans_marks lane (done_ans lane ds) ≡ done_marks lane ds
done-ans lane [] = refl
done-ans lane (d ∷ ds) =
    ap (λ (b : Bool). cond b (Began lane d.line d.op ∷ Answered lane d.line (answers.Done d.value) ∷ ans_marks lane (done_ans lane ds)) (ans_marks lane (done_ans lane ds))) (eq-eqb lane lane refl)
    ∙ ap (λ (t : List Entry). Began lane d.line d.op ∷ Answered lane d.line (answers.Done d.value) ∷ t) (done-ans lane ds)

pub done-snoc : (lane : ℕ) (ds : List Done) (d : Done) → done_ans lane (ds ++ d ∷ []) ≡ done_ans lane ds ++ record { lane = lane; line = d.line; op = d.op; answer = answers.Done d.value } ∷ []
done-snoc lane [] d = refl
done-snoc lane (x ∷ ds) d = ap (λ (t : List Ans). record { lane = lane; line = x.line; op = x.op; answer = answers.Done x.value } ∷ t) (done-snoc lane ds d)

-- ---- the number of a line tells the line

-- lines are numbered on
abbrev pub AreNumbered : ℕ → List Ans → Type 0
AreNumbered n [] = Unit {0}
AreNumbered n (a ∷ all) = (a.line ≡ n) × AreNumbered (suc n) all

-- one of them
abbrev pub Has : List Ans → Ans → Type 0
Has [] a = ⊥
Has (x ∷ all) a = (x ≡ a) ⊎ Has all a

has-least : (n : ℕ) (all : List Ans) (a : Ans) → AreNumbered n all → Has all a → n ≤ a.line
has-least n [] a num h = absurd h
has-least n (x ∷ all) a num (inl is) = omega (arith, num.0, ap (λ (z : Ans). z.line) is)
has-least n (x ∷ all) a num (inr later) = omega (arith, has-least (suc n) all a num.1 later)

pub has-one : (n : ℕ) (all : List Ans) (a b : Ans) → AreNumbered n all → Has all a → Has all b → a.line ≡ b.line → a ≡ b
has-one n [] a b num h k same = absurd h
has-one n (x ∷ all) a b num (inl is) (inl are) same = sym is ∙ are
has-one n (x ∷ all) a b num (inl is) (inr later) same =
    absurd (omega (arith, has-least (suc n) all b num.1 later, num.0, ap (λ (z : Ans). z.line) is, same))
has-one n (x ∷ all) a b num (inr later) (inl are) same =
    absurd (omega (arith, has-least (suc n) all a num.1 later, num.0, ap (λ (z : Ans). z.line) are, same))
has-one n (x ∷ all) a b num (inr h) (inr k) same = has-one (suc n) all a b num.1 h k same

pub has-back : (xs ys : List Ans) (a : Ans) → Has ys a → Has (xs ++ ys) a
has-back [] ys a h = h
has-back (x ∷ xs) ys a h = inr (has-back xs ys a h)
