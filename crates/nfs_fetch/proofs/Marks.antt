-- The marks of a lane while a script is run are operations that began and were answered, one after another.
use Rattle.std.proofs.Common.{◌≡◌, ◌<◌, ℕ, List, [], ◌∷◌, ◌++◌, length, Bool, true, false, cond, nat_eq, refl, sym, ap, subst, ◌∙◌, append_assoc}
use Rattle.std.proofs.lemmas.Bool.{eqb-true}
use Rattle.world_model.specs.declared.answer.Answer.{Answer}
use Rattle.world_model.specs.declared.entry.Entry.{Entry}
use Rattle.world_model.specs.declared.entry.Entry.TheVariants.{Began, Answered}
use Rattle.world_model.specs.declared.op.Op.{Op}
use Rattle.world_model.specs.Entries.{At}
use Rattle.world_model.specs.Follows.{Alternates, answered, begun, busy, marks_of, none}
use Rattle.world_model.specs.Operations.{AnsweredBefore}
use Rattle.world_model.proofs.Places.{At-one}
use Rattle.law_copies.proofs.Marks.{AreOwn, IsOwn, Stands, answered-own, apart, began-own, begun-cons, begun-marks, marks-cons, marks-own, stands}

-- ---- lists of entries

pub marks-append : (lane : ℕ) (h k : List Entry) → marks_of lane (h ++ k) ≡ marks_of lane h ++ marks_of lane k
marks-append lane [] k = refl
marks-append lane (e ∷ h) k =
    marks-cons lane e (h ++ k)
    ∙ ap (λ (t : List Entry). marks_of lane (e ∷ []) ++ t) (marks-append lane h k)
    ∙ sym (append_assoc (marks_of lane (e ∷ [])) (marks_of lane h) (marks_of lane k))
    ∙ ap (λ (t : List Entry). t ++ marks_of lane k) (sym (marks-cons lane e h))

pub begun-append : (lane : ℕ) (h k : List Entry) → begun lane (h ++ k) ≡ begun lane h ++ begun lane k
begun-append lane [] k = refl
begun-append lane (e ∷ h) k =
    begun-cons lane e (h ++ k)
    ∙ ap (λ (t : List Entry). begun lane (e ∷ []) ++ t) (begun-append lane h k)
    ∙ sym (append_assoc (begun lane (e ∷ [])) (begun lane h) (begun lane k))
    ∙ ap (λ (t : List Entry). t ++ begun lane k) (sym (begun-cons lane e h))

pub same-rest : {T : Type 0} → (xs ys zs : List T) → xs ++ ys ≡ xs ++ zs → ys ≡ zs
same-rest [] ys zs e = e
same-rest (x ∷ xs) ys zs e = same-rest xs ys zs (let tail : xs ++ ys ≡ xs ++ zs = cc in tail)

-- ---- marks that are all answered

-- an operation of a lane, and its answer
pub record Pair : Type 0 where
  pub line : ℕ
  pub op : Op
  pub answer : Answer

abbrev pub pair_marks : ℕ → List Pair → List Entry
pair_marks lane [] = []
pair_marks lane (p ∷ ps) = Began lane p.line p.op ∷ Answered lane p.line p.answer ∷ pair_marks lane ps

abbrev pub pair_begins : ℕ → List Pair → List Entry
pair_begins lane [] = []
pair_begins lane (p ∷ ps) = Began lane p.line p.op ∷ pair_begins lane ps

pub record ArePaired (lane : ℕ) (marks : List Entry) : Type 0 where
  pub pairs : List Pair
  pub is : marks ≡ pair_marks lane pairs

-- no mark at the end begins an operation
abbrev pub IsAtRest : List Entry → Type 0
IsAtRest marks = (front : List Entry) (lane line : ℕ) (op : Op) → marks ≡ front ++ Began lane line op ∷ [] → ⊥

rest-behind : (a b : Entry) (m : List Entry) → IsAtRest (a ∷ b ∷ m) → IsAtRest m
rest-behind a b m rest front lane line op e = rest (a ∷ b ∷ front) lane line op (ap (λ (t : List Entry). a ∷ b ∷ t) e)

rest-back : (m q : List Entry) → IsAtRest (m ++ q) → IsAtRest q
rest-back m q rest front lane line op e = rest (m ++ front) lane line op (ap (λ (t : List Entry). m ++ t) e ∙ sym (append_assoc m front (Began lane line op ∷ [])))

began-lane : (lane other line : ℕ) (op : Op) → IsOwn lane (Began other line op) → other ≡ lane
began-lane lane other line op own = eqb-true other lane (on (nat_eq other lane) own)
  where
    on : (b : Bool) → cond b (Began other line op ∷ []) [] ≡ Began other line op ∷ [] → b ≡ true
    on true e = refl
    on false e = absurd cc

front-pairs : (lane : ℕ) (all q r : List Entry) → Alternates all → all ≡ q ++ r → AreOwn lane q → IsAtRest q → ArePaired lane q
front-pairs lane all [] r a is own rest = record { pairs = []; is = refl }
front-pairs lane all (x ∷ q) r (none _ e) is own rest = absurd (let no_way : [] ≡ x ∷ (q ++ r) = sym e ∙ is in cc)
front-pairs lane all (x ∷ []) r (busy _ l n op e) is own rest =
    absurd (rest [] l n op (ap (λ (z : Entry). z ∷ []) (let head : x ≡ Began l n op = (let both : Began l n op ∷ [] ≡ x ∷ r = sym e ∙ is in cc) in head)))
front-pairs lane all (x ∷ y ∷ q) r (busy _ l n op e) is own rest =
    absurd (let no_way : [] ≡ y ∷ (q ++ r) = (let both : Began l n op ∷ [] ≡ x ∷ (y ∷ (q ++ r)) = sym e ∙ is in cc) in cc)
front-pairs lane all (x ∷ []) r (answered _ more l n op answer e a) is own rest =
    absurd (rest [] l n op (ap (λ (z : Entry). z ∷ []) (let head : x ≡ Began l n op = (let both : Began l n op ∷ Answered l n answer ∷ more ≡ x ∷ r = sym e ∙ is in cc) in head)))
front-pairs lane all (x ∷ y ∷ q) r (answered _ more l n op answer e a) is own rest =
    let both : Began l n op ∷ Answered l n answer ∷ more ≡ x ∷ (y ∷ (q ++ r)) = sym e ∙ is in
    let head : x ≡ Began l n op = cc in
    let next : y ≡ Answered l n answer = cc in
    let tail : more ≡ q ++ r = cc in
    let same : l ≡ lane = began-lane lane l n op (subst (IsOwn lane) head own.0) in
    let p : ArePaired lane q = front-pairs lane more q r a tail own.1.1 (rest-behind x y q rest) in
    record {
      pairs = record { line = n; op = op; answer = answer } ∷ p.pairs;
      is = ap (λ (z : Entry). z ∷ y ∷ q) head
          ∙ ap (λ (z : Entry). Began l n op ∷ z ∷ q) next
          ∙ ap (λ (t : List Entry). Began l n op ∷ Answered l n answer ∷ t) p.is
          ∙ ap (λ (k : ℕ). Began k n op ∷ Answered k n answer ∷ pair_marks lane p.pairs) same;
    }

middle-pairs : (lane : ℕ) (all m q r : List Entry) → Alternates all → all ≡ m ++ (q ++ r) → IsAtRest m → AreOwn lane q → IsAtRest q → ArePaired lane q
middle-pairs lane all m [] r a is before own rest = record { pairs = []; is = refl }
middle-pairs lane all [] (x ∷ q) r a is before own rest = front-pairs lane all (x ∷ q) r a is own rest
middle-pairs lane all (e1 ∷ m) (x ∷ q) r (none _ e) is before own rest = absurd (let no_way : [] ≡ e1 ∷ (m ++ (x ∷ (q ++ r))) = sym e ∙ is in cc)
middle-pairs lane all (e1 ∷ []) (x ∷ q) r (busy _ l n op e) is before own rest =
    absurd (let no_way : [] ≡ x ∷ (q ++ r) = (let both : Began l n op ∷ [] ≡ e1 ∷ (x ∷ (q ++ r)) = sym e ∙ is in cc) in cc)
middle-pairs lane all (e1 ∷ e2 ∷ m) (x ∷ q) r (busy _ l n op e) is before own rest =
    absurd (let no_way : [] ≡ e2 ∷ (m ++ (x ∷ (q ++ r))) = (let both : Began l n op ∷ [] ≡ e1 ∷ (e2 ∷ (m ++ (x ∷ (q ++ r)))) = sym e ∙ is in cc) in cc)
middle-pairs lane all (e1 ∷ []) (x ∷ q) r (answered _ more l n op answer e a) is before own rest =
    absurd (before [] l n op (ap (λ (z : Entry). z ∷ []) (let head : e1 ≡ Began l n op = (let both : Began l n op ∷ Answered l n answer ∷ more ≡ e1 ∷ (x ∷ (q ++ r)) = sym e ∙ is in cc) in head)))
middle-pairs lane all (e1 ∷ e2 ∷ m) (x ∷ q) r (answered _ more l n op answer e a) is before own rest =
    middle-pairs lane more m (x ∷ q) r a
    (let tail : more ≡ m ++ (x ∷ (q ++ r)) = (let both : Began l n op ∷ Answered l n answer ∷ more ≡ e1 ∷ (e2 ∷ (m ++ (x ∷ (q ++ r)))) = sym e ∙ is in cc) in tail)
    (rest-behind e1 e2 m before) own rest

-- ---- a history in which each operation was answered

-- each operation that began was answered
abbrev pub AllAnswered : List Entry → Type 0
AllAnswered h = (x lane line : ℕ) (op : Op) → At h x (Began lane line op) → AnsweredBefore h x (length h)

own-lane : (lane other line : ℕ) (op : Op) (h : List Entry) (x : ℕ) → At h x (Began other line op) → IsOwn lane (Began other line op) → AnsweredBefore h x (length h)
    → ((y : ℕ) (answer : Answer) (l : ℕ) → At h y (Answered l line answer) → x < y → IsOwn lane (Answered l line answer) → ⊥) → ⊥
own-lane lane other line op h x at own a silent =
    let same : Began a.lane a.ended.line a.op ≡ Began other line op = At-one h x _ _ a.ended.began at in
    by a.lane a.ended.line a.op same a.ended.answered
  where
    by : (l n : ℕ) (o : Op) → Began l n o ≡ Began other line op → At h a.y (Answered l n a.answer) → ⊥
    by l n o same got =
        let lanes : l ≡ other = cc in
        let lines : n ≡ line = cc in
        let mine : l ≡ lane = lanes ∙ began-lane lane other line op own in
        silent a.y a.answer l (subst (λ (k : ℕ). At h a.y (Answered l k a.answer)) lines got) a.ended.later
        (subst (λ (k : ℕ). IsOwn lane (Answered k line a.answer)) (sym mine) (answered-own lane line a.answer))

at-rest : (lane : ℕ) (h : List Entry) → AllAnswered h → IsAtRest (marks_of lane h)
at-rest lane h all front other line op is =
    let s : Stands lane h (Began other line op) [] = stands lane h front (Began other line op) [] is in
    let own : IsOwn lane (Began other line op) = last-own front (subst (AreOwn lane) is (marks-own lane h)) in
    own-lane lane other line op h s.place s.at own (all s.place other line op s.at)
    (λ y answer l got later mine. apart lane (Answered l line answer) mine (s.none refl y (Answered l line answer) got later))
  where
    last-own : (f : List Entry) → AreOwn lane (f ++ Began other line op ∷ []) → IsOwn lane (Began other line op)
    last-own [] o = o.0
    last-own (e ∷ f) o = last-own f o.1

-- while a part of the history was made, before and after which each operation is answered
pub part-pairs : (lane : ℕ) (h e more : List Entry) → Alternates (marks_of lane (h ++ (e ++ more))) → AllAnswered h → AllAnswered (h ++ e) → ArePaired lane (marks_of lane e)
part-pairs lane h e more a before after =
    let split : marks_of lane (h ++ (e ++ more)) ≡ marks_of lane h ++ (marks_of lane e ++ marks_of lane more) =
    marks-append lane h (e ++ more) ∙ ap (λ (t : List Entry). marks_of lane h ++ t) (marks-append lane e more) in
    middle-pairs lane _ (marks_of lane h) (marks_of lane e) (marks_of lane more) a split (at-rest lane h before) (marks-own lane e)
    (rest-back (marks_of lane h) (marks_of lane e) (subst IsAtRest (marks-append lane h e) (at-rest lane (h ++ e) after)))

-- what they begin
begun-pairs : (lane : ℕ) (ps : List Pair) → begun lane (pair_marks lane ps) ≡ pair_begins lane ps
begun-pairs lane [] = refl
begun-pairs lane (p ∷ ps) =
    begun-cons lane (Began lane p.line p.op) (Answered lane p.line p.answer ∷ pair_marks lane ps)
    ∙ ap (λ (t : List Entry). t ++ begun lane (pair_marks lane ps)) (let own : begun lane (Began lane p.line p.op ∷ []) ≡ Began lane p.line p.op ∷ [] = began-own lane p.line p.op in own)
    ∙ ap (λ (t : List Entry). Began lane p.line p.op ∷ t) (begun-pairs lane ps)

pub paired-begins : (lane : ℕ) (e : List Entry) (p : ArePaired lane (marks_of lane e)) → begun lane e ≡ pair_begins lane p.pairs
paired-begins lane e p = sym (begun-marks lane e) ∙ ap (begun lane) p.is ∙ begun-pairs lane p.pairs
