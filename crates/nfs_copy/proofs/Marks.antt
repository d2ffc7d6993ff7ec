-- A lane for which a script has no line does nothing while that script is run.
use Rattle.std.proofs.Common.{◌≡◌, ◌<◌, ℕ, List, [], ◌∷◌, ◌++◌, length, Bool, true, false, cond, nat_eq, refl, sym, ap, subst, ◌∙◌, append_assoc}
use Rattle.std.proofs.lemmas.Bool.{eqb-true}
use Rattle.world_model.specs.declared.answer.Answer.{Answer}
use Rattle.world_model.specs.declared.entry.Entry.{Entry}
use Rattle.world_model.specs.declared.entry.Entry.TheVariants.{Began, Answered}
use Rattle.world_model.specs.declared.op.Op.{Op}
use Rattle.world_model.specs.Entries.{At}
use Rattle.world_model.specs.Follows.{Alternates, answered, begun, busy, marks_of, none}
use Rattle.world_model.specs.Operations.{AnsweredBefore}
use Rattle.world_model.proofs.Places.{At-one}
use Rattle.law_copies.proofs.Marks.{AreOwn, IsOwn, Stands, answered-own, apart, begun-cons, begun-marks, marks-cons, marks-own, none-silent, stands}

-- ---- lists of entries

pub marks-append : (lane : ℕ) (h k : List Entry) → marks_of lane (h ++ k) ≡ marks_of lane h ++ marks_of lane k
marks-append lane [] k = refl
marks-append lane (e ∷ h) k =
    marks-cons lane e (h ++ k)
    ∙ ap (λ (t : List Entry). marks_of lane (e ∷ []) ++ t) (marks-append lane h k)
    ∙ sym (append_assoc (marks_of lane (e ∷ [])) (marks_of lane h) (marks_of lane k))
    ∙ ap (λ (t : List Entry). t ++ marks_of lane k) (sym (marks-cons lane e h))

pub begun-append : (lane : ℕ) (h k : List Entry) → begun lane (h ++ k) ≡ begun lane h ++ begun lane k
begun-append lane [] k = refl
begun-append lane (e ∷ h) k =
    begun-cons lane e (h ++ k)
    ∙ ap (λ (t : List Entry). begun lane (e ∷ []) ++ t) (begun-append lane h k)
    ∙ sym (append_assoc (begun lane (e ∷ [])) (begun lane h) (begun lane k))
    ∙ ap (λ (t : List Entry). t ++ begun lane k) (sym (begun-cons lane e h))

pub same-rest : {T : Type 0} → (xs ys zs : List T) → xs ++ ys ≡ xs ++ zs → ys ≡ zs
same-rest [] ys zs e = e
same-rest (x ∷ xs) ys zs e = same-rest xs ys zs (let tail : xs ++ ys ≡ xs ++ zs = cc in tail)

-- ---- marks behind those that are all answered

-- no mark at the end begins an operation
abbrev pub IsAtRest : List Entry → Type 0
IsAtRest marks = (front : List Entry) (lane line : ℕ) (op : Op) → marks ≡ front ++ Began lane line op ∷ [] → ⊥

-- an entry that is a mark, and begins nothing
no-began : (lane other line : ℕ) (op : Op) (q : List Entry) → AreOwn lane (Began other line op ∷ q) → begun lane (Began other line op ∷ q) ≡ [] → ⊥
no-began lane other line op q own idle =
    let same : begun lane (Began other line op ∷ []) ≡ Began other line op ∷ [] = own.0 in
    let whole : Began other line op ∷ begun lane q ≡ [] =
    ap (λ (t : List Entry). t ++ begun lane q) (sym same) ∙ sym (begun-cons lane (Began other line op) q) ∙ idle in
    absurd cc

at-rest-behind : (a b : Entry) (m : List Entry) → IsAtRest (a ∷ b ∷ m) → IsAtRest m
at-rest-behind a b m rest front lane line op e = rest (a ∷ b ∷ front) lane line op (ap (λ (t : List Entry). a ∷ b ∷ t) e)

-- marks in the middle that begin nothing are none
idle-middle : (lane : ℕ) (all m q r : List Entry) → Alternates all → all ≡ m ++ (q ++ r) → IsAtRest m → AreOwn lane q → begun lane q ≡ [] → q ≡ []
idle-middle lane all m [] r a is rest own idle = refl
idle-middle lane all [] (x ∷ q) r (none _ e) is rest own idle = absurd (let no_way : [] ≡ x ∷ (q ++ r) = sym e ∙ is in cc)
idle-middle lane all [] (x ∷ q) r (busy _ l n op e) is rest own idle =
    absurd (first x (let head : x ≡ Began l n op = (let both : Began l n op ∷ [] ≡ x ∷ (q ++ r) = sym e ∙ is in cc) in head) own idle)
  where
    first : (y : Entry) → y ≡ Began l n op → AreOwn lane (y ∷ q) → begun lane (y ∷ q) ≡ [] → ⊥
    first y head o i = no-began lane l n op q (subst (λ (z : Entry). AreOwn lane (z ∷ q)) head o) (subst (λ (z : Entry). begun lane (z ∷ q) ≡ []) head i)
idle-middle lane all [] (x ∷ q) r (answered _ more l n op answer e a) is rest own idle =
    absurd (first x (let head : x ≡ Began l n op = (let both : Began l n op ∷ Answered l n answer ∷ more ≡ x ∷ (q ++ r) = sym e ∙ is in cc) in head) own idle)
  where
    first : (y : Entry) → y ≡ Began l n op → AreOwn lane (y ∷ q) → begun lane (y ∷ q) ≡ [] → ⊥
    first y head o i = no-began lane l n op q (subst (λ (z : Entry). AreOwn lane (z ∷ q)) head o) (subst (λ (z : Entry). begun lane (z ∷ q) ≡ []) head i)
idle-middle lane all (e1 ∷ m) (x ∷ q) r (none _ e) is rest own idle = absurd (let no_way : [] ≡ e1 ∷ (m ++ (x ∷ (q ++ r))) = sym e ∙ is in cc)
idle-middle lane all (e1 ∷ []) (x ∷ q) r (busy _ l n op e) is rest own idle =
    absurd (let no_way : [] ≡ x ∷ (q ++ r) = (let both : Began l n op ∷ [] ≡ e1 ∷ (x ∷ (q ++ r)) = sym e ∙ is in cc) in cc)
idle-middle lane all (e1 ∷ e2 ∷ m) (x ∷ q) r (busy _ l n op e) is rest own idle =
    absurd (let no_way : [] ≡ e2 ∷ (m ++ (x ∷ (q ++ r))) = (let both : Began l n op ∷ [] ≡ e1 ∷ (e2 ∷ (m ++ (x ∷ (q ++ r)))) = sym e ∙ is in cc) in cc)
idle-middle lane all (e1 ∷ []) (x ∷ q) r (answered _ more l n op answer e a) is rest own idle =
    absurd (rest [] l n op (ap (λ (z : Entry). z ∷ []) (let head : e1 ≡ Began l n op = (let both : Began l n op ∷ Answered l n answer ∷ more ≡ e1 ∷ (x ∷ (q ++ r)) = sym e ∙ is in cc) in head)))
idle-middle lane all (e1 ∷ e2 ∷ m) (x ∷ q) r (answered _ more l n op answer e a) is rest own idle =
    idle-middle lane more m (x ∷ q) r a (let tail : more ≡ m ++ (x ∷ (q ++ r)) = (let both : Began l n op ∷ Answered l n answer ∷ more ≡ e1 ∷ (e2 ∷ (m ++ (x ∷ (q ++ r)))) = sym e ∙ is in cc) in tail) (at-rest-behind e1 e2 m rest) own idle

-- ---- a history in which each operation was answered

-- each operation that began was answered
abbrev pub AllAnswered : List Entry → Type 0
AllAnswered h = (x lane line : ℕ) (op : Op) → At h x (Began lane line op) → AnsweredBefore h x (length h)

began-lane : (lane other line : ℕ) (op : Op) → IsOwn lane (Began other line op) → other ≡ lane
began-lane lane other line op own = eqb-true other lane (on (nat_eq other lane) own)
  where
    on : (b : Bool) → cond b (Began other line op ∷ []) [] ≡ Began other line op ∷ [] → b ≡ true
    on true e = refl
    on false e = absurd cc

own-lane : (lane other line : ℕ) (op : Op) (h : List Entry) (x : ℕ) → At h x (Began other line op) → IsOwn lane (Began other line op) → AnsweredBefore h x (length h)
    → ((y : ℕ) (answer : Answer) (l : ℕ) → At h y (Answered l line answer) → x < y → IsOwn lane (Answered l line answer) → ⊥) → ⊥
own-lane lane other line op h x at own a silent =
    let same : Began a.lane a.ended.line a.op ≡ Began other line op = At-one h x _ _ a.ended.began at in
    by a.lane a.ended.line a.op same a.ended.answered
  where
    by : (l n : ℕ) (o : Op) → Began l n o ≡ Began other line op → At h a.y (Answered l n a.answer) → ⊥
    by l n o same got =
        let lanes : l ≡ other = cc in
        let lines : n ≡ line = cc in
        let mine : l ≡ lane = lanes ∙ began-lane lane other line op own in
        silent a.y a.answer l (subst (λ (k : ℕ). At h a.y (Answered l k a.answer)) lines got) a.ended.later
        (subst (λ (k : ℕ). IsOwn lane (Answered k line a.answer)) (sym mine) (answered-own lane line a.answer))

pub at-rest : (lane : ℕ) (h : List Entry) → AllAnswered h → IsAtRest (marks_of lane h)
at-rest lane h all front other line op is =
    let s : Stands lane h (Began other line op) [] = stands lane h front (Began other line op) [] is in
    let own : IsOwn lane (Began other line op) = last-own front (subst (AreOwn lane) is (marks-own lane h)) in
    own-lane lane other line op h s.place s.at own (all s.place other line op s.at)
    (λ y answer l got later mine. apart lane (Answered l line answer) mine (s.none refl y (Answered l line answer) got later))
  where
    last-own : (f : List Entry) → AreOwn lane (f ++ Began other line op ∷ []) → IsOwn lane (Began other line op)
    last-own [] o = o.0
    last-own (e ∷ f) o = last-own f o.1

-- Of a history whose lanes alternate, the middle part begins nothing in this lane, and before it each operation was answered: then the lane has no answer in it.
pub none-answered : (lane : ℕ) (h e more : List Entry) → Alternates (marks_of lane (h ++ (e ++ more))) → AllAnswered h → begun lane e ≡ []
    → (i line : ℕ) (answer : Answer) → At e i (Answered lane line answer) → ⊥
none-answered lane h e more a all idle i line answer at =
    let split : marks_of lane (h ++ (e ++ more)) ≡ marks_of lane h ++ (marks_of lane e ++ marks_of lane more) =
    marks-append lane h (e ++ more) ∙ ap (λ (t : List Entry). marks_of lane h ++ t) (marks-append lane e more) in
    let empty : marks_of lane e ≡ [] =
    idle-middle lane _ (marks_of lane h) (marks_of lane e) (marks_of lane more) a split (at-rest lane h all) (marks-own lane e) (begun-marks lane e ∙ idle) in
    apart lane (Answered lane line answer) (answered-own lane line answer) (none-silent lane e empty i (Answered lane line answer) at)
