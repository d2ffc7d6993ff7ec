-- Where the operations of a lane that did all that it was asked for began and were answered.
use Rattle.std.proofs.Common.{◌≡◌, ◌<◌, ◌≤◌, ◌⊎◌, inl, inr, ℕ, zero, suc, List, [], ◌∷◌, ◌++◌, drop, sym, ap, subst, ◌∙◌, arith}
use Rattle.std.proofs.lemmas.Bool.{cases_lt}
use Rattle.world_model.specs.declared.answer.Answer.{Answer}
use Rattle.world_model.specs.declared.answer.Answer.TheVariants as answers
use Rattle.world_model.specs.declared.entry.Entry.{Entry}
use Rattle.world_model.specs.declared.entry.Entry.TheVariants.{Began, Answered}
use Rattle.world_model.specs.declared.op.Op.{Op}
use Rattle.world_model.specs.Entries.{At}
use Rattle.world_model.specs.Follows.{marks_of}
use Rattle.world_model.specs.Operations.{Ended}
use Rattle.world_model.proofs.Places.{At-one}
use Rattle.law_copies.specs.Copied.{Done, done_marks}
use Rattle.law_copies.proofs.Marks.{IsOwn, IsSilent, answered-own, apart, began-own, marks-cons, own-or-silent}

-- ---- the first mark from a place on

-- from one place up to another each entry is silent
abbrev pub AreSilent : ℕ → List Entry → ℕ → ℕ → Type 0
AreSilent lane h from to = (j : ℕ) (d : Entry) → At h j d → from ≤ j → j < to → IsSilent lane d

pub record FirstFrom (lane : ℕ) (h : List Entry) (from : ℕ) (e : Entry) (rest : List Entry) : Type 0 where
  pub place : ℕ
  pub late : from ≤ place
  pub at : At h place e
  pub before : AreSilent lane h from place
  pub behind : marks_of lane (drop (suc place) h) ≡ rest

pub first-from : (lane : ℕ) (h : List Entry) (from : ℕ) (e : Entry) (rest : List Entry) → marks_of lane (drop from h) ≡ e ∷ rest → FirstFrom lane h from e rest
first-from lane [] zero e rest is = absurd cc
first-from lane [] (suc from) e rest is = absurd cc
first-from lane (d ∷ h) (suc from) e rest is = next (first-from lane h from e rest is)
  where
    next : FirstFrom lane h from e rest → FirstFrom lane (d ∷ h) (suc from) e rest
    next f = record {
      place = suc f.place;
      late = let l = f.late in omega (arith, l);
      at = f.at;
      before = λ j c at late soon. by j c at late soon;
      behind = f.behind;
    }
      where
        by : (j : ℕ) (c : Entry) → At (d ∷ h) j c → suc from ≤ j → j < suc f.place → IsSilent lane c
        by zero c at late soon = absurd (omega (arith, late))
        by (suc j) c at late soon = f.before j c at (omega (arith, late)) (omega (arith, soon))
first-from lane (d ∷ h) zero e rest is = by (λ behind. first-from lane h zero e rest behind) (own-or-silent lane d)
  where
    whole : marks_of lane (d ∷ []) ++ marks_of lane h ≡ e ∷ rest
    whole = sym (marks-cons lane d h) ∙ is

    here : d ∷ marks_of lane h ≡ e ∷ rest → FirstFrom lane (d ∷ h) zero e rest
    here same = record {
      place = zero;
      late = omega arith;
      at = cc;
      before = λ j c at late soon. absurd (omega (arith, soon));
      behind = let more : marks_of lane h ≡ rest = cc in more;
    }

    later : IsSilent lane d → FirstFrom lane h zero e rest → FirstFrom lane (d ∷ h) zero e rest
    later silent f = record {
      place = suc f.place;
      late = omega arith;
      at = f.at;
      before = λ j c at late soon. each j c at soon;
      behind = f.behind;
    }
      where
        each : (j : ℕ) (c : Entry) → At (d ∷ h) j c → j < suc f.place → IsSilent lane c
        each zero c at soon = subst (IsSilent lane) (let is : d ≡ c = cc in is) silent
        each (suc j) c at soon = f.before j c at (omega arith) (omega (arith, soon))

    by : (marks_of lane h ≡ e ∷ rest → FirstFrom lane h zero e rest) → IsOwn lane d ⊎ IsSilent lane d → FirstFrom lane (d ∷ h) zero e rest
    by more (inl own) = here (sym (ap (λ (t : List Entry). t ++ marks_of lane h) own) ∙ whole)
    by more (inr silent) = later silent (more (sym (ap (λ (t : List Entry). t ++ marks_of lane h) silent) ∙ whole))

-- ---- the operations one after the other

-- from a place on the lane's next operation is this one
pub record Stepped (lane : ℕ) (h : List Entry) (from : ℕ) (d : Done) : Type 0 where
  pub x : ℕ
  pub y : ℕ
  pub late : from ≤ x
  pub later : x < y
  pub began : At h x (Began lane d.line d.op)
  pub answered : At h y (Answered lane d.line (answers.Done d.value))
  pub before : AreSilent lane h from x
  pub between : AreSilent lane h (suc x) y

-- from a place on the lane's operations are these
abbrev pub Places : ℕ → List Entry → ℕ → List Done → Type 0
Places lane h from [] = Unit {0}
Places lane h from (d ∷ ds) = (s : Stepped lane h from d) × Places lane h (suc s.y) ds

pub places : (lane : ℕ) (h : List Entry) (from : ℕ) (ds : List Done) → marks_of lane (drop from h) ≡ done_marks lane ds → Places lane h from ds
places lane h from [] is = tt
places lane h from (d ∷ ds) is =
    let f : FirstFrom lane h from (Began lane d.line d.op) (Answered lane d.line (answers.Done d.value) ∷ done_marks lane ds) =
    first-from lane h from (Began lane d.line d.op) (Answered lane d.line (answers.Done d.value) ∷ done_marks lane ds) is in
    let g : FirstFrom lane h (suc f.place) (Answered lane d.line (answers.Done d.value)) (done_marks lane ds) =
    first-from lane h (suc f.place) (Answered lane d.line (answers.Done d.value)) (done_marks lane ds) f.behind in (
      record {
        x = f.place;
        y = g.place;
        late = f.late;
        later = let l = g.late in omega (arith, l);
        began = f.at;
        answered = g.at;
        before = f.before;
        between = g.before;
      },
      places lane h (suc g.place) ds g.behind,
    )

module _ (lane : ℕ) (h : List Entry) (from : ℕ) (d : Done) (s : Stepped lane h from d) where
  -- it ended where its answer stands
  pub ended : Ended h lane s.x d.op s.y (answers.Done d.value)
  ended = record {
    line = d.line;
    began = s.began;
    answered = s.answered;
    later = s.later;
    first = λ j a at after. elim (cases_lt j s.y) [
      | inl soon ↦ absurd (apart lane (Answered lane d.line a) (answered-own lane d.line a) (s.between j (Answered lane d.line a) at (omega (arith, after)) soon))
      | inr late ↦ omega (arith, late)
    ];
  }

  -- a beginning of the lane in between is this one's
  pub began-here : (c line : ℕ) (op : Op) → At h c (Began lane line op) → from ≤ c → c < s.y → c ≡ s.x
  began-here c line op at late soon = elim (cases_lt c s.x) [
    | inl early ↦ absurd (apart lane (Began lane line op) (began-own lane line op) (s.before c (Began lane line op) at late early))
    | inr not_early ↦ elim (cases_lt s.x c) [
      | inl past ↦ absurd (apart lane (Began lane line op) (began-own lane line op) (s.between c (Began lane line op) at (omega (arith, past)) soon))
      | inr not_past ↦ omega (arith, not_early, not_past)
    ]
  ]

  -- and an answer of it
  pub answered-here : (k line : ℕ) (a : Answer) → At h k (Answered lane line a) → from ≤ k → k < suc s.y → k ≡ s.y
  answered-here k line a at late soon = elim (cases_lt k s.x) [
    | inl early ↦ absurd (apart lane (Answered lane line a) (answered-own lane line a) (s.before k (Answered lane line a) at late early))
    | inr not_early ↦ elim (cases_lt s.x k) [
      | inl past ↦ elim (cases_lt k s.y) [
        | inl inside ↦ absurd (apart lane (Answered lane line a) (answered-own lane line a) (s.between k (Answered lane line a) at (omega (arith, past)) inside))
        | inr not_inside ↦ omega (arith, not_inside, soon)
      ]
      | inr not_past ↦
          let same : k ≡ s.x = omega (arith, not_early, not_past) in
          absurd (unlike line a d.line d.op (At-one h s.x (Answered lane line a) (Began lane d.line d.op) (subst (λ (n : ℕ). At h n (Answered lane line a)) same at) s.began))
    ]
  ]
    where
      unlike : (l : ℕ) (n : Answer) (m : ℕ) (op : Op) → Answered lane l n ≡ Began lane m op → ⊥
      unlike l n m op is = cc

-- ---- what was answered before a place

-- a line was answered between two places
pub record AnsweredWithin (lane : ℕ) (h : List Entry) (line from to : ℕ) : Type 0 where
  pub place : ℕ
  pub answer : Answer
  pub at : At h place (Answered lane line answer)
  pub after : from < place
  pub before : place < to

-- each operation of the lane that began before the place was answered before it
abbrev pub IsClosed : ℕ → List Entry → ℕ → Type 0
IsClosed lane h n = (c line : ℕ) (op : Op) → At h c (Began lane line op) → c < n → AnsweredWithin lane h line c n

pub closed-first : (lane : ℕ) (h : List Entry) → IsClosed lane h 0
closed-first lane h c line op at below = absurd (omega (arith, below))

began-line : (lane m n : ℕ) (a b : Op) → Began lane m a ≡ Began lane n b → m ≡ n
began-line lane m n a b e = cc

began-op : (lane m n : ℕ) (a b : Op) → Began lane m a ≡ Began lane n b → a ≡ b
began-op lane m n a b e = cc

module _ (lane : ℕ) (h : List Entry) (from : ℕ) (d : Done) (s : Stepped lane h from d) (closed : IsClosed lane h from) where
  pub closed-next : IsClosed lane h (suc s.y)
  closed-next c line op at below = elim (cases_lt c from) [
    | inl early ↦
        let a : AnsweredWithin lane h line c from = closed c line op at early in
        record {
          place = a.place;
          answer = a.answer;
          at = a.at;
          after = a.after;
          before = let b = a.before in let l = s.late in let m = s.later in omega (arith, b, l, m);
        }
    | inr late ↦ here (cases_lt c s.y) late
  ]
    where
      no-answer : (l : ℕ) (o : Op) (n : ℕ) (a : Answer) → Began lane l o ≡ Answered lane n a → ⊥
      no-answer l o n a is = cc

      here : (c < s.y) ⊎ (s.y ≤ c) → from ≤ c → AnsweredWithin lane h line c (suc s.y)
      here (inl soon) late =
          let same : c ≡ s.x = began-here lane h from d s c line op at (omega (arith, late)) soon in
          let one : Began lane line op ≡ Began lane d.line d.op = At-one h s.x _ _ (subst (λ (n : ℕ). At h n (Began lane line op)) same at) s.began in
          record {
            place = s.y;
            answer = answers.Done d.value;
            at = subst (λ (n : ℕ). At h s.y (Answered lane n (answers.Done d.value))) (sym (began-line lane line d.line op d.op one)) s.answered;
            after = let l = s.later in omega (arith, l, same);
            before = omega arith;
          }
      here (inr past) late =
          let same : c ≡ s.y = omega (arith, past, below) in
          absurd (no-answer line op d.line (answers.Done d.value) (At-one h s.y _ _ (subst (λ (n : ℕ). At h n (Began lane line op)) same at) s.answered))

  -- an operation of the lane that ended here is this one
  pub ended-here : (c k : ℕ) (op : Op) (a : Answer) → Ended h lane c op k a → from ≤ k → k < suc s.y → op ≡ d.op
  ended-here c k op a e late soon = elim (cases_lt c from) [
    | inl early ↦
        let w : AnsweredWithin lane h e.line c from = closed c e.line op e.began early in
        let least = e.first w.place w.answer w.at w.after in
        let b = w.before in
        absurd (omega (arith, least, b, late))
    | inr not_early ↦
        let at_end : k ≡ s.y = answered-here lane h from d s k e.line a e.answered late soon in
        let l = e.later in
        let same : c ≡ s.x = began-here lane h from d s c e.line op e.began (omega (arith, not_early)) (omega (arith, l, at_end)) in
        began-op lane e.line d.line op d.op (At-one h s.x _ _ (subst (λ (n : ℕ). At h n (Began lane e.line op)) same e.began) s.began)
  ]
