-- Which entries of a history are marks of a lane, and where they stand.
use Rattle.std.proofs.Common.{◌≡◌, ◌<◌, ◌⊎◌, inl, inr, ℕ, zero, suc, List, [], ◌∷◌, ◌++◌, true, false, cond, nat_eq, refl, sym, ap, subst, ◌∙◌, arith, eq-eqb}
use Rattle.world_model.specs.declared.answer.Answer.{Answer}
use Rattle.world_model.specs.declared.entry.Entry.{Entry}
use Rattle.world_model.specs.declared.entry.Entry.TheVariants.{Began, Answered, Dialed, Sent, Executed, Foreign, Flushed, Reboot, Delivered, Failed, Clock}
use Rattle.world_model.specs.declared.op.Op.{Op}
use Rattle.world_model.specs.Entries.{At}
use Rattle.world_model.specs.Follows.{begun, marks_of}

-- ---- one entry at a time

pub marks-cons : (lane : ℕ) (e : Entry) (h : List Entry) → marks_of lane (e ∷ h) ≡ marks_of lane (e ∷ []) ++ marks_of lane h
marks-cons lane (Began l line op) h =
    elim (nat_eq l lane) as (λ b. cond b (Began l line op ∷ marks_of lane h) (marks_of lane h) ≡ cond b (Began l line op ∷ []) [] ++ marks_of lane h) [
      | true ↦ refl
      | false ↦ refl
    ]
marks-cons lane (Answered l line a) h =
    elim (nat_eq l lane) as (λ b. cond b (Answered l line a ∷ marks_of lane h) (marks_of lane h) ≡ cond b (Answered l line a ∷ []) [] ++ marks_of lane h) [
      | true ↦ refl
      | false ↦ refl
    ]
marks-cons lane (Dialed port) h = refl
marks-cons lane (Sent bytes) h = refl
marks-cons lane (Executed xid call reply) h = refl
marks-cons lane (Foreign call reply) h = refl
marks-cons lane (Flushed file from len) h = refl
marks-cons lane (Reboot verf) h = refl
marks-cons lane (Delivered bytes) h = refl
marks-cons lane Failed h = refl
marks-cons lane (Clock ms) h = refl

-- an entry is a mark of the lane, or it isn't
abbrev pub IsOwn : ℕ → Entry → Type 0
IsOwn lane e = marks_of lane (e ∷ []) ≡ e ∷ []

abbrev pub IsSilent : ℕ → Entry → Type 0
IsSilent lane e = marks_of lane (e ∷ []) ≡ []

pub own-or-silent : (lane : ℕ) (e : Entry) → IsOwn lane e ⊎ IsSilent lane e
own-or-silent lane (Began l line op) =
    elim (nat_eq l lane) as (λ b. (cond b (Began l line op ∷ []) [] ≡ Began l line op ∷ []) ⊎ (cond b (Began l line op ∷ []) [] ≡ [])) [
      | true ↦ inl refl
      | false ↦ inr refl
    ]
own-or-silent lane (Answered l line a) =
    elim (nat_eq l lane) as (λ b. (cond b (Answered l line a ∷ []) [] ≡ Answered l line a ∷ []) ⊎ (cond b (Answered l line a ∷ []) [] ≡ [])) [
      | true ↦ inl refl
      | false ↦ inr refl
    ]
own-or-silent lane (Dialed port) = inr refl
own-or-silent lane (Sent bytes) = inr refl
own-or-silent lane (Executed xid call reply) = inr refl
own-or-silent lane (Foreign call reply) = inr refl
own-or-silent lane (Flushed file from len) = inr refl
own-or-silent lane (Reboot verf) = inr refl
own-or-silent lane (Delivered bytes) = inr refl
own-or-silent lane Failed = inr refl
own-or-silent lane (Clock ms) = inr refl

pub began-own : (lane line : ℕ) (op : Op) → IsOwn lane (Began lane line op)
began-own lane line op = ap (λ b. cond b (Began lane line op ∷ []) []) (eq-eqb lane lane refl)

pub answered-own : (lane line : ℕ) (answer : Answer) → IsOwn lane (Answered lane line answer)
answered-own lane line answer = ap (λ b. cond b (Answered lane line answer ∷ []) []) (eq-eqb lane lane refl)

-- an entry isn't both
pub apart : (lane : ℕ) (e : Entry) → IsOwn lane e → IsSilent lane e → ⊥
apart lane e own silent = let no_way : e ∷ [] ≡ [] = sym own ∙ silent in cc

-- ---- lists of marks

-- each of the entries is a mark of the lane
abbrev pub AreOwn : ℕ → List Entry → Type 0
AreOwn lane [] = Unit {0}
AreOwn lane (e ∷ es) = IsOwn lane e × AreOwn lane es

pub marks-own : (lane : ℕ) (h : List Entry) → AreOwn lane (marks_of lane h)
marks-own lane [] = tt
marks-own lane (e ∷ h) = subst (AreOwn lane) (sym (marks-cons lane e h)) (by (marks-own lane h) (own-or-silent lane e))
  where
    by : AreOwn lane (marks_of lane h) → IsOwn lane e ⊎ IsSilent lane e → AreOwn lane (marks_of lane (e ∷ []) ++ marks_of lane h)
    by behind (inl own) = subst (λ (t : List Entry). AreOwn lane (t ++ marks_of lane h)) (sym own) (own, behind)
    by behind (inr silent) = subst (λ (t : List Entry). AreOwn lane (t ++ marks_of lane h)) (sym silent) behind

-- the marks of a lane begin what the history begins in it
pub begun-cons : (lane : ℕ) (e : Entry) (h : List Entry) → begun lane (e ∷ h) ≡ begun lane (e ∷ []) ++ begun lane h
begun-cons lane (Began l line op) h =
    elim (nat_eq l lane) as (λ b. cond b (Began l line op ∷ begun lane h) (begun lane h) ≡ cond b (Began l line op ∷ []) [] ++ begun lane h) [
      | true ↦ refl
      | false ↦ refl
    ]
begun-cons lane (Answered l line a) h = refl
begun-cons lane (Dialed port) h = refl
begun-cons lane (Sent bytes) h = refl
begun-cons lane (Executed xid call reply) h = refl
begun-cons lane (Foreign call reply) h = refl
begun-cons lane (Flushed file from len) h = refl
begun-cons lane (Reboot verf) h = refl
begun-cons lane (Delivered bytes) h = refl
begun-cons lane Failed h = refl
begun-cons lane (Clock ms) h = refl

pub silent-begun : (lane : ℕ) (e : Entry) → IsSilent lane e → begun lane (e ∷ []) ≡ []
silent-begun lane (Began l line op) silent = silent
silent-begun lane (Answered l line a) silent = refl
silent-begun lane (Dialed port) silent = refl
silent-begun lane (Sent bytes) silent = refl
silent-begun lane (Executed xid call reply) silent = refl
silent-begun lane (Foreign call reply) silent = refl
silent-begun lane (Flushed file from len) silent = refl
silent-begun lane (Reboot verf) silent = refl
silent-begun lane (Delivered bytes) silent = refl
silent-begun lane Failed silent = refl
silent-begun lane (Clock ms) silent = refl

pub begun-marks : (lane : ℕ) (h : List Entry) → begun lane (marks_of lane h) ≡ begun lane h
begun-marks lane [] = refl
begun-marks lane (e ∷ h) = ap (begun lane) (marks-cons lane e h) ∙ by (begun-marks lane h) (own-or-silent lane e) ∙ sym (begun-cons lane e h)
  where
    by : begun lane (marks_of lane h) ≡ begun lane h → IsOwn lane e ⊎ IsSilent lane e
        → begun lane (marks_of lane (e ∷ []) ++ marks_of lane h) ≡ begun lane (e ∷ []) ++ begun lane h
    by behind (inl own) =
        ap (λ (t : List Entry). begun lane (t ++ marks_of lane h)) own ∙ begun-cons lane e (marks_of lane h) ∙ ap (λ (t : List Entry). begun lane (e ∷ []) ++ t) behind
    by behind (inr silent) =
        ap (λ (t : List Entry). begun lane (t ++ marks_of lane h)) silent ∙ behind ∙ ap (λ (t : List Entry). t ++ begun lane h) (sym (silent-begun lane e silent))

-- ---- places

-- where no mark stands each entry is silent
pub none-silent : (lane : ℕ) (h : List Entry) → marks_of lane h ≡ [] → (i : ℕ) (d : Entry) → At h i d → IsSilent lane d
none-silent lane [] none i d at = absurd cc
none-silent lane (e ∷ h) none i d at = by (λ behind j here. none-silent lane h behind j d here) (own-or-silent lane e) i at
  where
    whole : marks_of lane (e ∷ []) ++ marks_of lane h ≡ []
    whole = sym (marks-cons lane e h) ∙ none

    by : (marks_of lane h ≡ [] → (j : ℕ) → At h j d → IsSilent lane d) → IsOwn lane e ⊎ IsSilent lane e → (i : ℕ) → At (e ∷ h) i d → IsSilent lane d
    by more (inl own) i at = absurd (let no_way : e ∷ marks_of lane h ≡ [] = sym (ap (λ (t : List Entry). t ++ marks_of lane h) own) ∙ whole in cc)
    by more (inr silent) zero at = subst (IsSilent lane) (let is : e ≡ d = cc in is) silent
    by more (inr silent) (suc i) at = more (sym (ap (λ (t : List Entry). t ++ marks_of lane h) silent) ∙ whole) i at

-- a mark stands at a place of the history, and behind it the marks behind it
pub record Stands (lane : ℕ) (h : List Entry) (e : Entry) (rest : List Entry) : Type 0 where
  pub place : ℕ
  pub at : At h place e
  pub none : rest ≡ [] → (j : ℕ) (d : Entry) → At h j d → place < j → IsSilent lane d

pub stands : (lane : ℕ) (h front : List Entry) (e : Entry) (rest : List Entry) → marks_of lane h ≡ front ++ e ∷ rest → Stands lane h e rest
stands lane [] [] e rest is = absurd cc
stands lane [] (f ∷ front) e rest is = absurd cc
stands lane (d ∷ h) front e rest is = by (λ before behind. stands lane h before e rest behind) (own-or-silent lane d) front whole
  where
    whole : marks_of lane (d ∷ []) ++ marks_of lane h ≡ front ++ e ∷ rest
    whole = sym (marks-cons lane d h) ∙ is

    shift : Stands lane h e rest → Stands lane (d ∷ h) e rest
    shift s = record { place = suc s.place; at = s.at; none = λ none j c at after. by_place none j c at after }
      where
        by_place : rest ≡ [] → (j : ℕ) (c : Entry) → At (d ∷ h) j c → suc s.place < j → IsSilent lane c
        by_place none zero c at after = absurd (omega (arith, after))
        by_place none (suc j) c at after = s.none none j c at (omega (arith, after))

    first : d ∷ marks_of lane h ≡ e ∷ rest → Stands lane (d ∷ h) e rest
    first is = record { place = 0; at = cc; none = λ none j c at after. by_place none j c at after }
      where
        behind : marks_of lane h ≡ rest
        behind = cc

        by_place : rest ≡ [] → (j : ℕ) (c : Entry) → At (d ∷ h) j c → 0 < j → IsSilent lane c
        by_place none zero c at after = absurd (omega (arith, after))
        by_place none (suc j) c at after = none-silent lane h (behind ∙ none) j c at

    by : ((before : List Entry) → marks_of lane h ≡ before ++ e ∷ rest → Stands lane h e rest) → IsOwn lane d ⊎ IsSilent lane d → (front : List Entry)
        → marks_of lane (d ∷ []) ++ marks_of lane h ≡ front ++ e ∷ rest → Stands lane (d ∷ h) e rest
    by more (inr silent) front is = shift (more front (sym (ap (λ (t : List Entry). t ++ marks_of lane h) silent) ∙ is))
    by more (inl own) [] is = first (sym (ap (λ (t : List Entry). t ++ marks_of lane h) own) ∙ is)
    by more (inl own) (f ∷ front) is =
        let all : d ∷ marks_of lane h ≡ f ∷ (front ++ e ∷ rest) = sym (ap (λ (t : List Entry). t ++ marks_of lane h) own) ∙ is in
        shift (more front (let behind : marks_of lane h ≡ front ++ e ∷ rest = cc in behind))
