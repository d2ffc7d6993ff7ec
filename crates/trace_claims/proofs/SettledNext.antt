-- Where an entry answers nothing and changes no object, what was held before it is held after it.
use Rattle.std.proofs.Common.{◌≡◌, ◌<◌, ◌≤◌, inl, inr, ℕ, suc, true, List, Some, sym, ◌∙◌, subst, arith}
use Rattle.std.proofs.lemmas.Bool.{cases_lt}
use Rattle.world_model.specs.declared.answer.Answer.{Answer}
use Rattle.world_model.specs.declared.answer.Answer.TheVariants.{Done}
use Rattle.world_model.specs.declared.entry.Entry.{Entry}
use Rattle.world_model.specs.declared.entry.Entry.TheVariants.{Answered}
use Rattle.world_model.specs.Entries.{At}
use Rattle.world_model.specs.History.{History}
use Rattle.claims.specs.Modes.{Modes}
use Rattle.world_model.specs.Mounts.{Origin}
use Rattle.world_model.specs.Server.{Object, Server}
use Rattle.claims.specs.Settled.{HoldsStable, SettledBy, later, itself}
use Rattle.claims.specs.Touched as touching
use Rattle.claims.specs.Touched.{MadeStable, Touched}
use Rattle.trace_claims.proofs.SettledFrame.{SettledAt}

-- ---- what is touched stays touched

pub Touched-later : (m : Modes) (origin : Origin) (t : History) (w p q : ℕ) (f : List ℕ) (i : ℕ) → p ≤ q → ((o : Object) → (t.at p).object f ≡ Some o → o.gone ≡ true → (u : Object) × ((t.at q).object f ≡ Some u) × (u.gone ≡ true))
    → Touched m origin t w p f i → Touched m origin t w q f i
Touched-later m origin t w p q f i le stays (touching.foreign n call reply after before at changes) = touching.foreign n call reply after (omega (arith, before, le)) at changes
Touched-later m origin t w p q f i le stays (touching.written x v other before begun writes refused) = touching.written x v other (omega (arith, before, le)) begun writes refused
Touched-later m origin t w p q f i le stays (touching.cut x other before begun cuts) = touching.cut x other (omega (arith, before, le)) begun cuts
Touched-later m origin t w p q f i le stays (touching.gone o is gone) = let later = stays o is gone in touching.gone later.0 later.1 later.2
Touched-later m origin t w p q f i le stays (touching.given_up k after before given) = touching.given_up k after (omega (arith, before, le)) given

-- an entry that answers an operation
pub record IsAnswered (h : List Entry) (j : ℕ) : Type 0 where
  pub lane : ℕ
  pub line : ℕ
  pub answer : Answer
  pub at : At h j (Answered lane line answer)

made-answers : (m : Modes) (h : List Entry) (x j : ℕ) (f : List ℕ) → MadeStable m h x j f → IsAnswered h j
made-answers m h x j f (touching.sync lane slot value of ended) = record { lane = lane; line = ended.line; answer = Done value; at = ended.answered }
made-answers m h x j f (touching.close lane slot value of ended) = record { lane = lane; line = ended.line; answer = Done value; at = ended.answered }
made-answers m h x j f (touching.put offset bytes puts) = record { lane = puts.lane; line = puts.ended.line; answer = Done puts.value; at = puts.ended.answered }

settles-answers : (m : Modes) (h : List Entry) (w y : ℕ) (f : List ℕ) (j : ℕ) → SettledBy m h w y f j → IsAnswered h j
settles-answers m h w y f j (later x after made) = made-answers m h x j f made
settles-answers m h w y f j (itself offset bytes puts is) = subst (λ (k : ℕ). IsAnswered h k) (sym is) (record { lane = puts.lane; line = puts.ended.line; answer = Done puts.value; at = puts.ended.answered })

holds-on : (s t : Server) (f : List ℕ) (i v : ℕ) → t.object f ≡ s.object f → HoldsStable s f i v → HoldsStable t f i v
holds-on s t f i v same h = record { now = h.now; stable = h.stable; has = record { file = h.has.file; is = same ∙ h.has.is; holds = h.has.holds }; holds = h.holds; steady = h.steady }

pub settled-next : (m : Modes) (origin : Origin) (t : History) (p : ℕ) → (IsAnswered t.entries p → ⊥) → ((f : List ℕ) → (t.at (suc p)).object f ≡ (t.at p).object f) → SettledAt m origin t p → SettledAt m origin t (suc p)
settled-next m origin t p quiet same held w y f i v j wrote settles lt untouched =
    holds-on (t.at p) (t.at (suc p)) f i v (same f) (held w y f i v j wrote settles before
    (λ touched. untouched (Touched-later m origin t w p (suc p) f i (omega arith) (λ (o : Object) is gone. (o, same f ∙ is, gone)) touched)))
  where
    before : j < p
    before = elim (cases_lt j p) [
      | inl less ↦ less
      | inr le ↦ absurd (quiet (subst (λ (k : ℕ). IsAnswered t.entries k) (let is : j ≡ p = omega (arith, lt, le) in is) (settles-answers m t.entries w y f j settles)))
    ]
