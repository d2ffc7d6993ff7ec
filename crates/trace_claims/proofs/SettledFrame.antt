-- Where one entry is added that refuses no write, what was settled and held at a moment is held there still.
use Rattle.std.proofs.Common.{◌≡◌, ◌<◌, ◌≤◌, ℕ, suc, List, [], ◌∷◌, ◌++◌, length, refl, subst, arith, inl, inr}
use Rattle.std.proofs.lemmas.Bool.{cases_lt}
use Rattle.world_model.specs.declared.answer.Answer.{Answer}
use Rattle.world_model.specs.declared.answer.Answer.TheVariants.{Done, Refused}
use Rattle.world_model.specs.declared.answer.Fault.{Fault}
use Rattle.world_model.specs.declared.entry.Entry.{Entry}
use Rattle.world_model.specs.declared.entry.Entry.TheVariants.{Began, Answered, Foreign, Delivered}
use Rattle.world_model.specs.declared.op.Op.{Op}
use Rattle.world_model.specs.declared.op.Op.TheVariants as ops
use Rattle.world_model.specs.Entries.{At}
use Rattle.world_model.specs.History.{History}
use Rattle.claims.specs.Modes.{Modes}
use Rattle.world_model.specs.Mounts.{Origin}
use Rattle.world_model.specs.Operations.{Ended, AnsweredBefore}
use Rattle.claims.specs.Slots.{Opens, InSlot, IsOf, PutsTo}
use Rattle.claims.specs.Touched as touching
use Rattle.claims.specs.Touched.{RefusedWrite, Wrote, MadeStable, Left, GivesUp, GivenUp, Touched}
use Rattle.claims.specs.Settled.{HoldsStable, SettledBy, later, itself}
use Rattle.world_model.proofs.Places.{At-grow, At-back, At-below, At-cases, At-one}
use Rattle.trace_claims.proofs.Frames.{Ended-grow, Ended-back, Before-back, Last-back, Finds-back, IsOf-grow, WritesByte-grow}

-- ---- what a longer history shows of earlier operations, the shorter one showed

pub Opens-back : (m : Modes) (h more : List Entry) (lane slot x y : ℕ) (f : List ℕ) → y < length h → Opens m (h ++ more) lane slot x y f → Opens m h lane slot x y f
Opens-back m h more lane slot x y f below o = record { mode = o.mode; path = o.path; value = o.value; ended = Ended-back h more lane x (ops.OpenFile slot o.mode o.path) y (Done o.value) below o.ended; finds = Finds-back m h more y f (omega (arith, below)) o.finds }

pub InSlot-back : (m : Modes) (h more : List Entry) (n lane slot x : ℕ) (f : List ℕ) → n ≤ length h → InSlot m (h ++ more) n lane slot x f → InSlot m h n lane slot x f
InSlot-back m h more n lane slot x f within s = record {
  y = s.y;
  opens = Opens-back m h more lane slot x s.y f (omega (arith, s.before, within)) s.opens;
  before = s.before;
  kept = λ c k answer e after lt. s.kept c k answer (Ended-grow h more lane c (ops.Close slot) k answer e) after lt;
}

pub IsOf-back : (m : Modes) (h more : List Entry) (x : ℕ) (op : Op) (f : List ℕ) → x < length h → IsOf m (h ++ more) x op f → IsOf m h x op f
IsOf-back m h more x op f below o = record { lane = o.lane; line = o.line; slot = o.slot; open_at = o.open_at; began = At-back h more x (Began o.lane o.line op) o.began below; works_on = o.works_on; holds = InSlot-back m h more x o.lane o.slot o.open_at f (omega (arith, below)) o.holds }

pub PutsTo-back : (h more : List Entry) (x y : ℕ) (f : List ℕ) (offset : ℕ) (bytes : List ℕ) → y < length h → PutsTo (h ++ more) x y f offset bytes → PutsTo h x y f offset bytes
PutsTo-back h more x y f offset bytes below p = record { lane = p.lane; path = p.path; value = p.value; call = p.call; ended = Ended-back h more p.lane x (ops.Put p.path offset bytes) y (Done p.value) below p.ended; names = p.names; asked = Last-back h more y p.call (omega (arith, below)) p.asked }

pub Wrote-back : (m : Modes) (h more : List Entry) (x y : ℕ) (f : List ℕ) (i v : ℕ) → y < length h → Wrote m (h ++ more) x y f i v → Wrote m h x y f i v
Wrote-back m h more x y f i v below (touching.write lane slot offset bytes value of ended covers) = touching.write lane slot offset bytes value (IsOf-back m h more x (ops.Write slot offset bytes) f (omega (arith, ended.later, below)) of) (Ended-back h more lane x (ops.Write slot offset bytes) y (Done value) below ended) covers
Wrote-back m h more x y f i v below (touching.fill lane slot offset count value of ended low high) = touching.fill lane slot offset count value (IsOf-back m h more x (ops.Fill slot offset count v) f (omega (arith, ended.later, below)) of) (Ended-back h more lane x (ops.Fill slot offset count v) y (Done value) below ended) low high
Wrote-back m h more x y f i v below (touching.put offset bytes puts covers) = touching.put offset bytes (PutsTo-back h more x y f offset bytes below puts) covers

pub Stable-back : (m : Modes) (h more : List Entry) (x y : ℕ) (f : List ℕ) → y < length h → MadeStable m (h ++ more) x y f → MadeStable m h x y f
Stable-back m h more x y f below (touching.sync lane slot value of ended) = touching.sync lane slot value (IsOf-back m h more x (ops.Sync slot) f (omega (arith, ended.later, below)) of) (Ended-back h more lane x (ops.Sync slot) y (Done value) below ended)
Stable-back m h more x y f below (touching.close lane slot value of ended) = touching.close lane slot value (IsOf-back m h more x (ops.Close slot) f (omega (arith, ended.later, below)) of) (Ended-back h more lane x (ops.Close slot) y (Done value) below ended)
Stable-back m h more x y f below (touching.put offset bytes puts) = touching.put offset bytes (PutsTo-back h more x y f offset bytes below puts)

pub made-later : (m : Modes) (h : List Entry) (x y : ℕ) (f : List ℕ) → MadeStable m h x y f → x < y
made-later m h x y f (touching.sync lane slot value of ended) = ended.later
made-later m h x y f (touching.close lane slot value of ended) = ended.later
made-later m h x y f (touching.put offset bytes puts) = puts.ended.later

-- ---- last closes

pub Left-grow : (m : Modes) (h more : List Entry) (k : ℕ) (f : List ℕ) → k < length h → Left m h k f → Left m (h ++ more) k f
Left-grow m h more k f below l = record { lane = l.lane; slot = l.slot; close = l.close; answer = l.answer; of = IsOf-grow m h more l.close (ops.Close l.slot) f l.of; ended = Ended-grow h more l.lane l.close (ops.Close l.slot) k l.answer l.ended; last = λ other its_slot x s. l.last other its_slot x (InSlot-back m h more (suc k) other its_slot x f (omega (arith, below)) s) }

pub GivesUp-grow : (m : Modes) (h more : List Entry) (k : ℕ) (f : List ℕ) → k < length h → GivesUp m h k f → GivesUp m (h ++ more) k f
GivesUp-grow m h more k f below (touching.itself lane line fault at) = touching.itself lane line fault (At-grow h more k (Answered lane line (Refused fault)) at)
GivesUp-grow m h more k f below (touching.beside lane slot c j fault of ended before none) = touching.beside lane slot c j fault (IsOf-grow m h more c (ops.Close slot) f of) (Ended-grow h more lane c (ops.Close slot) j (Refused fault) ended) before
    (λ n b at after lt. none n b (At-back h more n (Delivered b) at (omega (arith, lt, below))) after lt)

GivenUp-grow : (m : Modes) (h more : List Entry) (w k : ℕ) (f : List ℕ) → k < length h → GivenUp m h w k f → GivenUp m (h ++ more) w k f
GivenUp-grow m h more w k f below g = record {
  left = Left-grow m h more k f below g.left;
  refused = GivesUp-grow m h more k f below g.refused;
  unstable = λ s. g.unstable (record { x = s.x; y = s.y; after = Before-back h more w s.x (let lt = made-later m (h ++ more) s.x s.y f s.made in omega (arith, lt, s.by, below)) s.after; made = Stable-back m h more s.x s.y f (omega (arith, s.by, below)) s.made; by = s.by });
  unanswered = λ a. g.unanswered (record { lane = a.lane; path = a.path; offset = a.offset; bytes = a.bytes; y = a.y; answer = a.answer; ended = Ended-back h more a.lane w (ops.Put a.path a.offset a.bytes) a.y a.answer (omega (arith, a.before, below)) a.ended; before = a.before });
}

-- ---- touched

-- the entry refuses no write or fill
abbrev pub RefusesNone : List Entry → Entry → Type 0
RefusesNone h e = (x : ℕ) → RefusedWrite (h ++ e ∷ []) x → RefusedWrite h x

abbrev pub grown : History → Entry → History
grown t e = record { entries = t.entries ++ e ∷ []; at = t.at }

pub Touched-grow : (m : Modes) (origin : Origin) (t : History) (e : Entry) (w p : ℕ) (f : List ℕ) (i : ℕ) → RefusesNone t.entries e → w ≤ length t.entries → p ≤ length t.entries
    → Touched m origin t w p f i → Touched m origin (grown t e) w p f i
Touched-grow m origin t e w p f i none w_in p_in (touching.foreign n call reply after before at changes) = touching.foreign n call reply after before (At-grow t.entries (e ∷ []) n (Foreign call reply) at) changes
Touched-grow m origin t e w p f i none w_in p_in (touching.written x v other before begun writes refused) = touching.written x v other before (λ b. begun (Before-back t.entries (e ∷ []) x w w_in b)) (WritesByte-grow m origin t.entries e x f i v writes) (λ r. refused (none x r))
Touched-grow m origin t e w p f i none w_in p_in (touching.cut x other before begun cuts) = touching.cut x other before (λ b. begun (Before-back t.entries (e ∷ []) x w w_in b)) (record { slot = cuts.slot; size = cuts.size; of = IsOf-grow m t.entries (e ∷ []) x (ops.Truncate cuts.slot cuts.size) f cuts.of; low = cuts.low })
Touched-grow m origin t e w p f i none w_in p_in (touching.gone o is gone) = touching.gone o is gone
Touched-grow m origin t e w p f i none w_in p_in (touching.given_up k after before given) = touching.given_up k after before (GivenUp-grow m t.entries (e ∷ []) w k f (omega (arith, before, p_in)) given)

-- ---- settled

-- what was settled before the moment p is held at p, or touched
abbrev pub SettledAt : Modes → Origin → History → ℕ → Type 0
SettledAt m origin t p = (w y : ℕ) (f : List ℕ) (i v j : ℕ) → Wrote m t.entries w y f i v → SettledBy m t.entries w y f j → j < p → (Touched m origin t w p f i → ⊥) → HoldsStable (t.at p) f i v

-- an operation has one end
ends-once : (h : List Entry) (lane k x : ℕ) (op o : Op) (y z : ℕ) (a b : Answer) → Ended h lane x op y a → Ended h k x o z b → y ≤ z
ends-once h lane k x op o y z a b d e = d.first z b (subst (λ (entry : Entry). At h z entry) (moved k e.line o b (At-one h x (Began lane d.line op) (Began k e.line o) d.began e.began)) e.answered) e.later
  where
    moved : (k n : ℕ) (o : Op) (b : Answer) → Began lane d.line op ≡ Began k n o → Answered k n b ≡ Answered lane d.line b
    moved k n o b same = let l : lane ≡ k = cc in let s : d.line ≡ n = cc in rw (l, s) refl

wrote-before : (m : Modes) (h : List Entry) (w y : ℕ) (f : List ℕ) (i v n : ℕ) → Wrote m h w y f i v → AnsweredBefore h w n → y < n
wrote-before m h w y f i v n (touching.write lane slot offset bytes value of ended covers) b = let le = ends-once h lane b.lane w (ops.Write slot offset bytes) b.op y b.y (Done value) b.answer ended b.ended in omega (arith, le, b.before)
wrote-before m h w y f i v n (touching.fill lane slot offset count value of ended low high) b = let le = ends-once h lane b.lane w (ops.Fill slot offset count v) b.op y b.y (Done value) b.answer ended b.ended in omega (arith, le, b.before)
wrote-before m h w y f i v n (touching.put offset bytes puts covers) b = let le = ends-once h puts.lane b.lane w (ops.Put puts.path offset bytes) b.op y b.y (Done puts.value) b.answer puts.ended b.ended in omega (arith, le, b.before)

pub wrote-later : (m : Modes) (h : List Entry) (w y : ℕ) (f : List ℕ) (i v : ℕ) → Wrote m h w y f i v → w < y
wrote-later m h w y f i v (touching.write lane slot offset bytes value of ended covers) = ended.later
wrote-later m h w y f i v (touching.fill lane slot offset count value of ended low high) = ended.later
wrote-later m h w y f i v (touching.put offset bytes puts covers) = puts.ended.later

pub settled-frame : (m : Modes) (origin : Origin) (t : History) (e : Entry) (p : ℕ) → RefusesNone t.entries e → p ≤ length t.entries → SettledAt m origin t p → SettledAt m origin (grown t e) p
settled-frame m origin t e p none within held w y f i v j wrote settles lt untouched = by settles
  where
    was : y < length t.entries → SettledBy m t.entries w y f j → HoldsStable (t.at p) f i v
    was below settled = held w y f i v j (Wrote-back m t.entries (e ∷ []) w y f i v below wrote) settled lt
        (λ touched. untouched (Touched-grow m origin t e w p f i none (let before = wrote-later m (t.entries ++ e ∷ []) w y f i v wrote in omega (arith, before, below)) within touched))

    by : SettledBy m (t.entries ++ e ∷ []) w y f j → HoldsStable (t.at p) f i v
    by (later x after made) = was (let a = wrote-before m (t.entries ++ e ∷ []) w y f i v x wrote after in let b = made-later m (t.entries ++ e ∷ []) x j f made in omega (arith, a, b, lt, within)) (later x (Before-back t.entries (e ∷ []) w x (let before = made-later m (t.entries ++ e ∷ []) x j f made in omega (arith, before, lt, within)) after) (Stable-back m t.entries (e ∷ []) x j f (omega (arith, lt, within)) made))
    by (itself offset bytes puts is) = was (omega (arith, is, lt, within)) (itself offset bytes (PutsTo-back t.entries (e ∷ []) w y f offset bytes (omega (arith, is, lt, within)) puts) is)

-- ---- which entries refuse no write

-- a write or fill
abbrev pub IsWrite : Op → Type 0
IsWrite (ops.Write slot offset bytes) = Unit {0}
IsWrite (ops.Fill slot offset count byte) = Unit {0}
IsWrite op = ⊥

refused-before : (h : List Entry) (e : Entry) (x : ℕ) → ((lane line : ℕ) (fault : Fault) → e ≡ Answered lane line (Refused fault) → (x : ℕ) (op : Op) → At h x (Began lane line op) → IsWrite op → ⊥)
    → (lane : ℕ) (op : Op) (y : ℕ) (fault : Fault) → Ended (h ++ e ∷ []) lane x op y (Refused fault) → IsWrite op → Ended h lane x op y (Refused fault)
refused-before h e x other lane op y fault ended is = elim (cases_lt y (length h)) [
  | inl below ↦ Ended-back h (e ∷ []) lane x op y (Refused fault) below ended
  | inr le ↦ elim (At-cases h e y (Answered lane ended.line (Refused fault)) ended.answered) [
    | inl there ↦ let below = At-below h y (Answered lane ended.line (Refused fault)) there in absurd (omega (arith, le, below))
    | inr it ↦ absurd (other lane ended.line fault it.1 x op (At-back h (e ∷ []) x (Began lane ended.line op) ended.began (let at = it.0 in omega (arith, ended.later, at))) is)
  ]
]

-- an entry that is no refusal refuses no write; nor does a refusal of another operation
pub no-refusal : (h : List Entry) (e : Entry) → ((lane line : ℕ) (fault : Fault) → e ≡ Answered lane line (Refused fault) → (x : ℕ) (op : Op) → At h x (Began lane line op) → IsWrite op → ⊥) → RefusesNone h e
no-refusal h e other x (touching.write lane slot offset y bytes fault ended) = touching.write lane slot offset y bytes fault (refused-before h e x other lane (ops.Write slot offset bytes) y fault ended tt)
no-refusal h e other x (touching.fill lane slot offset count byte y fault ended) = touching.fill lane slot offset count byte y fault (refused-before h e x other lane (ops.Fill slot offset count byte) y fault ended tt)
