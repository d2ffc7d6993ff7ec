-- In a session that the set-up lost, each answer is that it is lost.
use Rattle.std.proofs.Common.{◌≡◌, ◌<◌, ℕ, zero, suc, List, [], ◌∷◌, ◌++◌, length, Some, Option, None, slice_get, Result, Ok, Err, refl, sym, subst}
use Rattle.world_model.specs.declared.answer.Answer.{Answer}
use Rattle.world_model.specs.declared.answer.Answer.TheVariants.{Refused}
use Rattle.world_model.specs.declared.answer.Fault.TheVariants as faults
use Rattle.world_model.specs.declared.entry.Entry.{Entry}
use Rattle.world_model.specs.declared.entry.Entry.TheVariants.{Began, Answered, Clock}
use Rattle.world_model.specs.Entries.{At}
use Rattle.world_model.specs.History.{History}
use Rattle.world_model.specs.Lost.{IsLost}
use Rattle.world_model.specs.Told.{Relates}
use Rattle.nfs_script.specs.declared.script.ScriptLine.{ScriptLine}
use Rattle.session_words.specs.declared.settings.Settings.{Settings}
use Rattle.client_core.specs.declared.setup.Setup.{Setup}
use Rattle.lane_session.specs.declared.halt.Halt.{Halt}
use Rattle.lane_session.specs.Bonds.{IsOpened, EndsWith, StaysLost}
use Rattle.lane_session.specs.Losing.{lost_line, LostLines, no_line, one_line, LostPart, nothing, timed, begun, answered, LosesBy}
use Rattle.lane_session.specs.Sessions.{IsUnmarked}
use Rattle.lane_session.proofs.LostLaws.{never-answered}
use Rattle.lane_session.proofs.Passing.{relates_less}

abbrev AllLost : List Entry → Type 0
AllLost h = (j lane line : ℕ) (answer : Answer) → At h j (Answered lane line answer) → answer ≡ Refused faults.Lost

all-none : AllLost []
all-none j lane line answer there = absurd (cc)

both-at : (a b : List Entry) → AllLost a → AllLost b → (j lane line : ℕ) (answer : Answer) → At (a ++ b) j (Answered lane line answer) → answer ≡ Refused faults.Lost
both-at [] b p q j lane line answer there = q j lane line answer there
both-at (e ∷ a) b p q zero lane line answer there = p zero lane line answer there
both-at (e ∷ a) b p q (suc j) lane line answer there = both-at a b (λ k. p (suc k)) q j lane line answer there

all-both : (a b : List Entry) → AllLost a → AllLost b → AllLost (a ++ b)
all-both a b p q = both-at a b p q

-- an entry that is no answer
all-more : (e : Entry) (es : List Entry) → ((lane line : ℕ) (answer : Answer) → e ≡ Answered lane line answer → answer ≡ Refused faults.Lost) → AllLost es → AllLost (e ∷ es)
all-more e es own rest zero lane line answer there = own lane line answer (let is : e ≡ Answered lane line answer = cc in is)
all-more e es own rest (suc j) lane line answer there = rest j lane line answer there

clock-not : (ms lane line : ℕ) (answer : Answer) → Clock ms ≡ Answered lane line answer → answer ≡ Refused faults.Lost
clock-not ms lane line answer is = absurd (cc)

line-begun : (l : ScriptLine) (ms : ℕ) (es : List Entry) → AllLost es → AllLost (Clock ms ∷ Began l.lane l.line l.op ∷ es)
line-begun l ms es rest = all-more (Clock ms) (Began l.lane l.line l.op ∷ es) (clock-not ms) (all-more (Began l.lane l.line l.op) es (λ lane line answer is. absurd (cc)) rest)

line-lost : (l : ScriptLine) (ms : ℕ) → AllLost (lost_line l ms)
line-lost l ms = line-begun l ms (Answered l.lane l.line (Refused faults.Lost) ∷ [])
    (all-more (Answered l.lane l.line (Refused faults.Lost)) [] (λ lane line answer is. (cc)) all-none)

lines-lost : (script : List ScriptLine) (es : List Entry) → LostLines script es → AllLost es
lines-lost _ _ (no_line script es none is) = subst AllLost (sym is) all-none
lines-lost _ _ (one_line script before es more l ms split is rest) = subst AllLost (sym is) (all-both more (lost_line l ms) (lines-lost before more rest) (line-lost l ms))

part-lost : (l : ScriptLine) (es : List Entry) → LostPart l es → AllLost es
part-lost l es (nothing is) = subst AllLost (sym is) all-none
part-lost l es (timed ms is) = subst AllLost (sym is) (all-more (Clock ms) [] (clock-not ms) all-none)
part-lost l es (begun ms is) = subst AllLost (sym is) (line-begun l ms [] all-none)
part-lost l es (answered ms is) = subst AllLost (sym is) (line-lost l ms)

unmarked-lost : (h : List Entry) → IsUnmarked h → AllLost h
unmarked-lost h u j lane line answer there = absurd (never-answered lane h j line answer there (u lane))

all-stays : (h : List Entry) → AllLost h → StaysLost h
all-stays h all i j lane line other later answer first second lt = all j other later answer second

lost-stays : (label : List ℕ) (script : List ScriptLine) (result : Result (Unit {0}) Halt) (given text : List ℕ) (h k : List Entry) → LosesBy label script result given text h k → IsUnmarked h → StaysLost k
lost-stays label script (Ok u) given text h k (es, is, lines, read, shown) unmarked = all-stays k (subst AllLost (sym is) (all-both h es (unmarked-lost h unmarked) (lines-lost script es lines)))
lost-stays label script (Err halt) given text h k (n, l, there, (es, part, is, lines, cut, told)) unmarked =
    all-stays k (subst AllLost (sym is) (all-both h (es ++ part) (unmarked-lost h unmarked) (all-both es part (lines-lost _ es lines) (part-lost l part cut))))

-- ---- where the link tells its history

pub told-lost-stays : (a b : Option History) (label : List ℕ) (script : List ScriptLine) (result : Result (Unit {0}) Halt) (given text : List ℕ) → Relates a b (λ h k. LosesBy label script result given text h k)
    → Relates a b (λ h k. IsUnmarked h → IsLost h (length h) → StaysLost k)
told-lost-stays a b label script result given text p =
    relates_less a b (λ h k. LosesBy label script result given text h k) (λ h k. IsUnmarked h → IsLost h (length h) → StaysLost k)
    (λ h k l u o. lost-stays label script result given text h k l u) p

pub told-stays : (a b : Option History) (settings : Settings) (setup : Setup) → Relates a b (λ h k. IsOpened (Some setup) h → EndsWith settings (Some setup) h k)
    → Relates a b (λ h k. IsUnmarked h → IsOpened (Some setup) h → StaysLost k)
told-stays a b settings setup p =
    relates_less a b (λ h k. IsOpened (Some setup) h → EndsWith settings (Some setup) h k) (λ h k. IsUnmarked h → IsOpened (Some setup) h → StaysLost k)
    (λ h k e u o. (e o).stays) p
