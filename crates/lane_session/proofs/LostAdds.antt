-- A session that was lost before its lines began adds nothing but readings of the clock, their beginnings, and answers that it is lost.
use Rattle.std.proofs.Common.{◌≡◌, ℕ, zero, suc, List, [], ◌∷◌, ◌++◌, length, Some, Option, None, slice_get, Result, Ok, Err, refl, sym, ap, subst, ◌∙◌, arith}
use Rattle.std.proofs.lemmas.List.{length-append}
use Rattle.world_model.specs.declared.answer.Answer.TheVariants.{Refused}
use Rattle.world_model.specs.declared.answer.Fault.TheVariants as faults
use Rattle.world_model.specs.declared.entry.Entry.{Entry}
use Rattle.world_model.specs.declared.entry.Entry.TheVariants.{Began, Answered, Clock}
use Rattle.world_model.specs.Entries.{At}
use Rattle.world_model.specs.History.{History}
use Rattle.world_model.specs.Told.{Relates}
use Rattle.nfs_script.specs.declared.script.ScriptLine.{ScriptLine}
use Rattle.client_core.specs.declared.setup.Setup.{Setup}
use Rattle.lane_session.specs.declared.halt.Halt.{Halt}
use Rattle.lane_session.specs.Bonds.{LosesAll}
use Rattle.lane_session.specs.Losing.{lost_line, LostLines, no_line, one_line, LostPart, nothing, timed, begun, answered, LosesBy, IsLosing, LosesOnly}
use Rattle.lane_session.proofs.Passing.{relates_less}

abbrev EachLosing : List Entry → Type 0
EachLosing es = (i : ℕ) (e : Entry) → At es i e → IsLosing e

none-each : EachLosing []
none-each i e there = absurd (cc)

more-each : (d : Entry) (es : List Entry) → IsLosing d → EachLosing es → EachLosing (d ∷ es)
more-each d es own rest zero e there = let is : d ≡ e = cc in subst IsLosing is own
more-each d es own rest (suc i) e there = rest i e there

both-at : (a b : List Entry) → EachLosing a → EachLosing b → (i : ℕ) (e : Entry) → At (a ++ b) i e → IsLosing e
both-at [] b p q i e there = q i e there
both-at (d ∷ a) b p q zero e there = p zero e there
both-at (d ∷ a) b p q (suc i) e there = both-at a b (λ k. p (suc k)) q i e there

all-both : (a b : List Entry) → EachLosing a → EachLosing b → EachLosing (a ++ b)
all-both a b p q = both-at a b p q

line-begun : (l : ScriptLine) (ms : ℕ) (es : List Entry) → EachLosing es → EachLosing (Clock ms ∷ Began l.lane l.line l.op ∷ es)
line-begun l ms es rest = more-each (Clock ms) (Began l.lane l.line l.op ∷ es) tt (more-each (Began l.lane l.line l.op) es tt rest)

line-lost : (l : ScriptLine) (ms : ℕ) → EachLosing (lost_line l ms)
line-lost l ms = line-begun l ms (Answered l.lane l.line (Refused faults.Lost) ∷ []) (more-each (Answered l.lane l.line (Refused faults.Lost)) [] refl none-each)

lines-lost : (script : List ScriptLine) (es : List Entry) → LostLines script es → EachLosing es
lines-lost _ _ (no_line script es none is) = subst EachLosing (sym is) none-each
lines-lost _ _ (one_line script before es more l ms split is rest) = subst EachLosing (sym is) (all-both more (lost_line l ms) (lines-lost before more rest) (line-lost l ms))

part-lost : (l : ScriptLine) (es : List Entry) → LostPart l es → EachLosing es
part-lost l es (nothing is) = subst EachLosing (sym is) none-each
part-lost l es (timed ms is) = subst EachLosing (sym is) (more-each (Clock ms) [] tt none-each)
part-lost l es (begun ms is) = subst EachLosing (sym is) (line-begun l ms [] none-each)
part-lost l es (answered ms is) = subst EachLosing (sym is) (line-lost l ms)

-- ---- no lines add nothing

no-lines : (script : List ScriptLine) (es : List Entry) → LostLines script es → script ≡ [] → es ≡ []
no-lines _ _ (no_line script es none is) empty = is
no-lines _ _ (one_line script before es more l ms split is rest) empty =
    let both = ap length (sym split ∙ empty) in absurd (omega (arith, both, length-append before (l ∷ [])))

not-there : (script : List ScriptLine) (n : ℕ) (l : ScriptLine) (es : List Entry) → slice_get script n ≡ Some l → script ≡ [] → es ≡ []
not-there script n l es there empty = absurd (let no_way : slice_get [] n ≡ Some l = subst (λ (s : List ScriptLine). slice_get s n ≡ Some l) empty there in cc)

loses-only : (label : List ℕ) (script : List ScriptLine) (result : Result (Unit {0}) Halt) (given text : List ℕ) (h k : List Entry) → LosesBy label script result given text h k → LosesOnly script h k
loses-only label script (Ok u) given text h k (es, is, lines, read, shown) = record { more = es; is = is; each = lines-lost script es lines; none = no-lines script es lines }
loses-only label script (Err halt) given text h k (n, l, there, (es, part, is, lines, cut, told)) = record {
  more = es ++ part;
  is = is;
  each = all-both es part (lines-lost _ es lines) (part-lost l part cut);
  none = not-there script n l (es ++ part) there;
}

-- ---- where the link tells its history

-- of lines in this order, of which there are none where the script has none
pub told-loses : (a b : Option History) (label : List ℕ) (order script : List ScriptLine) (result : Result (Unit {0}) Halt) (given text : List ℕ) → (script ≡ [] → order ≡ [])
    → Relates a b (λ h k. LosesBy label order result given text h k) → Relates a b (LosesOnly script)
told-loses a b label order script result given text none p =
    relates_less a b (λ h k. LosesBy label order result given text h k) (LosesOnly script) (λ h k l. of-script h k (loses-only label order result given text h k l)) p
  where
    of-script : (h k : List Entry) → LosesOnly order h k → LosesOnly script h k
    of-script h k o = record { more = o.more; is = o.is; each = o.each; none = λ empty. o.none (none empty) }

-- a session with a set-up has others to say it
pub told-set-up : (a b : Option History) (setup : Setup) (script : List ScriptLine) (R : List Entry → List Entry → Type 0) → Relates a b R → Relates a b (LosesAll (Some setup) script)
told-set-up a b setup script R p = relates_less a b R (LosesAll (Some setup) script) (λ h k r. tt) p
