-- Which port the parts of a session dial.
use Rattle.std.proofs.Common.{inl, inr, ◌≡◌, ℕ, List, [], ◌∷◌, ◌++◌, Bool, true, false, Option, Result, Ok, Err, refl, sym, ap, subst, ◌∙◌}
use Rattle.std.proofs.lemmas.List.{append-nil}
use Rattle.xdr_codec.specs.declared.blob.Memory.{Memory}
use Rattle.world_model.specs.declared.answer.Answer.{Answer}
use Rattle.world_model.specs.declared.entry.Entry.{Entry}
use Rattle.world_model.specs.declared.entry.Entry.TheVariants.{Began, Answered, Clock}
use Rattle.world_model.specs.declared.op.Op.{Op}
use Rattle.world_model.specs.History.{History}
use Rattle.world_model.specs.Told.{Relates}
use Rattle.link_dials.specs.Dials.{AreDialsOf, Dials, DialsOnly}
use Rattle.link_dials.proofs.Dialing.{are-append, dials_same, dials_then, dials_by}
use Rattle.nfs_script.specs.declared.script.ScriptLine.{ScriptLine}
use Rattle.lane_session.specs.declared.halt.Halt.{Halt}
use Rattle.lane_session.specs.declared.running.Session.{Session}
use Rattle.lane_session.specs.Going.{NotesBeginning, TellsAnswer}
use Rattle.lane_session.specs.Losing.{LostLines, no_line, one_line, LostPart, nothing, timed, begun, answered, LosesBy}
use Rattle.lane_session.specs.Ports.{KeepsPort}
use Rattle.lane_session.specs.Running.{Fails, Takes, TakesBy}

-- ---- one after the other

pub keeps_none : (p : ℕ) (a : Option History) → KeepsPort p p a a
keeps_none p a = record { same = refl; only = dials_same p a }

pub keeps_then : (p q r : ℕ) (a b c : Option History) → KeepsPort p q a b → KeepsPort q r b c → KeepsPort p r a c
keeps_then p q r a b c x y = record { same = y.same ∙ x.same; only = dials_then p a b c x.only (subst (λ (n : ℕ). DialsOnly n b c) x.same y.only) }

pub only_as : (p q : ℕ) (a b : Option History) → p ≡ q → DialsOnly p a b → DialsOnly q a b
only_as p q a b e d = subst (λ (n : ℕ). DialsOnly n a b) e d

-- ---- a failure, or a record that came, leaves the port

pub fails_port : (old new : Session) → Fails old new → new.port ≡ old.port
fails_port old new f = ap (λ (s : Session). s.port) f.is

pub takes_port : (old new : Session) (rec : List ℕ) → Takes old rec new → new.port ≡ old.port
takes_port old new rec t = by t.result t.is
  where
    by : (result : Bool) → TakesBy old result t.core new → new.port ≡ old.port
    by true is = ap (λ (s : Session). s.port) is
    by false (inl w) = ap (λ (s : Session). s.port) w.1
    by false (inr w) = ap (λ (s : Session). s.port) w.1

-- ---- lines dial nothing

notes-dials : (port lane line : ℕ) (op : Op) (ms : ℕ) (result : Result ℕ Memory) (h k : List Entry) → NotesBeginning lane line op ms result h k → Dials port h k
notes-dials port lane line op ms (Ok now) h k n = record { more = Clock ms ∷ Began lane line op ∷ []; is = n.1; only = (tt, (tt, tt)) }
notes-dials port lane line op ms (Err e) h k (inl n) = record { more = []; is = n ∙ sym (append-nil h); only = tt }
notes-dials port lane line op ms (Err e) h k (inr n) = record { more = Clock ms ∷ []; is = n; only = (tt, tt) }

tells-dials : {T : Type 0} → (label : List ℕ) (port lane line : ℕ) (answer : Answer) (result : Result T Halt) (text : List ℕ) (h k : List Entry) → TellsAnswer label lane line answer result text h k → Dials port h k
tells-dials label port lane line answer (Ok x) text h k t = record { more = Answered lane line answer ∷ []; is = t.0; only = (tt, tt) }
tells-dials label port lane line answer (Err halt) text h k (inl t) = record { more = []; is = t.0 ∙ sym (append-nil h); only = tt }
tells-dials label port lane line answer (Err halt) text h k (inr t) = record { more = Answered lane line answer ∷ []; is = t.0; only = (tt, tt) }

pub dials_notes : (port : ℕ) (a b : Option History) (lane line : ℕ) (op : Op) (ms : ℕ) (result : Result ℕ Memory) → Relates a b (NotesBeginning lane line op ms result) → DialsOnly port a b
dials_notes port a b lane line op ms result r = dials_by port a b _ (λ h k n. notes-dials port lane line op ms result h k n) r

pub dials_tells : {T : Type 0} → (port : ℕ) (a b : Option History) (label : List ℕ) (lane line : ℕ) (answer : Answer) (result : Result T Halt) (text : List ℕ)
    → Relates a b (TellsAnswer label lane line answer result text) → DialsOnly port a b
dials_tells port a b label lane line answer result text r = dials_by port a b _ (λ h k t. tells-dials label port lane line answer result text h k t) r

-- ---- nor do the lines of a lost session

lines-dial : (port : ℕ) (script : List ScriptLine) (es : List Entry) → LostLines script es → AreDialsOf port es
lines-dial port script es (no_line _ _ none is) = subst (AreDialsOf port) (sym is) tt
lines-dial port script es (one_line _ before _ more l ms split is rest) =
    subst (AreDialsOf port) (sym is) (are-append port more _ (lines-dial port before more rest) (tt, (tt, (tt, tt))))

part-dials : (port : ℕ) (l : ScriptLine) (es : List Entry) → LostPart l es → AreDialsOf port es
part-dials port l es (nothing is) = subst (AreDialsOf port) (sym is) tt
part-dials port l es (timed ms is) = subst (AreDialsOf port) (sym is) (tt, tt)
part-dials port l es (begun ms is) = subst (AreDialsOf port) (sym is) (tt, (tt, tt))
part-dials port l es (answered ms is) = subst (AreDialsOf port) (sym is) (tt, (tt, (tt, tt)))

loses-dials : (label : List ℕ) (port : ℕ) (script : List ScriptLine) (result : Result (Unit {0}) Halt) (given text : List ℕ) (h k : List Entry) → LosesBy label script result given text h k → Dials port h k
loses-dials label port script (Ok u) given text h k l = record { more = l.0; is = l.1; only = lines-dial port script l.0 l.2 }
loses-dials label port script (Err halt) given text h k l = record {
  more = l.3.0 ++ l.3.1;
  is = l.3.2;
  only = are-append port l.3.0 l.3.1 (lines-dial port _ l.3.0 l.3.3) (part-dials port l.1 l.3.1 l.3.4);
}

pub dials_loses : (port : ℕ) (a b : Option History) (label : List ℕ) (script : List ScriptLine) (result : Result (Unit {0}) Halt) (given text : List ℕ) → Relates a b (λ h k. LosesBy label script result given text h k)
    → DialsOnly port a b
dials_loses port a b label script result given text r = dials_by port a b _ (λ h k l. loses-dials label port script result given text h k l) r
