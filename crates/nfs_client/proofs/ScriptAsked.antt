-- Each operation that begins in a session is one of its script.
use Rattle.std.proofs.Common.{◌≡◌, ℕ, zero, suc, Bool, true, false, nat_eq, List, [], ◌∷◌, ◌++◌, All, subst, arith}
use Rattle.std.specs.Prelude.{if◌then◌else◌}
use Rattle.std.proofs.lemmas.Bool.{eq-eqb}
use Rattle.world_model.specs.declared.entry.Entry.{Entry}
use Rattle.world_model.specs.declared.entry.Entry.TheVariants.{Began, Answered, Dialed, Sent, Executed, Foreign, Flushed, Reboot, Delivered, Failed, Clock}
use Rattle.world_model.specs.declared.op.Op.{Op}
use Rattle.world_model.specs.Entries.{At}
use Rattle.world_model.specs.Follows.{Follows, begun}
use Rattle.nfs_script.specs.declared.script.ScriptLine.{ScriptLine}
use Rattle.nfs_script.specs.Asked.{IsAskedLine}
use Rattle.op_machines.specs.Begun.{IsAsked}
use Rattle.lane_session.specs.Endings.{entries_of}
use Rattle.lane_session.proofs.Asking.{may-begin}
use Rattle.core_session.specs.calls.Sessions.{AreAsked}

-- each operation that begins there may begin
abbrev EachMay : List Entry → Type 0
EachMay [] = Unit {0}
EachMay (Began lane line op ∷ es) = IsAsked op × EachMay es
EachMay (e ∷ es) = EachMay es

of-script : (lane : ℕ) (script : List ScriptLine) → All IsAskedLine script → EachMay (begun lane (entries_of script))
of-script lane [] all = tt
of-script lane (l ∷ ls) all = by (nat_eq l.lane lane) (may-begin l.op (all 0 l (omega arith)).op) (of-script lane ls (λ k d lt. all (suc k) d (omega (arith, lt))))
  where
    by : (b : Bool) → IsAsked l.op → EachMay (begun lane (entries_of ls))
        → EachMay (if b then Began l.lane l.line l.op ∷ begun lane (entries_of ls) else begun lane (entries_of ls))
    by true may rest = (may, rest)
    by false may rest = rest

of-front : (front rest : List Entry) → EachMay (front ++ rest) → EachMay front
of-front [] rest all = tt
of-front (Began lane line op ∷ es) rest all = (all.0, of-front es rest all.1)
of-front (Answered lane line answer ∷ es) rest all = of-front es rest all
of-front (Dialed port ∷ es) rest all = of-front es rest all
of-front (Sent bytes ∷ es) rest all = of-front es rest all
of-front (Executed xid call reply ∷ es) rest all = of-front es rest all
of-front (Foreign call reply ∷ es) rest all = of-front es rest all
of-front (Flushed file from len ∷ es) rest all = of-front es rest all
of-front (Reboot verf ∷ es) rest all = of-front es rest all
of-front (Delivered bytes ∷ es) rest all = of-front es rest all
of-front (Failed ∷ es) rest all = of-front es rest all
of-front (Clock ms ∷ es) rest all = of-front es rest all

-- what holds of all that a lane began holds of each
of-lane : (h : List Entry) (x lane line : ℕ) (op : Op) → At h x (Began lane line op) → EachMay (begun lane h) → IsAsked op
of-lane [] x lane line op at all = absurd (cc)
of-lane (Began l k o ∷ es) zero lane line op at all =
    let lane_is : l ≡ lane = cc in
    let op_is : o ≡ op = cc in
    let same : nat_eq l lane ≡ true = eq-eqb l lane lane_is in
    let here : IsAsked o × EachMay (begun lane es) = (rw same at all) in
    subst IsAsked op_is here.0
of-lane (Began l k o ∷ es) (suc x) lane line op at all = by (nat_eq l lane) (λ rest. of-lane es x lane line op at rest) all
  where
    by : (b : Bool) → (EachMay (begun lane es) → IsAsked op) → EachMay (if b then Began l k o ∷ begun lane es else begun lane es) → IsAsked op
    by true later all = later all.1
    by false later all = later all
of-lane (e ∷ es) zero lane line op at all = absurd (cc)
of-lane (Answered l k answer ∷ es) (suc x) lane line op at all = of-lane es x lane line op at all
of-lane (Dialed port ∷ es) (suc x) lane line op at all = of-lane es x lane line op at all
of-lane (Sent bytes ∷ es) (suc x) lane line op at all = of-lane es x lane line op at all
of-lane (Executed xid call reply ∷ es) (suc x) lane line op at all = of-lane es x lane line op at all
of-lane (Foreign call reply ∷ es) (suc x) lane line op at all = of-lane es x lane line op at all
of-lane (Flushed file from len ∷ es) (suc x) lane line op at all = of-lane es x lane line op at all
of-lane (Reboot verf ∷ es) (suc x) lane line op at all = of-lane es x lane line op at all
of-lane (Delivered bytes ∷ es) (suc x) lane line op at all = of-lane es x lane line op at all
of-lane (Failed ∷ es) (suc x) lane line op at all = of-lane es x lane line op at all
of-lane (Clock ms ∷ es) (suc x) lane line op at all = of-lane es x lane line op at all

pub script-asked : (script : List ScriptLine) (h : List Entry) → All IsAskedLine script → Follows (entries_of script) h → AreAsked h
script-asked script h all f x lane line op at =
    let front = f.begins lane in
    of-lane h x lane line op at (of-front (begun lane h) front.rest (subst EachMay front.is (of-script lane script all)))
