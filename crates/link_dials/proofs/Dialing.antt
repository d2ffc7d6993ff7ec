-- Calls of a link, and the port that they dial.
use Rattle.std.proofs.Common.{◌≡◌, ℕ, List, [], ◌∷◌, ◌++◌, Option, Some, None, Result, Ok, Err, refl, sym, ap, subst, ◌∙◌, append_assoc}
use Rattle.std.proofs.lemmas.List.{append-nil}
use Rattle.world_model.specs.declared.entry.Entry.{Entry}
use Rattle.world_model.specs.declared.entry.Entry.TheVariants.{Began, Answered, Dialed, Sent, Executed, Foreign, Flushed, Reboot, Delivered, Failed, Clock}
use Rattle.world_model.specs.declared.entry.Mark.{Mark}
use Rattle.world_model.specs.declared.entry.Mark.TheVariants as marks
use Rattle.world_model.specs.Entries.{ours}
use Rattle.world_model.specs.History.{History}
use Rattle.world_model.specs.Told.{Tells, Relates}
use Rattle.outside.specs.declared.link.LinkFault.{LinkFault}
use Rattle.outside.specs.declared.link.LinkFault.TheVariants as faults
use Rattle.outside.specs.declared.link.Received.{Received}
use Rattle.outside.specs.declared.link.Received.TheVariants as received
use Rattle.outside.specs.Link.{NotesOnly, sent_as, dialed_as, received_as, noted_as}
use Rattle.link_dials.specs.Dials.{AreDialsOf, Dials, DialsOnly}

-- ---- entries

pub are-append : (port : ℕ) (xs ys : List Entry) → AreDialsOf port xs → AreDialsOf port ys → AreDialsOf port (xs ++ ys)
are-append port [] ys p q = q
are-append port (x ∷ xs) ys p q = (p.0, are-append port xs ys p.1 q)

-- the server dials nothing
pub are-ours : (port : ℕ) (more es : List Entry) → ours more ≡ es → AreDialsOf port es → AreDialsOf port more
are-ours port [] es e s = tt
are-ours port (Executed xid call reply ∷ more) es e s = (tt, are-ours port more es e s)
are-ours port (Foreign call reply ∷ more) es e s = (tt, are-ours port more es e s)
are-ours port (Flushed file from len ∷ more) es e s = (tt, are-ours port more es e s)
are-ours port (Reboot verf ∷ more) es e s = (tt, are-ours port more es e s)
are-ours port (Began lane line op ∷ more) es e s = let t : AreDialsOf port (Began lane line op ∷ ours more) = subst (AreDialsOf port) (sym e) s in (tt, are-ours port more (ours more) refl t.1)
are-ours port (Answered lane line answer ∷ more) es e s = let t : AreDialsOf port (Answered lane line answer ∷ ours more) = subst (AreDialsOf port) (sym e) s in (tt, are-ours port more (ours more) refl t.1)
are-ours port (Dialed p ∷ more) es e s = let t : AreDialsOf port (Dialed p ∷ ours more) = subst (AreDialsOf port) (sym e) s in (t.0, are-ours port more (ours more) refl t.1)
are-ours port (Sent bytes ∷ more) es e s = let t : AreDialsOf port (Sent bytes ∷ ours more) = subst (AreDialsOf port) (sym e) s in (tt, are-ours port more (ours more) refl t.1)
are-ours port (Delivered bytes ∷ more) es e s = let t : AreDialsOf port (Delivered bytes ∷ ours more) = subst (AreDialsOf port) (sym e) s in (tt, are-ours port more (ours more) refl t.1)
are-ours port (Failed ∷ more) es e s = let t : AreDialsOf port (Failed ∷ ours more) = subst (AreDialsOf port) (sym e) s in (tt, are-ours port more (ours more) refl t.1)
are-ours port (Clock ms ∷ more) es e s = let t : AreDialsOf port (Clock ms ∷ ours more) = subst (AreDialsOf port) (sym e) s in (tt, are-ours port more (ours more) refl t.1)

-- ---- histories

pub same-dials : (port : ℕ) (h : List Entry) → Dials port h h
same-dials port h = record { more = []; is = sym (append-nil h); only = tt }

pub then-dials : (port : ℕ) (h k l : List Entry) → Dials port h k → Dials port k l → Dials port h l
then-dials port h k l p q = record {
  more = p.more ++ q.more;
  is = q.is ∙ ap (λ (t : List Entry). t ++ q.more) p.is ∙ append_assoc h p.more q.more;
  only = are-append port p.more q.more p.only q.only;
}

-- ---- what a link tells

-- nothing was called
pub dials_same : (port : ℕ) (a : Option History) → DialsOnly port a a
dials_same port None = tt
dials_same port (Some a) = same-dials port a.entries

-- two calls, one after the other
pub dials_then : (port : ℕ) (a b c : Option History) → DialsOnly port a b → DialsOnly port b c → DialsOnly port a c
dials_then port None b c p q = tt
dials_then port (Some a) None c p q = absurd p
dials_then port (Some a) (Some b) None p q = absurd q
dials_then port (Some a) (Some b) (Some c) p q = then-dials port a.entries b.entries c.entries p q

-- a call that adds these entries
pub dials_call : (port : ℕ) (a b : Option History) (es : List Entry) → AreDialsOf port es → Tells a b es → DialsOnly port a b
dials_call port None b es only t = tt
dials_call port (Some a) None es only t = absurd t
dials_call port (Some a) (Some b) es only t = record { more = t.more; is = t.grown; only = are-ours port t.more es t.seen only }

-- a note of these entries
pub dials_note : (port : ℕ) (a b : Option History) (es : List Entry) → AreDialsOf port es → NotesOnly a b es → DialsOnly port a b
dials_note port None b es only t = tt
dials_note port (Some a) None es only t = absurd t
dials_note port (Some a) (Some b) es only t = record { more = es; is = t.grown; only = only }

-- the history goes on so, by a relation that says it
pub dials_by : (port : ℕ) (a b : Option History) (R : List Entry → List Entry → Type 0) → ((h k : List Entry) → R h k → Dials port h k) → Relates a b R → DialsOnly port a b
dials_by port None b R by r = tt
dials_by port (Some a) None R by r = absurd r
dials_by port (Some a) (Some b) R by r = by a.entries b.entries r

-- ---- each call of a link

dialed-are : {T : Type 0} → (port : ℕ) (result : Result T LinkFault) → AreDialsOf port (dialed_as port result)
dialed-are port (Ok x) = (refl, tt)
dialed-are port (Err faults.Failed) = (refl, (tt, tt))
dialed-are port (Err faults.Memory) = tt

sent-are : {T : Type 0} → (port : ℕ) (rec : List ℕ) (result : Result T LinkFault) → AreDialsOf port (sent_as rec result)
sent-are port rec (Ok x) = (tt, tt)
sent-are port rec (Err faults.Failed) = (tt, (tt, tt))
sent-are port rec (Err faults.Memory) = tt

received-are : (port : ℕ) (rec : List ℕ) (result : Received) → AreDialsOf port (received_as rec result)
received-are port rec received.Whole = (tt, tt)
received-are port rec received.Silent = (tt, tt)
received-are port rec received.Failed = (tt, tt)
received-are port rec received.Memory = tt

noted-are : {T E : Type 0} → (port : ℕ) (mark : Mark) (result : Result T E) → AreDialsOf port (noted_as mark result)
noted-are port (marks.Began lane line op) (Ok x) = (tt, tt)
noted-are port (marks.Answered lane line answer) (Ok x) = (tt, tt)
noted-are port (marks.Clock ms) (Ok x) = (tt, tt)
noted-are port mark (Err e) = tt

pub dials_dialed : {T : Type 0} → (port : ℕ) (a b : Option History) (result : Result T LinkFault) → Tells a b (dialed_as port result) → DialsOnly port a b
dials_dialed port a b result t = dials_call port a b (dialed_as port result) (dialed-are port result) t

pub dials_sent : {T : Type 0} → (port : ℕ) (a b : Option History) (rec : List ℕ) (result : Result T LinkFault) → Tells a b (sent_as rec result) → DialsOnly port a b
dials_sent port a b rec result t = dials_call port a b (sent_as rec result) (sent-are port rec result) t

pub dials_received : (port : ℕ) (a b : Option History) (rec : List ℕ) (result : Received) → Tells a b (received_as rec result) → DialsOnly port a b
dials_received port a b rec result t = dials_call port a b (received_as rec result) (received-are port rec result) t

pub dials_noted : {T E : Type 0} → (port : ℕ) (a b : Option History) (mark : Mark) (result : Result T E) → NotesOnly a b (noted_as mark result) → DialsOnly port a b
dials_noted port a b mark result t = dials_note port a b (noted_as mark result) (noted-are port mark result) t
