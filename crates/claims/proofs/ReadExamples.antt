-- Worked examples of what a read may show, of which moments are recent, and of names in directories that are gone.
use Rattle.std.proofs.Common.{◌≡◌, ◌<◌, ◌+◌, ℕ, zero, suc, true, false, List, [], ◌∷◌, length, Some, refl, sym, ap, ◌∙◌, arith, slice_get}
use Rattle.world_model.specs.declared.entry.Entry.{Entry}
use Rattle.world_model.specs.declared.entry.Entry.TheVariants.{Began, Clock}
use Rattle.world_model.specs.declared.op.Op.TheVariants as ops
use Rattle.world_model.specs.Entries.{At}
use Rattle.world_model.specs.History.{History}
use Rattle.claims.specs.Modes.{Modes, usual_modes}
use Rattle.world_model.specs.Server.{Bytes, Entries, Object, Server, HasBytes, Names, HasName}
use Rattle.world_model.specs.Operations.{AnsweredBefore, EndsAt, unanswered}
use Rattle.claims.specs.ReadTrue.{Since, each_read, opened, kept, HeldSize, IsCurrent, own, held, hole}
use Rattle.claims.specs.Recent.{Recent, Walked}
use Rattle.claims.specs.Recent as recent
use Rattle.world_model.proofs.ServiceExamples.{attr, file, server}
use Rattle.claims.proofs.PutExamples.{origin, one_put, is_pending, pending_is}

-- ---- how long a file was

abbrev still : List Entry → Server → History
still h s = record { entries = h; at = λ n. s }

abbrev any_moment : ℕ → Type 0
any_moment n = Unit {0}

two_bytes : HasBytes (server (file (1 ∷ 2 ∷ []) [] 2)) [] (1 ∷ 2 ∷ []) []
two_bytes = record { file = file (1 ∷ 2 ∷ []) [] 2; is = refl; holds = refl }

-- a file of two bytes has at most two, and so a read from the place 2 on may give none
has_two : HeldSize (still [] (server (file (1 ∷ 2 ∷ []) [] 2))) any_moment 0 [] 2
has_two = record { n = 0; now = 1 ∷ 2 ∷ []; stable = []; late = tt; soon = omega arith; has = two_bytes; short = omega arith }

now_is : (o p : Object) (a b c d : List ℕ) → Some o ≡ Some p → o.holds ≡ Bytes a b → p.holds ≡ Bytes c d → a ≡ c
now_is o p a b c d e x y = let s : o ≡ p = cc e in let q : Bytes a b ≡ Bytes c d = sym x ∙ ap (λ (z : Object). z.holds) s ∙ y in cc q

-- it hasn't at most one
has_not_one : HeldSize (still [] (server (file (1 ∷ 2 ∷ []) [] 2))) any_moment 0 [] 1 → ⊥
has_not_one h =
    let e : 1 ∷ 2 ∷ [] ≡ h.now = now_is (file (1 ∷ 2 ∷ []) [] 2) h.has.file (1 ∷ 2 ∷ []) [] h.now h.stable h.has.is refl h.has.holds in
    let l : 2 ≡ length h.now = ap length e in
    omega (arith, l, h.short)

-- ---- which bytes are current

abbrev empty_put : History
empty_put = still one_put (server (file [] [] 2))

no_byte : (s : Server) (f : List ℕ) (i v : ℕ) (now stable : List ℕ) → s ≡ server (file [] [] 2) → f ≡ [] → HasBytes s f now stable → slice_get now i ≡ Some v → ⊥
no_byte s f i v now stable e g h at =
    let is : (server (file [] [] 2)).object [] ≡ Some h.file = sym (rw (e, g) refl) ∙ h.is in
    let n : [] ≡ now = now_is (file [] [] 2) h.file [] [] now stable is refl h.holds in
    absurd (cc (n, at))

-- the pending byte is current
own_byte : IsCurrent usual_modes origin empty_put 0 1 0 [] 0 97
own_byte = own (record { n = 1; moment = record { late = omega arith; soon = omega arith }; pending = is_pending })

-- a zero at its own place isn't: no pending byte lies past it
no_hole : IsCurrent usual_modes origin empty_put 0 1 0 [] 0 0 → ⊥
no_hole (own p) = let q = pending_is one_put p.pending.w 0 0 p.pending.writes in absurd (cc q.1)
no_hole (held b) = no_byte (server (file [] [] 2)) [] 0 0 b.now b.stable refl refl b.has b.holds
no_hole (hole q u z size lt p) = let r = pending_is one_put p.pending.w q u p.pending.writes in omega (arith, lt, r.0)

-- ---- since when

abbrev asks_each : Modes
asks_each = record { longest = 0; noac = true; nocto = false; apart = λ on. absurd cc }

-- where each read asks again, moments before the read don't count
not_before_the_read : Since asks_each [] 5 2 4 → ⊥
not_before_the_read (each_read on le) = omega (arith, le)
not_before_the_read (opened off le) = absurd (cc off)
not_before_the_read (kept off on some young) = absurd (cc off)

-- else those from the open on do
from_the_open : Since usual_modes [] 5 2 2
from_the_open = opened refl (omega arith)

not_before_the_open : Since usual_modes [] 5 2 1 → ⊥
not_before_the_open (each_read on le) = absurd (cc on)
not_before_the_open (opened off le) = omega (arith, le)
not_before_the_open (kept off on some young) = absurd (cc on)

-- ---- recent moments

abbrev path : List (List ℕ)
path = (97 ∷ []) ∷ []

abbrev within_a_minute : List Entry
within_a_minute = Clock 0 ∷ Clock 59999 ∷ Began 1 1 (ops.Stat path) ∷ []

unanswered_stat : AnsweredBefore within_a_minute 2 3 → ⊥
unanswered_stat a = omega (arith, a.ended.later, a.before)

ends_last : EndsAt within_a_minute 2 3
ends_last = unanswered unanswered_stat refl

young_reading : (j later : ℕ) → At within_a_minute j (Clock later) → j < 2 → later < 0 + 60000
young_reading zero later at lt = let e : 0 ≡ later = cc at in omega (arith, e)
young_reading (suc zero) later at lt = let e : 59999 ≡ later = cc at in omega (arith, e)
young_reading (suc (suc j)) later at lt = omega (arith, lt)

-- what was so less than a minute before an operation is recent for it
is_recent : Recent usual_modes within_a_minute 2 1
is_recent = recent.kept 3 (omega arith) ends_last (omega arith) (record { at = 0; ms = 0; read = refl; before = omega arith; young = young_reading })

-- where nothing is kept, the moments of the operation alone are
not_recent : Recent asks_each within_a_minute 2 1 → ⊥
not_recent (recent.during end none ends within) = omega (arith, within.late)
not_recent (recent.kept end some ends soon young) = omega (arith, some)

-- ---- names in a directory that is gone

abbrev gone_directory : Object
gone_directory = record { attr = attr 0 2; gone = true; holds = Entries (record { name = 97 ∷ []; object = 1 ∷ []; cookie = 1 } ∷ []) }

-- its list stays what it was
names_still : Names (server gone_directory) [] (97 ∷ []) (1 ∷ [])
names_still = record { dir = gone_directory; entries = _; cookie = 1; is = refl; holds = refl; listed = (0, refl) }

-- but no call finds the name there
has_no_more : HasName (server gone_directory) [] (97 ∷ []) (1 ∷ []) → ⊥
has_no_more h = let e : gone_directory ≡ h.names.dir = cc h.names.is in absurd (cc (ap (λ (o : Object). o.gone) e ∙ h.there))

-- an operation that goes by names and attributes that were told before, and are young, finds it
walks_there : Walked usual_modes origin (still within_a_minute (server gone_directory)) 2 path (1 ∷ [])
walks_there = recent.step path [] (1 ∷ []) (97 ∷ []) [] 1 refl (recent.root [] [] refl refl) is_recent names_still
