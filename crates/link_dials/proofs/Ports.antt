-- Where the records of a session go, from the dials of its parts.
use Rattle.std.proofs.Common.{inl, inr, ◌⊎◌, ◌≡◌, ◌≤◌, ◌<◌, ◌+◌, ◌-◌, ℕ, zero, suc, List, [], ◌∷◌, ◌++◌, length, Option, Some, None, refl, sym, ap, subst, ◌∙◌, append_assoc, arith}
use Rattle.std.proofs.lemmas.Bool.{cases_lt}
use Rattle.std.proofs.lemmas.List.{append-nil, length-append}
use Rattle.world_model.specs.declared.entry.Entry.{Entry}
use Rattle.world_model.specs.declared.entry.Entry.TheVariants.{Began, Answered, Dialed, Sent, Executed, Foreign, Flushed, Reboot, Delivered, Failed, Clock}
use Rattle.world_model.specs.declared.message.Call.{Call}
use Rattle.world_model.specs.Entries.{At, ours}
use Rattle.world_model.specs.History.{History}
use Rattle.world_model.specs.Messages.{SpellsCall}
use Rattle.world_model.specs.Told.{Adds, Tells, Relates}
use Rattle.world_model.proofs.Histories.{IsQuiet, quiet_by, steps_on}
use Rattle.world_model.proofs.Places.{At-grow, At-below, At-last, At-cases, At-back, length_last}
use Rattle.link_dials.specs.Dials.{AreDialsOf, IsDialOf, Dials, DialsOnly, SendsTo}
use Rattle.link_dials.specs.Sendings.{DialedLast, port_for, GoesToPorts}
use Rattle.link_dials.proofs.Dialing.{are-append, same-dials, then-dials}

abbrev one : Entry → List Entry
one e = e ∷ []

-- ---- the latest dial

-- a longer history has the same latest dial before a place of the shorter
pub last-grow : (h more : List Entry) (n port : ℕ) → n ≤ length h → DialedLast h n port → DialedLast (h ++ more) n port
last-grow h more n port le d = record {
  at = d.at;
  earlier = d.earlier;
  dialed = At-grow h more d.at (Dialed port) d.dialed;
  latest = λ i other at low. d.latest i other (At-back h more i (Dialed other) at (omega (arith, le, low))) low;
}

-- a dial is the latest
last-dial : (h : List Entry) (port : ℕ) → DialedLast (h ++ one (Dialed port)) (length (h ++ one (Dialed port))) port
last-dial h port = record {
  at = length h;
  earlier = let e = length_last h (Dialed port) in omega (arith, e);
  dialed = At-last h (Dialed port);
  latest = λ i other at low. let e = length_last h (Dialed port) in omega (arith, e, low);
}

data Dialing (e : Entry) : Type 0 where
  dials : (port : ℕ) → e ≡ Dialed port → Dialing e
  mute : ((port : ℕ) → e ≡ Dialed port → ⊥) → Dialing e

dialing-of : (e : Entry) → Dialing e
dialing-of (Dialed port) = dials port refl
dialing-of (Began lane line op) = mute (λ port is. cc)
dialing-of (Answered lane line answer) = mute (λ port is. cc)
dialing-of (Sent bytes) = mute (λ port is. cc)
dialing-of (Executed xid call reply) = mute (λ port is. cc)
dialing-of (Foreign call reply) = mute (λ port is. cc)
dialing-of (Flushed file from len) = mute (λ port is. cc)
dialing-of (Reboot verf) = mute (λ port is. cc)
dialing-of (Delivered bytes) = mute (λ port is. cc)
dialing-of Failed = mute (λ port is. cc)
dialing-of (Clock ms) = mute (λ port is. cc)

-- an entry that dials nothing leaves the latest dial
last-mute : (h : List Entry) (e : Entry) (port : ℕ) → ((p : ℕ) → e ≡ Dialed p → ⊥) → DialedLast h (length h) port → DialedLast (h ++ one e) (length (h ++ one e)) port
last-mute h e port silent d = record {
  at = d.at;
  earlier = let l = length_last h e in let b = d.earlier in omega (arith, l, b);
  dialed = At-grow h (one e) d.at (Dialed port) d.dialed;
  latest = λ i other at low. elim (At-cases h e i (Dialed other) at) [
    | inl there ↦ d.latest i other there (At-below h i (Dialed other) there)
    | inr now ↦ absurd (silent other now.1)
  ];
}

-- one of the port is the latest itself
last-one : (h : List Entry) (e : Entry) (port : ℕ) → IsDialOf port e → DialedLast h (length h) port → DialedLast (h ++ one e) (length (h ++ one e)) port
last-one h e port of d = elim (dialing-of e) [
  | dials p is ↦ (let same : p ≡ port = subst (IsDialOf port) is of in
      subst (λ (f : Entry). DialedLast (h ++ one f) (length (h ++ one f)) port) (ap Dialed (sym same) ∙ sym is) (last-dial h port))
  | mute none ↦ last-mute h e port none d
]

-- so is the port the latest at each place of entries that dial no other
pub last-on : (h more : List Entry) (port n : ℕ) → AreDialsOf port more → DialedLast h (length h) port → n ≤ length more → DialedLast (h ++ more) (length h + n) port
last-on h more port zero are d le = subst (λ (m : ℕ). DialedLast (h ++ more) m port) (let e : length h ≡ length h + 0 = omega arith in e) (last-grow h more (length h) port (omega arith) d)
last-on h [] port (suc n) are d le = absurd (omega (arith, le))
last-on h (e ∷ more) port (suc n) are d le =
    let r : DialedLast ((h ++ one e) ++ more) (length (h ++ one e) + n) port = last-on (h ++ one e) more port n are.1 (last-one h e port are.0 d) (omega (arith, le)) in
    let q : DialedLast (h ++ (e ∷ more)) (length (h ++ one e) + n) port = subst (λ (l : List Entry). DialedLast l (length (h ++ one e) + n) port) (append_assoc h (one e) more) r in
    subst (λ (m : ℕ). DialedLast (h ++ (e ∷ more)) m port) (let l = length_last h e in let s : length (h ++ one e) + n ≡ length h + suc n = omega (arith, l) in s) q

last-quiet : (port : ℕ) → IsQuiet (λ h. DialedLast h (length h) port)
last-quiet port = quiet_by (λ h. DialedLast h (length h) port) (λ h e q d. last-mute h e port (λ p is. quiet-mute e p q is) d)
  where
    quiet-mute : (e : Entry) (p : ℕ) → ours (e ∷ []) ≡ [] → e ≡ Dialed p → ⊥
    quiet-mute e p q is = let t : Dialed p ∷ [] ≡ [] = subst (λ (d : Entry). ours (d ∷ []) ≡ []) is q in absurd cc

added-last : (port : ℕ) (a b : History) → Adds a b (one (Dialed port)) → DialedLast b.entries (length b.entries) port
added-last port a b t = steps_on (λ h. Unit {0}) (λ h. DialedLast h (length h) port) a b (Dialed port) (λ h more q p. tt) (last-quiet port) (λ h p. last-dial h port) t tt

-- a connection was made, and no other port was dialed before it
pub dialed_last : (port : ℕ) (a b c : Option History) → DialsOnly port a b → Tells b c (Dialed port ∷ []) → Relates a c (λ h k. DialedLast k (length k) port)
dialed_last port None b c d t = tt
dialed_last port (Some a) None c d t = absurd d
dialed_last port (Some a) (Some b) None d t = absurd t
dialed_last port (Some a) (Some b) (Some c) d t = added-last port b c t

-- ---- what is sent

-- a dial behind h is one of the entries that were added
dial-of : (port : ℕ) (more : List Entry) → AreDialsOf port more → (i p : ℕ) → At more i (Dialed p) → p ≡ port
dial-of port [] only i p at = absurd cc
dial-of port (e ∷ es) only zero p at = subst (IsDialOf port) (first at) only.0
  where
    first : At (e ∷ es) 0 (Dialed p) → e ≡ Dialed p
    first at = cc
dial-of port (e ∷ es) only (suc i) p at = dial-of port es only.1 i p at

pub behind : (h more : List Entry) (i : ℕ) (e : Entry) → At (h ++ more) i e → length h ≤ i → (j : ℕ) × At more j e
behind [] more i e at low = (i, at)
behind (x ∷ h) more zero e at low = absurd (omega (arith, low))
behind (x ∷ h) more (suc i) e at low = behind h more i e at (omega (arith, low))

added-dial : (port : ℕ) (h k : List Entry) → Dials port h k → (i p : ℕ) → At k i (Dialed p) → length h ≤ i → p ≡ port
added-dial port h k d i p at low = let b = behind h d.more i (Dialed p) (subst (λ (l : List Entry). At l i (Dialed p)) d.is at) low in dial-of port d.more d.only b.0 p b.1

before : (port : ℕ) (h k : List Entry) → Dials port h k → (i : ℕ) (e : Entry) → At k i e → i < length h → At h i e
before port h k d i e at low = At-back h d.more i e (subst (λ (l : List Entry). At l i e) d.is at) low

kept : (port p n : ℕ) (h k : List Entry) → Dials port h k → n ≤ length h → DialedLast h n p → DialedLast k n p
kept port p n h k d le l = subst (λ (t : List Entry). DialedLast t n p) (sym d.is) (last-grow h d.more n p le l)

length-of : (port : ℕ) (h k : List Entry) (d : Dials port h k) → length k ≡ length h + length d.more
length-of port h k d = ap (λ (l : List Entry). length l) d.is ∙ length-append h d.more

abbrev place-or : (n m : ℕ) → Type 0
place-or n m = (n < m) ⊎ (m ≤ n)

side : (n m : ℕ) → place-or n m
side n m = cases_lt n m

-- nothing was sent
pub sends-none : (port : ℕ) (h k : List Entry) → Dials port h k → ((i : ℕ) (bytes : List ℕ) → At k i (Sent bytes) → length h ≤ i → ⊥) → SendsTo port h k
sends-none port h k d none = record { dials = d; sent = λ i bytes at low. absurd (none i bytes at low) }

-- over a connection to the port
pub sends-over : (port : ℕ) (h k : List Entry) → DialedLast h (length h) port → Dials port h k → SendsTo port h k × DialedLast k (length k) port
sends-over port h k l d = (record { dials = d; sent = λ i bytes at low. at-place i (At-below k i (Sent bytes) at) low }, last)
  where
    by-length : (n : ℕ) → n ≤ length d.more → DialedLast k (length h + n) port
    by-length n le = subst (λ (t : List Entry). DialedLast t (length h + n) port) (sym d.is) (last-on h d.more port n d.only l le)

    last : DialedLast k (length k) port
    last = subst (λ (n : ℕ). DialedLast k n port) (sym (length-of port h k d)) (by-length (length d.more) (omega arith))

    at-place : (i : ℕ) → i < length k → length h ≤ i → DialedLast k i port
    at-place i below low =
        let e = length-of port h k d in
        let r = by-length (i - length h) (omega (arith, e, below, low)) in
        subst (λ (n : ℕ). DialedLast k n port) (let s : length h + (i - length h) ≡ i = omega (arith, low) in s) r

-- one after the other
pub sends-then : (port : ℕ) (h k l : List Entry) → SendsTo port h k → SendsTo port k l → SendsTo port h l
sends-then port h k l p q = record {
  dials = then-dials port h k l p.dials q.dials;
  sent = λ i bytes at low. elim (side i (length k)) [
    | inl lt ↦ kept port port i k l q.dials (omega (arith, lt)) (p.sent i bytes (before port k l q.dials i (Sent bytes) at lt) low)
    | inr ge ↦ q.sent i bytes at ge
  ];
}

-- ---- the ports of a session

-- nothing was sent or dialed, whatever others did
pub record IsApart (h : List Entry) : Type 0 where
  pub unsent : (i : ℕ) (bytes : List ℕ) → At h i (Sent bytes) → ⊥
  pub undialed : (i port : ℕ) → At h i (Dialed port) → ⊥

apart-on : (h : List Entry) (e : Entry) → ours (e ∷ []) ≡ [] → IsApart h → IsApart (h ++ one e)
apart-on h e q a = record {
  unsent = λ i bytes at. elim (At-cases h e i (Sent bytes) at) [
    | inl there ↦ a.unsent i bytes there
    | inr now ↦ (let t : Sent bytes ∷ [] ≡ [] = subst (λ (d : Entry). ours (d ∷ []) ≡ []) now.1 q in absurd cc)
  ];
  undialed = λ i port at. elim (At-cases h e i (Dialed port) at) [
    | inl there ↦ a.undialed i port there
    | inr now ↦ (let t : Dialed port ∷ [] ≡ [] = subst (λ (d : Entry). ours (d ∷ []) ≡ []) now.1 q in absurd cc)
  ];
}

apart-of : (h : List Entry) → ours h ≡ [] → IsApart h
apart-of h q = quiet_by IsApart apart-on [] h q (record { unsent = λ i bytes at. cc; undialed = λ i port at. cc })

pub ports-none : (mount nfs : ℕ) (h : List Entry) → ours h ≡ [] → GoesToPorts mount nfs h
ports-none mount nfs h q =
    let a = apart-of h q in
    record {
      sent = λ i xid call bytes at spells. absurd (a.unsent i bytes at);
      dialed = λ i port at. absurd (a.undialed i port at);
      turned = λ i j port at bt lt. absurd (a.undialed i nfs at);
    }

-- calls of MOUNT were sent to its port
pub ports-mount : (mount nfs : ℕ) (h k : List Entry) → ours h ≡ [] → SendsTo mount h k
    → ((i xid : ℕ) (call : Call) (bytes : List ℕ) → At k i (Sent bytes) → SpellsCall xid call bytes → port_for mount nfs call ≡ mount) → GoesToPorts mount nfs k
ports-mount mount nfs h k q s only = record {
  sent = λ i xid call bytes at spells. elim (side i (length h)) [
    | inl lt ↦ absurd (a.unsent i bytes (before mount h k s.dials i (Sent bytes) at lt))
    | inr ge ↦ subst (λ (p : ℕ). DialedLast k i p) (sym (only i xid call bytes at spells)) (s.sent i bytes at ge)
  ];
  dialed = λ i port at. inl (only-mount i port at);
  turned = λ i j port at bt lt. only-mount j port bt ∙ sym (only-mount i nfs at);
}
  where
    a : IsApart h
    a = apart-of h q

    only-mount : (i port : ℕ) → At k i (Dialed port) → port ≡ mount
    only-mount i port at = elim (side i (length h)) [
      | inl lt ↦ absurd (a.undialed i port (before mount h k s.dials i (Dialed port) at lt))
      | inr ge ↦ added-dial mount h k s.dials i port at ge
    ]

-- calls of NFS were sent to its port after that
pub ports-then : (mount nfs : ℕ) (h k : List Entry) → GoesToPorts mount nfs h → SendsTo nfs h k
    → ((i xid : ℕ) (call : Call) (bytes : List ℕ) → At k i (Sent bytes) → length h ≤ i → SpellsCall xid call bytes → port_for mount nfs call ≡ nfs) → GoesToPorts mount nfs k
ports-then mount nfs h k p s only = record {
  sent = λ i xid call bytes at spells. elim (side i (length h)) [
    | inl lt ↦ kept nfs (port_for mount nfs call) i h k s.dials (omega (arith, lt)) (p.sent i xid call bytes (before nfs h k s.dials i (Sent bytes) at lt) spells)
    | inr ge ↦ subst (λ (n : ℕ). DialedLast k i n) (sym (only i xid call bytes at ge spells)) (s.sent i bytes at ge)
  ];
  dialed = λ i port at. elim (side i (length h)) [
    | inl lt ↦ p.dialed i port (before nfs h k s.dials i (Dialed port) at lt)
    | inr ge ↦ inr (added-dial nfs h k s.dials i port at ge)
  ];
  turned = λ i j port at bt less. elim (side j (length h)) [
    | inl lt ↦ p.turned i j port (before nfs h k s.dials i (Dialed nfs) at (omega (arith, less, lt))) (before nfs h k s.dials j (Dialed port) bt lt) less
    | inr ge ↦ added-dial nfs h k s.dials j port bt ge
  ];
}
