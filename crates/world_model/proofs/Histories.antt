-- From what a call of a link adds to what the steps of a client keep.
use Rattle.std.proofs.Common.{◌≡◌, ◌≤◌, ℕ, List, [], ◌∷◌, ◌++◌, length, arith, refl, sym, ap, subst, ◌∙◌, append_assoc}
use Rattle.std.proofs.lemmas.List.{append-nil, length-append}
use Rattle.world_model.specs.declared.entry.Entry.{Entry}
use Rattle.world_model.specs.declared.entry.Entry.TheVariants.{Began, Answered, Dialed, Sent, Executed, Foreign, Flushed, Reboot, Delivered, Failed, Clock}
use Rattle.world_model.specs.Entries.{ours}
use Rattle.world_model.specs.History.{History}
use Rattle.world_model.specs.Told.{Adds}

pub ours-append : (xs ys : List Entry) → ours (xs ++ ys) ≡ ours xs ++ ours ys
ours-append [] ys = refl
ours-append (Executed xid call reply ∷ xs) ys = ours-append xs ys
ours-append (Foreign call reply ∷ xs) ys = ours-append xs ys
ours-append (Flushed file from len ∷ xs) ys = ours-append xs ys
ours-append (Reboot verf ∷ xs) ys = ours-append xs ys
ours-append (Began lane line op ∷ xs) ys = ap (λ t. Began lane line op ∷ t) (ours-append xs ys)
ours-append (Answered lane line answer ∷ xs) ys = ap (λ t. Answered lane line answer ∷ t) (ours-append xs ys)
ours-append (Dialed port ∷ xs) ys = ap (λ t. Dialed port ∷ t) (ours-append xs ys)
ours-append (Sent bytes ∷ xs) ys = ap (λ t. Sent bytes ∷ t) (ours-append xs ys)
ours-append (Delivered bytes ∷ xs) ys = ap (λ t. Delivered bytes ∷ t) (ours-append xs ys)
ours-append (Failed ∷ xs) ys = ap (λ t. Failed ∷ t) (ours-append xs ys)
ours-append (Clock ms ∷ xs) ys = ap (λ t. Clock ms ∷ t) (ours-append xs ys)

-- the server at earlier moments is what it was
abbrev pub IsEarlier : History → History → Type 0
IsEarlier old new = (n : ℕ) → n ≤ length old.entries → new.at n ≡ old.at n

-- a call that adds these entries and nothing of the server's
pub adds_more : (old new : History) (more es : List Entry) → new.entries ≡ old.entries ++ more → ours more ≡ es → IsEarlier old new → Adds old new es
adds_more old new more es grown seen earlier = record { more = more; grown = grown; seen = seen; earlier = earlier }

-- a call that adds nothing
pub adds_none : (old new : History) → new.entries ≡ old.entries → IsEarlier old new → Adds old new []
adds_none old new e earlier = record { more = []; grown = e ∙ sym (append-nil old.entries); seen = refl; earlier = earlier }

-- two calls one after the other
pub adds_then : (a b c : History) (es fs : List Entry) → Adds a b es → Adds b c fs → Adds a c (es ++ fs)
adds_then a b c es fs p q = record {
  more = p.more ++ q.more;
  grown = q.grown ∙ ap (λ (t : List Entry). t ++ q.more) p.grown ∙ append_assoc a.entries p.more q.more;
  seen = rw (ours-append, p.seen, q.seen) refl;
  earlier = λ n le. q.earlier n (no_shorter a b es n p le) ∙ p.earlier n le;
}
  where
    no_shorter : (a b : History) (es : List Entry) (n : ℕ) → Adds a b es → n ≤ length a.entries → n ≤ length b.entries
    no_shorter a b es n p le = rw (p.grown, length-append a.entries p.more) (omega (arith, le))

-- the client's entries after a call
pub ours_after : (a b : History) (es : List Entry) → Adds a b es → ours b.entries ≡ ours a.entries ++ es
ours_after a b es p = ap ours p.grown ∙ ours-append a.entries p.more ∙ ap (λ (t : List Entry). ours a.entries ++ t) p.seen

-- the entries before and after the first of the client's
pub record Parts (more : List Entry) (e : Entry) (es : List Entry) : Type 0 where
  pub quiet : List Entry
  pub rest : List Entry
  pub is : more ≡ (quiet ++ e ∷ []) ++ rest
  pub before : ours quiet ≡ []
  pub after : ours rest ≡ es

behind : (s : Entry) (more : List Entry) (e : Entry) (es : List Entry) → ((t : List Entry) → ours (s ∷ t) ≡ ours t) → Parts more e es → Parts (s ∷ more) e es
behind s more e es silent p = record { quiet = s ∷ p.quiet; rest = p.rest; is = ap (λ t. s ∷ t) p.is; before = silent p.quiet ∙ p.before; after = p.after }

here : (d : Entry) (more : List Entry) (e : Entry) (es : List Entry) → (d ∷ ours more) ≡ e ∷ es → Parts (d ∷ more) e es
here d more e es h = record { quiet = []; rest = more; is = ap (λ (x : Entry). x ∷ more) (head h); before = refl; after = tail h }
  where
    head : d ∷ ours more ≡ e ∷ es → d ≡ e
    head h = cc

    tail : d ∷ ours more ≡ e ∷ es → ours more ≡ es
    tail h = cc

pub parts : (more : List Entry) (e : Entry) (es : List Entry) → ours more ≡ e ∷ es → Parts more e es
parts [] e es h = absurd cc
parts (Executed xid call reply ∷ more) e es h = behind (Executed xid call reply) more e es (λ t. refl) (parts more e es h)
parts (Foreign call reply ∷ more) e es h = behind (Foreign call reply) more e es (λ t. refl) (parts more e es h)
parts (Flushed file from len ∷ more) e es h = behind (Flushed file from len) more e es (λ t. refl) (parts more e es h)
parts (Reboot verf ∷ more) e es h = behind (Reboot verf) more e es (λ t. refl) (parts more e es h)
parts (Began lane line op ∷ more) e es h = here (Began lane line op) more e es h
parts (Answered lane line answer ∷ more) e es h = here (Answered lane line answer) more e es h
parts (Dialed port ∷ more) e es h = here (Dialed port) more e es h
parts (Sent bytes ∷ more) e es h = here (Sent bytes) more e es h
parts (Delivered bytes ∷ more) e es h = here (Delivered bytes) more e es h
parts (Failed ∷ more) e es h = here Failed more e es h
parts (Clock ms ∷ more) e es h = here (Clock ms) more e es h

-- entries of the server keep the fact
abbrev pub IsQuiet : (List Entry → Type 0) → Type 0
IsQuiet P = (h more : List Entry) → ours more ≡ [] → P h → P (h ++ more)

-- A fact that each entry of the server keeps is kept by any number of them.
pub quiet_by : (P : List Entry → Type 0) → ((h : List Entry) (e : Entry) → ours (e ∷ []) ≡ [] → P h → P (h ++ e ∷ [])) → IsQuiet P
quiet_by P one h [] q p = rw append-nil p
quiet_by P one h (e ∷ more) q p =
    let k = one_more e more q in
    subst P (append_assoc h (e ∷ []) more) (quiet_by P one (h ++ e ∷ []) more k.1 (one h e k.0 p))
  where
    one_more : (d : Entry) (ds : List Entry) → ours (d ∷ ds) ≡ [] → (ours (d ∷ []) ≡ []) × (ours ds ≡ [])
    one_more (Executed xid call reply) ds q = (refl, q)
    one_more (Foreign call reply) ds q = (refl, q)
    one_more (Flushed file from len) ds q = (refl, q)
    one_more (Reboot verf) ds q = (refl, q)
    one_more (Began lane line op) ds q = absurd cc
    one_more (Answered lane line answer) ds q = absurd cc
    one_more (Dialed port) ds q = absurd cc
    one_more (Sent bytes) ds q = absurd cc
    one_more (Delivered bytes) ds q = absurd cc
    one_more Failed ds q = absurd cc
    one_more (Clock ms) ds q = absurd cc

-- a call that adds nothing of the client's
pub quietly : (P : List Entry → Type 0) (old new : History) → IsQuiet P → Adds old new [] → P old.entries → P new.entries
quietly P old new q a p = rw a.grown (q old.entries a.more a.seen p)

-- a call that adds one entry, and a step of the client that goes with it
pub steps_on : (P Q : List Entry → Type 0) (old new : History) (e : Entry) → IsQuiet P → IsQuiet Q → ((h : List Entry) → P h → Q (h ++ e ∷ [])) → Adds old new (e ∷ []) → P old.entries → Q new.entries
steps_on P Q old new e qp qq step a p =
    let s = parts a.more e [] a.seen in
    let one : Q ((old.entries ++ s.quiet) ++ e ∷ []) = step (old.entries ++ s.quiet) (qp old.entries s.quiet s.before p) in
    let two : Q (((old.entries ++ s.quiet) ++ e ∷ []) ++ s.rest) = qq ((old.entries ++ s.quiet) ++ e ∷ []) s.rest s.after one in
    let same : ((old.entries ++ s.quiet) ++ e ∷ []) ++ s.rest ≡ new.entries = simp append_assoc refl ∙ sym (a.grown ∙ ap (λ t. old.entries ++ t) (s.is ∙ append_assoc s.quiet (e ∷ []) s.rest)) in
    subst Q same two

-- a call that adds two entries, and two steps of the client
pub steps_on_twice : (P Q R : List Entry → Type 0) (old new : History) (e f : Entry) → IsQuiet P → IsQuiet Q → IsQuiet R
    → ((h : List Entry) → P h → Q (h ++ e ∷ [])) → ((h : List Entry) → Q h → R (h ++ f ∷ []))
    → Adds old new (e ∷ f ∷ []) → P old.entries → R new.entries
steps_on_twice P Q R old new e f qp qq qr first second a p =
    let s = parts a.more e (f ∷ []) a.seen in
    let mid : History = record { entries = (old.entries ++ s.quiet) ++ e ∷ []; at = new.at } in
    let one : Q mid.entries = first (old.entries ++ s.quiet) (qp old.entries s.quiet s.before p) in
    let same : new.entries ≡ mid.entries ++ s.rest = a.grown ∙ ap (λ t. old.entries ++ t) (s.is ∙ append_assoc s.quiet (e ∷ []) s.rest) ∙ sym (simp append_assoc refl) in
    steps_on Q R mid new f qq qr second (record { more = s.rest; grown = same; seen = s.after; earlier = λ n le. refl }) one
