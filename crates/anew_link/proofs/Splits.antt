-- A history that is told anew goes on as the history does.
use Rattle.std.proofs.Common.{if◌then◌else◌, ◌≡◌, ◌≤◌, ◌-◌, ◌+◌, ℕ, zero, suc, Bool, true, false, List, [], ◌∷◌, ◌++◌, length, Option, Some, None, refl, sym, ap, subst, ◌∙◌, arith, append_assoc, length-append}
use Rattle.std.specs.Bool.{OnFalse}
use Rattle.world_model.specs.declared.entry.Entry.{Entry}
use Rattle.world_model.specs.declared.entry.Entry.TheVariants.{Began, Answered, Dialed, Sent, Executed, Foreign, Flushed, Reboot, Delivered, Failed, Clock}
use Rattle.world_model.specs.Entries.{ours}
use Rattle.world_model.specs.History.{History}
use Rattle.world_model.specs.Told.{Tells}
use Rattle.world_model.proofs.Histories.{ours-append}
use Rattle.world_model.specs.declared.entry.Mark.{Mark}
use Rattle.world_model.specs.declared.entry.Mark.TheVariants as marks
use Rattle.outside.specs.Link.{NotesOnly, entry_of}
use Rattle.anew_link.specs.Anew.{is_own, aside, rest_anew, anew, told_anew, KeepsCount}

-- an entry of the client's, or none
pub ours-own : (e : Entry) (es : List Entry) → is_own e ≡ true → ours (e ∷ es) ≡ e ∷ ours es
ours-own (Executed xid call reply) es is = absurd cc
ours-own (Foreign call reply) es is = absurd cc
ours-own (Flushed file start len) es is = absurd cc
ours-own (Reboot verf) es is = absurd cc
ours-own (Began lane line op) es is = refl
ours-own (Answered lane line answer) es is = refl
ours-own (Dialed port) es is = refl
ours-own (Sent bytes) es is = refl
ours-own (Delivered bytes) es is = refl
ours-own Failed es is = refl
ours-own (Clock ms) es is = refl

pub ours-none : (e : Entry) (es : List Entry) → is_own e ≡ false → ours (e ∷ es) ≡ ours es
ours-none (Executed xid call reply) es is = refl
ours-none (Foreign call reply) es is = refl
ours-none (Flushed file start len) es is = refl
ours-none (Reboot verf) es is = refl
ours-none (Began lane line op) es is = absurd cc
ours-none (Answered lane line answer) es is = absurd cc
ours-none (Dialed port) es is = absurd cc
ours-none (Sent bytes) es is = absurd cc
ours-none (Delivered bytes) es is = absurd cc
ours-none Failed es is = absurd cc
ours-none (Clock ms) es is = absurd cc

pub aside-none : (e : Entry) → is_own e ≡ false → ours (aside e) ≡ []
aside-none (Executed xid call reply) is = refl
aside-none (Foreign call reply) is = refl
aside-none (Flushed file start len) is = refl
aside-none (Reboot verf) is = refl
aside-none (Began lane line op) is = absurd cc
aside-none (Answered lane line answer) is = absurd cc
aside-none (Dialed port) is = absurd cc
aside-none (Sent bytes) is = absurd cc
aside-none (Delivered bytes) is = absurd cc
aside-none Failed is = absurd cc
aside-none (Clock ms) is = absurd cc

-- what goes on is told with the client's entries as they are; and as it is where there are no others
pub record GoesOn (old new more : List Entry) : Type 0 where
  pub told : List Entry
  pub is : new ≡ old ++ told
  pub own : ours told ≡ ours more
  pub same : ours more ≡ more → told ≡ more

-- two choices by whether the next entry is the client's
pub by-own : (b : Bool) (e : Entry) (one two : List Entry) → is_own e ≡ b → (if is_own e then one else two) ≡ (if b then one else two)
by-own b e one two is = ap (λ (c : Bool). if c then one else two) is

few-more : (b : Bool) (e : Entry) (es : List Entry) → is_own e ≡ b → length (ours es) ≤ length es → length (ours (e ∷ es)) ≤ length (e ∷ es)
few-more true e es is rest = let here = ap length (ours-own e es is) in omega (arith, rest, here)
few-more false e es is rest = let here = ap length (ours-none e es is) in omega (arith, rest, here)

ours-few : (es : List Entry) → length (ours es) ≤ length es
ours-few [] = omega arith
ours-few (e ∷ es) = few-more (is_own e) e es refl (ours-few es)

-- the client's entries are never all of them where one of the server's goes first
longer : (e : Entry) (es : List Entry) → is_own e ≡ false → ours (e ∷ es) ≡ e ∷ es → ⊥
longer e es is all = let few = ours-few es in let same = ap length (sym (ours-none e es is) ∙ all) in absurd (omega (arith, few, same))

first-more : (b : Bool) (e : Entry) (es : List Entry) → is_own e ≡ b → GoesOn [] (rest_anew es) es → GoesOn [] (rest_anew (e ∷ es)) (e ∷ es)
first-more true e es is r = record { told = e ∷ es; is = by-own true e (e ∷ es) (aside e ++ rest_anew es) is; own = refl; same = λ all. refl }
first-more false e es is r = record {
  told = aside e ++ rest_anew es;
  is = by-own false e (e ∷ es) (aside e ++ rest_anew es) is;
  own = ours-append (aside e) (rest_anew es) ∙ ap (λ (l : List Entry). l ++ ours (rest_anew es)) (aside-none e is) ∙ ap ours r.is ∙ r.own ∙ sym (ours-none e es is);
  same = λ all. absurd (longer e es is all);
}

rest-first : (more : List Entry) → GoesOn [] (rest_anew more) more
rest-first [] = record { told = []; is = refl; own = refl; same = λ all. refl }
rest-first (e ∷ es) = first-more (is_own e) e es refl (rest-first es)

rest-more : (b : Bool) (e : Entry) (es more : List Entry) → is_own e ≡ b → GoesOn (rest_anew es) (rest_anew (es ++ more)) more → GoesOn (rest_anew (e ∷ es)) (rest_anew ((e ∷ es) ++ more)) more
rest-more true e es more is r = record {
  told = more;
  is = by-own true e (e ∷ (es ++ more)) (aside e ++ rest_anew (es ++ more)) is ∙ ap (λ (l : List Entry). l ++ more) (sym (by-own true e (e ∷ es) (aside e ++ rest_anew es) is));
  own = refl;
  same = λ all. refl;
}
rest-more false e es more is r = record {
  told = r.told;
  is = by-own false e (e ∷ (es ++ more)) (aside e ++ rest_anew (es ++ more)) is ∙ ap (λ (l : List Entry). aside e ++ l) r.is ∙ sym (append_assoc (aside e) (rest_anew es) r.told)
      ∙ ap (λ (l : List Entry). l ++ r.told) (sym (by-own false e (e ∷ es) (aside e ++ rest_anew es) is));
  own = r.own;
  same = r.same;
}

rest-on : (h more : List Entry) → GoesOn (rest_anew h) (rest_anew (h ++ more)) more
rest-on [] more = rest-first more
rest-on (e ∷ es) more = rest-more (is_own e) e es more refl (rest-on es more)

on-more : (b : Bool) (k : ℕ) (e : Entry) (es more : List Entry) → is_own e ≡ b → (b ≡ true → GoesOn (anew k es) (anew k (es ++ more)) more)
    → (b ≡ false → GoesOn (anew (suc k) es) (anew (suc k) (es ++ more)) more) → GoesOn (anew (suc k) (e ∷ es)) (anew (suc k) ((e ∷ es) ++ more)) more
on-more true k e es more is left kept =
    let r = left refl in
    record {
      told = r.told;
      is = by-own true e (anew k (es ++ more)) (aside e ++ anew (suc k) (es ++ more)) is ∙ r.is ∙ ap (λ (l : List Entry). l ++ r.told) (sym (by-own true e (anew k es) (aside e ++ anew (suc k) es) is));
      own = r.own;
      same = r.same;
    }
on-more false k e es more is left kept =
    let r = kept refl in
    record {
      told = r.told;
      is = by-own false e (anew k (es ++ more)) (aside e ++ anew (suc k) (es ++ more)) is ∙ ap (λ (l : List Entry). aside e ++ l) r.is ∙ sym (append_assoc (aside e) (anew (suc k) es) r.told)
          ∙ ap (λ (l : List Entry). l ++ r.told) (sym (by-own false e (anew k es) (aside e ++ anew (suc k) es) is));
      own = r.own;
      same = r.same;
    }

pub goes-on : (k : ℕ) (h more : List Entry) → k ≤ length (ours h) → GoesOn (anew k h) (anew k (h ++ more)) more
goes-on zero h more few = rest-on h more
goes-on (suc k) [] more few = absurd (omega (arith, few))
goes-on (suc k) (e ∷ es) more few =
    on-more (is_own e) k e es more refl (λ is. goes-on k es more (let here = ap length (ours-own e es is) in omega (arith, few, here)))
    (λ is. goes-on (suc k) es more (let here = ap length (ours-none e es is) in omega (arith, few, here)))

-- ---- what a link tells

-- as many entries of the client's as before stand before its own
counts : (own : ℕ) (old new : History) (more : List Entry) → new.entries ≡ old.entries ++ more → length (ours new.entries) - (own + length (ours more)) ≡ length (ours old.entries) - own
counts own old new more is =
    let whole = ap length (ap ours is ∙ ours-append old.entries more) in
    let parts = length-append (ours old.entries) (ours more) in
    omega (arith, whole, parts)

module _ (own n : ℕ) (old new : History) (more : List Entry) (is : new.entries ≡ old.entries ++ more) (many : n ≡ length (ours more)) where
  abbrev before : ℕ
  before = length (ours old.entries) - own

  on : GoesOn (anew before old.entries) (anew before (old.entries ++ more)) more
  on = goes-on before old.entries more (omega arith)

  grown : anew (length (ours new.entries) - (own + n)) new.entries ≡ anew before old.entries ++ on.told
  grown =
      ap (λ (k : ℕ). anew (length (ours new.entries) - (own + k)) new.entries) many ∙ ap (λ (k : ℕ). anew k new.entries) (counts own old new more is) ∙ ap (anew before) is ∙ on.is

pub tells-anew : (own n : ℕ) (old new : Option History) (es : List Entry) → n ≡ length es → Tells old new es → Tells (told_anew own old) (told_anew (own + n) new) es
tells-anew own n None new es many t = tt
tells-anew own n (Some old) None es many t = absurd t
tells-anew own n (Some old) (Some new) es many t =
    let so : n ≡ length (ours t.more) = many ∙ ap length (sym t.seen) in
    record {
      more = (on own n old new t.more t.grown so).told;
      grown = grown own n old new t.more t.grown so;
      seen = (on own n old new t.more t.grown so).own ∙ t.seen;
      earlier = λ m le. refl;
    }

pub notes-anew : (own n : ℕ) (old new : Option History) (es : List Entry) → n ≡ length es → ours es ≡ es → NotesOnly old new es → NotesOnly (told_anew own old) (told_anew (own + n) new) es
notes-anew own n None new es many all t = tt
notes-anew own n (Some old) None es many all t = absurd t
notes-anew own n (Some old) (Some new) es many all t =
    let so : n ≡ length (ours es) = many ∙ ap length (sym all) in
    record {
      grown = grown own n old new es t.grown so ∙ ap (λ (l : List Entry). anew (length (ours old.entries) - own) old.entries ++ l) ((on own n old new es t.grown so).same all);
      earlier = λ m le. refl;
    }

pub none-more : (own : ℕ) (old new : Option History) (es : List Entry) → es ≡ [] → Tells old new es → Tells (told_anew own old) (told_anew own new) es
none-more own old new es is t = subst (λ (k : ℕ). Tells (told_anew own old) (told_anew k new) es) (omega arith) (tells-anew own 0 old new es (sym (ap length is)) t)

pub mark-own : (mark : Mark) → ours (entry_of mark ∷ []) ≡ entry_of mark ∷ []
mark-own (marks.Began lane line op) = refl
mark-own (marks.Answered lane line answer) = refl
mark-own (marks.Clock ms) = refl

-- ---- how many entries are left out

pub count-then : (first now n : ℕ) (a b c : Option History) (es : List Entry) → n ≡ length es → KeepsCount first now a b → Tells b c es → KeepsCount first (now + n) a c
count-then first now n None b c es many p t = tt
count-then first now n (Some a) None c es many p t = absurd p
count-then first now n (Some a) (Some b) None es many p t = absurd t
count-then first now n (Some a) (Some b) (Some c) es many p t =
    let so : n ≡ length (ours t.more) = many ∙ ap length (sym t.seen) in
    ap (λ (k : ℕ). length (ours c.entries) - (now + k)) so ∙ counts now b c t.more t.grown ∙ p

pub count-note : (first now n : ℕ) (a b c : Option History) (es : List Entry) → n ≡ length es → ours es ≡ es → KeepsCount first now a b → NotesOnly b c es → KeepsCount first (now + n) a c
count-note first now n None b c es many all p t = tt
count-note first now n (Some a) None c es many all p t = absurd p
count-note first now n (Some a) (Some b) None es many all p t = absurd t
count-note first now n (Some a) (Some b) (Some c) es many all p t =
    let so : n ≡ length (ours es) = many ∙ ap length (sym all) in
    ap (λ (k : ℕ). length (ours c.entries) - (now + k)) so ∙ counts now b c es t.grown ∙ p

pub count-same : (own : ℕ) (t : Option History) → KeepsCount own own t t
count-same own None = tt
count-same own (Some t) = refl

pub untold : (b : Bool) (own : ℕ) (t : Option History) → OnFalse b (t ≡ None) → OnFalse b (told_anew own t ≡ None)
untold true own t h = tt
untold false own t h = ap (told_anew own) h
