-- Calls of a link one after the other.
use Rattle.std.proofs.Common.{inl, inr, ◌≡◌, ◌≤◌, ◌⊎◌, ℕ, List, [], ◌∷◌, ◌++◌, Option, Some, None, refl, sym, ap, subst, arith}
use Rattle.world_model.specs.declared.entry.Entry.{Entry}
use Rattle.world_model.specs.declared.entry.Entry.TheVariants.{Dialed, Sent, Delivered, Failed}
use Rattle.world_model.specs.History.{History}
use Rattle.world_model.specs.Told.{Tells}
use Rattle.world_model.proofs.Histories.{adds_then, adds_none}
use Rattle.outside.specs.Causes.{Rose}
use Rattle.port_finder.specs.Does.{HasFailed, Does}

tells_both : (a b c : Option History) (es fs : List Entry) → Tells a b es → Tells b c fs → Tells a c (es ++ fs)
tells_both None b c es fs p q = tt
tells_both (Some t) None c es fs p q = absurd p
tells_both (Some t) (Some u) None es fs p q = absurd q
tells_both (Some t) (Some u) (Some v) es fs p q = adds_then t u v es fs p q

tells_same : (a : Option History) → Tells a a []
tells_same None = tt
tells_same (Some t) = adds_none t t refl (λ n le. refl)

failed_either : (es fs : List Entry) → HasFailed (es ++ fs) → HasFailed es ⊎ HasFailed fs
failed_either [] fs f = inr f
failed_either (e ∷ es) fs f = elim f [
  | inl here ↦ inl (inl here)
  | inr more ↦ elim (failed_either es fs more) [ inl l ↦ inl (inr l) | inr r ↦ inr r ]
]

-- nothing was called
pub does_none : (a : Option History) (f : ℕ) (P : List Entry → Type 0) → P [] → Does a a f f P
does_none a f P p = record { entries = []; tells = tells_same a; later = omega arith; cause = λ none. absurd none; is = p }

-- two calls in a row
pub does_then : (a b c : Option History) (f g i : ℕ) (P Q R : List Entry → Type 0) → ((es fs : List Entry) → P es → Q fs → R (es ++ fs)) → Does a b f g P → Does b c g i Q → Does a c f i R
does_then a b c f g i P Q R join p q = record {
  entries = p.entries ++ q.entries;
  tells = tells_both a b c p.entries q.entries p.tells q.tells;
  later = omega (arith, p.later, q.later);
  cause = λ failed. elim (failed_either p.entries q.entries failed) [
    | inl l ↦ let r = p.cause l in omega (arith, r, q.later)
    | inr r ↦ let s = q.cause r in omega (arith, s, p.later)
  ];
  is = join p.entries q.entries p.is q.is;
}

-- the same calls, with something else said of them
pub does_so : (a b : Option History) (f g : ℕ) (P Q : List Entry → Type 0) → ((es : List Entry) → P es → Q es) → Does a b f g P → Does a b f g Q
does_so a b f g P Q less p = record { entries = p.entries; tells = p.tells; later = p.later; cause = p.cause; is = less p.entries p.is }

-- an entry that is no failure
abbrev pub IsCalm : Entry → Type 0
IsCalm e = e ≡ Failed → ⊥

pub dialed_calm : (port : ℕ) → IsCalm (Dialed port)
dialed_calm port e = absurd cc

pub sent_calm : (bytes : List ℕ) → IsCalm (Sent bytes)
sent_calm bytes e = absurd cc

-- one call, by the entries that it added
pub does_call : (a b : Option History) (f g : ℕ) (es : List Entry) → Tells a b es → f ≤ g → (HasFailed es → Rose f g) → Does a b f g (λ fs. fs ≡ es)
does_call a b f g es t le cause = record { entries = es; tells = t; later = le; cause = cause; is = refl }

-- an entry that is no failure, alone
pub calm_one : (e : Entry) → IsCalm e → HasFailed (e ∷ []) → ⊥
calm_one e calm failed = elim failed [ inl is ↦ calm is | inr none ↦ none ]

pub delivered_calm : (rec : List ℕ) → IsCalm (Delivered rec)
delivered_calm rec e = absurd cc
