-- Under an xid that was sent, some record was sent first.
use Rattle.std.proofs.Common.{inl, inr, ◌⊎◌, ◌≡◌, ◌<◌, ◌==◌, ℕ, zero, suc, List, Option, Some, None, slice_get, refl, sym, ap, subst, ◌∙◌, arith}
use Rattle.std.proofs.lemmas.Bool.{cases_Bool, cases_lt, eqb-true, eqb-false}
use Rattle.rpc_message.specs.Call.{xid_at}
use Rattle.world_model.specs.declared.entry.Entry.{Entry}
use Rattle.world_model.specs.declared.entry.Entry.TheVariants.{Began, Answered, Dialed, Sent, Executed, Foreign, Flushed, Reboot, Delivered, Failed, Clock}
use Rattle.world_model.specs.Entries.{At}
use Rattle.world_model.specs.Messages.{HasXid}
use Rattle.world_model.specs.Waiting.{FirstSent}

-- before the place n a record under the xid was sent first
pub record FirstBefore (h : List Entry) (x n : ℕ) : Type 0 where
  pub place : ℕ
  pub bytes : List ℕ
  pub first : FirstSent h place x bytes
  pub before : place < n

abbrev pub NoneBefore : List Entry → ℕ → ℕ → Type 0
NoneBefore h x n = (j : ℕ) (b : List ℕ) → At h j (Sent b) → HasXid b x → j < n → ⊥

has_xid : (bytes : List ℕ) (x : ℕ) → HasXid bytes x ⊎ (HasXid bytes x → ⊥)
has_xid bytes x = by (xid_at bytes) refl
  where
    some_is : (a b : ℕ) → Some a ≡ Some b → a ≡ b
    some_is a b e = cc

    by : (o : Option ℕ) → xid_at bytes ≡ o → HasXid bytes x ⊎ (HasXid bytes x → ⊥)
    by None e = inr (λ q. absurd (cc (sym e ∙ q)))
    by (Some y) e = elim (cases_Bool (y == x)) [
      | inl same ↦ inl (e ∙ ap (λ (z : ℕ). Some z) (eqb-true y x same))
      | inr differs ↦ inr (λ q. eqb-false y x differs (some_is y x (sym e ∙ q)))
    ]

-- the entry is a record under the xid, or none
sent_or_not : (e : Entry) (x : ℕ) → ((bytes : List ℕ) × (e ≡ Sent bytes) × HasXid bytes x) ⊎ ((bytes : List ℕ) → e ≡ Sent bytes → HasXid bytes x → ⊥)
sent_or_not (Sent bytes) x = elim (has_xid bytes x) [ inl u ↦ inl (bytes, refl, u) | inr none ↦ inr (λ b e u. none (subst (λ z. HasXid z x) (sym (bytes_are bytes b e)) u)) ]
  where
    bytes_are : (a b : List ℕ) → Sent a ≡ Sent b → a ≡ b
    bytes_are a b e = cc
sent_or_not (Began lane line op) x = inr (λ b e u. absurd (cc e))
sent_or_not (Answered lane line answer) x = inr (λ b e u. absurd (cc e))
sent_or_not (Dialed port) x = inr (λ b e u. absurd (cc e))
sent_or_not (Executed xid call reply) x = inr (λ b e u. absurd (cc e))
sent_or_not (Foreign call reply) x = inr (λ b e u. absurd (cc e))
sent_or_not (Flushed file start len) x = inr (λ b e u. absurd (cc e))
sent_or_not (Reboot verf) x = inr (λ b e u. absurd (cc e))
sent_or_not (Delivered bytes) x = inr (λ b e u. absurd (cc e))
sent_or_not Failed x = inr (λ b e u. absurd (cc e))
sent_or_not (Clock ms) x = inr (λ b e u. absurd (cc e))

some_entry : (a b : Entry) → Some a ≡ Some b → a ≡ b
some_entry a b e = cc

sent_at_or_not : (h : List Entry) (n x : ℕ) → ((bytes : List ℕ) × At h n (Sent bytes) × HasXid bytes x) ⊎ ((bytes : List ℕ) → At h n (Sent bytes) → HasXid bytes x → ⊥)
sent_at_or_not h n x = by (slice_get h n) refl
  where
    by : (o : Option Entry) → slice_get h n ≡ o → ((bytes : List ℕ) × At h n (Sent bytes) × HasXid bytes x) ⊎ ((bytes : List ℕ) → At h n (Sent bytes) → HasXid bytes x → ⊥)
    by None e = inr (λ b at u. absurd (cc (sym e ∙ at)))
    by (Some entry) e = elim (sent_or_not entry x) [
      | inl s ↦ inl (s.0, e ∙ ap (λ (z : Entry). Some z) s.1, s.2)
      | inr none ↦ inr (λ b at u. none b (some_entry entry (Sent b) (sym e ∙ at)) u)
    ]

pub first_or_none : (h : List Entry) (x n : ℕ) → FirstBefore h x n ⊎ NoneBefore h x n
first_or_none h x zero = inr (λ j b at u lt. absurd (omega (arith, lt)))
first_or_none h x (suc n) = elim (first_or_none h x n) [
  | inl f ↦ let lt = f.before in inl (record { place = f.place; bytes = f.bytes; first = f.first; before = omega (arith, lt) })
  | inr none ↦ elim (sent_at_or_not h n x) [
    | inl s ↦ inl (record {
      place = n;
      bytes = s.0;
      first = record {
        sent = s.1;
        under = s.2;
        first = λ j b at u. elim (cases_lt j n) [ inl lt ↦ absurd (none j b at u lt) | inr ge ↦ ge ];
      };
      before = omega arith;
    })
    | inr here ↦ inr (λ j b at u lt. elim (cases_lt j n) [
      | inl low ↦ none j b at u low
      | inr ge ↦ let is : j ≡ n = omega (arith, lt, ge) in here b (subst (λ z. At h z (Sent b)) is at) u
    ])
  ]
]

pub first_of : (h : List Entry) (j x : ℕ) (b : List ℕ) → At h j (Sent b) → HasXid b x → FirstBefore h x (suc j)
first_of h j x b at u = elim (first_or_none h x (suc j)) [ inl f ↦ f | inr none ↦ absurd (none j b at u (omega arith)) ]
