-- What a step does to the calls that wait: nothing, a new call waits, a reply is taken, or a call is made again.
use Rattle.std.proofs.Common.{inl, inr, ◌⊎◌, ◌≡◌, ◌≢◌, ℕ, Some, None, refl, ap}
use Rattle.model_writes.specs.Story.{Call, write, commit, Reply, Entry, Began, Answered, Sent, Executed, Foreign, Reboot, Delivered, Failed}
use Rattle.model_writes.specs.Machine.{View, SameCalls, NewCall, Renews, Enters, Move, makes_write, makes_commit, makes_call, adds, proceeds, opens, frees, cuts, gives_up, gives_up_put, loses}

pub record Stays (b : View) (e : Entry) (c : View) : Type 0 where
  pub calls : SameCalls b c
  pub sent : (x : ℕ) (call : Call) → e ≡ Sent x call → b.wait x ≡ Some call

-- a call that waited is gone, and perhaps waits under another number
pub record Closes (b : View) (e : Entry) (c : View) (x : ℕ) (r : Reply) : Type 0 where
  pub is : e ≡ Delivered x r
  pub call : Call
  pub waits : b.wait x ≡ Some call
  pub gone : c.wait x ≡ None
  pub others : (z : ℕ) → z ≢ x → c.wait z ≡ b.wait z
  pub next : c.next_xid ≡ b.next_xid

pub data Turn : View → Entry → View → Type 0 where
  stays : (b : View) (e : Entry) (c : View) → Stays b e c → Turn b e c
  closes : (b : View) (e : Entry) (c : View) (x : ℕ) (r : Reply) → Closes b e c x r → Turn b e c
  renews : (b : View) (e : Entry) (c : View) (x : ℕ) (r : Reply) → e ≡ Delivered x r → Renews b c x r → Turn b e c

pub same_calls : (b c : View) → c ≡ b → SameCalls b c
same_calls b c e = record { next = ap (λ (v : View). v.next_xid) e; wait = λ x. ap (λ (v : View). v.wait x) e }

quiet : (b c : View) (e : Entry) → ((x : ℕ) (call : Call) → e ≡ Sent x call → ⊥) → SameCalls b c → Turn b e c
quiet b c e no_sent s = stays b e c (record { calls = s; sent = λ x call is. absurd (no_sent x call is) })

repeats : (b c : View) (x : ℕ) (call : Call) → b.wait x ≡ Some call → c ≡ b → Turn b (Sent x call) c
repeats b c x call w r = stays b (Sent x call) c (record {
  calls = same_calls b c r;
  sent = λ y k is. rw (← number_is x y call k is, ← call_is x y call k is) w;
})
  where
    number_is : (x y : ℕ) (k l : Call) → Sent x k ≡ Sent y l → x ≡ y
    number_is x y k l e = cc

    call_is : (x y : ℕ) (k l : Call) → Sent x k ≡ Sent y l → k ≡ l
    call_is x y k l e = cc

pub turn : (n : ℕ) (b c : View) (e : Entry) → Enters n b e c → Turn b e c
turn n b c (Began l op) t = quiet b c (Began l op) (λ x k is. absurd (cc is)) t.calls
turn n b c (Answered l a) t = quiet b c (Answered l a) (λ x k is. absurd (cc is)) t.calls
turn n b c (Sent x call) t = repeats b c x call t.0 t.1
turn n b c (Delivered x r) t = elim t.how [
  | inl d ↦ quiet b c (Delivered x r) (λ y k is. absurd (cc is)) d.calls
  | inr u ↦ elim u [
    | inl k ↦ closes b (Delivered x r) c x r (record { is = refl; call = k.call; waits = k.waits; gone = k.gone; others = k.others; next = k.next })
    | inr g ↦ renews b (Delivered x r) c x r refl g
  ]
]
turn n b c Failed t = quiet b c Failed (λ x k is. absurd (cc is)) (same_calls b c t)
turn n b c (Executed y k r) t = quiet b c (Executed y k r) (λ x l is. absurd (cc is)) (same_calls b c t)
turn n b c (Foreign o) t = quiet b c (Foreign o) (λ x l is. absurd (cc is)) (same_calls b c t)
turn n b c Reboot t = quiet b c Reboot (λ x l is. absurd (cc is)) (same_calls b c t)

-- a move makes a call, or none
pub made : (b c : View) → Move b c → SameCalls b c ⊎ ((x : ℕ) × (call : Call) × NewCall b c x call)
made b c (makes_write m) = inr (m.x, write m.file m.offset m.bytes m.how, m.calls)
made b c (makes_commit m) = inr (m.x, commit m.file, m.calls)
made b c (makes_call m) = inr (m.x, m.call, m.calls)
made b c (adds m) = inl m.calls
made b c (proceeds m) = inl m.calls
made b c (opens m) = inl m.calls
made b c (frees m) = inl m.calls
made b c (cuts m) = inl m.calls
made b c (gives_up m) = inl m.drops.calls
made b c (gives_up_put m) = inl m.drops.calls
made b c (loses m) = inl m.calls
