-- The tests decide whether a copy of a call comes late.
use Rattle.std.proofs.Common.{◌≡◌, ◌<◌, inl, inr, ◌==◌, ℕ, List, length, Option, Some, None, slice_get, refl, sym, ◌∙◌, ap, subst, arith}
use Rattle.std.specs.Prelude.{Decides, not}
use Rattle.std.proofs.lemmas.Option.{slice_get_within}
use Rattle.std.proofs.lemmas.Bool.{cases_lt}
use Rattle.std.proofs.lemmas.Bool.Decides.{Decides-like, Decides-not, Decides-eqb}
use Rattle.rpc_message.specs.Call.{xid_at}
use Rattle.world_model.specs.declared.entry.Entry.{Entry}
use Rattle.world_model.specs.declared.entry.Entry.TheVariants.{Began, Answered, Dialed, Sent, Executed, Foreign, Flushed, Reboot, Delivered, Failed, Clock}
use Rattle.world_model.specs.declared.message.Call.{Call}
use Rattle.world_model.specs.declared.message.Reply.{Reply}
use Rattle.world_model.specs.Entries.{At}
use Rattle.world_model.specs.Messages.{HasXid}
use Rattle.world_model.specs.Once.{Once}
use Rattle.trace_rules.specs.Decided.{all_below, is_some_of, has_xid, delivers, executed, delivers_there, executed_there, delivers_at, executed_at, came_before, is_first, in_time, once}
use Rattle.trace_rules.proofs.Combining.{always, never}
use Rattle.trace_rules.proofs.Below.{all_below-decides, any_below-decides}

some : (a b : Entry) → Some a ≡ Some b → a ≡ b
some a b q = cc

pub xid-decides : (bytes : List ℕ) (x : ℕ) → Decides (has_xid bytes x) (HasXid bytes x)
unfolding has_xid
xid-decides bytes x = by (xid_at bytes)
  where
    by : (o : Option ℕ) → Decides (is_some_of x o) (o ≡ Some x)
    by None = never (λ e. cc)
    by (Some y) = Decides-like (y == x) (λ e. ap (λ z. Some z) e) (λ e. cc) (Decides-eqb y x)

-- entry i brings a record of the xid x
abbrev pub Brings : List Entry → ℕ → ℕ → Type 0
Brings h x i = (bytes : List ℕ) × At h i (Delivered bytes) × HasXid bytes x

entry-delivers : (x : ℕ) (e : Entry) → Decides (delivers x e) ((bytes : List ℕ) × (e ≡ Delivered bytes) × HasXid bytes x)
entry-delivers x (Delivered bytes) = Decides-like (has_xid bytes x) (λ w. (bytes, refl, w)) (λ w. let e : Delivered bytes ≡ Delivered w.0 = w.1 in let same : bytes ≡ w.0 = cc in subst (λ (b : List ℕ). HasXid b x) (sym same) w.2) (xid-decides bytes x)
entry-delivers x (Began lane line op) = never (λ w. let e : Began lane line op ≡ Delivered w.0 = w.1 in cc)
entry-delivers x (Answered lane line answer) = never (λ w. let e : Answered lane line answer ≡ Delivered w.0 = w.1 in cc)
entry-delivers x (Dialed port) = never (λ w. let e : Dialed port ≡ Delivered w.0 = w.1 in cc)
entry-delivers x (Sent bytes) = never (λ w. let e : Sent bytes ≡ Delivered w.0 = w.1 in cc)
entry-delivers x (Executed xid call reply) = never (λ w. let e : Executed xid call reply ≡ Delivered w.0 = w.1 in cc)
entry-delivers x (Foreign call reply) = never (λ w. let e : Foreign call reply ≡ Delivered w.0 = w.1 in cc)
entry-delivers x (Flushed file from len) = never (λ w. let e : Flushed file from len ≡ Delivered w.0 = w.1 in cc)
entry-delivers x (Reboot verf) = never (λ w. let e : Reboot verf ≡ Delivered w.0 = w.1 in cc)
entry-delivers x Failed = never (λ w. let e : Failed ≡ Delivered w.0 = w.1 in cc)
entry-delivers x (Clock ms) = never (λ w. let e : Clock ms ≡ Delivered w.0 = w.1 in cc)

pub delivers-decides : (h : List Entry) (x i : ℕ) → Decides (delivers_at h x i) (Brings h x i)
unfolding delivers_at
delivers-decides h x i = by (slice_get h i) refl
  where
    by : (o : Option Entry) → slice_get h i ≡ o → Decides (delivers_there x o) (Brings h x i)
    by None e = never (λ w. let q : slice_get h i ≡ Some (Delivered w.0) = w.1 in cc)
    by (Some d) e = Decides-like (delivers x d) (λ w. (w.0, e ∙ ap (λ z. Some z) w.1, w.2)) (λ w. (w.0, some d (Delivered w.0) (sym e ∙ w.1), w.2)) (entry-delivers x d)

pub came-decides : (h : List Entry) (x n : ℕ) → Decides (came_before h x n) ((i : ℕ) × (i < n) × Brings h x i)
unfolding came_before
came-decides h x n = any_below-decides (λ i. delivers_at h x i) (λ i. Brings h x i) (λ i. delivers-decides h x i) n

-- what entry n executes came no earlier
abbrev pub InTime : List Entry → ℕ → Type 0
InTime h n = (xid : ℕ) (call : Call) (reply : Reply) → At h n (Executed xid call reply) → ((i : ℕ) × (i < n) × Brings h xid i) → ⊥

pub time-decides : (h : List Entry) (n : ℕ) → Decides (in_time h n) (InTime h n)
unfolding in_time executed_at
time-decides h n = by (slice_get h n) refl
  where
    other : (d : Entry) → slice_get h n ≡ Some d → ((xid : ℕ) (call : Call) (reply : Reply) → d ≡ Executed xid call reply → ⊥) → InTime h n
    other d e not_one xid call reply at came = not_one xid call reply (some d (Executed xid call reply) (sym e ∙ at))

    entry : (d : Entry) → slice_get h n ≡ Some d → Decides (is_first h n (executed d)) (InTime h n)
    entry (Executed x c r) e = Decides-like (not (came_before h x n))
        (λ none xid call reply at came. let q : Executed x c r ≡ Executed xid call reply = some (Executed x c r) (Executed xid call reply) (sym e ∙ at) in let same : x ≡ xid = cc in none (subst (λ (z : ℕ). (i : ℕ) × (i < n) × Brings h z i) (sym same) came))
        (λ k came. k x c r e came)
        (Decides-not (came_before h x n) (came-decides h x n))
    entry (Delivered bytes) e = always (other (Delivered bytes) e (λ xid call reply q. cc))
    entry (Began lane line op) e = always (other (Began lane line op) e (λ xid call reply q. cc))
    entry (Answered lane line answer) e = always (other (Answered lane line answer) e (λ xid call reply q. cc))
    entry (Dialed port) e = always (other (Dialed port) e (λ xid call reply q. cc))
    entry (Sent bytes) e = always (other (Sent bytes) e (λ xid call reply q. cc))
    entry (Foreign call reply) e = always (other (Foreign call reply) e (λ xid call reply q. cc))
    entry (Flushed file from len) e = always (other (Flushed file from len) e (λ xid call reply q. cc))
    entry (Reboot verf) e = always (other (Reboot verf) e (λ xid call reply q. cc))
    entry Failed e = always (other Failed e (λ xid call reply q. cc))
    entry (Clock ms) e = always (other (Clock ms) e (λ xid call reply q. cc))

    by : (o : Option Entry) → slice_get h n ≡ o → Decides (is_first h n (executed_there o)) (InTime h n)
    by None e = always (λ xid call reply at came. let q : slice_get h n ≡ Some (Executed xid call reply) = at in absurd (cc))
    by (Some d) e = entry d e

-- an entry isn't both a record that came and a call that was executed
apart : (h : List Entry) (i : ℕ) (bytes : List ℕ) (xid : ℕ) (call : Call) (reply : Reply) → At h i (Delivered bytes) → At h i (Executed xid call reply) → ⊥
apart h i bytes xid call reply a b = let q : Delivered bytes ≡ Executed xid call reply = some (Delivered bytes) (Executed xid call reply) (sym a ∙ b) in cc

pub once-decides : (h : List Entry) → Decides (once h) (Once h)
unfolding once
once-decides h =
    Decides-like (all_below (λ n. in_time h n) (length h))
    (λ k i n xid bytes call reply came is done. later i n xid bytes call reply came is done (k n (slice_get_within h n (Executed xid call reply) done)))
    (λ (o : Once h) n below xid call reply done came. let lt : n < came.0 = o came.0 n xid came.2.0 call reply came.2.1 came.2.2 done in omega (arith, lt, came.1))
    (all_below-decides (λ n. in_time h n) (λ n. InTime h n) (λ n. time-decides h n) (length h))
  where
    later : (i n xid : ℕ) (bytes : List ℕ) (call : Call) (reply : Reply) → At h i (Delivered bytes) → HasXid bytes xid → At h n (Executed xid call reply) → InTime h n → n < i
    later i n xid bytes call reply came is done early = elim (cases_lt n i) [
      | inl lt ↦ lt
      | inr le ↦ elim (cases_lt i n) [
        | inl before ↦ absurd (early xid call reply done (i, before, (bytes, came, is)))
        | inr at ↦ let same : i ≡ n = omega (arith, le, at) in absurd (apart h n bytes xid call reply (subst (λ (z : ℕ). At h z (Delivered bytes)) same came) done)
      ]
    ]
