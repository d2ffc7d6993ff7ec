-- A history is lawful where its start is a server and each entry is lawful; and so is each beginning.
use Rattle.std.proofs.Common.{◌≡◌, ◌<◌, ◌≤◌, ◌+◌, ◌⊎◌, inl, inr, ℕ, zero, suc, Bool, List, [], ◌∷◌, length, take, Option, Some, None, slice_get, refl, sym, ◌∙◌, ap, subst, arith}
use Rattle.std.specs.Prelude.{◌↔◌, IsTrue, Decides}
use Rattle.std.specs.Option.{option_map}
use Rattle.std.proofs.lemmas.List.{length-take-le}
use Rattle.std.proofs.lemmas.Option.{slice_get_within}
use Rattle.world_model.specs.declared.entry.Entry.{Entry}
use Rattle.world_model.specs.declared.entry.Entry.TheVariants.{Began, Answered, Dialed, Sent, Executed, Foreign, Flushed, Reboot, Delivered, Failed, Clock}
use Rattle.world_model.specs.declared.message.Call.{Call}
use Rattle.world_model.specs.Entries.{At}
use Rattle.world_model.specs.History.{History}
use Rattle.world_model.specs.Lawful.{WasSent, IsReplied, Delivers, LawfulAt, Lawful}
use Rattle.world_model.specs.Server as model
use Rattle.trace_data.specs.declared.trace.Object.{Object}
use Rattle.trace_data.specs.declared.trace.Updated.{Updated}
use Rattle.trace_data.specs.declared.trace.Update.{Update}
use Rattle.trace_data.specs.declared.trace.Trace.{Trace}
use Rattle.trace_data.specs.Histories.{history_of, named, object_of, objects_after, object_at, or_else}
use Rattle.trace_rules.specs.Beginnings.{beginning, BreaksAt}
use Rattle.trace_rules.proofs.Naming.{either}
use Rattle.trace_lawful.specs.Judged.{AreSound, IsLawfulEntry, IsLawfulAt}

-- ---- entries of a beginning

pub get-take : (n : ℕ) (h : List Entry) (k : ℕ) → k < n → slice_get (take n h) k ≡ slice_get h k
get-take zero h k lt = absurd (omega (arith, lt))
get-take (suc n) [] k lt = refl
get-take (suc n) (e ∷ h) zero lt = refl
get-take (suc n) (e ∷ h) (suc k) lt = get-take n h k (omega (arith, lt))

to-take : (n : ℕ) (h : List Entry) (k : ℕ) (e : Entry) → k < n → At h k e → At (take n h) k e
to-take n h k e lt at = get-take n h k lt ∙ at

from-take : (n : ℕ) (h : List Entry) (k : ℕ) (e : Entry) → k < n → At (take n h) k e → At h k e
from-take n h k e lt at = sym (get-take n h k lt) ∙ at

-- what was sent before an entry of a beginning was sent before it
sent-to : (n : ℕ) (h : List Entry) (k xid : ℕ) (call : Call) → k < n → WasSent h k xid call → WasSent (take n h) k xid call
sent-to n h k xid call lt w = let b : w.at < k = w.before in
    record { at = w.at; bytes = w.bytes; before = b; sent = to-take n h w.at (Sent w.bytes) (omega (arith, b, lt)) w.sent; spells = w.spells }

sent-from : (n : ℕ) (h : List Entry) (k xid : ℕ) (call : Call) → k < n → WasSent (take n h) k xid call → WasSent h k xid call
sent-from n h k xid call lt w = let b : w.at < k = w.before in
    record { at = w.at; bytes = w.bytes; before = b; sent = from-take n h w.at (Sent w.bytes) (omega (arith, b, lt)) w.sent; spells = w.spells }

replied-to : (n : ℕ) (h : List Entry) (k : ℕ) (bytes : List ℕ) → k < n → IsReplied h k bytes → IsReplied (take n h) k bytes
replied-to n h k bytes lt (IsReplied.replied m xid call reply b at s) = IsReplied.replied m xid call reply b (to-take n h m (Executed xid call reply) (omega (arith, b, lt)) at) s
replied-to n h k bytes lt (IsReplied.refused m xid code sent b at has s) = IsReplied.refused m xid code sent b (to-take n h m (Sent sent) (omega (arith, b, lt)) at) has s

replied-from : (n : ℕ) (h : List Entry) (k : ℕ) (bytes : List ℕ) → k < n → IsReplied (take n h) k bytes → IsReplied h k bytes
replied-from n h k bytes lt (IsReplied.replied m xid call reply b at s) = IsReplied.replied m xid call reply b (from-take n h m (Executed xid call reply) (omega (arith, b, lt)) at) s
replied-from n h k bytes lt (IsReplied.refused m xid code sent b at has s) = IsReplied.refused m xid code sent b (from-take n h m (Sent sent) (omega (arith, b, lt)) at) has s

-- an entry of a beginning is lawful there where it is in the whole
lawful-to : (h : History) (n k : ℕ) (e : Entry) (s t : model.Server) → k < n → LawfulAt h k e s t → LawfulAt (beginning h n) k e s t
lawful-to h n k (Executed xid call reply) s t lt w = (sent-to n h.entries k xid call lt w.0, w.1)
lawful-to h n k (Delivered bytes) s t lt w = record { same = w.same; most = w.most; is = replied-to n h.entries k bytes lt w.is }
lawful-to h n k (Foreign call reply) s t lt w = w
lawful-to h n k (Flushed file start count) s t lt w = w
lawful-to h n k (Reboot verf) s t lt w = record { verifier = w.verifier; new = w.new; left = w.left; steady = w.steady }
lawful-to h n k (Began lane line op) s t lt w = w
lawful-to h n k (Answered lane line answer) s t lt w = w
lawful-to h n k (Dialed port) s t lt w = w
lawful-to h n k (Sent bytes) s t lt w = w
lawful-to h n k Failed s t lt w = w
lawful-to h n k (Clock ms) s t lt w = w

lawful-from : (h : History) (n k : ℕ) (e : Entry) (s t : model.Server) → k < n → LawfulAt (beginning h n) k e s t → LawfulAt h k e s t
lawful-from h n k (Executed xid call reply) s t lt w = (sent-from n h.entries k xid call lt w.0, w.1)
lawful-from h n k (Delivered bytes) s t lt w = record { same = w.same; most = w.most; is = replied-from n h.entries k bytes lt w.is }
lawful-from h n k (Foreign call reply) s t lt w = w
lawful-from h n k (Flushed file start count) s t lt w = w
lawful-from h n k (Reboot verf) s t lt w = record { verifier = w.verifier; new = w.new; left = w.left; steady = w.steady }
lawful-from h n k (Began lane line op) s t lt w = w
lawful-from h n k (Answered lane line answer) s t lt w = w
lawful-from h n k (Dialed port) s t lt w = w
lawful-from h n k (Sent bytes) s t lt w = w
lawful-from h n k Failed s t lt w = w
lawful-from h n k (Clock ms) s t lt w = w

-- ---- servers

-- each object that was named last is sound, or what was
sound-so-far : (start : List Updated) (us : List Update) (n : ℕ) → AreSound start → ((k : ℕ) → k < n → AreSound (objects_after us k)) → (m : ℕ) → m ≤ n
    → (f : List ℕ) (o : Object) → object_at start us m f ≡ Some o → model.IsSound (object_of o)
sound-so-far start us n first each zero le f o e = first f o e
sound-so-far start us n first each (suc m) le f o e =
    either (model.IsSound (object_of o)) (named (objects_after us m) f) (object_at start us m f) o e
    (λ here. each m (omega (arith, le)) f o here)
    (λ was. sound-so-far start us n first each m (omega (arith, le)) f o was)

server-of : (x : Option Object) → ((o : Object) → x ≡ Some o → model.IsSound (object_of o)) → (o : model.Object) → option_map object_of x ≡ Some o → model.IsSound o
server-of None s o e = absurd (cc)
server-of (Some p) s o e = subst (λ (z : model.Object). model.IsSound z) (same (object_of p) o e) (s p refl)
  where
    same : (a b : model.Object) → Some a ≡ Some b → a ≡ b
    same a b e = cc

-- ---- beginnings

-- the first n entries are lawful
pub lawful-beginning : (t : Trace) (n : ℕ) → n ≤ length t.entries.items → AreSound t.start.objects.items → ((k : ℕ) → k < n → IsLawfulAt t k) → Lawful (beginning (history_of t) n)
lawful-beginning t n le first each =
    let same : length (take n t.entries.items) ≡ n = length-take-le n t.entries.items le in
    record {
      servers = λ m below f o e.
          server-of (object_at t.start.objects.items t.updates.items m f) (λ p q. sound-so-far t.start.objects.items t.updates.items n first (λ k lt. (each k lt).sound) m (omega (arith, below, same)) f p q) o e;
      entries = λ m e at.
          let inside : m < length (take n t.entries.items) = slice_get_within (take n t.entries.items) m e at in
          let lt : m < n = omega (arith, inside, same) in
          lawful-to (history_of t) n m e ((history_of t).at m) ((history_of t).at (suc m)) lt ((each m lt).entry e (from-take n t.entries.items m e lt at));
    }

-- the whole is lawful
pub lawful-whole : (t : Trace) → AreSound t.start.objects.items → ((k : ℕ) → k < length t.entries.items → IsLawfulAt t k) → Lawful (history_of t)
lawful-whole t first each = record {
  servers = λ m below f o e.
      server-of (object_at t.start.objects.items t.updates.items m f) (λ p q. sound-so-far t.start.objects.items t.updates.items (length t.entries.items) first (λ k lt. (each k lt).sound) m below f p q) o e;
  entries = λ m e at. (each m (slice_get_within t.entries.items m e at)).entry e at;
}

-- an entry of a lawful beginning is lawful
here : (t : Trace) (n k : ℕ) → n ≤ length t.entries.items → k < n → Lawful (beginning (history_of t) n) → IsLawfulAt t k
here t n k le lt w =
    let same : length (take n t.entries.items) ≡ n = length-take-le n t.entries.items le in
    record {
      sound = λ f o e. w.servers (suc k) (omega (arith, lt, same)) f (object_of o) (ap (λ z. option_map object_of (or_else z (object_at t.start.objects.items t.updates.items k f))) e);
      entry = λ e at. lawful-from (history_of t) n k e ((history_of t).at k) ((history_of t).at (suc k)) lt (w.entries k e (to-take n t.entries.items k e lt at));
    }

-- the first entry that isn't lawful ends the first beginning that isn't
pub breaks-lawful : (t : Trace) (k : ℕ) → k < length t.entries.items → AreSound t.start.objects.items → ((m : ℕ) → m < k → IsLawfulAt t m) → (IsLawfulAt t k → ⊥)
    → BreaksAt Lawful (history_of t) (k + 1)
breaks-lawful t k lt first each not_so = record {
  within = omega (arith, lt);
  breaks = λ w. not_so (here t (k + 1) k (omega (arith, lt)) (omega arith) w);
  least = λ m below. lawful-beginning t m (omega (arith, below, lt)) first (λ j less. each j (omega (arith, less, below)));
}

-- where the start is no server no beginning is lawful
pub breaks-start : (t : Trace) → (AreSound t.start.objects.items → ⊥) → BreaksAt Lawful (history_of t) 0
breaks-start t not_so = record {
  within = omega arith;
  breaks = λ w. not_so (λ f o e. w.servers 0 (omega arith) f (object_of o) (ap (option_map object_of) e));
  least = λ m below. absurd (omega (arith, below));
}

-- ---- one entry

-- an entry is lawful where what stands there is
pub entry-is : (t : Trace) (n : ℕ) (e : Entry) (b : Bool) → At t.entries.items n e
    → (IsTrue b ↔ LawfulAt (history_of t) n e ((history_of t).at n) ((history_of t).at (suc n))) → IsTrue b ↔ IsLawfulEntry t n
entry-is t n e b at d = (λ yes other there. subst (λ (x : Entry). LawfulAt (history_of t) n x ((history_of t).at n) ((history_of t).at (suc n))) (some e other (sym at ∙ there)) (d.0 yes), λ each. d.1 (each e at))
  where
    some : (x y : Entry) → Some x ≡ Some y → x ≡ y
    some x y q = cc

-- what the whole keeps each beginning keeps
pub lawful-less : (t : Trace) (n : ℕ) → n ≤ length t.entries.items → Lawful (history_of t) → Lawful (beginning (history_of t) n)
lawful-less t n le w = let same : length (take n t.entries.items) ≡ n = length-take-le n t.entries.items le in record {
  servers = λ m below. w.servers m (omega (arith, below, same, le));
  entries = λ m e at.
      let inside : m < length (take n t.entries.items) = slice_get_within (take n t.entries.items) m e at in
      let lt : m < n = omega (arith, inside, same) in
      lawful-to (history_of t) n m e ((history_of t).at m) ((history_of t).at (suc m)) lt (w.entries m e (from-take n t.entries.items m e lt at));
}
