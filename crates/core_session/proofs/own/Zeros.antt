-- Past a size that was set there are zeros alone, from the moment on at which it was set.
use Rattle.core_session.proofs.Prelude.{inl, inr, ◌≡◌, ◌<◌, ◌≤◌, ◌+◌, ◌-◌, ℕ, zero, suc, List, [], ◌∷◌, ◌++◌, length, take, drop, replicate, Option, Some, slice_get, refl, sym, ap, subst, ◌∙◌, arith, cases_lt, slice_get_within, SetAttr, Entry, Call, Reply, resized, At, SetsAttr, HoldsSized, History, Lawful, Holds, Bytes, Entries, Text, Server, Once, Numbered, CutBy, NoForeign}
use Rattle.std.proofs.lemmas.Option.{slice_get_past}
use Rattle.world_model.specs.Bytes.{filled, put_at, committed_part}
use Rattle.law_stable.specs.Cut.{OwnZeros, IsZeroAt, IsBare}
use Rattle.nfs_file_calls.specs.declared.call.FileCall.TheVariants as files
use Rattle.nfs_file_calls.specs.declared.owned.FileKept.TheVariants as kept
use Rattle.world_model.specs.declared.entry.Entry.TheVariants as entries
use Rattle.world_model.specs.declared.message.Call.TheVariants as calls
use Rattle.world_model.specs.declared.message.Reply.TheVariants as replies
use Rattle.claims.specs.Touched.{ChangesPlace, writes}
use Rattle.world_model.proofs.Doing.{setattr_done}
use Rattle.world_model.proofs.FileSteps as steps
use Rattle.world_model.proofs.FileSteps.{BytesGo, BytesStep, bytes_step}
use Rattle.world_model.proofs.Lasting.{entry_at}
use Rattle.law_stable.proofs.Bytes.{get_front, get_back, length_resized, placed, put_here, put_above, some_or_past, number_is, committed_stands}
use Rattle.law_stable.proofs.Executions.{Ran}
use Rattle.law_stable.proofs.Spared.{first_call}
use Rattle.law_stable.proofs.Steps.{of_taken, next_bytes}

-- ---- one list

zeros_alone : (n k v : ℕ) → slice_get {X = ℕ} (replicate n 0) k ≡ Some v → v ≡ 0
zeros_alone zero k v e = absurd (cc e)
zeros_alone (suc n) zero v e = sym (number_is 0 v e)
zeros_alone (suc n) (suc k) v e = zeros_alone n k v e

zero_filled : (size : ℕ) (old : List ℕ) (i : ℕ) → IsZeroAt old i → IsZeroAt (filled size old) i
zero_filled size old i z v e = elim (cases_lt i (length old)) [
  | inl lt ↦ z v (sym (get_front old (replicate (size - length old) 0) i lt) ∙ e)
  | inr ge ↦
      let split : i ≡ length old + (i - length old) = omega (arith, ge) in
      zeros_alone (size - length old) (i - length old) v (sym (get_back old (replicate (size - length old) 0) (length old) (i - length old) refl) ∙ ap (λ n. slice_get (filled size old) n) (sym split) ∙ e)
]

zero_resized : (size : ℕ) (old : List ℕ) (i : ℕ) → IsZeroAt old i → IsZeroAt (resized size old) i
zero_resized size old i z v e = zero_filled size old i z v (of_taken size (filled size old) i v e)

-- bytes that are put have a zero there, if any
zero_put : (offset : ℕ) (xs old : List ℕ) (i : ℕ) → ((k b : ℕ) → i ≡ offset + k → slice_get xs k ≡ Some b → b ≡ 0) → IsZeroAt old i → IsZeroAt (put_at offset xs old) i
zero_put offset [] old i all z v e = z v e
zero_put offset (x ∷ xs) old i all z v e = elim (cases_lt i offset) [
  | inl lt ↦
      let l = length_resized offset old in
      zero_resized offset old i z v (sym (ap (λ (w : List ℕ). slice_get w i) (placed offset x xs old) ∙ get_front (resized offset old) ((x ∷ xs) ++ drop (offset + length (x ∷ xs)) old) i (omega (arith, l, lt))) ∙ e)
  | inr ge ↦
      let split : offset + (i - offset) ≡ i = omega (arith, ge) in
      elim (some_or_past (x ∷ xs) (i - offset)) [
        | inl y ↦
            let same : v ≡ y.0 = number_is v y.0 (sym e ∙ ap (λ n. slice_get (put_at offset (x ∷ xs) old) n) (sym split) ∙ put_here offset (x ∷ xs) old (i - offset) y.0 y.1) in
            same ∙ all (i - offset) y.0 (sym split) y.1
        | inr past ↦ z v (sym (put_above offset (x ∷ xs) old i (omega (arith, past, ge))) ∙ e)
      ]
]

zero_as : (a b : List ℕ) (i : ℕ) → a ≡ b → IsZeroAt b i → IsZeroAt a i
zero_as a b i same z = subst (λ (w : List ℕ). IsZeroAt w i) (sym same) z

-- ---- an entry

-- each WRITE of this client has a zero at the place, and no other client writes there
record SparesZero (e : Entry) (after : Server) (f : List ℕ) (i : ℕ) : Type 0 where
  writing : (xid offset how k b : ℕ) (bytes : List ℕ) (reply : Reply) → e ≡ entries.Executed xid (calls.File (files.Write f offset how bytes)) reply → i ≡ offset + k
      → slice_get bytes k ≡ Some b → b ≡ 0
  others : (call : Call) (reply : Reply) → e ≡ entries.Foreign call reply → ChangesPlace after f i call reply → ⊥

-- both lists stay so
record ZeroGo (i : ℕ) (later steady : List ℕ) : Type 0 where
  now : IsZeroAt later i
  then_ : IsZeroAt steady i

go_zero : (t : Server) (call : Call) (reply : Reply) (f now stable later steady : List ℕ) (i : ℕ)
    → ((offset how k b : ℕ) (bytes : List ℕ) → call ≡ calls.File (files.Write f offset how bytes) → i ≡ offset + k → slice_get bytes k ≡ Some b → b ≡ 0)
    → BytesGo t call reply f now stable later steady → IsZeroAt now i → IsZeroAt stable i → ZeroGo i later steady
go_zero t call reply f now stable later steady i all (steps.kept a b) z s = record { now = zero_as later now i a z; then_ = zero_as steady stable i b s }
go_zero t call reply f now stable later steady i all (steps.by_write offset how bytes count is a b) z s =
    let each : (k y : ℕ) → i ≡ offset + k → slice_get (take count bytes) k ≡ Some y → y ≡ 0 = λ k y at byte. all offset how k y bytes is at (of_taken count bytes k y byte) in
    record {
      now = zero_as later _ i a (zero_put offset (take count bytes) now i each z);
      then_ = elim b [
        | inl same ↦ zero_as steady stable i same s
        | inr new ↦ zero_as steady (put_at offset (take count bytes) stable) i new (zero_put offset (take count bytes) stable i each s)
      ];
    }
go_zero t call reply f now stable later steady i all (steps.by_commit offset count is a b) z s = record {
  now = zero_as later now i a z;
  then_ = zero_as steady _ i b (zero_put offset (committed_part offset count now) stable i
      (λ k y at byte. z y (ap (λ n. slice_get now n) at ∙ committed_stands offset count now k y byte)) s);
}
go_zero t call reply f now stable later steady i all (steps.by_size size sets a b) z s =
    record { now = zero_as later _ i a (zero_resized size now i z); then_ = zero_as steady _ i b (zero_resized size stable i s) }

step_zero : (e : Entry) (t : Server) (f now stable later steady : List ℕ) (i : ℕ) → SparesZero e t f i → BytesStep t e f now stable later steady → IsZeroAt now i → IsZeroAt stable i
    → ZeroGo i later steady
step_zero e t f now stable later steady i spares (steps.unchanged a b) z s = record { now = zero_as later now i a z; then_ = zero_as steady stable i b s }
step_zero e t f now stable later steady i spares (steps.executed xid call reply is go) z s = go_zero t call reply f now stable later steady i
    (λ offset how k b bytes same place byte. spares.writing xid offset how k b bytes reply (is ∙ ap (λ (c : Call). entries.Executed xid c reply) same) place byte) go z s
step_zero e t f now stable later steady i spares (steps.foreign call reply is go) z s = go_zero t call reply f now stable later steady i
    (λ offset how k b bytes same place byte.
    (let within = slice_get_within bytes k b byte in absurd (spares.others call reply is (writes offset how bytes same (omega (arith, place)) (omega (arith, place, within)))))) go z s
step_zero e t f now stable later steady i spares (steps.flushed start count is a b) z s = record {
  now = zero_as later now i a z;
  then_ = zero_as steady _ i b (zero_put start (committed_part start count now) stable i (λ k y at byte. z y (ap (λ n. slice_get now n) at ∙ committed_stands start count now k y byte)) s);
}
step_zero e t f now stable later steady i spares (steps.restarted verf is a b) z s = record { now = zero_as later stable i a s; then_ = zero_as steady stable i b s }

-- ---- over any number of entries

stays_bare : (t : History) → Lawful t → (m p : ℕ) (f : List ℕ) (i : ℕ) → m ≤ p → p ≤ length t.entries
    → ((n : ℕ) (e : Entry) → At t.entries n e → m ≤ n → n < p → SparesZero e (t.at (suc n)) f i) → IsBare (t.at m) f i → IsBare (t.at p) f i
stays_bare t lawful m zero f i le within all h = let z : m ≡ 0 = omega (arith, le) in subst (λ (n : ℕ). IsBare (t.at n) f i) z h
stays_bare t lawful m (suc p) f i le within all h = elim (cases_lt m (suc p)) [
  | inr ge ↦ let z : m ≡ suc p = omega (arith, le, ge) in subst (λ (n : ℕ). IsBare (t.at n) f i) z h
  | inl lt ↦
      let x = entry_at t.entries p (omega (arith, within)) in
      let before = stays_bare t lawful m p f i (omega (arith, lt)) (omega (arith, within)) (λ n e at low high. all n e at low (omega (arith, high))) h in
      let next = next_bytes t lawful p (omega (arith, within)) f before.now before.stable before.has in
      let step = bytes_step t p x.0 (t.at p) (t.at (suc p)) f before.now before.stable next.later next.steady (lawful.entries p x.0 x.1) before.has next.has in
      let go = step_zero x.0 (t.at (suc p)) f before.now before.stable next.later next.steady i (all p x.0 x.1 (omega (arith, lt)) (omega arith)) step before.bare before.steady in
      record { now = next.later; stable = next.steady; has = next.has; bare = go.now; steady = go.then_ }
]

-- ---- the SETATTR

past_zero : (xs : List ℕ) (i : ℕ) → length xs ≤ i → IsZeroAt xs i
past_zero xs i le v e = absurd (cc (sym (slice_get_past xs i le) ∙ e))

set_bare : (s t : Server) (f : List ℕ) (set : SetAttr) (size i : ℕ) → SetsAttr s t f set → set.size ≡ Some size → size ≤ i → IsBare t f i
set_bare s t f set size i w sets le = by w.object.holds refl (subst (λ (o : Option ℕ). HoldsSized o w.object.holds w.later) sets w.sized)
  where
    bare : (now : List ℕ) → IsZeroAt (resized size now) i
    bare now = let l = length_resized size now in past_zero (resized size now) i (omega (arith, l, le))

    by : (holds : Holds) → w.object.holds ≡ holds → HoldsSized (Some size) holds w.later → IsBare t f i
    by (Bytes now stable) is h = record {
      now = resized size now;
      stable = resized size stable;
      has = record { file = w.turns.new; is = w.turns.is; holds = w.turns.becomes.holds ∙ h };
      bare = bare now;
      steady = bare stable;
    }
    by (Entries list) is h = absurd h
    by (Text text) is h = absurd h

-- Where the SETATTR was executed there is no byte but a zero from then on, as long as no WRITE puts another there.
pub zeros-since : (t : History) → Lawful t → Once t.entries → Numbered t.entries → (from to : ℕ) (f : List ℕ) (size i : ℕ) → (c : CutBy t.entries from to f size) → size ≤ i
    → (r : Ran t c.asked.heard.sent_at c.asked.heard.got_at c.asked.xid (calls.File (files.SetAttr f c.set c.guard)) (replies.File (kept.SetAttr c.wcc))) → (p : ℕ) → r.place < p → p ≤ length t.entries
    → OwnZeros t.entries c.asked.heard.sent_at p f i → NoForeign t c.asked.heard.sent_at p f i → IsBare (t.at p) f i
zeros-since t lawful once numbered from to f size i c le r p late within own none =
    let serves = (lawful.entries r.place (entries.Executed c.asked.xid (calls.File (files.SetAttr f c.set c.guard)) (replies.File (kept.SetAttr c.wcc))) r.at).1 in
    let done = setattr_done (t.at r.place) (t.at (suc r.place)) f c.set c.guard c.wcc serves in
    let after = r.late in
    stays_bare t lawful (suc r.place) p f i (omega (arith, late)) within
    (λ n e at low high. spared n e at (omega (arith, after, low)) high) (set_bare (t.at r.place) (t.at (suc r.place)) f c.set size i done.0 c.sets le)
  where
    spared : (n : ℕ) (e : Entry) → At t.entries n e → c.asked.heard.sent_at < n → n < p → SparesZero e (t.at (suc n)) f i
    spared n e at low high = record {
      writing = λ xid offset how k b bytes reply is place byte.
          (let here : At t.entries n (entries.Executed xid (calls.File (files.Write f offset how bytes)) reply) = subst (λ z. At t.entries n z) is at in
          let w = first_call t lawful numbered n xid (calls.File (files.Write f offset how bytes)) reply here in
          let before = w.before in
          let inside = slice_get_within bytes k b byte in
          elim (cases_lt w.place c.asked.heard.sent_at) [
            | inr ge ↦ own.later w.place xid w.bytes offset how k b bytes w.first w.spells ge (omega (arith, before, high)) place byte
            | inl lt ↦
                let heard = own.earlier w.place xid w.bytes offset how bytes w.first w.spells (omega (arith, place)) (omega (arith, place, inside)) lt in
                let later = once heard.at n xid heard.bytes (calls.File (files.Write f offset how bytes)) reply heard.got heard.under here in
                let soon = heard.before in
                absurd (omega (arith, later, soon, low))
          ]);
      others = λ call reply is changes. none n call reply (subst (λ z. At t.entries n z) is at) low high changes;
    }
