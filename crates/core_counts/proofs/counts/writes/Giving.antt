-- An operation that gave a place its byte writes it, as a whole history sees it.
use Rattle.core_counts.proofs.Prelude.{◌≡◌, ◌<◌, ◌≤◌, ◌-◌, ◌⊎◌, inl, inr, ℕ, zero, suc, List, [], length, Bool, Some, None, slice_get, refl, sym, ap, subst, ◌∙◌, arith, append-nil, if◌then◌else◌, cases_lt, lt-ltb, Entry, Began, Op, At, Rooted, AnsweredBefore, EndsAt, IsOf, Terms, WritesByte, Rooted-wide, At-below, Mounted, IsAsked, Setup, View, IsSession}
use Rattle.std.proofs.Common.{replicate}
use Rattle.std.proofs.lemmas.Bool.{le-ltb}
use Rattle.world_model.specs.Operations.{answered, unanswered}
use Rattle.claims.specs.Touched.{Covers}
use Rattle.op_machines.specs.Begun.{IsNamed}
use Rattle.world_model.specs.declared.op.Op.TheVariants as ops
use Rattle.world_model.specs.Leads.{Leads}
use Rattle.claims.specs.Touched as touched
use Rattle.core_facts.proofs.Leading.{leads-from}
use Rattle.core_answers.specs.writes.Written.{byte_from, byte_by}
use Rattle.core_session.proofs.calls.GivenBytes.{IsGiven, LeadsInTime}
use Rattle.core_session.proofs.calls.WriteCause.{IsStore}
use Rattle.core_session.proofs.order.PutWrites.{ends-at}

-- an operation that wasn't answered before a place ends there or later
ends-late : (h : List Entry) (x n k : ℕ) → k ≤ length h → (AnsweredBefore h x k → ⊥) → EndsAt h x n → k ≤ n
ends-late h x n k within none (answered lane op answer d) = elim (cases_lt n k) [
  | inl lt ↦ absurd (none (record { lane = lane; op = op; y = n; answer = answer; ended = d; before = lt }))
  | inr ge ↦ omega (arith, ge)
]
ends-late h x n k within none (unanswered not is) = omega (arith, within, is)

-- bytes from an offset on
covers-by : (offset : ℕ) (bytes : List ℕ) (place byte : ℕ) → byte_from offset bytes place ≡ Some byte → Covers offset bytes place byte
covers-by offset bytes place byte is = by (cases_lt place offset)
  where
    by : (place < offset) ⊎ (offset ≤ place) → Covers offset bytes place byte
    by (inl low) = absurd (let no_way : None ≡ Some byte = sym (ap (λ (b : Bool). if b then None else slice_get bytes (place - offset)) (lt-ltb place offset low)) ∙ is in cc)
    by (inr high) = record {
      k = place - offset;
      place = omega (arith, high);
      byte = sym (ap (λ (b : Bool). if b then None else slice_get bytes (place - offset)) (le-ltb place offset high)) ∙ is;
    }

repeated : (count byte k v : ℕ) → slice_get (replicate count byte) k ≡ Some v → (v ≡ byte) × (k < count)
repeated zero byte k v is = absurd (cc)
repeated (suc count) byte zero v is = (cc, omega arith)
repeated (suc count) byte (suc k) v is = let rest = repeated count byte k v is in (rest.0, let low = rest.1 in omega (arith, low))

module _ (m : Mounted) (terms : Terms) (setup : Setup) (h : List Entry) (v : View) (s : IsSession m terms setup h v) where
  pub writes-of : (f : List ℕ) (place byte : ℕ) (g : IsGiven m terms.modes h f place byte) → WritesByte terms.modes terms.origin h g.x f place byte
  writes-of f place byte g = by g.op g.began g.gives g.held g.leads (s.asked g.x g.lane g.line g.op g.began)
    where
      put : (path : List (List ℕ)) (offset : ℕ) (bytes : List ℕ) → At h g.x (Began g.lane g.line (ops.Put path offset bytes)) → byte_from offset bytes place ≡ Some byte
          → LeadsInTime m h g.x path f → WritesByte terms.modes terms.origin h g.x f place byte
      put path offset bytes began gives l =
          let end = ends-at h g.x g.lane g.line (ops.Put path offset bytes) began in
          let late = ends-late h g.x end.0 l.n l.within l.unanswered end.1 in
          let low = after-began path offset bytes began end.0 end.1 in
          touched.put g.lane g.line offset end.0 path bytes began end.1
          (subst (λ (k : List Entry). Leads terms.origin k end.0 path f) (append-nil h)
          (leads-from m.root terms.origin h [] l.n end.0 path f late
          (subst (λ (k : List Entry). Rooted terms.origin k end.0 m.root) (sym (append-nil h))
          (Rooted-wide terms.origin h g.x end.0 m.root low (s.root g.x g.lane g.line (ops.Put path offset bytes) began))) l.leads))
          (covers-by offset bytes place byte gives)
        where
          after-began : (path : List (List ℕ)) (offset : ℕ) (bytes : List ℕ) → At h g.x (Began g.lane g.line (ops.Put path offset bytes)) → (n : ℕ) → EndsAt h g.x n → g.x ≤ n
          after-began path offset bytes at n ends =
              let below = At-below h g.x (Began g.lane g.line (ops.Put path offset bytes)) at in
              ends-late h g.x n g.x (omega (arith, below)) (λ a. let past = a.ended.later in let early = a.before in absurd (omega (arith, past, early))) ends

      by : (op : Op) → At h g.x (Began g.lane g.line op) → byte_by op place ≡ Some byte → (IsStore op → IsOf terms.modes h g.x op f)
          → ((path : List (List ℕ)) (offset : ℕ) (text : List ℕ) → op ≡ ops.Put path offset text → IsNamed path → LeadsInTime m h g.x path f) → IsAsked op
          → WritesByte terms.modes terms.origin h g.x f place byte
      by (ops.Write slot offset bytes) began gives held leads fits = touched.write slot offset bytes (held tt) (covers-by offset bytes place byte gives)
      by (ops.Fill slot offset count same) began gives held leads fits =
          let c = covers-by offset (replicate count same) place byte gives in
          let r = repeated count same c.k byte c.byte in
          let at = c.place in
          let within = r.1 in
          touched.fill slot offset count (subst (λ (b : ℕ). IsOf terms.modes h g.x (ops.Fill slot offset count b) f) (sym r.0) (held tt)) (omega (arith, at)) (omega (arith, at, within))
      by (ops.Put path offset bytes) began gives held leads fits = put path offset bytes began gives (leads path offset bytes refl fits.0)
      by (ops.OpenFile slot mode path) began gives held leads fits = absurd (cc)
      by (ops.Read slot offset count) began gives held leads fits = absurd (cc)
      by (ops.Sync slot) began gives held leads fits = absurd (cc)
      by (ops.Close slot) began gives held leads fits = absurd (cc)
      by (ops.Truncate slot size) began gives held leads fits = absurd (cc)
      by (ops.Stat path) began gives held leads fits = absurd (cc)
      by (ops.Access path bits) began gives held leads fits = absurd (cc)
      by (ops.MakeDir path) began gives held leads fits = absurd (cc)
      by (ops.RemoveDir path) began gives held leads fits = absurd (cc)
      by (ops.Remove path) began gives held leads fits = absurd (cc)
      by (ops.Rename from to) began gives held leads fits = absurd (cc)
      by (ops.Link from to) began gives held leads fits = absurd (cc)
      by (ops.SymLink path target) began gives held leads fits = absurd (cc)
      by (ops.ReadLink path) began gives held leads fits = absurd (cc)
      by (ops.List path) began gives held leads fits = absurd (cc)
