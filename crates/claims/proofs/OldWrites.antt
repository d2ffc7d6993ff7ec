-- A WRITE that carries the byte of a put that succeeded, for an operation that began afterwards: the definition of calls refuses it.
use Rattle.std.proofs.Common.{inl, inr, ◌⊎◌, ◌≡◌, ◌≤◌, ℕ, zero, suc, List, [], ◌∷◌, refl, arith}
use Rattle.nfs_file_calls.specs.declared.call.FileCall.TheVariants as files
use Rattle.world_model.specs.declared.answer.Answer.{Answer}
use Rattle.world_model.specs.declared.answer.Answer.TheVariants.{Done}
use Rattle.world_model.specs.declared.answer.Value.TheVariants as values
use Rattle.world_model.specs.declared.entry.Entry.{Entry}
use Rattle.world_model.specs.declared.entry.Entry.TheVariants.{Began, Answered, Sent}
use Rattle.world_model.specs.declared.message.Call.{Call}
use Rattle.world_model.specs.declared.message.Call.TheVariants as calls
use Rattle.world_model.specs.declared.op.Op.{Op}
use Rattle.world_model.specs.declared.op.Op.TheVariants as ops
use Rattle.world_model.specs.Entries.{At}
use Rattle.world_model.specs.Mounts.{Origin}
use Rattle.world_model.specs.Operations.{Ended}
use Rattle.claims.specs.CallsAsked.{KeepsTo}
use Rattle.claims.specs.Modes.{Modes}
use Rattle.claims.specs.Pending.{Pending}
use Rattle.claims.specs.Terms.{Terms}
use Rattle.claims.specs.Touched.{WritesByte, write, fill, put}

abbrev ok : Answer
ok = Done values.Nothing

abbrev path : List (List ℕ)
path = (97 ∷ []) ∷ []

abbrev the_put : Op
the_put = ops.Put path 0 (97 ∷ [])

-- 97 is put, and a sync that begins later sends a record
abbrev sent_later : List ℕ → List Entry
sent_later sent = Began 1 1 the_put ∷ Answered 1 1 ok ∷ Began 2 1 (ops.Sync 1) ∷ Sent sent ∷ []

-- the WRITE of the byte, in this way
abbrev old_write : ℕ → Call
old_write how = calls.File (files.Write [] 0 how (97 ∷ []))

begins_there : (sent : List ℕ) (x lane line : ℕ) (op : Op) → At (sent_later sent) x (Began lane line op) → ((x ≡ 0) × (the_put ≡ op)) ⊎ (ops.Sync 1 ≡ op)
begins_there sent zero lane line op is = inl (refl, cc is)
begins_there sent (suc zero) lane line op is = absurd (cc is)
begins_there sent (suc (suc zero)) lane line op is = inr (cc is)
begins_there sent (suc (suc (suc zero))) lane line op is = absurd (cc is)
begins_there sent (suc (suc (suc (suc x)))) lane line op is = absurd (cc is)

-- once the put has succeeded, its byte isn't pending
not_pending : (m : Modes) (origin : Origin) (sent : List ℕ) (i n v : ℕ) → 2 ≤ n → Pending m origin (sent_later sent) [] i n v → ⊥
not_pending m origin sent i n v late o = by o.writes
  where
    ended_at : (w : ℕ) → w ≡ 0 → Ended (sent_later sent) 1 w the_put 1 ok
    ended_at zero is = record { line = 1; began = refl; answered = refl; later = omega arith; first = λ j a at lt. omega (arith, lt) }
    ended_at (suc w) is = absurd (omega (arith, is))

    by : WritesByte m origin (sent_later sent) o.w [] i v → ⊥
    by (write slot offset bytes of c) =
        elim (begins_there sent o.w of.lane of.line (ops.Write slot offset bytes) of.began) [ inl k ↦ absurd (cc k.1) | inr e ↦ absurd (cc e) ]
    by (fill slot offset count of low high) =
        elim (begins_there sent o.w of.lane of.line (ops.Fill slot offset count v) of.began) [ inl k ↦ absurd (cc k.1) | inr e ↦ absurd (cc e) ]
    by (put lane line offset e path_ bytes at ends leads c) = elim (begins_there sent o.w lane line (ops.Put path_ offset bytes) at) [
      | inl k ↦ o.unput (record {
        lane = 1;
        path = path;
        offset = 0;
        bytes = 97 ∷ [];
        y = 1;
        value = values.Nothing;
        ended = ended_at o.w k.0;
        before = omega (arith, late);
      })
      | inr e ↦ absurd (cc e)
    ]

may_not_send_settled_bytes : (terms : Terms) (sent : List ℕ) (how : ℕ) → KeepsTo terms (sent_later sent) 2 3 (old_write how) → ⊥
may_not_send_settled_bytes terms sent how keeps =
    let o = keeps.own [] (97 ∷ []) 0 how refl 0 97 refl in
    not_pending terms.modes terms.origin sent 0 o.n 97 (let late = o.moment.late in omega (arith, late)) o.pending
