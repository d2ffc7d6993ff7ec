-- A read that shows the byte of a put that succeeded, though another client has written over it since: the definition of reads refuses it.
use Rattle.std.proofs.Common.{inl, inr, ◌⊎◌, ◌≡◌, ◌<◌, ◌≤◌, ℕ, zero, suc, List, [], ◌∷◌, Some, refl, slice_get, arith}
use Rattle.nfs_types.specs.declared.mode.Mode.TheVariants as modes
use Rattle.nfs_file_calls.specs.declared.call.FileCall.TheVariants as files
use Rattle.world_model.specs.declared.answer.Answer.{Answer}
use Rattle.world_model.specs.declared.answer.Answer.TheVariants.{Done}
use Rattle.world_model.specs.declared.answer.Value.TheVariants as values
use Rattle.world_model.specs.declared.entry.Entry.{Entry}
use Rattle.world_model.specs.declared.entry.Entry.TheVariants.{Began, Answered, Sent, Delivered, Foreign}
use Rattle.world_model.specs.declared.message.Call.{Call}
use Rattle.world_model.specs.declared.message.Call.TheVariants as calls
use Rattle.world_model.specs.declared.message.Reply.{Reply}
use Rattle.world_model.specs.declared.op.Op.{Op}
use Rattle.world_model.specs.declared.op.Op.TheVariants as ops
use Rattle.world_model.specs.Entries.{At}
use Rattle.world_model.specs.History.{History}
use Rattle.world_model.specs.Messages.{HasXid, SpellsCall}
use Rattle.claims.specs.Modes.{Modes}
use Rattle.world_model.specs.Mounts.{Origin}
use Rattle.world_model.specs.Operations.{Ended, LastReply}
use Rattle.world_model.specs.Server.{Server, Object, Bytes}
use Rattle.claims.specs.Pending.{Pending}
use Rattle.claims.specs.ReadTrue.{ReadsBytes, ReadCurrent, IsCurrent, own, held, hole}
use Rattle.claims.specs.Slots.{Opens, asked}
use Rattle.claims.specs.Touched.{WritesByte, write, fill, put}
use Rattle.world_model.proofs.ServiceExamples.{file, server}

abbrev ok : Answer
ok = Done values.Nothing

abbrev path : List (List ℕ)
path = (97 ∷ []) ∷ []

abbrev get_attr : Call
get_attr = calls.File (files.GetAttr [])

abbrev the_put : Op
the_put = ops.Put path 0 (97 ∷ [])

abbrev the_open : Op
the_open = ops.OpenFile 1 modes.R path

abbrev the_read : Op
the_read = ops.Read 1 0 1

-- 97 is put, another client makes a call, and then 97 is read
abbrev put_then_read : Call → Reply → List ℕ → List ℕ → List Entry
put_then_read call reply sent came =
    Began 1 1 the_put ∷ Answered 1 1 ok ∷ Foreign call reply ∷ Began 1 2 the_open ∷ Sent sent ∷ Delivered came ∷ Answered 1 2 ok ∷ Began 1 3 the_read
    ∷ Answered 1 3 (Done (values.Bytes (97 ∷ []))) ∷ []

-- whose call left 122 there
abbrev written_over : ℕ → Server
written_over n = server (file (122 ∷ []) (122 ∷ []) 2)

abbrev shows_old : Call → Reply → List ℕ → List ℕ → History
shows_old call reply sent came = record { entries = put_then_read call reply sent came; at = written_over }

begins_there : (call : Call) (reply : Reply) (sent came : List ℕ) (x lane line : ℕ) (op : Op) → At (put_then_read call reply sent came) x (Began lane line op)
    → ((x ≡ 0) × (the_put ≡ op)) ⊎ ((the_open ≡ op) ⊎ (the_read ≡ op))
begins_there call reply sent came zero lane line op is = inl (refl, cc is)
begins_there call reply sent came (suc zero) lane line op is = absurd (cc is)
begins_there call reply sent came (suc (suc zero)) lane line op is = absurd (cc is)
begins_there call reply sent came (suc (suc (suc zero))) lane line op is = inr (inl (cc is))
begins_there call reply sent came (suc (suc (suc (suc zero)))) lane line op is = absurd (cc is)
begins_there call reply sent came (suc (suc (suc (suc (suc zero))))) lane line op is = absurd (cc is)
begins_there call reply sent came (suc (suc (suc (suc (suc (suc zero)))))) lane line op is = absurd (cc is)
begins_there call reply sent came (suc (suc (suc (suc (suc (suc (suc zero))))))) lane line op is = inr (inr (cc is))
begins_there call reply sent came (suc (suc (suc (suc (suc (suc (suc (suc zero)))))))) lane line op is = absurd (cc is)
begins_there call reply sent came (suc (suc (suc (suc (suc (suc (suc (suc (suc x))))))))) lane line op is = absurd (cc is)

no_write : (call : Call) (reply : Reply) (sent came : List ℕ) (x lane line slot offset : ℕ) (bytes : List ℕ) → At (put_then_read call reply sent came) x (Began lane line (ops.Write slot offset bytes)) → ⊥
no_write call reply sent came x lane line slot offset bytes is =
    elim (begins_there call reply sent came x lane line (ops.Write slot offset bytes) is) [ inl w ↦ absurd (cc w.1) | inr r ↦ elim r [ inl e ↦ absurd (cc e) | inr e ↦ absurd (cc e) ] ]

no_fill : (call : Call) (reply : Reply) (sent came : List ℕ) (x lane line slot offset count v : ℕ) → At (put_then_read call reply sent came) x (Began lane line (ops.Fill slot offset count v)) → ⊥
no_fill call reply sent came x lane line slot offset count v is =
    elim (begins_there call reply sent came x lane line (ops.Fill slot offset count v) is) [ inl w ↦ absurd (cc w.1) | inr r ↦ elim r [ inl e ↦ absurd (cc e) | inr e ↦ absurd (cc e) ] ]

one_put : (call : Call) (reply : Reply) (sent came : List ℕ) (x lane line offset : ℕ) (p : List (List ℕ)) (bytes : List ℕ) → At (put_then_read call reply sent came) x (Began lane line (ops.Put p offset bytes)) → x ≡ 0
one_put call reply sent came x lane line offset p bytes is =
    elim (begins_there call reply sent came x lane line (ops.Put p offset bytes) is) [ inl w ↦ w.0 | inr r ↦ elim r [ inl e ↦ absurd (cc e) | inr e ↦ absurd (cc e) ] ]

ended_put : (call : Call) (reply : Reply) (sent came : List ℕ) → Ended (put_then_read call reply sent came) 1 0 the_put 1 ok
ended_put call reply sent came = record { line = 1; began = refl; answered = refl; later = omega arith; first = λ j a at lt. omega (arith, lt) }

-- once it has succeeded, its byte isn't pending
not_pending : (m : Modes) (origin : Origin) (call : Call) (reply : Reply) (sent came : List ℕ) (n v : ℕ) → 2 ≤ n → Pending m origin (put_then_read call reply sent came) [] 0 n v → ⊥
not_pending m origin call reply sent came n v late p = by p.writes
  where
    ended_at : (w : ℕ) → w ≡ 0 → Ended (put_then_read call reply sent came) 1 w the_put 1 ok
    ended_at zero is = ended_put call reply sent came
    ended_at (suc w) is = absurd (omega (arith, is))

    by : WritesByte m origin (put_then_read call reply sent came) p.w [] 0 v → ⊥
    by (write slot offset bytes of c) = no_write call reply sent came p.w of.lane of.line slot offset bytes of.began
    by (fill slot offset count of low high) = no_fill call reply sent came p.w of.lane of.line slot offset count v of.began
    by (put lane line offset e path_ bytes at ends leads c) =
        p.unput (record {
          lane = 1;
          path = path;
          offset = 0;
          bytes = 97 ∷ [];
          y = 1;
          value = values.Nothing;
          ended = ended_at p.w (one_put call reply sent came p.w lane line offset path_ bytes at);
          before = omega (arith, late);
        })

not_there : (now stable : List ℕ) (o : Object) → Some (file (122 ∷ []) (122 ∷ []) 2) ≡ Some o → o.holds ≡ Bytes now stable → slice_get now 0 ≡ Some 97 → ⊥
not_there [] stable o is holds got = absurd (cc got)
not_there (b ∷ now) stable o is holds got =
    let same : 122 ∷ [] ≡ b ∷ now = cc (is, holds) in
    let new : 122 ≡ b = cc same in
    let old : b ≡ 97 = cc got in
    omega (arith, old, new)

may_not_show_an_old_put : (m : Modes) (origin : Origin) (call : Call) (reply : Reply) (sent came : List ℕ) → HasXid sent 7 → SpellsCall 7 get_attr sent → HasXid came 7
    → ReadCurrent m origin (shows_old call reply sent came) → ⊥
may_not_show_an_old_put m origin call reply sent came under spells answers current = refuted (current 7 8 3 [] 0 1 (97 ∷ []) reads 0 97 refl)
  where
    first_sent : (j : ℕ) (b : List ℕ) → At (put_then_read call reply sent came) j (Sent b) → HasXid b 7 → 4 ≤ j
    first_sent zero b is its = absurd (cc is)
    first_sent (suc zero) b is its = absurd (cc is)
    first_sent (suc (suc zero)) b is its = absurd (cc is)
    first_sent (suc (suc (suc zero))) b is its = absurd (cc is)
    first_sent (suc (suc (suc (suc j)))) b is its = omega arith

    last_came : (j : ℕ) (b : List ℕ) → At (put_then_read call reply sent came) j (Delivered b) → j < 6 → j ≤ 5
    last_came j b is before = omega (arith, before)

    opened_first : (j : ℕ) (a : Answer) → At (put_then_read call reply sent came) j (Answered 1 2 a) → 3 < j → 6 ≤ j
    opened_first zero a is after = absurd (cc is)
    opened_first (suc zero) a is after = omega (arith, after)
    opened_first (suc (suc zero)) a is after = absurd (cc is)
    opened_first (suc (suc (suc zero))) a is after = absurd (cc is)
    opened_first (suc (suc (suc (suc zero)))) a is after = absurd (cc is)
    opened_first (suc (suc (suc (suc (suc zero))))) a is after = absurd (cc is)
    opened_first (suc (suc (suc (suc (suc (suc j)))))) a is after = omega arith

    read_first : (j : ℕ) (a : Answer) → At (put_then_read call reply sent came) j (Answered 1 3 a) → 7 < j → 8 ≤ j
    read_first j a is after = omega (arith, after)

    last : LastReply (put_then_read call reply sent came) 6 get_attr
    last = record {
      at = 5;
      bytes = came;
      xid = 7;
      sent_at = 4;
      record_sent = sent;
      got = refl;
      before = omega arith;
      last = last_came;
      under = answers;
      sent = record { sent = refl; under = under; first = first_sent };
      asked = omega arith;
      spells = spells;
    }

    opens : Opens m (put_then_read call reply sent came) 1 1 3 6 []
    opens = record { mode = modes.R; path = path; value = values.Nothing; ended = record { line = 2; began = refl; answered = refl; later = omega arith; first = opened_first }; finds = asked last }

    not_closed : (c k : ℕ) (answer : Answer) → Ended (put_then_read call reply sent came) 1 c (ops.Close 1) k answer → 6 < k → k < 7 → ⊥
    not_closed c k answer ended after before = omega (arith, after, before)

    reads : ReadsBytes m (put_then_read call reply sent came) 7 8 3 [] 0 1 (97 ∷ [])
    reads = record {
      lane = 1;
      slot = 1;
      ended = record { line = 3; began = refl; answered = refl; later = omega arith; first = read_first };
      holds = record { y = 6; opens = opens; before = omega arith; kept = not_closed };
    }

    refuted : IsCurrent m origin (shows_old call reply sent came) 7 8 3 [] 0 97 → ⊥
    refuted (own p) = not_pending m origin call reply sent came p.n 97 (let late = p.moment.late in omega (arith, late)) p.pending
    refuted (held was) = not_there was.now was.stable was.has.file was.has.is was.has.holds was.holds
    refuted (hole q u zero_ size later p) = absurd (cc zero_)
