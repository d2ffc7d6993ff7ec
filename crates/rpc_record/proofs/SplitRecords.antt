-- Which records are read from bytes, and which are still to be delivered.
use Rattle.std.proofs.Common.{◌≡◌, ◌≤◌, ◌<◌, ◌%◌, ◌^◌, inl, inr, ℕ, zero, suc, List, [], ◌∷◌, ◌++◌, length, take, drop, Option, Some, None, refl, sym, ap, ◌∙◌, arith, append_assoc}
use Rattle.std.proofs.lemmas.Bool.{cases_lt, ltb-false}
use Rattle.std.proofs.lemmas.List.{length-append, length-drop}
use Rattle.byteorder.specs.Endian.{big_number}
use Rattle.world_model.specs.declared.entry.Entry.{Entry}
use Rattle.world_model.specs.declared.entry.Entry.TheVariants as entries
use Rattle.world_model.specs.Entries.{At}
use Rattle.world_model.specs.History.{History}
use Rattle.world_model.proofs.Places.{At-last}
use Rattle.outside.specs.Records.{joined, record_at, split_next, split_in, split}
use Rattle.outside.specs.Reading.{adds, all_add}
use Rattle.rpc_record.specs.Honest.{Queued}
use Rattle.rpc_record.proofs.RecordJoins.{guard_some, joined_last, joined_next, less_one, record_grow}
use Rattle.rpc_record.proofs.LawfulAlong.{Keeps, all_keeps}

-- ---- a record at the front

joined_shorter : (n : ℕ) (front b : List ℕ) (r : List ℕ × List ℕ) → joined n front b ≡ Some r → length r.1 < length b
unfolding joined
joined_shorter zero front b r e = absurd cc
joined_shorter (suc n) front b r e =
    let p = guard_some _ _ r e in
    let q = guard_some _ _ r p.1 in
    let long : 4 ≤ length b = ltb-false _ _ p.0 in
    let len : ℕ = big_number 4 b % 2 ^ 31 in
    let whole : len ≤ length (drop 4 b) = ltb-false _ _ q.0 in
    let one : 0 < suc n = omega arith in
    elim (cases_lt (big_number 4 b) (2 ^ 31)) [
      | inl lt ↦
          let f : joined n (front ++ take len (drop 4 b)) (drop len (drop 4 b)) ≡ Some r = rw (less_one n) at (sym (joined_next (suc n) front b one long whole lt) ∙ e) in
          let s = joined_shorter n (front ++ take len (drop 4 b)) (drop len (drop 4 b)) r f in
          omega (arith, s, long, length-drop len (drop 4 b), length-drop 4 b)
      | inr le ↦
          let f : (front ++ take len (drop 4 b), drop len (drop 4 b)) ≡ r = cc (sym (joined_last (suc n) front b one long whole le) ∙ e) in
          rw (← f) (omega (arith, long, length-drop len (drop 4 b), length-drop 4 b))
    ]

shorter : (b : List ℕ) (r : List ℕ × List ℕ) → record_at b ≡ Some r → length r.1 < length b
unfolding record_at
shorter b r e = joined_shorter (length b) [] b r e

pub no_record : record_at [] ≡ None
unfolding record_at joined
no_record = refl

empty_is : (b : List ℕ) → length b ≤ 0 → b ≡ []
empty_is [] le = refl
empty_is (x ∷ b) le = absurd (omega (arith, le))

-- ---- all records at the front

pub split_none : (n : ℕ) (b : List ℕ) → record_at b ≡ None → split_in n b ≡ record { records = []; rest = b }
unfolding split_in
split_none zero b e = refl
split_none (suc n) b e = rw e refl

split_some : (n : ℕ) (b : List ℕ) (r : List ℕ × List ℕ) → 0 < n → record_at b ≡ Some r → r.1 ≡ [] → split_in n b ≡ record { records = r.0 ∷ []; rest = [] }
unfolding split_in
split_some zero b r some e last = absurd (omega (arith, some))
split_some (suc n) b r some e last = rw (e, last, split_none n [] no_record) refl

-- bytes that are one record
pub split_one : (b rec : List ℕ) → record_at b ≡ Some (rec, []) → split b ≡ record { records = rec ∷ []; rest = [] }
split_one b rec e = split_some (length b) b (rec, []) (omega (arith, shorter b (rec, []) e)) e refl

-- bytes that are a part of one record are none
pub part_none : (begun bytes rest rec : List ℕ) → record_at (begun ++ (bytes ++ rest)) ≡ Some (rec, []) → 0 < length rest → record_at (begun ++ bytes) ≡ None
part_none begun bytes rest rec e more = none_if (record_at (begun ++ bytes)) (λ r f. too_long r f)
  where
    none_if : (o : Option (List ℕ × List ℕ)) → ((r : List ℕ × List ℕ) → o ≡ Some r → ⊥) → o ≡ None
    none_if None f = refl
    none_if (Some r) f = absurd (f r refl)

    pair_is : (a b : List ℕ × List ℕ) → Some a ≡ Some b → a.1 ≡ b.1
    pair_is a b e = cc

    too_long : (r : List ℕ × List ℕ) → record_at (begun ++ bytes) ≡ Some r → ⊥
    too_long r f = absurd (omega (arith, more, length-append r.1 rest, ap length (pair_is (r.0, r.1 ++ rest) (rec, []) (sym (record_grow (begun ++ bytes) rest r f) ∙ ap record_at (append_assoc begun bytes rest) ∙ e))))

-- ---- records that are still to be delivered

pub queue_keeps : (h k : List Entry) (bytes unread : List ℕ) → Keeps h k → Queued h bytes unread → Queued k bytes unread
queue_keeps h k bytes unread keeps (Queued.none b e) = Queued.none b e
queue_keeps h k bytes unread keeps (Queued.more b u r at e here q) = Queued.more b u r at e (keeps at (entries.Delivered r.0) here) (queue_keeps h k r.1 u keeps q)

queue_all : (n : ℕ) (bytes : List ℕ) (h : History) → length bytes ≤ n → Queued (all_add entries.Delivered (split_in n bytes).records h).entries bytes (split_in n bytes).rest
unfolding split_in
queue_all zero bytes h le = Queued.none bytes (ap record_at (empty_is bytes le) ∙ no_record)
queue_all (suc n) bytes h le =
    elim (record_at bytes) as (λ o. record_at bytes ≡ o → Queued (all_add entries.Delivered (split_next (split_in n) bytes o).records h).entries bytes (split_next (split_in n) bytes o).rest) [
      | None ↦ λ e. Queued.none bytes e
      | Some r ↦ λ e.
          let recs : List (List ℕ) = (split_in n r.1).records in
          Queued.more bytes (split_in n r.1).rest r (length h.entries) e
          (all_keeps recs entries.Delivered (adds h (entries.Delivered r.0)) (length h.entries) (entries.Delivered r.0) (At-last h.entries (entries.Delivered r.0)))
          (queue_all n r.1 (adds h (entries.Delivered r.0)) (omega (arith, le, shorter bytes r e)))
    ] refl

-- bytes came
pub queue_more : (h : History) (pending unread bytes : List ℕ) → Queued h.entries pending unread
    → Queued (all_add entries.Delivered (split (unread ++ bytes)).records h).entries (pending ++ bytes) (split (unread ++ bytes)).rest
queue_more h pending unread bytes (Queued.none b e) = queue_all (length (b ++ bytes)) (b ++ bytes) h (omega arith)
queue_more h pending unread bytes (Queued.more b u r at e here q) =
    Queued.more (b ++ bytes) (split (u ++ bytes)).rest (r.0, r.1 ++ bytes) at (record_grow b bytes r e)
    (all_keeps (split (u ++ bytes)).records entries.Delivered h at (entries.Delivered r.0) here)
    (queue_more h r.1 u bytes q)

-- the next of them
pub record Next (h : List Entry) (pending unread : List ℕ) (r : List ℕ × List ℕ) : Type 0 where
  pub at : ℕ
  pub here : At h at (entries.Delivered r.0)
  pub queue : Queued h r.1 unread

not_both : (o : Option (List ℕ × List ℕ)) (r : List ℕ × List ℕ) → o ≡ None → o ≡ Some r → ⊥
not_both o r e f = let h = sym e ∙ f in cc h

pub queue_next : (h : List Entry) (pending unread : List ℕ) (r : List ℕ × List ℕ) → Queued h pending unread → record_at pending ≡ Some r → Next h pending unread r
queue_next h pending unread r (Queued.none b e) f = absurd (not_both (record_at b) r e f)
queue_next h pending unread r (Queued.more b u s at e here q) f =
    let same : s ≡ r = some_is s r (sym e ∙ f) in
    rw (← same) (record { at = at; here = here; queue = q })
  where
    some_is : (x y : List ℕ × List ℕ) → Some x ≡ Some y → x ≡ y
    some_is x y e = cc
