-- What a write makes of the bytes of a disk in memory.
use Rattle.std.proofs.Common.{◌≡◌, ◌<◌, ◌≤◌, inl, inr, ℕ, ◌+◌, ◌-◌, ◌/◌, max, List, [], ◌∷◌, ◌++◌, length, take, drop, replicate, refl, sym, ◌∙◌, ap, subst, arith, length-append, length-drop}
use Rattle.std.proofs.lemmas.Bool.{cases_lt}
use Rattle.std.proofs.lemmas.List.{get_or-replicate, get_or-take, get_or-drop, get_or_past, get_or-append_right, get_or_append_left, length-replicate, length-take, take_more, reverse-append}
use Rattle.std.specs.Prelude.{Vec, reverse, get_or}
use Rattle.std.specs.declared.alloc.Global.{Global}
use Rattle.page_store.specs.Disk.{Holds, Torn, byte_at}
use Rattle.page_store.specs.declared.mem_disk.DiskCall.{DiskCall}
use Rattle.page_store.specs.declared.mem_disk.DiskCall.TheVariants.{Wrote, Synced, Crashed}
use Rattle.page_store.specs.MemDisk.{IsWritten, padded, written, seen_by, torn_by, left_by, sees_one}

padded-byte : (n : ℕ) (old : List ℕ) (i : ℕ) → byte_at (padded n old) i ≡ byte_at old i
padded-byte n old i = elim (cases_lt i (length old)) [
  | inl low ↦ get_or_append_left old (replicate (n - length old) 0) 0 i low
  | inr high ↦ get_or-append_right old (replicate (n - length old) 0) (length old) i 0 refl high ∙ zeros (i - length old) ∙ sym (get_or_past old i 0 high)
]
  where
    zeros : (k : ℕ) → byte_at (replicate (n - length old) 0) k ≡ 0
    zeros k = elim (cases_lt k (n - length old)) [
      | inl low ↦ get_or-replicate (n - length old) k 0 0 low
      | inr high ↦ get_or_past (replicate (n - length old) 0) k 0 (omega (arith, high, length-replicate {A = ℕ} (n - length old) 0))
    ]

padded-long : (n : ℕ) (old : List ℕ) → length (padded n old) ≡ max (length old) n
padded-long n old = let whole = length-append old (replicate (n - length old) 0) in let more = length-replicate {A = ℕ} (n - length old) 0 in omega (arith, whole, more)

module _ (at : ℕ) (bytes old : List ℕ) where
  abbrev wide : List ℕ
  wide = padded (at + length bytes) old

  front-long : length (take at wide) ≡ at
  front-long = let long = padded-long (at + length bytes) old in let short = length-take at wide in omega (arith, long, short)

  pub holds : Holds at bytes old (written at bytes old)
  holds = record {
    written = λ i low.
        get_or-append_right (take at wide) (bytes ++ drop (at + length bytes) wide) at (at + i) 0 front-long (omega arith)
        ∙ ap (λ (k : ℕ). byte_at (bytes ++ drop (at + length bytes) wide) k) same
        ∙ get_or_append_left bytes (drop (at + length bytes) wide) 0 i low;
    below = λ i low. get_or_append_left (take at wide) (bytes ++ drop (at + length bytes) wide) 0 i (omega (arith, low, front-long)) ∙ get_or-take at wide i 0 low
        ∙ padded-byte (at + length bytes) old i;
    above = λ i high.
        get_or-append_right (take at wide) (bytes ++ drop (at + length bytes) wide) at i 0 front-long (omega (arith, high))
        ∙ get_or-append_right bytes (drop (at + length bytes) wide) (length bytes) (i - at) 0 refl (omega (arith, high))
        ∙ get_or-drop (at + length bytes) wide (i - at - length bytes) 0
        ∙ ap (λ (k : ℕ). byte_at wide k) (omega (arith, high))
        ∙ padded-byte (at + length bytes) old i;
    long =
        let a : length (written at bytes old) ≡ length (take at wide) + length (bytes ++ drop (at + length bytes) wide) = length-append (take at wide) (bytes ++ drop (at + length bytes) wide) in
        let b = length-append bytes (drop (at + length bytes) wide) in
        let d = length-drop (at + length bytes) wide in
        let w = padded-long (at + length bytes) old in
        omega (arith, a, b, d, w, front-long);
  }
    where
      same : {i : ℕ} → at + i - at ≡ i
      same {i} = omega arith

  pub torn : Torn at (length bytes) old (written at bytes old)
  torn = record { below = λ i low within. holds.below i low; above = λ i high within. holds.above i high; long = let long = holds.long in omega (arith, long) }

-- ---- the calls of the disk, the last one in front

module _ (at : ℕ) (piece old new : List ℕ) (past calls : List DiskCall) (w : IsWritten at piece old new past calls) where
  pub write-holds : Holds at piece (seen_by past) (seen_by calls)
  write-holds = subst (λ (cs : List DiskCall). Holds at piece (seen_by past) (seen_by cs)) (sym w.call)
      (subst (λ (b : List ℕ). Holds at b (seen_by past) (seen_by (Wrote at w.copy ∷ past))) w.same (holds at w.copy.items (seen_by past)))

  pub write-crash : (c : List ℕ) → left_by calls c → (d : List ℕ) × left_by past d × Torn at (length piece) d c
  write-crash c left = subst (λ (b : List ℕ). (d : List ℕ) × left_by past d × Torn at (length b) d c) w.same (by (subst (λ (cs : List DiskCall). left_by cs c) w.call left))
    where
      by : left_by (Wrote at w.copy ∷ past) c → (d : List ℕ) × left_by past d × Torn at (length w.copy.items) d c
      by (inl now) = (seen_by past, sees_one past, subst (λ (l : List ℕ). Torn at (length w.copy.items) (seen_by past) l) (sym now) (torn at w.copy.items (seen_by past)))
      by (inr was) = was

  pub write-holds-at : (view : List DiskCall) → past ≡ view → Holds at piece (seen_by view) (seen_by calls)
  write-holds-at view is = subst (λ (p : List DiskCall). Holds at piece (seen_by p) (seen_by calls)) is write-holds

  pub write-crash-at : (view : List DiskCall) → past ≡ view → (c : List ℕ) → left_by calls c → (d : List ℕ) × left_by view d × Torn at (length piece) d c
  write-crash-at view is c left = subst (λ (p : List DiskCall). (d : List ℕ) × left_by p d × Torn at (length piece) d c) is (write-crash c left)

module _ (old new : List DiskCall) (is : new ≡ Synced ∷ old) where
  pub sync-only : (c : List ℕ) → left_by new c → c ≡ seen_by old
  sync-only c left = subst (λ (cs : List DiskCall). left_by cs c) is left

  pub sync-fewer : (c : List ℕ) → left_by new c → left_by old c
  sync-fewer c left = subst (left_by old) (sym (sync-only c left)) (sees_one old)

pub same-left : (old new : List DiskCall) → new ≡ old → (c : List ℕ) → left_by new c → left_by old c
same-left old new is c left = subst (λ (cs : List DiskCall). left_by cs c) is left

-- where nothing was done
pub stay-crash : (at n : ℕ) (old new : List DiskCall) → new ≡ old → (c : List ℕ) → left_by new c → (d : List ℕ) × left_by old d × Torn at n d c
stay-crash at n old new is c left = (c, same-left old new is c left, record { below = λ i low within. refl; above = λ i high within. refl; long = omega arith })

-- ---- a crash

-- of a write the first half was left
half-torn : (at : ℕ) (bytes old : List ℕ) → Torn at (length bytes) old (written at (take (length bytes / 2) bytes) old)
half-torn at bytes old =
    let half = take (length bytes / 2) bytes in
    let short : length half ≤ length bytes = let cut = length-take (length bytes / 2) bytes in omega (arith, cut) in
    let h = holds at half old in
    record {
      below = λ i low within. h.below i low;
      above = λ i high within. h.above i (omega (arith, high, short));
      long = let long = h.long in omega (arith, long);
    }

pub torn-left : (calls : List DiskCall) → left_by calls (torn_by calls)
torn-left [] = refl
torn-left (Wrote at bytes ∷ past) = inr (torn_by past, torn-left past, half-torn at bytes.items (torn_by past))
torn-left (Synced ∷ past) = refl
torn-left (Crashed bytes ∷ past) = refl

pub crash-left : (old new : List DiskCall) (bytes : Vec ℕ Global) → new ≡ Crashed bytes ∷ old → bytes.items ≡ torn_by old → left_by old (seen_by new)
crash-left old new bytes is left = subst (left_by old) (sym (ap seen_by is ∙ left)) (torn-left old)

pub crash-only : (old new : List DiskCall) (bytes : Vec ℕ Global) → new ≡ Crashed bytes ∷ old → (c : List ℕ) → left_by new c → c ≡ seen_by new
crash-only old new bytes is c left = subst (λ (cs : List DiskCall). left_by cs c) is left ∙ sym (ap seen_by is)

-- one call more, in the order of time
pub call-more : (calls : List DiskCall) (i : ℕ) (d : DiskCall) → i < length calls → reverse (take (i + 1) calls) ≡ get_or calls i d ∷ reverse (take i calls)
call-more calls i d low = ap reverse (take_more calls i d low) ∙ reverse-append (take i calls) (get_or calls i d ∷ [])
