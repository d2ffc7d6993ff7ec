-- What is pending of one file is changed in the map of all files.
use Rattle.std.proofs.Common.{◌≡◌, ◌<◌, ◌≤◌, ◌^◌, ℕ, ◌+◌, ◌-◌, List, [], ◌∷◌, length, Some, None, Result, Ok, Err, refl, sym, ap, ◌∙◌, subst, arith, nat_cmp}
use Rattle.std.specs.Prelude.{OnErr, IsErrAnd}
use Rattle.std.specs.Cmp.Lexicographic.{slice_cmp}
use Rattle.std.specs.List.Sorted.{IsStrictlySortedBy}
use Rattle.std.specs.Map.{lookup, keys_of, set_value, remove_entry}
use Rattle.std.specs.BTreeMap.{BTreeMap, insert_entry, UpdatesBy, WritesThrough}
use Rattle.std.proofs.lemmas.Map.Steps.{set_value_same}
use Rattle.write_back.specs.declared.piece.AddFault.{AddFault}
use Rattle.write_back.specs.declared.piece.AddFault.TheVariants.{Full, Memory}
use Rattle.write_back.specs.Pieces.{FilePending, nothing, pending_of}
use Rattle.write_back.specs.declared.change.Change.{Change}
use Rattle.write_back.specs.Segments.{shown}
use Rattle.write_back.specs.Effects.{IsOfHeld}
use Rattle.write_back.specs.Landing.{with_change, with_cut}
use Rattle.write_back.specs.Files.{Pending, of_file, OnFile, IsCounted, HasNoPiece, IsNewest, all_pending}
use Rattle.write_back.specs.Sound.{IsSound, IsAbove, most_pending}
use Rattle.write_back.proofs.Adding.{with_added, sound-added, sound-cut}
use Rattle.write_back.proofs.Keeping.{sound-nothing}
use Rattle.write_back.proofs.OwnBytes.{own-added, own-cut}
use Rattle.write_back.proofs.Marking.{sound-held, room-held}
use Rattle.write_back.proofs.Limits.{most_is}
use Rattle.write_back.proofs.Newest.{newest-above}
use Rattle.write_back.proofs.Replying.{IsLess}
use Rattle.write_back.proofs.ByFile.{on-is, on-same}
use Rattle.write_back.proofs.Counting.{is_file, of-found, among-all, on-through, counted-through, on-inserted, counted-inserted, counted-removed}

-- of changes of one file, that it is sound and no more
pub less-held : (change : Change) → IsOfHeld change → (of : FilePending) → IsSound of → IsLess of (with_change change of)
less-held change held of sound = (sound-held change held of sound, room-held change held of)

pub less-cut : (at upto : ℕ) (of : FilePending) → IsSound of → of.pieces ≡ [] → IsLess of (with_cut at upto of)
less-cut at upto of sound none = (sound-cut at upto of sound none, omega (arith, own-cut at upto of.segments))

-- of a file with pending bytes
module _ (p : Pending) (file : List ℕ) (v : FilePending) (total : ℕ) (found : lookup (is_file file) p ≡ Some v) (counted : IsCounted p total) where
  pub sound-here : IsSound v
  sound-here = subst IsSound (of-found file p (Some v) found) (counted.sound file)

  -- the count of all takes the change of one
  pub covers-here : pending_of v ≤ total
  covers-here = omega (arith, counted.total, among-all file p v found)

  pub room-less : (w : FilePending) → pending_of w ≤ pending_of v → total - pending_of v + pending_of w ≤ most_pending
  room-less w less = omega (arith, less, counted.room, covers-here)

  pub fits-less : (w : FilePending) → pending_of w ≤ pending_of v → total - pending_of v + pending_of w < 2 ^ 64
  fits-less w less = omega (arith, room-less w less, most_is)

-- of a file with no piece in flight, and of a number above those in flight
pub no-piece : (p : Pending) (file : List ℕ) (v : FilePending) → lookup (is_file file) p ≡ Some v → HasNoPiece file p → v.pieces ≡ []
no-piece p file v found none = subst (λ (z : FilePending). z.pieces ≡ []) (of-found file p (Some v) found) none

pub above-here : (number : ℕ) (p : Pending) (file : List ℕ) (v : FilePending) → lookup (is_file file) p ≡ Some v → IsNewest number p → IsAbove number v
above-here number p file v found newest = subst (λ z. IsAbove number z) (of-found file p (Some v) found) (newest-above number file p newest)

-- there is room for more bytes of one file where there is for more of all
pub room-here : (p : Pending) (file : List ℕ) (v : FilePending) (more : ℕ) → lookup (is_file file) p ≡ Some v → all_pending p + more ≤ most_pending → pending_of v + more ≤ most_pending
room-here p file v more found room = omega (arith, room, among-all file p v found)

-- new bytes of a file count once
pub sound-more : (offset : ℕ) (bytes : List ℕ) (number : ℕ) (p : Pending) (file : List ℕ) (v w : FilePending) → lookup (is_file file) p ≡ Some v → w ≡ with_added offset bytes number v → IsSound v → 0 < length bytes → offset + length bytes ≤ 2 ^ 63 - 1
    → all_pending p + length bytes ≤ most_pending → IsNewest number p → IsSound w
sound-more offset bytes number p file v w found is sound some last room newest =
    subst IsSound (sym is) (sound-added offset bytes number v sound some last (room-here p file v (length bytes) found room) (above-here number p file v found newest))

pub room-more : (offset : ℕ) (bytes : List ℕ) (number total : ℕ) (p : Pending) (file : List ℕ) (v w : FilePending) → lookup (is_file file) p ≡ Some v → w ≡ with_added offset bytes number v → IsCounted p total → all_pending p + length bytes ≤ most_pending
    → total - pending_of v + pending_of w ≤ most_pending
room-more offset bytes number total p file v w found is counted room =
    subst (λ z. total - pending_of v + pending_of z ≤ most_pending) (sym is)
    (omega (arith, room, counted.total, covers-here p file v total found counted, own-added offset bytes number v.segments (sound-here p file v total found counted).apart))

pub sound-first : (offset : ℕ) (bytes : List ℕ) (number total : ℕ) (p : Pending) (w : FilePending) → w ≡ with_added offset bytes number nothing → IsCounted p total → 0 < length bytes → offset + length bytes ≤ 2 ^ 63 - 1 → all_pending p + length bytes ≤ most_pending
    → IsSound w × (total + pending_of w ≤ most_pending)
sound-first offset bytes number total p w is counted some last room =
    subst (λ z. IsSound z × (total + pending_of z ≤ most_pending)) (sym is) (
      sound-added offset bytes number nothing sound-nothing some last (omega (arith, room)) (λ place flown none. absurd cc),
      omega (arith, room, counted.total, own-added offset bytes number [] tt),
    )

module _ (m n : BTreeMap (List ℕ) FilePending) (file : List ℕ) (v w : FilePending) (found : lookup (is_file file) m.entries ≡ Some v) (writes : WritesThrough (slice_cmp nat_cmp) (slice_cmp nat_cmp file) m w n) where
  -- what is pending of the file is changed by a function
  pub through-changed : (f : FilePending → FilePending) → w ≡ f v → OnFile m.entries n.entries file (f (of_file file m.entries))
  through-changed f is = on-is m.entries n.entries file w (f (of_file file m.entries)) (on-through m n file v w found writes) (is ∙ ap f (sym (of-found file m.entries (Some v) found)))

  -- what holds of it before and after
  pub through-holds : (R : FilePending → FilePending → Type 0) → R v w → R (of_file file m.entries) (of_file file n.entries)
  through-holds R holds =
      subst (λ z. R z (of_file file n.entries)) (sym (of-found file m.entries (Some v) found)) (subst (λ z. R v z) (sym (on-through m n file v w found writes).here) holds)

  -- it is as before
  pub through-same : w ≡ v → n.entries ≡ m.entries
  through-same is = writes.0 ∙ ap (set_value (is_file file) m.entries) is ∙ set_value_same (is_file file) m.entries v found

  pub through-counted : (total : ℕ) → IsCounted m.entries total → IsLess v w → IsCounted n.entries (total - pending_of v + pending_of w)
  through-counted total counted less = counted-through m n file v w total found writes counted less.0 (room-less m.entries file v total found counted w less.1)

-- What holds of a file before and after holds after a call that keeps what is pending of each file, too.
pub tidied-holds : (p q r : Pending) (file : List ℕ) (R : FilePending → FilePending → Type 0) → OnFile q r file (of_file file q) → R (of_file file p) (of_file file q) → R (of_file file p) (of_file file r)
tidied-holds p q r file R on holds = subst (λ z. R (of_file file p) z) (sym on.here) holds

-- of a file without
module _ (m n : BTreeMap (List ℕ) FilePending) (file : List ℕ) (absent : lookup (is_file file) m.entries ≡ None) (same : n ≡ m) where
  pub stays-changed : (f : FilePending → FilePending) → f nothing ≡ nothing → OnFile m.entries n.entries file (f (of_file file m.entries))
  stays-changed f is =
      let none : of_file file m.entries ≡ nothing = of-found file m.entries None absent in
      subst (λ z. OnFile m.entries z.entries file (f (of_file file m.entries))) (sym same) (on-same m.entries file (f (of_file file m.entries)) (none ∙ sym is ∙ ap f (sym none)))

  pub stays-holds : (R : FilePending → FilePending → Type 0) → R nothing nothing → R (of_file file m.entries) (of_file file n.entries)
  stays-holds R holds =
      let none : of_file file m.entries ≡ nothing = of-found file m.entries None absent in
      subst (λ z. R (of_file file m.entries) (of_file file z.entries)) (sym same) (subst (λ z. R z z) (sym none) holds)

  pub stays-counted : (total : ℕ) → IsCounted m.entries total → IsCounted n.entries total
  stays-counted total counted = subst (λ z. IsCounted z.entries total) (sym same) counted

-- Nothing of a file is taken out.
pub counted-gone : (m n : BTreeMap (List ℕ) FilePending) (file : List ℕ) (total : ℕ) → lookup (is_file file) m.entries ≡ None → UpdatesBy (slice_cmp nat_cmp) (slice_cmp nat_cmp file) m n None → n.entries ≡ remove_entry (is_file file) m.entries
    → IsCounted m.entries total → IsCounted n.entries total
counted-gone m n file total absent changes is counted =
    let less : total - pending_of nothing ≡ total = omega arith in
    subst (λ z. IsCounted n.entries z) less (counted-removed m n file None total absent changes is counted)

-- Where nothing is pending bytes are shown as they are.
pub shown-none : (place : ℕ) (bytes : List ℕ) → shown [] place bytes ≡ bytes
shown-none place [] = refl
shown-none place (b ∷ bs) = ap (λ z. b ∷ z) (shown-none (place + 1) bs)

-- a fact of an error's clause that holds in any case
pub on-err : {A E P : Type 0} (r : Result A E) → P → OnErr r P
on-err (Ok x) holds = tt
on-err (Err e) holds = holds

-- Out of memory isn't Full.
pub not-full : {A : Type 0} (r : Result A AddFault) → IsErrAnd r (λ e. e ≡ Memory) → r ≡ Err Full → ⊥
not-full (Ok x) fails is = absurd cc
not-full (Err e) fails is = let same : e ≡ Full = cc in let k : Memory ≡ Full = sym fails ∙ same in absurd cc

-- A file without pending bytes got some, after it was looked for.
module _ (k m n : BTreeMap (List ℕ) FilePending) (file : List ℕ) (w : FilePending) (same : k ≡ m) (changes : UpdatesBy (slice_cmp nat_cmp) (slice_cmp nat_cmp file) k n (Some w)) where
  pub on-first : OnFile m.entries n.entries file w
  on-first = subst (λ z. OnFile z.entries n.entries file w) same (on-inserted k n file w changes)

  pub counted-first : (total : ℕ) → lookup (is_file file) m.entries ≡ None → IsStrictlySortedBy (slice_cmp nat_cmp) (keys_of k.entries) → n.entries ≡ insert_entry (slice_cmp nat_cmp) k.entries file w
      → IsCounted m.entries total → IsSound w → total + pending_of w ≤ most_pending → IsCounted n.entries (total + pending_of w)
  counted-first total absent sorted is counted here room =
      counted-inserted k n file w total (subst (λ z. lookup (is_file file) z.entries ≡ None) (sym same) absent) sorted changes is (subst (λ z. IsCounted z.entries total) (sym same) counted) here room
