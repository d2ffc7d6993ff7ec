-- How many bytes are pending in all, after a change of one file's.
use Rattle.std.proofs.Common.{◌≡◌, ◌≤◌, ◌<◌, ◌^◌, ℕ, ◌+◌, ◌-◌, Bool, true, false, List, [], ◌∷◌, length, Option, Some, None, All, Contains, refl, sym, ap, ◌∙◌, subst, arith, nat_cmp}
use Rattle.std.specs.Prelude.{◌↔◌, MatchOption}
use Rattle.std.specs.Cmp.Lexicographic.{slice_cmp}
use Rattle.std.specs.List.{sum_by}
use Rattle.std.specs.Map.{lookup, values_of}
use Rattle.std.specs.BTreeMap.{BTreeMap, WritesThrough}
use Rattle.std.proofs.lemmas.List.Elements.{All-head, All-tail}
use Rattle.std.proofs.lemmas.List.Sums.{sum_by-cons}
use Rattle.write_back.specs.Segments.{Segment, Segments, AreApart, end_of, covers, cell_in, cell_at, own_size, own_of}
use Rattle.write_back.specs.Pieces.{Sent, FilePending, nothing, pending_of, flying_of, fly_in, fly_at}
use Rattle.write_back.specs.Files.{Pending, of_file, all_pending, IsCounted, IsNothing, IsOldest, TellsOldest, numbers_of}
use Rattle.write_back.specs.Sound.{IsSound, IsOver, AreSent, most_pending}
use Rattle.write_back.specs.Waits.{AreSound}
use Rattle.write_back.proofs.Adding.{with_added}
use Rattle.write_back.proofs.Counting.{is_file, of-found, among-all}
use Rattle.write_back.proofs.Keys.{in-range}
use Rattle.write_back.proofs.OwnBytes.{own-added}
use Rattle.write_back.proofs.Replying.{IsLess}
use Rattle.write_back.proofs.Sums.{own-cons}
use Rattle.write_back.proofs.Through.{sound-here, covers-here, through-counted, room-less}
use Rattle.write_back.proofs.Counting.{counted-through}

module _ (m n : BTreeMap (List ℕ) FilePending) (file : List ℕ) (v w : FilePending) (found : lookup (is_file file) m.entries ≡ Some v) (writes : WritesThrough (slice_cmp nat_cmp) (slice_cmp nat_cmp file) m w n) (total : ℕ) (counted : IsCounted m.entries total) where
  pub total-less : IsLess v w → all_pending n.entries ≤ all_pending m.entries
  total-less less =
      let after = through-counted m n file v w found writes total counted less in
      omega (arith, after.total, counted.total, covers-here m.entries file v total found counted, less.1)

  pub total-same : IsSound w → pending_of w ≡ pending_of v → all_pending n.entries ≡ all_pending m.entries
  total-same sound same =
      let after = through-counted m n file v w found writes total counted (sound, omega (arith, same)) in
      omega (arith, after.total, counted.total, covers-here m.entries file v total found counted, same)

  pub total-more : (offset : ℕ) (bytes : List ℕ) (number : ℕ) → w ≡ with_added offset bytes number v → IsSound w → total - pending_of v + pending_of w ≤ most_pending → all_pending n.entries ≤ all_pending m.entries + length bytes
  total-more offset bytes number is sound room =
      let after = counted-through m n file v w total found writes counted sound room in
      let more : pending_of (with_added offset bytes number v) ≤ pending_of v + length bytes = omega (arith, own-added offset bytes number v.segments (sound-here m.entries file v total found counted).apart) in
      let grown : pending_of w ≤ pending_of v + length bytes = subst (λ z. pending_of z ≤ pending_of v + length bytes) (sym is) more in
      omega (arith, after.total, counted.total, covers-here m.entries file v total found counted, grown)

-- the first bytes of a file
pub total-first : (offset : ℕ) (bytes : List ℕ) (number total : ℕ) (p q : Pending) (w : FilePending) → w ≡ with_added offset bytes number nothing → IsCounted p total → IsCounted q (total + pending_of w) → all_pending q ≤ all_pending p + length bytes
total-first offset bytes number total p q w is before after =
    let more : pending_of (with_added offset bytes number nothing) ≤ length bytes = omega (arith, own-added offset bytes number [] tt) in
    let grown : pending_of w ≤ length bytes = subst (λ z. pending_of z ≤ length bytes) (sym is) more in
    omega (arith, before.total, after.total, grown)

-- a file that has nothing pending is left alone
pub stays-total : (m n : BTreeMap (List ℕ) FilePending) → n ≡ m → all_pending n.entries ≤ all_pending m.entries
stays-total m n same = omega (arith, ap (λ (z : BTreeMap (List ℕ) FilePending). all_pending z.entries) same)

-- ---- nothing is pending

-- where no file has pending bytes, none are counted
none-of : (p es : Pending) → All (λ (e : List ℕ × FilePending). of_file e.0 p ≡ e.1) es → IsNothing p → all_pending es ≡ 0
none-of p [] once none = refl
none-of p (e ∷ es) once none =
    let here : of_file e.0 p ≡ e.1 = All-head (λ (f : List ℕ × FilePending). of_file f.0 p ≡ f.1) e es once in
    let own : pending_of e.1 ≡ 0 = ap pending_of (sym here ∙ none e.0) in
    let sum : all_pending (e ∷ es) ≡ pending_of e.1 + all_pending es = sum_by-cons pending_of e.1 (values_of es) in
    omega (arith, sum, own, none-of p es (All-tail (λ (f : List ℕ × FilePending). of_file f.0 p ≡ f.1) e es once) none)

no-pieces : (pieces : List Sent) → AreSent pieces → flying_of pieces ≡ 0 → pieces ≡ []
no-pieces [] sent none = refl
no-pieces (piece ∷ pieces) sent none =
    let some : 0 < length piece.bytes = sent.0.some in
    absurd (omega (arith, some, none, sum_by-cons (λ (p : Sent). length p.bytes) piece pieces))

-- a file of which no byte is counted has nothing pending
module _ (of : FilePending) (sound : IsSound of) (zero_is : pending_of of ≡ 0) where
  quiet : of.pieces ≡ []
  quiet = no-pieces of.pieces sound.sent (omega (arith, zero_is))

  empty : (es : Segments) → of.segments ≡ es → of.segments ≡ []
  empty [] is = is
  empty (e ∷ es) is =
      let apart : AreApart 0 (e ∷ es) = subst (AreApart 0) is sound.apart in
      let some : 0 < length e.1.bytes = apart.1 in
      let here : covers e.0 (length e.1.bytes) e.0 ≡ true = in-range e.0 (end_of e) e.0 (omega arith) (omega (arith, some)) in
      let cell : cell_at of.segments e.0 ≡ Some (cell_in e e.0) = ap (λ z. cell_at z e.0) is ∙ rw here refl in
      let none : fly_at of e.0 ≡ None = ap (λ z. fly_in z e.0) quiet in
      let over : IsOver None (Some (cell_in e e.0)) = subst (λ z. IsOver None z) cell (subst (λ z. IsOver z (cell_at of.segments e.0)) none (sound.over e.0)) in
      let own : own_size e.1 ≡ length e.1.bytes = rw over refl in
      let sum : own_of of.segments ≡ own_size e.1 + own_of es = ap own_of is ∙ own-cons e es in
      absurd (omega (arith, own, sum, some, zero_is))

  pub nothing-zero : of ≡ nothing
  nothing-zero = ap (λ z. record { segments = z; pieces = of.pieces }) (empty of.segments refl) ∙ ap (λ z. record { segments = []; pieces = z }) quiet

file-zero : (p : Pending) (file : List ℕ) → AreSound p → all_pending p ≡ 0 → of_file file p ≡ nothing
file-zero p file sound none = by (lookup (is_file file) p) refl
  where
    by : (o : Option FilePending) → lookup (is_file file) p ≡ o → of_file file p ≡ nothing
    by None is = of-found file p None is
    by (Some v) is =
        let here : of_file file p ≡ v = of-found file p (Some v) is in
        here ∙ nothing-zero v (subst IsSound here (sound.files file)) (omega (arith, none, among-all file p v is))

-- no oldest write is told exactly where nothing is pending
pub none-told : (p : Pending) (told : Option (List ℕ)) → AreSound p → TellsOldest p told → (told ≡ None) ↔ (all_pending p ≡ 0)
none-told p None sound tells = ((λ is. none-of p p sound.once tells), (λ none. refl))
none-told p (Some file) sound tells = (
  (λ is. absurd cc),
  (λ none. absurd (
      let of : of_file file p ≡ nothing = file-zero p file sound none in
      let there : Contains (numbers_of nothing) tells.number = subst (λ z. Contains (numbers_of z) tells.number) of tells.there in
      nowhere tells.number there)),
)
  where
    nowhere : (n : ℕ) → Contains [] n → ⊥
    nowhere n found = absurd (omega (arith, found.1))
