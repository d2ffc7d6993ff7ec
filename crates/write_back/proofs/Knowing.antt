-- What is kept beside all that is pending, where that of one file is changed in the map of all files.
use Rattle.std.proofs.Common.{◌≡◌, ℕ, List, Some, None, refl, sym, ap, subst, arith, nat_cmp}
use Rattle.std.specs.Cmp.Lexicographic.{slice_cmp}
use Rattle.std.specs.Map.{lookup}
use Rattle.std.specs.BTreeMap.{BTreeMap, UpdatesBy, WritesThrough}
use Rattle.write_back.specs.Pieces.{FilePending, nothing}
use Rattle.write_back.specs.Files.{Pending, of_file, OnFile, IsNewest}
use Rattle.write_back.specs.Landing.{with_xid}
use Rattle.write_back.specs.Ages.{Writes, pending_by, Lessens, SameKept, Loses, Gains, Takes, IsAged}
use Rattle.write_back.proofs.ByFile.{on-is}
use Rattle.write_back.proofs.Counting.{is_file, of-found, on-through, on-removed}
use Rattle.write_back.proofs.Through.{through-same}
use Rattle.write_back.proofs.WritesFlying.{flying-renumbered-by}
use Rattle.write_back.proofs.WritesKept.{loses-same}
use Rattle.write_back.proofs.WritesTold.{fresh-newest}
use Rattle.write_back.proofs.WritesByFile.{aged-loses, aged-gains, aged-takes, aged-same, aged-left, aged-kept}

module _ (m n : BTreeMap (List ℕ) FilePending) (file : List ℕ) (v w : FilePending) (found : lookup (is_file file) m.entries ≡ Some v) (writes : WritesThrough (slice_cmp nat_cmp) (slice_cmp nat_cmp file) m w n) (old new : Writes) (aged : IsAged m.entries old) where
  was : of_file file m.entries ≡ v
  was = of-found file m.entries (Some v) found

  on : OnFile m.entries n.entries file w
  on = on-through m n file v w found writes

  pub loses-through : Loses v w old new → IsAged n.entries new
  loses-through loses = aged-loses m.entries n.entries old new file w aged on (subst (λ z. Loses z w old new) (sym was) loses)

  pub gains-through : Gains v w old new → IsAged n.entries new
  gains-through gains = aged-gains m.entries n.entries old new file w aged on (subst (λ z. Gains z w old new) (sym was) gains)

  pub takes-through : (number : ℕ) → IsNewest number m.entries → Takes number file v w old new → IsAged n.entries new
  takes-through number newest takes = aged-takes m.entries n.entries old new file w aged on number newest (subst (λ z. Takes number file z w old new) (sym was) takes)

  pub kept-through : w ≡ v → SameKept old new → IsAged n.entries new
  kept-through is same = subst (λ es. IsAged es new) (sym (through-same m n file v w found writes is)) (aged-same m.entries old new aged same)

-- nothing is changed
pub kept-still : (m n : BTreeMap (List ℕ) FilePending) (old new : Writes) → n ≡ m → SameKept old new → IsAged m.entries old → IsAged n.entries new
kept-still m n old new same kept aged = subst (λ z. IsAged z.entries new) (sym same) (aged-same m.entries old new aged kept)

-- a file without pending bytes got some, after it was looked for
pub takes-first : (k m n : BTreeMap (List ℕ) FilePending) (file : List ℕ) (w : FilePending) (old new : Writes) (number : ℕ) → lookup (is_file file) m.entries ≡ None → OnFile m.entries n.entries file w
    → IsAged m.entries old → IsNewest number m.entries → Takes number file nothing w old new → IsAged n.entries new
takes-first k m n file w old new number absent on aged newest takes =
    aged-takes m.entries n.entries old new file w aged on number newest (subst (λ z. Takes number file z w old new) (sym (of-found file m.entries None absent)) takes)

-- nothing of a file is kept any more, or it had nothing
module _ (m n : BTreeMap (List ℕ) FilePending) (file : List ℕ) (changes : UpdatesBy (slice_cmp nat_cmp) (slice_cmp nat_cmp file) m n None) where
  pub left-out : (v : FilePending) (old new : Writes) → lookup (is_file file) m.entries ≡ Some v → Lessens (λ n. pending_by n v) old new → IsAged m.entries old → IsAged n.entries new
  left-out v old new found less aged =
      aged-left m.entries n.entries old new file aged (on-removed m n file changes) (subst (λ z. Lessens (λ n. pending_by n z) old new) (sym (of-found file m.entries (Some v) found)) less)

  pub left-absent : (old : Writes) → lookup (is_file file) m.entries ≡ None → IsAged m.entries old → IsAged n.entries old
  left-absent old absent aged =
      aged-kept m.entries n.entries old file aged (on-is m.entries n.entries file nothing (of_file file m.entries) (on-removed m n file changes) (sym (of-found file m.entries None absent)))

-- under another xid a piece has the same bytes
pub loses-xid : (xid to : ℕ) (of new : FilePending) (a : Writes) → new ≡ with_xid xid to of → Loses of new a a
loses-xid xid to of new a is = loses-same of new a a (λ n. omega (arith, ap (pending_by n) is, flying-renumbered-by n xid to of.pieces)) (λ file n. refl)

-- a newest number has no byte of a file
pub fresh-here : (p : Pending) (file : List ℕ) (v : FilePending) → lookup (is_file file) p ≡ Some v → (number : ℕ) → IsNewest number p → pending_by number v ≡ 0
fresh-here p file v found number newest = subst (λ z. pending_by number z ≡ 0) (of-found file p (Some v) found) (fresh-newest number file p newest)
