-- What a reply, a transmission and another xid make of all that is pending, where they change that of one file.
use Rattle.std.proofs.Common.{◌≡◌, ℕ, ◌+◌, ◌-◌, List, Some, None, Result, Ok, Err, sym, ap, ◌∙◌, subst, arith, nat_cmp}
use Rattle.std.specs.Prelude.{OnOk, OnErr}
use Rattle.std.specs.Cmp.Lexicographic.{slice_cmp}
use Rattle.std.specs.Map.{lookup}
use Rattle.std.specs.BTreeMap.{BTreeMap, WritesThrough}
use Rattle.write_back.specs.Pieces.{FilePending, pending_of, piece_under}
use Rattle.write_back.specs.Landing.{with_xid}
use Rattle.write_back.specs.Files.{Pending, of_file, OnFile, IsCounted, IsFree}
use Rattle.write_back.specs.Sound.{IsSound}
use Rattle.write_back.proofs.ByFile.{on-tidied}
use Rattle.write_back.proofs.Counting.{is_file, of-found}
use Rattle.write_back.proofs.Marking.{sound-xid, room-xid}
use Rattle.write_back.proofs.Replying.{IsLess}
use Rattle.write_back.proofs.Through.{sound-here, covers-here, through-changed, through-counted, through-holds, tidied-holds}

-- of a result
pub ok-then : {A E : Type 0} (r : Result A E) (P Q : Type 0) → OnOk r P → (P → Q) → OnOk r Q
ok-then (Ok x) P Q p f = f p
ok-then (Err e) P Q p f = tt

pub err-then : {A E : Type 0} (r : Result A E) (P Q : Type 0) → OnErr r P → (P → Q) → OnErr r Q
err-then (Ok x) P Q p f = tt
err-then (Err e) P Q p f = f p

pub err-of : {A E : Type 0} (r : Result A E) (P : Type 0) → P → OnErr r P
err-of (Ok x) P p = tt
err-of (Err e) P p = p

-- nothing of the file is in flight under an xid
pub free-here : (xid : ℕ) (file : List ℕ) (p : Pending) (v : FilePending) → lookup (is_file file) p ≡ Some v → IsFree xid file p → piece_under xid v.pieces ≡ None
free-here xid file p v found free = subst (λ (z : FilePending). piece_under xid z.pieces ≡ None) (of-found file p (Some v) found) free

module _ (m n : BTreeMap (List ℕ) FilePending) (file : List ℕ) (v w : FilePending) (found : lookup (is_file file) m.entries ≡ Some v) (writes : WritesThrough (slice_cmp nat_cmp) (slice_cmp nat_cmp file) m w n) where
  -- all are counted, where the file has no more bytes than before
  pub counted-less : (total before after : ℕ) → IsCounted m.entries total → before ≡ pending_of v → after ≡ pending_of w → IsLess v w → IsCounted n.entries (total - before + after)
  counted-less total before after counted is-before is-after less =
      subst (λ b. IsCounted n.entries (total - b + after)) (sym is-before)
      (subst (λ a. IsCounted n.entries (total - pending_of v + a)) (sym is-after) (through-counted m n file v w found writes total counted less))

  -- under another xid it has as many
  pub counted-xid : (xid to total : ℕ) → IsFree to file m.entries → IsCounted m.entries total → w ≡ with_xid xid to v → IsCounted n.entries total
  counted-xid xid to total free counted is =
      let same : pending_of w ≡ pending_of v = ap pending_of is ∙ room-xid xid to v in
      let less : IsLess v w = (subst IsSound (sym is) (sound-xid xid to v (free-here to file m.entries v found free) (sound-here m.entries file v total found counted)), omega (arith, same)) in
      let sum : total - pending_of v + pending_of w ≡ total = omega (arith, same, covers-here m.entries file v total found counted) in
      subst (IsCounted n.entries) sum (through-counted m n file v w found writes total counted less)

  -- and then what is pending of each file stays
  module _ (last : Pending) (tidies : OnFile n.entries last file (of_file file n.entries)) where
    pub then-changed : (f : FilePending → FilePending) → w ≡ f v → OnFile m.entries last file (f (of_file file m.entries))
    then-changed f is = on-tidied m.entries n.entries last file (f (of_file file m.entries)) (through-changed m n file v w found writes f is) tidies

    pub then-places : (P : FilePending → FilePending → Type 0) → P v w → P (of_file file m.entries) (of_file file last)
    then-places P holds = tidied-holds m.entries n.entries last file P tidies (through-holds m n file v w found writes P holds)
