-- A name that is kept stands for its object at each moment at which the directory has the stamp under which it was learnt.
use Rattle.std.proofs.Common.{inl, inr, ◌≡◌, ◌≤◌, ℕ, suc, List, length, Some, refl, sym, ap, subst, ◌∙◌, arith}
use Rattle.std.proofs.lemmas.Bool.{cases_lt}
use Rattle.std.proofs.lemmas.Option.{slice_get_within}
use Rattle.nfs_types.specs.declared.wcc.Stamp.{Stamp}
use Rattle.nfs_types.specs.Stamps.{stamp_of}
use Rattle.world_model.specs.Fresh.{Fresh}
use Rattle.world_model.specs.History.{History}
use Rattle.world_model.specs.Lawful.{Lawful}
use Rattle.world_model.specs.Server.{Listed, Holds, Bytes, Entries, Text, Object, Names}
use Rattle.world_model.proofs.Doing.{lookup_done}
use Rattle.world_model.proofs.Lasting.{SameSort, lasts}
use Rattle.law_names.specs.Kept.{HasList, IsLookedUp, StandsIn}
use Rattle.law_names.proofs.KeptNames.{name_stands}

some_is : (a b : Object) → Some a ≡ Some b → a ≡ b
some_is a b e = cc

-- what was a list before it became one of this sort, and what it becomes
lists_before : (a b : Holds) (list : List Listed) → SameSort a b → b ≡ Entries list → (earlier : List Listed) × (a ≡ Entries earlier)
lists_before (Bytes now stable) b list same is = absurd (cc (same.2, is))
lists_before (Entries earlier) b list same is = (earlier, refl)
lists_before (Text text) b list same is = absurd (cc (same, is))

pub lists_after : (a b : Holds) (list : List Listed) → SameSort a b → a ≡ Entries list → (later : List Listed) × (b ≡ Entries later)
lists_after a b list same is = subst (λ z. SameSort z b) is same

-- an object that is a directory at one moment is one at each
pub lists_always : (t : History) → Lawful t → (m n : ℕ) → m ≤ length t.entries → n ≤ length t.entries → (d : List ℕ) (o p : Object) (list : List Listed) → (t.at m).object d ≡ Some o → o.holds ≡ Entries list → (t.at n).object d ≡ Some p
    → (other : List Listed) × (p.holds ≡ Entries other)
lists_always t l m n low high d o p list is holds there = elim (cases_lt m n) [
  | inl lt ↦
      let q = lasts t l m n (omega (arith, lt)) high d o is in
      let r = lists_after o.holds q.new.holds list q.sort holds in
      (r.0, ap (λ (z : Object). z.holds) (some_is p q.new (sym there ∙ q.is)) ∙ r.1)
  | inr le ↦
      let q = lasts t l n m le low d p there in
      lists_before p.holds q.new.holds list q.sort (ap (λ (z : Object). z.holds) (some_is q.new o (sym q.is ∙ is)) ∙ holds)
]

pub stands_at : (t : History) → Lawful t → Fresh t → (d : List ℕ) (s : Stamp) (name object : List ℕ) → IsLookedUp t d s name object → (n : ℕ) → n ≤ length t.entries → (o : Object) → (t.at n).object d ≡ Some o → stamp_of o.attr ≡ s → Names (t.at n) d name object
stands_at t l fresh d s name object k n within o is stamp =
    let w = lookup_done (t.at k.place) (t.at (suc k.place)) d name object k.attr (Some k.dir) (l.entries k.place _ k.done).1 in
    let low = slice_get_within t.entries k.place _ k.done in
    let r = lists_always t l k.place n (omega (arith, low)) within d w.named.names.dir o w.named.names.entries w.named.names.is w.named.names.holds is in
    let has : HasList t n d s r.0 = record { dir = o; moment = within; is = is; holds = r.1; stamp = stamp } in
    let stands : StandsIn r.0 name object = name_stands t l fresh d s name object k n r.0 has in
    record { dir = o; entries = r.0; cookie = stands.0; is = is; holds = r.1; listed = stands.1 }
