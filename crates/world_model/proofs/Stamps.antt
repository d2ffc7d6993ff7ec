-- On a lawful server whose stamps are fresh, a file of one stamp has the same bytes at all moments, and a directory the same
-- list.
use Rattle.std.proofs.Common.{inl, inr, ◌≡◌, ◌≤◌, ℕ, zero, suc, List, length, Some, sym, ap, subst, ◌∙◌, arith}
use Rattle.std.proofs.lemmas.Bool.{cases_lt}
use Rattle.world_model.specs.History.{History}
use Rattle.world_model.specs.Server.{Listed, Holds, Bytes, Entries, Object, Server}
use Rattle.nfs_types.specs.Stamps.{stamp_of}
use Rattle.world_model.specs.Fresh.{Differs, bytes, list, file_stamp, list_stamp, Fresh}
use Rattle.world_model.specs.Lawful.{Lawful}
use Rattle.world_model.proofs.Deciding.{same_bytes, same_entries}
use Rattle.world_model.proofs.Lasting.{SameSort, lasts}

some_is : (a b : Object) → Some a ≡ Some b → a ≡ b
some_is a b e = cc

bytes_now : (a b c d : List ℕ) → Bytes a b ≡ Bytes c d → a ≡ c
bytes_now a b c d e = cc

list_is : (a b : List Listed) → Entries a ≡ Entries b → a ≡ b
list_is a b e = cc

-- at one moment
bytes_here : (s : Server) (f : List ℕ) (o p : Object) (now stable later steady : List ℕ) → s.object f ≡ Some o → s.object f ≡ Some p → o.holds ≡ Bytes now stable → p.holds ≡ Bytes later steady → now ≡ later
bytes_here s f o p now stable later steady a b x y = bytes_now now stable later steady (sym x ∙ ap (λ (z : Object). z.holds) (some_is o p (sym a ∙ b)) ∙ y)

list_here : (s : Server) (f : List ℕ) (o p : Object) (before after : List Listed) → s.object f ≡ Some o → s.object f ≡ Some p → o.holds ≡ Entries before → p.holds ≡ Entries after → before ≡ after
list_here s f o p before after a b x y = list_is before after (sym x ∙ ap (λ (z : Object). z.holds) (some_is o p (sym a ∙ b)) ∙ y)

at_moment : (t : History) (m n : ℕ) (f : List ℕ) (o : Object) → m ≡ n → (t.at m).object f ≡ Some o → (t.at n).object f ≡ Some o
at_moment t m n f o z e = subst (λ (k : ℕ). (t.at k).object f ≡ Some o) z e

pub bytes_of_stamp : (t : History) → Lawful t → Fresh t → (m n : ℕ) → m ≤ n → n ≤ length t.entries → (f : List ℕ) (o p : Object) (now stable later steady : List ℕ)
    → (t.at m).object f ≡ Some o → (t.at n).object f ≡ Some p → o.holds ≡ Bytes now stable → p.holds ≡ Bytes later steady → stamp_of o.attr ≡ stamp_of p.attr → now ≡ later
bytes_of_stamp t l fresh m zero le within f o p now stable later steady a b x y s = bytes_here (t.at 0) f o p now stable later steady (at_moment t m 0 f o (omega (arith, le)) a) b x y
bytes_of_stamp t l fresh m (suc n) le within f o p now stable later steady a b x y s =
    elim (cases_lt m (suc n)) [
      | inr ge ↦ bytes_here (t.at (suc n)) f o p now stable later steady (at_moment t m (suc n) f o (omega (arith, le, ge)) a) b x y
      | inl lt ↦
          let q = lasts t l m n (omega (arith, lt)) (omega (arith, within)) f o a in
          let r : SameSort (Bytes now stable) q.new.holds = subst (λ (z : Holds). SameSort z q.new.holds) x q.sort in
          let never : Differs q.new p → ⊥ = λ d. fresh n (omega (arith, within)) f q.new p q.is b d m o (omega (arith, lt)) a s in
          elim (same_bytes now later) [
            | inl e ↦ e
            | inr d ↦ elim (same_bytes r.0 later) [
              | inr changed ↦ absurd (never (bytes r.0 r.1 later steady r.2 y changed))
              | inl kept ↦ absurd (never (file_stamp r.0 r.1 r.2 (λ z. d (bytes_of_stamp t l fresh m n (omega (arith, lt)) (omega (arith, within)) f o q.new now stable r.0 r.1 a q.is x r.2 (s ∙ sym z) ∙ kept))))
            ]
          ]
    ]

pub list_of_stamp : (t : History) → Lawful t → Fresh t → (m n : ℕ) → m ≤ n → n ≤ length t.entries → (f : List ℕ) (o p : Object) (before after : List Listed)
    → (t.at m).object f ≡ Some o → (t.at n).object f ≡ Some p → o.holds ≡ Entries before → p.holds ≡ Entries after → stamp_of o.attr ≡ stamp_of p.attr → before ≡ after
list_of_stamp t l fresh m zero le within f o p before after a b x y s = list_here (t.at 0) f o p before after (at_moment t m 0 f o (omega (arith, le)) a) b x y
list_of_stamp t l fresh m (suc n) le within f o p before after a b x y s =
    elim (cases_lt m (suc n)) [
      | inr ge ↦ list_here (t.at (suc n)) f o p before after (at_moment t m (suc n) f o (omega (arith, le, ge)) a) b x y
      | inl lt ↦
          let q = lasts t l m n (omega (arith, lt)) (omega (arith, within)) f o a in
          let r : SameSort (Entries before) q.new.holds = subst (λ (z : Holds). SameSort z q.new.holds) x q.sort in
          let never : Differs q.new p → ⊥ = λ d. fresh n (omega (arith, within)) f q.new p q.is b d m o (omega (arith, lt)) a s in
          elim (same_entries before after) [
            | inl e ↦ e
            | inr d ↦ elim (same_entries r.0 after) [
              | inr changed ↦ absurd (never (list r.0 after r.1 y changed))
              | inl kept ↦ absurd (never (list_stamp r.0 r.1 (λ z. d (list_of_stamp t l fresh m n (omega (arith, lt)) (omega (arith, within)) f o q.new before r.0 a q.is x r.1 (s ∙ sym z) ∙ kept))))
            ]
          ]
    ]
