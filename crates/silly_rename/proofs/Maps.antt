-- What std's ordered map has, as a finite map.
use Rattle.std.proofs.Common.{◌≡◌, Bool, true, false, cond, List, [], ◌∷◌, Option, Some, None, refl, sym, ap, ◌∙◌}
use Rattle.std.specs.Ordering.{eq_by_cmp}
use Rattle.std.specs.declared.cmp.Ordering.{Ordering}
use Rattle.std.specs.Cmp.{IsTotalOrder, eq_by_cmp_equiv}
use Rattle.std.specs.Map.{lookup}
use Rattle.std.specs.BTreeMap as tree
use Rattle.std.specs.FinMap as map

module _ {K X : Type 0} (R : K → K → Ordering) where
  find-lookup : (q : K) (es : List (K × X)) → map.find R q es ≡ lookup (tree.is_at (R q)) es
  find-lookup q [] = refl
  find-lookup q (e ∷ es) = ap (cond (eq_by_cmp R q e.0) (Some e.1)) (find-lookup q es)

module _ {K X : Type 0} {R : K → K → Ordering} (o : IsTotalOrder R) where
  -- a look-up in the map is one in the finite map
  pub get-entries : (m : tree.BTreeMap K X) (q : K) → map.get (map.from_entries {R = R} m.entries) q ≡ tree.get R m q
  get-entries m q = map.get-from_entries o m.entries q ∙ find-lookup R q m.entries

  turned : (k q : K) (w : Option X) (m n : tree.BTreeMap K X) → tree.Updates R m n k w → tree.get R n q ≡ cond (eq_by_cmp R q k) w (tree.get R m q)
  turned k q w m n changes = changes.0 q ∙ ap (λ b. cond b w (tree.get R m q)) ((eq_by_cmp_equiv o).symm k q)

  -- an insertion is one
  pub entries-insert : map.IsAntisymmetric R → (m n : tree.BTreeMap K X) (k : K) (v : X) → tree.Updates R m n k (Some v) → map.from_entries {R = R} n.entries ≡ map.insert (map.from_entries m.entries) k v
  entries-insert same m n k v changes = map.same_map o same _ _ (λ q.
      get-entries n q ∙ turned k q (Some v) m n changes ∙ sym (map.get-insert o _ k v q ∙ ap (cond (eq_by_cmp R q k) (Some v)) (get-entries m q)))

  -- and so is a removal
  pub entries-remove : map.IsAntisymmetric R → (m n : tree.BTreeMap K X) (k : K) → tree.Updates R m n k None → map.from_entries {R = R} n.entries ≡ map.remove (map.from_entries m.entries) k
  entries-remove same m n k changes = map.same_map o same _ _ (λ q.
      get-entries n q ∙ turned k q None m n changes ∙ sym (map.get-remove o _ k q ∙ ap (cond (eq_by_cmp R q k) None) (get-entries m q)))
