-- What the objects hold stays sound, step by step.
use Rattle.std.proofs.Common.{◌≡◌, ◌<◌, ◌≤◌, ◌+◌, ◌-◌, max, ℕ, true, false, List, [], ◌∷◌, ◌++◌, length, drop, replicate, Option, Some, None, refl, sym, ap, subst, ◌∙◌, arith, ⊎_elim, ◌==◌, slice_get, length-append, length-take, length-drop}
use Rattle.std.proofs.lemmas.Bool.{cases_Bool}
use Rattle.std.proofs.lemmas.List.{length-replicate}
use Rattle.world_model.specs.Bytes.{filled, resized, put_at, part, committed_part}
use Rattle.world_model.specs.FileService.{steady_after}
use Rattle.export_fs.specs.declared.node.Holds.{Holds}
use Rattle.export_fs.specs.declared.node.Holds.TheVariants.{File, Directory, Link}
use Rattle.export_fs.specs.declared.node.Node.{Node}
use Rattle.export_fs.specs.Held.{Row}
use Rattle.export_fs.specs.Parts.{kind_of}
use Rattle.export_fs.specs.Names.{is_own_name, without}
use Rattle.export_fs.specs.Changes.{changed, with_name, without_name, with_parent, with_size, with_bytes, with_stable, unnamed, with_ctime, removed}
use Rattle.export_fs.specs.After.{changed_at}
use Rattle.export_fs.specs.Restart.{steady}
use Rattle.export_fs.specs.Sound.{IsEntry, IsHeld}
use Rattle.export_fs.proofs.EntriesByName.{once-without, once-more}
use Rattle.export_fs.proofs.Objects.{changed_there, other, was_at}
use Rattle.export_fs.proofs.EntriesNamed.{each_without, at_more}

abbrev pub AllHeld : ℕ → List Node → Type 0
AllHeld count nodes = (place : ℕ) (node : Node) → slice_get nodes place ≡ Some node → IsHeld count place node.holds

pub held_changed : (count : ℕ) (f : Node → Node) (q : ℕ) (nodes : List Node) → AllHeld count nodes → ((node : Node) → IsHeld count q node.holds → IsHeld count q (f node).holds) → AllHeld count (changed f q nodes)
held_changed count f q nodes all step place after e =
    elim (was_at f q place nodes after e) [
      | changed_there node s is g ↦ subst (λ (n : Node). IsHeld count place n.holds) (sym g) (subst (λ (p : ℕ). IsHeld count p (f node).holds) (sym s) (step node (all q node is)))
      | other d is ↦ all place after is
    ]

pub held_changed_at : (count : ℕ) (f : Node → Node) (o : Option ℕ) (nodes : List Node) → AllHeld count nodes → ((q : ℕ) (node : Node) → o ≡ Some q → IsHeld count q node.holds → IsHeld count q (f node).holds) → AllHeld count (changed_at f o nodes)
held_changed_at count f None nodes all step = all
held_changed_at count f (Some q) nodes all step = held_changed count f q nodes all (λ node h. step q node refl h)

-- ---- entries

wider_entry : (count more dir last later : ℕ) (row : Row) → count ≤ more → last ≤ later → IsEntry count dir last row → IsEntry more dir later row
wider_entry count more dir last later row a b e = record { there = omega (arith, e.there); apart = e.apart; cookie = e.cookie; given = omega (arith, e.given); own = e.own }

pub held_wider : (count more place : ℕ) (holds : Holds) → count ≤ more → IsHeld count place holds → IsHeld more place holds
held_wider count more place (File content) l h = h
held_wider count more place (Directory listing) l h = record { entries = λ at row e. wider_entry count more place listing.last listing.last row l (omega arith) (h.entries at row e); once = h.once }
held_wider count more place (Link text) l h = tt

pub held_named : (count dir : ℕ) (name : List ℕ) (place : ℕ) (holds : Holds) → place < count → (place ≡ dir → ⊥) → is_own_name name ≡ false → IsHeld count dir holds → IsHeld count dir (with_name name place holds)
held_named count dir name place (File content) l d own h = h
held_named count dir name place (Directory listing) l d own h =
    let last : Row = record { name = name; place = place; cookie = listing.last + 1 } in
    let new : IsEntry count dir (listing.last + 1) last = record { there = l; apart = d; cookie = omega arith; given = omega arith; own = own } in
    record {
      entries = λ at row e.
          ⊎_elim (λ (g : slice_get (without name listing.rows) at ≡ Some row). wider_entry count count dir listing.last (listing.last + 1) row (omega arith) (omega arith) (each_without (IsEntry count dir listing.last) name listing.rows h.entries at row g))
          (λ (g : last ≡ row). subst (IsEntry count dir (listing.last + 1)) g new)
          (at_more (without name listing.rows) last at row e);
      once = once-more name listing.rows last refl h.once;
    }
held_named count dir name place (Link text) l d own h = tt

pub held_left : (count dir : ℕ) (name : List ℕ) (holds : Holds) → IsHeld count dir holds → IsHeld count dir (without_name name holds)
held_left count dir name (File content) h = h
held_left count dir name (Directory listing) h = record { entries = each_without (IsEntry count dir listing.last) name listing.rows h.entries; once = once-without name listing.rows h.once }
held_left count dir name (Link text) h = tt

pub held_moved : (count dir parent : ℕ) (holds : Holds) → IsHeld count dir holds → IsHeld count dir (with_parent parent holds)
held_moved count dir parent (File content) h = h
held_moved count dir parent (Directory listing) h = record { entries = h.entries; once = h.once }
held_moved count dir parent (Link text) h = tt

-- ---- an object that loses a name holds what it held

pub unnamed_holds : (node : Node) → (unnamed node).holds ≡ node.holds
unnamed_holds node = ⊎_elim (λ (e : (kind_of node.holds == 2) ≡ true). simp e) (λ (e : (kind_of node.holds == 2) ≡ false). simp e) (cases_Bool (kind_of node.holds == 2))

ctime_holds : (number : ℕ) (node : Node) → (with_ctime number node).holds ≡ node.holds
ctime_holds number node = ⊎_elim (λ (e : node.gone ≡ true). simp e) (λ (e : node.gone ≡ false). simp e) (cases_Bool node.gone)

pub removed_holds : (number : ℕ) (node : Node) → (removed number node).holds ≡ node.holds
removed_holds number node = ctime_holds number (unnamed node) ∙ unnamed_holds node

-- ---- bytes

length_resized : (size : ℕ) (old : List ℕ) → length (resized size old) ≡ size
length_resized size old = omega (arith, length-take size (filled size old), length-append old (replicate (size - length old) 0), length-replicate {A = ℕ} (size - length old) 0)

length_put : (offset : ℕ) (bytes old : List ℕ) → 0 < length bytes → length (put_at offset bytes old) ≡ max (length old) (offset + length bytes)
length_put offset [] old l = absurd (omega arith)
length_put offset (b ∷ bytes) old l =
    let end : ℕ = offset + length (b ∷ bytes) in
    let is : length (put_at offset (b ∷ bytes) old) ≡ length (resized offset old) + length (b ∷ bytes) + length (drop end old) =
    length-append (resized offset old ++ (b ∷ bytes)) (drop end old) ∙ ap (λ (n : ℕ). n + length (drop end old)) (length-append (resized offset old) (b ∷ bytes)) in
    omega (arith, is, length_resized offset old, length-drop end old)

pub put_grows : (offset : ℕ) (bytes less more : List ℕ) → length less ≤ length more → length (put_at offset bytes less) ≤ length (put_at offset bytes more)
put_grows offset [] less more l = l
put_grows offset (b ∷ bytes) less more l = omega (arith, length_put offset (b ∷ bytes) less (omega arith), length_put offset (b ∷ bytes) more (omega arith))

put_above : (offset : ℕ) (bytes old : List ℕ) → length old ≤ length (put_at offset bytes old)
put_above offset [] old = omega arith
put_above offset (b ∷ bytes) old = omega (arith, length_put offset (b ∷ bytes) old (omega arith))

-- a part of the bytes, put into fewer of them
pub put_part : (offset : ℕ) (bytes old now : List ℕ) → (0 < length bytes → offset + length bytes ≤ length now) → length old ≤ length now → length (put_at offset bytes old) ≤ length now
put_part offset [] old now f l = l
put_part offset (b ∷ bytes) old now f l = let g = f (omega arith) in omega (arith, length_put offset (b ∷ bytes) old (omega arith))

part_within : (offset count : ℕ) (now : List ℕ) → 0 < length (part offset count now) → offset + length (part offset count now) ≤ length now
part_within offset count now l = omega (arith, length-take count (drop offset now), length-drop offset now)

drop_within : (offset : ℕ) (now : List ℕ) → 0 < length (drop offset now) → offset + length (drop offset now) ≤ length now
drop_within offset now l = omega (arith, length-drop offset now)

committed_within : (offset count : ℕ) (now : List ℕ) → 0 < length (committed_part offset count now) → offset + length (committed_part offset count now) ≤ length now
committed_within offset count now =
    let P : List ℕ → Type 0 = λ z. 0 < length z → offset + length z ≤ length now in
    ⊎_elim (λ (e : (count == 0) ≡ true). let g : committed_part offset count now ≡ drop offset now = simp e in subst P (sym g) (drop_within offset now))
    (λ (e : (count == 0) ≡ false). let g : committed_part offset count now ≡ part offset count now = simp e in subst P (sym g) (part_within offset count now))
    (cases_Bool (count == 0))

pub held_written : (count place offset how : ℕ) (bytes : List ℕ) (holds : Holds) → IsHeld count place holds → IsHeld count place (with_bytes offset how bytes holds)
held_written count place offset how bytes (File content) h =
    let P : List ℕ → Type 0 = λ z. length z ≤ length (put_at offset bytes content.bytes) in
    ⊎_elim (λ (e : (how == 0) ≡ true). let g : steady_after how offset bytes content.stable ≡ content.stable = simp e in subst P (sym g) (omega (arith, h, put_above offset bytes content.bytes)))
    (λ (e : (how == 0) ≡ false). let g : steady_after how offset bytes content.stable ≡ put_at offset bytes content.stable = simp e in subst P (sym g) (put_grows offset bytes content.stable content.bytes h))
    (cases_Bool (how == 0))
held_written count place offset how bytes (Directory listing) h = h
held_written count place offset how bytes (Link text) h = tt

pub held_committed : (count place offset range : ℕ) (holds : Holds) → IsHeld count place holds → IsHeld count place (with_stable offset range holds)
held_committed count place offset range (File content) h = put_part offset (committed_part offset range content.bytes) content.stable content.bytes (committed_within offset range content.bytes) h
held_committed count place offset range (Directory listing) h = h
held_committed count place offset range (Link text) h = tt

pub held_sized : (count place : ℕ) (size : Option ℕ) (holds : Holds) → IsHeld count place holds → IsHeld count place (with_size size holds)
held_sized count place None holds h = h
held_sized count place (Some size) (File content) h = omega (arith, length_resized size content.stable, length_resized size content.bytes)
held_sized count place (Some size) (Directory listing) h = h
held_sized count place (Some size) (Link text) h = tt

pub held_steady : (count place : ℕ) (holds : Holds) → IsHeld count place holds → IsHeld count place (steady holds)
held_steady count place (File content) h = omega arith
held_steady count place (Directory listing) h = h
held_steady count place (Link text) h = tt
