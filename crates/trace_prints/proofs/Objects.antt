-- The lines of objects lead from those that were there to those that there are.
use Rattle.std.proofs.Common.{◌≡◌, ℕ, List, [], ◌∷◌, ◌++◌, map, Bool, true, false, not, ◌&&◌, Option, Some, None, refl, sym, ap, ◌∙◌, subst, append_assoc, true≢false}
use Rattle.std.specs.Prelude.{codes}
use Rattle.std.specs.List.{flat_map}
use Rattle.std.specs.Option.{option_map}
use Rattle.std.specs.Str.{bytes_eq}
use Rattle.std.proofs.lemmas.Bool.{and_parts}
use Rattle.std.proofs.lemmas.Slice.Eq.{bytes_eq-Decides}
use Rattle.nfs_types.specs.declared.attr.Attr.{Attr}
use Rattle.nfs_types.specs.declared.verf.Verf.{Verf}
use Rattle.world_model.specs.declared.entry.Entry.{Entry}
use Rattle.world_model.specs.Server as model
use Rattle.world_model.specs.Server.{Bytes, Entries, Listed, Server, Text}
use Rattle.trace_data.specs.declared.trace.Contents.{Contents}
use Rattle.trace_data.specs.declared.trace.Contents.TheVariants as holds
use Rattle.trace_data.specs.declared.trace.Object.{Object}
use Rattle.trace_data.specs.declared.trace.Updated.{Updated}
use Rattle.trace_data.specs.Histories.{holds_of, listed_of, object_of}
use Rattle.trace_rules.specs.Keeping.{same_attr}
use Rattle.trace_rules.proofs.Unchanged.{attr-decides}
use Rattle.trace_text.specs.Parts as parts
use Rattle.trace_text.specs.Objects.{gone_of, list_in, list_of, or_empty, with_object}
use Rattle.trace_text.specs.Texts.{changed_text, entries_in, entries_of, hex_word, holds_same, line_if, line_of, looks_same, names_in, obj_line, obj_text, was_gone}
use Rattle.trace_text.specs.Told.{Told, begun, changed, object_now}
use Rattle.trace_prints.specs.HasText.{AreChanges, IsChange, IsListing}
use Rattle.trace_prints.specs.Rounds.{said_object, said_of}
use Rattle.trace_prints.proofs.Moments.{IsAt, at-object, now-is, put-now}
use Rattle.trace_prints.proofs.Named.{reads-list, stays}
use Rattle.trace_prints.proofs.Passes.{Distinct, Each, Has, Leaves, after, after-is, find, has-after, leaves-as, leaves-nothing, leaves-then, lookup, pass}
use Rattle.trace_prints.proofs.Servers.{reads-gone, reads-obj}

-- ---- what looks the same is the same

bytes-are : (a b : List ℕ) → bytes_eq a b ≡ true → a ≡ b
bytes-are a b e = (bytes_eq-Decides a b).0 e

held-same : (old new : Contents) (was : model.Object) → was.holds ≡ holds_of old → holds_same old new ≡ true → holds_of old ≡ said_of new (Some was)
held-same (holds.File now stable) (holds.File later steady) was w h =
    let p = and_parts (bytes_eq now later) (bytes_eq stable steady) h in
    ap (λ (k : List ℕ). Bytes k stable) (bytes-are now later p.0) ∙ ap (λ (k : List ℕ). Bytes later k) (bytes-are stable steady p.1)
held-same (holds.File now stable) (holds.Directory list) was w h = absurd (true≢false (sym h))
held-same (holds.File now stable) (holds.Other text) was w h = absurd (true≢false (sym h))
held-same (holds.Directory list) (holds.File later steady) was w h = absurd (true≢false (sym h))
held-same (holds.Directory list) (holds.Directory other) was w h = ap (λ (k : model.Holds). Entries (or_empty (list_in k))) (sym w)
held-same (holds.Directory list) (holds.Other text) was w h = absurd (true≢false (sym h))
held-same (holds.Other text) (holds.File later steady) was w h = absurd (true≢false (sym h))
held-same (holds.Other text) (holds.Directory list) was w h = absurd (true≢false (sym h))
held-same (holds.Other text) (holds.Other later) was w h = ap Text (bytes-are text later h)

looks-so : (old : Object) (updated : Updated) → looks_same old updated.object ≡ true → object_of old ≡ said_object updated (Some (object_of old))
looks-so old updated h =
    let p = and_parts (same_attr old.attr updated.object.attr) (holds_same old.contents updated.object.contents) h in
    made old.attr updated.object.attr (holds_of old.contents) (said_of updated.object.contents (Some (object_of old))) ((attr-decides old.attr updated.object.attr).0 p.0)
    (held-same old.contents updated.object.contents (object_of old) refl p.1)
  where
    made : (a b : Attr) (i j : model.Holds) → a ≡ b → i ≡ j → ◌≡◌ {A = model.Object} (record { attr = a; gone = old.gone; holds = i }) (record { attr = b; gone = old.gone; holds = j })
    made a b i j e f = rw (e, f) refl

-- ---- the lines of one object

abbrev pub seen : Option Object → Option model.Object
seen was = option_map object_of was

gone-seen : (was : Option Object) → gone_of (seen was) ≡ was_gone was
gone-seen None = refl
gone-seen (Some old) = refl

list-seen : (was : Option Object) → or_empty (list_of (seen was)) ≡ map listed_of (entries_of was)
list-seen None = refl
list-seen (Some old) = by old.contents
  where
    by : (c : Contents) → or_empty (list_in (holds_of c)) ≡ map listed_of (entries_in c)
    by (holds.File now stable) = refl
    by (holds.Directory list) = refl
    by (holds.Other text) = refl

-- after its own line, after that of its removal, and after those of its names
abbrev said-of : (List ℕ → Option Object) → Updated → model.Object
said-of was u = said_object u (seen (was u.handle))

abbrev gone-too : (List ℕ → Option Object) → Updated → model.Object
gone-too was u = record { attr = u.object.attr; gone = u.object.gone; holds = said_of u.object.contents (seen (was u.handle)) }

module _ (es : List Entry) (past : ℕ → Server) (verf : Verf) (was : List ℕ → Option Object) where
  obj-lines : (told : Told) (now : List ℕ → Option model.Object) (u : Updated) → IsChange (was u.handle) u → IsAt told es past verf now → now u.handle ≡ seen (was u.handle)
      → Leaves told es past verf (put-now u.handle (said-of was u) now) (changed_text was parts.attribute_lines u)
  obj-lines told now u c at e = by (was u.handle) refl
    where
      line : (o : Option Object) → was u.handle ≡ o → Leaves told es past verf (put-now u.handle (said_object u (seen o)) now) (obj_line u)
      line o w = subst (λ (k : Option model.Object). Leaves told es past verf (put-now u.handle (said_object u k) now) (obj_line u)) (now-is told es past verf now at u.handle ∙ e ∙ ap seen w) (record {
        new = begun (changed (with_object u.handle (said_object u (object_now told u.handle))) told);
        reads = reads-obj told u c.shown;
        at = at-object told es past verf now at u.handle (said_object u (object_now told u.handle));
        head = record { root = refl; lives = refl; noac = refl; nocto = refl };
      })

      by : (o : Option Object) → was u.handle ≡ o → Leaves told es past verf (put-now u.handle (said_object u (seen o)) now) (obj_text o u)
      by None w = line None w
      by (Some old) w = test (looks_same old u.object) refl
        where
          test : (t : Bool) → looks_same old u.object ≡ t → Leaves told es past verf (put-now u.handle (said_object u (Some (object_of old))) now) (line_if (not t) (obj_line u))
          test true h = leaves-as told es past verf now (put-now u.handle (said_object u (Some (object_of old))) now) []
              (λ k. stays u.handle (said_object u (Some (object_of old))) now k (e ∙ ap seen w ∙ ap (λ (o : model.Object). Some o) (looks-so old u h))) (leaves-nothing told es past verf now at)
          test false h = line (Some old) w

  gone-lines : (told : Told) (now : List ℕ → Option model.Object) (u : Updated) → IsChange (was u.handle) u → IsAt told es past verf now → now u.handle ≡ Some (said-of was u)
      → Leaves told es past verf (put-now u.handle (gone-too was u) now) (changed_text was parts.gone_lines u)
  gone-lines told now u c at e = by u.object.gone refl (was_gone (was u.handle)) refl
    where
      object : Bool → model.Object
      object g = record { attr = u.object.attr; gone = g; holds = said_of u.object.contents (seen (was u.handle)) }

      line : List ℕ
      line = line_of (codes "gone") (hex_word u.handle ∷ [])

      is : (k : Bool) → was_gone (was u.handle) ≡ k → now u.handle ≡ Some (object k)
      is k f = e ∙ ap (λ (b : Bool). Some (object b)) (gone-seen (was u.handle) ∙ f)

      nothing : (g : Bool) → now u.handle ≡ Some (object g) → Leaves told es past verf (put-now u.handle (object g) now) []
      nothing g f = leaves-as told es past verf now (put-now u.handle (object g) now) [] (λ h. stays u.handle (object g) now h f) (leaves-nothing told es past verf now at)

      by : (g : Bool) → u.object.gone ≡ g → (k : Bool) → was_gone (was u.handle) ≡ k → Leaves told es past verf (put-now u.handle (object g) now) (line_if (g && not k) line)
      by true f true w = nothing true (is true w)
      by true f false w = record {
        new = begun (changed (with_object u.handle (object true)) told);
        reads = reads-gone told u.handle (object false) c.shown.handle (now-is told es past verf now at u.handle ∙ is false w);
        at = at-object told es past verf now at u.handle (object true);
        head = record { root = refl; lives = refl; noac = refl; nocto = refl };
      }
      by false f true w = absurd (true≢false (sym (c.gone w) ∙ f))
      by false f false w = nothing false (is false w)

  name-lines : (told : Told) (now : List ℕ → Option model.Object) (u : Updated) → IsChange (was u.handle) u → IsAt told es past verf now → now u.handle ≡ Some (gone-too was u)
      → Leaves told es past verf (put-now u.handle (object_of u.object) now) (changed_text was parts.name_lines u)
  name-lines told now u c at e = by u.object.contents c.list e
    where
      object : model.Holds → model.Object
      object h = record { attr = u.object.attr; gone = u.object.gone; holds = h }

      nothing : (h : model.Holds) → now u.handle ≡ Some (object h) → Leaves told es past verf (put-now u.handle (object h) now) []
      nothing h f = leaves-as told es past verf now (put-now u.handle (object h) now) [] (λ k. stays u.handle (object h) now k f) (leaves-nothing told es past verf now at)

      by : (k : Contents) → IsListing (entries_in k) → now u.handle ≡ Some (object (said_of k (seen (was u.handle)))) → Leaves told es past verf (put-now u.handle (object (holds_of k)) now) (names_in u.handle (entries_of (was u.handle)) k)
      by (holds.File first second) l f = nothing (Bytes first second) f
      by (holds.Directory list) l f = reads-list es past verf u.handle c.shown.handle (object (Entries [])) (entries_of (was u.handle)) list.items told now c.before l at
          (f ∙ ap (λ (j : List Listed). Some (object (Entries j))) (list-seen (was u.handle)))
      by (holds.Other text) l f = nothing (Text text) f

  -- ---- all objects

  changes-each : (us : List Updated) → AreChanges was us → Each (λ u. IsChange (was u.handle) u) us
  changes-each [] c = tt
  changes-each (u ∷ us) c = (c.0, changes-each us c.1)

  has-seen : (now : List ℕ → Option model.Object) → ((h : List ℕ) → now h ≡ seen (was h)) → (us : List Updated) → Has (λ u. seen (was u.handle)) now us
  has-seen now e [] = tt
  has-seen now e (u ∷ us) = (e u.handle, has-seen now e us)

  found : (o : Option Updated) (d : Option model.Object) → lookup (λ u. object_of u.object) o (lookup (gone-too was) o (lookup (said-of was) o d)) ≡ lookup (λ u. object_of u.object) o d
  found None d = refl
  found (Some u) d = refl

  pub objects-lines : (us : List Updated) (told : Told) (now : List ℕ → Option model.Object) → Distinct us → AreChanges was us → IsAt told es past verf now → ((h : List ℕ) → now h ≡ seen (was h))
      → Leaves told es past verf (λ h. lookup (λ u. object_of u.object) (find us h) (now h))
      (flat_map (changed_text was parts.attribute_lines) us ++ flat_map (changed_text was parts.gone_lines) us ++ flat_map (changed_text was parts.name_lines) us)
  objects-lines us told now d c at e =
      let each : Each (λ u. IsChange (was u.handle) u) us = changes-each us c in
      let one : List ℕ → Option model.Object = after (said-of was) us now in
      let two : List ℕ → Option model.Object = after (gone-too was) us one in
      let three : List ℕ → Option model.Object = after (λ u. object_of u.object) us two in
      let a : Leaves told es past verf one (flat_map (changed_text was parts.attribute_lines) us) =
      pass es past verf (changed_text was parts.attribute_lines) (λ u. seen (was u.handle)) (said-of was) (λ u. IsChange (was u.handle) u) obj-lines us told now d each at (has-seen now e us) in
      let b : Leaves a.new es past verf two (flat_map (changed_text was parts.gone_lines) us) =
      pass es past verf (changed_text was parts.gone_lines) (λ u. Some (said-of was u)) (gone-too was) (λ u. IsChange (was u.handle) u) gone-lines us a.new one d each a.at (has-after (said-of was) us now d) in
      let k : Leaves b.new es past verf three (flat_map (changed_text was parts.name_lines) us) =
      pass es past verf (changed_text was parts.name_lines) (λ u. Some (gone-too was u)) (λ u. object_of u.object) (λ u. IsChange (was u.handle) u) name-lines us b.new two d each b.at (has-after (gone-too was) us one d) in
      leaves-as told es past verf three (λ h. lookup (λ u. object_of u.object) (find us h) (now h))
      (flat_map (changed_text was parts.attribute_lines) us ++ flat_map (changed_text was parts.gone_lines) us ++ flat_map (changed_text was parts.name_lines) us)
      (λ h. after-is (λ u. object_of u.object) us two h d ∙ ap (lookup (λ u. object_of u.object) (find us h)) (after-is (gone-too was) us one h d ∙ ap (lookup (gone-too was) (find us h)) (after-is (said-of was) us now h d))
      ∙ found (find us h) (now h))
      (subst (λ (k : List ℕ). Leaves told es past verf three k) (sym (append_assoc (flat_map (changed_text was parts.attribute_lines) us) (flat_map (changed_text was parts.gone_lines) us) (flat_map (changed_text was parts.name_lines) us)))
      (leaves-then told es past verf one three (flat_map (changed_text was parts.attribute_lines) us) (flat_map (changed_text was parts.gone_lines) us ++ flat_map (changed_text was parts.name_lines) us) a
      (leaves-then a.new es past verf two three (flat_map (changed_text was parts.gone_lines) us) (flat_map (changed_text was parts.name_lines) us) b k)))
