-- What a cache of at most 256 entries holds after one is put.
use Rattle.std.proofs.Common.{◌≡◌, ◌≤◌, ◌-◌, true, ◌∷◌, length, take, Option, Some, None, refl, sym, ap, arith}
use Rattle.std.proofs.lemmas.List.{take_all, length-take}
use Rattle.std.specs.Cmp.{first_so, second_so}
use Rattle.std.specs.Cmp.Lexicographic.{bytes_decides}
use Rattle.std.specs.Option.{option_map_or}
use Rattle.std.specs.Map.{lookup_entry, remove_entry}
use Rattle.lru.specs.LruCache.{LruCache, put_entries}
use Rattle.lru.proofs.CallerLemmas.{Contains-lookup_entry}
use Rattle.name_cache.specs.declared.entry.Place.{Place}
use Rattle.name_cache.specs.declared.entry.KeptName.{KeptName}
use Rattle.name_cache.specs.Names.{Entries, is_place}
use Rattle.name_cache.proofs.Orders.{length-remove_entry, remove_entry-absent}

-- a place that passes the test is the place
pub same_place : (p q : Place) → is_place p.dir p.name q ≡ true → q ≡ p
same_place p q t =
    let dir : q.dir ≡ p.dir = sym ((bytes_decides p.dir q.dir).0 (first_so _ _ t)) in
    let name : q.name ≡ p.name = sym ((bytes_decides p.name q.name).0 (second_so _ _ t)) in
    λ i. record { dir = dir i; name = name i }

module _ (names : LruCache Place KeptName) (p : Place) (kept : KeptName) (room : names.cap ≡ 256) (most : length names.entries ≤ 256) where
  -- it stands in front, without the earlier one of its place
  abbrev fronted : Entries
  fronted = take 256 ((p, kept) ∷ remove_entry (is_place p.dir p.name) names.entries)

  by_place : (o : Option (Place × KeptName)) → lookup_entry (is_place p.dir p.name) names.entries ≡ o
      → option_map_or (λ e. (e.0, kept) ∷ remove_entry (is_place p.dir p.name) names.entries) o ((p, kept) ∷ take (names.cap - 1) names.entries) ≡ fronted
  by_place None none = rw room (ap (λ l. (p, kept) ∷ take 255 l) (sym (remove_entry-absent (is_place p.dir p.name) names.entries none)))
  by_place (Some e) found =
      let rest : length (remove_entry (is_place p.dir p.name) names.entries) ≤ 255 = omega (arith, length-remove_entry (is_place p.dir p.name) names.entries e found, most) in
      let same : e.0 ≡ p = same_place p e.0 (Contains-lookup_entry (is_place p.dir p.name) names.entries e found).1 in
      rw (take_all 255 (remove_entry (is_place p.dir p.name) names.entries) rest) (ap (λ q. (q, kept) ∷ remove_entry (is_place p.dir p.name) names.entries) same)

  pub put-is-fronted : put_entries (λ p q. is_place p.dir p.name q) names p kept ≡ fronted
  put-is-fronted = by_place (lookup_entry (is_place p.dir p.name) names.entries) refl

  pub length-put : length (put_entries (λ p q. is_place p.dir p.name q) names p kept) ≤ 256
  length-put = rw put-is-fronted (omega (arith, length-take 256 ((p, kept) ∷ remove_entry (is_place p.dir p.name) names.entries)))
