-- What calls of a link with two ends are to each of them.
use Rattle.std.proofs.Common.{◌≡◌, ◌≤◌, ◌-◌, ℕ, List, [], ◌∷◌, ◌++◌, length, Option, Some, None, option_map, refl, sym, ap, ◌∙◌, append_assoc}
use Rattle.std.proofs.lemmas.List.{append-nil}
use Rattle.world_model.specs.declared.entry.Entry.{Entry}
use Rattle.world_model.specs.Entries.{ours}
use Rattle.world_model.specs.Told.{Adds, Tells}
use Rattle.world_model.proofs.Histories.{ours-append}
use Rattle.outside.specs.Link.{Appends, NotesOnly}
use Rattle.outside.specs.Pairs.{PairStep, PairTold, PairTells, PairNotes, AddsAt, AppendsAt, side, seen_by}
use Rattle.law_sides.proofs.Sides.{seen-append, side-grown, side-earlier}
use Rattle.pair_ends.specs.Ends.{AddsAlone, Spares}

side-adds : (end : ℕ) (old new : PairTold) (es : List Entry) → AddsAt end old new es → Adds (side end old) (side end new) es
side-adds end old new es a = record { more = seen_by end a.more; grown = side-grown end old new a.more a.grown; seen = a.seen; earlier = side-earlier end old new a.more a.grown }

pub side-tells : (end : ℕ) (old new : Option PairTold) (es : List Entry) → PairTells end old new es → Tells (option_map (side end) old) (option_map (side end) new) es
side-tells end None new es t = tt
side-tells end (Some old) None es t = t
side-tells end (Some old) (Some new) es t = side-adds end old new es t

side-appends : (end : ℕ) (old new : PairTold) (es : List Entry) → AppendsAt end old new es → Appends (side end old) (side end new) es
side-appends end old new es a = record {
  grown = side-grown end old new a.more a.grown ∙ ap (λ (t : List Entry). (side end old).entries ++ t) a.seen;
  earlier = side-earlier end old new a.more a.grown;
}

pub side-notes : (end : ℕ) (old new : Option PairTold) (es : List Entry) → PairNotes end old new es → NotesOnly (option_map (side end) old) (option_map (side end) new) es
side-notes end None new es t = tt
side-notes end (Some old) None es t = t
side-notes end (Some old) (Some new) es t = side-appends end old new es t

-- ---- the other end

alone-then : (end : ℕ) (a b c : PairTold) (more : List PairStep) → AddsAlone end a b → c ≡ record { start = b.start; steps = b.steps ++ more } → ours (seen_by (1 - end) more) ≡ [] → AddsAlone end a c
alone-then end a b c more p grown unseen = record {
  more = p.more ++ more;
  grown = grown ∙ ap (λ (t : PairTold). record { start = t.start; steps = t.steps ++ more }) p.grown ∙ ap (λ (t : List PairStep). record { start = a.start; steps = t }) (append_assoc a.steps p.more more);
  unseen = ap ours (seen-append (1 - end) p.more more) ∙ ours-append (seen_by (1 - end) p.more) (seen_by (1 - end) more)
      ∙ ap (λ (t : List Entry). t ++ ours (seen_by (1 - end) more)) p.unseen ∙ unseen;
}

pub spares-then : (end : ℕ) (a b c : Option PairTold) (es : List Entry) → Spares end a b → PairTells end b c es → Spares end a c
spares-then end None b c es p q = tt
spares-then end (Some a) None c es p q = absurd p
spares-then end (Some a) (Some b) None es p q = absurd q
spares-then end (Some a) (Some b) (Some c) es p q = alone-then end a b c q.more p q.grown q.unseen

pub spares-note : (end : ℕ) (a b c : Option PairTold) (es : List Entry) → Spares end a b → PairNotes end b c es → Spares end a c
spares-note end None b c es p q = tt
spares-note end (Some a) None c es p q = absurd p
spares-note end (Some a) (Some b) None es p q = absurd q
spares-note end (Some a) (Some b) (Some c) es p q = alone-then end a b c q.more p q.grown (ap ours q.unseen)

pub spares-none : (end : ℕ) (a : Option PairTold) → Spares end a a
spares-none end None = tt
spares-none end (Some a) = record { more = []; grown = ap (λ (t : List PairStep). record { start = a.start; steps = t }) (sym (append-nil a.steps)); unseen = refl }
