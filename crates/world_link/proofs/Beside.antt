-- What is kept beside the entries, and what one entry more leaves of it.
use Rattle.std.proofs.Common.{◌≡◌, ◌<◌, ◌≤◌, ℕ, Bool, true, false, List, [], ◌∷◌, ◌++◌, length, Option, Some, None, refl, sym, ap, ◌∙◌, arith, ◌==◌, if◌then◌else◌, length-append}
use Rattle.std.proofs.lemmas.Bool.{cond_both, eqb-true, eqb-false}
use Rattle.world_model.specs.declared.entry.Entry.{Entry}
use Rattle.world_model.proofs.Places.{length_last}
use Rattle.export_fs.specs.View.{View}
use Rattle.world_link.specs.declared.broken.Broken.{Broken}
use Rattle.world_link.specs.declared.directive.PartialWrite.{PartialWrite}
use Rattle.world_link.specs.Going.{Follows}
use Rattle.world_link.specs.Handling.{kept}
use Rattle.world_link.specs.Replay.{stepped, replayed, part_at}
use Rattle.world_link.specs.View.{ServerView}
use Rattle.world_link.proofs.Replays.{replayed_last, replayed_same}

part_other : (partials : List Broken) (b : Broken) (n : ℕ) → (b.at ≡ n → ⊥) → part_at (partials ++ b ∷ []) n ≡ part_at partials n
part_other [] b n d = cond_both (b.at == n) (Some b.part) None (λ (o : Option PartialWrite). o ≡ None) (λ e. absurd (d (eqb-true b.at n e))) (λ e. refl)
part_other (x ∷ partials) b n d = ap (λ (o : Option PartialWrite). if x.at == n then Some x.part else o) (part_other partials b n d)

part_here : (partials : List Broken) (b : Broken) → part_at partials b.at ≡ None → part_at (partials ++ b ∷ []) b.at ≡ Some b.part
part_here [] b e = cond_both (b.at == b.at) (Some b.part) None (λ (o : Option PartialWrite). o ≡ Some b.part) (λ q. refl) (λ q. absurd (eqb-false b.at b.at q refl))
part_here (x ∷ partials) b e =
    let next : part_at partials b.at ≡ None → part_at (partials ++ b ∷ []) b.at ≡ Some b.part = λ q. part_here partials b q in
    elim (x.at == b.at) as (λ (t : Bool). (if t then Some x.part else part_at partials b.at) ≡ None → (if t then Some x.part else part_at (partials ++ b ∷ []) b.at) ≡ Some b.part) [
      | true ↦ λ q. absurd (cc)
      | false ↦ λ q. next q
    ] e

pub kept_before : (partials : List Broken) (at : ℕ) (part : Option PartialWrite) (n : ℕ) → n < at → part_at (kept partials at part) n ≡ part_at partials n
kept_before partials at None n l = refl
kept_before partials at (Some part) n l = part_other partials (record { at = at; part = part }) n (λ e. omega (arith, l, e))

kept_here : (partials : List Broken) (at : ℕ) (part : Option PartialWrite) → part_at partials at ≡ None → part_at (kept partials at part) at ≡ part
kept_here partials at None e = e
kept_here partials at (Some part) e = part_here partials (record { at = at; part = part }) e

kept_after : (partials : List Broken) (at : ℕ) (part : Option PartialWrite) (n : ℕ) → at < n → part_at partials n ≡ None → part_at (kept partials at part) n ≡ None
kept_after partials at None n l e = e
kept_after partials at (Some part) n l e = part_other partials (record { at = at; part = part }) n (λ q. omega (arith, l, q)) ∙ e

-- neither the export nor what is told is changed
pub same_follows : (start : View) (old new : ServerView) → new.entries ≡ old.entries → new.partials ≡ old.partials → new.export ≡ old.export → Follows start old.export old.entries old.partials → Follows start new.export new.entries new.partials
same_follows start old new e p f h = record {
  known = λ n l. ap (λ (t : List Broken). part_at t n) p ∙ h.known n (omega (arith, l, ap (λ (t : List Entry). length t) e));
  export = f ∙ h.export ∙ ap (λ (t : List Broken). replayed (part_at t) start old.entries) (sym p) ∙ ap (replayed (part_at new.partials) start) (sym e);
}

-- an entry was told, and the export took its step
pub next_follows : (start : View) (v : ServerView) (part : Option PartialWrite) (e : Entry) (w : View) → w ≡ stepped part v.export e → Follows start v.export v.entries v.partials
    → Follows start w (v.entries ++ e ∷ []) (kept v.partials (length v.entries) part)
next_follows start v part e w is h =
    let beside : ℕ → Option PartialWrite = part_at (kept v.partials (length v.entries) part) in
    let here : beside (length v.entries) ≡ part = kept_here v.partials (length v.entries) part (h.known (length v.entries) (omega arith)) in
    let was : v.export ≡ replayed beside start v.entries = h.export ∙ sym (replayed_same beside (part_at v.partials) start v.entries (λ n l. kept_before v.partials (length v.entries) part n l)) in
    record {
      known = λ n l. kept_after v.partials (length v.entries) part n (omega (arith, l, length_last v.entries e)) (h.known n (omega (arith, l, length_last v.entries e)));
      export = is ∙ ap (λ (o : Option PartialWrite). stepped o v.export e) (sym here) ∙ ap (λ (z : View). stepped (beside (length v.entries)) z e) was ∙ sym (replayed_last beside start v.entries e);
    }
