-- The tests decide whether each change of an object gives it a stamp that it never had.
use Rattle.std.proofs.Common.{◌≡◌, ◌≢◌, ◌≤◌, ℕ, suc, List, length, Option, Some, None, refl, sym, ◌∙◌, ap, subst}
use Rattle.std.specs.Prelude.{Decides, ◌||◌, not}
use Rattle.std.specs.Option.{option_map}
use Rattle.std.proofs.lemmas.Bool.Decides.{Decides-like, Decides-not}
use Rattle.nfs_types.specs.Stamps.{stamp_of}
use Rattle.world_model.specs.Server as model
use Rattle.world_model.specs.Fresh.{Differs, Fresh}
use Rattle.trace_data.specs.declared.trace.Object.{Object}
use Rattle.trace_data.specs.declared.trace.Updated.{Updated}
use Rattle.trace_data.specs.declared.trace.Update.{Update}
use Rattle.trace_data.specs.declared.trace.Trace.{Trace}
use Rattle.trace_rules.specs.Decided.{all_below}
use Rattle.trace_data.specs.Histories.{object_of, named, objects_after, or_else, object_at, history_of}
use Rattle.trace_rules.specs.Freshness.{differs, had_stamp, is_new, renews, renews_at, renews_all, fresh}
use Rattle.trace_rules.proofs.Below.{all_below-decides}
use Rattle.trace_rules.proofs.Combining.{always, given}
use Rattle.trace_rules.proofs.Naming.{named-decides, Had, had-decides}
use Rattle.trace_rules.proofs.Changing.{differs-decides, differs-not}

-- the object under the handle at a moment, as the history has it
abbrev pub Is : List Updated → List Update → ℕ → List ℕ → model.Object → Type 0
Is start us n f o = option_map object_of (object_at start us n f) ≡ Some o

-- if entry n changes the object under the handle, then this gets a stamp that it never had
abbrev pub Renews : List Updated → List Update → ℕ → List ℕ → Type 0
Renews start us n f = (old new : model.Object) → Is start us n f old → Is start us (suc n) f new → Differs old new
    → (m : ℕ) (o : model.Object) → m ≤ n → Is start us m f o → stamp_of o.attr ≢ stamp_of new.attr

none : (x : Option Object) (o : model.Object) → x ≡ None → option_map object_of x ≡ Some o → ⊥
none None o e is = cc
none (Some p) o e is = cc

same : (p : Object) (o : model.Object) → Some (object_of p) ≡ Some o → object_of p ≡ o
same p o e = cc

of : (x : Option Object) (o : model.Object) → option_map object_of x ≡ Some o → (p : Object) × (x ≡ Some p) × (object_of p ≡ o)
of None o e = absurd (cc)
of (Some p) o e = (p, refl, same p o e)

one : (a b : model.Object) → Some a ≡ Some b → a ≡ b
one a b e = cc

-- an object that isn't named stays what it was
unnamed : (start : List Updated) (us : List Update) (n : ℕ) (f : List ℕ) → named (objects_after us n) f ≡ None → Renews start us n f
unnamed start us n f e old new was is differ m o le had = absurd (differs-not old (subst (λ z. Differs old z) (sym stays) differ))
  where
    stays : old ≡ new
    stays = one old new (sym was ∙ sym (ap (λ z. option_map object_of (or_else z (object_at start us n f))) e) ∙ is)

pub renews-decides : (start : List Updated) (us : List Update) (n : ℕ) (f : List ℕ) → Decides (renews start us n f) (Renews start us n f)
unfolding renews
renews-decides start us n f = by (object_at start us n f) (named (objects_after us n) f) refl refl
  where
    both : (a b : Object) → object_at start us n f ≡ Some a → named (objects_after us n) f ≡ Some b → (Differs (object_of a) (object_of b) → Had start us n f (stamp_of b.attr) → ⊥) → Renews start us n f
    both a b p q k old new was is differ m o le had equal =
        let old_is : object_of a ≡ old = one (object_of a) old (sym (ap (option_map object_of) p) ∙ was) in
        let new_is : object_of b ≡ new = one (object_of b) new (sym (ap (λ z. option_map object_of (or_else z (object_at start us n f))) q) ∙ is) in
        let at = of (object_at start us m f) o had in
        k (subst (λ (z : model.Object). Differs z (object_of b)) (sym old_is) (subst (λ (z : model.Object). Differs old z) (sym new_is) differ))
        (m, le, (at.0, at.1, ap (λ (z : model.Object). stamp_of z.attr) at.2 ∙ equal ∙ sym (ap (λ (z : model.Object). stamp_of z.attr) new_is)))

    back : (a b : Object) → object_at start us n f ≡ Some a → named (objects_after us n) f ≡ Some b → Renews start us n f → Differs (object_of a) (object_of b) → Had start us n f (stamp_of b.attr) → ⊥
    back a b p q k differ had =
        k (object_of a) (object_of b) (ap (option_map object_of) p) (ap (λ z. option_map object_of (or_else z (object_at start us n f))) q) differ
        had.0 (object_of had.2.0) had.1 (ap (option_map object_of) had.2.1) had.2.2

    by : (x y : Option Object) → object_at start us n f ≡ x → named (objects_after us n) f ≡ y → Decides (is_new start us n f x y) (Renews start us n f)
    by None y p q = always (λ old new was. absurd (none (object_at start us n f) old p was))
    by (Some a) None p q = always (unnamed start us n f q)
    by (Some a) (Some b) p q =
        Decides-like (not (differs a b) || not (had_stamp start us n f (stamp_of b.attr)))
        (both a b p q) (back a b p q)
        (given (differs a b) (not (had_stamp start us n f (stamp_of b.attr))) (differs-decides a b) (Decides-not (had_stamp start us n f (stamp_of b.attr)) (had-decides start us n f (stamp_of b.attr))))

pub all-decides : (start : List Updated) (us : List Update) (n : ℕ) → Decides (renews_all start us n) ((f : List ℕ) → Renews start us n f)
unfolding renews_all renews_at
all-decides start us n = named-decides (λ f. renews start us n f) (λ f. Renews start us n f) (λ f. renews-decides start us n f) (objects_after us n) (λ f e. unnamed start us n f e)

pub fresh-decides : (t : Trace) → Decides (fresh t.start.objects.items t.updates.items (length t.entries.items)) (Fresh (history_of t))
unfolding fresh
fresh-decides t =
    Decides-like (all_below (λ n. renews_all t.start.objects.items t.updates.items n) (length t.entries.items))
    (λ w n below f old new. w n below f old new)
    (λ (w : Fresh (history_of t)) n below f old new. w n below f old new)
    (all_below-decides (λ n. renews_all t.start.objects.items t.updates.items n) (λ n. (f : List ℕ) → Renews t.start.objects.items t.updates.items n f) (λ n. all-decides t.start.objects.items t.updates.items n) (length t.entries.items))
