-- In each step, attributes that are kept afterwards were kept before, or a reply shows them.
use Rattle.core_counts.proofs.Prelude.{◌≡◌, ◌≤◌, ◌⊎◌, inl, inr, ℕ, List, [], ◌∷◌, ◌++◌, All, Contains, sym, ap, subst, ◌∙◌, append_assoc, append-nil, All-nil, Attrs, Entry, Began, Delivered, Call, Reply, History, Lawful, Shelf, machine_of, Mounted, Setup, View, Numbered, Reaches, begins, goes, loses, begins-unbegun, Passes, until, WasRun}
use Rattle.std.proofs.lemmas.List.Elements.{All-contains, Contains-get_or}
use Rattle.attr_cache.specs.Attrs.{nothing_learnt}
use Rattle.core_counts.specs.coarse.Fed.{EachStep, AttrsLearnt}
use Rattle.core_counts.specs.coarse.FedAttrs.{WasShown, Learns}
use Rattle.attr_cache.specs.declared.kept.KeptAttr.{KeptAttr}
use Rattle.attr_cache.proofs.Entries.{LastsAtMost, Believed}
use Rattle.core_answers.specs.bonds.Kept.{LastAtMost}
use Rattle.core_answers.proofs.bonds.Learnt.{Good}
use Rattle.core_answers.proofs.reads.Passed.{passed-along}
use Rattle.core_answers.proofs.writes.Along.{KeepsAlong}
use Rattle.core_answers.proofs.bonds.MachineAttrs.{attrs-starts, attrs-resumes, attrs-takes}
use Rattle.core_counts.proofs.coarse.FedEach.{numbered-at, over-on, each-step}
use Rattle.core_counts.proofs.coarse.FedSteps.{StepLaws, starts-step, stirs-step, takes-step}
use Rattle.core_counts.proofs.coarse.FedUntil.{lawful-until}

-- no lifetime is longer, of those that are kept and of those that may be given
record IsFine (most : ℕ) (c : Attrs) : Type 0 where
  lives : LastsAtMost c.lives most
  short : All (λ (e : List ℕ × KeptAttr). e.1.lifetime ≤ most) c.entries

-- so it is after a step if it was before, and then the step learns by replies alone
abbrev Learnt : History → ℕ → Attrs → Attrs → Type 0
Learnt t most old new = IsFine most old → IsFine most new × Learns t most old new

module _ (t : History) (most : ℕ) where
  same-learnt : (old new : Attrs) → new ≡ old → Learnt t most old new
  same-learnt old new is = subst (Learnt t most old) (sym is) (λ fine. (fine, λ file kept there. inl there))

  then-learnt : (a b c : Attrs) → Learnt t most a b → Learnt t most b c → Learnt t most a c
  then-learnt a b c f g fine = by (f fine)
    where
      by : IsFine most b × Learns t most a b → IsFine most c × Learns t most a c
      by first = (
        (g first.0).0,
        λ file kept there. elim ((g first.0).1 file kept there) [
          | inl was ↦ first.1 file kept was
          | inr shown ↦ inr shown
        ],
      )

  -- kept before, or shown
  abbrev Either : Attrs → List ℕ × KeptAttr → Type 0
  Either old e = Contains old.entries e ⊎ WasShown t e.0 e.1

  good-before : (old : Attrs) → IsFine most old → Good (Either old) most old
  good-before old fine = record { lives = fine.lives; all = λ k d lt. (inl (Contains-get_or old.entries k d lt), fine.short k d lt) }

  either-learns : (old : Attrs) (e : List ℕ × KeptAttr) → Believed (Either old) most e → Contains old.entries e ⊎ (WasShown t e.0 e.1 × (e.1.lifetime ≤ most))
  either-learns old e believed = by believed.0
    where
      by : Either old e → Contains old.entries e ⊎ (WasShown t e.0 e.1 × (e.1.lifetime ≤ most))
      by (inl was) = inl was
      by (inr shown) = inr (shown, believed.1)

  good-after : (old new : Attrs) → Good (Either old) most new → IsFine most new × Learns t most old new
  good-after old new g = (
    record { lives = g.lives; short = λ k d lt. (g.all k d lt).1 },
    λ file kept there. either-learns old (file, kept) (All-contains (Believed (Either old) most) new.entries (file, kept) g.all there),
  )

  attr-steps : StepLaws (WasRun t) (λ (old new : Shelf). Learnt t most old.attrs new.attrs)
  attr-steps = record {
    same = λ old new is. same-learnt old.attrs new.attrs (ap (λ (s : Shelf). s.attrs) is);
    then_ = λ a b c f g. then-learnt a.attrs b.attrs c.attrs f g;
    starts = λ machine wsize turn old next new after s. same-learnt old.attrs after.attrs (attrs-starts machine wsize turn old next new after s);
    resumes = λ machine wsize turn old next new after s. same-learnt old.attrs after.attrs (attrs-resumes machine wsize turn old next new after s);
    takes = λ machine call wsize sent turn came old next new after on told link s. λ fine.
        good-after old.attrs after.attrs
        (attrs-takes (Either old.attrs) most call sent turn came
        (λ reply is file attr shows lifetime. inr (record { call = call; reply = reply; run = told reply is; shows = shows })) machine wsize old next new after on.0.0 s
        (good-before old.attrs fine));
  }

-- ---- lifetimes alone

module _ (most : ℕ) where
  abbrev StaysFine : Shelf → Shelf → Type 0
  StaysFine old new = IsFine most old.attrs → IsFine most new.attrs

  abbrev Any : List ℕ × KeptAttr → Type 0
  Any e = Unit {0}

  same-fine : (old new : Attrs) → new ≡ old → IsFine most old → IsFine most new
  same-fine old new is fine = subst (IsFine most) (sym is) fine

  of-good : (c : Attrs) → Good Any most c → IsFine most c
  of-good c g = record { lives = g.lives; short = λ k d lt. (g.all k d lt).1 }

  fine-steps : StepLaws (λ (call : Call) (ms : ℕ) (reply : Reply). Unit {0}) StaysFine
  fine-steps = record {
    same = λ old new is fine. same-fine old.attrs new.attrs (ap (λ (s : Shelf). s.attrs) is) fine;
    then_ = λ a b c f g fine. g (f fine);
    starts = λ machine wsize turn old next new after s fine. same-fine old.attrs after.attrs (attrs-starts machine wsize turn old next new after s) fine;
    resumes = λ machine wsize turn old next new after s fine. same-fine old.attrs after.attrs (attrs-resumes machine wsize turn old next new after s) fine;
    takes = λ machine call wsize sent turn came old next new after on told link s fine.
        of-good after.attrs
        (attrs-takes Any most call sent turn came (λ reply is file attr shows lifetime. tt) machine wsize old next new after on.0.0 s
        (record { lives = fine.lives; all = λ k d lt. (tt, fine.short k d lt) }));
  }

-- ---- along the history

module _ (m : Mounted) (setup : Setup) (most : ℕ) (lasts : LastAtMost setup.lives most) where
  fresh-fine : (c : Attrs) → c ≡ nothing_learnt setup.lives → IsFine most c
  fresh-fine c is = subst (IsFine most) (sym is) (record {
    lives = record { reg_min = lasts.reg_min; reg_max = lasts.reg_max; dir_min = lasts.dir_min; dir_max = lasts.dir_max };
    short = All-nil (λ (e : List ℕ × KeptAttr). e.1.lifetime ≤ most);
  })

  fine-along : KeepsAlong (machine_of m) setup (λ h v. IsFine most v.shelf.attrs)
  fine-along = record {
    fresh = λ h v fresh. fresh-fine v.shelf.attrs fresh.attrs;
    stirs = λ h old new at k s fine. stirs-step m setup (λ (call : Call) (ms : ℕ) (reply : Reply). Unit {0}) (StaysFine most) (fine-steps most) h old new at k s fine;
    starts = λ h old new lane line op now r found k idle s fine. starts-step m setup (λ (call : Call) (ms : ℕ) (reply : Reply). Unit {0}) (StaysFine most) (fine-steps most) old new lane now op s fine;
    takes = λ h old new rec xid call at r found k waits place s fine.
        takes-step m setup (λ (call : Call) (ms : ℕ) (reply : Reply). Unit {0}) (StaysFine most) (fine-steps most) h old new rec xid at call r found waits place (λ made reply said. tt) s fine;
    answers = λ h old new at lane line answer k a fine. same-fine most old.shelf.attrs new.shelf.attrs (ap (λ (w : View). w.shelf.attrs) a.is) fine;
    same = λ h e old new lanes shelf calls fine. same-fine most old.shelf.attrs new.shelf.attrs (ap (λ (s : Shelf). s.attrs) shelf) fine;
  }

  passed-fine : (h : List Entry) (v : View) → Passes (machine_of m) setup h v → IsFine most v.shelf.attrs
  passed-fine h v p = (passed-along (machine_of m) (begins-unbegun m) setup (λ k w. IsFine most w.shelf.attrs) fine-along h v p).is

module _ (m : Mounted) (setup : Setup) (most : ℕ) (t : History) (lasts : LastAtMost setup.lives most) (lawful : Lawful t) (numbered : Numbered t.entries) where
  abbrev R : Shelf → Shelf → Type 0
  R old new = Learnt t most old.attrs new.attrs

  reached-fine : (h rest : List Entry) (v : View) → t.entries ≡ h ++ rest → Reaches (machine_of m) setup h v → IsFine most v.shelf.attrs
  reached-fine _ rest _ is (begins h v may up fresh) = fresh-fine m setup most lasts v.shelf.attrs fresh.attrs
  reached-fine _ rest _ is (goes h before v b e r same k) =
      let along : t.entries ≡ before ++ e ∷ rest = is ∙ ap (λ (l : List Entry). l ++ rest) same ∙ append_assoc before (e ∷ []) rest in
      (over-on m setup t lawful numbered R (attr-steps t most) before rest b v e along r k (reached-fine before (e ∷ rest) b along r)).0
  reached-fine _ rest _ is (loses h v b r shown same) = subst (λ (w : View). IsFine most w.shelf.attrs) (sym same) (reached-fine h rest b is r)

-- ---- each step

module _ (m : Mounted) (setup : Setup) (most : ℕ) (t : History) (lasts : LastAtMost setup.lives most) (lawful : Lawful t) where
  fine-at : (h rest : List Entry) (v : View) → t.entries ≡ h ++ rest → Reaches (machine_of m) setup h v → IsFine most v.shelf.attrs
  fine-at h rest v along r =
      reached-fine m setup most (until t h) lasts (lawful-until t h rest along lawful) (numbered-at m setup h v r) h [] v (sym (append-nil h)) r

  each-learnt : EachStep m setup t (λ (k : History) (old new : Shelf). Learnt k most old.attrs new.attrs)
  each-learnt = each-step m setup t lawful (λ (k : History) (old new : Shelf). Learnt k most old.attrs new.attrs) (λ k. attr-steps k most)

  attrs-each : EachStep m setup t (λ (k : History) (old new : Shelf). Learns k most old.attrs new.attrs)
  attrs-each = record {
    starts = λ h rest old new lane line op along r found idle k.
        (each-learnt.starts h rest old new lane line op along r found idle k (fine-at h (Began lane line op ∷ rest) old along r)).1;
    stirs = λ h rest old new at along p k. (each-learnt.stirs h rest old new at along p k (passed-fine m setup most lasts h old p)).1;
    takes = λ h rest old new fin rec xid at call along r found k named waits place s.
        (each-learnt.takes h rest old new fin rec xid at call along r found k named waits place s (fine-at h (Delivered rec ∷ rest) old along r)).1;
    over = λ h rest old new e along r k. (each-learnt.over h rest old new e along r k (fine-at h (e ∷ rest) old along r)).1;
  }

pub attrs-learnt : AttrsLearnt
attrs-learnt m setup most t lasts lawful = attrs-each m setup most t lasts lawful
