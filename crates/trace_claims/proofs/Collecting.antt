-- The changes by other clients, put into a list one after another.
use Rattle.std.proofs.Common.{◌≡◌, ◌+◌, inl, inr, ℕ, List, [], ◌∷◌, ◌++◌, append-nil, length, Option, Some, None, slice_get, refl, sym, ◌∙◌, ap, subst, arith}
use Rattle.std.proofs.lemmas.Bool.{cases_lt}
use Rattle.std.proofs.lemmas.Option.{slice_get_within}
use Rattle.nfs_dir_calls.specs.declared.call.DirCall.{DirCall}
use Rattle.world_model.specs.declared.entry.Entry.{Entry}
use Rattle.world_model.specs.declared.entry.Entry.TheVariants.{Foreign}
use Rattle.world_model.specs.declared.message.Call.{Call}
use Rattle.world_model.specs.declared.message.Call.TheVariants as calls
use Rattle.world_model.specs.declared.message.Reply.{Reply}
use Rattle.world_model.specs.Entries.{At}
use Rattle.trace_data.specs.declared.trace.DirEntry.{DirEntry}
use Rattle.trace_data.specs.declared.trace.Trace.{Trace}
use Rattle.trace_claims.specs.declared.changes.Made.{Made}
use Rattle.trace_claims.specs.declared.touched.Foreign as changed
use Rattle.trace_claims.specs.Changes.{made_by, listed_at, cut_of, change_list, Adds, NamedCut, AddsNamed, MadeCut, CallMakes, EntryMakes, AddsChanges, by_file, by_making, ChangesSo, ChangesUpTo}
use Rattle.trace_claims.proofs.Listing.{get-last, get-grow, get-new, get-same}

some-change : (a b : changed.Foreign) → Some a ≡ Some b → a ≡ b
some-change a b e = cc

-- a list with one change more, or none
pub adds-found : (found : Option changed.Foreign) (ls : List changed.Foreign) → Adds (λ x. found ≡ Some x) ls (ls ++ change_list found)
adds-found None ls = subst (λ (l : List changed.Foreign). Adds (λ x. None ≡ Some x) ls l) (sym (append-nil ls)) (record { before = λ i x at. at; each = λ i x at. inl at; every = λ x e. absurd cc })
adds-found (Some y) ls = record {
  before = λ i x at. get-grow ls y i x at;
  each = λ i x at. elim (get-last ls y i x at) [
    | inl was ↦ inl was
    | inr e ↦ inr (ap (λ z. Some z) e)
  ];
  every = λ x e. (length ls, subst (λ (z : changed.Foreign). slice_get (ls ++ y ∷ []) (length ls) ≡ Some z) (some-change y x e) (get-new ls y));
}

pub adds-nothing : (P : changed.Foreign → Type 0) (ls : List changed.Foreign) → ((x : changed.Foreign) → P x → ⊥) → Adds P ls ls
adds-nothing P ls none = record { before = λ i x at. at; each = λ i x at. inl at; every = λ x p. absurd (none x p) }

pub adds-like : (P Q : changed.Foreign → Type 0) (old new : List changed.Foreign) → ((x : changed.Foreign) → P x → Q x) → ((x : changed.Foreign) → Q x → P x) → Adds P old new → Adds Q old new
adds-like P Q old new to back adds = record {
  before = adds.before;
  each = λ i x at. elim (adds.each i x at) [
    | inl was ↦ inl was
    | inr p ↦ inr (to x p)
  ];
  every = λ x q. adds.every x (back x q);
}

-- names, one after another
pub named-none : (listed : List DirEntry) (n : ℕ) (made : Made) (ls : List changed.Foreign) → AddsNamed listed n made 0 ls ls
named-none listed n made ls = adds-nothing (NamedCut listed n made 0) ls (λ x p. let lt = p.2 in omega (arith, lt))

pub named-more : (listed : List DirEntry) (n : ℕ) (made : Made) (k : ℕ) (e : DirEntry) (found : Option changed.Foreign) (old mid : List changed.Foreign) → slice_get listed k ≡ Some e → found ≡ cut_of e n made → AddsNamed listed n made k old mid
    → AddsNamed listed n made (k + 1) old (mid ++ change_list found)
named-more listed n made k e found old mid at is so-far =
    let one = adds-found found mid in
    record {
      before = λ i x was. one.before i x (so-far.before i x was);
      each = λ i x there. elim (one.each i x there) [
        | inl was ↦ elim (so-far.each i x was) [
          | inl older ↦ inl older
          | inr p ↦ let low = p.2 in inr (p.0, p.1, omega (arith, low), p.3, p.4)
        ]
        | inr p ↦ inr (k, e, omega arith, at, sym is ∙ p)
      ];
      every = λ x p. elim (cases_lt p.0 k) [
        | inl before ↦ let it = so-far.every x (p.0, p.1, before, p.3, p.4) in (it.0, one.before it.0 x it.1)
        | inr le ↦
            let lt = p.2 in
            let same = get-same listed k e p.1 at (subst (λ (z : ℕ). slice_get listed z ≡ Some p.1) (let s : p.0 ≡ k = omega (arith, le, lt) in s) p.3) in
            one.every x (is ∙ ap (λ (z : DirEntry). cut_of z n made) same ∙ p.4)
      ];
    }

-- entries, one after another
pub changes-none : (t : Trace) → ChangesUpTo t 0 []
changes-none t = record { each = λ i x at. absurd cc; every = λ n x lt so. absurd (omega (arith, lt)) }

foreign-is : (t : Trace) (n : ℕ) (e : Entry) (call : Call) (reply : Reply) → At t.entries.items n e → e ≡ Foreign call reply → At t.entries.items n (Foreign call reply)
foreign-is t n e call reply at is = at ∙ ap (λ (z : Entry). Some z) is

makes-told : (t : Trace) (n : ℕ) (e : Entry) (x : changed.Foreign) → At t.entries.items n e → EntryMakes t e n (n + 1) x → ChangesSo t n x
makes-told t n e x at m = by m.call (foreign-is t n e m.call m.reply at m.is) m.makes
  where
    made : (call : DirCall) (o : Option Made) → made_by call m.reply ≡ o → At t.entries.items n (Foreign (calls.Dir call) m.reply) → MadeCut t o n (n + 1) x → ChangesSo t n x
    made call None is at p = absurd p
    made call (Some it) is at p = by_making call m.reply it p.0 p.1 at is p.3 p.4

    by : (call : Call) → At t.entries.items n (Foreign call m.reply) → CallMakes t call m.reply n (n + 1) x → ChangesSo t n x
    by (calls.File call) at p = by_file call m.reply at p
    by (calls.Dir call) at p = made call (made_by call m.reply) refl at p
    by (calls.Mount call) at p = absurd p

some-entry : (a b : Entry) → Some a ≡ Some b → a ≡ b
some-entry a b e = cc

makes-shown : (t : Trace) (n : ℕ) (e : Entry) (x : changed.Foreign) → At t.entries.items n e → ChangesSo t n x → EntryMakes t e n (n + 1) x
makes-shown t n e x at (by_file call reply there is) = record { call = calls.File call; reply = reply; is = some-entry e (Foreign (calls.File call) reply) (sym at ∙ there); makes = is }
makes-shown t n e x at (by_making call reply made j d there is got cut) = record {
  call = calls.Dir call;
  reply = reply;
  is = some-entry e (Foreign (calls.Dir call) reply) (sym at ∙ there);
  makes = subst (λ (o : Option Made). MadeCut t o n (n + 1) x) (sym is) (j, d, slice_get_within (listed_at t (n + 1) made.dir) j d got, got, cut);
}

pub changes-more : (t : Trace) (k : ℕ) (e : Entry) (old new : List changed.Foreign) → At t.entries.items k e → AddsChanges t e k (k + 1) old new → ChangesUpTo t k old → ChangesUpTo t (k + 1) new
changes-more t k e old new at adds so-far = record {
  each = λ i x there. elim (adds.each i x there) [
    | inl was ↦ let it = so-far.each i x was in let low = it.1 in (it.0, omega (arith, low), it.2)
    | inr m ↦ (k, omega arith, makes-told t k e x at m)
  ];
  every = λ n x lt so. elim (cases_lt n k) [
    | inl before ↦ let it = so-far.every n x before so in (it.0, adds.before it.0 x it.1)
    | inr le ↦ adds.every x (makes-shown t k e x at (subst (λ (z : ℕ). ChangesSo t z x) (let s : n ≡ k = omega (arith, le, lt) in s) so))
  ];
}
