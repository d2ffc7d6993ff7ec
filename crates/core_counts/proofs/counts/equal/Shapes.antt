-- A call is one that some operation may ask for, by its shape, or it isn't.
use Rattle.core_counts.proofs.Prelude.{◌≡◌, ◌⊎◌, inl, inr, ℕ, nat_eq, Bool, true, false, List, Option, Some, None, refl, sym, ap, subst, ◌∙◌, eqb-true, eqb-false, Time, FileCall, Call}
use Rattle.nfs_types.specs.declared.set_attr.SetAttr.{SetAttr}
use Rattle.nfs_types.specs.declared.set_attr.SetTime.{SetTime}
use Rattle.nfs_types.specs.declared.set_attr.SetTime.TheVariants.{Keep, Server, Client}
use Rattle.nfs_dir_calls.specs.declared.call.DirCall.{DirCall}
use Rattle.nfs_dir_calls.specs.declared.call.DirCall.TheVariants as dirs
use Rattle.nfs_dir_calls.specs.declared.create.Making.{Making}
use Rattle.nfs_dir_calls.specs.declared.create.Making.TheVariants as makings
use Rattle.nfs_file_calls.specs.declared.call.FileCall.TheVariants as files
use Rattle.world_model.specs.declared.message.Call.TheVariants as calls
use Rattle.core_counts.proofs.counts.equal.Deeds.{Deed, call_of, like, access_of, cut_of, text_of, dir_of, sym_of, gone_of, unlink_of, name_of, link_of, loose_of, new_of, look_of, attr_of, read_of, like-self}

pub data Shape (call : Call) : Type 0 where
  shaped : (deed : Deed) → call ≡ call_of deed → Shape call
  unshaped : ((deed : Deed) → call ≡ call_of deed → ⊥) → Shape call

abbrev Decided : Type 0 → Type 0
Decided A = A ⊎ (A → ⊥)

-- ---- attributes to set

some-same : (x y : ℕ) → Some x ≡ Some y → x ≡ y
some-same x y e = cc

option-or : (a b : Option ℕ) → Decided (a ≡ b)
option-or None None = inl refl
option-or None (Some y) = inr (λ e. let no_way : None ≡ Some y = e in cc)
option-or (Some x) None = inr (λ e. let no_way : Some x ≡ None = e in cc)
option-or (Some x) (Some y) = by (nat_eq x y) refl
  where
    by : (b : Bool) → nat_eq x y ≡ b → Decided (Some x ≡ Some y)
    by true is = inl (ap (λ (n : ℕ). Some n) (eqb-true x y is))
    by false is = inr (λ e. eqb-false x y is (some-same x y e))

keep-or : (t : SetTime) → Decided (t ≡ Keep)
keep-or Keep = inl refl
keep-or Server = inr (λ e. let no_way : Server ≡ Keep = e in cc)
keep-or (Client time) = inr (λ e. let no_way : Client time ≡ Keep = e in cc)

guard-or : (guard : Option Time) → Decided (guard ≡ None)
guard-or None = inl refl
guard-or (Some time) = inr (λ e. let no_way : Some time ≡ None = e in cc)

-- the mode and the size alone
abbrev only : Option ℕ → Option ℕ → SetAttr
only mode size = record { mode = mode; uid = None; gid = None; size = size; atime = Keep; mtime = Keep }

record Fits (set : SetAttr) (its_mode its_size : Option ℕ) : Type 0 where
  mode : set.mode ≡ its_mode
  uid : set.uid ≡ None
  gid : set.gid ≡ None
  size : set.size ≡ its_size
  atime : set.atime ≡ Keep
  mtime : set.mtime ≡ Keep

fits-is : (set : SetAttr) (mode size : Option ℕ) → Fits set mode size → set ≡ only mode size
fits-is set mode size k =
    ap (λ (x : Option ℕ). record { mode = x; uid = set.uid; gid = set.gid; size = set.size; atime = set.atime; mtime = set.mtime }) k.mode
    ∙ ap (λ (x : Option ℕ). record { mode = mode; uid = x; gid = set.gid; size = set.size; atime = set.atime; mtime = set.mtime }) k.uid
    ∙ ap (λ (x : Option ℕ). record { mode = mode; uid = None; gid = x; size = set.size; atime = set.atime; mtime = set.mtime }) k.gid
    ∙ ap (λ (x : Option ℕ). record { mode = mode; uid = None; gid = None; size = x; atime = set.atime; mtime = set.mtime }) k.size
    ∙ ap (λ (x : SetTime). record { mode = mode; uid = None; gid = None; size = size; atime = x; mtime = set.mtime }) k.atime
    ∙ ap (λ (x : SetTime). record { mode = mode; uid = None; gid = None; size = size; atime = Keep; mtime = x }) k.mtime

is-fit : (set : SetAttr) (mode size : Option ℕ) → set ≡ only mode size → Fits set mode size
is-fit set mode size e = record {
  mode = ap (λ (s : SetAttr). s.mode) e;
  uid = ap (λ (s : SetAttr). s.uid) e;
  gid = ap (λ (s : SetAttr). s.gid) e;
  size = ap (λ (s : SetAttr). s.size) e;
  atime = ap (λ (s : SetAttr). s.atime) e;
  mtime = ap (λ (s : SetAttr). s.mtime) e;
}

set-or : (set : SetAttr) (mode size : Option ℕ) → Decided (set ≡ only mode size)
set-or set mode size = by (option-or set.mode mode) (option-or set.uid None) (option-or set.gid None) (option-or set.size size) (keep-or set.atime) (keep-or set.mtime)
  where
    by : Decided (set.mode ≡ mode) → Decided (set.uid ≡ None) → Decided (set.gid ≡ None) → Decided (set.size ≡ size) → Decided (set.atime ≡ Keep) → Decided (set.mtime ≡ Keep)
        → Decided (set ≡ only mode size)
    by (inl p) (inl q) (inl r) (inl s) (inl t) (inl u) = inl (fits-is set mode size (record { mode = p; uid = q; gid = r; size = s; atime = t; mtime = u }))
    by (inr none) q r s t u = inr (λ e. none (is-fit set mode size e).mode)
    by (inl p) (inr none) r s t u = inr (λ e. none (is-fit set mode size e).uid)
    by (inl p) (inl q) (inr none) s t u = inr (λ e. none (is-fit set mode size e).gid)
    by (inl p) (inl q) (inl r) (inr none) t u = inr (λ e. none (is-fit set mode size e).size)
    by (inl p) (inl q) (inl r) (inl s) (inr none) u = inr (λ e. none (is-fit set mode size e).atime)
    by (inl p) (inl q) (inl r) (inl s) (inl t) (inr none) = inr (λ e. none (is-fit set mode size e).mtime)

-- ---- what the calls set

abbrev set_in : Call → SetAttr
set_in (calls.File (files.SetAttr f set guard)) = set
set_in (calls.Dir (dirs.MkDir d name set)) = set
set_in (calls.Dir (dirs.SymLink d name set target)) = set
set_in (calls.Dir (dirs.Create d name (makings.Unchecked set))) = set
set_in (calls.Dir (dirs.Create d name (makings.Guarded set))) = set
set_in call = only None None

abbrev guard_in : Call → Option Time
guard_in (calls.File (files.SetAttr f set guard)) = guard
guard_in call = None

-- an operation's call has this shape, where it is of that procedure
abbrev Sets : Call → Call → Type 0
Sets (calls.File (files.SetAttr f set guard)) call = ((size : ℕ) × (set_in call ≡ only None (Some size))) × (guard_in call ≡ None)
Sets (calls.Dir (dirs.MkDir d name set)) call = set_in call ≡ only (Some 493) None
Sets (calls.Dir (dirs.SymLink d name set target)) call = set_in call ≡ only (Some 511) None
Sets (calls.Dir (dirs.Create d name (makings.Unchecked set))) call = set_in call ≡ only (Some 420) None
Sets (calls.Dir (dirs.Create d name (makings.Guarded set))) call = set_in call ≡ only (Some 420) None
Sets other call = Unit {0}

deed-sets : (deed : Deed) → Sets (call_of deed) (call_of deed)
deed-sets (access_of f bits) = tt
deed-sets (cut_of f size) = ((size, refl), refl)
deed-sets (text_of f) = tt
deed-sets (dir_of d name) = refl
deed-sets (sym_of d name target) = refl
deed-sets (gone_of d name) = tt
deed-sets (unlink_of d name) = tt
deed-sets (name_of d name to_d to) = tt
deed-sets (link_of f d name) = tt
deed-sets (loose_of d name) = refl
deed-sets (new_of d name) = refl
deed-sets (look_of d name) = tt
deed-sets (attr_of f) = tt
deed-sets (read_of f at count) = tt

sets-so : (call : Call) (deed : Deed) → call ≡ call_of deed → Sets call call
sets-so call deed is = subst (λ (c : Call). Sets c c) (sym is) (deed-sets deed)

-- ---- any call

-- one that is like no operation's
unlike : (call : Call) → ((deed : Deed) → like call deed ≡ false) → Shape call
unlike call none = unshaped (λ deed is. apart deed (sym (subst (λ (c : Call). like c deed ≡ true) (sym is) (like-self deed)) ∙ none deed))
  where
    apart : (deed : Deed) → true ≡ false → ⊥
    apart deed e = let no_way : true ≡ false = e in cc

cut-shape : (f : List ℕ) (set : SetAttr) (guard : Option Time) → Shape (calls.File (files.SetAttr f set guard))
cut-shape f set guard = by set.size refl
  where
    with-size : (size : ℕ) → Decided (set ≡ only None (Some size)) → Decided (guard ≡ None) → set.size ≡ Some size → Shape (calls.File (files.SetAttr f set guard))
    with-size size (inl sets) (inl free) is = shaped (cut_of f size) (ap (λ (s : SetAttr). calls.File (files.SetAttr f s guard)) sets ∙ ap (λ (g : Option Time). calls.File (files.SetAttr f (only None (Some size)) g)) free)
    with-size size (inr none) free is = unshaped (λ deed same. none (as-size (sets-so (calls.File (files.SetAttr f set guard)) deed same).0))
      where
        as-size : ((n : ℕ) × (set ≡ only None (Some n))) → set ≡ only None (Some size)
        as-size k = k.1 ∙ ap (λ (o : Option ℕ). only None o) (sym (ap (λ (s : SetAttr). s.size) k.1) ∙ is)
    with-size size (inl sets) (inr guarded) is = unshaped (λ deed same. guarded (sets-so (calls.File (files.SetAttr f set guard)) deed same).1)

    by : (o : Option ℕ) → set.size ≡ o → Shape (calls.File (files.SetAttr f set guard))
    by (Some size) is = with-size size (set-or set None (Some size)) (guard-or guard) is
    by None is = unshaped (λ deed same. no-size (sets-so (calls.File (files.SetAttr f set guard)) deed same).0)
      where
        no-size : ((n : ℕ) × (set ≡ only None (Some n))) → ⊥
        no-size k = let no_way : None ≡ Some k.0 = sym is ∙ ap (λ (s : SetAttr). s.size) k.1 in cc

dir-shape : (d name : List ℕ) (set : SetAttr) → Decided (set ≡ only (Some 493) None) → Shape (calls.Dir (dirs.MkDir d name set))
dir-shape d name set (inl sets) = shaped (dir_of d name) (ap (λ (s : SetAttr). calls.Dir (dirs.MkDir d name s)) sets)
dir-shape d name set (inr none) = unshaped (λ deed same. none (sets-so (calls.Dir (dirs.MkDir d name set)) deed same))

sym-shape : (d name : List ℕ) (set : SetAttr) (target : List ℕ) → Decided (set ≡ only (Some 511) None) → Shape (calls.Dir (dirs.SymLink d name set target))
sym-shape d name set target (inl sets) = shaped (sym_of d name target) (ap (λ (s : SetAttr). calls.Dir (dirs.SymLink d name s target)) sets)
sym-shape d name set target (inr none) = unshaped (λ deed same. none (sets-so (calls.Dir (dirs.SymLink d name set target)) deed same))

loose-shape : (d name : List ℕ) (set : SetAttr) → Decided (set ≡ only (Some 420) None) → Shape (calls.Dir (dirs.Create d name (makings.Unchecked set)))
loose-shape d name set (inl sets) = shaped (loose_of d name) (ap (λ (s : SetAttr). calls.Dir (dirs.Create d name (makings.Unchecked s))) sets)
loose-shape d name set (inr none) = unshaped (λ deed same. none (sets-so (calls.Dir (dirs.Create d name (makings.Unchecked set))) deed same))

new-shape : (d name : List ℕ) (set : SetAttr) → Decided (set ≡ only (Some 420) None) → Shape (calls.Dir (dirs.Create d name (makings.Guarded set)))
new-shape d name set (inl sets) = shaped (new_of d name) (ap (λ (s : SetAttr). calls.Dir (dirs.Create d name (makings.Guarded s))) sets)
new-shape d name set (inr none) = unshaped (λ deed same. none (sets-so (calls.Dir (dirs.Create d name (makings.Guarded set))) deed same))

make-shape : (d name : List ℕ) (making : Making) → Shape (calls.Dir (dirs.Create d name making))
make-shape d name (makings.Unchecked set) = loose-shape d name set (set-or set (Some 420) None)
make-shape d name (makings.Guarded set) = new-shape d name set (set-or set (Some 420) None)
make-shape d name (makings.Exclusive verf) = unlike (calls.Dir (dirs.Create d name (makings.Exclusive verf))) (λ deed. refl)

file-shape : (call : FileCall) → Shape (calls.File call)
file-shape files.Null = unlike (calls.File files.Null) (λ deed. refl)
file-shape (files.GetAttr f) = shaped (attr_of f) refl
file-shape (files.SetAttr f set guard) = cut-shape f set guard
file-shape (files.Access f bits) = shaped (access_of f bits) refl
file-shape (files.Read f at count) = shaped (read_of f at count) refl
file-shape (files.Write f at how bytes) = unlike (calls.File (files.Write f at how bytes)) (λ deed. refl)
file-shape (files.FsStat f) = unlike (calls.File (files.FsStat f)) (λ deed. refl)
file-shape (files.FsInfo f) = unlike (calls.File (files.FsInfo f)) (λ deed. refl)
file-shape (files.PathConf f) = unlike (calls.File (files.PathConf f)) (λ deed. refl)
file-shape (files.Commit f at count) = unlike (calls.File (files.Commit f at count)) (λ deed. refl)

named-shape : (call : DirCall) → Shape (calls.Dir call)
named-shape (dirs.Lookup d name) = shaped (look_of d name) refl
named-shape (dirs.ReadLink f) = shaped (text_of f) refl
named-shape (dirs.Create d name making) = make-shape d name making
named-shape (dirs.MkDir d name set) = dir-shape d name set (set-or set (Some 493) None)
named-shape (dirs.SymLink d name set target) = sym-shape d name set target (set-or set (Some 511) None)
named-shape (dirs.MkNod d name node) = unlike (calls.Dir (dirs.MkNod d name node)) (λ deed. refl)
named-shape (dirs.Remove d name) = shaped (unlink_of d name) refl
named-shape (dirs.RmDir d name) = shaped (gone_of d name) refl
named-shape (dirs.Rename d name to_d to) = shaped (name_of d name to_d to) refl
named-shape (dirs.Link f d name) = shaped (link_of f d name) refl
named-shape (dirs.ReadDir d cookie verf count) = unlike (calls.Dir (dirs.ReadDir d cookie verf count)) (λ deed. refl)
named-shape (dirs.ReadDirPlus d cookie verf dircount maxcount) = unlike (calls.Dir (dirs.ReadDirPlus d cookie verf dircount maxcount)) (λ deed. refl)

pub shape : (call : Call) → Shape call
shape (calls.File call) = file-shape call
shape (calls.Dir call) = named-shape call
shape (calls.Mount call) = unlike (calls.Mount call) (λ deed. refl)
