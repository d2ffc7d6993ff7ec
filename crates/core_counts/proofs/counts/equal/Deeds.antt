-- The calls that operations ask for, one by one, and whether a call is one of them.
use Rattle.core_counts.proofs.Prelude.{◌≡◌, ◌&&◌, ℕ, nat_eq, Bool, true, false, List, Option, Some, None, refl, ap, ◌∙◌, eqb-true, eq-eqb, Call}
use Rattle.nfs_dir_calls.specs.declared.call.DirCall.TheVariants as dirs
use Rattle.nfs_dir_calls.specs.declared.create.Making.TheVariants as makings
use Rattle.nfs_file_calls.specs.declared.call.FileCall.TheVariants as files
use Rattle.world_model.specs.declared.message.Call.TheVariants as calls
use Rattle.claims.specs.Asks as a
use Rattle.core_counts.proofs.counts.engine.Decided.{same_list, first-of, second-of, both-of, list-is, list-same}

-- ---- the call, apart

pub data Deed : Type 0 where
  access_of : (f : List ℕ) (bits : ℕ) → Deed
  cut_of : (f : List ℕ) (size : ℕ) → Deed
  text_of : (f : List ℕ) → Deed
  dir_of : (d : List ℕ) (name : List ℕ) → Deed
  sym_of : (d : List ℕ) (name : List ℕ) (target : List ℕ) → Deed
  gone_of : (d : List ℕ) (name : List ℕ) → Deed
  unlink_of : (d : List ℕ) (name : List ℕ) → Deed
  name_of : (d : List ℕ) (name : List ℕ) (to_d : List ℕ) (to : List ℕ) → Deed
  link_of : (f : List ℕ) (d : List ℕ) (name : List ℕ) → Deed
  loose_of : (d : List ℕ) (name : List ℕ) → Deed
  new_of : (d : List ℕ) (name : List ℕ) → Deed
  look_of : (d : List ℕ) (name : List ℕ) → Deed
  attr_of : (f : List ℕ) → Deed
  read_of : (f : List ℕ) (at : ℕ) (count : ℕ) → Deed

abbrev pub call_of : Deed → Call
call_of (access_of f bits) = calls.File (files.Access f bits)
call_of (cut_of f size) = calls.File (files.SetAttr f (a.only_size size) None)
call_of (text_of f) = calls.Dir (dirs.ReadLink f)
call_of (dir_of d name) = calls.Dir (dirs.MkDir d name (a.only_mode 493))
call_of (sym_of d name target) = calls.Dir (dirs.SymLink d name (a.only_mode 511) target)
call_of (gone_of d name) = calls.Dir (dirs.RmDir d name)
call_of (unlink_of d name) = calls.Dir (dirs.Remove d name)
call_of (name_of d name to_d to) = calls.Dir (dirs.Rename d name to_d to)
call_of (link_of f d name) = calls.Dir (dirs.Link f d name)
call_of (loose_of d name) = a.create_unchecked d name
call_of (new_of d name) = a.create_guarded d name
call_of (look_of d name) = a.look_up d name
call_of (attr_of f) = calls.File (files.GetAttr f)
call_of (read_of f at count) = calls.File (files.Read f at count)

pub no-way : (R : Type 0) → false ≡ true → R
no-way R e = absurd (cc)

abbrev pub same_some : Option ℕ → ℕ → Bool
same_some None n = false
same_some (Some k) n = nat_eq k n

abbrev pub is_access_of : List ℕ → ℕ → Deed → Bool
is_access_of p q (access_of f bits) = same_list p f && (nat_eq q bits)
is_access_of p q deed = false

abbrev pub is_cut_of : List ℕ → Option ℕ → Deed → Bool
is_cut_of p q (cut_of f size) = same_list p f && (same_some q size)
is_cut_of p q deed = false

abbrev pub is_text_of : List ℕ → Deed → Bool
is_text_of p (text_of f) = same_list p f
is_text_of p deed = false

abbrev pub is_dir_of : List ℕ → List ℕ → Deed → Bool
is_dir_of p q (dir_of d name) = same_list p d && (same_list q name)
is_dir_of p q deed = false

abbrev pub is_sym_of : List ℕ → List ℕ → List ℕ → Deed → Bool
is_sym_of p q r (sym_of d name target) = same_list p d && (same_list q name && (same_list r target))
is_sym_of p q r deed = false

abbrev pub is_gone_of : List ℕ → List ℕ → Deed → Bool
is_gone_of p q (gone_of d name) = same_list p d && (same_list q name)
is_gone_of p q deed = false

abbrev pub is_unlink_of : List ℕ → List ℕ → Deed → Bool
is_unlink_of p q (unlink_of d name) = same_list p d && (same_list q name)
is_unlink_of p q deed = false

abbrev pub is_name_of : List ℕ → List ℕ → List ℕ → List ℕ → Deed → Bool
is_name_of p q r s (name_of d name to_d to) = same_list p d && (same_list q name && (same_list r to_d && (same_list s to)))
is_name_of p q r s deed = false

abbrev pub is_link_of : List ℕ → List ℕ → List ℕ → Deed → Bool
is_link_of p q r (link_of f d name) = same_list p f && (same_list q d && (same_list r name))
is_link_of p q r deed = false

abbrev pub is_loose_of : List ℕ → List ℕ → Deed → Bool
is_loose_of p q (loose_of d name) = same_list p d && (same_list q name)
is_loose_of p q deed = false

abbrev pub is_new_of : List ℕ → List ℕ → Deed → Bool
is_new_of p q (new_of d name) = same_list p d && (same_list q name)
is_new_of p q deed = false

abbrev pub is_look_of : List ℕ → List ℕ → Deed → Bool
is_look_of p q (look_of d name) = same_list p d && (same_list q name)
is_look_of p q deed = false

abbrev pub is_attr_of : List ℕ → Deed → Bool
is_attr_of p (attr_of f) = same_list p f
is_attr_of p deed = false

abbrev pub is_read_of : List ℕ → ℕ → ℕ → Deed → Bool
is_read_of p q r (read_of f at count) = same_list p f && (nat_eq q at && (nat_eq r count))
is_read_of p q r deed = false

abbrev pub like : Call → Deed → Bool
like (calls.File (files.Access p q)) deed = is_access_of p q deed
like (calls.File (files.SetAttr p set guard)) deed = is_cut_of p set.size deed
like (calls.Dir (dirs.ReadLink p)) deed = is_text_of p deed
like (calls.Dir (dirs.MkDir p q set)) deed = is_dir_of p q deed
like (calls.Dir (dirs.SymLink p q set r)) deed = is_sym_of p q r deed
like (calls.Dir (dirs.RmDir p q)) deed = is_gone_of p q deed
like (calls.Dir (dirs.Remove p q)) deed = is_unlink_of p q deed
like (calls.Dir (dirs.Rename p q r s)) deed = is_name_of p q r s deed
like (calls.Dir (dirs.Link p q r)) deed = is_link_of p q r deed
like (calls.Dir (dirs.Create p q (makings.Unchecked set))) deed = is_loose_of p q deed
like (calls.Dir (dirs.Create p q (makings.Guarded set))) deed = is_new_of p q deed
like (calls.Dir (dirs.Lookup p q)) deed = is_look_of p q deed
like (calls.File (files.GetAttr p)) deed = is_attr_of p deed
like (calls.File (files.Read p q r)) deed = is_read_of p q r deed
like call deed = false

-- a call of an operation that is like it is the call

pub one-access-of : (p : List ℕ) (q : ℕ) (deed : Deed) → is_access_of p q deed ≡ true → calls.File (files.Access p q) ≡ call_of deed
one-access-of p q (access_of f bits) e =
    let e0 = first-of (same_list p f) (nat_eq q bits) e in
    let r0 = second-of (same_list p f) (nat_eq q bits) e in
    let e1 = r0 in
    ap (λ (o : List ℕ). calls.File (files.Access o q)) (list-is p f e0)
    ∙ ap (λ (o : ℕ). calls.File (files.Access f o)) (eqb-true q bits e1)
one-access-of p q (cut_of f_ size_) e = no-way _ e
one-access-of p q (text_of f_) e = no-way _ e
one-access-of p q (dir_of d_ name_) e = no-way _ e
one-access-of p q (sym_of d_ name_ target_) e = no-way _ e
one-access-of p q (gone_of d_ name_) e = no-way _ e
one-access-of p q (unlink_of d_ name_) e = no-way _ e
one-access-of p q (name_of d_ name_ to_d_ to_) e = no-way _ e
one-access-of p q (link_of f_ d_ name_) e = no-way _ e
one-access-of p q (loose_of d_ name_) e = no-way _ e
one-access-of p q (new_of d_ name_) e = no-way _ e
one-access-of p q (look_of d_ name_) e = no-way _ e
one-access-of p q (attr_of f_) e = no-way _ e
one-access-of p q (read_of f_ at_ count_) e = no-way _ e

pub one-cut-of : (p : List ℕ) (q : ℕ) (deed : Deed) → is_cut_of p (Some q) deed ≡ true → calls.File (files.SetAttr p (a.only_size q) None) ≡ call_of deed
one-cut-of p q (access_of f_ bits_) e = no-way _ e
one-cut-of p q (cut_of f size) e =
    let e0 = first-of (same_list p f) (nat_eq q size) e in
    let r0 = second-of (same_list p f) (nat_eq q size) e in
    let e1 = r0 in
    ap (λ (o : List ℕ). calls.File (files.SetAttr o (a.only_size q) None)) (list-is p f e0)
    ∙ ap (λ (o : ℕ). calls.File (files.SetAttr f (a.only_size o) None)) (eqb-true q size e1)
one-cut-of p q (text_of f_) e = no-way _ e
one-cut-of p q (dir_of d_ name_) e = no-way _ e
one-cut-of p q (sym_of d_ name_ target_) e = no-way _ e
one-cut-of p q (gone_of d_ name_) e = no-way _ e
one-cut-of p q (unlink_of d_ name_) e = no-way _ e
one-cut-of p q (name_of d_ name_ to_d_ to_) e = no-way _ e
one-cut-of p q (link_of f_ d_ name_) e = no-way _ e
one-cut-of p q (loose_of d_ name_) e = no-way _ e
one-cut-of p q (new_of d_ name_) e = no-way _ e
one-cut-of p q (look_of d_ name_) e = no-way _ e
one-cut-of p q (attr_of f_) e = no-way _ e
one-cut-of p q (read_of f_ at_ count_) e = no-way _ e

pub one-text-of : (p : List ℕ) (deed : Deed) → is_text_of p deed ≡ true → calls.Dir (dirs.ReadLink p) ≡ call_of deed
one-text-of p (access_of f_ bits_) e = no-way _ e
one-text-of p (cut_of f_ size_) e = no-way _ e
one-text-of p (text_of f) e =
    let e0 = e in
    ap (λ (o : List ℕ). calls.Dir (dirs.ReadLink o)) (list-is p f e0)
one-text-of p (dir_of d_ name_) e = no-way _ e
one-text-of p (sym_of d_ name_ target_) e = no-way _ e
one-text-of p (gone_of d_ name_) e = no-way _ e
one-text-of p (unlink_of d_ name_) e = no-way _ e
one-text-of p (name_of d_ name_ to_d_ to_) e = no-way _ e
one-text-of p (link_of f_ d_ name_) e = no-way _ e
one-text-of p (loose_of d_ name_) e = no-way _ e
one-text-of p (new_of d_ name_) e = no-way _ e
one-text-of p (look_of d_ name_) e = no-way _ e
one-text-of p (attr_of f_) e = no-way _ e
one-text-of p (read_of f_ at_ count_) e = no-way _ e

pub one-dir-of : (p : List ℕ) (q : List ℕ) (deed : Deed) → is_dir_of p q deed ≡ true → calls.Dir (dirs.MkDir p q (a.only_mode 493)) ≡ call_of deed
one-dir-of p q (access_of f_ bits_) e = no-way _ e
one-dir-of p q (cut_of f_ size_) e = no-way _ e
one-dir-of p q (text_of f_) e = no-way _ e
one-dir-of p q (dir_of d name) e =
    let e0 = first-of (same_list p d) (same_list q name) e in
    let r0 = second-of (same_list p d) (same_list q name) e in
    let e1 = r0 in
    ap (λ (o : List ℕ). calls.Dir (dirs.MkDir o q (a.only_mode 493))) (list-is p d e0)
    ∙ ap (λ (o : List ℕ). calls.Dir (dirs.MkDir d o (a.only_mode 493))) (list-is q name e1)
one-dir-of p q (sym_of d_ name_ target_) e = no-way _ e
one-dir-of p q (gone_of d_ name_) e = no-way _ e
one-dir-of p q (unlink_of d_ name_) e = no-way _ e
one-dir-of p q (name_of d_ name_ to_d_ to_) e = no-way _ e
one-dir-of p q (link_of f_ d_ name_) e = no-way _ e
one-dir-of p q (loose_of d_ name_) e = no-way _ e
one-dir-of p q (new_of d_ name_) e = no-way _ e
one-dir-of p q (look_of d_ name_) e = no-way _ e
one-dir-of p q (attr_of f_) e = no-way _ e
one-dir-of p q (read_of f_ at_ count_) e = no-way _ e

pub one-sym-of : (p : List ℕ) (q : List ℕ) (r : List ℕ) (deed : Deed) → is_sym_of p q r deed ≡ true → calls.Dir (dirs.SymLink p q (a.only_mode 511) r) ≡ call_of deed
one-sym-of p q r (access_of f_ bits_) e = no-way _ e
one-sym-of p q r (cut_of f_ size_) e = no-way _ e
one-sym-of p q r (text_of f_) e = no-way _ e
one-sym-of p q r (dir_of d_ name_) e = no-way _ e
one-sym-of p q r (sym_of d name target) e =
    let e0 = first-of (same_list p d) (same_list q name && (same_list r target)) e in
    let r0 = second-of (same_list p d) (same_list q name && (same_list r target)) e in
    let e1 = first-of (same_list q name) (same_list r target) r0 in
    let r1 = second-of (same_list q name) (same_list r target) r0 in
    let e2 = r1 in
    ap (λ (o : List ℕ). calls.Dir (dirs.SymLink o q (a.only_mode 511) r)) (list-is p d e0)
    ∙ ap (λ (o : List ℕ). calls.Dir (dirs.SymLink d o (a.only_mode 511) r)) (list-is q name e1)
    ∙ ap (λ (o : List ℕ). calls.Dir (dirs.SymLink d name (a.only_mode 511) o)) (list-is r target e2)
one-sym-of p q r (gone_of d_ name_) e = no-way _ e
one-sym-of p q r (unlink_of d_ name_) e = no-way _ e
one-sym-of p q r (name_of d_ name_ to_d_ to_) e = no-way _ e
one-sym-of p q r (link_of f_ d_ name_) e = no-way _ e
one-sym-of p q r (loose_of d_ name_) e = no-way _ e
one-sym-of p q r (new_of d_ name_) e = no-way _ e
one-sym-of p q r (look_of d_ name_) e = no-way _ e
one-sym-of p q r (attr_of f_) e = no-way _ e
one-sym-of p q r (read_of f_ at_ count_) e = no-way _ e

pub one-gone-of : (p : List ℕ) (q : List ℕ) (deed : Deed) → is_gone_of p q deed ≡ true → calls.Dir (dirs.RmDir p q) ≡ call_of deed
one-gone-of p q (access_of f_ bits_) e = no-way _ e
one-gone-of p q (cut_of f_ size_) e = no-way _ e
one-gone-of p q (text_of f_) e = no-way _ e
one-gone-of p q (dir_of d_ name_) e = no-way _ e
one-gone-of p q (sym_of d_ name_ target_) e = no-way _ e
one-gone-of p q (gone_of d name) e =
    let e0 = first-of (same_list p d) (same_list q name) e in
    let r0 = second-of (same_list p d) (same_list q name) e in
    let e1 = r0 in
    ap (λ (o : List ℕ). calls.Dir (dirs.RmDir o q)) (list-is p d e0)
    ∙ ap (λ (o : List ℕ). calls.Dir (dirs.RmDir d o)) (list-is q name e1)
one-gone-of p q (unlink_of d_ name_) e = no-way _ e
one-gone-of p q (name_of d_ name_ to_d_ to_) e = no-way _ e
one-gone-of p q (link_of f_ d_ name_) e = no-way _ e
one-gone-of p q (loose_of d_ name_) e = no-way _ e
one-gone-of p q (new_of d_ name_) e = no-way _ e
one-gone-of p q (look_of d_ name_) e = no-way _ e
one-gone-of p q (attr_of f_) e = no-way _ e
one-gone-of p q (read_of f_ at_ count_) e = no-way _ e

pub one-unlink-of : (p : List ℕ) (q : List ℕ) (deed : Deed) → is_unlink_of p q deed ≡ true → calls.Dir (dirs.Remove p q) ≡ call_of deed
one-unlink-of p q (access_of f_ bits_) e = no-way _ e
one-unlink-of p q (cut_of f_ size_) e = no-way _ e
one-unlink-of p q (text_of f_) e = no-way _ e
one-unlink-of p q (dir_of d_ name_) e = no-way _ e
one-unlink-of p q (sym_of d_ name_ target_) e = no-way _ e
one-unlink-of p q (gone_of d_ name_) e = no-way _ e
one-unlink-of p q (unlink_of d name) e =
    let e0 = first-of (same_list p d) (same_list q name) e in
    let r0 = second-of (same_list p d) (same_list q name) e in
    let e1 = r0 in
    ap (λ (o : List ℕ). calls.Dir (dirs.Remove o q)) (list-is p d e0)
    ∙ ap (λ (o : List ℕ). calls.Dir (dirs.Remove d o)) (list-is q name e1)
one-unlink-of p q (name_of d_ name_ to_d_ to_) e = no-way _ e
one-unlink-of p q (link_of f_ d_ name_) e = no-way _ e
one-unlink-of p q (loose_of d_ name_) e = no-way _ e
one-unlink-of p q (new_of d_ name_) e = no-way _ e
one-unlink-of p q (look_of d_ name_) e = no-way _ e
one-unlink-of p q (attr_of f_) e = no-way _ e
one-unlink-of p q (read_of f_ at_ count_) e = no-way _ e

pub one-name-of : (p : List ℕ) (q : List ℕ) (r : List ℕ) (s : List ℕ) (deed : Deed) → is_name_of p q r s deed ≡ true → calls.Dir (dirs.Rename p q r s) ≡ call_of deed
one-name-of p q r s (access_of f_ bits_) e = no-way _ e
one-name-of p q r s (cut_of f_ size_) e = no-way _ e
one-name-of p q r s (text_of f_) e = no-way _ e
one-name-of p q r s (dir_of d_ name_) e = no-way _ e
one-name-of p q r s (sym_of d_ name_ target_) e = no-way _ e
one-name-of p q r s (gone_of d_ name_) e = no-way _ e
one-name-of p q r s (unlink_of d_ name_) e = no-way _ e
one-name-of p q r s (name_of d name to_d to) e =
    let e0 = first-of (same_list p d) (same_list q name && (same_list r to_d && (same_list s to))) e in
    let r0 = second-of (same_list p d) (same_list q name && (same_list r to_d && (same_list s to))) e in
    let e1 = first-of (same_list q name) (same_list r to_d && (same_list s to)) r0 in
    let r1 = second-of (same_list q name) (same_list r to_d && (same_list s to)) r0 in
    let e2 = first-of (same_list r to_d) (same_list s to) r1 in
    let r2 = second-of (same_list r to_d) (same_list s to) r1 in
    let e3 = r2 in
    ap (λ (o : List ℕ). calls.Dir (dirs.Rename o q r s)) (list-is p d e0)
    ∙ ap (λ (o : List ℕ). calls.Dir (dirs.Rename d o r s)) (list-is q name e1)
    ∙ ap (λ (o : List ℕ). calls.Dir (dirs.Rename d name o s)) (list-is r to_d e2)
    ∙ ap (λ (o : List ℕ). calls.Dir (dirs.Rename d name to_d o)) (list-is s to e3)
one-name-of p q r s (link_of f_ d_ name_) e = no-way _ e
one-name-of p q r s (loose_of d_ name_) e = no-way _ e
one-name-of p q r s (new_of d_ name_) e = no-way _ e
one-name-of p q r s (look_of d_ name_) e = no-way _ e
one-name-of p q r s (attr_of f_) e = no-way _ e
one-name-of p q r s (read_of f_ at_ count_) e = no-way _ e

pub one-link-of : (p : List ℕ) (q : List ℕ) (r : List ℕ) (deed : Deed) → is_link_of p q r deed ≡ true → calls.Dir (dirs.Link p q r) ≡ call_of deed
one-link-of p q r (access_of f_ bits_) e = no-way _ e
one-link-of p q r (cut_of f_ size_) e = no-way _ e
one-link-of p q r (text_of f_) e = no-way _ e
one-link-of p q r (dir_of d_ name_) e = no-way _ e
one-link-of p q r (sym_of d_ name_ target_) e = no-way _ e
one-link-of p q r (gone_of d_ name_) e = no-way _ e
one-link-of p q r (unlink_of d_ name_) e = no-way _ e
one-link-of p q r (name_of d_ name_ to_d_ to_) e = no-way _ e
one-link-of p q r (link_of f d name) e =
    let e0 = first-of (same_list p f) (same_list q d && (same_list r name)) e in
    let r0 = second-of (same_list p f) (same_list q d && (same_list r name)) e in
    let e1 = first-of (same_list q d) (same_list r name) r0 in
    let r1 = second-of (same_list q d) (same_list r name) r0 in
    let e2 = r1 in
    ap (λ (o : List ℕ). calls.Dir (dirs.Link o q r)) (list-is p f e0)
    ∙ ap (λ (o : List ℕ). calls.Dir (dirs.Link f o r)) (list-is q d e1)
    ∙ ap (λ (o : List ℕ). calls.Dir (dirs.Link f d o)) (list-is r name e2)
one-link-of p q r (loose_of d_ name_) e = no-way _ e
one-link-of p q r (new_of d_ name_) e = no-way _ e
one-link-of p q r (look_of d_ name_) e = no-way _ e
one-link-of p q r (attr_of f_) e = no-way _ e
one-link-of p q r (read_of f_ at_ count_) e = no-way _ e

pub one-loose-of : (p : List ℕ) (q : List ℕ) (deed : Deed) → is_loose_of p q deed ≡ true → a.create_unchecked p q ≡ call_of deed
one-loose-of p q (access_of f_ bits_) e = no-way _ e
one-loose-of p q (cut_of f_ size_) e = no-way _ e
one-loose-of p q (text_of f_) e = no-way _ e
one-loose-of p q (dir_of d_ name_) e = no-way _ e
one-loose-of p q (sym_of d_ name_ target_) e = no-way _ e
one-loose-of p q (gone_of d_ name_) e = no-way _ e
one-loose-of p q (unlink_of d_ name_) e = no-way _ e
one-loose-of p q (name_of d_ name_ to_d_ to_) e = no-way _ e
one-loose-of p q (link_of f_ d_ name_) e = no-way _ e
one-loose-of p q (loose_of d name) e =
    let e0 = first-of (same_list p d) (same_list q name) e in
    let r0 = second-of (same_list p d) (same_list q name) e in
    let e1 = r0 in
    ap (λ (o : List ℕ). a.create_unchecked o q) (list-is p d e0)
    ∙ ap (λ (o : List ℕ). a.create_unchecked d o) (list-is q name e1)
one-loose-of p q (new_of d_ name_) e = no-way _ e
one-loose-of p q (look_of d_ name_) e = no-way _ e
one-loose-of p q (attr_of f_) e = no-way _ e
one-loose-of p q (read_of f_ at_ count_) e = no-way _ e

pub one-new-of : (p : List ℕ) (q : List ℕ) (deed : Deed) → is_new_of p q deed ≡ true → a.create_guarded p q ≡ call_of deed
one-new-of p q (access_of f_ bits_) e = no-way _ e
one-new-of p q (cut_of f_ size_) e = no-way _ e
one-new-of p q (text_of f_) e = no-way _ e
one-new-of p q (dir_of d_ name_) e = no-way _ e
one-new-of p q (sym_of d_ name_ target_) e = no-way _ e
one-new-of p q (gone_of d_ name_) e = no-way _ e
one-new-of p q (unlink_of d_ name_) e = no-way _ e
one-new-of p q (name_of d_ name_ to_d_ to_) e = no-way _ e
one-new-of p q (link_of f_ d_ name_) e = no-way _ e
one-new-of p q (loose_of d_ name_) e = no-way _ e
one-new-of p q (new_of d name) e =
    let e0 = first-of (same_list p d) (same_list q name) e in
    let r0 = second-of (same_list p d) (same_list q name) e in
    let e1 = r0 in
    ap (λ (o : List ℕ). a.create_guarded o q) (list-is p d e0)
    ∙ ap (λ (o : List ℕ). a.create_guarded d o) (list-is q name e1)
one-new-of p q (look_of d_ name_) e = no-way _ e
one-new-of p q (attr_of f_) e = no-way _ e
one-new-of p q (read_of f_ at_ count_) e = no-way _ e

pub one-look-of : (p : List ℕ) (q : List ℕ) (deed : Deed) → is_look_of p q deed ≡ true → a.look_up p q ≡ call_of deed
one-look-of p q (access_of f_ bits_) e = no-way _ e
one-look-of p q (cut_of f_ size_) e = no-way _ e
one-look-of p q (text_of f_) e = no-way _ e
one-look-of p q (dir_of d_ name_) e = no-way _ e
one-look-of p q (sym_of d_ name_ target_) e = no-way _ e
one-look-of p q (gone_of d_ name_) e = no-way _ e
one-look-of p q (unlink_of d_ name_) e = no-way _ e
one-look-of p q (name_of d_ name_ to_d_ to_) e = no-way _ e
one-look-of p q (link_of f_ d_ name_) e = no-way _ e
one-look-of p q (loose_of d_ name_) e = no-way _ e
one-look-of p q (new_of d_ name_) e = no-way _ e
one-look-of p q (look_of d name) e =
    let e0 = first-of (same_list p d) (same_list q name) e in
    let r0 = second-of (same_list p d) (same_list q name) e in
    let e1 = r0 in
    ap (λ (o : List ℕ). a.look_up o q) (list-is p d e0)
    ∙ ap (λ (o : List ℕ). a.look_up d o) (list-is q name e1)
one-look-of p q (attr_of f_) e = no-way _ e
one-look-of p q (read_of f_ at_ count_) e = no-way _ e

pub one-attr-of : (p : List ℕ) (deed : Deed) → is_attr_of p deed ≡ true → calls.File (files.GetAttr p) ≡ call_of deed
one-attr-of p (access_of f_ bits_) e = no-way _ e
one-attr-of p (cut_of f_ size_) e = no-way _ e
one-attr-of p (text_of f_) e = no-way _ e
one-attr-of p (dir_of d_ name_) e = no-way _ e
one-attr-of p (sym_of d_ name_ target_) e = no-way _ e
one-attr-of p (gone_of d_ name_) e = no-way _ e
one-attr-of p (unlink_of d_ name_) e = no-way _ e
one-attr-of p (name_of d_ name_ to_d_ to_) e = no-way _ e
one-attr-of p (link_of f_ d_ name_) e = no-way _ e
one-attr-of p (loose_of d_ name_) e = no-way _ e
one-attr-of p (new_of d_ name_) e = no-way _ e
one-attr-of p (look_of d_ name_) e = no-way _ e
one-attr-of p (attr_of f) e =
    let e0 = e in
    ap (λ (o : List ℕ). calls.File (files.GetAttr o)) (list-is p f e0)
one-attr-of p (read_of f_ at_ count_) e = no-way _ e

pub one-read-of : (p : List ℕ) (q : ℕ) (r : ℕ) (deed : Deed) → is_read_of p q r deed ≡ true → calls.File (files.Read p q r) ≡ call_of deed
one-read-of p q r (access_of f_ bits_) e = no-way _ e
one-read-of p q r (cut_of f_ size_) e = no-way _ e
one-read-of p q r (text_of f_) e = no-way _ e
one-read-of p q r (dir_of d_ name_) e = no-way _ e
one-read-of p q r (sym_of d_ name_ target_) e = no-way _ e
one-read-of p q r (gone_of d_ name_) e = no-way _ e
one-read-of p q r (unlink_of d_ name_) e = no-way _ e
one-read-of p q r (name_of d_ name_ to_d_ to_) e = no-way _ e
one-read-of p q r (link_of f_ d_ name_) e = no-way _ e
one-read-of p q r (loose_of d_ name_) e = no-way _ e
one-read-of p q r (new_of d_ name_) e = no-way _ e
one-read-of p q r (look_of d_ name_) e = no-way _ e
one-read-of p q r (attr_of f_) e = no-way _ e
one-read-of p q r (read_of f at count) e =
    let e0 = first-of (same_list p f) (nat_eq q at && (nat_eq r count)) e in
    let r0 = second-of (same_list p f) (nat_eq q at && (nat_eq r count)) e in
    let e1 = first-of (nat_eq q at) (nat_eq r count) r0 in
    let r1 = second-of (nat_eq q at) (nat_eq r count) r0 in
    let e2 = r1 in
    ap (λ (o : List ℕ). calls.File (files.Read o q r)) (list-is p f e0)
    ∙ ap (λ (o : ℕ). calls.File (files.Read f o r)) (eqb-true q at e1)
    ∙ ap (λ (o : ℕ). calls.File (files.Read f at o)) (eqb-true r count e2)

-- the call is like itself
pub like-self : (deed : Deed) → like (call_of deed) deed ≡ true
like-self (access_of f bits) = both-of (same_list f f) (nat_eq bits bits) (list-same f) (eq-eqb bits bits refl)
like-self (cut_of f size) = both-of (same_list f f) (nat_eq size size) (list-same f) (eq-eqb size size refl)
like-self (text_of f) = list-same f
like-self (dir_of d name) = both-of (same_list d d) (same_list name name) (list-same d) (list-same name)
like-self (sym_of d name target) = both-of (same_list d d) (same_list name name && (same_list target target)) (list-same d) (both-of (same_list name name) (same_list target target) (list-same name) (list-same target))
like-self (gone_of d name) = both-of (same_list d d) (same_list name name) (list-same d) (list-same name)
like-self (unlink_of d name) = both-of (same_list d d) (same_list name name) (list-same d) (list-same name)
like-self (name_of d name to_d to) = both-of (same_list d d) (same_list name name && (same_list to_d to_d && (same_list to to))) (list-same d) (both-of (same_list name name) (same_list to_d to_d && (same_list to to)) (list-same name) (both-of (same_list to_d to_d) (same_list to to) (list-same to_d) (list-same to)))
like-self (link_of f d name) = both-of (same_list f f) (same_list d d && (same_list name name)) (list-same f) (both-of (same_list d d) (same_list name name) (list-same d) (list-same name))
like-self (loose_of d name) = both-of (same_list d d) (same_list name name) (list-same d) (list-same name)
like-self (new_of d name) = both-of (same_list d d) (same_list name name) (list-same d) (list-same name)
like-self (look_of d name) = both-of (same_list d d) (same_list name name) (list-same d) (list-same name)
like-self (attr_of f) = list-same f
like-self (read_of f at count) = both-of (same_list f f) (nat_eq at at && (nat_eq count count)) (list-same f) (both-of (nat_eq at at) (nat_eq count count) (eq-eqb at at refl) (eq-eqb count count refl))
