-- Equal calls, of all plain ones: for each operation that asks for them, 3 and one for each name of its paths.
use Rattle.core_counts.proofs.Prelude.{Contains, ◌≡◌, ◌≤◌, inl, inr, ◌&&◌, ℕ, nat_eq, true, List, [], ◌∷◌, length, All, None, refl, sym, ap, subst, ◌∙◌, arith, eqb-true, All-weaker, Mode, Entry, Call, Op, Carries, RepliedAt, list_call, info_call, Terms, look_up, Mounted, IsAsked, machine_of, Setup, View, Notes, Saves, IsNfs, GoesFrom, all-asked}
use Rattle.claims.specs.CallCounts.{FewEqual, Asking}
use Rattle.nfs_types.specs.declared.mode.Mode.TheVariants as modes
use Rattle.nfs_dir_calls.specs.declared.call.DirCall.TheVariants as dirs
use Rattle.nfs_file_calls.specs.declared.call.FileCall.TheVariants as files
use Rattle.world_model.specs.declared.message.Call.TheVariants as calls
use Rattle.world_model.specs.declared.op.Op.TheVariants as ops
use Rattle.claims.specs.Asks as a
use Rattle.world_model.specs.Commits.{commit_call}
use Rattle.claims.specs.Paths.{paths_of}
use Rattle.name_ops.specs.ListDir as listing
use Rattle.core_counts.specs.counts.Equal.{FewEqualMade}
use Rattle.core_counts.proofs.counts.engine.Decided.{same_list, first-of, second-of, list-is}
use Rattle.core_counts.proofs.counts.engine.Sum.{AsksOne, Summed, summed-seen}
use Rattle.core_counts.proofs.counts.equal.Costs.{NoReply}
use Rattle.core_counts.proofs.counts.equal.Deeds.{Deed, call_of, like, access_of, cut_of, text_of, dir_of, sym_of, gone_of, unlink_of, name_of, link_of, loose_of, new_of, look_of, attr_of, read_of, no-way, like-self, one-access-of, one-attr-of, one-cut-of, one-dir-of, one-gone-of, one-link-of, one-look-of, one-loose-of, one-name-of, one-new-of, one-read-of, one-sym-of, one-text-of, one-unlink-of}
use Rattle.core_counts.proofs.counts.equal.Laws.{IsCovered, at_first, Left, equal-laws}
use Rattle.core_counts.proofs.counts.equal.Shapes.{Shape, shaped, unshaped, shape}
use Rattle.core_counts.proofs.counts.equal.Unasked.{unasked}
use Rattle.core_counts.proofs.counts.sought.Spelt.{number_of}

-- ---- who asks for it

-- the number of a hidden name of which LOOKUPs are counted
abbrev target_of : Deed → ℕ
target_of (look_of d name) = number_of name
target_of deed = 0

seek-number : (deed : Deed) (d name : List ℕ) → like (look_up d name) deed ≡ true → number_of name ≡ target_of deed
seek-number (look_of e own) d name l = ap number_of (list-is name own (second-of (same_list d e) (same_list name own) l))
seek-number (access_of f_ bits_) d name l = no-way _ l
seek-number (cut_of f_ size_) d name l = no-way _ l
seek-number (text_of f_) d name l = no-way _ l
seek-number (dir_of d_ name_) d name l = no-way _ l
seek-number (sym_of d_ name_ target_) d name l = no-way _ l
seek-number (gone_of d_ name_) d name l = no-way _ l
seek-number (unlink_of d_ name_) d name l = no-way _ l
seek-number (name_of d_ name_ to_d_ to_) d name l = no-way _ l
seek-number (link_of f_ d_ name_) d name l = no-way _ l
seek-number (loose_of d_ name_) d name l = no-way _ l
seek-number (new_of d_ name_) d name l = no-way _ l
seek-number (attr_of f_) d name l = no-way _ l
seek-number (read_of f_ at_ count_) d name l = no-way _ l

-- from where a READ that is counted begins
abbrev start_of : Deed → ℕ
start_of (read_of f at count) = at
start_of deed = 0

read-start : (deed : Deed) (f : List ℕ) (at count : ℕ) → like (calls.File (files.Read f at count)) deed ≡ true → at ≡ start_of deed
read-start (read_of g from size) f at count l = eqb-true at from (first-of (nat_eq at from) (nat_eq count size) (second-of (same_list f g) (nat_eq at from && (nat_eq count size)) l))
read-start (access_of f_ bits_) f at count l = no-way _ l
read-start (cut_of f_ size_) f at count l = no-way _ l
read-start (text_of f_) f at count l = no-way _ l
read-start (dir_of d_ name_) f at count l = no-way _ l
read-start (sym_of d_ name_ target_) f at count l = no-way _ l
read-start (gone_of d_ name_) f at count l = no-way _ l
read-start (unlink_of d_ name_) f at count l = no-way _ l
read-start (name_of d_ name_ to_d_ to_) f at count l = no-way _ l
read-start (link_of f_ d_ name_) f at count l = no-way _ l
read-start (loose_of d_ name_) f at count l = no-way _ l
read-start (new_of d_ name_) f at count l = no-way _ l
read-start (look_of d_ name_) f at count l = no-way _ l
read-start (attr_of f_) f at count l = no-way _ l

module _ (m : Mounted) (some : 1 ≤ m.rsize) (deed : Deed) where
  abbrev It : Call → Type 0
  It call = like call deed ≡ true

  nfs-like : (call : Call) → It call → IsNfs call
  nfs-like (calls.File call) e = tt
  nfs-like (calls.Dir call) e = tt
  nfs-like (calls.Mount call) e = no-way _ e

  not-info : (root : List ℕ) → It (info_call root) → ⊥
  not-info root e = no-way ⊥ e

  only-seek : (d name : List ℕ) → It (look_up d name) → number_of name ≡ target_of deed
  only-seek d name e = seek-number deed d name e

  no-page : (place : _) (dir : List ℕ) → It (listing.page_call place dir) → ⊥
  no-page place dir e = no-way ⊥ e

  no-saved : (f : List ℕ) (call : Call) → Saves f call → It call → ⊥
  no-saved f call (inl k) e = no-way ⊥ (subst It k.1 e)
  no-saved f call (inr k) e = no-way ⊥ (subst It k e)

  only-read : (f : List ℕ) (at count : ℕ) → It (calls.File (files.Read f at count)) → at ≡ start_of deed
  only-read f at count e = read-start deed f at count e

  abbrev Covered : Op → Type 0
  Covered = IsCovered m some It (target_of deed) only-seek no-page no-saved (start_of deed) only-read

  module _ (terms : Terms) (h : List Entry) (x n : ℕ) (op : Op) (call : Call) (may : IsAsked op) (it : It call) where
    as-it : (c : Call) → call ≡ c → It c
    as-it c is = subst It is it

    covered : (o : Op) → op ≡ o → Covered o → Covered op
    covered o is c = subst Covered (sym is) c

    of-paths : (o : Op) (path : List (List ℕ)) → IsAsked o → Contains (paths_of o) path → Covered o
    of-paths (ops.OpenFile slot mode p) path its of = its
    of-paths (ops.Put p offset bytes) path its of = its.0
    of-paths (ops.Read slot offset count) path its of = absurd (let low = of.1 in omega (arith, low))
    of-paths (ops.Write slot offset bytes) path its of = absurd (let low = of.1 in omega (arith, low))
    of-paths (ops.Fill slot offset count byte) path its of = absurd (let low = of.1 in omega (arith, low))
    of-paths (ops.Sync slot) path its of = absurd (let low = of.1 in omega (arith, low))
    of-paths (ops.Close slot) path its of = tt
    of-paths (ops.Truncate slot size) path its of = tt
    of-paths (ops.Stat p) path its of = tt
    of-paths (ops.Access p bits) path its of = tt
    of-paths (ops.MakeDir p) path its of = tt
    of-paths (ops.RemoveDir p) path its of = tt
    of-paths (ops.Remove p) path its of = tt
    of-paths (ops.Rename source target) path its of = tt
    of-paths (ops.Link source target) path its of = tt
    of-paths (ops.SymLink p target) path its of = tt
    of-paths (ops.ReadLink p) path its of = tt
    of-paths (ops.List p) path its of = tt

    found-of : (o : Op) (path : List (List ℕ)) → IsAsked o → Contains (a.found_by o) path → Covered o
    found-of (ops.OpenFile slot mode p) path its of = its
    found-of (ops.Put p offset bytes) path its of = its.0
    found-of (ops.Read slot offset count) path its of = absurd (let low = of.1 in omega (arith, low))
    found-of (ops.Write slot offset bytes) path its of = absurd (let low = of.1 in omega (arith, low))
    found-of (ops.Fill slot offset count byte) path its of = absurd (let low = of.1 in omega (arith, low))
    found-of (ops.Sync slot) path its of = absurd (let low = of.1 in omega (arith, low))
    found-of (ops.Close slot) path its of = tt
    found-of (ops.Truncate slot size) path its of = tt
    found-of (ops.Stat p) path its of = tt
    found-of (ops.Access p bits) path its of = tt
    found-of (ops.MakeDir p) path its of = tt
    found-of (ops.RemoveDir p) path its of = tt
    found-of (ops.Remove p) path its of = tt
    found-of (ops.Rename source target) path its of = tt
    found-of (ops.Link source target) path its of = tt
    found-of (ops.SymLink p target) path its of = tt
    found-of (ops.ReadLink p) path its of = tt
    found-of (ops.List p) path its of = tt

    opens-file : (slot : ℕ) (mode : Mode) (path : List (List ℕ)) → op ≡ ops.OpenFile slot mode path → Covered op
    opens-file slot mode path is = covered (ops.OpenFile slot mode path) is (subst IsAsked is may)

    looks-as : (d name : List ℕ) → call ≡ a.look_up d name → call ≡ call_of deed
    looks-as d name c = c ∙ one-look-of d name deed (as-it (a.look_up d name) c)

    attrs-as : (f : List ℕ) → call ≡ calls.File (files.GetAttr f) → call ≡ call_of deed
    attrs-as f c = c ∙ one-attr-of f deed (as-it (calls.File (files.GetAttr f)) c)

    opens-covered : (path : List (List ℕ)) → a.Opening op path → Covered op
    opens-covered path (a.opens slot mode is) = opens-file slot mode path is
    opens-covered path (a.put offset bytes is) = covered (ops.Put path offset bytes) is (subst IsAsked is may).0

    acts-covered : a.Acts terms h x n op call → Covered op × (call ≡ call_of deed)
    acts-covered (a.cuts slot size f is of c) = (covered (ops.Truncate slot size) is tt, c ∙ one-cut-of f size deed (as-it (calls.File (files.SetAttr f (a.only_size size) None)) c))
    acts-covered (a.accesses path bits f is l c) = (covered (ops.Access path bits) is tt, c ∙ one-access-of f bits deed (as-it (calls.File (files.Access f bits)) c))
    acts-covered (a.reads_link path f is l c) = (covered (ops.ReadLink path) is tt, c ∙ one-text-of f deed (as-it (calls.Dir (dirs.ReadLink f)) c))
    acts-covered (a.makes_dir path d name is p c) = (covered (ops.MakeDir path) is tt, c ∙ one-dir-of d name deed (as-it (calls.Dir (dirs.MkDir d name (a.only_mode 493))) c))
    acts-covered (a.makes_link path target d name is p c) = (covered (ops.SymLink path target) is tt, c ∙ one-sym-of d name target deed (as-it (calls.Dir (dirs.SymLink d name (a.only_mode 511) target)) c))
    acts-covered (a.removes_dir path d name is p c) = (covered (ops.RemoveDir path) is tt, c ∙ one-gone-of d name deed (as-it (calls.Dir (dirs.RmDir d name)) c))
    acts-covered (a.renames source target d name to_d to is p q c) = (covered (ops.Rename source target) is tt, c ∙ one-name-of d name to_d to deed (as-it (calls.Dir (dirs.Rename d name to_d to)) c))
    acts-covered (a.links source target f d name is l p c) = (covered (ops.Link source target) is tt, c ∙ one-link-of f d name deed (as-it (calls.Dir (dirs.Link f d name)) c))
    acts-covered (a.removes path d name is p c) = (covered (ops.Remove path) is tt, c ∙ one-unlink-of d name deed (as-it (calls.Dir (dirs.Remove d name)) c))
    acts-covered (a.hides path d last name is p k may c) = (covered (ops.Remove path) is tt, c ∙ one-name-of d last d name deed (as-it (calls.Dir (dirs.Rename d last d name)) c))

    asks-covered : a.Asks terms h x n op call → Covered op × (call ≡ call_of deed)
    asks-covered (a.walks path earlier later name next d of is l c) = (of-paths op path may of, looks-as d name c)
    asks-covered (a.finds path d name of p c) = (found-of op path may of, looks-as d name c)
    asks-covered (a.looks_for_hidden path d last name is p k c) = (covered (ops.Remove path) is tt, looks-as d name c)
    asks-covered (a.creates slot path d name is p c) = (opens-file slot modes.X path is, c ∙ one-new-of d name deed (as-it (a.create_guarded d name) c))
    asks-covered (a.creates_after slot path d name reply is p told none c) = (opens-file slot modes.C path is, c ∙ one-loose-of d name deed (as-it (a.create_unchecked d name) c))
    asks-covered (a.opens path f of l c) = (opens-covered path of, attrs-as f c)
    asks-covered (a.opens_made slot mode path d name f making attr wcc is p made told c) = (opens-file slot mode path is, attrs-as f c)
    asks-covered (a.shows path f is l c) = (covered (ops.Stat path) is tt, attrs-as f c)
    asks-covered (a.reads slot offset count at size f is of inside c) = (covered (ops.Read slot offset count) is tt, c ∙ one-read-of f at size deed (as-it (calls.File (files.Read f at size)) c))
    asks-covered (a.asks_anew slot offset count f is anew of c) = (covered (ops.Read slot offset count) is tt, attrs-as f c)
    asks-covered (a.writes f bytes at how s c) = no-way _ (as-it (calls.File (files.Write f at how bytes)) c)
    asks-covered (a.commits f s c) = no-way _ (as-it (commit_call f) c)
    asks-covered (a.writes_for_room f bytes at how w p r c) = no-way _ (as-it (calls.File (files.Write f at how bytes)) c)
    asks-covered (a.commits_for_room f w p r c) = no-way _ (as-it (commit_call f) c)
    asks-covered (a.removes_hidden r) = (covered (ops.Close r.slot) r.is tt, r.removes ∙ one-unlink-of r.d r.name deed (as-it (calls.Dir (dirs.Remove r.d r.name)) r.removes))
    asks-covered (a.lists path d rows cookie verf is l k c) = no-way _ (as-it (list_call d cookie verf) c)
    asks-covered (a.acts k) = acts-covered k

-- ---- the count

none-heard : (h : List Entry) (P : Call → Type 0) (places : List ℕ) → All (RepliedAt h (NoReply P)) places → places ≡ []
none-heard h P [] each = refl
none-heard h P (place ∷ places) each = absurd ((each 0 0 (omega arith)).is)

module _ (m : Mounted) (terms : Terms) (setup : Setup) (before h : List Entry) (v : View) (from : GoesFrom m terms setup before h v) (n : Notes (machine_of m) setup h v) (deed : Deed) where
  sum : Summed terms h (It m from.some deed) (NoReply (It m from.some deed)) (at_first m from.some (It m from.some deed) (target_of deed) (only-seek m from.some deed) (no-page m from.some deed) (no-saved m from.some deed) (start_of deed) (only-read m from.some deed))
  sum = summed-seen m terms setup before h v from n (It m from.some deed) (NoReply (It m from.some deed)) (Covered m from.some deed) (at_first m from.some (It m from.some deed) (target_of deed) (only-seek m from.some deed) (no-page m from.some deed) (no-saved m from.some deed) (start_of deed) (only-read m from.some deed))
      (Left m from.some (It m from.some deed) (target_of deed) (only-seek m from.some deed) (no-page m from.some deed) (no-saved m from.some deed) (start_of deed) (only-read m from.some deed)) (equal-laws m from.some (It m from.some deed) (target_of deed) (only-seek m from.some deed) (no-page m from.some deed) (no-saved m from.some deed) (start_of deed) (only-read m from.some deed) setup h) (nfs-like m from.some deed) (not-info m from.some deed)
      (λ call. like call deed) (λ call e. e) (λ x i op call asks e. e) (λ x i op call began may asks e. (asks-covered m from.some deed terms h x i op call may e asks).0)

  asking : (o : a.Placed) → AsksOne terms h (It m from.some deed) o → Asking terms h (call_of deed) o
  asking o k = record {
    end = k.end;
    began = k.began;
    ends = k.ends;
    asks = subst (a.Asks terms h o.0 k.end o.1) (asks-covered m from.some deed terms h o.0 k.end o.1 k.call (from.asked o.0 k.began.0 k.began.1 o.1 k.began.2) k.is k.asks).1 k.asks;
  }

  few-calls : FewEqual terms h (call_of deed)
  few-calls = record {
    asking = sum.asking;
    operations = record { different = sum.different; each = All-weaker (AsksOne terms h (It m from.some deed)) (Asking terms h (call_of deed)) asking sum.asking sum.each };
    few = λ xids apart each.
        let all = sum.few xids apart (All-weaker (Carries h (λ (c : Call). c ≡ call_of deed)) (Carries h (It m from.some deed))
        (λ xid c. record { at = c.at; bytes = c.bytes; call = c.call; sent = c.sent; spells = c.spells; is = subst (It m from.some deed) (sym c.is) (like-self deed) }) xids each) in
        let none = ap (λ (places : List ℕ). length places) (none-heard h (It m from.some deed) sum.credits sum.replied) in
        omega (arith, all, none);
  }

  few-of : (call : Call) → call ≡ call_of deed → FewEqual terms h call
  few-of call is = subst (FewEqual terms h) (sym is) few-calls

pub equal-few : FewEqualMade
equal-few m terms setup before h v from n call plain = by (shape call)
  where
    by : Shape call → FewEqual terms h call
    by (shaped deed is) = few-of m terms setup before h v from n deed call is
    by (unshaped none) = unasked call plain none terms h (all-asked m terms setup before h v from n)
