-- No record of a session carries a plain call that no operation asks for.
use Rattle.core_counts.proofs.Prelude.{◌≡◌, ◌≤◌, ℕ, true, List, [], ◌∷◌, length, All, Result, Ok, Err, refl, sym, ap, subst, ◌∙◌, arith, All-nil, All-head, Verf, Entry, Call, Op, Carries, IsCaused, IsCause, mounts, informs, asked, list_call, SpellsCall, head_of, proc_of, mount_call, info_call, Terms, IsNfs, one-call}
use Rattle.claims.specs.CallCounts.{Asking, FewEqual, IsPlain}
use Rattle.claims.specs.CallsAsked.{CallsAsked}
use Rattle.rpc_message.specs.declared.call.CallFault.{CallFault}
use Rattle.rpc_message.specs.declared.call.CallHead.{CallHead}
use Rattle.rpc_message.proofs.CallLaws.{call_again}
use Rattle.mount_calls.specs.declared.call.MountCall.{MountCall}
use Rattle.mount_calls.specs.declared.call.MountCall.TheVariants as mounts_of
use Rattle.nfs_file_calls.specs.declared.call.FileCall.TheVariants as files
use Rattle.world_model.specs.declared.message.Call.TheVariants as calls
use Rattle.claims.specs.Asks as a
use Rattle.core_counts.proofs.counts.equal.Deeds.{Deed, call_of, like, like-self, no-way, access_of, cut_of, text_of, dir_of, sym_of, gone_of, unlink_of, name_of, link_of, loose_of, new_of, look_of, attr_of, read_of}

-- ---- one head

head_or : CallHead → Result (CallHead × List ℕ) CallFault → CallHead
head_or a (Ok (head, args)) = head
head_or a (Err fault) = a

found_call : CallHead → List ℕ → Result (CallHead × List ℕ) CallFault
found_call head args = Ok (head, args)

same-head : (x y : ℕ) (a b : Call) (bytes : List ℕ) → SpellsCall x a bytes → SpellsCall y b bytes → head_of x a ≡ head_of y b
unfolding head_or found_call
same-head x y a b bytes s t = ap (head_or (head_of x a)) both
  where
    both : found_call (head_of x a) s.args ≡ found_call (head_of y b) t.args
    both = sym (call_again (head_of x a) s.args bytes s.head) ∙ call_again (head_of y b) t.args bytes t.head

-- MNT has a procedure of its own
mount-proc : (other : MountCall) (path : List ℕ) → ((its : List ℕ) → calls.Mount other ≡ mount_call its → ⊥) → proc_of (calls.Mount other) ≡ proc_of (mount_call path) → ⊥
mount-proc mounts_of.Null path none same = absurd (omega (arith, same))
mount-proc (mounts_of.Mnt its) path none same = none its refl
mount-proc (mounts_of.Umnt its) path none same = absurd (omega (arith, same))
mount-proc mounts_of.Export path none same = absurd (omega (arith, same))

-- ---- what operations ask for

-- an operation's call is one of these
data Whose (call : Call) : Type 0 where
  of_deed : (deed : Deed) → call ≡ call_of deed → Whose call
  of_write : (f bytes : List ℕ) (offset how : ℕ) → call ≡ calls.File (files.Write f offset how bytes) → Whose call
  of_commit : (f : List ℕ) → call ≡ calls.File (files.Commit f 0 0) → Whose call
  of_list : (d : List ℕ) (cookie : ℕ) (verf : Verf) → call ≡ list_call d cookie verf → Whose call

act-whose : (terms : Terms) (h : List Entry) (x n : ℕ) (op : Op) (call : Call) → a.Acts terms h x n op call → Whose call
act-whose terms h x n op call (a.cuts slot size f is of c) = of_deed (cut_of f size) c
act-whose terms h x n op call (a.accesses path bits f is l c) = of_deed (access_of f bits) c
act-whose terms h x n op call (a.reads_link path f is l c) = of_deed (text_of f) c
act-whose terms h x n op call (a.makes_dir path d name is p c) = of_deed (dir_of d name) c
act-whose terms h x n op call (a.makes_link path target d name is p c) = of_deed (sym_of d name target) c
act-whose terms h x n op call (a.removes_dir path d name is p c) = of_deed (gone_of d name) c
act-whose terms h x n op call (a.renames source target d name to_d to is p q c) = of_deed (name_of d name to_d to) c
act-whose terms h x n op call (a.links source target f d name is l p c) = of_deed (link_of f d name) c
act-whose terms h x n op call (a.removes path d name is p c) = of_deed (unlink_of d name) c
act-whose terms h x n op call (a.hides path d last name is p k may c) = of_deed (name_of d last d name) c

asks-whose : (terms : Terms) (h : List Entry) (x n : ℕ) (op : Op) (call : Call) → a.Asks terms h x n op call → Whose call
asks-whose terms h x n op call (a.walks path earlier later name next d of is l c) = of_deed (look_of d name) c
asks-whose terms h x n op call (a.finds path d name of p c) = of_deed (look_of d name) c
asks-whose terms h x n op call (a.looks_for_hidden path d last name is p k c) = of_deed (look_of d name) c
asks-whose terms h x n op call (a.creates slot path d name is p c) = of_deed (new_of d name) c
asks-whose terms h x n op call (a.creates_after slot path d name reply is p told empty c) = of_deed (loose_of d name) c
asks-whose terms h x n op call (a.opens path f of l c) = of_deed (attr_of f) c
asks-whose terms h x n op call (a.opens_made slot mode path d name f making attr wcc is p made told c) = of_deed (attr_of f) c
asks-whose terms h x n op call (a.shows path f is l c) = of_deed (attr_of f) c
asks-whose terms h x n op call (a.reads slot offset count at size f is of inside c) = of_deed (read_of f at size) c
asks-whose terms h x n op call (a.asks_anew slot offset count f is anew of c) = of_deed (attr_of f) c
asks-whose terms h x n op call (a.writes f bytes at how s c) = of_write f bytes at how c
asks-whose terms h x n op call (a.commits f s c) = of_commit f c
asks-whose terms h x n op call (a.writes_for_room f bytes at how w p r c) = of_write f bytes at how c
asks-whose terms h x n op call (a.commits_for_room f w p r c) = of_commit f c
asks-whose terms h x n op call (a.removes_hidden r) = of_deed (unlink_of r.d r.name) r.removes
asks-whose terms h x n op call (a.lists path d rows cookie verf is l k c) = of_list d cookie verf c
asks-whose terms h x n op call (a.acts k) = act-whose terms h x n op call k

like-nfs : (call : Call) (deed : Deed) → like call deed ≡ true → IsNfs call
like-nfs (calls.File call) deed e = tt
like-nfs (calls.Dir call) deed e = tt
like-nfs (calls.Mount call) deed e = no-way _ e

whose-nfs : (call : Call) → Whose call → IsNfs call
whose-nfs call (of_deed deed is) = subst IsNfs (sym is) (like-nfs (call_of deed) deed (like-self deed))
whose-nfs call (of_write f bytes offset how is) = subst IsNfs (sym is) tt
whose-nfs call (of_commit f is) = subst IsNfs (sym is) tt
whose-nfs call (of_list d cookie verf is) = subst IsNfs (sym is) tt

-- ---- a plain call that isn't one of these

module _ (call : Call) (plain : IsPlain call) (none : (deed : Deed) → call ≡ call_of deed → ⊥) where
  not-whose : Whose call → ⊥
  not-whose (of_deed deed is) = none deed is
  not-whose (of_write f bytes offset how is) = plain.write f bytes offset how is
  not-whose (of_commit f is) = plain.commit f 0 0 is
  not-whose (of_list d cookie verf is) = plain.list d cookie 8192 32768 verf is

  -- it isn't MNT, so of another procedure of that program, or of NFS
  not-mount : (c : Call) (x y : ℕ) (path bytes : List ℕ) → call ≡ c → SpellsCall x c bytes → SpellsCall y (mount_call path) bytes → ⊥
  not-mount (calls.File of_file) x y path bytes is s t = plain.mount path (is ∙ one-call x y (calls.File of_file) (mount_call path) bytes tt s t)
  not-mount (calls.Dir of_dir) x y path bytes is s t = plain.mount path (is ∙ one-call x y (calls.Dir of_dir) (mount_call path) bytes tt s t)
  not-mount (calls.Mount other) x y path bytes is s t =
      mount-proc other path (λ its same. plain.mount its (is ∙ same)) (ap (λ (k : CallHead). k.proc) (same-head x y (calls.Mount other) (mount_call path) bytes s t))

  none-caused : (terms : Terms) (h : List Entry) (i xid : ℕ) (bytes : List ℕ) → IsCaused terms h i bytes → SpellsCall xid call bytes → ⊥
  none-caused terms h i xid bytes its spells = by its.cause
    where
      by : IsCause terms h i its.call → ⊥
      by (mounts path origin is early) = not-mount call xid its.xid path bytes refl spells (subst (λ (k : Call). SpellsCall its.xid k bytes) is its.made.spells)
      by (informs root rooted is early) = plain.info root (sym (one-call its.xid xid (info_call root) call bytes tt (subst (λ (k : Call). SpellsCall its.xid k bytes) is its.made.spells) spells))
      by (asked lane x op under asks keeps) =
          let whose = asks-whose terms h x i op its.call asks in
          not-whose (subst Whose (one-call its.xid xid its.call call bytes (whose-nfs its.call whose) its.made.spells spells) whose)

  none-carries : (terms : Terms) (h : List Entry) → CallsAsked terms h → (xid : ℕ) → Carries h (λ (c : Call). c ≡ call) xid → ⊥
  none-carries terms h all xid c = none-caused terms h c.at xid c.bytes (all.caused c.at c.bytes c.sent.sent) (subst (λ (k : Call). SpellsCall xid k c.bytes) c.is c.spells)

  none-few : (terms : Terms) (h : List Entry) → CallsAsked terms h → (xids : List ℕ) → All (Carries h (λ (c : Call). c ≡ call)) xids → length xids ≤ 0
  none-few terms h all [] each = omega arith
  none-few terms h all (xid ∷ xids) each = absurd (none-carries terms h all xid (All-head (Carries h (λ (c : Call). c ≡ call)) xid xids each))

  pub unasked : (terms : Terms) (h : List Entry) → CallsAsked terms h → FewEqual terms h call
  unasked terms h all = record {
    asking = [];
    operations = record { different = λ i j d low within. absurd (omega (arith, within)); each = All-nil (Asking terms h call) };
    few = λ xids apart each. let most = none-few terms h all xids each in omega (arith, most);
  }
