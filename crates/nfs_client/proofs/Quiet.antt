-- A session in which no call is one of an operation, and each answer is that the session is lost, keeps all that the model says of sessions.
use Rattle.std.proofs.Common.{inl, ◌≡◌, ◌≤◌, ℕ, List, [], ◌∷◌, length, All, refl, sym, ap, subst, ◌∙◌, arith}
use Rattle.std.proofs.lemmas.List.Elements.{All-nil, All-head}
use Rattle.nfs_types.specs.declared.verf.Verf.{Verf}
use Rattle.rpc_message.specs.declared.call.CallHead.{CallHead}
use Rattle.mount_calls.specs.declared.call.MountCall.{MountCall}
use Rattle.mount_calls.specs.declared.call.MountCall.TheVariants as mounts_of
use Rattle.nfs_file_calls.specs.declared.call.FileCall.TheVariants as files
use Rattle.world_model.specs.declared.answer.Answer.{Answer}
use Rattle.world_model.specs.declared.answer.Answer.TheVariants.{Done, Refused}
use Rattle.world_model.specs.declared.answer.Fault.{Fault}
use Rattle.world_model.specs.declared.answer.Fault.TheVariants as faults
use Rattle.world_model.specs.declared.answer.Value.{Value}
use Rattle.world_model.specs.declared.entry.Entry.{Entry}
use Rattle.world_model.specs.declared.entry.Entry.TheVariants.{Answered, Sent}
use Rattle.world_model.specs.declared.message.Call.{Call}
use Rattle.world_model.specs.declared.message.Call.TheVariants as calls
use Rattle.world_model.specs.declared.op.Op.{Op}
use Rattle.world_model.specs.Chains.{list_call}
use Rattle.world_model.specs.Entries.{At}
use Rattle.world_model.specs.History.{History}
use Rattle.world_model.specs.Lost.{IsLost}
use Rattle.world_model.specs.Messages.{SpellsCall, proc_of}
use Rattle.world_model.specs.Mounts.{Origin, mount_call, info_call}
use Rattle.world_model.specs.Operations.{Ended}
use Rattle.claims.specs.Asks.{Placed}
use Rattle.claims.specs.CallCounts.{CallCounts, Carries, CoversPlace, Few, IsCommitOf, commit, IsPlain, IsReadOf, read, LooksForHidden, Operations, Places}
use Rattle.claims.specs.CallsAsked.{CallsAsked}
use Rattle.claims.specs.Caused.{Caused, IsTried}
use Rattle.claims.specs.Complete.{Completes}
use Rattle.claims.specs.Cuts.{CutsStay}
use Rattle.claims.specs.Modes.{Modes}
use Rattle.claims.specs.ReadTrue.{ReadCurrent, ReadShort, ReadTrue}
use Rattle.claims.specs.Recent.{AttrAge, ListTrue, NamesTrue}
use Rattle.claims.specs.RefusalRows.{RefusalRow}
use Rattle.claims.specs.Settled.{Evident, Settled}
use Rattle.claims.specs.Terms.{Terms}
use Rattle.claims.specs.Thrifty.{Thrifty}
use Rattle.claims.specs.Touched.{Wrote}
use Rattle.claims.specs.Touched as touched
use Rattle.core_answers.proofs.bonds.OneCall.{IsNfs, one-call}
use Rattle.session_setup.proofs.Calls.{heads_same}

-- MNT or FSINFO
pub data IsSetUpCall (call : Call) : Type 0 where
  mounts : (path : List ℕ) → call ≡ mount_call path → IsSetUpCall call
  informs : (root : List ℕ) → call ≡ info_call root → IsSetUpCall call

-- a record that is one of these
pub record IsSetUpRecord (sent : List ℕ) : Type 0 where
  pub xid : ℕ
  pub call : Call
  pub spells : SpellsCall xid call sent
  pub is : IsSetUpCall call

-- Each call was asked for, and is one of the set-up; each answer is that the session is lost, and it was.
pub record IsQuiet (terms : Terms) (h : List Entry) : Type 0 where
  pub asked : CallsAsked terms h
  pub set_up : (i : ℕ) (sent : List ℕ) → At h i (Sent sent) → IsSetUpRecord sent
  pub lost : (j lane line : ℕ) (answer : Answer) → At h j (Answered lane line answer) → (answer ≡ Refused faults.Lost) × IsLost h j

-- ---- a plain call is none of the set-up

-- MNT has a procedure of its own
mount-proc : (other : MountCall) (path : List ℕ) → ((its : List ℕ) → calls.Mount other ≡ mount_call its → ⊥) → proc_of (calls.Mount other) ≡ proc_of (mount_call path) → ⊥
mount-proc mounts_of.Null path none same = absurd (omega (arith, same))
mount-proc (mounts_of.Mnt its) path none same = none its refl
mount-proc (mounts_of.Umnt its) path none same = absurd (omega (arith, same))
mount-proc mounts_of.Export path none same = absurd (omega (arith, same))

not-mount : (c : Call) (x y : ℕ) (path sent : List ℕ) → IsPlain c → SpellsCall x c sent → SpellsCall y (mount_call path) sent → ⊥
not-mount (calls.File call) x y path sent plain s t = plain.mount path (one-call x y (calls.File call) (mount_call path) sent tt s t)
not-mount (calls.Dir call) x y path sent plain s t = plain.mount path (one-call x y (calls.Dir call) (mount_call path) sent tt s t)
not-mount (calls.Mount other) x y path sent plain s t =
    mount-proc other path plain.mount (ap (λ (k : CallHead). k.proc) (heads_same x y (calls.Mount other) (mount_call path) sent s t))

-- ---- counts

-- no record carries such a call
abbrev Never : List Entry → (Call → Type 0) → Type 0
Never h P = (i xid : ℕ) (sent : List ℕ) (call : Call) → At h i (Sent sent) → SpellsCall xid call sent → P call → ⊥

few-never : (h : List Entry) (P : Call → Type 0) (n : ℕ) → Never h P → Few h P n
few-never h P n never xids apart each = by xids each
  where
    by : (xids : List ℕ) → All (Carries h P) xids → length xids ≤ n
    by [] each = omega arith
    by (xid ∷ xids) each = absurd (let c : Carries h P xid = All-head (Carries h P) xid xids each in never c.at xid c.bytes c.call c.sent.sent c.spells c.is)

no-operations : (P : Placed → Type 0) → Operations P []
no-operations P = record { different = λ i j d low within. absurd (omega (arith, within)); each = All-nil P }

no-places : (P : ℕ → Type 0) → Places P []
no-places P = record { different = λ i j d low within. absurd (omega (arith, within)); each = All-nil P }

not-info : (f root : List ℕ) (offset count : ℕ) → calls.File (files.Read f offset count) ≡ info_call root → ⊥
not-info f root offset count same = absurd (let one : proc_of (calls.File (files.Read f offset count)) ≡ proc_of (info_call root) = ap proc_of same in omega (arith, one))

module _ (terms : Terms) (h : List Entry) (q : IsQuiet terms h) where
  -- a call of NFS other than FSINFO
  no-nfs : (i xid : ℕ) (sent : List ℕ) (call : Call) → IsNfs call → ((root : List ℕ) → call ≡ info_call root → ⊥) → At h i (Sent sent) → SpellsCall xid call sent → ⊥
  no-nfs i xid sent call nfs other at spells = let r : IsSetUpRecord sent = q.set_up i sent at in by r.call r.xid r.spells r.is
    where
      by : (its : Call) (y : ℕ) → SpellsCall y its sent → IsSetUpCall its → ⊥
      by its y t (mounts path is) = subst IsNfs (one-call xid y call its sent nfs spells t ∙ is) nfs
      by its y t (informs root is) = other root (one-call xid y call its sent nfs spells t ∙ is)

  no-plain : (call : Call) → IsPlain call → Never h (λ (c : Call). c ≡ call)
  no-plain call plain i xid sent its at spells is = let r : IsSetUpRecord sent = q.set_up i sent at in by r.call r.xid r.spells r.is
    where
      own : SpellsCall xid call sent
      own = subst (λ (c : Call). SpellsCall xid c sent) is spells

      by : (c : Call) (y : ℕ) → SpellsCall y c sent → IsSetUpCall c → ⊥
      by c y t (mounts path same) = not-mount call xid y path sent plain own (subst (λ (k : Call). SpellsCall y k sent) same t)
      by c y t (informs root same) =
          plain.info root (sym (one-call y xid (info_call root) call sent tt (subst (λ (k : Call). SpellsCall y k sent) same t) own))

  no-read : (f : List ℕ) → Never h (IsReadOf f)
  no-read f i xid sent call at spells (read offset count is) =
      no-nfs i xid sent (calls.File (files.Read f offset count)) tt (λ root same. not-info f root offset count same) at (subst (λ (c : Call). SpellsCall xid c sent) is spells)

  no-write : (i xid offset how : ℕ) (f data_ sent : List ℕ) → At h i (Sent sent) → SpellsCall xid (calls.File (files.Write f offset how data_)) sent → ⊥
  no-write i xid offset how f data_ sent at spells =
      no-nfs i xid sent (calls.File (files.Write f offset how data_)) tt
      (λ root same. absurd (let one : proc_of (calls.File (files.Write f offset how data_)) ≡ proc_of (info_call root) = ap proc_of same in omega (arith, one))) at spells

  no-cover : (f : List ℕ) (place : ℕ) → Never h (CoversPlace f place)
  no-cover f place i xid sent call at spells c = no-write i xid c.offset c.how f c.bytes sent at (subst (λ (k : Call). SpellsCall xid k sent) c.is spells)

  no-commit : (f : List ℕ) → Never h (IsCommitOf f)
  no-commit f i xid sent call at spells (commit offset count is) =
      no-nfs i xid sent (calls.File (files.Commit f offset count)) tt
      (λ root same. absurd (let one : proc_of (calls.File (files.Commit f offset count)) ≡ proc_of (info_call root) = ap proc_of same in omega (arith, one))) at
      (subst (λ (c : Call). SpellsCall xid c sent) is spells)

  no-list : (d : List ℕ) (cookie : ℕ) (verf : Verf) → Never h (λ (c : Call). c ≡ list_call d cookie verf)
  no-list d cookie verf i xid sent call at spells is =
      no-nfs i xid sent (list_call d cookie verf) tt (λ root same. absurd (let one : proc_of (list_call d cookie verf) ≡ proc_of (info_call root) = ap proc_of same in omega (arith, one))) at
      (subst (λ (c : Call). SpellsCall xid c sent) is spells)

  no-hidden : (script : List Entry) → Never h (LooksForHidden script)
  no-hidden script i xid sent call at spells l =
      no-nfs i xid sent call (subst IsNfs (sym l.is) tt)
      (λ root same. absurd (let one : proc_of call ≡ proc_of (info_call root) = ap proc_of same in let two = ap proc_of l.is in omega (arith, one, two))) at spells

  quiet-counts : (script : List Entry) → CallCounts terms script h
  quiet-counts script = record {
    equal = λ call plain. record { asking = []; operations = no-operations _; few = few-never h (λ c. c ≡ call) _ (no-plain call plain) };
    reads = λ f root rsize rooted sized. record { reads = []; short = []; operations = no-operations _; replied = no-places _; few = few-never h (IsReadOf f) _ (no-read f) };
    writes = λ f i. record {
      writers = [];
      poor = [];
      commits = [];
      operations = no-places _;
      replied = no-places _;
      committed = no-places _;
      few = few-never h (CoversPlace f i) _ (no-cover f i);
    };
    commits = λ f. record {
      stable = [];
      full = [];
      operations = no-operations _;
      writers = no-operations _;
      room = inl refl;
      few = few-never h (IsCommitOf f) _ (no-commit f);
    };
    pages = λ d cookie verf. record {
      pages = [];
      lists = [];
      replied = no-places _;
      operations = no-operations _;
      first = inl refl;
      few = few-never h (λ c. c ≡ list_call d cookie verf) _ (no-list d cookie verf);
    };
    hidden = record { removes = []; met = []; operations = no-operations _; replied = no-places _; few = few-never h (LooksForHidden script) _ (no-hidden script) };
  }

  -- ---- answers

  none-done : (lane x y : ℕ) (op : Op) (value : Value) → Ended h lane x op y (Done value) → ⊥
  none-done lane x y op value e = absurd (let no_way : Done value ≡ Refused faults.Lost = (q.lost y lane e.line (Done value) e.answered).0 in cc)

  is-lost : (lane x y : ℕ) (op : Op) (fault : Fault) → Ended h lane x op y (Refused fault) → fault ≡ faults.Lost
  is-lost lane x y op fault e = let same : Refused fault ≡ Refused faults.Lost = (q.lost y lane e.line (Refused fault) e.answered).0 in cc

  lost-row : (lane x y : ℕ) (op : Op) (fault : Fault) → Ended h lane x op y (Refused fault) → RefusalRow terms h lane x y op fault
  lost-row lane x y op fault e = subst (RefusalRow terms h lane x y op) (sym (is-lost lane x y op fault e)) (q.lost y lane e.line (Refused fault) e.answered).1

  untried : {A : Type 0} → (lane x y : ℕ) (op : Op) (answer : Answer) → Ended h lane x op y answer → IsTried answer → A
  untried lane x y op answer e tried = absurd (tried.lost (q.lost y lane e.line answer e.answered).0)

  pub quiet-caused : (script : List Entry) (status : ℕ) → Caused terms script status h
  quiet-caused script status = record {
    calls = q.asked;
    counts = quiet-counts script;
    ok = λ lane x y op value e. absurd (none-done lane x y op value e);
    refused = lost-row;
    slot = λ lane x y op answer e tried none. untried lane x y op answer e tried;
    mode = λ lane x y op answer e tried none. untried lane x y op answer e tried;
    lost = λ lane x y other w z op later answer e f after. inl (q.lost z other f.line answer f.answered).0;
    spent = λ lane x y op by_itself e. absurd (let no_way : faults.Spent ≡ faults.Lost = is-lost lane x y op faults.Spent e in cc);
  }

  pub quiet-thrifty : Thrifty terms h
  quiet-thrifty = record {
    reads = λ i xid offset count f sent at spells. absurd (no-read f i xid sent (calls.File (files.Read f offset count)) at spells (read offset count refl));
    pages = λ one o at page n xid offset count f sent stamp took first spells after meets still.
        no-read f n xid sent (calls.File (files.Read f offset count)) first.sent spells (read offset count refl);
    writes = λ one never i x end w op f short uncut latest last. absurd (no-write i short.xid short.offset short.how f short.data_ short.bytes short.sent.sent short.spells);
  }

  wrote-none : (m : Modes) (w y i v : ℕ) (f : List ℕ) → Wrote m h w y f i v → ⊥
  wrote-none m w y i v f (touched.write lane slot offset bytes value of ended covers) = none-done lane w y _ value ended
  wrote-none m w y i v f (touched.fill lane slot offset count value of ended low high) = none-done lane w y _ value ended
  wrote-none m w y i v f (touched.put offset bytes p covers) = none-done p.lane w y _ p.value p.ended

  pub quiet-evident : (m : Modes) (origin : Origin) → Evident m origin h
  quiet-evident m origin w y f i v j wrote settled free = absurd (wrote-none m w y i v f wrote)

-- ---- of the server at each moment

module _ (terms : Terms) (t : History) (q : IsQuiet terms t.entries) where
  none-ended : (lane x y : ℕ) (op : Op) (value : Value) → Ended t.entries lane x op y (Done value) → ⊥
  none-ended = none-done terms t.entries q

  none-wrote : (m : Modes) (w y i v : ℕ) (f : List ℕ) → Wrote m t.entries w y f i v → ⊥
  none-wrote = wrote-none terms t.entries q

  pub quiet-completes : Completes terms t
  quiet-completes u lane x y op answer e = absurd (u.kept y (q.lost y lane e.line answer e.answered).1)

  module _ (m : Modes) (origin : Origin) where
    pub quiet-settled : Settled m origin t
    quiet-settled w y f i v j wrote settled p after within untouched = absurd (none-wrote m w y i v f wrote)

    pub quiet-cuts : CutsStay m origin t
    quiet-cuts x e f size i cut low p after within untouched now stable has v holds = absurd (none-ended cut.lane x e _ cut.value cut.ended)

    pub quiet-current : ReadCurrent m origin t
    quiet-current r y o f offset count bytes reads k v holds = absurd (none-ended reads.lane r y _ _ reads.ended)

    pub quiet-read : ReadTrue m origin t
    quiet-read = record {
      current = quiet-current;
      own = λ r y o f offset count bytes reads w e k v wrote before within untouched. absurd (none-ended reads.lane r y _ _ reads.ended);
      cut = λ r y o f offset count bytes reads x e size k v cut before low holds untouched. absurd (none-ended reads.lane r y _ _ reads.ended);
    }

    pub quiet-short : ReadShort m origin t
    quiet-short r y o f offset count bytes reads short = absurd (none-ended reads.lane r y _ _ reads.ended)

    pub quiet-names : NamesTrue m origin t
    quiet-names = record {
      opened = λ lane slot x y f o. absurd (none-ended lane x y _ o.value o.ended);
      put = λ x y offset f bytes p. absurd (none-ended p.lane x y _ p.value p.ended);
    }

    pub quiet-ages : AttrAge m origin t
    quiet-ages lane x y path attr ended = absurd (none-ended lane x y _ _ ended)

    pub quiet-lists : ListTrue m origin t
    quiet-lists lane x y path names ended = absurd (none-ended lane x y _ _ ended)
