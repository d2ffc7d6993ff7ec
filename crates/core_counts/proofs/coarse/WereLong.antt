-- WRITEs that wait, and those that were sent, were long as they were made.
use Rattle.core_counts.proofs.Prelude.{◌≡◌, ◌≤◌, ◌⊎◌, inl, inr, ◌+◌, ◌++◌, ℕ, Bool, true, false, List, [], ◌∷◌, length, Option, Some, None, refl, sym, ap, subst, ◌∙◌, arith, append_assoc, append-nil, length-append, eqb-true, eqb-false, Waiting, waiting_at, Entry, Sent, Call, At, SpellsCall, SpellsCallBy, At-cases, Mounted, Purpose, Setup, SendsIf, View, IsSetUp, one-call, call_of, of_file, Stops, MakesLong, Moves, Hears, ShownCall, Shown}
use Rattle.client_core.specs.Steps.{SendsBy}
use Rattle.core_counts.specs.coarse.Moves.{Move}
use Rattle.core_counts.specs.coarse.Runs.{RestsAt, Runs}
use Rattle.std.specs.Prelude.{nat_eq}
use Rattle.nfs_file_calls.specs.declared.call.FileCall.TheVariants as files
use Rattle.world_model.specs.declared.message.Call.TheVariants as calls
use Rattle.law_calls.proofs.CallsWait.{xid_of_call}
use Rattle.model_writes.specs.Machine as coarse
use Rattle.model_writes.specs.Story as story
use Rattle.core_counts.specs.coarse.Moves as machine
use Rattle.core_counts.specs.coarse.WereLong.{write_call, WasLong}
use Rattle.core_counts.proofs.coarse.Calls.{CommitOr, commit-or}

-- ---- which calls wait

same-or-late : (old new : coarse.View) (x : ℕ) (k : story.Call) → coarse.NewCall old new x k → (old.next_xid ≤ new.next_xid) × ((z : ℕ) → (new.wait z ≡ old.wait z) ⊎ (old.next_xid ≤ z))
same-or-late old new x k c = (let n = c.next in omega (arith, n), λ z. by z (nat_eq z x) refl)
  where
    by : (z : ℕ) (b : Bool) → nat_eq z x ≡ b → (new.wait z ≡ old.wait z) ⊎ (old.next_xid ≤ z)
    by z true is = inr (let same : z ≡ x = eqb-true z x is in let n = c.numbered in omega (arith, same, n))
    by z false is = inl (c.others z (eqb-false z x is))

same-calls : (old new : coarse.View) → coarse.SameCalls old new → (old.next_xid ≤ new.next_xid) × ((z : ℕ) → (new.wait z ≡ old.wait z) ⊎ (old.next_xid ≤ z))
same-calls old new s = (let n = s.next in omega (arith, n), λ z. inl (s.wait z))

move-waits : (old new : coarse.View) → Move old new → (old.next_xid ≤ new.next_xid) × ((z : ℕ) → (new.wait z ≡ old.wait z) ⊎ (old.next_xid ≤ z))
move-waits old new (machine.makes_write x file offset bytes how made alone takes) = same-or-late old new x _ made
move-waits old new (machine.makes_commit x file made quiet same) = same-or-late old new x _ made
move-waits old new (machine.makes_call x call other made same) = same-or-late old new x _ made
move-waits old new (machine.adds file offset bytes number same below lays) = same-calls old new same
move-waits old new (machine.cuts file size same cut) = same-calls old new same
move-waits old new (machine.gives_up file same gives) = same-calls old new same

moves-wait : (old new : coarse.View) → Moves old new → (old.next_xid ≤ new.next_xid) × ((z : ℕ) → (new.wait z ≡ old.wait z) ⊎ (old.next_xid ≤ z))
moves-wait _ _ (machine.stays c) = (omega arith, λ z. inl refl)
moves-wait _ _ (machine.moves c b d before move) =
    let early = moves-wait c b before in
    let late = move-waits b d move in
    (omega (arith, early.0, late.0), λ z. both z early.0 (early.1 z) (late.1 z))
  where
    both : (z : ℕ) → c.next_xid ≤ b.next_xid → (b.wait z ≡ c.wait z) ⊎ (c.next_xid ≤ z) → (d.wait z ≡ b.wait z) ⊎ (b.next_xid ≤ z) → (d.wait z ≡ c.wait z) ⊎ (c.next_xid ≤ z)
    both z low (inl first) (inl second) = inl (second ∙ first)
    both z low (inr first) second = inr first
    both z low (inl first) (inr second) = inr (omega (arith, low, second))

-- ---- a WRITE of the machine is one of the core

never-write : (k : story.Call) → CommitOr k → (f : List ℕ) (offset : ℕ) (bytes : List ℕ) (how : ℕ) → k ≡ story.write f offset bytes how → ⊥
never-write (story.write g o bs w) (inl c) f offset bytes how is = absurd (let no_way = c.1 in cc)
never-write (story.write g o bs w) (inr other) f offset bytes how is = other
never-write (story.commit g) c f offset bytes how is = absurd cc
never-write (story.resize g size) c f offset bytes how is = absurd cc
never-write (story.plain what) c f offset bytes how is = absurd cc

write-of : (call : Call) (f : List ℕ) (offset : ℕ) (bytes : List ℕ) (how : ℕ) → call_of call ≡ story.write f offset bytes how → call ≡ write_call f offset how bytes
write-of (calls.File (files.Write g o w bs)) f offset bytes how is =
    let one : (g, o, w, bs) ≡ (f, offset, how, bytes) = cc in
    ap (λ (k : List ℕ × ℕ × ℕ × List ℕ). write_call k.0 k.1 k.2 k.3) one
write-of call f offset bytes how is = absurd (never-write (call_of call) (commit-or call (λ g k. let none : None ≡ Some g = k in absurd cc)) f offset bytes how is)

-- ---- along a history

module _ (m : Mounted) (setup : Setup) where
  -- each WRITE that waits was long
  abbrev pub Longs : List Entry → coarse.View → Type 0
  Longs h c = (x : ℕ) (f : List ℕ) (offset how : ℕ) (bytes : List ℕ) → c.wait x ≡ Some (story.write f offset bytes how) → WasLong m setup h (length h) f offset how bytes

  -- and each that was sent
  abbrev pub Sents : List Entry → Type 0
  Sents h = (i xid offset how : ℕ) (f bytes rec : List ℕ) → At h i (Sent rec) → SpellsCall xid (write_call f offset how bytes) rec → setup.first_xid ≤ xid
      → WasLong m setup h i f offset how bytes

  was-then : (h es : List Entry) (n k : ℕ) (f : List ℕ) (offset how : ℕ) (bytes : List ℕ) → n ≤ k → WasLong m setup h n f offset how bytes → WasLong m setup (h ++ es) k f offset how bytes
  was-then h es n k f offset how bytes later w = record {
    before = w.before;
    after = w.after ++ es;
    is = ap (λ (z : List Entry). z ++ es) w.is ∙ append_assoc w.before w.after es;
    early = let e = w.early in omega (arith, e, later);
    view = w.view;
    c = w.c;
    run = w.run;
    xid = w.xid;
    call = w.call;
    waits = w.waits;
    spells = w.spells;
    long = w.long;
  }

  pub longs-then : (h es : List Entry) (c : coarse.View) → Longs h c → Longs (h ++ es) c
  longs-then h es c longs x f offset how bytes waits =
      was-then h es (length h) (length (h ++ es)) f offset how bytes (let n : length (h ++ es) ≡ length h + length es = length-append h es in omega (arith, n)) (longs x f offset how bytes waits)

  -- once a reply is heard
  pub longs-heard : (h : List Entry) (c b : coarse.View) (x : ℕ) (r : story.Reply) → Hears c x r b → Longs h c → Longs h b × (c.next_xid ≤ b.next_xid)
  longs-heard h c b x r (inl t) longs = (λ z f offset how bytes waits. by z f offset how bytes waits (nat_eq z x) refl, let n = t.next in omega (arith, n))
    where
      by : (z : ℕ) (f : List ℕ) (offset how : ℕ) (bytes : List ℕ) → b.wait z ≡ Some (story.write f offset bytes how) → (q : Bool) → nat_eq z x ≡ q → WasLong m setup h (length h) f offset how bytes
      by z f offset how bytes waits true is =
          absurd (let no_way : None ≡ Some (story.write f offset bytes how) = sym t.gone ∙ subst (λ (n : ℕ). b.wait n ≡ Some (story.write f offset bytes how)) (eqb-true z x is) waits in cc)
      by z f offset how bytes waits false is = longs z f offset how bytes (sym (t.others z (eqb-false z x is)) ∙ waits)
  longs-heard h c b x r (inr t) longs = (λ z f offset how bytes waits. by z f offset how bytes waits (nat_eq z x) (nat_eq z t.y) refl refl, let n = t.next in omega (arith, n))
    where
      by : (z : ℕ) (f : List ℕ) (offset how : ℕ) (bytes : List ℕ) → b.wait z ≡ Some (story.write f offset bytes how) → (q s : Bool) → nat_eq z x ≡ q → nat_eq z t.y ≡ s
          → WasLong m setup h (length h) f offset how bytes
      by z f offset how bytes waits true s is its =
          absurd (let no_way : None ≡ Some (story.write f offset bytes how) = sym t.gone ∙ subst (λ (n : ℕ). b.wait n ≡ Some (story.write f offset bytes how)) (eqb-true z x is) waits in cc)
      by z f offset how bytes waits false true is its =
          longs x f offset how bytes (t.waits ∙ sym t.is ∙ subst (λ (n : ℕ). b.wait n ≡ Some (story.write f offset bytes how)) (eqb-true z t.y its) waits)
      by z f offset how bytes waits false false is its = longs z f offset how bytes (sym (t.others z (eqb-false z x is) (eqb-false z t.y its)) ∙ waits)

  -- and moves were made
  pub longs-moved : (h es : List Entry) (b d : coarse.View) (y : ℕ) (new : View) → new.wsize ≡ setup.wsize → Longs h b → Moves b d → Runs m setup (h ++ es) new d → Shown setup new d → MakesLong setup y new → y ≤ b.next_xid
      → Longs (h ++ es) d
  longs-moved h es b d y new size longs led run shown long low x f offset how bytes waits = by ((moves-wait b d led).1 x)
    where
      now : (o : Option (Waiting Purpose)) → waiting_at x new.calls.calls ≡ o → ShownCall setup x o (d.wait x) → y ≤ x → WasLong m setup (h ++ es) (length (h ++ es)) f offset how bytes
      now None is none late = absurd (let no_way : None ≡ Some (story.write f offset bytes how) = sym none ∙ waits in cc)
      now (Some w) is spelled late =
          let k : call_of spelled.0 ≡ story.write f offset bytes how = (let same : Some (call_of spelled.0) ≡ Some (story.write f offset bytes how) = sym spelled.2 ∙ waits in cc) in
          let spells : SpellsCallBy setup.cred x (write_call f offset how bytes) w.bytes = subst (λ (z : Call). SpellsCallBy setup.cred x z w.bytes) (write-of spelled.0 f offset bytes how k) spelled.1 in
          record {
            before = h ++ es;
            after = [];
            is = sym (append-nil (h ++ es));
            early = omega arith;
            view = new;
            c = d;
            run = run;
            xid = x;
            call = w;
            waits = is;
            spells = spells;
            long = subst (λ (n : ℕ). (length bytes ≡ n) ⊎ Stops (of_file f new.shelf.back) offset (offset + length bytes) how) size (long x w f offset how bytes late is spells);
          }

      by : (d.wait x ≡ b.wait x) ⊎ (b.next_xid ≤ x) → WasLong m setup (h ++ es) (length (h ++ es)) f offset how bytes
      by (inl same) = longs-then h es b longs x f offset how bytes (sym same ∙ waits)
      by (inr late) = now (waiting_at x new.calls.calls) refl (shown.calls.calls x) (omega (arith, low, late))

  -- ---- records that are sent

  pub sents-then : (h : List Entry) (e : Entry) (c : coarse.View) → Sents h → Longs h c → ((rec : List ℕ) → e ≡ Sent rec → RestsAt setup (Sent rec) c) → Sents (h ++ e ∷ [])
  sents-then h e c sents longs now i xid offset how f bytes rec at spelled own = by (At-cases h e i (Sent rec) at)
    where
      by : At h i (Sent rec) ⊎ ((i ≡ length h) × (e ≡ Sent rec)) → WasLong m setup (h ++ e ∷ []) i f offset how bytes
      by (inl before) = was-then h (e ∷ []) i i f offset how bytes (omega arith) (sents i xid offset how f bytes rec before spelled own)
      by (inr last) =
          let k = now rec last.1 in
          let same : write_call f offset how bytes ≡ k.1 = one-call xid k.0 (write_call f offset how bytes) k.1 rec tt spelled k.2.spells in
          was-then h (e ∷ []) (length h) i f offset how bytes (let n = last.0 in omega (arith, n))
          (longs k.0 f offset how bytes (k.3 ∙ ap (λ (z : Call). Some (call_of z)) (sym same)))

  pub sents-other : (h : List Entry) (e : Entry) → Sents h → ((rec : List ℕ) → e ≡ Sent rec → ⊥) → Sents (h ++ e ∷ [])
  sents-other h e sents never i xid offset how f bytes rec at spelled own = by (At-cases h e i (Sent rec) at)
    where
      by : At h i (Sent rec) ⊎ ((i ≡ length h) × (e ≡ Sent rec)) → WasLong m setup (h ++ e ∷ []) i f offset how bytes
      by (inl before) = was-then h (e ∷ []) i i f offset how bytes (omega arith) (sents i xid offset how f bytes rec before spelled own)
      by (inr last) = absurd (never rec last.1)

  -- in a lost session none is sent
  pub lost-unsent : (old new : View) (rec : List ℕ) → SendsBy old (Some rec) new → new.lost ≡ true → ⊥
  lost-unsent old new rec sends lost = by old.lost refl sends
    where
      by : (b : Bool) → old.lost ≡ b → SendsIf b old (Some rec) new → ⊥
      by true was s = absurd (let no_way : Some rec ≡ None = s.0 in cc)
      by false was s = absurd (let no_way : true ≡ false = sym lost ∙ ap (λ (v : View). v.lost) s.is ∙ was in cc)

  pub sents-first : (h : List Entry) → IsSetUp setup h → Sents h
  sents-first h up i xid offset how f bytes rec at spelled own =
      absurd (let low = up.below i xid rec at (xid_of_call xid (write_call f offset how bytes) rec spelled) in omega (arith, low, own))

  -- ---- steps

  pub longs-stirred : (h : List Entry) (c d : coarse.View) (y : ℕ) (new : View) → new.wsize ≡ setup.wsize → Longs h c → Moves c d → Runs m setup h new d → Shown setup new d → MakesLong setup y new → c.next_xid ≡ y → Longs h d
  longs-stirred h c d y new size longs led run shown long next =
      subst (λ (z : List Entry). Longs z d) (append-nil h)
      (longs-moved h [] c d y new size longs led (subst (λ (z : List Entry). Runs m setup z new d) (sym (append-nil h)) run) shown long (omega (arith, next)))

  pub longs-taken : (h es : List Entry) (c b d : coarse.View) (x : ℕ) (r : story.Reply) (y : ℕ) (new : View) → new.wsize ≡ setup.wsize → Longs h c → Hears c x r b → Moves b d → Runs m setup (h ++ es) new d → Shown setup new d
      → coarse.Renews c b x r × (d ≡ b) ⊎ MakesLong setup y new → c.next_xid ≡ y → Longs (h ++ es) d
  longs-taken h es c b d x r y new size longs heard led run shown (inl again) next =
      subst (λ (z : coarse.View). Longs (h ++ es) z) (sym again.1) (longs-then h es b (longs-heard h c b x r heard longs).0)
  longs-taken h es c b d x r y new size longs heard led run shown (inr long) next =
      let k = longs-heard h c b x r heard longs in
      let low = k.1 in
      longs-moved h es b d y new size k.0 led run shown long (omega (arith, next, low))
