-- The READs of a file, along a history.
use Rattle.core_counts.proofs.Prelude.{◌≡◌, ◌≢◌, ◌⊎◌, inl, inr, ℕ, Bool, true, false, List, length, refl, sym, ap, subst, arith, All-weaker, FileCall, same-or, Entry, Call, IsReadOf, Rooted, info_call, Terms, Mounted, machine_of, Setup, View, Notes, IsNfs, GoesFrom}
use Rattle.claims.specs.CallCounts.{read, IsShortRead, FewReads, ReadsOf}
use Rattle.nfs_file_calls.specs.declared.call.FileCall.TheVariants as files
use Rattle.world_model.specs.declared.message.Call.TheVariants as calls
use Rattle.world_model.specs.ReadSize.{ReadSized}
use Rattle.world_model.proofs.Growth.{Rooted-grow}
use Rattle.core_session.proofs.calls.Causes.{sized-grow}
use Rattle.core_session.proofs.calls.Whole.{calls-asked-but}
use Rattle.core_counts.proofs.counts.engine.Sum.{Summed, AsksOne, summed}
use Rattle.core_counts.proofs.counts.reads.Asked.{read-asks}
use Rattle.core_counts.proofs.counts.reads.Laws.{IsRead, base, Left, read-laws}
use Rattle.core_counts.proofs.counts.reads.Sizes.{one-root, one-size}
use Rattle.core_counts.specs.counts.Reads.{FewReadsMade}

is-nfs : (f : List ℕ) (call : Call) → IsReadOf f call → IsNfs call
is-nfs f call (read offset count is) = subst IsNfs (sym is) tt

not-info : (f root : List ℕ) → IsReadOf f (info_call root) → ⊥
not-info f root (read offset count is) = absurd (cc)

-- ---- whether a call is such a READ

is_same : (f g : List ℕ) → (g ≡ f) ⊎ (g ≢ f) → Bool
is_same f g (inl same) = true
is_same f g (inr apart) = false

test-file : List ℕ → FileCall → Bool
test-file f (files.Read g offset count) = is_same f g (same-or f g)
test-file f call = false

test : List ℕ → Call → Bool
test f (calls.File call) = test-file f call
test f call = false

same-sound : (f g : List ℕ) (o : (g ≡ f) ⊎ (g ≢ f)) → is_same f g o ≡ true → g ≡ f
unfolding is_same
same-sound f g (inl same) is = same
same-sound f g (inr apart) is = absurd (cc)

same-complete : (f : List ℕ) (o : (f ≡ f) ⊎ (f ≢ f)) → is_same f f o ≡ true
unfolding is_same
same-complete f (inl same) = refl
same-complete f (inr apart) = absurd (apart refl)

file-sound : (f : List ℕ) (call : FileCall) → test-file f call ≡ true → IsReadOf f (calls.File call)
unfolding test-file
file-sound f (files.Read g offset count) is = read offset count (ap (λ (k : List ℕ). calls.File (files.Read k offset count)) (same-sound f g (same-or f g) is))
file-sound f call is = absurd (cc)

test-sound : (f : List ℕ) (call : Call) → test f call ≡ true → IsReadOf f call
unfolding test
test-sound f (calls.File call) is = file-sound f call is
test-sound f call is = absurd (cc)

test-complete : (f : List ℕ) (call : Call) → IsReadOf f call → test f call ≡ true
unfolding test test-file
test-complete f call (read offset count is) = subst (λ (c : Call). test f c ≡ true) (sym is) (same-complete f (same-or f f))

module _ (m : Mounted) (terms : Terms) (setup : Setup) (before h : List Entry) (v : View) (g : GoesFrom m terms setup before h v) (notes : Notes (machine_of m) setup h v) (f : List ℕ) where
  own : Summed terms h (IsReadOf f) (IsShortRead f) (base m g.some f)
  own = summed m terms setup before h v g notes (IsReadOf f) (IsShortRead f) IsRead (base m g.some f) (Left m g.some f) (read-laws m g.some f) (λ call p. is-nfs f call p)
      (λ root p. not-info f root p) (test f) (λ call is. test-sound f call is) (λ x n op call asks p. test-complete f call p)
      (λ x n op call began asked asks p. let r = read-asks terms h x n op call f asks p in (r.slot, r.offset, r.count, r.is))

  own-reads : FewReads terms h f m.rsize
  own-reads = record {
    reads = own.asking;
    short = own.credits;
    operations = record {
      different = own.different;
      each = All-weaker (AsksOne terms h (IsReadOf f)) (ReadsOf terms h f) (λ o k. read-asks terms h o.0 k.end o.1 k.call f k.asks k.is) own.asking own.each;
    };
    replied = record { different = own.apart; each = own.replied };
    few = own.few;
  }

  size-is : (root : List ℕ) (rsize : ℕ) → Rooted terms.origin h (length h) root → ReadSized h (length h) root terms.rsize rsize → m.rsize ≡ rsize
  size-is root rsize rooted sized =
      let asked = calls-asked-but m terms setup before h v g notes in
      let same = one-root terms h asked (length before) (length h) m.root root
      (subst (λ (k : List Entry). Rooted terms.origin k (length before) m.root) (sym g.grows) (Rooted-grow terms.origin before g.more (length before) m.root g.set_up.root)) rooted in
      one-size terms h asked (length before) (length h) root terms.rsize m.rsize rsize
      (subst (λ (r : List ℕ). ReadSized h (length before) r terms.rsize m.rsize) same
      (sized-grow before h g.more g.grows (length before) (length before) m.root terms.rsize m.rsize (omega arith) g.set_up.read)) sized

  pub few-reads : (root : List ℕ) (rsize : ℕ) → Rooted terms.origin h (length h) root → ReadSized h (length h) root terms.rsize rsize → FewReads terms h f rsize
  few-reads root rsize rooted sized = subst (FewReads terms h f) (size-is root rsize rooted sized) own-reads

pub few-reads-made : FewReadsMade
few-reads-made m terms setup before h v g notes f root rsize rooted sized = few-reads m terms setup before h v g notes f root rsize rooted sized
