-- On an honest server that gives each change another stamp, a file that has a stamp again had it all the time.
use Rattle.core_session.proofs.Prelude.{◌≡◌, ◌≤◌, ◌<◌, inl, inr, ℕ, zero, suc, Bool, true, false, ◌&&◌, ◌==◌, List, length, Some, refl, sym, ap, subst, ◌∙◌, arith, cases_lt, Time, Stamp, stamp_of, Fresh, History, Lawful, Holds, Bytes, Entries, Text, Object, HasStamp}
use Rattle.std.proofs.lemmas.Bool.{eq-eqb}
use Rattle.nfs_types.specs.Stamps.{same_time, same_stamp}
use Rattle.world_model.specs.Fresh.{file_stamp}
use Rattle.world_model.specs.Server.{Listed}
use Rattle.page_cache.proofs.States.{same_stamp-is}
use Rattle.world_model.proofs.Lasting.{SameSort, lasts}

both-so : (a b : Bool) → a ≡ true → b ≡ true → (a && b) ≡ true
both-so true true p q = refl
both-so true false p q = q
both-so false b p q = p

time-self : (a : Time) → same_time a a ≡ true
time-self a = both-so (a.seconds == a.seconds) (a.nanos == a.nanos) (eq-eqb a.seconds a.seconds refl) (eq-eqb a.nanos a.nanos refl)

stamp-self : (s : Stamp) → same_stamp s s ≡ true
stamp-self s =
    both-so ((s.size == s.size) && same_time s.mtime s.mtime) (same_time s.ctime s.ctime)
    (both-so (s.size == s.size) (same_time s.mtime s.mtime) (eq-eqb s.size s.size refl) (time-self s.mtime)) (time-self s.ctime)

other-stamp : (a b : Stamp) → same_stamp a b ≡ false → a ≡ b → ⊥
other-stamp a b e same = absurd (let no_way : true ≡ false = sym (stamp-self a) ∙ ap (λ (z : Stamp). same_stamp a z) same ∙ e in cc)

some-is : (a b : Object) → Some a ≡ Some b → a ≡ b
some-is a b e = cc

module _ (t : History) (l : Lawful t) (fresh : Fresh t) (f : List ℕ) where
  -- it has the stamp at a moment, and bytes
  record At (n : ℕ) (s : Stamp) : Type 0 where
    file : Object
    is : (t.at n).object f ≡ Some file
    now : List ℕ
    stable : List ℕ
    holds : file.holds ≡ Bytes now stable
    stamp : stamp_of file.attr ≡ s

  at-of : (n : ℕ) (s : Stamp) (now : List ℕ) → HasStamp t n f s now → At n s
  at-of n s now h = record { file = h.file; is = h.is; now = now; stable = h.stable; holds = h.holds; stamp = h.stamp }

  same-moment : (m n : ℕ) (a b : Stamp) → m ≡ n → At m a → At n b → a ≡ b
  same-moment m n a b z p q =
      let there : (t.at n).object f ≡ Some p.file = subst (λ (k : ℕ). (t.at k).object f ≡ Some p.file) z p.is in
      sym p.stamp ∙ ap (λ (o : Object). stamp_of o.attr) (some-is p.file q.file (sym there ∙ q.is)) ∙ q.stamp

  back : (m : ℕ) (s new : Stamp) → At m s → At (suc m) new → (n : ℕ) → suc m ≤ n → n ≤ length t.entries → At n s → new ≡ s
  back m s new a b zero late within c = absurd (omega (arith, late))
  back m s new a b (suc n) late within c = elim (cases_lt m n) [
    | inr ge ↦ same-moment (suc m) (suc n) new s (omega (arith, late, ge)) b c
    | inl lt ↦
        let q = lasts t l (suc m) n (omega (arith, lt)) (omega (arith, within)) f b.file b.is in
        let r : SameSort (Bytes b.now b.stable) q.new.holds = subst (λ (z : Holds). SameSort z q.new.holds) b.holds q.sort in
        by lt (λ c. back m s new a b n (omega (arith, lt)) (omega (arith, within)) c) q.new q.is r (same_stamp (stamp_of q.new.attr) s) refl
  ]
    where
      by : m < n → (At n s → new ≡ s) → (o : Object) → (t.at n).object f ≡ Some o → SameSort (Bytes b.now b.stable) o.holds → (same : Bool) → same_stamp (stamp_of o.attr) s ≡ same → new ≡ s
      by lt again o is r true e =
          again (record { file = o; is = is; now = r.0; stable = r.1; holds = r.2; stamp = same_stamp-is (stamp_of o.attr) s e })
      by lt again o is r false e =
          absurd (fresh n (omega (arith, within)) f o c.file is c.is (file_stamp r.0 r.1 r.2 (λ z. other-stamp (stamp_of o.attr) s e (z ∙ c.stamp))) m a.file (omega (arith, lt)) a.is
          (a.stamp ∙ sym c.stamp))

  pub stamp-stays : (m n : ℕ) (s new : Stamp) (x y z : List ℕ) → HasStamp t m f s x → HasStamp t (suc m) f new y → HasStamp t n f s z → suc m ≤ n → new ≡ s
  stamp-stays m n s new x y z a b c late = back m s new (at-of m s x a) (at-of (suc m) new y b) n late c.moment (at-of n s z c)

  -- a file stays one, and was one
  no-list : (entries : List Listed) (now stable : List ℕ) → Bytes now stable ≡ Entries entries → ⊥
  no-list entries now stable e = cc

  no-text : (text now stable : List ℕ) → Bytes now stable ≡ Text text → ⊥
  no-text text now stable e = cc

  was-file : (a b : Holds) (now stable : List ℕ) → b ≡ Bytes now stable → SameSort a b → (n : List ℕ) × (s : List ℕ) × (a ≡ Bytes n s)
  was-file (Bytes n s) b now stable is sort = (n, s, refl)
  was-file (Entries entries) b now stable is sort = absurd (no-list sort.0 now stable (sym is ∙ sort.1))
  was-file (Text text) b now stable is sort = absurd (no-text text now stable (sym is ∙ sort))

  pub is-file : (m n : ℕ) (s : Stamp) (x : List ℕ) (o : Object) → HasStamp t m f s x → n ≤ length t.entries → (t.at n).object f ≡ Some o
      → (now : List ℕ) × (stable : List ℕ) × (o.holds ≡ Bytes now stable)
  is-file m n s x o h within is = elim (cases_lt m n) [
    | inl lt ↦
        let q = lasts t l m n (omega (arith, lt)) within f h.file h.is in
        let same : q.new ≡ o = some-is q.new o (sym q.is ∙ is) in
        let r : SameSort (Bytes x h.stable) q.new.holds = subst (λ (z : Holds). SameSort z q.new.holds) h.holds q.sort in
        (r.0, r.1, subst (λ (z : Object). z.holds ≡ Bytes r.0 r.1) same r.2)
    | inr ge ↦
        let q = lasts t l n m ge h.moment f o is in
        let same : q.new ≡ h.file = some-is q.new h.file (sym q.is ∙ h.is) in
        was-file o.holds q.new.holds x h.stable (ap (λ (z : Object). z.holds) same ∙ h.holds) q.sort
  ]
