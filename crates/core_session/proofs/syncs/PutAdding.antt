-- As a put's opening ends, its bytes come in to a file to which its path leads.
use Rattle.core_session.proofs.Prelude.{◌≡◌, ◌⊎◌, inl, inr, ◌+◌, ◌-◌, ℕ, List, [], ◌∷◌, ◌++◌, length, true, Some, sym, subst, arith, slice_index, slice_get-get_or, covers, low-of, high-of, Entry, Began, Answered, Dialed, Sent, Executed, Foreign, Flushed, Reboot, Delivered, Failed, Clock, Op, At, Modes, Origin, UnderWay, At-one, At-grow, At-cases, Mounted, Machine, machine_of, Fits, Setup, View, KnowsRoot, StepsTo, Reaches, begins, goes, loses, LeadsTo, byte_by}
use Rattle.world_model.specs.declared.op.Op.TheVariants as ops
use Rattle.claims.specs.Touched.{Covers}
use Rattle.core_session.proofs.syncs.Beginnings.{from-is}
use Rattle.core_session.proofs.syncs.Causes.{IsSaver, IsPut, Adding, by_put}
use Rattle.core_session.proofs.syncs.PutsBring.{put-byte}

-- ---- each operation that began fits

module _ (machines_of : ℕ → Op → Machine) (setup : Setup) where
  now-fits : (h : List Entry) (old : View) (e : Entry) (new : View) (lane line : ℕ) (op : Op) → StepsTo machines_of h old e new → e ≡ Began lane line op → Fits (machines_of lane op)
  now-fits h old (Began n l o) new lane line op t is =
      subst (λ (k : ℕ). Fits (machines_of k op)) (lane-is n l o is) (subst (λ (p : Op). Fits (machines_of n p)) (op-is n l o is) t.fits)
    where
      lane-is : (n l : ℕ) (o : Op) → Began n l o ≡ Began lane line op → n ≡ lane
      lane-is n l o e = cc

      op-is : (n l : ℕ) (o : Op) → Began n l o ≡ Began lane line op → o ≡ op
      op-is n l o e = cc
  now-fits h old (Answered n l a) new lane line op t is = absurd cc
  now-fits h old (Sent bytes) new lane line op t is = absurd cc
  now-fits h old (Delivered bytes) new lane line op t is = absurd cc
  now-fits h old Failed new lane line op t is = absurd cc
  now-fits h old (Dialed port) new lane line op t is = absurd cc
  now-fits h old (Executed xid call reply) new lane line op t is = absurd cc
  now-fits h old (Foreign call reply) new lane line op t is = absurd cc
  now-fits h old (Flushed file from len) new lane line op t is = absurd cc
  now-fits h old (Reboot verf) new lane line op t is = absurd cc
  now-fits h old (Clock ms) new lane line op t is = absurd cc

  pub began-fits : (h : List Entry) (v : View) → Reaches machines_of setup h v → (x lane line : ℕ) (op : Op) → At h x (Began lane line op) → Fits (machines_of lane op)
  began-fits _ _ (begins h v may up fresh) x lane line op at = absurd (up.unbegun x lane line op at)
  began-fits _ _ (goes h before v old e r is t) x lane line op at =
      by (At-cases before e x (Began lane line op) (subst (λ (k : List Entry). At k x (Began lane line op)) is at)) (began-fits before old r x lane line op)
    where
      by : At before x (Began lane line op) ⊎ ((x ≡ length before) × (e ≡ Began lane line op)) → (At before x (Began lane line op) → Fits (machines_of lane op)) → Fits (machines_of lane op)
      by (inl was) early = early was
      by (inr now) early = now-fits before old e v lane line op t now.1
  began-fits _ _ (loses h v b r shown is) x lane line op at = began-fits h b r x lane line op at

-- ---- a put

began-op : (a b c d : ℕ) (o p : Op) → Began a b o ≡ Began c d p → o ≡ p
began-op a b c d o p e = cc

module _ (m : Mounted) (modes : Modes) (origin : Origin) (setup : Setup) (whole : List Entry) (known : KnowsRoot origin whole m.root) (w : ℕ) (f : List ℕ) (i byte : ℕ) (laneW lineW : ℕ) (opW : Op)
    (beganW : At whole w (Began laneW lineW opW)) (has : byte_by opW i ≡ Some byte) where
  -- With its bytes come in so that `claims` says that it writes them to the file.
  pub put-adding : (h more rest : List Entry) (rec : List ℕ) (old : View) → whole ≡ (h ++ Delivered rec ∷ []) ++ more → whole ≡ h ++ rest → Reaches (machine_of m) setup h old
      → (lane x offset : ℕ) (path : List (List ℕ)) (text : List ℕ) → UnderWay h lane x (length h) (ops.Put path offset text) → (file : List ℕ) → LeadsTo m.root (h ++ Delivered rec ∷ []) path file
      → Adding modes origin whole w f i byte x file offset text
  put-adding h more rest rec old is split r lane x offset path text u file leads = record {
    fits = began-fits (machine_of m) setup h old r x lane u.line (ops.Put path offset text) u.began;
    no_saver = λ n k other there saver.
        subst IsSaver (began-op n k lane u.line other (ops.Put path offset text) (At-one whole x (Began n k other) (Began lane u.line (ops.Put path offset text)) there began)) saver;
    over = λ other same inside.
        by_put (slice_index text (i - offset))
        (put-byte modes origin m.root h more rec whole is known lane x offset path text u f (subst (LeadsTo m.root (h ++ Delivered rec ∷ []) path) same leads) i (slice_index text (i - offset)) (at-place inside))
        (λ n k other there. subst IsPut (sym (began-op n k lane u.line other (ops.Put path offset text) (At-one whole x (Began n k other) (Began lane u.line (ops.Put path offset text)) there began))) tt);
    own = λ here same.
        let op : ops.Put path offset text ≡ opW =
        began-op lane u.line laneW lineW (ops.Put path offset text) opW
        (At-one whole w (Began lane u.line (ops.Put path offset text)) (Began laneW lineW opW) (subst (λ (n : ℕ). At whole n (Began lane u.line (ops.Put path offset text))) here began) beganW) in
        let from = from-is offset text i byte (subst (λ (o : Op). byte_by o i ≡ Some byte) (sym op) has) in
        (from.inside, from.has);
    its = λ here writes. absurd (writes lane u.line (ops.Put path offset text) began);
  }
    where
      began : At whole x (Began lane u.line (ops.Put path offset text))
      began = subst (λ (k : List Entry). At k x (Began lane u.line (ops.Put path offset text))) (sym split) (At-grow h rest x (Began lane u.line (ops.Put path offset text)) u.began)

      at-place : covers offset (length text) i ≡ true → Covers offset text i (slice_index text (i - offset))
      at-place c =
          let low = low-of offset (offset + length text) i c in
          let high = high-of offset (offset + length text) i c in
          record { k = i - offset; place = omega (arith, low); byte = slice_get-get_or text (i - offset) 0 (omega (arith, low, high)) }
