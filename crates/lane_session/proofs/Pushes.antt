-- What a history shows after it has gone on.
use Rattle.std.proofs.Common.{◌≡◌, ℕ, List, [], ◌∷◌, ◌++◌, true, false, cond, nat_eq, refl, sym, ap, subst, ◌∙◌, append-nil, append_assoc}
use Rattle.world_model.specs.declared.entry.Entry.{Entry}
use Rattle.world_model.specs.declared.entry.Entry.TheVariants.{Began, Answered, Dialed, Sent, Executed, Foreign, Flushed, Reboot, Delivered, Failed, Clock}
use Rattle.world_model.specs.Clocked.{clocks}
use Rattle.world_model.specs.Entries.{ours}
use Rattle.world_model.specs.Follows.{begun}
use Rattle.lane_session.specs.Running.{marks}

pub clocks-append : (h es : List Entry) → clocks (h ++ es) ≡ clocks h ++ clocks es
clocks-append [] es = refl
clocks-append (Began l line op ∷ h) es = clocks-append h es
clocks-append (Answered l line a ∷ h) es = clocks-append h es
clocks-append (Dialed port ∷ h) es = clocks-append h es
clocks-append (Sent bytes ∷ h) es = clocks-append h es
clocks-append (Executed xid call reply ∷ h) es = clocks-append h es
clocks-append (Foreign call reply ∷ h) es = clocks-append h es
clocks-append (Flushed file from len ∷ h) es = clocks-append h es
clocks-append (Reboot verf ∷ h) es = clocks-append h es
clocks-append (Delivered bytes ∷ h) es = clocks-append h es
clocks-append (Failed ∷ h) es = clocks-append h es
clocks-append (Clock ms ∷ h) es = ap (λ (t : List ℕ). ms ∷ t) (clocks-append h es)

pub begun-append : (lane : ℕ) (h es : List Entry) → begun lane (h ++ es) ≡ begun lane h ++ begun lane es
begun-append lane [] es = refl
begun-append lane (Began l line op ∷ h) es =
    let rest = begun-append lane h es in
    elim (nat_eq l lane) as (λ b. cond b (Began l line op ∷ begun lane (h ++ es)) (begun lane (h ++ es)) ≡ cond b (Began l line op ∷ begun lane h) (begun lane h) ++ begun lane es) [
      | true ↦ ap (λ (t : List Entry). Began l line op ∷ t) rest
      | false ↦ rest
    ]
begun-append lane (Answered l line a ∷ h) es = begun-append lane h es
begun-append lane (Dialed port ∷ h) es = begun-append lane h es
begun-append lane (Sent bytes ∷ h) es = begun-append lane h es
begun-append lane (Executed xid call reply ∷ h) es = begun-append lane h es
begun-append lane (Foreign call reply ∷ h) es = begun-append lane h es
begun-append lane (Flushed file from len ∷ h) es = begun-append lane h es
begun-append lane (Reboot verf ∷ h) es = begun-append lane h es
begun-append lane (Delivered bytes ∷ h) es = begun-append lane h es
begun-append lane (Failed ∷ h) es = begun-append lane h es
begun-append lane (Clock ms ∷ h) es = begun-append lane h es

pub marks-append : (h es : List Entry) → marks (h ++ es) ≡ marks h ++ marks es
marks-append [] es = refl
marks-append (Began l line op ∷ h) es = ap (λ (t : List Entry). Began l line op ∷ t) (marks-append h es)
marks-append (Answered l line a ∷ h) es = ap (λ (t : List Entry). Answered l line a ∷ t) (marks-append h es)
marks-append (Dialed port ∷ h) es = marks-append h es
marks-append (Sent bytes ∷ h) es = marks-append h es
marks-append (Executed xid call reply ∷ h) es = marks-append h es
marks-append (Foreign call reply ∷ h) es = marks-append h es
marks-append (Flushed file from len ∷ h) es = marks-append h es
marks-append (Reboot verf ∷ h) es = marks-append h es
marks-append (Delivered bytes ∷ h) es = marks-append h es
marks-append (Failed ∷ h) es = marks-append h es
marks-append (Clock ms ∷ h) es = ap (λ (t : List Entry). Clock ms ∷ t) (marks-append h es)

-- what the server adds is no mark
pub marks-ours : (es : List Entry) → marks es ≡ marks (ours es)
marks-ours [] = refl
marks-ours (Began l line op ∷ es) = ap (λ (t : List Entry). Began l line op ∷ t) (marks-ours es)
marks-ours (Answered l line a ∷ es) = ap (λ (t : List Entry). Answered l line a ∷ t) (marks-ours es)
marks-ours (Dialed port ∷ es) = marks-ours es
marks-ours (Sent bytes ∷ es) = marks-ours es
marks-ours (Executed xid call reply ∷ es) = marks-ours es
marks-ours (Foreign call reply ∷ es) = marks-ours es
marks-ours (Flushed file from len ∷ es) = marks-ours es
marks-ours (Reboot verf ∷ es) = marks-ours es
marks-ours (Delivered bytes ∷ es) = marks-ours es
marks-ours (Failed ∷ es) = marks-ours es
marks-ours (Clock ms ∷ es) = ap (λ (t : List Entry). Clock ms ∷ t) (marks-ours es)

-- A fact that each entry keeps that is no mark is kept by any number of them.
pub quiet_by : (P : List Entry → Type 0) → ((h : List Entry) (e : Entry) → marks (e ∷ []) ≡ [] → P h → P (h ++ e ∷ [])) → (h more : List Entry) → marks more ≡ [] → P h → P (h ++ more)
quiet_by P one h [] q p = rw append-nil p
quiet_by P one h (e ∷ more) q p = let k = apart e more q in
    subst P (append_assoc h (e ∷ []) more) (quiet_by P one (h ++ e ∷ []) more k.1 (one h e k.0 p))
  where
    apart : (d : Entry) (ds : List Entry) → marks (d ∷ ds) ≡ [] → (marks (d ∷ []) ≡ []) × (marks ds ≡ [])
    apart (Began l line op) ds q = absurd cc
    apart (Answered l line a) ds q = absurd cc
    apart (Dialed port) ds q = (refl, q)
    apart (Sent bytes) ds q = (refl, q)
    apart (Executed xid call reply) ds q = (refl, q)
    apart (Foreign call reply) ds q = (refl, q)
    apart (Flushed file from len) ds q = (refl, q)
    apart (Reboot verf) ds q = (refl, q)
    apart (Delivered bytes) ds q = (refl, q)
    apart Failed ds q = (refl, q)
    apart (Clock ms) ds q = absurd cc
