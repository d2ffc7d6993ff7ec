-- How many calls of NFS the set-up makes: FSINFO, once.
use Rattle.std.proofs.Common.{inl, inr, ◌⊎◌, ◌≡◌, ◌≢◌, ◌≤◌, ◌<◌, ◌+◌, ℕ, zero, suc, Bool, true, false, ◌||◌, eqb, List, [], ◌∷◌, ◌++◌, length, Result, Ok, Err, refl, sym, ap, subst, ◌∙◌, arith}
use Rattle.std.specs.List.{list_any}
use Rattle.std.proofs.lemmas.Bool.{eqb-false}
use Rattle.nfs_types.specs.declared.nfs_proc.TheConstants.{GETATTR, LOOKUP, READ, WRITE, COMMIT, FSINFO}
use Rattle.rpc_message.specs.Call.{call_at}
use Rattle.rpc_message.proofs.CallLaws.{call_again}
use Rattle.rpc_retry.specs.Held.{Held, next_xid}
use Rattle.world_model.specs.declared.entry.Entry.{Entry}
use Rattle.world_model.specs.declared.entry.Entry.TheVariants.{Began, Answered, Dialed, Sent, Executed, Foreign, Flushed, Reboot, Delivered, Failed, Clock}
use Rattle.world_model.specs.declared.message.Call.{Call}
use Rattle.world_model.specs.Counts.{Counted, Every, Only, counts_proc, xid_counted, xids_sent, different, calls_made, tally_of}
use Rattle.world_model.specs.Entries.{At}
use Rattle.world_model.specs.Messages.{SpellsCall, head_of}
use Rattle.world_model.specs.Mounts.{Origin, Mounting, Given, mount_call, info_call}
use Rattle.world_model.specs.Rows.{WasSent}
use Rattle.session_setup.specs.Exchanges.{IsBase}
use Rattle.session_setup.specs.Phases.{tally_after}
use Rattle.session_setup.specs.Sendings.{IsSetUpCall, mounts, informs, IsSetUpRecord, info_xid}
use Rattle.session_setup.proofs.Bases.{one_number, xid_of_call}

-- ---- lists of one number

-- each is this number
abbrev AreAll : ℕ → List ℕ → Type 0
AreAll x [] = Unit {0}
AreAll x (y ∷ ys) = (y ≡ x) × AreAll x ys

all_append : (x : ℕ) (ys zs : List ℕ) → AreAll x ys → AreAll x zs → AreAll x (ys ++ zs)
all_append x [] zs p q = q
all_append x (y ∷ ys) zs p q = (p.0, all_append x ys zs p.1 q)

same_eqb : (x : ℕ) → eqb x x ≡ true
same_eqb x = elim (eqb x x) as (λ t. eqb x x ≡ t → eqb x x ≡ true) [ true ↦ λ e. e | false ↦ λ e. absurd (eqb-false x x e refl) ] refl

-- there is one number, where there is any
pub count_one : (x y : ℕ) (ys : List ℕ) → AreAll x (y ∷ ys) → length (different (y ∷ ys)) ≡ 1
count_one x y [] p = refl
count_one x y (z ∷ zs) p =
    let first : z ≡ y = p.1.0 ∙ sym p.0 in
    let found : list_any (λ w. eqb w y) (z ∷ zs) ≡ true = rw (first, same_eqb y) refl in
    rw found (count_one x z zs p.1)

-- ---- the xids of the calls that were sent

-- what a record counts for
abbrev pub CountsAs : Counted → ℕ → List ℕ → Type 0
CountsAs which x b = AreAll x (xid_counted which (call_at b))

abbrev pub EachCounts : Counted → ℕ → List Entry → Type 0
EachCounts which x h = (i : ℕ) (b : List ℕ) → At h i (Sent b) → CountsAs which x b

pub xids_all : (which : Counted) (x : ℕ) (h : List Entry) → EachCounts which x h → AreAll x (xids_sent which h)
xids_all which x [] each = tt
xids_all which x (Sent b ∷ h) each = all_append x (xid_counted which (call_at b)) (xids_sent which h) (each 0 b refl) (xids_all which x h (λ i k at. each (suc i) k at))
xids_all which x (Began lane line op ∷ h) each = xids_all which x h (λ i k at. each (suc i) k at)
xids_all which x (Answered lane line answer ∷ h) each = xids_all which x h (λ i k at. each (suc i) k at)
xids_all which x (Dialed port ∷ h) each = xids_all which x h (λ i k at. each (suc i) k at)
xids_all which x (Executed xid call reply ∷ h) each = xids_all which x h (λ i k at. each (suc i) k at)
xids_all which x (Foreign call reply ∷ h) each = xids_all which x h (λ i k at. each (suc i) k at)
xids_all which x (Flushed file from len ∷ h) each = xids_all which x h (λ i k at. each (suc i) k at)
xids_all which x (Reboot verf ∷ h) each = xids_all which x h (λ i k at. each (suc i) k at)
xids_all which x (Delivered bytes ∷ h) each = xids_all which x h (λ i k at. each (suc i) k at)
xids_all which x (Failed ∷ h) each = xids_all which x h (λ i k at. each (suc i) k at)
xids_all which x (Clock ms ∷ h) each = xids_all which x h (λ i k at. each (suc i) k at)

-- none counts
abbrev pub NoneCounts : Counted → List Entry → Type 0
NoneCounts which h = (i : ℕ) (b : List ℕ) → At h i (Sent b) → xid_counted which (call_at b) ≡ []

pub xids_none : (which : Counted) (h : List Entry) → NoneCounts which h → xids_sent which h ≡ []
xids_none which [] each = refl
xids_none which (Sent b ∷ h) each = let e = each 0 b refl in let r = xids_none which h (λ i k at. each (suc i) k at) in rw (e, r) refl
xids_none which (Began lane line op ∷ h) each = xids_none which h (λ i k at. each (suc i) k at)
xids_none which (Answered lane line answer ∷ h) each = xids_none which h (λ i k at. each (suc i) k at)
xids_none which (Dialed port ∷ h) each = xids_none which h (λ i k at. each (suc i) k at)
xids_none which (Executed xid call reply ∷ h) each = xids_none which h (λ i k at. each (suc i) k at)
xids_none which (Foreign call reply ∷ h) each = xids_none which h (λ i k at. each (suc i) k at)
xids_none which (Flushed file from len ∷ h) each = xids_none which h (λ i k at. each (suc i) k at)
xids_none which (Reboot verf ∷ h) each = xids_none which h (λ i k at. each (suc i) k at)
xids_none which (Delivered bytes ∷ h) each = xids_none which h (λ i k at. each (suc i) k at)
xids_none which (Failed ∷ h) each = xids_none which h (λ i k at. each (suc i) k at)
xids_none which (Clock ms ∷ h) each = xids_none which h (λ i k at. each (suc i) k at)

-- one that counts is among them
pub xids_some : (which : Counted) (x : ℕ) (h : List Entry) (i : ℕ) (b : List ℕ) → At h i (Sent b) → xid_counted which (call_at b) ≡ x ∷ [] → (y : ℕ) × (ys : List ℕ) × (xids_sent which h ≡ y ∷ ys)
xids_some which x [] i b at e = absurd cc
xids_some which x (Sent k ∷ h) zero b at e =
    let same : k ≡ b = sent_is k b at in
    (x, xids_sent which h, ap (λ (t : List ℕ). t ++ xids_sent which h) (ap (λ (t : List ℕ). xid_counted which (call_at t)) same ∙ e))
  where
    sent_is : (k l : List ℕ) → Rattle.std.proofs.Common.Some (Sent k) ≡ Rattle.std.proofs.Common.Some (Sent l) → k ≡ l
    sent_is k l e = cc
xids_some which x (Sent k ∷ h) (suc i) b at e = behind (xid_counted which (call_at k)) (xids_some which x h i b at e)
  where
    behind : (zs : List ℕ) → (y : ℕ) × (ys : List ℕ) × (xids_sent which h ≡ y ∷ ys) → (y : ℕ) × (ys : List ℕ) × (zs ++ xids_sent which h ≡ y ∷ ys)
    behind [] s = s
    behind (z ∷ zs) s = (z, zs ++ xids_sent which h, refl)
xids_some which x (Began lane line op ∷ h) zero b at e = absurd cc
xids_some which x (Began lane line op ∷ h) (suc i) b at e = xids_some which x h i b at e
xids_some which x (Answered lane line answer ∷ h) zero b at e = absurd cc
xids_some which x (Answered lane line answer ∷ h) (suc i) b at e = xids_some which x h i b at e
xids_some which x (Dialed port ∷ h) zero b at e = absurd cc
xids_some which x (Dialed port ∷ h) (suc i) b at e = xids_some which x h i b at e
xids_some which x (Executed xid call reply ∷ h) zero b at e = absurd cc
xids_some which x (Executed xid call reply ∷ h) (suc i) b at e = xids_some which x h i b at e
xids_some which x (Foreign call reply ∷ h) zero b at e = absurd cc
xids_some which x (Foreign call reply ∷ h) (suc i) b at e = xids_some which x h i b at e
xids_some which x (Flushed file from len ∷ h) zero b at e = absurd cc
xids_some which x (Flushed file from len ∷ h) (suc i) b at e = xids_some which x h i b at e
xids_some which x (Reboot verf ∷ h) zero b at e = absurd cc
xids_some which x (Reboot verf ∷ h) (suc i) b at e = xids_some which x h i b at e
xids_some which x (Delivered bytes ∷ h) zero b at e = absurd cc
xids_some which x (Delivered bytes ∷ h) (suc i) b at e = xids_some which x h i b at e
xids_some which x (Failed ∷ h) zero b at e = absurd cc
xids_some which x (Failed ∷ h) (suc i) b at e = xids_some which x h i b at e
xids_some which x (Clock ms ∷ h) zero b at e = absurd cc
xids_some which x (Clock ms ∷ h) (suc i) b at e = xids_some which x h i b at e

-- ---- the records of the set-up

-- FSINFO isn't counted apart
abbrev IsApart : Counted → Type 0
IsApart which = counts_proc which FSINFO ≡ false

mount_counts : (which : Counted) (x : ℕ) (path : List ℕ) (b : List ℕ) → SpellsCall x (mount_call path) b → xid_counted which (call_at b) ≡ []
mount_counts which x path b s = rw (call_again (head_of x (mount_call path)) s.args b s.head) refl

info_counts : (x : ℕ) (root : List ℕ) (b : List ℕ) → SpellsCall x (info_call root) b → xid_counted Every (call_at b) ≡ x ∷ []
info_counts x root b s = rw (call_again (head_of x (info_call root)) s.args b s.head) refl

info_apart : (which : Counted) (x : ℕ) (root : List ℕ) (b : List ℕ) → IsApart which → SpellsCall x (info_call root) b → xid_counted which (call_at b) ≡ []
info_apart which x root b apart s = rw (call_again (head_of x (info_call root)) s.args b s.head, apart) refl

-- FSINFO's xid isn't that of MNT
apart_xids : (o : Origin) (path : List ℕ) (first : ℕ) → o ≡ Mounting path → info_xid o first ≡ first → ⊥
apart_xids (Mounting other) path first is e = omega (arith, e)
apart_xids (Given root) path first is e = absurd cc

-- The record counts for nothing, or for FSINFO, whose xid is this.
pub record Counts (o : Origin) (first next : ℕ) (b : List ℕ) : Type 0 where
  pub every : (xid_counted Every (call_at b) ≡ []) ⊎ ((xid_counted Every (call_at b) ≡ info_xid o first ∷ []) × (info_xid o first < next))
  pub apart : (which : Counted) → IsApart which → xid_counted which (call_at b) ≡ []

record_counts : (o : Origin) (c : Held (Unit {0})) (h : List Entry) (i : ℕ) (b : List ℕ) → IsBase o c h → At h i (Sent b) → Counts o c.first_xid (next_xid c) b
record_counts o c h i b base at = by_call r.is
  where
    r : IsSetUpRecord o c.cred c.first_xid h i b
    r = base.sent.caused i b at

    low : r.xid < next_xid c
    low = (base.sent.among i r.xid b at (xid_of_call r.xid r.call b r.made.spells)).1

    by_call : IsSetUpCall o c.first_xid h i r.xid r.call → Counts o c.first_xid (next_xid c) b
    by_call (mounts path a is e) =
        let s : SpellsCall r.xid (mount_call path) b = subst (λ (k : Call). SpellsCall r.xid k b) is r.made.spells in
        record { every = inl (mount_counts Every r.xid path b s); apart = λ which apart. mount_counts which r.xid path b s }
    by_call (informs root a is e) =
        let s : SpellsCall r.xid (info_call root) b = subst (λ (k : Call). SpellsCall r.xid k b) is r.made.spells in
        record {
          every = inr (info_counts r.xid root b s ∙ ap (λ (n : ℕ). n ∷ []) e, subst (λ (n : ℕ). n < next_xid c) e low);
          apart = λ which apart. info_apart which r.xid root b apart s;
        }

-- the procedures that are counted apart
apart_none : (o : Origin) (c : Held (Unit {0})) (h : List Entry) (which : Counted) → IsApart which → IsBase o c h → calls_made which h ≡ 0
apart_none o c h which apart base = rw (xids_none which h (λ i b at. (record_counts o c h i b base at).apart which apart)) refl

tally_is : (o : Origin) (c : Held (Unit {0})) (h : List Entry) (n : ℕ) → calls_made Every h ≡ n → IsBase o c h → tally_of h ≡ tally_after n
tally_is o c h n e base =
    rw (e, apart_none o c h (Only GETATTR) refl base, apart_none o c h (Only LOOKUP) refl base, apart_none o c h (Only READ) refl base, apart_none o c h (Only WRITE) refl base, apart_none o c h (Only COMMIT) refl base) refl

-- FSINFO wasn't made
pub tally_none : (o : Origin) (c : Held (Unit {0})) (h : List Entry) → next_xid c ≤ info_xid o c.first_xid → IsBase o c h → tally_of h ≡ tally_after 0
tally_none o c h le base =
    tally_is o c h 0 (rw (xids_none Every h (λ i b at. elim (record_counts o c h i b base at).every [ inl e ↦ e | inr e ↦ absurd (omega (arith, le, e.1)) ])) refl) base

-- FSINFO was sent
pub tally_one : (o : Origin) (c : Held (Unit {0})) (h : List Entry) → WasSent h (info_xid o c.first_xid) (length h) → IsBase o c h → tally_of h ≡ tally_after 1
tally_one o c h was base = tally_is o c h 1 every base
  where
    x : ℕ
    x = info_xid o c.first_xid

    all : AreAll (info_xid o c.first_xid) (xids_sent Every h)
    all = xids_all Every (info_xid o c.first_xid) h (λ i b at. elim (record_counts o c h i b base at).every [ inl e ↦ subst (AreAll (info_xid o c.first_xid)) (sym e) tt | inr e ↦ subst (AreAll (info_xid o c.first_xid)) (sym e.0) (refl, tt) ])

    r : IsSetUpRecord o c.cred c.first_xid h was.at was.bytes
    r = base.sent.caused was.at was.bytes was.sent

    own : r.xid ≡ info_xid o c.first_xid
    own = one_number was.bytes r.xid (info_xid o c.first_xid) (xid_of_call r.xid r.call was.bytes r.made.spells) was.under

    counted : IsSetUpCall o c.first_xid h was.at r.xid r.call → xid_counted Every (call_at was.bytes) ≡ info_xid o c.first_xid ∷ []
    counted (mounts path a is e) = absurd (apart_xids o path c.first_xid a (sym own ∙ e))
    counted (informs root a is e) = info_counts r.xid root was.bytes (subst (λ (k : Call). SpellsCall r.xid k was.bytes) is r.made.spells) ∙ ap (λ (n : ℕ). n ∷ []) e

    every : calls_made Every h ≡ 1
    every =
        let s = xids_some Every (info_xid o c.first_xid) h was.at was.bytes was.sent (counted r.is) in
        rw s.2 (count_one (info_xid o c.first_xid) s.0 s.1 (subst (AreAll (info_xid o c.first_xid)) s.2 all))
