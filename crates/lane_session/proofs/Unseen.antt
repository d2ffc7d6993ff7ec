-- What the server or another client adds to the history leaves a session as it is.
use Rattle.std.proofs.Common.{◌≡◌, ℕ, suc, List, [], ◌∷◌, ◌++◌, slice_get, Some, refl, sym, ap, subst, ◌∙◌, append-nil, append_assoc}
use Rattle.world_model.specs.declared.answer.Answer.TheVariants.{Refused}
use Rattle.world_model.specs.declared.entry.Entry.{Entry}
use Rattle.world_model.specs.declared.entry.Entry.TheVariants.{Began, Answered, Dialed, Sent, Executed, Foreign, Flushed, Reboot, Delivered, Failed, Clock}
use Rattle.world_model.specs.Entries.{ours}
use Rattle.world_model.specs.Follows.{begun}
use Rattle.nfs_script.specs.declared.script.ScriptLine.{ScriptLine}
use Rattle.lane_session.specs.declared.running.Session.{Session}
use Rattle.lane_session.specs.Going.{Goes}
use Rattle.lane_session.specs.Endings.{entries_of}
use Rattle.lane_session.specs.Running.{marks}
use Rattle.lane_session.proofs.LaneLaws.{resting-grow}
use Rattle.lane_session.proofs.Placing.{silent, no-mark, timed-quiet, placed-grow}
use Rattle.lane_session.proofs.Since.{since-quiet, within-grow}
use Rattle.lane_session.proofs.Pushes.{begun-append, marks-ours}
use Rattle.lane_session.proofs.Together.{together-on}

unseen-mark : (e : Entry) → ours (e ∷ []) ≡ [] → marks (e ∷ []) ≡ []
unseen-mark e u = marks-ours (e ∷ []) ∙ ap marks u

unseen-record : (e : Entry) (bytes : List ℕ) → ours (e ∷ []) ≡ [] → e ≡ Delivered bytes → ⊥
unseen-record e bytes u is = let here : Delivered bytes ∷ [] ≡ [] = subst (λ (d : Entry). ours (d ∷ []) ≡ []) is u in cc

goes-one-unseen : (done : List ScriptLine) (from : ℕ) (script : List ScriptLine) (h : List Entry) (e : Entry) (s : Session) → ours (e ∷ []) ≡ [] → Goes done from script h s → Goes done from script (h ++ e ∷ []) s
goes-one-unseen done from script h e s u g = record {
  others = λ lane out. let o = g.others lane out in let m = silent e (unseen-mark e u) lane in
      (begun-append lane h (e ∷ []) ∙ ap (λ (t : List Entry). begun lane h ++ t) m.1 ∙ append-nil (begun lane h) ∙ o.0, resting-grow h e lane m.0 o.1);
  placed = λ n p there. let m = silent e (unseen-mark e u) (suc n) in placed-grow done script h e (suc n) p m.0 m.1 (g.placed n p there);
  within = within-grow from h e g.within;
  status = since-quiet from h e s.status g.within (λ fault l m is. (no-mark e (unseen-mark e u)).0 l m (Refused fault) is) g.status;
  timed = timed-quiet h e (no-mark e (unseen-mark e u)).1 g.timed;
  together = together-on from (entries_of script) h e (λ bytes is. unseen-record e bytes u is) g.together;
}

-- A fact that each entry keeps that isn't the client's is kept by any number of them.
unseen_by : (P : List Entry → Type 0) → ((h : List Entry) (e : Entry) → ours (e ∷ []) ≡ [] → P h → P (h ++ e ∷ [])) → (h more : List Entry) → ours more ≡ [] → P h → P (h ++ more)
unseen_by P one h [] q p = rw append-nil p
unseen_by P one h (e ∷ more) q p = let k = apart e more q in
    subst P (append_assoc h (e ∷ []) more) (unseen_by P one (h ++ e ∷ []) more k.1 (one h e k.0 p))
  where
    apart : (d : Entry) (ds : List Entry) → ours (d ∷ ds) ≡ [] → (ours (d ∷ []) ≡ []) × (ours ds ≡ [])
    apart (Began l line op) ds q = absurd cc
    apart (Answered l line a) ds q = absurd cc
    apart (Dialed port) ds q = absurd cc
    apart (Sent bytes) ds q = absurd cc
    apart (Executed xid call reply) ds q = (refl, q)
    apart (Foreign call reply) ds q = (refl, q)
    apart (Flushed file from len) ds q = (refl, q)
    apart (Reboot verf) ds q = (refl, q)
    apart (Delivered bytes) ds q = absurd cc
    apart Failed ds q = absurd cc
    apart (Clock ms) ds q = absurd cc

pub goes-unseen : (done : List ScriptLine) (from : ℕ) (script : List ScriptLine) (h more : List Entry) (s : Session) → ours more ≡ [] → Goes done from script h s → Goes done from script (h ++ more) s
goes-unseen done from script h more s u g = unseen_by (λ (k : List Entry). Goes done from script k s) (λ k e one p. goes-one-unseen done from script k e s one p) h more u g
