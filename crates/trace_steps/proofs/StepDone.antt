-- The tests decide whether an entry serves a call, or flushes a file.
use Rattle.std.proofs.Common.{◌≡◌, ◌==◌, ℕ, suc, Bool, false, List, Option, Some, None, refl, sym, ◌∙◌, ap, subst}
use Rattle.std.specs.Prelude.{Decides, ◌&&◌, not}
use Rattle.std.specs.Option.{option_map}
use Rattle.std.proofs.lemmas.Bool.Decides.{Decides-like, Decides-and, Decides-not, Decides-eqb}
use Rattle.nfs_types.specs.declared.attr.Attr.{Attr}
use Rattle.mount_calls.specs.declared.call.MountCall.{MountCall}
use Rattle.mount_calls.specs.declared.call.MountCall.TheVariants as mounts
use Rattle.mount_calls.specs.declared.reply.MountReply.{MountReply}
use Rattle.mount_calls.specs.declared.reply.MountReply.TheVariants as mounted
use Rattle.world_model.specs.declared.message.Call.{Call}
use Rattle.world_model.specs.declared.message.Call.TheVariants as calls
use Rattle.world_model.specs.declared.message.Reply.{Reply}
use Rattle.world_model.specs.declared.message.Reply.TheVariants as replies
use Rattle.world_model.specs.Server as model
use Rattle.world_model.specs.Bytes.{put_at, committed_part}
use Rattle.world_model.specs.Steps.{Only}
use Rattle.world_model.specs.Service.{Serves}
use Rattle.world_model.specs.Lawful.{Flushes}
use Rattle.trace_data.specs.declared.trace.Object.{Object}
use Rattle.trace_data.specs.declared.trace.Trace.{Trace}
use Rattle.trace_data.specs.Histories.{object_of, server_at}
use Rattle.trace_rules.specs.Keeping.{same_attr, same_bool}
use Rattle.trace_rules.proofs.Combining.{never}
use Rattle.trace_rules.proofs.Unchanged.{attr-decides, bool-decides}
use Rattle.trace_steps.specs.MomentTests.{before, after, is_same, is_one, only}
use Rattle.trace_steps.specs.TurnTests.{is_committed}
use Rattle.trace_steps.specs.StepTests.{serves_mount, serves, flushed_to, flushes}
use Rattle.trace_steps.proofs.Sparing.{is-same, only-one}
use Rattle.trace_steps.proofs.Turned.{none, one, not-so, IsCommitted, committed-decides}
use Rattle.trace_steps.proofs.FileRows.{file-rows}
use Rattle.trace_steps.proofs.DirRows.{dir-rows}
use Rattle.trace_steps.proofs.Serving as serving

module _ (t : Trace) (n : ℕ) where
  abbrev pub S : model.Server
  S = server_at t n

  abbrev pub T : model.Server
  T = server_at t (suc n)

  mount-rows : (call : MountCall) (reply : MountReply) → Decides (serves_mount t n call reply) (Serves S (calls.Mount call) (replies.Mount reply) T)
  mount-rows mounts.Null mounted.Null = serving.does S T _ _ (is_same t n) (λ r. r) (λ b. b) (is-same t n)
  mount-rows mounts.Null (mounted.MntOk _ _) = serving.off S T _ _ (λ r. r) (λ b. b) (λ d. d)
  mount-rows mounts.Null (mounted.MntFail _) = serving.off S T _ _ (λ r. r) (λ b. b) (λ d. d)
  mount-rows mounts.Null mounted.Umnt = serving.off S T _ _ (λ r. r) (λ b. b) (λ d. d)
  mount-rows mounts.Null (mounted.Export _) = serving.off S T _ _ (λ r. r) (λ b. b) (λ d. d)
  mount-rows (mounts.Mnt _) mounted.Null = serving.off S T _ _ (λ r. r) (λ b. b) (λ d. d)
  mount-rows (mounts.Mnt _) (mounted.MntOk _ _) = serving.does S T _ _ (is_same t n) (λ r. r) (λ b. b) (is-same t n)
  mount-rows (mounts.Mnt _) (mounted.MntFail stat) = serving.fails S T _ _ (not (stat == 0) && is_same t n) (λ b. b) (λ d. d) (Decides-and (not (stat == 0)) (is_same t n) (Decides-not (stat == 0) (Decides-eqb stat 0)) (is-same t n))
  mount-rows (mounts.Mnt _) mounted.Umnt = serving.off S T _ _ (λ r. r) (λ b. b) (λ d. d)
  mount-rows (mounts.Mnt _) (mounted.Export _) = serving.off S T _ _ (λ r. r) (λ b. b) (λ d. d)
  mount-rows (mounts.Umnt _) mounted.Null = serving.off S T _ _ (λ r. r) (λ b. b) (λ d. d)
  mount-rows (mounts.Umnt _) (mounted.MntOk _ _) = serving.off S T _ _ (λ r. r) (λ b. b) (λ d. d)
  mount-rows (mounts.Umnt _) (mounted.MntFail _) = serving.off S T _ _ (λ r. r) (λ b. b) (λ d. d)
  mount-rows (mounts.Umnt _) mounted.Umnt = serving.does S T _ _ (is_same t n) (λ r. r) (λ b. b) (is-same t n)
  mount-rows (mounts.Umnt _) (mounted.Export _) = serving.off S T _ _ (λ r. r) (λ b. b) (λ d. d)
  mount-rows mounts.Export mounted.Null = serving.off S T _ _ (λ r. r) (λ b. b) (λ d. d)
  mount-rows mounts.Export (mounted.MntOk _ _) = serving.off S T _ _ (λ r. r) (λ b. b) (λ d. d)
  mount-rows mounts.Export (mounted.MntFail _) = serving.off S T _ _ (λ r. r) (λ b. b) (λ d. d)
  mount-rows mounts.Export mounted.Umnt = serving.off S T _ _ (λ r. r) (λ b. b) (λ d. d)
  mount-rows mounts.Export (mounted.Export _) = serving.does S T _ _ (is_same t n) (λ r. r) (λ b. b) (is-same t n)

  pub serves-decides : (call : Call) (reply : Reply) → Decides (serves t n call reply) (Serves S call reply T)
  serves-decides (calls.File call) (replies.File reply) = file-rows t n call reply
  serves-decides (calls.File call) (replies.Dir reply) = serving.off S T _ _ (λ r. r) (λ b. serving.only-files-dir call reply b) (λ d. d)
  serves-decides (calls.File call) (replies.Mount reply) = serving.off S T _ _ (λ r. r) (λ b. serving.only-files-mount call reply b) (λ d. d)
  serves-decides (calls.Dir _) (replies.File _) = serving.off S T _ _ (λ r. r) (λ b. b) (λ d. d)
  serves-decides (calls.Dir call) (replies.Dir reply) = dir-rows t n call reply
  serves-decides (calls.Dir _) (replies.Mount _) = serving.off S T _ _ (λ r. r) (λ b. b) (λ d. d)
  serves-decides (calls.Mount _) (replies.File _) = serving.off S T _ _ (λ r. r) (λ b. b) (λ d. d)
  serves-decides (calls.Mount _) (replies.Dir _) = serving.off S T _ _ (λ r. r) (λ b. b) (λ d. d)
  serves-decides (calls.Mount call) (replies.Mount reply) = mount-rows call reply

  -- ---- a range that becomes stable by itself

  -- the file stays as it is, but for its stable bytes
  abbrev pub FlushedTo : ℕ → ℕ → model.Object → model.Object → Type 0
  FlushedTo start count o p = (((o.gone ≡ false) × (o.attr ≡ p.attr)) × (p.gone ≡ o.gone)) × IsCommitted start count o.holds p.holds

  objects-flushed : (start count : ℕ) (a b : Object) → Decides (not a.gone && same_attr a.attr b.attr && same_bool b.gone a.gone && is_committed start count a.contents b.contents) (FlushedTo start count (object_of a) (object_of b))
  objects-flushed start count a b =
      Decides-and (not a.gone && same_attr a.attr b.attr && same_bool b.gone a.gone) (is_committed start count a.contents b.contents)
      (Decides-and (not a.gone && same_attr a.attr b.attr) (same_bool b.gone a.gone)
      (Decides-and (not a.gone) (same_attr a.attr b.attr) (not-so a.gone) (attr-decides a.attr b.attr)) (bool-decides b.gone a.gone))
      (committed-decides start count a.contents b.contents)

  pub record FlushedBy (f : List ℕ) (start count : ℕ) : Type 0 where
    pub old : model.Object
    pub new : model.Object
    pub was : S.object f ≡ Some old
    pub is : T.object f ≡ Some new
    pub so : FlushedTo start count old new

  to-decides : (f : List ℕ) (start count : ℕ) → Decides (flushed_to start count (before t n f) (after t n f)) (FlushedBy f start count)
  unfolding before after
  to-decides f start count = by (before t n f) (after t n f) refl refl
    where
      by : (x y : Option Object) → before t n f ≡ x → after t n f ≡ y → Decides (flushed_to start count x y) (FlushedBy f start count)
      by None y e d = never (λ (w : FlushedBy f start count). none (before t n f) w.old e w.was)
      by (Some a) None e d = never (λ (w : FlushedBy f start count). none (after t n f) w.new d w.is)
      by (Some a) (Some b) e d =
          Decides-like (not a.gone && same_attr a.attr b.attr && same_bool b.gone a.gone && is_committed start count a.contents b.contents)
          (λ w. record { old = object_of a; new = object_of b; was = ap (option_map object_of) e; is = ap (option_map object_of) d; so = w })
          (λ (w : FlushedBy f start count). subst (λ (z : model.Object). FlushedTo start count z (object_of b)) (sym (one (before t n f) a w.old e w.was)) (subst (λ (z : model.Object). FlushedTo start count w.old z) (sym (one (after t n f) b w.new d w.is)) w.so))
          (objects-flushed start count a b)

  -- an object by its parts
  by-parts : (o p : model.Object) (h : model.Holds) → o.attr ≡ p.attr → p.gone ≡ o.gone → p.holds ≡ h → p ≡ record { attr = o.attr; gone = o.gone; holds = h }
  by-parts o p h a g e = ap (λ (z : Attr). record { attr = z; gone = p.gone; holds = p.holds }) (sym a) ∙ ap (λ (z : Bool). record { attr = o.attr; gone = z; holds = p.holds }) g ∙ ap (λ (z : model.Holds). record { attr = o.attr; gone = o.gone; holds = z }) e

  pub flushes-decides : (f : List ℕ) (start count : ℕ) → Decides (flushes t n f start count) (Flushes S T f start count)
  unfolding flushes
  flushes-decides f start count =
      Decides-like (flushed_to start count (before t n f) (after t n f) && only (is_one f f f) t n)
      (λ w. to w.0 w.1)
      (λ w. (from w, only-of w))
      (Decides-and (flushed_to start count (before t n f) (after t n f)) (only (is_one f f f) t n) (to-decides f start count) (only-one t n f))
    where
      to : FlushedBy f start count → Only (λ other. other ≡ f) S T → Flushes S T f start count
      to w o =
          let c : IsCommitted start count w.old.holds w.new.holds = w.so.1 in record {
            file = w.old;
            now = c.now;
            stable = c.stable;
            has = record { is = w.was; there = w.so.0.0.0 };
            held = c.was;
            is = w.is ∙ ap (λ (z : model.Object). Some z) (by-parts w.old w.new (model.Bytes c.now (put_at start (committed_part start count c.now) c.stable)) w.so.0.0.1 w.so.0.1 c.is);
            only = o;
          }

      only-of : Flushes S T f start count → Only (λ other. other ≡ f) S T
      only-of w = w.only

      from : Flushes S T f start count → FlushedBy f start count
      from w = record {
        old = w.file;
        new = record { attr = w.file.attr; gone = w.file.gone; holds = model.Bytes w.now (put_at start (committed_part start count w.now) w.stable) };
        was = w.has.is;
        is = w.is;
        so = (((w.has.there, refl), refl), record { now = w.now; stable = w.stable; was = w.held; is = refl });
      }
