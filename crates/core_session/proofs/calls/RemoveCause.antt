-- What a remove asks for, of a record that was sent for it.
use Rattle.core_session.proofs.Prelude.{◌≡◌, ◌≤◌, ℕ, List, [], ◌∷◌, ◌++◌, length, Option, Some, None, refl, sym, ap, subst, ◌∙◌, arith, Entry, Call, Reply, Asks, HeldOpen, Asked, Rooted, PlaceOf, Terms, Asked-grow, Deed, Look, Seek, Move, Mounted, Machine, IsNamed, front_of, last_of, removal_by, of_walk, in_flight, end-leads, RemoveAwaits, front-last, Expects, RemoveRuns, walk-looks, leads-on}
use Rattle.name_ops.specs.declared.remove_file.Deed.TheVariants.{Remove}
use Rattle.core_answers.proofs.asks.RemoveSteps.{IsFineOf, HasDeed}
use Rattle.core_answers.proofs.asks.WalkAsks.{front-asks}
use Rattle.nfs_dir_calls.specs.declared.keeping.DirKept.TheVariants as kept
use Rattle.world_model.specs.declared.message.Reply.TheVariants as replies
use Rattle.world_model.specs.declared.op.Op.TheVariants as ops
use Rattle.claims.specs.Asks as asks
use Rattle.name_ops.specs.Looking.{look_up}
use Rattle.name_ops.specs.RemoveFile as removals
use Rattle.name_ops.specs.Walking as walking
use Rattle.core_session.proofs.calls.Hiding.{Hides, SomeHides, DeedHides}
use Rattle.core_session.proofs.calls.HidingHeld.{open-grow}

module _ (m : Mounted) (terms : Terms) (before after : List Entry) (x y : ℕ) (path : List (List ℕ)) (call : Call) (named : IsNamed path) (there : length before ≡ y)
    (rooted : Rooted terms.origin (before ++ after) y m.root) where
  abbrev pub Made : Type 0
  Made = Asks terms (before ++ after) x y (ops.Remove path) call

  pub remove-asks : (machine : Machine) → RemoveRuns m.root before x (front_of path) (last_of path) machine → Hides (λ f. HeldOpen terms before x (length before) f) machine → Expects machine call
      → 1 ≤ in_flight machine → Made
  remove-asks machine k held e some = by k.m.deed refl
    where
      awaits : RemoveAwaits k.m.deed k.m call
      awaits = (subst (λ (n : Machine). Expects n call) k.is e).0

      many : 1 ≤ removal_by k.m.deed k.m.asked (of_walk k.m.walk)
      many = subst (λ (n : Machine). 1 ≤ in_flight n) k.is some

      place : walking.next_name k.m.walk ≡ None → PlaceOf terms.origin (before ++ after) y path k.m.walk.spot.dir k.m.name
      place none = record {
        earlier = front_of path;
        is = front-last path named ∙ ap (λ (n : List ℕ). front_of path ++ n ∷ []) (sym k.story.name_is);
        leads = leads-on m.root terms before after x y (ops.Remove path) there rooted (front_of path) k.m.walk.spot.dir
            (end-leads m.root before (front_of path) k.m.walk k.story.walk none);
      }

      asked-now : (c : Call) (reply : Reply) → Asked before x (length before) c reply → Asked (before ++ after) x y c reply
      asked-now c reply a = subst (λ (n : ℕ). Asked (before ++ after) x n c reply) there (Asked-grow before after x (length before) c reply a)

      does : (deed : Deed) → IsFineOf before x (last_of path) k.m.walk.spot.dir deed → DeedHides (λ f. HeldOpen terms before x (length before) f) deed → walking.next_name k.m.walk ≡ None → call ≡ removals.call_of k.m deed → Made
      does Look fine held_ none is = asks.finds path k.m.walk.spot.dir k.m.name (0, omega arith, refl) (place none) is
      does (Seek file to) fine held_ none is = asks.looks_for_hidden path k.m.walk.spot.dir k.m.name to refl (place none) fine.0 is
      does (Move file to) fine held_ none is = asks.acts (asks.hides path k.m.walk.spot.dir k.m.name to refl (place none) fine.0 (record {
        f = file;
        attr = fine.1.attr;
        dir = fine.1.dir;
        reply = fine.2.reply;
        gave = subst (λ (n : List ℕ). Asked (before ++ after) x y (look_up k.m.walk.spot.dir n) (replies.Dir (kept.Lookup file fine.1.attr fine.1.dir))) (sym k.story.name_is)
            (asked-now (look_up k.m.walk.spot.dir (last_of path)) (replies.Dir (kept.Lookup file fine.1.attr fine.1.dir)) fine.1.asked);
        held = subst (λ (n : ℕ). HeldOpen terms (before ++ after) x n file) there (open-grow terms before after x (length before) file (omega arith) held_);
        free = asked-now (look_up k.m.walk.spot.dir to) fine.2.reply fine.2.asked;
        none = fine.2.none;
      }) is)
      does Remove fine held_ none is = asks.acts (asks.removes path k.m.walk.spot.dir k.m.name refl (place none) is)

      opened : SomeHides (λ f. HeldOpen terms before x (length before) f) k.m.deed
      opened = subst (Hides (λ f. HeldOpen terms before x (length before) f)) k.is held

      by : (o : Option Deed) → k.m.deed ≡ o → Made
      by None is = front-asks m.root terms before after x y (ops.Remove path) there rooted path call named (0, omega arith, refl)
          (walk-looks m.root before (front_of path) k.m.walk call k.story.walk (subst (λ (o : Option Deed). RemoveAwaits o k.m call) is awaits)
          (subst (λ (o : Option Deed). 1 ≤ removal_by o k.m.asked (of_walk k.m.walk)) is many))
      by (Some deed) is =
          let has = subst (λ (o : Option Deed). HasDeed m.root before x (front_of path) (last_of path) o k.m.walk) is k.story.deed in
          does deed has.0 (subst (SomeHides (λ f. HeldOpen terms before x (length before) f)) is opened) has.1 (subst (λ (o : Option Deed). RemoveAwaits o k.m call) is awaits)
