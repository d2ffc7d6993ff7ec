-- The row of a remove that goes well.
use Rattle.core_session.proofs.Prelude.{◌≡◌, ℕ, List, ◌++◌, length, refl, sym, subst, arith, Value, Entry, Call, Reply, Acts, HeldOpen, look_up, Asked, Rooted, PlaceOf, Terms, Asked-grow, Rooted-wide, Mounted, IsNamed, front_of, last_of, machine_of, begins-unbegun, LeadsTo, front-last, Expects, expects-laws, NoCall, leads-on, reached-answered}
use Rattle.core_facts.proofs.OneCallStory.{ends-until}
use Rattle.nfs_dir_calls.specs.declared.keeping.DirKept.TheVariants as kept
use Rattle.world_model.specs.declared.answer.Answer.TheVariants as answers
use Rattle.world_model.specs.declared.message.Reply.TheVariants as replies
use Rattle.world_model.specs.declared.op.Op.TheVariants as ops
use Rattle.claims.specs.Asks as asks
use Rattle.claims.specs.OkRows.{ActOk}
use Rattle.core_answers.proofs.asks.RemoveAsks.{Shelved}
use Rattle.core_session.proofs.calls.HidingHeld.{open-grow}
use Rattle.core_session.specs.outcomes.Removed.{RemovesWell}
use Rattle.core_session.proofs.outcomes.RemoveStory.{Does, removed, hidden, WentWell, Story, Seen, NoLane, well-laws, sees}

module _ (m : Mounted) (terms : Terms) (before after : List Entry) (x y : ℕ) (path : List (List ℕ)) (named : IsNamed path) (there : length before ≡ y)
    (rooted : Rooted terms.origin (before ++ after) y m.root) where
  place : (d : List ℕ) → LeadsTo m.root before (front_of path) d → PlaceOf terms.origin (before ++ after) y path d (last_of path)
  place d leads = record { earlier = front_of path; is = front-last path named; leads = leads-on m.root terms before after x y (ops.Remove path) there rooted (front_of path) d leads }

  asked-now : (c : Call) (reply : Reply) → Asked before x (length before) c reply → Asked (before ++ after) x y c reply
  asked-now c reply a = subst (λ (n : ℕ). Asked (before ++ after) x n c reply) there (Asked-grow before after x (length before) c reply a)

  acts-so : (call : Call) → Does m terms before x path call → Acts terms (before ++ after) x y (ops.Remove path) call
  acts-so call (removed d leads is) = asks.removes path d (last_of path) refl (place d leads) is
  acts-so call (hidden d name file leads so found free held is) = asks.hides path d (last_of path) name refl (place d leads) so (record {
    f = file;
    attr = found.attr;
    dir = found.dir;
    reply = free.reply;
    gave = asked-now (look_up d (last_of path)) (replies.Dir (kept.Lookup file found.attr found.dir)) found.asked;
    held = subst (λ (n : ℕ). HeldOpen terms (before ++ after) x n file) there (open-grow terms before after x (length before) file (omega arith) held);
    free = asked-now (look_up d name) free.reply free.asked;
    none = free.none;
  }) is

  acted : (value : Value) → WentWell m terms before x path value → ActOk terms (before ++ after) x y (ops.Remove path) value
  acted value k = record {
    call = k.call;
    reply = k.reply;
    acts = acts-so k.call k.does;
    ends = ends-until before after x y k.call k.reply there k.ends;
    went = k.went;
    gives = k.gives;
  }

pub removes-well : RemovesWell
removes-well m terms setup h v g known lane x y path value named ended =
    let since = ended.later in
    let rooted : Rooted terms.origin h y m.root = Rooted-wide terms.origin h x y m.root (omega (arith, since)) (known x lane ended.line (ops.Remove path) ended.began) in
    let s = reached-answered (machine_of m) (begins-unbegun m) setup (NoLane m terms setup) (λ k w q found number idle. tt) (Seen m terms) (sees m terms setup g.nocto) Expects expects-laws NoCall (Shelved m)
    (Story m terms) (well-laws m terms setup) h v g.reaches lane x (ops.Remove path) y (answers.Done value) ended in
    subst (λ (k : List Entry). ActOk terms k x y (ops.Remove path) value) (sym s.is)
    (acted m terms s.before s.after x y path named s.there (subst (λ (k : List Entry). Rooted terms.origin k y m.root) s.is rooted) value (s.story path refl))
