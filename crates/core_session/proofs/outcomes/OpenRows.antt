-- The row of an open that goes well.
use Rattle.core_session.proofs.Prelude.{◌≡◌, ◌+◌, ◌⊎◌, inl, inr, ℕ, true, List, ◌++◌, length, refl, sym, subst, ◌∙◌, arith, Mode, Entry, Call, Reply, Asks, Asked, Rooted, PlaceOf, Terms, Asked-grow, Rooted-wide, Mounted, IsNamed, front_of, last_of, machine_of, Setup, Awaits, awaits-laws, begins-unbegun, LeadsTo, front-last, leads-on, LastAtMost, reached-answered}
use Rattle.core_facts.proofs.OneCallStory.{ends-until}
use Rattle.nfs_file_calls.specs.declared.call.FileCall.TheVariants as file_calls
use Rattle.world_model.specs.declared.answer.Answer.TheVariants as answers
use Rattle.world_model.specs.declared.message.Call.TheVariants as calls
use Rattle.world_model.specs.declared.op.Op.TheVariants as ops
use Rattle.claims.specs.Asks as asks
use Rattle.claims.specs.OkRows.{OpenOk, asked, known, FindsFile, looked_up, made, OkRow}
use Rattle.core_facts.proofs.OpenStory.{OpenShown, IsFileOf}
use Rattle.core_facts.proofs.OpenStory as story
use Rattle.core_answers.proofs.refusals.OpenAsking as asking
use Rattle.core_session.specs.outcomes.Opened.{OpensWell}
use Rattle.core_session.proofs.outcomes.OpenGiven.{Finds, looks, makes}
use Rattle.core_session.proofs.outcomes.OpenStory.{KnownShown, Story, Seen, NoLane, open-laws, sees}

module _ (m : Mounted) (terms : Terms) (most : ℕ) (before after : List Entry) (x y slot : ℕ) (mode : Mode) (path : List (List ℕ)) (named : IsNamed path) (there : length before ≡ y)
    (rooted : Rooted terms.origin (before ++ after) y m.root) (same : m.nocto ≡ terms.modes.nocto) where
  place : (d : List ℕ) → LeadsTo m.root before (front_of path) d → PlaceOf terms.origin (before ++ after) y path d (last_of path)
  place d leads = record { earlier = front_of path; is = front-last path named; leads = leads-on m.root terms before after x y (ops.OpenFile slot mode path) there rooted (front_of path) d leads }

  asked-now : (from : ℕ) (c : Call) (reply : Reply) → Asked before from (length before) c reply → Asked (before ++ after) from y c reply
  asked-now from c reply a = subst (λ (n : ℕ). Asked (before ++ after) from n c reply) there (Asked-grow before after from (length before) c reply a)

  gets : (d file : List ℕ) → LeadsTo m.root before (front_of path) d → IsFileOf m.root before x path mode d file
      → Asks terms (before ++ after) x y (ops.OpenFile slot mode path) (calls.File (file_calls.GetAttr file))
  gets d file leads (story.found l) =
      asks.opens path file (asks.opens slot mode refl) (leads-on m.root terms before after x y (ops.OpenFile slot mode path) there rooted path file l) refl
  gets d file leads (story.made making attr wcc mk a) = asks.opens_made slot mode path d (last_of path) file making attr wcc refl (place d leads) mk (asked-now x making _ a) refl

  finds : (d : List ℕ) (call : Call) → LeadsTo m.root before (front_of path) d → Finds mode d (last_of path) call → FindsFile terms (before ++ after) y mode path call
  finds d call leads (looks is) = looked_up d (last_of path) (place d leads) is
  finds d call leads (makes mk) = made d (last_of path) (place d leads) mk

  row-of : (d : List ℕ) → LeadsTo m.root before (front_of path) d → OpenShown m.root before x path mode d ⊎ KnownShown m most before x path mode d
      → OpenOk terms (before ++ after) x y (ops.OpenFile slot mode path) mode path
  row-of d leads (inl s) = asked s.got.f s.attr (gets d s.got.f leads s.got.of) (ends-until before after x y _ _ there s.got.ends) s.kind
  row-of d leads (inr k) =
      let nocto : terms.modes.nocto ≡ true = sym same ∙ k.nocto in
      known k.file k.attr k.given.call k.given.reply nocto (finds d k.given.call leads k.given.finds) (ends-until before after x y k.given.call k.given.reply there k.given.ends)
      k.given.went k.given.gives
      (record { call = k.shown.call; reply = k.shown.reply; asked = asked-now 0 k.shown.call k.shown.reply k.shown.asked; shows = k.shown.shows }) k.kind

-- no lifetime is longer than all together
abbrev longest : Setup → ℕ
longest setup = setup.lives.reg_min + setup.lives.reg_max + setup.lives.dir_min + setup.lives.dir_max

lasts-at-most : (setup : Setup) → LastAtMost setup.lives (longest setup)
lasts-at-most setup = record { reg_min = omega arith; reg_max = omega arith; dir_min = omega arith; dir_max = omega arith }

pub opens-well : OpensWell
opens-well m terms setup h v g known_root lane x y slot mode path value named ended =
    let since = ended.later in
    let op = ops.OpenFile slot mode path in
    let most = longest setup in
    let rooted : Rooted terms.origin h y m.root = Rooted-wide terms.origin h x y m.root (omega (arith, since)) (known_root x lane ended.line op ended.began) in
    let s = reached-answered (machine_of m) (begins-unbegun m) setup (NoLane m most setup) (λ k w q found number idle. tt) (Seen m most) (sees m most setup (lasts-at-most setup)) Awaits awaits-laws
    (asking.Caused m) (asking.Shelved m) (Story m most) (open-laws m most setup) h v g.reaches lane x op y (answers.Done value) ended in
    let w = s.story slot mode path refl named in
    subst (λ (k : List Entry). OkRow terms k lane x y op value) (sym s.is)
    (row-of m terms most s.before s.after x y slot mode path named s.there (subst (λ (k : List Entry). Rooted terms.origin k y m.root) s.is rooted) g.nocto w.d w.leads w.well, w.gives)
