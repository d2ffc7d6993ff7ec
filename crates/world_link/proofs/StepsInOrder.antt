-- Lists of copies, of events and of turns, one after the other.
use Rattle.std.proofs.Common.{◌≡◌, ◌<◌, ◌+◌, ℕ, List, [], ◌∷◌, length, drop, get_or, refl, sym, ap, ◌∙◌, add-one}
use Rattle.std.proofs.Math.Seq.{drop-cons}
use Rattle.world_link.specs.declared.directive.RequestId.{RequestId}
use Rattle.world_link.specs.declared.event.Event.{Event}
use Rattle.world_link.specs.declared.waiting.Waiting.{Waiting}
use Rattle.world_link.specs.View.{ServerView, WorldView}
use Rattle.world_link.specs.Handling.{copied, all_copied}
use Rattle.world_link.specs.Happening.{happened, all_happened}
use Rattle.world_link.specs.Steps.{TurnsFirst}
use Rattle.world_link.specs.Turning.{turned, turned_all, after_turns}

pub copied_next : (v w : ServerView) (sendings : List RequestId) (i : ℕ) (s : RequestId) → w ≡ copied v s → i < length sendings → s ≡ get_or sendings i s → all_copied w (drop (i + 1) sendings) ≡ all_copied v (drop i sendings)
copied_next v w sendings i s e l is =
    ap (λ (u : ServerView). all_copied u (drop (i + 1) sendings)) e
    ∙ ap (λ (n : RequestId). all_copied (copied v n) (drop (i + 1) sendings)) is
    ∙ ap (λ (k : ℕ). all_copied (copied v (get_or sendings i s)) (drop k sendings)) (add-one i)
    ∙ sym (ap (all_copied v) (drop-cons sendings i s l))

pub happened_on : (v w : ServerView) (events : List Event) (i : ℕ) (event : Event) → i < length events → event ≡ get_or events i event → w ≡ happened v event → all_happened w (drop (i + 1) events) ≡ all_happened v (drop i events)
happened_on v w events i event l is e =
    ap (λ (u : ServerView). all_happened u (drop (i + 1) events)) e
    ∙ ap (λ (n : Event). all_happened (happened v n) (drop (i + 1) events)) is
    ∙ ap (λ (k : ℕ). all_happened (happened v (get_or events i event)) (drop k events)) (add-one i)
    ∙ sym (ap (all_happened v) (drop-cons events i event l))

abbrev ready_as : List (List ℕ) → WorldView → WorldView → WorldView
ready_as ready more w = elim ready [ [] ↦ more | first ∷ rest ↦ w ]

none_ready : (ready : List (List ℕ)) (more w : WorldView) → ready ≡ [] → ready_as ready more w ≡ more
none_ready [] more w e = refl
none_ready (first ∷ rest) more w e = absurd cc

-- while no reply is ready, the turns that are left are those after the next one
turns_on : (old new : WorldView) (waiting : List Waiting) → old.waiting ≡ waiting → old.server.ready ≡ [] → TurnsFirst old new waiting → after_turns new ≡ turned_all old waiting
turns_on old new [] w e t = rw (t, w) refl
turns_on old new (next ∷ more) w e t = rw t (sym (none_ready old.server.ready (turned_all (turned old next more) more) old e))

pub turns_go_on : (old new : WorldView) → old.server.ready ≡ [] → TurnsFirst old new old.waiting → after_turns new ≡ after_turns old
turns_go_on old new e t = turns_on old new old.waiting refl e t

filled : (ready : List (List ℕ)) (more w : WorldView) (first : List ℕ) (rest : List (List ℕ)) → ready ≡ first ∷ rest → ready_as ready more w ≡ w
filled [] more w first rest e = absurd cc
filled (x ∷ xs) more w first rest e = refl

done_with : (w : WorldView) (ready : List (List ℕ)) (waiting : List Waiting) → w.server.ready ≡ ready → (ready ≡ [] → waiting ≡ []) → turned_all w waiting ≡ w
done_with w ready [] e h = refl
done_with w [] (next ∷ more) e h = let k : (next ∷ more) ≡ [] = h refl in absurd cc
done_with w (first ∷ rest) (next ∷ more) e h = filled w.server.ready (turned_all (turned w next more) more) w first rest e

-- no turn is given where a reply is ready or none waits
pub turns_done : (w : WorldView) → (w.server.ready ≡ [] → w.waiting ≡ []) → w ≡ after_turns w
turns_done w h = sym (done_with w w.server.ready w.waiting refl h)
