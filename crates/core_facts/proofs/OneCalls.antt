-- An operation that walks along its paths and makes one call, step by step: what it has come to, and what its answer shows.
use Rattle.core_facts.proofs.Prelude.{◌≡◌, ◌<◌, ◌≤◌, ◌+◌, ◌-◌, ◌||◌, ◌⊎◌, inl, inr, ℕ, zero, suc, Bool, true, false, List, [], ◌∷◌, ◌++◌, length, take, slice_get, Option, Some, None, Result, Ok, Err, refl, sym, ap, subst, ◌∙◌, arith, if◌then◌else◌, DirKept, FileKept, Answer, Fault, Value, Entry, Call, Reply, Step, Shelf, Turn, Pair, PairStep, Visit, VisitStep, Walk, WalkStep, access_told, deed_told, linked_told, moved_told, shown_answer, sym_linked_told, CopiesBy}
use Rattle.std.proofs.Common.{unwrap_or}
use Rattle.nfs_dir_calls.specs.declared.keeping.DirKept.TheVariants as dir_kept
use Rattle.nfs_file_calls.specs.declared.owned.FileKept.TheVariants as file_kept
use Rattle.world_model.specs.declared.answer.Answer.TheVariants as answers
use Rattle.world_model.specs.declared.answer.Fault.TheVariants as faults
use Rattle.world_model.specs.declared.answer.Value.TheVariants as values
use Rattle.world_model.specs.declared.message.Reply.TheVariants as replies
use Rattle.world_model.specs.Heard.{status_of}
use Rattle.claims.specs.OkRows.{value_of}
use Rattle.client_shelf.specs.declared.step.Step.TheVariants as nexts
use Rattle.name_ops.specs.declared.dir_change.DirDeed.{DirDeed}
use Rattle.name_ops.specs.declared.dir_change.DirDeed.TheVariants as deeds
use Rattle.name_ops.specs.declared.pair.PairStep.TheVariants as two
use Rattle.name_ops.specs.declared.visit.VisitStep.TheVariants as visits
use Rattle.name_ops.specs.declared.walk.WalkStep.TheVariants as walks
use Rattle.name_ops.specs.Changing as changing
use Rattle.name_ops.specs.Pairs as pairs
use Rattle.name_ops.specs.ReadLink.{TellsText}
use Rattle.name_ops.specs.Visiting as visiting
use Rattle.name_ops.specs.Walking as walking
use Rattle.core_facts.proofs.Awaited.{WalkAwaits, WalkMoves, go-step, took-step, PairOr}
use Rattle.core_facts.proofs.Leading.{IsNameTold, NamesTold, LeadsTo, WalkLeads, go-leads, took-leads, end-leads, walk-later, IsHeard, heard-tells}
use Rattle.core_facts.proofs.NamesKept.{go-told, walk-told}
use Rattle.core_facts.proofs.Steps.{ThenOf}

-- ---- a reply of status 0

-- A reply that goes well gives the value.
pub record IsOkReply (came : Result Reply Fault) (value : Value) : Type 0 where
  pub reply : Reply
  pub is : came ≡ Ok reply
  pub went : status_of reply ≡ 0
  pub gives : value ≡ value_of reply

ok-reply : (reply : Reply) (value : Value) → status_of reply ≡ 0 → value ≡ value_of reply → IsOkReply (Ok reply) value
ok-reply reply value went gives = record { reply = reply; is = refl; went = went; gives = gives }

made-ok : (reply : DirKept) → (deed_told deeds.Make (Ok (replies.Dir reply))).refusal ≡ None → IsOkReply (Ok (replies.Dir reply)) values.Nothing
made-ok (dir_kept.MkDir found attr wcc) is = ok-reply (replies.Dir (dir_kept.MkDir found attr wcc)) values.Nothing refl refl
made-ok (dir_kept.MkDirFail status wcc) is = absurd (cc)
made-ok reply is = absurd (cc)

removed-ok : (reply : DirKept) → (deed_told deeds.Remove (Ok (replies.Dir reply))).refusal ≡ None → IsOkReply (Ok (replies.Dir reply)) values.Nothing
removed-ok (dir_kept.RmDir wcc) is = ok-reply (replies.Dir (dir_kept.RmDir wcc)) values.Nothing refl refl
removed-ok (dir_kept.RmDirFail status wcc) is = absurd (cc)
removed-ok reply is = absurd (cc)

pub deed-ok : (deed : DirDeed) (came : Result Reply Fault) → (deed_told deed came).refusal ≡ None → IsOkReply came values.Nothing
deed-ok deeds.Make (Ok (replies.Dir reply)) is = made-ok reply is
deed-ok deeds.Make (Ok (replies.File reply)) is = absurd (cc)
deed-ok deeds.Make (Ok (replies.Mount reply)) is = absurd (cc)
deed-ok deeds.Make (Err fault) is = absurd (cc)
deed-ok deeds.Remove (Ok (replies.Dir reply)) is = removed-ok reply is
deed-ok deeds.Remove (Ok (replies.File reply)) is = absurd (cc)
deed-ok deeds.Remove (Ok (replies.Mount reply)) is = absurd (cc)
deed-ok deeds.Remove (Err fault) is = absurd (cc)

linked-by : (reply : DirKept) → (sym_linked_told (Ok (replies.Dir reply))).refusal ≡ None → IsOkReply (Ok (replies.Dir reply)) values.Nothing
linked-by (dir_kept.SymLink found attr wcc) is = ok-reply (replies.Dir (dir_kept.SymLink found attr wcc)) values.Nothing refl refl
linked-by (dir_kept.SymLinkFail status wcc) is = absurd (cc)
linked-by reply is = absurd (cc)

pub sym-ok : (came : Result Reply Fault) → (sym_linked_told came).refusal ≡ None → IsOkReply came values.Nothing
sym-ok (Ok (replies.Dir reply)) is = linked-by reply is
sym-ok (Ok (replies.File reply)) is = absurd (cc)
sym-ok (Ok (replies.Mount reply)) is = absurd (cc)
sym-ok (Err fault) is = absurd (cc)

moved-by : (reply : DirKept) → (moved_told (Ok (replies.Dir reply))).refusal ≡ None → IsOkReply (Ok (replies.Dir reply)) values.Nothing
moved-by (dir_kept.Rename from to) is = ok-reply (replies.Dir (dir_kept.Rename from to)) values.Nothing refl refl
moved-by (dir_kept.RenameFail status from to) is = absurd (cc)
moved-by reply is = absurd (cc)

pub moved-ok : (came : Result Reply Fault) → (moved_told came).refusal ≡ None → IsOkReply came values.Nothing
moved-ok (Ok (replies.Dir reply)) is = moved-by reply is
moved-ok (Ok (replies.File reply)) is = absurd (cc)
moved-ok (Ok (replies.Mount reply)) is = absurd (cc)
moved-ok (Err fault) is = absurd (cc)

link-by : (file : List ℕ) (reply : DirKept) → (linked_told file (Ok (replies.Dir reply))).refusal ≡ None → IsOkReply (Ok (replies.Dir reply)) values.Nothing
link-by file (dir_kept.Link attr wcc) is = ok-reply (replies.Dir (dir_kept.Link attr wcc)) values.Nothing refl refl
link-by file (dir_kept.LinkFail status attr wcc) is = absurd (cc)
link-by file reply is = absurd (cc)

pub link-ok : (file : List ℕ) (came : Result Reply Fault) → (linked_told file came).refusal ≡ None → IsOkReply came values.Nothing
link-ok file (Ok (replies.Dir reply)) is = link-by file reply is
link-ok file (Ok (replies.File reply)) is = absurd (cc)
link-ok file (Ok (replies.Mount reply)) is = absurd (cc)
link-ok file (Err fault) is = absurd (cc)

access-by : (reply : FileKept) (value : Value) → access_told (Ok (replies.File reply)) ≡ Ok value → IsOkReply (Ok (replies.File reply)) value
access-by (file_kept.Access attr bits) value is = ok-reply (replies.File (file_kept.Access attr bits)) value refl (let same : values.Bits bits ≡ value = cc in sym same)
access-by (file_kept.AccessFail status attr) value is = absurd (cc)
access-by reply value is = absurd (cc)

pub access-ok : (came : Result Reply Fault) (value : Value) → access_told came ≡ Ok value → IsOkReply came value
access-ok (Ok (replies.File reply)) value is = access-by reply value is
access-ok (Ok (replies.Dir reply)) value is = absurd (cc)
access-ok (Ok (replies.Mount reply)) value is = absurd (cc)
access-ok (Err fault) value is = absurd (cc)

text-by : (reply : DirKept) (told : Result Value Fault) (value : Value) → TellsText (Ok (replies.Dir reply)) told → told ≡ Ok value → IsOkReply (Ok (replies.Dir reply)) value
text-by (dir_kept.ReadLink attr text) told value (inl t) is =
    ok-reply (replies.Dir (dir_kept.ReadLink attr text)) value refl (let both : Ok (values.Text text) ≡ Ok value = sym t ∙ is in let same : values.Text text ≡ value = cc in sym same)
text-by (dir_kept.ReadLink attr text) told value (inr t) is = absurd (let both : Err faults.Memory ≡ Ok value = sym t ∙ is in cc)
text-by (dir_kept.ReadLinkFail status attr) told value t is = absurd (let both : Err (faults.Nfs status.0) ≡ Ok value = sym t ∙ is in cc)
text-by reply told value t is = absurd (let both : Err (faults.Bad 2) ≡ Ok value = sym t ∙ is in cc)

pub text-ok : (came : Result Reply Fault) (told : Result Value Fault) (value : Value) → TellsText came told → told ≡ Ok value → IsOkReply came value
text-ok (Ok (replies.Dir reply)) told value t is = text-by reply told value t is
text-ok (Ok (replies.File reply)) told value t is = absurd (let both : Err (faults.Bad 2) ≡ Ok value = sym t ∙ is in cc)
text-ok (Ok (replies.Mount reply)) told value t is = absurd (let both : Err (faults.Bad 2) ≡ Ok value = sym t ∙ is in cc)
text-ok (Err fault) told value t is = absurd (let both : Err fault ≡ Ok value = sym t ∙ is in cc)

-- ---- answers

-- A of each answer that comes of what was told
pub refusal-answer : (A : Answer → Type 0) (refusal : Option Fault) → ((fault : Fault) → A (answers.Refused fault)) → (refusal ≡ None → A (answers.Done values.Nothing))
    → A (changing.answer_of refusal)
refusal-answer A None refused well = well refl
refusal-answer A (Some fault) refused well = refused fault

pub told-answer : (A : Answer → Type 0) (told : Result Value Fault) → ((fault : Fault) → A (answers.Refused fault)) → ((value : Value) → told ≡ Ok value → A (answers.Done value))
    → A (shown_answer told)
told-answer A (Ok value) refused well = well value refl
told-answer A (Err fault) refused well = refused fault

pub then-as : {S : Type 0} → (H : S → Type 0) (A : Answer → Type 0) (to next : Step) (new : S) → next ≡ to → ThenOf H A to new → ThenOf H A next new
then-as H A to next new is t = subst (λ (n : Step). ThenOf H A n new) (sym is) t

pub again-then : {S : Type 0} → (H : S → Type 0) (A : Answer → Type 0) (again : Bool) (call : Call) (answer : Answer) (next : Step) (new : S)
    → next ≡ (if again then nexts.Send call else nexts.Done answer) → H new → A answer → ThenOf H A next new
again-then H A true call answer next new is stays ends = then-as H A (nexts.Send call) next new is stays
again-then H A false call answer next new is stays ends = then-as H A (nexts.Done answer) next new is ends

module _ (top : List ℕ) (h : List Entry) where
  -- ---- a walk and a call

  -- its walk leads along the path, and it asks for its own call at the end
  pub record VisitStory (path : List (List ℕ)) (v : Visit) : Type 0 where
    pub walk : WalkLeads top h path v.walk
    pub done : v.asked ≡ true → walking.next_name v.walk ≡ None

  pub visit-at : (path : List (List ℕ)) (v : Visit) → VisitStory path v → v.asked ≡ true → LeadsTo top h path v.walk.spot.dir
  visit-at path v s is = end-leads top h path v.walk s.walk (s.done is)

  on-way : (path : List (List ℕ)) (v : Visit) → WalkLeads top h path v.walk → v.asked ≡ false → VisitStory path v
  on-way path v l idle = record { walk = l; done = λ is. absurd (let no_way : true ≡ false = sym is ∙ idle in cc) }

  follow-story : (path : List (List ℕ)) (step : WalkStep) (room : Bool) (v : Visit) → v.asked ≡ false → WalkLeads top h path v.walk → WalkMoves step v.walk
      → VisitStory path (visiting.follow_after step room v)
  follow-story path (walks.Send call) room v idle l s = on-way path v l idle
  follow-story path walks.Wait room v idle l s = on-way path v l idle
  follow-story path (walks.At object) true v idle l s = record { walk = l; done = λ is. s.1 }
  follow-story path (walks.At object) false v idle l s = on-way path v l idle
  follow-story path (walks.Refused fault) room v idle l s = on-way path v l idle

  visit-goes : (path : List (List ℕ)) (v : Visit) (turn : Turn) (shelf : Shelf) → NamesTold h shelf.names → VisitStory path v → VisitStory path (visiting.visit_after v turn shelf)
  visit-goes path v turn shelf t s = by v.asked refl
    where
      by : (b : Bool) → v.asked ≡ b
          → VisitStory path (if b then v else visiting.follow_after (walking.go_next v.walk turn shelf) turn.room (record v { walk = walking.go_after v.walk turn shelf }))
      by true is = s
      by false is = follow-story path (walking.go_next v.walk turn shelf) turn.room (record v { walk = walking.go_after v.walk turn shelf }) is
          (go-leads top h path v.walk turn shelf t s.walk) (go-step v.walk turn shelf)

  visit-takes : (path : List (List ℕ)) (v : Visit) (sent turn : Turn) (came : Result Reply Fault) (old : Shelf) (next : VisitStep) (new : Visit) (after : Shelf) (call : Call) → v.asked ≡ false
      → NamesTold h old.names → VisitStory path v → WalkAwaits v.walk call → IsHeard top h came call → visiting.VisitTakes v sent turn came old next new after → VisitStory path new
  visit-takes path v sent turn came old next new after call idle t s e heard k =
      subst (VisitStory path) (sym k.visit_is)
      (follow-story path k.step turn.room k.walked (ap (λ (w : Visit). w.asked) k.walked_is ∙ idle)
      (took-leads top h path v.walk sent turn came old k.step k.walked.walk after call t s.walk e heard k.takes)
      (took-step v.walk sent turn came old k.step k.walked.walk after k.takes))

  visit-by : (path : List (List ℕ)) (A : Answer → Type 0) (own : List ℕ → Call) (step : VisitStep) (new : Visit) → ((fault : Fault) → A (answers.Refused fault)) → VisitStory path new
      → ThenOf (VisitStory path) A (visiting.next_by own step) new
  visit-by path A own (visits.Look look) new refused s = s
  visit-by path A own visits.Wait new refused s = s
  visit-by path A own (visits.Ask object) new refused s = s
  visit-by path A own (visits.Refused fault) new refused s = refused fault

  pub visit-then : (path : List (List ℕ)) (A : Answer → Type 0) (own : List ℕ → Call) (v : Visit) (turn : Turn) (shelf : Shelf) (next : Step) → ((fault : Fault) → A (answers.Refused fault))
      → NamesTold h shelf.names → VisitStory path v → next ≡ visiting.next_by own (visiting.visit_next v turn shelf) → ThenOf (VisitStory path) A next (visiting.visit_after v turn shelf)
  visit-then path A own v turn shelf next refused t s is =
      then-as (VisitStory path) A _ next (visiting.visit_after v turn shelf) is
      (visit-by path A own (visiting.visit_next v turn shelf) (visiting.visit_after v turn shelf) refused (visit-goes path v turn shelf t s))

  pub walks-then : (path : List (List ℕ)) (A : Answer → Type 0) (own : List ℕ → Call) (v : Visit) (sent turn : Turn) (came : Result Reply Fault) (old : Shelf) (next : Step) (new : Visit)
      (after : Shelf) (call : Call) → ((fault : Fault) → A (answers.Refused fault)) → v.asked ≡ false → NamesTold h old.names → VisitStory path v → WalkAwaits v.walk call
      → IsHeard top h came call → visiting.Walks own v sent turn came old next new after → ThenOf (VisitStory path) A next new
  walks-then path A own v sent turn came old next new after call refused idle t s e heard w =
      then-as (VisitStory path) A _ next new w.next_is
      (visit-by path A own w.step new refused (visit-takes path v sent turn came old w.step new after call idle t s e heard w.takes))

  copies-by : (path : List (List ℕ)) (A : Answer → Type 0) (own : List ℕ → Call) (step : VisitStep) (next : Step) (new : Visit) → ((fault : Fault) → A (answers.Refused fault))
      → VisitStory path new → CopiesBy own step next → ThenOf (VisitStory path) A next new
  copies-by path A own (visits.Look look) next new refused s c = then-as (VisitStory path) A (nexts.Send look) next new c s
  copies-by path A own visits.Wait next new refused s c = then-as (VisitStory path) A nexts.Wait next new c s
  copies-by path A own (visits.Ask dir) next new refused s (inl c) = then-as (VisitStory path) A (nexts.Send (own dir)) next new c s
  copies-by path A own (visits.Ask dir) next new refused s (inr c) = then-as (VisitStory path) A (nexts.Done (answers.Refused faults.Memory)) next new c (refused faults.Memory)
  copies-by path A own (visits.Refused fault) next new refused s c = then-as (VisitStory path) A (nexts.Done (answers.Refused fault)) next new c (refused fault)

  pub copy-then : (path : List (List ℕ)) (A : Answer → Type 0) (own : List ℕ → Call) (v : Visit) (turn : Turn) (shelf : Shelf) (next : Step) → ((fault : Fault) → A (answers.Refused fault))
      → NamesTold h shelf.names → VisitStory path v → CopiesBy own (visiting.visit_next v turn shelf) next → ThenOf (VisitStory path) A next (visiting.visit_after v turn shelf)
  copy-then path A own v turn shelf next refused t s c =
      copies-by path A own (visiting.visit_next v turn shelf) next (visiting.visit_after v turn shelf) refused (visit-goes path v turn shelf t s) c

  pub copies-then : (path : List (List ℕ)) (A : Answer → Type 0) (own : List ℕ → Call) (v : Visit) (sent turn : Turn) (came : Result Reply Fault) (old : Shelf) (next : Step) (step : VisitStep)
      (new : Visit) (after : Shelf) (call : Call) → ((fault : Fault) → A (answers.Refused fault)) → v.asked ≡ false → NamesTold h old.names → VisitStory path v → WalkAwaits v.walk call
      → IsHeard top h came call → visiting.VisitTakes v sent turn came old step new after → CopiesBy own step next → ThenOf (VisitStory path) A next new
  copies-then path A own v sent turn came old next step new after call refused idle t s e heard k c =
      copies-by path A own step next new refused (visit-takes path v sent turn came old step new after call idle t s e heard k) c

  -- ---- two walks and a call

  -- its walks lead along the paths, the second one after the first, and it asks for its own call at their ends
  pub record PairStory (first second : List (List ℕ)) (p : Pair) : Type 0 where
    pub one : WalkLeads top h first p.first
    pub two : WalkLeads top h second p.second
    pub then_ : p.second.asked ≡ true → walking.next_name p.first ≡ None
    pub alone : p.first.asked ≡ true → p.second.asked ≡ false
    pub done : p.asked ≡ true → (walking.next_name p.first ≡ None) × (walking.next_name p.second ≡ None)

  pub pair-at : (first second : List (List ℕ)) (p : Pair) → PairStory first second p → p.asked ≡ true → LeadsTo top h first p.first.spot.dir × LeadsTo top h second p.second.spot.dir
  pair-at first second p s is = let d = s.done is in (end-leads top h first p.first s.one d.0, end-leads top h second p.second s.two d.1)

  not-both : (b : Bool) → b ≡ true → b ≡ false → ⊥
  not-both b is other = let no_way : true ≡ false = sym is ∙ other in cc

  second-story : (first second : List (List ℕ)) (step : WalkStep) (room : Bool) (p : Pair) → p.asked ≡ false → p.first.asked ≡ false → WalkLeads top h first p.first
      → WalkLeads top h second p.second → walking.next_name p.first ≡ None → WalkMoves step p.second → PairStory first second (pairs.second_kept step room p)
  second-story first second step room p idle free one two end s = by step room s
    where
      stays : PairStory first second p
      stays = record { one = one; two = two; then_ = λ is. end; alone = λ is. absurd (not-both p.first.asked is free); done = λ is. absurd (not-both p.asked is idle) }

      by : (w : WalkStep) (b : Bool) → WalkMoves w p.second → PairStory first second (pairs.second_kept w b p)
      by (walks.Send call) b k = stays
      by walks.Wait b k = stays
      by (walks.At object) true k = record { one = one; two = two; then_ = λ is. end; alone = λ is. absurd (not-both p.first.asked is free); done = λ is. (end, k.1) }
      by (walks.At object) false k = stays
      by (walks.Refused fault) b k = stays

  first-story : (first second : List (List ℕ)) (step : WalkStep) (p : Pair) (turn : Turn) (shelf : Shelf) → p.asked ≡ false → p.second.asked ≡ false → NamesTold h shelf.names
      → WalkLeads top h first p.first → WalkLeads top h second p.second → WalkMoves step p.first → PairStory first second (pairs.first_kept step p turn shelf)
  first-story first second step p turn shelf idle free t one two s = by step s
    where
      stays : PairStory first second p
      stays = record { one = one; two = two; then_ = λ is. absurd (not-both p.second.asked is free); alone = λ is. free; done = λ is. absurd (not-both p.asked is idle) }

      by : (w : WalkStep) → WalkMoves w p.first → PairStory first second (pairs.first_kept w p turn shelf)
      by (walks.Send call) k = stays
      by walks.Wait k = stays
      by (walks.At object) k = second-story first second (walking.go_next p.second turn shelf) turn.room (record p { second = walking.go_after p.second turn shelf }) idle k.2 one
          (go-leads top h second p.second turn shelf t two) k.1 (go-step p.second turn shelf)
      by (walks.Refused fault) k = stays

  pair-goes : (first second : List (List ℕ)) (p : Pair) (turn : Turn) (shelf : Shelf) → NamesTold h shelf.names → PairStory first second p
      → PairStory first second (pairs.pair_after p turn shelf)
  pair-goes first second p turn shelf t s = by p.asked p.second.asked refl refl
    where
      by : (a b : Bool) → p.asked ≡ a → p.second.asked ≡ b → PairStory first second (if a || b then p else pairs.on_after p turn shelf)
      by true b is at = s
      by false true is at = s
      by false false is at = first-story first second (walking.go_next p.first turn shelf) (pairs.walked_first p turn shelf) turn (walking.go_shelf p.first turn shelf) is at
          (go-told (IsNameTold h) p.first turn shelf t) (go-leads top h first p.first turn shelf t s.one) s.two (go-step p.first turn shelf)

  waits-none : (b : Bool) (w : Walk) → w.asked ≡ b → b ≡ false → walking.waiting_name w ≡ None
  waits-none b w is none = ap (λ (c : Bool). if c then walking.next_name w else None) (is ∙ none)

  pair-takes : (first second : List (List ℕ)) (b : Bool) (p : Pair) (sent turn : Turn) (came : Result Reply Fault) (old : Shelf) (next : PairStep) (new : Pair) (after : Shelf) (call : Call)
      → p.asked ≡ false → p.first.asked ≡ b → NamesTold h old.names → PairStory first second p → PairOr false b (λ x y. call) p call → IsHeard top h came call
      → pairs.PairTakes b p sent turn came old next new after → PairStory first second new
  pair-takes first second true p sent turn came old next new after call idle is t s e heard k =
      subst (PairStory first second) (sym k.pair_is)
      (first-story first second k.step k.walked turn k.heard (ap (λ (w : Pair). w.asked) k.walked_is ∙ idle) (ap (λ (w : Pair). w.second.asked) k.walked_is ∙ s.alone is)
      (walk-told (IsNameTold h) p.first sent turn came old k.step k.walked.first k.heard call e (heard-tells top h came call heard) k.takes t)
      (took-leads top h first p.first sent turn came old k.step k.walked.first k.heard call t s.one e heard k.takes)
      (subst (λ (w : Walk). WalkLeads top h second w) (sym (ap (λ (w : Pair). w.second) k.walked_is)) s.two)
      (took-step p.first sent turn came old k.step k.walked.first k.heard k.takes))
  pair-takes first second false p sent turn came old next new after call idle is t s e heard k = by p.second.asked refl
    where
      one : WalkLeads top h first k.walked.first
      one = subst (λ (w : Walk). WalkLeads top h first w) (sym (ap (λ (w : Pair). w.first) k.walked_is)) s.one

      by : (b : Bool) → p.second.asked ≡ b → PairStory first second new
      by true at = subst (PairStory first second) (sym k.pair_is)
          (second-story first second k.step turn.room k.walked (ap (λ (w : Pair). w.asked) k.walked_is ∙ idle) (ap (λ (w : Pair). w.first.asked) k.walked_is ∙ is) one
          (took-leads top h second p.second sent turn came old k.step k.walked.second after call t s.two e heard k.takes)
          (ap (λ (w : Pair). walking.next_name w.first) k.walked_is ∙ s.then_ at)
          (took-step p.second sent turn came old k.step k.walked.second after k.takes))
      by false at =
          let none : walking.waiting_name p.second ≡ None = waits-none false p.second at refl in
          let waited = subst (λ (o : Option (List ℕ)). walking.Takes o p.second sent turn came old k.step k.walked.second after) none k.takes in
          let same : k.walked ≡ p = k.walked_is ∙ ap (λ (w : Walk). record p { second = w }) waited.walk_is in
          let to : new ≡ p = k.pair_is ∙ ap (λ (n : WalkStep). pairs.second_kept n turn.room k.walked) waited.next_is ∙ same in
          subst (PairStory first second) (sym to) s

  pair-by : (first second : List (List ℕ)) (A : Answer → Type 0) (own : List ℕ → List ℕ → Call) (step : PairStep) (new : Pair) → ((fault : Fault) → A (answers.Refused fault))
      → PairStory first second new → ThenOf (PairStory first second) A (pairs.next_by own step) new
  pair-by first second A own (two.Look look) new refused s = s
  pair-by first second A own two.Wait new refused s = s
  pair-by first second A own (two.Ask a b) new refused s = s
  pair-by first second A own (two.Refused fault) new refused s = refused fault

  pub pair-then : (first second : List (List ℕ)) (A : Answer → Type 0) (own : List ℕ → List ℕ → Call) (p : Pair) (turn : Turn) (shelf : Shelf) (next : Step)
      → ((fault : Fault) → A (answers.Refused fault)) → NamesTold h shelf.names → PairStory first second p → next ≡ pairs.next_by own (pairs.pair_next p turn shelf)
      → ThenOf (PairStory first second) A next (pairs.pair_after p turn shelf)
  pair-then first second A own p turn shelf next refused t s is =
      then-as (PairStory first second) A _ next (pairs.pair_after p turn shelf) is
      (pair-by first second A own (pairs.pair_next p turn shelf) (pairs.pair_after p turn shelf) refused (pair-goes first second p turn shelf t s))

  pub pair-walks-then : (first second : List (List ℕ)) (A : Answer → Type 0) (own : List ℕ → List ℕ → Call) (p : Pair) (sent turn : Turn) (came : Result Reply Fault) (old : Shelf) (next : Step)
      (new : Pair) (after : Shelf) (call : Call) → ((fault : Fault) → A (answers.Refused fault)) → p.asked ≡ false → NamesTold h old.names → PairStory first second p
      → PairOr false p.first.asked own p call → IsHeard top h came call → pairs.Walks own p sent turn came old next new after → ThenOf (PairStory first second) A next new
  pair-walks-then first second A own p sent turn came old next new after call refused idle t s e heard w =
      then-as (PairStory first second) A _ next new w.next_is
      (pair-by first second A own w.step new refused
      (pair-takes first second p.first.asked p sent turn came old w.step new after call idle refl t s (either p.first.asked e) heard w.takes))
    where
      either : (b : Bool) → PairOr false b own p call → PairOr false b (λ x y. call) p call
      either true k = k
      either false k = k

-- ---- one entry more

pub visit-later : (top : List ℕ) (h : List Entry) (e : Entry) (path : List (List ℕ)) (v : Visit) → VisitStory top h path v → VisitStory top (h ++ e ∷ []) path v
visit-later top h e path v s = record { walk = walk-later top h e path v.walk s.walk; done = s.done }

pub pair-later : (top : List ℕ) (h : List Entry) (e : Entry) (first second : List (List ℕ)) (p : Pair) → PairStory top h first second p → PairStory top (h ++ e ∷ []) first second p
pair-later top h e first second p s =
    record { one = walk-later top h e first p.first s.one; two = walk-later top h e second p.second s.two; then_ = s.then_; alone = s.alone; done = s.done }
