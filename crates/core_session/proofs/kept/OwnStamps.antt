-- What a read knows of the stamps under which it looks at pages: each was shown since the reply to an own change.
use Rattle.core_session.proofs.Prelude.{◌≡◌, ◌<◌, ◌≤◌, ◌-◌, ℕ, true, List, [], ◌∷◌, ◌++◌, length, Some, Result, Ok, sym, ap, subst, ◌∙◌, append_assoc, append-nil, arith, Stamp, Wcc, FileCall, FileKept, Pages, known_of, after_page, Fault, Entry, Began, Call, Reply, Op, At, Asked, Modes, Numbered, Shelf, Turn, Mounted, machine_of, Setup, View, LastAtMost}
use Rattle.world_model.specs.declared.message.Call.TheVariants as calls
use Rattle.world_model.specs.declared.message.Reply.TheVariants as replies
use Rattle.core_session.proofs.current.FedPages.{FedLaws}
use Rattle.core_session.proofs.current.Moments.{IsMoment, IsToldSince}
use Rattle.core_session.proofs.kept.OwnFollows.{Follows}
use Rattle.core_session.proofs.kept.OwnMarks.{Marked, M, keeps-m}
use Rattle.core_session.proofs.kept.OwnStated.{Stated}
use Rattle.core_session.proofs.kept.OwnSeen.{SeenAfter, AfterIn, after-grows, marked-after, known-after, shows-after, fed-after}
use Rattle.core_session.proofs.kept.ReadFound.{StampLaws}

-- over any number of entries
after-more : (wcc : Wcc) (h rest : List Entry) (d : ℕ) (f : List ℕ) (k : ℕ) (c : Pages) → AfterIn wcc h d f k c → AfterIn wcc (h ++ rest) d f k c
after-more wcc h [] d f k c m = subst (λ (z : List Entry). AfterIn wcc z d f k c) (sym (append-nil h)) m
after-more wcc h (e ∷ es) d f k c m =
    subst (λ (z : List Entry). AfterIn wcc z d f k c) (append_assoc h (e ∷ []) es) (after-more wcc (h ++ e ∷ []) es d f k c (marked-after wcc h e d f k c m))

module _ (mounted : Mounted) (modes : Modes) (same : mounted.nocto ≡ modes.nocto) (setup : Setup) (lasts : modes.nocto ≡ true → LastAtMost setup.lives modes.longest) (H : List Entry) (numbered : Numbered H)
    (f : List ℕ) (call_ : FileCall) (reply_ : FileKept) (wcc : Wcc) (from to : ℕ) (asked : Asked H from to (calls.File call_) (replies.File reply_))
    (stated : Stated mounted setup H asked.heard.got_at f call_)
    (b_ b_lane b_line : ℕ) (op_ : Op) (began_ : At H b_ (Began b_lane b_line op_)) (since_ : b_ < asked.heard.sent_at)
    (newly : Follows mounted setup f call_ reply_ wcc) where
  abbrev pub d : ℕ
  d = asked.heard.got_at

  -- what the read at the place x knows of a stamp
  abbrev pub SinceOwn : ℕ → List Entry → List ℕ → Stamp → Type 0
  SinceOwn x h file stamp = (rest : List Entry) → h ++ rest ≡ H → d < x → file ≡ f → SeenAfter wcc h d f stamp

  abbrev pub Mo : List Entry → View → Type 0
  Mo = M mounted modes same setup lasts H numbered f call_ reply_ wcc from to asked stated b_ b_lane b_line op_ began_ since_ newly

  pub known-so : (x : ℕ) (h : List Entry) (v : View) → x ≤ length h → Mo h v → (file : List ℕ) (stamp : Stamp) → known_of file v.shelf.pages ≡ Some stamp → SinceOwn x h file stamp
  known-so x h v late m file stamp there rest is low own =
      let k = m.marked rest is (omega (arith, late, low)) in
      known-after wcc h d f k.k v.shelf.pages stamp k.after (ap (λ (z : List ℕ). known_of z v.shelf.pages) (sym own) ∙ there)

  pub step-so : (x : ℕ) (h before after : List Entry) → h ≡ before ++ after → x ≤ length before → (v : View) → Mo before v → (call : Call) (came : Result Reply Fault) (sent turn : Turn)
      → v.moments ≤ turn.moment - 1
      → ((o k : ℕ) → IsMoment before v o k → (reply : Reply) → came ≡ Ok reply → IsToldSince h call sent o k reply) → (shelf : Shelf) → v.shelf ≡ shelf → (later : Pages)
      → ((T : Pages → Type 0) → ((file : List ℕ) (index : ℕ) (c : Pages) → T c → T (after_page file index c)) → FedLaws T call came sent turn → T shelf.pages → T later)
      → (file : List ℕ) (stamp : Stamp) → known_of file later ≡ Some stamp → SinceOwn x h file stamp
  step-so x h before after split late v m call came sent turn soon told shelf same_ later step file stamp there rest is low own =
      known-after wcc h d f k later stamp (step (AfterIn wcc h d f k) (λ file_ index c. shows-after wcc h d f k file_ index c)
      (fed-after wcc h d f k call came sent turn (let given = mk.moment.given in omega (arith, given, soon)) (told d k mk.moment)) base)
      (ap (λ (z : List ℕ). known_of z later) (sym own) ∙ there)
    where
      mk : Marked wcc d f before v
      mk = m.marked (after ++ rest) (sym (append_assoc before after rest) ∙ ap (λ (z : List Entry). z ++ rest) (sym split) ∙ is) (omega (arith, late, low))

      k : ℕ
      k = mk.k

      base : AfterIn wcc h d f k shelf.pages
      base = subst (λ (z : Shelf). AfterIn wcc h d f k z.pages) same_ (subst (λ (z : List Entry). AfterIn wcc z d f k v.shelf.pages) (sym split) (after-more wcc before after d f k v.shelf.pages mk.after))

  abbrev pub stamp-laws : StampLaws (machine_of mounted) setup
  stamp-laws = record {
    M = Mo;
    O = SinceOwn;
    keeps = keeps-m mounted modes same setup lasts H numbered f call_ reply_ wcc from to asked stated b_ b_lane b_line op_ began_ since_ newly;
    grows = λ x h e file stamp s rest is low own. after-grows wcc h e d f stamp (s (e ∷ rest) (sym (append_assoc h (e ∷ []) rest) ∙ is) low own);
    known = known-so;
    step = step-so;
  }
