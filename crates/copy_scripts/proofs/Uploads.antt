-- A copy goes on by what a tree gives.
use Rattle.std.proofs.Common.{◌≡◌, inl, inr, ℕ, true, List, [], ◌∷◌, ◌++◌, Option, Some, None, Result, Ok, Err, refl, sym, ap, subst, ◌∙◌, append_assoc, append-nil}
use Rattle.std.specs.Prelude.{OnOk}
use Rattle.xdr_codec.specs.declared.blob.Memory.{Memory}
use Rattle.file_trees.specs.declared.item.Item.{Item}
use Rattle.file_trees.specs.declared.item.Node.{Node}
use Rattle.file_trees.specs.declared.item.Node.TheVariants as nodes
use Rattle.file_trees.specs.declared.tree.Given.{Given}
use Rattle.file_trees.specs.declared.tree.Given.TheVariants as gives
use Rattle.file_trees.specs.Giving.{Gives}
use Rattle.copy_plan.specs.Files.{FilesView}
use Rattle.copy_plan.specs.Lines.{LinesView}
use Rattle.copy_plan.specs.Trees.{plan_node, plan_one, plan_of}
use Rattle.copy_scripts.specs.Uploads.{AnyCant, AreWhole, CantStand, Gave, IsWholeNode, MayLink, OnlyWrong, Planned, PlannedNode, Takes, TakesNode, UploadView, link}

-- ---- what a tree gave

pub gives-none : (a : Option (List Given)) → Gives a a []
gives-none None = tt
gives-none (Some x) = sym (append-nil x)

pub gives-then : (a b c : Option (List Given)) (m n : List Given) → Gives a b m → Gives b c n → Gives a c (m ++ n)
gives-then None b c m n p q = tt
gives-then (Some x) None c m n p q = absurd p
gives-then (Some x) (Some y) None m n p q = absurd q
gives-then (Some x) (Some y) (Some z) m n p q = q ∙ ap (λ (t : List Given). t ++ n) p ∙ append_assoc x m n

pub plan-then : (to : List (List ℕ)) (m n : List Given) (v : FilesView) → plan_of to (m ++ n) v ≡ plan_of to n (plan_of to m v)
plan-then to [] n v = refl
plan-then to (g ∷ m) n v = plan-then to m n (plan_one to g v)

pub whole-then : (m n : List Given) → AreWhole m → AreWhole n → AreWhole (m ++ n)
whole-then [] n p q = q
whole-then (g ∷ m) n p q = (p.0, whole-then m n p.1 q)

-- ---- what of it can't be copied

pub cant-front : (to : List (List ℕ)) (m n : List Given) → AnyCant to m → AnyCant to (m ++ n)
cant-front to [] n a = absurd a
cant-front to (g ∷ m) n (inl now) = inl now
cant-front to (g ∷ m) n (inr later) = inr (cant-front to m n later)

pub cant-behind : (to : List (List ℕ)) (m n : List Given) → AnyCant to n → AnyCant to (m ++ n)
cant-behind to [] n a = a
cant-behind to (g ∷ m) n a = inr (cant-behind to m n a)

-- ---- what is made of it

pub takes-none : (u : UploadView) → Takes [] u u
takes-none u = record { to = refl; sent = refl; right = λ e. record { before = e; whole = tt; files = refl }; amiss = λ e. inl e }

pub takes-then : (m n : List Given) (a b c : UploadView) → Takes m a b → Takes n b c → Takes (m ++ n) a c
takes-then m n a b c p q = record {
  to = q.to ∙ p.to;
  sent = q.sent ∙ p.sent;
  right = λ e.
      let second : Planned n b c = q.right e in
      let first : Planned m a b = p.right second.before in
      record {
        before = first.before;
        whole = whole-then m n first.whole second.whole;
        files = second.files
            ∙ ap (λ (t : List (List ℕ)). plan_of t n b.files) p.to
            ∙ ap (plan_of a.to n) first.files
            ∙ sym (plan-then a.to m n a.files);
      };
  amiss = λ e.
      elim (q.amiss e) [
        | inl was ↦ elim (p.amiss was) [
          | inl first ↦ inl first
          | inr cant ↦ inr (cant-front a.to m n cant)
        ]
        | inr cant ↦ inr (cant-behind a.to m n (subst (λ (t : List (List ℕ)). AnyCant t n) p.to cant))
      ];
}

pub gave-none : (a : Option (List Given)) (u : UploadView) → Gave a a (λ given. Takes given u u)
gave-none a u = record { more = []; told = gives-none a; so = takes-none u }

pub gave-then : (a b c : Option (List Given)) (u v w : UploadView) → Gave a b (λ given. Takes given u v) → Gave b c (λ given. Takes given v w)
    → Gave a c (λ given. Takes given u w)
gave-then a b c u v w p q = record {
  more = p.more ++ q.more;
  told = gives-then a b c p.more q.more p.told q.told;
  so = takes-then p.more q.more u v w p.so q.so;
}

-- ---- what stands at a path

pub node-wrong : (to : List (List ℕ)) (node : Node) (old new : UploadView) → CantStand to node → new ≡ record old { wrong = true } → TakesNode to node old new
node-wrong to node old new cant e = subst (TakesNode to node old) (sym e) (record { to = refl; sent = refl; right = λ w. absurd cc; amiss = λ w. inr cant })

pub told-wrong : (to : List (List ℕ)) (node : Node) (old new : UploadView) (result : Result (Unit {0}) Memory) → CantStand to node → new ≡ record old { wrong = true }
    → OnOk result (TakesNode to node old new)
told-wrong to node old new (Err e) cant wrong = tt
told-wrong to node old new (Ok u) cant wrong = node-wrong to node old new cant wrong

-- a link that leads where none can
pub link-wrong : (to : List (List ℕ)) (target bytes : List ℕ) (old new : UploadView) (result : Result (Unit {0}) Memory) → (MayLink bytes → ⊥) → bytes ≡ target
    → new ≡ record old { wrong = true } → OnOk result (TakesNode to (nodes.Link target) old new)
link-wrong to target bytes old new result never is wrong =
    told-wrong to (nodes.Link target) old new result (link target refl (subst (λ (t : List ℕ). MayLink t → ⊥) is never)) wrong

-- one for which names are asked
pub node-named : (to : List (List ℕ)) (node : Node) (names : LinesView) (old new : UploadView) → IsWholeNode node → plan_node node to old.files ≡ old.files
    → new ≡ record old { names = names } → TakesNode to node old new
node-named to node names old new whole same e =
    subst (TakesNode to node old) (sym e) (record { to = refl; sent = refl; right = λ w. record { before = w; whole = whole; files = sym same }; amiss = λ w. inl w })

pub node-file : (to : List (List ℕ)) (old new : UploadView) → new ≡ record old { files = plan_node nodes.File to old.files } → TakesNode to nodes.File old new
node-file to old new e = subst (TakesNode to nodes.File old) (sym e) (record { to = refl; sent = refl; right = λ w. record { before = w; whole = tt; files = refl }; amiss = λ w. inl w })

-- nothing is asked for a folder that is there
pub node-there : (to : List (List ℕ)) (node : Node) (u : UploadView) → node ≡ nodes.Folder → TakesNode to node u u
node-there to node u e = subst (λ (n : Node). TakesNode to n u u) (sym e) (record { to = refl; sent = refl; right = λ w. record { before = w; whole = tt; files = refl }; amiss = λ w. inl w })

pub item-takes : (path to : List (List ℕ)) (node : Node) (old new : UploadView) → to ≡ old.to ++ path → TakesNode to node old new
    → Takes (gives.Item (record { path = path; node = node }) ∷ []) old new
item-takes path to node old new is p = record {
  to = p.to;
  sent = p.sent;
  right = λ e.
      let planned : PlannedNode to node old new = p.right e in
      record {
        before = planned.before;
        whole = (planned.whole, tt);
        files = planned.files ∙ ap (λ (t : List (List ℕ)). plan_node node t old.files) is;
      };
  amiss = λ e.
      elim (p.amiss e) [
        | inl was ↦ inl was
        | inr cant ↦ inr (inl (subst (λ (t : List (List ℕ)). CantStand t node) is cant))
      ];
}

pub item-ok : (item : Item) (to : List (List ℕ)) (old new : UploadView) (result : Result (Unit {0}) Memory) → to ≡ old.to ++ item.path
    → OnOk result (TakesNode to item.node old new) → OnOk result (Takes (gives.Item item ∷ []) old new)
item-ok item to old new (Err e) is p = tt
item-ok item to old new (Ok u) is p = item-takes item.path to item.node old new is p

-- ---- what was answered

pub only-none : (u : UploadView) → OnlyWrong u u
only-none u = record { same = refl; right = λ e. e }

pub only-then : (a b c : UploadView) → OnlyWrong a b → OnlyWrong b c → OnlyWrong a c
only-then a b c p q = record {
  same = q.same ∙ ap (λ (t : UploadView). record t { wrong = c.wrong }) p.same;
  right = λ e. p.right (q.right e);
}

pub only-wrong : (old new : UploadView) → new ≡ record old { wrong = true } → OnlyWrong old new
only-wrong old new e = subst (OnlyWrong old) (sym e) (record { same = refl; right = λ w. absurd cc })
