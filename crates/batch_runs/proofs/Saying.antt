-- Texts that are written one after another, and behind what a session wrote.
use Rattle.std.proofs.Common.{◌≡◌, ℕ, List, [], ◌++◌, Option, Some, None, refl, ap, ◌∙◌, append_assoc}
use Rattle.world_model.specs.declared.entry.Entry.{Entry}
use Rattle.world_model.specs.History.{History}
use Rattle.world_model.specs.Follows.{IsFront}
use Rattle.lane_session.specs.Streams.{Appends as LaneAppends, Passes}
use Rattle.lane_session.proofs.Passing.{appends_then as lane-then, relates_less}
use Rattle.script_runs.specs.Run.{Says}
use Rattle.script_runs.specs.Streams.{Appends, AppendsFront}
use Rattle.script_runs.proofs.StreamLaws.{appends_none}

pub appends-then : (a b c : Option (List ℕ)) (t u : List ℕ) → Appends a b t → Appends b c u → Appends a c (t ++ u)
appends-then None b c t u p q = tt
appends-then (Some a) None c t u p q = absurd p
appends-then (Some a) (Some b) None t u p q = absurd q
appends-then (Some a) (Some b) (Some c) t u p q = q ∙ ap (λ (x : List ℕ). x ++ u) p ∙ append_assoc a t u

-- nothing was written
pub says-none : (a : Option (List ℕ)) (P : List ℕ → Type 0) → P [] → Says a a P
says-none a P p = record { text = []; added = appends_none a; is = p }

pub says-less : (a b : Option (List ℕ)) (P Q : List ℕ → Type 0) → ((t : List ℕ) → P t → Q t) → Says a b P → Says a b Q
says-less a b P Q less s = record { text = s.text; added = s.added; is = less s.text s.is }

pub says-then : (a b c : Option (List ℕ)) (P Q R : List ℕ → Type 0) → ((t u : List ℕ) → P t → Q u → R (t ++ u)) → Says a b P → Says b c Q → Says a c R
says-then a b c P Q R join p q = record { text = p.text ++ q.text; added = appends-then a b c p.text q.text p.added q.added; is = join p.text q.text p.is q.is }

-- a text, or a front of it
pub says-all : (a b : Option (List ℕ)) (bytes : List ℕ) → Appends a b bytes → Says a b (λ t. t ≡ bytes)
says-all a b bytes p = record { text = bytes; added = p; is = refl }

pub says-front : (a b : Option (List ℕ)) (bytes : List ℕ) → AppendsFront a b bytes → Says a b (λ t. IsFront t bytes)
says-front None b bytes p = record { text = []; added = tt; is = record { rest = bytes; is = refl } }
says-front (Some a) None bytes p = absurd p
says-front (Some a) (Some b) bytes p = record { text = p.0; added = p.1; is = p.2 }

-- ---- behind a session

in-lane : (a b : Option (List ℕ)) (text : List ℕ) → Appends a b text → LaneAppends a b text
in-lane None b text p = tt
in-lane (Some a) None text p = absurd p
in-lane (Some a) (Some b) text p = p

module _ (r0 r1 : Option (List ℕ)) (t0 t1 : Option History) (w0 w1 w2 : Option (List ℕ)) (R T : List ℕ → List ℕ → List Entry → List Entry → Type 0) (P : List ℕ → Type 0) where
  pub passes-on : ((given told ended : List ℕ) (h k : List Entry) → R given told h k → P ended → T given (told ++ ended) h k) → Passes r0 r1 t0 t1 w0 w1 R → Says w1 w2 P
      → Passes r0 r1 t0 t1 w0 w2 T
  passes-on join p s = record {
    given = p.given;
    read = p.read;
    text = p.text ++ s.text;
    added = lane-then w0 w1 w2 p.text s.text p.added (in-lane w1 w2 s.text s.added);
    told = relates_less t0 t1 _ _ (λ h k x. join p.given p.text s.text h k x s.is) p.told;
  }
