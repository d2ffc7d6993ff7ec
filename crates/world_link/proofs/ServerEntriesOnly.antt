-- What the server tells goes on.
use Rattle.std.proofs.Common.{◌≡◌, ◌≤◌, ◌<◌, ℕ, List, [], ◌∷◌, ◌++◌, length, Bool, true, false, if◌then◌else◌, Option, None, refl, sym, ap, ◌∙◌, append_assoc, arith, length-append}
use Rattle.std.proofs.lemmas.List.{append-nil, take-append-le}
use Rattle.world_model.specs.declared.entry.Entry.{Entry}
use Rattle.world_model.specs.declared.entry.Entry.TheVariants.{Executed, Foreign, Reboot}
use Rattle.world_model.specs.declared.message.Call.{Call}
use Rattle.world_model.specs.declared.message.Reply.{Reply}
use Rattle.world_model.specs.Entries.{ours}
use Rattle.world_model.specs.Told.{Adds}
use Rattle.world_model.proofs.Histories.{ours-append}
use Rattle.export_fs.specs.View.{View}
use Rattle.export_fs.specs.Seen.{server_of}
use Rattle.world_link.specs.Going.{Goes, GoesOn}
use Rattle.nfs_types.specs.declared.verf.Verf.{Verf}
use Rattle.export_fs.specs.Restart.{may_restart, after_restart}
use Rattle.export_fs.specs.Executed.{executed}
use Rattle.world_link.specs.declared.broken.Broken.{Broken}
use Rattle.world_link.specs.declared.directive.PartialWrite.{PartialWrite}
use Rattle.world_link.specs.declared.manner.Manner.{Manner}
use Rattle.world_link.specs.Handling.{kept, handled}
use Rattle.world_link.specs.Replay.{replayed, stepped, stepped_by, stepped_with, part_at, at_of, told}
use Rattle.world_link.specs.View.{ServerView, WorldView}
use Rattle.world_link.proofs.Replays.{executed_stepped, handled_stepped, at_same}
use Rattle.world_link.proofs.Beside.{kept_before, same_follows, next_follows}

-- nothing was told, and the export stays
pub quiet_goes : (old new : ServerView) → new.entries ≡ old.entries → new.partials ≡ old.partials → new.export ≡ old.export → Goes old new
quiet_goes old new e p f = record {
  more = [];
  grown = e ∙ sym (append-nil old.entries);
  seen = refl;
  beside = λ n l. ap (λ (t : List Broken). part_at t n) p;
  follows = λ start h. same_follows start old new e p f h;
}

-- an entry was told, and the export took its step
pub one_goes : (old new : ServerView) (part : Option PartialWrite) (entry : Entry) → new.entries ≡ old.entries ++ entry ∷ [] → new.partials ≡ kept old.partials (length old.entries) part → ours (entry ∷ []) ≡ [] → new.export ≡ stepped part old.export entry → Goes old new
one_goes old new part entry e p quiet f = record {
  more = entry ∷ [];
  grown = e;
  seen = quiet;
  beside = λ n l. ap (λ (t : List Broken). part_at t n) p ∙ kept_before old.partials (length old.entries) part n l;
  follows = λ start h.
      same_follows start (record old { export = stepped part old.export entry; entries = old.entries ++ entry ∷ []; partials = kept old.partials (length old.entries) part }) new e p f
      (next_follows start old part entry (stepped part old.export entry) refl h);
}

pub then_goes : (a b c : ServerView) → Goes a b → Goes b c → Goes a c
then_goes a b c p q = record {
  more = p.more ++ q.more;
  grown = q.grown ∙ ap (λ (t : List Entry). t ++ q.more) p.grown ∙ append_assoc a.entries p.more q.more;
  seen = rw (ours-append, p.seen, q.seen) refl;
  beside = λ n l. q.beside n (omega (arith, l, ap (λ (t : List Entry). length t) p.grown, length-append a.entries p.more)) ∙ p.beside n l;
  follows = λ start h. q.follows start (p.follows start h);
}

-- a call was answered, and it was told
pub told_goes : (old new : ServerView) (part : Option PartialWrite) (manner : Manner) (xid : ℕ) (call : Call) (reply : Reply) → reply ≡ (handled part manner old.export call).1 → new.entries ≡ old.entries ++ Executed xid call reply ∷ []
    → new.partials ≡ kept old.partials (length old.entries) part → new.export ≡ (handled part manner old.export call).0 → Goes old new
told_goes old new part manner xid call reply r e p f =
    one_goes old new part (Executed xid call reply) e p refl (f ∙ sym (handled_stepped part manner old.export call) ∙ ap (stepped_with part old.export call) (sym r))

-- a call of another client was executed, and it was told
pub foreign_goes : (old new : ServerView) (call : Call) (reply : Reply) → reply ≡ (executed old.export call).1 → new.entries ≡ old.entries ++ Foreign call reply ∷ [] → new.partials ≡ old.partials → new.export ≡ (executed old.export call).0 → Goes old new
foreign_goes old new call reply r e p f = one_goes old new None (Foreign call reply) e p refl (f ∙ sym (executed_stepped old.export call) ∙ ap (stepped_by old.export call) (sym r))

pub first_of_two : (b : Bool) (x y : View) → b ≡ true → (if b then x else y) ≡ x
first_of_two true x y e = refl
first_of_two false x y e = absurd cc

-- a restart that was made, and it was told
pub restart_goes : (old new : ServerView) (made : Bool) (verf : Verf) → made ≡ may_restart old.export → new.export ≡ (if may_restart old.export then after_restart old.export else old.export) → made ≡ true → new.entries ≡ old.entries ++ Reboot verf ∷ [] → new.partials ≡ old.partials → Goes old new
restart_goes old new made verf d f t e p = one_goes old new None (Reboot verf) e p refl (f ∙ first_of_two (may_restart old.export) (after_restart old.export) old.export (sym d ∙ t))

pub second_of_two : (b : Bool) (x y : View) → b ≡ false → (if b then x else y) ≡ y
second_of_two true x y e = absurd cc
second_of_two false x y e = refl

-- no restart was made
pub unstarted_goes : (old new : ServerView) (made : Bool) → made ≡ may_restart old.export → new.export ≡ (if may_restart old.export then after_restart old.export else old.export) → made ≡ false → new.entries ≡ old.entries → new.partials ≡ old.partials → Goes old new
unstarted_goes old new made d f t e p = quiet_goes old new e p (f ∙ second_of_two (may_restart old.export) (after_restart old.export) old.export (sym d ∙ t))

-- the same of the world
pub on_goes : (old new : WorldView) → Goes old.server new.server → new.start ≡ old.start → new.faults ≡ old.faults → GoesOn old new
on_goes old new g s f = record { server = g; start = s; faults = f }

pub then_goes_on : (a b c : WorldView) → GoesOn a b → GoesOn b c → GoesOn a c
then_goes_on a b c p q = record { server = then_goes _ _ _ p.server q.server; start = q.start ∙ p.start; faults = q.faults ∙ p.faults }

-- moments that were there stay as they were
pub earlier : (parts : ℕ → Option PartialWrite) (start : View) (old more : List Entry) (n : ℕ) → n ≤ length old → at_of parts start (old ++ more) n ≡ at_of parts start old n
earlier parts start old more n le = ap (λ (es : List Entry). server_of (replayed parts start es)) (take-append-le n old more le)

pub adds : (old new : WorldView) (more es : List Entry) → new.start ≡ old.start → new.server.entries ≡ old.server.entries ++ more
    → ((n : ℕ) → n < length old.server.entries → part_at new.server.partials n ≡ part_at old.server.partials n) → ours more ≡ es → Adds (told old) (told new) es
adds old new more es s grown beside seen = record {
  more = more;
  grown = grown;
  seen = seen;
  earlier = λ n le. rw (s, grown) (earlier (part_at new.server.partials) old.start old.server.entries more n le ∙ at_same (part_at new.server.partials) (part_at old.server.partials) old.start old.server.entries beside n);
}

pub goes_adds : (old new : WorldView) → GoesOn old new → Adds (told old) (told new) []
goes_adds old new g = adds old new g.server.more [] g.start g.server.grown g.server.beside g.server.seen
