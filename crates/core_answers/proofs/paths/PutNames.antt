-- The file of a put stood under its name at a moment of the put.
use Rattle.core_answers.proofs.Prelude.{◌≡◌, ℕ, List, Some, refl, sym, ap, subst, ◌∙◌, Entry, Call, NamesFile}
use Rattle.world_model.specs.declared.answer.Answer.TheVariants as answers
use Rattle.world_model.specs.declared.message.Call.TheVariants as calls
use Rattle.world_model.specs.declared.op.Op.TheVariants as ops
use Rattle.claims.specs.Recent.{FoundByName}
use Rattle.claims.specs.Shown.{object_of}
use Rattle.claims.specs.Slots as slots
use Rattle.core_answers.proofs.bonds.AttrsShown.{fresh-attrs}
use Rattle.core_answers.proofs.bonds.Learnt.{IsOn}
use Rattle.core_answers.proofs.bonds.NamesShown.{none-kept}
use Rattle.core_answers.proofs.bonds.OneCall.{IsNfs}
use Rattle.core_answers.proofs.bonds.StatsLed.{Both, Kept}
use Rattle.core_answers.specs.paths.Found.{PutsFound, NamesHeld}
use Rattle.core_answers.proofs.paths.Following.{reached-answered}
use Rattle.core_answers.proofs.paths.FoundNames.{found-of, opens-found}
use Rattle.core_answers.proofs.paths.Lasts.{IsLast, last-until, same-last}
use Rattle.core_answers.proofs.paths.PutPaths.{PutsRun, PutsOver, put-laws}
use Rattle.core_answers.proofs.paths.Stood.{both-asks}

-- a call on an object is one of NFS
on-nfs : (file : List ℕ) (call : Call) → IsOn file call → IsNfs call
on-nfs file (calls.File call) on = tt
on-nfs file (calls.Dir call) on = tt
on-nfs file (calls.Mount call) on = absurd (cc)

names-on : (f : List ℕ) (call : Call) → NamesFile f call → object_of call ≡ Some f
names-on f call (slots.writes offset how bytes is) = ap object_of is
names-on f call (slots.commits offset count is) = ap object_of is

one-object : (a b : List ℕ) → Some a ≡ Some b → a ≡ b
one-object a b e = cc

pub puts-found : PutsFound
puts-found m setup modes origin t v g x y offset f bytes p =
    let s = reached-answered m setup Both both-asks (Kept modes.longest) (PutsRun m modes.longest) (PutsOver m modes.longest) (put-laws m modes.longest)
    (λ k w new. (fresh-attrs setup modes.longest k w.shelf.attrs g.lasts new.attrs, none-kept k w.shelf.names new.names)) t.entries v g.reached p.lane x (ops.Put p.path offset bytes) y
    (answers.Done p.value) p.ended in
    let k = s.story p.path offset bytes refl in
    let last : IsLast t.entries x y k.call k.reply = subst (λ (h : List Entry). IsLast h x y k.call k.reply) (sym s.is) (last-until s.before s.after x y k.call k.reply s.there k.last) in
    let same = (same-last t.entries x y k.call k.reply (on-nfs k.file k.call k.on) last p.call p.asked).call_is in
    let file : k.file ≡ f = one-object k.file f (sym k.on ∙ ap object_of (sym same) ∙ names-on f p.call p.names) in
    subst (λ (o : List ℕ). FoundByName modes origin t x y p.path o) file
    (found-of m setup modes origin t v g p.lane x y (ops.Put p.path offset bytes) (answers.Done p.value) p.ended s.before s.after s.is s.there p.path k.file k.found)

pub names-held : NamesHeld
names-held m setup modes origin t v g = record {
  opened = λ lane slot x y f o. opens-found m setup modes origin t v g lane slot x y f o;
  put = λ x y offset f bytes p. puts-found m setup modes origin t v g x y offset f bytes p;
}
