-- What a LOOKUP found stands as long as the directory has the stamp that the reply showed.
use Rattle.std.proofs.Common.{inl, inr, ◌⊎◌, ◌≡◌, ◌<◌, ◌≤◌, ℕ, suc, List, Option, Some, sym, ap, subst, ◌∙◌, arith}
use Rattle.std.proofs.lemmas.Bool.{cases_lt}
use Rattle.std.proofs.lemmas.Option.{slice_get_within}
use Rattle.nfs_types.specs.declared.attr.Attr.{Attr}
use Rattle.nfs_types.specs.declared.wcc.Stamp.{Stamp}
use Rattle.nfs_types.specs.Stamps.{stamp_of}
use Rattle.nfs_dir_calls.specs.declared.call.DirCall.TheVariants as dirs
use Rattle.nfs_dir_calls.specs.declared.keeping.DirKept.TheVariants as found
use Rattle.world_model.specs.declared.message.Call.TheVariants as calls
use Rattle.world_model.specs.declared.message.Reply.TheVariants as answers
use Rattle.world_model.specs.Fresh.{Fresh}
use Rattle.world_model.specs.History.{History}
use Rattle.world_model.specs.Lawful.{Lawful}
use Rattle.world_model.specs.NameService.{LooksUp}
use Rattle.world_model.specs.Server.{Listed, Lists, Object, Server}
use Rattle.world_model.specs.Service.{Serves, refused, broken_off, done}
use Rattle.world_model.proofs.Stamps.{list_of_stamp}
use Rattle.law_names.specs.Kept.{HasList, IsLookedUp, StandsIn}

pub same_list : (t : History) → Lawful t → Fresh t → (m n : ℕ) (d : List ℕ) (s : Stamp) (list later : List Listed) → HasList t m d s list → HasList t n d s later → list ≡ later
same_list t l fresh m n d s list later a b = by (cases_lt m n)
  where
    by : (m < n) ⊎ (n ≤ m) → list ≡ later
    by (inl lt) = list_of_stamp t l fresh m n (omega (arith, lt)) b.moment d a.dir b.dir list later a.is b.is a.holds b.holds (a.stamp ∙ sym b.stamp)
    by (inr le) = sym (list_of_stamp t l fresh n m le a.moment d b.dir a.dir later list b.is a.is b.holds a.holds (b.stamp ∙ sym a.stamp))

some_is : (a b : Object) → Some a ≡ Some b → a ≡ b
some_is a b e = cc

looks_up : (s t : Server) (d name object : List ℕ) (attr dir : Option Attr) → Serves s (calls.Dir (dirs.Lookup d name)) (answers.Dir (found.Lookup object attr dir)) t → LooksUp s t d name object attr dir
looks_up s t d name object attr dir (refused r same) = absurd r
looks_up s t d name object attr dir (broken_off g at how given status wcc is answer w) = absurd (cc is)
looks_up s t d name object attr dir (done w) = w

pub name_stands : (t : History) → Lawful t → Fresh t → (d : List ℕ) (s : Stamp) (name object : List ℕ) → IsLookedUp t d s name object → (n : ℕ) (list : List Listed) → HasList t n d s list → StandsIn list name object
name_stands t l fresh d s name object k n list has =
    let w = looks_up (t.at k.place) (t.at (suc k.place)) d name object k.attr (Some k.dir) (l.entries k.place _ k.done).1 in
    let within = slice_get_within t.entries k.place _ k.done in
    let one : w.reads.object ≡ w.named.names.dir = some_is w.reads.object w.named.names.dir (sym w.reads.turns.has.is ∙ w.named.names.is) in
    let shown : w.reads.turns.new ≡ w.shows_dir.0 = some_is w.reads.turns.new w.shows_dir.0 (sym w.reads.turns.is ∙ w.shows_dir.1) in
    let then : HasList t (suc k.place) d s w.named.names.entries = record {
      dir = w.reads.turns.new;
      moment = omega (arith, within);
      is = w.reads.turns.is;
      holds = w.reads.turns.becomes.holds ∙ ap (λ (z : Object). z.holds) one ∙ w.named.names.holds;
      stamp = ap (λ (z : Object). stamp_of z.attr) shown ∙ ap stamp_of w.shows_dir.2 ∙ k.is;
    } in
    (w.named.names.cookie, subst (λ (z : List Listed). Lists z (record { name = name; object = object; cookie = w.named.names.cookie })) (same_list t l fresh (suc k.place) n d s w.named.names.entries list then has) w.named.names.listed)
