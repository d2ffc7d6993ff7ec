-- What is kept of names is true as long as their directory keeps its stamp: so it is at first, and after each call of the cache.
use Rattle.std.proofs.Common.{◌≡◌, ℕ, List, All, Some, sym, subst}
use Rattle.std.proofs.lemmas.List.Elements.{All-nil}
use Rattle.nfs_types.specs.declared.wcc.Stamp.{Stamp}
use Rattle.name_cache.specs.declared.entry.Place.{Place}
use Rattle.name_cache.specs.declared.entry.KeptName.{KeptName}
use Rattle.name_cache.specs.Names.{Entries, looked}
use Rattle.name_cache.proofs.Entries.{All-learnt, All-after_look, All-without_dir, looked-kept}
use Rattle.world_model.specs.Fresh.{Fresh}
use Rattle.world_model.specs.History.{History}
use Rattle.world_model.specs.Lawful.{Lawful}
use Rattle.world_model.specs.Server.{Listed}
use Rattle.law_names.specs.Feeds as feeds
use Rattle.law_names.specs.Feeds.{IsFed}
use Rattle.law_names.specs.Kept.{HasList, StandsIn}
use Rattle.law_names.proofs.KeptNames.{name_stands}

-- an entry stands at every moment of its stamp
abbrev IsTrueName : History → Place × KeptName → Type 0
IsTrueName t e = (n : ℕ) (list : List Listed) → HasList t n e.0.dir e.1.stamp list → StandsIn list e.0.name e.1.found

true_names : (t : History) → Lawful t → Fresh t → (c : Entries) → IsFed t c → All (IsTrueName t) c
true_names t l fresh c (feeds.begins _ is) = subst (All (IsTrueName t)) (sym is) (All-nil (IsTrueName t))
true_names t l fresh c (feeds.learns b _ d name object s fed k is) =
    subst (All (IsTrueName t)) (sym is) (All-learnt (IsTrueName t) d name s object b (true_names t l fresh b fed) (name_stands t l fresh d s name object k))
true_names t l fresh c (feeds.looks b _ d name s fed is) = subst (All (IsTrueName t)) (sym is) (All-after_look (IsTrueName t) d name s b (true_names t l fresh b fed))
true_names t l fresh c (feeds.drops b _ d fed is) = subst (All (IsTrueName t)) (sym is) (All-without_dir (IsTrueName t) d b (true_names t l fresh b fed))

pub true_name : (t : History) → Lawful t → Fresh t → (c : Entries) → IsFed t c → (d name : List ℕ) (s : Stamp) (object : List ℕ) → looked d name s c ≡ Some object
    → (n : ℕ) (list : List Listed) → HasList t n d s list → StandsIn list name object
true_name t l fresh c fed d name s object found = looked-kept (IsTrueName t) d name s object c (true_names t l fresh c fed) found
