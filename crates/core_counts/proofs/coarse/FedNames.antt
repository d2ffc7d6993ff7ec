-- What an operation makes of the kept names, it makes by steps of their machine.
use Rattle.core_counts.proofs.Prelude.{◌≡◌, Some, Result, Ok, refl, sym, subst, stamp_of, Fault, Call, Reply, History}
use Rattle.name_cache.specs.Names.{Entries, after_look, learnt, without_dir}
use Rattle.nfs_dir_calls.specs.declared.keeping.DirKept.TheVariants as kept
use Rattle.world_model.specs.declared.message.Reply.TheVariants as replies
use Rattle.law_names.specs.Feeds as feeds
use Rattle.law_names.specs.Feeds.{IsFed}
use Rattle.core_counts.specs.coarse.FedNames.{Step, learns, looks, drops, Steps, stays, goes}
use Rattle.core_counts.proofs.coarse.FedNameSteps.{QuietLaws, CallTells}
use Rattle.core_counts.proofs.coarse.FedPages.{WasDone}

module _ (t : History) (from : Entries) where
  abbrev pub Named : Entries → Type 0
  Named c = Steps t from c

  step-on : (c d : Entries) → Named c → Step t c d → Named d
  step-on c d s next = goes from c d s next

  pub quiet-named : QuietLaws Named
  quiet-named = record {
    looks = λ dir name stamp es s. step-on es (after_look dir name stamp es) s (looks dir name stamp refl);
    drops = λ dir es s. step-on es (without_dir dir es) s (drops dir refl);
  }

  pub tells-named : (call : Call) (came : Result Reply Fault) → ((reply : Reply) → came ≡ Ok reply → WasDone t call reply) → CallTells Named quiet-named came call
  tells-named call came told dir name is found attr dir_attr ok es s =
      let done = told (replies.Dir (kept.Lookup found attr (Some dir_attr))) ok in
      let so = subst (λ (c : Call). WasDone t c (replies.Dir (kept.Lookup found attr (Some dir_attr)))) is done in
      step-on es (learnt dir name (stamp_of dir_attr) found es) s
      (learns dir name found (stamp_of dir_attr) (record { place = so.0; xid = so.1; attr = attr; dir = dir_attr; done = so.2; is = refl }) refl)

-- a cache that is fed is fed after a step
fed-step : (t : History) (b c : Entries) → Step t b c → IsFed t b → IsFed t c
fed-step t b c (learns dir name object stamp found is) fed = feeds.learns b c dir name object stamp fed found is
fed-step t b c (looks dir name stamp is) fed = feeds.looks b c dir name stamp fed is
fed-step t b c (drops dir is) fed = feeds.drops b c dir fed is

pub fed-steps : (t : History) (b c : Entries) → Steps t b c → IsFed t b → IsFed t c
fed-steps t _ _ (stays b c is) fed = subst (IsFed t) (sym is) fed
fed-steps t _ _ (goes b c d s next) fed = fed-step t c d next (fed-steps t b c s fed)
