use Rattle.nfs_client.proofs.BackPages.{told-back}
use Rattle.nfs_client.proofs.KeptHeadlines.{kept-heads}
use Rattle.nfs_client.proofs.top.run_stocked.Goals as goal

pub returns-clause-headline : goal.returns-clause-headline
returns-clause-headline g c = kept-heads _ _ _ _ _ _ _ _ _ _ c.run_stocked.ensures.shown

pub returns-clause-pages : goal.returns-clause-pages
returns-clause-pages g c = told-back _ _ _ c.args.settings.now _ c.run_stocked.ensures.pages
