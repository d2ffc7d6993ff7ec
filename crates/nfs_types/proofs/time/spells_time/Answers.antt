use Rattle.nfs_types.proofs.Written.{time_written}
use Rattle.nfs_types.proofs.time.spells_time.Goals as goal

pub returns : goal.returns
returns c = time_written _ c.fits_u32.ensures c.fits_u32-2.ensures
