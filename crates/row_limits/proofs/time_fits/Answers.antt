-- What the mask leaves is 0 where the time fits.
use Rattle.row_limits.proofs.Fits.{time_masked}
use Rattle.row_limits.proofs.time_fits.Goals as goal

pub returns : goal.returns
returns c = time_masked c.args.time c.ranges.time.fits
