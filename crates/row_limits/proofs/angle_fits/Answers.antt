-- What the mask leaves is 0 where both fit.
use Rattle.row_limits.proofs.Fits.{angle_masked}
use Rattle.row_limits.proofs.angle_fits.Goals as goal

pub returns : goal.returns
returns c = angle_masked c.args.angle c.args.i_end c.ranges.angle.fits c.ranges.i_end.fits
