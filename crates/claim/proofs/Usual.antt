-- 02, No. 6: where the station last accepted has the usual strides, turns and a year's sheet are those of 01's rule (`Usual` in calls).
-- Assumes nothing.
use mathlib.Core.Path.{◌≡◌, ap}
use Rattle.calls.specs.State.{some}
use Rattle.calls.proofs.Usual.{usual-turns, usual-year}
use Rattle.claim.specs.Document.{found, filled, worked_out, gives}
use Rattle.claim.specs.Claim.{OfUsualStrides}

pub usual-gives : OfUsualStrides
unfolding gives worked_out
usual-gives l s e usual =
    record {
      turns = λ first last ms hs. ap found (rw e (usual-turns _ s _ usual first last ms hs));
      year = λ sheet ss ms hs. ap filled (rw e (usual-year _ s _ usual sheet ss ms hs));
    }
