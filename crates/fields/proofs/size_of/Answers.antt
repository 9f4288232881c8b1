-- `fields::size_of` meets its contract. By cases on the format. Assumes nothing.
use Rattle.fields.specs.inner.Kept.{kept_of}
use Rattle.fields.proofs.size_of.Goals as goal

pub returns-in-Whole : goal.returns-in-Whole
unfolding kept_of
returns-in-Whole c =
    rw c.in-Whole.is c.whole_size.ensures

pub returns-in-Fixed : goal.returns-in-Fixed
unfolding kept_of
returns-in-Fixed c =
    rw c.in-Fixed.is c.fixed_size.ensures
