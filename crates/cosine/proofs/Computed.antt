-- The step, count and bound of the table pass the tests of `Rule`, each computed here, so the fixed cosine and sine are within the bound at every angle.
-- Another step, count and bound need nothing else. Assumes nothing.
use mathlib.Core.Path.{◌≡◌, refl, sym, ◌∙◌, ap, subst}
use mathlib.Core.List.{List}
use Prim.Native.Nat.{ℕ, ◌-◌, ◌+◌, ◌*◌, ◌<◌}
use lib.Dec.{T, lit≤, lit<}
use lib.IntN.{pos}
use lib.ListN.{length}
use Rattle.cosine.specs.Fraction.{quarter, factorial, arc, unit, term, added, taken, whole, base}
use Rattle.cosine.specs.Fixed.{entries, step, bound, fixed_cosine, CosineWithin, SineWithin, EntriesNearest, IsTable}
use Rattle.cosine.proofs.Natural.{entry_ℕ}
use Rattle.cosine.proofs.Chord.{rise, bend}
use Rattle.cosine.proofs.Series.{share, weight, added_bend, taken_bend}
use Rattle.cosine.proofs.Claim.{claim}
use Rattle.cosine.proofs.Every.{every}
use Rattle.cosine.proofs.Rule.{sound, falling, right, table_is, Passed, is-nearest, natural, good}

-- how far neighbours may be apart, so that a product with a remainder stays in 64 bits
abbrev pub steepest : ℕ
steepest = 2097152

pub passed : Passed bound step steepest (entries - 1)
unfolding sound falling entry_ℕ base added taken whole term factorial arc unit added_bend taken_bend weight share bend rise
passed =
    record { some = lit< tt; steps = refl; top = lit≤ tt; all_sound = tt; all-fall = tt; bends-added = lit≤ tt; bends-taken = lit≤ tt }

pub entries-nearest : EntriesNearest
entries-nearest = is-nearest passed

pub cosine-within : CosineWithin
unfolding fixed_cosine
cosine-within = claim bound step (entries - 1) (good passed)

pub sine-within : SineWithin
sine-within t = cosine-within (t + 3 * quarter)

-- a list that passes the test at each of its places is the table
pub is-table : {xs : List ℕ} → T (every (right step) 0 xs) → length xs ≡ entries → IsTable xs
is-table {xs} t l =
    record { each = λ i h. ap pos (table_is step xs t i (subst (λ (n : ℕ). i < n) (sym l) h)) ∙ sym (natural passed i h) }
