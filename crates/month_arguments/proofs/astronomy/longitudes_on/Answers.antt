-- `month_arguments::astronomy::longitudes_on` meets its contract: each longitude in its place.
use Rattle.std.specs.Prelude.{◌≡◌, ℕ, ℤ, List, get_or}
use mir.Syntax.{w64}
use mir.ValLaws.{to_z-of_z}
use Rattle.month_arguments.specs.Longitudes.{longitude, longitudes_on}
use Rattle.month_arguments.proofs.astronomy.longitudes_on.Goals as goal

-- five longitudes, on a day that went through a register
together : (day days : ℤ) (cards increases : List ℕ) (a b c d e : ℕ) → day ≡ days → a ≡ longitude day (get_or cards 0 0) (get_or increases 0 0) → b ≡ longitude day (get_or cards 1 0) (get_or increases 1 0) → c ≡ longitude day (get_or cards 2 0) (get_or increases 2 0) → d ≡ longitude day (get_or cards 3 0) (get_or increases 3 0) → e ≡ longitude day (get_or cards 4 0) (get_or increases 4 0) → record { s = a; h = b; p = c; n' = d; p' = e } ≡ longitudes_on days cards increases
unfolding longitudes_on
together day days cards increases a b c d e h ha hb hc hd he = cc

pub returns : goal.returns
returns c =
    together
    _
    c.args.days
    c.args.cards.now
    c.args.increases.now
    _
    _
    _
    _
    _
    (to_z-of_z w64 c.args.days c.ranges.days)
    c.longitude_on.ensures
    c.longitude_on-2.ensures
    c.longitude_on-3.ensures
    c.longitude_on-4.ensures
    c.longitude_on-5.ensures
