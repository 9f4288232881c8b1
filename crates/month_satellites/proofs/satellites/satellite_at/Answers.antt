-- `month_satellites::satellites::satellite_at` meets its contract: row k's four angles and two ratios, number by number.
use mathlib.Core.Path.{◌≡◌, ◌∙◌}
use mathlib.Core.List.{List, [], ◌∷◌}
use Prim.Native.Nat.{ℕ, ◌+◌, ◌*◌}
use native.Mathlib.Nat.{add-zero}
use borrow.Author.Rules.{rules}
use lib.IntN.{ℤ, pos}
use lib.ListN.{get_or}
use mir.Syntax.{w8}
use mir.Val.{SFits}
use mir.ValLaws.{to_z-of_z}
use Rattle.table.specs.inner.View.{listed, row_of, satellite_of}
use Rattle.table.specs.Table.{mark_of, Satellite}
use Rattle.month_satellites.proofs.satellites.satellite_at.Goals as goal

-- the numbers of row k make satellite k
satellite-is : (xs : List ℤ) (rs : List ℕ) (k : ℕ) (a b d e : ℤ) (ratio mark : ℕ) → a ≡ get_or xs (4 * k) (pos 0) → b ≡ get_or xs (4 * k + 1) (pos 0)
    → d ≡ get_or xs (4 * k + 2) (pos 0) → e ≡ get_or xs (4 * k + 3) (pos 0) → ratio ≡ get_or rs (2 * k) 0 → mark ≡ get_or rs (2 * k + 1) 0
    → ◌≡◌ {A = Satellite} (record { differences = a ∷ b ∷ d ∷ []; phase = e; ratio = ratio; mark = mark_of mark }) (satellite_of xs rs k)
unfolding satellite_of row_of listed
satellite-is xs rs k a b d e ratio mark ha hb hd he hr hm = simp (ha, hb, hd, he, hr, hm, add-zero)

pub returns : goal.returns
returns c =
    let fa : SFits w8 c.at.result.now = search rules in
    let fb : SFits w8 c.at-2.result.now = search rules in
    let fd : SFits w8 c.at-3.result.now = search rules in
    let fe : SFits w8 c.at-4.result.now = search rules in
    satellite-is c.args.table.now.satelliteangles c.args.table.now.satelliteratios c.args.k _ _ _ _ _ _ (to_z-of_z w8 c.at.result.now fa ∙ c.at.ensures) (to_z-of_z w8 c.at-2.result.now fb ∙ c.at-2.ensures)
    (to_z-of_z w8 c.at-3.result.now fd ∙ c.at-3.ensures) (to_z-of_z w8 c.at-4.result.now fe ∙ c.at-4.ensures) c.at-5.ensures c.at-6.ensures
