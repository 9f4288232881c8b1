-- Where the lengths of a word begin and end. Assumes nothing.
use Prim.Native.Nat.{ℕ, ◌≤◌, ◌<◌}
use mathlib.Core.Bool.{Bool, true, false, ◌&&◌}
use mathlib.Core.List.{List}
use mathlib.Core.Path.{◌≡◌, refl}
use native.Mathlib.Omega.{arith}
use borrow.Author.Tests.{ltb-true}
use lib.ListN.{length}
use Rattle.commandline.specs.Lengths.{comma_at, length_end}

left_of : (a b : Bool) → (a && b) ≡ true → a ≡ true
left_of true b e = refl
left_of false b e = e

-- a comma stands within the word
pub comma_within : (word : List ℕ) (at : ℕ) → comma_at word at ≡ true → at < length word
unfolding comma_at
comma_within word at e = ltb-true _ _ (left_of _ _ e)

-- a length ends where it begins, or later
pub end_least : (word : List ℕ) (at : ℕ) → at ≤ length_end word at
unfolding length_end
end_least word at = omega (arith)
