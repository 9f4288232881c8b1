-- What stands at the end of a page that is written on.
use Rattle.std.specs.Prelude.{ℕ, ◌-◌, ◌<◌, ◌≡◌, List, length, get_or}

-- before a place stands the last of some bytes, where there are any
abbrev pub EndsWith : List ℕ → ℕ → List ℕ → Type 0
EndsWith page at bytes = 0 < length bytes → (0 < at) × (get_or page (at - 1) 0 ≡ get_or bytes (length bytes - 1) 0)
