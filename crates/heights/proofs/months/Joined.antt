-- A series written part by part: the heights before place n are the series' own. Place by place.
use Prim.Native.Nat.{ℕ, ◌+◌, ◌-◌, ◌*◌, ◌≤◌, ◌<◌}
use native.Mathlib.Omega.{arith}
use native.Mathlib.Nat.{mul-le-mul_right}
use mathlib.Core.Bool.{Bool, true, false}
use mathlib.Core.Path.{◌≡◌, refl, sym, ap, ◌∙◌}
use mathlib.Core.List.{List, ◌++◌}
use lib.Dec.{ltb}
use lib.IntN.{ℤ, pos}
use lib.ListN.{length, get_or, take, get_or-append}
use lib.Seq.{length-take-le, get_or-take, get_or-append-add, ext_get_or}
use borrow.Author.Tests.{ltb-true, ltb-false}
use borrow.Author.Count.{below_none}
use borrow.Rule.Slice.PartMut.{put_mid, post_of}
use Rattle.heights.specs.Series.{series_of}
use Rattle.heights.specs.inner.Places.{SeriesWithin}
use Rattle.heights.proofs.series.Written.{series-height, series-length}

-- before place n: the heights before it are the series'
pub record Joining (height : ℕ → ℤ) (start step : ℕ) (out₀ out : List ℤ) (n : ℕ) : Type 0 where
  pub within : n ≤ length out₀
  pub long : length out ≡ length out₀
  pub right : (i : ℕ) → i < n → get_or out i (pos 0) ≡ height (start + i * step)

-- each place's minute is within the months
pub minute-within : {last start step places : ℕ} → SeriesWithin last start step places → (n : ℕ) → n < places → start + n * step ≤ last
minute-within {last} {start} {step} {places} s n h = omega (arith, mul-le-mul_right {m = n} {n = places - 1} step (omega arith), s.ends)

module _ (height : ℕ → ℤ) (start step : ℕ) where
  pub joining-none : (out : List ℤ) → Joining height start step out out 0
  joining-none out = record { within = omega arith; long = refl; right = below_none _ }

  pub joining-all : {out₀ out : List ℤ} {n : ℕ} → Joining height start step out₀ out n → length out₀ ≤ n → out ≡ series_of height start step (length out₀)
  joining-all {out₀} {out} {n} j h =
      ext_get_or (pos 0) out (series_of height start step (length out₀))
      (j.long ∙ sym (series-length height start step 0 (length out₀)))
      (λ i l. j.right i (omega (arith, j.long)) ∙ sym (series-height height start step (length out₀) i (omega (arith, j.long))))

  -- a part more, whose heights are the series' from place n on
  module _ {out₀ out : List ℤ} {n : ℕ} (j : Joining height start step out₀ out n) (part : List ℤ) (k : ℕ) (room : n + k ≤ length out₀) where
    before : length (take n out) ≡ n
    before = length-take-le n out (omega (arith, j.long, room))

    put-height : length part ≡ k → ((i : ℕ) → i < k → get_or part i (pos 0) ≡ height (start + (n + i) * step))
        → (i : ℕ) → i < n + k → get_or (put_mid n (n + k - n) out part) i (pos 0) ≡ height (start + i * step)
    put-height long right i h = by (ltb i n) refl
      where
        by : (b : Bool) → ltb i n ≡ b → get_or (put_mid n (n + k - n) out part) i (pos 0) ≡ height (start + i * step)
        by true t =
            let l = ltb-true i n t in
            get_or-append (take n out) (part ++ post_of n (n + k - n) out) (pos 0) i (omega (arith, before))
            ∙ (get_or-take n out i (pos 0) l ∙ j.right i l)
        by false t =
            let e : length (take n out) + (i - n) ≡ i = omega (arith, before, ltb-false i n t) in
            let d : n + (i - n) ≡ i = omega (arith, ltb-false i n t) in
            ap (λ (x : ℕ). get_or (put_mid n (n + k - n) out part) x (pos 0)) (sym e)
            ∙ (get_or-append-add (take n out) (part ++ post_of n (n + k - n) out) (i - n) (pos 0)
            ∙ (get_or-append part (post_of n (n + k - n) out) (pos 0) (i - n) (omega (arith, long, ltb-false i n t))
            ∙ (right (i - n) (omega (arith, ltb-false i n t)) ∙ ap (λ (x : ℕ). height (start + x * step)) d)))

    pub joining-more : length part ≡ k → length (put_mid n (n + k - n) out part) ≡ length out
        → ((i : ℕ) → i < k → get_or part i (pos 0) ≡ height (start + (n + i) * step))
        → Joining height start step out₀ (put_mid n (n + k - n) out part) (n + k)
    joining-more l long right = record { within = room; long = long ∙ j.long; right = put-height l right }
