-- The owner of a minute of months that follow one another: the month before whose end it lies. By induction on the months before it.
use Prim.Native.Nat.{ℕ, zero, suc, ◌+◌, ◌-◌, ◌*◌, ◌≤◌, ◌<◌}
use native.Mathlib.Omega.{arith}
use mathlib.Core.Path.{◌≡◌, refl, ◌∙◌}
use mathlib.Core.List.{List, [], ◌∷◌}
use lib.IntN.{ℤ}
use lib.ListN.{get_or}
use borrow.Author.Tests.{lt-ltb, le-ltb}
use Rattle.limits.specs.Limits.{most_minutes}
use Rattle.month_prepared.specs.Prepared.{Month}
use Rattle.month_prepared.specs.Months.{owner_of}
use Rattle.month_prepared.specs.declared.months.Months.{Months}
use Rattle.month_prepared.specs.declared.months.InMonth.{InMonth}
use Rattle.month_prepared.specs.inner.Rows.{month_at, months_after, months_in, minutes_after, last_of, Following, OwnerPost}

-- the minutes of one month more
pub minutes-next : (lasts : List ℕ) (m n : ℕ) → minutes_after lasts m (n + 1) ≡ minutes_after lasts m n + get_or lasts (m + n) 0
unfolding minutes_after
minutes-next lasts m zero = let e : m + 0 ≡ m = omega arith in rw e (omega arith)
minutes-next lasts m (suc n) =
    let e : m + 1 + n ≡ m + suc n = omega arith in
    let d : suc n + 1 ≡ suc (n + 1) = omega arith in
    rw d (omega (arith, rw e at (minutes-next lasts (m + 1) n)))

-- twelve months have no more minutes than twelve of the longest
minutes-most : (months : Months) → Following months → (m n : ℕ) → m + n ≤ months.many → minutes_after months.lasts m n ≤ n * most_minutes
unfolding minutes_after
minutes-most months follow m zero h = omega arith
minutes-most months follow m (suc n) h = omega (arith, follow.lasts m (omega arith), minutes-most months follow (m + 1) n (omega arith))

pub last-most : (months : Months) → Following months → last_of months ≤ 12 * most_minutes
last-most months follow = omega (arith, minutes-most months follow 0 months.many (omega arith), follow.most)

-- a minute before the first month's last, or of a single month, is the first month's; a later one is the owner's of the months after it
module _ (month : Month) where
  owner-first : (months : List Month) (minute : ℕ) → minute < month.last → owner_of (month ∷ months) minute ≡ record { month = month; minute = minute }
  unfolding owner_of
  owner-first [] minute h = refl
  owner-first (next ∷ later) minute h = rw (lt-ltb minute month.last h)

  owner-later : (next : Month) (later : List Month) (minute : ℕ) → owner_of (month ∷ next ∷ later) (month.last + minute) ≡ owner_of (next ∷ later) minute
  unfolding owner_of
  owner-later next later minute =
      let e : month.last + minute - month.last ≡ minute = omega arith in
      rw (le-ltb (month.last + minute) month.last (omega arith), e)

module _ (arguments lags frequencies : List ℕ) (ps qs : List ℤ) (months : Months) where
  -- the owner of a minute that lies `passed` months after month m, of `passed` + 1 + n months
  owner-after : (m passed n minute : ℕ) → (0 < n → minute < get_or months.lasts (m + passed) 0)
      → owner_of (months_after arguments lags frequencies ps qs months m (passed + suc n)) (minutes_after months.lasts m passed + minute)
      ≡ record { month = month_at arguments lags frequencies ps qs months (m + passed); minute = minute }
  unfolding months_after minutes_after owner_of
  owner-after m zero zero minute h = let e : m + 0 ≡ m = omega arith in let z : 0 + minute ≡ minute = omega arith in rw (e, z)
  owner-after m zero (suc n) minute h =
      let e : m + 0 ≡ m = omega arith in let z : 0 + minute ≡ minute = omega arith in let d : 0 + suc (suc n) ≡ suc (suc n) = omega arith in
      rw (z, d, e) (owner-first (month_at arguments lags frequencies ps qs months m) (months_after arguments lags frequencies ps qs months (m + 1) (suc n)) minute (rw e at (h (omega arith))))
  owner-after m (suc passed) n minute h =
      let e : m + 1 + passed ≡ m + suc passed = omega arith in
      let d : suc passed + suc n ≡ suc (suc (passed + n)) = omega arith in
      let d' : passed + suc n ≡ suc (passed + n) = omega arith in
      let z : get_or months.lasts m 0 + minutes_after months.lasts (m + 1) passed + minute ≡ get_or months.lasts m 0 + (minutes_after months.lasts (m + 1) passed + minute) = omega arith in
      let later = rw (d', e) at (owner-after (m + 1) passed n minute (rw e h)) in
      rw (d, z) (owner-later (month_at arguments lags frequencies ps qs months m) (month_at arguments lags frequencies ps qs months (m + 1)) (months_after arguments lags frequencies ps qs months (m + 1 + 1) (passed + n)) (minutes_after months.lasts (m + 1) passed + minute) ∙ later)

  -- a minute of month m that is before its last, or in the last month
  pub owner_at : (m minute : ℕ) → m < months.many → (m + 1 < months.many → minute < get_or months.lasts m 0)
      → owner_of (months_in arguments lags frequencies ps qs months) (minutes_after months.lasts 0 m + minute)
      ≡ record { month = month_at arguments lags frequencies ps qs months m; minute = minute }
  owner_at m minute there before =
      let e : m + suc (months.many - (m + 1)) ≡ months.many = omega arith in
      let z : 0 + m ≡ m = omega arith in
      rw (e, z) at (owner-after 0 m (months.many - (m + 1)) minute (λ (h : 0 < months.many - (m + 1)). rw z (before (omega arith))))

  -- some minutes on from an owned minute, before the month's last or in the last month: the same month owns them
  pub owner-further : (minute d : ℕ) (r : InMonth) → OwnerPost months minute r → (r.month + 1 < months.many → r.minute + d < get_or months.lasts r.month 0)
      → owner_of (months_in arguments lags frequencies ps qs months) (minute + d) ≡ record { month = month_at arguments lags frequencies ps qs months r.month; minute = r.minute + d }
  owner-further minute d r own h =
      let e : minute + d ≡ minutes_after months.lasts 0 r.month + (r.minute + d) = omega (arith, own.lies) in
      rw e (owner_at r.month (r.minute + d) own.there h)
