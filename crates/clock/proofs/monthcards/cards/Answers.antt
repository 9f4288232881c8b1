-- `clock::monthcards::cards` meets its contract: the series of the month's hours, in the first places of the row, and their cards. Assumes nothing.
use native.Mathlib.Omega.{arith}
use Prim.Native.Nat.{ℕ, ◌*◌, ◌≤◌}
use mathlib.Core.Path.{sym, ap, ◌∙◌}
use mathlib.Core.List.{List}
use lib.IntN.{ℤ}
use lib.ListN.{length}
use lib.Seq.{length-take-le}
use Rattle.calendar.proofs.Months.{month-short}
use Rattle.heights.specs.Height.{height_at}
use Rattle.heights.specs.inner.Lent.{constituents_lent}
use Rattle.heights.specs.Series.{series_of}
use Rattle.hourly.specs.Card.{HourlyCard}
use Rattle.hourly.specs.Month.{bytes_of, into_buffer}
use Rattle.hourly.specs.inner.Hours.{cards_in}
use Rattle.hourly.proofs.Hours.{cards-in}
use Rattle.clock.proofs.Hours.{hours-first, hours-count, hours-fit}
use Rattle.clock.proofs.monthcards.cards.Goals as goal

pub slice_bounds-hours-end : goal.slice_bounds-hours-end
slice_bounds-hours-end c =
    let within : 24 * c.month_days.result ≤ length c.hour_places-hours.result = omega (arith, month-short c.args.year c.args.month, c.month_days.ensures, c.hour_places-hours.ensures) in
    within

pub slice_bounds-series-end : goal.slice_bounds-series-end
slice_bounds-series-end c =
    let within : 24 * c.month_days.result ≤ length c.hour_places-hours.result = omega (arith, month-short c.args.year c.args.month, c.month_days.ensures, c.hour_places-hours.ensures) in
    sym (length-take-le _ _ within)

pub slice_bounds-hours-end-2 : goal.slice_bounds-hours-end-2
slice_bounds-hours-end-2 c =
    let within : 24 * c.month_days.result ≤ length c.hour_places-hours.result = omega (arith, month-short c.args.year c.args.month, c.month_days.ensures, c.hour_places-hours.ensures) in
    hours-fit _ _ _ _ _ _ within c.series.ensures

pub slice_bounds-write_cards-end : goal.slice_bounds-write_cards-end
slice_bounds-write_cards-end c =
    let within : 24 * c.month_days.result ≤ length c.hour_places-hours.result = omega (arith, month-short c.args.year c.args.month, c.month_days.ensures, c.hour_places-hours.ensures) in
    sym (hours-count _ _ _ _ _ _ within c.series.ensures)

pub write_cards-requires : goal.write_cards-requires
write_cards-requires c =
    let within : 24 * c.month_days.result ≤ length c.hour_places-hours.result = omega (arith, month-short c.args.year c.args.month, c.month_days.ensures, c.hour_places-hours.ensures) in
    hours-count _ _ _ _ _ _ within c.series.ensures ∙ ap (λ (d : ℕ). 24 * d) c.month_days.ensures

pub returns : goal.returns
returns c =
    let within : 24 * c.month_days.result ≤ length c.hour_places-hours.result = omega (arith, month-short c.args.year c.args.month, c.month_days.ensures, c.hour_places-hours.ensures) in
    let height = height_at (constituents_lent c.args.lent) in
    let hours = hours-first height 60 60 _ _ _ within c.series.ensures ∙ ap (λ (d : ℕ). series_of height 60 60 (24 * d)) c.month_days.ensures in
    c.write_cards.ensures
    ∙ ap (λ (cards : List HourlyCard). into_buffer (bytes_of cards (length c.args.out.now)) c.args.out.now)
    (ap (λ (row : List ℤ). cards_in row c.args.number c.args.year c.args.month) hours ∙ cards-in height c.args.number c.args.year c.args.month)
