-- What leaves the crate for a link: the table of its functions' code, what the table asks of the crates below, and that a world with both has
-- the code of each function that is called from above. By what the kit generates, which the crate alone can name. Assumes nothing.
use prog.Linked.{Tree, World, Holds, in_world}
use mathlib.Core.Bool.{true}
use prog.LinkedThreads.{HasT}
use Rattle.heights.proofs.TheLink as link
use Rattle.heights.proofs.bookings.heights_at.Symbol as bookings-heights_at
use Rattle.heights.proofs.height.Symbol as height
use Rattle.heights.proofs.minuteangle.angle_at.Symbol as minuteangle-angle_at
use Rattle.heights.proofs.months.LentMonths.month.Symbol as months-LentMonths-month
use Rattle.heights.proofs.months.height.Symbol as months-height
use Rattle.heights.proofs.months.series.Symbol as months-series
use Rattle.heights.proofs.series.series.Symbol as series-series
use Rattle.heights.proofs.shares.weigh.Symbol as shares-weigh

abbrev pub table : Tree
table = link.table

abbrev pub Below : World → Type 0
Below = link.Below

pub linked-bookings-heights_at : (W : World) → Holds W "heights" table → Below W → HasT (in_world W) true bookings-heights_at.code
linked-bookings-heights_at = link.linked-heights::bookings::heights_at

pub linked-height : (W : World) → Holds W "heights" table → Below W → HasT (in_world W) true height.code
linked-height = link.linked-heights::height

pub linked-minuteangle-angle_at : (W : World) → Holds W "heights" table → Below W → HasT (in_world W) true minuteangle-angle_at.code
linked-minuteangle-angle_at = link.linked-heights::minuteangle::angle_at

pub linked-months-LentMonths-month : (W : World) → Holds W "heights" table → Below W → HasT (in_world W) true months-LentMonths-month.code
linked-months-LentMonths-month = link.linked-heights::months::LentMonths::month

pub linked-months-height : (W : World) → Holds W "heights" table → Below W → HasT (in_world W) true months-height.code
linked-months-height = link.linked-heights::months::height

pub linked-months-series : (W : World) → Holds W "heights" table → Below W → HasT (in_world W) true months-series.code
linked-months-series = link.linked-heights::months::series

pub linked-series-series : (W : World) → Holds W "heights" table → Below W → HasT (in_world W) true series-series.code
linked-series-series = link.linked-heights::series::series

pub linked-shares-weigh : (W : World) → Holds W "heights" table → Below W → HasT (in_world W) true shares-weigh.code
linked-shares-weigh = link.linked-heights::shares::weigh
