-- Only inner contracts cite this: what the code's answers on a constituent card stand for in 01's terms.
use Rattle.std.specs.Prelude.{[]}
use Rattle.card_mains.specs.Mains.{MainCard}
use Rattle.card_mains.specs.declared.mains.MainRead.{MainRead}

-- a constituent card: the main with a place, six Doodson numbers and the phase, and how many satellites are to come
abbrev pub main_read : MainRead → MainCard
main_read m = record { main = record { place = m.place; doodson = m.doodson; phase = m.phase; satellites = [] }; count = m.count }
