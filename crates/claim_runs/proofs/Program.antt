-- A program that has the clock's code: the world of the crates that the clock is made of, each with the table that leaves it. Assumes nothing.
use Prim.{Unit}
use mathlib.Core.Bool.{true}
use mathlib.Core.Path.{refl}
use mathlib.Core.List.{[], ◌∷◌}
use lib.Chars.{codes}
use prog.Linked.{World, Holds, in_world}
use prog.LinkedThreads.{tie_t, tie_t-follows, tie_t-threads, HasT, has-wired_t}
use prog.Routine.{Env}
use prog.Wired.{Code, Wired}
use Rattle.angles.proofs.Linked as angles
use Rattle.cosine.proofs.Linked as cosine
use Rattle.calendar.proofs.Linked as calendar
use Rattle.refusals.proofs.Linked as refusals
use Rattle.refusal_words.proofs.Linked as refusal_words
use Rattle.columns.proofs.Linked as columns
use Rattle.fields.proofs.Linked as fields
use Rattle.table.proofs.Linked as table
use Rattle.card.proofs.Linked as card
use Rattle.card_frequencies.proofs.Linked as card_frequencies
use Rattle.card_mains.proofs.Linked as card_mains
use Rattle.card_constituents.proofs.Linked as card_constituents
use Rattle.card_shallows.proofs.Linked as card_shallows
use Rattle.card_file.proofs.Linked as card_file
use Rattle.station.proofs.Linked as station
use Rattle.month_arguments.proofs.Linked as month_arguments
use Rattle.month_satellites.proofs.Linked as month_satellites
use Rattle.month_pairs.proofs.Linked as month_pairs
use Rattle.month_workings.proofs.Linked as month_workings
use Rattle.month_prepared.proofs.Linked as month_prepared
use Rattle.month.proofs.Linked as month
use Rattle.year.proofs.Linked as year
use Rattle.heights.proofs.Linked as heights
use Rattle.turns.proofs.Linked as turns
use Rattle.hourly.proofs.Linked as hourly
use Rattle.calls.proofs.Linked as calls
use Rattle.clock.proofs.Linked as clock
use Rattle.cuvalimodo_c.proofs.Linked as cuvalimodo_c
use Rattle.clock.proofs.new.Symbol as new_code
use Rattle.clock.proofs.load_cards.Symbol as load_code
use Rattle.clock.proofs.set_station.Symbol as station_code
use Rattle.clock.proofs.place_station.Symbol as placing_code
use Rattle.clock.proofs.set_date.Symbol as date_code
use Rattle.clock.proofs.height.Symbol as height_code
use Rattle.clock.proofs.height_lent.Symbol as lent_height_code
use Rattle.clock.proofs.series.Symbol as series_code
use Rattle.clock.proofs.turns.Symbol as turns_code
use Rattle.clock.proofs.year.Symbol as year_code
use Rattle.clock.proofs.bookings.Symbol as booking_code
use Rattle.clock.proofs.bookings_lent.Symbol as lent_booking_code
use Rattle.clock.proofs.hourly.Symbol as hourly_code
use Rattle.clock.proofs.names.Symbol as names_code
use Rattle.cuvalimodo_c.proofs.cuvalimodo_new.Symbol as held_new_code
use Rattle.cuvalimodo_c.proofs.cuvalimodo_load_cards.Symbol as held_load_code
use Rattle.cuvalimodo_c.proofs.cuvalimodo_set_station.Symbol as held_station_code
use Rattle.cuvalimodo_c.proofs.cuvalimodo_set_date.Symbol as held_date_code
use Rattle.cuvalimodo_c.proofs.cuvalimodo_height.Symbol as held_height_code
use Rattle.cuvalimodo_c.proofs.cuvalimodo_series.Symbol as held_series_code
use Rattle.cuvalimodo_c.proofs.cuvalimodo_turns.Symbol as held_turns_code
use Rattle.cuvalimodo_c.proofs.cuvalimodo_year.Symbol as held_year_code
use Rattle.cuvalimodo_c.proofs.cuvalimodo_bookings.Symbol as held_booking_code
use Rattle.cuvalimodo_c.proofs.cuvalimodo_hourly.Symbol as held_hourly_code
use Rattle.cuvalimodo_c.proofs.cuvalimodo_names.Symbol as held_names_code
use Rattle.claim_runs.specs.Accepted.{HasTheClock}

abbrev crates : World
crates =
    (codes "angles", angles.table)
    ∷ (codes "cosine", cosine.table)
    ∷ (codes "calendar", calendar.table)
    ∷ (codes "refusals", refusals.table)
    ∷ (codes "refusal_words", refusal_words.table)
    ∷ (codes "columns", columns.table)
    ∷ (codes "fields", fields.table)
    ∷ (codes "table", table.table)
    ∷ (codes "card", card.table)
    ∷ (codes "card_frequencies", card_frequencies.table)
    ∷ (codes "card_mains", card_mains.table)
    ∷ (codes "card_constituents", card_constituents.table)
    ∷ (codes "card_shallows", card_shallows.table)
    ∷ (codes "card_file", card_file.table)
    ∷ (codes "station", station.table)
    ∷ (codes "month_arguments", month_arguments.table)
    ∷ (codes "month_satellites", month_satellites.table)
    ∷ (codes "month_pairs", month_pairs.table)
    ∷ (codes "month_workings", month_workings.table)
    ∷ (codes "month_prepared", month_prepared.table)
    ∷ (codes "month", month.table)
    ∷ (codes "year", year.table)
    ∷ (codes "heights", heights.table)
    ∷ (codes "turns", turns.table)
    ∷ (codes "hourly", hourly.table)
    ∷ (codes "calls", calls.table)
    ∷ (codes "clock", clock.table)
    ∷ (codes "cuvalimodo_c", cuvalimodo_c.table)
    ∷ []

angles-there : Holds crates "angles" angles.table
angles-there = refl

angles-below : angles.Below crates
angles-below = tt

cosine-there : Holds crates "cosine" cosine.table
cosine-there = refl

cosine-below : cosine.Below crates
cosine-below = tt

calendar-there : Holds crates "calendar" calendar.table
calendar-there = refl

calendar-below : calendar.Below crates
calendar-below = tt

refusals-there : Holds crates "refusals" refusals.table
refusals-there = refl

refusals-below : refusals.Below crates
refusals-below = tt

refusal-words-there : Holds crates "refusal_words" refusal_words.table
refusal-words-there = refl

refusal-words-below : refusal_words.Below crates
refusal-words-below = tt

columns-there : Holds crates "columns" columns.table
columns-there = refl

columns-below : columns.Below crates
columns-below = tt

fields-there : Holds crates "fields" fields.table
fields-there = refl

fields-below : fields.Below crates
fields-below = (columns.linked-all_among crates columns-there columns-below, (columns.linked-column crates columns-there columns-below, (columns.linked-part crates columns-there columns-below, (columns.linked-run_end crates columns-there columns-below, tt))))

table-there : Holds crates "table" table.table
table-there = refl

table-below : table.Below crates
table-below = tt

card-there : Holds crates "card" card.table
card-there = refl

card-below : card.Below crates
card-below = (columns.linked-first_line crates columns-there columns-below, (columns.linked-is_blank crates columns-there columns-below, (columns.linked-line_good crates columns-there columns-below, (columns.linked-names-find_name crates columns-there columns-below, (columns.linked-names-name_blank crates columns-there columns-below, (columns.linked-names-name_part crates columns-there columns-below, (columns.linked-rest_lines crates columns-there columns-below, (fields.linked-narrow_field crates fields-there fields-below, (fields.linked-ranged_field crates fields-there fields-below, (table.linked-at crates table-there table-below, tt))))))))))

card-frequencies-there : Holds crates "card_frequencies" card_frequencies.table
card-frequencies-there = refl

card-frequencies-below : card_frequencies.Below crates
card-frequencies-below = (card.linked-faults-bad_line crates card-there card-below, (card.linked-faults-only crates card-there card-below, (card.linked-formats-five_field crates card-there card-below, (card.linked-formats-frequency crates card-there card-below, (card.linked-lines-after_line crates card-there card-below, (card.linked-lines-begins crates card-there card-below, (card.linked-lines-line_at crates card-there card-below, (card.linked-natural_field crates card-there card-below, (columns.linked-column crates columns-there columns-below, (columns.linked-line_good crates columns-there columns-below, (columns.linked-names-find_name crates columns-there columns-below, (columns.linked-names-name_blank crates columns-there columns-below, (columns.linked-names-name_part crates columns-there columns-below, tt)))))))))))))

card-mains-there : Holds crates "card_mains" card_mains.table
card-mains-there = refl

card-mains-below : card_mains.Below crates
card-mains-below = (card.linked-faults-bad_line crates card-there card-below, (card.linked-faults-only crates card-there card-below, (card.linked-formats-main_phase crates card-there card-below, (card.linked-formats-mark_column crates card-there card-below, (card.linked-formats-satellite_count crates card-there card-below, (card.linked-formats-satellite_phase crates card-there card-below, (card.linked-lines-begins crates card-there card-below, (card.linked-natural_field crates card-there card-below, (card.linked-places-is_among crates card-there card-below, (card.linked-places-place_named crates card-there card-below, (card.linked-ratio_on crates card-there card-below, (card.linked-small_field crates card-there card-below, (card.linked-small_row crates card-there card-below, (columns.linked-column crates columns-there columns-below, (columns.linked-line_good crates columns-there columns-below, (table.linked-put_i8 crates table-there table-below, (table.linked-put_u32 crates table-there table-below, tt)))))))))))))))))

card-constituents-there : Holds crates "card_constituents" card_constituents.table
card-constituents-there = refl

card-constituents-below : card_constituents.Below crates
card-constituents-below = (card.linked-faults-only crates card-there card-below, (card.linked-lines-after_line crates card-there card-below, (card.linked-lines-line_at crates card-there card-below, (card_mains.linked-mains-next_main crates card-mains-there card-mains-below, (card_mains.linked-satellitecard-at_most_three crates card-mains-there card-mains-below, (card_mains.linked-satellitecard-satellite_card crates card-mains-there card-mains-below, (table.linked-put_i8 crates table-there table-below, (table.linked-put_u16 crates table-there table-below, tt))))))))

card-shallows-there : Holds crates "card_shallows" card_shallows.table
card-shallows-there = refl

card-shallows-below : card_shallows.Below crates
card-shallows-below = (angles.linked-size crates angles-there angles-below, (card.linked-faults-TroubleFromFieldError-from crates card-there card-below, (card.linked-faults-only crates card-there card-below, (card.linked-field_on crates card-there card-below, (card.linked-formats-coefficient crates card-there card-below, (card.linked-formats-fault_in crates card-there card-below, (card.linked-formats-part_count crates card-there card-below, (card.linked-lines-after_line crates card-there card-below, (card.linked-lines-begins crates card-there card-below, (card.linked-lines-line_at crates card-there card-below, (card.linked-natural_field crates card-there card-below, (card.linked-places-is_among crates card-there card-below, (card.linked-places-main_named crates card-there card-below, (card.linked-places-place_named crates card-there card-below, (table.linked-put_i8 crates table-there table-below, (table.linked-put_u16 crates table-there table-below, tt))))))))))))))))

card-file-there : Holds crates "card_file" card_file.table
card-file-there = refl

card-file-below : card_file.Below crates
card-file-below = (card.linked-faults-only crates card-there card-below, (card.linked-faults-refusal_for crates card-there card-below, (card.linked-places-is_among crates card-there card-below, (card_constituents.linked-constituents-constituent_reader crates card-constituents-there card-constituents-below, (card_frequencies.linked-frequencies-read_frequencies crates card-frequencies-there card-frequencies-below, (card_frequencies.linked-longitudes-read_five crates card-frequencies-there card-frequencies-below, (card_shallows.linked-shallows-read_shallows crates card-shallows-there card-shallows-below, (refusals.linked-Refusal-at crates refusals-there refusals-below, (refusals.linked-number_of crates refusals-there refusals-below, (table.linked-no_cards crates table-there table-below, tt))))))))))

station-there : Holds crates "station" station.table
station-there = refl

station-below : station.Below crates
station-below = (refusals.linked-Refusal-at crates refusals-there refusals-below, tt)

month-arguments-there : Holds crates "month_arguments" month_arguments.table
month-arguments-there = refl

month-arguments-below : month_arguments.Below crates
month-arguments-below = (angles.linked-mod_turn crates angles-there angles-below, (angles.linked-size crates angles-there angles-below, (table.linked-entries-entry_at crates table-there table-below, tt)))

month-satellites-there : Holds crates "month_satellites" month_satellites.table
month-satellites-there = refl

month-satellites-below : month_satellites.Below crates
month-satellites-below = (angles.linked-floor_div crates angles-there angles-below, (angles.linked-mod_turn crates angles-there angles-below, (angles.linked-size crates angles-there angles-below, (cosine.linked-wave crates cosine-there cosine-below, (table.linked-at crates table-there table-below, tt)))))

month-pairs-there : Holds crates "month_pairs" month_pairs.table
month-pairs-there = refl

month-pairs-below : month_pairs.Below crates
month-pairs-below = (angles.linked-floor_div crates angles-there angles-below, (angles.linked-size crates angles-there angles-below, (table.linked-entries-entry_at crates table-there table-below, tt)))

month-workings-there : Holds crates "month_workings" month_workings.table
month-workings-there = refl

month-workings-below : month_workings.Below crates
month-workings-below = (month_arguments.linked-arguments-argument_at crates month-arguments-there month-arguments-below, (month_arguments.linked-arguments-main_argument crates month-arguments-there month-arguments-below, (month_arguments.linked-arguments-shallow_argument crates month-arguments-there month-arguments-below, (month_pairs.linked-nodal-pair_at crates month-pairs-there month-pairs-below, (month_pairs.linked-nodal-shallow_pair crates month-pairs-there month-pairs-below, (month_satellites.linked-satellites-main_sum crates month-satellites-there month-satellites-below, (table.linked-entries-entry_at crates table-there table-below, tt)))))))

month-prepared-there : Holds crates "month_prepared" month_prepared.table
month-prepared-there = refl

month-prepared-below : month_prepared.Below crates
month-prepared-below = tt

month-there : Holds crates "month" month.table
month-there = refl

month-below : month.Below crates
month-below = (angles.linked-floor_div crates angles-there angles-below, (calendar.linked-day_count crates calendar-there calendar-below, (month_arguments.linked-astronomy-longitudes_on crates month-arguments-there month-arguments-below, (month_prepared.linked-held crates month-prepared-there month-prepared-below, (month_prepared.linked-no_constituents crates month-prepared-there month-prepared-below, (month_satellites.linked-latitude-latitude_factors crates month-satellites-there month-satellites-below, (month_workings.linked-worked-from_mains crates month-workings-there month-workings-below, (month_workings.linked-worked-work_mains crates month-workings-there month-workings-below, (month_workings.linked-workings-none_kept crates month-workings-there month-workings-below, (table.linked-at crates table-there table-below, (table.linked-definitions-find crates table-there table-below, (table.linked-definitions-first_rows crates table-there table-below, tt))))))))))))

year-there : Holds crates "year" year.table
year-there = refl

year-below : year.Below crates
year-below = (calendar.linked-month_minutes crates calendar-there calendar-below, (month.linked-prepare crates month-there month-below, tt))

heights-there : Holds crates "heights" heights.table
heights-there = refl

heights-below : heights.Below crates
heights-below = (cosine.linked-wave crates cosine-there cosine-below, (month_prepared.linked-months-owner crates month-prepared-there month-prepared-below, tt))

turns-there : Holds crates "turns" turns.table
turns-there = refl

turns-below : turns.Below crates
turns-below = (angles.linked-size crates angles-there angles-below, (columns.linked-names-find_name crates columns-there columns-below, (cosine.linked-wave crates cosine-there cosine-below, (heights.linked-minuteangle-angle_at crates heights-there heights-below, (heights.linked-months-LentMonths-month crates heights-there heights-below, (heights.linked-months-height crates heights-there heights-below, (heights.linked-shares-weigh crates heights-there heights-below, (month_prepared.linked-held crates month-prepared-there month-prepared-below, (month_prepared.linked-months-owner crates month-prepared-there month-prepared-below, tt)))))))))

hourly-there : Holds crates "hourly" hourly.table
hourly-there = refl

hourly-below : hourly.Below crates
hourly-below = (angles.linked-floor_div crates angles-there angles-below, (angles.linked-size crates angles-there angles-below, (refusals.linked-Refusal-at crates refusals-there refusals-below, tt)))

calls-there : Holds crates "calls" calls.table
calls-there = refl

calls-below : calls.Below crates
calls-below = (calendar.linked-in_range crates calendar-there calendar-below, (calendar.linked-year_in_range crates calendar-there calendar-below, (calendar.linked-year_minutes crates calendar-there calendar-below, (refusals.linked-Refusal-at crates refusals-there refusals-below, (station.linked-take_station crates station-there station-below, tt)))))

clock-there : Holds crates "clock" clock.table
clock-there = refl

clock-below : clock.Below crates
clock-below = (calendar.linked-month_days crates calendar-there calendar-below, (calendar.linked-month_minutes crates calendar-there calendar-below, (calls.linked-annual-sheet_outside crates calls-there calls-below, (calls.linked-annual-year_answer crates calls-there calls-below, (calls.linked-asked-height_answer crates calls-there calls-below, (calls.linked-asked-series_answer crates calls-there calls-below, (calls.linked-asked-turns_answer crates calls-there calls-below, (calls.linked-bookings-bookings_answer crates calls-there calls-below, (calls.linked-hourcards-hourly_answer crates calls-there calls-below, (calls.linked-settings-date_answer crates calls-there calls-below, (calls.linked-settings-month_answer crates calls-there calls-below, (calls.linked-settings-station_answer crates calls-there calls-below, (card_file.linked-reader-read_cards crates card-file-there card-file-below, (cosine.linked-cosines crates cosine-there cosine-below, (heights.linked-bookings-heights_at crates heights-there heights-below, (heights.linked-height crates heights-there heights-below, (heights.linked-months-series crates heights-there heights-below, (heights.linked-series-series crates heights-there heights-below, (hourly.linked-write_cards crates hourly-there hourly-below, (month.linked-prepare crates month-there month-below, (month_prepared.linked-held crates month-prepared-there month-prepared-below, (month_prepared.linked-months-one_month crates month-prepared-there month-prepared-below, (refusals.linked-Refusal-at crates refusals-there refusals-below, (station.linked-no_station crates station-there station-below, (station.linked-records-rows_of crates station-there station-below, (station.linked-strides-usual crates station-there station-below, (table.linked-no_cards crates table-there table-below, (turns.linked-strides-station_stride crates turns-there turns-below, (turns.linked-turns crates turns-there turns-below, (year.linked-months_of crates year-there year-below, (year.linked-prepare crates year-there year-below, tt)))))))))))))))))))))))))))))))

cuvalimodo-c-there : Holds crates "cuvalimodo_c" cuvalimodo_c.table
cuvalimodo-c-there = refl

cuvalimodo-c-below : cuvalimodo_c.Below crates
cuvalimodo-c-below = (card_file.linked-counts-check_cards crates card-file-there card-file-below, (clock.linked-bookings_lent crates clock-there clock-below, (clock.linked-height_lent crates clock-there clock-below, (clock.linked-hourly crates clock-there clock-below, (clock.linked-load_cards crates clock-there clock-below, (clock.linked-names crates clock-there clock-below, (clock.linked-new crates clock-there clock-below, (clock.linked-place_station crates clock-there clock-below, (clock.linked-series crates clock-there clock-below, (clock.linked-set_date crates clock-there clock-below, (clock.linked-turns crates clock-there clock-below, (clock.linked-year crates clock-there clock-below, (refusal_words.linked-text_of crates refusal-words-there refusal-words-below, (refusals.linked-number_of crates refusals-there refusals-below, (station.linked-records-rows_of crates station-there station-below, tt)))))))))))))))

-- at a call of a name it runs the code of the function of that name
abbrev pub clock_program : Env
clock_program = tie_t (in_world crates)

wired : (c : Code) → HasT (in_world crates) true c → Wired clock_program c
wired = has-wired_t (in_world crates) clock_program (tie_t-follows (in_world crates)) (tie_t-threads (in_world crates))

pub has-the-clock : HasTheClock clock_program
has-the-clock =
    record {
      new = wired new_code.code (clock.linked-new crates clock-there clock-below);
      load = wired load_code.code (clock.linked-load_cards crates clock-there clock-below);
      station = wired station_code.code (clock.linked-set_station crates clock-there clock-below);
      placing = wired placing_code.code (clock.linked-place_station crates clock-there clock-below);
      date = wired date_code.code (clock.linked-set_date crates clock-there clock-below);
      height = wired height_code.code (clock.linked-height crates clock-there clock-below);
      lent_height = wired lent_height_code.code (clock.linked-height_lent crates clock-there clock-below);
      series = wired series_code.code (clock.linked-series crates clock-there clock-below);
      turns = wired turns_code.code (clock.linked-turns crates clock-there clock-below);
      year = wired year_code.code (clock.linked-year crates clock-there clock-below);
      booking = wired booking_code.code (clock.linked-bookings crates clock-there clock-below);
      lent_booking = wired lent_booking_code.code (clock.linked-bookings_lent crates clock-there clock-below);
      hourly = wired hourly_code.code (clock.linked-hourly crates clock-there clock-below);
      names = wired names_code.code (clock.linked-names crates clock-there clock-below);
      held_new = wired held_new_code.code (cuvalimodo_c.linked-cuvalimodo_new crates cuvalimodo-c-there cuvalimodo-c-below);
      held_load = wired held_load_code.code (cuvalimodo_c.linked-cuvalimodo_load_cards crates cuvalimodo-c-there cuvalimodo-c-below);
      held_station = wired held_station_code.code (cuvalimodo_c.linked-cuvalimodo_set_station crates cuvalimodo-c-there cuvalimodo-c-below);
      held_date = wired held_date_code.code (cuvalimodo_c.linked-cuvalimodo_set_date crates cuvalimodo-c-there cuvalimodo-c-below);
      held_height = wired held_height_code.code (cuvalimodo_c.linked-cuvalimodo_height crates cuvalimodo-c-there cuvalimodo-c-below);
      held_series = wired held_series_code.code (cuvalimodo_c.linked-cuvalimodo_series crates cuvalimodo-c-there cuvalimodo-c-below);
      held_turns = wired held_turns_code.code (cuvalimodo_c.linked-cuvalimodo_turns crates cuvalimodo-c-there cuvalimodo-c-below);
      held_year = wired held_year_code.code (cuvalimodo_c.linked-cuvalimodo_year crates cuvalimodo-c-there cuvalimodo-c-below);
      held_booking = wired held_booking_code.code (cuvalimodo_c.linked-cuvalimodo_bookings crates cuvalimodo-c-there cuvalimodo-c-below);
      held_hourly = wired held_hourly_code.code (cuvalimodo_c.linked-cuvalimodo_hourly crates cuvalimodo-c-there cuvalimodo-c-below);
      held_names = wired held_names_code.code (cuvalimodo_c.linked-cuvalimodo_names crates cuvalimodo-c-there cuvalimodo-c-below);
    }
