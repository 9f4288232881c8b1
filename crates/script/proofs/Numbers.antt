-- The calls and the records that so many numbers make: the numbers read in turn, as the definitions have them, are those of one list.
-- By cases on what is read. Assumes nothing.
use mathlib.Core.Path.{◌≡◌, refl, ap, ◌∙◌}
use mathlib.Core.List.{List, [], ◌∷◌, ◌++◌}
use Prim.Native.Nat.{ℕ}
use lib.IntN.{ℤ}
use lib.ListN.{get_or}
use Rattle.std.specs.Prelude.{Option, Some, None}
use Rattle.std.specs.Option.{option_map}
use Rattle.script.specs.Words.{Reading, read, unread, reading, onward, ended, last_number, given, last_two, given_two, largest, numbers_after}
use Rattle.script.specs.Script.{cards_of, date_of, height_of, series_of, turns_of, year_search_of, year_of, bookings_of, hourly_of, with_strides}
use Rattle.script.specs.declared.Call.{Call}
use Rattle.script.specs.declared.Call.TheVariants.{Cards, Station, Date, Height, Series, Turns, Year, Bookings, Hourly}
use Rattle.station.specs.declared.records.Record.{Record}

module _ {A : Type 0} (g : Option (List ℕ) → Option A) (none : g None ≡ None) where
  -- a number, with others behind it
  next : (r : Reading) (f : ℕ → List (List ℕ) → Option (List ℕ)) (k : ℕ → List (List ℕ) → Option A) → ((n : ℕ) (ws : List (List ℕ)) → g (f n ws) ≡ k n ws) → g (onward None r f) ≡ onward None r k
  next (read n ws) f k h = h n ws
  next unread f k h = none

  -- the last
  last : (front : List ℕ) (ws : List (List ℕ)) (k : ℕ → Option A) → ((n : ℕ) → g (Some (front ++ (n ∷ []))) ≡ k n) → g (numbers_after front 1 ws) ≡ given None (last_number ws) k
  unfolding numbers_after last_number
  last front ws k h = go (reading largest ws)
    where
      go : (r : Reading) → g (onward None r (λ n ws. numbers_after (front ++ (n ∷ [])) 0 ws)) ≡ given None (onward None r (λ n ws. ended ws n)) k
      go (read n []) = h n
      go (read n (w ∷ ws)) = none
      go unread = none

  -- the last two
  pair : (m : ℕ) (o : Option ℕ) (k : ℕ → ℕ → Option A) → given None o (λ n. k m n) ≡ given_two None (given None o (λ second. Some (m, second))) k
  pair m (Some n) k = refl
  pair m None k = refl

  two : (ws : List (List ℕ)) (k : ℕ → ℕ → Option A) → ((m n : ℕ) → g (Some (m ∷ n ∷ [])) ≡ k m n) → g (numbers_after [] 2 ws) ≡ given_two None (last_two ws) k
  unfolding numbers_after last_two
  two ws k h = go (reading largest ws)
    where
      go : (r : Reading) → g (onward None r (λ n ws. numbers_after (n ∷ []) 1 ws)) ≡ given_two None (onward None r (λ first ws. given None (last_number ws) (λ second. Some (first, second)))) k
      go (read m ws) = last (m ∷ []) ws (λ n. k m n) (h m) ∙ pair m (last_number ws) k
      go unread = none

pub cards-is : (ws : List (List ℕ)) (o : Option (List ℕ)) → o ≡ numbers_after [] 1 ws → option_map (λ (ns : List ℕ). Cards (get_or ns 0 0)) o ≡ cards_of ws
unfolding cards_of
cards-is ws o e = ap g e ∙ last g refl [] ws _ (λ n. refl)
  where
    g : Option (List ℕ) → Option Call
    g = option_map (λ (ns : List ℕ). Cards (get_or ns 0 0))

pub height-is : (ws : List (List ℕ)) (o : Option (List ℕ)) → o ≡ numbers_after [] 1 ws → option_map (λ (ns : List ℕ). Height (get_or ns 0 0)) o ≡ height_of ws
unfolding height_of
height-is ws o e = ap g e ∙ last g refl [] ws _ (λ n. refl)
  where
    g : Option (List ℕ) → Option Call
    g = option_map (λ (ns : List ℕ). Height (get_or ns 0 0))

pub date-is : (ws : List (List ℕ)) (o : Option (List ℕ)) → o ≡ numbers_after [] 2 ws → option_map (λ (ns : List ℕ). Date (get_or ns 0 0) (get_or ns 1 0)) o ≡ date_of ws
unfolding date_of
date-is ws o e = ap g e ∙ two g refl ws _ (λ m n. refl)
  where
    g : Option (List ℕ) → Option Call
    g = option_map (λ (ns : List ℕ). Date (get_or ns 0 0) (get_or ns 1 0))

pub bookings-is : (ws : List (List ℕ)) (o : Option (List ℕ)) → o ≡ numbers_after [] 2 ws → option_map (λ (ns : List ℕ). Bookings (get_or ns 0 0) (get_or ns 1 0)) o ≡ bookings_of ws
unfolding bookings_of
bookings-is ws o e = ap g e ∙ two g refl ws _ (λ m n. refl)
  where
    g : Option (List ℕ) → Option Call
    g = option_map (λ (ns : List ℕ). Bookings (get_or ns 0 0) (get_or ns 1 0))

pub hourly-is : (ws : List (List ℕ)) (o : Option (List ℕ)) → o ≡ numbers_after [] 2 ws → option_map (λ (ns : List ℕ). Hourly (get_or ns 0 0) (get_or ns 1 0)) o ≡ hourly_of ws
unfolding hourly_of
hourly-is ws o e = ap g e ∙ two g refl ws _ (λ m n. refl)
  where
    g : Option (List ℕ) → Option Call
    g = option_map (λ (ns : List ℕ). Hourly (get_or ns 0 0) (get_or ns 1 0))

pub series-is : (ws : List (List ℕ)) (o : Option (List ℕ)) → o ≡ numbers_after [] 3 ws → option_map (λ (ns : List ℕ). Series (get_or ns 0 0) (get_or ns 1 0) (get_or ns 2 0)) o ≡ series_of ws
unfolding series_of numbers_after
series-is ws o e = ap g e ∙ next g refl (reading largest ws) _ _ (λ a ws. next g refl (reading largest ws) _ _ (λ b ws. last g refl (a ∷ b ∷ []) ws _ (λ n. refl)))
  where
    g : Option (List ℕ) → Option Call
    g = option_map (λ (ns : List ℕ). Series (get_or ns 0 0) (get_or ns 1 0) (get_or ns 2 0))

pub turns-is : (ws : List (List ℕ)) (o : Option (List ℕ)) → o ≡ numbers_after [] 4 ws → option_map (λ (ns : List ℕ). Turns (get_or ns 0 0) (get_or ns 1 0) (get_or ns 2 0) (get_or ns 3 0)) o ≡ turns_of ws
unfolding turns_of numbers_after
turns-is ws o e = ap g e ∙ next g refl (reading largest ws) _ _ (λ a ws. next g refl (reading largest ws) _ _ (λ b ws. next g refl (reading largest ws) _ _ (λ c ws. last g refl (a ∷ b ∷ c ∷ []) ws _ (λ n. refl))))
  where
    g : Option (List ℕ) → Option Call
    g = option_map (λ (ns : List ℕ). Turns (get_or ns 0 0) (get_or ns 1 0) (get_or ns 2 0) (get_or ns 3 0))

pub year-is : (ws : List (List ℕ)) (o : Option (List ℕ)) → o ≡ numbers_after [] 8 ws → option_map (λ (ns : List ℕ). Year (record { year = get_or ns 0 0; start = get_or ns 1 0; step = get_or ns 2 0; count = get_or ns 3 0; first = get_or ns 4 0; last = get_or ns 5 0; minutes = get_or ns 6 0; heights = get_or ns 7 0 })) o ≡ year_of ws
unfolding year_of year_search_of numbers_after
year-is ws o e = ap g e ∙ next g refl (reading largest ws) _ _ (λ a ws. next g refl (reading largest ws) _ _ (λ b ws. next g refl (reading largest ws) _ _ (λ c ws. next g refl (reading largest ws) _ _ (λ d ws. next g refl (reading largest ws) _ _ (λ e ws. next g refl (reading largest ws) _ _ (λ f ws. next g refl (reading largest ws) _ _ (λ i ws. last g refl (a ∷ b ∷ c ∷ d ∷ e ∷ f ∷ i ∷ []) ws _ (λ n. refl))))))))
  where
    g : Option (List ℕ) → Option Call
    g = option_map (λ (ns : List ℕ). Year (record { year = get_or ns 0 0; start = get_or ns 1 0; step = get_or ns 2 0; count = get_or ns 3 0; first = get_or ns 4 0; last = get_or ns 5 0; minutes = get_or ns 6 0; heights = get_or ns 7 0 }))

pub strides-is : (latitude : ℤ) (count : ℕ) (ws : List (List ℕ)) (o : Option (List ℕ)) → o ≡ numbers_after [] 3 ws → option_map (λ (ns : List ℕ). Station latitude count (record { semidiurnal = get_or ns 0 0; mixed = get_or ns 1 0; diurnal = get_or ns 2 0 })) o ≡ with_strides latitude count ws
unfolding with_strides numbers_after
strides-is latitude count ws o e = ap g e ∙ next g refl (reading largest ws) _ _ (λ a ws. next g refl (reading largest ws) _ _ (λ b ws. last g refl (a ∷ b ∷ []) ws _ (λ n. refl)))
  where
    g : Option (List ℕ) → Option Call
    g = option_map (λ (ns : List ℕ). Station latitude count (record { semidiurnal = get_or ns 0 0; mixed = get_or ns 1 0; diurnal = get_or ns 2 0 }))

-- a record's amplitude and phase, behind its place
pub record-is : (place : ℕ) (ws : List (List ℕ)) (o : Option (List ℕ)) → o ≡ numbers_after [] 2 ws
    → option_map {U = Record} (λ (ns : List ℕ). record { place = place; amplitude = get_or ns 0 0; phase = get_or ns 1 0 }) o
    ≡ onward None (reading largest ws) (λ amplitude ws. given None (last_number ws) (λ phase. Some (record { place = place; amplitude = amplitude; phase = phase })))
unfolding numbers_after
record-is place ws o e = ap g e ∙ next g refl (reading largest ws) _ _ (λ a ws. last g refl (a ∷ []) ws _ (λ n. refl))
  where
    g : Option (List ℕ) → Option Record
    g = option_map {U = Record} (λ (ns : List ℕ). record { place = place; amplitude = get_or ns 0 0; phase = get_or ns 1 0 })

-- a minute alone
pub minute-is : (ws : List (List ℕ)) (o : Option (List ℕ)) → o ≡ numbers_after [] 1 ws → option_map (λ (ns : List ℕ). get_or ns 0 0) o ≡ last_number ws
minute-is ws o e = ap g e ∙ last g refl [] ws Some (λ n. refl) ∙ same (last_number ws)
  where
    g : Option (List ℕ) → Option ℕ
    g = option_map (λ (ns : List ℕ). get_or ns 0 0)

    same : (o : Option ℕ) → given None o Some ≡ o
    same (Some n) = refl
    same None = refl
