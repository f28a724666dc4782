-- How the counts of a usage rise.
use Rattle.std.specs.Prelude.{ℕ, ◌+◌, ◌-◌, ◌^◌, min}
use Rattle.sr_store.specs.declared.usage.Usage.{Usage}

-- a count stops at the last value of a counter
abbrev pub counted : ℕ → ℕ
counted n = min n (2 ^ 64 - 1)

-- these places were asked for, and this many readers were given
abbrev pub opened : Usage → ℕ → ℕ → Usage
opened u places given = record {
  places = counted (u.places + places);
  given = counted (u.given + given);
  published = u.published;
  turns = u.turns;
}

-- one version was published
abbrev pub spread : Usage → Usage
spread u = record { places = u.places; given = u.given; published = counted (u.published + 1); turns = u.turns }

-- these turns were taken
abbrev pub usage_turned : Usage → ℕ → Usage
usage_turned u turns = record {
  places = u.places;
  given = u.given;
  published = u.published;
  turns = counted (u.turns + turns);
}
