mod FixtureLemmas
