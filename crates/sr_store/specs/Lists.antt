use Rattle.std.specs.Prelude.{◌≡◌, ◌-◌, List, length, slice_get, Some}

-- the last one of a list
abbrev pub EndsWith : {V : Type 0} → List V → V → Type 0
EndsWith xs x = slice_get xs (length xs - 1) ≡ Some x
