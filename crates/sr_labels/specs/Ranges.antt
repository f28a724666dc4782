-- Why ranges are no SRGB.
use Rattle.std.specs.Prelude.{List}
use Rattle.sr_model.specs.declared.label.Range.{Range}
use Rattle.sr_model.specs.Label.{IsFirstBad}
use Rattle.sr_labels.specs.declared.srgb.SrgbBad.{SrgbBad}
use Rattle.sr_labels.specs.declared.srgb.SrgbBad.TheVariants.{Bad}

-- the ranges are refused by the first that isn't good
abbrev pub IsSrgbRefusal : List Range → SrgbBad → Type 0
IsSrgbRefusal ranges (Bad range) = IsFirstBad ranges range
