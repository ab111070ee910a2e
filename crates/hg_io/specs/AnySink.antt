-- What contracts see of a sink at a place.
use Rattle.std.specs.Prelude.{true, false}
use Rattle.hg_io.specs.End.{End}
use Rattle.hg_io.specs.declared.place.Place.{Place}
use Rattle.hg_io.specs.declared.place.Place.TheVariants as place
use Rattle.hg_io.specs.declared.any_sink.Writer.{Writer}
use Rattle.hg_io.specs.declared.any_sink.Writer.TheVariants.{Nowhere, Output, Errors, File}

-- a place that isn't written to has no faults, and holds nothing back
abbrev pub end_of : {H O E F D : Type 0} → Writer H O E F D → End
end_of Nowhere = record { place = place.Nothing; faults = 0; held = false }
end_of (Output s) = record { place = place.Output; faults = s.faults; held = s.held }
end_of (Errors s) = record { place = place.Errors; faults = s.faults; held = s.held }
end_of (File f) = record { place = place.File f.name; faults = f.faults; held = f.held }
